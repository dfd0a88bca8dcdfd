-- Pairs that are kept as masks, one for each variable: bit b of mask a stands for the pair (a, b).
--     has_in, below_in      the pairs of masks
--     sorted_in      the sorted list of pairs that the masks have
--     leads_same      what leads where depends on which pairs there are alone
--     holds_masks      masks that a struct may hold
--     bit_inside, small_mask      the bits of a mask below 2 ^ n are those of variables
--     some_bit, both_bits, and_bit      bits of a mask, and of what two masks share
use Rattle.std.proofs.Common.{◌≡◌, ◌≢◌, ◌↔◌, ℕ, zero, suc, ◌+◌, ◌*◌, ◌/◌, ◌%◌, ◌^◌, ◌<◌, ◌≤◌, pow_pos, replicate, Bool, true, ◌⊎◌, inl, inr, List, [], ◌∷◌, map, length, get_or, refl, sym, ap, ap₂, ◌∙◌, subst, arith, nat_eq, eqb, eqb-true, eq-eqb, ◌++◌, bit_and, w16}
use Rattle.std.specs.Int.{bit_at}
use Rattle.std.specs.List.{flat_map, filter, list_all}
use Rattle.std.proofs.lemmas.Bool.{cases_lt, or_left, or_right, and_parts}
use Rattle.std.proofs.Math.Nat.{div-add-mod, mod-lt, mul_comm}
use Rattle.std.proofs.lemmas.Nat.Bits.{bit_at_and, bit_at-zero, bit_at-trailing_zeros, same_from_bits, bit_at_cat_low, bit_at_above}
use Rattle.std.proofs.lemmas.List.{get_or_past}
use Rattle.std.proofs.lemmas.List.Elements.{recursion_from_All}
use Rattle.definitions.specs.Orders.{has, variables, members}
use Rattle.definitions.specs.Pairs.{Pair, has_pair, sorted_pairs, Leads, AreBelow}
use Rattle.definitions.specs.Pairs.Leads.{by_one, by_more}
use Rattle.definitions.specs.KeptPairs.{pairs_in, HasBit, AreWithin, HoldsKept, HasNoCycle}
use Rattle.definitions.proofs.Lists.Sets.{Among, among_map, among_from_map, among_flat_map, among_from_flat_map, among_filter, among_from_filter}
use Rattle.definitions.proofs.Lists.Orders.{has_variables}
use Rattle.definitions.proofs.Widths.Recurrence.{among_has, has_among}
use Rattle.definitions.proofs.Precedence.Sets.{pair_among, among_pair}
use Rattle.definitions.proofs.Certificates.Potential.{all_among}
use Rattle.definitions.proofs.Lists.Ranges.{filter_same}

-- ---- lists

flat_map_same : {Y : Type 0} (f g : ℕ → List Y) (xs : List ℕ) → ((x : ℕ) → has xs x ≡ true → f x ≡ g x) → flat_map f xs ≡ flat_map g xs
flat_map_same f g [] h = refl
flat_map_same f g (x ∷ xs) h = ap₂ (λ ys zs. ys ++ zs) (h x (or_left _ _ (eq-eqb x x refl))) (flat_map_same f g xs (λ y m. h y (or_right _ _ m)))

pub among_at : {X : Type 0} (xs : List X) (k : ℕ) (d : X) → k < length xs → Among (get_or xs k d) xs
among_at [] k d h = absurd (omega arith)
among_at (x ∷ xs) zero d h = inl refl
among_at (x ∷ xs) (suc k) d h = inr (among_at xs k d (omega arith))

-- ---- the pairs of n variables that pass a test, by rising a and then b

abbrev pairs_by : ℕ → (ℕ → ℕ → Bool) → List Pair
pairs_by n q = flat_map (λ a. map (λ b. (a, b)) (filter (q a) (variables n))) (variables n)

among_by : (n : ℕ) (q : ℕ → ℕ → Bool) (p : Pair) → Among p (pairs_by n q) → (p.0 < n) × (p.1 < n) × (q p.0 p.1 ≡ true)
among_by n q p m = grind (arith, among_from_flat_map, among_from_map, among_from_filter, has_variables, among_has)

has_by : (n : ℕ) (q : ℕ → ℕ → Bool) (a b : ℕ) → (has_pair (pairs_by n q) a b ≡ true) ↔ ((a < n) × (b < n) × (q a b ≡ true))
has_by n q a b = (
  λ h.
      let s = pair_among (pairs_by n q) a b h in
      grind (arith, among_by),
  λ h.
      among_pair (pairs_by n q) (a, b)
      (among_flat_map (λ (c : ℕ). map (λ (d : ℕ). (c, d)) (filter (q c) (variables n))) a (variables n) (a, b)
      (has_among (variables n) a ((has_variables n a).1 h.0))
      (among_map (λ (d : ℕ). (a, d)) b (filter (q a) (variables n))
      (among_filter (q a) b (variables n) (has_among (variables n) b ((has_variables n b).1 h.1)) h.2))),
)

by_same : (n : ℕ) (q r : ℕ → ℕ → Bool) → ((a b : ℕ) → a < n → b < n → q a b ≡ r a b) → pairs_by n q ≡ pairs_by n r
by_same n q r h = grind (arith, flat_map_same, filter_same, has_variables)

-- ---- the pairs of masks

abbrev bit_test : List ℕ → ℕ → ℕ → Bool
bit_test below a b = eqb (bit_at (get_or below a 0) b) 1

in_by : (n : ℕ) (below : List ℕ) → pairs_in n below ≡ pairs_by n (bit_test below)
unfolding pairs_in members
in_by n below = refl

sorted_by : (n : ℕ) (P : List Pair) → sorted_pairs n P ≡ pairs_by n (has_pair P)
unfolding sorted_pairs
sorted_by n P = refl

pub has_in : (n : ℕ) (below : List ℕ) (a b : ℕ) → (has_pair (pairs_in n below) a b ≡ true) ↔ ((a < n) × (b < n) × HasBit below a b)
has_in n below a b = grind (arith, in_by, has_by)

pub among_in : (n : ℕ) (below : List ℕ) (p : Pair) → Among p (pairs_in n below) → (p.0 < n) × (p.1 < n) × HasBit below p.0 p.1
among_in n below p m =
    let r = among_by n (bit_test below) p (subst (Among p) (in_by n below) m) in (r.0, r.1, eqb-true (bit_at (get_or below p.0 0) p.1) 1 r.2)

pub below_in : (n : ℕ) (below : List ℕ) → AreBelow n (pairs_in n below)
below_in n below k d h = let s = among_in n below _ (among_at (pairs_in n below) k d h) in (s.0, s.1)

pub below_from : (n : ℕ) (P : List Pair) → ((a b : ℕ) → has_pair P a b ≡ true → (a < n) × (b < n)) → AreBelow n P
below_from n P f k d h = f _ _ (among_pair P _ (among_at P k d h))

pub below_at : (n : ℕ) (P : List Pair) → AreBelow n P → (a b : ℕ) → has_pair P a b ≡ true → (a < n) × (b < n)
below_at n P small a b h =
    let s = pair_among P a b h in
    let r = all_among (λ (q : Pair). (q.0 < n) × (q.1 < n)) P s.0 (recursion_from_All (λ (q : Pair). (q.0 < n) × (q.1 < n)) P small) s.1 in
    (subst (λ (v : ℕ). v < n) (sym s.2) r.0, subst (λ (v : ℕ). v < n) (sym s.3) r.1)

-- the masks have just the pairs of the list
pub Same : List Pair → List ℕ → Type 0
Same P below = (a b : ℕ) → (has_pair P a b ≡ true) ↔ HasBit below a b

pub same_at : (P : List Pair) (below : List ℕ) → Same P below → (a b : ℕ) → (has_pair P a b ≡ true) ↔ HasBit below a b
unfolding Same
same_at P below s = s

pub same_from : (P : List Pair) (below : List ℕ) → ((a b : ℕ) → (has_pair P a b ≡ true) ↔ HasBit below a b) → Same P below
unfolding Same
same_from P below s = s

pub sorted_same : (n : ℕ) (P : List Pair) (below : List ℕ) → Same P below → sorted_pairs n P ≡ pairs_in n below
unfolding Same
sorted_same n P below s = grind (arith, sorted_by, in_by)

-- the list of the masks is sorted
pub sorted_in : (n : ℕ) (below : List ℕ) → sorted_pairs n (pairs_in n below) ≡ pairs_in n below
sorted_in n below = grind (arith, sorted_by, by_same, has_in, in_by)

-- masks within n variables
pub same_in : (n : ℕ) (below : List ℕ) → AreWithin n below → Same (pairs_in n below) below
unfolding Same
same_in n below w a b = (λ h. ((has_in n below a b).0 h).2, λ h. (has_in n below a b).1 ((w a b h).0, (w a b h).1, h))

-- ---- what leads where

pub leads_same : {P Q : List Pair} → ((a b : ℕ) → has_pair P a b ≡ true → has_pair Q a b ≡ true) → {a b : ℕ} → Leads P a b → Leads Q a b
leads_same f (by_one {a} {b} h) = by_one (f a b h)
leads_same f (by_more {a} {b} {c} h r) = by_more (f a b h) (leads_same f r)

-- masks that a struct may hold
pub holds_masks : (n : ℕ) (P : List Pair) (below : List ℕ) → 1 ≤ n → n ≤ 16 → AreWithin n below → Same P below → HasNoCycle P → HoldsKept n below
unfolding Same
holds_masks n P below some few w s acyclic = record {
  within = w;
  kept = record {
    some = some;
    few = few;
    below = below_in n below;
    acyclic = λ v l. acyclic v (leads_same (λ a b h. (s a b).1 ((has_in n below a b).0 h).2) l);
  };
}

-- ---- bits

pub zero_or_one : (n i : ℕ) → (bit_at n i ≡ 0) ⊎ (bit_at n i ≡ 1)
zero_or_one n i = grind arith

pub not_one_from_zero : (n i : ℕ) → bit_at n i ≡ 0 → bit_at n i ≡ 1 → ⊥
not_one_from_zero n i e f = omega arith

-- a mask that isn't 0 has a bit
pub some_bit : (n : ℕ) → n < 2 ^ 16 → n ≢ 0 → (i : ℕ) × (i < 16) × (bit_at n i ≡ 1)
some_bit n h ne = let t = bit_at-trailing_zeros w16 n (omega arith) h in (_, t.0, t.1)

-- a bit of what two masks share
pub both_bits : (m k i : ℕ) → bit_at (bit_and m k) i ≡ 1 → (bit_at m i ≡ 1) × (bit_at k i ≡ 1)
both_bits m k i e = grind (arith, bit_at_and)

pub and_bit : (m k i : ℕ) → bit_at m i ≡ 1 → bit_at k i ≡ 1 → bit_and m k ≢ 0
and_bit m k i e f z = omega (arith, bit_at_and m k i)

-- a mask whose bits are below n
-- a bit of a mask below 2 ^ n is a variable's
pub bit_inside : (n m b : ℕ) → m < 2 ^ n → bit_at m b ≡ 1 → b < n
bit_inside n m b small bit = elim (cases_lt b n) [
  | inl lt ↦ lt
  | inr le ↦ absurd (omega (arith, bit_at_above m n b small le))
]

pub small_mask : (n m : ℕ) → ((b : ℕ) → bit_at m b ≡ 1 → b < n) → m < 2 ^ n
small_mask n m low =
    let r : m % 2 ^ n < 2 ^ n = mod-lt m (pow_pos n) in
    let whole : m / 2 ^ n * 2 ^ n + m % 2 ^ n ≡ m = ap (λ q. q + m % 2 ^ n) (mul_comm (m / 2 ^ n) (2 ^ n)) ∙ div-add-mod m (2 ^ n) in
    let same : m ≡ m % 2 ^ n = same_from_bits m (m % 2 ^ n) (λ b. elim (cases_lt b n) [
      | inl lt ↦ ap (λ k. bit_at k b) (sym whole) ∙ bit_at_cat_low (m / 2 ^ n) n (m % 2 ^ n) b lt
      | inr le ↦ elim (zero_or_one m b) [ inl z ↦ z ∙ sym (bit_at_above (m % 2 ^ n) n b r le) | inr e ↦ absurd (omega (arith, low b e)) ]
    ]) in
    omega arith

pub row_small : (n : ℕ) (below : List ℕ) → AreWithin n below → (a : ℕ) → get_or below a 0 < 2 ^ n
row_small n below w a = small_mask n (get_or below a 0) (λ b h. (w a b h).1)

-- masks without bits have no pairs
pub nothing_in : (n : ℕ) (below : List ℕ) → ((a b : ℕ) → HasBit below a b → ⊥) → pairs_in n below ≡ []
nothing_in n below empty = by (pairs_in n below) (λ p m. empty p.0 p.1 (among_in n below p m).2)
  where
    by : (P : List Pair) → ((p : Pair) → Among p P → ⊥) → P ≡ []
    by [] f = refl
    by (p ∷ P) f = absurd (f p (inl refl))

zeros_at : (xs : List ℕ) → list_all (λ x. nat_eq x 0) xs ≡ true → (a : ℕ) → get_or xs a 0 ≡ 0
zeros_at [] h a = refl
zeros_at (x ∷ xs) h zero = eqb-true x 0 (and_parts (nat_eq x 0) _ h).0
zeros_at (x ∷ xs) h (suc a) = zeros_at xs (and_parts (nat_eq x 0) _ h).1 a

pub zeros_empty : (xs : List ℕ) → list_all (λ x. nat_eq x 0) xs ≡ true → (a b : ℕ) → HasBit xs a b → ⊥
zeros_empty xs h a b e = not_one_from_zero (get_or xs a 0) b (ap (λ m. bit_at m b) (zeros_at xs h a) ∙ bit_at-zero b) e

-- the masks of no pairs
abbrev pub no_masks : List ℕ
no_masks = replicate 16 0

-- where nothing is listed nothing leads anywhere
pub nowhere : (a b : ℕ) → Leads [] a b → ⊥
nowhere a b l = grind arith

-- 16 masks speak of 16 variables
pub within_16 : (below : List ℕ) → length below ≡ 16 → ((a : ℕ) → get_or below a 0 < 2 ^ 16) → AreWithin 16 below
within_16 below long small a b e = (
  elim (cases_lt a 16) [
    | inl l ↦ l
    | inr l ↦ grind (arith, get_or_past)
  ],
  elim (cases_lt b 16) [ inl l ↦ l | inr l ↦ absurd (not_one_from_zero (get_or below a 0) b (bit_at_above (get_or below a 0) 16 b (small a) l) e) ],
)
