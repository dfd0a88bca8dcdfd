-- Lawful sets, kept orders and numbers of pairs, where the pairs are kept as masks.
--     lawful_in, unlawful_in      whether a set is lawful, by the bits of the masks
--     keeps_in, unkept_in      whether an order keeps the pairs, by the bits of the masks
--     rows_more, row_few      the number of pairs, one mask more; a mask has at most 15 of them
--     row_pair, row_skip, row_end      the list of pairs, one variable and one mask more
use Rattle.std.proofs.Common.{◌≡◌, ◌≢◌, ℕ, ◌+◌, ◌-◌, ◌^◌, ◌<◌, ◌≤◌, true, false, inl, inr, List, [], ◌∷◌, ◌++◌, map, length, get_or, refl, sym, ap, ap₂, ◌∙◌, subst, arith, nat_eq, eqb, eqb-true, eq-eqb, ne_eqb, bit_and, w16, le-ltb, ltb, count_ones, length-append, append-nil, append_assoc}
use Rattle.std.proofs.lemmas.List.{length-map, map-append}
use Rattle.std.proofs.lemmas.List.Elements.{filter-append}
use Rattle.std.proofs.lemmas.Grind.{flat_map-append}
use Rattle.std.specs.Int.{bit_at, bit_not}
use Rattle.std.specs.List.{flat_map, filter, IsDistinct}
use Rattle.std.proofs.lemmas.Bool.{cases_order, and_from, or_cases, false≢true, false_from_ne_true}
use Rattle.std.proofs.lemmas.Nat.Bits.{bit_at_not}
use Rattle.std.proofs.lemmas.Nat.{and_le_l, and_le_r}
use Rattle.std.proofs.lemmas.Map.Steps.{length-le_from_distinct_below}
use Rattle.definitions.specs.Orders.{has, variables, members, IsOrder}
use Rattle.definitions.specs.Pairs.{Pair, has_pair, is_above, keeps, is_lawful}
use Rattle.definitions.specs.Pairs.Leads.{by_one}
use Rattle.definitions.specs.KeptPairs.{pairs_in, HasBit, AreWithin, HasNoCycle}
use Rattle.definitions.proofs.Lists.Sets.{Among}
use Rattle.definitions.proofs.Lists.Orders.{has_variables, place_get, has_at}
use Rattle.definitions.proofs.Widths.Recurrence.{apart_from_absent}
use Rattle.definitions.proofs.Bits.Masks.{has_members, distinct_members, members_small}
use Rattle.definitions.proofs.Precedence.Lists.{lawful_at, lawful_from, keeps_at, keeps_from, above_places}
use Rattle.definitions.proofs.Precedence.Sets.{pair_among, among_pair}
use Rattle.definitions.proofs.Lists.Accepted.{index_of, variables_more, Seen}
use Rattle.definitions.proofs.Precedence.Masks.{among_in, has_in, some_bit, both_bits, and_bit, zero_or_one, not_one_from_zero}
use Rattle.definitions.proofs.Bits.Ones.{ones-members}

-- ---- lawful sets

pub member_bit : (n set y : ℕ) → has (members n set) y ≡ true → (y < n) × (bit_at set y ≡ 1)
member_bit n set y h = grind (arith, has_members, has_variables)

pub member_from : (n set y : ℕ) → y < n → bit_at set y ≡ 1 → has (members n set) y ≡ true
member_from n set y h e = has_members n set y ∙ and_from _ _ ((has_variables n y).1 h) (eq-eqb (bit_at set y) 1 e)

-- a mask that has only bits of another
pub bits_inside : (m set : ℕ) → set < 2 ^ 16 → bit_and m (bit_not w16 set) ≡ 0 → (b : ℕ) → b < 16 → bit_at m b ≡ 1 → bit_at set b ≡ 1
bits_inside m set k e b few f = elim (zero_or_one set b) [
  | inl z ↦ absurd (and_bit m (bit_not w16 set) b f (bit_at_not w16 set b k few ∙ ap (λ (v : ℕ). 1 - v) z) e)
  | inr o ↦ o
]

pub bit_beyond : (m set : ℕ) → m < 2 ^ 16 → set < 2 ^ 16 → bit_and m (bit_not w16 set) ≢ 0 → (b : ℕ) × (bit_at m b ≡ 1) × (bit_at set b ≡ 1 → ⊥)
bit_beyond m set h k ne =
    let s = some_bit (bit_and m (bit_not w16 set)) (omega (arith, and_le_l m (bit_not w16 set))) ne in
    let both = both_bits m (bit_not w16 set) s.0 s.2 in
    (s.0, both.0, λ e. not_one_from_zero (bit_not w16 set) s.0 (bit_at_not w16 set s.0 k s.1 ∙ ap (λ (v : ℕ). 1 - v) e) both.1)

pub lawful_in : (n : ℕ) (below : List ℕ) (set : ℕ) → ((a b : ℕ) → bit_at set a ≡ 1 → HasBit below a b → bit_at set b ≡ 1) →
    is_lawful (pairs_in n below) (members n set) ≡ true
lawful_in n below set f = grind (arith, lawful_from, among_in, member_from, member_bit)

pub unlawful_in : (n : ℕ) (below : List ℕ) (set : ℕ) → AreWithin n below → (a b : ℕ) → bit_at set a ≡ 1 → HasBit below a b →
    (bit_at set b ≡ 1 → ⊥) → is_lawful (pairs_in n below) (members n set) ≡ false
unlawful_in n below set w a b here bit absent =
    false_from_ne_true _ (λ l.
    let in' = w a b bit in
    let s = pair_among (pairs_in n below) a b ((has_in n below a b).1 (in'.0, in'.1, bit)) in
    let there = lawful_at (pairs_in n below) (members n set) l s.0 s.1 (ap (has (members n set)) (sym s.2) ∙ member_from n set a in'.0 here) in
    absent (member_bit n set b (ap (has (members n set)) s.3 ∙ there)).1)

-- ---- kept orders

-- no variable of the first k has one above it that must stand below it
abbrev pub KeptTo : List ℕ → List ℕ → ℕ → Type 0
KeptTo below order k = (i j : ℕ) → j < i → i < k → HasBit below (get_or order i 0) (get_or order j 0) → ⊥

places_of : (order : List ℕ) → IsDistinct nat_eq order → (i j : ℕ) → i < length order → j < length order →
    is_above (get_or order i 0) (get_or order j 0) order ≡ ltb i j
places_of order once i j h k = search (above_places, has_at, place_get)

pub keeps_in : (n : ℕ) (below order : List ℕ) → IsOrder n order → HasNoCycle (pairs_in n below) → KeptTo below order (length order) →
    keeps (pairs_in n below) order ≡ true
keeps_in n below order o acyclic kept = keeps_from (pairs_in n below) order (λ p m. one p m (among_in n below p m))
  where
    one : (p : Pair) → Among p (pairs_in n below) → (p.0 < n) × (p.1 < n) × HasBit below p.0 p.1 → is_above p.0 p.1 order ≡ true
    one p m r =
        let a = index_of order p.0 ((o.all p.0).1 r.0) in
        let b = index_of order p.1 ((o.all p.1).1 r.1) in
        ap₂ (λ u v. is_above u v order) (sym a.2) (sym b.2) ∙ places_of order o.once a.0 b.0 a.1 b.1 ∙ elim (cases_order a.0 b.0) [
          | inl e ↦ absurd
              (acyclic p.0
              (by_one (ap (has_pair (pairs_in n below) p.0) (sym a.2 ∙ ap (λ k. get_or order k 0) e ∙ b.2)
              ∙ among_pair (pairs_in n below) p m)))
          | inr d ↦ grind arith
        ]

pub unkept_in : (n : ℕ) (below order : List ℕ) → IsOrder n order → AreWithin n below → (i j : ℕ) → j < i → i < length order →
    HasBit below (get_or order i 0) (get_or order j 0) →
    keeps (pairs_in n below) order ≡ false
unkept_in n below order o w i j h k bit =
    false_from_ne_true _ (λ kept.
    let in' = w (get_or order i 0) (get_or order j 0) bit in
    let s = pair_among (pairs_in n below) (get_or order i 0) (get_or order j 0)
    ((has_in n below (get_or order i 0) (get_or order j 0)).1 (in'.0, in'.1, bit)) in
    let above = ap₂ (λ u v. is_above u v order) s.2 s.3 ∙ keeps_at (pairs_in n below) order kept s.0 s.1 in
    false≢true (sym (le-ltb i j (omega arith)) ∙ sym (places_of order o.once i j k (omega arith)) ∙ above))

-- one variable more
pub kept_more : (below order : List ℕ) (k seen : ℕ) → Seen order k seen → KeptTo below order k →
    bit_and (get_or below (get_or order k 0) 0) seen ≡ 0 → KeptTo below order (k + 1)
kept_more below order k seen s kept e i j h l bit = grind (arith, and_bit)

-- a variable above that must stand below
pub broken_at : (n : ℕ) (below order : List ℕ) (k seen : ℕ) → IsOrder n order → AreWithin n below → Seen order k seen → k < length order → seen < 2 ^ 16 →
    bit_and (get_or below (get_or order k 0) 0) seen ≢ 0 → keeps (pairs_in n below) order ≡ false
broken_at n below order k seen o w s h l ne =
    let b = some_bit (bit_and (get_or below (get_or order k 0) 0) seen) (omega (arith, and_le_r (get_or below (get_or order k 0) 0) seen)) ne in
    grind (arith, both_bits, unkept_in)

-- ---- numbers of pairs

-- the pairs of the first k masks
pub rows_to : ℕ → List ℕ → ℕ → List Pair
rows_to n below k = flat_map (λ a. map (λ b. (a, b)) (members n (get_or below a 0))) (variables k)

pub rows_all : (n : ℕ) (below : List ℕ) → rows_to n below n ≡ pairs_in n below
unfolding rows_to pairs_in
rows_all n below = refl

pub rows_none : (n : ℕ) (below : List ℕ) → length (rows_to n below 0) ≡ 0
unfolding rows_to
rows_none n below = refl

pub rows_more : (n : ℕ) (below : List ℕ) (k : ℕ) → get_or below k 0 < 2 ^ n →
    length (rows_to n below (k + 1)) ≡ length (rows_to n below k) + count_ones (get_or below k 0)
unfolding rows_to
rows_more n below k h = grind (arith, length-map, ones-members, variables_more, flat_map-append, length-append)

-- a variable isn't below itself, so a mask has at most 15 ones
pub row_few : (n : ℕ) (below : List ℕ) (k : ℕ) → n ≤ 16 → k < n → HasNoCycle (pairs_in n below) → get_or below k 0 < 2 ^ n → count_ones (get_or below k 0) ≤ 15
unfolding IsDistinct
row_few n below k few h acyclic small =
    let m = get_or below k 0 in
    let out : has (members n m) k ≡ false = false_from_ne_true _ (λ e. acyclic k (by_one ((has_in n below k k).1 (h, h, (member_bit n m k e).1)))) in
    let l = length-le_from_distinct_below (k ∷ members n m) n (apart_from_absent k (members n m) out, distinct_members n m)
    (λ y e. elim (or_cases (nat_eq y k) (has (members n m) y) e) [
      | inl s ↦ omega (arith, eqb-true y k s)
      | inr r ↦ members_small n m y r
    ]) in
    omega (arith, sym (ones-members n m small))

-- the pairs of the first k masks, and of mask k those with one of the first j variables below
pub row_to : ℕ → List ℕ → ℕ → ℕ → List Pair
row_to n below k j = rows_to n below k ++ map (λ b. (k, b)) (filter (λ b. eqb (bit_at (get_or below k 0) b) 1) (variables j))

pub row_start : (n : ℕ) (below : List ℕ) (k : ℕ) → row_to n below k 0 ≡ rows_to n below k
unfolding row_to
row_start n below k = append-nil (rows_to n below k)

row_split : (n : ℕ) (below : List ℕ) (k j : ℕ) →
    row_to n below k (j + 1) ≡ rows_to n below k
    ++ (map (λ b. (k, b)) (filter (λ b. eqb (bit_at (get_or below k 0) b) 1) (variables j))
    ++ map (λ b. (k, b)) (filter (λ b. eqb (bit_at (get_or below k 0) b) 1) (j ∷ [])))
unfolding row_to
row_split n below k j = search (variables_more, filter-append, map-append)

pub row_pair : (n : ℕ) (below : List ℕ) (k j : ℕ) → bit_at (get_or below k 0) j ≡ 1 → row_to n below k j ++ (k, j) ∷ [] ≡ row_to n below k (j + 1)
unfolding row_to
row_pair n below k j e = search (append_assoc, row_split, eq-eqb)

pub row_skip : (n : ℕ) (below : List ℕ) (k j : ℕ) → (bit_at (get_or below k 0) j ≡ 1 → ⊥) → row_to n below k j ≡ row_to n below k (j + 1)
unfolding row_to
row_skip n below k j ne = search (row_split, ne_eqb, append-nil)

pub row_end : (n : ℕ) (below : List ℕ) (k : ℕ) → row_to n below k n ≡ rows_to n below (k + 1)
unfolding row_to rows_to members
row_end n below k = search (variables_more, flat_map-append, append-nil)

pub rows_start : (n : ℕ) (below : List ℕ) → rows_to n below 0 ≡ []
unfolding rows_to
rows_start n below = refl

-- an order of n variables, of what is known of an equal list
pub order_of : (n : ℕ) (xs ys : List ℕ) → xs ≡ ys → IsOrder (length ys) ys → length ys ≡ n → IsOrder n xs
order_of n xs ys e o l = subst (IsOrder n) (sym e) (subst (λ k. IsOrder k ys) l o)
