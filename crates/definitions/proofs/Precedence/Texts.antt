-- Numbers, pairs and lists of pairs in a text.
--     number_is, number_refused, number_parts      the variable of a word
--     pair_without_comma, pair_at      the pair of a part
--     ReadTo parts k below      the masks of the pairs of the first k parts
--     read_none, read_more, read_all, read_fails      before the first part, one part more, after the last, a part without a pair
--     MasksTo P k below      the masks of the first k of some pairs
--     masks_none, masks_more, masks_all      before the first pair, one more, after the last
--     bad, out_of_range, cycle, accepted, holds      what is returned
use Rattle.std.proofs.Common.{◌≡◌, ◌↔◌, ℕ, zero, suc, ◌+◌, ◌-◌, ◌*◌, ◌%◌, ◌^◌, ◌<◌, ◌≤◌, Bool, true, false, cond, ◌&&◌, ◌||◌, inl, inr, List, [], ◌∷◌, ◌++◌, length, get_or, take, drop, set, refl, sym, ap, ap₂, ◌∙◌, subst, arith, nat_eq, eqb, eqb-true, eq-eqb, Option, Some, None, Ok, Err, bit_or, w16, take_all}
use Rattle.std.specs.Prelude.{decimal}
use Rattle.std.specs.Int.{bit_at}
use Rattle.std.specs.List.{find, position, before_first, after_first}
use Rattle.std.specs.Cmp.Lexicographic.{pointwise, same_text}
use Rattle.std.proofs.lemmas.Bool.{cases_Bool, cases_eq, or_cases, or_left, or_right, and_parts, and_from, false≢true, true≢false}
use Rattle.std.proofs.lemmas.Cmp.{nat_list_eq_equiv}
use Rattle.std.proofs.lemmas.Fmt.{decimal_digit, decimal_step, decimal_injective}
use Rattle.std.proofs.lemmas.List.{take_more, drop_all, length-set, get_or-set_other, get_or-set_same}
use Rattle.std.proofs.lemmas.Nat.Bits.{bit_at_set_same, bit_at_set_other}
use Rattle.definitions.specs.declared.faults.PairsFault.TheVariants.{BadPair, PairOutOfRange, PairCycle}
use Rattle.definitions.specs.Orders.{has, variables}
use Rattle.definitions.specs.Pairs.{Pair, has_pair, IsPairCycle}
use Rattle.definitions.specs.KeptPairs.{pairs_in, HasBit, AreWithin, HasNoCycle, HoldsKept}
use Rattle.definitions.specs.PairTexts.{variable_of, both, pair_of, with_pair, pairs_of, AreMasksOf, ParsesAs}
use Rattle.definitions.proofs.Lists.Orders.{has_variables}
use Rattle.definitions.proofs.Precedence.Masks.{Same, same_at, same_from, has_in, below_from, below_at, sorted_same, holds_masks, leads_same}

-- ---- numbers

find_only : (p : ℕ → Bool) (xs : List ℕ) (k : ℕ) → has xs k ≡ true → p k ≡ true → ((j : ℕ) → p j ≡ true → has xs j ≡ true → j ≡ k) → find p xs ≡ Some k
find_only p [] k h e f = absurd (false≢true h)
find_only p (x ∷ xs) k h e f = by (p x) refl (λ r. find_only p xs k r e (λ j q m. f j q (or_right _ _ m)))
  where
    by : (b : Bool) → p x ≡ b → (has xs k ≡ true → find p xs ≡ Some k) → cond b (Some x) (find p xs) ≡ Some k
    by true t r = ap (λ (v : ℕ). Some v) (f x t (or_left _ _ (eq-eqb x x refl)))
    by false t r = grind arith

find_none : (p : ℕ → Bool) (xs : List ℕ) → ((j : ℕ) → p j ≡ true → has xs j ≡ true → ⊥) → find p xs ≡ None
find_none p [] f = refl
find_none p (x ∷ xs) f = by (p x) refl (find_none p xs (λ j q m. f j q (or_right _ _ m)))
  where
    by : (b : Bool) → p x ≡ b → find p xs ≡ None → cond b (Some x) (find p xs) ≡ None
    by true t r = absurd (f x t (or_left _ _ (eq-eqb x x refl)))
    by false t r = r

find_parts : (p : ℕ → Bool) (xs : List ℕ) (k : ℕ) → find p xs ≡ Some k → (has xs k ≡ true) × (p k ≡ true)
find_parts p [] k e = cc
find_parts p (x ∷ xs) k e = grind (arith, find_parts p xs k)

same_word : (xs ys : List ℕ) → xs ≡ ys → pointwise nat_eq xs ys ≡ true
same_word xs ys e = ap (pointwise nat_eq xs) (sym e) ∙ nat_list_eq_equiv.refl xs

pub number_is : (word : List ℕ) (k : ℕ) → k < 16 → word ≡ decimal k → variable_of word ≡ Some k
unfolding variable_of
number_is word k h e =
    find_only (λ j. pointwise nat_eq word (decimal j)) (variables 16) k ((has_variables 16 k).1 h) (same_word word (decimal k) e)
    (λ j t m. let l : j < 16 = (has_variables 16 j).0 m in decimal_injective j k (below_64 j l) (below_64 k h) (sym (same_text word (decimal j) (sym t)) ∙ e))
  where
    below_64 : (j : ℕ) → j < 16 → j < 2 ^ 64
    below_64 j l = omega arith

pub number_parts : (word : List ℕ) (k : ℕ) → variable_of word ≡ Some k → (k < 16) × (word ≡ decimal k)
unfolding variable_of
number_parts word k e =
    let s = find_parts (λ j. pointwise nat_eq word (decimal j)) (variables 16) k e in
    ((has_variables 16 k).0 s.0, same_text word (decimal k) (sym s.1))

number_none : (word : List ℕ) → ((k : ℕ) → k < 16 → word ≡ decimal k → ⊥) → variable_of word ≡ None
unfolding variable_of
number_none word f =
    find_none (λ j. pointwise nat_eq word (decimal j)) (variables 16)
    (λ j t m. f j ((has_variables 16 j).0 m) (same_text word (decimal j) (sym t)))

decimal_teen : (k : ℕ) → 10 ≤ k → k < 16 → decimal k ≡ 49 ∷ (38 + k) ∷ []
decimal_teen k h l = grind (arith, decimal_step, decimal_digit)

pub number_digit : (word : List ℕ) → length word ≡ 1 → 48 ≤ get_or word 0 0 → get_or word 0 0 < 58 → variable_of word ≡ Some (get_or word 0 0 - 48)
number_digit [] e l h = absurd (omega arith)
number_digit (d ∷ []) e l h =
    number_is (d ∷ []) (d - 48) (omega arith) (sym (decimal_digit (d - 48) (omega arith) ∙ ap (λ (x : ℕ). x ∷ []) (omega arith)))
number_digit (d ∷ x ∷ xs) e l h = absurd (omega arith)

-- a word of the digit 1 and one from 0 to 5
pub number_teen : (word : List ℕ) → length word ≡ 2 → get_or word 0 0 ≡ 49 → 48 ≤ get_or word 1 0 → get_or word 1 0 < 54 →
    variable_of word ≡ Some (10 + (get_or word 1 0 - 48))
number_teen [] e f l h = absurd (omega arith)
number_teen (x ∷ []) e f l h = absurd (omega arith)
number_teen (x ∷ d ∷ []) e f l h =
    number_is (x ∷ d ∷ []) (10 + (d - 48)) (omega arith)
    (sym (decimal_teen (10 + (d - 48)) (omega arith) (omega arith) ∙ ap₂ (λ (y z : ℕ). y ∷ z ∷ []) (sym f) (omega arith)))
number_teen (x ∷ d ∷ y ∷ ys) e f l h = absurd (omega arith)

-- any other word
pub number_refused : (word : List ℕ) → (length word ≡ 1 → 48 ≤ get_or word 0 0 → get_or word 0 0 < 58 → ⊥) →
    (length word ≡ 2 → get_or word 0 0 ≡ 49 → 48 ≤ get_or word 1 0 → get_or word 1 0 < 54 → ⊥) →
    variable_of word ≡ None
number_refused word one two = grind (arith, number_none, decimal_digit, decimal_teen)

-- ---- pairs

both_parts : (o q : Option ℕ) (a b : ℕ) → both o q ≡ Some (a, b) → (o ≡ Some a) × (q ≡ Some b)
both_parts (Some x) (Some y) a b e = let same : ◌≡◌ {A = Pair} (x, y) (a, b) = cc in (ap (λ (p : Pair). Some p.0) same, ap (λ (p : Pair). Some p.1) same)
both_parts (Some x) None a b e = cc
both_parts None q a b e = cc

pub pair_small : (part : List ℕ) (a b : ℕ) → pair_of part ≡ Some (a, b) → (a < 16) × (b < 16)
pair_small part a b e =
    let s = both_parts (variable_of (before_first (λ x. eqb x 44) part)) (variable_of (after_first (λ x. eqb x 44) part)) a b e in
    ((number_parts (before_first (λ x. eqb x 44) part) a s.0).0, (number_parts (after_first (λ x. eqb x 44) part) b s.1).0)

pub pair_without_comma : (part : List ℕ) → None ≡ position (λ x. eqb x 44) part → pair_of part ≡ None
pair_without_comma part e = grind (arith, drop_all, number_refused)

-- a part with a comma at place k has the numbers around it
pub pair_at : (part : List ℕ) (k : ℕ) → Some k ≡ position (λ x. eqb x 44) part →
    pair_of part ≡ both (variable_of (take k part)) (variable_of (drop (k + 1) part))
pair_at part k e = grind arith

-- ---- lists of pairs

-- one part more
pairs_of-more : (xs : List (List ℕ)) (x : List ℕ) (P : List Pair) (p : Pair) → pairs_of xs ≡ Some P → pair_of x ≡ Some p →
    pairs_of (xs ++ x ∷ []) ≡ Some (P ++ p ∷ [])
unfolding pairs_of
pairs_of-more [] x P p e f = grind arith
pairs_of-more (y ∷ xs) x P p e f = by (pair_of y) (pairs_of xs) P e (λ Q g. pairs_of-more xs x Q p g f)
  where
    by : (o : Option Pair) (os : Option (List Pair)) (Q : List Pair) → with_pair o os ≡ Some Q →
        ((R : List Pair) → os ≡ Some R → pairs_of (xs ++ x ∷ []) ≡ Some (R ++ p ∷ [])) →
        with_pair o (pairs_of (xs ++ x ∷ [])) ≡ Some (Q ++ p ∷ [])
    by (Some q) (Some R) Q g r =
        let same : q ∷ R ≡ Q = cc in
        ap (with_pair (Some q)) (r R refl) ∙ ap (λ (S : List Pair). Some (S ++ p ∷ [])) same
    by (Some q) None Q g r = cc
    by None os Q g r = cc

-- a part without a pair
pairs_of-fails : (xs : List (List ℕ)) (k : ℕ) (d : List ℕ) → k < length xs → pair_of (get_or xs k d) ≡ None → pairs_of xs ≡ None
unfolding pairs_of
pairs_of-fails [] k d h e = absurd (omega arith)
pairs_of-fails (x ∷ xs) zero d h e = ap (λ o. with_pair o (pairs_of xs)) e
pairs_of-fails (x ∷ xs) (suc k) d h e = grind (arith, pairs_of-fails xs k d (omega arith) e)

has_pair-more : (P : List Pair) (p : Pair) (a b : ℕ) → has_pair (P ++ p ∷ []) a b ≡ (has_pair P a b || (nat_eq a p.0 && nat_eq b p.1))
has_pair-more [] p a b = last (nat_eq a p.0 && nat_eq b p.1)
  where
    last : (t : Bool) → (t || false) ≡ t
    last true = refl
    last false = refl
has_pair-more (q ∷ P) p a b = grind (arith, has_pair-more P p a b)

-- the masks with the bit of one pair more
abbrev pub with_bit : List ℕ → ℕ → ℕ → List ℕ
with_bit below a b = set below a (bit_or (get_or below a 0) (1 * 2 ^ b % 2 ^ 16))

same_more : (P : List Pair) (below : List ℕ) (a b : ℕ) → a < length below → b < 16 → Same P below → Same (P ++ (a, b) ∷ []) (with_bit below a b)
same_more P below a b h k s = same_from (P ++ (a, b) ∷ []) (with_bit below a b) (λ x y. (to x y, back x y))
  where
    here : get_or (with_bit below a b) a 0 ≡ bit_or (get_or below a 0) (1 * 2 ^ b % 2 ^ 16)
    here = get_or-set_same below a (bit_or (get_or below a 0) (1 * 2 ^ b % 2 ^ 16)) 0 h

    bits : (y : ℕ) → bit_at (get_or (with_bit below a b) a 0) y ≡ bit_at (bit_or (get_or below a 0) (1 * 2 ^ b % 2 ^ 16)) y
    bits y = ap (λ m. bit_at m y) here

    kept : (x y : ℕ) → ((x ≡ a) × (y ≡ b) → ⊥) → bit_at (get_or (with_bit below a b) x 0) y ≡ bit_at (get_or below x 0) y
    kept x y no_pair = elim (cases_eq x a) [
      | inl e ↦ ap (λ v. bit_at (get_or (with_bit below a b) v 0) y) e ∙ bits y
          ∙ bit_at_set_other w16 (get_or below a 0) b k y (λ f. no_pair (e, f)) ∙ ap (λ v. bit_at (get_or below v 0) y) (sym e)
      | inr ne ↦ ap (λ m. bit_at m y) (get_or-set_other below a x (bit_or (get_or below a 0) (1 * 2 ^ b % 2 ^ 16)) 0 ne)
    ]

    to : (x y : ℕ) → has_pair (P ++ (a, b) ∷ []) x y ≡ true → HasBit (with_bit below a b) x y
    to x y e = elim (cases_eq x a) [
      | inl f ↦ elim (cases_eq y b) [
        | inl g ↦ ap₂ (λ u v. bit_at (get_or (with_bit below a b) u 0) v) f g ∙ bits b ∙ bit_at_set_same w16 (get_or below a 0) b k
        | inr ne ↦ old x y e (λ p. ne p.1)
      ]
      | inr ne ↦ old x y e (λ p. ne p.0)
    ]
      where
        old : (x y : ℕ) → has_pair (P ++ (a, b) ∷ []) x y ≡ true → ((x ≡ a) × (y ≡ b) → ⊥) → HasBit (with_bit below a b) x y
        old x y e no_pair =
            kept x y no_pair ∙ (same_at P below s x y).0 (elim (or_cases (has_pair P x y) (nat_eq x a && nat_eq y b) (sym (has_pair-more P (a, b) x y) ∙ e)) [
              | inl m ↦ m
              | inr m ↦ let parts = and_parts (nat_eq x a) (nat_eq y b) m in absurd (no_pair (eqb-true x a parts.0, eqb-true y b parts.1))
            ])

    back : (x y : ℕ) → HasBit (with_bit below a b) x y → has_pair (P ++ (a, b) ∷ []) x y ≡ true
    back x y e = has_pair-more P (a, b) x y ∙ elim (cases_Bool (nat_eq x a && nat_eq y b)) [
      | inl t ↦ or_right _ _ t
      | inr f ↦ or_left _ _ ((same_at P below s x y).1 (sym (kept x y (λ p. true≢false (sym (and_from _ _ (eq-eqb x a p.0) (eq-eqb y b p.1)) ∙ f))) ∙ e))
    ]

-- the masks of the pairs of the first k parts
pub record ReadTo (parts : List (List ℕ)) (k : ℕ) (below : List ℕ) : Type 0 where
  pub pairs : List Pair
  pub read : pairs_of (take k parts) ≡ Some pairs
  pub same : Same pairs below
  pub long : length below ≡ 16

pub read_none : (parts : List (List ℕ)) (below : List ℕ) → length below ≡ 16 → ((a b : ℕ) → HasBit below a b → ⊥) → ReadTo parts 0 below
unfolding pairs_of
read_none parts below long empty = grind (arith, same_from)

pub read_more : (parts : List (List ℕ)) (k : ℕ) (below part : List ℕ) (a b : ℕ) → ReadTo parts k below → k < length parts →
    part ≡ get_or parts k part → pair_of part ≡ Some (a, b) → ReadTo parts (k + 1) (with_bit below a b)
read_more parts k below part a b r h e f =
    let small = pair_small part a b f in
    record {
      pairs = r.pairs ++ (a, b) ∷ [];
      read = ap pairs_of (take_more parts k part h) ∙ pairs_of-more (take k parts) (get_or parts k part) r.pairs (a, b) r.read (ap pair_of (sym e) ∙ f);
      same = same_more r.pairs below a b (omega arith) small.1 r.same;
      long = length-set below a (bit_or (get_or below a 0) (1 * 2 ^ b % 2 ^ 16)) ∙ r.long;
    }

pub read_all : (parts : List (List ℕ)) (k : ℕ) (below : List ℕ) → ReadTo parts k below → length parts ≤ k → AreMasksOf (pairs_of parts) (Some below)
read_all parts k below r h =
    subst (λ (o : Option (List Pair)). AreMasksOf o (Some below)) (sym (ap pairs_of (sym (take_all k parts h)) ∙ r.read)) (same_at r.pairs below r.same)

pub read_fails : (parts : List (List ℕ)) (k : ℕ) (part : List ℕ) → k < length parts → part ≡ get_or parts k part → pair_of part ≡ None →
    AreMasksOf (pairs_of parts) None
read_fails parts k part h e f = subst (λ (o : Option (List Pair)). AreMasksOf o None) (sym (pairs_of-fails parts k part h (ap pair_of (sym e) ∙ f))) tt

-- the masks of the first k of some pairs
pub record MasksTo (P : List Pair) (k : ℕ) (below : List ℕ) : Type 0 where
  pub same : Same (take k P) below
  pub long : length below ≡ 16

pub masks_none : (P : List Pair) (below : List ℕ) → length below ≡ 16 → ((a b : ℕ) → HasBit below a b → ⊥) → MasksTo P 0 below
masks_none P below long empty = record { same = same_from [] below (λ a b. (λ h. absurd (false≢true h), λ e. absurd (empty a b e))); long = long }

pub masks_more : (P : List Pair) (k : ℕ) (below : List ℕ) (d : Pair) → MasksTo P k below → k < length P → (get_or P k d).0 < 16 →
    (get_or P k d).1 < 16 → MasksTo P (k + 1) (with_bit below (get_or P k d).0 (get_or P k d).1)
masks_more P k below d m h small few =
    let a = (get_or P k d).0 in
    let b = (get_or P k d).1 in
    record {
      same = subst (λ (Q : List Pair). Same Q (with_bit below a b)) (sym (take_more P k d h))
          (same_more (take k P) below a b (omega arith) few m.same);
      long = length-set below a (bit_or (get_or below a 0) (1 * 2 ^ b % 2 ^ 16)) ∙ m.long;
    }

pub masks_all : (P : List Pair) (k : ℕ) (below : List ℕ) → MasksTo P k below → length P ≤ k → AreMasksOf (Some P) (Some below)
masks_all P k below m h = same_at P below (subst (λ (Q : List Pair). Same Q below) (take_all k P h) m.same)

-- ---- what is returned

pub bad : (o : Option (List Pair)) (n : ℕ) → AreMasksOf o None → ParsesAs o n (Err BadPair)
bad None n m = tt
bad (Some P) n m = absurd m

pub out_of_range : (o : Option (List Pair)) (below : List ℕ) (n : ℕ) → AreMasksOf o (Some below) → (AreWithin n below → ⊥) → ParsesAs o n (Err PairOutOfRange)
out_of_range None below n m f = absurd m
out_of_range (Some P) below n m f = λ small. f (λ a b e. below_at n P small a b ((m a b).1 e))

-- the pairs of the text are those of 16 variables, where all are below n
same_16 : (P : List Pair) (below : List ℕ) (n : ℕ) → n ≤ 16 → ((a b : ℕ) → (has_pair P a b ≡ true) ↔ HasBit below a b) → AreWithin n below →
    (a b : ℕ) → (has_pair P a b ≡ true) ↔ (has_pair (pairs_in 16 below) a b ≡ true)
same_16 P below n h s w a b = grind (arith, has_in)

pub cycle : (o : Option (List Pair)) (below : List ℕ) (n v : ℕ) → n ≤ 16 → AreMasksOf o (Some below) → AreWithin n below →
    IsPairCycle (pairs_in 16 below) v → ParsesAs o n (Err (PairCycle v))
cycle None below n v h m w c = absurd m
cycle (Some P) below n v h m w c = (
  below_from n P (λ a b e. w a b ((m a b).0 e)),
  record {
    back = leads_same (λ a b. (same_16 P below n h m w a b).1) c.back;
    least = λ u l e. c.least u l (leads_same (λ a b. (same_16 P below n h m w a b).0) e);
  },
)

pub accepted : (o : Option (List Pair)) (below : List ℕ) (n : ℕ) → n ≤ 16 → AreMasksOf o (Some below) → AreWithin n below → HasNoCycle (pairs_in 16 below) →
    ParsesAs o n (Ok (record { inputs = n; pairs = pairs_in n below }))
accepted None below n h m w c = absurd m
accepted (Some P) below n h m w c = (
  below_from n P (λ a b e. w a b ((m a b).0 e)),
  λ v l. c v (leads_same (λ a b. (same_16 P below n h m w a b).0) l),
  ap (λ (Q : List Pair). record { inputs = n; pairs = Q }) (sym (sorted_same n P below (same_from P below m))),
)

pub holds : (o : Option (List Pair)) (below : List ℕ) (n : ℕ) → 1 ≤ n → n ≤ 16 → AreMasksOf o (Some below) → AreWithin n below →
    HasNoCycle (pairs_in 16 below) → HoldsKept n below
holds None below n some few m w c = absurd m
holds (Some P) below n some few m w c =
    holds_masks n P below some few w (same_from P below m) (λ v l. c v (leads_same (λ a b. (same_16 P below n few m w a b).0) l))
