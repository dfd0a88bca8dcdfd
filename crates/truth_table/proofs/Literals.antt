-- Terms at the numbers of points, and the functions of their products.
--     all_same, all_from, all_at      a test of each of some numbers
--     literals_apart      the literals of variables below 6 are read off the bit of a word, the others off its place
--     literals_above      those from 6 on hold where the masks agree with the place
--     group_without      they hold at no place of a group of 32 with which the masks of those from 11 on don't agree
--     product_is      the function of the products of terms
use Rattle.std.proofs.Common.{◌≡◌, ℕ, zero, suc, ◌+◌, ◌-◌, ◌*◌, ◌/◌, ◌^◌, ◌<◌, ◌≤◌, Bool, true, false, not, ◌&&◌, ◌||◌, inl, inr, List, [], ◌∷◌, length, map, refl, sym, ap, ◌∙◌, arith, eqb, eqb-true, eq-eqb, min, bit_and, zero-add}
use Rattle.std.specs.Int.{bit_at}
use Rattle.std.specs.List.{All, list_all, range_with_len, enumerate_from}
use Rattle.std.proofs.lemmas.Bool.{cases_lt, and_parts, false≢true}
use Rattle.std.proofs.lemmas.List.Elements.{All-head, All-tail}
use Rattle.std.proofs.lemmas.List.FromFn.{get_or-map-range_with_len}
use Rattle.std.proofs.lemmas.Nat.{and_shr, shr-shr}
use Rattle.std.proofs.lemmas.Nat.Bits.{bit_at_and, bit_at_above, bit_at_cat_low, bit_at_cat_high, same_from_bits}
use Rattle.definitions.specs.declared.terms.Term.{Term}
use Rattle.definitions.specs.Functions.{Point, number}
use Rattle.definitions.specs.Products.{literal_holds, literal_in, matches, has_output, output_in, product_function, product_of}
use Rattle.definitions.proofs.Lists.Orders.{same_bool}
use Rattle.definitions.proofs.Bits.Words.{shifted_bit}
use Rattle.definitions.proofs.Bits.PointNumbers.{bit-number}
use Rattle.pla_reader.specs.Masks.{Fits}
use Rattle.truth_table.specs.Terms.{literal_at, literals_at, covered}
use Rattle.std.proofs.Math.Bool.{and-true}

-- ---- a test of each of some numbers

pub all_same : (f g : ℕ → Bool) (len a : ℕ) → ((x : ℕ) → a ≤ x → x < a + len → f x ≡ g x) →
    list_all f (range_with_len a len) ≡ list_all g (range_with_len a len)
all_same f g zero a h = refl
all_same f g (suc len) a h =
    λ i. (h a (omega arith) (omega arith)) i && (all_same f g len (a + 1) (λ x l u. h x (omega arith) (omega arith))) i

all_true : (len a : ℕ) → list_all (λ _. true) (range_with_len a len) ≡ true
all_true zero a = refl
all_true (suc len) a = all_true len (a + 1)

pub all_from : (f : ℕ → Bool) (len a : ℕ) → ((x : ℕ) → a ≤ x → x < a + len → f x ≡ true) → list_all f (range_with_len a len) ≡ true
all_from f len a h = all_same f (λ _. true) len a h ∙ all_true len a

pub all_at : (f : ℕ → Bool) (len a : ℕ) → list_all f (range_with_len a len) ≡ true → (x : ℕ) → a ≤ x → x < a + len → f x ≡ true
all_at f zero a e x l u = absurd (omega arith)
all_at f (suc len) a e x l u =
    let parts = and_parts (f a) (list_all f (range_with_len (a + 1) len)) e in
    elim (cases_lt a x) [
      | inl lt ↦ all_at f len (a + 1) parts.1 x (omega arith) (omega arith)
      | inr ge ↦ (let s : x ≡ a = omega arith in ap f s ∙ parts.0)
    ]

and_assoc : (a b c : Bool) → ((a && b) && c) ≡ (a && (b && c))
and_assoc true b c = refl
and_assoc false b c = refl

-- a range in two parts
pub all_parts : (f : ℕ → Bool) (m k a : ℕ) → list_all f (range_with_len a (m + k)) ≡ (list_all f (range_with_len a m) && list_all f (range_with_len (a + m) k))
all_parts f zero k a = grind arith
all_parts f (suc m) k a =
    let e : suc m + k ≡ suc (m + k) = omega arith in
    grind (arith, all_parts f m k (a + 1))

-- ---- literals by bits

-- a bit of the number counts alone
pub literal_same : (term : Term) (k l x : ℕ) → bit_at k x ≡ bit_at l x → literal_at term k x ≡ literal_at term l x
literal_same term k l x e = λ i. not (eqb (bit_at term.care x) 1) || eqb (e i) (bit_at term.value x)

-- the bits of a place and of a bit's number within its word
pub low_bit : (i b x : ℕ) → x < 6 → bit_at (64 * i + b) x ≡ bit_at b x
low_bit i b x h = ap (λ z. bit_at z x) (omega arith) ∙ bit_at_cat_low i 6 b x h

pub high_bit : (i b x : ℕ) → b < 64 → 6 ≤ x → bit_at (64 * i + b) x ≡ bit_at i (x - 6)
high_bit i b x h high = ap (λ z. bit_at z x) (omega arith) ∙ bit_at_cat_high i 6 b x h high

high_bit_alone : (i x : ℕ) → 6 ≤ x → bit_at (64 * i) x ≡ bit_at i (x - 6)
high_bit_alone i x high = ap (λ z. bit_at z x) (omega arith) ∙ high_bit i 0 x (omega arith) high

pub literals_apart : (term : Term) (place b : ℕ) → b < 64 →
    literals_at term (64 * place + b) 0 16 ≡ (literals_at term b 0 6 && literals_at term (64 * place) 6 10)
unfolding literals_at
literals_apart term place b h =
    all_parts (literal_at term (64 * place + b)) 6 10 0
    ∙ (λ i. all_same (literal_at term (64 * place + b)) (literal_at term b) 6 0 (λ x l u. literal_same term (64 * place + b) b x (low_bit place b x u)) i
    && all_same (literal_at term (64 * place + b)) (literal_at term (64 * place)) 10 6
    (λ x l u. literal_same term (64 * place + b) (64 * place) x (high_bit place b x h l ∙ sym (high_bit_alone place x l))) i)

module _ (term : Term) (care_fits : term.care < 2 ^ 16) (within : bit_and term.value term.care ≡ term.value) where
  value_within : (x : ℕ) → bit_at term.value x ≡ min (bit_at term.value x) (bit_at term.care x)
  value_within x = sym (ap (λ z. bit_at z x) within) ∙ bit_at_and term.value term.care x

  at_bit : (place y : ℕ) → (literal_at term (64 * place) (y + 6) ≡ true → min (bit_at place y) (bit_at (term.care / 2 ^ 6) y) ≡ bit_at (term.value / 2 ^ 6) y)
      × (min (bit_at place y) (bit_at (term.care / 2 ^ 6) y) ≡ bit_at (term.value / 2 ^ 6) y → literal_at term (64 * place) (y + 6) ≡ true)
  at_bit place y =
      let c = shifted_bit term.care 6 y in
      let v = shifted_bit term.value 6 y in
      grind (arith, high_bit_alone, value_within)

  -- the literals from variable 6 on hold where the masks agree with the place
  pub literals_above : (place : ℕ) → eqb (bit_and place (term.care / 2 ^ 6)) (term.value / 2 ^ 6) ≡ literals_at term (64 * place) 6 10
  unfolding literals_at
  literals_above place = same_bool _ _ to from
    where
      to : eqb (bit_and place (term.care / 2 ^ 6)) (term.value / 2 ^ 6) ≡ true → list_all (literal_at term (64 * place)) (range_with_len 6 10) ≡ true
      to e = all_from (literal_at term (64 * place)) 10 6 (λ x l u.
          sym (ap (literal_at term (64 * place)) (omega arith))
          ∙ (at_bit place (x - 6)).1 (sym (bit_at_and place (term.care / 2 ^ 6) (x - 6)) ∙ ap (λ z. bit_at z (x - 6)) (eqb-true _ _ e)))

      from : list_all (literal_at term (64 * place)) (range_with_len 6 10) ≡ true → eqb (bit_and place (term.care / 2 ^ 6)) (term.value / 2 ^ 6) ≡ true
      from e = eq-eqb _ _ (same_from_bits _ _ (λ y. bit_at_and place (term.care / 2 ^ 6) y ∙ elim (cases_lt y 10) [
        | inl lt ↦ (at_bit place y).0 (all_at (literal_at term (64 * place)) 10 6 e (y + 6) (omega arith) (omega arith))
        | inr ge ↦ (
            let c = shifted_bit term.care 6 y ∙ bit_at_above term.care 16 (y + 6) care_fits (omega arith) in
            let v = shifted_bit term.value 6 y in
            let w = value_within (y + 6) in
            omega (arith, bit_at_above term.care 16 (y + 6) care_fits (omega arith)))
      ]))

  in_group : (group place : ℕ) → place < 32 → bit_and (32 * group + place) (term.care / 2 ^ 6) ≡ term.value / 2 ^ 6 →
      bit_and group (term.care / 2 ^ 11) ≡ term.value / 2 ^ 11
  in_group group place low e =
      let here : (32 * group + place) / 2 ^ 5 ≡ group = omega arith in
      (λ i. bit_and (sym here i) (sym (shr-shr term.care 6 5) i)) ∙ sym (and_shr (32 * group + place) (term.care / 2 ^ 6) 5)
      ∙ ap (λ z. z / 2 ^ 5) e ∙ shr-shr term.value 6 5

  -- the literals from variable 6 on hold at no place of a group with which the masks of those from 11 on don't agree
  pub group_without : (group place : ℕ) → place < 32 → eqb (bit_and group (term.care / 2 ^ 11)) (term.value / 2 ^ 11) ≡ false →
      literals_at term (64 * (32 * group + place)) 6 10 ≡ false
  group_without group place low none = sym (literals_above (32 * group + place))
      ∙ not_true _ (λ e. false≢true (sym none ∙ eq-eqb _ _ (in_group group place low (eqb-true _ _ e))))
    where
      not_true : (b : Bool) → (b ≡ true → ⊥) → b ≡ false
      not_true false h = refl
      not_true true h = absurd (h refl)

-- ---- products

literal_is : (term : Term) (p : Point) (x : ℕ) → x < length p → literal_holds p (x, literal_in term x) ≡ literal_at term (number p) x
literal_is term p x h = grind (arith, bit-number)

matches_from : (term : Term) (p : Point) (len a : ℕ) → a + len ≤ length p →
    list_all (literal_holds p) (enumerate_from a (map (literal_in term) (range_with_len a len))) ≡ list_all (literal_at term (number p)) (range_with_len a len)
matches_from term p zero a h = refl
matches_from term p (suc len) a h =
    λ i. (literal_is term p a (omega arith)) i && (matches_from term p len (a + 1) (omega arith)) i

-- a variable with no literal
no_literal : (term : Term) (k x : ℕ) → bit_at term.care x ≡ 0 → literal_at term k x ≡ true
no_literal term k x e = ap (λ z. not (eqb z 1) || eqb (bit_at k x) (bit_at term.value x)) e

matches_is : (n m : ℕ) (term : Term) (p : Point) → n ≤ 16 → term.care < 2 ^ n → length p ≡ n →
    matches (product_of n m term) p ≡ literals_at term (number p) 0 16
unfolding matches product_of literals_at
matches_is n m term p few fits l =
    let e : n + (16 - n) ≡ 16 = omega arith in
    matches_from term p n 0 (omega arith)
    ∙ sym (
    sym (ap (λ z. list_all (literal_at term (number p)) (range_with_len 0 z)) e) ∙ all_parts (literal_at term (number p)) n (16 - n) 0
    ∙ ap (λ b. list_all (literal_at term (number p)) (range_with_len 0 n) && b)
    (all_from (literal_at term (number p)) (16 - n) (0 + n)
    (λ x lo hi. no_literal term (number p) x (bit_at_above term.care n x fits (omega arith))))
    ∙ and-true (list_all (literal_at term (number p)) (range_with_len 0 n)))

output_is : (n m : ℕ) (term : Term) (j : ℕ) → j < m → has_output (product_of n m term) j ≡ eqb (bit_at term.outs j) 1
unfolding product_of
output_is n m term j h = get_or-map-range_with_len (output_in term) 0 m j j false h (zero-add j)

pub and_turned : (a b : Bool) → (a && b) ≡ (b && a)
and_turned a b = grind arith

pub product_is : (n m : ℕ) (terms : List Term) (j : ℕ) (p : Point) → n ≤ 16 → j < m → length p ≡ n → All (Fits n m) terms →
    product_function (map (product_of n m) terms) j p ≡ covered terms j (number p)
unfolding product_function covered
product_is n m [] j p few h l fit = refl
product_is n m (term ∷ terms) j p few h l fit =
    let fits = All-head (Fits n m) term terms fit in
    search (and_turned, output_is, matches_is, product_is n m terms j p few h l (All-tail (Fits n m) term terms fit))
