-- Points and their numbers, bit by bit; the dependence of a function that a truth table gives.
--     number-small, bit-number, number-raised      a number's size, its bits, and what setting a variable adds
--     some_point      each number below 2 ^ n is that of a point
--     room_above      where bit x is 0, 2 ^ x may be added
--     table_depends, table_independent      when the function of a truth table depends on x, and when not
use Rattle.std.proofs.Common.{◌≡◌, ℕ, zero, suc, ◌+◌, ◌*◌, ◌/◌, ◌%◌, ◌^◌, ◌<◌, Bool, true, false, List, [], ◌∷◌, length, get_or, set, refl, sym, ap, ◌∙◌, arith, pow-suc, eqb}
use Rattle.std.specs.Int.{bit_at}
use Rattle.std.proofs.lemmas.List.{set-get_or, length-set, get_or-set_same}
use Rattle.std.proofs.lemmas.Nat.Bits.{bit_at-suc, bit_at_lowest}
use Rattle.definitions.specs.Functions.{Point, weight, number, from_table, restrict, SameFunction, depends}
use Rattle.definitions.proofs.Functions.Tables.{depends_false, depends_no}

pub weight_bit : (b : ℕ) → b < 2 → weight (eqb b 1) ≡ b
weight_bit zero h = refl
weight_bit (suc zero) h = refl
weight_bit (suc (suc b)) h = absurd (omega arith)

weight_small : (b : Bool) → weight b < 2
weight_small true = omega arith
weight_small false = omega arith

pub number_more : (b : Bool) (p : Point) → number (b ∷ p) ≡ weight b + 2 * number p
unfolding number
number_more true p = refl
number_more false p = refl

pub number-small : (p : Point) → number p < 2 ^ length p
unfolding number
number-small [] = omega arith
number-small (b ∷ p) = omega (arith, number-small p, weight_small b, number_more b p, pow-suc 2 (length p))

pub bit-number : (p : Point) (x : ℕ) → x < length p → bit_at (number p) x ≡ weight (get_or p x false)
bit-number [] x h = absurd (omega arith)
bit-number (b ∷ p) zero h = bit_at_lowest (number (b ∷ p)) ∙ (omega (arith, weight_small b, number_more b p))
bit-number (b ∷ p) (suc x) h = grind (arith, number_more, bit_at-suc, bit-number p x (omega arith))

pub number-raised : (p : Point) (x : ℕ) → x < length p → number (set p x true) ≡ number (set p x false) + 2 ^ x
number-raised [] x h = absurd (omega arith)
number-raised (b ∷ p) zero h = omega (arith, number_more true p, number_more false p)
number-raised (b ∷ p) (suc x) h = grind (arith, number_more, number-raised p x (omega arith))

odd : ℕ → Bool
odd k = eqb (k % 2) 1

odd_weight : (k : ℕ) → weight (odd k) ≡ k % 2
unfolding odd
odd_weight k = weight_bit (k % 2) (omega arith)

pub some_point : (n k : ℕ) → k < 2 ^ n → (p : Point) × (length p ≡ n) × (number p ≡ k)
unfolding number
some_point zero k h = ([], refl, omega arith)
some_point (suc n) k h =
    let r = some_point n (k / 2) (omega arith) in
    (odd k ∷ r.0, ap suc r.1, omega (arith, number_more (odd k) r.0, odd_weight k))

module _ (n k x : ℕ) (h : k < 2 ^ n) (small : x < n) (off : bit_at k x ≡ zero) where
  at : Point
  at = (some_point n k h).0

  at_long : length at ≡ n
  unfolding at
  at_long = (some_point n k h).1

  at_number : number at ≡ k
  unfolding at
  at_number = (some_point n k h).2

  at_off : (b : Bool) → get_or at x false ≡ b → b ≡ false
  at_off b h = grind (arith, at_long, at_number, bit-number)

  at_lower : set at x false ≡ at
  at_lower = ap (set at x) (sym (at_off (get_or at x false) refl)) ∙ set-get_or at x false

  at_upper : number (set at x true) ≡ k + 2 ^ x
  at_upper =
      number-raised at x (omega (arith, at_long)) ∙ ap (λ p. number p + 2 ^ x) at_lower ∙ ap (λ z. z + 2 ^ x) at_number

  -- where bit x is 0, 2 ^ x may be added
  pub room_above : k + 2 ^ x < 2 ^ n
  room_above = grind (arith, number-small, length-set, at_long, at_upper)

  same_there : (t : List Bool) → SameFunction n (restrict x false (from_table t)) (restrict x true (from_table t)) →
      get_or t k false ≡ get_or t (k + 2 ^ x) false
  unfolding SameFunction restrict from_table
  same_there t s =
      ap (λ z. get_or t z false) (sym (ap number at_lower ∙ at_number)) ∙ s at at_long ∙ ap (λ z. get_or t z false) at_upper

  -- two points that differ in x alone and have different values
  pub table_depends : (t : List Bool) → (get_or t k false ≡ get_or t (k + 2 ^ x) false → ⊥) → depends n (from_table t) x ≡ true
  table_depends t ne = grind (arith, same_there, depends_no)

-- where there is no dependence, points that differ in x alone have one value
pub table_same_values : (n : ℕ) (t : List Bool) (x k : ℕ) → x < n → depends n (from_table t) x ≡ false → k < 2 ^ n → bit_at k x ≡ zero →
    get_or t k false ≡ get_or t (k + 2 ^ x) false
table_same_values n t x k small e h off = same_there n k x h small off t (depends_no n (from_table t) x e)

-- where no such two points differ, there is no dependence
pub table_independent : (n : ℕ) (t : List Bool) (x : ℕ) → x < n →
    ((k : ℕ) → k < 2 ^ n → bit_at k x ≡ zero → k + 2 ^ x < 2 ^ n → get_or t k false ≡ get_or t (k + 2 ^ x) false) →
    depends n (from_table t) x ≡ false
unfolding SameFunction restrict from_table
table_independent n t x small h = grind (arith, depends_false, number-small, length-set, number-raised, bit-number, get_or-set_same)
