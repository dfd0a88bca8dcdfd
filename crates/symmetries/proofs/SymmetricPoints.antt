-- Functions that are symmetric in two variables, by their values at points that differ in which of both is 1.
--     symmetric_by_points      where the values at each two such points are equal, the variables are a symmetric pair
use Rattle.std.specs.Prelude.{◌≡◌, ◌≢◌, ℕ, ◌+◌, ◌-◌, ◌^◌, ◌<◌, Bool, true, false, [], length, set}
use Rattle.std.proofs.Common.{inl, inr, refl, sym, ap, ◌∙◌, subst, arith, ne_eqb}
use Rattle.std.specs.Int.{bit_at}
use Rattle.std.proofs.lemmas.Bool.{cases_eq}
use Rattle.std.proofs.lemmas.List.{get_or-map, get_or-set_same, get_or-set_other, length-map, length-set, set-get_or}
use Rattle.std.proofs.lemmas.List.FromFn.{fill_by_all}
use Rattle.definitions.specs.Functions.{Point, bit, number, from_table, SameFunction}
use Rattle.definitions.specs.Problems.{TruthTables, functions, outputs_of, value_at}
use Rattle.definitions.proofs.Bits.PointNumbers.{number-small, bit-number, number-raised}
use Rattle.symmetries.specs.Exchanges.{exchanged}
use Rattle.symmetries.specs.SymmetricPairs.{exchange_of, IsSymmetricPair}
use Rattle.symmetries.proofs.PairExchanges.{partner_of}
use Rattle.symmetries.proofs.SymmetricWidths.{bit_exchanged, length_exchanged}

-- points of n variables with the same bits are equal
points_same : (n : ℕ) (p q : Point) → length p ≡ n → length q ≡ n → ((y : ℕ) → y < n → bit p y ≡ bit q y) → p ≡ q
points_same n p q l m h = fill_by_all (bit q) p n false l h ∙ sym (fill_by_all (bit q) q n false m (λ y lt. refl))

-- to set a variable to the value that it has changes nothing
set_kept : (p : Point) (x : ℕ) (v : Bool) → bit p x ≡ v → set p x v ≡ p
set_kept p x v e = ap (set p x) (sym e) ∙ set-get_or p x false

-- the number of a point where the 1 of variable a is moved to variable b
number_moved : (n a b : ℕ) → a < b → b < n → (p q : Point) → length p ≡ n → length q ≡ n →
    bit p a ≡ true → bit p b ≡ false → bit q a ≡ false → bit q b ≡ true → ((y : ℕ) → y < n → y ≢ a → y ≢ b → bit q y ≡ bit p y) →
    number q ≡ (number p - 2 ^ a) + 2 ^ b
number_moved n a b first inside p q l m pa pb qa qb others =
    let raised_a = number-raised p a (omega arith) in
    let long = length-set p a false in
    let raised_b = number-raised (set p a false) b (omega arith) in
    let from = ap number (set_kept p a true pa) in
    let to = ap number (points_same n q (set (set p a false) b true) m (length-set (set p a false) b true ∙ long ∙ l) at) in
    omega (arith, ap number (set_kept (set p a false) b false (get_or-set_other p a b false false (omega arith) ∙ pb)))
  where
    at : (y : ℕ) → y < n → bit q y ≡ bit (set (set p a false) b true) y
    at y lt =
        let long = length-set p a false in
        grind (arith, get_or-set_same, get_or-set_other)

-- the point where a and b have each other's values
abbrev swapped : ℕ → ℕ → ℕ → Point → Point
swapped n a b = exchanged n (exchange_of n a b)

module _ (n a b : ℕ) (first : a < b) (inside : b < n) where
  -- variable a has the value of b after the exchange
  bit_first : (q : Point) → bit (swapped n a b q) a ≡ bit q b
  bit_first q = grind (arith, bit_exchanged, partner_of)

  -- variable b has the value of a
  bit_second : (q : Point) → bit (swapped n a b q) b ≡ bit q a
  bit_second q = grind (arith, bit_exchanged, partner_of)

  -- each other variable has its own
  bit_other : (q : Point) (y : ℕ) → y < n → y ≢ a → y ≢ b → bit (swapped n a b q) y ≡ bit q y
  bit_other q y lt na nb = search (bit_exchanged, partner_of, ne_eqb)

  -- a point with equal values of both variables stays as it is
  swapped_same : (q : Point) → length q ≡ n → bit q a ≡ bit q b → swapped n a b q ≡ q
  swapped_same q l same =
      points_same n (swapped n a b q) q (length_exchanged n (exchange_of n a b) q) l (λ y lt.
      elim (cases_eq y a) [
        | inl s ↦ ap (bit (swapped n a b q)) s ∙ bit_first q ∙ sym same ∙ ap (bit q) (sym s)
        | inr na ↦
            grind (arith, bit_second, bit_other)
      ])

module _ (t : TruthTables) (a b : ℕ) (first : a < b) (inside : b < t.inputs)
    (alike : (j p : ℕ) → j < outputs_of t → p < 2 ^ t.inputs → bit_at p a ≡ 1 → bit_at p b ≡ 0 → value_at t j p ≡ value_at t j ((p - 2 ^ a) + 2 ^ b)) where
  -- the values at a point and where the 1 of variable a is moved to variable b
  values_moved : (j : ℕ) → j < outputs_of t → (p q : Point) → length p ≡ t.inputs → length q ≡ t.inputs →
      bit p a ≡ true → bit p b ≡ false → bit q a ≡ false → bit q b ≡ true → ((y : ℕ) → y < t.inputs → y ≢ a → y ≢ b → bit q y ≡ bit p y) →
      value_at t j (number p) ≡ value_at t j (number q)
  values_moved j less p q l m pa pb qa qb others = grind (arith, number-small, bit-number, number_moved)

  -- the values at a point and at the one with exchanged variables
  values_exchanged : (j : ℕ) → j < outputs_of t → (q : Point) → length q ≡ t.inputs →
      value_at t j (number q) ≡ value_at t j (number (swapped t.inputs a b q))
  values_exchanged j less q l = grind (arith, length_exchanged, swapped_same, values_moved, bit_first, bit_second, bit_other)

-- functions are symmetric in two variables if they have equal values at each two points that differ in which of both is 1
pub symmetric_by_points : (t : TruthTables) (a b : ℕ) → a < b → b < t.inputs →
    ((j p : ℕ) → j < outputs_of t → p < 2 ^ t.inputs → bit_at p a ≡ 1 → bit_at p b ≡ 0 → value_at t j p ≡ value_at t j ((p - 2 ^ a) + 2 ^ b)) →
    IsSymmetricPair t.inputs (functions t) a b
unfolding SameFunction from_table
symmetric_by_points t a b first inside alike = record {
  first = first;
  inside = inside;
  symmetric = λ k d less.
      let fewer : k < length t.tables = omega (arith, length-map t.tables from_table) in
      subst (λ f. SameFunction t.inputs f (λ p. f (swapped t.inputs a b p))) (sym (get_or-map from_table t.tables k [] d fewer))
      (values_exchanged t a b first inside alike k fewer);
}
