-- What the tests of a certificate's parts say.
use Rattle.std.proofs.Common.{◌≡◌, ℕ, ◌-◌, ◌^◌, ◌<◌, ◌≤◌, refl, Bool, true, ◌&&◌, nat_lt, List, [], ◌∷◌, length, map, Option, None, Some, Vec, Global, ◌⊎◌, inl, inr, arith}
use Rattle.std.specs.List.{AllByRecursion, All, AllPairs}
use Rattle.std.proofs.lemmas.List.{length-map, map-id}
use Rattle.std.proofs.lemmas.List.Elements.{All-from_recursion, recursion_from_All}
use Rattle.definitions.specs.Pairs.{Pair}
use Rattle.definitions.specs.Certificates.{Cell}
use Rattle.definitions.specs.Listed.{listed}
use Rattle.definitions.specs.declared.listed_cells.ListedCell.{ListedCell}
use Rattle.certificate.specs.declared.certificate.CertificateParts.{CertificateParts}
use Rattle.certificate.specs.Spelling.{most_nodes, most_pairs, pair_key, IsPair, IsCell, HasSpelling}
use Rattle.certificate.specs.Values.{contents, fit, format_of, is_above, is_pair_of, is_cell_of, mask_in, pairs_in}
use Rattle.certificate.proofs.LineTests.{both_are}
use Rattle.certificate.proofs.RisingKeys.{RiseFrom, rise_pairs, pairs_rise}

-- entries of a kind E, seen as X, that a test tells
module _ {E X : Type 0} (see : E → X) (is : E → Bool) (Is : X → Type 0) (key : E → ℕ) (key_of : X → ℕ) (same_key : (e : E) → key e ≡ key_of (see e))
    (stated : (e : E) → is e ≡ true → Is (see e)) (tells : (e : E) → Is (see e) → is e ≡ true) where
  fit_rises : (before : Option ℕ) (es : List E) → fit is key before es ≡ true → AllByRecursion Is (map see es) × RiseFrom key_of before (map see es)
  fit_rises before [] e = (tt, tt)
  fit_rises before (x ∷ es) e =
      let b = both_are (is x) (is_above before (key x) && fit is key (Some (key x)) es) e in
      let c = both_are (is_above before (key x)) (fit is key (Some (key x)) es) b.1 in
      grind (arith, fit_rises (Some (key x)) es c.1)

  rises_fit : (before : Option ℕ) (es : List E) → AllByRecursion Is (map see es) → RiseFrom key_of before (map see es) → fit is key before es ≡ true
  rises_fit before [] all rise = refl
  rises_fit before (x ∷ es) (here, all) (above, rise) =
      let k = same_key x in grind (arith, rises_fit (Some (key x)) es all (rw k rise))

  pub fit_is : (es : List E) → fit is key None es ≡ true → All Is (map see es) × AllPairs (λ a b. key_of a < key_of b) (map see es)
  fit_is es e = let r = fit_rises None es e in (All-from_recursion _ _ r.0, rise_pairs key_of None (map see es) r.1)

  pub is_fit : (es : List E) → All Is (map see es) → AllPairs (λ a b. key_of a < key_of b) (map see es) → fit is key None es ≡ true
  is_fit es all rise = rises_fit None es (recursion_from_All _ _ all) (pairs_rise key_of (map see es) rise)

pair_told : (n : ℕ) (p : Pair) → is_pair_of n p ≡ true → IsPair n p
pair_told n p e = let b = both_are (nat_lt p.0 n) (nat_lt p.1 n) e in (grind arith, grind arith)

pair_tells : (n : ℕ) (p : Pair) → IsPair n p → is_pair_of n p ≡ true
pair_tells n p (a, b) = grind arith

cell_told : (n : ℕ) (c : ListedCell) → is_cell_of n c ≡ true → IsCell n (listed c)
cell_told n c e = grind arith

cell_tells : (n : ℕ) (c : ListedCell) → IsCell n (listed c) → is_cell_of n c ≡ true
cell_tells n c is = grind arith

pub pairs_fit_is : (n : ℕ) (ps : List Pair) → fit (is_pair_of n) pair_key None ps ≡ true →
    All (IsPair n) ps × AllPairs (λ (p q : Pair). pair_key p < pair_key q) ps
pairs_fit_is n ps e =
    rw (map-id ps) at (fit_is (λ (p : Pair). p) (is_pair_of n) (IsPair n) pair_key pair_key (λ p. refl) (pair_told n) (pair_tells n) ps e)

pub pairs_is_fit : (n : ℕ) (ps : List Pair) → All (IsPair n) ps → AllPairs (λ (p q : Pair). pair_key p < pair_key q) ps →
    fit (is_pair_of n) pair_key None ps ≡ true
pairs_is_fit n ps all rise =
    is_fit (λ (p : Pair). p) (is_pair_of n) (IsPair n) pair_key pair_key (λ p. refl) (pair_told n) (pair_tells n) ps (rw (map-id ps) all)
    (rw (map-id ps) rise)

pub cells_fit_is : (n : ℕ) (cs : List ListedCell) → fit (is_cell_of n) mask_in None cs ≡ true →
    All (IsCell n) (map listed cs) × AllPairs (λ (a b : Cell). a.mask < b.mask) (map listed cs)
cells_fit_is n cs e = fit_is listed (is_cell_of n) (IsCell n) mask_in (λ c. c.mask) (λ c. refl) (cell_told n) (cell_tells n) cs e

pub cells_is_fit : (n : ℕ) (cs : List ListedCell) → All (IsCell n) (map listed cs) →
    AllPairs (λ (a b : Cell). a.mask < b.mask) (map listed cs) → fit (is_cell_of n) mask_in None cs ≡ true
cells_is_fit n cs all rise = is_fit listed (is_cell_of n) (IsCell n) mask_in (λ c. c.mask) (λ c. refl) (cell_told n) (cell_tells n) cs all rise

format_fits : (pairs : Option (Vec Pair Global)) → ((format_of pairs ≡ 1) × (pairs_in pairs ≡ [])) ⊎ (format_of pairs ≡ 2)
format_fits None = inl (refl, refl)
format_fits (Some pairs) = inr refl

-- parts that have a spelling
module _ (p : CertificateParts) where
  pub spelled : (1 ≤ p.inputs) × (p.inputs ≤ 16) → (1 ≤ p.outputs) × (p.outputs ≤ 16) → (length p.order.items ≡ p.inputs) × All (λ x. x ≤ 15) p.order.items →
      (length p.levels.items ≡ p.inputs) × All (λ count. count ≤ most_nodes) p.levels.items → p.total ≤ most_nodes →
      (length (pairs_in p.pairs) ≤ most_pairs) × (fit (is_pair_of p.inputs) pair_key None (pairs_in p.pairs) ≡ true) →
      (length p.cells.items ≤ 2 ^ p.inputs - 1) × (fit (is_cell_of p.inputs) mask_in None p.cells.items ≡ true) → HasSpelling (contents p)
  spelled i o r l t h k = let f = format_fits p.pairs in grind (arith, pairs_fit_is, cells_fit_is, length-map)

  pub spelled_pairs : HasSpelling (contents p) →
      (length (pairs_in p.pairs) ≤ most_pairs) × (fit (is_pair_of p.inputs) pair_key None (pairs_in p.pairs) ≡ true)
  spelled_pairs has = (has.pair_count, pairs_is_fit p.inputs (pairs_in p.pairs) has.pairs has.pairs_rise)

  pub spelled_cells : HasSpelling (contents p) →
      (length p.cells.items ≤ 2 ^ p.inputs - 1) × (fit (is_cell_of p.inputs) mask_in None p.cells.items ≡ true)
  spelled_cells has =
      let count = has.cell_count in (omega (arith, length-map p.cells.items listed), cells_is_fit p.inputs p.cells.items has.cells has.cells_rise)
