-- Products by the remainders of their numbers.
use Rattle.std.proofs.Common.{◌≡◌, ◌≢◌, ℕ, zero, suc, ◌+◌, ◌/◌, ◌%◌, ◌<◌, ◌≤◌, false, ◌&&◌, cond, List, [], ◌∷◌, ◌++◌, length, take, get_or, sym, ap, ◌∙◌, arith, inl, inr, eqb, eq-eqb, ne_eqb, zero-add}
use Rattle.std.specs.List.{list_any, enumerate_from}
use Rattle.std.proofs.lemmas.List.{take_more, take_all, length-take, map-append, append-nil}
use Rattle.std.proofs.lemmas.List.Elements.{filter-append}
use Rattle.std.proofs.lemmas.List.Folds.{list_any-append}
use Rattle.definitions.specs.declared.terms.Term.{Term}
use Rattle.definitions.specs.Functions.{Point, Function}
use Rattle.definitions.specs.Problems.{TruthTables}
use Rattle.definitions.specs.Products.{Product, product_function, matches, has_output}
use Rattle.unique_table.specs.declared.plan.Plan.{Plan}
use Rattle.unique_table.specs.declared.plan.PieceKind.{PieceKind}
use Rattle.unique_table.specs.declared.plan.PieceKind.TheVariants.{Restrictions, Products}
use Rattle.unique_table.specs.Plans.{order_of, share, products_of, part_function, piece_function}
use Rattle.dd_builder.specs.Parts.{IsForTerms, AreTermsOfKind}
use Rattle.dd_builder.specs.Literals.{with_product}
use Rattle.dd_builder.proofs.RestrictedNodes.{part_piece}
use Rattle.std.proofs.Math.Bool.{or-false}
use Rattle.std.proofs.lemmas.Bool.{cases_lt}

enumerate_append : {X : Type 0} (n : ℕ) (xs ys : List X) → enumerate_from n (xs ++ ys) ≡ enumerate_from n xs ++ enumerate_from (n + length xs) ys
enumerate_append n [] ys = ap (λ k. enumerate_from k ys) here
  where
    here : n ≡ n + 0
    here = omega arith
enumerate_append n (x ∷ xs) ys = grind (arith, enumerate_append (n + 1) xs ys)

-- one more product
pub share_last : (b : ℕ) (xs : List Product) (x : Product) → share b (xs ++ x ∷ []) ≡ share b xs ++ cond (eqb (length xs % 64) b) (x ∷ []) []
unfolding share
share_last b xs x = grind (arith, enumerate_append, zero-add, filter-append, map-append)

pub none : Product
none = record { literals = []; outputs = [] }

-- a product of another remainder is skipped
share_other : (b i : ℕ) (xs : List Product) → i % 64 ≢ b → share b (take (i + 1) xs) ≡ share b (take i xs)
share_other b i xs ne = elim (cases_lt i (length xs)) [
  | inl low ↦
      let size : length (take i xs) ≡ i = length-take i xs ∙ omega arith in
      ap (share b) (take_more xs i none low) ∙ (share_last b (take i xs) (get_or xs i none)
      ∙ (ap (λ c. share b (take i xs) ++ cond c (get_or xs i none ∷ []) []) (ap (λ k. eqb (k % 64) b) size ∙ ne_eqb (i % 64) b ne)
      ∙ append-nil (share b (take i xs))))
  | inr past ↦ ap (share b) (take_all (i + 1) xs (omega arith) ∙ sym (take_all i xs past))
]

-- so are some in a row
share_others : (b i d : ℕ) (xs : List Product) → ((k : ℕ) → i ≤ k → k < i + d → k % 64 ≢ b) → share b (take (i + d) xs) ≡ share b (take i xs)
share_others b i zero xs h = grind arith
share_others b i (suc d) xs h =
    ap (λ k. share b (take k xs)) next
    ∙ (share_other b (i + d) xs (h (i + d) (omega arith) (omega arith)) ∙ share_others b i d xs (λ k l u. h k l (omega arith)))
  where
    next : i + suc d ≡ i + d + 1
    next = omega arith

-- a product of the remainder is taken, and the next 63 aren't
share_own : (b i : ℕ) (xs : List Product) → i % 64 ≡ b → i < length xs → share b (take (i + 64) xs) ≡ share b (take i xs) ++ get_or xs i none ∷ []
share_own b i xs e low =
    let size : length (take i xs) ≡ i = length-take i xs ∙ omega arith in
    ap (λ k. share b (take k xs)) next ∙ (share_others b (i + 1) 63 xs (λ k l u q. omega arith)
    ∙ (ap (share b) (take_more xs i none low) ∙ (share_last b (take i xs) (get_or xs i none)
    ∙ ap (λ c. share b (take i xs) ++ cond c (get_or xs i none ∷ []) []) (ap (λ k. eqb (k % 64) b) size ∙ eq-eqb (i % 64) b e))))
  where
    next : i + 64 ≡ i + 1 + 63
    next = omega arith

-- before the first product of the remainder there is none
pub share_start : (b output : ℕ) (xs : List Product) (p : Point) → b < 64 → product_function (share b (take b xs)) output p ≡ false
unfolding product_function share
share_start b output xs p low =
    ap (λ ys. list_any (λ product. matches product p && has_output product output) ys)
    (ap (λ k. share b (take k xs)) (sym (zero-add b)) ∙ (share_others b 0 b xs (λ k l u q. omega arith)))

-- the function with one more product of the remainder
pub share_next : (b output i : ℕ) (xs : List Product) (x : Product) (f : Function) (p : Point) → i % 64 ≡ b → i < length xs →
    x ≡ get_or xs i none → f p ≡ product_function (share b (take i xs)) output p
    → with_product x output f p ≡ product_function (share b (take (i + 64) xs)) output p
unfolding product_function with_product
share_next b output i xs x f p e low at h = grind (arith, share_own, list_any-append, none, or-false)

-- the terms of a remainder are a piece
pub terms_part : (kind : PieceKind) (order : List ℕ) (t : TruthTables) (terms : List Term) (q : ℕ) → AreTermsOfKind t terms kind →
    part_function kind order t q ≡ product_function (share (q % 64) (products_of t terms)) (q / 64)
unfolding part_function
terms_part Restrictions order t terms q h = absurd h
terms_part (Products own) order t terms q h = ap (λ ps. product_function (share (q % 64) ps) (q / 64)) (sym h)

pub terms_piece : (b : Plan) (terms : List Term) (q output : ℕ) → IsForTerms b terms → q < b.roots → output ≡ q / 64 →
    product_function (share (q % 64) (products_of b.problem.value terms)) output ≡ piece_function b q
terms_piece b terms q output is low e =
    ap (product_function (share (q % 64) (products_of b.problem.value terms))) e
    ∙ (sym (terms_part b.kind (order_of b) b.problem.value terms q is) ∙ sym (part_piece b q low))
