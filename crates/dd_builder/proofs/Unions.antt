-- An output as the union of its parts by terms.
use Rattle.std.proofs.Common.{◌≡◌, ◌≢◌, ℕ, zero, suc, ◌+◌, ◌*◌, ◌/◌, ◌%◌, ◌<◌, ◌≤◌, inl, inr, Bool, true, false, ◌&&◌, ◌||◌, cond, List, [], ◌∷◌, ◌++◌, length, take, get_or, refl, sym, ap, ◌∙◌, arith, le-ltb, eqb, eq-eqb, ne_eqb}
use Rattle.std.specs.List.{list_any, range_with_len}
use Rattle.std.proofs.lemmas.List.{take_more, take_all, length-take}
use Rattle.std.proofs.lemmas.List.Folds.{list_any-append}
use Rattle.std.proofs.lemmas.Bool.{cases_eq}
use Rattle.definitions.specs.Functions.{Point, SameFunction}
use Rattle.definitions.specs.Problems.{TruthTables, outputs_of}
use Rattle.definitions.specs.Products.{Product, product_function, matches, has_output}
use Rattle.node_words.specs.declared.operation.Operation.TheVariants.{Or}
use Rattle.node_words.specs.Entries.{combine}
use Rattle.unique_table.specs.declared.plan.Plan.{Plan}
use Rattle.unique_table.specs.declared.plan.PieceKind.{PieceKind}
use Rattle.unique_table.specs.declared.plan.PieceKind.TheVariants.{Restrictions, Products}
use Rattle.unique_table.specs.Plans.{levels_of, output_at, share, products_of, part_function, piece_function, AreTermsOf, IsPlan, parts_count}
use Rattle.unique_table.specs.Sessions.{Knowledge, Follows, Means, function_in}
use Rattle.dd_builder.specs.Parts.{AreOfTerms, shares_union}
use Rattle.dd_builder.proofs.SessionSteps.{means_same, means_at}
use Rattle.dd_builder.proofs.RestrictedNodes.{part_piece}
use Rattle.dd_builder.proofs.Shares.{share_last, terms_part, none}
use Rattle.std.proofs.Math.Bool.{or-false}
use Rattle.definitions.proofs.Lists.Ranges.{range_append}

pub part_union : (s : Knowledge) (b : Plan) (output first count id : ℕ) → count ≡ 1 → Means s id (piece_function b (output * 64 + first)) →
    Means s id (shares_union b output first count)
unfolding shares_union
part_union s b output first count id one m = grind (arith, means_same, or-false)

-- the parts of two halves
pub halves_union : (s1 s2 s3 : Knowledge) (b : Plan) (output first half rest count lower upper made : ℕ) → count ≡ half + rest →
    Means s1 lower (shares_union b output first half) → Follows s1 s2
    → Means s2 upper (shares_union b output (first + half) rest) → Follows s2 s3 →
    Means s3 made (combine Or (function_in s3 lower) (function_in s3 upper)) → Means s3 made (shares_union b output first count)
unfolding shares_union combine
halves_union s1 s2 s3 b output first half rest count lower upper made all ml f12 mu f23 m =
    grind (arith, means_same, means_at, list_any-append, range_append)

-- ---- all products

any_none : (A : ℕ → Bool) (c : ℕ) (t : Bool) (len a : ℕ) → ((x : ℕ) → a ≤ x → x < a + len → c ≢ x) →
    list_any (λ b. A b || cond (eqb c b) t false) (range_with_len a len) ≡ list_any A (range_with_len a len)
any_none A c t zero a h = refl
any_none A c t (suc len) a h =
    let rest = any_none A c t len (a + 1) (λ x l u. h x (omega arith) (omega arith)) in
    λ i. (ap (λ e. A a || cond e t false) (ne_eqb c a (h a (omega arith) (omega arith))) ∙ or-false (A a)) i || rest i

or_swap : (x y t : Bool) → ((x || t) || y) ≡ ((x || y) || t)
or_swap x y t = grind arith

or_assoc : (x y t : Bool) → (x || (y || t)) ≡ ((x || y) || t)
or_assoc true y t = refl
or_assoc false y t = refl

-- a test that one number meets besides
any_one : (A : ℕ → Bool) (c : ℕ) (t : Bool) (len a : ℕ) → a ≤ c → c < a + len →
    list_any (λ b. A b || cond (eqb c b) t false) (range_with_len a len) ≡ (list_any A (range_with_len a len) || t)
any_one A c t zero a l u = absurd (omega arith)
any_one A c t (suc len) a l u = elim (cases_eq c a) [
  | inl e ↦
      let rest = any_none A c t len (a + 1) (λ x low up q. omega arith) in
      (λ i. (ap (λ k. A a || cond k t false) (eq-eqb c a e)) i || rest i) ∙ or_swap (A a) (list_any A (range_with_len (a + 1) len)) t
  | inr ne ↦
      let here : (A a || cond (eqb c a) t false) ≡ A a = ap (λ k. A a || cond k t false) (ne_eqb c a ne) ∙ or-false (A a) in
      let rest = any_one A c t len (a + 1) (omega arith) (omega arith) in
      (λ i. here i || rest i) ∙ or_assoc (A a) (list_any A (range_with_len (a + 1) len)) t
]

any_same : (A B : ℕ → Bool) (len a : ℕ) → ((x : ℕ) → a ≤ x → x < a + len → A x ≡ B x) → list_any A (range_with_len a len) ≡ list_any B (range_with_len a len)
any_same A B zero a h = refl
any_same A B (suc len) a h =
    λ i. (h a (omega arith) (omega arith)) i || (any_same A B len (a + 1) (λ x l u. h x (omega arith) (omega arith))) i

module _ (output : ℕ) (p : Point) where
  test : Product → Bool
  test product = matches product p && has_output product output

  single : (c : Bool) (x : Product) → list_any test (cond c (x ∷ []) []) ≡ cond c (test x) false
  single true x = or-false (test x)
  single false x = refl

  -- the products of all remainders are all products
  all_shares : (xs : List Product) (i : ℕ) → i ≤ length xs →
      list_any (λ b. product_function (share b (take i xs)) output p) (range_with_len 0 64) ≡ product_function (take i xs) output p
  unfolding product_function test share
  all_shares xs zero l = refl
  all_shares xs (suc i) l =
      let x : Product = get_or xs i none in
      let more : take (suc i) xs ≡ take i xs ++ x ∷ [] = ap (λ k. take k xs) next ∙ take_more xs i none (omega arith) in
      any_same (λ b. product_function (share b (take (suc i) xs)) output p)
      (λ b. product_function (share b (take i xs)) output p || cond (eqb (i % 64) b) (test x) false) 64 0
      (λ b low up. ap (λ ys. list_any test (share b ys)) more
      ∙ (ap (list_any test) (share_last b (take i xs) x)
      ∙ (list_any-append test (share b (take i xs)) (cond (eqb (length (take i xs) % 64) b) (x ∷ []) [])
      ∙ (ap (λ c. list_any test (share b (take i xs)) || c) (single (eqb (length (take i xs) % 64) b) x)
      ∙ ap (λ k. list_any test (share b (take i xs)) || cond (eqb (k % 64) b) (test x) false) (length-take i xs ∙ omega arith)))))
      ∙ (any_one (λ b. product_function (share b (take i xs)) output p) (i % 64) (test x) 64 0 (omega arith) (omega arith)
      ∙ (ap (λ c. c || test x) (all_shares xs i (omega arith))
      ∙ (ap (λ c. list_any test (take i xs) || c) (sym (or-false (test x)))
      ∙ (sym (list_any-append test (take i xs) (x ∷ [])) ∙ ap (list_any test) (sym more)))))
    where
      next : suc i ≡ i + 1
      next = omega arith

  parts_output : (kind : PieceKind) (order : List ℕ) (t : TruthTables) → AreOfTerms kind → AreTermsOf kind t → output < outputs_of t → length p ≡ t.inputs
      → list_any (λ share. part_function kind order t (output * 64 + share) p) (range_with_len 0 64) ≡ output_at t output p
  unfolding SameFunction
  parts_output Restrictions order t some are low l = absurd some
  parts_output (Products own) order t some are low l =
      let ps : List Product = products_of t own.value in
      any_same (λ k. part_function (Products own) order t (output * 64 + k) p) (λ b. product_function (share b ps) output p) 64 0
      (λ k a u. ap (λ f. f p) (terms_part (Products own) order t own.value (output * 64 + k) refl)
      ∙ (λ i. product_function (share (rest k a u i) ps) (quotient k a u i) p))
      ∙ (ap (λ xs. list_any (λ b. product_function (share b xs) output p) (range_with_len 0 64)) (sym (take_all (length ps) ps (omega arith)))
      ∙ (all_shares ps (length ps) (omega arith) ∙ (ap (λ xs. product_function xs output p) (take_all (length ps) ps (omega arith)) ∙ are output low p l)))
    where
      rest : (k : ℕ) → 0 ≤ k → k < 0 + 64 → (output * 64 + k) % 64 ≡ k
      rest k a u = omega arith

      quotient : (k : ℕ) → 0 ≤ k → k < 0 + 64 → (output * 64 + k) / 64 ≡ output
      quotient k a u = omega arith

terms_count : (kind : PieceKind) (order : List ℕ) (t : TruthTables) → AreOfTerms kind → parts_count kind order t ≡ outputs_of t * 64
terms_count Restrictions order t some = absurd some
terms_count (Products own) order t some = refl

pub parts_all : (s : Knowledge) (b : Plan) (output id : ℕ) → IsPlan b → AreOfTerms b.kind → output < outputs_of b.problem.value →
    levels_of s.store.plan ≡ levels_of b → Means s id (shares_union b output 0 64) → Means s id (output_at b.problem.value output)
unfolding shares_union
parts_all s b output id plan some low same m = grind (arith, means_same, any_same, part_piece, terms_count, parts_output)

-- an output is the piece after the parts
pub root_piece : (b : Plan) (j q : ℕ) → q ≡ b.roots + j → piece_function b q ≡ output_at b.problem.value j
unfolding piece_function
root_piece b j q e = grind (arith, le-ltb)
