-- Level counts that are read off a diagram, and how many functions a cover has.
use Rattle.std.proofs.Common.{◌≡◌, ℕ, ◌<◌, List, length, map, slice_index, sym, ◌∙◌, arith, inl, inr}
use Rattle.std.specs.List.{range_with_len}
use Rattle.std.proofs.lemmas.Bool.{cases_lt}
use Rattle.std.proofs.lemmas.List.{ext_get_or}
use Rattle.std.proofs.lemmas.List.FromFn.{get_or-map-range_with_len, length-map-range_with_len}
use Rattle.definitions.specs.Functions.{Function}
use Rattle.definitions.specs.Orders.{IsOrder}
use Rattle.definitions.specs.Levels.{level_count, level_counts}
use Rattle.definitions.specs.Diagrams.{Graph, nodes_at}
use Rattle.definitions.specs.Products.{product_functions}
use Rattle.pla_reader.specs.Covers.{NamedCover, functions_of}
use Rattle.dd_builder.specs.Building.{HasLevelCounts}

-- numbers of nodes on the levels of a diagram that has the level counts
pub counts_read : (n : ℕ) (F : List Function) (order items : List ℕ) (d : Graph) → length items ≡ length order
    → ((i : ℕ) → i < length order → slice_index items i ≡ nodes_at d (slice_index order i)) → HasLevelCounts n F order d → items ≡ level_counts n F order
unfolding level_counts
counts_read n F order items d long read counts =
    ext_get_or 0 items (map (level_count n F order) (range_with_len 0 (length order)))
    (long ∙ sym (length-map-range_with_len (level_count n F order) 0 (length order)))
    (λ i low. let within : i < length order = omega (arith, long) in
    read i within ∙ counts i within ∙ sym (get_or-map-range_with_len (level_count n F order) 0 (length order) i i 0 within (omega arith)))

-- an order has one length
pub one_length : (n m : ℕ) (order : List ℕ) → IsOrder n order → IsOrder m order → n ≡ m
one_length n m order a b = elim (cases_lt n m) [
  | inl under ↦ let no : n < n = (a.all n).0 ((b.all n).1 under) in absurd (omega arith)
  | inr over ↦ elim (cases_lt m n) [
    | inl under ↦ let no : m < m = (b.all m).0 ((a.all m).1 under) in absurd (omega arith)
    | inr other ↦ omega arith
  ]
]

-- a cover has as many functions as outputs
pub functions_long : (cover : NamedCover) → length (functions_of cover) ≡ cover.outputs
unfolding product_functions
functions_long cover = length-map-range_with_len _ 0 cover.outputs
