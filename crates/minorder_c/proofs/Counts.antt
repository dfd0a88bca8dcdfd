-- Level counts as lists.
--     counts_long      there is one for each variable
--     optimum_lengths      an optimum's order has each variable, and a level count for each
--     counts_read      counts that are read one by one
use Rattle.std.proofs.Common.{◌≡◌, ℕ, ◌<◌, IfOk, Ok, Err, List, Result, length, map, slice_index, ap, sym, ◌∙◌, arith}
use Rattle.std.specs.List.{range_with_len}
use Rattle.std.proofs.lemmas.List.{ext_get_or}
use Rattle.std.proofs.lemmas.List.FromFn.{get_or-map-range_with_len, length-map-range_with_len}
use Rattle.definitions.specs.Functions.{Function}
use Rattle.definitions.specs.Pairs.{Pair}
use Rattle.definitions.specs.Problems.{TruthTables, functions}
use Rattle.definitions.specs.Levels.{level_count, level_counts}
use Rattle.definitions.proofs.Widths.SizeBounds.{order_length}
use Rattle.order_model.specs.declared.sized_orders.SizedOrder.{SizedOrder}
use Rattle.solutions.specs.Solutions.{IsOptimumFor}
use Rattle.minorder_c.specs.Answers.{HasLengths}

pub counts_long : (n : ℕ) (F : List Function) (order : List ℕ) → length (level_counts n F order) ≡ length order
unfolding level_counts
counts_long n F order = length-map-range_with_len (level_count n F order) 0 (length order)

pub optimum_lengths : {E : Type 0} (t : TruthTables) (P : List Pair) (r : Result SizedOrder E) → IfOk r (IsOptimumFor t P) →
    IfOk r (HasLengths t.inputs)
optimum_lengths t P (Ok s) best =
    let long = order_length t.inputs s.order best.first.fewest.is_order in
    (long, ap length best.levels_are ∙ counts_long t.inputs (functions t) s.order ∙ long)
optimum_lengths t P (Err e) best = record {}

pub counts_read : (n : ℕ) (F : List Function) (order items : List ℕ) → length items ≡ length order →
    ((i : ℕ) → i < length order → slice_index items i ≡ level_count n F order i) → items ≡ level_counts n F order
unfolding level_counts
counts_read n F order items long read =
    ext_get_or 0 items (map (level_count n F order) (range_with_len 0 (length order)))
    (long ∙ sym (length-map-range_with_len (level_count n F order) 0 (length order)))
    (λ i low. let within : i < length order = omega (arith, long) in
    read i within ∙ sym (get_or-map-range_with_len (level_count n F order) 0 (length order) i i 0 within (omega arith)))
