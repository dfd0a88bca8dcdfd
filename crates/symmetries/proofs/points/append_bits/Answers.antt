use Rattle.std.proofs.Common.{◌≡◌, ◌<◌, ◌^◌, ℕ, List, false, get_or, length, slice_index, ◌∙◌, arith}
use Rattle.std.proofs.lemmas.List.{get_or_default}
use Rattle.symmetries.proofs.PointValues.{room}
use Rattle.symmetries.proofs.points.append_bits.Goals as goal

-- what is read at a place that was not written
read_below : (new old : List ℕ) (p v before : ℕ) → p < length new → v ≡ get_or new p v → slice_index new p ≡ slice_index old p →
    slice_index old p < 2 ^ before → v < 2 ^ before
read_below new old p v before less read same below = omega (arith, read ∙ get_or_default new p v 0 less ∙ same)

pub overflow_mul-index : goal.overflow_mul-index
overflow_mul-index c =
    let old = c.args.values.now.items in
    let new = c.loop-point.values.items in
    let p = c.loop-point.point in
    let below =
    read_below new old p c.index.result.now c.args.before (omega arith) c.index.ensures (c.loop-point.invariant.rest p (omega arith)) (c.requires.below p) in
    omega (arith, room c.index.result.now c.args.before false c.requires.few below)

pub overflow_add-index : goal.overflow_add-index
overflow_add-index c = grind (arith, read_below, room)
