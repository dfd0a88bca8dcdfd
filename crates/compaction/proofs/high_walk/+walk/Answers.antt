use Rattle.std.proofs.Common.{◌≤◌, ◌<◌, ◌+◌, ◌*◌, ◌%◌, ◌^◌, ◌≡◌, ◌≢◌, ℕ, length, bit_or, bit_and, slice_index, refl, sym, ap, ◌∙◌, subst, arith}
use Rattle.std.proofs.lemmas.Grind.{common_steps}
use Rattle.std.proofs.lemmas.Nat.{one_shl}
use Rattle.compaction.specs.Strips.{low_variables}
use Rattle.subfunction_classes.specs.Table.{ClassesOf, free_below}
use Rattle.compaction.specs.HighBytes.{HasByte}
use Rattle.compaction.specs.Rows.{AreRowsFilled}
use Rattle.compaction.proofs.FilledRows.{filled_own, filled_unwanted, filled_both, few_compactions, fewer_compactions}
use Rattle.compaction.proofs.DecidedVariables.{all_decided, lacks_new, within_same, within_more, decided_more, undecided_high, free_with, few_free}
use Rattle.compaction.proofs.HighBytes.{branch_without, branch_with}
use Rattle.compaction.proofs.high_walk.+walk.Goals as goal

-- the variable is one of 16
shifted : (d y n : ℕ) → y < n → n ≤ 16 → bit_or d (1 * 2 ^ y % 65536) ≡ bit_or d (2 ^ y)
shifted d y n inside few = ap (bit_or d) (one_shl y 16 (omega arith))

pub returns-then-is_empty-clause-rows : goal.returns-then-is_empty-clause-rows
returns-then-is_empty-clause-rows t c = grind arith

pub fill_row-requires-clause-rows : goal.fill_row-requires-clause-rows
fill_row-requires-clause-rows t c = grind (arith, common_steps)

pub returns-in_default-clause-rows : goal.returns-in_default-clause-rows
returns-in_default-clause-rows t c =
    let w = c.args.request.now in
    let table = c.args.table.now in
    filled_own table.problem w.low w.needed.items table.set c.args.branch.now.decided c.args.rows.now c.fill_row.new.rows
    (λ h lt. all_decided w.inputs (h * 256 + w.low) c.args.branch.now.decided (w.request.sets h lt) (c.in_default.ensures.all refl))
    c.in_ok-fill_row.ensures

pub walk-requires : goal.walk-requires
walk-requires t c =
    let more = bit_or c.args.branch.now.decided (1 * 2 ^ c.in-Some.y % 65536) in
    let m = shifted c.args.branch.now.decided c.in-Some.y c.args.request.now.inputs c.in-Some.ensures.undecided.0 c.args.request.now.few in
    let w = c.args.request.now in
    let table = c.args.table.now in
    let y = c.in-Some.y in
    let u = c.in-Some.ensures.undecided in
    let high = undecided_high (low_variables table.problem) c.args.branch.now.decided y u.1 c.requires.decided.low in
    let i = c.requires.inputs in
    let wanted : (h : ℕ) → h < length w.needed.items → slice_index w.needed.items h ≢ 0 →
    bit_and (h * 256 + w.low) more ≡ table.set → HasByte c.without.result.words h =
    branch_without w.inputs w.low table.set c.args.branch.now.decided more y w.needed.items c.args.branch.now.wanted.words
    c.without.result.words w.few w.request.byte w.request.few u.0 (omega (arith, high, i)) m u.1 c.requires.decided.set
    c.requires.wanted c.without.ensures in
    grind (arith, free_with, decided_more, bit_and, within_same)

pub with-requires : goal.with-requires
with-requires t c = grind (arith, common_steps)

pub returns-then-is_empty-2-clause-rows : goal.returns-then-is_empty-2-clause-rows
returns-then-is_empty-2-clause-rows t c =
    let m = shifted c.args.branch.now.decided c.in-Some.y c.args.request.now.inputs c.in-Some.ensures.undecided.0 c.args.request.now.few in
    let w = c.args.request.now in
    let table = c.args.table.now in
    let y = c.in-Some.y in
    let u = c.in-Some.ensures.undecided in
    let d = c.args.branch.now.decided in
    let high = undecided_high (low_variables table.problem) d y u.1 c.requires.decided.low in
    let i = c.requires.inputs in
    filled_both table.problem w.low w.needed.items table.set d y c.args.rows.now c.walk.new.rows c.walk.new.rows u.1 c.requires.decided.set
    (subst (λ k. AreRowsFilled table.problem w.low w.needed.items table.set k c.args.rows.now c.walk.new.rows) m c.in_ok-before.ensures.rows)
    (filled_unwanted table.problem w.low w.needed.items (bit_or table.set (2 ^ y)) (bit_or d (2 ^ y)) c.with.result.words c.walk.new.rows w.request.few
    (branch_with w.inputs w.low table.set d (bit_or d (2 ^ y)) y w.needed.items c.args.branch.now.wanted.words c.with.result.words w.few w.request.byte
    w.request.few u.0 (omega (arith, high, i)) refl u.1 c.requires.decided.set c.requires.wanted c.with.ensures)
    (c.if-is_empty-2.ensures refl))

pub returns-then-is_empty-2-clause-compactions : goal.returns-then-is_empty-2-clause-compactions
returns-then-is_empty-2-clause-compactions t c =
    let m = shifted c.args.branch.now.decided c.in-Some.y c.args.request.now.inputs c.in-Some.ensures.undecided.0 c.args.request.now.few in
    let n = c.args.table.now.problem.inputs in
    let y = c.in-Some.y in
    let d = c.args.branch.now.decided in
    let u = c.in-Some.ensures.undecided in
    let w = c.requires.inputs in
    let f = free_with n d y (omega arith) u.1 in
    let before = subst (λ k. c.in_ok-before.before + 1 ≤ 2 ^ free_below k n) m c.in_ok-before.ensures.compactions in
    subst (λ k. c.in_ok-before.before + 1 ≤ 2 ^ k) (sym f) (fewer_compactions (free_below (bit_or d (2 ^ y)) n) c.in_ok-before.before before)

pub add_high-requires-clause-high : goal.add_high-requires-clause-high
add_high-requires-clause-high t c = grind arith

pub add_high-requires-clause-new : goal.add_high-requires-clause-new
add_high-requires-clause-new t c =
    lacks_new c.args.table.now.problem.inputs c.args.table.now.set c.args.branch.now.decided c.in-Some.y c.in-Some.ensures.undecided.1
    c.requires.decided.set

pub walk-requires-2 : goal.walk-requires-2
walk-requires-2 t c =
    let more = bit_or c.args.branch.now.decided (1 * 2 ^ c.in-Some.y % 65536) in
    let m = shifted c.args.branch.now.decided c.in-Some.y c.args.request.now.inputs c.in-Some.ensures.undecided.0 c.args.request.now.few in
    let w = c.args.request.now in
    let table = c.args.table.now in
    let y = c.in-Some.y in
    let u = c.in-Some.ensures.undecided in
    let d = c.args.branch.now.decided in
    let high = undecided_high (low_variables table.problem) d y u.1 c.requires.decided.low in
    let i = c.requires.inputs in
    let wanted : (h : ℕ) → h < length w.needed.items → slice_index w.needed.items h ≢ 0 →
    bit_and (h * 256 + w.low) more ≡ c.in_ok-next.next.set → HasByte c.with.result.words h =
    λ h lt some e. branch_with w.inputs w.low table.set d more y w.needed.items c.args.branch.now.wanted.words
    c.with.result.words w.few w.request.byte w.request.few u.0 (omega (arith, high, i)) m u.1 c.requires.decided.set
    c.requires.wanted c.with.ensures h lt some (e ∙ ap (λ (z : ClassesOf). z.set) c.in_ok-next.ensures) in
    grind (arith, free_with, decided_more, bit_and, within_more)

pub overflow_add-result : goal.overflow_add-result
overflow_add-result t c = grind (arith, few_free)

pub overflow_add-result-2 : goal.overflow_add-result-2
overflow_add-result-2 t c = grind (arith, few_free)

pub returns-clause-rows : goal.returns-clause-rows
returns-clause-rows t c =
    let more = bit_or c.args.branch.now.decided (1 * 2 ^ c.in-Some.y % 65536) in
    let m = shifted c.args.branch.now.decided c.in-Some.y c.args.request.now.inputs c.in-Some.ensures.undecided.0 c.args.request.now.few in
    let w = c.args.request.now in
    let table = c.args.table.now in
    let y = c.in-Some.y in
    let d = c.args.branch.now.decided in
    filled_both table.problem w.low w.needed.items table.set d y c.args.rows.now c.walk.new.rows c.walk-2.new.rows c.in-Some.ensures.undecided.1
    c.requires.decided.set
    (subst (λ k. AreRowsFilled table.problem w.low w.needed.items table.set k c.args.rows.now c.walk.new.rows) m c.in_ok-before.ensures.rows)
    (subst (λ k. AreRowsFilled table.problem w.low w.needed.items (bit_or table.set (2 ^ y)) k c.walk.new.rows c.walk-2.new.rows) m
    (subst (λ (z : ClassesOf). AreRowsFilled z.problem w.low w.needed.items z.set more c.walk.new.rows c.walk-2.new.rows)
    c.in_ok-next.ensures c.in_ok-after.ensures.rows))

pub returns-clause-compactions : goal.returns-clause-compactions
returns-clause-compactions t c =
    let more = bit_or c.args.branch.now.decided (1 * 2 ^ c.in-Some.y % 65536) in
    let m = shifted c.args.branch.now.decided c.in-Some.y c.args.request.now.inputs c.in-Some.ensures.undecided.0 c.args.request.now.few in
    let n = c.args.table.now.problem.inputs in
    let y = c.in-Some.y in
    let d = c.args.branch.now.decided in
    let u = c.in-Some.ensures.undecided in
    let w = c.requires.inputs in
    let f = free_with n d y (omega arith) u.1 in
    let undecided = free_below (bit_or d (2 ^ y)) n in
    let before = subst (λ k. c.in_ok-before.before + 1 ≤ 2 ^ free_below k n) m c.in_ok-before.ensures.compactions in
    let after =
    subst (λ k. c.in_ok-after.after + 1 ≤ 2 ^ free_below k n) m
    (subst (λ (z : ClassesOf). c.in_ok-after.after + 1 ≤ 2 ^ free_below more z.problem.inputs)
    c.in_ok-next.ensures c.in_ok-after.ensures.compactions) in
    subst (λ k. c.in_ok-before.before + c.in_ok-after.after + 1 + 1 ≤ 2 ^ k) (sym f)
    (few_compactions undecided c.in_ok-before.before c.in_ok-after.after before after)
