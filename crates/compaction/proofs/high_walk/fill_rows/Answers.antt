use Rattle.std.proofs.Common.{OnOk, ◌^◌, ◌≡◌, ◌≢◌, ◌<◌, ◌∙◌, ℕ, List, length, min, slice_index, refl, sym, ap, subst, arith}
use Rattle.std.proofs.lemmas.Grind.{common_steps}
use Rattle.subfunction_classes.specs.Table.{ClassesOf, classes_of}
use Rattle.compaction.specs.HighBytes.{HasByte}
use Rattle.compaction.specs.Rows.{AreByteRows}
use Rattle.compaction.specs.Strips.{low_variables}
use Rattle.compaction.proofs.FilledRows.{rows_of_none}
use Rattle.compaction.proofs.high_walk.fill_rows.Goals as goal

pub returns-then-is_empty-clause-rows : goal.returns-then-is_empty-clause-rows
returns-then-is_empty-clause-rows c =
    let w = c.args.request.now in
    let wanted =
    subst (λ (xs : List ℕ). (h : ℕ) → h < length xs → slice_index xs h ≢ 0 → HasByte c.wanted-wanted.result.words h) c.deref.ensures.value
    c.wanted-wanted.ensures in
    rows_of_none c.args.shared.now w.low w.needed.items c.wanted-wanted.result.words c.args.rows.now c.requires.rows w.request.few wanted
    (c.if-is_empty.ensures refl)

-- a low byte, by its variables
low_small : (n low : ℕ) → low < 256 → low < 2 ^ n → low < 2 ^ min n 8
low_small n low byte own = grind arith

pub with_members-requires-clause-low : goal.with_members-requires-clause-low
with_members-requires-clause-low c =
    let w = c.args.request.now in
    subst (λ p. c.from-low.result < 2 ^ low_variables p) (sym (ap (λ (z : ClassesOf). z.problem) c.first_table-known.ensures.table))
    (low_small c.args.shared.now.inputs c.from-low.result (omega (arith, w.request.byte))
    (subst (λ n. c.from-low.result < 2 ^ n) c.requires.inputs (rw c.from-low.ensures w.request.own)))

pub walk_from_low-requires-clause-table : goal.walk_from_low-requires-clause-table
walk_from_low-requires-clause-table c =
    let t : c.unwrap_or-table.result.now ≡ classes_of c.args.shared.now c.args.request.now.low = grind (arith, common_steps) in
    t ∙ ap (λ (z : ClassesOf). classes_of z.problem c.args.request.now.low) (sym t)

pub walk_from_low-requires-clause-inputs : goal.walk_from_low-requires-clause-inputs
walk_from_low-requires-clause-inputs c =
    let t : c.unwrap_or-table.result.now ≡ classes_of c.args.shared.now c.args.request.now.low = grind (arith, common_steps) in
    c.requires.inputs ∙ sym (ap (λ (z : ClassesOf). z.problem.inputs) t)

pub walk_from_low-requires-clause-wanted : goal.walk_from_low-requires-clause-wanted
walk_from_low-requires-clause-wanted c =
    subst (λ (xs : List ℕ). (h : ℕ) → h < length xs → slice_index xs h ≢ 0 → HasByte c.wanted-wanted.result.words h) c.deref.ensures.value
    c.wanted-wanted.ensures

pub returns-clause-rows : goal.returns-clause-rows
returns-clause-rows c =
    let w = c.args.request.now in
    let t : c.unwrap_or-table.result.now ≡ classes_of c.args.shared.now w.low = grind (arith, common_steps) in
    subst (λ (z : ClassesOf). OnOk c.walk_from_low.result (AreByteRows z.problem w.low w.needed.items c.walk_from_low.new.rows)) t
    c.walk_from_low.ensures.rows
