use Rattle.std.proofs.Common.{◌/◌, ◌%◌, refl, sym, ap, ◌∙◌, subst, arith}
use Rattle.std.proofs.lemmas.Grind.{common_steps}
use Rattle.compaction.specs.Requests.{AreMembersOf}
use Rattle.compaction.proofs.FilledRows.{row_filled}
use Rattle.compaction.proofs.WantedSets.{wanted_members}
use Rattle.compaction.proofs.high_walk.fill_row.Goals as goal
use Rattle.compaction.proofs.high_walk.fill_row.Goals.{else-set-from-via-then-set-from+else-high-rows, else-set-from-via-else-set-from}

pub width_row-requires : goal.width_row-requires
width_row-requires c =
    let w = c.args.request.now in
    let set = c.args.table.now.set in
    let high = c.if-high-rows.true in
    let long = c.requires.rows in
    subst (λ n. AreMembersOf n set c.index.result.now) c.requires.inputs
    (wanted_members w.inputs w.low w.needed.items set c.from-high.result c.index.result.now
    (c.from-high.ensures ∙ ap (λ s. s / 256) c.set-set.ensures)
    (ap (λ s. s % 256) (sym c.set-set.ensures) ∙ c.if-set-from.true ∙ c.from.ensures)
    (omega (arith, high, long)) c.index.ensures w.request)

pub bounds-rows-high : goal.bounds-rows-high
bounds-rows-high c = grind (arith, common_steps)

pub returns-in_ok-rows : goal.returns-in_ok-rows
returns-in_ok-rows c =
    row_filled c.args.table.now.problem c.args.request.now.low c.args.request.now.needed.items c.args.table.now.set c.from-high.result c.index.result.now
    c.args.rows.now c.in_ok-rows.field-0
    (c.from-high.ensures ∙ ap (λ s. s / 256) c.set-set.ensures)
    (ap (λ s. s % 256) (sym c.set-set.ensures) ∙ c.if-set-from.true ∙ c.from.ensures)
    c.if-high-rows.true c.requires.rows c.index.ensures c.in_ok-rows.ensures

pub returns-else-set-from : goal.returns-else-set-from
returns-else-set-from c = λ h lt. (
  λ e. elim c.else-set-from.branch [
    | else-set-from-via-then-set-from+else-high-rows w ↦
        let f = c.from-high.ensures in
        let s = c.set-set.ensures in
        let n = w.if-high-rows.false in
        let r = c.requires.rows in
        let b = w.if-set-from.true in
        let m = c.from.ensures in
        absurd (omega arith)
    | else-set-from-via-else-set-from w ↦
        let s = c.set-set.ensures in
        let m = c.from.ensures in
        let d = c.args.request.now.request.byte in
        absurd (w.if-set-from.false (omega arith))
  ],
  λ ne. refl,
)
