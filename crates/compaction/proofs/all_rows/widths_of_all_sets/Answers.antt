use Rattle.std.proofs.Common.{IfOk, subst, ◌∙◌}
use Rattle.definitions.specs.AllOrders.{AreAllWidths}
use Rattle.definitions.specs.Problems.{TruthTables, functions}
use Rattle.compaction.proofs.all_rows.widths_of_all_sets.Goals as goal

pub returns : goal.returns
returns c =
    subst (λ (p : TruthTables). IfOk c.all_rows.result (λ rows. AreAllWidths p.inputs (functions p) rows.items))
    (c.find_all.ensures ∙ c.in_ok-prepared.ensures.problem ∙ c.in_ok-renaming.ensures) c.all_rows.ensures
