use Rattle.std.proofs.Common.{sym, ap, ◌∙◌}
use Rattle.definitions.specs.Problems.{TruthTables, outputs_of}
use Rattle.definitions.proofs.Bits.Problems.{length-tables_of}
use Rattle.definitions.proofs.problem.Problem.outputs.Goals as goal

pub returns-clause-value : goal.returns-clause-value
returns-clause-value c =
    sym (length-tables_of c.self.inside.inputs c.self.inside.outputs c.self.inside.words.items) ∙ ap (λ (t : TruthTables). outputs_of t) c.self.view_is
