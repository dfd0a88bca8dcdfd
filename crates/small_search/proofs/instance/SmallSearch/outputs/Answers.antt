use Rattle.std.proofs.Common.{sym, ap, ◌∙◌}
use Rattle.definitions.specs.Problems.{outputs_of}
use Rattle.definitions.proofs.Bits.Problems.{length-tables_of}
use Rattle.layer_core.specs.Instances.{InstanceOf}
use Rattle.small_search.proofs.instance.SmallSearch.outputs.Goals as goal

pub returns-clause-value : goal.returns-clause-value
returns-clause-value c =
    sym (length-tables_of c.self.inside.inputs c.self.inside.outputs c.self.inside.words.now) ∙ ap (λ (t : InstanceOf). outputs_of t.problem) c.self.view_is
