use Rattle.std.proofs.Common.{◌≡◌, subst}
use Rattle.definitions.specs.Pairs.{sorted_pairs}
use Rattle.definitions.specs.KeptPairs.{KeptPairs}
use Rattle.definitions.proofs.Precedence.Masks.{sorted_in}
use Rattle.order_model.proofs.pairs.Pairs.inputs.Goals as goal

pub returns-clause-sorted : goal.returns-clause-sorted
returns-clause-sorted c = subst (λ (v : KeptPairs). sorted_pairs v.inputs v.pairs ≡ v.pairs) c.self.view_is (sorted_in c.self.inside.inputs c.self.inside.below)
