use Rattle.std.proofs.Common.{length, ap, ◌∙◌}
use Rattle.sifting.specs.Managed.{Managed}
use Rattle.sifting.proofs.manager.Manager.pairs.Goals as goal

pub returns-clause-inputs : goal.returns-clause-inputs
returns-clause-inputs c = c.self.invariant.inputs ∙ ap (λ (m : Managed). length m.order) c.self.view_is
