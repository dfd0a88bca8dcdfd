use Rattle.std.proofs.Common.{refl, ◌∙◌}
use Rattle.minorder_c.proofs.Optima.{same_optimum}
use Rattle.minorder_c.proofs.exact.optimum.Goals as goal

pub returns-clause-optimum : goal.returns-clause-optimum
returns-clause-optimum c =
    same_optimum c.args.given.now _ c.args.pairs.pairs _ _ _ _ _ refl (c.copy_from_slice.ensures.after ∙ c.variables.ensures.value)
    (c.copy_from_slice-2.ensures.after ∙ c.deref.ensures.value) c.in_ok-best.ensures.optimum
