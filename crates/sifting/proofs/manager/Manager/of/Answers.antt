use Rattle.std.proofs.Common.{refl, sym, subst}
use Rattle.definitions.specs.Pairs.{keeps, Keeps}
use Rattle.sifting.proofs.manager.Manager.of.Goals as goal

pub with_pairs-requires-clause-kept : goal.with_pairs-requires-clause-kept
unfolding keeps
with_pairs-requires-clause-kept c = subst (λ P. Keeps P c.args.diagram.order) (sym c.none-pairs.ensures.pairs) refl
