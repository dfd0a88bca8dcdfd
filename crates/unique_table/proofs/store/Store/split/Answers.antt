use Rattle.std.proofs.Common.{arith}
use Rattle.unique_table.proofs.Rule.{may_split}
use Rattle.unique_table.proofs.OpenedStores.{seat_of}
use Rattle.std.proofs.lemmas.Grind.{common_steps}
use Rattle.unique_table.proofs.store.Store.split.Goals as goal

pub split_seat-other-requires : goal.split_seat-other-requires
split_seat-other-requires c = (
  (seat_of c.self.inside c.session.inside c.args.self.now c.args.session c.self.view_is c.session.view_is c.self.invariant
      c.session.invariant c.requires).table,
  omega arith,
  may_split _ _ _ c.session.invariant.good.live,
)

pub invariant_of-result-2 : goal.invariant_of-result-2
invariant_of-result-2 c = grind (arith, common_steps)
