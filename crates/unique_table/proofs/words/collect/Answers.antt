use Rattle.std.proofs.Common.{◌≡◌, ◌+◌, sym, subst, arith}
use Rattle.unique_table.specs.declared.plan.Plan.{Plan}
use Rattle.unique_table.proofs.Steps.{seat_after}
use Rattle.unique_table.proofs.Rule.{may_collect}
use Rattle.unique_table.proofs.words.collect.Goals as goal

pub load-requires : goal.load-requires
load-requires c =
    let plan = sym c.requires.seat.plan in (
      c.requires.seat.table,
      c.requires.place.inside,
      may_collect c.args.shared.now.key _ _ c.args.seat.now.me c.requires.seat.good.live c.args.piece c.args.place
          (subst (λ (b : Plan). c.args.place ≡ b.places + b.entries + c.args.piece) plan c.requires.place.at),
    )

pub returns : goal.returns
returns c = grind (arith, seat_after)
