use Rattle.std.proofs.Common.{◌<◌, get_or, sym, ap, ◌∙◌, subst}
use Rattle.unique_table.specs.declared.plan.Plan.{Plan}
use Rattle.unique_table.proofs.Steps.{seat_after}
use Rattle.unique_table.proofs.Rule.{M, may_look}
use Rattle.unique_table.proofs.words.look.Goals as goal

pub load-requires : goal.load-requires
load-requires c = (c.requires.seat.table, c.requires.place.inside, may_look c.args.shared.now.key _ _ c.args.seat.now.me c.requires.seat.good.live c.args.place)

pub returns : goal.returns
returns c = let g = c.load.ensures.2 in record {
  step = seat_after c.args.shared.now c.args.seat.now c.load.new.seat 0 g.0 g.1 c.requires.seat c.load.ensures.0 g.2 g.3;
  found = ap (λ (m : M). get_or m.0.seen c.args.place 0) g.2
      ∙ g.4 (subst (λ (b : Plan). c.args.place < b.places) (sym c.requires.seat.plan) c.requires.place.node);
}
