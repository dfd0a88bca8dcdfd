use Rattle.std.proofs.Common.{◌≡◌, ◌+◌, ◌<◌, sym, subst}
use Rattle.unique_table.specs.declared.plan.Plan.{Plan}
use Rattle.unique_table.proofs.Steps.{seat_after}
use Rattle.node_words.specs.Entries.{IsEntry}
use Rattle.unique_table.specs.Plans.{order_of}
use Rattle.unique_table.proofs.Rule.{M, may_recall}
use Rattle.unique_table.proofs.words.recall.Goals as goal

pub load-requires : goal.load-requires
load-requires c =
    let plan = sym c.requires.seat.plan in (
      c.requires.seat.table,
      c.requires.place.inside,
      may_recall c.args.shared.now.key _ _ c.args.seat.now.me c.requires.seat.good.live c.args.entry c.args.place
          (subst (λ (b : Plan). c.args.place ≡ b.places + c.args.entry) plan c.requires.place.at)
          (subst (λ (b : Plan). c.args.entry < b.entries) plan c.requires.place.entries),
    )

pub returns : goal.returns
returns c = let g = c.load.ensures.2 in record {
  step = seat_after c.args.shared.now c.args.seat.now c.load.new.seat 0 g.0 g.1 c.requires.seat c.load.ensures.0 g.2 g.3;
  found = λ full. subst (λ (m : M). IsEntry (order_of c.args.shared.now.key) m.0.seen c.load.result) (sym g.2)
      (subst (λ (b : Plan). IsEntry (order_of b) g.0 c.load.result) c.requires.seat.plan (g.4 full));
}
