use Rattle.std.proofs.Common.{◌≡◌, ◌+◌, ◌<◌, sym, subst}
use Rattle.unique_table.specs.declared.plan.Plan.{Plan}
use Rattle.unique_table.specs.declared.session.View.{View}
use Rattle.unique_table.proofs.Steps.{seat_after}
use Rattle.node_words.specs.Entries.{IsEntry}
use Rattle.unique_table.specs.Plans.{order_of}
use Rattle.unique_table.proofs.Rule.{may_remember}
use Rattle.unique_table.proofs.words.remember.Goals as goal

pub store-requires : goal.store-requires
store-requires c =
    let plan = sym c.requires.seat.plan in let v : View = c.args.seat.now.me.0 in (
      c.requires.seat.table,
      c.requires.place.inside,
      may_remember c.args.shared.now.key _ _ c.args.seat.now.me c.requires.seat.good.live c.args.entry c.args.place c.args.word
          (subst (λ (b : Plan). c.args.place ≡ b.places + c.args.entry) plan c.requires.place.at)
          (subst (λ (b : Plan). c.args.entry < b.entries) plan c.requires.place.entries)
          (subst (λ (b : Plan). IsEntry (order_of b) v.seen c.args.word) plan c.requires.word),
    )

pub returns : goal.returns
returns c = let g = c.store.ensures.2 in record {
  step = seat_after c.args.shared.now c.args.seat.now c.store.new.seat 1 g.0 g.1 c.requires.seat c.store.ensures.0 g.2 g.3;
}
