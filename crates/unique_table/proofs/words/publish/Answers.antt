use Rattle.std.proofs.Common.{◌≡◌, ℕ, ◌+◌, ◌-◌, ◌<◌, get_or, sym, ap, ◌∙◌, subst, arith}
use Rattle.unique_table.specs.declared.plan.Plan.{Plan}
use Rattle.unique_table.specs.declared.session.View.{View}
use Rattle.unique_table.proofs.Steps.{seat_after}
use Rattle.node_words.specs.Meaning.{Denotes}
use Rattle.unique_table.specs.Plans.{order_of, piece_function}
use Rattle.unique_table.proofs.Rule.{M, may_publish}
use Rattle.unique_table.proofs.words.publish.Goals as goal

pub store-requires : goal.store-requires
store-requires c =
    let plan = sym c.requires.seat.plan in let v : View = c.args.seat.now.me.0 in let ref : ℕ = c.from.result in (
      c.requires.seat.table,
      c.requires.place.inside,
      may_publish c.args.shared.now.key _ _ c.args.seat.now.me c.requires.seat.good.live c.args.piece ref c.args.place
          (subst (λ (b : Plan). c.args.place ≡ b.places + b.entries + c.args.piece) plan c.requires.place.at)
          (subst (λ (b : Plan). c.args.piece < b.pieces) plan c.requires.piece)
          (subst (λ (b : Plan). Denotes (order_of b) v.seen ref (piece_function b c.args.piece)) plan
          (subst (λ (z : ℕ). Denotes (order_of c.args.shared.now.key) v.seen z (piece_function c.args.shared.now.key c.args.piece))
          (sym c.from.ensures) c.requires.function)),
    )

pub returns : goal.returns
returns c = let g = c.store.ensures.2 in
    let back : c.args.place - (c.args.seat.now.me.0.plan.places + c.args.seat.now.me.0.plan.entries) ≡ c.args.piece =
    omega (arith, subst (λ (b : Plan). c.args.place ≡ b.places + b.entries + c.args.piece) (sym c.requires.seat.plan) c.requires.place.at) in
    record {
      step = seat_after c.args.shared.now c.args.seat.now c.store.new.seat 1 g.0 g.1 c.requires.seat c.store.ensures.0 g.2 g.3;
      stored = ap (λ (m : M). get_or m.0.pieces c.args.piece 0) g.2
          ∙ (ap (λ (z : ℕ). get_or g.1 z 0) (sym back) ∙ (g.4 ∙ ap (λ (z : ℕ). z + 1) c.from.ensures));
    }
