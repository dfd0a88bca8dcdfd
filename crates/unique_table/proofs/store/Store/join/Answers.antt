use Rattle.std.proofs.Common.{sym, ap, ◌∙◌, subst, arith}
use Rattle.node_words.specs.Nodes.{Grows}
use Rattle.unique_table.specs.Stakes.{IsNoLess}
use Rattle.unique_table.proofs.Stakes.{no_less_first, no_less_second}
use Rattle.unique_table.proofs.Rule.{M, may_join}
use Rattle.unique_table.proofs.OpenedStores.{seat_of, goes_grown, unique_ids}
use Rattle.unique_table.proofs.store.Store.join.Goals as goal

pub join_seat-requires : goal.join_seat-requires
join_seat-requires c = grind (arith, seat_of, may_join)

pub returns-clause-one : goal.returns-clause-one
returns-clause-one c =
    goes_grown c.self.inside c.one.inside c.args.self.now c.args.one c.self.view_is c.one.view_is c.self.invariant c.one.invariant
    c.requires.one c.look.new.seat c.look.ensures.step.seat
    (subst (IsNoLess c.one.inside.seat.me.0.stake)
    (sym (c.look.ensures.step.view.stake ∙ ap (λ (m : M). m.0.stake) c.join_seat.ensures.2))
    (no_less_first c.one.inside.seat.me.0.stake c.two.inside.seat.me.0.stake))
    (subst (λ (m : M). Grows m.0.seen c.look.new.seat.me.0.seen) c.join_seat.ensures.2 c.look.ensures.step.view.nodes)
    (subst (λ (m : M). Grows m.0.pieces c.look.new.seat.me.0.pieces) c.join_seat.ensures.2 c.look.ensures.step.view.pieces)

pub returns-clause-two : goal.returns-clause-two
returns-clause-two c =
    goes_grown c.self.inside c.two.inside c.args.self.now c.args.two c.self.view_is c.two.view_is c.self.invariant c.two.invariant
    c.requires.two c.look.new.seat c.look.ensures.step.seat
    (subst (IsNoLess c.two.inside.seat.me.0.stake)
    (sym (c.look.ensures.step.view.stake ∙ ap (λ (m : M). m.0.stake) c.join_seat.ensures.2))
    (no_less_second c.one.inside.seat.me.0.stake c.two.inside.seat.me.0.stake))
    (subst (λ (m : M). Grows m.0.received c.look.new.seat.me.0.seen) c.join_seat.ensures.2 c.look.ensures.step.view.received)
    (subst (λ (m : M). Grows m.0.pieces_received c.look.new.seat.me.0.pieces) c.join_seat.ensures.2 c.look.ensures.step.view.pieces_received)

pub returns-clause-unique : goal.returns-clause-unique
returns-clause-unique c = unique_ids c.self.inside c.self.invariant c.look.new.seat c.look.ensures.step.seat
