use Rattle.std.proofs.Common.{◌≡◌, ℕ, ◌<◌, get_or, sym, ap, ◌∙◌, subst}
use mathlib.Core.Logic.{dite}
use native.Mathlib.Decide.{ℕ_discrete}
use Rattle.unique_table.specs.declared.plan.Plan.{Plan}
use Rattle.unique_table.specs.declared.session.View.{View}
use Rattle.unique_table.proofs.Steps.{after_goes, seat_after}
use Rattle.node_words.specs.Nodes.{probe, IsNode, IsTaken}
use Rattle.unique_table.specs.Plans.{levels_of}
use Rattle.unique_table.specs.Invariant.{putting}
use Rattle.unique_table.proofs.Rule.{M, may_put}
use Rattle.unique_table.proofs.words.put.Goals as goal

pub compare_exchange-requires : goal.compare_exchange-requires
compare_exchange-requires c =
    let plan = sym c.requires.seat.plan in let k = c.requires.next in let v : View = c.args.seat.now.me.0 in let here = k.here in let before = k.before in (
      c.requires.seat.table,
      c.requires.at.inside,
      may_put c.args.shared.now.key _ _ c.args.seat.now.me c.requires.seat.good.live c.args.place c.args.word k.passed
          (subst (λ (b : Plan). c.args.place < b.places) plan c.requires.at.node) c.requires.node.some
          (subst (λ (b : Plan). c.args.place ≡ probe b.places c.args.word k.passed) plan here)
          (subst (λ (b : Plan). (j : ℕ) → j < k.passed → IsTaken v.seen c.args.word (probe b.places c.args.word j)) plan before)
          (subst (λ (b : Plan). IsNode (levels_of b) v.seen c.args.word) plan c.requires.node.node),
    )

pub returns : goal.returns
returns c = record {
  seat = dite (ℕ_discrete c.compare_exchange.result 0)
      (λ none. let g = c.compare_exchange.ensures.2.0 none in
      let a = after_goes (putting c.args.word c.args.seat.now.me.0, c.args.seat.now.me.1) c.compare_exchange.new.seat.me 1 g.0 g.1 g.2 g.3 in
      record {
        table = c.compare_exchange.ensures.0 ∙ c.requires.seat.table;
        plan = a.plan ∙ c.requires.seat.plan;
        empty = ap (λ (m : M). m.1) g.2 ∙ c.requires.seat.empty;
        good = a.good;
      })
      (λ some. let g = c.compare_exchange.ensures.2.1 some in
      (seat_after c.args.shared.now c.args.seat.now c.compare_exchange.new.seat 0 g.0 g.1 c.requires.seat c.compare_exchange.ensures.0
      g.2 g.3).seat);
  empty = λ none. let g = c.compare_exchange.ensures.2.0 none in (
    after_goes (putting c.args.word c.args.seat.now.me.0, c.args.seat.now.me.1) c.compare_exchange.new.seat.me 1 g.0 g.1 g.2 g.3,
    ap (λ (m : M). get_or m.0.seen c.args.place 0) g.2 ∙ g.4,
  );
  full = λ some. let g = c.compare_exchange.ensures.2.1 some in (
    after_goes c.args.seat.now.me c.compare_exchange.new.seat.me 0 g.0 g.1 g.2 g.3,
    ap (λ (m : M). get_or m.0.seen c.args.place 0) g.2 ∙ g.4,
  );
}
