use Rattle.std.proofs.Common.{ℕ, ◌+◌, ◌*◌, ◌<◌, ◌∙◌, subst, arith}
use Rattle.node_words.specs.Nodes.{home}
use Rattle.node_words.proofs.OneMoreNode.{grows_refl, node_grows}
use Rattle.node_words.proofs.NewNodes.{one_more, full_for}
use Rattle.unique_table.specs.Plans.{levels_of}
use Rattle.unique_table.proofs.Puts.{gains_none}
use Rattle.unique_table.proofs.Steps.{searches_on}
use Rattle.unique_table.proofs.words.find_or_put.Goals as goal

pub loop-passed-init : goal.loop-passed-init
loop-passed-init c = grind (arith, grows_refl, gains_none)

pub loop-passed-preserved : goal.loop-passed-preserved
loop-passed-preserved c = let i = c.loop-passed.invariant in record {
  searches = searches_on c.args.shared.now c.args.seat.now c.loop-passed.seat c.take.new.seat c.args.word (2 * c.loop-passed.passed) 2
      (2 * (c.loop-passed.passed + 1)) (omega arith) i.searches c.take.ensures.searches;
  word = record {
    some = i.word.some;
    node = node_grows (levels_of c.args.shared.now.key) c.loop-passed.seat.me.0.seen c.take.new.seat.me.0.seen c.args.word
        c.take.ensures.searches.view.nodes i.word.node;
  };
  before = one_more c.loop-passed.seat.me.0.seen c.take.new.seat.me.0.seen c.args.places c.args.word c.loop-passed.passed
      c.probe-place.result c.take.ensures.searches.view.nodes i.before
      (c.probe-place.ensures.is c.args.word c.start-start.ensures.is) c.if-take.ensures.found;
  writes = c.if-take.ensures.writes ∙ i.writes;
}

pub returns-clause-full : goal.returns-clause-full
returns-clause-full c =
    let within : home c.args.places c.args.word < c.args.places = subst (λ (z : ℕ). z < c.args.places) c.start-start.ensures.is c.start-start.ensures.within in
    full_for c.loop-passed.seat.me.0.seen c.args.places c.args.word c.loop-passed.passed within
    (omega arith) c.loop-passed.invariant.before

pub returns-then-take-clause-searches : goal.returns-then-take-clause-searches
returns-then-take-clause-searches c =
    searches_on c.args.shared.now c.args.seat.now c.loop-passed.seat c.take.new.seat c.args.word (2 * c.loop-passed.passed) 2
    (2 * c.args.places) (omega arith) c.loop-passed.invariant.searches c.take.ensures.searches
