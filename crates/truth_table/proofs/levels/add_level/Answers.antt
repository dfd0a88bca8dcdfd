use Rattle.std.proofs.Common.{◌≡◌, ◌+◌, ◌*◌, ℕ, List, length, map, take, sym, ap, ◌∙◌, subst, arith}
use Rattle.truth_table.specs.Numberings.{pairs_of}
use Rattle.truth_table.specs.Levels.{IsNumbered, children_from, node_named}
use Rattle.truth_table.proofs.NumberedNodes.{children_none, level_done, level_more, level_none, seeks_few}
use Rattle.std.proofs.lemmas.Grind.{common_steps}
use Rattle.std.proofs.lemmas.List.{get_or_read}
use Rattle.truth_table.proofs.levels.add_level.Goals as goal
use Rattle.truth_table.proofs.levels.add_level.Goals.{then-hashes, else-hashes}
use Rattle.std.proofs.lemmas.Bool.{ltb-true}

pub loop-j-init : goal.loop-j-init
loop-j-init c =
    let none = children_none c.args.nodes.now.items in
    let base : c.len-base.result ≡ length c.args.nodes.now.items = omega arith in
    record {
      numbered = level_none c.len-base.result c.args.x c.args.nodes.now.items base;
      base = base;
      within = omega arith;
      few = omega arith;
      long = grind arith;
      rest = λ k h. grind arith;
      pairs = λ h. elim c.if-hashes.branch [
        | then-hashes w ↦ ap (λ p. p.keys) w.pairs-is ∙ w.clear.ensures.empty ∙ sym (ap (λ b. children_from b c.args.nodes.now.items) base ∙ none)
        | else-hashes w ↦ absurd (omega (arith, ltb-true _ _ h, w.if-hashes.false))
      ];
    }

pub loop-j-preserved : goal.loop-j-preserved
loop-j-preserved c =
    let before = c.loop-j.invariant in
    let ns = c.loop-j.numbers.items in
    let j = c.loop-j.j in
    let low = get_or_read ns (2 * j) _ (omega arith) c.index.ensures 0 in
    let high = get_or_read ns (2 * j + 1) _ (omega arith) c.index-in-loop-j.ensures 0 in
    let few = seeks_few c.len-base.result c.args.x _ c.loop-j.nodes.items c.number_over.new.nodes.items c.in_ok-numbers.field-0
    c.in_ok-numbers.ensures.number in
    record {
      numbered = level_more c.len-base.result c.args.x c.args.nodes.now.items c.args.numbers.now.items c.loop-j.numbers.items c.loop-j.j c.loop-j.nodes.items
          c.number_over.new.nodes.items _ c.in_ok-numbers.field-0 before.base (omega arith) before.long before.rest (λ i. (low i, high i))
          before.numbered c.in_ok-numbers.ensures.number;
      base = before.base;
      within = omega (arith, few.0);
      few = omega (arith, few.1);
      long = grind (arith, common_steps);
      rest = λ k h. grind (arith, common_steps, before.rest k (omega arith));
      pairs = c.in_ok-numbers.ensures.pairs;
    }

pub returns : goal.returns
returns c =
    level_done c.len-base.result c.args.x c.args.nodes.now.items c.args.numbers.now.items c.truncate.new.self.items c.loop-j.j c.loop-j.nodes.items
    (omega arith)
    (subst (λ (ns : List ℕ). IsNumbered c.args.x (map node_named c.args.nodes.now.items) (take c.loop-j.j (pairs_of c.args.numbers.now.items))
    (children_from c.len-base.result c.loop-j.nodes.items) (map node_named c.loop-j.nodes.items) ns)
    (sym (c.truncate.ensures.items ∙ ap (λ k. take k c.loop-j.numbers.items) (omega arith))) c.loop-j.invariant.numbered)

pub add_low_level-requires-clause-small : goal.add_low_level-requires-clause-small
add_low_level-requires-clause-small c k d h = let below = c.requires.refs k d h in omega (arith, below)
