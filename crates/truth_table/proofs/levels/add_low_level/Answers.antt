use Rattle.std.proofs.Common.{◌+◌, ◌*◌, ℕ, List, length, map, take, refl, sym, ap, ◌∙◌, subst, arith}
use Rattle.truth_table.specs.Numberings.{pairs_of}
use Rattle.truth_table.specs.Levels.{IsNumbered, children_from, node_named}
use Rattle.truth_table.proofs.NumberedNodes.{children_none, level_done, level_more, level_none, seeks_few}
use Rattle.truth_table.proofs.TabledNumbers.{tabled_none}
use Rattle.std.proofs.lemmas.Grind.{common_steps}
use Rattle.std.proofs.lemmas.List.{get_or_read}
use Rattle.truth_table.proofs.levels.add_low_level.Goals as goal

pub loop-j-init : goal.loop-j-init
loop-j-init c =
    let nodes = c.args.nodes.now.items in
    record {
      numbered = level_none (length nodes) c.args.x nodes refl;
      within = omega arith;
      few = omega arith;
      long = refl;
      rest = λ k h. refl;
      tabled = tabled_none (length nodes) (children_from (length nodes) nodes) _ (children_none nodes) refl;
    }

pub tabled_number-requires-clause-low : goal.tabled_number-requires-clause-low
tabled_number-requires-clause-low c =
    let j = c.loop-j.j in
    let inv = c.loop-j.invariant in
    let low = get_or_read c.loop-j.numbers.items (2 * j) _ (omega arith) c.index-low.ensures 0 in
    let here = inv.rest (2 * j) (omega arith) in
    let small = c.requires.small (2 * j) 0 (omega arith) in
    omega (arith, low, here, small)

pub tabled_number-requires-clause-high : goal.tabled_number-requires-clause-high
tabled_number-requires-clause-high c =
    let j = c.loop-j.j in
    let inv = c.loop-j.invariant in
    let high = get_or_read c.loop-j.numbers.items (2 * j + 1) _ (omega arith) c.index-high.ensures 0 in
    let here = inv.rest (2 * j + 1) (omega arith) in
    let small = c.requires.small (2 * j + 1) 0 (omega arith) in
    omega (arith, high, here, small)

pub loop-j-preserved : goal.loop-j-preserved
loop-j-preserved c =
    let old = c.args.nodes.now.items in
    let inv = c.loop-j.invariant in
    let ns = c.loop-j.numbers.items in
    let j = c.loop-j.j in
    let low = get_or_read ns (2 * j) _ (omega arith) c.index-low.ensures 0 in
    let high = get_or_read ns (2 * j + 1) _ (omega arith) c.index-high.ensures 0 in
    let found = c.in_ok-numbers.ensures.number (length old) inv.within inv.tabled in
    let few = seeks_few (length old) c.args.x _ c.loop-j.nodes.items c.tabled_number.new.nodes.items c.in_ok-numbers.field-0 found in
    record {
      numbered = level_more (length old) c.args.x old c.args.numbers.now.items ns j c.loop-j.nodes.items c.tabled_number.new.nodes.items _
          c.in_ok-numbers.field-0 refl (omega arith) inv.long inv.rest (λ i. (low i, high i)) inv.numbered found;
      within = omega (arith, few.0, inv.within);
      few = omega (arith, few.1, inv.few);
      long = grind (arith, common_steps);
      rest = λ k h. grind (arith, common_steps, inv.rest k (omega arith));
      tabled = c.in_ok-numbers.ensures.tabled (length old) inv.within inv.tabled;
    }

pub returns : goal.returns
returns c =
    let old = c.args.nodes.now.items in
    level_done (length old) c.args.x old c.args.numbers.now.items c.truncate.new.self.items c.loop-j.j c.loop-j.nodes.items (omega arith)
    (subst (λ (ns : List ℕ). IsNumbered c.args.x (map node_named old) (take c.loop-j.j (pairs_of c.args.numbers.now.items))
    (children_from (length old) c.loop-j.nodes.items) (map node_named c.loop-j.nodes.items) ns)
    (sym (c.truncate.ensures.items ∙ ap (λ k. take k c.loop-j.numbers.items) (omega arith))) c.loop-j.invariant.numbered)
