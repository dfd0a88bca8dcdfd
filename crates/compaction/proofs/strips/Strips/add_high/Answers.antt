use Rattle.std.proofs.Common.{◌-◌, ◌/◌, bit_or, sym, ap, ◌∙◌, subst, arith}
use Rattle.std.proofs.lemmas.Grind.{common_steps}
use Rattle.std.proofs.lemmas.Nat.{one_shl}
use Rattle.compaction.specs.Strips.{AreDistinct, GrowsStrips, HoldsStrips, IsStripTable, low_variables}
use Rattle.subfunction_classes.specs.Table.{ClassesOf, classes_of, free_below}
use Rattle.compaction.proofs.AllDistinct.{distinct_more, table_distinct, table_strips}
use Rattle.compaction.proofs.HeldStrips.{free_split, table_high, holds_high}
use Rattle.compaction.proofs.strips.Strips.add_high.Goals as goal

pub overflow_sub-rank : goal.overflow_sub-rank
overflow_sub-rank c = grind (arith, free_split)

pub invariant_of-table : goal.invariant_of-table
invariant_of-table c =
    let h = table_strips (classes_of c.self.inside.problem.now c.self.inside.set) c.args.self.now c.self.inside.distinct c.self.inside.outer.items
    c.self.inside.keys.numbers.items c.self.inside.keys.masks.items c.self.view_is c.self.invariant c.in-None.is in
    let b = c.rank_of-bits.ensures ∙ ap (free_below c.self.inside.set) c.low_variables.ensures
    ∙ ap (λ (z : ClassesOf). free_below z.set (low_variables z.problem)) c.self.view_is in
    let e = c.rank_of.ensures ∙ ap (λ (z : ClassesOf). free_below z.set c.args.x) c.self.view_is in
    let s = free_split c.args.self.now.set (low_variables c.args.self.now.problem) c.args.x c.requires.high in
    let rank = c.rank_of.result - c.rank_of-bits.result in
    subst (λ z. z)
    (λ i. IsStripTable (sym c.deref.ensures.value i) rank (sym c.deref-in-None.ensures.value i) (sym b i)
    (sym c.deref-in-None-2.ensures.value i))
    (table_high c.args.self.now c.args.x c.requires.inside c.requires.new (low_variables c.args.self.now.problem) c.self.inside.outer.items
    c.self.inside.keys.numbers.items c.self.inside.keys.masks.items h c.requires.high rank (omega arith))

pub of_parts-requires : goal.of_parts-requires
of_parts-requires c =
    let h = table_strips (classes_of c.self.inside.problem.now c.self.inside.set) c.args.self.now c.self.inside.distinct c.self.inside.outer.items
    c.self.inside.keys.numbers.items c.self.inside.keys.masks.items c.self.view_is c.self.invariant c.in-None.is in
    let b = c.rank_of-bits.ensures ∙ ap (free_below c.self.inside.set) c.low_variables.ensures
    ∙ ap (λ (z : ClassesOf). free_below z.set (low_variables z.problem)) c.self.view_is in
    let e = c.rank_of.ensures ∙ ap (λ (z : ClassesOf). free_below z.set c.args.x) c.self.view_is in
    let s = free_split c.args.self.now.set (low_variables c.args.self.now.problem) c.args.x c.requires.high in
    let few = h.keys.few_inputs in
    let inside = c.requires.inside in
    let o = one_shl c.args.x 16 (omega arith) in
    let rank = c.rank_of.result - c.rank_of-bits.result in
    let outer = c.in_ok-outer-in-None.outer.items in
    let keys = c.in_ok-outer-in-None.keys in
    let grown =
    subst (λ z. z)
    (λ i. GrowsStrips
    (record {
      outer = c.deref.ensures.value i;
      rank = rank;
      numbers = c.deref-in-None.ensures.value i;
      bits = b i;
      masks = c.deref-in-None-2.ensures.value i;
    })
    c.args.x outer keys.numbers.items keys.masks.items)
    c.in_ok-outer-in-None.ensures in
    let k = holds_high c.args.self.now c.args.x c.requires.inside c.requires.new (low_variables c.args.self.now.problem)
    c.self.inside.outer.items c.self.inside.keys.numbers.items c.self.inside.keys.masks.items h
    c.requires.high rank (omega arith) outer keys.numbers.items keys.masks.items grown in
    subst (λ (z : ClassesOf). HoldsStrips z (low_variables z.problem) outer keys.numbers.items keys.masks.items)
    (λ i. classes_of (sym c.self.view_is i).problem (bit_or (sym c.self.view_is i).set (sym o i))) k

pub of_count-requires : goal.of_count-requires
of_count-requires c =
    let d = (table_distinct (classes_of c.self.inside.problem.now c.self.inside.set) c.args.self.now c.self.inside.distinct c.in-Some.count
    c.self.inside.outer.items c.self.inside.keys.numbers.items c.self.inside.keys.masks.items c.self.view_is c.self.invariant c.in-Some.is) in
    let few = d.keys.few_inputs in
    let i' = c.requires.inside in
    let s = one_shl c.args.x 16 (omega arith) in
    subst (λ (z : ClassesOf). AreDistinct z (c.in-Some.count / 2))
    (λ i. classes_of (sym c.self.view_is i).problem (bit_or (sym c.self.view_is i).set (sym s i)))
    (distinct_more c.args.self.now c.in-Some.count d c.args.x c.requires.inside c.requires.new)

pub returns-in-Some : goal.returns-in-Some
returns-in-Some c =
    let inside = c.requires.inside in
    let few = c.inputs.ensures.few in
    let same = c.inputs.ensures.value ∙ ap (λ (z : ClassesOf). z.problem.inputs) c.self.view_is in
    let s = one_shl c.args.x 16 (omega arith) in
    c.of_count.ensures ∙ (λ i. classes_of (c.self.view_is i).problem (bit_or (c.self.view_is i).set (s i)))

pub returns-in_ok-outer-in-None : goal.returns-in_ok-outer-in-None
returns-in_ok-outer-in-None c =
    let inside = c.requires.inside in
    let few = c.inputs.ensures.few in
    let same = c.inputs.ensures.value ∙ ap (λ (z : ClassesOf). z.problem.inputs) c.self.view_is in
    let s = one_shl c.args.x 16 (omega arith) in
    c.of_parts.ensures ∙ (λ i. classes_of (c.self.view_is i).problem (bit_or (c.self.view_is i).set (s i)))

pub add_above-requires : goal.add_above-requires
add_above-requires c = grind (arith, common_steps)

pub rank_of-requires : goal.rank_of-requires
rank_of-requires c = grind (arith, common_steps)
