use Rattle.std.proofs.Common.{◌*◌, ◌/◌, ◌%◌, ◌^◌, bit_or, length, sym, ap, ◌∙◌, subst, arith}
use Rattle.std.proofs.lemmas.Nat.{one_shl}
use Rattle.compaction.specs.Strips.{AreDistinct, HoldsStrips, low_variables}
use Rattle.pair_numbering.specs.Keys.{TellsPairs}
use Rattle.subfunction_classes.specs.Places as places
use Rattle.subfunction_classes.specs.Table.{ClassesOf, classes_of, free_below}
use Rattle.compaction.proofs.AllDistinct.{distinct_more, table_distinct, table_strips}
use Rattle.compaction.proofs.HeldStrips.{table_low, holds_low}
use Rattle.compaction.proofs.strips.Strips.add_low.Goals as goal

pub of_table-requires : goal.of_table-requires
of_table-requires c =
    let h = table_strips (classes_of c.self.inside.problem.now c.self.inside.set) c.args.self.now c.self.inside.distinct c.self.inside.outer.items
    c.self.inside.keys.numbers.items c.self.inside.keys.masks.items c.self.view_is c.self.invariant c.in-None.is in
    grind (arith, table_low)

pub invariant_of-pairs : goal.invariant_of-pairs
invariant_of-pairs c =
    let h = table_strips (classes_of c.self.inside.problem.now c.self.inside.set) c.args.self.now c.self.inside.distinct c.self.inside.outer.items
    c.self.inside.keys.numbers.items c.self.inside.keys.masks.items c.self.view_is c.self.invariant c.in-None.is in
    let few = h.keys.few_masks in
    let same = ap length c.deref-in-None.ensures.value in
    record {
      few_entries = grind (arith, table_low);
      below = grind (arith, table_low);
      few = omega arith;
      variable = grind (arith, table_low);
    }

pub of_parts-requires : goal.of_parts-requires
of_parts-requires c =
    let l = c.requires.low in
    let h = table_strips (classes_of c.self.inside.problem.now c.self.inside.set) c.args.self.now c.self.inside.distinct c.self.inside.outer.items
    c.self.inside.keys.numbers.items c.self.inside.keys.masks.items c.self.view_is c.self.invariant c.in-None.is in
    let e = c.rank_of-rank.ensures ∙ ap (λ (z : ClassesOf). free_below z.set c.args.x) c.self.view_is in
    let few = h.keys.few_inputs in
    let s = one_shl c.args.x 16 (omega arith) in
    let p = c.of_table.ensures in
    let v = p.numbers ∙ c.deref.ensures.value in
    let m = c.deref-in-None.ensures.value in
    let k = holds_low c.args.self.now c.args.x (omega arith) c.requires.new (low_variables c.args.self.now.problem) c.self.inside.outer.items
    c.self.inside.keys.numbers.items c.self.inside.keys.masks.items h l
    c.in_ok-keys-in-None.keys.numbers.items c.in_ok-keys-in-None.keys.masks.items
    (subst (λ z. z) (λ i. TellsPairs (m i) c.args.x (places.pairs (v i) (2 ^ (p.rank ∙ e) i))
    c.in_ok-keys-in-None.keys.numbers.items c.in_ok-keys-in-None.keys.masks.items)
    c.in_ok-keys-in-None.ensures) in
    let outer = c.in_ok-outer-in-None.ensures.items_if_clones_equal (λ x y h. h) ∙ c.deref-in-None-2.ensures.value in
    subst (λ us. HoldsStrips (classes_of c.self.inside.problem.now (bit_or c.self.inside.set (1 * 2 ^ c.args.x % 2 ^ 16)))
    (low_variables c.self.inside.problem.now) us c.in_ok-keys-in-None.keys.numbers.items c.in_ok-keys-in-None.keys.masks.items) (sym outer)
    (subst (λ (z : ClassesOf). HoldsStrips z (low_variables z.problem) c.self.inside.outer.items c.in_ok-keys-in-None.keys.numbers.items
    c.in_ok-keys-in-None.keys.masks.items)
    (λ i. classes_of (sym c.self.view_is i).problem (bit_or (sym c.self.view_is i).set (sym s i))) k)

pub of_count-requires : goal.of_count-requires
of_count-requires c =
    let l = c.requires.low in
    let d = (table_distinct (classes_of c.self.inside.problem.now c.self.inside.set) c.args.self.now c.self.inside.distinct c.in-Some.count
    c.self.inside.outer.items c.self.inside.keys.numbers.items c.self.inside.keys.masks.items c.self.view_is c.self.invariant c.in-Some.is) in
    let few = d.keys.few_inputs in
    let s = one_shl c.args.x 16 (omega arith) in
    subst (λ (z : ClassesOf). AreDistinct z (c.in-Some.count / 2))
    (λ i. classes_of (sym c.self.view_is i).problem (bit_or (sym c.self.view_is i).set (sym s i)))
    (distinct_more c.args.self.now c.in-Some.count d c.args.x (omega arith) c.requires.new)
