use Rattle.std.proofs.Common.{length, ap, ◌∙◌, sym, subst, arith, cond, eqb}
use Rattle.std.specs.Int.{bit_at}
use Rattle.std.specs.List.{filter}
use Rattle.std.proofs.lemmas.List.{get_or-replicate}
use Rattle.compaction.specs.Strips.{low_variables, masks_in_use}
use Rattle.subfunction_classes.specs.PairTables.{AllBelow}
use Rattle.subfunction_classes.specs.Table.{classes_of}
use Rattle.compaction.proofs.AllDistinct.{distinct_row, table_distinct, table_strips}
use Rattle.compaction.proofs.UsedNumbers.{all_in_use, few_in_use, strips_row}
use Rattle.compaction.proofs.strips.Strips.width_row.Goals as goal

pub row_of-requires : goal.row_of-requires
row_of-requires c =
    let h = table_strips (classes_of c.self.inside.problem.now c.self.inside.set) c.args.self.now c.self.inside.distinct c.self.inside.outer.items
    c.self.inside.keys.numbers.items c.self.inside.keys.masks.items c.self.view_is c.self.invariant c.in-None.is in
    let few = h.keys.few_masks in
    let same = ap length c.deref.ensures.value in
    omega arith

pub row_of-requires-in-None : goal.row_of-requires-in-None
row_of-requires-in-None c =
    let h = table_strips (classes_of c.self.inside.problem.now c.self.inside.set) c.args.self.now c.self.inside.distinct c.self.inside.outer.items
    c.self.inside.keys.numbers.items c.self.inside.keys.masks.items c.self.view_is c.self.invariant c.in-None.is in
    let few = h.keys.few_masks in
    grind (arith, few_in_use)

pub used_masks-requires : goal.used_masks-requires
used_masks-requires c =
    let h = table_strips (classes_of c.self.inside.problem.now c.self.inside.set) c.args.self.now c.self.inside.distinct c.self.inside.outer.items
    c.self.inside.keys.numbers.items c.self.inside.keys.masks.items c.self.view_is c.self.invariant c.in-None.is in
    record { below = subst (λ z. z) (λ i. AllBelow (sym c.deref-in-None.ensures.value i) (length (sym c.deref-in-None-2.ensures.value i))) h.below }

pub returns-in-Some : goal.returns-in-Some
returns-in-Some c =
    λ x small. distinct_row c.args.self.now c.in-Some.count
    (table_distinct (classes_of c.self.inside.problem.now c.self.inside.set) c.args.self.now c.self.inside.distinct c.in-Some.count
    c.self.inside.outer.items c.self.inside.keys.numbers.items c.self.inside.keys.masks.items c.self.view_is c.self.invariant c.in-Some.is)
    c.args.wanted x _ (c.requires x)
    (c.members_only.ensures x small ∙ ap (λ w. cond (eqb (bit_at c.args.wanted x) 1) w 0) (get_or-replicate 16 x c.in-Some.count 0 small))

pub returns-then-self : goal.returns-then-self
returns-then-self c = λ x small.
    let h = table_strips (classes_of c.self.inside.problem.now c.self.inside.set) c.args.self.now c.self.inside.distinct c.self.inside.outer.items
    c.self.inside.keys.numbers.items c.self.inside.keys.masks.items c.self.view_is c.self.invariant c.in-None.is in
    strips_row c.args.self.now (low_variables c.args.self.now.problem) c.self.inside.outer.items c.self.inside.keys.numbers.items
    c.self.inside.keys.masks.items h c.args.wanted x _ (c.requires x)
    (c.row_of.ensures x small
    ∙ ap (λ ms. cond (eqb (bit_at c.args.wanted x) 1) (length (filter (λ m. eqb (bit_at m x) 1) ms)) 0)
    (c.deref.ensures.value ∙ sym (all_in_use c.self.inside.keys.numbers.items c.self.inside.keys.masks.items (c.self.inside.keys.used c.if-self.true))))

pub returns-in_ok-used-in-None : goal.returns-in_ok-used-in-None
returns-in_ok-used-in-None c = λ x small.
    let h = table_strips (classes_of c.self.inside.problem.now c.self.inside.set) c.args.self.now c.self.inside.distinct c.self.inside.outer.items
    c.self.inside.keys.numbers.items c.self.inside.keys.masks.items c.self.view_is c.self.invariant c.in-None.is in
    strips_row c.args.self.now (low_variables c.args.self.now.problem) c.self.inside.outer.items c.self.inside.keys.numbers.items
    c.self.inside.keys.masks.items h c.args.wanted x _ (c.requires x)
    (c.row_of-in-None.ensures x small
    ∙ ap (λ ms. cond (eqb (bit_at c.args.wanted x) 1) (length (filter (λ m. eqb (bit_at m x) 1) ms)) 0)
    (c.deref-in-None-3.ensures.value ∙ c.in_ok-used-in-None.ensures
    ∙ (λ i. masks_in_use (c.deref-in-None.ensures.value i) (c.deref-in-None-2.ensures.value i))))
