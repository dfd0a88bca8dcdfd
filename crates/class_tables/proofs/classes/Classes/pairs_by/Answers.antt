use Rattle.std.proofs.Common.{refl, sym, ap, ◌∙◌, subst, arith}
use Rattle.subfunction_classes.specs.Table.{ClassesOf, HoldsClasses, free_below}
use Rattle.subfunction_classes.proofs.OneMoreVariable.{is_ready, ready_table}
use Rattle.class_tables.proofs.classes.Classes.pairs_by.Goals as goal

pub of_table-requires : goal.of_table-requires
of_table-requires c = grind (arith, is_ready, ready_table)

pub invariant_of-result : goal.invariant_of-result
invariant_of-result c =
    record {
      few_entries = grind (arith, is_ready, ready_table);
      below = grind (arith, is_ready, ready_table);
      few = grind (arith, is_ready);
      variable = grind (arith, is_ready);
    }

pub returns-clause-classes : goal.returns-clause-classes
returns-clause-classes c =
    let h = subst (λ (z : ClassesOf). HoldsClasses z c.self.inside.numbers.items c.self.inside.masks.items) c.self.view_is c.self.invariant in
    subst (λ z. z) (λ i. HoldsClasses c.args.self.now (sym (c.of_table.ensures.numbers ∙ c.deref.ensures.value) i) (sym c.deref-2.ensures.value i)) h

pub returns-clause-rank : goal.returns-clause-rank
returns-clause-rank c =
    c.of_table.ensures.rank ∙ c.rank_of-rank.ensures ∙ ap (λ (z : ClassesOf). free_below z.set c.args.x) c.self.view_is

pub returns-clause-variable : goal.returns-clause-variable
returns-clause-variable c = refl
