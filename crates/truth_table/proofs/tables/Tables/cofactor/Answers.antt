use Rattle.std.proofs.Common.{◌≡◌, length, sym, ap, ◌∙◌, subst, eq-eqb, ne_eqb, eqb-true}
use Rattle.std.proofs.lemmas.Bool.{iff_false}
use Rattle.std.proofs.lemmas.List.{with_items_is}
use Rattle.definitions.specs.Functions.{from_table, table}
use Rattle.definitions.specs.Problems.{IsClean, table_at, table_in}
use Rattle.definitions.proofs.Lists.Orders.{same_bool}
use Rattle.truth_table.specs.Restrictions.{fixed}
use Rattle.truth_table.proofs.Cofactors.{cofactor_start, cofactor_step, members_less}
use Rattle.truth_table.proofs.tables.Tables.cofactor.Goals as goal
use Rattle.truth_table.proofs.tables.Tables.cofactor.Goals.{then-contains, else-contains}

pub loop-x-init : goal.loop-x-init
loop-x-init c =
    let start =
    cofactor_start c.self.inside.problem c.args.self.now c.inputs-n.result c.args.output c.args.care c.args.value c.words.result.now
    c.in_ok-words.words.items c.self.view_is c.inputs-n.ensures.value
    c.words.ensures.long c.words.ensures.table c.words.ensures.clean (c.in_ok-words.ensures.items_if_clones_equal (λ x y e. e)) in
    record { table = start.0; long = start.1; clean = start.2 }

pub loop-x-preserved : goal.loop-x-preserved
loop-x-preserved c =
    let n = c.inputs-n.result in
    let x = c.loop-x.x in
    let t = table_at c.args.self.now c.args.output in
    elim c.if-contains.branch [
      | then-contains w ↦
          let whole : length w.fix_variable.new.words ≡ c.loop-x.words.len = w.fix_variable.auto.words ∙ ap length w.deref_mut.ensures.value
          ∙ sym c.loop-x.words.ok.0 in
          let after : c.if-contains.words.items ≡ w.fix_variable.new.words = ap (λ v. v.items) w.words-is
          ∙ with_items_is c.loop-x.words w.fix_variable.new.words whole in
          record {
            table = cofactor_step n x c.args.care c.args.value t c.loop-x.words.items w.deref_mut.result.now w.fix_variable.new.words
                c.if-contains.words.items w.contains-then-contains.result
                (eq-eqb _ _ (c.contains.ensures.0 w.if-contains.true))
                (same_bool _ _ (λ e. eq-eqb _ _ (w.contains-then-contains.ensures.0 e)) (λ e. w.contains-then-contains.ensures.1 (eqb-true _ _ e)))
                c.loop-x.invariant.table
                w.deref_mut.ensures.value w.fix_variable.ensures.table after;
            long = ap length after ∙ w.fix_variable.ensures.long;
            clean = subst (IsClean n) (sym after) w.fix_variable.ensures.clean;
          }
      | else-contains w ↦
          let after : c.if-contains.words.items ≡ c.loop-x.words.items = ap (λ v. v.items) w.words-is in
          record {
            table = ap (table_in n) after ∙ c.loop-x.invariant.table
                ∙ sym (ap (λ xs. table n (fixed xs c.args.value (from_table t)))
                (members_less x c.args.care (ne_eqb _ _ (iff_false c.contains.ensures w.if-contains.false))));
            long = ap length after ∙ c.loop-x.invariant.long;
            clean = subst (IsClean n) (sym after) c.loop-x.invariant.clean;
          }
    ]
