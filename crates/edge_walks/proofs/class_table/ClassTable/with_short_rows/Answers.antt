use Rattle.std.proofs.Common.{◌≡◌, ℕ, ◌+◌, ◌-◌, ◌*◌, ◌≤◌, ◌%◌, ◌^◌, ◌++◌, length, sym, ap, subst, ◌∙◌, arith}
use Rattle.std.specs.Option.{IfSome}
use Rattle.subfunction_classes.specs.Table.{HoldsClasses}
use Rattle.edge_walks.specs.Rows.{IsShortened}
use Rattle.edge_walks.specs.Tables.{HoldsTable, TableOf, classes_at, table_at}
use Rattle.subfunction_classes.proofs.HighSets.{double}
use Rattle.edge_walks.proofs.Rows.{short_finer, short_then}
use Rattle.edge_walks.proofs.ShortenedTables.{ready, rows}
use Rattle.edge_walks.proofs.class_table.ClassTable.with_short_rows.Goals as goal

pub without_repeats-requires-clause-few : goal.without_repeats-requires-clause-few
without_repeats-requires-clause-few c =
    let t = table_at c.self.inside.problem.now c.self.inside.set c.self.inside.level in
    let h = subst (λ f. HoldsTable t f c.self.inside.numbers.items c.self.inside.masks.items) c.in-None.is c.self.invariant in
    let y = c.args.y in
    let next : y ≡ y - 1 + 1 = omega arith in
    let inside = subst (λ (z : TableOf). y ≤ z.problem.inputs) (sym c.self.view_is) c.requires.inside in
    let free = subst (λ (z : TableOf). z.set % 2 ^ y ≡ 0) (sym c.self.view_is) c.requires.free in
    let r = ready t (y - 1) (omega arith) (omega arith) (ap (λ k. c.self.inside.set % 2 ^ k) (sym next) ∙ free) c.self.inside.numbers.items
    c.self.inside.masks.items h in
    omega arith

pub without_repeats-requires-clause-rows : goal.without_repeats-requires-clause-rows
without_repeats-requires-clause-rows c =
    let t = table_at c.self.inside.problem.now c.self.inside.set c.self.inside.level in
    let h = subst (λ f. HoldsTable t f c.self.inside.numbers.items c.self.inside.masks.items) c.in-None.is c.self.invariant in
    let y = c.args.y in
    let next : y ≡ y - 1 + 1 = omega arith in
    let inside = subst (λ (z : TableOf). y ≤ z.problem.inputs) (sym c.self.view_is) c.requires.inside in
    let free = subst (λ (z : TableOf). z.set % 2 ^ y ≡ 0) (sym c.self.view_is) c.requires.free in
    let r = rows t (y - 1) (omega arith) (omega arith) (ap (λ k. c.self.inside.set % 2 ^ k) (sym next) ∙ free) c.self.inside.numbers.items
    c.self.inside.masks.items h in
    (r.0, ap length c.deref.ensures.value ∙ r.1 ∙ ap (λ k. r.0 * k) (omega (arith, double (y - 1) y next)))

pub invariant_of-result : goal.invariant_of-result
invariant_of-result c =
    let t = table_at c.self.inside.problem.now c.self.inside.set c.self.inside.level in
    let h = subst (λ f. HoldsTable t f c.self.inside.numbers.items c.self.inside.masks.items) c.in-None.is c.self.invariant in
    let numbers = c.in-Some-shorter.numbers.items in
    let e = subst (λ o. IfSome o (λ v. (steps : ℕ) × IsShortened (2 ^ c.args.y) steps c.deref.result.now v.items)) c.in-Some-shorter.is
    c.in_ok-shorter-in-None.ensures in
    let from = subst (λ us. IsShortened (2 ^ c.args.y) e.0 us numbers) c.deref.ensures.value e.1 in
    let both = short_then (2 ^ c.args.y) h.steps e.0 h.whole c.self.inside.numbers.items numbers
    (short_finer c.self.inside.level c.args.y h.steps h.whole c.self.inside.numbers.items (omega arith) h.short) from in
    let copied : c.in_ok-masks-in-None.masks.items ++ c.deref-in-None.result.now ≡ c.self.inside.masks.items =
    (λ i. c.in_ok-masks-in-None.ensures.items i ++ c.deref-in-None.ensures.value i) in
    record {
      whole = h.whole;
      steps = both.0;
      holds = subst (HoldsClasses (classes_at t) h.whole) (sym (c.in_ok-extend_from_slice-in-None.ensures.items ∙ copied)) h.holds;
      short = both.1;
    }
