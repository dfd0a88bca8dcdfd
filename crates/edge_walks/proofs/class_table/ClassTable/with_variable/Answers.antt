use Rattle.std.proofs.Common.{◌≡◌, ◌+◌, ◌<◌, ◌/◌, ◌%◌, ◌^◌, bit_or, sym, subst, ◌∙◌, arith}
use Rattle.std.proofs.lemmas.Nat.{one_shl}
use Rattle.subfunction_classes.specs.PairTables.{NumbersPairs}
use Rattle.subfunction_classes.specs.Places.{pairs}
use Rattle.edge_walks.specs.Tables.{HoldsRows, HoldsTable, IsFull, TableOf, table_at}
use Rattle.edge_walks.proofs.Full.{full_more}
use Rattle.edge_walks.proofs.ShortenedTables.{pair_table, ready, rows_more}
use Rattle.edge_walks.proofs.class_table.ClassTable.with_variable.Goals as goal

pub of_table-requires : goal.of_table-requires
of_table-requires c = grind (arith, pair_table, ready)

pub invariant_of-pairs : goal.invariant_of-pairs
invariant_of-pairs c =
    record {
      few_entries = grind (arith, pair_table, ready);
      below = grind (arith, pair_table, ready);
      few = grind (arith, pair_table, ready);
      variable = grind (arith, pair_table, ready);
    }

pub table_of-requires : goal.table_of-requires
table_of-requires c =
    let t = table_at c.self.inside.problem.now c.self.inside.set c.self.inside.level in
    let ns = c.self.inside.numbers.items in
    let ms = c.self.inside.masks.items in
    let rows = subst (λ f. HoldsTable t f ns ms) c.in-None.is c.self.invariant in
    let inside = subst (λ (z : TableOf). c.args.x < z.problem.inputs) (sym c.self.view_is) c.requires.inside in
    let below = subst (λ (z : TableOf). c.args.x < z.level) (sym c.self.view_is) c.requires.below in
    let free = subst (λ (z : TableOf). z.set % 2 ^ (c.args.x + 1) ≡ 0) (sym c.self.view_is) c.requires.free in
    let out = c.in_ok-numbered-in-None.numbered.numbers.items in
    let joined = c.in_ok-numbered-in-None.numbered.masks.items in
    let t' = c.of_table.ensures in
    let masks = c.deref-in-None.ensures.value in
    let numbers = t'.numbers ∙ c.deref.ensures.value in
    let rank = t'.rank ∙ c.from.ensures in
    let made = subst (λ z. z) (λ i. NumbersPairs (masks i) c.args.x (pairs (numbers i) (2 ^ rank i)) out joined)
    c.in_ok-numbered-in-None.ensures in
    let s = one_shl c.args.x 16 (omega arith) in
    subst (λ k. HoldsRows (table_at c.self.inside.problem.now (bit_or c.self.inside.set k) c.args.x) out joined) (sym s)
    (rows_more t c.args.x inside below free ns ms rows out joined made)

pub invariant_of-result : goal.invariant_of-result
invariant_of-result c =
    let t = table_at c.self.inside.problem.now c.self.inside.set c.self.inside.level in
    let h = subst (λ f. HoldsTable t f c.self.inside.numbers.items c.self.inside.masks.items) c.in-Some.is c.self.invariant in
    let inside = subst (λ (z : TableOf). c.args.x < z.problem.inputs) (sym c.self.view_is) c.requires.inside in
    let free = subst (λ (z : TableOf). z.set % 2 ^ (c.args.x + 1) ≡ 0) (sym c.self.view_is) c.requires.free in
    let s = one_shl c.args.x 16 (omega arith) in
    subst (λ k. IsFull (table_at c.self.inside.problem.now (bit_or c.self.inside.set k) c.args.x) (c.in-Some.count / 2)) (sym s)
    (full_more t c.in-Some.count h c.args.x inside (subst (λ (z : TableOf). c.args.x < z.level) (sym c.self.view_is) c.requires.below) free)
