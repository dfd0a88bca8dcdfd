use Rattle.std.proofs.Common.{ℕ, ◌+◌, ◌^◌, ◌<◌, List, sym, ap, ◌∙◌, subst, arith}
use Rattle.std.proofs.lemmas.Nat.{one_shl}
use Rattle.definitions.specs.Problems.{TruthTables, functions}
use Rattle.compaction.proofs.AllRows.{AllTo, all_pushed, row_is}
use Rattle.compaction.proofs.OwnMembers.{bit_member}
use Rattle.compaction.proofs.preparation.Preparation.all_rows.Goals as goal

pub row-requires-clause-members : goal.row-requires-clause-members
row-requires-clause-members c = λ x e. grind (arith, bit_member)

pub loop-number-preserved : goal.loop-number-preserved
loop-number-preserved c =
    let p = c.args.self.now.problem in
    let k = c.loop-number.number in
    let row = c.in_ok-row.field-0 in
    let few = c.inputs-2.ensures.few in
    let s = one_shl c.inputs-2.result 32 (omega (arith, few)) in
    let same = ap (λ (n : ℕ). 2 ^ n) (c.inputs-2.ensures.value ∙ ap (λ (t : TruthTables). t.inputs) c.problem-2.ensures) in
    let low = c.loop-number-test.true in
    let small : k < 2 ^ p.inputs = omega (arith, s, same, low) in
    subst (λ (rows : List (List ℕ)). AllTo p.inputs (functions p) (k + 1) rows) (sym c.in_ok-push.ensures.items)
    (all_pushed p.inputs (functions p) k c.loop-number.rows.items row c.loop-number.invariant (row_is p k row small c.in_ok-row.ensures))
