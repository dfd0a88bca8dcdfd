use Rattle.std.proofs.Common.{◌≡◌, ℕ, eqb, cond, List, refl, slice_index, sym, ap, arith, eq-eqb, ne_eqb}
use Rattle.std.specs.Int.{bit_at}
use Rattle.std.proofs.lemmas.Bool.{cases_lt, cases_eq}
use Rattle.compaction.proofs.RowSteps.{row_passed, row_written}
use Rattle.compaction.proofs.image_rows.members_moved.Goals as goal

-- the row's entry at x
entry : ℕ → List ℕ → List ℕ → ℕ → ℕ
entry needed row variables x = cond (eqb (bit_at needed x) 1) (slice_index row (slice_index variables x)) 0

-- it is 0 where x isn't needed
entry_none : (needed : ℕ) (row variables : List ℕ) (x : ℕ) → bit_at needed x ≡ 0 → 0 ≡ entry needed row variables x
unfolding entry
entry_none needed row variables x zero =
    sym (ap (λ b. cond b (slice_index row (slice_index variables x)) 0) (ne_eqb (bit_at needed x) 1 (λ e. absurd (omega arith))))

pub loop-x-preserved : goal.loop-x-preserved
unfolding entry
loop-x-preserved c =
    let needed = c.args.needed in
    let f = entry needed c.args.row.now c.args.variables.now in
    let x = c.in-Some.x in
    let m = c.in-Some.ensures.member in
    let moved = slice_index c.args.row.now (slice_index c.args.variables.now x) in
    let small = m.1 in
    record {
      small = omega arith;
      asked = grind (arith, cases_lt, cases_eq);
      row = row_written f c.loop-x.found x moved small (ap (λ b. cond b moved 0) (sym (eq-eqb (bit_at needed x) 1 m.2)))
          (row_passed f c.loop-x.found c.loop-x.from x m.0
          (λ y h lt. entry_none needed c.args.row.now c.args.variables.now y (c.in-Some.ensures.first y h lt)) c.loop-x.invariant.row);
    }

pub returns-clause-row : goal.returns-clause-row
unfolding entry
returns-clause-row c = λ x lt.
    let f = entry c.args.needed c.args.row.now c.args.variables.now in
    (row_passed f c.loop-x.found c.loop-x.from 16 c.loop-x.invariant.small
    (λ y h l. entry_none c.args.needed c.args.row.now c.args.variables.now y (c.in_default.ensures.none refl y h)) c.loop-x.invariant.row).1 x lt
