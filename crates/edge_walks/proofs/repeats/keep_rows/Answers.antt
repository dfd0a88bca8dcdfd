use Rattle.std.proofs.Common.{ℕ, ◌+◌, ◌*◌, ◌/◌, ◌%◌, ◌^◌, ◌≤◌, Vec, Global, length, take, drop, sym, ap, subst, ◌∙◌, refl, arith}
use Rattle.std.proofs.lemmas.Nat.{one_shl, pow_pos}
use Rattle.std.proofs.Math.Nat.{div-mul-le_self, div-le_self, mul-le-mul_right}
use Rattle.std.proofs.lemmas.List.{length-append, length-set}
use Rattle.edge_walks.proofs.KeptRows.{IsKept, kept_row, kept_again, kept_all, rows_are}
use Rattle.edge_walks.proofs.repeats.keep_rows.Goals as goal
use Rattle.edge_walks.proofs.repeats.keep_rows.Goals.{then-not-is_kept+in_ok-extend_from_slice, else-not-is_kept}

pub loop-number-preserved : goal.loop-number-preserved
loop-number-preserved c =
    let w = 2 ^ c.args.y in
    let numbers = c.args.numbers.now in
    let number = c.loop-number.number in
    let kept = c.loop-number.kept.items in
    let rows = c.requires.rows in
    let s = one_shl c.args.y 64 (omega arith) in
    let row = c.row_at-row.result.now in
    let many = ap (λ k. length numbers / k) s ∙ rows_are w rows.0 (length numbers) (pow_pos c.args.y) rows.1 in
    let below : number + 1 ≤ rows.0 = omega arith in
    let inside = mul-le-mul_right w below in
    let is = c.row_at-row.ensures.row ∙ ap (λ k. take k (drop (number * k) numbers)) s in
    let some = c.loop-number.invariant.buckets in
    elim c.if-not-is_kept.branch [
      | then-not-is_kept+in_ok-extend_from_slice b ↦
          let k = ap (λ (v : Vec ℕ Global). v.items) b.kept-is ∙ b.in_ok-extend_from_slice.ensures.items in
          let p = b.places-is in
          record {
            kept = subst (λ us. IsKept w numbers us (number + 1)) (sym k)
                (kept_row w numbers kept row number is (omega arith) c.loop-number.invariant.kept);
            buckets = (let n = ap length p ∙ length-set c.loop-number.places _ _ in omega (arith, n, some));
          }
      | else-not-is_kept b ↦
          let k = ap (λ (v : Vec ℕ Global). v.items) b.kept-is in
          let p = b.places-is in
          let e = b.if-not-is_kept.ensures refl in
          record {
            kept = subst (λ us. IsKept w numbers us (number + 1)) (sym k)
                (kept_again w numbers kept row number is (omega arith) c.loop-number.invariant.kept e.0 e.1 e.2
                (sym c.deref.ensures.value ∙ e.3) e.4);
            buckets = (let n = ap length p in omega (arith, n, some));
          }
    ]

pub returns : goal.returns
returns c =
    let w = 2 ^ c.args.y in
    let numbers = c.args.numbers.now in
    let rows = c.requires.rows in
    let s = one_shl c.args.y 64 (omega arith) in
    let many = ap (λ k. length numbers / k) s ∙ rows_are w rows.0 (length numbers) (pow_pos c.args.y) rows.1 in
    let below : rows.0 ≤ c.loop-number.number = omega arith in
    kept_all w numbers c.loop-number.kept.items c.loop-number.number (omega (arith, mul-le-mul_right w below)) c.loop-number.invariant.kept

pub row_at-row-requires-clause-inside : goal.row_at-row-requires-clause-inside
row_at-row-requires-clause-inside c =
    let step = 1 * 2 ^ c.args.y % 18446744073709551616 in
    let below : c.loop-number.number + 1 ≤ length c.args.numbers.now / step = omega arith in
    omega (arith, mul-le-mul_right step below, div-mul-le_self (length c.args.numbers.now) step)

pub overflow_cast-places-then-not-is_kept : goal.overflow_cast-places-then-not-is_kept
overflow_cast-places-then-not-is_kept c =
    let row = c.row_at-row.result.now in
    let kept = c.loop-number.kept.items in
    let more = ap length c.in_ok-extend_from_slice.ensures.items ∙ length-append kept row in
    let s = one_shl c.args.y 64 (omega arith) in
    let step = 1 * 2 ^ c.args.y % 18446744073709551616 in
    let below : c.loop-number.number + 1 ≤ length c.args.numbers.now / step = omega arith in
    let few : length kept ≤ c.loop-number.number * step = subst (λ w. length kept ≤ c.loop-number.number * w) (sym s) c.loop-number.invariant.kept.few in
    let inside = mul-le-mul_right step below in
    let whole = div-mul-le_self (length c.args.numbers.now) step in
    let row_long = c.row_at-row.ensures.long in
    omega (arith, div-le_self c.len.result step)
