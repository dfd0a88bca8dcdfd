use Rattle.std.proofs.Common.{◌≡◌, ◌≤◌, ℕ, suc, ◌-◌, ◌*◌, ◌^◌, ◌++◌, length, map, get_or, bit_or, take, sym, ap, ◌∙◌, arith, pow_mono}
use Rattle.std.proofs.Math.Seq.{drop-length}
use Rattle.std.proofs.lemmas.List.{length-set, take_more_set}
use Rattle.std.proofs.lemmas.Nat.{pow_pos}
use Rattle.truth_table.specs.Assignments.{assignments}
use Rattle.truth_table.proofs.LeafClasses.{assignments_more}
use Rattle.truth_table.proofs.level_classes.write_points.Goals as goal

doubled : (n i : ℕ) → 1 ≤ i → i ≤ n → 2 ^ (n - i) * 2 ≡ 2 ^ (n - (i - 1))
doubled n i some within =
    let e : n - (i - 1) ≡ suc (n - i) = omega arith in
    omega (arith, ap (λ (k : ℕ). 2 ^ k) e)

pub loop-i-init : goal.loop-i-init
unfolding assignments
loop-i-init c =
    let some = pow_pos (length c.args.variables.now) in
    let long = c.requires.long in
    let e : length c.args.variables.now - length c.args.variables.now ≡ 0 = omega arith in
    record {
      long = length-set c.args.points.now 0 0 ∙ long;
      size = sym (ap (λ (k : ℕ). 2 ^ k) e);
      done = take_more_set c.args.points.now 0 0 (omega arith) ∙ sym (ap assignments (drop-length c.args.variables.now));
    }

pub add_upper-requires-clause-room : goal.add_upper-requires-clause-room
add_upper-requires-clause-room c =
    let inv = c.loop-i.invariant in
    let n : ℕ = length c.args.variables.now in
    let d = doubled n c.loop-i.i c.loop-i-test.true c.loop-i.auto.i in
    let below : n - (c.loop-i.i - 1) ≤ n = omega arith in
    let most = pow_mono below in
    omega (arith, inv.long, inv.size, d, most)

pub loop-i-preserved : goal.loop-i-preserved
loop-i-preserved c =
    let inv = c.loop-i.invariant in
    let new = c.add_upper.new.points in
    let twice : c.loop-i.size * 2 ≡ 2 * c.loop-i.size = omega arith in
    record {
      long = c.add_upper.ensures.long ∙ inv.long;
      size = ap (λ s. s * 2) inv.size ∙ doubled (length c.args.variables.now) c.loop-i.i c.loop-i-test.true c.loop-i.auto.i;
      done = ap (λ k. take k new) twice ∙ c.add_upper.ensures.doubled
          ∙ ap (λ ps. ps ++ map (λ k. bit_or k (2 ^ get_or c.args.variables.now (c.loop-i.i - 1) 0)) ps) inv.done
          ∙ assignments_more c.args.variables.now c.loop-i.i c.loop-i-test.true c.loop-i.auto.i;
    }
