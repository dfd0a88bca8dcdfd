use Rattle.std.proofs.Common.{◌+◌, ◌^◌, inl, inr, refl, arith}
use Rattle.std.proofs.Math.Pow.{pow_mono}
use Rattle.std.proofs.lemmas.Bool.{cases_lt}
use Rattle.std.proofs.lemmas.Nat.{one_shl, pow-add}
use Rattle.edge_walks.proofs.upper_halves.has_later.Goals as goal

pub overflow_add-set : goal.overflow_add-set
overflow_add-set c =
    let z = c.loop-z.z in
    let d = pow-add 2 z 1 in
    omega (arith, pow_mono {i = z + 1} {j = c.args.y} (omega arith))

pub has_judged-requires : goal.has_judged-requires
has_judged-requires c =
    let z = c.loop-z.z in
    let m = pow_mono {i = z + 1} {j = c.args.y} (omega arith) in
    let d = pow-add 2 z 1 in
    record { variable = omega arith; within = omega arith }

pub loop-z-preserved : goal.loop-z-preserved
loop-z-preserved c T above below =
    let s = one_shl c.loop-z.z 16 (omega arith) in
    let d = pow-add 2 c.loop-z.z 1 in
    elim (cases_lt T (c.args.set + 2 ^ c.loop-z.z)) [
      | inl first ↦ c.loop-z.invariant T above first
      | inr later ↦ c.if-has_judged.ensures refl T (omega arith) (omega arith)
    ]
