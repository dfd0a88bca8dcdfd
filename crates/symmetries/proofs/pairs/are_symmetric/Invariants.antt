use Rattle.std.proofs.Common.{◌≡◌, ◌+◌, ◌-◌, ◌<◌, ◌^◌, ℕ}
use Rattle.std.specs.Int.{bit_at}
use Rattle.definitions.specs.Problems.{value_at}
use Rattle.symmetries.proofs.pairs.are_symmetric.Given as goal

abbrev pub invariant-loop-output : goal.invariant-loop-output
invariant-loop-output l = (j p : ℕ) → j < l.output → p < 2 ^ l.problem.inputs → bit_at p l.a ≡ 1 → bit_at p l.b ≡ 0 →
    value_at l.problem j p ≡ value_at l.problem j ((p - 2 ^ l.a) + 2 ^ l.b)
