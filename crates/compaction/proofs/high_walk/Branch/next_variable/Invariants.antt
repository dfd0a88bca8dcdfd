use Rattle.std.proofs.Common.{◌≡◌, ◌<◌, ℕ, IfSome, IsNone}
use Rattle.std.specs.Int.{bit_at}
use Rattle.compaction.proofs.high_walk.Branch.next_variable.Given as goal

abbrev pub invariant-loop-y : goal.invariant-loop-y
invariant-loop-y l = IfSome l.next (λ y. (y < l.y) × (bit_at l.self.decided y ≡ 0)) × (IsNone l.next → (y : ℕ) → y < l.y → bit_at l.self.decided y ≡ 1)
