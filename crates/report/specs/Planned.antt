-- The pairs of a plan.
--     ArePlanned plan n r      those that its orders keep, or the fault of its list; a plan that counts has none
use Rattle.std.specs.Prelude.{◌≡◌, ◌≢◌, ℕ, Result, Ok, Err}
use Rattle.definitions.specs.KeptPairs.{KeptPairs}
use Rattle.definitions.specs.declared.faults.PairsFault.{PairsFault}
use Rattle.command_line.specs.declared.line.Output.TheVariants.{Count}
use Rattle.command_line.specs.declared.line.RunPlan.{RunPlan}
use Rattle.outcomes.specs.Plans.{PairsAre}

-- the pairs that a plan's orders keep, or the fault of its list; a plan that counts has none
abbrev pub ArePlanned : RunPlan → ℕ → Result KeptPairs PairsFault → Type 0
ArePlanned plan n (Ok kept) = (kept.inputs ≡ n) × (plan.output ≢ Count → PairsAre plan.above n (Ok kept))
ArePlanned plan n (Err fault) = (plan.output ≢ Count) × PairsAre plan.above n (Err fault)
