use Rattle.std.proofs.Common.{◌≢◌, ◌<◌, ◌≤◌, ℕ, get_or}
use Rattle.pair_numbering.specs.Slots.{slot_number}
use Rattle.pair_numbering.proofs.slots.find_slot.Given as goal

abbrev pub invariant-loop-at : goal.invariant-loop-at
invariant-loop-at l = (t : ℕ) → l.home ≤ t → t < l.at → get_or l.keys (slot_number l.slots l.count t) (0, 0) ≢ l.pair
