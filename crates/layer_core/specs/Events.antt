-- The events and replies of the program, as the machine has them.
use Rattle.std.specs.Prelude.{ℕ, ◌-◌, ◌≤◌, length}
use Rattle.layer_core.specs.Machine as machine
use Rattle.layer_core.specs.Machine.{World}
use Rattle.layer_core.specs.Pairing.{pair_of}
use Rattle.layer_core.specs.declared.events.Event.{Event}
use Rattle.layer_core.specs.declared.events.Event.TheVariants.{Claim, Post, Read}
use Rattle.layer_core.specs.declared.events.Reply.{Reply}
use Rattle.layer_core.specs.declared.events.Reply.TheVariants.{Claimed, NoMore, Posted, Stranger, Double, Seen, Empty}

-- workers are numbered from 1 in the program, and from 0 in the machine
abbrev pub event_of : Event → machine.Event
event_of (Claim worker) = machine.Claim (worker - 1)
event_of (Post worker result) = machine.Post (worker - 1) result.mask result.cell
event_of (Read worker mask) = machine.Read (worker - 1) mask

abbrev pub reply_of : Reply → machine.Reply
reply_of (Claimed block) = machine.Claimed block
reply_of NoMore = machine.NoMore
reply_of Posted = machine.Posted
reply_of Stranger = machine.Stranger
reply_of Double = machine.Double
reply_of (Seen cell) = machine.Seen (pair_of cell)
reply_of Empty = machine.Empty

abbrev pub worker_of : Event → ℕ
worker_of (Claim worker) = worker
worker_of (Post worker result) = worker
worker_of (Read worker mask) = worker

-- the event is of one of the machine's workers
abbrev pub IsByWorker : World → Event → Type 0
IsByWorker s e = (1 ≤ worker_of e) × (worker_of e ≤ length s.workers)
