use Rattle.std.proofs.Common.{◌^◌, ◌<◌, length}
use Rattle.edge_walks.proofs.KeptRows.{IsKept}
use Rattle.edge_walks.proofs.repeats.keep_rows.Given as goal

abbrev pub invariant-loop-number : goal.invariant-loop-number
invariant-loop-number l = record { kept : IsKept (2 ^ l.y) l.numbers l.kept.items l.number; buckets : 0 < length l.places }
