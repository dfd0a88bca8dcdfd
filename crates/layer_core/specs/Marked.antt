-- The marks of a worker, as the machine has them.
use Rattle.layer_core.specs.Machine.{Worker}
use Rattle.layer_core.specs.declared.machine.WorkerMarks.{WorkerMarks}

abbrev pub marks_of : WorkerMarks → Worker
marks_of m = record { claims = m.claims.items; known = m.known.items; ended = m.ended }
