use Rattle.std.proofs.Common.{ℕ, List, Ok, Err, Result, IfOk}
use Rattle.pla_reader.specs.declared.cover.Cover.{Cover}
use Rattle.pla_reader.specs.declared.errors.PlaError.{PlaError}
use Rattle.pla_reader.specs.Answering.{Answers}
use Rattle.pla_reader.specs.Covers.{IsCover}
use Rattle.pla_reader.specs.Lines.{said}
use Rattle.pla_reader.proofs.WellFormed.{well_formed}
use Rattle.pla_reader.proofs.reader.read_cover.Goals as goal

formed : (bytes : List ℕ) (r : Result Cover PlaError) → Answers bytes r → IfOk r IsCover
formed bytes (Ok cover) reads = well_formed (said bytes) cover reads
formed bytes (Err fault) answer = record {}

pub returns-in-Ok-clause-formed : goal.returns-in-Ok-clause-formed
returns-in-Ok-clause-formed g c = formed _ c.read_bytes.result c.read_bytes.ensures
