-- What the reader of covers returns.
--     Answers bytes result      the answer for the bytes of an input within the limit
--     IsReading bytes result      the answer for the bytes that a device has left
--     failed_after result before      how many calls of the device have failed after reading, if `before` had failed before
use Rattle.std.specs.Prelude.{ℕ, ◌≤◌, ◌<◌, List, length, Result, Ok, Err}
use Rattle.counted_io.specs.Counts.{one_more}
use Rattle.pla_reader.specs.declared.cover.Cover.{Cover}
use Rattle.pla_reader.specs.declared.errors.PlaError.{PlaError}
use Rattle.pla_reader.specs.declared.errors.PlaError.TheVariants.{Line, TooLong, Device, OutOfMemory}
use Rattle.pla_reader.specs.Reading.{Reads, FirstFault}

-- the most bytes of an input
abbrev pub longest : ℕ
longest = 16777216

-- the answer for the bytes of an input that is no longer than the limit
abbrev pub Answers : List ℕ → Result Cover PlaError → Type 0
Answers bytes (Ok cover) = Reads bytes cover
Answers bytes (Err (Line line fault)) = FirstFault bytes line fault
Answers bytes (Err OutOfMemory) = Unit {0}
Answers bytes (Err TooLong) = ⊥
Answers bytes (Err Device) = ⊥

-- the answer for a device that has these bytes left
abbrev pub IsReading : List ℕ → Result Cover PlaError → Type 0
IsReading bytes (Ok cover) = (length bytes ≤ longest) × Reads bytes cover
IsReading bytes (Err (Line line fault)) = (length bytes ≤ longest) × FirstFault bytes line fault
IsReading bytes (Err TooLong) = longest < length bytes
IsReading bytes (Err Device) = Unit {0}
IsReading bytes (Err OutOfMemory) = Unit {0}

-- how many calls of the device have failed after reading, from the number that had failed before
abbrev pub failed_after : Result Cover PlaError → ℕ → ℕ
failed_after (Err Device) before = one_more before
failed_after _ before = before
