-- What texts within the limits say.
use Rattle.std.specs.Prelude.{ℕ, ◌≤◌, List, length}
use Rattle.definitions.specs.Certificates.{Certificate}
use Rattle.certificate.specs.Faults.{Spells}
use Rattle.certificate.specs.Heads.{most_bytes}
use Rattle.pla_reader.specs.Answering.{longest}
use Rattle.pla_reader.specs.Covers.{NamedCover}
use Rattle.pla_reader.specs.Reading.{Reads}

-- bytes within the limit that are read as a cover
abbrev pub ReadsWithin : List ℕ → NamedCover → Type 0
ReadsWithin file cover = (length file ≤ longest) × Reads file cover

-- bytes within the limit that spell a certificate
abbrev pub SpellsWithin : List ℕ → Certificate → Type 0
SpellsWithin text cert = (length text ≤ most_bytes) × Spells text cert
