-- What minorder_read_pla answers.
--     AreNames kind text places      parts of the text that spell the names that it gives; 0 and 0 where there is none
--     IsReadWith text inputs outputs input_names output_names Tables      what a text is read as, with what is said of its truth tables
--     IsRead, IsReadShort      with the tables at the front of a place; with more words than it has
--     fault_kind fault, IsFaultOf text fault      why a text is no PLA file
--     IsUnread text unread      the same, or memory was wanting
--     HaveNamePlaces inputs outputs      there are 16 places for names of each
--     HeadStays status ..      where nothing is read, the numbers and the names stay
--     IsReadStatus s      the numbers of the call
use Rattle.std.specs.Prelude.{◌≡◌, ◌≢◌, ◌⊎◌, ℕ, ◌*◌, ◌-◌, ◌<◌, ◌≤◌, ◌++◌, List, length, replicate}
use Rattle.definitions.specs.Problems.{IsPacked, packed_tables, words_per_table}
use Rattle.pla_reader.specs.declared.errors.LineFault.{LineFault}
use Rattle.pla_reader.specs.declared.errors.LineFault.TheVariants.{MissingHead, RepeatedHead, InputCount, OutputCount, BadNumber, NameCount, BadName, UnknownDirective, UnsupportedType, DontCare, BadInputChar, BadOutputChar, ShortTerm, LongTerm}
use Rattle.pla_reader.specs.declared.places.Names.{Names}
use Rattle.pla_reader.specs.declared.places.Names.TheVariants.{Inputs, Outputs}
use Rattle.pla_reader.specs.declared.places.TextPlace.{TextPlace}
use Rattle.pla_reader.specs.Answering.{longest}
use Rattle.pla_reader.specs.Covers.{NamedCover}
use Rattle.pla_reader.specs.Places.{AreNamesAt}
use Rattle.pla_reader.specs.Reading.{FirstFault, Reads}
use Rattle.truth_table.specs.OfCovers.{AreTablesOf}
use Rattle.minorder_c.specs.declared.pla_files.PlaFault.{PlaFault}
use Rattle.minorder_c.specs.declared.pla_files.Unread.{Unread}
use Rattle.minorder_c.specs.declared.pla_files.Unread.TheVariants as unread
use Rattle.minorder_c.specs.Rooms.{Holds, IsShort}
use Rattle.minorder_c.specs.Statuses.{IsPlainStatus}

-- no name
abbrev pub no_name : TextPlace
no_name = record { start = 0; length = 0 }

-- parts of the text that spell the names that it gives, and 0 and 0 where there is none
pub record AreNames (kind : Names) (text : List ℕ) (places : List TextPlace) : Type 0 where
  pub named : List TextPlace
  pub at : AreNamesAt kind text named
  pub rest : places ≡ named ++ replicate (16 - length named) no_name

-- the words hold the truth tables of a cover's functions
pub record AreWordsOf (cover : NamedCover) (words : List ℕ) : Type 0 where
  pub packed : IsPacked cover.inputs cover.outputs words
  pub tables : AreTablesOf cover (packed_tables cover.inputs cover.outputs words)

-- the text is read as a cover of so many inputs and outputs, whose names these parts spell, and so much is said of its truth tables
pub record IsReadWith (text : List ℕ) (inputs outputs : ℕ) (input_names output_names : List TextPlace)
    (Tables : (List ℕ → Type 0) → Type 0) : Type 0 where
  pub within : length text ≤ longest
  pub cover : NamedCover
  pub reads : Reads text cover
  pub inputs_are : inputs ≡ cover.inputs
  pub outputs_are : outputs ≡ cover.outputs
  pub input_names_are : AreNames Inputs text input_names
  pub output_names_are : AreNames Outputs text output_names
  pub tables : Tables (AreWordsOf cover)

-- the front of a place holds the truth tables, and the rest stays
abbrev pub IsRead : List ℕ → ℕ → ℕ → List TextPlace → List TextPlace → List ℕ → List ℕ → Type 0
IsRead text inputs outputs input_names output_names place place' =
    IsReadWith text inputs outputs input_names output_names (λ Is. Holds Is place place' (outputs * words_per_table inputs))

-- the truth tables take more words than there is place for
abbrev pub IsReadShort : List ℕ → ℕ → ℕ → List TextPlace → List TextPlace → List ℕ → Type 0
IsReadShort text inputs outputs input_names output_names place =
    IsReadWith text inputs outputs input_names output_names (λ Is. IsShort Is place (outputs * words_per_table inputs))

-- the number of a line's fault; 15 is that of a text that is too long
abbrev pub fault_kind : LineFault → ℕ
fault_kind MissingHead = 1
fault_kind RepeatedHead = 2
fault_kind InputCount = 3
fault_kind OutputCount = 4
fault_kind BadNumber = 5
fault_kind NameCount = 6
fault_kind BadName = 7
fault_kind UnknownDirective = 8
fault_kind UnsupportedType = 9
fault_kind DontCare = 10
fault_kind BadInputChar = 11
fault_kind BadOutputChar = 12
fault_kind ShortTerm = 13
fault_kind LongTerm = 14

-- the first fault of a text that isn't too long
pub record HasLineFault (text : List ℕ) (fault : PlaFault) : Type 0 where
  pub within : length text ≤ longest
  pub kind : LineFault
  pub first : FirstFault text fault.line kind
  pub kind_is : fault.kind ≡ fault_kind kind

-- why a text is no PLA file
abbrev pub IsFaultOf : List ℕ → PlaFault → Type 0
IsFaultOf text fault = HasLineFault text fault ⊎ ((longest < length text) × (fault ≡ record { line = 0; kind = 15 }))

-- the same, or memory was wanting
abbrev pub IsUnread : List ℕ → Unread → Type 0
IsUnread text (unread.Fault fault) = IsFaultOf text fault
IsUnread text unread.OutOfMemory = Unit {0}

-- there are 16 places for names of inputs, and as many for those of outputs
abbrev pub HaveNamePlaces : List TextPlace → List TextPlace → Type 0
HaveNamePlaces inputs outputs = (length inputs ≡ 16) × (length outputs ≡ 16)

-- where nothing is read, the numbers and the names stay
abbrev pub HeadStays : ℕ → ℕ → ℕ → ℕ → ℕ → List TextPlace → List TextPlace → List TextPlace → List TextPlace → Type 0
HeadStays status inputs inputs' outputs outputs' xs xs' ys ys' =
    status ≢ 0 → status ≢ 7 → (inputs' ≡ inputs) × (outputs' ≡ outputs) × (xs' ≡ xs) × (ys' ≡ ys)

-- the numbers of the call
abbrev pub IsReadStatus : ℕ → Type 0
IsReadStatus s = (s ≡ 7) ⊎ ((s ≡ 9) ⊎ IsPlainStatus s)
