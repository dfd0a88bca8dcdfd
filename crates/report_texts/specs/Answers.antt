-- The answer of a run, by the cover and the pairs that the order has to keep.
--     IsAnswer cover P text, IsCertificate cover P text      the text of the answer, and that of its certificate
--     IsOrdersAnswer cover P text      what --orders prints
--     IsTextOf plan cover text, IsCertificateOf above cover text      what a run writes of a cover: its text, and its certificate
--     AskTheSame plan other      they differ in the number of workers alone
--     Hinders plan cover fault      why it writes nothing of it
use Rattle.std.specs.Prelude.{◌≡◌, ◌≢◌, ℕ, Bool, true, false, List, Option, Some, None, Ok, Err, String, option_map, string_bytes}
use Rattle.std.specs.Borrow.{Bor}
use Rattle.std.specs.Global.{Global}
use Rattle.definitions.specs.Pairs.{Pair, IsFirstOrder}
use Rattle.definitions.specs.KeptPairs.{KeptPairs}
use Rattle.definitions.specs.Diagrams.{IsFirstKeeping}
use Rattle.definitions.specs.Sifting.{sifted}
use Rattle.definitions.specs.Certificates.{Certificate, IsCertOf, certificate_of}
use Rattle.definitions.specs.Problems.{TruthTables, functions}
use Rattle.certificate.specs.Faults.{Spells}
use Rattle.pla_reader.specs.Covers.{NamedCover, functions_of}
use Rattle.command_line.specs.declared.line.Output.{Output}
use Rattle.command_line.specs.declared.line.Output.TheVariants.{Report, Count, Orders, Sizes}
use Rattle.command_line.specs.declared.line.RunPlan.{RunPlan}
use Rattle.outcomes.specs.Plans.{PairsAre}
use Rattle.outcomes.specs.declared.outcome.Fault.{Fault}
use Rattle.outcomes.specs.declared.outcome.Fault.TheVariants as fault
use Rattle.report_texts.specs.OrderTexts.{orders_text, sizes_text}
use Rattle.report_texts.specs.Texts.{count_text, nodes_under, report_text}

-- the report of the first order that keeps the pairs and has a diagram of the fewest nodes, beside the order sifted from the first one that keeps them
pub record IsAnswer (cover : NamedCover) (P : List Pair) (text : List ℕ) : Type 0 where
  pub best : List ℕ
  pub first : IsFirstKeeping cover.inputs (functions_of cover) P best
  pub start : List ℕ
  pub starts : IsFirstOrder cover.inputs P start
  pub is : text ≡ report_text cover best (sifted cover.inputs (functions_of cover) P start)

-- the certificate of that order, as text
pub record IsCertificate (cover : NamedCover) (P : List Pair) (text : List ℕ) : Type 0 where
  pub cert : Certificate
  pub is : IsCertOf cover.inputs (functions_of cover) P cert
  pub spells : Spells text cert

-- a certificate if one is asked for
abbrev pub IsCertified : NamedCover → List Pair → Bool → Option (String Global) → Type 0
IsCertified cover P false text = text ≡ None
IsCertified cover P true None = ⊥
IsCertified cover P true (Some text) = IsCertificate cover P (string_bytes text)

-- an order's certificate if one is asked for, by truth tables
abbrev pub IsCertifiedBy : TruthTables → List Pair → List ℕ → Bool → Option (String Global) → Type 0
IsCertifiedBy t P order false text = text ≡ None
IsCertifiedBy t P order true None = ⊥
IsCertifiedBy t P order true (Some text) = Spells (string_bytes text) (certificate_of t.inputs (functions t) P order)

-- the figures of all orders that keep the pairs, beside the order sifted from the first one
pub record IsOrdersAnswer (cover : NamedCover) (P : List Pair) (text : List ℕ) : Type 0 where
  pub start : List ℕ
  pub starts : IsFirstOrder cover.inputs P start
  pub is : text ≡ orders_text cover P (nodes_under cover (sifted cover.inputs (functions_of cover) P start))

-- what a run prints of a cover
abbrev pub IsText : Output → Option (Bor (List ℕ)) → NamedCover → List ℕ → Type 0
IsText Report above cover text = (kept : KeptPairs) × PairsAre above cover.inputs (Ok kept)
    × IsAnswer cover kept.pairs text
IsText Count above cover text = text ≡ count_text cover
IsText Orders above cover text = (kept : KeptPairs) × PairsAre above cover.inputs (Ok kept)
    × IsOrdersAnswer cover kept.pairs text
IsText Sizes above cover text = (kept : KeptPairs) × PairsAre above cover.inputs (Ok kept)
    × (text ≡ sizes_text cover kept.pairs)

abbrev pub IsTextOf : RunPlan → NamedCover → List ℕ → Type 0
IsTextOf plan cover text = IsText plan.output plan.above cover text

-- the bytes of a list of pairs, if there is one
abbrev pub bytes_of : Option (Bor (List ℕ)) → Option (List ℕ)
bytes_of above = option_map (λ s. s.now) above

-- two plans that differ in the number of workers alone
pub record AskTheSame (plan other : RunPlan) : Type 0 where
  pub output : plan.output ≡ other.output
  pub above : bytes_of plan.above ≡ bytes_of other.above

-- the certificate for the pairs of a list
abbrev pub IsCertificateOf : Option (Bor (List ℕ)) → NamedCover → List ℕ → Type 0
IsCertificateOf above cover text = (kept : KeptPairs) × PairsAre above cover.inputs (Ok kept)
    × IsCertificate cover kept.pairs text

-- what is made of a cover for a certificate's writer: nothing beside another text than the report, or if there is no writer
abbrev pub HasCertificate : Output → Option (Bor (List ℕ)) → NamedCover → Bool → Option (String Global) → Type 0
HasCertificate Report above cover false text = text ≡ None
HasCertificate Report above cover true None = ⊥
HasCertificate Report above cover true (Some text) = IsCertificateOf above cover (string_bytes text)
HasCertificate _ above cover asked text = text ≡ None

-- why a run that read a cover writes nothing of it; a count needs no pairs, and no store is ever full
abbrev pub Hinders : RunPlan → NamedCover → Fault → Type 0
Hinders plan cover fault.OutOfMemory = Unit {0}
Hinders plan cover (fault.Pairs f) = (plan.output ≢ Count) × PairsAre plan.above cover.inputs (Err f)
Hinders plan cover _ = ⊥
