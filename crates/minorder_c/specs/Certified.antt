-- What minorder_certify answers.
--     IsCertificateText t P text      the text spells the certificate of the first order of the fewest nodes among those that keep the pairs, which is good
--     IsTextFor given above text      the same, of what a call is given
--     IsCertifyStatus s      the numbers of the call
use Rattle.std.specs.Prelude.{◌≡◌, ◌⊎◌, ℕ, List}
use Rattle.definitions.specs.Pairs.{Pair, sorted_pairs}
use Rattle.definitions.specs.Problems.{TruthTables, functions}
use Rattle.definitions.specs.Certificates.{Certificate, IsCertOf, IsGood}
use Rattle.certificate.specs.Faults.{Spells}
use Rattle.minorder_c.specs.declared.above.AbovePair.{AbovePair}
use Rattle.minorder_c.specs.declared.arguments.GivenTables.{GivenTables}
use Rattle.minorder_c.specs.Answers.{pairs_given, tables_in}
use Rattle.minorder_c.specs.Statuses.{IsPlainStatus}

-- the text spells the certificate of the first order of the fewest nodes among those that keep the pairs, which is good
pub record IsCertificateText (t : TruthTables) (P : List Pair) (text : List ℕ) : Type 0 where
  pub cert : Certificate
  pub is : IsCertOf t.inputs (functions t) P cert
  pub good : IsGood t.inputs (functions t) cert
  pub spells : Spells text cert

-- the same, of what a call is given
abbrev pub IsTextFor : GivenTables → List AbovePair → List ℕ → Type 0
IsTextFor given above = IsCertificateText (tables_in given) (sorted_pairs given.inputs (pairs_given above))

-- the numbers of the call: that of a text that is longer than its place, besides those of a call with pairs
abbrev pub IsCertifyStatus : ℕ → Type 0
IsCertifyStatus s = (s ≡ 7) ⊎ ((s ≡ 8) ⊎ IsPlainStatus s)
