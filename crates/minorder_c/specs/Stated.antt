-- What minorder_check_total answers.
--     pair_for_c p      a pair, as C is told it
--     AreFront pairs place place'      the first of the pairs stand in a place, as many as it has room for, and the rest stays
--     IsStated given text returned total place place' count      the verdict on a certificate, its total, and its pairs
use Rattle.std.specs.Prelude.{◌≡◌, ℕ, ◌++◌, List, drop, length, map, take}
use Rattle.definitions.specs.Pairs.{Pair}
use Rattle.definitions.specs.Certificates.{Certificate}
use Rattle.cert_check.specs.declared.verdict.Verdict.{Verdict}
use Rattle.minorder_c.specs.declared.above.AbovePair.{AbovePair}
use Rattle.minorder_c.specs.declared.verdicts.ReturnedVerdict.{ReturnedVerdict}
use Rattle.minorder_c.specs.declared.arguments.GivenTables.{GivenTables}
use Rattle.minorder_c.specs.Judged.{IsJudged, returned_verdict}

-- a pair, as C is told it
abbrev pub pair_for_c : Pair → AbovePair
pair_for_c p = record { above = p.0; below = p.1 }

-- the first of the pairs stand in a place, as many as it has room for, and the rest stays
abbrev pub AreFront : List Pair → List AbovePair → List AbovePair → Type 0
AreFront pairs place place' = place' ≡ take (length place) (map pair_for_c pairs) ++ drop (length pairs) place

-- the text spells a certificate; this is the verdict on it, as C is told it, its total, its first pairs and their number
pub record IsStated (given : GivenTables) (text : List ℕ) (returned : ReturnedVerdict) (total : ℕ)
    (place place' : List AbovePair) (count : ℕ) : Type 0 where
  pub cert : Certificate
  pub verdict : Verdict
  pub judged : IsJudged given text cert verdict
  pub returned_is : returned ≡ returned_verdict verdict
  pub total_is : total ≡ cert.total
  pub count_is : count ≡ length cert.pairs
  pub pairs_are : AreFront cert.pairs place place'
