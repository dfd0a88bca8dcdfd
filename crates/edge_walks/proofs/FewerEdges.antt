-- Fewer judged edges.
--     fewer_step      one more set is left out
--     fewer_tables, fewer_fails      fewer edges are tables of edges too; one that fails among them is one that fails
--     first_early      if an edge fails, the first one that fails is the first among those from sets up to that one's
--     first_again      so it is if that edge was the first of fewer ones
use Rattle.std.specs.Prelude.{◌≡◌, ℕ, ◌+◌, ◌^◌, ◌<◌, ◌≤◌, List, length, set, slice_index, Option, Some}
use Rattle.std.proofs.Common.{inl, inr, refl, ap, ◌∙◌, arith}
use Rattle.std.specs.Int.{bit_at}
use Rattle.std.proofs.lemmas.Bool.{cases_eq, cases_lt}
use Rattle.std.proofs.lemmas.List.{get_or-set_same, get_or-set_other, length-set}
use Rattle.std.proofs.lemmas.Nat.Bits.{bit_at-zero}
use Rattle.definitions.specs.Functions.{Function}
use Rattle.edge_walks.specs.Edges.{AreEdgeTables, EdgeFails, IsFirstEdge}
use Rattle.edge_walks.specs.FewerEdges.{AreFewer, IsPast}

-- one more set is left out
pub fewer_step : (why : ℕ → Type 0) (judged fewer : List ℕ) (T : ℕ) → T < length judged → AreFewer why judged fewer → why T →
    AreFewer why judged (set fewer T 0)
fewer_step why judged fewer T less are reason = grind (arith, length-set, cases_eq, get_or-set_same, get_or-set_other)

module _ {why : ℕ → Type 0} {judged fewer : List ℕ} (are : AreFewer why judged fewer) where
  -- an edge that is judged among fewer ones is judged
  judged_too : (T x : ℕ) → bit_at (slice_index fewer T) x ≡ 1 → bit_at (slice_index judged T) x ≡ 1
  judged_too T x o = grind (arith, bit_at-zero)

  -- fewer edges are tables of edges too
  pub fewer_tables : (n : ℕ) (values : List ℕ) → AreEdgeTables n values judged → AreEdgeTables n values fewer
  fewer_tables n values tables = grind (arith, judged_too)

  -- an edge that fails among fewer ones fails
  pub fewer_fails : (n : ℕ) (F : List Function) (values : List ℕ) (S x : ℕ) → EdgeFails n F values fewer S x → EdgeFails n F values judged S x
  fewer_fails n F values S x f = record { small = f.small; new = f.new; is_judged = judged_too (S + 2 ^ x) x f.is_judged; fails = f.fails }

module _ (n : ℕ) (F : List Function) (values : List ℕ) {last : ℕ} {judged early : List ℕ} (are : AreFewer (IsPast last) judged early) where
  -- an edge from a set up to the last one fails among those too
  early_fails : (S x : ℕ) → S ≤ last → EdgeFails n F values judged S x → EdgeFails n F values early S x
  early_fails S x le f = elim (are.each (S + 2 ^ x)) [
    | inl same ↦ record { small = f.small; new = f.new; is_judged = ap (λ m. bit_at m x) same ∙ f.is_judged; fails = f.fails }
    | inr out ↦ absurd (omega (arith, out.1 S x refl))
  ]

  -- if an edge fails, the first one that fails is the first among those from sets up to that one's
  pub first_early : (x : ℕ) (edge : Option (ℕ × ℕ)) → EdgeFails n F values judged last x → IsFirstEdge (EdgeFails n F values early) edge →
      IsFirstEdge (EdgeFails n F values judged) edge
  first_early x edge h k = grind (arith, early_fails, fewer_fails, cases_lt)

-- the first edge that fails is found by a second walk, from what a walk over fewer edges found
pub first_again : (n : ℕ) (F : List Function) (values : List ℕ) {why : ℕ → Type 0} {judged fewer early : List ℕ} (found : ℕ × ℕ) (edge : Option (ℕ × ℕ)) →
    AreFewer why judged fewer → IsFirstEdge (EdgeFails n F values fewer) (Some found) → AreFewer (IsPast found.0) judged early →
    IsFirstEdge (EdgeFails n F values early) edge → IsFirstEdge (EdgeFails n F values judged) edge
first_again n F values found edge less first are =
    first_early n F values are found.1 edge (fewer_fails less n F values found.0 found.1 first.0)
