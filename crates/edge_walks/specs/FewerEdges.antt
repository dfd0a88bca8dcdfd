-- Sets that need not be judged, since exchanges of variables lead to greater ones, or since an earlier edge fails.
--     AreKept n values judged images      sets and their images have equal values, and edges are judged by partners
--     LeadsTo n F values judged T U      with each edge into T that fails, one into U fails
--     LeadsOn n F values judged T      with each edge into T that fails, one into a greater set fails
--     AreGuides n F values judged images      sets and their images lead to each other
--     IsPast last T      each edge into T leads from a set past `last`
--     AreFewer why judged fewer      the edges that are judged, but for those into sets that may be left out
use Rattle.std.specs.Prelude.{◌≡◌, ℕ, ◌+◌, ◌^◌, ◌<◌, ◌⊎◌, List, length, slice_index}
use Rattle.definitions.specs.Functions.{Function}
use Rattle.edge_walks.specs.Edges.{EdgeFails}

-- sets and their images have equal values, and the edges into them are judged by partners
pub record AreKept (n : ℕ) (values judged images : List ℕ) : Type 0 where
  pub alike : (S : ℕ) → S < 2 ^ n → slice_index values (slice_index images S) ≡ slice_index values S
  pub inside : (S : ℕ) → S < 2 ^ n → slice_index judged S < 2 ^ n
  pub partners : (S : ℕ) → S < 2 ^ n → slice_index judged (slice_index images S) ≡ slice_index images (slice_index judged S)

-- if an edge into T fails, one into U does
abbrev pub LeadsTo : ℕ → List Function → List ℕ → List ℕ → ℕ → ℕ → Type 0
LeadsTo n F values judged T U = (S x : ℕ) → EdgeFails n F values judged S x → S + 2 ^ x ≡ T →
    (a : ℕ × ℕ) × EdgeFails n F values judged a.0 a.1 × (a.0 + 2 ^ a.1 ≡ U)

-- if an edge into T fails, one into a greater set does
abbrev pub LeadsOn : ℕ → List Function → List ℕ → List ℕ → ℕ → Type 0
LeadsOn n F values judged T = (S x : ℕ) → EdgeFails n F values judged S x → S + 2 ^ x ≡ T →
    (a : ℕ × ℕ) × EdgeFails n F values judged a.0 a.1 × (T < a.0 + 2 ^ a.1)

-- each edge into T leads from a set past `last`
abbrev pub IsPast : ℕ → ℕ → Type 0
IsPast last T = (S x : ℕ) → S + 2 ^ x ≡ T → last < S

-- into each set the same edges are judged, or none if there is a reason to leave it out
pub record AreFewer (why : ℕ → Type 0) (judged fewer : List ℕ) : Type 0 where
  pub long : length fewer ≡ length judged
  pub each : (T : ℕ) → (slice_index fewer T ≡ slice_index judged T) ⊎ ((slice_index fewer T ≡ 0) × why T)

-- sets and their images lead to each other
pub record AreGuides (n : ℕ) (F : List Function) (values judged images : List ℕ) : Type 0 where
  pub long : length images ≡ 2 ^ n
  pub inside : (T : ℕ) → T < 2 ^ n → slice_index images T < 2 ^ n
  pub leads : (T : ℕ) → T < 2 ^ n → LeadsTo n F values judged T (slice_index images T)
  pub back : (T : ℕ) → T < 2 ^ n → LeadsTo n F values judged (slice_index images T) T
