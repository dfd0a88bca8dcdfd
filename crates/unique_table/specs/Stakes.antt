-- How much of a store a session has: a new store's session has the whole, a split halves a stake, and a join adds two.
--     whole, half s, joined s t      the whole stake, half of a stake, and the sum of two
--     IsWhole s, IsNoLess s t      a stake of all units; t is no less than s
--     amount k s, AreWithinWhole views      a stake in 2 ^ k equal units; all stakes together are no more than the whole
--     HalvesJoin      halves make the stake again
use Rattle.std.specs.Prelude.{ℕ, ◌+◌, ◌-◌, ◌*◌, ◌^◌, ◌≤◌, List, sum_by}
use Rattle.unique_table.specs.declared.session.Stake.{Stake}
use Rattle.unique_table.specs.declared.session.View.{View}

abbrev pub whole : Stake
whole = record { units = 1; halvings = 0 }

abbrev pub half : Stake → Stake
half s = record { units = s.units; halvings = s.halvings + 1 }

abbrev pub joined : Stake → Stake → Stake
joined s t = record {
  units = s.units * 2 ^ t.halvings + t.units * 2 ^ s.halvings;
  halvings = s.halvings + t.halvings;
}

-- the stake has all units
abbrev pub IsWhole : Stake → Type 0
IsWhole s = 2 ^ s.halvings ≤ s.units

-- the stake t is no less than the stake s
abbrev pub IsNoLess : Stake → Stake → Type 0
IsNoLess s t = s.units * 2 ^ t.halvings ≤ t.units * 2 ^ s.halvings

-- how many of 2 ^ k equal units a stake is, if it was halved no more than k times
abbrev pub amount : ℕ → Stake → ℕ
amount k s = s.units * 2 ^ (k - s.halvings)

-- the stakes of all views are together no more than the whole, in units that are small enough for all stakes
abbrev pub AreWithinWhole : List View → Type 0
AreWithinWhole views = (k : ℕ) → sum_by (λ v. v.stake.halvings) views ≤ k →
    sum_by (λ v. amount k v.stake) views ≤ 2 ^ k

-- two stakes that are no less than the two halves of a stake are, joined, no less than this stake
abbrev pub HalvesJoin : Type 0
HalvesJoin = (s a b : Stake) → IsNoLess (half s) a → IsNoLess (half s) b → IsNoLess s (joined a b)
