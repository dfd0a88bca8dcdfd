-- What a plan asks.
--     PairsAre above n r      what the list of pairs says: none if there is no list
use Rattle.std.specs.Prelude.{◌≡◌, ℕ, List, [], Option, Some, None, Result, Ok, Err}
use Rattle.std.specs.Borrow.{Bor}
use Rattle.definitions.specs.KeptPairs.{KeptPairs}
use Rattle.definitions.specs.PairTexts.{ParsesAs, listed}
use Rattle.definitions.specs.declared.faults.PairsFault.{PairsFault}

-- the pairs of a list for n variables, or its fault; none if there is no list
abbrev pub PairsAre : Option (Bor (List ℕ)) → ℕ → Result KeptPairs PairsFault → Type 0
PairsAre None n (Ok kept) = kept ≡ record { inputs = n; pairs = [] }
PairsAre None n (Err fault) = ⊥
PairsAre (Some list) n r = ParsesAs (listed list.now) n r
