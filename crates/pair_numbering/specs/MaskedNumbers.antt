-- Numbers of pairs, with the mask of each number.
--     NumbersMasked pairs numbers joined      the pairs have numbers by first occurrence, and each number its mask
use Rattle.std.specs.Prelude.{ℕ, ◌^◌, List}
use Rattle.subfunction_classes.specs.PairTables.{NumbersPairs}
use Rattle.subfunction_classes.specs.Places as places
use Rattle.pair_numbering.specs.declared.masks.MaskedPairs.{MaskedPairs}

abbrev pub NumbersMasked : MaskedPairs → List ℕ → List ℕ → Type 0
NumbersMasked p numbers joined = NumbersPairs p.masks.now p.x (places.pairs p.entries.numbers (2 ^ p.entries.rank)) numbers joined
