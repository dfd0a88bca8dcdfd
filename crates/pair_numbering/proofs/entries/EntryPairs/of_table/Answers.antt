use Rattle.std.proofs.Common.{arith}
use Rattle.std.proofs.lemmas.Nat.{one_shl}
use Rattle.pair_numbering.specs.Strips.{IsLaid}
use Rattle.pair_numbering.proofs.entries.EntryPairs.of_table.Goals as goal

pub invariant_of-result : goal.invariant_of-result
unfolding IsLaid
invariant_of-result c =
    let small = c.requires.small_rank in
    (c.requires, one_shl c.args.rank 64 (omega arith))
