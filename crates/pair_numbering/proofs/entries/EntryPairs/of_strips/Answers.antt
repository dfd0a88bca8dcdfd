use Rattle.std.proofs.Common.{arith}
use Rattle.std.proofs.lemmas.Nat.{one_shl}
use Rattle.pair_numbering.specs.Strips.{IsLaid}
use Rattle.pair_numbering.proofs.entries.EntryPairs.of_strips.Goals as goal

pub invariant_of-result : goal.invariant_of-result
unfolding IsLaid
invariant_of-result c =
    let bits = c.requires.bits in
    ((c.requires.named, c.requires.bits, c.requires.few, c.requires.small), one_shl c.args.bits 64 (omega arith))
