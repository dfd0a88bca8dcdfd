use Rattle.std.proofs.Common.{arith, rules}
use Rattle.compaction_tests.proofs.numberings.numbers_pairs.Goals as goal

pub of_table-entries-requires : goal.of_table-entries-requires
of_table-entries-requires g c = record { small_rank = omega arith; short = omega arith; whole = (3, omega arith) }

pub number-requires : goal.number-requires
number-requires g c =
    rw (c.of_table-entries.ensures.numbers, c.of_table-entries.ensures.rank)
    (record {
      paired = record { small_rank = omega arith; short = omega arith; whole = (3, omega arith) };
      few = omega arith;
      below = search rules;
    })
