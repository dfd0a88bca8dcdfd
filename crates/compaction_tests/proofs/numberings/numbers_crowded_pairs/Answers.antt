use Rattle.std.proofs.Common.{rules}
use Rattle.compaction_tests.proofs.numberings.numbers_crowded_pairs.Goals as goal

pub of_table-entries-requires : goal.of_table-entries-requires
of_table-entries-requires g c =
    let l = c.crowded_pairs-numbers.auto in
    record { small_rank = search rules; short = search (l, rules); whole = (160, search rules) }

pub number-requires : goal.number-requires
number-requires g c =
    let l = c.crowded_pairs-numbers.auto in
    rw (c.of_table-entries.ensures.numbers, c.of_table-entries.ensures.rank)
    (record {
      paired = record { small_rank = search rules; short = search (l, rules); whole = (160, search rules) };
      few = search (l, rules);
      below = search (l, rules);
    })
