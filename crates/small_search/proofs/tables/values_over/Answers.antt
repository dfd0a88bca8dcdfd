use Rattle.std.proofs.Common.{arith}
use Rattle.small_search.proofs.ValueParts.{start_within}
use Rattle.small_search.proofs.tables.values_over.Goals as goal

pub split_at-requires : goal.split_at-requires
split_at-requires c =
    let s = start_within c.args.entries c.args.size c.requires.size in
    let l = c.requires.long in
    omega (arith, s, l, c.start_of.ensures)

pub split_at-requires-2 : goal.split_at-requires-2
split_at-requires-2 c =
    let s = start_within c.args.entries c.args.size c.requires.size in
    let l = c.requires.long in
    let b = c.split_at.ensures.back_len in
    omega (arith, s, l, b, c.start_of.ensures)
