use Rattle.std.proofs.Common.{◌≡◌, ◌-◌, ◌<◌, ◌/◌, ◌%◌, [], bit_and, get_or, slice_index, ap, ◌∙◌, arith}
use Rattle.std.specs.List.{range_with_len}
use Rattle.rayon.specs.Numbers.{nat_range}
use Rattle.rayon.proofs.ToStd.{nat_range-All}
use Rattle.truth_table.proofs.TermWords.{groups_long, packed_groups}
use Rattle.truth_table.proofs.term_points.packed_words.Goals as goal

pub collect-requires-clause-ready : goal.collect-requires-clause-ready
collect-requires-clause-ready g c =
    let ends = c.into_par_iter.ensures in
    let size = c.words_per_table-size.result in
    let inside = nat_range-All (λ i. i < 32) 0 c.groups_of.result (λ i low high. omega (arith, c.groups_of.ensures)) in
    grind arith

pub lay_out-requires-clause-groups : goal.lay_out-requires-clause-groups
lay_out-requires-clause-groups g c =
    let count = c.groups_of.result in
    let whole : count - 0 ≡ count = omega arith in
    let chain = rw (c.map.ensures.base, c.map.ensures.f, c.with_min_len.ensures.base) at c.in_ok-groups.ensures.1 in
    let numbers = chain.1 ∙ (λ i. nat_range (c.into_par_iter.ensures.0 i) (c.into_par_iter.ensures.1 i)) ∙ ap (range_with_len 0) whole in
    let l = groups_long c.args.terms.now count chain.0 c.in_ok-groups.ensures.0 numbers chain.2 in
    grind arith

pub returns : goal.returns
returns g c =
    let size = c.words_per_table-size.result in
    let count = c.groups_of.result in
    let mask = c.points_mask.result in
    let whole : count - 0 ≡ count = omega arith in
    let h = c.in_ok-groups.ensures in
    let chain = rw (c.map.ensures.base, c.map.ensures.f, c.with_min_len.ensures.base) at h.1 in
    let numbers = chain.1 ∙ (λ i. nat_range (c.into_par_iter.ensures.0 i) (c.into_par_iter.ensures.1 i)) ∙ ap (range_with_len 0) whole in
    let v = c.deref.ensures.value ∙ h.2 in
    let both = packed_groups c.args.n c.args.m c.args.terms.now size count mask chain.0 h.0 c.in_ok-words.words.items c.requires.some_inputs
    c.requires.few_inputs c.requires.some_outputs c.requires.few_outputs c.requires.fit
    c.words_per_table-size.ensures.some c.words_per_table-size.ensures.value (omega (arith, c.groups_of.ensures)) (omega arith)
    c.points_mask.ensures numbers chain.2 c.in_ok-words.ensures.long
    (λ i lt. c.in_ok-words.ensures.words i lt ∙ (λ z. bit_and (slice_index (get_or (get_or (v z) (i % size / 32) []) (i % size % 32) []) (i / size)) mask)) in
    record { packed = both.0; tables = both.1 }
