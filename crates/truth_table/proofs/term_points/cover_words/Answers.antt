use Rattle.std.proofs.Common.{◌≡◌, ℕ, ◌+◌, ◌*◌, ◌/◌, ◌%◌, ◌<◌, ◌^◌, [], List, bit_and, get_or, slice_index, length, map, nat_lt, refl, sym, ap, ◌∙◌, subst, arith}
use Rattle.std.specs.List.{range_with_len}
use Rattle.std.proofs.lemmas.List.FromFn.{get_or-range_with_len, length-range_with_len}
use Rattle.definitions.specs.Functions.{table}
use Rattle.definitions.specs.Products.{product_functions}
use Rattle.truth_table.specs.Terms.{AreGroupWords}
use Rattle.truth_table.proofs.Lists.{zip_from}
use Rattle.truth_table.proofs.TermWords.{packed_groups}
use Rattle.truth_table.proofs.term_points.cover_words.Goals as goal

pub lay_out-requires-clause-groups : goal.lay_out-requires-clause-groups
lay_out-requires-clause-groups c = let long = ap length c.deref.ensures.value ∙ c.in_ok-groups.ensures.long in omega arith

pub returns : goal.returns
returns c =
    let n = c.args.cover.now.inputs in
    let m = c.args.cover.now.outputs in
    let terms = c.terms.result.now in
    let size = c.words_per_table-size.result in
    let count = c.groups_of.result in
    let mask = c.points_mask.result in
    let groups = c.in_ok-groups.groups.items in
    let found = c.in_ok-groups.ensures in
    let numbers = range_with_len 0 count in
    let zipped = zip_from (AreGroupWords terms) numbers groups 0 [] (length-range_with_len 0 count ∙ sym found.long)
    (λ k h. let inside : k < count = omega (arith, found.long) in
    let at : get_or numbers k 0 ≡ k = get_or-range_with_len 0 count k 0 inside ∙ omega arith in
    subst (λ (j : ℕ). AreGroupWords terms j (get_or groups k [])) (sym at) (found.words k inside)) in
    let outputs = c.outputs.ensures.value in
    let laid = c.in_ok-words.ensures in
    let both = packed_groups n m terms size count mask numbers groups c.in_ok-words.words.items (omega arith) (omega arith) (omega arith) (omega arith)
    c.terms.ensures.fit c.words_per_table-size.ensures.some
    (c.words_per_table-size.ensures.value ∙ ap (λ (k : ℕ). (2 ^ k + 63) / 64) c.inputs.ensures.value) (omega arith) (omega arith)
    (λ b h. c.points_mask.ensures b h ∙ ap (λ (k : ℕ). nat_lt b (2 ^ k)) c.inputs-2.ensures.value) refl zipped
    (laid.long ∙ ap (λ (k : ℕ). k * size) outputs)
    (λ i lt. laid.words i (subst (λ (k : ℕ). i < k * size) (sym outputs) lt)
    ∙ ap (λ (gs : List (List (List ℕ))). bit_and (slice_index (get_or (get_or gs (i % size / 32) []) (i % size % 32) []) (i / size)) mask)
    c.deref.ensures.value) in
    record {
      packed = both.0;
      tables = record { inputs = refl; tables = both.1 ∙ ap (λ ps. map (table n) (product_functions m ps)) c.terms.ensures.products };
    }
