-- The parts of a report make the answer's text.
use Rattle.std.proofs.Common.{◌≡◌, ℕ, List, ◌++◌, sum, ap, ◌∙◌, subst}
use Rattle.definitions.specs.Levels.{level_counts, size_under}
use Rattle.definitions.specs.Orders.{variables}
use Rattle.definitions.specs.Pairs.{Pair, IsFirstOrder}
use Rattle.definitions.specs.Diagrams.{IsFirstKeeping}
use Rattle.definitions.specs.Problems.{TruthTables, functions}
use Rattle.definitions.specs.Sifting.{sifted}
use Rattle.definitions.proofs.Functions.Same.{level_counts_same, size_same}
use Rattle.pla_reader.specs.Covers.{NamedCover, functions_of}
use Rattle.truth_table.specs.OfCovers.{AreTablesOf}
use Rattle.report_texts.specs.Answers.{IsAnswer}
use Rattle.report_texts.specs.Texts.{file_order_levels, nodes_under, sizes_lines}
use Rattle.outcomes.specs.Texts.{counts_lines, order_lines}
use Rattle.truth_table.proofs.OfCovers.{tables_keep}
use Rattle.report_texts.proofs.SameAnswers.{first_same, sifted_same}

pub reported : (cover : NamedCover) (t : TruthTables) (P : List Pair) (text : List ℕ) (names : List (List ℕ))
    (best best' levels start other other' file : List ℕ) (size total : ℕ)
    → AreTablesOf cover t
    → IsFirstKeeping t.inputs (functions t) P best → IsFirstOrder cover.inputs P start
    → text ≡ order_lines names best' ++ counts_lines levels ++ sizes_lines other' size total
    → names ≡ cover.input_names → best' ≡ best → levels ≡ level_counts t.inputs (functions t) best
    → other' ≡ other → other ≡ sifted t.inputs (functions t) P start → size ≡ size_under t.inputs (functions t) other
    → total ≡ sum file → file ≡ file_order_levels cover
    → IsAnswer cover P text
unfolding size_under
reported cover t P text names best best' levels start other other' file size total h first starts is named best_is levels_are other_is
    sifted_is size_is total_is file_is =
    let n = cover.inputs in
    let F = functions_of cover in
    let same = tables_keep cover t h in
    let levels_of = levels_are ∙ ap (λ k. level_counts k (functions t) best) h.inputs ∙ level_counts_same n (functions t) F same best in
    let order_of = sifted_is ∙ ap (λ k. sifted k (functions t) P start) h.inputs ∙ sifted_same n (functions t) F P same start in
    let size_of = size_is ∙ ap (λ k. size_under k (functions t) other) h.inputs ∙ size_same n (functions t) F same other ∙ ap (size_under n F) order_of in
    let total_of : total ≡ nodes_under cover (variables n) = total_is ∙ ap sum file_is in
    record {
      best = best;
      first = first_same n (functions t) F P best same (subst (λ k. IsFirstKeeping k (functions t) P best) h.inputs first);
      start = start;
      starts = starts;
      is = is ∙ (λ i. order_lines (named i) (best_is i) ++ counts_lines (levels_of i) ++ sizes_lines ((other_is ∙ order_of) i) (size_of i) (total_of i));
    }
