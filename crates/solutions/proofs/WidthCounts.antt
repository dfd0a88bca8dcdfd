-- How many widths the cells of all sets take.
--     WidthsTo, widths_start, widths_next, widths_whole      the widths of the first sets, and of all
use Rattle.std.proofs.Common.{◌≡◌, ℕ, ◌+◌, ◌*◌, ◌^◌, ◌≤◌, map, count_ones, ap, ◌∙◌, arith}
use Rattle.std.specs.List.{sum, range_with_len}
use Rattle.std.proofs.lemmas.List.FromFn.{sum_by-map-range_with_len_more}
use Rattle.definitions.specs.Cells.{widths_taken}
use Rattle.layer_core.specs.Instances.{InstanceOf}
use Rattle.layer_core.specs.Needs.{needed, width_count}
use Rattle.layer_core.proofs.WantedMembers.{needed_ones, wanted_none, few_each}
use Rattle.solutions.specs.Solutions.{widths_for_all}

module _ (t : InstanceOf) where
  pub record WidthsTo (number count : ℕ) : Type 0 where
    pub are : count ≡ sum (map (width_count t) (range_with_len 0 number))
    pub few : count ≤ 16 * number

  pub widths_start : WidthsTo 1 0
  widths_start = grind (arith, sum_by-map-range_with_len_more, wanted_none)

  pub widths_next : (number count ones : ℕ) → WidthsTo number count → t.problem.inputs ≤ 16 → ones ≡ count_ones (needed t number) →
      WidthsTo (number + 1) (count + ones)
  widths_next number count ones h few e = grind (arith, needed_ones, few_each, sum_by-map-range_with_len_more)

  pub widths_whole : (number count : ℕ) → WidthsTo number count → number ≡ 2 ^ t.problem.inputs → count ≡ widths_for_all t
  unfolding widths_taken
  widths_whole number count h e = h.are ∙ ap (λ k. sum (map (width_count t) (range_with_len 0 k))) e
