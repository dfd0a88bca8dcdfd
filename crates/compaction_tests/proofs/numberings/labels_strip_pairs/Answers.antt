use Rattle.std.proofs.Common.{ℕ, ◌^◌, ◌≤◌, List, [], ◌∷◌, length, sym, subst, arith, rules}
use Rattle.subfunction_classes.specs.PairTables.{AllBelow}
use Rattle.subfunction_classes.specs.Strips.{names_of}
use Rattle.pair_numbering.specs.Strips.{ArePairedStrips}
use Rattle.pair_numbering.proofs.EntryPlaces.{strip_table}
use Rattle.compaction_tests.proofs.numberings.labels_strip_pairs.Goals as goal

pub of_strips-requires-clause-named : goal.of_strips-requires-clause-named
unfolding names_of
of_strips-requires-clause-named g c = record { count = 2; whole = omega arith; within = search rules }

pub of_strips-requires-2-clause-named : goal.of_strips-requires-2-clause-named
unfolding names_of
of_strips-requires-2-clause-named g c = record { count = 2; whole = omega arith; within = search rules }

pub invariant_of-label_pairs : goal.invariant_of-label_pairs
unfolding names_of
invariant_of-label_pairs g c =
    let strips : ArePairedStrips ((0, 1) ∷ (1, 1) ∷ []) (0 ∷ 1 ∷ 2 ∷ 0 ∷ []) 1 3 = record {
      named = record { count = 2; whole = omega arith; within = search rules };
      narrow = search rules;
      few = search rules;
      small = search rules;
      below = search rules;
    } in
    let table = strip_table ((0, 1) ∷ (1, 1) ∷ []) (0 ∷ 1 ∷ 2 ∷ 0 ∷ []) 1 3 strips in
    let numbers = c.of_strips.ensures.numbers in
    record {
      few_entries = subst (λ (us : List ℕ). length us ≤ 2 ^ 20) (sym numbers) table.few;
      below = subst (λ us. AllBelow us 3) (sym numbers) table.below;
      few = search rules;
      variable = search rules;
    }

pub invariant_of-label_pairs-2 : goal.invariant_of-label_pairs-2
unfolding names_of
invariant_of-label_pairs-2 g c =
    let strips : ArePairedStrips ((0, 1) ∷ (1, 1) ∷ []) (0 ∷ 1 ∷ 1 ∷ 0 ∷ []) 1 2 = record {
      named = record { count = 2; whole = omega arith; within = search rules };
      narrow = search rules;
      few = search rules;
      small = search rules;
      below = search rules;
    } in
    let table = strip_table ((0, 1) ∷ (1, 1) ∷ []) (0 ∷ 1 ∷ 1 ∷ 0 ∷ []) 1 2 strips in
    let numbers = c.of_strips-2.ensures.numbers in
    record {
      few_entries = subst (λ (us : List ℕ). length us ≤ 2 ^ 20) (sym numbers) table.few;
      below = subst (λ us. AllBelow us 2) (sym numbers) table.below;
      few = search rules;
      variable = search rules;
    }
