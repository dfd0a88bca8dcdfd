-- One more variable in the set of a class table of which rows are left out.
--     ready, pair_table      what the numbering of the pairs asks for
--     rows_more      the table with one more variable, from the numbers of the pairs and their masks
use Rattle.std.proofs.Common.{◌≡◌, ℕ, zero, suc, ◌+◌, ◌*◌, ◌%◌, ◌^◌, ◌<◌, Bool, true, false, nat_eq, inl, inr, List, [], ◌∷◌, map, length, get_or, refl, sym, ap, ◌∙◌, subst, arith}
use Rattle.std.specs.Set.{distinct_count}
use Rattle.std.proofs.lemmas.Nat.{pow_pos, pow-add}
use Rattle.definitions.specs.Orders.{has}
use Rattle.definitions.specs.Widths.{same_pair}
use Rattle.definitions.proofs.Lists.Maps.{map_same}
use Rattle.definitions.proofs.Lists.Sets.{Among, nat_decides}
use Rattle.definitions.proofs.Widths.ClassPairs.{pair_decides}
use Rattle.subfunction_classes.specs.Dependence.{joined_mask}
use Rattle.subfunction_classes.specs.Numbering.{rank, ranks}
use Rattle.subfunction_classes.specs.PairTables.{IsPairTable, NumbersPairs}
use Rattle.subfunction_classes.specs.Places.{pairs}
use Rattle.subfunction_classes.specs.Table.{free_below, set_of}
use Rattle.subfunction_classes.proofs.CountedWidths.{same_at}
use Rattle.subfunction_classes.proofs.OneMoreVariable.{IsReady, is_ready, holds_more}
use Rattle.subfunction_classes.proofs.Lists.{place_of}
use Rattle.edge_walks.specs.Rows.{AreWholeRows, IsShortened}
use Rattle.edge_walks.specs.Tables.{HoldsRows, TableOf, classes_at, rows_with}
use Rattle.subfunction_classes.proofs.HighSets.{free_all, high_new, step_down}
use Rattle.edge_walks.proofs.Rows.{among_short, rows_left, short_among, short_count, short_fewer, short_finer, short_map, short_pairs, short_rank}
use mathlib.Core.List.{map-map}

among_get : (xs : List ℕ) (i : ℕ) → i < length xs → Among (get_or xs i 0) xs
among_get [] i l = absurd (omega arith)
among_get (y ∷ xs) zero l = inl refl
among_get (y ∷ xs) (suc i) l = inr (among_get xs i (omega arith))

module _ (t : TableOf) (x : ℕ) (inside : x < t.problem.inputs) (below : x < t.level) (free : t.set % 2 ^ (x + 1) ≡ 0) (numbers masks : List ℕ)
    (h : HoldsRows t numbers masks) where
  new : has (set_of (classes_at t)) x ≡ false
  new = high_new t.problem.inputs t.set x free

  rank_is : free_below t.set x ≡ x
  rank_is = free_all t.set x (step_down t.set x free).0

  whole_ready : IsReady h.whole masks x
  whole_ready = is_ready (classes_at t) x inside new h.whole masks x h.holds (sym rank_is)

  short : IsShortened (2 * 2 ^ x) h.steps h.whole numbers
  short =
      subst (λ w. IsShortened w h.steps h.whole numbers) (ap (λ k. 2 ^ k) (let s : x + 1 ≡ 1 + x = omega arith in s) ∙ pow-add 2 1 x)
      (short_finer t.level (x + 1) h.steps h.whole numbers (omega arith) h.short)

  pub rows : AreWholeRows (2 * 2 ^ x) numbers
  rows = rows_left (2 * 2 ^ x) h.steps h.whole numbers whole_ready.whole short

  pub ready : IsReady numbers masks x
  ready = record {
    rank = whole_ready.rank;
    whole = rows;
    classes = λ i l.
        let a = among_short same_number same_decides (2 * 2 ^ x) h.steps h.whole numbers short (get_or numbers i 0) (among_get numbers i l) in
        let p = place_of 0 h.whole (get_or numbers i 0) a in
        subst (λ c. c < length masks) p.1.1 (whole_ready.classes p.0 p.1.0);
    few = whole_ready.few;
    few_entries = omega (arith, short_fewer (2 * 2 ^ x) h.steps h.whole numbers short);
  }
    where
      same_number : ℕ → ℕ → Bool
      same_number = nat_eq

      same_decides : (a b : ℕ) → (same_number a b ≡ true → a ≡ b) × (a ≡ b → same_number a b ≡ true)
      same_decides = nat_decides

  pub pair_table : IsPairTable numbers x (length masks)
  pair_table =
      let most = ready.few_entries in
      record {
        paired = record { small_rank = ready.rank; short = omega arith; whole = ready.whole };
        few = most;
        below = ready.classes;
      }

  abbrev all : List (ℕ × ℕ)
  all = pairs h.whole (2 ^ x)

  abbrev few : List (ℕ × ℕ)
  few = pairs numbers (2 ^ x)

  short_all : IsShortened (2 ^ x) h.steps all few
  short_all = short_pairs (2 ^ x) (pow_pos x) h.steps h.whole numbers short

  same_rank : (p : ℕ × ℕ) → rank same_pair all p ≡ rank same_pair few p
  same_rank = short_rank same_pair pair_decides (2 ^ x) h.steps all few short_all

  pub rows_more : (numbered joined : List ℕ) → NumbersPairs masks x few numbered joined → HoldsRows (rows_with t x) numbered joined
  unfolding ranks
  rows_more numbered joined made = record {
    whole = ranks same_pair all;
    steps = h.steps;
    holds = holds_more (classes_at t) x inside new h.whole masks (ranks same_pair all) joined h.holds
        (ap (λ k. ranks same_pair (pairs h.whole (2 ^ k))) (sym rank_is))
        (made.many ∙ sym (short_count same_pair pair_decides (2 ^ x) h.steps all few short_all)
        ∙ ap (λ k. distinct_count same_pair (pairs h.whole (2 ^ k))) (sym rank_is))
        (map-map (λ c. get_or joined c 0) (rank same_pair all) all
        ∙ map_same (λ p. get_or joined (rank same_pair all p) 0) (joined_mask masks x) all each
        ∙ ap (λ k. map (joined_mask masks x) (pairs h.whole (2 ^ k))) (sym rank_is));
    short = subst (λ us. IsShortened (2 ^ x) h.steps us numbered) (map_same (rank same_pair few) (rank same_pair all) all (λ p a. sym (same_rank p)))
        (subst (IsShortened (2 ^ x) h.steps (map (rank same_pair few) all)) (sym made.numbers_are)
        (short_map (rank same_pair few) (2 ^ x) h.steps all few short_all));
  }
    where
      told_few : map (λ p. get_or joined (rank same_pair few p) 0) few ≡ map (joined_mask masks x) few
      told_few = sym (map-map (λ c. get_or joined c 0) (rank same_pair few) few) ∙ ap (map (λ c. get_or joined c 0)) (sym made.numbers_are) ∙ made.labels

      each : (p : ℕ × ℕ) → Among p all → get_or joined (rank same_pair all p) 0 ≡ joined_mask masks x p
      each p a =
          ap (λ c. get_or joined c 0) (same_rank p)
          ∙ same_at (λ q. get_or joined (rank same_pair few q) 0) (joined_mask masks x) few told_few p
          (short_among same_pair pair_decides (2 ^ x) h.steps all few short_all p a)
