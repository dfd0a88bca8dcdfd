-- The figures of a set's orders, member by member.
--     ArePartial n F P set x s      the figures of those with a member below x on top
--     partial_none, partial_with, partial_lacking, partial_all      at first, with one variable more, and at the end
--     counts_small, totals_small      the sums stay small
--     below_at, figures_more      the figures of the set without one of its members; those of one mask more
use Rattle.std.proofs.lemmas.Bool.{cases_lt}
use Rattle.std.proofs.lemmas.List.{get_or_append_left, get_or_push}
use Rattle.std.proofs.Common.{◌≡◌, ◌≢◌, ℕ, ◌+◌, ◌*◌, ◌-◌, ◌^◌, ◌<◌, ◌≤◌, true, List, length, slice_index_or, sym, ap, ◌∙◌, subst, arith, ◌++◌, [], ◌∷◌, length-append, inl, inr}
use Rattle.std.specs.Int.{bit_at}
use Rattle.std.specs.List.{sum_by}
use Rattle.std.proofs.lemmas.Nat.{pow_pos}
use Rattle.definitions.specs.Functions.{Function}
use Rattle.definitions.specs.Orders.{members}
use Rattle.definitions.specs.Pairs.{Pair, is_lawful}
use Rattle.definitions.specs.Widths.{width}
use Rattle.definitions.specs.AllOrders.{cost_total, ways}
use Rattle.definitions.proofs.Widths.OrderSizes.{lists_few, total_small}
use Rattle.order_counts.specs.declared.figures.Figures.{Figures}
use Rattle.order_counts.specs.Figures.{AreFigures, AreFiguresBelow, AreFiguresOf, IsTidy, both, raised}
use Rattle.order_counts.proofs.Counts.{figures_same}
use Rattle.order_counts.proofs.Rows.{costs_small, width_small}
use Rattle.order_counts.proofs.Sums.{power_le, sum_none, sum_with, sum_lacking, sum_part, number_top, total_top, ways_top, number_summed, total_summed, ways_summed}

-- the figures of the orders with a member below x on top
pub record ArePartial (n : ℕ) (F : List Function) (P : List Pair) (set x : ℕ) (s : Figures) : Type 0 where
  pub count : s.count ≡ sum_by (number_top n P set) (members x set)
  pub total : s.total ≡ sum_by (total_top n P set F) (members x set)
  pub costs : AreFigures (λ c. sum_by (ways_top n P set F c) (members x set)) s
  pub tidy : IsTidy s

module _ (n : ℕ) (F : List Function) (P : List Pair) (set : ℕ) where
  pub partial_none : (s : Figures) → s.count ≡ 0 → s.total ≡ 0 → IsTidy s → ArePartial n F P set 0 s
  partial_none s count total tidy = record {
    count = count ∙ sym (sum_none (number_top n P set) set);
    total = total ∙ sym (sum_none (total_top n P set F) set);
    costs = record {
      none = λ z c. sum_none (ways_top n P set F c) set;
      fewest = λ some. absurd (some count);
      most = λ some. absurd (some count);
    };
    tidy = tidy;
  }

  pub partial_lacking : (x : ℕ) (s : Figures) → bit_at set x ≢ 1 → ArePartial n F P set x s → ArePartial n F P set (x + 1) s
  partial_lacking x s ne h = record {
    count = h.count ∙ sym (sum_lacking (number_top n P set) set x ne);
    total = h.total ∙ sym (sum_lacking (total_top n P set F) set x ne);
    costs = figures_same _ _ (λ c. sym (sum_lacking (ways_top n P set F c) set x ne)) s h.costs;
    tidy = h.tidy;
  }

  -- what the call of `add` gives
  pub partial_with : (x w : ℕ) (old below new : Figures) → bit_at set x ≡ 1 → w ≡ width n F (members n (set - 2 ^ x)) x →
      ArePartial n F P set x old → AreFiguresOf n F P (members n (set - 2 ^ x)) below →
      new.count ≡ old.count + below.count → new.total ≡ old.total + (below.total + w * below.count) → IsTidy new →
      ((f g : ℕ → ℕ) → AreFigures f old → AreFigures g below → AreFigures (both f (raised g w)) new) → ArePartial n F P set (x + 1) new
  partial_with x w old below new bit is h b count total tidy figures = record {
    count = let s = sum_with (number_top n P set) set x bit in omega (arith, count, h.count, b.count, s);
    total =
        let s = sum_with (total_top n P set F) set x bit in
        let same : below.total + w * below.count ≡ total_top n P set F x =
        ap (λ k. below.total + k * below.count) is ∙ ap (λ k. k + width n F (members n (set - 2 ^ x)) x * below.count) b.total
        ∙ ap (λ k. cost_total n F P (members n (set - 2 ^ x)) + width n F (members n (set - 2 ^ x)) x * k) b.count in
        omega (arith, total, h.total, same, s);
    costs =
        figures_same (both (λ c. sum_by (ways_top n P set F c) (members x set)) (raised (ways n F P (members n (set - 2 ^ x))) w)) _
        (λ c.
        ap (λ k. sum_by (ways_top n P set F c) (members x set) + raised (ways n F P (members n (set - 2 ^ x))) k c) is
        ∙ sym (sum_with (ways_top n P set F c) set x bit))
        new (figures _ _ h.costs b.costs);
    tidy = tidy;
  }

  module _ (few : n ≤ 16) (some : set ≢ 0) (within : set < 2 ^ n) (lawful : is_lawful P (members n set) ≡ true) where
    pub partial_all : (s : Figures) → ArePartial n F P set n s → AreFiguresOf n F P (members n set) s
    partial_all s h = record {
      count = h.count ∙ number_summed n P set few some within lawful;
      total = h.total ∙ total_summed n P set few some within lawful F;
      costs = figures_same _ _ (ways_summed n P set few some within lawful F) s h.costs;
      tidy = h.tidy;
    }

    -- the sums with one member more stay small
    pub counts_small : (x : ℕ) (old below : Figures) → x < n → bit_at set x ≡ 1 → ArePartial n F P set x old →
        AreFiguresOf n F P (members n (set - 2 ^ x)) below → old.count + below.count < 2 ^ 64
    counts_small x old below lt bit h b =
        omega (
          arith,
          h.count,
          b.count,
          sum_with (number_top n P set) set x bit,
          sum_part (number_top n P set) set (x + 1) n (omega arith),
          number_summed n P set few some within lawful,
          lists_few n P set few,
        )

    pub totals_small : (x w : ℕ) (old below : Figures) → x < n → bit_at set x ≡ 1 → length F ≤ 16 → w ≡ width n F (members n (set - 2 ^ x)) x →
        ArePartial n F P set x old → AreFiguresOf n F P (members n (set - 2 ^ x)) below → old.total + (below.total + w * below.count) < 2 ^ 64
    totals_small x w old below lt bit outputs is h b =
        let same : below.total + w * below.count ≡ total_top n P set F x =
        ap (λ k. below.total + k * below.count) is ∙ ap (λ k. k + width n F (members n (set - 2 ^ x)) x * below.count) b.total
        ∙ ap (λ k. cost_total n F P (members n (set - 2 ^ x)) + width n F (members n (set - 2 ^ x)) x * k) b.count in
        omega (
          arith,
          h.total,
          same,
          sum_with (total_top n P set F) set x bit,
          sum_part (total_top n P set F) set (x + 1) n (omega arith),
          total_summed n P set few some within lawful F,
          total_small n F P set few outputs,
        )

-- the figures of a set without one of its members, where they stand
pub below_at : (n : ℕ) (F : List Function) (P : List Pair) (set x code : ℕ) (figures : List Figures) (d : Figures) → AreFiguresBelow n F P set figures →
    bit_at set x ≡ 1 → code ≡ 2 ^ x → AreFiguresOf n F P (members n (set - 2 ^ x)) (slice_index_or figures (set - code) d)
below_at n F P set x code figures d smaller bit e =
    subst (λ k. AreFiguresOf n F P (members n (set - k)) (slice_index_or figures (set - code) d)) e
    (smaller.each (set - code) d (omega (arith, power_le set x bit, pow_pos x, e)))

-- the figures of one mask more
pub figures_more : (n : ℕ) (F : List Function) (P : List Pair) (set : ℕ) (figures : List Figures) (new : Figures) →
    AreFiguresBelow n F P set figures → AreFiguresOf n F P (members n set) new → AreFiguresBelow n F P (set + 1) (figures ++ new ∷ [])
figures_more n F P set figures new h is = record {
  long = length-append figures (new ∷ []) ∙ ap (λ m. m + 1) h.long;
  each = λ mask s lt. elim (cases_lt mask set) [
    | inl below ↦
        subst (AreFiguresOf n F P (members n mask)) (sym (get_or_append_left figures (new ∷ []) s mask (omega (arith, h.long)))) (h.each mask s below)
    | inr le ↦
        let e : mask ≡ set = omega arith in
        subst (AreFiguresOf n F P (members n mask)) (sym (get_or_push figures new s mask (h.long ∙ sym e)))
        (subst (λ m. AreFiguresOf n F P (members n m) new) (sym e) is)
  ];
}

-- the greatest cost with one member more stays small
pub most_small : (n : ℕ) (F : List Function) → n ≤ 16 → length F ≤ 16 → (P : List Pair) (set x w : ℕ) (below : Figures) → x < n → bit_at set x ≡ 1 →
    w ≡ width n F (members n (set - 2 ^ x)) x → AreFiguresOf n F P (members n (set - 2 ^ x)) below → 0 < below.count → below.most.nodes + w < 2 ^ 32
most_small n F few outputs P set x w below small bit is b counted =
    let greatest = b.costs.most (λ z. omega arith) in
    let low = costs_small n F few outputs P (set - 2 ^ x) below.most.nodes (let some = greatest.some in let orders = greatest.orders in omega arith) in
    let narrow = width_small n F few outputs set x small bit in
    omega arith
