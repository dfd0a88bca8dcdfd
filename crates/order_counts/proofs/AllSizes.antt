-- The sizes of all orders, from the counts of the set of all variables.
--     limited      what counting requires
--     counts_of_all      the counts of the last set
--     sizes_of_all      how many orders have each size
use Rattle.std.proofs.Common.{◌≡◌, ℕ, ◌+◌, ◌-◌, ◌^◌, ◌<◌, ◌≤◌, inl, inr, List, length, get_or, min, slice_index_or, count_ones, sym, ap, ◌∙◌, subst, arith}
use Rattle.std.proofs.lemmas.Bool.{cases_lt}
use Rattle.std.proofs.lemmas.Nat.{pow_pos}
use Rattle.std.proofs.lemmas.List.FromFn.{length-range_with_len}
use Rattle.definitions.specs.Functions.{Function}
use Rattle.definitions.specs.Orders.{IsOrder, variables}
use Rattle.definitions.specs.Pairs.{Keeps, Pair}
use Rattle.definitions.specs.Problems.{functions}
use Rattle.definitions.specs.AllOrders.{ways, AreAllWidths}
use Rattle.definitions.proofs.Bits.Ones.{ones-members}
use Rattle.definitions.proofs.Widths.AllOrders.{members_all}
use Rattle.definitions.proofs.Widths.OrderSizes.{sizes_are_ways}
use Rattle.order_counts.specs.declared.cost_counts.CostCounts.{CostCounts}
use Rattle.order_counts.specs.declared.set_counts.Recurrence.{Recurrence}
use Rattle.order_counts.specs.Sizes.{AreCountsInLayer, AreCountsOf, AreLimits, AreSizesOfOrders, AreTrimmed, counts_at, AreLimited}
use Rattle.order_counts.proofs.Rows.{no_large}
use Rattle.order_counts.proofs.SetCounts.{beyond}

-- widths and limits that were found are those that counting requires
pub limited : (given : Recurrence) (limit : ℕ) (limits : List ℕ) → given.pairs.now.inputs ≤ 16 → length (functions given.problem.now) ≤ 16 →
    AreAllWidths given.pairs.now.inputs (functions given.problem.now) given.widths.now →
    AreLimits given.pairs.now.inputs (functions given.problem.now) limit limits → given.limits.now ≡ limits → limit < 2 ^ 20 → AreLimited given
limited given limit limits inputs few widths are same small =
    let n = given.pairs.now.inputs in
    let F = functions given.problem.now in
    let h = subst (AreLimits n F limit) (sym same) are in
    record {
      inputs = inputs;
      few = few;
      widths = widths;
      limits = subst (λ m. AreLimits n F m given.limits.now) (sym h.last) h;
      small = omega (arith, h.last);
    }

module _ (given : Recurrence) (limit k code : ℕ) (items : List ℕ) (counts : List CostCounts) (all : CostCounts) where
  pub counts_of_all : AreCountsInLayer given k counts → k ≡ given.pairs.now.inputs →
      AreLimits given.pairs.now.inputs (functions given.problem.now) limit items → given.limits.now ≡ items → code ≡ 2 ^ given.pairs.now.inputs - 1 →
      all ≡ slice_index_or counts code all →
      AreCountsOf given.pairs.now.inputs (functions given.problem.now) given.pairs.now.pairs (variables given.pairs.now.inputs) limit all
  counts_of_all h size limits same place is =
      let n = given.pairs.now.inputs in
      let P = given.pairs.now.pairs in
      let F = functions given.problem.now in
      let inside : 2 ^ n - 1 < 2 ^ n = omega (arith, pow_pos n) in
      let ones : count_ones (2 ^ n - 1) ≡ k = ones-members n (2 ^ n - 1) inside ∙ ap length (members_all n) ∙ length-range_with_len 0 n ∙ sym size in
      let last : get_or given.limits.now (2 ^ n - 1) 0 ≡ limit = ap (λ xs. get_or xs (2 ^ n - 1) 0) same ∙ limits.last in
      subst (AreCountsOf n F P (variables n) limit) (sym (is ∙ ap (λ m. slice_index_or counts m all) place))
      (subst (λ m. AreCountsOf n F P (variables n) m (slice_index_or counts (2 ^ n - 1) all)) last
      (subst (λ S. AreCountsOf n F P S (get_or given.limits.now (2 ^ n - 1) 0) (slice_index_or counts (2 ^ n - 1) all)) (members_all n)
      (h.are (2 ^ n - 1) all inside ones)))

module _ (n : ℕ) (F : List Function) (P : List Pair) (few : n ≤ 16) (outputs : length F ≤ 16) (base : List ℕ) (o : IsOrder n base) (k : Keeps P base) where
  pub sizes_of_all : (most : ℕ) (all s : CostCounts) → AreCountsOf n F P (variables n) (min most 262148 + 1) all → AreTrimmed s.least s.orders.items →
      ((c : ℕ) → counts_at s c ≡ counts_at all c) → s.least + length s.orders.items ≤ all.least + length all.orders.items →
      AreSizesOfOrders n F P most s.least s.orders.items
  sizes_of_all most all s h trimmed same within = record {
    exact = λ size le. same size ∙ elim (cases_lt 262148 size) [
      | inr small ↦ h.exact size (omega arith) ∙ sym (sizes_are_ways n P base o k F size)
      | inl large ↦
          beyond all size (let w = h.within in omega arith)
          ∙ sym (sizes_are_ways n P base o k F size ∙ ap (λ S. ways n F P S size) (sym (members_all n)) ∙ no_large n F few outputs P (2 ^ n - 1) size large)
    ];
    within = let w = h.within in omega arith;
    trimmed = trimmed;
  }
