-- The counts of a set's orders, member by member.
--     ArePartialCounts given set start x counts      those with a member below x on top, at the costs that `start` has entries for
--     counts_none, counts_lacking, counts_with      at first, and with one variable more
--     sums_small      the sums stay small
--     raised_is      the orders with one member on top, by the counts of the others
use Rattle.std.proofs.Common.{◌≡◌, ◌≢◌, ℕ, ◌+◌, ◌-◌, ◌^◌, ◌<◌, ◌≤◌, true, inl, inr, List, [], length, get_or, slice_index, slice_index_or, refl, sym, ap, ◌∙◌, arith}
use Rattle.std.specs.Int.{bit_at}
use Rattle.std.specs.List.{sum_by}
use Rattle.std.proofs.lemmas.Bool.{cases_lt}
use Rattle.definitions.specs.Orders.{members}
use Rattle.definitions.specs.Pairs.{is_lawful}
use Rattle.definitions.specs.Problems.{functions}
use Rattle.definitions.specs.Widths.{width}
use Rattle.definitions.specs.AllOrders.{ways}
use Rattle.definitions.proofs.Widths.OrderSizes.{lists_few, ways_bound}
use Rattle.order_counts.specs.declared.cost_counts.CostCounts.{CostCounts}
use Rattle.order_counts.specs.declared.set_counts.Recurrence.{Recurrence}
use Rattle.order_counts.specs.Figures.{raised}
use Rattle.order_counts.specs.Sizes.{AreCountsBelow, AreLimited, counts_at}
use Rattle.order_counts.proofs.Counts.{raised_high, raised_low}
use Rattle.order_counts.proofs.CountsBelow.{width_at}
use Rattle.order_counts.proofs.Sums.{sum_none, sum_with, sum_lacking, sum_part, ways_top, ways_summed}

pub record ArePartialCounts (given : Recurrence) (set : ℕ) (start : CostCounts) (x : ℕ) (counts : CostCounts) : Type 0 where
  pub least : counts.least ≡ start.least
  pub long : length counts.orders.items ≡ length start.orders.items
  pub partial : (c : ℕ) → start.least ≤ c → c < start.least + length start.orders.items →
      counts_at counts c
      ≡ sum_by (ways_top given.pairs.now.inputs given.pairs.now.pairs set (functions given.problem.now) c) (members x set)

-- the orders with member x on top, by the counts of the others
module _ (given : Recurrence) (g : AreLimited given) (set : ℕ) (few : given.pairs.now.inputs ≤ 16) (within : set < 2 ^ given.pairs.now.inputs)
    (counts : List CostCounts) (h : AreCountsBelow given counts set) where
  pub raised_is : (x c : ℕ) (s : CostCounts) → x < given.pairs.now.inputs → bit_at set x ≡ 1 → c < get_or given.limits.now set 0 →
      raised (counts_at (slice_index_or counts (set - 2 ^ x) s)) (slice_index (get_or given.widths.now set []) x) c
      ≡ ways_top given.pairs.now.inputs given.pairs.now.pairs set (functions given.problem.now) c x
  raised_is x c s small bit lt =
      let n = given.pairs.now.inputs in
      let below = slice_index_or counts (set - 2 ^ x) s in
      let w = width n (functions given.problem.now) (members n (set - 2 ^ x)) x in
      let lists = ways n (functions given.problem.now) given.pairs.now.pairs (members n (set - 2 ^ x)) in
      ap (λ k. raised (counts_at below) k c) (width_at given g set few within x small bit)
      ∙ elim (cases_lt c w) [
        | inl low ↦ raised_low (counts_at below) w c low ∙ sym (raised_low lists w c low)
        | inr le ↦
            raised_high (counts_at below) w c le
            ∙ (h.are x s small bit).exact (c - w) (omega (arith, le, lt, g.limits.rise set x within small bit))
            ∙ sym (raised_high lists w c le)
      ]

module _ (given : Recurrence) (set : ℕ) (start : CostCounts) where
  pub counts_none : ((c : ℕ) → counts_at start c ≡ 0) → ArePartialCounts given set start 0 start
  counts_none none = record {
    least = refl;
    long = refl;
    partial = λ c _ _. none c
        ∙ sym (sum_none (ways_top given.pairs.now.inputs given.pairs.now.pairs set (functions given.problem.now) c) set);
  }

  module _ (x : ℕ) (old : CostCounts) (h : ArePartialCounts given set start x old) where
    pub counts_lacking : bit_at set x ≢ 1 → ArePartialCounts given set start (x + 1) old
    counts_lacking ne = record {
      least = h.least;
      long = h.long;
      partial = λ c low high. h.partial c low high
          ∙ sym (sum_lacking (ways_top given.pairs.now.inputs given.pairs.now.pairs set (functions given.problem.now) c) set x ne);
    }

    module _ (bit : bit_at set x ≡ 1) (more : ℕ → ℕ)
        (top : (c : ℕ) → c < start.least + length start.orders.items →
        more c ≡ ways_top given.pairs.now.inputs given.pairs.now.pairs set (functions given.problem.now) c x) where
      pub counts_with : (new : CostCounts) → new.least ≡ old.least → length new.orders.items ≡ length old.orders.items →
          ((c : ℕ) → old.least ≤ c → c < old.least + length old.orders.items → counts_at new c ≡ counts_at old c + more c) →
          ArePartialCounts given set start (x + 1) new
      counts_with new least long added = record {
        least = least ∙ h.least;
        long = long ∙ h.long;
        partial = λ c low high.
            let at = ways_top given.pairs.now.inputs given.pairs.now.pairs set (functions given.problem.now) c in
            omega (
              arith,
              added c (omega (arith, h.least, low)) (omega (arith, h.least, h.long, high)),
              h.partial c low high,
              top c high,
              sum_with at set x bit,
            );
      }

      pub sums_small : given.pairs.now.inputs ≤ 16 → set ≢ 0 → set < 2 ^ given.pairs.now.inputs →
          is_lawful given.pairs.now.pairs (members given.pairs.now.inputs set) ≡ true → x < given.pairs.now.inputs →
          (c : ℕ) → old.least ≤ c → c < old.least + length old.orders.items → counts_at old c + more c < 2 ^ 64
      sums_small few some within lawful lt c low high =
          let n = given.pairs.now.inputs in
          let at = ways_top n given.pairs.now.pairs set (functions given.problem.now) c in
          let below : c < start.least + length start.orders.items = omega (arith, h.least, h.long, high) in
          omega (
            arith,
            h.partial c (omega (arith, h.least, low)) below,
            top c below,
            sum_with at set x bit,
            sum_part at set (x + 1) n (omega arith),
            ways_summed n given.pairs.now.pairs set few some within lawful (functions given.problem.now) c,
            ways_bound n (functions given.problem.now) given.pairs.now.pairs (members n set) c,
            lists_few n given.pairs.now.pairs set few,
          )
