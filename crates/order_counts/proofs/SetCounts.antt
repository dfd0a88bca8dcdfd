-- The counts of a set from those of the sets with one member less.
--     beyond      no orders have costs beyond the last entry
--     none_counted      no entries, no orders
--     none_outside      no orders have costs outside a span of all costs
--     counts_of_unlawful, counts_of_empty_span, counts_of_span      counts that are right
use Rattle.std.proofs.Common.{◌≡◌, ◌≢◌, ℕ, zero, suc, ◌+◌, ◌-◌, ◌^◌, ◌<◌, ◌≤◌, true, false, ◌⊎◌, inl, inr, List, length, get_or, min, slice_index_or, slice_index, [], sym, ap, ◌∙◌, arith}
use Rattle.std.specs.Int.{bit_at}
use Rattle.std.specs.List.{sum_by}
use Rattle.std.proofs.lemmas.Bool.{cases_eq, cases_lt}
use Rattle.definitions.specs.Functions.{Function}
use Rattle.definitions.specs.Orders.{members}
use Rattle.definitions.specs.Pairs.{Pair, is_lawful}
use Rattle.definitions.specs.Problems.{functions}
use Rattle.definitions.specs.AllOrders.{ways}
use Rattle.definitions.proofs.Bits.Masks.{distinct_members}
use Rattle.definitions.proofs.Widths.AllOrders.{ways_none}
use Rattle.order_counts.specs.declared.cost_counts.CostCounts.{CostCounts}
use Rattle.order_counts.specs.declared.cost_counts.Span.{Span}
use Rattle.order_counts.specs.declared.set_counts.Recurrence.{Recurrence}
use Rattle.order_counts.specs.Figures.{raised}
use Rattle.order_counts.specs.Sizes.{AreCountsBelow, AreCountsOf, AreLimited, CoversAll, counts_at}
use Rattle.order_counts.proofs.Counts.{raised_high}
use Rattle.order_counts.proofs.Entries.{raised_below, raised_beyond}
use Rattle.order_counts.proofs.PartialCounts.{raised_is}
use Rattle.order_counts.proofs.Sums.{sum_none, sum_with, sum_lacking, ways_top, ways_summed}

-- counts as they are have no width on top
unraised : (s : CostCounts) (c : ℕ) → raised (counts_at s) 0 c ≡ counts_at s c
unraised s c = raised_high (counts_at s) 0 c (omega arith) ∙ ap (counts_at s) (omega arith)

low : (s : CostCounts) (c : ℕ) → c < s.least → counts_at s c ≡ 0
low s c lt = sym (unraised s c) ∙ raised_below s 0 c (omega arith)

pub beyond : (s : CostCounts) (c : ℕ) → s.least + length s.orders.items ≤ c → counts_at s c ≡ 0
beyond s c le = sym (unraised s c) ∙ raised_beyond s 0 c (omega arith)

pub none_counted : (s : CostCounts) → s.least ≡ 0 → length s.orders.items ≡ 0 → (c : ℕ) → counts_at s c ≡ 0
none_counted s least none c = beyond s c (omega (arith, least, none))

pub counts_of_unlawful : (n : ℕ) (F : List Function) (P : List Pair) (set limit : ℕ) (s : CostCounts) → is_lawful P (members n set) ≡ false →
    s.least ≡ 0 → length s.orders.items ≡ 0 → AreCountsOf n F P (members n set) limit s
counts_of_unlawful n F P set limit s un least none = record {
  exact = λ c lt. none_counted s least none c ∙ sym (ways_none n F P (members n set) (distinct_members n set) un c);
  within = omega (arith, least, none);
}

module _ (given : Recurrence) (g : AreLimited given) (set : ℕ) (few : given.pairs.now.inputs ≤ 16) (within : set < 2 ^ given.pairs.now.inputs)
    (some : set ≢ 0) (lawful : is_lawful given.pairs.now.pairs (members given.pairs.now.inputs set) ≡ true) (counts : List CostCounts)
    (h : AreCountsBelow given counts set) (span : Span) (covers : CoversAll given counts set given.pairs.now.inputs span) (d : CostCounts) where
  -- with one member on top
  none_with : (x c : ℕ) → x < given.pairs.now.inputs → bit_at set x ≡ 1 → c < get_or given.limits.now set 0 → (c < span.start) ⊎ (span.end ≤ c) →
      ways_top given.pairs.now.inputs given.pairs.now.pairs set (functions given.problem.now) c x ≡ 0
  none_with x c small bit lt out =
      let s = slice_index_or counts (set - 2 ^ x) d in
      let w = slice_index (get_or given.widths.now set []) x in
      sym (raised_is given g set few within counts h x c d small bit lt)
      ∙ elim (cases_lt c (s.least + w)) [
        | inl below ↦ raised_below s w c below
        | inr le ↦ elim (cases_eq (length s.orders.items) 0) [
          | inl none ↦ raised_beyond s w c (omega (arith, none))
          | inr more ↦
              let inside = covers x d small bit (omega (arith, more)) in
              elim out [
                | inl early ↦ absurd (let a = inside.0 in omega arith)
                | inr late ↦ raised_beyond s w c (let b = inside.1 in omega arith)
              ]
        ]
      ]

  none_up_to : (x c : ℕ) → x ≤ given.pairs.now.inputs → c < get_or given.limits.now set 0 → (c < span.start) ⊎ (span.end ≤ c) →
      sum_by (ways_top given.pairs.now.inputs given.pairs.now.pairs set (functions given.problem.now) c) (members x set) ≡ 0
  none_up_to zero c le lt out = sum_none (ways_top given.pairs.now.inputs given.pairs.now.pairs set (functions given.problem.now) c) set
  none_up_to (suc x) c le lt out =
      let top = ways_top given.pairs.now.inputs given.pairs.now.pairs set (functions given.problem.now) c in
      let before = none_up_to x c (omega arith) lt out in
      let e : suc x ≡ x + 1 = omega arith in
      ap (λ k. sum_by top (members k set)) e
      ∙ elim (cases_eq (bit_at set x) 1) [
        | inl bit ↦ omega (arith, sum_with top set x bit, before, none_with x c (omega arith) bit lt out)
        | inr ne ↦ sum_lacking top set x ne ∙ before
      ]

  none_outside : (c : ℕ) → c < get_or given.limits.now set 0 → (c < span.start) ⊎ (span.end ≤ c) →
      ways given.pairs.now.inputs (functions given.problem.now) given.pairs.now.pairs (members given.pairs.now.inputs set) c ≡ 0
  none_outside c lt out =
      sym (ways_summed given.pairs.now.inputs given.pairs.now.pairs set few some within lawful (functions given.problem.now) c)
      ∙ none_up_to given.pairs.now.inputs c (omega arith) lt out

  pub counts_of_empty_span : (s : CostCounts) → min span.end (get_or given.limits.now set 0) ≤ span.start → s.least ≡ 0 →
      length s.orders.items ≡ 0 →
      AreCountsOf given.pairs.now.inputs (functions given.problem.now) given.pairs.now.pairs (members given.pairs.now.inputs set)
      (get_or given.limits.now set 0) s
  counts_of_empty_span s empty least none = record {
    exact = λ c lt.
        let out : (c < span.start) ⊎ (span.end ≤ c) = elim (cases_lt c span.start) [
          | inl early ↦ inl early
          | inr le ↦ inr (omega arith)
        ] in
        none_counted s least none c ∙ sym (none_outside c lt out);
    within = omega (arith, least, none);
  }

  pub counts_of_span : (s : CostCounts) → s.least ≡ span.start →
      s.least + length s.orders.items ≡ min span.end (get_or given.limits.now set 0) →
      ((c : ℕ) → s.least ≤ c → c < s.least + length s.orders.items → counts_at s c
      ≡ ways given.pairs.now.inputs (functions given.problem.now) given.pairs.now.pairs (members given.pairs.now.inputs set) c) →
      AreCountsOf given.pairs.now.inputs (functions given.problem.now) given.pairs.now.pairs (members given.pairs.now.inputs set)
      (get_or given.limits.now set 0) s
  counts_of_span s least end inside = record {
    exact = λ c lt. elim (cases_lt c s.least) [
      | inl early ↦ low s c early ∙ sym (none_outside c lt (inl (omega (arith, least))))
      | inr ge ↦ elim (cases_lt c (s.least + length s.orders.items)) [
        | inl in_it ↦ inside c ge in_it
        | inr late ↦ beyond s c late ∙ sym (none_outside c lt (inr (omega (arith, end))))
      ]
    ];
    within = omega (arith, end);
  }
