use Rattle.std.proofs.Common.{add-zero, ◌≡◌, ℕ, ◌+◌, ◌-◌, ◌<◌, ◌≤◌, inl, inr, take, drop, length, get_or, refl, sym, ap, ◌∙◌, arith}
use Rattle.std.proofs.lemmas.Bool.{cases_lt}
use Rattle.std.proofs.lemmas.List.{get_or-drop, get_or-take, get_or_past, length-drop, length-take}
use Rattle.order_counts.specs.declared.cost_counts.CostCounts.{CostCounts}
use Rattle.order_counts.specs.Sizes.{AreTrimmed, counts_at}
use Rattle.order_counts.proofs.Counts.{raised_low}
use Rattle.order_counts.proofs.Entries.{at_entry}
use Rattle.order_counts.proofs.sizes.trimmed.Goals as goal

-- the entries from `start` to before `end`: the others are 0
module _ (s t : CostCounts) (start end : ℕ) (least : t.least ≡ s.least + start)
    (is : t.orders.items ≡ take (end - start) (drop start s.orders.items)) (before : (i : ℕ) → i < start → get_or s.orders.items i 0 ≡ 0)
    (after : (i : ℕ) → end ≤ i → get_or s.orders.items i 0 ≡ 0) where
  entry : (i : ℕ) → get_or t.orders.items i 0 ≡ get_or s.orders.items (start + i) 0
  entry i =
      ap (λ ys. get_or ys i 0) is
      ∙ elim (cases_lt i (end - start)) [
        | inl lt ↦ get_or-take (end - start) (drop start s.orders.items) i 0 lt ∙ get_or-drop start s.orders.items i 0
        | inr ge ↦
            get_or_past (take (end - start) (drop start s.orders.items)) i 0 (omega (arith, length-take (end - start) (drop start s.orders.items)))
            ∙ sym (after (start + i) (omega arith))
      ]

  kept : (c : ℕ) → counts_at t c ≡ counts_at s c
  kept c =
      elim (cases_lt c t.least) [
        | inl lt ↦
            raised_low (λ i. get_or t.orders.items i 0) t.least c lt
            ∙ elim (cases_lt c s.least) [
              | inl low ↦ sym (raised_low (λ i. get_or s.orders.items i 0) s.least c low)
              | inr ge ↦ sym (at_entry s c ge ∙ before (c - s.least) (omega arith))
            ]
        | inr ge ↦
            at_entry t c ge ∙ entry (c - t.least) ∙ ap (λ k. get_or s.orders.items k 0) (omega arith) ∙ sym (at_entry s c (omega arith))
      ]

  trimmed : start < end → end ≤ length s.orders.items → (start < length s.orders.items → 0 < get_or s.orders.items start 0) →
      ((i : ℕ) → i + 1 ≡ end → 0 < get_or s.orders.items i 0) → AreTrimmed t.least t.orders.items
  trimmed lt within first last =
      let long : length t.orders.items ≡ end - start =
      omega (arith, ap length is, length-take (end - start) (drop start s.orders.items), length-drop start s.orders.items) in
      let at_end : start + (length t.orders.items - 1) ≡ end - 1 = omega arith in
      record {
        first = λ _. omega (arith, entry 0, ap (λ k. get_or s.orders.items k 0) (add-zero start), first (omega arith));
        last = λ _. omega (arith, entry (length t.orders.items - 1), ap (λ k. get_or s.orders.items k 0) at_end, last (end - 1) (omega arith));
        none = λ e. absurd (omega arith);
      }

pub returns-clause-counts : goal.returns-clause-counts
returns-clause-counts c =
    let items = c.in_ok-orders.ensures.items_if_clones_equal (λ x y e. e) in
    kept c.args.counts.now (record { least = c.args.counts.now.least + c.first_some-start.result; orders = c.in_ok-orders.orders })
    c.first_some-start.result c.after_last_some-end.result refl (rw (c.deref-3.ensures.value) at items)
    (rw (c.deref.ensures.value) at c.first_some-start.ensures.before) (rw (c.deref-2.ensures.value) at c.after_last_some-end.ensures.after)

pub returns-clause-trimmed : goal.returns-clause-trimmed
returns-clause-trimmed c =
    let items = c.in_ok-orders.ensures.items_if_clones_equal (λ x y e. e) in
    trimmed c.args.counts.now (record { least = c.args.counts.now.least + c.first_some-start.result; orders = c.in_ok-orders.orders })
    c.first_some-start.result c.after_last_some-end.result refl (rw (c.deref-3.ensures.value) at items)
    (rw (c.deref.ensures.value) at c.first_some-start.ensures.before) (rw (c.deref-2.ensures.value) at c.after_last_some-end.ensures.after)
    c.if-end-start.false (rw (c.deref-2.ensures.value) at c.after_last_some-end.ensures.within)
    (rw (c.deref.ensures.value) at c.first_some-start.ensures.some) (rw (c.deref-2.ensures.value) at c.after_last_some-end.ensures.some)
