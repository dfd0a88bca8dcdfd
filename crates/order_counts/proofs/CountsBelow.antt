-- The counts of the sets with one member less.
--     limit_small, raised_small      limits, and costs with a width on top
--     width_at      the width of a member, in the row of its set
--     same_entry      an entry is read with any default
--     covers_lacking, covers_with      a span with one member more
use Rattle.std.proofs.Common.{◌≡◌, ◌≢◌, ℕ, ◌+◌, ◌-◌, ◌^◌, ◌<◌, ◌≤◌, inl, inr, List, [], length, get_or, slice_index, slice_index_or, sym, ap, ◌∙◌, subst, arith}
use Rattle.std.specs.Int.{bit_at}
use Rattle.std.proofs.lemmas.Bool.{cases_eq}
use Rattle.std.proofs.lemmas.List.{get_or_default}
use Rattle.definitions.specs.Orders.{members}
use Rattle.definitions.specs.Problems.{functions}
use Rattle.definitions.specs.Widths.{width}
use Rattle.order_counts.specs.declared.cost_counts.CostCounts.{CostCounts}
use Rattle.order_counts.specs.declared.cost_counts.Span.{Span}
use Rattle.order_counts.specs.declared.set_counts.Recurrence.{Recurrence}
use Rattle.order_counts.specs.Sizes.{AreCountsBelow, AreLimited, Covers, CoversAll}
use Rattle.order_counts.proofs.Rows.{row_at, width_small}

module _ (given : Recurrence) (g : AreLimited given) where
  pub limit_small : (mask : ℕ) → get_or given.limits.now mask 0 < 2 ^ 20
  limit_small mask = omega (arith, g.limits.small mask, g.small)

  module _ (set : ℕ) (few : given.pairs.now.inputs ≤ 16) (within : set < 2 ^ given.pairs.now.inputs) where
    pub width_at : (x : ℕ) → x < given.pairs.now.inputs → bit_at set x ≡ 1 →
        slice_index (get_or given.widths.now set []) x
        ≡ width given.pairs.now.inputs (functions given.problem.now) (members given.pairs.now.inputs (set - 2 ^ x)) x
    width_at x small bit =
        row_at given.pairs.now.inputs (functions given.problem.now) set x (get_or given.widths.now set []) few (g.widths.are set within) small bit

    module _ (counts : List CostCounts) (h : AreCountsBelow given counts set) where
      pub raised_small : (x : ℕ) (s : CostCounts) → x < given.pairs.now.inputs → bit_at set x ≡ 1 →
          (slice_index_or counts (set - 2 ^ x) s).least + length (slice_index_or counts (set - 2 ^ x) s).orders.items
          + slice_index (get_or given.widths.now set []) x < 2 ^ 32
      raised_small x s small bit =
          omega (
            arith,
            (h.are x s small bit).within,
            limit_small (set - 2 ^ x),
            width_at x small bit,
            width_small given.pairs.now.inputs (functions given.problem.now) few g.few set x small bit,
          )

-- an entry is read with any default
pub same_entry : (n set x : ℕ) (counts : List CostCounts) (s d : CostCounts) → length counts ≡ 2 ^ n → set < 2 ^ n →
    slice_index_or counts (set - 2 ^ x) d ≡ slice_index_or counts (set - 2 ^ x) s
same_entry n set x counts s d each within = get_or_default counts (set - 2 ^ x) d s (omega (arith, each, within))

-- a span with one variable more
module _ (given : Recurrence) (counts : List CostCounts) (set x : ℕ) (span : Span) (h : CoversAll given counts set x span) where
  pub covers_lacking : bit_at set x ≢ 1 → CoversAll given counts set (x + 1) span
  covers_lacking ne = λ y s lt bit. elim (cases_eq y x) [
    | inl e ↦ absurd (ne (ap (bit_at set) (sym e) ∙ bit))
    | inr other ↦ h y s (omega (arith, other)) bit
  ]

  pub covers_with : (new : Span) → ((s : CostCounts) → Covers new (slice_index_or counts (set - 2 ^ x) s) (slice_index (get_or given.widths.now set []) x)) →
      ((s : CostCounts) (w : ℕ) → Covers span s w → Covers new s w) → CoversAll given counts set (x + 1) new
  covers_with new own keeps = λ y s lt bit. elim (cases_eq y x) [
    | inl e ↦ subst (λ k. Covers new (slice_index_or counts (set - 2 ^ k) s) (slice_index (get_or given.widths.now set []) k)) (sym e) (own s)
    | inr other ↦ keeps (slice_index_or counts (set - 2 ^ y) s) (slice_index (get_or given.widths.now set []) y) (h y s (omega (arith, other)) bit)
  ]
