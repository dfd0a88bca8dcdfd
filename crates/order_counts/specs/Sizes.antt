-- How many orders have each size.
--     entries_at least orders c      the entry for cost c, where the first one is for cost `least`
--     counts_at s c      how many of the orders that are counted have cost c
--     Covers span s w      a span has these costs, with w added to each
--     AreLimits n F limit limits      a limit for each set, below which costs can lead to sizes below the last limit
--     AreLimited given      widths and limits of at most 16 functions of at most 16 variables
--     AreCountsOf n F P S limit s      s counts the lawful lists of a set's members at costs below a limit, and no others
--     AreCountsBelow given counts set      the counts of the sets without one of a set's members
--     AreOfLayer given size set s      the counts of a set, if it has `size` members
--     AreCountsBetween given size first end counts      such counts, of the masks from `first` to before `end`
--     AreCountsInLayer given size counts      such counts, at the mask of each set
--     AreTrimmed least orders      the first and the last entry aren't 0
--     AreSizesOfOrders n F P most fewest orders      how many of all orders have each size up to `most`
--     orders_below n F P s      how many of all orders have fewer than s nodes
--     CanTakeOrders given smaller set counts      counts to which the orders of a set can be added
--     CoversAll given counts set k span      a span has the costs of the orders with a member below k on top
use Rattle.std.specs.Prelude.{◌≡◌, ℕ, ◌+◌, ◌-◌, ◌*◌, ◌^◌, ◌<◌, ◌≤◌, List, [], length, get_or, min, nat_lt, slice_index, slice_index_or, count_ones, IsTrue}
use Rattle.std.specs.List.{count_by}
use Rattle.std.specs.Int.{bit_at}
use Rattle.definitions.specs.Functions.{Function}
use Rattle.definitions.specs.Orders.{members}
use Rattle.definitions.specs.Widths.{width}
use Rattle.definitions.specs.Pairs.{Pair, is_lawful}
use Rattle.definitions.specs.Problems.{functions}
use Rattle.definitions.specs.Levels.{size_under}
use Rattle.definitions.specs.AllOrders.{AreAllWidths, all_orders, orders_of_size, ways}
use Rattle.order_counts.specs.declared.set_counts.Recurrence.{Recurrence}
use Rattle.order_counts.specs.declared.cost_counts.CostCounts.{CostCounts}
use Rattle.order_counts.specs.declared.cost_counts.Span.{Span}
use Rattle.order_counts.specs.Figures.{raised}

-- entry i for cost `least` + i, and none for other costs
abbrev pub entries_at : ℕ → List ℕ → ℕ → ℕ
entries_at least orders = raised (λ i. get_or orders i 0) least

-- how many of the orders that are counted have cost c
abbrev pub counts_at : CostCounts → ℕ → ℕ
counts_at s = entries_at s.least s.orders.items

-- a span has the costs of s, with w added to each
abbrev pub Covers : Span → CostCounts → ℕ → Type 0
Covers span s w = 0 < length s.orders.items → (span.start ≤ s.least + w) × (s.least + w + length s.orders.items ≤ span.end)

-- a limit for each set: the last one is `limit`, none is more, and with a member on top a limit grows by at most the member's width
pub record AreLimits (n : ℕ) (F : List Function) (limit : ℕ) (limits : List ℕ) : Type 0 where
  pub each : length limits ≡ 2 ^ n
  pub last : get_or limits (2 ^ n - 1) 0 ≡ limit
  pub small : (set : ℕ) → get_or limits set 0 ≤ limit
  pub rise : (set x : ℕ) → set < 2 ^ n → x < n → bit_at set x ≡ 1 →
      get_or limits set 0 ≤ get_or limits (set - 2 ^ x) 0 + width n F (members n (set - 2 ^ x)) x

-- widths and limits of at most 16 functions of at most 16 variables, and sizes that are small
pub record AreLimited (given : Recurrence) : Type 0 where
  pub inputs : given.pairs.now.inputs ≤ 16
  pub few : length (functions given.problem.now) ≤ 16
  pub widths : AreAllWidths given.pairs.now.inputs (functions given.problem.now) given.widths.now
  pub limits : AreLimits given.pairs.now.inputs (functions given.problem.now) (get_or given.limits.now (2 ^ given.pairs.now.inputs - 1) 0) given.limits.now
  pub small : get_or given.limits.now (2 ^ given.pairs.now.inputs - 1) 0 < 2 ^ 20

-- the lawful lists of a set's members by their costs, below a limit
pub record AreCountsOf (n : ℕ) (F : List Function) (P : List Pair) (S : List ℕ) (limit : ℕ) (s : CostCounts) : Type 0 where
  pub exact : (c : ℕ) → c < limit → counts_at s c ≡ ways n F P S c
  pub within : s.least + length s.orders.items ≤ limit

-- the counts of the sets without one of a set's members, at their masks
pub record AreCountsBelow (given : Recurrence) (counts : List CostCounts) (set : ℕ) : Type 0 where
  pub each : length counts ≡ 2 ^ given.pairs.now.inputs
  pub are : (x : ℕ) (s : CostCounts) → x < given.pairs.now.inputs → bit_at set x ≡ 1 →
      AreCountsOf given.pairs.now.inputs (functions given.problem.now) given.pairs.now.pairs (members given.pairs.now.inputs (set - 2 ^ x))
      (get_or given.limits.now (set - 2 ^ x) 0) (slice_index_or counts (set - 2 ^ x) s)

-- counts without orders yet, with entries from the least cost of a lawful set on, below its limit
pub record CanTakeOrders (given : Recurrence) (smaller : List CostCounts) (set : ℕ) (counts : CostCounts) : Type 0 where
  pub given_are : AreLimited given
  pub some : 0 < set
  pub within : set < 2 ^ given.pairs.now.inputs
  pub lawful : IsTrue (is_lawful given.pairs.now.pairs (members given.pairs.now.inputs set))
  pub smaller_are : AreCountsBelow given smaller set
  pub none : (c : ℕ) → counts_at counts c ≡ 0
  pub limit : counts.least + length counts.orders.items ≤ get_or given.limits.now set 0
  pub least : (x : ℕ) (s : CostCounts) → x < given.pairs.now.inputs → bit_at set x ≡ 1 → 0 < length (slice_index_or smaller (set - 2 ^ x) s).orders.items →
      counts.least ≤ (slice_index_or smaller (set - 2 ^ x) s).least + slice_index (get_or given.widths.now set []) x

-- the costs with a member below k on top
abbrev pub CoversAll : Recurrence → List CostCounts → ℕ → ℕ → Span → Type 0
CoversAll given counts set k span =
    (x : ℕ) (s : CostCounts) → x < k → bit_at set x ≡ 1 →
    Covers span (slice_index_or counts (set - 2 ^ x) s) (slice_index (get_or given.widths.now set []) x)

-- the counts of a set, if it has `size` members
abbrev pub AreOfLayer : Recurrence → ℕ → ℕ → CostCounts → Type 0
AreOfLayer given size set s =
    count_ones set ≡ size →
    AreCountsOf given.pairs.now.inputs (functions given.problem.now) given.pairs.now.pairs (members given.pairs.now.inputs set)
    (get_or given.limits.now set 0) s

-- such counts of the sets whose masks lie from one number to before another
pub record AreCountsBetween (given : Recurrence) (size first end : ℕ) (counts : List CostCounts) : Type 0 where
  pub each : length counts ≡ end - first
  pub are : (set : ℕ) (s : CostCounts) → first ≤ set → set < end → AreOfLayer given size set (slice_index_or counts (set - first) s)

-- the first mask of a part, where each part but the last ones has `step` of so many masks
abbrev pub first_of_part : ℕ → ℕ → ℕ → ℕ
first_of_part step sets part = min (part * step) sets

-- such counts, at the mask of each set
pub record AreCountsInLayer (given : Recurrence) (size : ℕ) (counts : List CostCounts) : Type 0 where
  pub each : length counts ≡ 2 ^ given.pairs.now.inputs
  pub are : (set : ℕ) (s : CostCounts) → set < 2 ^ given.pairs.now.inputs → AreOfLayer given size set (slice_index_or counts set s)

-- the first entry and the last aren't 0, and without entries the least cost is 0
pub record AreTrimmed (least : ℕ) (orders : List ℕ) : Type 0 where
  pub first : 0 < length orders → 0 < get_or orders 0 0
  pub last : 0 < length orders → 0 < get_or orders (length orders - 1) 0
  pub none : length orders ≡ 0 → least ≡ 0

-- how many of all orders that keep the pairs have each size up to `most`, from `fewest` on
pub record AreSizesOfOrders (n : ℕ) (F : List Function) (P : List Pair) (most fewest : ℕ) (orders : List ℕ) : Type 0 where
  pub exact : (size : ℕ) → size ≤ most → entries_at fewest orders size ≡ orders_of_size n F P size
  pub within : fewest + length orders ≤ most + 1
  pub trimmed : AreTrimmed fewest orders

-- how many of all orders that keep the pairs have fewer than s nodes
unfoldable pub orders_below : ℕ → List Function → List Pair → ℕ → ℕ
orders_below n F P s = count_by (λ order. nat_lt (size_under n F order) s) (all_orders n P)
