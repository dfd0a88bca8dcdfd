-- Over all orders: how many there are, the fewest and the most nodes, in how many orders, and the sum of all sizes.
--     raised g w, both f g      so many orders of each cost, with w added to each cost; of two kinds together
--     IsLeastOf f s, IsGreatestOf f s      the least and the greatest cost that some have, and how many have it
--     AreFigures f s, IsTidy s      both, of f c orders of each cost c; no more have it than there are
--     AreFiguresOf n F P S s      the figures of the lawful lists of a set's members
--     AreFiguresBelow n F P set figures      those of all sets with smaller masks
--     AreFiguresOfOrders n F P s      the figures of all orders that keep the pairs
use Rattle.std.specs.Prelude.{◌≡◌, ◌≢◌, ℕ, ◌+◌, ◌-◌, ◌<◌, ◌≤◌, if◌then◌else◌, List, length, nat_le, slice_index_or}
use Rattle.definitions.specs.Functions.{Function}
use Rattle.definitions.specs.Orders.{members, variables}
use Rattle.definitions.specs.Pairs.{Pair}
use Rattle.definitions.specs.Widths.{least}
use Rattle.definitions.specs.AllOrders.{all_orders, orders_of_size, size_total, most, lawful_lists, ways, cost_total}
use Rattle.order_counts.specs.declared.figures.Figures.{Figures}
use Rattle.order_counts.specs.declared.figures.SizeCount.{SizeCount}

-- g c orders of each cost c, with w added to each cost
abbrev pub raised : (ℕ → ℕ) → ℕ → ℕ → ℕ
raised g w c = if nat_le w c then g (c - w) else 0

-- orders of two kinds together
abbrev pub both : (ℕ → ℕ) → (ℕ → ℕ) → ℕ → ℕ
both f g c = f c + g c

-- of f c orders of each cost c: the least cost that some have, and how many have it
pub record IsLeastOf (f : ℕ → ℕ) (s : SizeCount) : Type 0 where
  pub orders : s.orders ≡ f s.nodes
  pub some : 0 < s.orders
  pub none_below : (c : ℕ) → c < s.nodes → f c ≡ 0

-- the greatest cost that some have, and how many have it
pub record IsGreatestOf (f : ℕ → ℕ) (s : SizeCount) : Type 0 where
  pub orders : s.orders ≡ f s.nodes
  pub some : 0 < s.orders
  pub none_above : (c : ℕ) → s.nodes < c → f c ≡ 0

-- both, if there are orders
pub record AreFigures (f : ℕ → ℕ) (s : Figures) : Type 0 where
  pub none : s.count ≡ 0 → (c : ℕ) → f c ≡ 0
  pub fewest : s.count ≢ 0 → IsLeastOf f s.fewest
  pub most : s.count ≢ 0 → IsGreatestOf f s.most

-- no more orders have the fewest or the most nodes than there are, and the fewest are at most the most
pub record IsTidy (s : Figures) : Type 0 where
  pub fewest : s.fewest.orders ≤ s.count
  pub most : s.most.orders ≤ s.count
  pub ordered : s.fewest.nodes ≤ s.most.nodes

-- the figures of the lawful lists of a set's members
pub record AreFiguresOf (n : ℕ) (F : List Function) (P : List Pair) (S : List ℕ) (s : Figures) : Type 0 where
  pub count : s.count ≡ length (lawful_lists P S)
  pub total : s.total ≡ cost_total n F P S
  pub costs : AreFigures (ways n F P S) s
  pub tidy : IsTidy s

-- those of each set with a smaller mask, at its mask
pub record AreFiguresBelow (n : ℕ) (F : List Function) (P : List Pair) (set : ℕ) (figures : List Figures) : Type 0 where
  pub long : length figures ≡ set
  pub each : (mask : ℕ) (s : Figures) → mask < set → AreFiguresOf n F P (members n mask) (slice_index_or figures mask s)

-- the figures of all orders that keep the pairs
pub record AreFiguresOfOrders (n : ℕ) (F : List Function) (P : List Pair) (s : Figures) : Type 0 where
  pub count : s.count ≡ length (all_orders n P)
  pub fewest_nodes : s.fewest.nodes ≡ least n F P (variables n)
  pub optimal_orders : s.fewest.orders ≡ orders_of_size n F P s.fewest.nodes
  pub most_nodes : s.most.nodes ≡ most n F P
  pub worst_orders : s.most.orders ≡ orders_of_size n F P s.most.nodes
  pub total : s.total ≡ size_total n F P
