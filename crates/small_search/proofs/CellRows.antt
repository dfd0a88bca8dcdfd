-- The cell of a set, from the sums of costs and widths of its members.
--     cost_without t set y, width_without t set y      the cost of the cell of a set without a member, and the member's width over it
--     IsBestBelow      the cell of the least sum over the members below a variable, if any cost is within the bound
--     best_skipped, best_taken, best_gap, best_all      one variable more; no members from a variable on; all variables
--     IsKept, kept_next      the cell that is kept, and one more member's
--     few_sum, few_above      how large sums of costs and widths are, and the lower bound by variables
use Rattle.std.proofs.Common.{◌≡◌, ℕ, ◌+◌, ◌-◌, ◌*◌, ◌^◌, ◌<◌, ◌≤◌, true, count_ones, Option, Some, None, IfSome, inl, inr, List, not, get_or, refl, sym, ap, ◌∙◌, subst, arith}
use Rattle.std.proofs.lemmas.Bool.{cases_lt}
use Rattle.std.proofs.lemmas.Nat.{pow_pos}
use Rattle.std.proofs.lemmas.List.FromFn.{length-range_with_len}
use Rattle.std.specs.List.{list_any}
use Rattle.definitions.specs.LowerBounds.{nodes_above}
use Rattle.definitions.specs.Functions.{Function, depends}
use Rattle.definitions.specs.Orders.{has, members, variables, without}
use Rattle.definitions.specs.Widths.{essential, essentials_outside, width}
use Rattle.definitions.specs.declared.limits.LowerBound.{LowerBound}
use Rattle.definitions.specs.declared.limits.LowerBound.TheVariants.{Variables}
use Rattle.definitions.proofs.Lists.Ranges.{filter_at_most}
use Rattle.definitions.specs.Problems.{functions}
use Rattle.definitions.specs.Cells.{cell_cost}
use Rattle.subset_layers.specs.Sums.{IsBest}
use Rattle.subset_layers.specs.declared.costs.Cell.{Cell}
use Rattle.layer_core.specs.Instances.{InstanceOf}
use Rattle.definitions.proofs.Bits.Ones.{ones-members}
use Rattle.layer_core.specs.Pairing.{no_cell}
use Rattle.solutions.proofs.ReadOrders.{less_member}
use Rattle.small_search.specs.FirstCells.{AreFewCells}

abbrev pub cost_without : InstanceOf → ℕ → ℕ → ℕ
cost_without t set y = cell_cost t.problem.inputs (functions t.problem) t.pairs.pairs t.lower_bound t.bound (set - 2 ^ y)

abbrev pub width_without : InstanceOf → ℕ → ℕ → ℕ
width_without t set y = width t.problem.inputs (functions t.problem) (without y (members t.problem.inputs set)) y

-- the cell kept so far: `first` as long as no cost was within the bound
abbrev pub IsKept : ℕ → Cell → Cell → Option Cell → Type 0
IsKept most first best None = best ≡ first
IsKept most first best (Some c) = (best ≡ c) × (c.cost ≤ most)

module _ (S : ℕ → Type 0) (bound : ℕ) (costs widths : ℕ → ℕ) where
  abbrev pub IsBestBelow : ℕ → Option Cell → Type 0
  IsBestBelow k None = (y : ℕ) → y < k → S y → bound < costs y
  IsBestBelow k (Some c) = IsBest (λ y. (y < k) × S y) bound costs widths c.cost c.variable

  -- a variable that is no member, or whose cost is beyond the bound
  pub best_skipped : (k : ℕ) (o : Option Cell) → IsBestBelow k o → (S k → bound < costs k) → IsBestBelow (k + 1) o
  best_skipped k o h l = grind (arith, cases_lt)

  -- a member within the bound
  pub best_taken : (k sum : ℕ) (o : Option Cell) (next r : Cell) → IsBestBelow k o → S k → costs k ≤ bound → sum ≡ costs k + widths k →
      next ≡ record { cost = sum; variable = k } →
      (o ≡ None → r ≡ next) → IfSome o (λ b. (b.cost ≤ next.cost → r ≡ b) × (next.cost < b.cost → r ≡ next)) → IsBestBelow (k + 1) (Some r)
  best_taken k sum o next r h l m e p q s = grind (arith, cases_lt)

  -- no members from a variable on
  pub best_gap : (k m : ℕ) (o : Option Cell) → k ≤ m → ((y : ℕ) → k ≤ y → y < m → S y → ⊥) → IsBestBelow k o → IsBestBelow m o
  best_gap k m None le none h = λ y lt s. elim (cases_lt y k) [ inl l ↦ h y l s | inr g ↦ absurd (none y g lt s) ]
  best_gap k m (Some c) le none h = grind (arith, cases_lt)

  -- all members
  pub best_all : (k : ℕ) (c : Cell) → ((y : ℕ) → S y → y < k) → IsBest (λ y. (y < k) × S y) bound costs widths c.cost c.variable →
      IsBest S bound costs widths c.cost c.variable
  best_all k c low h = grind arith

  -- one more member within the bound
  pub kept_next : (k sum most : ℕ) (o : Option Cell) (first best next r : Cell) → most < first.cost → IsBestBelow k o → IsKept most first best o → S k →
      costs k ≤ bound → sum ≡ costs k + widths k → sum ≤ most → next ≡ record { cost = sum; variable = k } → (sum < best.cost → r ≡ next) →
      (best.cost ≤ sum → r ≡ best) → (p : Option Cell) × IsBestBelow (k + 1) p × IsKept most first r p
  kept_next k sum most o first best next r above h kept m within e few is new old =
      let cost : next.cost ≡ sum = ap (λ (c : Cell). c.cost) is in
      elim (cases_lt sum best.cost) [
        | inl lt ↦ (Some next, best_taken k sum o next next h m within e is (λ z. refl) (better o kept lt cost), (new lt, omega (arith, cost, few)))
        | inr le ↦ same o h kept le cost
      ]
    where
      better : (o : Option Cell) → IsKept most first best o → sum < best.cost → next.cost ≡ sum →
          IfSome o (λ b. (b.cost ≤ next.cost → next ≡ b) × (next.cost < b.cost → next ≡ next))
      better None z lt cost = tt
      better (Some b) z lt cost = (λ w. absurd (let u = ap (λ (c : Cell). c.cost) z.0 in omega (arith, u, w, lt, cost)), λ w. refl)

      same : (o : Option Cell) → IsBestBelow k o → IsKept most first best o → best.cost ≤ sum → next.cost ≡ sum →
          (p : Option Cell) × IsBestBelow (k + 1) p × IsKept most first r p
      same None h z le cost = absurd (let u = ap (λ (c : Cell). c.cost) z in omega (arith, u, le, few, above))
      same (Some b) h z le cost = (
        Some b,
        best_taken k sum (Some b) next b h m within e is (λ w. absurd (some_not w)) (
          λ w. refl,
          λ w. absurd (let u = ap (λ (c : Cell). c.cost) z.0 in
              omega (arith, u, w, le, cost)),
        ),
        (old le ∙ z.0, z.1),
      )
        where
          some_not : Some b ≡ None → ⊥
          some_not w = cc

-- the cost of a set without a member, and the member's width
pub few_sum : (t : InstanceOf) (set : ℕ) (cells : List Cell) → AreFewCells t set cells → set < 2 ^ t.problem.inputs → (x : ℕ) →
    has (members t.problem.inputs set) x ≡ true → (cost width : ℕ) → cost ≡ (get_or cells (set - 2 ^ x) no_cell).cost → cost ≤ t.bound →
    width ≤ 2 ^ 20 → cost + width ≤ count_ones set * 2 ^ 20
few_sum t set cells h small x m cost width e within few =
    let n = t.problem.inputs in
    let less = less_member n set x m in
    let p = pow_pos x in
    let own = ones-members n set small in
    let other = ones-members n (set - 2 ^ x) (omega (arith, small)) in
    let f = h.few (set - 2 ^ x) (omega (arith, p, less.1.0)) (omega (arith, e, within)) in
    omega (arith, own, other, less.1.1, f, e, few)

pub few_above : (n : ℕ) (F : List Function) (r : LowerBound) (S : List ℕ) → r ≡ Variables → nodes_above n F r S ≤ n
unfolding nodes_above essentials_outside essential
few_above n F r S e =
    let outside = filter_at_most (λ x. not (has S x)) (essential n F) in
    let all = filter_at_most (λ x. list_any (λ f. depends n f x) F) (variables n) in
    let l = length-range_with_len 0 n in
    subst (λ (s : LowerBound). nodes_above n F s S ≤ n) (sym e) (omega (arith, outside, all, l))
