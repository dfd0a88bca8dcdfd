-- The layer of a set.
--     set_there, cell_found      the layer in which a set is, and its cell there
--     ones_le, ones_some      how many members a set has
use Rattle.std.proofs.Common.{◌≡◌, ℕ, ◌^◌, ◌<◌, ◌≤◌, true, List, length, Some, IfSome, Option, sym, ap, ◌∙◌, subst, arith, count_ones, eqb}
use Rattle.std.proofs.lemmas.Bool.{cases_eq}
use Rattle.std.proofs.lemmas.List.FromFn.{length-range_with_len}
use Rattle.definitions.specs.Functions.{Function}
use Rattle.std.specs.Int.{bit_at}
use Rattle.std.proofs.lemmas.Nat.{zero_from_ones}
use Rattle.definitions.specs.Orders.{has, members, variables}
use Rattle.definitions.specs.Cells.{cell_of}
use Rattle.definitions.specs.declared.limits.LowerBound.{LowerBound}
use Rattle.subset_layers.specs.declared.costs.Cell.{Cell}
use Rattle.layer_core.specs.Pairing.{pair_of}
use Rattle.definitions.specs.Pairs.{Pair}
use Rattle.definitions.specs.Problems.{functions}
use Rattle.subset_layers.specs.Layers.{layer_with, masks_of}
use Rattle.subset_layers.specs.Costs.{CostsOf, layer_of_costs, as_pair, AreTrueCells}
use Rattle.subset_layers.proofs.BlockLists.{masks_has}
use Rattle.definitions.proofs.Bits.Ones.{ones-members}
use Rattle.layer_core.specs.Instances.{InstanceOf, cell_for}
use Rattle.layer_core.specs.LayerCosts.{IsLayerFor}
use Rattle.definitions.proofs.Lists.Ranges.{filter_at_most}

module _ (t : InstanceOf) (mask : ℕ) (c : CostsOf) (small : mask < 2 ^ t.problem.inputs) (h : IsLayerFor t (count_ones mask) c) where
  abbrev n : ℕ
  n = t.problem.inputs

  ones : count_ones mask ≡ length (members n mask)
  ones = ones-members n mask small

  pub set_there : has (masks_of (layer_of_costs c)) mask ≡ true
  set_there =
      ap (λ k. has (masks_of (layer_with k c.size)) mask) h.inputs ∙ masks_has n c.size mask small (sym ones ∙ sym h.size_is)

pub ones_le : (n mask : ℕ) → mask < 2 ^ n → count_ones mask ≤ n
unfolding members
ones_le n mask lt =
    let e = ones-members n mask lt in
    let l = filter_at_most (λ x. eqb (bit_at mask x) 1) (variables n) in
    let k = length-range_with_len 0 n in
    omega (arith, e, l, k)

pub ones_some : (mask : ℕ) → 0 < mask → 0 < count_ones mask
ones_some mask lt = grind (arith, cases_eq, count_ones, zero_from_ones)

-- what a found cell is
from_some : {X : Type 0} (P : X → Type 0) (o : Option X) (x : X) → IfSome o P → o ≡ Some x → P x
from_some P o x h e = subst (λ z. IfSome z P) e h

pub cell_found : (t : InstanceOf) (k mask : ℕ) (c : CostsOf) (o : Option Cell) (cell : Cell) → IsLayerFor t k c →
    ((F : List Function) (P : List Pair) (r : LowerBound) (bound : ℕ) → AreTrueCells c.inputs F P r bound c →
    IfSome o (λ x. as_pair x ≡ cell_of c.inputs F P r bound mask)) →
    o ≡ Some cell → pair_of cell ≡ cell_for t mask
cell_found t k mask c o cell h exact e =
    from_some (λ x. as_pair x ≡ cell_of c.inputs (functions t.problem) t.pairs.pairs t.lower_bound t.bound mask) o cell
    (exact (functions t.problem) t.pairs.pairs t.lower_bound t.bound
    (subst (λ (n : ℕ). AreTrueCells n (functions t.problem) t.pairs.pairs t.lower_bound t.bound c) (sym h.inputs) h.cells_are)) e
    ∙ ap (λ n. cell_of n (functions t.problem) t.pairs.pairs t.lower_bound t.bound mask) h.inputs
