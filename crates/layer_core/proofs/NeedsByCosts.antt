-- The costs of the sets without one member, by the costs of the layer before.
--     costs_without      a list that has those of the layer before has the definition's
use Rattle.std.proofs.Common.{◌≡◌, ℕ, ◌-◌, ◌^◌, true, List, slice_index, unwrap_or, sym, ap, ◌∙◌, subst}
use Rattle.definitions.specs.Orders.{has, members}
use Rattle.definitions.specs.Problems.{functions}
use Rattle.subset_layers.specs.Costs.{CostsOf, cost_without}
use Rattle.subset_layers.proofs.CostLists.{less_one}
use Rattle.layer_core.specs.Instances.{InstanceOf}
use Rattle.layer_core.specs.LayerCosts.{AreCostsFor}
use Rattle.layer_core.specs.Needs.{IsInNextLayer}
use Rattle.layer_core.proofs.WantedMembers.{AreCostsWithout}

pub costs_without : (t : InstanceOf) (c : CostsOf) (mask : ℕ) (below : List ℕ) → c.inputs ≡ t.problem.inputs → AreCostsFor t c → IsInNextLayer c mask →
    ((x : ℕ) → has (members c.inputs mask) x ≡ true → slice_index below x ≡ cost_without c mask x) →
    AreCostsWithout t.problem.inputs (functions t.problem) t.pairs.pairs t.lower_bound t.bound mask (slice_index below)
costs_without t c mask below inputs costs next are x m =
    let own : has (members c.inputs mask) x ≡ true = subst (λ (n : ℕ). has (members n mask) x ≡ true) (sym inputs) m in
    are x own ∙ ap (λ o. unwrap_or o 0) (costs (mask - 2 ^ x) (less_one c.inputs c.size mask x next own))
