-- The size of a sifted order as a bound for orders that keep more pairs.
--     sifted_bounds      some order that keeps them has it as its size
--     sifted_room      there is room for one more
use Rattle.std.proofs.Common.{◌≡◌, ℕ, ◌+◌, ◌^◌, ◌<◌, ◌≤◌, List, length, sym, ap, ◌∙◌, subst, arith}
use Rattle.definitions.specs.Levels.{size_under}
use Rattle.definitions.specs.Orders.{IsOrder}
use Rattle.definitions.specs.Pairs.{Keeps}
use Rattle.definitions.specs.Problems.{TruthTables, functions}
use Rattle.definitions.proofs.Widths.SizeBounds.{size_bound}
use Rattle.symmetries.specs.SymmetricPairs.{IsHarmless}
use Rattle.sifting.specs.Managed.{SiftedOrder, IsSiftedOrder}
use Rattle.layer_core.specs.Instances.{InstanceOf}
use Rattle.layer_core.proofs.Layouts.{length-map_lem}
use Rattle.solutions.specs.Bounded.{IsBounded}

module _ (t : InstanceOf) (s : SiftedOrder) (is : IsSiftedOrder s) (same : s.problem ≡ t.problem)
    (h : IsHarmless t.problem.inputs (functions t.problem) s.pairs t.pairs.pairs) (e : t.bound ≡ s.size) where
  -- an order of the sifted one's size that keeps more pairs, if these are harmless
  sorted : (o : List ℕ) × IsOrder t.problem.inputs o × Keeps t.pairs.pairs o × (t.bound ≡ size_under t.problem.inputs (functions t.problem) o)
  sorted =
      let inputs = sym is.managed.inputs ∙ ap (λ (p : TruthTables). p.inputs) same in
      let o = h.sorted s.order (subst (λ (n : ℕ). IsOrder n s.order) inputs is.managed.is_order) is.managed.kept in
      let size = is.true_size.size_is ∙ ap (λ (p : TruthTables). size_under p.inputs (functions p) s.order) same in
      (o.0, o.1, o.2, e ∙ size ∙ sym o.3)

  pub sifted_bounds : IsBounded t
  sifted_bounds = let o = sorted in record { order = o.0; is_order = o.1; keeps = o.2; size = (let k = o.3 in omega (arith, k)) }

  pub sifted_room : (outputs : ℕ) → t.problem.inputs ≤ 16 → outputs ≡ length t.problem.tables → outputs ≤ 16 → t.bound + 1 < 2 ^ 32
  sifted_room outputs few are some =
      let o = sorted in
      let many : length (functions t.problem) ≤ 16 = grind (arith, length-map_lem) in
      let k = size_bound t.problem.inputs (functions t.problem) o.0 few many o.1 in
      let b = o.3 in
      omega (arith, k, b)
