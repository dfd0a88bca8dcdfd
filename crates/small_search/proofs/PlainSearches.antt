-- Searches of small problems.
--     plain      what is known of them
use Rattle.std.proofs.Common.{◌≡◌, ℕ, ◌≤◌, length, refl, subst, arith}
use Rattle.std.proofs.lemmas.List.{length-map}
use Rattle.definitions.specs.Functions.{from_table}
use Rattle.definitions.specs.KeptPairs.{CanBeKept, KeptPairs}
use Rattle.definitions.specs.Orders.{IsOrder}
use Rattle.definitions.specs.Problems.{TruthTables, functions, outputs_of}
use Rattle.definitions.proofs.Precedence.Cycles.{acyclic_kept}
use Rattle.definitions.proofs.Widths.SizeBounds.{size_bound}
use Rattle.small_search.specs.Searches.{IsPlainSearch, plain_instance}

pub plain : (p : TruthTables) (pairs : KeptPairs) → pairs.inputs ≡ p.inputs → CanBeKept pairs.inputs pairs.pairs → p.inputs ≤ 16 → outputs_of p ≤ 16 →
    IsPlainSearch (plain_instance p pairs)
plain p pairs same k inputs outputs =
    let o = acyclic_kept pairs.inputs pairs.pairs k.below k.acyclic in
    let order = subst (λ (i : ℕ). IsOrder i o.0) same o.2.is_order in
    let many : length (functions p) ≤ 16 = omega (arith, length-map p.tables from_table, outputs) in
    let size = size_bound p.inputs (functions p) o.0 inputs many order in
    record {
      pairs_are = same;
      bounded = record { order = o.0; is_order = order; keeps = o.2.kept; size = omega (arith, size) };
      by_variables = refl;
      bound_is = refl;
    }
