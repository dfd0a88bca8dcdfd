-- Pairs that a search keeps besides those that are asked for.
--     harmless_kept      what is asked for may be kept
--     found_harmless      what is best among orders that keep harmless pairs is so among those that keep what is asked for
use Rattle.std.proofs.Common.{◌≡◌, ℕ, List, Result, IfOk, sym, ap, ◌∙◌, subst}
use Rattle.std.proofs.lemmas.Result.{IfOk-weaker}
use Rattle.definitions.specs.Functions.{Function}
use Rattle.definitions.specs.Pairs.{Pair}
use Rattle.definitions.specs.Problems.{TruthTables, functions}
use Rattle.layer_core.specs.Instances.{InstanceOf}
use Rattle.order_model.specs.declared.sized_orders.SizedOrder.{SizedOrder}
use Rattle.symmetries.specs.SymmetricPairs.{IsHarmless}
use Rattle.symmetries.proofs.FirstSorted.{fewest_harmless, first_harmless, harmless_same}
use Rattle.solutions.specs.Solutions.{IsOptimumFor}

-- what is asked for may be kept
pub harmless_kept : (n : ℕ) (F : List Function) (P Q : List Pair) → Q ≡ P → IsHarmless n F P Q
harmless_kept n F P Q e = subst (λ (R : List Pair). IsHarmless n F P R) (sym e) (harmless_same n F P)

optimum_harmless : (t : TruthTables) (P Q : List Pair) (o : SizedOrder) → IsHarmless t.inputs (functions t) P Q → IsOptimumFor t Q o → IsOptimumFor t P o
optimum_harmless t P Q o h best = search (first_harmless, fewest_harmless)

-- what is read off the cells of an instance whose pairs are harmless
pub found_harmless : {E : Type 0} (t : TruthTables) (P Q : List Pair) (z cells : InstanceOf) (r : Result SizedOrder E) → cells ≡ z → z.problem ≡ t →
    z.pairs.pairs ≡ Q → IsHarmless t.inputs (functions t) P Q → IfOk r (IsOptimumFor cells.problem cells.pairs.pairs) → IfOk r (IsOptimumFor t P)
found_harmless t P Q z cells r same problem pairs harmless found =
    IfOk-weaker r _ _
    (λ o best. optimum_harmless t P Q o harmless
    (subst (λ (R : List Pair). IsOptimumFor t R o) (ap (λ (i : InstanceOf). i.pairs.pairs) same ∙ pairs)
    (subst (λ (u : TruthTables). IsOptimumFor u cells.pairs.pairs o) (ap (λ (i : InstanceOf). i.problem) same ∙ problem) best)))
    found
