use Rattle.std.proofs.Common.{◌≡◌, ◌<◌, ◌^◌, ℕ, List, false, subst}
use Rattle.definitions.specs.Orders.{has}
use Rattle.pair_numbering.specs.MaskedNumbers.{NumbersMasked}
use Rattle.pair_numbering.specs.declared.masks.MaskedPairs.{MaskedPairs}
use Rattle.subfunction_classes.specs.PairTables.{NumbersPairs}
use Rattle.subfunction_classes.specs.Places as places
use Rattle.subfunction_classes.specs.Table.{ClassesOf, HoldsClasses, free_below, set_of, with_variable}
use Rattle.subfunction_classes.proofs.OneMoreVariable.{holds_more}

-- the numbers of a table's pairs by x are its classes with x
pub numbered_more : (t : ClassesOf) (x : ℕ) → x < t.problem.inputs → has (set_of t) x ≡ false → (p : MaskedPairs) →
    HoldsClasses t p.entries.numbers p.masks.now → p.entries.rank ≡ free_below t.set x → p.x ≡ x → (numbers masks : List ℕ) →
    NumbersMasked p numbers masks → HoldsClasses (with_variable t x) numbers masks
numbered_more t x inside new p h rank same numbers masks n =
    let q = subst (λ z. z) (λ i. NumbersPairs p.masks.now (same i) (places.pairs p.entries.numbers (2 ^ rank i)) numbers masks) n in
    holds_more t x inside new p.entries.numbers p.masks.now numbers masks h q.numbers_are q.many q.labels
