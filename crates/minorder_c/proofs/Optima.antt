-- The order of the fewest nodes and its diagram, in the places that are lent for them.
--     same_optimum      the order by other names
--     held_optimum      with its diagram
--     optimum_shape      the call has its shape
use Rattle.std.proofs.Common.{◌≡◌, ℕ, ◌++◌, List, [], length, drop, sym, ap, subst, ◌∙◌}
use Rattle.definitions.specs.Pairs.{Pair}
use Rattle.truth_table.specs.declared.levels.NumberedNode.{NumberedNode}
use Rattle.minorder_c.specs.declared.arguments.GivenTables.{GivenTables}
use Rattle.minorder_c.specs.Answers.{HasCallShape, IsFirstFewestOf}
use Rattle.minorder_c.specs.Diagrams.{HasOptimumShape, HoldsOptimum, IsDrawnFor}

pub same_optimum : (given given' : GivenTables) (P : List Pair) (order order' levels levels' : List ℕ) (total : ℕ) → given ≡ given' → order' ≡ order →
    levels' ≡ levels → IsFirstFewestOf given P order levels total → IsFirstFewestOf given' P order' levels' total
same_optimum given given' P order order' levels levels' total g o l h =
    subst (λ z. z) (λ i. IsFirstFewestOf (g i) P (sym o i) (sym l i) total) h

pub held_optimum : (given given' : GivenTables) (order order' levels levels' : List ℕ) (nodes nodes' place place' : List NumberedNode)
    (roots roots' : List ℕ) (total : ℕ) → given ≡ given' → order' ≡ order → levels' ≡ levels → nodes' ≡ nodes → roots' ≡ roots →
    place' ≡ nodes' ++ drop (length nodes') place → IsFirstFewestOf given [] order levels total → IsDrawnFor given order total nodes roots →
    HoldsOptimum given' order' levels' place place' roots' total
held_optimum given given' order order' levels levels' nodes nodes' place place' roots roots' total g o l n r front best is =
    let drawn = subst (λ z. z) (λ i. IsDrawnFor (g i) (sym o i) total (sym n i) (sym r i)) is in
    record {
      optimum = same_optimum given given' [] order order' levels levels' total g o l best;
      diagram = record {
        items = nodes';
        is = drawn.diagram;
        long = drawn.size;
        front = front ∙ ap (λ k. nodes' ++ drop k place) drawn.size;
      };
    }

pub optimum_shape : (given given' : GivenTables) (places counts roots : ℕ) → given ≡ given' → HasCallShape given places counts →
    roots ≡ given'.outputs → HasOptimumShape given' places counts roots
optimum_shape given given' places counts roots g shape long =
    record { call = subst (λ (x : GivenTables). HasCallShape x places counts) g shape; roots_are = long }
