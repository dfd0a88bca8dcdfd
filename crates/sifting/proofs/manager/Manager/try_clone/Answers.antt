use Rattle.std.proofs.Common.{◌≡◌, ℕ, ◌∙◌, Bool, List, ap}
use Rattle.definitions.specs.KeptPairs.{KeptPairs}
use Rattle.sifting.specs.Leveled.{Children}
use Rattle.sifting.specs.LevelLists.{HoldsDiagram, nodes_of}
use Rattle.sifting.proofs.manager.Manager.try_clone.Goals as goal

-- equal fields hold the same diagram
copied : (levels levels' : List (List Children)) (terminals terminals' : List Bool) (order order' roots roots' : List ℕ) (kept kept' : KeptPairs) →
    levels' ≡ levels → terminals' ≡ terminals → order' ≡ order → roots' ≡ roots → kept' ≡ kept → HoldsDiagram levels terminals order roots kept →
    HoldsDiagram levels' terminals' order' roots' kept'
copied levels levels' terminals terminals' order order' roots roots' kept kept' a b c d e h = rw (a, b, c, d, e) h

pub invariant_of-result : goal.invariant_of-result
invariant_of-result c =
    let m = c.self.inside in
    copied (nodes_of m.levels.items) (nodes_of c.in_ok-copies_of.field-0.items) m.terminals.items c.in_ok-to_vec-2.field-0.items m.order
    c.in_ok-try_clone.field-0 m.roots.items c.in_ok-to_vec.field-0.items m.pairs c.copied.result
    (c.in_ok-copies_of.ensures ∙ ap nodes_of c.deref-2.ensures.value)
    (c.in_ok-to_vec-2.ensures.items_if_clones_equal (λ x y e. e) ∙ c.deref-3.ensures.value) c.in_ok-try_clone.ensures
    (c.in_ok-to_vec.ensures.items_if_clones_equal (λ x y e. e) ∙ c.deref.ensures.value) c.copied.ensures c.self.invariant
