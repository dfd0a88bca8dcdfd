use Rattle.std.proofs.Common.{◌≡◌, ℕ, None, map, replicate, refl, sym, ap, ◌∙◌, subst, arith}
use Rattle.subset_layers.specs.Layers.{LayerOf}
use Rattle.layer_core.specs.Machine.{blank, opening}
use Rattle.layer_core.specs.Rights.{Right}
use Rattle.layer_core.proofs.Starts.{right_opening}
use Rattle.layer_core.specs.declared.machine.Core.TheInside.{Inside}
use Rattle.layer_core.specs.Instances.{layout_of}
use Rattle.layer_core.specs.Marked.{marks_of}
use Rattle.layer_core.proofs.CoreSteps.{opened, opened_workers}
use Rattle.layer_core.proofs.Layouts.{laid}
use Rattle.layer_core.proofs.machine.Core.new.Goals as goal

pub invariant_of-result : goal.invariant_of-result
invariant_of-result c =
    let l : LayerOf = c.in_ok-layer.layer in
    let x : Inside = record { layer = l; counter = 0; cells = c.in_ok-cells.cells; workers = c.in_ok-workers.workers } in
    let blanks : map marks_of x.workers.items ≡ replicate c.count.result (blank (layout_of l)) = grind arith in
    let world = opened x c.count.result refl (c.in_ok-cells.ensures ∙ ap (λ (k : ℕ). replicate k None) c.len.ensures) blanks in (
      subst (Right (λ mask cell. Unit {0})) (sym world) (right_opening (λ mask cell. Unit {0}) (layout_of l) c.count.result (laid l)),
      omega (arith, opened_workers x.workers.items c.count.result (blank (layout_of l)) blanks),
    )

pub returns-clause-opening : goal.returns-clause-opening
returns-clause-opening c =
    let x : Inside = record { layer = c.in_ok-layer.layer; counter = 0; cells = c.in_ok-cells.cells; workers = c.in_ok-workers.workers } in
    let blanks : map marks_of x.workers.items ≡ replicate c.count.result (blank (layout_of c.in_ok-layer.layer)) = grind arith in
    opened x c.count.result refl (c.in_ok-cells.ensures ∙ ap (λ (k : ℕ). replicate k None) c.len.ensures) blanks
    ∙ λ i. opening (layout_of (c.in_ok-layer.ensures.same i)) (c.count.ensures.value i)

pub returns-clause-layout : goal.returns-clause-layout
returns-clause-layout c = laid c.in_ok-layer.layer
