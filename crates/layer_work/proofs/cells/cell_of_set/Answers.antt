use Rattle.std.proofs.Common.{◌≡◌, ℕ, ◌+◌, ◌^◌, ◌≤◌, List, Option, Some, IfOk, IfSome, OnOk, slice_get, sym, subst}
use Rattle.std.proofs.lemmas.Option.{get_or_from_slice_get, slice_get_within}
use Rattle.subset_layers.specs.Layers.{masks_of}
use Rattle.layer_core.specs.Instances.{cell_for}
use Rattle.layer_core.specs.Needs.{width_count}
use Rattle.layer_core.specs.Pairing.{pair_of}
use Rattle.layer_work.specs.LayerContexts.{ContextOf}
use Rattle.layer_work.proofs.cells.cell_of_set.Goals as goal

-- the place that was found
place : (b d : ContextOf) (mask i : ℕ) (o : Option ℕ) → b ≡ d → IfSome o (λ k. slice_get (masks_of b.layer) k ≡ Some mask) → o ≡ Some i →
    slice_get (masks_of d.layer) i ≡ Some mask
place b d mask i o same h e =
    subst (λ (z : ContextOf). slice_get (masks_of z.layer) i ≡ Some mask) same (subst (λ z. IfSome z (λ k. slice_get (masks_of b.layer) k ≡ Some mask)) e h)

pub cell_at-requires-clause-there : goal.cell_at-requires-clause-there
cell_at-requires-clause-there c =
    slice_get_within (masks_of c.args.context.now.layer) c.unwrap-place.result c.args.mask
    (place _ _ c.args.mask c.unwrap-place.result c.position.result c.context.view_is c.position.ensures.found c.unwrap-place.ensures)

pub cell_at-requires-clause-room : goal.cell_at-requires-clause-room
cell_at-requires-clause-room c =
    subst (λ (m : ℕ). c.args.tally.now + width_count c.args.context.now.instance m ≤ 2 ^ 32)
    (sym (get_or_from_slice_get (masks_of c.args.context.now.layer) c.unwrap-place.result c.args.mask 0
    (place _ _ c.args.mask c.unwrap-place.result c.position.result c.context.view_is c.position.ensures.found c.unwrap-place.ensures)))
    c.requires.room

pub returns-clause-cell : goal.returns-clause-cell
returns-clause-cell c =
    subst (λ (m : ℕ). IfOk c.cell_at.result (λ x. pair_of x ≡ cell_for c.args.context.now.instance m))
    (get_or_from_slice_get (masks_of c.args.context.now.layer) c.unwrap-place.result c.args.mask 0
    (place _ _ c.args.mask c.unwrap-place.result c.position.result c.context.view_is c.position.ensures.found c.unwrap-place.ensures))
    c.cell_at.ensures.cell

pub returns-clause-counts : goal.returns-clause-counts
returns-clause-counts c =
    subst (λ (m : ℕ). OnOk c.cell_at.result (c.cell_at.new.tally ≡ c.args.tally.now + width_count c.args.context.now.instance m))
    (get_or_from_slice_get (masks_of c.args.context.now.layer) c.unwrap-place.result c.args.mask 0
    (place _ _ c.args.mask c.unwrap-place.result c.position.result c.context.view_is c.position.ensures.found c.unwrap-place.ensures))
    c.cell_at.ensures.counts
