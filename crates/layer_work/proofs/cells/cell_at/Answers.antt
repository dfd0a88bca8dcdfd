use Rattle.std.proofs.Common.{◌≡◌, ◌≢◌, slice_index_or, ℕ, ◌+◌, ◌^◌, ◌<◌, ◌≤◌, IsTrue, List, [], Option, Some, None, count_ones, slice_index, sym, ap, ◌∙◌, subst, arith}
use Rattle.std.specs.Int.{bit_at}
use lib.Count.{ones}
use Rattle.definitions.specs.Orders.{has, members}
use Rattle.definitions.specs.Problems.{TruthTables}
use Rattle.symmetries.specs.declared.orbits.Image.{Image}
use Rattle.subset_layers.specs.Layers.{masks_of}
use Rattle.compaction.specs.Rows.{IsWidthRow}
use Rattle.layer_core.specs.Instances.{cell_for}
use Rattle.layer_core.specs.Needs.{needed, width_count}
use Rattle.layer_core.specs.declared.needs.SetNeeds.{SetNeeds}
use Rattle.layer_core.proofs.WantedMembers.{needed_ones}
use Rattle.layer_work.specs.LayerContexts.{ContextOf, IsImageFor}
use Rattle.layer_work.proofs.Blocks.{are_members, has_needed, image_at, is_mask, needs_at, small_mask, some_mask}
use Rattle.layer_work.proofs.cells.cell_at.Goals as goal

abbrev no_needs : SetNeeds
no_needs = record { members = 0; below = [] }

pub pruned_cell-requires-clause-some : goal.pruned_cell-requires-clause-some
pruned_cell-requires-clause-some c =
    some_mask _ c.context.inside.needs.now c.context.inside.images.now c.context.inside.prepared.now
    c.context.invariant c.args.place c.mask_at-mask.result c.mask_at-mask.ensures

pub pruned_cell-requires-clause-within : goal.pruned_cell-requires-clause-within
pruned_cell-requires-clause-within c =
    small_mask _ c.context.inside.needs.now c.context.inside.images.now c.context.inside.prepared.now
    c.context.invariant c.args.place c.mask_at-mask.result c.mask_at-mask.ensures

pub pruned_cell-requires-clause-none : goal.pruned_cell-requires-clause-none
pruned_cell-requires-clause-none c =
    subst (λ (o : Option Image). IsImageFor c.context.inside.instance.now c.context.inside.prepared.now c.mask_at-mask.result o) c.in_default.is
    (image_at _ c.context.inside.needs.now c.context.inside.images.now c.context.inside.prepared.now
    c.context.invariant c.args.place c.mask_at-mask.result c.mask_at-mask.ensures None)

pub returns-in_default-clause-cell : goal.returns-in_default-clause-cell
returns-in_default-clause-cell c =
    c.pruned_cell.ensures
    ∙ ap (cell_for c.context.inside.instance.now) (sym (is_mask _ c.context.inside.needs.now c.context.inside.images.now c.context.inside.prepared.now
    c.context.invariant c.args.place c.mask_at-mask.result c.mask_at-mask.ensures))
    ∙ ap (λ (z : ContextOf). cell_for z.instance (slice_index (masks_of z.layer) c.args.place)) c.context.view_is

pub returns-in_default-clause-counts : goal.returns-in_default-clause-counts
unfolding ones
returns-in_default-clause-counts c =
    let t = c.context.inside.instance.now in
    let mask = c.mask_at-mask.result in
    let none : needed t mask ≡ 0 =
    subst (λ (o : Option Image). IsImageFor t c.context.inside.prepared.now mask o) c.in_default.is
    (image_at _ c.context.inside.needs.now c.context.inside.images.now c.context.inside.prepared.now
    c.context.invariant c.args.place c.mask_at-mask.result c.mask_at-mask.ensures None) in
    let zero : width_count t mask ≡ 0 = sym (needed_ones t mask) ∙ ap count_ones none in
    let own = ap (width_count t) (is_mask _ c.context.inside.needs.now c.context.inside.images.now c.context.inside.prepared.now
    c.context.invariant c.args.place c.mask_at-mask.result c.mask_at-mask.ensures) in
    let same = ap (λ (z : ContextOf). width_count z.instance (slice_index (masks_of z.layer) c.args.place)) c.context.view_is in
    omega (arith, zero, own, same)

pub row-requires-clause-set : goal.row-requires-clause-set
row-requires-clause-set c =
    subst (λ (p : TruthTables). c.mask_at-mask.result < 2 ^ p.inputs) (sym c.context.invariant.problem)
    (small_mask _ c.context.inside.needs.now c.context.inside.images.now c.context.inside.prepared.now
    c.context.invariant c.args.place c.mask_at-mask.result c.mask_at-mask.ensures)

pub row-requires-clause-members : goal.row-requires-clause-members
row-requires-clause-members c = λ x one.
    let mask = c.mask_at-mask.result in
    let needs = needs_at _ c.context.inside.needs.now c.context.inside.images.now c.context.inside.prepared.now
    c.context.invariant c.args.place c.mask_at-mask.result c.mask_at-mask.ensures no_needs in
    subst (λ (p : TruthTables). IsTrue (has (members p.inputs mask) x)) (sym c.context.invariant.problem)
    (are_members c.context.inside.instance.now mask x (ap (λ (m : ℕ). bit_at m x) (sym needs.members_are) ∙ one))

pub row-requires-clause-image : goal.row-requires-clause-image
row-requires-clause-image c =
    (subst (λ (o : Option Image). IsImageFor c.context.inside.instance.now c.context.inside.prepared.now c.mask_at-mask.result o) c.in-Some.is
    (image_at _ c.context.inside.needs.now c.context.inside.images.now c.context.inside.prepared.now
    c.context.invariant c.args.place c.mask_at-mask.result c.mask_at-mask.ensures None)).1

pub cell-requires-clause-within : goal.cell-requires-clause-within
cell-requires-clause-within c =
    small_mask _ c.context.inside.needs.now c.context.inside.images.now c.context.inside.prepared.now
    c.context.invariant c.args.place c.mask_at-mask.result c.mask_at-mask.ensures

pub cell-requires-clause-needs : goal.cell-requires-clause-needs
cell-requires-clause-needs c =
    needs_at _ c.context.inside.needs.now c.context.inside.images.now c.context.inside.prepared.now
    c.context.invariant c.args.place c.mask_at-mask.result c.mask_at-mask.ensures no_needs

pub cell-requires-clause-some : goal.cell-requires-clause-some
cell-requires-clause-some c = λ e.
    let needs = needs_at _ c.context.inside.needs.now c.context.inside.images.now c.context.inside.prepared.now
    c.context.invariant c.args.place c.mask_at-mask.result c.mask_at-mask.ensures no_needs in
    (subst (λ (o : Option Image). IsImageFor c.context.inside.instance.now c.context.inside.prepared.now c.mask_at-mask.result o) c.in-Some.is
    (image_at _ c.context.inside.needs.now c.context.inside.images.now c.context.inside.prepared.now
    c.context.invariant c.args.place c.mask_at-mask.result c.mask_at-mask.ensures None)).0
    (sym needs.members_are ∙ e)

pub cell-requires-clause-widths : goal.cell-requires-clause-widths
cell-requires-clause-widths c =
    let t = c.context.inside.instance.now in
    let mask = c.mask_at-mask.result in
    let needs = needs_at _ c.context.inside.needs.now c.context.inside.images.now c.context.inside.prepared.now
    c.context.invariant c.args.place c.mask_at-mask.result c.mask_at-mask.ensures no_needs in
    let row = c.in_ok-row.row in
    has_needed t mask row (omega (arith, c.inputs.ensures.value, c.inputs.ensures.few))
    (subst (λ (k : ℕ). IsWidthRow t.problem mask k row) needs.members_are
    (subst (λ (p : TruthTables). IsWidthRow p mask (slice_index_or c.context.inside.needs.now c.args.place no_needs).members row) c.context.invariant.problem
    c.in_ok-row.ensures))

pub returns-clause-cell : goal.returns-clause-cell
returns-clause-cell c =
    c.cell.ensures
    ∙ ap (cell_for c.context.inside.instance.now) (sym (is_mask _ c.context.inside.needs.now c.context.inside.images.now c.context.inside.prepared.now
    c.context.invariant c.args.place c.mask_at-mask.result c.mask_at-mask.ensures))
    ∙ ap (λ (z : ContextOf). cell_for z.instance (slice_index (masks_of z.layer) c.args.place)) c.context.view_is

pub returns-clause-counts : goal.returns-clause-counts
returns-clause-counts c =
    let t = c.context.inside.instance.now in
    let mask = c.mask_at-mask.result in
    let needs = needs_at _ c.context.inside.needs.now c.context.inside.images.now c.context.inside.prepared.now
    c.context.invariant c.args.place c.mask_at-mask.result c.mask_at-mask.ensures no_needs in
    let own = ap (width_count t) (is_mask _ c.context.inside.needs.now c.context.inside.images.now c.context.inside.prepared.now
    c.context.invariant c.args.place c.mask_at-mask.result c.mask_at-mask.ensures) in
    let same = ap (λ (z : ContextOf). width_count z.instance (slice_index (masks_of z.layer) c.args.place)) c.context.view_is in
    let count = c.from.ensures ∙ ap count_ones needs.members_are ∙ needed_ones t mask in
    let sum = c.add.ensures in
    omega (arith, sum, count, own, same)
