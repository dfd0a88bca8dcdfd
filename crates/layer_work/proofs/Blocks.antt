-- The sets of a context's layer: their masks and widths.
--     is_mask, small_mask, some_mask      the set at a place is one of the instance's variables, and not empty
--     in_needs, needs_at, in_images, image_at      what is needed of it, and its image, stand at that place
--     are_members      what is needed of a set are its members
--     has_needed      a row with what is needed has the widths that the cell takes
use Rattle.std.proofs.Common.{◌≡◌, ℕ, ◌^◌, ◌<◌, ◌≤◌, true, cond, List, Option, Some, length, get_or, slice_get, slice_index, ap, ◌∙◌, subst, arith, eq-eqb}
use Rattle.std.specs.Int.{bit_at}
use Rattle.std.proofs.lemmas.Option.{get_or_from_slice_get, slice_get_within}
use Rattle.definitions.specs.Orders.{has, members, without}
use Rattle.definitions.specs.Problems.{functions}
use Rattle.definitions.specs.Widths.{width}
use Rattle.definitions.specs.Cells.{wanted}
use Rattle.definitions.proofs.Bits.Masks.{members_small}
use Rattle.subset_layers.specs.Layers.{masks_of}
use Rattle.subset_layers.proofs.BlockLists.{has_masks, has_slice_get}
use Rattle.subset_layers.proofs.CellSteps.{some_member}
use Rattle.layer_core.specs.Instances.{InstanceOf}
use Rattle.layer_core.specs.Needs.{AreNeedsOf, HasNeeded, needed}
use Rattle.layer_core.specs.declared.needs.SetNeeds.{SetNeeds}
use Rattle.layer_core.proofs.WantedMembers.{wanted_member, wanted_bit, bit_wanted}
use Rattle.symmetries.specs.declared.orbits.Image.{Image}
use Rattle.compaction.specs.Preparations.{PreparedOf}
use Rattle.compaction.specs.Requests.{AreMembersOf}
use Rattle.compaction.specs.Rows.{width_wanted, IsWidthRow}
use Rattle.layer_work.specs.LayerContexts.{ContextOf, HoldsContext, IsImageFor}

module _ (b : ContextOf) (needs : List SetNeeds) (images : List (Option Image)) (v : PreparedOf) (h : HoldsContext b needs images v) (place mask : ℕ)
    (at : slice_get (masks_of b.layer) place ≡ Some mask) where
  within : place < length (masks_of b.layer)
  within = slice_get_within (masks_of b.layer) place mask at

  there : has (masks_of b.layer) mask ≡ true
  there = has_slice_get (masks_of b.layer) place mask at

  pub is_mask : slice_index (masks_of b.layer) place ≡ mask
  is_mask = get_or_from_slice_get (masks_of b.layer) place mask 0 at

  pub small_mask : mask < 2 ^ b.instance.problem.inputs
  small_mask = subst (λ (n : ℕ). mask < 2 ^ n) h.context.inputs (has_masks b.layer.inputs b.layer.size mask there).0

  pub some_mask : 0 < mask
  some_mask = some_member b.layer.inputs b.layer.size mask h.context.some there

  pub in_needs : place < length needs
  in_needs = let e = h.needs_are.each in let lt = within in omega (arith, e, lt)

  pub in_images : place < length images
  in_images = let e = h.images_are.each in let lt = within in omega (arith, e, lt)

  pub needs_at : (d : SetNeeds) → AreNeedsOf b.instance mask (get_or needs place d)
  needs_at d = subst (λ (m : ℕ). AreNeedsOf b.instance m (get_or needs place d)) is_mask (h.needs_are.are place d in_needs)

  pub image_at : (d : Option Image) → IsImageFor b.instance v mask (get_or images place d)
  image_at d = subst (λ (m : ℕ). IsImageFor b.instance v m (get_or images place d)) is_mask (h.images_are.are place d in_images)

-- what is needed of a set are its members
pub are_members : (t : InstanceOf) (mask : ℕ) → AreMembersOf t.problem.inputs mask (needed t mask)
unfolding needed
are_members t mask x e =
    wanted_member t.problem.inputs (functions t.problem) t.pairs.pairs t.lower_bound t.bound mask x
    (bit_wanted t.problem.inputs (functions t.problem) t.pairs.pairs t.lower_bound t.bound mask x e)

module _ (t : InstanceOf) (mask : ℕ) (row : List ℕ) (few : t.problem.inputs ≤ 16) (is_row : IsWidthRow t.problem mask (needed t mask) row) where
  bit_there : (x : ℕ) → has (wanted t.problem.inputs (functions t.problem) t.pairs.pairs t.lower_bound t.bound mask) x ≡ true → bit_at (needed t mask) x ≡ 1
  unfolding needed
  bit_there x w =
      wanted_bit t.problem.inputs (functions t.problem) t.pairs.pairs t.lower_bound t.bound mask x ∙ ap (λ b. cond b 1 0) w

  width_there : (x : ℕ) → bit_at (needed t mask) x ≡ 1 →
      width_wanted t.problem mask (needed t mask) x ≡ width t.problem.inputs (functions t.problem) (without x (members t.problem.inputs mask)) x
  unfolding width_wanted
  width_there x e =
      ap (λ k. cond k (width t.problem.inputs (functions t.problem) (without x (members t.problem.inputs mask)) x) 0) (eq-eqb (bit_at (needed t mask) x) 1 e)

  pub has_needed : HasNeeded t mask row
  has_needed x w =
      let m = wanted_member t.problem.inputs (functions t.problem) t.pairs.pairs t.lower_bound t.bound mask x w in
      let small = members_small t.problem.inputs mask x m in
      is_row x (omega (arith, small, few)) ∙ width_there x (bit_there x w)
