-- A worker's rounds: a claim, and the posts of its block.
--     Working t s0 s count      what a worker keeps from s0 to s
--     working_none, working_stays, working_round      at the start, where claims stay, after a round
--     widths_none, round_room, count_more      the widths of a block's first sets
use Rattle.std.proofs.Common.{◌≡◌, ℕ, zero, suc, ◌+◌, ◌*◌, ◌^◌, ◌<◌, ◌≤◌, length, take, get_or, slice_get, arith, Bool, true, false, not, ◌&&◌, List, [], ◌∷◌, Some, inl, inr, refl, sym, ap, ◌∙◌, subst, nat_eq}
use Rattle.std.proofs.lemmas.List.Sums.{sum_by-cons, sum-map}
use Rattle.std.specs.List.{filter}
use Rattle.std.proofs.lemmas.Bool.{false≢true, cases_Bool, and_parts, and_from}
use Rattle.definitions.specs.Orders.{has}
use Rattle.definitions.proofs.Lists.Orders.{has_filter}
use Rattle.subset_layers.specs.Layers.{LayerOf, BlockOf, masks_of, blocks_of, block_masks, layer_of, low_byte}
use Rattle.layer_core.specs.Machine.{claimed, claims_block}
use Rattle.layer_core.specs.Instances.{InstanceOf}
use Rattle.layer_board.specs.Views.{BoardId, SeatOf, stepped, has_claimed, knows_filled}
use Rattle.layer_core.specs.Needs.{width_count, widths_for}
use Rattle.layer_core.proofs.Filters.{filter_none}
use Rattle.layer_work.specs.Gains.{gains, gained, StaysClaimed, IsPosted}
use Rattle.layer_work.proofs.Posts.{claimed_same}
use Rattle.layer_core.proofs.BlockPlaces.{block_layer}
use Rattle.layer_work.proofs.ClaimedSets.{ClaimsBlock, claimed_has, same_board, as_before, kept, claim_gains, was_open, open_marks, fewer_open}

pub record Working (t : InstanceOf) (s0 s : SeatOf) (count : ℕ) : Type 0 where
  pub board : s.board ≡ s0.board
  pub kept : (mask : ℕ) → has_claimed s0 mask ≡ true → has_claimed s mask ≡ true
  pub known : (mask : ℕ) → knows_filled s0 mask ≡ true → knows_filled s mask ≡ true
  pub posted : (mask : ℕ) → gains s0 s mask ≡ true → knows_filled s mask ≡ true
  pub tally : count ≡ widths_for t (gained s0 s)

not_gained : (b : Bool) → (b && not b) ≡ false
not_gained true = refl
not_gained false = refl

pub working_none : (t : InstanceOf) (s : SeatOf) → Working t s s 0
unfolding gained widths_for
working_none t s = grind (arith, kept, false≢true, not_gained, filter_none)

-- what is gained is what is claimed
gained_same : (s0 s s' : SeatOf) → ((mask : ℕ) → has_claimed s' mask ≡ has_claimed s mask) → gained s0 s' ≡ gained s0 s
unfolding gained
gained_same s0 s s' e = λ i. filter (λ mask. e mask i && not (has_claimed s0 mask)) (masks_of s0.board.brief.layer)

pub working_stays : (t : InstanceOf) (s0 s s' : SeatOf) (count : ℕ) → StaysClaimed s s' → Working t s0 s count → Working t s0 s' count
working_stays t s0 s s' count h w = grind (arith, claimed_same, kept, gained_same)

-- a claim gives no knowledge of cells
claim_knows : (s s1 : SeatOf) (p mask : ℕ) → s1 ≡ stepped s (claims_block s.worker p) 1 → knows_filled s mask ≡ true → knows_filled s1 mask ≡ true
claim_knows s s1 p mask is e = grind arith

module _ (t : InstanceOf) (s0 s s1 s2 : SeatOf) (count p : ℕ) (b : BlockOf) (w : Working t s0 s count) (h : ClaimsBlock s s1 p b) where
  pub round_gains : widths_for t (gained s0 s1) ≡ count + widths_for t (block_masks b)
  round_gains = claim_gains s s1 p b h t s0 w.board w.kept ∙ ap (λ k. k + widths_for t (block_masks b)) (sym w.tally)

  in_the_block : (mask : ℕ) → has (masks_of s.board.brief.layer) mask ≡ true → nat_eq (low_byte mask) b.low ≡ true → has (block_masks b) mask ≡ true
  unfolding block_masks
  in_the_block mask m y =
      has_filter (λ k. nat_eq (low_byte k) b.low) (masks_of (layer_of b)) mask
      ∙ and_from _ _ (subst (λ (l : LayerOf). has (masks_of l) mask ≡ true) (sym (block_layer s.board.brief.layer p b h.block)) m) y

  pub working_round : StaysClaimed s1 s2 → ((mask : ℕ) → has (block_masks b) mask ≡ true → IsPosted s2 mask) →
      Working t s0 s2 (count + widths_for t (block_masks b))
  working_round stays all =
      let same = claimed_same s1 s2 stays in
      record {
        board = stays.board ∙ same_board s s1 p b h ∙ w.board;
        kept = λ mask e. same mask ∙ kept s s1 p b h mask (claimed_has s mask (w.kept mask e)) (w.kept mask e);
        known = λ mask e. stays.known mask (claim_knows s s1 p mask h.is (w.known mask e));
        posted = posted same;
        tally = sym round_gains ∙ sym (ap (widths_for t) (gained_same s0 s1 s2 same));
      }
    where
      posted : ((mask : ℕ) → has_claimed s2 mask ≡ has_claimed s1 mask) → (mask : ℕ) → gains s0 s2 mask ≡ true → knows_filled s2 mask ≡ true
      posted same mask e =
          let parts = and_parts (has_claimed s2 mask) (not (has_claimed s0 mask)) e in
          let mine : has (masks_of s.board.brief.layer) mask ≡ true =
          subst (λ (z : BoardId). has (masks_of z.brief.layer) mask ≡ true) (stays.board ∙ same_board s s1 p b h)
          (claimed_has s2 mask parts.0) in
          elim (cases_Bool (nat_eq (low_byte mask) b.low)) [
            | inl y ↦ all mask (in_the_block mask mine y) parts.0
            | inr n ↦
                let before : has_claimed s mask ≡ true = sym (as_before s s1 p b h mask mine n) ∙ sym (same mask) ∙ parts.0 in
                stays.known mask (claim_knows s s1 p mask h.is (w.posted mask (and_from _ _ before parts.1)))
          ]

-- what a claim ensures
pub claims_at : (B : BoardId) (s s1 : SeatOf) (p : ℕ) (b : BlockOf) → s.board ≡ B → slice_get (blocks_of B.brief.layer) p ≡ Some b →
    s1 ≡ stepped s (claims_block s.worker p) 1 → claimed s1.worker p ≡ true →
    ((q : ℕ) → claimed s.worker q ≡ true → q < p) → ClaimsBlock s s1 p b
claims_at B s s1 p b board block is there later = search slice_get

-- a round leaves fewer blocks that are not claimed
pub round_closes : (s s1 s2 : SeatOf) (p : ℕ) (b : BlockOf) → ClaimsBlock s s1 p b → StaysClaimed s1 s2 →
    open_marks s2.worker.claims < open_marks s.worker.claims
round_closes s s1 s2 p b h stays =
    subst (λ (xs : List Bool). open_marks xs < open_marks s.worker.claims) (sym (stays.claims ∙ ap (λ (z : SeatOf). z.worker.claims) h.is))
    (fewer_open s.worker.claims p (ap (λ (z : SeatOf). claimed z.worker p) (sym h.is) ∙ h.there) (was_open s s1 p b h))

-- ---- the widths of a block's first sets

pub widths_none : (t : InstanceOf) → widths_for t [] ≡ 0
unfolding widths_for
widths_none t = sum-map (width_count t) []

widths_cons : (t : InstanceOf) (m : ℕ) (ms : List ℕ) → widths_for t (m ∷ ms) ≡ width_count t m + widths_for t ms
unfolding widths_for
widths_cons t m ms = sum-map (width_count t) (m ∷ ms) ∙ sum_by-cons (width_count t) m ms
    ∙ ap (λ (k : ℕ). width_count t m + k) (sym (sum-map (width_count t) ms))

widths_more : (t : InstanceOf) (masks : List ℕ) (i : ℕ) → i < length masks →
    widths_for t (take (suc i) masks) ≡ widths_for t (take i masks) + width_count t (get_or masks i 0)
widths_more t [] i lt = absurd (omega (arith, lt))
widths_more t (m ∷ ms) zero lt = let e = widths_cons t m [] in let z = widths_none t in omega (arith, e, z)
widths_more t (m ∷ ms) (suc i) lt =
    let e = widths_cons t m (take (suc i) ms) in
    let f = widths_cons t m (take i ms) in
    let r = widths_more t ms i (omega (arith, lt)) in
    omega (arith, e, f, r)

widths_part : (t : InstanceOf) (i : ℕ) (masks : List ℕ) → widths_for t (take i masks) ≤ widths_for t masks
widths_part t zero masks = let z = widths_none t in omega (arith, z)
widths_part t (suc i) [] = omega arith
widths_part t (suc i) (m ∷ ms) =
    let e = widths_cons t m (take i ms) in
    let f = widths_cons t m ms in
    let r = widths_part t i ms in
    omega (arith, e, f, r)

pub round_room : (t : InstanceOf) (masks : List ℕ) (i before tally : ℕ) → i < length masks → tally ≡ before + widths_for t (take i masks) →
    before + widths_for t masks ≤ 16 * 2 ^ 16 → tally + width_count t (get_or masks i 0) ≤ 2 ^ 32
round_room t masks i before tally lt e few =
    let m = widths_more t masks i lt in
    let p = widths_part t (suc i) masks in
    omega (arith, m, p, e, few)

pub count_more : (t : InstanceOf) (masks : List ℕ) (i before tally more : ℕ) → i < length masks → tally ≡ before + widths_for t (take i masks) →
    more ≡ tally + width_count t (get_or masks i 0) → more ≡ before + widths_for t (take (i + 1) masks)
count_more t masks i before tally more lt e is =
    let m = widths_more t masks i lt in
    let s = ap (λ (k : ℕ). widths_for t (take k masks)) (let k : suc i ≡ i + 1 = omega arith in k) in
    omega (arith, m, s, e, is)
