-- A seat at its board, and after a step.
use Rattle.std.proofs.Common.{◌≡◌, ℕ, ◌+◌, ◌<◌, Bool, true, false, List, get_or, length, get_or-set_same, Option, Some, None, slice_get, sym, ap, ◌∙◌, subst, arith}
use Rattle.std.proofs.lemmas.Option.{slice_get_within, get_or_from_slice_get}
use Rattle.subset_layers.specs.Layers.{LayerOf, masks_of, blocks_of, block_place}
use Rattle.layer_core.specs.Machine.{Worker, place_of, learns, claimed, knows}
use Rattle.layer_board.specs.declared.boards.Board.TheInside as board
use Rattle.layer_board.specs.declared.seats.BoardSeat.TheInside as seat
use Rattle.layer_core.specs.Instances.{ResultOf, layout_of, cell_for}
use Rattle.layer_board.specs.Views.{BriefOf, BoardId, SeatOf, after, stepped, claims_place, knows_place, learns_place, has_claimed, knows_filled, learned, found_empty, found_empty_at}
use Rattle.layer_board.specs.Held.{board_shown, seat_shown, view_of, IsBoard, IsBoardSeat}
use Rattle.layer_core.proofs.Layouts.{place_found, block_at}
use Rattle.layer_core.proofs.CoreSteps.{mark_at}

-- a seat after a step, from its new view
pub shown_after : (s s' : seat.Inside) (w : Worker) (wrote : ℕ) → s'.seat.table_id ≡ s.seat.table_id →
    s'.seat.me ≡ (after (view_of s) w wrote, s.seat.me.1) → seat_shown s' ≡ stepped (seat_shown s) w wrote
shown_after s s' w wrote table me = grind arith

-- a mask that is not in the layer
module _ (b : board.Inside) (B : BoardId) (S : SeatOf) (kept : IsBoard b) (bv : board_shown b ≡ B) (fits : S.board ≡ B) (mask : ℕ)
    (missing : place_of (layout_of b.layer) mask ≡ None) where
  gone : place_of (layout_of S.board.brief.layer) mask ≡ None
  gone = subst (λ (l : LayerOf). place_of (layout_of l) mask ≡ None)
      (kept.layer ∙ (ap (λ (z : BoardId). z.brief.layer) bv ∙ ap (λ (z : BoardId). z.brief.layer) (sym fits))) missing

  pub missing_unclaimed : has_claimed S mask ≡ false
  missing_unclaimed = ap (claims_place S.board.brief.layer S.worker) gone

  pub missing_unknown : knows_filled S mask ≡ false
  missing_unknown = ap (knows_place S.worker) gone

  pub missing_empty : S ≡ found_empty S mask
  missing_empty = sym (ap (found_empty_at S) gone)

module _ (b : board.Inside) (s : seat.Inside) (B : BoardId) (S : SeatOf) (kept : IsBoard b) (held : IsBoardSeat s) (bv : board_shown b ≡ B)
    (sv : seat_shown s ≡ S) (fits : S.board ≡ B) where
  same_board : (seat_shown s).board ≡ board_shown b
  same_board = ap (λ (z : SeatOf). z.board) sv ∙ (fits ∙ sym bv)

  pub same_table : s.seat.table_id ≡ b.table.shared.table_id
  same_table = ap (λ (z : BoardId). z.table) same_board

  pub same_brief : (view_of s).brief ≡ b.table.shared.key
  same_brief = ap (λ (z : BoardId). z.brief) same_board

  pub same_layer : (view_of s).brief.layer ≡ b.layer
  same_layer = ap (λ (z : BriefOf). z.layer) same_brief ∙ sym kept.layer

  pub same_blocks : length (blocks_of (view_of s).brief.layer) ≡ length (blocks_of b.layer)
  same_blocks = ap (λ (l : LayerOf). length (blocks_of l)) same_layer

  -- the seat's board stays
  pub still_there : (s' : seat.Inside) (w : Worker) (wrote : ℕ) → s'.seat.table_id ≡ s.seat.table_id →
      s'.seat.me ≡ (after (view_of s) w wrote, s.seat.me.1) → (seat_shown s').board ≡ B
  still_there s' w wrote table me = ap (λ (z : SeatOf). z.board) (shown_after s s' w wrote table me) ∙ (same_board ∙ bv)

  -- what the board's cells are for
  pub seen_instance : (view_of s).brief.instance ≡ B.brief.instance
  seen_instance = ap (λ (z : BriefOf). z.instance) same_brief ∙ ap (λ (z : BoardId). z.brief.instance) bv

  abbrev L : LayerOf
  L = (view_of s).brief.layer

  abbrev W : Worker
  W = (view_of s).worker

  -- a mask at its place
  module _ (mask p : ℕ) (is : slice_get (masks_of b.layer) p ≡ Some mask) where
    is' : slice_get (masks_of L) p ≡ Some mask
    is' = subst (λ (l : LayerOf). slice_get (masks_of l) p ≡ Some mask) (sym same_layer) is

    there : place_of (layout_of L) mask ≡ Some p
    there = place_found L p mask is'

    pub low : p < length (masks_of L)
    low = slice_get_within (masks_of L) p mask is'

    pub has_word : p + 1 < b.table.shared.table_id.words
    has_word = omega (arith, kept.words, slice_get_within (masks_of b.layer) p mask is)

    pub mask_there : get_or (masks_of L) p 0 ≡ mask
    mask_there = get_or_from_slice_get (masks_of L) p mask 0 is'

    pub claimed_there : has_claimed S mask ≡ claimed W (get_or (layout_of L).block_of p 0)
    claimed_there = subst (λ (z : SeatOf). has_claimed z mask ≡ claimed W (get_or (layout_of L).block_of p 0)) sv (ap (claims_place L W) there)

    pub known_there : knows_filled S mask ≡ knows W p
    known_there = subst (λ (z : SeatOf). knows_filled z mask ≡ knows W p) sv (ap (knows_place W) there)

    -- the seat's mark of the mask's block
    pub marked : (block : ℕ) (r t : Bool) → block ≡ block_place b.layer p → block < length (blocks_of b.layer) →
        r ≡ get_or s.claims.items block r → r ≡ t → claimed W (get_or (layout_of L).block_of p 0) ≡ t
    marked block r t same under read value =
        subst (λ (l : List Bool). get_or l (get_or (layout_of L).block_of p 0) false ≡ t) held.claims
        (mark_at s.claims.items (get_or (layout_of L).block_of p 0) block r t (block_at L p low ∙ (ap (λ (l : LayerOf). block_place l p) same_layer ∙ sym same))
        (subst (λ (l : List Bool). block < length l) (sym held.claims) (omega (arith, held.claims_wide, same_blocks, under))) read value)

    pub claims_long : (block : ℕ) → block < length (blocks_of b.layer) → block < length s.claims.items
    claims_long block under = subst (λ (l : List Bool). block < length l) (sym held.claims) (omega (arith, held.claims_wide, same_blocks, under))

    -- the posted cell is the one of the mask
    pub cell_there : (r : ResultOf) → r.cell ≡ cell_for r.instance r.mask → r.instance ≡ B.brief.instance → r.mask ≡ mask →
        r.cell ≡ cell_for (view_of s).brief.instance (get_or (masks_of L) p 0)
    cell_there r right same_instance same_mask = right ∙ λ i. cell_for ((same_instance ∙ sym seen_instance) i) ((same_mask ∙ sym mask_there) i)

    module _ (s' : seat.Inside) (wrote : ℕ) (table : s'.seat.table_id ≡ s.seat.table_id) where
      -- the seat learned that the cell is filled
      pub after_learning : s'.seat.me ≡ (after (view_of s) (learns W p) wrote, s.seat.me.1) → seat_shown s' ≡ learned S mask wrote
      after_learning me = shown_after s s' (learns W p) wrote table me
          ∙ subst (λ (z : SeatOf). stepped (seat_shown s) (learns W p) wrote ≡ learned z mask wrote) sv
          (ap (λ (o : Option ℕ). stepped (seat_shown s) (learns_place W o) wrote) (sym there))

      pub knows_after : s'.seat.me ≡ (after (view_of s) (learns W p) wrote, s.seat.me.1) → knows_filled (seat_shown s') mask ≡ true
      knows_after me = subst (λ (z : SeatOf). knows_filled z mask ≡ true) (sym (shown_after s s' (learns W p) wrote table me))
          (ap (knows_place (learns W p)) there ∙ get_or-set_same W.known p true false (omega (arith, held.known_wide, low)))

      -- the seat took a step and learned nothing
      pub after_looking : s'.seat.me ≡ (after (view_of s) W 0, s.seat.me.1) → seat_shown s' ≡ stepped S S.worker 0
      after_looking me = shown_after s s' W 0 table me ∙ ap (λ (z : SeatOf). stepped z z.worker 0) sv

      pub after_none : s'.seat.me ≡ (after (view_of s) W 0, s.seat.me.1) → seat_shown s' ≡ found_empty S mask
      after_none me = shown_after s s' W 0 table me
          ∙ subst (λ (z : SeatOf). stepped (seat_shown s) W 0 ≡ found_empty z mask) sv (sym (ap (found_empty_at (seat_shown s)) there))

      pub still_known : s'.seat.me ≡ (after (view_of s) W 0, s.seat.me.1) → knows W p ≡ true → knows_filled (seat_shown s') mask ≡ true
      still_known me known = subst (λ (z : SeatOf). knows_filled z mask ≡ true) (sym (shown_after s s' W 0 table me)) (ap (knows_place W) there ∙ known)
