use Rattle.std.proofs.Common.{◌≡◌, ℕ, ◌+◌, Bool, true, false, sym, ap, ◌∙◌, refl, subst, arith}
use Rattle.std.proofs.lemmas.Option.{slice_get_within}
use Rattle.subset_layers.specs.Layers.{masks_of}
use Rattle.layer_board.specs.declared.seats.BoardSeat.TheInside.{Inside}
use Rattle.layer_board.specs.Views.{knows_filled, has_claimed, learned}
use Rattle.layer_board.specs.Invariant.{cell_in}
use Rattle.layer_board.specs.Held.{seat_shown}
use Rattle.layer_core.proofs.Layouts.{missing_if}
use Rattle.layer_board.proofs.Words.{word_back}
use Rattle.layer_board.proofs.Rule.{may_post_at, posted_at}
use Rattle.layer_board.proofs.SeatSteps.{same_table, missing_unclaimed, low, has_word, claimed_there, known_there, marked, claims_long, cell_there, after_learning, knows_after, after_looking, still_known, still_there}
use Rattle.layer_board.proofs.boards.Board.post.Goals as goal

false_true : (b : Bool) → b ≡ false → b ≡ true → ⊥
false_true true p q = cc
false_true false p q = cc

pub returns-in_default-clause-refused : goal.returns-in_default-clause-refused
returns-in_default-clause-refused c = grind (arith, missing_unclaimed, missing_if)

pub returns-in_default-clause-known : goal.returns-in_default-clause-known
returns-in_default-clause-known c = grind (arith, false_true, missing_unclaimed, missing_if)

pub block_place-requires : goal.block_place-requires
block_place-requires c = slice_get_within (masks_of c.self.inside.layer) c.in-Some.place c.mask.result c.in-Some.ensures.found

pub index-requires : goal.index-requires
index-requires c = grind (arith, claims_long)

pub returns-then-not-index-clause-refused : goal.returns-then-not-index-clause-refused
returns-then-not-index-clause-refused c =
    let b = c.self.inside in let s = c.seat.inside in let is = c.in-Some.ensures.found in
    let unmarked =
    marked b s c.args.self.now c.args.seat.now c.self.invariant c.seat.invariant c.self.view_is c.seat.view_is c.requires.board
    c.mask.result c.in-Some.place is c.block_place.result c.index.result.now false c.block_place.ensures.place
    c.block_place.ensures.below c.index.ensures c.if-not-index.true in (
      ap (has_claimed c.args.seat.now) (sym c.mask.ensures)
          ∙ (claimed_there b s c.args.self.now c.args.seat.now c.self.invariant c.seat.invariant c.self.view_is c.seat.view_is
          c.requires.board c.mask.result c.in-Some.place is
          ∙ unmarked),
      refl,
    )

pub returns-then-not-index-clause-known : goal.returns-then-not-index-clause-known
returns-then-not-index-clause-known c =
    let b = c.self.inside in let s = c.seat.inside in let is = c.in-Some.ensures.found in
    let unmarked =
    marked b s c.args.self.now c.args.seat.now c.self.invariant c.seat.invariant c.self.view_is c.seat.view_is c.requires.board
    c.mask.result c.in-Some.place is c.block_place.result c.index.result.now false c.block_place.ensures.place
    c.block_place.ensures.below c.index.ensures c.if-not-index.true in
    λ claimed. absurd
    (false_true (has_claimed c.args.seat.now c.args.cell.mask)
    (ap (has_claimed c.args.seat.now) (sym c.mask.ensures)
    ∙ (claimed_there b s c.args.self.now c.args.seat.now c.self.invariant c.seat.invariant c.self.view_is c.seat.view_is
    c.requires.board c.mask.result c.in-Some.place is
    ∙ unmarked))
    claimed)

pub overflow_add-place : goal.overflow_add-place
overflow_add-place c = grind (arith, slice_get_within)

pub compare_exchange-found-requires : goal.compare_exchange-found-requires
compare_exchange-found-requires c =
    let b = c.self.inside in let s = c.seat.inside in let is = c.in-Some.ensures.found in
    let mine = marked b s c.args.self.now c.args.seat.now c.self.invariant c.seat.invariant c.self.view_is c.seat.view_is c.requires.board
    c.mask.result c.in-Some.place is c.block_place.result c.index.result.now true c.block_place.ensures.place
    c.block_place.ensures.below c.index.ensures c.if-not-index.false in (
      same_table b s c.args.self.now c.args.seat.now c.self.invariant c.seat.invariant c.self.view_is c.seat.view_is c.requires.board,
      has_word b s c.args.self.now c.args.seat.now c.self.invariant c.seat.invariant c.self.view_is c.seat.view_is c.requires.board
          c.mask.result c.in-Some.place is,
      may_post_at _ _ _ _ (c.in-Some.place + 1) c.in-Some.place c.word_of_cell-word.result c.args.cell.cell refl
          (low b s c.args.self.now c.args.seat.now c.self.invariant c.seat.invariant c.self.view_is c.seat.view_is c.requires.board
          c.mask.result c.in-Some.place is)
          mine c.word_of_cell-word.ensures.cell
          (ap cell_in c.word_of_cell-word.ensures.word ∙ word_back c.args.cell.cell c.word_of_cell-word.ensures.variable)
          (cell_there b s c.args.self.now c.args.seat.now c.self.invariant c.seat.invariant c.self.view_is c.seat.view_is c.requires.board
          c.mask.result c.in-Some.place is c.args.cell c.word_of_cell-word.ensures.right c.requires.instance (sym c.mask.ensures)),
    )

pub returns-then-found-eq0-clause-claimed : goal.returns-then-found-eq0-clause-claimed
returns-then-found-eq0-clause-claimed c =
    let b = c.self.inside in let s = c.seat.inside in let is = c.in-Some.ensures.found in
    let mine = marked b s c.args.self.now c.args.seat.now c.self.invariant c.seat.invariant c.self.view_is c.seat.view_is c.requires.board
    c.mask.result c.in-Some.place is c.block_place.result c.index.result.now true c.block_place.ensures.place
    c.block_place.ensures.below c.index.ensures c.if-not-index.false in
    ap (has_claimed c.args.seat.now) (sym c.mask.ensures)
    ∙ (claimed_there b s c.args.self.now c.args.seat.now c.self.invariant c.seat.invariant c.self.view_is c.seat.view_is
    c.requires.board c.mask.result c.in-Some.place is ∙ mine)

pub returns-then-found-eq0-clause-filled : goal.returns-then-found-eq0-clause-filled
returns-then-found-eq0-clause-filled c =
    let b = c.self.inside in let s = c.seat.inside in let is = c.in-Some.ensures.found in
    let new : Inside = record { seat = c.compare_exchange-found.new.seat; claims = s.claims; ended = s.ended } in
    let e = c.compare_exchange-found.ensures in
    let ended = posted_at b.table.shared.table_id.slots c.in-Some.place 0 c.word_of_cell-word.result c.compare_exchange-found.result
    s.seat.me c.compare_exchange-found.new.seat.me e.2 in
    after_learning b s c.args.self.now c.args.seat.now c.self.invariant c.seat.invariant c.self.view_is c.seat.view_is c.requires.board
    c.mask.result c.in-Some.place is new 1 e.0 (ended.0 c.if-found-eq0.true)
    ∙ ap (λ (m : ℕ). learned c.args.seat.now m 1) c.mask.ensures

pub returns-then-found-eq0-clause-known : goal.returns-then-found-eq0-clause-known
returns-then-found-eq0-clause-known c =
    let b = c.self.inside in let s = c.seat.inside in let is = c.in-Some.ensures.found in
    let new : Inside = record { seat = c.compare_exchange-found.new.seat; claims = s.claims; ended = s.ended } in
    let e = c.compare_exchange-found.ensures in
    let ended = posted_at b.table.shared.table_id.slots c.in-Some.place 0 c.word_of_cell-word.result c.compare_exchange-found.result
    s.seat.me c.compare_exchange-found.new.seat.me e.2 in
    λ _. subst (λ (m : ℕ). knows_filled (seat_shown new) m ≡ true) c.mask.ensures
    (knows_after b s c.args.self.now c.args.seat.now c.self.invariant c.seat.invariant c.self.view_is c.seat.view_is c.requires.board
    c.mask.result c.in-Some.place is new 1 e.0 (ended.0 c.if-found-eq0.true))

pub returns-clause-refused : goal.returns-clause-refused
returns-clause-refused c =
    let b = c.self.inside in let s = c.seat.inside in let is = c.in-Some.ensures.found in
    let mine = marked b s c.args.self.now c.args.seat.now c.self.invariant c.seat.invariant c.self.view_is c.seat.view_is c.requires.board
    c.mask.result c.in-Some.place is c.block_place.result c.index.result.now true c.block_place.ensures.place
    c.block_place.ensures.below c.index.ensures c.if-not-index.false in
    let new : Inside = record { seat = c.compare_exchange-found.new.seat; claims = s.claims; ended = s.ended } in
    let e = c.compare_exchange-found.ensures in
    let ended = posted_at b.table.shared.table_id.slots c.in-Some.place 0 c.word_of_cell-word.result c.compare_exchange-found.result
    s.seat.me c.compare_exchange-found.new.seat.me e.2 in
    let full = ended.1 c.if-found-eq0.false in (
      ap (has_claimed c.args.seat.now) (sym c.mask.ensures)
          ∙ (claimed_there b s c.args.self.now c.args.seat.now c.self.invariant c.seat.invariant c.self.view_is c.seat.view_is
          c.requires.board c.mask.result c.in-Some.place is
          ∙ mine),
      ap (knows_filled c.args.seat.now) (sym c.mask.ensures)
          ∙ (known_there b s c.args.self.now c.args.seat.now c.self.invariant c.seat.invariant c.self.view_is c.seat.view_is
          c.requires.board c.mask.result c.in-Some.place is
          ∙ full.1),
      after_looking b s c.args.self.now c.args.seat.now c.self.invariant c.seat.invariant c.self.view_is c.seat.view_is c.requires.board
          c.mask.result c.in-Some.place is new 0 e.0 full.0,
    )

pub returns-clause-known : goal.returns-clause-known
returns-clause-known c =
    let b = c.self.inside in let s = c.seat.inside in let is = c.in-Some.ensures.found in
    let new : Inside = record { seat = c.compare_exchange-found.new.seat; claims = s.claims; ended = s.ended } in
    let e = c.compare_exchange-found.ensures in
    let ended = posted_at b.table.shared.table_id.slots c.in-Some.place 0 c.word_of_cell-word.result c.compare_exchange-found.result
    s.seat.me c.compare_exchange-found.new.seat.me e.2 in
    let full = ended.1 c.if-found-eq0.false in
    λ _. subst (λ (m : ℕ). knows_filled (seat_shown new) m ≡ true) c.mask.ensures
    (still_known b s c.args.self.now c.args.seat.now c.self.invariant c.seat.invariant c.self.view_is c.seat.view_is c.requires.board
    c.mask.result c.in-Some.place is new 0 e.0 full.0 full.1)

pub returns-then-found-eq0-clause-board : goal.returns-then-found-eq0-clause-board
returns-then-found-eq0-clause-board c = grind (arith, posted_at, still_there)

pub returns-clause-board : goal.returns-clause-board
returns-clause-board c = grind (arith, posted_at, still_there)
