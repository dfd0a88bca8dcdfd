use Rattle.std.proofs.Common.{◌+◌, refl, arith}
use Rattle.std.proofs.lemmas.Option.{slice_get_within}
use Rattle.subset_layers.specs.Layers.{masks_of}
use Rattle.layer_board.specs.declared.seats.BoardSeat.TheInside.{Inside}
use Rattle.layer_core.proofs.Layouts.{missing_if}
use Rattle.layer_board.proofs.Rule.{may_read_at, read_at}
use Rattle.layer_board.proofs.SeatSteps.{same_table, seen_instance, missing_unknown, missing_empty, has_word, mask_there, known_there, after_learning, knows_after, after_none, still_there}
use Rattle.layer_board.proofs.boards.Board.read.Goals as goal

pub returns-in_default-clause-unknown : goal.returns-in_default-clause-unknown
returns-in_default-clause-unknown c = λ _. missing_unknown c.self.inside c.args.self.now c.args.seat.now c.self.invariant c.self.view_is c.requires c.args.mask
    (missing_if c.self.inside.layer c.args.mask c.position.result c.in_default.is c.position.ensures.none)

pub returns-in_default-clause-empty : goal.returns-in_default-clause-empty
returns-in_default-clause-empty c = λ _. missing_empty c.self.inside c.args.self.now c.args.seat.now c.self.invariant c.self.view_is c.requires c.args.mask
    (missing_if c.self.inside.layer c.args.mask c.position.result c.in_default.is c.position.ensures.none)

pub overflow_add-place : goal.overflow_add-place
overflow_add-place c = omega (arith, c.self.invariant.few, slice_get_within (masks_of c.self.inside.layer) c.in-Some.place c.args.mask c.in-Some.ensures.found)

pub load-found-requires : goal.load-found-requires
load-found-requires c =
    let b = c.self.inside in let s = c.seat.inside in let is = c.in-Some.ensures.found in (
      same_table b s c.args.self.now c.args.seat.now c.self.invariant c.seat.invariant c.self.view_is c.seat.view_is c.requires,
      has_word b s c.args.self.now c.args.seat.now c.self.invariant c.seat.invariant c.self.view_is c.seat.view_is c.requires c.args.mask c.in-Some.place is,
      may_read_at _ _ _ _ (c.in-Some.place + 1) c.in-Some.place refl,
    )

pub cell_of_word-requires : goal.cell_of_word-requires
cell_of_word-requires c = (c.load-found.ensures.2.1 c.if-found-eq0.false).1

pub returns-then-found-eq0-clause-unknown : goal.returns-then-found-eq0-clause-unknown
returns-then-found-eq0-clause-unknown c = grind (arith, read_at, known_there)

pub returns-then-found-eq0-clause-empty : goal.returns-then-found-eq0-clause-empty
returns-then-found-eq0-clause-empty c =
    let b = c.self.inside in let s = c.seat.inside in let is = c.in-Some.ensures.found in
    let new : Inside = record { seat = c.load-found.new.seat; claims = s.claims; ended = s.ended } in let e = c.load-found.ensures in
    let ended = read_at b.table.shared.table_id.slots c.in-Some.place 0 0 c.load-found.result s.seat.me c.load-found.new.seat.me e.2 in
    λ _. after_none b s c.args.self.now c.args.seat.now c.self.invariant c.seat.invariant c.self.view_is c.seat.view_is c.requires
    c.args.mask c.in-Some.place is new 0 e.0 (ended.0 c.if-found-eq0.true).0

pub returns-clause-cell : goal.returns-clause-cell
returns-clause-cell c = grind (arith, read_at, seen_instance, mask_there)

pub returns-clause-learned : goal.returns-clause-learned
returns-clause-learned c =
    let b = c.self.inside in let s = c.seat.inside in let is = c.in-Some.ensures.found in
    let new : Inside = record { seat = c.load-found.new.seat; claims = s.claims; ended = s.ended } in let e = c.load-found.ensures in
    let ended = read_at b.table.shared.table_id.slots c.in-Some.place 0 0 c.load-found.result s.seat.me c.load-found.new.seat.me e.2 in
    after_learning b s c.args.self.now c.args.seat.now c.self.invariant c.seat.invariant c.self.view_is c.seat.view_is c.requires
    c.args.mask c.in-Some.place is new 0 e.0 (ended.1 c.if-found-eq0.false).0

pub returns-clause-known : goal.returns-clause-known
returns-clause-known c =
    let b = c.self.inside in let s = c.seat.inside in let is = c.in-Some.ensures.found in
    let new : Inside = record { seat = c.load-found.new.seat; claims = s.claims; ended = s.ended } in let e = c.load-found.ensures in
    let ended = read_at b.table.shared.table_id.slots c.in-Some.place 0 0 c.load-found.result s.seat.me c.load-found.new.seat.me e.2 in
    knows_after b s c.args.self.now c.args.seat.now c.self.invariant c.seat.invariant c.self.view_is c.seat.view_is c.requires c.args.mask
    c.in-Some.place is new 0 e.0 (ended.1 c.if-found-eq0.false).0

pub returns-then-found-eq0-clause-board : goal.returns-then-found-eq0-clause-board
returns-then-found-eq0-clause-board c = grind (arith, read_at, still_there)

pub returns-clause-board : goal.returns-clause-board
returns-clause-board c = grind (arith, read_at, still_there)
