use Rattle.std.proofs.Common.{◌≡◌, ℕ, ◌+◌, List, Option, Some, None, map, get_or, ◌∙◌, sym, ap, subst}
use Rattle.std.specs.Slots.{slots_items}
use mathlib.Core.Option.{some}
use lib.ListN.{get_elem?}
use Rattle.layer_board.specs.Views.{ClosedBoardOf}
use Rattle.layer_board.specs.Invariant.{IsCellWord, cell_in, cell_words}
use Rattle.layer_board.proofs.Words.{cell_found, cell_shown, full_word, empty_word}
use Rattle.layer_board.proofs.closed.ClosedBoard.cell_at.Goals as goal

-- what a word shows of its mask's cell
shown : (ws : List ℕ) (c : ClosedBoardOf) (p n : ℕ) → map cell_in (cell_words ws) ≡ c.cells → get_elem? ws (p + 1) ≡ some n → get_or c.cells p None ≡ cell_in n
shown ws c p n is found =
    ap (λ (z : List (Option (ℕ × ℕ))). get_or z p None) (sym is) ∙ (cell_shown (cell_words ws) p ∙ ap cell_in (sym (cell_found ws p n found)))

pub returns-then-word-eq0-clause-none : goal.returns-then-word-eq0-clause-none
returns-then-word-eq0-clause-none c =
    shown (slots_items c.self.inside.closed.words) c.args.self.now c.args.place c.word-word.result (ap (λ (z : ClosedBoardOf). z.cells) c.self.view_is)
    c.word-word.ensures
    ∙ empty_word c.word-word.result c.if-word-eq0.true

pub cell_of_word-requires : goal.cell_of_word-requires
cell_of_word-requires c =
    let found = cell_found (slots_items c.self.inside.closed.words) c.args.place c.word-word.result c.word-word.ensures in
    subst IsCellWord (sym found) (c.self.invariant.words c.args.place (λ e. c.if-word-eq0.false (found ∙ e)))

pub returns-clause-some : goal.returns-clause-some
returns-clause-some c =
    shown (slots_items c.self.inside.closed.words) c.args.self.now c.args.place c.word-word.result (ap (λ (z : ClosedBoardOf). z.cells) c.self.view_is)
    c.word-word.ensures
    ∙ (full_word c.word-word.result c.if-word-eq0.false ∙ ap (λ (z : ℕ × ℕ). Some z) (sym c.cell_of_word.ensures))
