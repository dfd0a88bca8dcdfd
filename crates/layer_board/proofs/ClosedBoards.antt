-- What a board ends with.
use Rattle.std.proofs.Common.{◌≡◌, ◌≢◌, ℕ, zero, suc, ◌<◌, ◌≤◌, false, List, [], ◌∷◌, map, get_or, length, Option, Some, None, IfSome, sym, refl, ap, ◌∙◌, subst, arith}
use Rattle.std.proofs.lemmas.List.{length-map}
use Rattle.std.proofs.lemmas.Option.{slice_get_within, get_or_from_slice_get}
use mathlib.Core.Option.{some, some-injective, some-ne-none}
use lib.ListN.{get_elem?}
use Rattle.atomic_table.specs.Table.{Final, Seen}
use Rattle.atomic_table.proofs.Lists.{at_map}
use Rattle.subset_layers.specs.declared.costs.Cell.{Cell}
use Rattle.layer_core.specs.Machine.{Worker, knows, place_of}
use Rattle.layer_core.specs.Rights.{total}
use Rattle.layer_core.proofs.Runs.{cells_are}
use Rattle.layer_board.specs.declared.closed.CloseError.TheVariants.{Missing, OutOfMemory}
use Rattle.layer_core.specs.Instances.{layout_of}
use Rattle.layer_board.specs.Views.{BriefOf, ClosedBoardOf, SeatOf, SeatView, knows_place}
use Rattle.layer_board.specs.Closing.{IsLastState, IsFinalBoard, OneMissesTheLeast}
use Rattle.layer_board.specs.Invariant.{Kept, state_shown, worker_of, cell_words, cell_in}
use Rattle.layer_core.specs.Pairing.{pair_of}
use Rattle.layer_board.specs.Refusals.{SeatsLackWhatIsEmpty}
use Rattle.layer_core.proofs.Layouts.{place_found, length-map_lem}
use Rattle.std.proofs.lemmas.Bool.{false_from_ne_true}

unwrapped : {X : Type 0} → X → Option X → X
unwrapped x None = x
unwrapped x (Some y) = y

rest : {X : Type 0} → List X → List X
rest [] = []
rest (x ∷ xs) = xs

-- lists of cells that all are there
strip : {A B X : Type 0} (f : A → X) (g : B → X) (xs : List A) (ys : List B) → map (λ x. Some (f x)) xs ≡ map (λ y. Some (g y)) ys → map f xs ≡ map g ys
unfolding unwrapped rest
strip f g [] [] e = refl
strip f g [] (y ∷ ys) e = absurd (omega (arith, ap length e))
strip f g (x ∷ xs) [] e = absurd (omega (arith, ap length e))
strip f g (x ∷ xs) (y ∷ ys) e = grind (arith, unwrapped, rest, strip f g xs ys (ap rest e))

some_there : {A X : Type 0} (f : A → X) (xs : List A) (p : ℕ) → p < length xs → get_or (map (λ x. Some (f x)) xs) p None ≢ None
some_there f [] p h = absurd (omega arith)
some_there f (x ∷ xs) zero h = λ e. cc
some_there f (x ∷ xs) (suc p) h = some_there f xs p (omega arith)

-- a list is no longer than a sum of positive numbers over it
no_more : {A : Type 0} (f : A → ℕ) (l : List A) → ((i : ℕ) (v : A) → get_elem? l i ≡ some v → 0 < f v) → length l ≤ total f l
no_more f [] each = omega arith
no_more f (x ∷ xs) each = let here = each 0 x refl in let rest = no_more f xs (λ i v there. each (suc i) v there) in omega (arith, here, rest)

-- all cells, each its mask's
pub all_cells : (cells : List Cell) (f : ℕ → ℕ × ℕ) (masks : List ℕ) (cs : List (Option (ℕ × ℕ))) → length cs ≡ length masks →
    ((p : ℕ) → IfSome (get_or cs p None) (λ c. c ≡ f (get_or masks p 0))) → map (λ c. Some (pair_of c)) cells ≡ cs →
    map pair_of cells ≡ map f masks
all_cells cells f masks cs size right all = grind (arith, length-map_lem, strip, cells_are, some_there)

-- what a board ends with, and what its last seat knows of it
module _ (b : BriefOf) (V : SeatView) (id : ℕ) (ws : List ℕ) (slots : List (Unit {0})) (end : Final (Seen (Kept b) id V) ws slots) where
  kept : Kept b end.0
  kept = end.1.0

  -- each worker has a seat
  few_workers : length (map worker_of end.0.views) ≤ b.workers
  few_workers = grind (arith, length-map, no_more)

  pub is_last : (S : SeatOf) (c : ClosedBoardOf) → S.board.brief ≡ b → S.worker ≡ V.worker → c.brief ≡ b → map cell_in (cell_words ws) ≡ c.cells →
      IsFinalBoard S c
  is_last S c same worker brief cells = record {
    brief = brief ∙ sym same;
    last = state_shown b.layer end.0.words end.0.views;
    is_last = subst (λ (z : BriefOf × Worker). IsLastState z.0 z.1 (state_shown b.layer end.0.words end.0.views)) (λ i. (sym brief i, sym worker i)) record {
      right = kept.right;
      layout = refl;
      few = few_workers;
      seat = id;
      has = at_map worker_of end.0.views id V end.1.1;
    };
    cells = ap (λ (z : List ℕ). map cell_in (cell_words z)) end.2 ∙ cells;
  }

-- an empty cell is none that the seat knows to be filled
pub lacking : SeatsLackWhatIsEmpty
lacking seat c OutOfMemory l e = tt
lacking seat c (Missing mask) l e = record {
  unknown = subst (λ (z : BriefOf). knows_place seat.worker (place_of (layout_of z.layer) mask) ≡ false) l.brief
      (ap (knows_place seat.worker) (place_found c.brief.layer e.place mask e.is)
      ∙ false_from_ne_true (knows seat.worker e.place)
      (λ known. l.is_last.right.known l.is_last.seat seat.worker l.is_last.has e.place known
      (ap (λ (z : List (Option (ℕ × ℕ))). get_or z e.place None) l.cells ∙ e.empty)));
  last = c;
  is_last = l;
  least = e;
}

-- an element of a list of at most one
only : {A : Type 0} (l : List A) (i : ℕ) (v : A) → length l ≤ 1 → get_elem? l i ≡ some v → get_elem? l 0 ≡ some v
only [] i v few there = absurd (some-ne-none v (sym there))
only (x ∷ xs) zero v few there = there
only (x ∷ []) (suc i) v few there = absurd (some-ne-none v (sym there))
only (x ∷ y ∷ xs) (suc i) v few there = absurd (omega (arith, few))

-- on a board of one worker the least missing mask is the least that the seat does not know to be filled
pub one_misses : OneMissesTheLeast
one_misses seat mask one m = grind (arith, slice_get_within, get_or_from_slice_get, false_from_ne_true, some-injective, only)
