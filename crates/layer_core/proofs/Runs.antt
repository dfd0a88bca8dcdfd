-- Any list of events keeps a state right, and what follows of a right state.
use Rattle.std.proofs.Common.{◌≡◌, ◌≢◌, ℕ, suc, ◌<◌, Bool, true, false, nat_lt, if◌then◌else◌, List, [], ◌∷◌, map, get_or, length, length-set, Option, Some, None, IfSome, sym, refl, ap, ◌∙◌, subst, arith}
use mathlib.Core.Option as found
use mathlib.Core.Option.{some}
use lib.ListN.{get_elem?}
use Rattle.std.proofs.lemmas.List.Quantifiers.{position-Some}
use Rattle.layer_core.specs.Machine.{World, Worker, Layout, Event, Claim, Post, Read, Reply, opening, place_of, cell_at, claimed, claim, fill, post, look, read, step, run, learns, moved}
use Rattle.layer_core.specs.Rights.{Right, IsLayout, Posts}
use Rattle.layer_core.proofs.Steps.{Cell, some_cell, right_drawn, right_ended, right_learned, right_filled}
use Rattle.layer_core.proofs.Starts.{right_opening}

either_way : (P : Reply × World → Type 0) (b : Bool) (x y : Reply × World) → (b ≡ true → P x) → (b ≡ false → P y) → P (if b then x else y)
either_way P true x y hit miss = hit refl
either_way P false x y hit miss = miss refl

-- a mask that has a place stands there
pub placed_mask : (l : Layout) (mask p : ℕ) → place_of l mask ≡ Some p → (p < length l.masks) × (get_or l.masks p 0 ≡ mask)
placed_mask l mask p e = grind (arith, position-Some)

module _ (C : ℕ → ℕ × ℕ → Type 0) where
  abbrev Ends : Reply × World → Type 0
  Ends x = Right C x.1

  pub right_claim : (s : World) (i : ℕ) (o : found.Option Worker) → Right C s → get_elem? s.workers i ≡ o → Right C (claim s i o).1
  right_claim s i found.none r at = r
  right_claim s i (found.some w) r at =
      either_way Ends w.ended _ _ (λ t. r)
      (λ t. either_way Ends (nat_lt s.counter s.layout.blocks) _ _ (λ e. right_drawn C s i w r at (grind arith))
      (λ e. right_ended C s i w r at t (grind arith)))

  right_fill : (s : World) (i p : ℕ) (cell : ℕ × ℕ) (w : Worker) (o : Cell) → Right C s → get_elem? s.workers i ≡ some w →
      p < length s.layout.masks → claimed w (get_or s.layout.block_of p 0) ≡ true → C (get_or s.layout.masks p 0) cell
      → Right C (fill s i p cell w o).1
  right_fill s i p cell w None r at low mine true_c = right_filled C s i w p cell r at low mine true_c
  right_fill s i p cell w (Some old) r at low mine true_c = r

  pub right_post : (s : World) (i mask : ℕ) (cell : ℕ × ℕ) (place : Option ℕ) (o : found.Option Worker) → Right C s → C mask cell →
      place_of s.layout mask ≡ place → get_elem? s.workers i ≡ o → Right C (post s i cell place o).1
  right_post s i mask cell place found.none r true_c there at = r
  right_post s i mask cell None (found.some w) r true_c there at = r
  right_post s i mask cell (Some p) (found.some w) r true_c there at = let here = placed_mask s.layout mask p there in
      either_way Ends (claimed w (get_or s.layout.block_of p 0)) _ _
      (λ mine. right_fill s i p cell w (cell_at s p) r at here.0 mine (subst (λ (m : ℕ). C m cell) (sym here.1) true_c)) (λ e. r)

  right_look : (s : World) (i p : ℕ) (w : Worker) (o : Cell) → Right C s → get_elem? s.workers i ≡ some w → cell_at s p ≡ o → Right C (look s i p w o).1
  right_look s i p w None r at is = r
  right_look s i p w (Some cell) r at is = right_learned C s i w p r at (λ e. some_cell cell (sym is ∙ e))

  pub right_read : (s : World) (i : ℕ) (place : Option ℕ) (o : found.Option Worker) → Right C s → get_elem? s.workers i ≡ o → Right C (read s i place o).1
  right_read s i place found.none r at = r
  right_read s i None (found.some w) r at = r
  right_read s i (Some p) (found.some w) r at = right_look s i p w (cell_at s p) r at refl

  pub right_step : (s : World) (e : Event) → Right C s → Posts C (e ∷ []) → Right C (step s e).1
  right_step s (Claim i) r posts = right_claim s i (get_elem? s.workers i) r refl
  right_step s (Post i mask cell) r posts = right_post s i mask cell (place_of s.layout mask) (get_elem? s.workers i) r posts.0 refl refl
  right_step s (Read i mask) r posts = right_read s i (place_of s.layout mask) (get_elem? s.workers i) r refl

  right_run : (s : World) (events : List Event) → Right C s → Posts C events → Right C (run s events)
  right_run s [] r posts = r
  right_run s (Claim i ∷ es) r posts = right_run (step s (Claim i)).1 es (right_step s (Claim i) r tt) posts
  right_run s (Post i mask cell ∷ es) r posts = right_run (step s (Post i mask cell)).1 es (right_step s (Post i mask cell) r (posts.0, tt)) posts.1
  right_run s (Read i mask ∷ es) r posts = right_run (step s (Read i mask)).1 es (right_step s (Read i mask) r tt) posts

  pub right_after : (l : Layout) (workers : ℕ) (events : List Event) → IsLayout l → Posts C events → Right C (run (opening l workers) events)
  right_after l workers events laid posts = right_run (opening l workers) events (right_opening C l workers laid) posts

-- what holds of a state and of each state after a move holds after a step
module _ (P : World → Type 0) (s : World) (old : P s) (next : (counter : ℕ) (cells : List Cell) (i : ℕ) (w : Worker) → P (moved s counter cells i w)) where
  of_claim : (i : ℕ) (o : found.Option Worker) → P (claim s i o).1
  of_claim i o = grind arith

  of_post : (i : ℕ) (cell : ℕ × ℕ) (place : Option ℕ) (o : found.Option Worker) → P (post s i cell place o).1
  of_post i cell place o = grind arith

  of_look : (i p : ℕ) (w : Worker) (o : Cell) → P (look s i p w o).1
  of_look i p w None = old
  of_look i p w (Some cell) = next s.counter s.cells i (learns w p)

  of_read : (i : ℕ) (place : Option ℕ) (o : found.Option Worker) → P (read s i place o).1
  of_read i place found.none = old
  of_read i None (found.some w) = old
  of_read i (Some p) (found.some w) = of_look i p w (cell_at s p)

  step_keeps : (e : Event) → P (step s e).1
  step_keeps (Claim i) = of_claim i (get_elem? s.workers i)
  step_keeps (Post i mask cell) = of_post i cell (place_of s.layout mask) (get_elem? s.workers i)
  step_keeps (Read i mask) = of_read i (place_of s.layout mask) (get_elem? s.workers i)

-- the layout never changes
same_layout : (s : World) (e : Event) → (step s e).1.layout ≡ s.layout
same_layout s e = step_keeps (λ z. z.layout ≡ s.layout) s refl (λ counter cells i w. refl) e

-- the workers stay as many
pub same_workers : (s : World) (e : Event) → length (step s e).1.workers ≡ length s.workers
same_workers s e = step_keeps (λ z. length z.workers ≡ length s.workers) s refl (λ counter cells i w. length-set s.workers i w) e

pub layout_stays : (s : World) (events : List Event) → (run s events).layout ≡ s.layout
layout_stays s [] = refl
layout_stays s (e ∷ es) = layout_stays (step s e).1 es ∙ same_layout s e

-- cells that all are filled, each with what f has for its mask
pub cells_are : (f : ℕ → ℕ × ℕ) (masks : List ℕ) (cells : List Cell) → length cells ≡ length masks →
    ((p : ℕ) → IfSome (get_or cells p None) (λ c. c ≡ f (get_or masks p 0)))
    → ((p : ℕ) → p < length masks → get_or cells p None ≢ None) → cells ≡ map (λ m. Some (f m)) masks
cells_are f [] [] same right full = refl
cells_are f [] (c ∷ cells) same right full = absurd (omega arith)
cells_are f (m ∷ masks) [] same right full = absurd (omega arith)
cells_are f (m ∷ masks) (c ∷ cells) same right full =
    let rest : cells ≡ map (λ m. Some (f m)) masks = cells_are f masks cells (omega arith) (λ p. right (suc p)) (λ p low. full (suc p) (omega arith)) in
    λ i. (is c (right 0) (full 0 (omega arith))) i ∷ rest i
  where
    is : (o : Cell) → IfSome o (λ c. c ≡ f m) → o ≢ None → o ≡ Some (f m)
    is None e filled = absurd (filled refl)
    is (Some d) e filled = ap Some e
