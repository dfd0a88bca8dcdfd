-- The step of a worker, case by case.
use Rattle.std.proofs.Common.{◌≡◌, ℕ, ◌+◌, ◌<◌, ◌≤◌, Bool, true, false, nat_lt, if◌then◌else◌, set, get_or, Option, Some, None, refl, ap, ◌∙◌, lt-ltb, le-ltb}
use mathlib.Core.Option as found
use lib.ListN.{get_elem?}
use Rattle.layer_core.specs.Machine.{World, Worker, Claim, Post, Read, Claimed, NoMore, Posted, Stranger, Double, Seen, Empty, place_of, cell_at, claims_block, ends, learns, moved, claimed, claim, fill, post, look, read, step}

choose : {A : Type 0} (b : Bool) (x y : A) → b ≡ true → (if b then x else y) ≡ x
choose b x y e = ap (λ (c : Bool). if c then x else y) e

refuse : {A : Type 0} (b : Bool) (x y : A) → b ≡ false → (if b then x else y) ≡ y
refuse b x y e = ap (λ (c : Bool). if c then x else y) e

module _ (s : World) (i mask : ℕ) where
  -- a mask that isn't in the layer
  pub read_missing : place_of s.layout mask ≡ None → step s (Read i mask) ≡ (Empty, s)
  read_missing e = ap (λ (o : Option ℕ). read s i o (get_elem? s.workers i)) e ∙ by (get_elem? s.workers i)
    where
      by : (o : found.Option Worker) → read s i None o ≡ (Empty, s)
      by found.none = refl
      by (found.some w) = refl

  pub post_missing : (cell : ℕ × ℕ) → place_of s.layout mask ≡ None → step s (Post i mask cell) ≡ (Stranger, s)
  post_missing cell e = ap (λ (o : Option ℕ). post s i cell o (get_elem? s.workers i)) e ∙ by (get_elem? s.workers i)
    where
      by : (o : found.Option Worker) → post s i cell None o ≡ (Stranger, s)
      by found.none = refl
      by (found.some w) = refl

  -- an empty cell
  pub read_empty : (p : ℕ) → place_of s.layout mask ≡ Some p → cell_at s p ≡ None → step s (Read i mask) ≡ (Empty, s)
  read_empty p there e = ap (λ (o : Option ℕ). read s i o (get_elem? s.workers i)) there ∙ by (get_elem? s.workers i)
    where
      by : (o : found.Option Worker) → read s i (Some p) o ≡ (Empty, s)
      by found.none = refl
      by (found.some w) = ap (look s i p w) e

module _ (s : World) (i : ℕ) (w : Worker) (at : get_elem? s.workers i ≡ found.some w) where
  claim_at : step s (Claim i) ≡ claim s i (found.some w)
  claim_at = ap (claim s i) at

  pub claim_told : w.ended ≡ true → step s (Claim i) ≡ (NoMore, s)
  claim_told e = claim_at ∙ choose w.ended _ _ e

  pub claim_next : w.ended ≡ false → s.counter < s.layout.blocks →
      step s (Claim i) ≡ (Claimed s.counter, moved s (s.counter + 1) s.cells i (claims_block w s.counter))
  claim_next e low = claim_at ∙ (refuse w.ended _ _ e ∙ choose (nat_lt s.counter s.layout.blocks) _ _ (lt-ltb s.counter s.layout.blocks low))

  pub claim_past : w.ended ≡ false → s.layout.blocks ≤ s.counter → step s (Claim i) ≡ (NoMore, moved s (s.counter + 1) s.cells i (ends w))
  claim_past e high = claim_at ∙ (refuse w.ended _ _ e ∙ refuse (nat_lt s.counter s.layout.blocks) _ _ (le-ltb s.counter s.layout.blocks high))

  module _ (mask : ℕ) where
    module _ (p : ℕ) (there : place_of s.layout mask ≡ Some p) where
      read_at : step s (Read i mask) ≡ look s i p w (cell_at s p)
      read_at = ap (read s i (place_of s.layout mask)) at ∙ ap (λ (o : Option ℕ). read s i o (found.some w)) there

      pub read_sees : (cell : ℕ × ℕ) → cell_at s p ≡ Some cell → step s (Read i mask) ≡ (Seen cell, moved s s.counter s.cells i (learns w p))
      read_sees cell e = read_at ∙ ap (look s i p w) e

      post_at : (cell : ℕ × ℕ) → step s (Post i mask cell) ≡ post s i cell (Some p) (found.some w)
      post_at cell = ap (post s i cell (place_of s.layout mask)) at ∙ ap (λ (o : Option ℕ). post s i cell o (found.some w)) there

      pub post_stranger : (cell : ℕ × ℕ) → claimed w (get_or s.layout.block_of p 0) ≡ false → step s (Post i mask cell) ≡ (Stranger, s)
      post_stranger cell e = post_at cell ∙ refuse (claimed w (get_or s.layout.block_of p 0)) _ _ e

      module _ (cell : ℕ × ℕ) (mine : claimed w (get_or s.layout.block_of p 0) ≡ true) where
        post_mine : step s (Post i mask cell) ≡ fill s i p cell w (cell_at s p)
        post_mine = post_at cell ∙ choose (claimed w (get_or s.layout.block_of p 0)) _ _ mine

        pub post_double : (old : ℕ × ℕ) → cell_at s p ≡ Some old → step s (Post i mask cell) ≡ (Double, s)
        post_double old e = post_mine ∙ ap (fill s i p cell w) e

        pub post_fills : cell_at s p ≡ None → step s (Post i mask cell) ≡ (Posted, moved s s.counter (set s.cells p (Some cell)) i (learns w p))
        post_fills e = post_mine ∙ ap (fill s i p cell w) e
