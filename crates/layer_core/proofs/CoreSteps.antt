-- A core's fields after a step, and the machine's.
use Rattle.std.proofs.Common.{◌≡◌, ℕ, zero, suc, ◌+◌, ◌<◌, ◌≤◌, Bool, true, false, List, [], ◌∷◌, map, set, get_or, replicate, length, Option, Some, None, sym, refl, ap, ◌∙◌, subst, arith}
use mathlib.Core.Option.{some, some-injective}
use lib.ListN.{get_elem?}
use lib.Seq.{map-set}
use Rattle.subset_layers.specs.declared.costs.Cell.{Cell}
use Rattle.subset_layers.specs.Layers.{masks_of, blocks_of}
use Rattle.layer_core.specs.Machine.{World, Worker, Event, Claim, Post, Read, Reply, Claimed, NoMore, Posted, Stranger, Double, Seen, Empty, place_of, cell_at, claimed, claims_block, ends, learns, moved, step, blank, opening}
use Rattle.layer_core.specs.Rights.{Right, Posts, told_number}
use Rattle.layer_core.proofs.Runs.{right_step}
use Rattle.layer_core.proofs.Lists.{length-same, at_map, at_index}
use Rattle.layer_core.proofs.Cases.{claim_told, claim_next, claim_past, read_missing, read_empty, read_sees, post_missing, post_stranger, post_double, post_fills}
use Rattle.layer_core.specs.declared.machine.WorkerMarks.{WorkerMarks}
use Rattle.layer_core.specs.declared.machine.Core.TheInside.{Inside}
use Rattle.layer_core.specs.Instances.{layout_of}
use Rattle.layer_core.specs.Pairing.{pair_of}
use Rattle.layer_core.specs.Marked.{marks_of}
use Rattle.layer_core.specs.Shown.{shown, cell_of, IsSound}
use Rattle.layer_core.proofs.Layouts.{length-map_lem, get_or-map_lem, few_blocks}
use Rattle.std.proofs.lemmas.List.{get_or_default}

-- whatever a mask's cell is
abbrev Any : ℕ → ℕ × ℕ → Type 0
Any mask cell = Unit {0}

posts_any : (e : Event) → Posts Any (e ∷ [])
posts_any (Claim i) = tt
posts_any (Post i mask cell) = (tt, tt)
posts_any (Read i mask) = tt

-- what a step leaves is right
pub sound_step : (s w : World) (r : Reply) (e : Event) → (r, w) ≡ step s e → Right Any s → Right Any w
sound_step s w r e is right = subst (λ (z : Reply × World). Right Any z.1) (sym is) (right_step Any s e right (posts_any e))

told_most : (l : List Worker) → told_number l ≤ length l
told_most [] = omega arith
told_most (x ∷ xs) = grind (arith, told_most xs)

-- the fields after a step: the counter, the cells, and one worker's marks
abbrev pub shown_with : Inside → ℕ → List (Option Cell) → ℕ → WorkerMarks → World
shown_with x counter cells i m =
    record { layout = layout_of x.layer; counter = counter; cells = map cell_of cells; workers = map marks_of (set x.workers.items i m) }

shown_moved : (x : Inside) (counter : ℕ) (cells : List (Option Cell)) (i : ℕ) (m : WorkerMarks) →
    shown_with x counter cells i m ≡ moved (shown x) counter (map cell_of cells) i (marks_of m)
shown_moved x counter cells i m =
    λ j. record
    { layout = layout_of x.layer; counter = counter; cells = map cell_of cells; workers = map-set marks_of x.workers.items i m j }

-- two reads of one place
pub same_there : (xs : List WorkerMarks) (i : ℕ) (a b : WorkerMarks) → i < length xs → a ≡ get_or xs i a → b ≡ get_or xs i b → a ≡ b
same_there xs i a b inside p q = some-injective a b (sym (at_index xs i a inside p) ∙ at_index xs i b inside q)

-- what was read is known in another form
pub is_there : (xs : List (Option Cell)) (p : ℕ) (o known : Option Cell) → o ≡ get_or xs p o → o ≡ known → known ≡ get_or xs p known
is_there xs p o known read is = subst (λ (z : Option Cell). z ≡ get_or xs p z) is read

-- a worker of the machine has marks
pub has_marks : (x : Inside) (s : World) (i : ℕ) → shown x ≡ s → i < length s.workers → i < length x.workers.items
has_marks x s i is low = omega (arith, ap (λ (w : World). length w.workers) is, length-map_lem marks_of x.workers.items)

module _ (x : Inside) (sound : IsSound x) where
  pub small_counter : x.counter ≤ 320
  small_counter = omega (arith, told_most (map marks_of x.workers.items), length-map_lem marks_of x.workers.items, few_blocks x.layer)

  pub cells_wide : length x.cells.items ≡ length (masks_of x.layer)
  cells_wide = sym (length-map_lem cell_of x.cells.items) ∙ sound.0.size

  cell_there : (p : ℕ) (o : Option Cell) → p < length (masks_of x.layer) → o ≡ get_or x.cells.items p o → cell_at (shown x) p ≡ cell_of o
  cell_there p o low is = get_or-map_lem cell_of x.cells.items p o None (omega (arith, cells_wide)) ∙ ap cell_of (sym is)

  module _ (i mask : ℕ) where
    pub read_outside : place_of (layout_of x.layer) mask ≡ None → (Empty, shown x) ≡ step (shown x) (Read i mask)
    read_outside e = sym (read_missing (shown x) i mask e)

    pub post_outside : (cell : Cell) → place_of (layout_of x.layer) mask ≡ None → (Stranger, shown x) ≡ step (shown x) (Post i mask (pair_of cell))
    post_outside cell e = sym (post_missing (shown x) i mask (pair_of cell) e)

    pub read_none : (p : ℕ) → place_of (layout_of x.layer) mask ≡ Some p → p < length (masks_of x.layer) →
        None ≡ get_or x.cells.items p None → (Empty, shown x) ≡ step (shown x) (Read i mask)
    read_none p there low e = sym (read_empty (shown x) i mask p there (cell_there p None low e))

  module _ (i : ℕ) (m : WorkerMarks) (inside : i < length x.workers.items) (is : m ≡ get_or x.workers.items i m) where
    at : get_elem? (map marks_of x.workers.items) i ≡ some (marks_of m)
    at = at_map marks_of x.workers.items i m (at_index x.workers.items i m inside is)

    pub claims_wide : length m.claims.items ≡ length (blocks_of x.layer)
    claims_wide = (sound.0.marks i (marks_of m) at).0

    pub known_wide : length m.known.items ≡ length (masks_of x.layer)
    known_wide = (sound.0.marks i (marks_of m) at).1

    pub still_told : m.ended ≡ true → (NoMore, shown x) ≡ step (shown x) (Claim i)
    still_told e = sym (claim_told (shown x) i (marks_of m) at e)

    pub drawn : (after : WorkerMarks) → marks_of after ≡ claims_block (marks_of m) x.counter → m.ended ≡ false → x.counter < length (blocks_of x.layer)
        → (Claimed x.counter, shown_with x (x.counter + 1) x.cells.items i after) ≡ step (shown x) (Claim i)
    drawn after new untold low =
        ap (λ (w : World). (Claimed x.counter, w))
        (shown_moved x (x.counter + 1) x.cells.items i after ∙ ap (moved (shown x) (x.counter + 1) (map cell_of x.cells.items) i) new)
        ∙ sym (claim_next (shown x) i (marks_of m) at untold low)

    pub ended : (after : WorkerMarks) → marks_of after ≡ ends (marks_of m) → m.ended ≡ false → length (blocks_of x.layer) ≤ x.counter
        → (NoMore, shown_with x (x.counter + 1) x.cells.items i after) ≡ step (shown x) (Claim i)
    ended after new untold high =
        ap (λ (w : World). (NoMore, w))
        (shown_moved x (x.counter + 1) x.cells.items i after ∙ ap (moved (shown x) (x.counter + 1) (map cell_of x.cells.items) i) new)
        ∙ sym (claim_past (shown x) i (marks_of m) at untold high)

    module _ (mask : ℕ) where
      module _ (p : ℕ) (there : place_of (layout_of x.layer) mask ≡ Some p) (low : p < length (masks_of x.layer)) where
        pub read_one : (cell : Cell) (after : WorkerMarks) → marks_of after ≡ learns (marks_of m) p → Some cell ≡ get_or x.cells.items p (Some cell)
            → (Seen (pair_of cell), shown_with x x.counter x.cells.items i after) ≡ step (shown x) (Read i mask)
        read_one cell after new e =
            ap (λ (w : World). (Seen (pair_of cell), w))
            (shown_moved x x.counter x.cells.items i after ∙ ap (moved (shown x) x.counter (map cell_of x.cells.items) i) new)
            ∙ sym (read_sees (shown x) i (marks_of m) at mask p there (pair_of cell) (cell_there p (Some cell) low e))

        pub post_not_mine : (cell : Cell) → claimed (marks_of m) (get_or (layout_of x.layer).block_of p 0) ≡ false →
            (Stranger, shown x) ≡ step (shown x) (Post i mask (pair_of cell))
        post_not_mine cell e = sym (post_stranger (shown x) i (marks_of m) at mask p there (pair_of cell) e)

        module _ (cell : Cell) (mine : claimed (marks_of m) (get_or (layout_of x.layer).block_of p 0) ≡ true) where
          pub post_again : (old : Cell) → Some old ≡ get_or x.cells.items p (Some old) → (Double, shown x) ≡ step (shown x) (Post i mask (pair_of cell))
          post_again old e = sym (post_double (shown x) i (marks_of m) at mask p there (pair_of cell) mine (pair_of old) (cell_there p (Some old) low e))

          pub post_first : (after : WorkerMarks) → marks_of after ≡ learns (marks_of m) p → None ≡ get_or x.cells.items p None
              → (Posted, shown_with x x.counter (set x.cells.items p (Some cell)) i after) ≡ step (shown x) (Post i mask (pair_of cell))
          post_first after new e = ap (λ (w : World). (Posted, w)) (shown_moved x x.counter (set x.cells.items p (Some cell)) i after
              ∙ λ j. moved (shown x) x.counter (map-set cell_of x.cells.items p (Some cell) j) i (new j))
              ∙ sym (post_fills (shown x) i (marks_of m) at mask p there (pair_of cell) mine (cell_there p None low e))

-- a mark that was read, at the same place
pub mark_at : (xs : List Bool) (i j : ℕ) (r b : Bool) → i ≡ j → j < length xs → r ≡ get_or xs j r → r ≡ b → get_or xs i false ≡ b
mark_at xs i j r b same low read is = subst (λ (k : ℕ). get_or xs k false ≡ b) (sym same) (get_or_default xs j false r low ∙ (sym read ∙ is))

-- the fields of a new core
pub opened : (x : Inside) (workers : ℕ) → x.counter ≡ 0 → x.cells.items ≡ replicate (length (masks_of x.layer)) None →
    map marks_of x.workers.items ≡ replicate workers (blank (layout_of x.layer)) → shown x ≡ opening (layout_of x.layer) workers
opened x workers zero_is empty blanks =
    λ i. record {
      layout = layout_of x.layer;
      counter = zero_is i;
      cells = (ap (map cell_of) empty ∙ none_shown (length (masks_of x.layer))) i;
      workers = blanks i;
    }
  where
    none_shown : (n : ℕ) → map cell_of (replicate n None) ≡ replicate n None
    none_shown zero = refl
    none_shown (suc n) = ap (λ l. None ∷ l) (none_shown n)

pub opened_workers : (xs : List WorkerMarks) (workers : ℕ) (w : Worker) → map marks_of xs ≡ replicate workers w → length xs ≡ workers
opened_workers xs workers w is = sym (length-map_lem marks_of xs) ∙ (ap length is ∙ length-same workers w)
