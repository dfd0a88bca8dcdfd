-- A step on a board's table is an event of the machine.
use Rattle.std.proofs.Common.{◌≡◌, ℕ, ◌+◌, ◌-◌, ◌/◌, ◌%◌, ◌^◌, ◌<◌, ◌≤◌, true, false, cond, List, [], map, set, get_or, length, Option, Some, sym, ap, ◌∙◌, ⊎_elim, arith, add-one, mod-eq_of_lt, eqb, eq-eqb, ne_eqb, lt-ltb, le-ltb}
use Rattle.std.proofs.lemmas.List.{set-get_or}
use mathlib.Core.Option.{some, none}
use mathlib.Core.Logic.{dite}
use native.Mathlib.Decide.{ℕ_discrete}
use lib.ListN.{get_elem?}
use prog.Atomic.{either}
use Rattle.atomic_table.specs.Table.{step as table_step, stepped, keeps}
use Rattle.atomic_table.proofs.Lists.{at_map, set_again}
use Rattle.subset_layers.specs.Layers.{blocks_of}
use Rattle.layer_core.specs.Machine.{World, Worker, Claimed, NoMore, Posted, Double, Seen, Empty, Claim, Post, Read, step, place_of, cell_at, claims_block, ends, learns, moved, claimed}
use Rattle.layer_core.proofs.Cases.{claim_next, claim_past, read_empty, read_sees, post_double, post_fills}
use Rattle.layer_core.specs.Instances.{layout_of}
use Rattle.layer_board.specs.Views.{BriefOf, SeatView, after}
use Rattle.layer_board.specs.Invariant.{Kept, Sat, cell_in, cell_words, counter_of, worker_of, shows, claims, posts, reads, claim_reply, post_reply, read_reply}
use Rattle.layer_board.proofs.Words.{counter_set, cells_set_counter, counter_read, counter_set_cell, cells_set, cell_read, cell_shown, cells_shown_set, full_word, empty_word}
use Rattle.layer_board.proofs.Rule.{St, picture_moved, small_counter, posted_at, read_at}
use Rattle.std.proofs.lemmas.Bool.{cases_lt}

module _ (b : BriefOf) (s : St) (k : Kept b s) (id : ℕ) (v : SeatView) (at : get_elem? s.views id ≡ some v) where
  there : get_elem? (map worker_of s.views) id ≡ some v.worker
  there = at_map worker_of s.views id v at

  same_blocks : length (blocks_of v.brief.layer) ≡ length (blocks_of b.layer)
  same_blocks = ap (λ (z : BriefOf). length (blocks_of z.layer)) (k.briefs id v at).0

  -- the state after a step that changes a word
  after_step : (i n counter : ℕ) (cells : List (Option (ℕ × ℕ))) (m : Sat) (w : Worker) (wrote : ℕ) →
      counter_of (set s.words i n) ≡ counter → map cell_in (cell_words (set s.words i n)) ≡ cells → m ≡ (after v w wrote, [])
      → shows b (stepped s i n id [] m.0 keeps) ≡ moved (shows b s) counter cells id w
  after_step i n counter cells m w wrote new_counter new_cells is =
      picture_moved b.layer s.words s.views i n id counter cells m.0 new_counter new_cells ∙ ap (λ (z : Sat). moved (shows b s) counter cells id z.0.worker) is

  pub claim_event : (slots : ℕ) (m : Sat) → v.worker.ended ≡ false → claims (table_step slots 0 1 0 none) (v, []) (get_or s.words 0 0) m
      → (
        claim_reply (length (blocks_of b.layer)) (get_or s.words 0 0),
        shows b (stepped s 0 ((get_or s.words 0 0 + 1) % 2 ^ 64) id [] m.0 keeps),
      ) ≡
      step (shows b s) (Claim id)
  claim_event slots m untold ended =
      let n : ℕ = get_or s.words 0 0 in let is : n ≡ counter_of s.words = counter_read s.words in
      let small = small_counter b s k in let wide : 0 < length s.words = omega arith in
      let up : (n + 1) % 2 ^ 64 ≡ counter_of s.words + 1 = mod-eq_of_lt (omega arith) ∙ ap (λ (z : ℕ). z + 1) is in
      let now : counter_of (set s.words 0 ((n + 1) % 2 ^ 64)) ≡ counter_of s.words + 1 = counter_set s.words ((n + 1) % 2 ^ 64) wide ∙ up in
      let same : map cell_in (cell_words (set s.words 0 ((n + 1) % 2 ^ 64))) ≡ map cell_in (cell_words s.words) =
      ap (map cell_in) (cells_set_counter s.words ((n + 1) % 2 ^ 64)) in
      ⊎_elim
      (λ (low : n < length (blocks_of b.layer)).
      let next : shows b (stepped s 0 ((n + 1) % 2 ^ 64) id [] m.0 keeps) ≡ moved (shows b s) (counter_of s.words + 1)
      (map cell_in (cell_words s.words)) id (claims_block v.worker n) =
      after_step 0 ((n + 1) % 2 ^ 64) (counter_of s.words + 1) (map cell_in (cell_words s.words)) m (claims_block v.worker n) 1 now same
      (ended.0 (omega (arith, same_blocks))).0 in
      (λ i. (cond (lt-ltb n (length (blocks_of b.layer)) low i) (Claimed n) NoMore, next i))
      ∙ ((λ i. (
        Claimed (is i),
        moved (shows b s) (counter_of s.words + 1) (map cell_in (cell_words s.words)) id (claims_block v.worker (is i)),
      ))
      ∙ sym (claim_next (shows b s) id v.worker there untold (omega arith))))
      (λ (high : length (blocks_of b.layer) ≤ n).
      let next : shows b (stepped s 0 ((n + 1) % 2 ^ 64) id [] m.0 keeps) ≡ moved (shows b s) (counter_of s.words + 1)
      (map cell_in (cell_words s.words)) id (ends v.worker) =
      after_step 0 ((n + 1) % 2 ^ 64) (counter_of s.words + 1) (map cell_in (cell_words s.words)) m (ends v.worker) 1 now same
      (ended.1 (omega (arith, same_blocks))) in
      (λ i. (cond (le-ltb n (length (blocks_of b.layer)) high i) (Claimed n) NoMore, next i))
      ∙ sym (claim_past (shows b s) id v.worker there untold (omega arith)))
      (cases_lt n (length (blocks_of b.layer)))

  -- a step that changes no worker
  nothing_moved : moved (shows b s) (counter_of s.words) (map cell_in (cell_words s.words)) id v.worker ≡ shows b s
  nothing_moved = search (set_again, there)

  module _ (p mask : ℕ) (place : place_of (layout_of b.layer) mask ≡ Some p) where
    word : ℕ
    word = get_or s.words (p + 1) 0

    shown : cell_at (shows b s) p ≡ cell_in (get_or s.words (p + 1) 0)
    shown = cell_shown (cell_words s.words) p ∙ ap cell_in (sym (cell_read s.words p) ∙ ap (λ (z : ℕ). get_or s.words z 0) (sym (add-one p)))

    unchanged : set s.words (p + 1) (get_or s.words (p + 1) 0) ≡ s.words
    unchanged = set-get_or s.words (p + 1) 0

    pub read_event : (slots : ℕ) (m : Sat) → reads (table_step slots (p + 1) 0 0 none) (v, []) (get_or s.words (p + 1) 0) m
        → (read_reply (get_or s.words (p + 1) 0), shows b (stepped s (p + 1) (get_or s.words (p + 1) 0) id [] m.0 keeps)) ≡ step (shows b s) (Read id mask)
    read_event slots m ended =
        let n : ℕ = get_or s.words (p + 1) 0 in let tells = read_at slots p 0 0 n (v, []) m ended in
        dite (ℕ_discrete n 0)
        (λ empty.
        let next = after_step (p + 1) n (counter_of s.words) (map cell_in (cell_words s.words)) m v.worker 0 (ap counter_of unchanged)
        (ap (λ z. map cell_in (cell_words z)) unchanged) (tells.0 empty).0
        ∙ nothing_moved in
        (λ i. (cond (eq-eqb n 0 empty i) Empty (Seen (n / 32 - 1, n % 32)), next i))
        ∙ sym (read_empty (shows b s) id mask p place (shown ∙ empty_word n empty)))
        (λ full.
        let next = after_step (p + 1) n (counter_of s.words) (map cell_in (cell_words s.words)) m (learns v.worker p) 0
        (ap counter_of unchanged) (ap (λ z. map cell_in (cell_words z)) unchanged) (tells.1 full).0 in
        (λ i. (cond (ne_eqb n 0 full i) Empty (Seen (n / 32 - 1, n % 32)), next i))
        ∙ sym (read_sees (shows b s) id v.worker there mask p place (n / 32 - 1, n % 32) (shown ∙ full_word n full)))

    pub post_event : (slots new : ℕ) (cell : ℕ × ℕ) (m : Sat) → claimed v.worker (get_or (layout_of b.layer).block_of p 0) ≡ true →
        cell_in new ≡ Some cell → posts (table_step slots (p + 1) 0 new none) (v, []) (get_or s.words (p + 1) 0) m
        → (
          post_reply (get_or s.words (p + 1) 0),
          shows b (stepped s (p + 1) (either (eqb (get_or s.words (p + 1) 0) 0) new (get_or s.words (p + 1) 0)) id [] m.0 keeps),
        ) ≡
        step (shows b s) (Post id mask cell)
    post_event slots new cell m mine stands ended =
        let n : ℕ = get_or s.words (p + 1) 0 in let tells = posted_at slots p 0 new n (v, []) m ended in
        dite (ℕ_discrete n 0)
        (λ empty.
        let counter : counter_of (set s.words (p + 1) new) ≡ counter_of s.words = ap (λ (z : ℕ). counter_of (set s.words z new)) (add-one p)
        ∙ counter_set_cell s.words p new in
        let cells : map cell_in (cell_words (set s.words (p + 1) new)) ≡ set (map cell_in (cell_words s.words)) p (Some cell) =
        ap (λ (z : ℕ). map cell_in (cell_words (set s.words z new))) (add-one p)
        ∙ (ap (map cell_in) (cells_set s.words p new)
        ∙ (cells_shown_set (cell_words s.words) p new ∙ ap (set (map cell_in (cell_words s.words)) p) stands)) in
        let next = after_step (p + 1) new (counter_of s.words) (set (map cell_in (cell_words s.words)) p (Some cell)) m (learns v.worker p)
        1 counter cells (tells.0 empty) in
        (λ i. (cond (eq-eqb n 0 empty i) Posted Double, shows b (stepped s (p + 1) (either (eq-eqb n 0 empty i) new n) id [] m.0 keeps)))
        ∙ (ap (λ (w : World). (Posted, w)) next ∙ sym (post_fills (shows b s) id v.worker there mask p place cell mine (shown ∙ empty_word n empty))))
        (λ full.
        let next = after_step (p + 1) n (counter_of s.words) (map cell_in (cell_words s.words)) m v.worker 0 (ap counter_of unchanged)
        (ap (λ z. map cell_in (cell_words z)) unchanged) (tells.1 full).0
        ∙ nothing_moved in
        (λ i. (cond (ne_eqb n 0 full i) Posted Double, shows b (stepped s (p + 1) (either (ne_eqb n 0 full i) new n) id [] m.0 keeps)))
        ∙ (ap (λ (w : World). (Double, w)) next
        ∙ sym (post_double (shows b s) id v.worker there mask p place cell mine (n / 32 - 1, n % 32) (shown ∙ full_word n full))))
