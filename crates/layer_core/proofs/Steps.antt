-- Each step keeps a state right.
use Rattle.std.proofs.Common.{◌≡◌, ◌≢◌, ℕ, ◌+◌, ◌<◌, ◌≤◌, Bool, true, false, List, set, get_or, length, length-set, get_or-set_same, get_or-set_other, Option, Some, None, IfSome, sym, ap, ◌∙◌, subst, ⊎_elim, arith}
use mathlib.Core.Option.{some, some-injective}
use mathlib.Core.Logic.{dite}
use native.Mathlib.Decide.{ℕ_discrete}
use lib.ListN.{get_elem?}
use Rattle.definitions.specs.Functions.{weight}
use Rattle.layer_core.specs.Machine.{World, Worker, cell_at, claims_block, ends, learns, moved, claimed, knows}
use Rattle.layer_core.specs.Rights.{Right, total}
use Rattle.layer_core.proofs.Lists.{each_set, bounded, found_set, set_here, inside, marked_more, marked_less, marked_inside}
use Rattle.layer_core.proofs.Sums.{sum_at, sum_one, sum_two}
use Rattle.std.proofs.lemmas.Bool.{cases_lt}

one_of : (b : Bool) → b ≡ true → weight b ≡ 1
one_of b e = ap weight e

abbrev pub Cell : Type 0
Cell = Option (ℕ × ℕ)

pub some_cell : (c : ℕ × ℕ) → Some c ≢ None
some_cell c e = cc

-- a filled cell stays filled where another or the same is filled
still : (xs : List Cell) (q p : ℕ) (c : ℕ × ℕ) → q < length xs → get_or xs p None ≢ None → get_or (set xs q (Some c)) p None ≢ None
still xs q p c low full = grind (arith, get_or-set_same, get_or-set_other)

module _ (C : ℕ → ℕ × ℕ → Type 0) where
  -- a worker claimed the next block
  pub right_drawn : (s : World) (i : ℕ) (w : Worker) → Right C s → get_elem? s.workers i ≡ some w → s.counter < s.layout.blocks →
      Right C (moved s (s.counter + 1) s.cells i (claims_block w s.counter))
  right_drawn s i w r at lt = let n : ℕ = s.counter in let wide = (r.marks i w at).0 in let here : n < length w.claims = omega arith in record {
    laid = r.laid;
    size = r.size;
    true_cells = r.true_cells;
    marks = each_set (λ j u. (length u.claims ≡ s.layout.blocks) × (length u.known ≡ length s.layout.masks)) s.workers i (claims_block w n)
        r.marks (length-set w.claims n true ∙ wide, (r.marks i w at).1);
    below = λ b inside low. let f : Worker → ℕ = λ (u : Worker). weight (claimed u b) in
        grind (arith, sum_at, sum_one, get_or-set_same, get_or-set_other);
    above = λ b inside high. let f : Worker → ℕ = λ (u : Worker). weight (claimed u b) in grind (arith, sum_at, get_or-set_other);
    filled = λ p full. let z = r.filled p full in
        found_set (λ (u : Worker). (claimed u (get_or s.layout.block_of p 0) ≡ true) × (knows u p ≡ true)) s.workers i z.0 w
        (claims_block w n) z.1 at z.2 z.3 (λ h. (marked_more w.claims n (get_or s.layout.block_of p 0) here h.0, h.1));
    known = each_set (λ j u. (p : ℕ) → knows u p ≡ true → cell_at s p ≢ None) s.workers i (claims_block w n) r.known (r.known i w at);
    counted = omega arith;
    ended = each_set (λ j u. u.ended ≡ true → s.layout.blocks ≤ n + 1) s.workers i (claims_block w n)
        (λ j u e h. omega (arith, r.ended j u e h)) (λ h. omega (arith, r.ended i w at h));
  }

  -- a worker was told that there is no block left
  pub right_ended : (s : World) (i : ℕ) (w : Worker) → Right C s → get_elem? s.workers i ≡ some w → w.ended ≡ false →
      s.layout.blocks ≤ s.counter → Right C (moved s (s.counter + 1) s.cells i (ends w))
  right_ended s i w r at not_yet past = let n : ℕ = s.counter in record {
    laid = r.laid;
    size = r.size;
    true_cells = r.true_cells;
    marks = each_set (λ j u. (length u.claims ≡ s.layout.blocks) × (length u.known ≡ length s.layout.masks)) s.workers i (ends w) r.marks (r.marks i w at);
    below = λ b inside low. let f : Worker → ℕ = λ (u : Worker). weight (claimed u b) in grind (arith, sum_at);
    above = λ b inside high. absurd (omega arith);
    filled = λ p full. let z = r.filled p full in
        found_set (λ (u : Worker). (claimed u (get_or s.layout.block_of p 0) ≡ true) × (knows u p ≡ true)) s.workers i z.0 w (ends w) z.1 at
        z.2 z.3 (λ h. h);
    known = each_set (λ j u. (p : ℕ) → knows u p ≡ true → cell_at s p ≢ None) s.workers i (ends w) r.known (r.known i w at);
    counted = omega (arith, sum_at (λ (u : Worker). weight u.ended) s.workers i w (ends w) at, ap weight not_yet);
    ended = grind arith;
  }

  -- a worker saw a filled cell
  pub right_learned : (s : World) (i : ℕ) (w : Worker) (p : ℕ) → Right C s → get_elem? s.workers i ≡ some w → cell_at s p ≢ None →
      Right C (moved s s.counter s.cells i (learns w p))
  right_learned s i w n r at full_here = let low : n < length s.cells = inside s.cells n None full_here in let wide = (r.marks i w at).1 in
      let here : n < length w.known = omega arith in record {
        laid = r.laid;
        size = r.size;
        true_cells = r.true_cells;
        marks = each_set (λ j u. (length u.claims ≡ s.layout.blocks) × (length u.known ≡ length s.layout.masks)) s.workers i (learns w n)
            r.marks ((r.marks i w at).0, length-set w.known n true ∙ wide);
        below = λ b inside low. let f : Worker → ℕ = λ (u : Worker). weight (claimed u b) in grind (arith, sum_at);
        above = λ b inside high. let f : Worker → ℕ = λ (u : Worker). weight (claimed u b) in grind (arith, sum_at);
        filled = λ p full. let z = r.filled p full in
            found_set (λ (u : Worker). (claimed u (get_or s.layout.block_of p 0) ≡ true) × (knows u p ≡ true)) s.workers i z.0 w (learns w n)
            z.1 at z.2 z.3 (λ h. (h.0, marked_more w.known n p here h.1));
        known = each_set (λ j u. (p : ℕ) → knows u p ≡ true → cell_at s p ≢ None) s.workers i (learns w n) r.known
            (λ p h. ⊎_elim (λ (e : p ≡ n). subst (λ (z : ℕ). cell_at s z ≢ None) (sym e) full_here)
            (λ (e : get_or w.known p false ≡ true). r.known i w at p e) (marked_less w.known n p h));
        counted = grind (arith, sum_at);
        ended = each_set (λ j u. u.ended ≡ true → s.layout.blocks ≤ s.counter) s.workers i (learns w n) r.ended (r.ended i w at);
      }

  -- a worker filled a cell of a block that it claimed
  pub right_filled : (s : World) (i : ℕ) (w : Worker) (p : ℕ) (c : ℕ × ℕ) → Right C s → get_elem? s.workers i ≡ some w →
      p < length s.layout.masks → claimed w (get_or s.layout.block_of p 0) ≡ true → C (get_or s.layout.masks p 0) c
      → Right C (moved s s.counter (set s.cells p (Some c)) i (learns w p))
  right_filled s i w q c r at low mine true_c =
      let wide = r.marks i w at in let inside : q < length s.cells = omega arith in
      let here : q < length w.known = omega arith in let same_length = length-set s.cells q (Some c) in
      let there : get_or (set s.cells q (Some c)) q None ≡ Some c = get_or-set_same s.cells q (Some c) None inside in record {
        laid = r.laid;
        size = same_length ∙ r.size;
        true_cells = λ p. dite (ℕ_discrete p q)
            (λ same. subst (λ (z : ℕ). IfSome (get_or (set s.cells q (Some c)) z None) (C (get_or s.layout.masks z 0))) (sym same)
            (subst (λ (o : Cell). IfSome o (C (get_or s.layout.masks q 0))) (sym there) true_c))
            (λ other. subst (λ (o : Cell). IfSome o (C (get_or s.layout.masks p 0))) (sym (get_or-set_other s.cells q p (Some c) None other)) (r.true_cells p));
        marks = each_set (λ j u. (length u.claims ≡ s.layout.blocks) × (length u.known ≡ length s.layout.masks)) s.workers i (learns w q)
            r.marks (wide.0, length-set w.known q true ∙ wide.1);
        below = λ b inside low. let f : Worker → ℕ = λ (u : Worker). weight (claimed u b) in
            omega (arith, sum_at f s.workers i w (learns w q) at, r.below b inside low);
        above = λ b inside high. let f : Worker → ℕ = λ (u : Worker). weight (claimed u b) in
            omega (arith, sum_at f s.workers i w (learns w q) at, r.above b inside high);
        filled = λ p full. dite (ℕ_discrete p q)
            (λ same. (
              i,
              learns w q,
              set_here s.workers i (learns w q) (bounded s.workers i w at),
              (
                subst (λ (z : ℕ). claimed w (get_or s.layout.block_of z 0) ≡ true) (sym same) mine,
                subst (λ (z : ℕ). get_or (set w.known q true) z false ≡ true) (sym same) (get_or-set_same w.known q true false here),
              ),
            ))
            (λ other. let e = get_or-set_other s.cells q p (Some c) None other in let z = r.filled p (λ none_yet. full (e ∙ none_yet)) in
            found_set (λ (u : Worker). (claimed u (get_or s.layout.block_of p 0) ≡ true) × (knows u p ≡ true)) s.workers i z.0 w
            (learns w q) z.1 at z.2 z.3 (λ h. (h.0, marked_more w.known q p here h.1)));
        known = each_set (λ j u. (p : ℕ) → knows u p ≡ true → get_or (set s.cells q (Some c)) p None ≢ None) s.workers i (learns w q)
            (λ j u e p h. still s.cells q p c inside (r.known j u e p h))
            (λ p h. ⊎_elim
            (λ (e : p ≡ q). subst (λ (z : ℕ). get_or (set s.cells q (Some c)) z None ≢ None) (sym e)
            (λ none_there. some_cell c (sym there ∙ none_there)))
            (λ (e : get_or w.known p false ≡ true). still s.cells q p c inside (r.known i w at p e)) (marked_less w.known q p h));
        counted = omega (arith, sum_at (λ (u : Worker). weight u.ended) s.workers i w (learns w q) at);
        ended = each_set (λ j u. u.ended ≡ true → s.layout.blocks ≤ s.counter) s.workers i (learns w q) r.ended (r.ended i w at);
      }

  -- who claimed a filled mask is the one that knows it
  pub filled_is_mine : (s : World) (i : ℕ) (w : Worker) (p : ℕ) → Right C s → get_elem? s.workers i ≡ some w →
      claimed w (get_or s.layout.block_of p 0) ≡ true → cell_at s p ≢ None → knows w p ≡ true
  filled_is_mine s i w p r at mine full = let z = r.filled p full in let f : Worker → ℕ = λ (u : Worker). weight (claimed u (get_or s.layout.block_of p 0)) in
      let placed = r.laid.placed p (omega (arith, inside s.cells p None full)) in
      dite (ℕ_discrete z.0 i)
      (λ same. let is : z.1 ≡ w = some-injective z.1 w (sym z.2 ∙ (ap (λ (k : ℕ). get_elem? s.workers k) same ∙ at)) in
      subst (λ (u : Worker). knows u p ≡ true) is z.3.1)
      (λ other. let t = sum_two f s.workers z.0 i z.1 w other z.2 at in let one : f z.1 ≡ 1 = one_of _ z.3.0 in absurd (omega (
        arith,
        one_of _ mine,
        at_most_one s (get_or s.layout.block_of p 0) r placed,
      )))
    where
      at_most_one : (s : World) (b : ℕ) → Right C s → b < s.layout.blocks → total (λ (u : Worker). weight (claimed u b)) s.workers ≤ 1
      at_most_one s b r inside =
          ⊎_elim (λ (low : b < s.counter). omega (arith, r.below b inside low))
          (λ (high : s.counter ≤ b). omega (arith, r.above b inside high)) (cases_lt b s.counter)

  -- a worker's claims lie below the counter
  pub claims_below : (s : World) (i : ℕ) (w : Worker) → Right C s → get_elem? s.workers i ≡ some w → (b : ℕ) → claimed w b ≡ true → b < s.counter
  claims_below s i w r at b mine = ⊎_elim (λ low. low)
      (λ (high : s.counter ≤ b). let inside : b < s.layout.blocks = subst (λ (z : ℕ). b < z) (r.marks i w at).0 (marked_inside w.claims b mine) in
      absurd (omega (arith, r.above b inside high, sum_one (λ (u : Worker). weight (claimed u b)) s.workers i w at, ap weight mine)))
      (cases_lt b s.counter)
