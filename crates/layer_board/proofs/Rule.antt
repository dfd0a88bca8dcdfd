-- Each step on a board's table keeps the rule, by what keeps the machine's states right.
use Rattle.std.proofs.Common.{◌≡◌, ◌≢◌, ℕ, zero, suc, ◌+◌, ◌-◌, ◌/◌, ◌%◌, ◌^◌, ◌<◌, ◌≤◌, Bool, true, false, List, [], ◌∷◌, ◌++◌, map, replicate, set, get_or, length, length-set, get_or-set_same, get_or-set_other, Option, Some, None, IfSome, sym, refl, ap, ◌∙◌, subst, ⊎_elim, arith, add-one, mod-eq_of_lt, eqb, eq-eqb, ne_eqb}
use Rattle.std.proofs.lemmas.List.{set-get_or}
use mathlib.Core.Option.{some, none, some-ne-none}
use mathlib.Core.Logic.{dite}
use native.Mathlib.Decide.{ℕ_discrete}
use lib.ListN.{get_elem?}
use lib.Seq.{map-set}
use mathlib.Core.List.{map-append}
use prog.Atomic.{either}
use Rattle.atomic_table.specs.Table.{State, step, keeps, Allows, Splits, opening}
use Rattle.atomic_table.proofs.Lists.{at_map, set_again}
use Rattle.definitions.specs.Functions.{weight}
use Rattle.subset_layers.specs.Layers.{LayerOf, masks_of, blocks_of}
use Rattle.layer_core.specs.Machine as machine
use Rattle.layer_core.specs.Machine.{World, Worker, cell_at, claims_block, ends, learns, moved, claimed, knows, blank}
use Rattle.layer_core.specs.Rights.{Right, total, told_number}
use Rattle.layer_core.proofs.Lists.{each_set, each_snoc, length-same}
use Rattle.layer_core.proofs.Sums.{sum_at}
use Rattle.layer_core.proofs.Starts.{right_opening, right_joined, total_snoc}
use Rattle.layer_core.proofs.Steps.{right_drawn, right_ended, right_learned, right_filled, filled_is_mine, claims_below}
use Rattle.layer_core.specs.Instances.{cell_for, layout_of}
use Rattle.layer_board.specs.Views.{BriefOf, SeatView, fresh, after}
use Rattle.layer_board.specs.Invariant.{Kept, IsCellAt, IsCellWord, cell_in, counter_of, cell_words, worker_of, state_shown, first_view, one_left, Sat, claims, posts, reads, posts_at, reads_at}
use Rattle.layer_core.proofs.Layouts.{laid, few_blocks}
use Rattle.layer_board.proofs.Words.{counter_set, cells_set_counter, counter_read, counter_set_cell, cells_set, cell_read, full_word, empty_word, cell_shown, cells_shown_set, no_words, shown_empty}
use Rattle.std.proofs.lemmas.Bool.{cases_lt}

abbrev pub St : Type 0
St = State (Unit {0}) SeatView

abbrev Cells : Type 0
Cells = List (Option (ℕ × ℕ))

-- the picture after a step of one seat
pub picture_moved : (l : LayerOf) (words : List ℕ) (views : List SeatView) (i n id counter : ℕ) (cells : Cells) (w : SeatView)
    → counter_of (set words i n) ≡ counter → map cell_in (cell_words (set words i n)) ≡ cells
    → state_shown l (set words i n) (set views id w) ≡ moved (state_shown l words views) counter cells id w.worker
picture_moved l words views i n id counter cells w new_counter new_cells =
    λ j. record { layout = layout_of l; counter = new_counter j; cells = new_cells j; workers = map-set worker_of views id w j }

abbrev AreWords : List ℕ → Type 0
AreWords ns = (p : ℕ) → get_or ns p 0 ≢ 0 → IsCellWord (get_or ns p 0)

words_set : (ns : List ℕ) (p n : ℕ) → AreWords ns → IsCellWord n → AreWords (set ns p n)
words_set ns p n all one q full = dite (ℕ_discrete q p)
    (λ same. by (get_or ns p 0) same)
    (λ other. let e = get_or-set_other ns p q n 0 other in subst IsCellWord (sym e) (all q (λ z. full (e ∙ z))))
  where
    by : ℕ → q ≡ p → IsCellWord (get_or (set ns p n) q 0)
    by _ same = ⊎_elim
        (λ (low : p < length ns). subst (λ (k : ℕ). IsCellWord (get_or (set ns p n) k 0)) (sym same)
        (subst IsCellWord (sym (get_or-set_same ns p n 0 low)) one))
        (λ (high : length ns ≤ p). absurd (full (ap (λ (k : ℕ). get_or (set ns p n) k 0) same ∙ past (set ns p n) p (omega (arith, length-set ns p n)))))
        (cases_lt p (length ns))
      where
        past : (xs : List ℕ) (k : ℕ) → length xs ≤ k → get_or xs k 0 ≡ 0
        past [] k h = refl
        past (x ∷ xs) zero h = absurd (omega arith)
        past (x ∷ xs) (suc k) h = past xs k (omega arith)

-- a step of one seat keeps the rule where it keeps the picture right
placed : (b : BriefOf) (s : St) (k : Kept b s) (i n id counter : ℕ) (cells : Cells) (v w : SeatView) → get_elem? s.views id ≡ some v →
    w.brief ≡ v.brief → w.seats ≡ v.seats
    → counter_of (set s.words i n) ≡ counter → map cell_in (cell_words (set s.words i n)) ≡ cells → AreWords (cell_words (set s.words i n))
    → Right (IsCellAt b.instance) (moved (state_shown b.layer s.words s.views) counter cells id w.worker)
    → Kept b record { words = set s.words i n; homes = s.homes; views = set s.views id w }
placed b s k i n id counter cells v w at same_brief same_seats new_counter new_cells words r = record {
  size = length-set s.words i n ∙ k.size;
  cells = words;
  right = subst (Right (IsCellAt b.instance)) (sym (picture_moved b.layer s.words s.views i n id counter cells w new_counter new_cells)) r;
  briefs = each_set (λ j (u : SeatView). (u.brief ≡ b) × (0 < u.seats)) s.views id w k.briefs
      (let old = k.briefs id v at in (same_brief ∙ old.0, subst (λ (z : ℕ). 0 < z) (sym same_seats) old.1));
  seats = omega (arith, sum_at (λ (u : SeatView). u.seats) s.views id v w at);
  few = k.few;
}

told_within : (l : List SeatView) → ((i : ℕ) (v : SeatView) → get_elem? l i ≡ some v → 0 < v.seats) →
    told_number (map worker_of l) ≤ total (λ (v : SeatView). v.seats) l
told_within [] all = omega arith
told_within (x ∷ xs) all = omega (arith, told_within xs (λ i v e. all (suc i) v e), all 0 x refl, most x.worker.ended)
  where
    most : (t : Bool) → weight t ≤ 1
    most true = omega arith
    most false = omega arith

-- the counter does not wrap
pub small_counter : (b : BriefOf) (s : St) → Kept b s → counter_of s.words ≤ 320
small_counter b s k = omega (arith, told_within s.views (λ i v e. (k.briefs i v e).1), few_blocks b.layer)

module _ (b : BriefOf) (slots id : ℕ) (me : Sat) where
  abbrev v : SeatView
  v = me.0

  pub may_claim : v.worker.ended ≡ false → Allows (Kept b) slots id me 0 (λ n. (n + 1) % 2 ^ 64) (claims (step slots 0 1 0 none) me)
  may_claim untold s k _ at _ =
      let n : ℕ = get_or s.words 0 0 in let old : World = state_shown b.layer s.words s.views in let there = at_map worker_of s.views id v at in
      let wide : 0 < length s.words = omega arith in let small = small_counter b s k in
      let is : n ≡ counter_of s.words = counter_read s.words in
      let up : (n + 1) % 2 ^ 64 ≡ counter_of s.words + 1 = mod-eq_of_lt (omega arith) ∙ ap (λ (z : ℕ). z + 1) is in
      let now : counter_of (set s.words 0 ((n + 1) % 2 ^ 64)) ≡ counter_of s.words + 1 = counter_set s.words ((n + 1) % 2 ^ 64) wide ∙ up in
      let same : cell_words (set s.words 0 ((n + 1) % 2 ^ 64)) ≡ cell_words s.words = cells_set_counter s.words ((n + 1) % 2 ^ 64) in
      let words : AreWords (cell_words (set s.words 0 ((n + 1) % 2 ^ 64))) = subst AreWords (sym same) k.cells in
      let blocks : length (blocks_of v.brief.layer) ≡ length (blocks_of b.layer) = ap (λ (z : BriefOf). length (blocks_of z.layer)) (k.briefs id v at).0 in
      ⊎_elim
      (λ (some_left : n < length (blocks_of v.brief.layer)). let w : SeatView = after v (claims_block v.worker n) 1 in (
        w,
        keeps,
        tt,
        placed b s k 0 ((n + 1) % 2 ^ 64) id (counter_of s.words + 1) (map cell_in (cell_words s.words)) v w at refl refl now (ap (map cell_in) same) words
            (subst (λ (z : ℕ). Right (IsCellAt b.instance)
            (moved old (counter_of s.words + 1) (map cell_in (cell_words s.words)) id (claims_block v.worker z)))
            (sym is) (right_drawn (IsCellAt b.instance) old id v.worker k.right there (omega arith))),
        (
          (λ _. (
            refl,
            λ q mine. subst (λ (z : ℕ). q < z) (sym is) (claims_below (IsCellAt b.instance) old id v.worker k.right there q mine),
          )),
          (λ past. absurd (omega arith)),
        ),
      ))
      (λ (none_left : length (blocks_of v.brief.layer) ≤ n). let w : SeatView = after v (ends v.worker) 1 in (
        w,
        keeps,
        tt,
        placed b s k 0 ((n + 1) % 2 ^ 64) id (counter_of s.words + 1) (map cell_in (cell_words s.words)) v w at refl refl now
            (ap (map cell_in) same) words (right_ended (IsCellAt b.instance) old id v.worker k.right there untold (omega arith)),
        ((λ low. absurd (omega arith)), (λ _. refl)),
      ))
      (cases_lt n (length (blocks_of v.brief.layer)))

  -- what nothing changes
  still_kept : (s : St) → Kept b s → get_elem? s.views id ≡ some v → (p : ℕ) →
      Kept b record { words = set s.words (suc p) (get_or s.words (suc p) 0); homes = s.homes; views = set s.views id (after v v.worker 0) }
  still_kept s k at p =
      let same : set s.words (suc p) (get_or s.words (suc p) 0) ≡ s.words = set-get_or s.words (suc p) 0 in
      placed b s k (suc p) (get_or s.words (suc p) 0) id (counter_of s.words) (map cell_in (cell_words s.words)) v (after v v.worker 0) at
      refl refl (ap counter_of same) (ap (λ ws. map cell_in (cell_words ws)) same)
      (subst (λ ws. AreWords (cell_words ws)) (sym same) k.cells)
      (subst (λ (z : List Worker). Right (IsCellAt b.instance) record
      { layout = layout_of b.layer; counter = counter_of s.words; cells = map cell_in (cell_words s.words); workers = z })
      (sym (set_again (map worker_of s.views) id v.worker (at_map worker_of s.views id v at))) k.right)

  pub may_read : (p : ℕ) → Allows (Kept b) slots id me (suc p) (λ n. n) (reads (step slots (suc p) 0 0 none) me)
  may_read p s k _ at _ =
      let n : ℕ = get_or s.words (suc p) 0 in let old : World = state_shown b.layer s.words s.views in let there = at_map worker_of s.views id v at in
      let is : n ≡ get_or (cell_words s.words) p 0 = cell_read s.words p in let place : suc p - 1 ≡ p = omega arith in
      let shown : cell_at old p ≡ cell_in n = cell_shown (cell_words s.words) p ∙ ap cell_in (sym is) in
      let same : set s.words (suc p) n ≡ s.words = set-get_or s.words (suc p) 0 in
      let brief : v.brief ≡ b = (k.briefs id v at).0 in
      dite (ℕ_discrete n 0)
      (λ empty. (
        after v v.worker 0,
        keeps,
        tt,
        still_kept s k at p,
        (
          (λ _. (
            refl,
            subst (λ (z : ℕ). knows v.worker z ≡ false) (sym place)
                (decide (knows v.worker p) (λ known. k.right.known id v.worker there p known (shown ∙ empty_word n empty))),
          )),
          (λ full. absurd (full empty)),
        ),
      ))
      (λ full. let filled : cell_at old p ≢ None = (λ e. shown_empty n full (sym shown ∙ e)) in let w : SeatView = after v (learns v.worker p) 0 in (
        after v (learns v.worker (suc p - 1)) 0,
        keeps,
        tt,
        subst (λ (z : ℕ). Kept b record { words = set s.words (suc p) n; homes = s.homes; views = set s.views id (after v (learns v.worker z) 0) }) (sym place)
            (placed b s k (suc p) n id (counter_of s.words) (map cell_in (cell_words s.words)) v w at refl refl (ap counter_of same)
            (ap (λ ws. map cell_in (cell_words ws)) same) (subst (λ ws. AreWords (cell_words ws)) (sym same) k.cells)
            (right_learned (IsCellAt b.instance) old id v.worker p k.right there filled)),
        (
          (λ empty. absurd (full empty)),
          (λ _. (
            refl,
            subst IsCellWord (sym is) (k.cells p (λ e. full (is ∙ e))),
            subst (λ (z : BriefOf × ℕ). (n / 32 - 1, n % 32) ≡ cell_for z.0.instance (get_or (masks_of z.0.layer) z.1 0)) (λ j. (sym brief j, sym place j))
                (subst (λ (o : Option (ℕ × ℕ)). IfSome o (IsCellAt b.instance (get_or (masks_of b.layer) p 0))) (shown ∙ full_word n full)
                (k.right.true_cells p)),
          )),
        ),
      ))
    where
      decide : (t : Bool) → (t ≡ true → ⊥) → t ≡ false
      decide true h = absurd (h refl)
      decide false h = refl

  pub may_post : (p new : ℕ) (cell : ℕ × ℕ) → p < length (masks_of v.brief.layer) →
      claimed v.worker (get_or (layout_of v.brief.layer).block_of p 0) ≡ true → IsCellWord new → cell_in new ≡ Some cell →
      cell ≡ cell_for v.brief.instance (get_or (masks_of v.brief.layer) p 0)
      → Allows (Kept b) slots id me (suc p) (λ n. either (eqb n 0) new n) (posts (step slots (suc p) 0 new none) me)
  may_post p new cell low mine word stands true_cell s k _ at _ =
      let n : ℕ = get_or s.words (suc p) 0 in let old : World = state_shown b.layer s.words s.views in let there = at_map worker_of s.views id v at in
      let is : n ≡ get_or (cell_words s.words) p 0 = cell_read s.words p in let place : suc p - 1 ≡ p = omega arith in
      let shown : cell_at old p ≡ cell_in n = cell_shown (cell_words s.words) p ∙ ap cell_in (sym is) in
      let brief : v.brief ≡ b = (k.briefs id v at).0 in
      let mine' : claimed v.worker (get_or (layout_of b.layer).block_of p 0) ≡ true =
      subst (λ (z : BriefOf). claimed v.worker (get_or (layout_of z.layer).block_of p 0) ≡ true) brief mine in
      dite (ℕ_discrete n 0)
      (λ empty. let w : SeatView = after v (learns v.worker p) 1 in (
        after v (learns v.worker (suc p - 1)) 1,
        keeps,
        tt,
        subst (λ (z : ℕ × Bool). Kept b record
            { words = set s.words (suc p) (either z.1 new n); homes = s.homes; views = set s.views id (after v (learns v.worker z.0) 1) })
            (λ j. (sym place j, sym (eq-eqb n 0 empty) j))
            (placed b s k (suc p) new id (counter_of s.words) (set (map cell_in (cell_words s.words)) p (Some cell)) v w at refl refl
            (counter_set_cell s.words p new)
            (ap (map cell_in) (cells_set s.words p new) ∙ (cells_shown_set (cell_words s.words) p new ∙ ap (set (map cell_in (cell_words s.words)) p) stands))
            (subst AreWords (sym (cells_set s.words p new)) (words_set (cell_words s.words) p new k.cells word))
            (right_filled (IsCellAt b.instance) old id v.worker p cell k.right there (subst (λ (z : BriefOf). p < length (masks_of z.layer)) brief low) mine'
            (subst (λ (z : BriefOf). cell ≡ cell_for z.instance (get_or (masks_of z.layer) p 0)) brief true_cell))),
        ((λ _. refl), (λ full. absurd (full empty))),
      ))
      (λ full. let filled : cell_at old p ≢ None = (λ e. shown_empty n full (sym shown ∙ e)) in (
        after v v.worker 0,
        keeps,
        tt,
        subst (λ (z : Bool). Kept b record
            { words = set s.words (suc p) (either z new n); homes = s.homes; views = set s.views id (after v v.worker 0) })
            (sym (ne_eqb n 0 full)) (still_kept s k at p),
        (
          (λ empty. absurd (full empty)),
          (λ _. (
            refl,
            subst (λ (z : ℕ). knows v.worker z ≡ true) (sym place)
                (filled_is_mine (IsCellAt b.instance) old id v.worker p k.right there mine' filled),
          )),
        ),
      ))

  pub may_read_at : (word p : ℕ) → word ≡ p + 1 → Allows (Kept b) slots id me word (λ n. n) (reads (step slots word 0 0 none) me)
  may_read_at word p is = subst (λ (z : ℕ). Allows (Kept b) slots id me z (λ n. n) (reads (step slots z 0 0 none) me)) (sym (is ∙ add-one p)) (may_read p)

  pub may_post_at : (word p new : ℕ) (cell : ℕ × ℕ) → word ≡ p + 1 → p < length (masks_of v.brief.layer) →
      claimed v.worker (get_or (layout_of v.brief.layer).block_of p 0) ≡ true → IsCellWord new → cell_in new ≡ Some cell →
      cell ≡ cell_for v.brief.instance (get_or (masks_of v.brief.layer) p 0)
      → Allows (Kept b) slots id me word (λ n. either (eqb n 0) new n) (posts (step slots word 0 new none) me)
  may_post_at word p new cell is low mine whole stands true_cell =
      subst (λ (z : ℕ). Allows (Kept b) slots id me z (λ n. either (eqb n 0) new n) (posts (step slots z 0 new none) me))
      (sym (is ∙ add-one p)) (may_post p new cell low mine whole stands true_cell)

-- a new seat, of a worker that made no step
pub may_split : (b : BriefOf) (id : ℕ) (v : SeatView) → 1 < v.seats → Splits {S = Unit {0}} (Kept b) id v (one_left v) (fresh v.brief 1)
may_split b id v more s k at =
    let old = k.briefs id v at in let there = at_map worker_of s.views id v at in
    let same : map worker_of (set s.views id (one_left v) ++ fresh v.brief 1 ∷ []) ≡ map worker_of s.views ++ blank (layout_of b.layer) ∷ [] =
    map-append worker_of (set s.views id (one_left v)) (fresh v.brief 1 ∷ [])
    ∙ (ap (λ (l : List Worker). l ++ blank (layout_of v.brief.layer) ∷ [])
    (map-set worker_of s.views id (one_left v) ∙ set_again (map worker_of s.views) id v.worker there)
    ∙ ap (λ (z : BriefOf). map worker_of s.views ++ blank (layout_of z.layer) ∷ []) old.0) in record {
      size = k.size;
      cells = k.cells;
      right = subst
          (λ (z : List Worker). Right (IsCellAt b.instance) record
          { layout = layout_of b.layer; counter = counter_of s.words; cells = map cell_in (cell_words s.words); workers = z })
          (sym same)
          (right_joined (IsCellAt b.instance) (layout_of b.layer) (counter_of s.words) (map cell_in (cell_words s.words)) (map worker_of s.views) k.right);
      briefs = each_snoc (λ (u : SeatView). (u.brief ≡ b) × (0 < u.seats)) (set s.views id (one_left v)) (fresh v.brief 1)
          (each_set (λ j (u : SeatView). (u.brief ≡ b) × (0 < u.seats)) s.views id (one_left v) k.briefs (old.0, omega arith)) (old.0, omega arith);
      seats = let t = sum_at (λ (u : SeatView). u.seats) s.views id v (one_left v) at in
          let u = total_snoc (λ (u : SeatView). u.seats) (set s.views id (one_left v)) (fresh v.brief 1) in omega arith;
      few = k.few;
    }

-- the words of a new board
pub may_open : (b : BriefOf) (words : List ℕ) → words ≡ replicate (length (masks_of b.layer) + 1) 0 → 0 < b.workers → b.workers ≤ 64 →
    Kept b (opening {S = Unit {0}} words [] (first_view b))
may_open b words is some_worker few =
    let c : ℕ = length (masks_of b.layer) in
    let is' : words ≡ 0 ∷ replicate c 0 = is ∙ ap (λ (n : ℕ). replicate n 0) (add-one c) in
    let same : state_shown b.layer words (first_view b ∷ []) ≡ machine.opening (layout_of b.layer) 1 =
    λ i. record {
      layout = layout_of b.layer;
      counter = counter_of (is' i);
      cells = (ap (λ ws. map cell_in (cell_words ws)) is' ∙ no_words c) i;
      workers = blank (layout_of b.layer) ∷ [];
    } in
    record {
      size = ap length is ∙ length-same (c + 1) 0;
      cells = λ p full. absurd (full (ap (λ ws. get_or (cell_words ws) p 0) is' ∙ all_zero c p 0));
      right = subst (Right (IsCellAt b.instance)) (sym same) (right_opening (IsCellAt b.instance) (layout_of b.layer) 1 (laid b.layer));
      briefs = each_snoc (λ (u : SeatView). (u.brief ≡ b) × (0 < u.seats)) [] (first_view b) (λ j u e. absurd (some-ne-none u (sym e))) (refl, some_worker);
      seats = omega arith;
      few = few;
    }
  where
    all_zero : (n p z : ℕ) → get_or (replicate n z) p z ≡ z
    all_zero zero p z = refl
    all_zero (suc n) zero z = refl
    all_zero (suc n) (suc p) z = all_zero n p z

-- what a step on the word p + 1 tells, at the place p
pub posted_at : (slots p a b n : ℕ) (m m' : Sat) → posts (step slots (p + 1) a b none) m n m' → posts_at p m n m'
posted_at slots p a b n m m' ended = let place : p + 1 - 1 ≡ p = omega arith in subst (λ (k : ℕ). posts_at k m n m') place ended

pub read_at : (slots p a b n : ℕ) (m m' : Sat) → reads (step slots (p + 1) a b none) m n m' → reads_at p m n m'
read_at slots p a b n m m' ended = let place : p + 1 - 1 ≡ p = omega arith in subst (λ (k : ℕ). reads_at k m n m') place ended
