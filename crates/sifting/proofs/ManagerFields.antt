-- What the fields of a manager hold.
--     nodes_get, nodes_set, length-nodes      the nodes of a list of levels
--     few_at, level_at      a bound on the nodes of a level; a level over the next one
--     held_order, held_levels, held_size, held_small      the order, the level counts, the size and its bound
--     level_swap_held      the same with two adjacent levels swapped
use Rattle.std.proofs.Common.{◌≡◌, ℕ, zero, suc, ◌+◌, ◌*◌, ◌^◌, ◌<◌, ◌≤◌, Bool, false, List, [], ◌∷◌, map, length, set, get_or, swap, refl, sym, ap, ◌∙◌, subst, arith, add-one, pow-suc, ap₂}
use Rattle.std.specs.List.{sum, sum_by}
use Rattle.std.proofs.Math.Nat.{pow-le-pow_right, mul-le-mul_left}
use Rattle.std.proofs.lemmas.Nat.{pow_pos}
use Rattle.std.proofs.lemmas.List.{length-map, length-set}
use Rattle.std.proofs.lemmas.List.FromFn.{get_or-map-range_with_len}
use Rattle.std.proofs.lemmas.List.Sums.{sum_by-cons}
use Rattle.definitions.specs.Functions.{Function, SameFunction, table, from_table}
use Rattle.definitions.specs.Orders.{IsOrder}
use Rattle.definitions.specs.Pairs.{has_pair}
use Rattle.definitions.specs.KeptPairs.{KeptPairs}
use Rattle.definitions.specs.Problems.{functions}
use Rattle.definitions.specs.Levels.{level_count, level_counts, size_under}
use Rattle.definitions.proofs.Functions.Tables.{table_same, same_refl}
use Rattle.definitions.proofs.Functions.Same.{tables_same, level_counts_same}
use Rattle.definitions.proofs.Lists.Swaps.{crossed, crossed_is, order_crossed, length_crossed}
use Rattle.sifting.specs.declared.levels.Level.{Level}
use Rattle.sifting.specs.Leveled.{Children, function_at, places, branching, HasChildren, AreLevels, AreRoots, SwapsLevels}
use Rattle.sifting.specs.LevelLists.{nodes_of, problem_at, HoldsDiagram}
use Rattle.sifting.specs.Managed.{Managed, size_of, count_of, IsManagedOrder}
use Rattle.sifting.proofs.BranchingNodes.{branching_few}
use Rattle.sifting.proofs.Counts.{roots_cover, all_counts}
use Rattle.sifting.proofs.SwappedLevels.{At, placed, places_placed, levels_placed, path_placed}
use Rattle.sifting.proofs.OrderSwaps.{keeps_crossed}
use mathlib.Core.List.{map-map}

-- ---- the nodes of a list of levels

pub nodes_get : (levels : List Level) (i : ℕ) (d : Level) → i < length levels → get_or (nodes_of levels) i [] ≡ (get_or levels i d).nodes.items
unfolding nodes_of
nodes_get [] i d h = absurd (omega arith)
nodes_get (l ∷ levels) zero d h = refl
nodes_get (l ∷ levels) (suc i) d h = nodes_get levels i d (omega arith)

pub nodes_set : (levels : List Level) (i : ℕ) (l : Level) → nodes_of (set levels i l) ≡ set (nodes_of levels) i l.nodes.items
unfolding nodes_of
nodes_set [] i l = refl
nodes_set (m ∷ levels) zero l = refl
nodes_set (m ∷ levels) (suc i) l = ap (λ ms. m.nodes.items ∷ ms) (nodes_set levels i l)

pub length-nodes : (levels : List Level) → length (nodes_of levels) ≡ length levels
unfolding nodes_of
length-nodes levels = length-map levels (λ (l : Level). l.nodes.items)

-- the counts that the levels keep
pub kept_counts : (levels : List Level) → map branching (nodes_of levels) ≡ map (λ (l : Level). l.count) levels
unfolding nodes_of
kept_counts [] = refl
kept_counts (l ∷ levels) = ap₂ (λ m ms. m ∷ ms) (sym l.counted) (kept_counts levels)

-- ---- bounds

pub twice : (m k : ℕ) → 2 * m * 2 ^ k ≡ m * 2 ^ suc k
twice m k = grind (arith, pow-suc)

grown : (m k : ℕ) → m ≤ m * 2 ^ k
grown m k = let h : 1 ≤ 2 ^ k = omega (arith, pow_pos k) in omega (arith, mul-le-mul_left m h)

-- all nodes and some more are at most as many as a full tree's
levels_small : (most : ℕ) (T : List Bool) (levels : List (List Children)) → AreLevels most T levels →
    sum (map branching levels) + most ≤ most * 2 ^ length levels
levels_small most T [] ok = omega (arith, pow-suc 2 0)
levels_small most T (L ∷ levels) ok =
    let rest = levels_small (2 * most) T levels ok.2 in
    let few = branching_few L in
    let bound = ok.1 in
    let e = pow-suc 2 (length levels) in
    let s = sum_by-cons (λ (z : ℕ). z) (branching L) (map branching levels) in
    let f = twice most (length levels) in
    omega arith

pub few_at : (most : ℕ) (T : List Bool) (levels : List (List Children)) (i : ℕ) → i < length levels → AreLevels most T levels →
    length (get_or levels i []) ≤ most * 2 ^ length levels
few_at most T [] i h ok = absurd (omega arith)
few_at most T (L ∷ levels) zero h ok = let few = ok.1 in let g = grown most (suc (length levels)) in omega arith
few_at most T (L ∷ levels) (suc i) h ok = grind (arith, twice, few_at (2 * most) T levels i (omega arith) ok.2)

-- with at most 16 roots and 16 levels they are below 2 ^ 20 + 1
pub small_bound : (n : ℕ) → n ≤ 16 → 16 * 2 ^ n ≤ 1048576
small_bound n h = let e = pow-le-pow_right {n = 2} (omega arith) h in omega arith

-- a level's children are places of the next one
pub level_at : (most : ℕ) (T : List Bool) (levels : List (List Children)) (i : ℕ) → suc i < length levels → AreLevels most T levels →
    HasChildren (length (get_or levels (suc i) [])) (get_or levels i [])
level_at most T [] i h ok = absurd (omega arith)
level_at most T (L ∷ []) i h ok = absurd (omega arith)
level_at most T (L ∷ M ∷ levels) zero h ok = ok.0.inside
level_at most T (L ∷ M ∷ levels) (suc i) h ok = level_at (2 * most) T (M ∷ levels) i (omega arith) ok.2

-- ---- the level counts

map_get : (f : ℕ → Function) (roots : List ℕ) (j : ℕ) (d : Function) → j < length roots → get_or (map f roots) j d ≡ f (get_or roots j 0)
map_get f [] j d h = absurd (omega arith)
map_get f (r ∷ roots) zero d h = refl
map_get f (r ∷ roots) (suc j) d h = map_get f roots j d (omega arith)

module _ (levels : List (List Children)) (T : List Bool) (order roots : List ℕ) (kept : KeptPairs) (held : HoldsDiagram levels T order roots kept) where
  n : ℕ
  n = length order

  f : ℕ → Function
  f r = function_at levels T order r

  pub held_levels : level_counts (problem_at levels T order roots).inputs (functions (problem_at levels T order roots)) order ≡ map branching levels
  unfolding problem_at n f
  held_levels =
      let cover =
      roots_cover (length order) levels T order roots (map (λ r. function_at levels T order r) roots) held.leveled.roots_are
      (length-map roots (λ r. function_at levels T order r))
      (λ j g h. subst (λ k. SameFunction (length order) k (function_at levels T order (get_or roots j 0)))
      (sym (map_get (λ r. function_at levels T order r) roots j g h))
      (same_refl (length order) (function_at levels T order (get_or roots j 0)))) in
      ap (λ ts. level_counts (length order) (map from_table ts) order) (sym (map-map (table (length order)) (λ r. function_at levels T order r) roots))
      ∙ level_counts_same (length order) (map from_table (map (table (length order)) (map (λ r. function_at levels T order r) roots)))
      (map (λ r. function_at levels T order r) roots) (tables_same (length order) (map (λ r. function_at levels T order r) roots)) order
      ∙ all_counts (length order) 16 T (map (λ r. function_at levels T order r) roots) levels order held.is_order held.leveled.terminals_are
      held.leveled.long held.leveled.levels_are cover

  pub held_order : IsManagedOrder (record { order = order; problem = problem_at levels T order roots; pairs = kept.pairs })
  unfolding problem_at
  held_order = record { inputs = refl; few = held.few; is_order = held.is_order; kept = held.keeps }

  pub held_size : size_under (problem_at levels T order roots).inputs (functions (problem_at levels T order roots)) order ≡ sum (map branching levels)
  unfolding size_under
  held_size = ap sum held_levels

  pub held_count : (i : ℕ) → i < length order →
      level_count (problem_at levels T order roots).inputs (functions (problem_at levels T order roots)) order i ≡ get_or
      (map branching levels) i 0
  unfolding level_counts
  held_count i h = grind (arith, get_or-map-range_with_len, held_levels)

  pub held_small : sum (map branching levels) ≤ 1048576
  held_small = grind (arith, levels_small, small_bound)

  -- the two levels with their variables swapped
  module _ (i : ℕ) (inside : i + 1 < length order) (lawful : has_pair kept.pairs (get_or order i 0) (get_or order (i + 1) 0) ≡ false)
      (upper' lower' : List Children)
      (ex : SwapsLevels (get_or levels i []) (get_or levels (suc i) []) upper' lower') where
    at_i : At levels i (get_or levels i []) (get_or levels (suc i) [])
    at_i = record { upper_is = refl; lower_is = refl; inside = let e = held.leveled.long in omega arith }

    same_value : (r : ℕ) → r < places levels T →
        SameFunction (length order) (function_at (placed levels i upper' lower') T (crossed order i) r) (function_at levels T order r)
    unfolding SameFunction function_at at_i
    same_value r h p l =
        ap (λ k. get_or T k false)
        (path_placed T (get_or levels i []) (get_or levels (suc i) []) upper' lower' ex 16 levels i order r p at_i
        held.leveled.levels_are held.leveled.long h)

    same_tables : (rs : List ℕ) → ((j : ℕ) → j < length rs → get_or rs j 0 < places levels T) →
        map (λ r. table (length order) (function_at (placed levels i upper' lower') T (crossed order i) r)) rs ≡ map
        (λ r. table (length order) (function_at levels T order r)) rs
    same_tables [] h = refl
    same_tables (r ∷ rs) h =
        ap₂ (λ t ts. t ∷ ts)
        (table_same (length order) (function_at (placed levels i upper' lower') T (crossed order i) r) (function_at levels T order r)
        (same_value r (h 0 (omega arith))))
        (same_tables rs (λ j k. h (suc j) (omega arith)))

    pub swapped_problem : problem_at (placed levels i upper' lower') T (crossed order i) roots ≡ problem_at levels T order roots
    unfolding problem_at
    swapped_problem =
        let long = length_crossed order i in
        (λ k. record { inputs = long k; tables = map (λ r. table (long k) (function_at (placed levels i upper' lower') T (crossed order i) r)) roots })
        ∙ ap (λ ts. record { inputs = length order; tables = ts }) (same_tables roots held.leveled.roots_are.inside)

    pub swapped_held : HoldsDiagram (placed levels i upper' lower') T (crossed order i) roots kept
    swapped_held = record {
      leveled = record {
        long = length-set (set levels i upper') (suc i) lower' ∙ length-set levels i upper' ∙ held.leveled.long ∙ sym (length_crossed order i);
        levels_are = levels_placed T (get_or levels i []) (get_or levels (suc i) []) upper' lower' ex 16 levels i at_i held.leveled.levels_are;
        roots_are =
            subst (λ m. AreRoots m roots)
            (sym (places_placed T (get_or levels i []) (get_or levels (suc i) []) upper' lower' ex levels i at_i))
            held.leveled.roots_are;
        terminals_are = held.leveled.terminals_are;
      };
      few = let e = length_crossed order i in let h = held.few in omega arith;
      is_order = subst (λ m. IsOrder m (crossed order i)) (sym (length_crossed order i)) (order_crossed (length order) order i held.is_order);
      inputs = held.inputs ∙ sym (length_crossed order i);
      keeps = keeps_crossed kept.pairs order i (omega arith)
          (ap (λ m. has_pair kept.pairs (get_or order i 0) (get_or order m 0)) (sym (add-one i)) ∙ lawful) held.keeps;
    }

-- ---- what the levels keep

kept_sum : (levels : List Level) → sum (map branching (nodes_of levels)) ≡ sum_by (λ (l : Level). l.count) levels
unfolding nodes_of
kept_sum [] = refl
kept_sum (l ∷ levels) =
    sum_by-cons (λ (z : ℕ). z) (branching l.nodes.items) (map branching (nodes_of levels))
    ∙ ap₂ (λ a b. a + b) (sym l.counted) (kept_sum levels) ∙ sym (sum_by-cons (λ (m : Level). m.count) l levels)

module _ (levels : List Level) (T : List Bool) (order roots : List ℕ) (kept : KeptPairs)
    (held : HoldsDiagram (nodes_of levels) T order roots kept) (items : List Level) (same : items ≡ levels) where
  pub sum_small : sum_by (λ (l : Level). l.count) items ≤ 1048576
  sum_small = let a = held_small (nodes_of levels) T order roots kept held in let b = kept_sum levels in
      let e = ap (sum_by (λ (l : Level). l.count)) same in omega arith

  pub sum_is_size : (m : Managed) → record { order = order; problem = problem_at (nodes_of levels) T order roots; pairs = kept.pairs } ≡ m →
      sum_by (λ (l : Level). l.count) items ≡ size_of m
  sum_is_size m e =
      ap (sum_by (λ (l : Level). l.count)) same ∙ sym (kept_sum levels) ∙ sym (held_size (nodes_of levels) T order roots kept held) ∙ ap size_of e

  pub count_is : (m : Managed) → record { order = order; problem = problem_at (nodes_of levels) T order roots; pairs = kept.pairs } ≡ m →
      (i : ℕ) → i < length m.order → get_or (map (λ (l : Level). l.count) items) i 0 ≡ count_of m i
  count_is m e i h = grind (arith, kept_counts, held_count)

  pub items_long : (m : Managed) → record { order = order; problem = problem_at (nodes_of levels) T order roots; pairs = kept.pairs } ≡ m →
      (length items ≡ length m.order) × (length items ≤ 16)
  items_long m e = grind (arith, length-nodes, f)

pub counts_get : (items : List Level) (i : ℕ) (d : Level) → i < length items → get_or (map (λ (l : Level). l.count) items) i 0 ≡ (get_or items i d).count
counts_get [] i d h = absurd (omega arith)
counts_get (l ∷ items) zero d h = refl
counts_get (l ∷ items) (suc i) d h = counts_get items i d (omega arith)

-- ---- two levels of a list swapped

module _ (levels : List Level) (T : List Bool) (order roots : List ℕ) (kept : KeptPairs)
    (held : HoldsDiagram (nodes_of levels) T order roots kept) (i : ℕ) (inside : i + 1 < length order) where
  pub level_inside : (i < length levels) × (i + 1 < length levels)
  level_inside = let a = length-nodes levels in let b = held.leveled.long in (omega arith, omega arith)

  pub upper_is : (d : Level) → get_or (nodes_of levels) i [] ≡ (get_or levels i d).nodes.items
  upper_is d = nodes_get levels i d level_inside.0

  pub lower_is : (d : Level) → get_or (nodes_of levels) (suc i) [] ≡ (get_or levels (i + 1) d).nodes.items
  lower_is d = ap (λ k. get_or (nodes_of levels) k []) (sym (add-one i)) ∙ nodes_get levels (i + 1) d level_inside.1

  pub upper_few : (upper : List Children) → get_or (nodes_of levels) i [] ≡ upper → 4 * length upper ≤ 4294967296
  upper_few upper e =
      let a = length-nodes levels in
      let b = held.leveled.long in
      let h = held.few in
      let few = few_at 16 T (nodes_of levels) i (omega arith) held.leveled.levels_are in
      let bound = small_bound (length (nodes_of levels)) (omega arith) in
      let s = ap length e in
      omega arith

  pub upper_inside : (upper lower : List Children) → get_or (nodes_of levels) i [] ≡ upper → get_or (nodes_of levels) (suc i) [] ≡ lower →
      HasChildren (length lower) upper
  upper_inside upper lower e f = grind (arith, f, length-nodes, level_at)

  module _ (upper lower : List Children) (e : get_or (nodes_of levels) i [] ≡ upper) (f : get_or (nodes_of levels) (suc i) [] ≡ lower)
      (lawful : has_pair kept.pairs (get_or order i 0) (get_or order (i + 1) 0) ≡ false) (upper' lower' : Level)
      (ex : SwapsLevels upper lower upper'.nodes.items lower'.nodes.items) (order' : List ℕ) (swapped : order' ≡ swap order i (i + 1)) where
    ex' : SwapsLevels (get_or (nodes_of levels) i []) (get_or (nodes_of levels) (suc i) []) upper'.nodes.items lower'.nodes.items
    ex' = subst (λ m. SwapsLevels m (get_or (nodes_of levels) (suc i) []) upper'.nodes.items lower'.nodes.items) (sym e)
        (subst (λ m. SwapsLevels upper m upper'.nodes.items lower'.nodes.items) (sym f) ex)

    nodes_are : nodes_of (set (set levels i upper') (i + 1) lower') ≡ placed (nodes_of levels) i upper'.nodes.items lower'.nodes.items
    nodes_are =
        nodes_set (set levels i upper') (i + 1) lower' ∙ ap (λ ns. set ns (i + 1) lower'.nodes.items) (nodes_set levels i upper')
        ∙ ap (λ k. set (set (nodes_of levels) i upper'.nodes.items) k lower'.nodes.items) (add-one i)

    order_is : order' ≡ crossed order i
    order_is = swapped ∙ crossed_is order i inside

    pub level_swap_held : HoldsDiagram (nodes_of (set (set levels i upper') (i + 1) lower')) T order' roots kept
    level_swap_held =
        subst (λ o. HoldsDiagram (nodes_of (set (set levels i upper') (i + 1) lower')) T o roots kept) (sym order_is)
        (subst (λ ns. HoldsDiagram ns T (crossed order i) roots kept) (sym nodes_are)
        (swapped_held (nodes_of levels) T order roots kept held i inside lawful upper'.nodes.items lower'.nodes.items ex'))

    pub level_swap_problem : problem_at (nodes_of (set (set levels i upper') (i + 1) lower')) T order' roots ≡ problem_at (nodes_of levels) T order roots
    level_swap_problem =
        ap₂ (λ ns o. problem_at ns T o roots) nodes_are order_is
        ∙ swapped_problem (nodes_of levels) T order roots kept held i inside lawful upper'.nodes.items lower'.nodes.items ex'
