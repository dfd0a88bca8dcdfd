-- Class numbers of the subfunctions of a level, from those of the level below.
--     reach_last      the subfunctions below a level, from those above it
--     Tells n fs cs      two functions have one number just where they are the same
--     tells_above, dependents_are_pairs      the numbers of the pairs, and the count of unequal ones
use Rattle.std.proofs.Common.{◌≡◌, ◌↔◌, ℕ, zero, suc, ◌+◌, ◌-◌, ◌*◌, ◌/◌, ◌^◌, ◌<◌, ◌≤◌, Bool, true, false, not, List, [], ◌∷◌, ◌++◌, length, map, take, get_or, set, refl, sym, ap, ◌∙◌, arith, subst, inl, inr, eqb-true, eq-eqb}
use Rattle.std.specs.List.{flat_map, filter, range_with_len}
use Rattle.std.specs.Set.{distinct_count}
use Rattle.std.proofs.lemmas.List.{get_or-set_other, get_or-set_same, length-append, length-set, length-take-le, take_more}
use Rattle.std.proofs.lemmas.Nat.{pow-add, pow_pos}
use Rattle.std.proofs.lemmas.List.FromFn.{fill_by_all}
use Rattle.definitions.specs.Functions.{Point, Function, bit, restrict, SameFunction, table, same_table, depends}
use Rattle.definitions.specs.Levels.{subfunctions, reach, dependents, level_count, level_counts}
use Rattle.definitions.specs.Widths.{same_pair}
use Rattle.definitions.proofs.Widths.ClassPairs.{count_alike, pair_decides, filter_map_same}
use Rattle.definitions.proofs.Nodes.Construction.{own_restriction}
use Rattle.definitions.proofs.Lists.Orders.{same_bool}
use Rattle.definitions.proofs.Lists.Sets.{Among, among_from_filter}
use Rattle.definitions.proofs.Functions.Tables.{restrict_same, table_same, same_from_table, same_table_decides}
use Rattle.truth_table.specs.Numberings.{IsNumbering, is_unequal, pair_at, pairs_of, unequal_count}
use Rattle.truth_table.proofs.PairNumbers.{length-pairs_of, get_or-pairs_of}
use mathlib.Core.List.{map-map}
use Rattle.definitions.proofs.Widths.Parts.{reach_parts}
use Rattle.definitions.proofs.Widths.SizeBounds.{length-subfunctions}

abbrev pub both_restricted : ℕ → Function → List Function
both_restricted x g = restrict x false g ∷ restrict x true g ∷ []

abbrev pub restricted : ℕ → List Function → List Function
restricted x fs = flat_map (both_restricted x) fs

pub reach_last : (F : List Function) (xs : List ℕ) (x : ℕ) → reach F (xs ++ x ∷ []) ≡ restricted x (reach F xs)
unfolding reach subfunctions
reach_last F xs x = reach_parts F xs (x ∷ [])

pub length-reach : (F : List Function) (xs : List ℕ) → length (reach F xs) ≡ length F * 2 ^ length xs
unfolding reach
length-reach F xs = go F
  where
    go : (fs : List Function) → length (flat_map (subfunctions xs) fs) ≡ length fs * 2 ^ length xs
    go [] = omega arith
    go (f ∷ fs) =
        let r = go fs in
        grind (arith, length-subfunctions, length-append)

-- ---- functions by their places

abbrev pub none : Function
none p = false

abbrev pub function_at : List Function → ℕ → Function
function_at fs j = get_or fs j none

pub length-restricted : (x : ℕ) (fs : List Function) → length (restricted x fs) ≡ 2 * length fs
length-restricted x [] = omega arith
length-restricted x (f ∷ fs) = omega (arith, length-restricted x fs)

pub lower_at : (x : ℕ) (fs : List Function) (j : ℕ) → j < length fs → function_at (restricted x fs) (2 * j) ≡ restrict x false (function_at fs j)
lower_at x [] j h = absurd (omega arith)
lower_at x (f ∷ fs) zero h = refl
lower_at x (f ∷ fs) (suc j) h = grind (arith, lower_at x fs j (omega arith))

pub upper_at : (x : ℕ) (fs : List Function) (j : ℕ) → j < length fs → function_at (restricted x fs) (2 * j + 1) ≡ restrict x true (function_at fs j)
upper_at x [] j h = absurd (omega arith)
upper_at x (f ∷ fs) zero h = refl
upper_at x (f ∷ fs) (suc j) h = grind (arith, upper_at x fs j (omega arith))

-- two functions have one number just where they are the same
pub record Tells (n : ℕ) (fs : List Function) (cs : List ℕ) : Type 0 where
  pub long : length cs ≡ length fs
  pub apart : (j k : ℕ) → j < length fs → k < length fs → (get_or cs j 0 ≡ get_or cs k 0) ↔ (table n (function_at fs j) ≡ table n (function_at fs k))

-- ---- one level up

among_range : (len a j : ℕ) → Among j (range_with_len a len) → (a ≤ j) × (j < a + len)
among_range zero a j h = absurd h
among_range (suc len) a j h = elim h [
  | inl e ↦ (omega arith, omega arith)
  | inr r ↦ (let s = among_range len (a + 1) j r in (omega arith, omega arith))
]

module _ (n x : ℕ) (fs : List Function) (cs : List ℕ) (t : Tells n (restricted x fs) cs) where
  half_long : length cs / 2 ≡ length fs
  half_long = omega (arith, length-restricted x fs)

  -- one of the two restrictions of a function
  place_of : Bool → ℕ → ℕ
  place_of true j = 2 * j + 1
  place_of false j = 2 * j

  place_small : (b : Bool) (j : ℕ) → j < length fs → place_of b j < length (restricted x fs)
  unfolding place_of
  place_small true j h = omega (arith, length-restricted x fs)
  place_small false j h = omega (arith, length-restricted x fs)

  at_place : (b : Bool) (j : ℕ) → j < length fs → function_at (restricted x fs) (place_of b j) ≡ restrict x b (function_at fs j)
  unfolding place_of
  at_place true j h = upper_at x fs j h
  at_place false j h = lower_at x fs j h

  part : Bool → ℕ → ℕ
  part b j = get_or cs (place_of b j) 0

  -- equal classes are equal restrictions
  tells : (b c : Bool) (j k : ℕ) → j < length fs → k < length fs →
      (part b j ≡ part c k → table n (restrict x b (function_at fs j)) ≡ table n (restrict x c (function_at fs k)))
      × (table n (restrict x b (function_at fs j)) ≡ table n (restrict x c (function_at fs k)) → part b j ≡ part c k)
  unfolding part
  tells b c j k h i = grind (arith, place_small, at_place)

  both_tell : (j k : ℕ) → j < length fs → k < length fs →
      (table n (function_at fs j) ≡ table n (function_at fs k) → pair_at cs j ≡ pair_at cs k)
      × (pair_at cs j ≡ pair_at cs k → table n (function_at fs j) ≡ table n (function_at fs k))
  unfolding part place_of SameFunction
  both_tell j k h i = (
    λ e.
        let same = same_from_table n (function_at fs j) (function_at fs k) e in
        let low = (tells false false j k h i).1
        (table_same n (restrict x false (function_at fs j)) (restrict x false (function_at fs k))
        (restrict_same n x false (function_at fs j) (function_at fs k) same)) in
        let high = (tells true true j k h i).1
        (table_same n (restrict x true (function_at fs j)) (restrict x true (function_at fs k))
        (restrict_same n x true (function_at fs j) (function_at fs k) same)) in
        λ d. (low d, high d),
    λ e.
        let low = same_from_table n (restrict x false (function_at fs j)) (restrict x false (function_at fs k))
        ((tells false false j k h i).0 (ap (λ u. u.0) e)) in
        let high = same_from_table n (restrict x true (function_at fs j)) (restrict x true (function_at fs k))
        ((tells true true j k h i).0 (ap (λ u. u.1) e)) in
        table_same n (function_at fs j) (function_at fs k)
        (λ p l. sym (own_restriction x (function_at fs j) p) ∙ by p (bit p x) (low p l) (high p l)
        ∙ own_restriction x (function_at fs k) p),
  )
    where
      by : (p : Point) (b : Bool) → restrict x false (function_at fs j) p ≡ restrict x false (function_at fs k) p →
          restrict x true (function_at fs j) p ≡ restrict x true (function_at fs k) p →
          restrict x b (function_at fs j) p ≡ restrict x b (function_at fs k) p
      by p true low high = high
      by p false low high = low

  -- the numbers of the pairs tell the functions apart
  pub tells_above : (ns : List ℕ) → IsNumbering (pairs_of cs) ns → Tells n fs ns
  tells_above ns m = grind (arith, length-pairs_of, half_long, get_or-pairs_of, both_tell)

  -- a function depends on x just where its classes are unequal
  depends_by_parts : (j : ℕ) → j < length fs → depends n (function_at fs j) x ≡ is_unequal (pair_at cs j)
  unfolding depends part place_of
  depends_by_parts j h = ap not (same_bool _ _
      (λ e. eq-eqb _ _
      ((tells false true j j h h).1
      ((same_table_decides (table n (restrict x false (function_at fs j))) (table n (restrict x true (function_at fs j)))).0 e)))
      (λ e. (same_table_decides (table n (restrict x false (function_at fs j))) (table n (restrict x true (function_at fs j)))).1
      ((tells false true j j h h).0 (eqb-true _ _ e))))

  places : List ℕ
  places = range_with_len 0 (length fs)

  inside : (j : ℕ) → Among j places → j < length fs
  unfolding places
  inside j h = omega (arith, among_range (length fs) 0 j h)

  -- the functions that depend on x are as many as the pairs with unequal parts
  pub dependents_are_pairs : dependents n fs x ≡ unequal_count (pairs_of cs)
  unfolding dependents unequal_count pairs_of places
  dependents_are_pairs =
      let kept : ℕ → Bool = λ j. depends n (function_at fs j) x in
      let all : fs ≡ map (function_at fs) places = fill_by_all (function_at fs) fs (length fs) none refl (λ k h. refl) in
      let chosen : filter (λ f. depends n f x) fs ≡ map (function_at fs) (filter kept places) =
      grind (arith, filter_map_same) in
      let pairs : filter is_unequal (map (pair_at cs) (range_with_len 0 (length cs / 2))) ≡ map (pair_at cs) (filter kept places) =
      search (half_long, filter_map_same, depends_by_parts, inside) in
      ap (λ gs. distinct_count same_table (map (table n) gs)) chosen ∙ ap (distinct_count same_table) (map-map (table n) (function_at fs) (filter kept places))
      ∙ count_alike same_table same_table_decides same_pair pair_decides (λ j. table n (function_at fs j)) (pair_at cs) (filter kept places)
      (λ j k a b. both_tell j k (inside j (among_from_filter kept j places a).0) (inside k (among_from_filter kept k places b).0))
      ∙ ap (distinct_count same_pair) (sym pairs)

-- ---- the levels, from the bottom up

module _ (n : ℕ) (F : List Function) (order : List ℕ) (level : ℕ) (h : level < length order) where
  reach_level : reach F (take (level + 1) order) ≡ restricted (get_or order level 0) (reach F (take level order))
  reach_level = ap (reach F) (take_more order level 0 h) ∙ reach_last F (take level order) (get_or order level 0)

  module _ (cs : List ℕ) (t : Tells n (reach F (take (level + 1) order)) cs) where
    below : Tells n (restricted (get_or order level 0) (reach F (take level order))) cs
    below = subst (λ (fs : List Function). Tells n fs cs) reach_level t

    pub level_up : (ns : List ℕ) → IsNumbering (pairs_of cs) ns → Tells n (reach F (take level order)) ns
    level_up ns m = tells_above n (get_or order level 0) (reach F (take level order)) cs below ns m

    pub level_counted : (unequal : ℕ) → unequal ≡ unequal_count (pairs_of cs) → unequal ≡ level_count n F order level
    unfolding level_count
    level_counted unequal e = e ∙ sym (dependents_are_pairs n (get_or order level 0) (reach F (take level order)) cs below)

pub counts_more : (count : ℕ → ℕ) (counts : List ℕ) (level top unequal : ℕ) → level < length counts → unequal ≡ count level →
    ((i : ℕ) → level + 1 ≤ i → i < top → get_or counts i 0 ≡ count i) → (i : ℕ) → level ≤ i → i < top → get_or (set counts level unequal) i 0 ≡ count i
counts_more count counts level top unequal h e done i l k = grind (arith, get_or-set_same, get_or-set_other)

pub counts_whole : (n : ℕ) (F : List Function) (order counts : List ℕ) → length counts ≡ length order →
    ((i : ℕ) → i < length order → get_or counts i 0 ≡ level_count n F order i) → counts ≡ level_counts n F order
unfolding level_counts
counts_whole n F order counts l h = fill_by_all (level_count n F order) counts (length order) 0 l h

pub few_blocks : (k : ℕ) → k ≤ 16 → 2 ^ k ≤ 65536
few_blocks k h = grows k (16 - k) (omega arith)
  where
    grows : (a b : ℕ) → a + b ≡ 16 → 2 ^ a ≤ 65536
    grows a b e =
        let p = pow_pos b in
        let s = pow-add 2 a b in
        grind arith

pub few_classes : (n : ℕ) (F : List Function) (order : List ℕ) (level : ℕ) (cs : List ℕ) → length F ≤ 16 → length order ≤ 16 →
    level ≤ length order → Tells n (reach F (take level order)) cs → length cs < 4294967296
few_classes n F order level cs m o l t = grind (arith, length-reach, length-take-le, few_blocks)

-- the program's step from a level to the one above
pub level_step : (n : ℕ) (F : List Function) (order : List ℕ) (level : ℕ) (cs classes ns counts : List ℕ) (unequal : ℕ) → 0 < level →
    level ≤ length order → Tells n (reach F (take level order)) cs → classes ≡ cs →
    IsNumbering (pairs_of classes) ns → unequal ≡ unequal_count (pairs_of classes) → length counts ≡ length order →
    ((i : ℕ) → level ≤ i → i < length order → get_or counts i 0 ≡ level_count n F order i) →
    Tells n (reach F (take (level - 1) order)) ns × (length (set counts (level - 1) unequal) ≡ length order)
    × ((i : ℕ) → level - 1 ≤ i → i < length order → get_or (set counts (level - 1) unequal) i 0 ≡ level_count n F order i)
level_step n F order level cs classes ns counts unequal some within t e m u l done =
    let next : level ≡ (level - 1) + 1 = omega arith in
    let below = subst (λ (k : ℕ). Tells n (reach F (take k order)) classes) next (subst (Tells n (reach F (take level order))) (sym e) t) in
    let here : level - 1 < length order = omega arith in (
      level_up n F order (level - 1) here classes below ns m,
      length-set counts (level - 1) unequal ∙ l,
      counts_more (level_count n F order) counts (level - 1) (length order) unequal (omega arith)
          (level_counted n F order (level - 1) here classes below unequal u)
          (λ i a b. done i (omega arith) b),
    )
