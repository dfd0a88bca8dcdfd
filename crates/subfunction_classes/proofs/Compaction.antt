-- Compaction: the class numbers over T with x number the pairs of those over T.
--     step_of n T x      2 to the number of variables below x that are outside T
--     pairs_of_classes      the pairs of entries are the pairs of classes of the functions over T and x
--     compacted      the class numbers over T with x are the numbers of these pairs by first occurrence
use Rattle.std.proofs.Common.{◌≡◌, ℕ, zero, suc, ◌+◌, ◌-◌, ◌*◌, ◌^◌, ◌<◌, ◌≤◌, Bool, true, false, not, cond, List, [], ◌∷◌, ◌++◌, map, length, reverse, refl, sym, ap, ap₂, ◌∙◌, subst, arith}
use Rattle.std.specs.List.{flat_map, filter, range_with_len}
use Rattle.std.proofs.lemmas.List.{append_assoc, map-append, reverse-append, length-append, length-map}
use Rattle.std.proofs.Common.{zero-mul}
use Rattle.std.proofs.lemmas.List.Elements.{filter-append}
use Rattle.std.proofs.lemmas.Nat.{pow_pos}
use Rattle.definitions.specs.Functions.{Function, SameFunction, restrict, table, same_table}
use Rattle.definitions.specs.Orders.{has, variables}
use Rattle.definitions.specs.Levels.{subfunctions, reach}
use Rattle.definitions.specs.Widths.{outside, entries, class_of, class_numbers, same_pair, class_pair}
use Rattle.definitions.proofs.Lists.Sets.{Among}
use Rattle.definitions.proofs.Functions.Tables.{restrict_same, table_same, same_table_decides}
use Rattle.definitions.proofs.Functions.Exchange.{reach_same, below_from_has}
use Rattle.definitions.proofs.Widths.ClassPairs.{pair_decides, has_reverse, same_by_classes}
use Rattle.definitions.proofs.Lists.Orders.{has_outside, has_variables}
use Rattle.std.proofs.lemmas.Bool.{and_parts}
use Rattle.subfunction_classes.specs.Numbering.{rank, ranks}
use Rattle.subfunction_classes.specs.Places.{pairs}
use Rattle.subfunction_classes.proofs.RankLaws.{ranks_alike}
use Rattle.subfunction_classes.proofs.Places.{Apart, subfunctions_restrict, pairs_are}
use Rattle.definitions.proofs.Lists.Maps.{flat_map_same}
use Rattle.definitions.proofs.Widths.Parts.{reach_parts}
use Rattle.subfunction_classes.proofs.Lists.{map_flat_map}
use mathlib.Core.List.{map-map}
use Rattle.definitions.proofs.Lists.Ranges.{range_append}
use Rattle.definitions.proofs.Widths.SizeBounds.{length-subfunctions}

-- ---- lists

pub filter_range_same : (p q : ℕ → Bool) (a k : ℕ) → ((y : ℕ) → a ≤ y → y < a + k → p y ≡ q y) → filter p (range_with_len a k) ≡ filter q (range_with_len a k)
filter_range_same p q a zero h = refl
filter_range_same p q a (suc k) h =
    ap₂ (λ b zs. cond b (a ∷ zs) zs) (h a (omega arith) (omega arith)) (filter_range_same p q (a + 1) k (λ y l m. h y (omega arith) (omega arith)))

apart_from_range : (p : ℕ → Bool) (x a k : ℕ) → a + k ≤ x → Apart x (filter p (range_with_len a k))
apart_from_range p x a zero l = tt
apart_from_range p x a (suc k) l = grind (arith, apart_from_range p x (a + 1) k (omega arith))

apart_append : (x : ℕ) (xs ys : List ℕ) → Apart x xs → Apart x ys → Apart x (xs ++ ys)
apart_append x [] ys a b = b
apart_append x (z ∷ xs) ys a b = (a.0, apart_append x xs ys a.1 b)

apart_reverse : (x : ℕ) (xs : List ℕ) → Apart x xs → Apart x (reverse xs)
apart_reverse x [] a = tt
apart_reverse x (z ∷ xs) a = subst (Apart x) (sym (reverse-append (z ∷ []) xs)) (apart_append x (reverse xs) (z ∷ []) (apart_reverse x xs a.1) (a.0, tt))

pub length_blocks : {X Y : Type 0} (f : X → List Y) (k : ℕ) → ((x : X) → length (f x) ≡ k) → (xs : List X) → length (flat_map f xs) ≡ length xs * k
length_blocks f k h [] = sym (zero-mul k)
length_blocks f k h (x ∷ xs) = grind (arith, length-append, length_blocks f k h xs)

-- ---- the variables outside T, below x and above it

unfoldable pub lows : List ℕ → ℕ → List ℕ
lows T x = filter (λ y. not (has T y)) (range_with_len 0 x)

highs : ℕ → List ℕ → ℕ → List ℕ
highs n T x = filter (λ y. not (has T y)) (range_with_len (x + 1) (n - suc x))

-- 2 to the number of variables below x that are outside T
unfoldable pub step_of : List ℕ → ℕ → ℕ
step_of T x = 2 ^ length (reverse (lows T x))

module _ (n : ℕ) (T : List ℕ) (x : ℕ) (small : x < n) (new : has T x ≡ false) where
  all_parts : variables n ≡ range_with_len 0 x ++ x ∷ range_with_len (x + 1) (n - suc x)
  all_parts =
      let e : n ≡ x + suc (n - suc x) = omega arith in
      grind (arith, range_append)

  outside_parts : outside n T ≡ lows T x ++ x ∷ highs n T x
  unfolding outside lows highs
  outside_parts = grind (arith, all_parts, filter-append)

  outside_rest : outside n (x ∷ T) ≡ lows T x ++ highs n T x
  unfolding outside lows highs
  outside_rest = grind (arith, all_parts, filter-append, filter_range_same)

  reverse_parts : reverse (outside n T) ≡ reverse (highs n T x) ++ x ∷ reverse (lows T x)
  reverse_parts =
      ap reverse outside_parts ∙ reverse-append (lows T x) (x ∷ highs n T x)
      ∙ ap (λ zs. zs ++ reverse (lows T x)) (reverse-append (x ∷ []) (highs n T x))
      ∙ append_assoc (reverse (highs n T x)) (x ∷ []) (reverse (lows T x))

  reverse_rest : reverse (outside n (x ∷ T)) ≡ reverse (highs n T x) ++ reverse (lows T x)
  reverse_rest = ap reverse outside_rest ∙ reverse-append (lows T x) (highs n T x)

  apart : Apart x (reverse (lows T x))
  unfolding lows
  apart = apart_reverse x (lows T x) (apart_from_range (λ y. not (has T y)) x 0 x (omega arith))

  module _ (F : List Function) where
    -- what is reached above x
    pub tops : List Function
    tops = reach F (reverse (highs n T x))

    block : Function → List Function
    block g = subfunctions (reverse (lows T x)) g

    reached_rest : reach F (reverse (outside n (x ∷ T))) ≡ flat_map block tops
    unfolding tops block
    reached_rest = ap (reach F) reverse_rest ∙ reach_parts F (reverse (highs n T x)) (reverse (lows T x))

    reached_parts : reach F (reverse (outside n T)) ≡ flat_map (λ g. map (restrict x false) (block g) ++ map (restrict x true) (block g)) tops
    unfolding tops block subfunctions
    reached_parts =
        ap (reach F) reverse_parts ∙ reach_parts F (reverse (highs n T x)) (x ∷ reverse (lows T x))
        ∙ flat_map_same (subfunctions (x ∷ reverse (lows T x))) (λ g. map (restrict x false) (block g) ++ map (restrict x true) (block g))
        (λ g. ap₂ (λ us vs. us ++ vs) (subfunctions_restrict x false (reverse (lows T x)) apart g)
        (subfunctions_restrict x true (reverse (lows T x)) apart g)) tops

    -- the pairs of what is told of the entries over T are what is told of the two restrictions of each function over T and x
    pub pairs_told : (tell : Function → ℕ) →
        pairs (map tell (reach F (reverse (outside n T)))) (step_of T x) ≡ map (λ g. (tell (restrict x false g), tell (restrict x true g)))
        (reach F (reverse (outside n (x ∷ T))))
    unfolding step_of block
    pairs_told tell =
        ap (λ us. pairs us (step_of T x))
        (ap (map tell) reached_parts ∙ map_flat_map tell (λ g. map (restrict x false) (block g) ++ map (restrict x true) (block g)) tops
        ∙ flat_map_same (λ g. map tell (map (restrict x false) (block g) ++ map (restrict x true) (block g)))
        (λ g. map (λ h. tell (restrict x false h)) (block g) ++ map (λ h. tell (restrict x true h)) (block g))
        (λ g. map-append tell (map (restrict x false) (block g)) (map (restrict x true) (block g))
        ∙ ap₂ (λ us vs. us ++ vs) (map-map tell (restrict x false) (block g)) (map-map tell (restrict x true) (block g))) tops)
        ∙ pairs_are (λ h. tell (restrict x false h)) (λ h. tell (restrict x true h)) block (step_of T x)
        (λ g. length-subfunctions (reverse (lows T x)) g) some tops
        ∙ ap (map (λ g. (tell (restrict x false g), tell (restrict x true g)))) (sym reached_rest)
      where
        some : 0 < 2 ^ length (reverse (lows T x))
        some = pow_pos (length (reverse (lows T x)))

    -- ---- classes

    unfoldable pub tell_class : Function → ℕ
    tell_class g = class_of (entries n F T) (table n g)

    pub numbers_told : class_numbers n F T ≡ map tell_class (reach F (reverse (outside n T)))
    unfolding class_numbers entries tell_class
    numbers_told = map-map (class_of (entries n F T)) (table n) (reach F (reverse (outside n T)))

    pub pairs_of_classes : pairs (class_numbers n F T) (step_of T x) ≡ map (class_pair n F T x) (reach F (reverse (outside n (x ∷ T))))
    unfolding tell_class class_pair
    pairs_of_classes = ap (λ us. pairs us (step_of T x)) numbers_told ∙ pairs_told tell_class

    -- each function over T and x is one of those by which the widths are counted
    pub counted : (g : Function) → Among g (reach F (reverse (outside n (x ∷ T)))) → (k : Function) × Among k (reach F (outside n (x ∷ T))) × SameFunction n g k
    counted g a =
        reach_same n F (reverse (outside n (x ∷ T))) (outside n (x ∷ T))
        (below_from_has n _ (λ y h. inside y (sym (has_reverse (outside n (x ∷ T)) y) ∙ h))) (below_from_has n _ inside) (has_reverse (outside n (x ∷ T))) g a
      where
        inside : (y : ℕ) → has (outside n (x ∷ T)) y ≡ true → y < n
        inside y h = (has_variables n y).0 (and_parts (has (variables n) y) (not (has (x ∷ T) y)) (sym (has_outside n (x ∷ T) y) ∙ h)).0

    pub class_pair_same : (g k : Function) → SameFunction n g k → class_pair n F T x g ≡ class_pair n F T x k
    unfolding class_pair
    class_pair_same g k s =
        let low = table_same n (restrict x false g) (restrict x false k) (restrict_same n x false g k s) in
        let high = table_same n (restrict x true g) (restrict x true k) (restrict_same n x true g k s) in
        λ i. (class_of (entries n F T) (low i), class_of (entries n F T) (high i))

    pub told_apart : (g h : Function) → Among g (reach F (reverse (outside n (x ∷ T)))) → Among h (reach F (reverse (outside n (x ∷ T)))) →
        (class_pair n F T x g ≡ class_pair n F T x h → table n g ≡ table n h) × (table n g ≡ table n h → class_pair n F T x g ≡ class_pair n F T x h)
    told_apart g h a b =
        let p = counted g a in
        let q = counted h b in
        let s = same_by_classes n F T x small new p.0 q.0 p.1 q.1 in
        let e = table_same n g p.0 p.2 in
        let f = table_same n h q.0 q.2 in
        let u = class_pair_same g p.0 p.2 in
        let v = class_pair_same h q.0 q.2 in (
          λ d. e ∙ s.1 (sym u ∙ d ∙ v) ∙ sym f,
          λ d. u ∙ s.0 (sym e ∙ d ∙ f) ∙ sym v,
        )

    -- the class numbers over T with x are the numbers of the pairs
    pub compacted : class_numbers n F (x ∷ T) ≡ ranks same_pair (pairs (class_numbers n F T) (step_of T x))
    unfolding class_numbers class_of entries ranks rank
    compacted =
        sym (ap (ranks same_pair) pairs_of_classes
        ∙ ranks_alike same_pair pair_decides same_table same_table_decides (class_pair n F T x) (table n) (reach F (reverse (outside n (x ∷ T)))) told_apart)

    -- a table's length
    pub length_numbers : length (class_numbers n F T) ≡ length tops * (2 * step_of T x)
    unfolding step_of block
    length_numbers =
        ap length (numbers_told ∙ ap (map tell_class) reached_parts)
        ∙ length-map (flat_map (λ g. map (restrict x false) (block g) ++ map (restrict x true) (block g)) tops) tell_class
        ∙ length_blocks (λ g. map (restrict x false) (block g) ++ map (restrict x true) (block g)) (2 * step_of T x) each tops
      where
        each : (g : Function) → length (map (restrict x false) (block g) ++ map (restrict x true) (block g)) ≡ 2 * step_of T x
        each g =
            let l = length-subfunctions (reverse (lows T x)) g in
            let a = length-append (map (restrict x false) (block g)) (map (restrict x true) (block g)) in
            let u = length-map (block g) (restrict x false) in
            let v = length-map (block g) (restrict x true) in
            omega arith

-- class numbers depend on the members of the set alone
pub class_numbers_same : (n : ℕ) (F : List Function) (S T : List ℕ) → ((y : ℕ) → has S y ≡ has T y) → class_numbers n F S ≡ class_numbers n F T
unfolding outside class_numbers entries
class_numbers_same n F S T h =
    λ i. map (class_of (map (table n) (reach F (reverse (filter (λ y. not (h y i)) (variables n))))))
    (map (table n) (reach F (reverse (filter (λ y. not (h y i)) (variables n)))))
