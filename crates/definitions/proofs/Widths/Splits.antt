-- What is reached with one variable less fixed, and how much of a width the functions have that depend on another variable, too.
--     reached_part      what is reached by fixing y, too, is a restriction by y of what is reached without
--     subfunctions_free      what doesn't depend on x still doesn't after restrictions
--     fewer_parts      fixing y, too, leads to at most as many more functions that depend on x as depend on both
--     both_and_other      those that depend on y are those that depend on x, too, and those that don't
use Rattle.std.proofs.Common.{◌≡◌, ℕ, ◌+◌, ◌<◌, ◌≤◌, Bool, true, false, not, ◌&&◌, inl, inr, List, [], ◌∷◌, ◌++◌, map, length-append, sym, ap, ◌∙◌, subst, arith}
use Rattle.std.specs.List.{filter}
use Rattle.std.specs.Set.{unique_keys, distinct_count}
use Rattle.std.proofs.lemmas.Bool.{true≢false, cases_Bool, and_parts, and_from, not-true}
use Rattle.std.proofs.lemmas.List.{length-map}
use Rattle.definitions.specs.Functions.{Function, from_table, restrict, SameFunction, table, same_table, depends}
use Rattle.definitions.specs.Orders.{has}
use Rattle.definitions.specs.Levels.{subfunctions, reach, dependents}
use Rattle.definitions.specs.Widths.{outside}
use Rattle.definitions.specs.LowerBounds.{functions_without}
use Rattle.definitions.proofs.Lists.Sets.{Among, Within, among_left, among_right, among_cases, among_filter, among_from_filter, among_map, among_from_map, among_flat_map, among_from_flat_map, among_unique, count_le, count_mono, count_apart}
use Rattle.definitions.proofs.Lists.Orders.{has_outside, has_variables}
use Rattle.definitions.proofs.Functions.Tables.{restrict_comm, restrict_again, restrict_same, same_refl, table_same, same_from_table, same_table_decides, depends_false, depends_same, depends_no}
use Rattle.definitions.proofs.Functions.Same.{table_long}
use Rattle.definitions.proofs.Functions.Exchange.{reach_same, below_from_has}
use Rattle.definitions.proofs.Bits.Points.{table-from_table}
use Rattle.definitions.proofs.Widths.Parts.{reach_parts}
use Rattle.definitions.proofs.Widths.ClassPairs.{has_reverse, same_variables}

-- the variables outside a set are below n
outside_small : (n : ℕ) (T : List ℕ) (z : ℕ) → has (outside n T) z ≡ true → z < n
outside_small n T z h = (has_variables n z).0 (and_parts _ _ (sym (has_outside n T z) ∙ h)).0

-- what is reached by fixing y, too, is a restriction by y of what is reached without
pub reached_part : (n : ℕ) (F : List Function) (T : List ℕ) (y : ℕ) → y < n → has T y ≡ false → (h : Function) → Among h (reach F (outside n T)) →
    (g : Function) × (b : Bool) × Among g (reach F (outside n (y ∷ T))) × SameFunction n h (restrict y b g)
unfolding subfunctions
reached_part n F T y small new h m = by from.2
  where
    same : (z : ℕ) → has (outside n T) z ≡ has (outside n (y ∷ T) ++ y ∷ []) z
    same z = sym (same_variables n F T y small new z ∙ has_reverse (outside n T) z)

    got : (k : Function) × Among k (reach F (outside n (y ∷ T) ++ y ∷ [])) × SameFunction n h k
    got = reach_same n F (outside n T) (outside n (y ∷ T) ++ y ∷ []) (below_from_has n _ (outside_small n T))
        (below_from_has n _ (λ z k. outside_small n T z (same z ∙ k))) same h m

    from : (g : Function) × Among g (reach F (outside n (y ∷ T))) × Among got.0 (subfunctions (y ∷ []) g)
    from = among_from_flat_map (subfunctions (y ∷ [])) got.0 (reach F (outside n (y ∷ T)))
        (subst (Among got.0) (reach_parts F (outside n (y ∷ T)) (y ∷ [])) got.1)

    by : Among got.0 (restrict y false from.0 ∷ restrict y true from.0 ∷ []) →
        (g : Function) × (b : Bool) × Among g (reach F (outside n (y ∷ T))) × SameFunction n h (restrict y b g)
    by (inl e) = (from.0, false, from.1, subst (SameFunction n h) e got.2)
    by (inr (inl e)) = (from.0, true, from.1, subst (SameFunction n h) e got.2)
    by (inr (inr r)) = absurd r

-- ---- dependence after restrictions

-- a function that doesn't depend on x still doesn't after a restriction
pub still_free : (n : ℕ) (f : Function) (x z : ℕ) (b : Bool) → depends n f x ≡ false → depends n (restrict z b f) x ≡ false
still_free n f x z b e = grind (arith, depends_false, restrict_again, same_refl, restrict_comm, restrict_same, depends_no)

-- nor after some
pub subfunctions_free : (n x : ℕ) (xs : List ℕ) (f g : Function) → depends n f x ≡ false → Among g (subfunctions xs f) → depends n g x ≡ false
unfolding subfunctions
subfunctions_free n x [] f g d h = elim h [ inl e ↦ ap (λ k. depends n k x) e ∙ d | inr r ↦ absurd r ]
subfunctions_free n x (z ∷ xs) f g d h =
    elim (among_cases g (subfunctions xs (restrict z false f)) (subfunctions xs (restrict z true f)) h) [
      | inl a ↦ subfunctions_free n x xs (restrict z false f) g (still_free n f x z false d) a
      | inr a ↦ subfunctions_free n x xs (restrict z true f) g (still_free n f x z true d) a
    ]

-- ---- counts

-- how many distinct functions of a list depend on both variables
unfoldable pub dependents_on_both : ℕ → List Function → ℕ → ℕ → ℕ
dependents_on_both n G x y = distinct_count same_table (map (table n) (filter (λ g. depends n g x && depends n g y) G))

-- how many depend on y and not on x
unfoldable pub other_dependents : ℕ → List Function → ℕ → ℕ → ℕ
other_dependents n G x y = distinct_count same_table (map (table n) (filter (λ g. not (depends n g x) && depends n g y) G))

-- the table of a restriction, by the table
abbrev restricted_table : ℕ → ℕ → Bool → List Bool → List Bool
restricted_table n y b t = table n (restrict y b (from_table t))

-- of the function's own table
restricted_lem : (n y : ℕ) (b : Bool) (g : Function) → restricted_table n y b (table n g) ≡ table n (restrict y b g)
restricted_lem n y b g = search (table_same, restrict_same, same_from_table, table-from_table, table_long)

-- fixing y, too, leads to at most as many more functions that depend on x as depend on both
pub fewer_parts : (n : ℕ) (F : List Function) (T : List ℕ) (x y : ℕ) → y < n → has T y ≡ false →
    dependents n (reach F (outside n T)) x ≤ dependents n (reach F (outside n (y ∷ T))) x + dependents_on_both n (reach F (outside n (y ∷ T))) x y
unfolding dependents dependents_on_both
fewer_parts n F T x y small new =
    omega (
      arith,
      count_le same_table same_table_decides (map (table n) (filter (λ f. depends n f x) (reach F (outside n T)))) images within,
      length-append lower upper,
      length-map (unique_keys same_table one) (restricted_table n y false),
      length-map (unique_keys same_table two) (restricted_table n y true),
    )
  where
    G : List Function
    G = reach F (outside n (y ∷ T))

    one : List (List Bool)
    one = map (table n) (filter (λ f. depends n f x) G)

    two : List (List Bool)
    two = map (table n) (filter (λ g. depends n g x && depends n g y) G)

    lower : List (List Bool)
    lower = map (restricted_table n y false) (unique_keys same_table one)

    upper : List (List Bool)
    upper = map (restricted_table n y true) (unique_keys same_table two)

    images : List (List Bool)
    images = lower ++ upper

    low : (g : Function) → Among g G → depends n g x ≡ true → Among (table n (restrict y false g)) images
    low g m d = among_left _ lower upper (subst (λ u. Among u lower) (restricted_lem n y false g)
        (among_map (restricted_table n y false) (table n g) (unique_keys same_table one)
        (among_unique same_table same_table_decides one (table n g)
        (among_map (table n) g (filter (λ f. depends n f x) G) (among_filter (λ f. depends n f x) g G m d)))))

    high : (g : Function) → Among g G → (depends n g x && depends n g y) ≡ true → Among (table n (restrict y true g)) images
    high g m d = among_right _ lower upper (subst (λ u. Among u upper) (restricted_lem n y true g)
        (among_map (restricted_table n y true) (table n g) (unique_keys same_table two)
        (among_unique same_table same_table_decides two (table n g)
        (among_map (table n) g (filter (λ f. depends n f x && depends n f y) G) (among_filter (λ f. depends n f x && depends n f y) g G m d)))))

    image : (g : Function) (b : Bool) → Among g G → depends n g x ≡ true → Among (table n (restrict y b g)) images
    image g false m d = low g m d
    image g true m d =
        elim (cases_Bool (depends n g y)) [
          | inl t ↦ high g m (and_from (depends n g x) (depends n g y) d t)
          | inr f ↦ subst (λ u. Among u images) (table_same n (restrict y false g) (restrict y true g) (depends_no n g y f)) (low g m d)
        ]

    needs : (g : Function) (b : Bool) → depends n (restrict y b g) x ≡ true → depends n g x ≡ true
    needs g b e = elim (cases_Bool (depends n g x)) [ inl t ↦ t | inr f ↦ absurd (true≢false (sym e ∙ still_free n g x y b f)) ]

    within : Within (map (table n) (filter (λ f. depends n f x) (reach F (outside n T)))) images
    within t m =
        let from = among_from_map (table n) t (filter (λ f. depends n f x) (reach F (outside n T))) m in
        let kept = among_from_filter (λ f. depends n f x) from.0 (reach F (outside n T)) from.1 in
        let part = reached_part n F T y small new from.0 kept.0 in
        let d = needs part.0 part.1 (sym (depends_same n from.0 (restrict y part.1 part.0) x part.3) ∙ kept.1) in
        subst (λ u. Among u images) (sym (from.2 ∙ table_same n from.0 (restrict y part.1 part.0) part.3)) (image part.0 part.1 part.2 d)

-- those that depend on y are those that depend on x, too, and those that don't
pub both_and_other : (n : ℕ) (G : List Function) (x y : ℕ) → dependents_on_both n G x y + other_dependents n G x y ≤ dependents n G y
unfolding dependents dependents_on_both other_dependents
both_and_other n G x y =
    omega (
      arith,
      count_apart same_table same_table_decides both other apart,
      count_mono same_table same_table_decides (both ++ other) (map (table n) (filter (λ f. depends n f y) G)) within,
    )
  where
    both : List (List Bool)
    both = map (table n) (filter (λ g. depends n g x && depends n g y) G)

    other : List (List Bool)
    other = map (table n) (filter (λ g. not (depends n g x) && depends n g y) G)

    apart : (t : List Bool) → Among t both → Among t other → ⊥
    apart t a b =
        let g = among_from_map (table n) t (filter (λ g. depends n g x && depends n g y) G) a in
        let k = among_from_map (table n) t (filter (λ g. not (depends n g x) && depends n g y) G) b in
        let yes = and_parts _ _ (among_from_filter (λ g. depends n g x && depends n g y) g.0 G g.1).1 in
        let no = and_parts _ _ (among_from_filter (λ g. not (depends n g x) && depends n g y) k.0 G k.1).1 in
        true≢false (sym yes.0 ∙ depends_same n g.0 k.0 x (same_from_table n g.0 k.0 (sym g.2 ∙ k.2)) ∙ not-true _ no.0)

    counted : (p : Function → Bool) → ((g : Function) → p g ≡ true → depends n g y ≡ true) → (t : List Bool) → Among t (map (table n) (filter p G)) →
        Among t (map (table n) (filter (λ f. depends n f y) G))
    counted p h t m =
        let g = among_from_map (table n) t (filter p G) m in
        let kept = among_from_filter p g.0 G g.1 in
        subst (λ u. Among u (map (table n) (filter (λ f. depends n f y) G))) (sym g.2)
        (among_map (table n) g.0 _ (among_filter (λ f. depends n f y) g.0 G kept.0 (h g.0 kept.1)))

    within : Within (both ++ other) (map (table n) (filter (λ f. depends n f y) G))
    within t m =
        elim (among_cases t both other m) [
          | inl a ↦ counted (λ g. depends n g x && depends n g y) (λ g e. (and_parts _ _ e).1) t a
          | inr b ↦ counted (λ g. not (depends n g x) && depends n g y) (λ g e. (and_parts _ _ e).1) t b
        ]

-- what is reached from functions that don't depend on x doesn't depend on x
pub free_dependents : (n : ℕ) (F : List Function) (xs : List ℕ) (x y : ℕ) →
    dependents n (reach (functions_without n F x) xs) y ≤ other_dependents n (reach F xs) x y
unfolding dependents other_dependents reach functions_without
free_dependents n F xs x y =
    count_mono same_table same_table_decides (map (table n) (filter (λ f. depends n f y) (reach (functions_without n F x) xs)))
    (map (table n) (filter (λ g. not (depends n g x) && depends n g y) (reach F xs))) within
  where
    within : Within (map (table n) (filter (λ f. depends n f y) (reach (functions_without n F x) xs)))
        (map (table n) (filter (λ g. not (depends n g x) && depends n g y) (reach F xs)))
    within t m =
        grind (arith, among_from_map, among_from_filter, among_from_flat_map, subfunctions_free, among_map, among_filter, among_flat_map)
