-- The set of restricted variables alone decides what is reached: each subfunction fixes them to the values of some point.
--     mix n xs a p      p with the variables of xs taken from a
--     reach_same      the functions reached by two lists of the same variables are the same
--     exchange      a level count is the width of its variable over the set of those below
use Rattle.std.proofs.Common.{◌≡◌, ◌≢◌, ℕ, ◌+◌, ◌<◌, Bool, true, false, not, cond, ◌||◌, inl, inr, List, [], ◌∷◌, ◌++◌, map, length, set, replicate, refl, sym, ap, ◌∙◌, subst, arith, nat_eq, eq-eqb, zero-add, take_at, ap₂}
use Rattle.std.specs.List.{filter, range_with_len, AllByRecursion, sum}
use Rattle.std.proofs.lemmas.List.Sums.{sum_by-cons}
use Rattle.std.proofs.lemmas.Bool.{or_left, or_right, and_parts}
use Rattle.std.proofs.lemmas.List.{length-set, length-replicate, get_or-set_same, get_or-set_other, get_or_at, append_assoc, length_push}
use Rattle.std.proofs.lemmas.List.FromFn.{length-map-range_with_len, get_or-map-range_with_len, fill_by_all}
use Rattle.definitions.specs.Functions.{Point, Function, bit, restrict, SameFunction, table, depends, same_table}
use Rattle.definitions.specs.Orders.{has, IsOrder, variables}
use Rattle.definitions.specs.Levels.{subfunctions, reach, dependents, level_count, level_counts, size_under}
use Rattle.definitions.specs.Widths.{outside, width, cost}
use Rattle.definitions.proofs.Lists.Sets.{Among, Within, among_left, among_right, among_cases, among_filter, among_from_filter, among_map, among_from_map, among_flat_map, among_from_flat_map, count_same}
use Rattle.definitions.proofs.Functions.Tables.{table_same, depends_same, same_table_decides}
use Rattle.definitions.proofs.Lists.Orders.{has_append, above_lem, has_outside, has_variables}

-- p with the variables of xs taken from a
abbrev pub mix : ℕ → List ℕ → Point → Point → Point
mix n xs a p = map (λ y. cond (has xs y) (bit a y) (bit p y)) (range_with_len 0 n)

pub mix_is : (n : ℕ) (xs : List ℕ) (a p q : Point) → length q ≡ n → ((y : ℕ) → y < n → bit q y ≡ cond (has xs y) (bit a y) (bit p y)) → q ≡ mix n xs a p
mix_is n xs a p q l h = fill_by_all (λ y. cond (has xs y) (bit a y) (bit p y)) q n false l h

pub bit-mix : (n : ℕ) (xs : List ℕ) (a p : Point) (y : ℕ) → y < n → bit (mix n xs a p) y ≡ cond (has xs y) (bit a y) (bit p y)
bit-mix n xs a p y h = get_or-map-range_with_len (λ z. cond (has xs z) (bit a z) (bit p z)) 0 n y y false h (zero-add y)

pub length-mix : (n : ℕ) (xs : List ℕ) (a p : Point) → length (mix n xs a p) ≡ n
length-mix n xs a p = length-map-range_with_len (λ y. cond (has xs y) (bit a y) (bit p y)) 0 n

mix-nil : (n : ℕ) (a p : Point) → length p ≡ n → p ≡ mix n [] a p
mix-nil n a p l = mix_is n [] a p p l (λ y h. refl)

-- one more variable
set-mix : (n : ℕ) (xs : List ℕ) (a c p : Point) (x : ℕ) (b : Bool) → x < n → bit c x ≡ b → ((y : ℕ) → y ≢ x → bit c y ≡ bit a y) →
    set (mix n xs a p) x b ≡ mix n (x ∷ xs) c p
set-mix n xs a c p x b lt here others =
    mix_is n (x ∷ xs) c p (set (mix n xs a p) x b) (length-set (mix n xs a p) x b ∙ length-mix n xs a p) at
  where
    at : (y : ℕ) → y < n → bit (set (mix n xs a p) x b) y ≡ cond (nat_eq y x || has xs y) (bit c y) (bit p y)
    at y h = grind (arith, get_or-set_same, length-mix, get_or-set_other, bit-mix)

-- f with the variables of xs fixed to the values of a
abbrev pub fixed : ℕ → List ℕ → Point → Function → Function
fixed n xs a f p = f (mix n xs a p)

abbrev pub Below : ℕ → List ℕ → Type 0
Below n xs = AllByRecursion (λ x. x < n) xs

-- each subfunction fixes the variables to the values of some point
pub subfunctions_fix : (n : ℕ) (xs : List ℕ) → Below n xs → (f g : Function) → Among g (subfunctions xs f) →
    (a : Point) × (length a ≡ n) × SameFunction n g (fixed n xs a f)
unfolding subfunctions SameFunction restrict
subfunctions_fix n [] lt f g h =
    elim h [ inl e ↦ (replicate n false, length-replicate n false, λ p l. ap (λ k. k p) e ∙ ap f (mix-nil n (replicate n false) p l)) | inr r ↦ absurd r ]
subfunctions_fix n (x ∷ xs) lt f g h =
    elim (among_cases g (subfunctions xs (restrict x false f)) (subfunctions xs (restrict x true f)) h)
    [ inl a ↦ by false (subfunctions_fix n xs lt.1 (restrict x false f) g a) | inr a ↦ by true (subfunctions_fix n xs lt.1 (restrict x true f) g a) ]
  where
    by : (b : Bool) → (a : Point) × (length a ≡ n) × SameFunction n g (fixed n xs a (restrict x b f)) →
        (a : Point) × (length a ≡ n) × SameFunction n g (fixed n (x ∷ xs) a f)
    by b r =
        let a = r.0 in
        let short : x < length a = subst (λ k. x < k) (sym r.1) lt.0 in (
          set a x b,
          length-set a x b ∙ r.1,
          λ p l. r.2 p l ∙ ap f (set-mix n xs a (set a x b) p x b lt.0 (get_or-set_same a x b false short) (λ y ne. get_or-set_other a x y b false ne)),
        )

-- and each such fixing is a subfunction
pub fixing_reached : (n : ℕ) (xs : List ℕ) → Below n xs → (f : Function) (a : Point) →
    (g : Function) × Among g (subfunctions xs f) × SameFunction n g (fixed n xs a f)
unfolding subfunctions SameFunction restrict
fixing_reached n [] lt f a = (f, inl refl, λ p l. ap f (mix-nil n a p l))
fixing_reached n (x ∷ xs) lt f a = by (bit a x) refl (fixing_reached n xs lt.1 (restrict x false f) a) (fixing_reached n xs lt.1 (restrict x true f) a)
  where
    Found : Bool → Type 0
    Found b = (g : Function) × Among g (subfunctions xs (restrict x b f)) × SameFunction n g (fixed n xs a (restrict x b f))

    same : (b : Bool) (g : Function) → bit a x ≡ b → SameFunction n g (fixed n xs a (restrict x b f)) → SameFunction n g (fixed n (x ∷ xs) a f)
    same b g e h p l = h p l ∙ ap f (set-mix n xs a a p x b lt.0 e (λ y ne. refl))

    by : (b : Bool) → bit a x ≡ b → Found false → Found true →
        (g : Function) × Among g (subfunctions xs (restrict x false f) ++ subfunctions xs (restrict x true f)) × SameFunction n g (fixed n (x ∷ xs) a f)
    by false e r s = (r.0, among_left r.0 _ _ r.1, same false r.0 e r.2)
    by true e r s = (s.0, among_right s.0 _ _ s.1, same true s.0 e s.2)

-- two lists of the same variables reach the same functions
pub reach_same : (n : ℕ) (F : List Function) (xs ys : List ℕ) → Below n xs → Below n ys → ((y : ℕ) → has xs y ≡ has ys y) →
    (g : Function) → Among g (reach F xs) → (k : Function) × Among k (reach F ys) × SameFunction n g k
unfolding reach SameFunction
reach_same n F xs ys b c h g r =
    let from = among_from_flat_map (subfunctions xs) g F r in
    let fix = subfunctions_fix n xs b from.0 g from.2 in
    let to = fixing_reached n ys c from.0 fix.0 in (
      to.0,
      among_flat_map (subfunctions ys) from.0 F to.0 from.1 to.1,
      λ p l. fix.2 p l ∙ (λ i. from.0 (map (λ y. cond (h y i) (bit fix.0 y) (bit p y)) (range_with_len 0 n))) ∙ sym (to.2 p l),
    )

dependents_within : (n : ℕ) (fs gs : List Function) (x : ℕ) → ((g : Function) → Among g fs → (k : Function) × Among k gs × SameFunction n g k) →
    Within (map (table n) (filter (λ f. depends n f x) fs)) (map (table n) (filter (λ f. depends n f x) gs))
dependents_within n fs gs x h t m = grind (arith, among_from_map, among_from_filter, among_filter, depends_same, table_same, among_map)

-- what is counted depends on the set of restricted variables alone
pub dependents_same : (n : ℕ) (F : List Function) (xs ys : List ℕ) (x : ℕ) → Below n xs → Below n ys → ((y : ℕ) → has xs y ≡ has ys y) →
    dependents n (reach F xs) x ≡ dependents n (reach F ys) x
unfolding dependents
dependents_same n F xs ys x b c h =
    count_same same_table same_table_decides _ _
    (dependents_within n (reach F xs) (reach F ys) x (reach_same n F xs ys b c h))
    (dependents_within n (reach F ys) (reach F xs) x (reach_same n F ys xs c b (λ y. sym (h y))))

-- a width depends on the set below alone
pub width_same : (n : ℕ) (F : List Function) (S T : List ℕ) (x : ℕ) → ((y : ℕ) → has S y ≡ has T y) → width n F S x ≡ width n F T x
unfolding width outside
width_same n F S T x h = λ i. dependents n (reach F (filter (λ y. not (nat_eq y x || h y i)) (variables n))) x

pub below_from_has : (n : ℕ) (xs : List ℕ) → ((y : ℕ) → has xs y ≡ true → y < n) → Below n xs
below_from_has n [] h = tt
below_from_has n (x ∷ xs) h = (h x (or_left (nat_eq x x) _ (eq-eqb x x refl)), below_from_has n xs (λ y k. h y (or_right _ _ k)))

-- what the variables above a level reach, by the set below the level
pub above_width : (n : ℕ) (F : List Function) (above : List ℕ) (x : ℕ) (below : List ℕ) → IsOrder n (above ++ x ∷ below) →
    dependents n (reach F above) x ≡ width n F below x
unfolding width
above_width n F above x below o =
    dependents_same n F above (outside n (x ∷ below)) x
    (below_from_has n above (λ y h. (o.all y).0 (has_append above (x ∷ below) y ∙ or_left _ _ h)))
    (below_from_has n (outside n (x ∷ below)) (λ y h. (has_variables n y).0 (and_parts _ _ (sym (has_outside n (x ∷ below) y) ∙ h)).0))
    (above_lem n above x below o)

-- the count of the level after the variables above
pub level_lem : (n : ℕ) (F : List Function) (above : List ℕ) (x : ℕ) (below : List ℕ) →
    level_count n F (above ++ x ∷ below) (length above) ≡ dependents n (reach F above) x
unfolding level_count
level_lem n F above x below =
    ap₂ (λ xs y. dependents n (reach F xs) y) (take_at above (x ∷ below) (length above) refl) (get_or_at above x below 0 (length above) refl)

-- a level count is the width of the level's variable over the set of those below
pub exchange : (n : ℕ) (F : List Function) (above : List ℕ) (x : ℕ) (below : List ℕ) → IsOrder n (above ++ x ∷ below) →
    level_count n F (above ++ x ∷ below) (length above) ≡ width n F below x
exchange n F above x below o = level_lem n F above x below ∙ above_width n F above x below o

-- ---- the size of an order

levels_cost : (n : ℕ) (F : List Function) (below above : List ℕ) → IsOrder n (above ++ below) →
    sum (map (level_count n F (above ++ below)) (range_with_len (length above) (length below))) ≡ cost n F below
unfolding cost
levels_cost n F [] above o = refl
levels_cost n F (x ∷ below) above o =
    let same = append_assoc above (x ∷ []) below in
    let rest = levels_cost n F below (above ++ x ∷ []) (subst (λ xs. IsOrder n xs) (sym same) o) in
    let long = length_push above x in
    sum_by-cons (λ z. z) (level_count n F (above ++ x ∷ below) (length above))
    (map (level_count n F (above ++ x ∷ below)) (range_with_len (length above + 1) (length below)))
    ∙ ap (λ k. k + sum (map (level_count n F (above ++ x ∷ below)) (range_with_len (length above + 1) (length below)))) (exchange n F above x below o)
    ∙ ap (λ k. width n F below x + k) (ap₂ (λ xs m. sum (map (level_count n F xs) (range_with_len m (length below)))) (sym same) (sym long) ∙ rest)

-- the size of an order is the cost of all its variables
pub size_is_cost : (n : ℕ) (F : List Function) (order : List ℕ) → IsOrder n order → size_under n F order ≡ cost n F order
unfolding size_under level_counts
size_is_cost n F order o = levels_cost n F order [] o
