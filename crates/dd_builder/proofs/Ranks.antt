-- Filled places of nodes that denote subfunctions are no more than the size of the order: each is numbered by its level, and on the level
-- by the place of its function's truth table among those that are counted there.
use Rattle.std.proofs.Common.{◌≡◌, ◌≢◌, ℕ, zero, suc, ◌+◌, ◌-◌, ◌/◌, ◌<◌, ◌≤◌, inl, inr, Bool, true, false, not, cond, ◌||◌, nat_eq, eqb, List, [], ◌∷◌, ◌++◌, map, length, take, drop, get_or, set, replicate, refl, sym, ap, ◌∙◌, subst, ⊎_elim, arith, zero-add}
use Rattle.std.specs.Int.{bit_at}
use Rattle.std.specs.List.{filter, take_while}
use Rattle.std.specs.Set.{is_member, unique_keys, distinct_count}
use Rattle.std.proofs.lemmas.Bool.{cases_lt, cases_Bool, false≢true, true≢false, false_from_ne_true, cases_order}
use Rattle.std.proofs.lemmas.List.{length-set, length-take, length-replicate, get_or-set_same, get_or-set_other, set-get_or}
use Rattle.std.proofs.lemmas.List.FromFn.{get_or-map-range_with_len}
use Rattle.definitions.specs.Functions.{Point, Function, bit, from_table, restrict, SameFunction, table, depends, same_table}
use Rattle.definitions.specs.Orders.{has, place_in, IsOrder}
use Rattle.definitions.specs.Levels.{subfunctions, reach, dependents, level_count, level_counts, size_under}
use Rattle.definitions.specs.Problems.{TruthTables, functions, table_at}
use Rattle.definitions.proofs.Functions.Tables.{table_same, same_from_table, same_table_decides, depends_same, depends_no}
use Rattle.definitions.proofs.Functions.Exchange.{mix, mix_is, Below, below_from_has, fixing_reached}
use Rattle.definitions.proofs.Lists.Orders.{has_append, has_at, place_at, place_small}
use Rattle.definitions.proofs.Lists.Sets.{Among, among_filter, among_map, among_flat_map, among_from_member, count_mono, nat_decides}
use Rattle.definitions.proofs.Widths.ClassPairs.{before, before_here, before_next, not_among_before, rank_apart}
use Rattle.node_words.specs.Nodes.{AreNodeWords, AreUnequal, IsKnown, level_of}
use Rattle.node_words.specs.Meaning.{depth, function_of}
use Rattle.node_words.proofs.Meaning.{depth_node, no_higher}
use Rattle.node_words.proofs.Functions.{point_along, length-point_along, value_at, same_ids}
use Rattle.unique_table.specs.Plans.{output_at}
use Rattle.dd_builder.specs.Subfunctions.{IsSubfunction, AreSubfunctions}
use Rattle.dd_builder.proofs.Numberings.{at_most}
use Rattle.dd_builder.proofs.LevelBounds.{sum_below, sum_next, split_at, rest_alone}
use Rattle.dd_builder.proofs.Restrictions.{IsApart, laid, fixed_laid, length-laid, laid_apart, get_or_take}

-- ---- places among distinct elements

module _ {K : Type 0} (eq : K → K → Bool) (decides : (x y : K) → (eq x y ≡ true → x ≡ y) × (x ≡ y → eq x y ≡ true)) where
  among_before : (ts : List K) (t x : K) → Among x (before eq decides ts t) → Among x ts
  unfolding before
  among_before [] t x h = h
  among_before (w ∷ ts) t x h =
      elim (cases_Bool (eq t w)) [
        | inl e ↦ absurd (subst (Among x) (before_here eq decides w ts t e) h)
        | inr e ↦ elim (subst (Among x) (before_next eq decides w ts t e) h) [ inl s ↦ inl s | inr a ↦ inr (among_before ts t x a) ]
      ]

  -- how many distinct elements come before one
  abbrev place_of : List K → K → ℕ
  place_of ts t = distinct_count eq (take_while (λ v. not (eq t v)) ts)

  place_of_small : (ts : List K) (t : K) → Among t ts → place_of ts t < distinct_count eq ts
  unfolding before
  place_of_small ts t m =
      let new : is_member eq (before eq decides ts t) t ≡ false =
      false_from_ne_true _ (λ r. not_among_before eq decides ts t (among_from_member eq decides (before eq decides ts t) t r)) in
      let c = count_mono eq decides (t ∷ before eq decides ts t) ts
      (λ x h. elim h [ inl e ↦ subst (λ z. Among z ts) (sym e) m | inr a ↦ among_before ts t x a ]) in
      omega (arith, c, ap (λ b. length (cond b (unique_keys eq (before eq decides ts t)) (t ∷ unique_keys eq (before eq decides ts t)))) new)

-- ---- functions with variables fixed

apart_from_has : (xs : List ℕ) (y : ℕ) → has xs y ≡ false → IsApart y xs
apart_from_has [] y h = tt
apart_from_has (x ∷ xs) y h = at (nat_eq y x) refl (apart_from_has xs y)
  where
    at : (c : Bool) → nat_eq y x ≡ c → (has xs y ≡ false → IsApart y xs) → IsApart y (x ∷ xs)
    at true s rest = absurd (true≢false ((λ i. sym s i || has xs y) ∙ h))
    at false s rest = ((λ e. true≢false (sym ((nat_decides y x).1 e) ∙ s)), rest ((λ i. sym s i || has xs y) ∙ h))

-- a variable that is set has its bit of the path
laid_in : (xs : List ℕ) (v y : ℕ) (p q : Point) → has xs y ≡ true → y < length p → y < length q → bit (laid xs v p) y ≡ bit (laid xs v q) y
laid_in [] v y p q h lp lq = absurd (false≢true h)
laid_in (x ∷ xs) v y p q h lp lq = at (has xs y) refl (λ e. laid_in xs (v / 2) y (set p x b) (set q x b) e
    (let l = length-set p x b in omega (arith, l, lp)) (let l = length-set q x b in omega (arith, l, lq)))
  where
    b : Bool
    b = eqb (bit_at v 0) 1

    here : (c : Bool) → nat_eq y x ≡ c → has xs y ≡ false → y ≡ x
    here true s e = (nat_decides y x).0 s
    here false s e = absurd (false≢true ((λ i. sym s i || sym e i) ∙ h))

    own : (r : Point) → y < length r → y ≡ x → bit (set r x b) y ≡ b
    own r l is = subst (λ z. bit (set r x b) z ≡ b) (sym is) (get_or-set_same r x b false (omega (arith, l, is)))

    at : (c : Bool) → has xs y ≡ c → (has xs y ≡ true → bit (laid xs (v / 2) (set p x b)) y ≡ bit (laid xs (v / 2) (set q x b)) y) →
        bit (laid xs (v / 2) (set p x b)) y ≡ bit (laid xs (v / 2) (set q x b)) y
    at true e rest = rest e
    at false e rest = let is = here (nat_eq y x) refl e in let away = apart_from_has xs y e in
        laid_apart xs (v / 2) y (set p x b) away ∙ (own p lp is ∙ (sym (own q lq is) ∙ sym (laid_apart xs (v / 2) y (set q x b) away)))

laid_mix : (n : ℕ) (xs : List ℕ) (v : ℕ) (p : Point) → length p ≡ n → laid xs v p ≡ mix n xs (laid xs v (replicate n false)) p
laid_mix n xs v p l = mix_is n xs (laid xs v zeros) p (laid xs v p) (length-laid xs v p ∙ l) (λ y low. at y low (has xs y) refl)
  where
    zeros : Point
    zeros = replicate n false

    at : (y : ℕ) → y < n → (c : Bool) → has xs y ≡ c → bit (laid xs v p) y ≡ cond c (bit (laid xs v zeros) y) (bit p y)
    at y low true e = laid_in xs v y p zeros e (omega (arith, l, low)) (let r = length-replicate n false in omega (arith, r, low))
    at y low false e = laid_apart xs v y p (apart_from_has xs y e)

among_at : {X Y : Type 0} (f : X → Y) (xs : List X) (d : X) (j : ℕ) → j < length xs → Among (f (get_or xs j d)) (map f xs)
among_at f [] d j low = absurd (omega arith)
among_at f (x ∷ xs) d zero low = inl refl
among_at f (x ∷ xs) d (suc j) low = inr (among_at f xs d j (omega arith))

-- ---- levels, one after the other

rises : (f : ℕ → ℕ) (a b : ℕ) → a ≤ b → sum_below f a ≤ sum_below f b
rises f a zero low = let e : a ≡ 0 = omega arith in subst (λ z. sum_below f z ≤ sum_below f 0) (sym e) (omega arith)
rises f a (suc b) low = ⊎_elim
    (λ (less : a < suc b). let r = rises f a b (omega (arith, less)) in let s = sum_next f b in omega (arith, r, s))
    (λ (more : suc b ≤ a). let same : suc b ≡ a = omega (arith, low, more) in subst (λ z. sum_below f z ≤ sum_below f (suc b)) same (omega arith))
    (cases_lt a (suc b))

-- numbers of two levels differ
levels_same : (f : ℕ → ℕ) (i j c d : ℕ) → c < f i → d < f j → sum_below f i + c ≡ sum_below f j + d → i ≡ j
levels_same f i j c d small small' e = ⊎_elim
    (λ (same : i ≡ j). same)
    (⊎_elim
    (λ (less : i < j). let r = rises f (suc i) j less in let s = sum_next f i in absurd (omega (arith, r, s, small, e)))
    (λ (less : j < i). let r = rises f (suc j) i less in let s = sum_next f j in absurd (omega (arith, r, s, small', e))))
    (cases_order i j)

module _ (order : List ℕ) (t : TruthTables) (ws : List ℕ) (is : IsOrder (length order) order) (nodes : AreNodeWords (length order) ws)
    (unequal : AreUnequal ws) where
  abbrev n : ℕ
  n = length order

  -- the truth tables that are counted on a level
  abbrev tables_on : ℕ → List (List Bool)
  tables_on l = map (table n) (filter (λ f. depends n f (get_or order l 0)) (reach (functions t) (take l order)))

  count_is : (l : ℕ) → level_count n (functions t) order l ≡ distinct_count same_table (tables_on l)
  unfolding level_count dependents
  count_is l = refl

  module _ (p : ℕ) (full : get_or ws p 0 ≢ 0) (s : IsSubfunction order t (level_of (get_or ws p 0)) (function_of order ws (p + 2))) where
    abbrev level : ℕ
    level = level_of (get_or ws p 0)

    abbrev denoted : Function
    denoted = function_of order ws (p + 2)

    abbrev x : ℕ
    x = get_or order level 0

    back : p + 2 - 2 ≡ p
    back = omega arith

    id_known : IsKnown ws (p + 2)
    id_known two e = full (ap (λ z. get_or ws z 0) (sym back) ∙ e)

    id_depth : depth n ws (p + 2) ≡ level
    id_depth = depth_node n ws (p + 2) (omega arith) ∙ ap (λ z. level_of (get_or ws z 0)) back

    inside : level < n
    inside = (nodes p full).level

    split_is : IsOrder n (take level order ++ x ∷ drop (suc level) order)
    split_is = subst (λ z. IsOrder n z) (sym (split_at order level inside)) is

    above_below : Below n (take level order)
    above_below = below_from_has n (take level order)
        (λ y h. (is.all y).0 (ap (λ z. has z y) (sym (split_at order level inside)) ∙ (has_append (take level order) (x ∷ drop (suc level) order) y
        ∙ ap (λ b. b || has (x ∷ drop (suc level) order) y) h)))

    -- its function is reached by the variables above
    reached : (g : Function) × Among g (reach (functions t) (take level order)) × SameFunction n g denoted
    unfolding reach SameFunction output_at
    reached =
        let f : Function = from_table (table_at t s.output) in
        let a : Point = laid (take level order) s.path (replicate n false) in
        let found = fixing_reached n (take level order) above_below f a in (
          found.0,
          among_flat_map (subfunctions (take level order)) f (functions t) found.0 (among_at from_table t.tables [] s.output s.is_output) found.1,
          λ q l. found.2 q l ∙ (ap f (sym (laid_mix n (take level order) s.path q l)) ∙ (sym (fixed_laid (take level order) s.path f q) ∙ sym (s.same q l))),
        )

    -- two points that agree below the level, if it doesn't depend on the level's variable
    lower_alone : depends n denoted x ≡ false → (q r : Point) → length q ≡ n → length r ≡ n →
        ((y : ℕ) → y < n → has (take level order) y ≡ false → y ≢ x → bit q y ≡ bit r y) → denoted q ≡ denoted r
    unfolding SameFunction restrict
    lower_alone none q r lq lr agree =
        without q lq (bit q x) refl
        ∙ (sym (reached.2 (set q x false) (length-set q x false ∙ lq))
        ∙ (rest_alone n (functions t) (take level order) x (drop (suc level) order) split_is reached.0 reached.1 (set q x false) (set r x false)
        (length-set q x false ∙ lq) (length-set r x false ∙ lr) (λ y low out. at y low out (nat_eq y x) refl)
        ∙ (reached.2 (set r x false) (length-set r x false ∙ lr) ∙ sym (without r lr (bit r x) refl))))
      where
        without : (z : Point) → length z ≡ n → (b : Bool) → bit z x ≡ b → denoted z ≡ denoted (set z x false)
        without z l false e = ap denoted (sym (set-get_or z x false) ∙ ap (λ b. set z x b) e)
        without z l true e = ap denoted (sym (set-get_or z x false) ∙ ap (λ b. set z x b) e) ∙ sym (depends_no n denoted x none z l)

        x_inside : x < n
        x_inside = (is.all x).0 (has_at order level inside)

        at : (y : ℕ) → y < n → has (take level order) y ≡ false → (c : Bool) → nat_eq y x ≡ c → bit (set q x false) y ≡ bit (set r x false) y
        at y low out true e = let same = (nat_decides y x).0 e in subst (λ z. bit (set q x false) z ≡ bit (set r x false) z) (sym same)
            (get_or-set_same q x false false (omega (arith, lq, x_inside)) ∙ sym (get_or-set_same r x false false (omega (arith, lr, x_inside))))
        at y low out false e = let other : y ≢ x = (λ w. true≢false (sym ((nat_decides y x).1 w) ∙ e)) in
            get_or-set_other q x y false false other ∙ (agree y low out other ∙ sym (get_or-set_other r x y false false other))

    -- a variable that isn't above the level and isn't the level's has its place below
    place_below : (y : ℕ) → y < n → has (take level order) y ≡ false → y ≢ x → suc level ≤ place_in order y
    place_below y low out other = ⊎_elim
        (λ (less : place_in order y < level). absurd (false≢true (sym out ∙ higher less)))
        (λ (more : level ≤ place_in order y). ⊎_elim
        (λ (below : level < place_in order y). omega (arith, below))
        (λ (same : place_in order y ≤ level). absurd (other (sym there ∙ ap (λ z. get_or order z 0) (omega (arith, same, more)))))
        (cases_lt level (place_in order y)))
        (cases_lt (place_in order y) level)
      where
        short : place_in order y < length order
        short = place_small order y ((is.all y).1 low)

        there : get_or order (place_in order y) 0 ≡ y
        there = place_at order y short

        higher : place_in order y < level → has (take level order) y ≡ true
        higher less = subst (λ z. has (take level order) z ≡ true) (get_or_take order level (place_in order y) less ∙ there)
            (has_at (take level order) (place_in order y) (let l = length-take level order in omega (arith, l, less, short)))

    -- its function depends on the level's variable
    dependence : depends n denoted x ≡ true
    dependence = elim (cases_Bool (depends n denoted x)) [
      | inl e ↦ e
      | inr none ↦ absurd (let k = no_higher n ws nodes unequal (suc level) (p + 2) id_known inside
          (λ c d agree. value_at order ws nodes (p + 2) c is id_known
          ∙ (lower_alone none (point_along order c) (point_along order d) (length-point_along order c) (length-point_along order d)
          (λ y low out other. place_value c y low ∙ (agree (place_in order y) (place_below y low out other) ∙ sym (place_value d y low)))
          ∙ sym (value_at order ws nodes (p + 2) d is id_known))) in
          omega (arith, k, id_depth))
    ]
      where
        place_value : (c : ℕ → Bool) (y : ℕ) → y < n → bit (point_along order c) y ≡ c (place_in order y)
        place_value c y low = get_or-map-range_with_len (λ z. c (place_in order z)) 0 n y y false low (zero-add y)

    there : Among (table n denoted) (tables_on level)
    there = let g : Function = reached.0 in
        subst (λ z. Among z (tables_on level)) (table_same n g denoted reached.2)
        (among_map (table n) g (filter (λ f. depends n f x) (reach (functions t) (take level order)))
        (among_filter (λ f. depends n f x) g (reach (functions t) (take level order)) reached.1
        (depends_same n g denoted x reached.2 ∙ dependence)))

    -- its number on the level
    abbrev own : ℕ
    own = place_of same_table same_table_decides (tables_on level) (table n denoted)

    own_small : own < level_count n (functions t) order level
    own_small = let c = count_is level in let r = place_of_small same_table same_table_decides (tables_on level) (table n denoted) there in omega (arith, c, r)

  module _ (count : ℕ) (subs : AreSubfunctions order t ws) (full : (p : ℕ) → p < count → get_or ws p 0 ≢ 0) where
    abbrev level_at : ℕ → ℕ
    level_at p = level_of (get_or ws p 0)

    abbrev local : (p : ℕ) → p < count → ℕ
    local p low = own p (full p low) (subs p (full p low))

    abbrev counts : ℕ → ℕ
    counts = level_count n (functions t) order

    local_small : (p : ℕ) (low : p < count) → local p low < counts (level_at p)
    local_small p low = own_small p (full p low) (subs p (full p low))

    abbrev numbered : (p : ℕ) → p < count → ℕ
    numbered p low = sum_below counts (level_at p) + local p low

    numbered_small : (p : ℕ) (low : p < count) → numbered p low < sum_below counts n
    numbered_small p low = let s = local_small p low in let r = rises counts (suc (level_at p)) n (nodes p (full p low)).level in
        let m = sum_next counts (level_at p) in omega (arith, s, r, m)

    numbered_once : (p q : ℕ) (low : p < count) (low' : q < count) → numbered p low ≡ numbered q low' → p ≡ q
    numbered_once p q low low' e =
        let level : level_at p ≡ level_at q =
        levels_same counts (level_at p) (level_at q) (local p low) (local q low') (local_small p low) (local_small q low') e in
        let here : local p low ≡ local q low' = omega (arith, ap (sum_below counts) level, e) in
        let at_q : local q low' ≡ place_of same_table same_table_decides (tables_on (level_at p)) (table n (function_of order ws (q + 2))) =
        ap (λ l. place_of same_table same_table_decides (tables_on l) (table n (function_of order ws (q + 2)))) (sym level) in
        let same = rank_apart same_table same_table_decides (tables_on (level_at p)) (table n (function_of order ws (p + 2)))
        (table n (function_of order ws (q + 2))) (there p (full p low) (subs p (full p low)))
        (subst (λ l. Among (table n (function_of order ws (q + 2))) (tables_on l)) (sym level) (there q (full q low') (subs q (full q low'))))
        (here ∙ at_q) in
        let ids = same_ids order ws nodes unequal (p + 2) (q + 2) is (id_known p (full p low) (subs p (full p low)))
        (id_known q (full q low') (subs q (full q low')))
        (same_from_table n (function_of order ws (p + 2)) (function_of order ws (q + 2)) same) in
        omega (arith, ids)

    pub few : count ≤ size_under n (functions t) order
    unfolding size_under level_counts
    few = at_most count (sum_below counts n) numbered numbered_small numbered_once
