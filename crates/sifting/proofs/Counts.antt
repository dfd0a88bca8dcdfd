-- The nodes of a level that have two different children are as many as its level count.
--     Covers n G levels T order      the functions of the top level's places are those of G
--     covers_next      one level down
--     counted      how many of the functions depend on the level's variable
--     counts_below, all_counts      the levels below some variables, and all levels
use Rattle.std.proofs.Common.{◌≡◌, ◌≢◌, ℕ, zero, suc, ◌+◌, ◌*◌, ◌<◌, Bool, true, false, not, cond, inl, inr, List, [], ◌∷◌, ◌++◌, map, length, get_or, slice_get, Some, refl, sym, ap, ◌∙◌, ap₂, subst, arith, nat_eq, eq-eqb, ne_eqb, zero-add}
use Rattle.std.specs.List.{filter, enumerate_from, IsDistinct, AllByRecursion, range_with_len, count_by}
use Rattle.std.specs.Set.{distinct_count}
use Rattle.std.specs.Cmp.{bool_eq_equiv}
use Rattle.std.specs.Cmp.Lexicographic.{lists_equiv}
use Rattle.std.proofs.lemmas.Bool.{cases_eq, false_from_ne_true, or_right}
use Rattle.std.proofs.lemmas.List.{append_assoc, length_push, length-map}
use Rattle.std.proofs.lemmas.List.Sums.{length-filter}
use Rattle.std.proofs.lemmas.Option.{same_Some}
use Rattle.std.proofs.lemmas.Map.Made.{distinct_count-from_IsDistinct}
use Rattle.definitions.specs.Functions.{Function, restrict, SameFunction, DependsOn, table, same_table, depends}
use Rattle.definitions.specs.Orders.{has, IsOrder}
use Rattle.definitions.specs.Levels.{subfunctions, reach, dependents, level_count, level_counts}
use Rattle.definitions.proofs.Lists.Sets.{Among, Within, among_left, among_right, among_cases, among_filter, among_from_filter, among_map, among_from_map, among_flat_map, among_from_flat_map, count_same}
use Rattle.definitions.proofs.Functions.Tables.{restrict_same, same_sym, same_trans, table_same, same_from_table, same_table_decides, depends_same, depends_false, depends_lem}
use Rattle.definitions.proofs.Lists.Orders.{absent_from_apart, has_append}
use Rattle.definitions.proofs.Functions.Exchange.{Below, level_lem, below_from_has}
use Rattle.definitions.proofs.Nodes.LevelBound.{enumerated, count_enumerated}
use Rattle.definitions.proofs.Nodes.Construction.{reach_more}
use Rattle.sifting.specs.Leveled.{Children, child, at, function_at, places, branching, IsLevel, AreLevels, AreTerminals, AreRoots}
use Rattle.sifting.proofs.Paths.{child_has, restricted, canonical, same_children}
use Rattle.definitions.proofs.Nodes.Reduced.{enumerated_from}

-- what is left when one variable more is fixed last
subfunctions_last : (x : ℕ) (xs : List ℕ) (f g : Function) → Among g (subfunctions (xs ++ x ∷ []) f) →
    (h : Function) × (b : Bool) × Among h (subfunctions xs f) × (g ≡ restrict x b h)
unfolding subfunctions
subfunctions_last x [] f g m =
    elim m [ inl e ↦ (f, false, inl refl, e) | inr r ↦ elim r [ inl e ↦ (f, true, inl refl, e) | inr n ↦ absurd n ] ]
subfunctions_last x (y ∷ xs) f g m =
    elim (among_cases g (subfunctions (xs ++ x ∷ []) (restrict y false f)) (subfunctions (xs ++ x ∷ []) (restrict y true f)) m) [
      | inl a ↦ let r = subfunctions_last x xs (restrict y false f) g a in (r.0, r.1, among_left r.0 _ _ r.2, r.3)
      | inr a ↦ let r = subfunctions_last x xs (restrict y true f) g a in (r.0, r.1, among_right r.0 (subfunctions xs (restrict y false f)) _ r.2, r.3)
    ]

reach_last : (F : List Function) (above : List ℕ) (x : ℕ) (g : Function) → Among g (reach F (above ++ x ∷ [])) →
    (h : Function) × (b : Bool) × Among h (reach F above) × (g ≡ restrict x b h)
unfolding reach
reach_last F above x g m =
    let from = among_from_flat_map (subfunctions (above ++ x ∷ [])) g F m in
    let r = subfunctions_last x above from.0 g from.2 in
    (r.0, r.1, among_flat_map (subfunctions above) from.0 F r.0 from.1 r.2, r.3)

-- the functions of the top level's places are those of G
pub record Covers (n : ℕ) (G : List Function) (levels : List (List Children)) (T : List Bool) (order : List ℕ) : Type 0 where
  pub from : (g : Function) → Among g G → (k : ℕ) × (k < places levels T) × SameFunction n g (function_at levels T order k)
  pub to : (k : ℕ) → k < places levels T → (g : Function) × Among g G × SameFunction n g (function_at levels T order k)

module _ (n : ℕ) (L : List Children) (levels : List (List Children)) (T : List Bool) (x : ℕ) (order : List ℕ) (lt : x < n)
    (out : has order x ≡ false) (level : IsLevel (places levels T) L) where
  child_covered : (F : List Function) (above : List ℕ) (k : ℕ) →
      (g : Function) × Among g (reach F above) × SameFunction n g (function_at (L ∷ levels) T (x ∷ order) k) → (b : Bool) (j : ℕ) →
      child b (at L k) ≡ j →
      (g : Function) × Among g (reach F (above ++ x ∷ [])) × SameFunction n g (function_at levels T order j)
  child_covered F above k up b j e = (
    restrict x b up.0,
    reach_more F above x b up.0 up.1,
    subst (λ v. SameFunction n (restrict x b up.0) (function_at levels T order v)) e
        (same_trans n (restrict x b up.0) _ (function_at levels T order (child b (at L k)))
        (restrict_same n x b up.0 (function_at (L ∷ levels) T (x ∷ order) k) up.2) (restricted n L levels T x order k b lt out)),
  )

  -- one level down
  pub covers_next : (F : List Function) (above : List ℕ) → Covers n (reach F above) (L ∷ levels) T (x ∷ order) →
      Covers n (reach F (above ++ x ∷ [])) levels T order
  covers_next F above c = record {
    from = λ g m.
        let last = reach_last F above x g m in
        let h = last.0 in
        let b = last.1 in
        let up = c.from h last.2 in
        let k = up.0 in
        let i = level.inside k up.1 in
        let same = restrict_same n x b h (function_at (L ∷ levels) T (x ∷ order) k) up.2 in (
          child b (at L k),
          child_has (λ v. v < places levels T) b (at L k) i.0 i.1,
          subst (λ u. SameFunction n u (function_at levels T order (child b (at L k)))) (sym last.3)
              (same_trans n (restrict x b h) _ (function_at levels T order (child b (at L k))) same (restricted n L levels T x order k b lt out)),
        );
    to = λ j h.
        let r = level.reached j h in
        let k = r.0 in
        let up = c.to k r.1 in
        elim r.2 [ inl e ↦ child_covered F above k up false j e | inr e ↦ child_covered F above k up true j e ];
  }

  -- a place's function depends on the variable just where its children are two
  pub node_depends : (most : ℕ) → AreTerminals T → length levels ≡ length order → Below n order → IsDistinct nat_eq order →
      AreLevels most T levels → (k : ℕ) → k < length L →
      depends n (function_at (L ∷ levels) T (x ∷ order) k) x ≡ not (nat_eq (at L k).0 (at L k).1)
  unfolding DependsOn
  node_depends most t e below d ok k h =
      let f = function_at (L ∷ levels) T (x ∷ order) k in
      let low = restricted n L levels T x order k false lt out in
      let high = restricted n L levels T x order k true lt out in
      let i = level.inside k h in
      elim (cases_eq (at L k).0 (at L k).1) [
        | inl s ↦
            let turned = subst (λ v. SameFunction n (restrict x false f) (function_at levels T order v)) s low in
            depends_false n f x (same_trans n (restrict x false f) _ (restrict x true f) turned (same_sym n (restrict x true f) _ high))
            ∙ ap not (sym (eq-eqb _ _ s))
        | inr ne ↦
            (depends_lem n f x).1 (λ same. ne (canonical n most T levels order t e below d ok (at L k).0 (at L k).1 i.0 i.1
            (same_trans n (function_at levels T order (at L k).0) _ (function_at levels T order (at L k).1) (same_sym n (restrict x false f) _ low)
            (same_trans n (restrict x false f) _ (function_at levels T order (at L k).1) same high))))
            ∙ ap not (sym (ne_eqb _ _ ne))
      ]

-- ---- counting

module _ (test : Children → Bool) (h : ℕ → List Bool) where
  all_apart : (t : List Bool) (es : List (ℕ × Children)) → ((e : ℕ × Children) → Among e es → t ≢ h e.0) →
      AllByRecursion (λ u. same_table t u ≡ false) (map (λ (e : ℕ × Children). h e.0) (filter (λ e. test e.1) es))
  all_apart t [] ne = tt
  all_apart t (e ∷ es) ne = by (test e.1) (all_apart t es (λ u k. ne u (inr k)))
    where
      by : (b : Bool) → AllByRecursion (λ u. same_table t u ≡ false) (map (λ (e : ℕ × Children). h e.0) (filter (λ e. test e.1) es)) →
          AllByRecursion (λ u. same_table t u ≡ false) (map (λ (e : ℕ × Children). h e.0) (cond b (e ∷ filter (λ e. test e.1) es) (filter (λ e. test e.1) es)))
      by true r = (false_from_ne_true (same_table t (h e.0)) (λ k. ne e (inl refl) ((same_table_decides t (h e.0)).0 k)), r)
      by false r = r

  distinct_tables : (xs : List Children) (s : ℕ) →
      ((e g : ℕ × Children) → Among e (enumerate_from s xs) → Among g (enumerate_from s xs) → h e.0 ≡ h g.0 → e.0 ≡ g.0) →
      IsDistinct same_table (map (λ (e : ℕ × Children). h e.0) (filter (λ e. test e.1) (enumerate_from s xs)))
  unfolding IsDistinct
  distinct_tables [] s inj = tt
  distinct_tables (x ∷ xs) s inj =
      by (test x) (distinct_tables xs (s + 1) (λ e g a b. inj e g (inr a) (inr b))) (all_apart (h s) (enumerate_from (s + 1) xs) later)
    where
      later : (e : ℕ × Children) → Among e (enumerate_from (s + 1) xs) → h s ≢ h e.0
      later e a k = let f = inj (s, x) e (inl refl) (inr a) k in let g = (enumerated_from xs (s + 1) e a).1 in omega arith

      tail : List (ℕ × Children)
      tail = filter (λ e. test e.1) (enumerate_from (s + 1) xs)

      by : (b : Bool) → IsDistinct same_table (map (λ (e : ℕ × Children). h e.0) tail) →
          AllByRecursion (λ u. same_table (h s) u ≡ false) (map (λ (e : ℕ × Children). h e.0) tail) →
          IsDistinct same_table (map (λ (e : ℕ × Children). h e.0) (cond b ((s, x) ∷ tail) tail))
      by true r a = (a, r)
      by false r a = r

  distinct_in : (xs : List Children) →
      IsDistinct same_table (map (λ (e : ℕ × Children). h e.0) (filter (λ e. test e.1) (enumerate_from 0 xs))) →
      distinct_count same_table (map (λ (e : ℕ × Children). h e.0) (filter (λ e. test e.1) (enumerate_from 0 xs))) ≡ count_by test xs
  distinct_in xs d =
      distinct_count-from_IsDistinct (lists_equiv bool_eq_equiv) (map (λ (e : ℕ × Children). h e.0) (filter (λ e. test e.1) (enumerate_from 0 xs))) d
      ∙ length-map (filter (λ (e : ℕ × Children). test e.1) (enumerate_from 0 xs)) (λ (e : ℕ × Children). h e.0)
      ∙ count_enumerated test xs 0 ∙ length-filter test xs

-- an element by its place, and its default
slice_is_get : (xs : List Children) (k : ℕ) (c : Children) → slice_get xs k ≡ Some c → (at xs k ≡ c) × (k < length xs)
slice_is_get [] k c e = cc
slice_is_get (x ∷ xs) zero c e = (same_Some x c e, omega arith)
slice_is_get (x ∷ xs) (suc k) c e = let r = slice_is_get xs k c e in (r.0, omega (arith, r.1))

get_is_slice : (xs : List Children) (k : ℕ) → k < length xs → slice_get xs k ≡ Some (at xs k)
get_is_slice [] k h = absurd (omega arith)
get_is_slice (x ∷ xs) zero h = refl
get_is_slice (x ∷ xs) (suc k) h = get_is_slice xs k (omega arith)

-- how many of the functions depend on the level's variable
pub counted : (n most : ℕ) (L : List Children) (levels : List (List Children)) (T : List Bool) (x : ℕ) (order : List ℕ)
    (G : List Function) →
    x < n → has order x ≡ false → AreTerminals T → length levels ≡ length order →
    Below n order → IsDistinct nat_eq order → IsLevel (places levels T) L → AreLevels most T levels →
    Covers n G (L ∷ levels) T (x ∷ order) → dependents n G x ≡ branching L
unfolding dependents branching
counted n most L levels T x order G lt out t e below d level ok c =
    count_same same_table same_table_decides found tables to from ∙ distinct_in test node_table L (distinct_tables test node_table L 0 inj)
  where
    test : Children → Bool
    test c = not (nat_eq c.0 c.1)

    f : ℕ → Function
    f k = function_at (L ∷ levels) T (x ∷ order) k

    node_table : ℕ → List Bool
    node_table k = table n (f k)

    found : List (List Bool)
    found = map (table n) (filter (λ g. depends n g x) G)

    listed : List (ℕ × Children)
    listed = filter (λ e. test e.1) (enumerate_from 0 L)

    tables : List (List Bool)
    tables = map (λ (e : ℕ × Children). node_table e.0) listed

    node_at : (e : ℕ × Children) → Among e (enumerate_from 0 L) → (at L e.0 ≡ e.1) × (e.0 < length L)
    node_at e a = let g = enumerated_from L 0 e a in slice_is_get L e.0 e.1 (ap (slice_get L) (g.1 ∙ zero-add g.0) ∙ g.2)

    same_place : (j k : ℕ) → j < length L → k < length L → SameFunction n (f j) (f k) → j ≡ k
    same_place j k a b same =
        let by = λ (v : Bool).
        let low = restricted n L levels T x order j v lt out in
        let high = restricted n L levels T x order k v lt out in
        let i = level.inside j a in
        let m = level.inside k b in
        canonical n most T levels order t e below d ok (child v (at L j)) (child v (at L k))
        (child_has (λ w. w < places levels T) v (at L j) i.0 i.1) (child_has (λ w. w < places levels T) v (at L k) m.0 m.1)
        (same_trans n (function_at levels T order (child v (at L j))) _ (function_at levels T order (child v (at L k)))
        (same_sym n _ (function_at levels T order (child v (at L j))) low)
        (same_trans n (restrict x v (f j)) _ (function_at levels T order (child v (at L k))) (restrict_same n x v (f j) (f k) same) high)) in
        level.once j k a b (same_children (at L j) (at L k) (by false) (by true))

    inj : (e g : ℕ × Children) → Among e (enumerate_from 0 L) → Among g (enumerate_from 0 L) → node_table e.0 ≡ node_table g.0 → e.0 ≡ g.0
    inj e g a b same =
        same_place e.0 g.0 (node_at e a).1 (node_at g b).1 (same_from_table n (f e.0) (f g.0) same)

    to : Within found tables
    to u m =
        let g = among_from_map (table n) u (filter (λ g. depends n g x) G) m in
        let kept = among_from_filter (λ g. depends n g x) g.0 G g.1 in
        let k = c.from g.0 kept.0 in
        let dep = sym (node_depends n L levels T x order lt out level most t e below d ok k.0 k.1) ∙ sym (depends_same n g.0 (f k.0) x k.2) ∙ kept.1 in
        let among = enumerated L 0 k.0 (at L k.0) (get_is_slice L k.0 k.1) in
        let there : Among (k.0, at L k.0) (enumerate_from 0 L) = subst (λ j. Among (j, at L k.0) (enumerate_from 0 L)) (zero-add k.0) among in
        subst (λ v. Among v tables) (sym (g.2 ∙ table_same n g.0 (f k.0) k.2))
        (among_map (λ (e : ℕ × Children). node_table e.0) (k.0, at L k.0) listed (among_filter (λ e. test e.1) (k.0, at L k.0) (enumerate_from 0 L) there dep))

    from : Within tables found
    from u m =
        let g = among_from_map (λ (e : ℕ × Children). node_table e.0) u listed m in
        let kept = among_from_filter (λ e. test e.1) g.0 (enumerate_from 0 L) g.1 in
        let k = g.0.0 in
        let node = node_at g.0 kept.0 in
        let h = c.to k node.1 in
        let dep = depends_same n h.0 (f k) x h.2 ∙ node_depends n L levels T x order lt out level most t e below d ok k node.1 ∙ ap test node.0 ∙ kept.1 in
        subst (λ v. Among v found) (sym (g.2 ∙ sym (table_same n h.0 (f k) h.2))) (among_map (table n) h.0 _ (among_filter (λ g. depends n g x) h.0 G h.1 dep))

-- ---- all levels

distinct_behind : (xs ys : List ℕ) → IsDistinct nat_eq (xs ++ ys) → IsDistinct nat_eq ys
unfolding IsDistinct
distinct_behind [] ys d = d
distinct_behind (x ∷ xs) ys d = distinct_behind xs ys d.1

below_behind : (n : ℕ) (above order : List ℕ) → IsOrder n (above ++ order) → Below n order
below_behind n above order o = below_from_has n order (λ y h. (o.all y).0 (has_append above order y ∙ or_right (has above y) _ h))

pub counts_below : (n most : ℕ) (T : List Bool) (F : List Function) (levels : List (List Children)) (above order : List ℕ) →
    IsOrder n (above ++ order) → AreTerminals T → length levels ≡ length order → AreLevels most T levels →
    Covers n (reach F above) levels T order → map (level_count n F (above ++ order)) (range_with_len (length above) (length order)) ≡ map branching levels
unfolding IsDistinct
counts_below n most T F [] above [] o t e ok c = refl
counts_below n most T F [] above (x ∷ order) o t e ok c = absurd (omega arith)
counts_below n most T F (L ∷ levels) above [] o t e ok c = absurd (omega arith)
counts_below n most T F (L ∷ levels) above (x ∷ order) o t e ok c =
    let same = append_assoc above (x ∷ []) order in
    let o' = subst (λ xs. IsOrder n xs) (sym same) o in
    let long = length_push above x in
    let d = distinct_behind above (x ∷ order) o.once in
    let b = below_behind n above (x ∷ order) o in
    let out = absent_from_apart x order d.0 in
    let e' : length levels ≡ length order = omega arith in
    let here = level_lem n F above x order ∙ counted n (2 * most) L levels T x order (reach F above) b.0 out t e' b.1 d.1 ok.0 ok.2 c in
    let next = covers_next n L levels T x order b.0 out ok.0 F above c in
    let rest = counts_below n (2 * most) T F levels (above ++ x ∷ []) order o' t e' ok.2 next in
    let rest' = ap₂ (λ xs m. map (level_count n F xs) (range_with_len m (length order))) (sym same) (sym long) ∙ rest in
    ap₂ (λ m ms. m ∷ ms) here rest'

-- where an element stands
among_place : (f : Function) (F : List Function) → Among f F → (j : ℕ) × (j < length F) × ((d : Function) → get_or F j d ≡ f)
among_place f [] m = absurd m
among_place f (g ∷ F) m =
    elim m [
      | inl e ↦ (0, omega arith, λ d. sym e)
      | inr r ↦ let p = among_place f F r in (suc p.0, omega (arith, p.1), p.2)
    ]

place_among : (F : List Function) (j : ℕ) (d : Function) → j < length F → Among (get_or F j d) F
place_among [] j d h = absurd (omega arith)
place_among (g ∷ F) zero d h = inl refl
place_among (g ∷ F) (suc j) d h = inr (place_among F j d (omega arith))

pub roots_cover : (n : ℕ) (levels : List (List Children)) (T : List Bool) (order roots : List ℕ) (F : List Function) →
    AreRoots (places levels T) roots → length F ≡ length roots →
    ((j : ℕ) (g : Function) → j < length roots → SameFunction n (get_or F j g) (function_at levels T order (get_or roots j 0))) →
    Covers n (reach F []) levels T order
unfolding reach subfunctions
roots_cover n levels T order roots F ok e same = record {
  from = λ g m.
      let f = among_from_flat_map (subfunctions []) g F m in
      let is : g ≡ f.0 = elim f.2 [ inl s ↦ s | inr r ↦ absurd r ] in
      let p = among_place f.0 F f.1 in
      let lt : p.0 < length roots = omega (arith, p.1) in
      (get_or roots p.0 0, ok.inside p.0 lt, subst (λ h. SameFunction n h (function_at levels T order (get_or roots p.0 0))) (p.2 g ∙ sym is) (same p.0 g lt));
  to = λ k h.
      let r = ok.reached k h in
      let g = function_at levels T order k in
      let lt : r.0 < length F = omega (arith, r.1) in
      let f = get_or F r.0 g in (
        f,
        among_flat_map (subfunctions []) f F f (place_among F r.0 g lt) (inl refl),
        subst (λ m. SameFunction n f (function_at levels T order m)) r.2 (same r.0 g r.1),
      );
}

-- the level counts, and the size
pub all_counts : (n most : ℕ) (T : List Bool) (F : List Function) (levels : List (List Children)) (order : List ℕ) → IsOrder n order →
    AreTerminals T → length levels ≡ length order → AreLevels most T levels →
    Covers n (reach F []) levels T order → level_counts n F order ≡ map branching levels
unfolding level_counts
all_counts n most T F levels order o t e ok c = counts_below n most T F levels [] order o t e ok c
