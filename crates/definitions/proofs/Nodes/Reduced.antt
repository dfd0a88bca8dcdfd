-- A reduced ordered diagram: equal functions have equal refs, and its levels have just the level counts.
use Rattle.std.proofs.Common.{◌≡◌, ◌≢◌, ℕ, zero, suc, ◌+◌, ◌-◌, ◌<◌, ◌≤◌, Bool, true, false, cond, ◌⊎◌, inl, inr, List, [], ◌∷◌, ◌++◌, map, length, set, get_or, take, drop, take-add, replicate, slice_get, slice_index, refl, sym, ap, ◌∙◌, subst, arith, nat_eq, eqb-true, zero-add, add-zero, Some, Contains}
use Rattle.std.specs.List.{filter, enumerate_from, AllZip, AllByRecursion, IsDistinct}
use Rattle.std.proofs.lemmas.Bool.{cases_eq, cases_order, false_from_ne_true}
use Rattle.std.proofs.lemmas.List.{length-set, length-replicate, get_or-set_same, length-take-le, length-drop, get_or-take, get_or-drop, take_more, length-map}
use Rattle.std.proofs.lemmas.List.Sums.{length-filter}
use Rattle.std.proofs.lemmas.Map.Made.{distinct_count-from_IsDistinct}
use Rattle.std.specs.Cmp.{bool_eq_equiv}
use Rattle.std.specs.Cmp.Lexicographic.{lists_equiv}
use Rattle.std.proofs.lemmas.Option.{slice_get_within, slice_get_cases, same_Some}
use Rattle.definitions.specs.declared.refs.Ref.{Ref}
use Rattle.definitions.specs.declared.refs.Ref.TheVariants.{Terminal, Place}
use Rattle.definitions.specs.declared.refs.Node.{Node}
use Rattle.definitions.specs.Functions.{Point, Function, restrict, SameFunction, DependsOn, table, same_table, depends}
use Rattle.definitions.specs.Orders.{IsOrder, place_in}
use Rattle.definitions.specs.Levels.{subfunctions, reach, dependents, level_count}
use Rattle.definitions.specs.Diagrams.{Graph, IsDiagram, IsBefore, IsOrdered, IsOf, IsChild, IsReduced, Reached, Represents, value, nodes_at}
use Rattle.definitions.specs.Diagrams.Reached.{from_root, from_parent}
use Rattle.definitions.proofs.Lists.Sets.{Among, Within, among_left, among_right, among_cases, among_filter, among_from_filter, among_map, among_from_map, among_flat_map, among_from_flat_map, count_mono}
use Rattle.definitions.proofs.Functions.Tables.{same_sym, same_trans, restrict_same, table_same, same_from_table, depends_lem, same_table_decides}
use Rattle.definitions.proofs.Lists.Orders.{place_at, place_get, place_small}
use Rattle.definitions.proofs.Nodes.Paths.{before_more, child_before, value_place, value_terminal, StandsFrom, child_stands}
use Rattle.definitions.proofs.Nodes.LevelBound.{free, AtPlaces, at_places, count_enumerated, level_bound}
use Rattle.definitions.proofs.Nodes.Construction.{reach_more}

-- a function that is the same as one that does not depend on x does not either
transfer : (n x : ℕ) (f g : Function) → SameFunction n f g → SameFunction n (restrict x false g) (restrict x true g) →
    SameFunction n (restrict x false f) (restrict x true f)
transfer n x f g h k =
    same_trans n (restrict x false f) (restrict x false g) (restrict x true f) (restrict_same n x false f g h)
    (same_trans n (restrict x false g) (restrict x true g) (restrict x true f) k (restrict_same n x true g f (same_sym n f g h)))

-- a terminal or place before suc k is before k, or is k
before_split : (k : ℕ) (r : Ref) → IsBefore (suc k) r → IsBefore k r ⊎ (r ≡ Place k)
before_split k (Terminal b) h = inl tt
before_split k (Place j) h = elim (cases_eq j k) [ inl e ↦ inr (ap Place e) | inr ne ↦ inl (omega arith) ]

zeros : ℕ → Point
zeros n = replicate n false

module _ (n : ℕ) (order : List ℕ) (d : Graph) (ok : IsDiagram n d) (ordered : IsOrdered order d) where
  -- the restriction of a node's function by its own variable is the child's function
  child_value : (k : ℕ) (node : Node) → slice_get d.nodes k ≡ Some node → (b : Bool) →
      SameFunction n (value d.nodes (cond b node.high node.low)) (restrict node.variable b (value d.nodes (Place k)))
  unfolding SameFunction restrict
  child_value k node e b p l =
      let x = node.variable in
      let lt = slice_get_within d.nodes k node e in
      let small = (ok.nodes k node e).variable in
      let c = cond b node.high node.low in
      let before : IsBefore (length d.nodes) c = before_more k (length d.nodes) c (omega arith) (child_before n d ok k node b e) in
      sym (free n order d ok ordered (suc (place_in order x)) x (omega arith) b p c before (child_stands n order d ok ordered k node b e))
      ∙ ap (λ w. value d.nodes (cond w node.high node.low) (set p x b)) (sym (get_or-set_same p x b false (omega arith)))
      ∙ sym (value_place n d ok (set p x b) k node e)

  -- a ref that stands below a variable's place does not depend on it
  not_dependent : (x : ℕ) (r : Ref) → IsBefore (length d.nodes) r → StandsFrom order d.nodes (suc (place_in order x)) r →
      SameFunction n (restrict x false (value d.nodes r)) (restrict x true (value d.nodes r))
  unfolding SameFunction restrict
  not_dependent x r before stands p l =
      free n order d ok ordered (suc (place_in order x)) x (omega arith) false p r before stands
      ∙ sym (free n order d ok ordered (suc (place_in order x)) x (omega arith) true p r before stands)

  module _ (reduced : IsReduced d) (inj : (x y : ℕ) → x < n → y < n → place_in order x ≡ place_in order y → x ≡ y) where
    abbrev pub Canonical : ℕ → Type 0
    Canonical k = (r s : Ref) → IsBefore k r → IsBefore k s → SameFunction n (value d.nodes r) (value d.nodes s) → r ≡ s

    node_depends : (k : ℕ) → Canonical k → (node : Node) → slice_get d.nodes k ≡ Some node →
        SameFunction n (restrict node.variable false (value d.nodes (Place k))) (restrict node.variable true (value d.nodes (Place k))) → ⊥
    node_depends k can node e same =
        let few = child_value k node e false in
        let deep = child_value k node e true in
        let both = same_trans n (value d.nodes node.low) _ (value d.nodes node.high) few
        (same_trans n _ _ (value d.nodes node.high) same (same_sym n (value d.nodes node.high) _ deep)) in
        reduced.not_redundant k node e (can node.low node.high (ok.nodes k node e).low (ok.nodes k node e).high both)

    fewer : (j k : ℕ) → j ≤ k → Canonical k → Canonical j
    fewer j k le can r s a b = can r s (before_more j k r le a) (before_more j k s le b)

    -- a node at k has another function than each ref before it
    new_function : (k : ℕ) → Canonical k → (node : Node) → slice_get d.nodes k ≡ Some node → (s : Ref) → IsBefore k s →
        SameFunction n (value d.nodes (Place k)) (value d.nodes s) → ⊥
    unfolding StandsFrom
    new_function k can node e (Terminal b) before same =
        node_depends k can node e
        (transfer n node.variable (value d.nodes (Place k)) (value d.nodes (Terminal b)) same
        (not_dependent node.variable (Terminal b) tt tt))
    new_function k can node e (Place j) before same =
        elim (slice_get_cases d.nodes j).1 [
          | inl found ↦ by found.0 found.2
          | inr past ↦ let lt = slice_get_within d.nodes k node e in absurd (omega (arith, past.0, before))
        ]
      where
        place_of : Node → ℕ
        place_of v = place_in order v.variable

        by : (other : Node) → slice_get d.nodes j ≡ Some other → ⊥
        by other f =
            elim (cases_order (place_of node) (place_of other)) [
              | inl s ↦ equal (inj node.variable other.variable (ok.nodes k node e).variable (ok.nodes j other f).variable s)
              | inr t ↦ elim t [ inl lt ↦ above lt | inr gt ↦ below gt ]
            ]
          where
            lt_j : j < length d.nodes
            lt_j = slice_get_within d.nodes j other f

            lt_k : k < length d.nodes
            lt_k = slice_get_within d.nodes k node e

            child : node.variable ≡ other.variable → (b : Bool) → cond b node.high node.low ≡ cond b other.high other.low
            child v b =
                let one = child_value k node e b in
                let two = child_value j other f b in
                let mid = restrict_same n node.variable b (value d.nodes (Place k)) (value d.nodes (Place j)) same in
                let turned =
                subst (λ x. SameFunction n (restrict x b (value d.nodes (Place j))) (value d.nodes (cond b other.high other.low)))
                (sym v) (same_sym n (value d.nodes (cond b other.high other.low)) _ two) in
                can (cond b node.high node.low) (cond b other.high other.low) (child_before n d ok k node b e)
                (before_more j k _ (omega (arith, before)) (child_before n d ok j other b f))
                (same_trans n _ _ (value d.nodes (cond b other.high other.low)) one (same_trans n _ _ (value d.nodes (cond b other.high other.low)) mid turned))

            equal : node.variable ≡ other.variable → ⊥
            equal v =
                let same_node : other ≡ node = λ i. record { variable = sym v i; low = sym (child v false) i; high = sym (child v true) i } in
                let t = reduced.no_two_equal j k node (f ∙ ap Some same_node) e in
                omega (arith, before)

            above : place_of node < place_of other → ⊥
            above lt =
                node_depends k can node e (transfer n node.variable (value d.nodes (Place k)) (value d.nodes (Place j)) same
                (not_dependent node.variable (Place j) lt_j (λ z is. let t = ap place_of (same_Some z other (sym is ∙ f)) in omega arith)))

            below : place_of other < place_of node → ⊥
            below lt =
                node_depends j (fewer j k (omega (arith, before)) can) other f
                (transfer n other.variable (value d.nodes (Place j)) (value d.nodes (Place k))
                (same_sym n (value d.nodes (Place k)) (value d.nodes (Place j)) same)
                (not_dependent other.variable (Place k) lt_k (λ z is. let t = ap place_of (same_Some z node (sym is ∙ e)) in omega arith)))

    -- equal functions have equal refs
    pub canonical : (k : ℕ) → k ≤ length d.nodes → Canonical k
    unfolding SameFunction zeros
    canonical zero le (Terminal a) (Terminal b) h g same =
        ap Terminal
        (sym (value_terminal d.nodes (zeros n) a) ∙ same (zeros n) (length-replicate n false) ∙ value_terminal d.nodes (zeros n) b)
    canonical zero le (Terminal a) (Place j) h g same = absurd (omega (arith, g))
    canonical zero le (Place i) s h g same = absurd (omega (arith, h))
    canonical (suc k) le r s h g same =
        elim (slice_get_cases d.nodes k).1 [
          | inl found ↦ by found.0 found.2 (before_split k r h) (before_split k s g) (canonical k (omega arith))
          | inr past ↦ absurd (omega (arith, past.0))
        ]
      where
        by : (node : Node) → slice_get d.nodes k ≡ Some node → IsBefore k r ⊎ (r ≡ Place k) → IsBefore k s ⊎ (s ≡ Place k) → Canonical k → r ≡ s
        by node e (inl a) (inl b) can = can r s a b same
        by node e (inl a) (inr b) can =
            absurd (new_function k can node e r a
            (same_sym n (value d.nodes r) (value d.nodes (Place k))
            (subst (λ t. SameFunction n (value d.nodes r) (value d.nodes t)) b same)))
        by node e (inr a) (inl b) can = absurd (new_function k can node e s b (subst (λ t. SameFunction n (value d.nodes t) (value d.nodes s)) a same))
        by node e (inr a) (inr b) can = a ∙ sym b

-- ---- what a node's function is got from

subfunctions_append : (xs ys : List ℕ) (f g h : Function) → Among g (subfunctions xs f) → Among h (subfunctions ys g) → Among h (subfunctions (xs ++ ys) f)
unfolding subfunctions
subfunctions_append [] ys f g h a b = elim a [ inl e ↦ subst (λ k. Among h (subfunctions ys k)) e b | inr r ↦ absurd r ]
subfunctions_append (x ∷ xs) ys f g h a b =
    elim (among_cases g (subfunctions xs (restrict x false f)) (subfunctions xs (restrict x true f)) a) [
      | inl c ↦ among_left h _ _ (subfunctions_append xs ys (restrict x false f) g h c b)
      | inr c ↦ among_right h (subfunctions (xs ++ ys) (restrict x false f)) _ (subfunctions_append xs ys (restrict x true f) g h c b)
    ]

reach_append : (F : List Function) (xs ys : List ℕ) (g h : Function) → Among g (reach F xs) → Among h (subfunctions ys g) → Among h (reach F (xs ++ ys))
unfolding reach
reach_append F xs ys g h a b =
    let from = among_from_flat_map (subfunctions xs) g F a in
    among_flat_map (subfunctions (xs ++ ys)) from.0 F h from.1 (subfunctions_append xs ys from.0 g h from.2 b)

zip_root : (R : Ref → Function → Type 0) (roots : List Ref) (F : List Function) → AllZip R roots F → (k : ℕ) (r : Ref) → k < length roots →
    (f : Function) × Among f F × R (get_or roots k r) f
zip_root R [] F z k r h = absurd (omega arith)
zip_root R (s ∷ roots) [] z k r h = absurd z
zip_root R (s ∷ roots) (f ∷ F) z zero r h = (f, inl refl, z.0)
zip_root R (s ∷ roots) (f ∷ F) z (suc k) r h = let rest = zip_root R roots F z.1 k r (omega arith) in (rest.0, inr rest.1, rest.2)

module _ (n : ℕ) (F : List Function) (order : List ℕ) (o : IsOrder n order) (d : Graph) (rep : Represents n F order d) where
  -- restricting variables above a ref leaves its function
  free_all : (xs : List ℕ) (a i : ℕ) → AtPlaces n order a xs → a + length xs ≤ i → (r : Ref) → IsBefore (length d.nodes) r →
      StandsFrom order d.nodes i r → (f : Function) → SameFunction n (value d.nodes r) f →
      (g : Function) × Among g (subfunctions xs f) × SameFunction n (value d.nodes r) g
  unfolding subfunctions SameFunction restrict
  free_all [] a i at le r before stands f same = (f, inl refl, same)
  free_all (x ∷ xs) a i at le r before stands f same =
      let rest = free_all xs (suc a) i at.3 (omega arith) r before stands (restrict x false f)
      (λ p l. sym (free n order d rep.diagram rep.ordered i x (omega arith) false p r before stands)
      ∙ same (set p x false) (length-set p x false ∙ l)) in
      (rest.0, among_left rest.0 _ _ rest.1, rest.2)

  down : (a m : ℕ) → a + m ≤ length order → (r : Ref) → IsBefore (length d.nodes) r → StandsFrom order d.nodes (a + m) r → (g : Function) →
      Among g (reach F (take a order)) → SameFunction n (value d.nodes r) g →
      (h : Function) × Among h (reach F (take (a + m) order)) × SameFunction n (value d.nodes r) h
  down a m le r before stands g h same =
      let rest = free_all part a (a + m) at (omega (arith, long)) r before stands g same in
      (rest.0, subst (λ xs. Among rest.0 (reach F xs)) (sym (take-add a m order)) (reach_append F (take a order) part g rest.0 h rest.1), rest.2)
    where
      part : List ℕ
      part = take m (drop a order)

      long : length part ≡ m
      long = length-take-le m (drop a order) (omega (arith, length-drop a order))

      at : AtPlaces n order a part
      at = at_places n order o a part (λ k lt. sym (get_or-take m (drop a order) k 0 (omega (arith, long)) ∙ get_or-drop a order k 0)) (omega (arith, long))

  place_inside : (k : ℕ) (node : Node) → slice_get d.nodes k ≡ Some node → place_in order node.variable < length order
  place_inside k node e = place_small order node.variable ((o.all node.variable).1 (rep.diagram.nodes k node e).variable)

  place_of : Node → ℕ
  place_of node = place_in order node.variable

  own_stand : (k : ℕ) (node : Node) → slice_get d.nodes k ≡ Some node → StandsFrom order d.nodes (place_in order node.variable) (Place k)
  unfolding StandsFrom place_of
  own_stand k node e other f = omega (arith, ap place_of (same_Some other node (sym f ∙ e)))

  Got : ℕ → Node → Type 0
  Got k node = (g : Function) × Among g (reach F (take (place_in order node.variable) order)) × SameFunction n (value d.nodes (Place k)) g

  -- from the functions reached at a place above, down to the node's own level
  land : (k : ℕ) (node : Node) → slice_get d.nodes k ≡ Some node → (a : ℕ) → a ≤ place_in order node.variable → (g : Function) →
      Among g (reach F (take a order)) → SameFunction n (value d.nodes (Place k)) g → Got k node
  unfolding Got
  land k node e a le g h same =
      let i = place_in order node.variable in
      let inside = place_inside k node e in
      let sum : a + (i - a) ≡ i = omega arith in
      let rest = down a (i - a) (omega arith) (Place k) (slice_get_within d.nodes k node e)
      (subst (λ j. StandsFrom order d.nodes j (Place k)) (sym sum) (own_stand k node e)) g h same in
      (rest.0, subst (λ j. Among rest.0 (reach F (take j order))) sum rest.1, rest.2)

  from_a_root : (r : Ref) → Contains d.roots r → (k : ℕ) (node : Node) → r ≡ Place k → slice_get d.nodes k ≡ Some node → Got k node
  unfolding IsOf reach subfunctions
  from_a_root r c k node e is =
      let f = zip_root (λ r f. SameFunction n (value d.nodes r) f) d.roots F rep.functions c.0 r c.1 in
      let same = subst (λ s. SameFunction n (value d.nodes s) f.0) (c.2 ∙ e) f.2 in
      land k node is 0 (omega arith) f.0 (among_flat_map (subfunctions []) f.0 F f.0 f.1 (inl refl)) same

  from_a_parent : (j : ℕ) (parent : Node) → slice_get d.nodes j ≡ Some parent → Got j parent → (k : ℕ) (node : Node) →
      slice_get d.nodes k ≡ Some node → IsChild (Place k) parent → Got k node
  unfolding Got IsOrdered
  from_a_parent j parent f got k node is c = elim c [ inl e ↦ by false e | inr e ↦ by true e ]
    where
      x : ℕ
      x = parent.variable

      above : place_in order x < place_in order node.variable
      above = rep.ordered k j node parent is f c

      by : (b : Bool) → cond b parent.high parent.low ≡ Place k → Got k node
      by b e =
          let i = place_in order x in
          let inside = place_inside j parent f in
          let same = subst (λ r. SameFunction n (value d.nodes r) (restrict x b (value d.nodes (Place j)))) e
          (child_value n order d rep.diagram rep.ordered j parent f b) in
          let same' =
          same_trans n (value d.nodes (Place k)) (restrict x b (value d.nodes (Place j))) (restrict x b got.0) same
          (restrict_same n x b (value d.nodes (Place j)) got.0 got.2) in
          let front = take_more order i 0 inside ∙ ap (λ y. take i order ++ y ∷ []) (place_at order x inside) in
          land k node is (i + 1) (omega (arith, above)) (restrict x b got.0)
          (subst (λ xs. Among (restrict x b got.0) (reach F xs)) (sym front) (reach_more F (take i order) x b got.0 got.1)) same'

  -- each reached node has a function that is got by restricting the variables above its own
  node_function : {r : Ref} → Reached d r → (k : ℕ) (node : Node) → r ≡ Place k → slice_get d.nodes k ≡ Some node → Got k node
  node_function (from_root {r = r} c) k node e is = from_a_root r c k node e is
  node_function (from_parent {r = r} j parent h f c) k node e is =
      from_a_parent j parent f (node_function h j parent refl f) k node is (subst (λ s. IsChild s parent) e c)

-- ---- counting

pub enumerated_from : {X : Type 0} (xs : List X) (s : ℕ) (e : ℕ × X) → Among e (enumerate_from s xs) → (k : ℕ) × (e.0 ≡ s + k) × (slice_get xs k ≡ Some e.1)
enumerated_from [] s e h = absurd h
enumerated_from (x ∷ xs) s e h =
    elim h [
      | inl i ↦ (0, ap (λ t. t.0) i ∙ sym (add-zero s), sym (ap (λ t. Some t.1) i))
      | inr r ↦ let rest = enumerated_from xs (s + 1) e r in (suc rest.0, omega arith, rest.2)
    ]

module _ (test : Node → Bool) (h : ℕ × Node → List Bool) where
  all_apart : (t : List Bool) (es : List (ℕ × Node)) → ((e : ℕ × Node) → Among e es → t ≢ h e) →
      AllByRecursion (λ u. same_table t u ≡ false) (map h (filter (λ e. test e.1) es))
  all_apart t [] ne = tt
  all_apart t (e ∷ es) ne = by (test e.1) (all_apart t es (λ u k. ne u (inr k)))
    where
      by : (b : Bool) → AllByRecursion (λ u. same_table t u ≡ false) (map h (filter (λ e. test e.1) es)) →
          AllByRecursion (λ u. same_table t u ≡ false) (map h (cond b (e ∷ filter (λ e. test e.1) es) (filter (λ e. test e.1) es)))
      by true r = (false_from_ne_true (same_table t (h e)) (λ k. ne e (inl refl) ((same_table_decides t (h e)).0 k)), r)
      by false r = r

  distinct_tables : (xs : List Node) (s : ℕ) →
      ((e g : ℕ × Node) → Among e (enumerate_from s xs) → Among g (enumerate_from s xs) → h e ≡ h g → e.0 ≡ g.0) →
      IsDistinct same_table (map h (filter (λ e. test e.1) (enumerate_from s xs)))
  unfolding IsDistinct
  distinct_tables [] s inj = tt
  distinct_tables (x ∷ xs) s inj =
      by (test x) (distinct_tables xs (s + 1) (λ e g a b. inj e g (inr a) (inr b))) (all_apart (h (s, x)) (enumerate_from (s + 1) xs) later)
    where
      later : (e : ℕ × Node) → Among e (enumerate_from (s + 1) xs) → h (s, x) ≢ h e
      later e a k = let g = (enumerated_from xs (s + 1) e a).1 in omega (arith, inj (s, x) e (inl refl) (inr a) k)

      tail : List (ℕ × Node)
      tail = filter (λ e. test e.1) (enumerate_from (s + 1) xs)

      by : (b : Bool) → IsDistinct same_table (map h tail) → AllByRecursion (λ u. same_table (h (s, x)) u ≡ false) (map h tail) →
          IsDistinct same_table (map h (cond b ((s, x) ∷ tail) tail))
      by true r a = (a, r)
      by false r a = r

-- a reduced diagram has on each level just the level count
pub reduced_levels : (n : ℕ) (F : List Function) (order : List ℕ) (d : Graph) → IsOrder n order → Represents n F order d → IsReduced d →
    (i : ℕ) → i < length order →
    nodes_at d (slice_index order i) ≡ level_count n F order i
unfolding level_count dependents nodes_at DependsOn Got
reduced_levels n F order d o rep reduced i lt =
    omega (
      arith,
      level_bound n F order d o rep i lt,
      count_mono same_table same_table_decides tables found within,
      distinct_count-from_IsDistinct (lists_equiv bool_eq_equiv) tables distinct,
      length-map places place_table,
      count_enumerated test d.nodes 0,
      length-filter test d.nodes,
    )
  where
    x : ℕ
    x = slice_index order i

    test : Node → Bool
    test node = nat_eq node.variable x

    places : List (ℕ × Node)
    places = filter (λ e. test e.1) (enumerate_from 0 d.nodes)

    place_table : ℕ × Node → List Bool
    place_table e = table n (value d.nodes (Place e.0))

    tables : List (List Bool)
    tables = map place_table places

    found : List (List Bool)
    found = map (table n) (filter (λ f. depends n f x) (reach F (take i order)))

    inj : (x y : ℕ) → x < n → y < n → place_in order x ≡ place_in order y → x ≡ y
    inj y z a b e = sym (place_at order y (place_small order y ((o.all y).1 a))) ∙ ap (λ k. get_or order k 0) e
        ∙ place_at order z (place_small order z ((o.all z).1 b))

    can : Canonical n order d rep.diagram rep.ordered reduced inj (length d.nodes)
    can = canonical n order d rep.diagram rep.ordered reduced inj (length d.nodes) (omega arith)

    node_at : (e : ℕ × Node) → Among e (enumerate_from 0 d.nodes) → slice_get d.nodes e.0 ≡ Some e.1
    node_at e a = let f = enumerated_from d.nodes 0 e a in ap (slice_get d.nodes) (f.1 ∙ zero-add f.0) ∙ f.2

    inside : (e : ℕ × Node) → Among e (enumerate_from 0 d.nodes) → IsBefore (length d.nodes) (Place e.0)
    inside e a = slice_get_within d.nodes e.0 e.1 (node_at e a)

    same_place : (j k : ℕ) → Place j ≡ Place k → j ≡ k
    same_place j k e = cc

    distinct : IsDistinct same_table tables
    distinct = distinct_tables test place_table d.nodes 0
        (λ e g a b same. same_place e.0 g.0
        (can (Place e.0) (Place g.0) (inside e a) (inside g b)
        (same_from_table n (value d.nodes (Place e.0)) (value d.nodes (Place g.0)) same)))

    level : (e : ℕ × Node) → Among e (enumerate_from 0 d.nodes) → e.1.variable ≡ x → Among (place_table e) found
    level e a v =
        let k = e.0 in
        let got = node_function n F order o d rep (reduced.all_reached k (inside e a)) k e.1 refl (node_at e a) in
        let g = got.0 in
        let here = subst (λ j. Among g (reach F (take j order))) (ap (place_in order) v ∙ place_get order i o.once lt) got.1 in
        let dep = (depends_lem n g x).1
        (λ s. node_depends n order d rep.diagram rep.ordered reduced inj k
        (fewer n order d rep.diagram rep.ordered reduced inj k (length d.nodes) (omega (arith, inside e a)) can) e.1 (node_at e a)
        (transfer n e.1.variable (value d.nodes (Place k)) g got.2 (subst (λ y. SameFunction n (restrict y false g) (restrict y true g)) (sym v) s))) in
        subst (λ u. Among u found) (sym (table_same n (value d.nodes (Place k)) g got.2))
        (among_map (table n) g _ (among_filter (λ f. depends n f x) g (reach F (take i order)) here dep))

    within : Within tables found
    within t h =
        let from = among_from_map place_table t places h in
        let kept = among_from_filter (λ e. test e.1) from.0 (enumerate_from 0 d.nodes) from.1 in
        subst (λ u. Among u found) (sym from.2) (level from.0 kept.0 (eqb-true from.0.1.variable x kept.1))
