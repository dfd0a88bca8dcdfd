-- Each ordered diagram has on each level at least the level count.
--     descend      each subfunction by the variables above a level is the function of some ref that stands from that level on
--     level_bound, size_bound      at least the level count of nodes on each level; at least the size of the order in all
use Rattle.std.proofs.Common.{◌≡◌, ℕ, zero, suc, ◌+◌, ◌<◌, ◌≤◌, Bool, true, false, cond, ◌||◌, inl, inr, List, [], ◌∷◌, map, length, set, get_or, take, slice_get, slice_index, refl, sym, ap, ◌∙◌, subst, arith, nat_eq, eqb-true, zero-add, add-zero, Some}
use Rattle.std.specs.List.{filter, flat_map, enumerate_from, AllZip, AllByRecursion, IsDistinct, count_by, sum, range_with_len}
use Rattle.std.proofs.lemmas.Bool.{true≢false, cases_eq}
use Rattle.std.proofs.lemmas.List.{length-set, length-map, length-take-le, get_or-set_same, get_or-take}
use Rattle.std.proofs.lemmas.List.Elements.{recursion_from_All}
use Rattle.std.proofs.lemmas.List.FromFn.{fill_by_all}
use Rattle.std.proofs.lemmas.List.Sums.{length-filter, sum_by-cons, count_by-le-length}
use Rattle.std.proofs.lemmas.Option.{slice_get_cases, same_Some}
use Rattle.definitions.specs.declared.refs.Ref.{Ref}
use Rattle.definitions.specs.declared.refs.Ref.TheVariants.{Terminal, Place}
use Rattle.definitions.specs.declared.refs.Node.{Node}
use Rattle.definitions.specs.Functions.{Point, Function, bit, restrict, SameFunction, DependsOn, table, same_table, depends}
use Rattle.definitions.specs.Orders.{has, IsOrder, place_in}
use Rattle.definitions.specs.Levels.{subfunctions, reach, dependents, level_count, level_counts, size_under}
use Rattle.definitions.specs.Diagrams.{Graph, IsDiagram, IsBefore, IsOrdered, IsOf, Represents, value, nodes_at}
use Rattle.definitions.proofs.Lists.Sets.{Among, Within, among_cases, among_filter, among_from_filter, among_map, among_from_map, among_from_flat_map, count_le}
use Rattle.definitions.proofs.Functions.Tables.{table_same, depends_true, same_table_decides}
use Rattle.definitions.proofs.Lists.Orders.{has_at, place_at, place_get, absent_from_apart}
use Rattle.definitions.proofs.Nodes.Paths.{before_more, child_before, value_place, value_terminal, StandsFrom, stands_less, stands_top, child_stands, independent}
use mathlib.Core.List.{map-map}

-- the variables xs stand at the places from i on, and nothing else does
abbrev pub AtPlaces : ℕ → List ℕ → ℕ → List ℕ → Type 0
AtPlaces n order i [] = Unit {0}
AtPlaces n order i (x ∷ xs) = (place_in order x ≡ i) × (x < n) × ((v : ℕ) → place_in order v ≡ i → v ≡ x) × AtPlaces n order (suc i) xs

pub at_places : (n : ℕ) (order : List ℕ) → IsOrder n order → (i : ℕ) (xs : List ℕ) →
    ((k : ℕ) → k < length xs → get_or order (i + k) 0 ≡ get_or xs k 0) → i + length xs ≤ length order →
    AtPlaces n order i xs
at_places n order o i [] same le = tt
at_places n order o i (x ∷ xs) same le =
    let lt : i < length order = omega arith in
    let here : get_or order i 0 ≡ x = ap (λ k. get_or order k 0) (sym (add-zero i)) ∙ same 0 (omega arith) in (
      ap (place_in order) (sym here) ∙ place_get order i o.once lt,
      (o.all x).0 (ap (has order) (sym here) ∙ has_at order i lt),
      λ v e. let s : place_in order v < length order = omega arith in sym (place_at order v s) ∙ ap (λ k. get_or order k 0) e ∙ here,
      at_places n order o (suc i) xs
          (λ k h. let e : suc i + k ≡ i + suc k = omega arith in ap (λ m. get_or order m 0) e ∙ same (suc k) (omega arith)) (omega arith),
    )

module _ (n : ℕ) (order : List ℕ) (d : Graph) (ok : IsDiagram n d) (ordered : IsOrdered order d) where
  -- a ref of the function g, that stands from place i on
  abbrev pub Denotes : ℕ → Function → Type 0
  Denotes i g = (r : Ref) × SameFunction n (value d.nodes r) g × IsBefore (length d.nodes) r × StandsFrom order d.nodes i r

  -- such a ref does not depend on the variables above
  pub free : (i x : ℕ) → place_in order x < i → (b : Bool) (p : Point) (r : Ref) → IsBefore (length d.nodes) r →
      StandsFrom order d.nodes i r → value d.nodes r (set p x b) ≡ value d.nodes r p
  free i x lt b p r before stands = independent n order d ok ordered i x lt b p (length d.nodes) r (omega arith) before stands

  stay : (i x : ℕ) → place_in order x ≡ i → (b : Bool) (f : Function) (r : Ref) → SameFunction n (value d.nodes r) f →
      IsBefore (length d.nodes) r → StandsFrom order d.nodes (suc i) r →
      Denotes (suc i) (restrict x b f)
  unfolding SameFunction restrict
  stay i x e b f r same before stands =
      (r, λ p l. sym (free (suc i) x (omega arith) b p r before stands) ∙ same (set p x b) (length-set p x b ∙ l), before, stands)

  -- a node of the variable: its child denotes the restriction
  go_down : (i x : ℕ) → place_in order x ≡ i → x < n → (b : Bool) (f : Function) (k : ℕ) (node : Node) → slice_get d.nodes k ≡ Some node →
      node.variable ≡ x → k < length d.nodes →
      SameFunction n (value d.nodes (Place k)) f → Denotes (suc i) (restrict x b f)
  unfolding SameFunction restrict
  go_down i x e small b f k node is v lt same =
      let c = cond b node.high node.low in
      let before : IsBefore (length d.nodes) c = before_more k (length d.nodes) c (omega arith) (child_before n d ok k node b is) in
      let stands =
      stands_less order d.nodes (suc i) (suc (place_in order node.variable)) c (omega (arith, ap (place_in order) v))
      (child_stands n order d ok ordered k node b is) in (
        c,
        λ p l.
            let bit_is : bit (set p x b) node.variable ≡ b = ap (bit (set p x b)) v ∙ get_or-set_same p x b false (omega arith) in
            sym (free (suc i) x (omega arith) b p c before stands)
            ∙ ap (λ w. value d.nodes (cond w node.high node.low) (set p x b)) (sym bit_is)
            ∙ sym (value_place n d ok (set p x b) k node is)
            ∙ same (set p x b) (length-set p x b ∙ l),
        before,
        stands,
      )

  -- from place i to the next one: the restriction by the variable at place i
  pub one_down : (i x : ℕ) → AtPlaces n order i (x ∷ []) → (b : Bool) (f : Function) → Denotes i f → Denotes (suc i) (restrict x b f)
  unfolding StandsFrom
  one_down i x at b f (Terminal t, same, before, stands) = stay i x at.0 b f (Terminal t) same tt tt
  one_down i x at b f (Place k, same, before, stands) =
      elim (slice_get_cases d.nodes k).1 [
        | inl found ↦
            elim (cases_eq (place_in order found.0.variable) i) [
              | inl e ↦ go_down i x at.0 at.1 b f k found.0 found.2 (at.2 found.0.variable e) before same
              | inr ne ↦ stay i x at.0 b f (Place k) same before
                  (λ node is. omega (arith, ap variable_of (same_Some node found.0 (sym is ∙ found.2))))
            ]
        | inr past ↦ absurd (omega arith)
      ]
    where
      variable_of : Node → ℕ
      variable_of node = place_in order node.variable

  descend : (xs : List ℕ) (i : ℕ) → AtPlaces n order i xs → (f : Function) → Denotes i f → (g : Function) → Among g (subfunctions xs f) →
      Denotes (i + length xs) g
  unfolding subfunctions
  descend [] i at f m g h = elim h [ inl e ↦ subst (λ k. Denotes (i + 0) k) (sym e) (subst (λ j. Denotes j f) (sym (add-zero i)) m) | inr a ↦ absurd a ]
  descend (x ∷ xs) i at f m g h =
      let e : suc i + length xs ≡ i + suc (length xs) = omega arith in
      let here : AtPlaces n order i (x ∷ []) = (at.0, at.1, at.2, tt) in
      elim (among_cases g (subfunctions xs (restrict x false f)) (subfunctions xs (restrict x true f)) h) [
        | inl a ↦ subst (λ j. Denotes j g) e (descend xs (suc i) at.3 (restrict x false f) (one_down i x here false f m) g a)
        | inr a ↦ subst (λ j. Denotes j g) e (descend xs (suc i) at.3 (restrict x true f) (one_down i x here true f m) g a)
      ]

  -- a function that depends on the variable at place i, of a ref from place i on, is the function of a node of that variable
  node_of : (i x : ℕ) → AtPlaces n order i (x ∷ []) → (g : Function) → Denotes i g → depends n g x ≡ true →
      (k : ℕ) × (node : Node) × (slice_get d.nodes k ≡ Some node) × (node.variable ≡ x) × SameFunction n (value d.nodes (Place k)) g
  unfolding StandsFrom SameFunction DependsOn restrict
  node_of i x at g (Terminal t, same, before, stands) dep = grind (arith, depends_true, length-set, value_terminal)
  node_of i x at g (Place k, same, before, stands) dep =
      elim (slice_get_cases d.nodes k).1 [
        | inl found ↦
            grind (arith, depends_true, length-set, free)
        | inr past ↦ absurd (omega arith)
      ]
    where
      variable_of : Node → ℕ
      variable_of node = place_in order node.variable

-- ---- counting

pub root_of : (R : Ref → Function → Type 0) (P : Ref → Type 0) (roots : List Ref) (F : List Function) → AllZip R roots F →
    AllByRecursion P roots → (f : Function) → Among f F → (r : Ref) × R r f × P r
root_of R P [] [] z a f h = absurd h
root_of R P [] (g ∷ F) z a f h = absurd z
root_of R P (r ∷ roots) [] z a f h = absurd h
root_of R P (r ∷ roots) (g ∷ F) z a f h = elim h [ inl e ↦ (r, subst (λ k. R r k) (sym e) z.0, a.0) | inr i ↦ root_of R P roots F z.1 a.1 f i ]

pub enumerated : {X : Type 0} (xs : List X) (s k : ℕ) (x : X) → slice_get xs k ≡ Some x → Among (s + k, x) (enumerate_from s xs)
enumerated [] s k x e = cc
enumerated (y ∷ xs) s zero x e = inl (λ i. (add-zero s i, same_Some x y (sym e) i))
enumerated (y ∷ xs) s (suc k) x e =
    inr (subst (λ j. Among (j, x) (enumerate_from (s + 1) xs)) (omega arith) (enumerated xs (s + 1) k x e))

pub count_enumerated : {X : Type 0} (p : X → Bool) (xs : List X) (s : ℕ) → length (filter (λ (e : ℕ × X). p e.1) (enumerate_from s xs)) ≡ length (filter p xs)
count_enumerated p [] s = refl
count_enumerated {X} p (x ∷ xs) s = grind (arith, count_enumerated p xs (s + 1))

pub level_bound : (n : ℕ) (F : List Function) (order : List ℕ) (d : Graph) → IsOrder n order → Represents n F order d → (i : ℕ) → i < length order →
    level_count n F order i ≤ nodes_at d (slice_index order i)
unfolding level_count dependents reach nodes_at IsOf
level_bound n F order d o rep i lt =
    omega (
      arith,
      count_le same_table same_table_decides found tables within,
      length-map places place_table,
      count_enumerated test d.nodes 0,
      length-filter test d.nodes,
    )
  where
    x : ℕ
    x = slice_index order i

    test : Node → Bool
    test node = nat_eq node.variable x

    places : List (ℕ × Node)
    places = filter (λ e. test e.1) (enumerate_from 0 d.nodes)

    place_table : ℕ × Node → List Bool
    place_table e = table n (value d.nodes (Place e.0))

    tables : List (List Bool)
    tables = map place_table places

    above : List ℕ
    above = take i order

    found : List (List Bool)
    found = map (table n) (filter (λ f. depends n f x) (flat_map (subfunctions above) F))

    own_at : (k : ℕ) → k < 1 → get_or order (i + k) 0 ≡ get_or (x ∷ []) k 0
    own_at zero h = ap (λ m. get_or order m 0) (add-zero i)
    own_at (suc k) h = absurd (omega arith)

    own : AtPlaces n order i (x ∷ [])
    own = at_places n order o i (x ∷ []) own_at (omega arith)

    long : length above ≡ i
    long = length-take-le i order (omega arith)

    all_above : AtPlaces n order 0 above
    all_above =
        at_places n order o 0 above (λ k h. ap (λ m. get_or order m 0) (zero-add k) ∙ sym (get_or-take i order k 0 (omega (arith, long))))
        (omega (arith, long))

    within : Within found tables
    within t h =
        let from = among_from_map (table n) t (filter (λ f. depends n f x) (flat_map (subfunctions above) F)) h in
        let g = from.0 in
        let kept = among_from_filter (λ f. depends n f x) g (flat_map (subfunctions above) F) from.1 in
        let of = among_from_flat_map (subfunctions above) g F kept.0 in
        let root = root_of (λ r f. SameFunction n (value d.nodes r) f) (IsBefore (length d.nodes)) d.roots F rep.functions
        (recursion_from_All (IsBefore (length d.nodes)) d.roots rep.diagram.roots) of.0 of.1 in
        let m : Denotes n order d rep.diagram rep.ordered 0 of.0 = (root.0, root.1, root.2, stands_top order d.nodes root.0) in
        let e : 0 + length above ≡ i = omega (arith, long) in
        let den = subst (λ j. Denotes n order d rep.diagram rep.ordered j g) e (descend n order d rep.diagram rep.ordered above 0 all_above of.0 m g of.2) in
        let at = node_of n order d rep.diagram rep.ordered i x own g den kept.1 in
        grind (arith, enumerated, table_same, among_map, among_filter)

-- ---- all levels

sum_map_le : (f g : ℕ → ℕ) (k a : ℕ) → ((i : ℕ) → i < a + k → f i ≤ g i) → sum (map f (range_with_len a k)) ≤ sum (map g (range_with_len a k))
sum_map_le f g zero a h = omega arith
sum_map_le f g (suc k) a h =
    let r = sum_map_le f g k (a + 1) (λ i l. h i (omega arith)) in
    let x = sum_by-cons (λ z. z) (f a) (map f (range_with_len (a + 1) k)) in
    let y = sum_by-cons (λ z. z) (g a) (map g (range_with_len (a + 1) k)) in
    omega arith

count_or : {X : Type 0} (p q : X → Bool) → ((x : X) → p x ≡ true → q x ≡ false) → (xs : List X) → count_by p xs + count_by q xs ≤ count_by (λ x. p x || q x) xs
count_or p q h [] = omega arith
count_or {X} p q h (x ∷ xs) =
    omega (
      arith,
      count_or p q h xs,
      sum_by-cons (λ y. cond (p y) 1 0) x xs,
      sum_by-cons (λ y. cond (q y) 1 0) x xs,
      sum_by-cons (λ y. cond (p y || q y) 1 0) x xs,
      one (p x) (q x) (h x),
    )
  where
    one : (s t : Bool) → (s ≡ true → t ≡ false) → cond s 1 0 + cond t 1 0 ≤ cond (s || t) 1 0
    one true true k = absurd (true≢false (k refl))
    one true false k = omega arith
    one false true k = omega arith
    one false false k = omega arith

levels_apart : (d : Graph) (xs : List ℕ) → IsDistinct nat_eq xs → sum (map (nodes_at d) xs) ≤ count_by (λ (node : Node). has xs node.variable) d.nodes
unfolding IsDistinct nodes_at
levels_apart d [] h = omega arith
levels_apart d (x ∷ xs) h =
    let c = count_or (λ (node : Node). nat_eq node.variable x) (λ (node : Node). has xs node.variable)
    (λ node e. ap (has xs) (eqb-true node.variable x e) ∙ absent_from_apart x xs h.0) d.nodes in
    omega (arith, levels_apart d xs h.1, sum_by-cons (λ y. y) (nodes_at d x) (map (nodes_at d) xs))

-- a diagram of F ordered under the order has at least the order's size of nodes
pub size_bound : (n : ℕ) (F : List Function) (order : List ℕ) (d : Graph) → IsOrder n order → Represents n F order d → size_under n F order ≤ length d.nodes
unfolding size_under level_counts
size_bound n F order d o rep =
    let a = sum_map_le (level_count n F order) (λ i. nodes_at d (slice_index order i)) (length order) 0
    (λ i l. level_bound n F order d o rep i (omega arith)) in
    omega (
      arith,
      ap sum (map-map (nodes_at d) (λ i. slice_index order i) (range_with_len 0 (length order))),
      ap (λ xs. sum (map (nodes_at d) xs)) (fill_by_all (λ i. slice_index order i) order (length order) 0 refl (λ k l. refl)),
      levels_apart d order o.once,
      count_by-le-length (λ (node : Node). has order node.variable) d.nodes,
    )
