-- The reduced diagram of the subfunctions below a level, from that of the level below.
--     Leveled n fs order level nodes numbers      the nodes from a level on, as the reduced diagram of some functions
--     leveled_leaves, leveled_step, leveled_top      with all variables fixed, one level up, and with none fixed
--     level_few      nodes and refs together become no more
use Rattle.std.proofs.Common.{◌≡◌, ◌≢◌, ℕ, zero, suc, ◌+◌, ◌-◌, ◌*◌, ◌/◌, ◌%◌, ◌^◌, ◌<◌, ◌≤◌, ◌⊎◌, inl, inr, Bool, true, false, cond, List, [], ◌∷◌, ◌++◌, map, length, take, get_or, slice_get, refl, sym, ap, ◌∙◌, arith, subst, Some, length-append}
use Rattle.std.specs.List.{AllZip}
use Rattle.std.proofs.lemmas.List.{get_or-map, length-map, take_all}
use Rattle.std.proofs.lemmas.Option.{slice_get_within, slice_get_cases}
use Rattle.definitions.specs.declared.refs.Ref.{Ref}
use Rattle.definitions.specs.declared.refs.Ref.TheVariants.{Terminal, Place}
use Rattle.definitions.specs.declared.refs.Node.{Node}
use Rattle.definitions.specs.Functions.{Point, Function, bit, restrict, SameFunction, from_table}
use Rattle.definitions.specs.Orders.{has, IsOrder, place_in}
use Rattle.definitions.specs.Levels.{reach}
use Rattle.definitions.specs.Diagrams.{Graph, IsBefore, IsOrdered, IsOf, IsReduced, Reached, Represents, value}
use Rattle.definitions.specs.Diagrams.Reached.{from_root, from_parent}
use Rattle.definitions.proofs.Lists.Orders.{has_at, place_get}
use Rattle.definitions.proofs.Nodes.Paths.{before_more, child_has, child_is_before, value_place, value_terminal}
use Rattle.definitions.proofs.Nodes.Construction.{own_restriction, zip_length}
use Rattle.definitions.proofs.Nodes.Appended.{get_left, get_right, get_cases, graph_of, AllFit, diagram_of, value_append}
use Rattle.truth_table.specs.Assignments.{assignments, values_at}
use Rattle.truth_table.specs.Numberings.{pair_at, pairs_of}
use Rattle.truth_table.proofs.LevelSteps.{restricted, function_at, none, length-restricted, lower_at, upper_at}
use Rattle.truth_table.proofs.LeafClasses.{IsLeaf, leaves_are}
use Rattle.truth_table.proofs.PairNumbers.{length-pairs_of, get_or-pairs_of}
use Rattle.std.proofs.lemmas.List.{take_more}
use Rattle.std.proofs.Math.Nat.{mul-le-mul_right}
use Rattle.definitions.specs.OrderedGraphs.{OrderedGraph}
use Rattle.definitions.proofs.Nodes.Reduced.{reduced_levels}
use Rattle.definitions.proofs.Widths.LowerBounds.{reach_nothing}
use Rattle.truth_table.specs.Reduced.{IsByLevel, IsDiagramOf}
use Rattle.truth_table.proofs.LevelSteps.{reach_last, length-reach, few_blocks}
use Rattle.truth_table.specs.Levels.{ref_named, node_over, IsNumberOf, IsNumbered, IsLevelAbove}
use Rattle.truth_table.proofs.Lists.{map_get, get_map, zip_at, zip_from, same_key}

same_named : (a b : ℕ) → ref_named a ≡ ref_named b → a ≡ b
unfolding ref_named
same_named a b h = grind arith

pub named_place : (k c : ℕ) → c ≡ k + 2 → ref_named c ≡ Place k
unfolding ref_named
named_place k c e = let f : c ≡ suc (suc k) = omega arith in ap ref_named f

-- nodes, with the refs that some numbers name as roots
abbrev pub graph_with : List Node → List ℕ → Graph
graph_with nodes numbers = record { nodes = nodes; roots = map ref_named numbers }

-- the nodes from a level on, as the reduced diagram of some functions
pub record Leveled (n : ℕ) (fs : List Function) (order : List ℕ) (level : ℕ) (nodes : List Node) (numbers : List ℕ) : Type 0 where
  pub represents : Represents n fs order (graph_with nodes numbers)
  pub reduced : IsReduced (graph_with nodes numbers)
  pub deep : (k : ℕ) (node : Node) → slice_get nodes k ≡ Some node → level ≤ place_in order node.variable
  pub by_level : IsByLevel order nodes

-- ---- with all variables fixed

leaf_before : (c : ℕ) → c < 2 → IsBefore 0 (ref_named c)
unfolding ref_named
leaf_before zero h = tt
leaf_before (suc zero) h = tt
leaf_before (suc (suc c)) h = absurd (omega arith)

leaf_value : (n c : ℕ) (f : Function) → IsLeaf n f c → SameFunction n (value [] (ref_named c)) f
unfolding ref_named SameFunction
leaf_value n zero f h p l = value_terminal [] p false ∙ sym (h.0 p l)
leaf_value n (suc zero) f h p l = value_terminal [] p true ∙ sym (h.0 p l)
leaf_value n (suc (suc c)) f h p l = absurd (omega arith)

leaf_values : (n : ℕ) (fs : List Function) (cs : List ℕ) → AllZip (IsLeaf n) fs cs → AllZip (λ r f. SameFunction n (value [] r) f) (map ref_named cs) fs
leaf_values n [] [] z = tt
leaf_values n [] (c ∷ cs) z = absurd z
leaf_values n (f ∷ fs) [] z = absurd z
leaf_values n (f ∷ fs) (c ∷ cs) z = (leaf_value n c f z.0, leaf_values n fs cs z.1)

leaf_roots : (n : ℕ) (fs : List Function) (cs : List ℕ) → AllZip (IsLeaf n) fs cs → (k : ℕ) (d : Ref) → k < length (map ref_named cs) →
    IsBefore 0 (get_or (map ref_named cs) k d)
leaf_roots n fs [] z k d h = absurd (omega arith)
leaf_roots n [] (c ∷ cs) z k d h = absurd z
leaf_roots n (f ∷ fs) (c ∷ cs) z zero d h = leaf_before c z.0.1
leaf_roots n (f ∷ fs) (c ∷ cs) z (suc k) d h = leaf_roots n fs cs z.1 k d (omega arith)

leveled_at_leaves : (n : ℕ) (fs : List Function) (order : List ℕ) (level : ℕ) (cs : List ℕ) → AllZip (IsLeaf n) fs cs → Leveled n fs order level [] cs
unfolding IsOrdered IsOf IsByLevel
leveled_at_leaves n fs order level cs z = grind (arith, leaf_roots, leaf_values)

-- ---- one level up

module _ (n : ℕ) (fs : List Function) (order : List ℕ) (level x : ℕ) (o : IsOrder n order) (inside : level < length order)
    (at_level : x ≡ get_or order level 0) (old : List Node) (below : List ℕ) (rest : Leveled n (restricted x fs) order (level + 1) old below)
    (new : List Node) (keys : List (ℕ × ℕ)) (above : List ℕ) (m : IsNumbered x old (pairs_of below) keys new above) where
  length_below : length below ≡ length (restricted x fs)
  unfolding IsOf
  length_below = sym (length-map below ref_named)
      ∙ zip_length (λ r f. SameFunction n (value old r) f) (map ref_named below) (restricted x fs) rest.represents.functions

  length_pairs : length (pairs_of below) ≡ length fs
  length_pairs = omega (arith, length-pairs_of below, length_below, length-restricted x fs)

  small_x : x < n
  small_x = (o.all x).0 (ap (has order) at_level ∙ has_at order level inside)

  place_x : place_in order x ≡ level
  place_x = ap (place_in order) at_level ∙ place_get order level o.once inside

  below_before : (k : ℕ) → k < length below → IsBefore (length old) (ref_named (get_or below k 0))
  below_before k h =
      subst (IsBefore (length old)) (get_or-map ref_named below k 0 (Terminal false) h)
      (rest.represents.diagram.roots k (Terminal false) (omega (arith, length-map below ref_named)))

  below_value : (k : ℕ) → k < length below → SameFunction n (value old (ref_named (get_or below k 0))) (function_at (restricted x fs) k)
  unfolding IsOf
  below_value k h =
      subst (λ r. SameFunction n (value old r) (function_at (restricted x fs) k)) (get_or-map ref_named below k 0 (Terminal false) h)
      (zip_at (λ r f. SameFunction n (value old r) f) (map ref_named below) (restricted x fs) rest.represents.functions k (Terminal false) none
      (omega (arith, length_below)))

  -- the parts of a pair: the refs of the two restrictions of a function
  record Parts (k : ℕ) (u : ℕ × ℕ) : Type 0 where
    low_before : IsBefore (length old) (ref_named u.0)
    high_before : IsBefore (length old) (ref_named u.1)
    low : SameFunction n (value old (ref_named u.0)) (restrict x false (function_at fs k))
    high : SameFunction n (value old (ref_named u.1)) (restrict x true (function_at fs k))

  parts : (k : ℕ) → k < length fs → Parts k (get_or (pairs_of below) k (0, 0))
  parts k h =
      let a = length_below in
      let b = length-restricted x fs in
      subst (Parts k) (sym (get_or-pairs_of below k (omega arith)))
      (record {
        low_before = below_before (2 * k) (omega arith);
        high_before = below_before (2 * k + 1) (omega arith);
        low = subst (SameFunction n (value old (ref_named (get_or below (2 * k) 0)))) (lower_at x fs k h) (below_value (2 * k) (omega arith));
        high = subst (SameFunction n (value old (ref_named (get_or below (2 * k + 1) 0)))) (upper_at x fs k h) (below_value (2 * k + 1) (omega arith));
      })

  -- the level's nodes
  more : List Node
  more = map (node_over x) keys

  both : List Node
  both = old ++ more

  length_both : length both ≡ length old + length keys
  unfolding both more
  length_both = omega (arith, length-append old (map (node_over x) keys), length-map keys (node_over x))

  -- a node of the level is that of a pair
  record Stands (i : ℕ) (node : Node) : Type 0 where
    pair : ℕ × ℕ
    key : slice_get keys i ≡ Some pair
    node_is : node ≡ node_over x pair
    unequal : pair.0 ≢ pair.1
    low_before : IsBefore (length old) node.low
    high_before : IsBefore (length old) node.high

  stands : (i : ℕ) (node : Node) → slice_get more i ≡ Some node → Stands i node
  unfolding more
  stands i node e = grind (arith, get_map, parts, length_pairs)

  variable_of : Node → ℕ
  variable_of node = node.variable

  cases : (k : ℕ) (node : Node) → slice_get both k ≡ Some node →
      (slice_get old k ≡ Some node) ⊎ ((i : ℕ) × (k ≡ length old + i) × Stands i node)
  unfolding both
  cases k node e = elim (get_cases old more k node e) [ inl a ↦ inl a | inr b ↦ inr (b.0, b.1, stands b.0 node b.2) ]

  both_fit : AllFit n both
  unfolding variable_of
  both_fit k node e = grind (arith, cases, variable_of, small_x, before_more)

  kept : (r : Ref) → IsBefore (length old) r → (p : Point) → value both r p ≡ value old r p
  unfolding both
  kept r b p = value_append n old more rest.represents.diagram.nodes both_fit p (length old) r (omega arith) b

  old_before : (r : Ref) → IsBefore (length old) r → IsBefore (length both) r
  old_before r b = before_more (length old) (length both) r (omega (arith, length_both)) b

  new_node : (i : ℕ) (u : ℕ × ℕ) → slice_get keys i ≡ Some u → slice_get both (length old + i) ≡ Some (node_over x u)
  unfolding both more
  new_node i u e = get_right old (map (node_over x) keys) i ∙ map_get (node_over x) keys i u e

  -- the value of a ref over two others that denote a function's restrictions
  by_parts : (k : ℕ) (u : ℕ × ℕ) → Parts k u → (p : Point) → length p ≡ n → (b : Bool) → bit p x ≡ b →
      value old (cond b (ref_named u.1) (ref_named u.0)) p ≡ function_at fs k p
  unfolding SameFunction
  by_parts k u part p l true f = part.high p l ∙ ap (λ c. restrict x c (function_at fs k) p) (sym f) ∙ own_restriction x (function_at fs k) p
  by_parts k u part p l false f = part.low p l ∙ ap (λ c. restrict x c (function_at fs k) p) (sym f) ∙ own_restriction x (function_at fs k) p

  -- each number names a ref that denotes its function
  record Denotes (k : ℕ) (r : Ref) : Type 0 where
    before : IsBefore (length both) r
    same : SameFunction n (value both r) (function_at fs k)

  denotes : (k : ℕ) (u : ℕ × ℕ) → Parts k u → (c : ℕ) → IsNumberOf (length old) keys u c → Denotes k (ref_named c)
  unfolding SameFunction
  denotes k u part c named = elim named [
    | inl e ↦ subst (λ z. Denotes k (ref_named z)) (sym e.1) (record {
      before = old_before (ref_named u.0) part.low_before;
      same = λ p l. kept (ref_named u.0) part.low_before p ∙ equal e.0 p (bit p x) ∙ by_parts k u part p l (bit p x) refl;
    })
    | inr e ↦ subst (Denotes k) (sym (named_place (length old + e.1.0) c e.1.2)) (record {
      before = omega (arith, slice_get_within keys e.1.0 u e.1.1, length_both);
      same = λ p l.
          value_place n (graph_of both) (diagram_of n both both_fit) p (length old + e.1.0) (node_over x u) (new_node e.1.0 u e.1.1)
          ∙ kept (cond (bit p x) (ref_named u.1) (ref_named u.0))
          (child_has (IsBefore (length old)) (bit p x) (node_over x u) part.low_before part.high_before) p
          ∙ by_parts k u part p l (bit p x) refl;
    })
  ]
    where
      equal : u.0 ≡ u.1 → (p : Point) (b : Bool) → value old (ref_named u.0) p ≡ value old (cond b (ref_named u.1) (ref_named u.0)) p
      equal e p true = ap (λ z. value old (ref_named z) p) e
      equal e p false = refl

  above_denotes : (k : ℕ) → k < length fs → Denotes k (ref_named (get_or above k 0))
  above_denotes k h =
      denotes k (get_or (pairs_of below) k (0, 0)) (parts k h) (get_or above k 0) (m.named k (omega (arith, length_pairs)))

  length_above : length above ≡ length fs
  length_above = m.long ∙ length_pairs

  above_root : (k : ℕ) (d : Ref) → k < length above → get_or (map ref_named above) k d ≡ ref_named (get_or above k 0)
  above_root k d h = get_or-map ref_named above k 0 d h

  both_ordered : IsOrdered order (graph_with both above)
  unfolding IsOrdered variable_of both
  both_ordered j k child parent cj pk is = grind (arith, cases, child_is_before, slice_get_within, variable_of, place_x, slice_get, both, get_left)

  both_represents : Represents n fs order (graph_with both above)
  unfolding IsOf
  both_represents = record {
    diagram = record {
      nodes = both_fit;
      roots = λ k d h.
          let l = length-map above ref_named in
          let a = length_above in
          subst (IsBefore (length both)) (sym (above_root k d (omega arith))) (above_denotes k (omega arith)).before;
    };
    ordered = both_ordered;
    functions = zip_from (λ r f. SameFunction n (value both r) f) (map ref_named above) fs (Terminal false) none (length-map above ref_named ∙ length_above)
        (λ k h.
        let a = length_above in
        subst (λ r. SameFunction n (value both r) (function_at fs k)) (sym (above_root k (Terminal false) (omega arith))) (above_denotes k h).same);
  }

  -- ---- it is reduced

  at_root : (k : ℕ) (r : Ref) → k < length fs → ref_named (get_or above k 0) ≡ r → Reached (graph_with both above) r
  at_root k r h e =
      let l = length-map above ref_named in
      let a = length_above in
      from_root (k, omega arith, above_root k r (omega arith) ∙ e)

  -- the parts of a pair are reached
  part_reached : (k : ℕ) → k < length fs → (u : ℕ × ℕ) → IsNumberOf (length old) keys u (get_or above k 0) → (r : Ref) →
      (ref_named u.0 ≡ r) ⊎ (ref_named u.1 ≡ r) → Reached (graph_with both above) r
  part_reached k h u named r is = elim named [
    | inl e ↦ elim is [
      | inl f ↦ at_root k r h (ap ref_named e.1 ∙ f)
      | inr f ↦ at_root k r h (ap ref_named (e.1 ∙ e.0) ∙ f)
    ]
    | inr e ↦
        from_parent (length old + e.1.0) (node_over x u) (at_root k (Place (length old + e.1.0)) h (named_place (length old + e.1.0) (get_or above k 0) e.1.2))
        (new_node e.1.0 u e.1.1) is
  ]

  below_reached : (k : ℕ) (r : Ref) → k < length below → ref_named (get_or below k 0) ≡ r → Reached (graph_with both above) r
  below_reached k r h e =
      let a = length_below in
      let b = length-restricted x fs in
      let j : ℕ = k / 2 in
      let pair = get_or-pairs_of below j (omega arith) in
      let named = subst (λ u. IsNumberOf (length old) keys u (get_or above j 0)) pair (m.named j (let l = length_pairs in omega arith)) in
      part_reached j (omega arith) (pair_at below j) named r (side k e)
    where
      side : (k : ℕ) → ref_named (get_or below k 0) ≡ r →
          (ref_named (get_or below (2 * (k / 2)) 0) ≡ r) ⊎ (ref_named (get_or below (2 * (k / 2) + 1) 0) ≡ r)
      side k e = elim (halves k) [
        | inl f ↦ inl (ap (λ z. ref_named (get_or below z 0)) (sym f) ∙ e)
        | inr f ↦ inr (ap (λ z. ref_named (get_or below z 0)) (sym f) ∙ e)
      ]
        where
          halves : (k : ℕ) → (k ≡ 2 * (k / 2)) ⊎ (k ≡ 2 * (k / 2) + 1)
          halves k = by (k % 2) refl (omega arith)
            where
              by : (b : ℕ) → k % 2 ≡ b → b < 2 → (k ≡ 2 * (k / 2)) ⊎ (k ≡ 2 * (k / 2) + 1)
              by zero e h = inl (omega arith)
              by (suc zero) e h = inr (omega arith)
              by (suc (suc b)) e h = absurd (omega arith)

  old_reached : {r : Ref} → Reached (graph_with old below) r → Reached (graph_with both above) r
  unfolding both
  old_reached (from_root {r = r} c) =
      let h : c.0 < length below = omega (arith, length-map below ref_named) in
      below_reached c.0 r h (sym (get_or-map ref_named below c.0 0 r h) ∙ c.2)
  old_reached (from_parent {r = r} k node h e c) =
      from_parent k node (old_reached h) (get_left old more k (slice_get_within old k node e) ∙ e) c

  both_reduced : IsReduced (graph_with both above)
  unfolding variable_of
  both_reduced = record {
    not_redundant = λ k node e same. elim (cases k node e) [
      | inl a ↦ rest.reduced.not_redundant k node a same
      | inr b ↦ b.2.unequal (same_named b.2.pair.0 b.2.pair.1 (sym (ap low_of b.2.node_is) ∙ same ∙ ap high_of b.2.node_is))
    ];
    no_two_equal = λ j k node e f. elim (cases j node e) [
      | inl a ↦ elim (cases k node f) [
        | inl b ↦ rest.reduced.no_two_equal j k node a b
        | inr b ↦ absurd (apart j node a b.0 b.2)
      ]
      | inr a ↦ elim (cases k node f) [
        | inl b ↦ absurd (apart k node b a.0 a.2)
        | inr b ↦
            let s : a.2.pair ≡ b.2.pair = pair_path a.2.pair b.2.pair (sym a.2.node_is ∙ b.2.node_is) in
            a.1 ∙ ap (λ z. length old + z) (same_key keys m.once a.0 b.0 b.2.pair (a.2.key ∙ ap Some s) b.2.key) ∙ sym b.1
      ]
    ];
    all_reached = λ k h. elim (split k) [ inl lt ↦ old_reached (rest.reduced.all_reached k lt) | inr b ↦ new_reached k b.0 b.1 h ];
  }
    where
      low_of : Node → Ref
      low_of node = node.low

      high_of : Node → Ref
      high_of node = node.high

      pair_path : (u v : ℕ × ℕ) → node_over x u ≡ node_over x v → u ≡ v
      pair_path u v e = let a = same_named u.0 v.0 (ap low_of e) in let b = same_named u.1 v.1 (ap high_of e) in λ i. (a i, b i)

      apart : (k : ℕ) (node : Node) → slice_get old k ≡ Some node → (i : ℕ) → Stands i node → ⊥
      apart k node e i s =
          omega (arith, rest.deep k node e, ap (λ z. place_in order (variable_of z)) s.node_is ∙ place_x)

      split : (k : ℕ) → (k < length old) ⊎ ((i : ℕ) × (k ≡ length old + i))
      split k = by (cases_below k (length old))
        where
          by : (k < length old) ⊎ (length old ≤ k) → (k < length old) ⊎ ((i : ℕ) × (k ≡ length old + i))
          by (inl a) = inl a
          by (inr b) = inr (k - length old, omega arith)

          cases_below : (a b : ℕ) → (a < b) ⊎ (b ≤ a)
          cases_below zero zero = inr (omega arith)
          cases_below zero (suc b) = inl (omega arith)
          cases_below (suc a) zero = inr (omega arith)
          cases_below (suc a) (suc b) = elim (cases_below a b) [ inl h ↦ inl (omega arith) | inr h ↦ inr (omega arith) ]

      new_reached : (k i : ℕ) → k ≡ length old + i → k < length both → Reached (graph_with both above) (Place k)
      new_reached k i e h = elim (slice_get_cases keys i).1 [
        | inl found ↦
            let used = m.used i found.0 found.2 in
            let l = length_pairs in
            let small : used.1.0 < length fs = omega arith in
            at_root used.1.0 (Place k) small (named_place k (get_or above used.1.0 0) (omega arith))
        | inr past ↦ absurd (omega (arith, past.0, length_both))
      ]

  both_by_level : IsByLevel order both
  unfolding IsByLevel variable_of
  both_by_level j k lower upper h ej ek = elim (cases k upper ek) [
    | inl a ↦ elim (cases j lower ej) [
      | inl b ↦ rest.by_level j k lower upper h b a
      | inr b ↦ absurd (omega (arith, slice_get_within old k upper a, b.1))
    ]
    | inr a ↦ elim (cases j lower ej) [
      | inl b ↦ omega (arith, rest.deep j lower b, at_this upper a.0 a.2)
      | inr b ↦ omega (arith, at_this lower b.0 b.2, at_this upper a.0 a.2)
    ]
  ]
    where
      at_this : (node : Node) (i : ℕ) → Stands i node → place_in order node.variable ≡ level
      at_this node i s = ap (λ z. place_in order (variable_of z)) s.node_is ∙ place_x

  pub leveled_up : Leveled n fs order level new above
  unfolding both more variable_of
  leveled_up = grind (arith, both_represents, both_reduced, both_by_level, cases, variable_of, place_x)

-- ---- the program's diagram

pub leveled_leaves : (n : ℕ) (order : List ℕ) (tables : List (List Bool)) (k : ℕ) (cs : List ℕ) → IsOrder n order → length order ≤ k →
    cs ≡ values_at (assignments order) tables → Leveled n (reach (map from_table tables) (take k order)) order k [] cs
leveled_leaves n order tables k cs o l v =
    subst (λ xs. Leveled n (reach (map from_table tables) xs) order k [] cs) (sym (take_all k order l))
    (leveled_at_leaves n (reach (map from_table tables) order) order k cs
    (subst (AllZip (IsLeaf n) (reach (map from_table tables) order)) (sym v) (leaves_are n order o tables)))

pub few_leaves : (n : ℕ) (order : List ℕ) (tables : List (List Bool)) (cs : List ℕ) → IsOrder n order → length tables ≤ 16 → length order ≤ 16 →
    cs ≡ values_at (assignments order) tables → length cs ≤ 1048576
few_leaves n order tables cs o few short v =
    let fs = reach (map from_table tables) order in
    let z = zip_length (IsLeaf n) fs (values_at (assignments order) tables) (leaves_are n order o tables) in
    let r = length-reach (map from_table tables) order in
    let t = length-map tables from_table in
    let b = few_blocks (length order) short in
    let e = ap length v in
    omega (arith, mul-le-mul_right {m = length (map from_table tables)} {n = 16} (2 ^ length order) (omega arith))

-- nodes and refs together become no more
pub level_few : (x : ℕ) (old : List Node) (below : List ℕ) (new : List Node) (above : List ℕ) → IsLevelAbove x old below new above →
    length new + length above ≤ length old + length below
level_few x old below new above m =
    let n = m.numbered in
    omega (arith, ap length n.nodes_are, length-append old (map (node_over x) m.keys), length-map m.keys (node_over x), length-pairs_of below, n.few, n.long)

pub leveled_step : (n : ℕ) (F : List Function) (order : List ℕ) (level x : ℕ) (old new : List Node) (below above : List ℕ) → 0 < level →
    level ≤ length order → IsOrder n order → x ≡ get_or order (level - 1) 0 → Leveled n (reach F (take level order)) order level old below →
    IsLevelAbove x old below new above →
    Leveled n (reach F (take (level - 1) order)) order (level - 1) new above
leveled_step n F order level x old new below above some within o at rest m =
    let k : ℕ = level - 1 in
    let here : k < length order = omega arith in
    let split = ap (reach F) (take_more order k 0 here) ∙ reach_last F (take k order) (get_or order k 0)
    ∙ ap (λ y. restricted y (reach F (take k order))) (sym at) in
    let lower = subst (λ fs. Leveled n fs order (k + 1) old below) split
    (subst (λ z. Leveled n (reach F (take z order)) order z old below) (omega arith) rest) in
    leveled_up n (reach F (take k order)) order k x o here at old below lower new m.keys above m.numbered

pub leveled_top : (n : ℕ) (F : List Function) (order : List ℕ) (level : ℕ) (nodes : List Node) (numbers : List ℕ) → IsOrder n order → level ≤ 0 →
    Leveled n (reach F (take level order)) order level nodes numbers → (d : OrderedGraph) → d.order ≡ order → d.graph.nodes ≡ nodes →
    d.graph.roots ≡ map ref_named numbers → IsDiagramOf n F order d
leveled_top n F order level nodes numbers o done l d same ns rs = grind (arith, reach_nothing, graph_with, reduced_levels)
