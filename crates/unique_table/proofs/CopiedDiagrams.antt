-- The copies of what some roots reach are a reduced diagram of their functions.
use Rattle.std.proofs.Common.{◌≡◌, ◌≢◌, ℕ, zero, suc, ◌+◌, ◌-◌, ◌^◌, ◌<◌, ◌≤◌, ◌==◌, ◌++◌, Bool, true, false, cond, Some, List, [], ◌∷◌, map, get_or, length, length-append, slice_get, sym, refl, ap, ◌∙◌, subst, ⊎_elim, arith}
use Rattle.std.specs.List.{All, AllZip}
use Rattle.std.proofs.lemmas.Option.{slice_get_within, get_or_from_slice_get}
use Rattle.std.proofs.lemmas.List.Elements.{Contains-append_left, Contains-push, All-from_get_or}
use Rattle.definitions.specs.declared.refs.Ref.{Ref}
use Rattle.definitions.specs.declared.refs.Ref.TheVariants.{Terminal, Place}
use Rattle.definitions.specs.declared.refs.Node.{Node}
use Rattle.definitions.specs.Functions.{Point, bit, SameFunction}
use Rattle.definitions.specs.Orders.{IsOrder, place_in}
use Rattle.definitions.specs.Diagrams.{Graph, IsBefore, IsNodeAt, AreNodes, IsOrdered, IsOf, Reached, from_root, from_parent, value}
use Rattle.definitions.proofs.Lists.Orders.{has_at, place_get}
use Rattle.definitions.proofs.Nodes.Paths.{value_place, value_terminal}
use Rattle.definitions.proofs.Nodes.Appended.{graph_of, diagram_of, get_left}
use Rattle.node_words.specs.Nodes.{IsKnown, Grows, AreNodeWords, AreUnequal, IsBelow, node_word, level_of, low_of, high_of}
use Rattle.node_words.specs.Meaning.{depth, function_of, branch}
use Rattle.node_words.proofs.Meaning.{below_low, below_high, shallow, le_or_lt}
use Rattle.node_words.proofs.Functions.{function_child, function_terminal}
use Rattle.unique_table.specs.Copies.{ref_of, node_of, IsEarlier, IsCopied, AreCopied, HasPath, here, below, Extends, AreRefs, AreReached, IsReducedOf}
use Rattle.unique_table.proofs.NodeCopies.{ref_terminal, ref_place, ref_grows, ref_before, ref_one}

-- ---- what is reached

pub reached_leads : (d : Graph) (a b : Ref) → Reached d a → HasPath d.nodes a b → Reached d b
reached_leads d a b r (here e) = subst (Reached d) e r
reached_leads d a b r (below k node l at child) = from_parent k node (reached_leads d a (Place k) r l) at child

reached_more : (nodes nodes' : List Node) (roots : List Ref) (root b : Ref) → Extends nodes nodes' →
    Reached record { nodes = nodes; roots = roots } b → Reached record { nodes = nodes'; roots = roots ++ root ∷ [] } b
reached_more nodes nodes' roots root b x (from_root c) = from_root (Contains-append_left roots (root ∷ []) b c)
reached_more nodes nodes' roots root b x (from_parent k node r at child) =
    from_parent k node (reached_more nodes nodes' roots root (Place k) x r) (x.same k (slice_get_within nodes k node at) ∙ at) child

pub more_reached : (nodes nodes' : List Node) (roots : List Ref) (root : Ref) → Extends nodes nodes' →
    ((k : ℕ) → length nodes ≤ k → k < length nodes' → HasPath nodes' root (Place k)) → AreReached nodes roots →
    AreReached nodes' (roots ++ root ∷ [])
more_reached nodes nodes' roots root x leads reached k short = ⊎_elim
    (λ (new : length nodes ≤ k). reached_leads record { nodes = nodes'; roots = roots ++ root ∷ [] } root (Place k)
    (from_root (Contains-push roots root)) (leads k new short))
    (λ (old : k < length nodes). reached_more nodes nodes' roots root (Place k) x (reached k old))
    (le_or_lt (length nodes) k)

-- ---- the refs of the roots

get_last : (refs : List Ref) (r : Ref) → slice_get (refs ++ r ∷ []) (length refs) ≡ Some r
get_last [] r = refl
get_last (x ∷ xs) r = get_last xs r

pub more_refs : (numbers numbers' : List ℕ) (refs : List Ref) (ids : List ℕ) (i : ℕ) (r : Ref) → Grows numbers numbers' →
    AreRefs numbers refs ids i → IsKnown numbers' (get_or ids i 0) → r ≡ ref_of numbers' (get_or ids i 0)
    → AreRefs numbers' (refs ++ r ∷ []) ids (i + 1)
more_refs numbers numbers' refs ids i r g a known is = grind (arith, length-append, ⊎_elim, slice_get, get_last, get_left, ref_grows, le_or_lt)

-- ---- the diagram

module _ (order ws numbers : List ℕ) (nodes : List Node) (is : IsOrder (length order) order) (are : AreNodeWords (length order) ws)
    (unequal : AreUnequal ws) (c : AreCopied order ws numbers nodes) where
  -- the place of which a node is the copy
  record From (k : ℕ) (node : Node) : Type 0 where
    place : ℕ
    number : get_or numbers place 0 ≡ k + 1
    copied : IsCopied order ws numbers nodes place
    is_copy : node_of order numbers (get_or ws place 0) ≡ node

  from : (k : ℕ) (node : Node) → slice_get nodes k ≡ Some node → From k node
  from k node at = let p = c.placed k (slice_get_within nodes k node at) in let number = p.1 in
      let o = c.copied p.0 (λ e. no_number k (sym number ∙ e)) in record {
        place = p.0;
        number = number;
        copied = o;
        is_copy = one_node (node_of order numbers (get_or ws p.0 0)) node
            (sym o.node ∙ (ap (λ (z : ℕ). slice_get nodes (z - 1)) number ∙ (ap (slice_get nodes) (minus k) ∙ at)));
      }
    where
      no_number : (x : ℕ) → x + 1 ≡ 0 → ⊥
      no_number x e = omega arith

      one_node : (x y : Node) → Some x ≡ Some y → x ≡ y
      one_node x y e = cc

      minus : (x : ℕ) → x + 1 - 1 ≡ x
      minus x = omega arith

  known_at : (id : ℕ) (p : ℕ) → IsEarlier numbers p id → IsKnown numbers id
  known_at id p e two = (e two).0

  small_level : (p : ℕ) → get_or ws p 0 ≢ 0 → level_of (get_or ws p 0) < length order
  small_level p full = (are p full).level

  pub placed_nodes : AreNodes (length order) nodes
  placed_nodes k node at = let f = from k node at in let o = f.copied in let w : ℕ = get_or ws f.place 0 in
      let m : get_or numbers f.place 0 - 1 ≡ k = omega arith in
      subst (λ (z : ℕ × Node). IsNodeAt (length order) z.0 z.1) (λ i. (m i, f.is_copy i)) record {
        variable = (is.all (get_or order (level_of w) 0)).0 (has_at order (level_of w) (small_level f.place o.full));
        low = ref_before numbers f.place (low_of w) o.low;
        high = ref_before numbers f.place (high_of w) o.high;
      }

  abbrev graph : List Ref → Graph
  graph roots = record { nodes = nodes; roots = roots }

  place_of_node : (k : ℕ) (node : Node) (f : From k node) → place_in order node.variable ≡ level_of (get_or ws f.place 0)
  place_of_node k node f = ap (λ (z : Node). place_in order z.variable) (sym f.is_copy)
      ∙ place_get order (level_of (get_or ws f.place 0)) is.once (small_level f.place f.copied.full)

  child_place : (id q j : ℕ) → IsKnown numbers id → ref_of numbers id ≡ Place j → get_or numbers q 0 ≡ j + 1 → (2 ≤ id) × (q ≡ id - 2)
  child_place id q j known e number = grind (arith, ⊎_elim, ref_place, ref_terminal, le_or_lt)

  below_child : (roots : List Ref) (j k : ℕ) (child parent : Node) (f : From j child) (g : From k parent) (id : ℕ) → IsKnown numbers id →
      IsBelow ws (level_of (get_or ws g.place 0)) id → ref_of numbers id ≡ Place j
      → level_of (get_or ws g.place 0) < level_of (get_or ws f.place 0)
  below_child roots j k child parent f g id known b e = let t = child_place id f.place j known e f.number in
      subst (λ (z : ℕ). level_of (get_or ws g.place 0) < level_of (get_or ws z 0)) (sym t.1) (b t.0).1

  pub ordered : (roots : List Ref) → IsOrdered order (graph roots)
  unfolding IsOrdered
  ordered roots j k child parent at_j at_k is_child = let f = from j child at_j in let g = from k parent at_k in let o = g.copied in
      let w : ℕ = get_or ws g.place 0 in let n = are g.place o.full in
      let less : level_of w < level_of (get_or ws f.place 0) = ⊎_elim
      (λ (low : parent.low ≡ Place j). below_child roots j k child parent f g (low_of w) (known_at (low_of w) g.place o.low) n.low
      (ap (λ (z : Node). z.low) g.is_copy ∙ low))
      (λ (high : parent.high ≡ Place j). below_child roots j k child parent f g (high_of w) (known_at (high_of w) g.place o.high) n.high
      (ap (λ (z : Node). z.high) g.is_copy ∙ high))
      is_child in omega (arith, place_of_node j child f, place_of_node k parent g)

  -- ---- functions

  known_word : (id : ℕ) → IsKnown numbers id → IsKnown ws id
  known_word id known two = (c.copied (id - 2) (known two)).full

  either_child : (b : Bool) (u l : Ref) (x y : Bool) (p : Point) → value nodes u p ≡ x → value nodes l p ≡ y → value nodes (cond b u l) p ≡ cond b x y
  either_child true u l x y p eu el = eu
  either_child false u l x y p eu el = el

  branched : (id : ℕ) → 2 ≤ id → IsKnown ws id → (p : Point)
      → function_of order ws id p ≡ cond (bit p (get_or order (level_of (get_or ws (id - 2) 0)) 0))
      (function_of order ws (high_of (get_or ws (id - 2) 0)) p) (function_of order ws (low_of (get_or ws (id - 2) 0)) p)
  unfolding branch
  branched id two kw p = function_child order ws are id two kw p

  value_terminal_is : (id : ℕ) (p : Point) → id < 2 → value nodes (ref_of numbers id) p ≡ function_of order ws id p
  value_terminal_is id p short = ap (λ (r : Ref). value nodes r p) (ref_terminal numbers id short)
      ∙ (value_terminal nodes p (id == 1) ∙ sym (function_terminal order ws are id short p))

  pub value_is : (f id : ℕ) (p : Point) → IsKnown numbers id → length order ≤ depth (length order) ws id + f →
      value nodes (ref_of numbers id) p ≡ function_of order ws id p
  value_is zero id p known h = grind (arith, ⊎_elim, shallow, known_word, value_terminal_is, le_or_lt)
  value_is (suc f) id p known h = ⊎_elim
      (λ (two : 2 ≤ id). let q : ℕ = id - 2 in let w : ℕ = get_or ws q 0 in let o = c.copied q (known two) in let kw = known_word id known in
      let up = below_high (length order) ws are id two kw in let down = below_low (length order) ws are id two kw in
      let eu : value nodes (ref_of numbers (high_of w)) p ≡ function_of order ws (high_of w) p =
      value_is f (high_of w) p (known_at (high_of w) q o.high) (omega arith) in
      let el : value nodes (ref_of numbers (low_of w)) p ≡ function_of order ws (low_of w) p =
      value_is f (low_of w) p (known_at (low_of w) q o.low) (omega arith) in
      ap (λ (r : Ref). value nodes r p) (ref_place numbers id two)
      ∙ (value_place (length order) (graph_of nodes) (diagram_of (length order) nodes placed_nodes) p (get_or numbers q 0 - 1) (node_of order numbers w) o.node
      ∙ (either_child (bit p (get_or order (level_of w) 0)) (ref_of numbers (high_of w)) (ref_of numbers (low_of w))
      (function_of order ws (high_of w) p) (function_of order ws (low_of w) p) p eu el
      ∙ sym (branched id two kw p))))
      (λ (short : id < 2). value_terminal_is id p short)
      (le_or_lt 2 id)

  zip_of : (refs : List Ref) (ids : List ℕ) → length refs ≡ length ids →
      ((j : ℕ) → j < length ids → (slice_get refs j ≡ Some (ref_of numbers (get_or ids j 0))) × IsKnown numbers (get_or ids j 0))
      → AllZip (λ r f. SameFunction (length order) (value nodes r) f) refs (map (function_of order ws) ids)
  unfolding SameFunction
  zip_of [] [] l each = tt
  zip_of [] (y ∷ ys) l each = absurd (omega arith)
  zip_of (x ∷ xs) [] l each = absurd (omega arith)
  zip_of (x ∷ xs) (y ∷ ys) l each =
      let e = each 0 (omega arith) in let r : x ≡ ref_of numbers y = one_ref x (ref_of numbers y) e.0 in (
        (λ p s. ap (λ (z : Ref). value nodes z p) r ∙ value_is (length order) y p e.1 (omega arith)),
        zip_of xs ys (omega arith) (λ j short. each (suc j) (omega arith)),
      )
    where
      one_ref : (x y : Ref) → Some x ≡ Some y → x ≡ y
      one_ref x y e = cc

  roots_before : (refs : List Ref) (ids : List ℕ) (i : ℕ) → AreRefs numbers refs ids i → All (IsBefore (length nodes)) refs
  roots_before refs ids i a = All-from_get_or (IsBefore (length nodes)) refs (Terminal false) (λ j short. let o = a.each j (omega arith) in
      subst (IsBefore (length nodes)) (sym (get_or_from_slice_get refs j (ref_of numbers (get_or ids j 0)) (Terminal false) o.0))
      (before_end (get_or ids j 0) o.1))
    where
      minus : (a b : ℕ) → a ≢ 0 → a ≤ b → a - 1 < b
      minus a b some le = omega arith

      before_end : (id : ℕ) → IsKnown numbers id → IsBefore (length nodes) (ref_of numbers id)
      before_end id known = ⊎_elim
          (λ (two : 2 ≤ id). let some = known two in let s = c.small (id - 2) in
          subst (IsBefore (length nodes)) (sym (ref_place numbers id two)) (minus (get_or numbers (id - 2) 0) (length nodes) some s))
          (λ (short : id < 2). subst (IsBefore (length nodes)) (sym (ref_terminal numbers id short)) tt)
          (le_or_lt 2 id)

  -- ---- reduced

  not_redundant : (k : ℕ) (node : Node) → slice_get nodes k ≡ Some node → node.low ≢ node.high
  not_redundant k node at e = let f = from k node at in let o = f.copied in let w : ℕ = get_or ws f.place 0 in
      (are f.place o.full).unequal (ref_one numbers c.unequal (low_of w) (high_of w) (known_at (low_of w) f.place o.low) (known_at (high_of w) f.place o.high)
      (ap (λ (z : Node). z.low) f.is_copy ∙ (e ∙ ap (λ (z : Node). z.high) (sym f.is_copy))))

  no_two_equal : (j k : ℕ) (node : Node) → slice_get nodes j ≡ Some node → slice_get nodes k ≡ Some node → j ≡ k
  no_two_equal j k node at_j at_k = let f = from j node at_j in let g = from k node at_k in let o = f.copied in let q = g.copied in
      let v : ℕ = get_or ws f.place 0 in let w : ℕ = get_or ws g.place 0 in
      let same : node_of order numbers v ≡ node_of order numbers w = f.is_copy ∙ sym g.is_copy in
      let level : level_of v ≡ level_of w = sym (place_of_node j node f) ∙ place_of_node k node g in
      let low : low_of v ≡ low_of w =
      ref_one numbers c.unequal (low_of v) (low_of w) (known_at (low_of v) f.place o.low) (known_at (low_of w) g.place q.low)
      (ap (λ (z : Node). z.low) same) in
      let high : high_of v ≡ high_of w =
      ref_one numbers c.unequal (high_of v) (high_of w) (known_at (high_of v) f.place o.high) (known_at (high_of w) g.place q.high)
      (ap (λ (z : Node). z.high) same) in
      let word : v ≡ w = (are f.place o.full).word ∙ ((λ i. node_word (level i) (low i) (high i)) ∙ sym (are g.place q.full).word) in
      let place : f.place ≡ g.place = unequal f.place g.place o.full word in
      omega (arith, ap (λ (z : ℕ). get_or numbers z 0) place)

  pub reduced_of : (refs : List Ref) (ids : List ℕ) → length numbers < 2 ^ 32 → AreRefs numbers refs ids (length ids) →
      AreReached nodes refs → IsReducedOf (length order) (map (function_of order ws) ids) order nodes refs
  unfolding IsOf
  reduced_of refs ids few a reached = record {
    represents = record {
      diagram = record { nodes = placed_nodes; roots = roots_before refs ids (length ids) a };
      ordered = ordered refs;
      functions = zip_of refs ids a.count a.each;
    };
    reduced = record { not_redundant = not_redundant; no_two_equal = no_two_equal; all_reached = reached };
    few = omega arith;
  }
