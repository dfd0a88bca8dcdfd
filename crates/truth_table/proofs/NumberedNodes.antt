-- Numbered nodes, and the node for a pair of children among them.
--     children_none, children_push, children_long, children_at      the children of the nodes from a place on
--     node_at, node_past      a node with the children is found, or put behind the others
--     node_hashed      the same by a set of the children
--     level_none, level_more, level_done      a level's nodes, one pair after the other
use Rattle.std.proofs.Common.{◌≡◌, ◌≢◌, ℕ, ◌+◌, ◌-◌, ◌*◌, ◌/◌, ◌<◌, ◌≤◌, inl, inr, Bool, true, false, not, cond, ◌⊎◌, List, [], ◌∷◌, ◌++◌, map, length, get_or, slice_get, drop, set, take, rules, refl, sym, ap, ap₂, ◌∙◌, if◌then◌else◌, arith, subst, Some, length-append, add-zero}
use Rattle.std.specs.List.{IsDistinct, list_any, position_or_len}
use Rattle.std.proofs.lemmas.Bool.{cases_lt, false_from_ne_true}
use Rattle.std.proofs.lemmas.List.{map-append, drop-append-le, drop_all, append-nil, length-map, length-drop, get_or-map, get_or-drop, take_all, take_more_set}
use Rattle.std.proofs.lemmas.List.Sums.{prefix_len-le-length, prefix_len_is, prefix_len_stops, prefix_len_passes}
use Rattle.std.specs.Cmp.{IsEquivalence}
use Rattle.std.proofs.lemmas.List.Elements.{All-from_get_or}
use Rattle.std.proofs.lemmas.List.Folds.{list_any_none}
use Rattle.std.proofs.lemmas.Map.Keys.{IsDistinct-push}
use Rattle.definitions.proofs.Lists.Orders.{same_bool}
use Rattle.std.proofs.lemmas.Option.{slice_get-get_or}
use Rattle.definitions.specs.Widths.{same_pair}
use Rattle.definitions.specs.declared.refs.Node.{Node}
use Rattle.definitions.proofs.Nodes.Appended.{get_right}
use Rattle.definitions.proofs.Widths.ClassPairs.{pair_decides}
use Rattle.truth_table.specs.declared.levels.NumberedNode.{NumberedNode}
use Rattle.truth_table.specs.Numberings.{pair_at, pairs_of}
use Rattle.truth_table.proofs.PairNumbers.{length-pairs_of, pairs_more}
use Rattle.truth_table.specs.Levels.{IsLevelAbove, IsNumbered, Seeks, SeeksAmong, children_from, children_of, node_named, node_over}
use Rattle.truth_table.proofs.Refs.{numbered_step, ref_found}

pub children_none : (nodes : List NumberedNode) → children_from (length nodes) nodes ≡ []
unfolding children_from
children_none nodes = ap (map children_of) (drop_all (length nodes) nodes (omega arith))

pub children_push : (base : ℕ) (nodes : List NumberedNode) (node : NumberedNode) → base ≤ length nodes →
    children_from base (nodes ++ node ∷ []) ≡ children_from base nodes ++ children_of node ∷ []
unfolding children_from
children_push base nodes node h =
    ap (map children_of) (drop-append-le base nodes (node ∷ []) h) ∙ map-append children_of (drop base nodes) (node ∷ [])

pub children_long : (base : ℕ) (nodes : List NumberedNode) → length (children_from base nodes) ≡ length nodes - base
unfolding children_from
children_long base nodes = length-map (drop base nodes) children_of ∙ length-drop base nodes

pub children_at : (base : ℕ) (nodes : List NumberedNode) (k : ℕ) (d : NumberedNode) → base + k < length nodes →
    get_or (children_from base nodes) k (0, 0) ≡ children_of (get_or nodes (base + k) d)
unfolding children_from
children_at base nodes k d h =
    get_or-map children_of (drop base nodes) k d (0, 0) (omega (arith, length-drop base nodes)) ∙ ap children_of (get_or-drop base nodes k d)

-- the node for a pair of children
abbrev pub made : ℕ → ℕ × ℕ → NumberedNode
made x u = record { variable = x; low = u.0; high = u.1 }

pub named_push : (nodes : List NumberedNode) (x : ℕ) (u : ℕ × ℕ) → map node_named (nodes ++ made x u ∷ []) ≡ map node_named nodes ++ node_over x u ∷ []
named_push nodes x u = map-append node_named nodes (made x u ∷ [])

-- ---- one node after the other

abbrev IsPast : ℕ → ℕ → ℕ × ℕ → List NumberedNode → Type 0
IsPast base place u nodes = (k : ℕ) → base + k < place → same_pair u (get_or (children_from base nodes) k (0, 0)) ≡ false

position_is : (u : ℕ × ℕ) (keys : List (ℕ × ℕ)) (n : ℕ) → n ≤ length keys → ((k : ℕ) → k < n → same_pair u (get_or keys k (0, 0)) ≡ false) →
    (n < length keys → same_pair u (get_or keys n (0, 0)) ≡ true) → position_or_len (same_pair u) keys ≡ n
position_is u keys n h before here =
    prefix_len_is (λ v. not (same_pair u v)) keys n (0, 0) h (λ k l. ap not (before k l)) (λ l. ap not (here l))

pub place_found : (base place : ℕ) (u : ℕ × ℕ) (nodes : List NumberedNode) (d : NumberedNode) → base ≤ place → place < length nodes →
    IsPast base place u nodes → u.0 ≡ (get_or nodes place d).low → u.1 ≡ (get_or nodes place d).high →
    place ≡ base + position_or_len (same_pair u) (children_from base nodes)
place_found base place u nodes d h l past low high =
    let here : same_pair u (children_of (get_or nodes place d)) ≡ true =
    (pair_decides u (children_of (get_or nodes place d))).1 (λ j. (low j, high j)) in
    let i : ℕ = place - base in
    let at : get_or (children_from base nodes) i (0, 0) ≡ children_of (get_or nodes place d) =
    children_at base nodes i d (omega arith) ∙ ap (λ k. children_of (get_or nodes k d)) (omega arith) in
    let is = position_is u (children_from base nodes) i (omega (arith, children_long base nodes)) (λ k m. past k (omega arith))
    (λ m. ap (same_pair u) at ∙ here) in
    omega arith

pub place_past : (base place : ℕ) (u : ℕ × ℕ) (nodes : List NumberedNode) → base ≤ length nodes → length nodes ≤ place → IsPast base place u nodes →
    length nodes ≡ base + position_or_len (same_pair u) (children_from base nodes)
place_past base place u nodes h l past =
    let e = children_long base nodes in
    let is = position_is u (children_from base nodes) (length nodes - base) (omega arith) (λ k m. past k (omega arith)) (λ m. absurd (omega arith)) in
    omega arith

pub more_past : (base place : ℕ) (u : ℕ × ℕ) (nodes : List NumberedNode) (d : NumberedNode) → base ≤ place → place < length nodes →
    IsPast base place u nodes → ((u.0 ≡ (get_or nodes place d).low) × (u.1 ≡ (get_or nodes place d).high → ⊥))
    ⊎ (u.0 ≡ (get_or nodes place d).low → ⊥) → IsPast base (place + 1) u nodes
more_past base place u nodes d h l past other k m = elim (cases_lt (base + k) place) [
  | inl lt ↦ past k lt
  | inr ge ↦
      let e : base + k ≡ place = omega arith in
      ap (same_pair u) (children_at base nodes k d (omega arith) ∙ ap (λ i. children_of (get_or nodes i d)) e) ∙ here
]
  where
    here : same_pair u (children_of (get_or nodes place d)) ≡ false
    here = false_from_ne_true _ (λ e.
        let same = (pair_decides u (children_of (get_or nodes place d))).0 e in
        elim other [ inl high ↦ high.1 (ap (λ v. v.1) same) | inr low ↦ low (ap (λ v. v.0) same) ])

-- ---- the node of a pair

equivalence : IsEquivalence same_pair
equivalence = record {
  refl = λ u. (pair_decides u u).1 refl;
  symm = λ u v. same_bool (same_pair u v) (same_pair v u) (λ e. (pair_decides v u).1 (sym ((pair_decides u v).0 e)))
      (λ e. (pair_decides u v).1 (sym ((pair_decides v u).0 e)));
  congr = λ u v w e. ap (λ z. same_pair z w) ((pair_decides u v).0 e);
}

module _ (base x : ℕ) (u : ℕ × ℕ) (nodes : List NumberedNode) (place : ℕ) (ne : u.0 ≢ u.1) (h : base ≤ length nodes)
    (at : place ≡ base + position_or_len (same_pair u) (children_from base nodes)) where
  keys : List (ℕ × ℕ)
  keys = children_from base nodes

  i : ℕ
  i = position_or_len (same_pair u) (children_from base nodes)

  -- it stands there
  pub node_at : place < length nodes → SeeksAmong base x u nodes nodes (place + 2)
  unfolding keys i
  node_at l =
      let long = children_long base nodes in
      let inside : i < length keys = omega arith in
      let same : u ≡ get_or keys i (0, 0) = (pair_decides u (get_or keys i (0, 0))).0
      (from_not (same_pair u (get_or keys i (0, 0))) (prefix_len_stops (λ v. not (same_pair u v)) keys (0, 0) inside)) in
      record {
        number = inr (ne, (i, slice_get-get_or keys i (0, 0) inside ∙ ap Some (sym same), ap (λ z. z + 2) at));
        once = λ d. d;
        more = inl (refl, refl);
      }
    where
      from_not : (b : Bool) → not b ≡ false → b ≡ true
      from_not true e = refl
      from_not false e = sym e

  -- it is put behind the others
  pub node_past : length nodes ≤ place → SeeksAmong base x u nodes (nodes ++ made x u ∷ []) (place + 2)
  unfolding keys i
  node_past l =
      let long = children_long base nodes in
      let few = prefix_len-le-length (λ v. not (same_pair u v)) keys in
      let e : i ≡ length keys = omega arith in
      let none : list_any (same_pair u) keys ≡ false = list_any_none (same_pair u) keys
      (All-from_get_or (λ v. same_pair u v ≡ false) keys (0, 0)
      (λ k m. from_not (same_pair u (get_or keys k (0, 0))) (prefix_len_passes (λ v. not (same_pair u v)) keys k (0, 0) (omega arith)))) in
      let push = children_push base nodes (made x u) h in
      record {
        number = inr (ne, (i, ap₂ (λ (ks : List (ℕ × ℕ)) (k : ℕ). slice_get ks k) push e ∙ last, ap (λ z. z + 2) at));
        once = λ d. subst (IsDistinct same_pair) (sym push) (IsDistinct-push equivalence keys u d none);
        more = inr (ne, push, named_push nodes x u, omega arith);
      }
    where
      from_not : (b : Bool) → not b ≡ true → b ≡ false
      from_not false e = refl
      from_not true e = sym e

      last : slice_get (keys ++ u ∷ []) (length keys) ≡ Some u
      last = ap (slice_get (keys ++ u ∷ [])) (sym (add-zero (length keys))) ∙ get_right keys (u ∷ []) 0

-- a set of the children, to which a pair is put
pub node_hashed : (base x : ℕ) (u : ℕ × ℕ) (nodes nodes' : List NumberedNode) (keys' : List (ℕ × ℕ)) (place : ℕ) (is_new : Bool) → u.0 ≢ u.1 →
    base ≤ length nodes → is_new ≡ not (list_any (same_pair u) (children_from base nodes)) →
    keys' ≡ cond (list_any (same_pair u) (children_from base nodes)) (children_from base nodes) (children_from base nodes ++ u ∷ []) →
    (v : ℕ × ℕ) → slice_get keys' place ≡ Some v → same_pair u v ≡ true → IsDistinct same_pair keys' →
    nodes' ≡ cond is_new (nodes ++ made x u ∷ []) nodes →
    SeeksAmong base x u nodes nodes' (base + place + 2) × (keys' ≡ children_from base nodes')
node_hashed base x u nodes nodes' keys' place is_new ne h a k v at same once ns =
    let found = ref_found base x u (children_from base nodes) keys' (map node_named nodes) (map node_named nodes') place is_new ne a k v at same once
    (ap (map node_named) ns ∙ named is_new) in
    (subst (λ ks. Seeks base x u (children_from base nodes) ks (map node_named nodes) (map node_named nodes') (base + place + 2)) kept found, kept)
  where
    named : (b : Bool) → map node_named (cond b (nodes ++ made x u ∷ []) nodes) ≡ cond b (map node_named nodes ++ node_over x u ∷ []) (map node_named nodes)
    named true = named_push nodes x u
    named false = refl

    by : (b : Bool) → cond b (children_from base nodes) (children_from base nodes ++ u ∷ [])
        ≡ children_from base (cond (not b) (nodes ++ made x u ∷ []) nodes)
    by true = refl
    by false = sym (children_push base nodes (made x u) h)

    kept : keys' ≡ children_from base nodes'
    kept = k ∙ by (list_any (same_pair u) (children_from base nodes))
        ∙ ap (λ b. children_from base (cond b (nodes ++ made x u ∷ []) nodes)) (sym a) ∙ ap (children_from base) (sym ns)

-- the place of a pair in the set
pub hashed_place : (base : ℕ) (nodes : List NumberedNode) (keys : List (ℕ × ℕ)) (place : ℕ) (is_new : Bool) → (len' : ℕ) → keys ≡ children_from base nodes →
    place < len' → len' ≡ length keys + (if is_new then 1 else 0) → base ≤ length nodes → base + place ≤ length nodes
hashed_place base nodes keys place is_new len' same within long h = by is_new long
  where
    by : (b : Bool) → len' ≡ length keys + (if b then 1 else 0) → base + place ≤ length nodes
    by true l = omega (arith, ap length same, children_long base nodes)
    by false l = omega (arith, ap length same, children_long base nodes)

-- ---- a level

numbered_none : (x : ℕ) (old : List Node) → IsNumbered x old [] [] old []
unfolding IsDistinct
numbered_none x old = search (rules, append-nil)

pub level_none : (base x : ℕ) (old : List NumberedNode) → base ≡ length old →
    IsNumbered x (map node_named old) [] (children_from base old) (map node_named old) []
level_none base x old e =
    subst (λ ks. IsNumbered x (map node_named old) [] ks (map node_named old) []) (sym (ap (λ b. children_from b old) e ∙ children_none old))
    (numbered_none x (map node_named old))

pub seeks_few : (base x : ℕ) (u : ℕ × ℕ) (nodes nodes' : List NumberedNode) (c : ℕ) → SeeksAmong base x u nodes nodes' c →
    (length nodes ≤ length nodes') × (length nodes' ≤ length nodes + 1)
seeks_few base x u nodes nodes' c s =
    let a = length-map nodes node_named in
    let b = length-map nodes' node_named in
    elim s.more [
      | inl e ↦ (let k = ap length e.1 in (omega arith, omega arith))
      | inr e ↦ (let k = ap length e.2 in let l = length-append (map node_named nodes) (node_over x u ∷ []) in (omega arith, omega arith))
    ]

pub level_more : (base x : ℕ) (old : List NumberedNode) (below numbers : List ℕ) (j : ℕ) (nodes nodes' : List NumberedNode) (u : ℕ × ℕ) (c : ℕ) →
    base ≡ length old → j < length below / 2 → length numbers ≡ length below → ((k : ℕ) → 2 * j ≤ k → get_or numbers k 0 ≡ get_or below k 0) →
    u ≡ (get_or numbers (2 * j) 0, get_or numbers (2 * j + 1) 0) →
    IsNumbered x (map node_named old) (take j (pairs_of below)) (children_from base nodes) (map node_named nodes) (take j numbers) →
    SeeksAmong base x u nodes nodes' c →
    IsNumbered x (map node_named old) (take (j + 1) (pairs_of below)) (children_from base nodes') (map node_named nodes') (take (j + 1) (set numbers j c))
level_more base x old below numbers j nodes nodes' u c e inside long rest children m s =
    let at : u ≡ pair_at below j = children ∙ (λ i. (rest (2 * j) (omega arith) i, rest (2 * j + 1) (omega arith) i)) in
    let there : base ≡ length (map node_named old) = e ∙ sym (length-map old node_named) in
    let found = subst (λ v. Seeks (length (map node_named old)) x v (children_from base nodes) (children_from base nodes') (map node_named nodes)
    (map node_named nodes') c) at
    (subst (λ b. Seeks b x u (children_from base nodes) (children_from base nodes') (map node_named nodes) (map node_named nodes') c) there s) in
    let step = numbered_step x (map node_named old) (take j (pairs_of below)) (children_from base nodes) (map node_named nodes) (take j numbers) m
    (pair_at below j) (children_from base nodes') (map node_named nodes') c found in
    subst (λ ps. IsNumbered x (map node_named old) ps (children_from base nodes') (map node_named nodes') (take (j + 1) (set numbers j c)))
    (sym (pairs_more below j inside))
    (subst (λ ns. IsNumbered x (map node_named old) (take j (pairs_of below) ++ pair_at below j ∷ []) (children_from base nodes') (map node_named nodes') ns)
    (sym (take_more_set numbers j c (omega arith))) step)

pub level_done : (base x : ℕ) (old : List NumberedNode) (below above : List ℕ) (j : ℕ) (nodes : List NumberedNode) → length below / 2 ≤ j →
    IsNumbered x (map node_named old) (take j (pairs_of below)) (children_from base nodes) (map node_named nodes) above →
    IsLevelAbove x (map node_named old) below (map node_named nodes) above
level_done base x old below above j nodes past m = record {
  keys = children_from base nodes;
  numbered = subst (λ ps. IsNumbered x (map node_named old) ps (children_from base nodes) (map node_named nodes) above)
      (take_all j (pairs_of below) (omega (arith, length-pairs_of below))) m;
}
