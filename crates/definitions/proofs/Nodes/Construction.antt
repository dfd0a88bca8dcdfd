-- For each order a diagram of F with exactly the level counts, built from the bottom up.
--     Built above below      the nodes of the levels below, which denote all that the variables above reach
--     exact_diagram      such a diagram of F under the order
use Rattle.std.proofs.Common.{◌≡◌, ℕ, zero, suc, ◌+◌, ◌<◌, ◌≤◌, Bool, true, false, cond, ◌||◌, ◌⊎◌, inl, inr, List, [], ◌∷◌, ◌++◌, map, length, get_or, slice_get, slice_index, refl, sym, ap, ap₂, ◌∙◌, subst, arith, nat_eq, eq-eqb, ne_eqb, zero-add, add-zero, Some, length-append}
use Rattle.std.specs.List.{filter, AllZip, AllByRecursion, count_by}
use Rattle.std.specs.Set.{unique_keys}
use Rattle.std.proofs.lemmas.Bool.{false≢true, cases_Bool, cases_eq, not-false}
use Rattle.std.proofs.lemmas.List.{set-get_or, append_assoc, append-nil, length_push, get_or_at}
use Rattle.std.proofs.lemmas.List.Elements.{All-from_recursion}
use Rattle.std.proofs.lemmas.List.Sums.{sum_by-cons, sum_by-append}
use Rattle.std.proofs.lemmas.Option.{slice_get_within, same_Some}
use Rattle.definitions.specs.declared.refs.Ref.{Ref}
use Rattle.definitions.specs.declared.refs.Ref.TheVariants.{Terminal, Place}
use Rattle.definitions.specs.declared.refs.Node.{Node}
use Rattle.definitions.specs.Functions.{Point, Function, bit, restrict, SameFunction, table, same_table, depends}
use Rattle.definitions.specs.Orders.{has, IsOrder, place_in}
use Rattle.definitions.specs.Levels.{subfunctions, reach, dependents, level_count, size_under}
use Rattle.definitions.specs.Widths.{cost}
use Rattle.definitions.specs.Diagrams.{Graph, IsBefore, IsOrdered, IsOf, Represents, child_at, value, nodes_at}
use Rattle.definitions.proofs.Lists.Sets.{Among, among_left, among_right, among_cases, among_filter, among_from_filter, among_map, among_from_map, among_flat_map, among_from_flat_map, among_unique, unique_among}
use Rattle.definitions.proofs.Functions.Tables.{same_trans, same_from_table, same_table_decides}
use Rattle.definitions.proofs.Lists.Orders.{has_at, place_get}
use Rattle.definitions.proofs.Nodes.Paths.{before_more, child_has, value_place, value_terminal}
use Rattle.definitions.proofs.Functions.Exchange.{mix_is, Below, subfunctions_fix, below_from_has, above_width, level_lem, size_is_cost}
use Rattle.definitions.proofs.Nodes.Appended.{get_left, get_right, get_cases, graph_of, AllFit, diagram_of, value_append}

-- ---- one more restriction

subfunctions_more : (x : ℕ) (b : Bool) (xs : List ℕ) (f g : Function) → Among g (subfunctions xs f) → Among (restrict x b g) (subfunctions (xs ++ x ∷ []) f)
unfolding subfunctions
subfunctions_more x false [] f g h = elim h [ inl e ↦ inl (ap (restrict x false) e) | inr r ↦ absurd r ]
subfunctions_more x true [] f g h = elim h [ inl e ↦ inr (inl (ap (restrict x true) e)) | inr r ↦ absurd r ]
subfunctions_more x b (y ∷ xs) f g h =
    elim (among_cases g (subfunctions xs (restrict y false f)) (subfunctions xs (restrict y true f)) h) [
      | inl a ↦ among_left _ _ _ (subfunctions_more x b xs (restrict y false f) g a)
      | inr a ↦ among_right _ (subfunctions (xs ++ x ∷ []) (restrict y false f)) _ (subfunctions_more x b xs (restrict y true f) g a)
    ]

pub reach_more : (F : List Function) (above : List ℕ) (x : ℕ) (b : Bool) (g : Function) → Among g (reach F above) →
    Among (restrict x b g) (reach F (above ++ x ∷ []))
unfolding reach
reach_more F above x b g h =
    let from = among_from_flat_map (subfunctions above) g F h in
    among_flat_map (subfunctions (above ++ x ∷ [])) from.0 F (restrict x b g) from.1 (subfunctions_more x b above from.0 g from.2)

pub own_restriction : (x : ℕ) (g : Function) (p : Point) → restrict x (bit p x) g p ≡ g p
unfolding restrict
own_restriction x g p = ap g (set-get_or p x false)

-- where a function does not depend on x, it is its restriction
free_restriction : (n x : ℕ) (g : Function) → depends n g x ≡ false → SameFunction n (restrict x false g) g
unfolding depends SameFunction
free_restriction n x g e p l =
    let same = same_from_table n (restrict x false g) (restrict x true g)
    ((same_table_decides (table n (restrict x false g)) (table n (restrict x true g))).0 (not-false _ e)) in
    by (bit p x) (own_restriction x g p) (same p l)
  where
    by : (b : Bool) → restrict x b g p ≡ g p → restrict x false g p ≡ restrict x true g p → restrict x false g p ≡ g p
    by true own same = same ∙ own
    by false own same = own

-- ---- lists side by side

zip_get : {A B : Type 0} (R : A → B → Type 0) (xs : List A) (ys : List B) (j : ℕ) (x : A) → AllZip R xs ys → slice_get xs j ≡ Some x → (y : B) × R x y
zip_get R [] [] j x z e = cc
zip_get R [] (y ∷ ys) j x z e = absurd z
zip_get R (w ∷ xs) [] j x z e = absurd z
zip_get R (w ∷ xs) (y ∷ ys) zero x z e = (y, subst (λ v. R v y) (same_Some w x e) z.0)
zip_get R (w ∷ xs) (y ∷ ys) (suc j) x z e = zip_get R xs ys j x z.1 e

pub zip_length : {A B : Type 0} (R : A → B → Type 0) (xs : List A) (ys : List B) → AllZip R xs ys → length xs ≡ length ys
zip_length R [] [] z = refl
zip_length R [] (y ∷ ys) z = absurd z
zip_length R (x ∷ xs) [] z = absurd z
zip_length R (x ∷ xs) (y ∷ ys) z = ap suc (zip_length R xs ys z.1)

zip_find : {A B : Type 0} (R : A → B → Type 0) (xs : List A) (ys : List B) (y : B) → AllZip R xs ys → Among y ys →
    (j : ℕ) × (x : A) × (slice_get xs j ≡ Some x) × R x y
zip_find R [] [] y z h = absurd h
zip_find R [] (w ∷ ys) y z h = absurd z
zip_find R (x ∷ xs) [] y z h = absurd h
zip_find R (x ∷ xs) (w ∷ ys) y z h =
    elim h [
      | inl e ↦ (0, x, refl, subst (λ v. R x v) (sym e) z.0)
      | inr r ↦ let s = zip_find R xs ys y z.1 r in (suc s.0, s.1, s.2, s.3)
    ]

count_none : {X : Type 0} (p : X → Bool) (xs : List X) → ((k : ℕ) (x : X) → slice_get xs k ≡ Some x → p x ≡ false) → count_by p xs ≡ 0
count_none p [] h = refl
count_none p (x ∷ xs) h = sum_by-cons (λ y. cond (p y) 1 0) x xs ∙ ap (λ b. cond b 1 0 + count_by p xs) (h 0 x refl)
    ∙ zero-add (count_by p xs) ∙ count_none p xs (λ k y e. h (suc k) y e)

count_all : {X : Type 0} (p : X → Bool) (xs : List X) → ((k : ℕ) (x : X) → slice_get xs k ≡ Some x → p x ≡ true) → count_by p xs ≡ length xs
count_all p [] h = refl
count_all p (x ∷ xs) h =
    let b = ap (λ b. cond b 1 0 + count_by p xs) (h 0 x refl) in
    (sum_by-cons (λ y. cond (p y) 1 0) x xs) ∙ b ∙ (let g : 1 + count_by p xs ≡ suc (length xs) = omega (
      arith,
      count_all p xs (λ k y e. h (suc k) y e),
    ) in g)

-- ---- new nodes

-- a node of variable x over the old nodes, for the function g
record Made (n : ℕ) (old : List Node) (x : ℕ) (g : Function) (node : Node) : Type 0 where
  variable : node.variable ≡ x
  low_before : IsBefore (length old) node.low
  high_before : IsBefore (length old) node.high
  low : SameFunction n (value old node.low) (restrict x false g)
  high : SameFunction n (value old node.high) (restrict x true g)

abbrev Stands : ℕ → List Node → ℕ → Node → List Bool → Type 0
Stands n old x node t = (g : Function) × (t ≡ table n g) × Made n old x g node

make : (n : ℕ) (old : List Node) (x : ℕ) (ts : List (List Bool)) → ((t : List Bool) → Among t ts → (node : Node) × Stands n old x node t) →
    (more : List Node) × AllZip (Stands n old x) more ts
make n old x [] h = ([], tt)
make n old x (t ∷ ts) h =
    let one = h t (inl refl) in
    let rest = make n old x ts (λ u k. h u (inr k)) in
    (one.0 ∷ rest.0, (one.1, rest.1))

-- the nodes of the levels below, over which all that the variables above reach is denoted
record Built (n : ℕ) (F : List Function) (order above below : List ℕ) : Type 0 where
  nodes : List Node
  fits : AllFit n nodes
  ordered : IsOrdered order (graph_of nodes)
  deep : (k : ℕ) (node : Node) → slice_get nodes k ≡ Some node → length above ≤ place_in order node.variable
  denoted : (g : Function) → Among g (reach F above) → (r : Ref) × IsBefore (length nodes) r × SameFunction n (value nodes r) g
  exact : (y : ℕ) → has below y ≡ true → count_by (λ (node : Node). nat_eq node.variable y) nodes ≡ level_count n F order (place_in order y)
  total : length nodes ≡ cost n F below

module _ (n : ℕ) (F : List Function) (order : List ℕ) (o : IsOrder n order) where
  -- all variables restricted: constants
  bottom : (above : List ℕ) → above ≡ order → Built n F order above []
  unfolding IsOrdered reach SameFunction cost
  bottom above same = record {
    nodes = [];
    fits = λ k node e. cc;
    ordered = λ j k c p e f. cc;
    deep = λ k node e. cc;
    denoted = constant;
    exact = λ y h. absurd (false≢true h);
    total = refl;
  }
    where
      all : (y : ℕ) → y < n → has above y ≡ true
      all y lt = ap (λ xs. has xs y) same ∙ (o.all y).1 lt

      small : Below n above
      small = below_from_has n above (λ y h. (o.all y).0 (ap (λ xs. has xs y) (sym same) ∙ h))

      constant : (g : Function) → Among g (reach F above) → (r : Ref) × IsBefore 0 r × SameFunction n (value [] r) g
      constant g h =
          let from = among_from_flat_map (subfunctions above) g F h in
          let f = from.0 in
          let fix = subfunctions_fix n above small f g from.2 in
          let a = fix.0 in (
            Terminal (f a),
            tt,
            λ p l.
                value_terminal [] p (f a) ∙ ap f (mix_is n above a p a fix.1 (λ y lt. ap (λ b. cond b (bit a y) (bit p y)) (sym (all y lt)))) ∙ sym (fix.2 p l),
          )

-- one more level on top
module _ (n : ℕ) (F : List Function) (order : List ℕ) (o : IsOrder n order) (above : List ℕ) (x : ℕ) (below : List ℕ)
    (same : above ++ x ∷ below ≡ order) (rest : Built n F order (above ++ x ∷ []) below) where
  own_order : IsOrder n (above ++ x ∷ below)
  own_order = subst (IsOrder n) (sym same) o

  at_place : get_or order (length above) 0 ≡ x
  at_place = ap (λ xs. get_or xs (length above) 0) (sym same) ∙ get_or_at above x below 0 (length above) refl

  inside : length above < length order
  inside = omega (arith, ap length same, length-append above (x ∷ below))

  place_x : place_in order x ≡ length above
  place_x = ap (place_in order) (sym at_place) ∙ place_get order (length above) o.once inside

  small_x : x < n
  small_x = (o.all x).0 (ap (has order) (sym at_place) ∙ has_at order (length above) inside)

  -- the functions with a node on this level, and their tables, each once
  own : List Function
  own = filter (λ f. depends n f x) (reach F above)

  tables : List (List Bool)
  tables = unique_keys same_table (map (table n) own)

  node_for : (t : List Bool) → Among t tables → (node : Node) × Stands n rest.nodes x node t
  unfolding own tables
  node_for t h =
      let from = among_from_map (table n) t own (unique_among same_table same_table_decides (map (table n) own) t h) in
      let g = from.0 in
      let reached = (among_from_filter (λ f. depends n f x) g (reach F above) from.1).0 in
      let low = rest.denoted (restrict x false g) (reach_more F above x false g reached) in
      let high = rest.denoted (restrict x true g) (reach_more F above x true g reached) in
      let node : Node = record { variable = x; low = low.0; high = high.0 } in
      (node, (g, from.2, record { variable = refl; low_before = low.1; high_before = high.1; low = low.2; high = high.2 }))

  made_nodes : (more : List Node) × AllZip (Stands n rest.nodes x) more tables
  made_nodes = make n rest.nodes x tables node_for

  more : List Node
  more = made_nodes.0

  both : List Node
  both = rest.nodes ++ more

  -- each new node is made for a function with one of the tables
  new_node : (j : ℕ) (node : Node) → slice_get more j ≡ Some node → (t : List Bool) × Stands n rest.nodes x node t
  unfolding more
  new_node j node e = zip_get (Stands n rest.nodes x) more tables j node made_nodes.1 e

  count_more : length more ≡ dependents n (reach F above) x
  unfolding more tables own dependents
  count_more = zip_length (Stands n rest.nodes x) more tables made_nodes.1

  node_at_both : (k : ℕ) (node : Node) → slice_get both k ≡ Some node →
      (slice_get rest.nodes k ≡ Some node) ⊎ ((j : ℕ) × (k ≡ length rest.nodes + j) × (slice_get more j ≡ Some node))
  unfolding both
  node_at_both k node e = get_cases rest.nodes more k node e

  both_fit : AllFit n both
  both_fit k node e = grind (arith, node_at_both, new_node, small_x)

  new_place : (j : ℕ) (node : Node) → slice_get more j ≡ Some node → place_in order node.variable ≡ length above
  new_place j node e = ap (place_in order) (new_node j node e).1.2.variable ∙ place_x

  old_place : (k : ℕ) (node : Node) → slice_get rest.nodes k ≡ Some node → suc (length above) ≤ place_in order node.variable
  old_place k node e = omega (arith, length_push above x, rest.deep k node e)

  both_low : (k : ℕ) (node : Node) → slice_get both k ≡ Some node → length above ≤ place_in order node.variable
  both_low k node e = grind (arith, node_at_both, old_place, new_place)

  old_child : (j k : ℕ) (child : Node) → slice_get both j ≡ Some child → j < length rest.nodes → slice_get rest.nodes j ≡ Some child
  unfolding both
  old_child j k child e lt = sym (get_left rest.nodes more j lt) ∙ e

  both_ordered : IsOrdered order (graph_of both)
  unfolding IsOrdered
  both_ordered j k child parent cj pk is = grind (arith, node_at_both, slice_get_within, new_node, old_place, new_place)

  new_value : (j : ℕ) (node : Node) → slice_get more j ≡ Some node → (g : Function) → Made n rest.nodes x g node →
      SameFunction n (value both (Place (length rest.nodes + j))) g
  unfolding SameFunction both
  new_value j node e g made p l =
      value_place n (graph_of both) (diagram_of n both both_fit) p (length rest.nodes + j) node (get_right rest.nodes more j ∙ e)
      ∙ value_append n rest.nodes more rest.fits both_fit p (length rest.nodes) (child_at p node) (omega arith)
      (child_has (IsBefore (length rest.nodes)) (bit p node.variable) node made.low_before made.high_before)
      ∙ by (bit p node.variable) refl
    where
      by : (b : Bool) → bit p node.variable ≡ b → value rest.nodes (cond b node.high node.low) p ≡ g p
      by true f = made.high p l ∙ ap (λ c. restrict x c g p) (sym (ap (bit p) (sym made.variable) ∙ f)) ∙ own_restriction x g p
      by false f = made.low p l ∙ ap (λ c. restrict x c g p) (sym (ap (bit p) (sym made.variable) ∙ f)) ∙ own_restriction x g p

  length_both : length both ≡ length rest.nodes + length more
  unfolding both
  length_both = length-append rest.nodes more

  new_before : (j : ℕ) (node : Node) → slice_get more j ≡ Some node → IsBefore (length both) (Place (length rest.nodes + j))
  new_before j node e = omega (arith, length_both, slice_get_within more j node e)

  old_before : (r : Ref) → IsBefore (length rest.nodes) r → IsBefore (length both) r
  old_before r b = before_more (length rest.nodes) (length both) r (omega (arith, length_both)) b

  kept : (r : Ref) → IsBefore (length rest.nodes) r → SameFunction n (value both r) (value rest.nodes r)
  unfolding SameFunction both
  kept r b p l = value_append n rest.nodes more rest.fits both_fit p (length rest.nodes) r (omega arith) b

  both_denoted : (g : Function) → Among g (reach F above) → (r : Ref) × IsBefore (length both) r × SameFunction n (value both r) g
  unfolding tables own both more
  both_denoted g h =
      elim (cases_Bool (depends n g x)) [
        | inl dep ↦
            let listed =
            among_unique same_table same_table_decides (map (table n) own) (table n g)
            (among_map (table n) g own (among_filter (λ f. depends n f x) g (reach F above) h dep)) in
            let at = zip_find (Stands n rest.nodes x) more tables (table n g) made_nodes.1 listed in
            let here = new_value at.0 at.1 at.2 at.3.0 at.3.2 in (
              Place (length rest.nodes + at.0),
              new_before at.0 at.1 at.2,
              same_trans n (value both (Place (length rest.nodes + at.0))) at.3.0 g here (same_from_table n at.3.0 g (sym at.3.1)),
            )
        | inr free ↦
            let old = rest.denoted (restrict x false g) (reach_more F above x false g h) in
            let r = old.0 in (
              r,
              old_before r old.1,
              same_trans n (value both r) (value rest.nodes r) g
                  (kept r old.1) (same_trans n (value rest.nodes r) (restrict x false g) g old.2 (free_restriction n x g free)),
            )
      ]

  -- the counts of the levels
  count_both : (y : ℕ) →
      count_by (λ (node : Node). nat_eq node.variable y) both ≡ count_by (λ (node : Node). nat_eq node.variable y) rest.nodes + count_by
      (λ (node : Node). nat_eq node.variable y) more
  unfolding both
  count_both y = sum_by-append (λ (node : Node). cond (nat_eq node.variable y) 1 0) rest.nodes more

  level_x : level_count n F order (length above) ≡ dependents n (reach F above) x
  level_x = ap (λ xs. level_count n F xs (length above)) (sym same) ∙ level_lem n F above x below

  both_exact : (y : ℕ) → has (x ∷ below) y ≡ true → count_by (λ (node : Node). nat_eq node.variable y) both ≡ level_count n F order (place_in order y)
  both_exact y h =
      elim (cases_eq y x) [
        | inl e ↦
            let old = count_none (λ (node : Node). nat_eq node.variable y) rest.nodes
            (λ k node f. ne_eqb node.variable y
            (λ v. omega (arith, old_place k node f, ap (place_in order) (v ∙ e) ∙ place_x))) in
            let new = count_all (λ (node : Node). nat_eq node.variable y) more
            (λ k node f. eq-eqb node.variable y ((new_node k node f).1.2.variable ∙ sym e)) in
            let level = ap (level_count n F order) (ap (place_in order) e ∙ place_x) ∙ level_x in
            count_both y ∙ ap₂ (λ a b. a + b) old new ∙ zero-add (length more) ∙ count_more ∙ sym level
        | inr ne ↦
            let new = count_none (λ (node : Node). nat_eq node.variable y) more
            (λ k node f. ne_eqb node.variable y (λ v. ne (sym v ∙ (new_node k node f).1.2.variable))) in
            let there : has below y ≡ true = ap (λ b. b || has below y) (sym (ne_eqb y x ne)) ∙ h in
            count_both y ∙ ap₂ (λ a b. a + b) (rest.exact y there) new ∙ add-zero (level_count n F order (place_in order y))
      ]

  both_total : length both ≡ cost n F (x ∷ below)
  unfolding cost
  both_total = omega (arith, length_both, count_more, above_width n F above x below own_order)

  one_up : Built n F order above (x ∷ below)
  one_up = record { nodes = both; fits = both_fit; ordered = both_ordered; deep = both_low; denoted = both_denoted; exact = both_exact; total = both_total }

-- ---- the whole diagram

build : (n : ℕ) (F : List Function) (order : List ℕ) → IsOrder n order → (below above : List ℕ) → above ++ below ≡ order → Built n F order above below
build n F order o [] above e = bottom n F order o above (sym (append-nil above) ∙ e)
build n F order o (x ∷ below) above e = one_up n F order o above x below e (build n F order o below (above ++ x ∷ []) (append_assoc above (x ∷ []) below ∙ e))

roots_of : (n : ℕ) (nodes : List Node) (F G : List Function) →
    ((g : Function) → Among g F → (r : Ref) × IsBefore (length nodes) r × SameFunction n (value nodes r) g) →
    (roots : List Ref) × AllByRecursion (IsBefore (length nodes)) roots × AllZip (λ r f. SameFunction n (value nodes r) f) roots F
roots_of n nodes [] G h = ([], tt, tt)
roots_of n nodes (f ∷ F) G h =
    let one = h f (inl refl) in
    let rest = roots_of n nodes F G (λ g k. h g (inr k)) in
    (one.0 ∷ rest.0, (one.1, rest.1), (one.2, rest.2))

-- a diagram of F under the order, whose levels have just the level counts
pub record IsExact (n : ℕ) (F : List Function) (order : List ℕ) (d : Graph) : Type 0 where
  pub represents : Represents n F order d
  pub levels : (i : ℕ) → i < length order → nodes_at d (slice_index order i) ≡ level_count n F order i
  pub size : length d.nodes ≡ size_under n F order

pub exact_diagram : (n : ℕ) (F : List Function) (order : List ℕ) → IsOrder n order → (d : Graph) × IsExact n F order d
unfolding reach subfunctions nodes_at IsOf IsOrdered
exact_diagram n F order o =
    let built = build n F order o order [] refl in
    let roots = roots_of n built.nodes F F (λ g h. built.denoted g (among_flat_map (subfunctions []) g F g h (inl refl))) in (
      record { nodes = built.nodes; roots = roots.0 },
      record {
        represents = record {
          diagram = record { nodes = built.fits; roots = All-from_recursion (IsBefore (length built.nodes)) roots.0 roots.1 };
          ordered = built.ordered;
          functions = roots.2;
        };
        levels = λ i lt. built.exact (slice_index order i) (has_at order i lt) ∙ ap (level_count n F order) (place_get order i o.once lt);
        size = built.total ∙ sym (size_is_cost n F order o);
      },
    )
