-- The functions that ids denote.
use Rattle.std.proofs.Common.{◌≡◌, ◌≢◌, ℕ, ◌+◌, ◌-◌, ◌<◌, ◌≤◌, ◌⊎◌, ◌==◌, ◌^◌, Bool, true, false, cond, List, get_or, length, map, sym, refl, ap, ◌∙◌, subst, ⊎_elim, arith, eq-eqb, ne_eqb, zero-add, MatchBool}
use mathlib.Core.Logic.{dite}
use native.Mathlib.Decide.{ℕ_discrete}
use Rattle.std.proofs.lemmas.List.{get_or_past}
use Rattle.std.specs.List.{range_with_len}
use Rattle.std.proofs.lemmas.List.FromFn.{get_or-map-range_with_len, length-map-range_with_len}
use Rattle.definitions.specs.Functions.{Point, Function, bit, SameFunction}
use Rattle.definitions.specs.Orders.{IsOrder, place_in}
use Rattle.definitions.proofs.Lists.Orders.{has_at, place_get}
use Rattle.node_words.specs.Nodes.{IsBelow, AreNodeWords, AreUnequal, Grows, level_of, low_of, high_of, node_word, IsKnown, IsIdOf}
use Rattle.node_words.specs.Meaning.{value, IsSame, depth, along, function_of, Denotes, branch}
use Rattle.node_words.specs.declared.operation.Operation.{Operation}
use Rattle.node_words.specs.Entries.{combine, combine_values}
use Rattle.node_words.proofs.OneMoreNode.{grows_full}
use Rattle.node_words.proofs.NewNodes.{word_level, word_low, word_high}
use Rattle.node_words.proofs.Meaning.{value_terminal, value_grows, value_within, value_child, value_same, canonical, no_higher, deepest, depth_node, depth_terminal}
use Rattle.std.proofs.lemmas.Bool.{cases_lt}

-- the point at which each level's variable has a value
abbrev pub point_along : List ℕ → (ℕ → Bool) → Point
point_along order t = map (λ x. t (place_in order x)) (range_with_len 0 (length order))

pub length-point_along : (order : List ℕ) (t : ℕ → Bool) → length (point_along order t) ≡ length order
length-point_along order t = length-map-range_with_len (λ x. t (place_in order x)) 0 (length order)

pub along-point_along : (order : List ℕ) (t : ℕ → Bool) (level : ℕ) → IsOrder (length order) order → level < length order →
    along order (point_along order t) level ≡ t level
along-point_along order t level is inside =
    let x : ℕ = get_or order level 0 in let small : x < length order = (is.all x).0 (has_at order level inside) in
    get_or-map-range_with_len (λ y. t (place_in order y)) 0 (length order) x x false small (zero-add x) ∙ ap t (place_get order level is.once inside)

module _ (order ws : List ℕ) (nodes : AreNodeWords (length order) ws) where
  -- each choice of children is that of a point
  pub value_at : (id : ℕ) (t : ℕ → Bool) → IsOrder (length order) order → IsKnown ws id →
      value (length order) ws id t ≡ function_of order ws id (point_along order t)
  unfolding function_of
  value_at id t is known =
      value_within (length order) ws nodes (length order) id t (along order (point_along order t)) known
      (λ j small. sym (along-point_along order t j is small))

  pub same_values : (a b : ℕ) → IsOrder (length order) order → IsKnown ws a → IsKnown ws b →
      SameFunction (length order) (function_of order ws a) (function_of order ws b) → IsSame (length order) ws a b
  unfolding SameFunction
  same_values a b is ka kb same t = value_at a t is ka ∙ (same (point_along order t) (length-point_along order t) ∙ sym (value_at b t is kb))

  -- ids of one function are one id
  pub same_ids : AreUnequal ws → (a b : ℕ) → IsOrder (length order) order → IsKnown ws a → IsKnown ws b →
      SameFunction (length order) (function_of order ws a) (function_of order ws b) → a ≡ b
  same_ids unequal a b is ka kb same =
      canonical (length order) ws nodes unequal (length order) a b ka kb (omega arith) (omega arith) (same_values a b is ka kb same)

  pub one_id : AreUnequal ws → (a b : ℕ) (f : Function) → IsOrder (length order) order → Denotes order ws a f → Denotes order ws b f → a ≡ b
  unfolding SameFunction
  one_id unequal a b f is da db = same_ids unequal a b is da.known db.known (λ p l. da.function p l ∙ sym (db.function p l))

  -- growth keeps functions
  pub function_grows : (later : List ℕ) → Grows ws later → (id : ℕ) → IsKnown ws id → (p : Point) → function_of order later id p ≡ function_of order ws id p
  unfolding function_of
  function_grows later g id known p = value_grows (length order) ws later nodes g (length order) id (along order p) known

  pub denotes_grows : (later : List ℕ) → Grows ws later → (id : ℕ) (f : Function) → Denotes order ws id f → Denotes order later id f
  unfolding SameFunction
  denotes_grows later g id f d =
      record {
        known = λ two. grows_full ws later (id - 2) g (d.known two);
        function = λ p l. function_grows later g id d.known p
            ∙ d.function p l;
      }

  -- a node denotes the high child's function where its variable is 1, else the low child's
  pub function_child : (id : ℕ) → 2 ≤ id → IsKnown ws id → (p : Point)
      → function_of order ws id p ≡ branch (get_or order (level_of (get_or ws (id - 2) 0)) 0)
      (function_of order ws (low_of (get_or ws (id - 2) 0))) (function_of order ws (high_of (get_or ws (id - 2) 0))) p
  unfolding function_of branch
  function_child id node known p = value_child (length order) ws nodes id (along order p) node known

  pub function_terminal : (id : ℕ) → id < 2 → (p : Point) → function_of order ws id p ≡ (id == 1)
  unfolding function_of
  function_terminal id small p = value_terminal (length order) ws id (along order p) small

  -- what a made id denotes
  pub function_made : (level low high id : ℕ) → level < 16 → low < 2 ^ 20 → high < 2 ^ 20 → node_word level low high ≢ 0 →
      IsIdOf ws level low high id → (p : Point)
      → function_of order ws id p ≡ branch (get_or order level 0) (function_of order ws low) (function_of order ws high) p
  unfolding branch
  function_made level low high id a b c full made p = dite (ℕ_discrete low high)
      (λ same. let is : id ≡ low =
      subst (λ (t : Bool). MatchBool t (id ≡ low) ((2 ≤ id) × (get_or ws (id - 2) 0 ≡ node_word level low high)))
      (eq-eqb low high same) made in
      ap (λ (k : ℕ). function_of order ws k p) is
      ∙ both_same (bit p (get_or order level 0)) (function_of order ws low p) (function_of order ws high p)
      (ap (λ (k : ℕ). function_of order ws k p) same))
      (λ ne. let m : (2 ≤ id) × (get_or ws (id - 2) 0 ≡ node_word level low high) =
      subst (λ (t : Bool). MatchBool t (id ≡ low) ((2 ≤ id) × (get_or ws (id - 2) 0 ≡ node_word level low high)))
      (ne_eqb low high ne) made in
      let known : IsKnown ws id = (λ two e. full (sym m.1 ∙ e)) in
      let l : level_of (get_or ws (id - 2) 0) ≡ level = ap level_of m.1 ∙ word_level level low high a b c in
      let x : low_of (get_or ws (id - 2) 0) ≡ low = ap low_of m.1 ∙ word_low level low high a b c in
      let y : high_of (get_or ws (id - 2) 0) ≡ high = ap high_of m.1 ∙ word_high level low high a b c in
      function_child id m.0 known p ∙ (λ i. branch (get_or order (l i) 0) (function_of order ws (x i)) (function_of order ws (y i)) p))
    where
      both_same : (b : Bool) (x y : Bool) → x ≡ y → x ≡ cond b y x
      both_same true x y e = e
      both_same false x y e = refl

  -- an id lies no higher than the ids of which it is an operation
  pub operation_no_higher : AreUnequal ws → IsOrder (length order) order → (operation : Operation) (a b r k : ℕ) → IsKnown ws a →
      IsKnown ws b → Denotes order ws r (combine operation (function_of order ws a) (function_of order ws b))
      → k ≤ depth (length order) ws a → k ≤ depth (length order) ws b → k ≤ depth (length order) ws r
  unfolding SameFunction combine
  operation_no_higher unequal is operation a b r k ka kb d ha hb =
      let n : ℕ = length order in
      let value_is : (t : ℕ → Bool) → value n ws r t ≡ combine_values operation (value n ws a t) (value n ws b t) = (λ t.
      value_at r t is d.known
      ∙ (d.function (point_along order t) (length-point_along order t)
      ∙ (λ i. combine_values operation (sym (value_at a t is ka) i) (sym (value_at b t is kb) i)))) in
      let most : k ≤ n = (let e = deepest n ws nodes a ka in omega arith) in
      no_higher n ws nodes unequal k r d.known most (λ t t' agree. value_is t
      ∙ ((λ i. combine_values operation (value_same n ws nodes n n a t t' ka (omega arith) (omega arith) (λ j le. agree j (omega arith)) i)
      (value_same n ws nodes n n b t t' kb (omega arith) (omega arith) (λ j le. agree j (omega arith)) i))
      ∙ sym (value_is t')))

-- growth keeps levels
pub depth_grows : (levels : ℕ) (xs ys : List ℕ) → Grows xs ys → (id : ℕ) → IsKnown xs id → depth levels ys id ≡ depth levels xs id
depth_grows levels xs ys g id known = ⊎_elim
    (λ (node : 2 ≤ id). depth_node levels ys id node ∙ (ap level_of (g (id - 2) (known node)) ∙ sym (depth_node levels xs id node)))
    (λ (small : id < 2). depth_terminal levels ys id small ∙ sym (depth_terminal levels xs id small))
    (two_or_less id)
  where
    two_or_less : (a : ℕ) → (2 ≤ a) ⊎ (a < 2)
    two_or_less a = grind arith

pub below_depth : (levels : ℕ) (ws : List ℕ) (level id : ℕ) → IsKnown ws id → level < depth levels ws id → IsBelow ws level id
below_depth levels ws level id known less two = (known two, (let e = depth_node levels ws id two in omega arith))

pub depth_below : (levels : ℕ) (ws : List ℕ) (level id : ℕ) → level < levels → IsBelow ws level id → level < depth levels ws id
depth_below levels ws level id small below = ⊎_elim
    (λ (node : 2 ≤ id). let e = depth_node levels ws id node in let b = (below node).1 in omega arith)
    (λ (less : id < 2). let e = depth_terminal levels ws id less in omega arith)
    (two_or_less id)
  where
    two_or_less : (a : ℕ) → (2 ≤ a) ⊎ (a < 2)
    two_or_less a = grind arith

-- a known id fits 20 bits
pub known_small : (ws : List ℕ) (places id : ℕ) → length ws ≤ places → IsKnown ws id → id < places + 2
known_small ws places id size known = ⊎_elim
    (λ (inside : id < places + 2). inside)
    (λ (past : places + 2 ≤ id). absurd (known (omega arith) (get_or_past ws (id - 2) 0 (omega arith))))
    (cases_lt id (places + 2))

pub known_made : (ws : List ℕ) (level low high id : ℕ) → IsKnown ws low → IsIdOf ws level low high id → IsKnown ws id
known_made ws level low high id known made = dite (ℕ_discrete low high)
    (λ same. let is : id ≡ low =
    subst (λ (t : Bool). MatchBool t (id ≡ low) ((2 ≤ id) × (get_or ws (id - 2) 0 ≡ node_word level low high)))
    (eq-eqb low high same) made in
    subst (IsKnown ws) (sym is) known)
    (λ ne. let m : (2 ≤ id) × (get_or ws (id - 2) 0 ≡ node_word level low high) =
    subst (λ (t : Bool). MatchBool t (id ≡ low) ((2 ≤ id) × (get_or ws (id - 2) 0 ≡ node_word level low high)))
    (ne_eqb low high ne) made in
    let word = m.1 in λ two empty. omega arith)

-- a made id is known, and denotes the branch of the children's functions by the level's variable
pub denotes_made : (order ws : List ℕ) → AreNodeWords (length order) ws → (level low high id : ℕ) → level < 16 → low < 2 ^ 20 → high < 2 ^ 20 →
    IsKnown ws low → IsIdOf ws level low high id
    → Denotes order ws id (branch (get_or order level 0) (function_of order ws low) (function_of order ws high))
unfolding SameFunction
denotes_made order ws nodes level low high id a b c known made = record {
  known = known_made ws level low high id known made;
  function = λ p l. function_made order ws nodes level low high id a b c (λ e. omega arith) made p;
}
