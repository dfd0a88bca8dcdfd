-- What ids mean: growth keeps it, and ids that mean the same are the same.
use Rattle.std.proofs.Common.{◌≡◌, ◌≢◌, ℕ, zero, suc, ◌+◌, ◌-◌, ◌<◌, ◌≤◌, ◌⊎◌, ◌==◌, Bool, true, false, nat_lt, if◌then◌else◌, List, get_or, sym, refl, ap, ◌∙◌, subst, ⊎_elim, arith, lt-ltb, le-ltb, eq-eqb, ne_eqb}
use Rattle.node_words.specs.Nodes.{IsBelow, AreNodeWords, AreUnequal, Grows, level_of, low_of, high_of, node_word, IsKnown}
use Rattle.node_words.specs.Meaning.{value, IsSame, depth}

pub le_or_lt : (a b : ℕ) → (a ≤ b) ⊎ (b < a)
le_or_lt a b = grind arith

-- the terminals are told apart by whether they are 1
pub one_or_zero : (a b : ℕ) → a < 2 → b < 2 → (a == 1) ≡ (b == 1) → a ≡ b
one_or_zero a b h k l = grind arith

choose : (b : Bool) (x y : Bool) → b ≡ true → (if b then x else y) ≡ x
choose b x y e = ap (λ (c : Bool). if c then x else y) e

refuse : (b : Bool) (x y : Bool) → b ≡ false → (if b then x else y) ≡ y
refuse b x y e = ap (λ (c : Bool). if c then x else y) e

pub choose_n : (b : Bool) (x y : ℕ) → b ≡ true → (if b then x else y) ≡ x
choose_n b x y e = ap (λ (c : Bool). if c then x else y) e

pub refuse_n : (b : Bool) (x y : ℕ) → b ≡ false → (if b then x else y) ≡ y
refuse_n b x y e = ap (λ (c : Bool). if c then x else y) e

pub depth_terminal : (levels : ℕ) (ws : List ℕ) (id : ℕ) → id < 2 → depth levels ws id ≡ levels
depth_terminal levels ws id h = choose_n (nat_lt id 2) levels (level_of (get_or ws (id - 2) 0)) (lt-ltb id 2 h)

pub depth_node : (levels : ℕ) (ws : List ℕ) (id : ℕ) → 2 ≤ id → depth levels ws id ≡ level_of (get_or ws (id - 2) 0)
depth_node levels ws id h = refuse_n (nat_lt id 2) levels (level_of (get_or ws (id - 2) 0)) (le-ltb id 2 h)

pub value_terminal : (k : ℕ) (ws : List ℕ) (id : ℕ) (t : ℕ → Bool) → id < 2 → value k ws id t ≡ (id == 1)
value_terminal zero ws id t h = refl
value_terminal (suc k) ws id t h = choose (nat_lt id 2) (id == 1) _ (lt-ltb id 2 h)

pub value_node : (k : ℕ) (ws : List ℕ) (id : ℕ) (t : ℕ → Bool) → 2 ≤ id
    → value (suc k) ws id t ≡
    (if t (level_of (get_or ws (id - 2) 0)) then value k ws (high_of (get_or ws (id - 2) 0)) t else value k ws
    (low_of (get_or ws (id - 2) 0)) t)
value_node k ws id t h = refuse (nat_lt id 2) (id == 1) _ (le-ltb id 2 h)

module _ (levels : ℕ) (xs ys : List ℕ) (nodes : AreNodeWords levels xs) (g : Grows xs ys) where
  -- what an id means stays as the words grow
  pub value_grows : (k id : ℕ) (t : ℕ → Bool) → IsKnown xs id → value k ys id t ≡ value k xs id t
  value_grows zero id t known = refl
  value_grows (suc k) id t known = ⊎_elim
      (λ (node : 2 ≤ id). let full = known node in let n = nodes (id - 2) full in let same = g (id - 2) full in
      let high : value k ys (high_of (get_or xs (id - 2) 0)) t ≡ value k xs (high_of (get_or xs (id - 2) 0)) t =
      value_grows k (high_of (get_or xs (id - 2) 0)) t (λ two. (n.high two).0) in
      let low : value k ys (low_of (get_or xs (id - 2) 0)) t ≡ value k xs (low_of (get_or xs (id - 2) 0)) t =
      value_grows k (low_of (get_or xs (id - 2) 0)) t (λ two. (n.low two).0) in
      value_node k ys id t node ∙ (ap (λ (w : ℕ). if t (level_of w) then value k ys (high_of w) t else value k ys (low_of w) t) same
      ∙ ((λ i. if t (level_of (get_or xs (id - 2) 0)) then high i else low i) ∙ sym (value_node k xs id t node))))
      (λ (small : id < 2). value_terminal (suc k) ys id t small ∙ sym (value_terminal (suc k) xs id t small))
      (le_or_lt 2 id)

module _ (levels : ℕ) (ws : List ℕ) (nodes : AreNodeWords levels ws) where
  deeper : (id child : ℕ) → 2 ≤ id → IsKnown ws id → IsBelow ws (level_of (get_or ws (id - 2) 0)) child →
      level_of (get_or ws (id - 2) 0) < depth levels ws child
  deeper id child two known below = ⊎_elim
      (λ (node : 2 ≤ child). let b = (below node).1 in let e = depth_node levels ws child node in
      subst (λ (z : ℕ). level_of (get_or ws (id - 2) 0) < z) (sym e) b)
      (λ (small : child < 2). let n = (nodes (id - 2) (known two)).level in let e = depth_terminal levels ws child small in
      subst (λ (z : ℕ). level_of (get_or ws (id - 2) 0) < z) (sym e) n)
      (le_or_lt 2 child)

  pub shallow : (id : ℕ) → 2 ≤ id → IsKnown ws id → depth levels ws id < levels
  shallow id two known = let n = (nodes (id - 2) (known two)).level in subst (λ (z : ℕ). z < levels) (sym (depth_node levels ws id two)) n

  pub below_high : (id : ℕ) → 2 ≤ id → IsKnown ws id → depth levels ws id < depth levels ws (high_of (get_or ws (id - 2) 0))
  below_high id two known =
      subst (λ (z : ℕ). z < depth levels ws (high_of (get_or ws (id - 2) 0))) (sym (depth_node levels ws id two))
      (deeper id (high_of (get_or ws (id - 2) 0)) two known (nodes (id - 2) (known two)).high)

  pub below_low : (id : ℕ) → 2 ≤ id → IsKnown ws id → depth levels ws id < depth levels ws (low_of (get_or ws (id - 2) 0))
  below_low id two known =
      subst (λ (z : ℕ). z < depth levels ws (low_of (get_or ws (id - 2) 0))) (sym (depth_node levels ws id two))
      (deeper id (low_of (get_or ws (id - 2) 0)) two known (nodes (id - 2) (known two)).low)

  pub known_high : (id : ℕ) → 2 ≤ id → IsKnown ws id → IsKnown ws (high_of (get_or ws (id - 2) 0))
  known_high id two known = λ more. ((nodes (id - 2) (known two)).high more).0

  pub known_low : (id : ℕ) → 2 ≤ id → IsKnown ws id → IsKnown ws (low_of (get_or ws (id - 2) 0))
  known_low id two known = λ more. ((nodes (id - 2) (known two)).low more).0

  -- enough steps are enough, and levels above don't matter
  pub value_same : (k k' id : ℕ) (t t' : ℕ → Bool) → IsKnown ws id → levels ≤ depth levels ws id + k → levels ≤ depth levels ws id + k' →
      ((j : ℕ) → depth levels ws id ≤ j → t j ≡ t' j)
      → value k ws id t ≡ value k' ws id t'
  value_same zero k' id t t' known h h' agree = ⊎_elim
      (λ (node : 2 ≤ id). let n = shallow id node known in absurd (omega arith))
      (λ (small : id < 2). value_terminal zero ws id t small ∙ sym (value_terminal k' ws id t' small))
      (le_or_lt 2 id)
  value_same (suc k) zero id t t' known h h' agree = ⊎_elim
      (λ (node : 2 ≤ id). let n = shallow id node known in absurd (omega arith))
      (λ (small : id < 2). value_terminal (suc k) ws id t small ∙ sym (value_terminal zero ws id t' small))
      (le_or_lt 2 id)
  value_same (suc k) (suc k') id t t' known h h' agree = ⊎_elim
      (λ (node : 2 ≤ id). let up = below_high id node known in let down = below_low id node known in
      let high : value k ws (high_of (get_or ws (id - 2) 0)) t ≡ value k' ws (high_of (get_or ws (id - 2) 0)) t' =
      value_same k k' (high_of (get_or ws (id - 2) 0)) t t' (known_high id node known) (omega arith) (omega arith) (λ j le. agree j (omega arith)) in
      let low : value k ws (low_of (get_or ws (id - 2) 0)) t ≡ value k' ws (low_of (get_or ws (id - 2) 0)) t' =
      value_same k k' (low_of (get_or ws (id - 2) 0)) t t' (known_low id node known) (omega arith) (omega arith) (λ j le. agree j (omega arith)) in
      let turn : t (level_of (get_or ws (id - 2) 0)) ≡ t' (level_of (get_or ws (id - 2) 0)) =
      agree (level_of (get_or ws (id - 2) 0)) (let e = depth_node levels ws id node in omega arith) in
      value_node k ws id t node ∙ ((λ i. if turn i then high i else low i) ∙ sym (value_node k' ws id t' node)))
      (λ (small : id < 2). value_terminal (suc k) ws id t small ∙ sym (value_terminal (suc k') ws id t' small))
      (le_or_lt 2 id)

  -- only the levels below the number of levels matter
  pub value_within : (k id : ℕ) (t t' : ℕ → Bool) → IsKnown ws id → ((j : ℕ) → j < levels → t j ≡ t' j) → value k ws id t ≡ value k ws id t'
  value_within zero id t t' known agree = refl
  value_within (suc k) id t t' known agree = ⊎_elim
      (λ (node : 2 ≤ id). let turn = agree (level_of (get_or ws (id - 2) 0)) (nodes (id - 2) (known node)).level in
      let high : value k ws (high_of (get_or ws (id - 2) 0)) t ≡ value k ws (high_of (get_or ws (id - 2) 0)) t' =
      value_within k (high_of (get_or ws (id - 2) 0)) t t' (known_high id node known) agree in
      let low : value k ws (low_of (get_or ws (id - 2) 0)) t ≡ value k ws (low_of (get_or ws (id - 2) 0)) t' =
      value_within k (low_of (get_or ws (id - 2) 0)) t t' (known_low id node known) agree in
      value_node k ws id t node ∙ ((λ i. if turn i then high i else low i) ∙ sym (value_node k ws id t' node)))
      (λ (small : id < 2). value_terminal (suc k) ws id t small ∙ sym (value_terminal (suc k) ws id t' small))
      (le_or_lt 2 id)

  -- a node has the value of the child that is taken
  pub value_child : (id : ℕ) (t : ℕ → Bool) → 2 ≤ id → IsKnown ws id
      → value levels ws id t ≡
      (if t (level_of (get_or ws (id - 2) 0)) then value levels ws (high_of (get_or ws (id - 2) 0)) t else value levels ws
      (low_of (get_or ws (id - 2) 0)) t)
  value_child id t node known = let here = shallow id node known in let up = below_high id node known in let down = below_low id node known in
      let n : ℕ = levels - 1 in let is : levels ≡ suc n = omega arith in
      let high : value n ws (high_of (get_or ws (id - 2) 0)) t ≡ value levels ws (high_of (get_or ws (id - 2) 0)) t =
      value_same n levels (high_of (get_or ws (id - 2) 0)) t t (known_high id node known) (omega arith) (omega arith) (λ j le. refl) in
      let low : value n ws (low_of (get_or ws (id - 2) 0)) t ≡ value levels ws (low_of (get_or ws (id - 2) 0)) t =
      value_same n levels (low_of (get_or ws (id - 2) 0)) t t (known_low id node known) (omega arith) (omega arith) (λ j le. refl) in
      ap (λ (k : ℕ). value k ws id t) is ∙ (value_node n ws id t node ∙ (λ i. if t (level_of (get_or ws (id - 2) 0)) then high i else low i))

  -- a function of the levels, with one level set
  with_level : (ℕ → Bool) → ℕ → Bool → ℕ → Bool
  with_level t l b j = if j == l then b else t j

  at_level : (t : ℕ → Bool) (l : ℕ) (b : Bool) → with_level t l b l ≡ b
  unfolding with_level
  at_level t l b = choose (l == l) b (t l) (eq-eqb l l refl)

  off_level : (t : ℕ → Bool) (l j : ℕ) (b : Bool) → j ≢ l → with_level t l b j ≡ t j
  unfolding with_level
  off_level t l j b ne = refuse (j == l) b (t j) (ne_eqb j l ne)

  -- a node at a point whose level is set is its child at the point
  child_high : (n id : ℕ) (t : ℕ → Bool) → levels ≡ suc n → 2 ≤ id → IsKnown ws id →
      value levels ws id (with_level t (depth levels ws id) true) ≡ value levels ws (high_of (get_or ws (id - 2) 0)) t
  child_high n id t is node known = let up = below_high id node known in let l = depth_node levels ws id node in
      let turn : with_level t (depth levels ws id) true (level_of (get_or ws (id - 2) 0)) ≡ true =
      ap (with_level t (depth levels ws id) true) (sym l)
      ∙ at_level t (depth levels ws id) true in
      ap (λ (k : ℕ). value k ws id (with_level t (depth levels ws id) true)) is ∙ (value_node n ws id (with_level t (depth levels ws id) true) node
      ∙ (choose (with_level t (depth levels ws id) true (level_of (get_or ws (id - 2) 0))) _ _ turn
      ∙ value_same n levels (high_of (get_or ws (id - 2) 0)) (with_level t (depth levels ws id) true) t (known_high id node known) (omega arith) (omega arith)
      (λ j le. off_level t (depth levels ws id) j true (λ e. omega arith))))

  child_low : (n id : ℕ) (t : ℕ → Bool) → levels ≡ suc n → 2 ≤ id → IsKnown ws id →
      value levels ws id (with_level t (depth levels ws id) false) ≡ value levels ws (low_of (get_or ws (id - 2) 0)) t
  child_low n id t is node known = let up = below_low id node known in let l = depth_node levels ws id node in
      let turn : with_level t (depth levels ws id) false (level_of (get_or ws (id - 2) 0)) ≡ false =
      ap (with_level t (depth levels ws id) false) (sym l)
      ∙ at_level t (depth levels ws id) false in
      ap (λ (k : ℕ). value k ws id (with_level t (depth levels ws id) false)) is ∙ (value_node n ws id (with_level t (depth levels ws id) false) node
      ∙ (refuse (with_level t (depth levels ws id) false (level_of (get_or ws (id - 2) 0))) _ _ turn
      ∙ value_same n levels (low_of (get_or ws (id - 2) 0)) (with_level t (depth levels ws id) false) t (known_low id node known) (omega arith) (omega arith)
      (λ j le. off_level t (depth levels ws id) j false (λ e. omega arith))))

  -- a level above an id doesn't matter to it
  above : (id l : ℕ) (t : ℕ → Bool) (b : Bool) → IsKnown ws id → l < depth levels ws id → value levels ws id (with_level t l b) ≡ value levels ws id t
  above id l t b known less = value_same levels levels id (with_level t l b) t known (omega arith) (omega arith) (λ j le. off_level t l j b (λ e. omega arith))

  pub deepest : (id : ℕ) → IsKnown ws id → depth levels ws id ≤ levels
  deepest id known =
      ⊎_elim (λ (node : 2 ≤ id). let n = shallow id node known in omega arith)
      (λ (small : id < 2). let e = depth_terminal levels ws id small in omega arith) (le_or_lt 2 id)

  is_node : (id : ℕ) → depth levels ws id < levels → 2 ≤ id
  is_node id less = ⊎_elim (λ (node : 2 ≤ id). node) (λ (small : id < 2). let e = depth_terminal levels ws id small in absurd (omega arith)) (le_or_lt 2 id)

  is_terminal : (id : ℕ) → IsKnown ws id → levels ≤ depth levels ws id → id < 2
  is_terminal id known most = ⊎_elim (λ (node : 2 ≤ id). let n = shallow id node known in absurd (omega arith)) (λ (small : id < 2). small) (le_or_lt 2 id)

  terminals : (a b : ℕ) → a < 2 → b < 2 → IsSame levels ws a b → a ≡ b
  terminals a b x y same = one_or_zero a b x y (sym (value_terminal levels ws a (λ j. true) x) ∙ (same (λ j. true) ∙ value_terminal levels ws b (λ j. true) y))

  -- the children of a node are different functions of an id below it: it is neither
  twice : (n a b : ℕ) → levels ≡ suc n → 2 ≤ a → IsKnown ws a → IsKnown ws b → depth levels ws a < depth levels ws b →
      IsSame levels ws a b → IsSame levels ws (low_of (get_or ws (a - 2) 0)) (high_of (get_or ws (a - 2) 0))
  twice n a b is node ka kb less same t =
      let l : ℕ = depth levels ws a in
      sym (child_low n a t is node ka)
      ∙ (same (with_level t l false)
      ∙ (above b l t false kb less
      ∙ (sym (above b l t true kb less) ∙ (sym (same (with_level t l true)) ∙ child_high n a t is node ka))))

  both_low : (n a b : ℕ) → levels ≡ suc n → 2 ≤ a → 2 ≤ b → IsKnown ws a → IsKnown ws b → depth levels ws a ≡ depth levels ws b →
      IsSame levels ws a b → IsSame levels ws (low_of (get_or ws (a - 2) 0)) (low_of (get_or ws (b - 2) 0))
  both_low n a b is na nb ka kb level same t =
      sym (child_low n a t is na ka)
      ∙ (same (with_level t (depth levels ws a) false)
      ∙ (ap (λ (l : ℕ). value levels ws b (with_level t l false)) level ∙ child_low n b t is nb kb))

  both_high : (n a b : ℕ) → levels ≡ suc n → 2 ≤ a → 2 ≤ b → IsKnown ws a → IsKnown ws b → depth levels ws a ≡ depth levels ws b →
      IsSame levels ws a b → IsSame levels ws (high_of (get_or ws (a - 2) 0)) (high_of (get_or ws (b - 2) 0))
  both_high n a b is na nb ka kb level same t =
      sym (child_high n a t is na ka)
      ∙ (same (with_level t (depth levels ws a) true)
      ∙ (ap (λ (l : ℕ). value levels ws b (with_level t l true)) level ∙ child_high n b t is nb kb))

  three : (a b : ℕ) → (a < b) ⊎ ((a ≡ b) ⊎ (b < a))
  three a b = grind arith

  apart : (f a b : ℕ) → IsKnown ws a → IsKnown ws b → levels ≤ depth levels ws a + suc f → depth levels ws a < depth levels ws b → IsSame levels ws a b
      → ((x y : ℕ) → IsKnown ws x → IsKnown ws y → levels ≤ depth levels ws x + f → levels ≤ depth levels ws y + f → IsSame levels ws x y → x ≡ y) → ⊥
  apart f a b ka kb ha less same again = let d = deepest b kb in let node : 2 ≤ a = is_node a (omega arith) in let n : ℕ = levels - 1 in
      let is : levels ≡ suc n = omega arith in
      let x : ℕ = get_or ws (a - 2) 0 in let low = below_low a node ka in let high = below_high a node ka in
      (nodes (a - 2) (ka node)).unequal
      (again (low_of x) (high_of x) (known_low a node ka) (known_high a node ka) (omega arith) (omega arith)
      (twice n a b is node ka kb less same))

  -- ids that mean the same are the same
  pub canonical : AreUnequal ws → (steps a b : ℕ) → IsKnown ws a → IsKnown ws b → levels ≤ depth levels ws a + steps →
      levels ≤ depth levels ws b + steps → IsSame levels ws a b → a ≡ b
  canonical unequal zero a b ka kb ha hb same = terminals a b (is_terminal a ka (omega arith)) (is_terminal b kb (omega arith)) same
  canonical unequal (suc f) a b ka kb ha hb same = ⊎_elim
      (λ (less : depth levels ws a < depth levels ws b). let d = deepest b kb in absurd (apart f a b ka kb ha less same (canonical unequal f)))
      (λ (rest : (depth levels ws a ≡ depth levels ws b) ⊎ (depth levels ws b < depth levels ws a)). ⊎_elim
      (λ (level : depth levels ws a ≡ depth levels ws b). ⊎_elim
      (λ (na : 2 ≤ a). let less = shallow a na ka in let nb : 2 ≤ b = is_node b (omega arith) in let n : ℕ = levels - 1 in
      let is : levels ≡ suc n = omega arith in
      let x : ℕ = get_or ws (a - 2) 0 in let y : ℕ = get_or ws (b - 2) 0 in
      let la = below_low a na ka in let lb = below_low b nb kb in let ua = below_high a na ka in let ub = below_high b nb kb in
      let low : low_of x ≡ low_of y =
      canonical unequal f (low_of x) (low_of y) (known_low a na ka) (known_low b nb kb) (omega arith) (omega arith)
      (both_low n a b is na nb ka kb level same) in
      let high : high_of x ≡ high_of y =
      canonical unequal f (high_of x) (high_of y) (known_high a na ka) (known_high b nb kb) (omega arith) (omega arith)
      (both_high n a b is na nb ka kb level same) in
      let l : level_of x ≡ level_of y = sym (depth_node levels ws a na) ∙ (level ∙ depth_node levels ws b nb) in
      let word : x ≡ y = (nodes (a - 2) (ka na)).word ∙ ((λ i. node_word (l i) (low i) (high i)) ∙ sym (nodes (b - 2) (kb nb)).word) in
      let place : a - 2 ≡ b - 2 = unequal (a - 2) (b - 2) (ka na) word in omega arith)
      (λ (ta : a < 2). let e = depth_terminal levels ws a ta in terminals a b ta (is_terminal b kb (omega arith)) same)
      (le_or_lt 2 a))
      (λ (less : depth levels ws b < depth levels ws a). absurd (apart f b a kb ka hb less (λ t. sym (same t)) (canonical unequal f))) rest)
      (three (depth levels ws a) (depth levels ws b))

  -- an id lies no higher than the levels on which its value depends
  pub no_higher : AreUnequal ws → (k id : ℕ) → IsKnown ws id → k ≤ levels
      → ((t t' : ℕ → Bool) → ((j : ℕ) → k ≤ j → t j ≡ t' j) → value levels ws id t ≡ value levels ws id t') → k ≤ depth levels ws id
  no_higher unequal k id known most same = ⊎_elim
      (λ (fine : k ≤ depth levels ws id). fine)
      (λ (higher : depth levels ws id < k). let node : 2 ≤ id = is_node id (omega arith) in let n : ℕ = levels - 1 in let is : levels ≡ suc n = omega arith in
      let l : ℕ = depth levels ws id in let x : ℕ = get_or ws (id - 2) 0 in
      let children : IsSame levels ws (low_of x) (high_of x) = (λ t. sym (child_low n id t is node known)
      ∙ (same (with_level t l false) (with_level t l true)
      (λ j le. off_level t l j false (λ e. omega arith) ∙ sym (off_level t l j true (λ e. omega arith)))
      ∙ child_high n id t is node known)) in
      absurd ((nodes (id - 2) (known node)).unequal
      (canonical unequal levels (low_of x) (high_of x) (known_low id node known) (known_high id node known) (omega arith) (omega arith)
      children)))
      (le_or_lt k (depth levels ws id))
