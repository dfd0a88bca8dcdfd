-- One swap more while a variable moves.
use Rattle.std.proofs.Common.{◌≡◌, ℕ, zero, suc, ◌+◌, ◌-◌, ◌<◌, ◌≤◌, Bool, true, false, cond, inl, inr, List, [], ◌∷◌, map, length, get_or, swap, slice_index, refl, sym, ap, ap₂, ◌∙◌, subst, arith, add-one, IsFalse, ltb}
use Rattle.std.specs.List.{insert, range_with_len}
use Rattle.std.proofs.lemmas.Bool.{cases_eq, lt-ltb, le-ltb}
use Rattle.definitions.specs.Functions.{Function}
use Rattle.definitions.specs.Pairs.{Keeps, has_pair}
use Rattle.definitions.specs.Problems.{functions}
use Rattle.definitions.specs.Levels.{size_under}
use Rattle.definitions.specs.Sifting.{smallest_of, smallest_order}
use Rattle.definitions.proofs.Lists.Swaps.{crossed, crossed_is, length_crossed}
use Rattle.sifting.specs.Managed.{Managed, size_of, IsManagedOrder}
use Rattle.sifting.specs.Moves.{Moves, IsMoved, FindsBest, PassesBetween, placed_from, size_at}
use Rattle.sifting.proofs.Placements.{crossed_up, crossed_down, length-placed, here, above_here}

pub moved_none : (place : ℕ) (m : Managed) → IsMoved place place m m
unfolding Moves
moved_none place m = record { moves = λ others x h e. e; functions_stay = refl; pairs_stay = refl; length_stays = refl }

swap_long : (order : List ℕ) (i : ℕ) → i + 1 < length order → length (swap order i (i + 1)) ≡ length order
swap_long order i h = ap length (crossed_is order i h) ∙ length_crossed order i

pub moved_up : (place other : ℕ) (from m to : Managed) → 0 < other → other < length from.order → place < length from.order → IsMoved place other from m →
    to.order ≡ swap m.order (other - 1) (other - 1 + 1) → to.problem ≡ m.problem → to.pairs ≡ m.pairs → IsMoved place (other - 1) from to
unfolding Moves
moved_up place other from m to some inside within moved e f g = grind (arith, length-placed, crossed_is, crossed, crossed_up, swap_long)

pub moved_down : (place other : ℕ) (from m to : Managed) → other + 1 < length from.order → place < length from.order → IsMoved place other from m →
    to.order ≡ swap m.order other (other + 1) → to.problem ≡ m.problem → to.pairs ≡ m.pairs → IsMoved place (other + 1) from to
unfolding Moves
moved_down place other from m to inside within moved e f g = grind (arith, length-placed, crossed_is, crossed, crossed_down, add-one, swap_long)

-- ---- the least size on the way

-- where a variable came to
module _ (m cur : Managed) (place q size : ℕ) (moved : IsMoved place q m cur) (ok : IsManagedOrder cur) (size_is : size ≡ size_of cur) where
  keeps_here : (others : List ℕ) (x : ℕ) → place ≤ length others → m.order ≡ insert others place x → Keeps m.pairs (insert others q x)
  unfolding Moves
  keeps_here others x h e = subst (Keeps m.pairs) (moved.moves others x h e) (subst (λ P. Keeps P cur.order) moved.pairs_stay ok.kept)

  size_here : (others : List ℕ) (x : ℕ) → place ≤ length others → m.order ≡ insert others place x → size ≡ size_at m others x q
  unfolding Moves
  size_here others x h e = size_is ∙ ap₂ (λ t o. size_under t.inputs (functions t) o) moved.functions_stay (moved.moves others x h e)

-- at the start
pub finds_first : (m : Managed) (place size : ℕ) → IsManagedOrder m → size ≡ size_of m → FindsBest m place place place place size
finds_first m place size ok e = grind (arith, size_here, moved_none, keeps_here)

-- one place lower
module _ (m cur : Managed) (place from to best least size : ℕ) (found : FindsBest m place from to best least)
    (moved : IsMoved place (to + 1) m cur) (ok : IsManagedOrder cur) (size_is : size ≡ size_of cur) where
  keeps_lower : (others : List ℕ) (x : ℕ) → place ≤ length others → m.order ≡ insert others place x → (i : ℕ) → from ≤ i → i ≤ to + 1 →
      Keeps m.pairs (insert others i x)
  keeps_lower others x h e i a b = grind (arith, cases_eq, keeps_here)

  pub finds_smaller : size < least → FindsBest m place from (to + 1) (to + 1) size
  finds_smaller lt = grind (arith, keeps_lower, size_here, cases_eq)

  -- no smaller size
  pub finds_same : least ≤ size → FindsBest m place from (to + 1) best least
  finds_same le = grind (arith, keeps_lower, cases_eq, size_here)

-- ---- the first of the smallest orders

module _ (n : ℕ) (F : List Function) (f : ℕ → List ℕ) where
  stays_first : (k a : ℕ) (first : List ℕ) → ((i : ℕ) → a ≤ i → i < a + k → size_under n F first ≤ size_under n F (f i)) →
      smallest_order n F first (map f (range_with_len a k)) ≡ first
  unfolding smallest_order
  stays_first zero a first h = refl
  stays_first (suc k) a first h =
      ap (λ c. smallest_order n F (cond c (f a) first) (map f (range_with_len (a + 1) k)))
      (le-ltb (size_under n F (f a)) (size_under n F first) (h a (omega arith) (omega arith)))
      ∙ stays_first k (a + 1) first (λ i l r. h i (omega arith) (omega arith))

  comes_first : (k a best : ℕ) (first : List ℕ) → a ≤ best → best < a + k → size_under n F (f best) < size_under n F first →
      ((i : ℕ) → a ≤ i → i < best → size_under n F (f best) < size_under n F (f i)) →
      ((i : ℕ) → a ≤ i → i < a + k → size_under n F (f best) ≤ size_under n F (f i)) →
      smallest_order n F first (map f (range_with_len a k)) ≡ f best
  unfolding smallest_order
  comes_first zero a best first le lt less above all = absurd (omega arith)
  comes_first (suc k) a best first le lt less above all =
      elim (cases_eq a best) [
        | inl e ↦
            let same = ap (λ i. size_under n F (f i)) e in
            ap (λ c. smallest_order n F (cond c (f a) first) (map f (range_with_len (a + 1) k)))
            (lt-ltb (size_under n F (f a)) (size_under n F first) (omega arith))
            ∙ stays_first k (a + 1) (f a) (λ i l r. let t = all i (omega arith) (omega arith) in omega arith) ∙ ap f e
        | inr ne ↦
            let far = above a (omega arith) (omega arith) in
            comes_first k (a + 1) best (cond (ltb (size_under n F (f a)) (size_under n F first)) (f a) first) (omega arith) (omega arith)
            (either (ltb (size_under n F (f a)) (size_under n F first)) far less) (λ i l r. above i (omega arith) r)
            (λ i l r. all i (omega arith) (omega arith))
      ]
    where
      either : (b : Bool) → size_under n F (f best) < size_under n F (f a) → size_under n F (f best) < size_under n F first →
          size_under n F (f best) < size_under n F (cond b (f a) first)
      either true x y = x
      either false x y = y

pub smallest_is : (m : Managed) (d : List ℕ) (place from to best least : ℕ) → FindsBest m place from to best least → (others : List ℕ) (x : ℕ) →
    place ≤ length others → m.order ≡ insert others place x →
    insert others best x ≡ smallest_of m.problem.inputs (functions m.problem) d (placed_from others x from to)
unfolding smallest_of
smallest_is m d place from to best least found others x h e =
    let n = m.problem.inputs in
    let F = functions m.problem in
    let f : ℕ → List ℕ = λ i. insert others i x in
    let above = found.above in
    let below = found.below in
    let k = to - from in
    let many : to + 1 - from ≡ suc k = omega arith in
    let is = found.size_is others x h e in
    let whole = ap (λ j. smallest_of n F d (map f (range_with_len from j))) many in
    let all : (i : ℕ) → from ≤ i → i ≤ to → size_under n F (f best) ≤ size_under n F (f i) =
    λ i l r. let t = found.smallest others x h e i l r in omega arith in
    let first : (i : ℕ) → from ≤ i → i < best → size_under n F (f best) < size_under n F (f i) =
    λ i l r. let t = found.uppermost others x h e i l r in omega arith in
    sym (whole ∙ elim (cases_eq best from) [
      | inl s ↦
          let same = ap (λ i. size_under n F (f i)) s in
          stays_first n F f k (from + 1) (f from) (λ i l r. let t = all i (omega arith) (omega arith) in omega arith) ∙ ap f (sym s)
      | inr ne ↦
          comes_first n F f k (from + 1) best (f from) (omega arith) (omega arith) (first from (omega arith) (omega arith))
          (λ i l r. first i (omega arith) r) (λ i l r. all i (omega arith) (omega arith))
    ])

-- ---- the way back

pub taken_out : (order : List ℕ) (i : ℕ) → i < length order → (others : List ℕ) × (x : ℕ) × (order ≡ insert others i x)
taken_out [] i h = absurd (omega arith)
taken_out (x ∷ order) zero h = (order, x, refl)
taken_out (x ∷ order) (suc i) h = let r = taken_out order i (omega arith) in (x ∷ r.0, r.1, ap (λ zs. x ∷ zs) r.2)

-- which variable it is, and which are the others
pub insert_tells : (others zs : List ℕ) (i x y : ℕ) → i ≤ length others → i ≤ length zs → insert others i x ≡ insert zs i y → (others ≡ zs) × (x ≡ y)
insert_tells others zs zero x y h k e = (cc, cc)
insert_tells [] zs (suc i) x y h k e = absurd (omega arith)
insert_tells (a ∷ others) [] (suc i) x y h k e = absurd (omega arith)
insert_tells (a ∷ others) (b ∷ zs) (suc i) x y h k e =
    let head : a ≡ b = cc in
    let tail : insert others i x ≡ insert zs i y = cc in
    let r = insert_tells others zs i x y (omega arith) (omega arith) tail in
    (ap₂ (λ c cs. c ∷ cs) head r.0, r.1)

pub lift_lawful : (m cur : Managed) (from to place : ℕ) → from < length m.order → place ≤ from → to < place → IsMoved from place m cur →
    PassesBetween m to from →
    IsFalse (has_pair cur.pairs (slice_index cur.order (place - 1)) (slice_index cur.order (place - 1 + 1)))
unfolding Moves
lift_lawful m cur from to place within le lt moved passes =
    let t = taken_out m.order from within in
    let zs = t.0 in
    let x = t.1 in
    let long = ap length t.2 ∙ length-placed zs x from in
    let i = place - 1 in
    let s : place ≡ suc i = omega arith in
    let at = moved.moves zs x (omega arith) t.2 in
    let upper : slice_index cur.order i ≡ slice_index zs i = ap (λ o. get_or o i 0) (at ∙ ap (λ k. insert zs k x) s) ∙ above_here zs x i (omega arith) in
    let k : i + 1 ≡ place = omega arith in
    let lower : slice_index cur.order (i + 1) ≡ x = ap (λ j. get_or cur.order j 0) k ∙ ap (λ o. get_or o place 0) at ∙ here zs x place (omega arith) in
    ap₂ (has_pair cur.pairs) upper lower ∙ ap (λ P. has_pair P (slice_index zs i) x) moved.pairs_stay
    ∙ passes zs x (omega arith) t.2 i (omega arith) (omega arith)
