-- The order that the cells give, and its level counts.
--     ReadTo t mask xs steps      what is read after some steps
--     read_start, read_some, read_next, read_whole      the steps
--     order_first, order_accepted      the order that is read
--     left order mask i      the set below the first i variables of an order
--     CountedTo, counted_start, counted_next      the level counts, as falls of the cost
use Rattle.std.proofs.Common.{◌≡◌, ℕ, zero, suc, ◌+◌, ◌-◌, ◌^◌, ◌<◌, ◌≤◌, inl, inr, true, List, [], ◌∷◌, ◌++◌, map, take, drop, length, get_or, refl, sym, ap, ap₂, ◌∙◌, subst, arith, cond, eq-eqb, ne_eqb}
use Rattle.std.specs.List.{range_with_len}
use Rattle.std.proofs.Math.Seq.{drop-cons}
use Rattle.std.proofs.Math.Nat.{two-pow-succ}
use Rattle.std.proofs.lemmas.Bool.{cases_eq}
use Rattle.std.proofs.lemmas.Cmp.{nat_eq_equiv}
use Rattle.std.proofs.lemmas.Map.Made.{length-from_same_keys}
use Rattle.std.proofs.lemmas.Nat.{zero_from_ones}
use Rattle.std.proofs.lemmas.List.{append_assoc, append-nil}
use Rattle.std.proofs.lemmas.List.FromFn.{length-range_with_len, map-range_with_len_more}
use Rattle.definitions.specs.Functions.{Function}
use Rattle.definitions.specs.Orders.{IsOrder, has, members, variables, without}
use Rattle.definitions.specs.Pairs.{Pair}
use Rattle.definitions.specs.Problems.{functions}
use Rattle.definitions.specs.Levels.{level_count, level_counts}
use Rattle.definitions.specs.Widths.{width, cost}
use Rattle.definitions.specs.declared.limits.LowerBound.{LowerBound}
use Rattle.definitions.specs.Cells.{cell_of, cell_cost, IsReadFrom, AreUnclipped}
use Rattle.definitions.specs.OrderFaults.{Accepts}
use Rattle.definitions.specs.Diagrams.{IsFirstKeeping}
use Rattle.definitions.proofs.Lists.Orders.{has_at}
use Rattle.definitions.proofs.Widths.Recurrence.{distinct_variables, distinct_without, length_without}
use Rattle.definitions.proofs.Bits.Masks.{distinct_members, members_without, members_full}
use Rattle.definitions.proofs.Widths.Cells.{members_zero, cell_member}
use Rattle.definitions.proofs.Precedence.MaskLaws.{member_bit}
use Rattle.definitions.proofs.Precedence.Greedy.{pow_le_bit}
use Rattle.definitions.proofs.Functions.Exchange.{above_width, level_lem}
use Rattle.definitions.proofs.Bits.Ones.{ones-members}
use Rattle.layer_core.specs.Instances.{InstanceOf, cell_for}
use Rattle.solutions.specs.Bounded.{IsBounded}
use Rattle.solutions.proofs.WithinBound.{read_first, read_unclipped}
use Rattle.definitions.proofs.Widths.SizeBounds.{order_length}

pub full_small : (n : ℕ) → 2 ^ n - 1 < 2 ^ n
full_small zero = omega arith
full_small (suc n) = let p = two-pow-succ n in let q = full_small n in omega (arith, p, q)

pub pow_some : (x : ℕ) → 0 < 2 ^ x
pow_some zero = omega arith
pow_some (suc x) = let p = two-pow-succ x in let q = pow_some x in omega (arith, p, q)

-- a set that has members
pub some_member : (n mask : ℕ) → 0 < length (members n mask) → (0 < mask) × (has (members n mask) (get_or (members n mask) 0 0) ≡ true)
some_member n mask lt = (
  elim (cases_eq mask 0) [
    | inl e ↦ absurd (let z = ap length (ap (members n) e ∙ members_zero n) in omega (arith, z, lt))
    | inr ne ↦ omega (arith, ne)
  ],
  has_at (members n mask) 0 lt,
)

-- a set without one of its members
pub less_member : (n mask x : ℕ) → has (members n mask) x ≡ true →
    (x < n) × ((2 ^ x ≤ mask) × (length (members n (mask - 2 ^ x)) + 1 ≡ length (members n mask)))
less_member n mask x h =
    let b = member_bit n mask x h in
    let one = length_without x (members n mask) (distinct_members n mask) h in
    let same : length (members n (mask - 2 ^ x)) ≡ length (without x (members n mask)) =
    length-from_same_keys nat_eq_equiv (members n (mask - 2 ^ x)) (without x (members n mask)) (distinct_members n (mask - 2 ^ x))
    (distinct_without x (members n mask) (distinct_members n mask)) (members_without n mask x h) in
    (b.0, (pow_le_bit mask x b.1, omega (arith, one, same)))

-- ---- reading

module _ (t : InstanceOf) where
  abbrev n : ℕ
  n = t.problem.inputs

  abbrev F : List Function
  F = functions t.problem

  abbrev P : List Pair
  P = t.pairs.pairs

  -- after some steps, whatever is read from the set that is left stands after what was read
  pub record ReadTo (mask : ℕ) (xs : List ℕ) (steps : ℕ) : Type 0 where
    pub small : mask < 2 ^ n
    pub left : length (members n mask) + steps ≡ n
    pub read : (rest : List ℕ) → IsReadFrom n F P t.lower_bound t.bound mask rest → IsReadFrom n F P t.lower_bound t.bound (2 ^ n - 1) (xs ++ rest)

  pub read_start : ReadTo (2 ^ n - 1) [] 0
  read_start = record {
    small = full_small n;
    left =
        (let same =
        length-from_same_keys nat_eq_equiv (members n (2 ^ n - 1)) (variables n) (distinct_members n (2 ^ n - 1)) (distinct_variables n)
        (members_full n) in
        let l = length-range_with_len 0 n in
        omega (arith, same, l));
    read = λ rest h. h;
  }

  module _ (mask : ℕ) (xs : List ℕ) (steps : ℕ) (r : ReadTo mask xs steps) where
    pub read_some : steps < n → 0 < mask
    read_some lt = (some_member n mask (let l = r.left in omega (arith, l, lt))).0

    -- the cell's variable is a member
    pub read_member : IsBounded t → steps < n → has (members n mask) (cell_for t mask).1 ≡ true
    read_member b lt =
        let m = some_member n mask (let l = r.left in omega (arith, l, lt)) in
        cell_member n F P b.order b.is_order b.keeps t.lower_bound t.bound mask (get_or (members n mask) 0 0) m.1

    pub read_next : (x : ℕ) → x ≡ (cell_for t mask).1 → has (members n mask) x ≡ true → ReadTo (mask - 2 ^ x) (xs ++ x ∷ []) (steps + 1)
    unfolding IsReadFrom
    read_next x is m =
        let k = less_member n mask x m in
        record {
          small = (let s = r.small in omega (arith, s));
          left = (let l = r.left in omega (arith, l, k.1.1));
          read = λ rest h. subst (λ (ys : List ℕ). IsReadFrom n F P t.lower_bound t.bound (2 ^ n - 1) ys) (sym (append_assoc xs (x ∷ []) rest))
              (r.read (x ∷ rest) (m, is, h));
        }

    pub read_whole : n ≤ steps → IsReadFrom n F P t.lower_bound t.bound (2 ^ n - 1) xs
    unfolding IsReadFrom
    read_whole le =
        let none : mask ≡ 0 = zero_from_ones mask (let o = ones-members n mask r.small in let l = r.left in omega (arith, o, l, le)) in
        subst (λ (ys : List ℕ). IsReadFrom n F P t.lower_bound t.bound (2 ^ n - 1) ys) (append-nil xs) (r.read [] none)

  -- ---- the order that is read

  module _ (b : IsBounded t) (order : List ℕ) (read : IsReadFrom n F P t.lower_bound t.bound (2 ^ n - 1) order) where
    pub order_first : IsFirstKeeping n F P order
    order_first = read_first n F P t.lower_bound t.bound b.order b.is_order b.keeps b.size order read

    pub order_unclipped : AreUnclipped n F P t.lower_bound t.bound (2 ^ n - 1) order
    order_unclipped = read_unclipped n F P t.lower_bound t.bound b.order b.is_order b.keeps b.size order read

    pub order_is : IsOrder n order
    order_is = order_first.fewest.is_order

    pub order_accepted : 1 ≤ n → n ≤ 16 → Accepts order
    order_accepted some few =
        let l = order_length n order order_is in
        record { some = omega (arith, l, some); few = omega (arith, l, few); order = subst (λ (k : ℕ). IsOrder k order) (sym l) order_is }

-- ---- level counts

-- the set below the first i variables of an order, from a set downward
unfoldable pub left : List ℕ → ℕ → ℕ → ℕ
left order mask zero = mask
left [] mask (suc i) = mask
left (x ∷ order) mask (suc i) = left order (mask - 2 ^ x) i

left_next : (order : List ℕ) (mask i : ℕ) → i < length order → left order mask (suc i) ≡ left order mask i - 2 ^ get_or order i 0
unfolding left
left_next [] mask i lt = absurd (omega arith)
left_next (x ∷ order) mask zero lt = refl
left_next (x ∷ order) mask (suc i) lt = left_next order (mask - 2 ^ x) i (omega arith)

module _ (n : ℕ) (F : List Function) (P : List Pair) (r : LowerBound) (bound : ℕ) where
  left_small : (order : List ℕ) (mask i : ℕ) → mask < 2 ^ n → left order mask i < 2 ^ n
  unfolding left
  left_small order mask zero h = h
  left_small [] mask (suc i) h = h
  left_small (x ∷ order) mask (suc i) h = left_small order (mask - 2 ^ x) i (omega arith)

  left_member : (order : List ℕ) (mask i : ℕ) → IsReadFrom n F P r bound mask order → i < length order →
      has (members n (left order mask i)) (get_or order i 0) ≡ true
  unfolding left IsReadFrom
  left_member [] mask i h lt = absurd (omega arith)
  left_member (x ∷ order) mask zero h lt = h.0
  left_member (x ∷ order) mask (suc i) h lt = left_member order (mask - 2 ^ x) i h.2 (omega arith)

  pub left_cost : (order : List ℕ) (mask i : ℕ) → IsReadFrom n F P r bound mask order → AreUnclipped n F P r bound mask order →
      i ≤ length order → cell_cost n F P r bound (left order mask i) ≡ cost n F (drop i order)
  unfolding left IsReadFrom AreUnclipped cell_cost cost
  left_cost [] mask zero h u le = ap (λ b. cond b 0 (cell_of n F P r bound mask).0) (eq-eqb mask 0 h)
  left_cost [] mask (suc i) h u le = absurd (omega arith)
  left_cost (x ∷ order) mask zero h u le =
      ap (λ b. cond b 0 (cell_of n F P r bound mask).0)
      (ne_eqb mask 0 (λ e. absurd (let k = less_member n mask x h.0 in let p = pow_some x in omega (arith, e, k.1.0, p)))) ∙ u.0
  left_cost (x ∷ order) mask (suc i) h u le = left_cost order (mask - 2 ^ x) i h.2 u.2 (omega arith)

-- an order at a place
split_at : (xs : List ℕ) (i : ℕ) → i < length xs → (take i xs ++ get_or xs i 0 ∷ drop (suc i) xs ≡ xs) × (length (take i xs) ≡ i)
split_at [] i lt = absurd (omega arith)
split_at (x ∷ xs) zero lt = (refl, refl)
split_at (x ∷ xs) (suc i) lt = let k = split_at xs i (omega arith) in (ap (λ ys. x ∷ ys) k.0, ap suc k.1)

level_is : (n : ℕ) (F : List Function) (order : List ℕ) (i : ℕ) → IsOrder n order → i < length order →
    level_count n F order i ≡ width n F (drop (suc i) order) (get_or order i 0)
level_is n F order i o lt =
    let s = split_at order i lt in
    let above = take i order in
    let x = get_or order i 0 in
    let below = drop (suc i) order in
    ap₂ (level_count n F) (sym s.0) (sym s.1) ∙ level_lem n F above x below ∙ above_width n F above x below (subst (λ (ys : List ℕ). IsOrder n ys) (sym s.0) o)

cost_at : (n : ℕ) (F : List Function) (order : List ℕ) (i : ℕ) → i < length order →
    cost n F (drop i order) ≡ width n F (drop (suc i) order) (get_or order i 0) + cost n F (drop (suc i) order)
unfolding cost
cost_at n F order i lt = ap (cost n F) (drop-cons order i 0 lt)

-- the first level counts, from the costs of the sets below
pub record CountedTo (t : InstanceOf) (order : List ℕ) (mask top : ℕ) (counts : List ℕ) (i : ℕ) : Type 0 where
  pub mask_is : mask ≡ left order (2 ^ t.problem.inputs - 1) i
  pub top_is : top ≡ cell_cost t.problem.inputs (functions t.problem) t.pairs.pairs t.lower_bound t.bound mask
  pub counts_are : counts ≡ map (level_count t.problem.inputs (functions t.problem) order) (range_with_len 0 i)

pub counted_start : (t : InstanceOf) (order : List ℕ) (mask top : ℕ) → mask ≡ 2 ^ t.problem.inputs - 1 →
    top ≡ cell_cost t.problem.inputs (functions t.problem) t.pairs.pairs t.lower_bound t.bound mask → CountedTo t order mask top [] 0
unfolding left
counted_start t order mask top e is = record { mask_is = e; top_is = is; counts_are = refl }

module _ (t : InstanceOf) (b : IsBounded t) (order : List ℕ)
    (read : IsReadFrom t.problem.inputs (functions t.problem) t.pairs.pairs t.lower_bound t.bound (2 ^ t.problem.inputs - 1) order) (mask top : ℕ)
    (counts : List ℕ) (i : ℕ) (c : CountedTo t order mask top counts i) where
  abbrev N : ℕ
  N = t.problem.inputs

  abbrev G : List Function
  G = functions t.problem

  abbrev full : ℕ
  full = 2 ^ N - 1

  pub counted_small : mask < 2 ^ N
  counted_small = subst (λ (m : ℕ). m < 2 ^ N) (sym c.mask_is) (left_small N G t.pairs.pairs t.lower_bound t.bound order full i (full_small N))

  module _ (x : ℕ) (lt : i < length order) (is : x ≡ get_or order i 0) where
    pub counted_member : has (members N mask) x ≡ true
    counted_member = ap₂ (λ m y. has (members N m) y) c.mask_is is ∙ left_member N G t.pairs.pairs t.lower_bound t.bound order full i read lt

    next_mask : mask - 2 ^ x ≡ left order full (suc i)
    next_mask = ap₂ (λ m y. m - 2 ^ y) c.mask_is is ∙ sym (left_next order full i lt)

    -- the cost falls by the level count
    pub counted_fall : (below : ℕ) → below ≡ cell_cost N G t.pairs.pairs t.lower_bound t.bound (mask - 2 ^ x) → top ≡ level_count N G order i + below
    counted_fall below e =
        let u = order_unclipped t b order read in
        let here = c.top_is ∙ ap (cell_cost N G t.pairs.pairs t.lower_bound t.bound) c.mask_is
        ∙ left_cost N G t.pairs.pairs t.lower_bound t.bound order full i read u (omega (arith, lt)) ∙ cost_at N G order i lt in
        let next = e ∙ ap (cell_cost N G t.pairs.pairs t.lower_bound t.bound) next_mask
        ∙ left_cost N G t.pairs.pairs t.lower_bound t.bound order full (suc i) read u (omega (arith, lt)) in
        let level = level_is N G order i (order_is t b order read) lt in
        omega (arith, here, next, level)

    pub counted_next : (below : ℕ) → below ≡ cell_cost N G t.pairs.pairs t.lower_bound t.bound (mask - 2 ^ x) →
        CountedTo t order (mask - 2 ^ x) below (counts ++ (top - below) ∷ []) (i + 1)
    counted_next below e =
        let fall = counted_fall below e in
        record {
          mask_is = next_mask ∙ ap (left order full) (let s : suc i ≡ i + 1 = omega arith in s);
          top_is = e;
          counts_are =
              ap₂ (λ (xs : List ℕ) (y : ℕ). xs ++ y ∷ []) c.counts_are
              (let s : top - below ≡ level_count N G order i = omega (arith, fall) in s)
              ∙ sym (map-range_with_len_more (level_count N G order) 0 i i (omega arith));
        }

pub counted_whole : (t : InstanceOf) (order : List ℕ) (mask top : ℕ) (counts : List ℕ) (i : ℕ) → CountedTo t order mask top counts i →
    i ≡ length order → counts ≡ level_counts t.problem.inputs (functions t.problem) order
unfolding level_counts
counted_whole t order mask top counts i c e = c.counts_are ∙ ap (λ k. map (level_count t.problem.inputs (functions t.problem) order) (range_with_len 0 k)) e
