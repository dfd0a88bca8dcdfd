-- An order read off the clipped cells, from all variables downward, is the first one of the fewest nodes among those that keep the pairs.
--     FirstRead n F P mask order      what is read off is a lawful list of the members, of the least cost, and the first such
--     first_read, unclipped      reading gives that, and meets no clipped cell
--     clip      so from all variables it gives the first order
use Rattle.std.proofs.Common.{◌≡◌, ◌≢◌, ℕ, ◌-◌, ◌^◌, ◌<◌, true, cond, inl, inr, List, [], ◌∷◌, sym, ap, ap₂, ◌∙◌, subst, arith, nat_eq, eq-eqb, lt-ltb, le-ltb, nat_cmp, Less, Equal, Greater}
use Rattle.std.specs.Ordering.{ordering_then}
use Rattle.std.specs.Cmp.Lexicographic.{slice_cmp}
use Rattle.std.specs.List.{IsDistinct}
use Rattle.std.proofs.lemmas.Bool.{false≢true, cases_order}
use Rattle.definitions.specs.Functions.{Function}
use Rattle.definitions.specs.Orders.{has, IsOrder, variables, members, without}
use Rattle.definitions.specs.Pairs.{Pair, Keeps, is_lawful}
use Rattle.definitions.specs.Levels.{size_under}
use Rattle.definitions.specs.Widths.{cost, least, least_with_top}
use Rattle.definitions.specs.declared.limits.LowerBound.{LowerBound}
use Rattle.definitions.specs.Cells.{is_within, cell_of, IsReadFrom, AreUnclipped}
use Rattle.definitions.specs.Diagrams.{IsFirstKeeping}
use Rattle.definitions.proofs.Lists.Orders.{has_variables}
use Rattle.definitions.proofs.Precedence.Lists.{lawful_same, are_lawful_nil}
use Rattle.definitions.proofs.Functions.Exchange.{size_is_cost}
use Rattle.definitions.proofs.Bits.Masks.{members_without, members_full}
use Rattle.definitions.proofs.Widths.LowerBounds.{bounded_all}
use Rattle.definitions.proofs.Widths.Recurrence.{IsLawfulList, least_is_least, recurrence_le, least_same, cost_cons, lawful_cons, lawful_tail, lawful_behind, first_member, without_top}
use Rattle.definitions.proofs.Widths.Fewest.{ground, all_lawful, lawful_from_order, order_from_lawful, has_fewest_lem}
use Rattle.definitions.proofs.Widths.Cells.{IsOpenCell, open_cell, next_within, within_parts, within_from, lawful_members, less_one, members_zero}

-- what is read off is a lawful list of the members, of the least cost, and no other such list comes before it
pub record FirstRead (n : ℕ) (F : List Function) (P : List Pair) (mask : ℕ) (order : List ℕ) : Type 0 where
  pub is_lawful_list : IsLawfulList P (members n mask) order
  pub least_cost : cost n F order ≡ least n F P (members n mask)
  pub first : (other : List ℕ) → IsLawfulList P (members n mask) other → cost n F other ≡ least n F P (members n mask) → slice_cmp nat_cmp order other ≢ Greater

-- a lawful list of a set is one of any set with the same members
pub moved : (P : List Pair) (S T xs : List ℕ) → ((y : ℕ) → has S y ≡ has T y) → IsLawfulList P S xs → IsLawfulList P T xs
moved P S T xs h a = record { arrangement = record { members = λ y. a.arrangement.members y ∙ h y; once = a.arrangement.once }; lawful = a.lawful }

module _ (n : ℕ) (F : List Function) (P : List Pair) (base : List ℕ) (o : IsOrder n base) (k : Keeps P base) where
  -- another list of the least cost has a variable on top that gives it, too
  other_top : (mask y : ℕ) (ys : List ℕ) → is_lawful P (members n mask) ≡ true → IsLawfulList P (members n mask) (y ∷ ys) →
      cost n F (y ∷ ys) ≡ least n F P (members n mask) →
      (least_with_top n F P (members n mask) y ≡ least n F P (members n mask)) × (cost n F ys ≡ least n F P (without y (members n mask)))
  other_top mask y ys low a e =
      let set = lawful_members n F P base o k mask low in
      let tail = lawful_tail P y ys (members n mask) a in
      let l = lawful_behind P y ys (members n mask) a in
      let f = cost_cons n F (members n mask) y ys tail.arrangement in
      let g = (least_is_least n F P base (ground n P base o k) (without y (members n mask))
      (without_top n F P base (ground n P base o k) (members n mask) y set l)).no_less
      ys tail in
      grind (arith, recurrence_le)

  module _ (mask c x : ℕ) (low : is_lawful P (members n mask) ≡ true) (cell : IsOpenCell n F P mask c x) (order : List ℕ)
      (rest : FirstRead n F P (mask - 2 ^ x) order) where
    tail_is : IsLawfulList P (without x (members n mask)) order
    tail_is = moved P (members n (mask - 2 ^ x)) (without x (members n mask)) order (members_without n mask x cell.member) rest.is_lawful_list

    next_least : least n F P (members n (mask - 2 ^ x)) ≡ least n F P (without x (members n mask))
    next_least = (less_one n F P base o k mask x cell.member cell.top).1

    whole_cost : cost n F (x ∷ order) ≡ least n F P (members n mask)
    whole_cost =
        let a = cost_cons n F (members n mask) x order tail_is.arrangement in
        let b = rest.least_cost in
        let d = next_least in
        let e = cell.best in
        omega arith

    -- no such list comes before
    whole_first : (other : List ℕ) → IsLawfulList P (members n mask) other → cost n F other ≡ least n F P (members n mask) →
        slice_cmp nat_cmp (x ∷ order) other ≢ Greater
    whole_first [] a e = λ f. false≢true (a.arrangement.members x ∙ cell.member)
    whole_first (y ∷ ys) a e =
        elim (cases_order x y) [
          | inl s ↦ same_top s
          | inr d ↦ elim d [ inl lt ↦ above lt | inr gt ↦ absurd (below gt) ]
        ]
      where
        parts : (least_with_top n F P (members n mask) y ≡ least n F P (members n mask)) × (cost n F ys ≡ least n F P (without y (members n mask)))
        parts = other_top mask y ys low a e

        below : y < x → ⊥
        below lt = let s = cell.smallest y (first_member y ys (members n mask) a.arrangement) (lawful_behind P y ys (members n mask) a) parts.0 in omega arith

        above : x < y → slice_cmp nat_cmp (x ∷ order) (y ∷ ys) ≢ Greater
        above lt f =
            by (ap (λ r. ordering_then r (slice_cmp nat_cmp order ys))
            (ap (λ b. cond b Less (cond (nat_eq x y) Equal Greater)) (sym (lt-ltb x y lt))) ∙ f)
          where
            by : Less ≡ Greater → ⊥
            by g = cc

        same_top : x ≡ y → slice_cmp nat_cmp (x ∷ order) (y ∷ ys) ≢ Greater
        same_top s f =
            let is_equal : Equal ≡ nat_cmp x y =
            ap₂ (λ b d. cond b Less (cond d Equal Greater)) (sym (le-ltb x y (let t = s in omega arith))) (sym (eq-eqb x y s)) in
            let tail = lawful_tail P y ys (members n mask) a in
            let there =
            moved P (without y (members n mask)) (members n (mask - 2 ^ x)) ys
            (λ z. ap (λ v. has (without v (members n mask)) z) (sym s) ∙ sym (members_without n mask x cell.member z)) tail in
            let least_cost : cost n F ys ≡ least n F P (members n (mask - 2 ^ x)) = parts.1
            ∙ ap (λ v. least n F P (without v (members n mask))) (sym s) ∙ sym next_least in
            rest.first ys there least_cost (ap (λ r. ordering_then r (slice_cmp nat_cmp order ys)) is_equal ∙ f)

    step : FirstRead n F P mask (x ∷ order)
    step = record { is_lawful_list = lawful_cons P x order (members n mask) low cell.member tail_is; least_cost = whole_cost; first = whole_first }

  module _ (r : LowerBound) (bound : ℕ) where
    -- the cell of a set within the bound, at the variable that is read
    read_cell : (mask x : ℕ) → has (members n mask) x ≡ true → x ≡ (cell_of n F P r bound mask).1 →
        is_within n F P r bound (members n mask) ≡ true → IsOpenCell n F P mask (cell_of n F P r bound mask).0 x
    read_cell mask x m e h = subst (IsOpenCell n F P mask (cell_of n F P r bound mask).0) (sym e) (open_cell n F P base o k r bound mask x m h)

    pub first_read : (order : List ℕ) (mask : ℕ) → IsReadFrom n F P r bound mask order → is_within n F P r bound (members n mask) ≡ true →
        FirstRead n F P mask order
    unfolding IsReadFrom IsDistinct cost
    first_read [] mask none h = record {
      is_lawful_list = empty;
      least_cost = nothing;
      first = start;
    }
      where
        no_members : members n mask ≡ []
        no_members = ap (members n) none ∙ members_zero n

        empty : IsLawfulList P (members n mask) []
        empty = record { arrangement = record { members = λ y. ap (λ xs. has xs y) (sym no_members); once = tt }; lawful = are_lawful_nil P }

        nothing : cost n F [] ≡ least n F P (members n mask)
        nothing = let a = (least_is_least n F P base (ground n P base o k) (members n mask)
            (lawful_members n F P base o k mask (within_parts n F P r bound (members n mask) h).0)).no_less
            [] empty in
            omega arith

        start : (other : List ℕ) → IsLawfulList P (members n mask) other → cost n F other ≡ least n F P (members n mask) → slice_cmp nat_cmp [] other ≢ Greater
        start [] a e = λ f. cc
        start (x ∷ xs) a e = λ f. cc
    first_read (x ∷ order) mask (m, e, rest) h =
        let cell = read_cell mask x m e h in
        step mask (cell_of n F P r bound mask).0 x (within_parts n F P r bound (members n mask) h).0 cell order
        (first_read order (mask - 2 ^ x) rest (next_within n F P base o k r bound mask x h cell.member cell.top cell.best))

    -- no clipped cell is met
    pub unclipped : (order : List ℕ) (mask : ℕ) → IsReadFrom n F P r bound mask order → is_within n F P r bound (members n mask) ≡ true →
        AreUnclipped n F P r bound mask order
    unfolding IsReadFrom AreUnclipped
    unclipped [] mask none h = tt
    unclipped (x ∷ order) mask (m, e, rest) h =
        let cell = read_cell mask x m e h in
        let parts = within_parts n F P r bound (members n mask) h in
        let all = (first_read (x ∷ order) mask (m, e, rest) h).least_cost in
        let c = cell.cost in (
          omega arith,
          omega (arith, parts.1),
          unclipped order (mask - 2 ^ x) rest (next_within n F P base o k r bound mask x h cell.member cell.top cell.best),
        )

  -- all variables are within the size of an order that keeps the pairs
  pub full_within : (r : LowerBound) (other : List ℕ) → IsOrder n other → Keeps P other →
      is_within n F P r (size_under n F other) (members n (2 ^ n - 1)) ≡ true
  full_within r other p q =
      let all = all_lawful n P base o k in
      let low = lawful_same P (members n (2 ^ n - 1)) (variables n) (members_full n) ∙ all.lawful in
      let same = least_same n F P base (ground n P base o k) (members n (2 ^ n - 1)) (variables n)
      (lawful_members n F P base o k (2 ^ n - 1) low) all (members_full n) in
      let a = (least_is_least n F P base (ground n P base o k) (variables n) all).no_less other (lawful_from_order n P other p q) in
      grind (arith, within_from, size_is_cost, bounded_all, members_full, has_variables)

-- with the size of an order that keeps the pairs as the bound, the order that the cells give is the first one of the fewest nodes
pub clip : (n : ℕ) (F : List Function) (P : List Pair) (r : LowerBound) (other order : List ℕ) → IsOrder n other → Keeps P other →
    IsReadFrom n F P r (size_under n F other) (2 ^ n - 1) order → IsFirstKeeping n F P order
clip n F P r other order o k read =
    record {
      fewest = (has_fewest_lem n F P order).1 (record { is_order = is.0; kept = is.1; least_cost = got.least_cost ∙ all });
      first = λ rival h.
          let it = (has_fewest_lem n F P rival).0 h in
          got.first rival
          (moved P (variables n) (members n (2 ^ n - 1)) rival (λ y. sym (members_full n y))
          (lawful_from_order n P rival it.is_order it.kept))
          (it.least_cost ∙ sym all);
    }
  where
    within : is_within n F P r (size_under n F other) (members n (2 ^ n - 1)) ≡ true
    within = full_within n F P other o k r other o k

    got : FirstRead n F P (2 ^ n - 1) order
    got = first_read n F P other o k r (size_under n F other) order (2 ^ n - 1) read within

    is : IsOrder n order × Keeps P order
    is = order_from_lawful n P other o k order (moved P (members n (2 ^ n - 1)) (variables n) order (members_full n) got.is_lawful_list)

    all : least n F P (members n (2 ^ n - 1)) ≡ least n F P (variables n)
    all =
        least_same n F P other (ground n P other o k) (members n (2 ^ n - 1)) (variables n)
        (lawful_members n F P other o k (2 ^ n - 1) (within_parts n F P r (size_under n F other) (members n (2 ^ n - 1)) within).0)
        (all_lawful n P other o k) (members_full n)

-- and no clipped cell is met
pub clip_unclipped : (n : ℕ) (F : List Function) (P : List Pair) (r : LowerBound) (other order : List ℕ) → IsOrder n other → Keeps P other →
    IsReadFrom n F P r (size_under n F other) (2 ^ n - 1) order →
    AreUnclipped n F P r (size_under n F other) (2 ^ n - 1) order
clip_unclipped n F P r other order o k read =
    unclipped n F P other o k r (size_under n F other) order (2 ^ n - 1) read (full_within n F P other o k r other o k)
