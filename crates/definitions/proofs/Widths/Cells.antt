-- What a cell says, within the bound and beyond it, and how it follows from the cells of smaller sets.
--     open_cell, closed_cell      a cell within the bound, and a clipped one
--     next_within      below the best top the set is within the bound, too
--     cell_from_is      the cell from the costs without one member and the widths
use Rattle.std.proofs.Common.{◌≡◌, ◌≢◌, ℕ, zero, suc, ◌+◌, ◌-◌, ◌^◌, ◌<◌, ◌≤◌, Bool, true, false, not, cond, ◌&&◌, inl, inr, List, [], ◌∷◌, map, length, refl, sym, ap, ◌∙◌, subst, arith, nat_eq, eqb, eqb-true, eq-eqb, ne_eqb, leb, leb-true, le-leb}
use Rattle.std.specs.Int.{bit_at}
use Rattle.std.specs.List.{filter, range_with_len}
use Rattle.std.proofs.lemmas.Nat.Bits.{bit_at-zero}
use Rattle.std.proofs.lemmas.Bool.{false≢true, cases_Bool, cases_lt, or_cases, or_left, and_parts, and_from, not_from_false}
use Rattle.definitions.specs.Functions.{Function}
use Rattle.definitions.specs.Orders.{has, IsOrder, variables, members, without}
use Rattle.definitions.specs.Pairs.{Pair, Keeps, is_lawful, tops}
use Rattle.definitions.specs.Widths.{least, least_with_top}
use Rattle.definitions.specs.LowerBounds.{nodes_above}
use Rattle.definitions.specs.declared.limits.LowerBound.{LowerBound}
use Rattle.definitions.specs.declared.limits.LowerBound.TheVariants.{Variables, Widths}
use Rattle.definitions.specs.Cells.{first_of, is_within, best_top, cell_of, cell_cost, AreForCell, candidates, asked, least_sum, has_room, cell_from}
use Rattle.definitions.proofs.Lists.Sets.{among_map, among_from_map}
use Rattle.definitions.proofs.Lists.Orders.{has_filter, has_range, has_variables}
use Rattle.definitions.proofs.Precedence.Lists.{lawful_same, lawful_whole, are_lawful_nil}
use Rattle.definitions.proofs.Widths.Recurrence.{IsLawfulSet, has_again, absent_without, distinct_without, least_of_lem, recurrence_le, recurrence_some, least_same, least-nil, has_among, among_has}
use Rattle.definitions.proofs.Bits.Masks.{has_members, distinct_members, members_without}
use Rattle.definitions.proofs.Widths.LowerBounds.{bounded_same, bounded_step}
use Rattle.definitions.proofs.Widths.Fewest.{ground}

-- ---- rising lists

-- each variable is below all later ones
abbrev pub IsRising : List ℕ → Type 0
IsRising [] = Unit {0}
IsRising (x ∷ xs) = ((y : ℕ) → has xs y ≡ true → x < y) × IsRising xs

rising_range : (k a : ℕ) → IsRising (range_with_len a k)
rising_range zero a = tt
rising_range (suc k) a = (λ y h. let s = (has_range k (a + 1) y).0 h in omega arith, rising_range k (a + 1))

pub rising_filter : (p : ℕ → Bool) (xs : List ℕ) → IsRising xs → IsRising (filter p xs)
rising_filter p [] r = tt
rising_filter p (x ∷ xs) r = grind (arith, has_filter, rising_filter p xs r.1)

pub rising_members : (n mask : ℕ) → IsRising (members n mask)
unfolding members
rising_members n mask = rising_filter (λ x. eqb (bit_at mask x) 1) (variables n) (rising_range n 0)

-- the first of a rising list is in it, and is its smallest
pub first_has : (xs : List ℕ) (z : ℕ) → has xs z ≡ true → has xs (first_of xs) ≡ true
first_has [] z h = absurd (false≢true h)
first_has (x ∷ xs) z h = or_left _ _ (eq-eqb x x refl)

pub first_le : (xs : List ℕ) (y : ℕ) → IsRising xs → has xs y ≡ true → first_of xs ≤ y
first_le [] y r h = absurd (false≢true h)
first_le (x ∷ xs) y r h = elim (or_cases (nat_eq y x) (has xs y) h) [ inl e ↦ omega (arith, eqb-true y x e) | inr k ↦ omega (arith, r.0 y k) ]

-- a member of a mask is a variable
pub member_below : (n mask x : ℕ) → has (members n mask) x ≡ true → x < n
member_below n mask x h = (has_variables n x).0 (and_parts (has (variables n) x) (eqb (bit_at mask x) 1) (sym (has_members n mask x) ∙ h)).0

-- ---- cells

module _ (n : ℕ) (F : List Function) (P : List Pair) (base : List ℕ) (o : IsOrder n base) (k : Keeps P base) where
  -- the members of a mask are variables
  pub lawful_members : (mask : ℕ) → is_lawful P (members n mask) ≡ true → IsLawfulSet P base (members n mask)
  lawful_members mask l = grind (arith, distinct_members, member_below)

  -- what stays of a mask without a member
  pub less_one : (mask x : ℕ) → has (members n mask) x ≡ true → is_lawful P (without x (members n mask)) ≡ true →
      (is_lawful P (members n (mask - 2 ^ x)) ≡ true) × (least n F P (members n (mask - 2 ^ x)) ≡ least n F P (without x (members n mask)))
  less_one mask x h l = grind (arith, lawful_same, members_without, lawful_members, least_same, distinct_without, distinct_members)

-- the test whether a set is within the bound, in its parts
pub within_parts : (n : ℕ) (F : List Function) (P : List Pair) (r : LowerBound) (bound : ℕ) (S : List ℕ) → is_within n F P r bound S ≡ true →
    (is_lawful P S ≡ true) × (least n F P S + nodes_above n F r S ≤ bound)
unfolding is_within
within_parts n F P r bound S h = grind arith

pub within_from : (n : ℕ) (F : List Function) (P : List Pair) (r : LowerBound) (bound : ℕ) (S : List ℕ) → is_lawful P S ≡ true →
    least n F P S + nodes_above n F r S ≤ bound → is_within n F P r bound S ≡ true
unfolding is_within
within_from n F P r bound S l h = and_from _ _ l (le-leb (least n F P S + nodes_above n F r S) bound h)

-- a cell within the bound
pub record IsOpenCell (n : ℕ) (F : List Function) (P : List Pair) (mask c x : ℕ) : Type 0 where
  pub cost : c ≡ least n F P (members n mask)
  pub member : has (members n mask) x ≡ true
  pub top : is_lawful P (without x (members n mask)) ≡ true
  pub best : least_with_top n F P (members n mask) x ≡ least n F P (members n mask)
  pub smallest : (y : ℕ) → has (members n mask) y ≡ true → is_lawful P (without y (members n mask)) ≡ true →
      least_with_top n F P (members n mask) y ≡ least n F P (members n mask) → x ≤ y

pub has_tops : (P : List Pair) (S : List ℕ) (y : ℕ) → has (tops P S) y ≡ (has S y && is_lawful P (without y S))
has_tops P S y = has_filter (λ x. is_lawful P (without x S)) S y

-- the members that give the least cost on top
abbrev pub bests : ℕ → List Function → List Pair → List ℕ → List ℕ
bests n F P S = filter (λ x. nat_eq (least_with_top n F P S x) (least n F P S)) (tops P S)

pub bests_parts : (n : ℕ) (F : List Function) (P : List Pair) (S : List ℕ) (y : ℕ) → has (bests n F P S) y ≡ true →
    (has S y ≡ true) × (is_lawful P (without y S) ≡ true) × (least_with_top n F P S y ≡ least n F P S)
bests_parts n F P S y h = grind (arith, has_filter)

pub bests_from : (n : ℕ) (F : List Function) (P : List Pair) (S : List ℕ) (y : ℕ) → has S y ≡ true → is_lawful P (without y S) ≡ true →
    least_with_top n F P S y ≡ least n F P S → has (bests n F P S) y ≡ true
bests_from n F P S y h l e = search (has_filter, and_from, eq-eqb)

pub rising_bests : (n : ℕ) (F : List Function) (P : List Pair) (mask : ℕ) → IsRising (bests n F P (members n mask))
rising_bests n F P mask = search (rising_filter, rising_members)

pub open_is : (n : ℕ) (F : List Function) (P : List Pair) (r : LowerBound) (bound mask : ℕ) → is_within n F P r bound (members n mask) ≡ true →
    cell_of n F P r bound mask ≡ (least n F P (members n mask), best_top n F P (members n mask))
unfolding cell_of
open_is n F P r bound mask h = ap (λ b. cond b (least n F P (members n mask), best_top n F P (members n mask)) (bound + 1, first_of (members n mask))) h

-- a clipped cell
pub closed_cell : (n : ℕ) (F : List Function) (P : List Pair) (r : LowerBound) (bound mask : ℕ) → is_within n F P r bound (members n mask) ≡ false →
    cell_of n F P r bound mask ≡ (bound + 1, first_of (members n mask))
unfolding cell_of
closed_cell n F P r bound mask h = ap (λ b. cond b (least n F P (members n mask), best_top n F P (members n mask)) (bound + 1, first_of (members n mask))) h

module _ (n : ℕ) (F : List Function) (P : List Pair) (base : List ℕ) (o : IsOrder n base) (k : Keeps P base) (r : LowerBound) (bound mask z : ℕ)
    (some : has (members n mask) z ≡ true) where
  pub open_cell : is_within n F P r bound (members n mask) ≡ true → IsOpenCell n F P mask (cell_of n F P r bound mask).0 (cell_of n F P r bound mask).1
  unfolding best_top
  open_cell h =
      let parts = within_parts n F P r bound (members n mask) h in
      let top = recurrence_some n F P base (ground n P base o k) (members n mask) z (lawful_members n F P base o k mask parts.0) some in
      let x = first_of (bests n F P (members n mask)) in
      let there =
      bests_parts n F P (members n mask) x
      (first_has (bests n F P (members n mask)) top.0 (bests_from n F P (members n mask) top.0 top.1 top.2 (sym top.3))) in
      let is : IsOpenCell n F P mask (least n F P (members n mask)) x = record {
        cost = refl;
        member = there.0;
        top = there.1;
        best = there.2;
        smallest = λ y m l e. first_le (bests n F P (members n mask)) y (rising_bests n F P mask) (bests_from n F P (members n mask) y m l e);
      } in
      subst (λ (c : ℕ × ℕ). IsOpenCell n F P mask c.0 c.1) (sym (open_is n F P r bound mask h)) is

  -- the variable of a cell is a member
  pub cell_member : has (members n mask) (cell_of n F P r bound mask).1 ≡ true
  cell_member = grind (arith, open_cell, closed_cell, first_has)

pub cell_cost_is : (n : ℕ) (F : List Function) (P : List Pair) (r : LowerBound) (bound mask : ℕ) → is_within n F P r bound (members n mask) ≡ true →
    (cell_of n F P r bound mask).0 ≡ least n F P (members n mask)
cell_cost_is n F P r bound mask h = ap (λ (c : ℕ × ℕ). c.0) (open_is n F P r bound mask h)

pub cell_top : (n : ℕ) (F : List Function) (P : List Pair) (base : List ℕ) (r : LowerBound) (bound mask z : ℕ) → IsOrder n base → Keeps P base →
    has (members n mask) z ≡ true → is_within n F P r bound (members n mask) ≡ true →
    (has (tops P (members n mask)) (cell_of n F P r bound mask).1 ≡ true)
    × (least_with_top n F P (members n mask) (cell_of n F P r bound mask).1 ≡ least n F P (members n mask))
cell_top n F P base r bound mask z o k m h = grind (arith, open_cell, has_tops)

pub cell_smallest : (n : ℕ) (F : List Function) (P : List Pair) (base : List ℕ) (r : LowerBound) (bound mask y : ℕ) → IsOrder n base → Keeps P base →
    is_within n F P r bound (members n mask) ≡ true →
    has (tops P (members n mask)) y ≡ true → least_with_top n F P (members n mask) y ≡ least n F P (members n mask) → (cell_of n F P r bound mask).1 ≤ y
cell_smallest n F P base r bound mask y o k h t e = grind (arith, has_tops, open_cell)

-- below a top of the least cost the set is within the bound, too
pub next_within : (n : ℕ) (F : List Function) (P : List Pair) (base : List ℕ) → IsOrder n base → Keeps P base → (r : LowerBound) (bound mask x : ℕ) →
    is_within n F P r bound (members n mask) ≡ true →
    has (members n mask) x ≡ true → is_lawful P (without x (members n mask)) ≡ true → least_with_top n F P (members n mask) x ≡ least n F P (members n mask) →
    is_within n F P r bound (members n (mask - 2 ^ x)) ≡ true
next_within n F P base o k r bound mask x h m l e =
    let parts = within_parts n F P r bound (members n mask) h in
    let rest = less_one n F P base o k mask x m l in
    within_from n F P r bound (members n (mask - 2 ^ x)) rest.0 (omega (
      arith,
      bounded_step n F r (without x (members n mask)) x (absent_without x (members n mask)) (member_below n mask x m),
      bounded_same n F r (x ∷ without x (members n mask)) (members n mask) (has_again x (members n mask) m),
      bounded_same n F r (members n (mask - 2 ^ x)) (without x (members n mask)) (members_without n mask x m),
    ))

-- ---- costs

filter_none : (p : ℕ → Bool) (xs : List ℕ) → ((y : ℕ) → p y ≡ false) → filter p xs ≡ []
filter_none p [] h = refl
filter_none p (x ∷ xs) h = ap (λ b. cond b (x ∷ filter p xs) (filter p xs)) (h x) ∙ filter_none p xs h

pub members_zero : (n : ℕ) → members n 0 ≡ []
unfolding members
members_zero n = filter_none (λ x. eqb (bit_at 0 x) 1) (variables n) (λ y. ap (λ b. eqb b 1) (bit_at-zero y))

pub cost_open : (n : ℕ) (F : List Function) (P : List Pair) (r : LowerBound) (bound mask : ℕ) → is_within n F P r bound (members n mask) ≡ true →
    cell_cost n F P r bound mask ≡ least n F P (members n mask)
unfolding cell_cost
cost_open n F P r bound mask h = grind (arith, members_zero, least-nil, open_is)

-- a cost that is not above the bound is the least cost of a lawful set
pub cost_known : (n : ℕ) (F : List Function) (P : List Pair) (r : LowerBound) (bound mask : ℕ) → cell_cost n F P r bound mask ≤ bound →
    (is_lawful P (members n mask) ≡ true) × (cell_cost n F P r bound mask ≡ least n F P (members n mask))
unfolding cell_cost
cost_known n F P r bound mask h = by (nat_eq mask 0) refl h
  where
    by : (b : Bool) → nat_eq mask 0 ≡ b → cond b 0 (cell_of n F P r bound mask).0 ≤ bound →
        (is_lawful P (members n mask) ≡ true) × (cond b 0 (cell_of n F P r bound mask).0 ≡ least n F P (members n mask))
    by true e le =
        let none = ap (members n) (eqb-true mask 0 e) ∙ members_zero n in
        (ap (is_lawful P) none ∙ lawful_whole P [] (are_lawful_nil P), sym (ap (least n F P) none ∙ least-nil n F P))
    by false e le =
        elim (cases_Bool (is_within n F P r bound (members n mask))) [
          | inl t ↦ ((within_parts n F P r bound (members n mask) t).0, ap (λ (c : ℕ × ℕ). c.0) (open_is n F P r bound mask t))
          | inr f ↦ absurd (omega (arith, ap (λ (c : ℕ × ℕ). c.0) (closed_cell n F P r bound mask f)))
        ]

-- ---- the cell from smaller sets

pub nonempty : (xs : List ℕ) → not (nat_eq (length xs) 0) ≡ true → (z : ℕ) × (has xs z ≡ true)
nonempty [] h = absurd (false≢true h)
nonempty (x ∷ xs) h = (x, or_left _ _ (eq-eqb x x refl))

-- a list that has something is not empty
pub some_length : (xs : List ℕ) (z : ℕ) → has xs z ≡ true → nat_eq (length xs) 0 ≡ false
some_length [] z h = absurd (false≢true h)
some_length (x ∷ xs) z h = ne_eqb (length (x ∷ xs)) 0 (λ e. omega arith)

never_empty : (xs : List ℕ) (z : ℕ) → has xs z ≡ true → not (nat_eq (length xs) 0) ≡ true
never_empty xs z h = not_from_false _ (some_length xs z h)

-- the candidates, and that their widths are taken
module _ (n bound mask : ℕ) (costs : ℕ → ℕ) where
  pub candidate_parts : (y : ℕ) → has (candidates n bound mask costs) y ≡ true → (has (members n mask) y ≡ true) × (costs y ≤ bound)
  unfolding candidates
  candidate_parts y h = grind (arith, has_filter)

  pub candidate_from : (y : ℕ) → has (members n mask) y ≡ true → costs y ≤ bound → has (candidates n bound mask costs) y ≡ true
  unfolding candidates
  candidate_from y h le = has_filter (λ x. leb (costs x) bound) (members n mask) y ∙ and_from _ _ h (le-leb (costs y) bound le)

  pub candidate_asked : (r : LowerBound) (y : ℕ) → has (members n mask) y ≡ true → costs y ≤ bound → has (asked n r bound mask costs) y ≡ true
  unfolding asked
  candidate_asked Variables y h le = candidate_from y h le
  candidate_asked Widths y h le =
      ap (λ b. has (cond b [] (members n mask)) y) (some_length (candidates n bound mask costs) y (candidate_from y h le)) ∙ h

  -- if the bound is by widths and there is a candidate, those of all members are taken
  pub all_asked : (r : LowerBound) (y : ℕ) → r ≡ Widths → has (members n mask) y ≡ true → costs y ≤ bound → (x : ℕ) → has (members n mask) x ≡ true →
      has (asked n r bound mask costs) x ≡ true
  unfolding asked
  all_asked Variables y is h le x m = absurd cc
  all_asked Widths y is h le x m =
      ap (λ b. has (cond b [] (members n mask)) x) (some_length (candidates n bound mask costs) y (candidate_from y h le)) ∙ m

module _ (n : ℕ) (F : List Function) (P : List Pair) (base : List ℕ) (o : IsOrder n base) (k : Keeps P base) (r : LowerBound) (bound mask : ℕ)
    (costs widths : ℕ → ℕ) (given : AreForCell n F P r bound mask costs widths) where
  -- the sum of a candidate is the least cost with it on top
  pub candidate_sum : is_lawful P (members n mask) ≡ true → (y : ℕ) → has (members n mask) y ≡ true → costs y ≤ bound →
      (is_lawful P (without y (members n mask)) ≡ true) × (costs y + widths y ≡ least_with_top n F P (members n mask) y)
      × (least n F P (members n mask) ≤ costs y + widths y)
  candidate_sum l y m le = grind (arith, cost_known, lawful_same, members_without, less_one, candidate_asked, recurrence_le, lawful_members)

  -- within the bound, a top of the least cost is a candidate
  pub best_candidate : is_within n F P r bound (members n mask) ≡ true → (y : ℕ) → has (members n mask) y ≡ true →
      is_lawful P (without y (members n mask)) ≡ true →
      least_with_top n F P (members n mask) y ≡ least n F P (members n mask) → costs y ≤ bound
  best_candidate h y m l e = grind (arith, next_within, within_parts, cost_open)

  -- a member whose sum is the least among the candidates', that is the smallest such, and that leaves room within the bound is the cell's
  pub found : (x : ℕ) → is_lawful P (members n mask) ≡ true → has (members n mask) x ≡ true → costs x ≤ bound →
      ((y : ℕ) → has (members n mask) y ≡ true → costs y ≤ bound → costs x + widths x ≤ costs y + widths y) →
      ((y : ℕ) → y < x → has (members n mask) y ≡ true → costs y ≤ bound → costs y + widths y ≢ costs x + widths x) →
      costs x + widths x + nodes_above n F r (members n mask) ≤ bound → cell_of n F P r bound mask ≡ (costs x + widths x, x)
  found x l m le least_one first room = grind (arith, candidate_sum, within_from, open_cell, best_candidate)

  -- where no candidate leaves room within the bound, the cell is clipped
  pub clipped : (z : ℕ) → has (members n mask) z ≡ true →
      (is_lawful P (members n mask) ≡ true → (y : ℕ) → has (members n mask) y ≡ true → costs y ≤ bound →
      bound < costs y + widths y + nodes_above n F r (members n mask)) →
      cell_of n F P r bound mask ≡ (bound + 1, first_of (members n mask))
  clipped z m none = grind (arith, within_parts, open_cell, best_candidate, candidate_sum, closed_cell)

  -- ---- the cell as a function of the costs and widths

  Sum : ℕ → ℕ
  Sum y = costs y + widths y

  -- the least sum is some candidate's, and no candidate's is less
  sum_lem : (z : ℕ) → has (candidates n bound mask costs) z ≡ true →
      ((y : ℕ) × (has (candidates n bound mask costs) y ≡ true) × (costs y + widths y ≡ least_sum n bound mask costs widths))
      × ((y : ℕ) → has (candidates n bound mask costs) y ≡ true → least_sum n bound mask costs widths ≤ costs y + widths y)
  unfolding least_sum Sum
  sum_lem z h =
      let all = least_of_lem (map Sum (candidates n bound mask costs)) (Sum z)
      (among_map Sum z (candidates n bound mask costs) (has_among (candidates n bound mask costs) z h)) in
      let from = among_from_map Sum (least_sum n bound mask costs widths) (candidates n bound mask costs) all.0 in (
        (from.0, among_has (candidates n bound mask costs) from.0 from.1, sym from.2),
        λ y m. all.1 (Sum y) (among_map Sum y (candidates n bound mask costs) (has_among (candidates n bound mask costs) y m)),
      )

  left : ℕ
  left = nodes_above n F r (members n mask)

  firsts : List ℕ
  firsts = filter (λ x. nat_eq (costs x + widths x) (least_sum n bound mask costs widths)) (candidates n bound mask costs)

  firsts_parts : (y : ℕ) → has firsts y ≡ true → (has (candidates n bound mask costs) y ≡ true) × (costs y + widths y ≡ least_sum n bound mask costs widths)
  unfolding firsts
  firsts_parts y h = grind (arith, has_filter)

  firsts_from : (y : ℕ) → has (candidates n bound mask costs) y ≡ true → costs y + widths y ≡ least_sum n bound mask costs widths → has firsts y ≡ true
  unfolding firsts
  firsts_from y h e = search (has_filter, and_from, eq-eqb)

  rising_firsts : IsRising firsts
  unfolding firsts candidates
  rising_firsts = search (rising_filter, rising_members)

  with_room : has_room n P bound left mask costs widths ≡ true → cell_of n F P r bound mask ≡ (least_sum n bound mask costs widths, first_of firsts)
  unfolding has_room left
  with_room h =
      let parts =
      and_parts (is_lawful P (members n mask))
      (not (nat_eq (length (candidates n bound mask costs)) 0) && leb (least_sum n bound mask costs widths + left) bound) h in
      let more = and_parts (not (nat_eq (length (candidates n bound mask costs)) 0)) (leb (least_sum n bound mask costs widths + left) bound) parts.1 in
      let le = leb-true (least_sum n bound mask costs widths + left) bound more.1 in
      let one = nonempty (candidates n bound mask costs) more.0 in
      let sums = sum_lem one.0 one.1 in
      grind (arith, firsts_parts, first_has, firsts_from, candidate_parts, found, candidate_from, first_le, rising_firsts)

  no_room : (z : ℕ) → has (members n mask) z ≡ true → has_room n P bound left mask costs widths ≡ false →
      cell_of n F P r bound mask ≡ (bound + 1, first_of (members n mask))
  unfolding has_room left
  no_room z m h = clipped z m (λ l y k c. elim (cases_lt bound (costs y + widths y + left)) [
    | inl lt ↦ lt
    | inr le ↦
        let there = candidate_from n bound mask costs y k c in
        grind (arith, sum_lem, never_empty)
  ])

  pub cell_from_is : (z : ℕ) → has (members n mask) z ≡ true →
      cell_from n P bound (nodes_above n F r (members n mask)) mask costs widths ≡ cell_of n F P r bound mask
  unfolding cell_from left firsts
  cell_from_is z m = grind (arith, with_room, no_room)
