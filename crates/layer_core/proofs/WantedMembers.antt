-- The members of a set whose widths its cell takes.
--     affordable_is      the mask that the code collects
--     AreCostsWithout n F P r bound mask costs      the costs of a set without each of its members
--     wanted_lawful, wanted_unlawful      the members whose widths are taken, of a lawful set and of another one
--     asked_some, asked_none, asked_variables      their mask, as the code finds it
--     needed_lawful, needed_unlawful      the mask of what is needed
--     wanted_bit, needed_ones, few_each      the bits of their mask, and how many it has
use Rattle.std.proofs.Common.{◌≡◌, ◌≢◌, ℕ, ◌-◌, ◌^◌, ◌<◌, ◌≤◌, Bool, true, false, cond, ◌&&◌, ◌||◌, List, [], ◌∷◌, map, length, refl, sym, ap, ◌∙◌, arith, eqb, eq-eqb, ne_eqb, leb, count_ones}
use Rattle.std.specs.Int.{bit_at}
use Rattle.std.specs.List.{filter, sum_by, IsDistinct}
use Rattle.std.proofs.lemmas.Nat.Bits.{bit_at-zero}
use Rattle.std.proofs.lemmas.Bool.{false≢true, and_parts, and_from, and_left, leb-true, le-leb}
use Rattle.std.proofs.lemmas.Cmp.{nat_eq_equiv}
use Rattle.std.proofs.lemmas.Map.Made.{length-from_same_keys}
use Rattle.std.proofs.lemmas.List.Sums.{sum-map}
use Rattle.std.proofs.Common.{nat_eq}
use Rattle.definitions.specs.Functions.{Function}
use Rattle.definitions.specs.Orders.{has, members, variables, without, mask_of}
use Rattle.definitions.specs.Pairs.{Pair, is_lawful, tops}
use Rattle.definitions.specs.Problems.{functions}
use Rattle.definitions.specs.declared.limits.LowerBound.{LowerBound}
use Rattle.definitions.specs.declared.limits.LowerBound.TheVariants.{Variables, Widths}
use Rattle.definitions.specs.Cells.{candidates, asked, open_tops, wanted, cell_cost}
use Rattle.definitions.proofs.Lists.Orders.{same_bool, has_filter}
use Rattle.definitions.proofs.Precedence.Lists.{lawful_same}
use Rattle.definitions.proofs.Bits.Problems.{MaskOfFirst, mask_of_passing}
use Rattle.definitions.proofs.Widths.Recurrence.{distinct_filter}
use Rattle.definitions.proofs.Bits.Masks.{distinct_members, members_without, members_small, bit-mask_of, members_mask_of, mask_of_members, mask_of_small}
use Rattle.definitions.proofs.Widths.Cells.{cost_known, members_zero}
use Rattle.definitions.proofs.Bits.Ones.{ones-members}
use Rattle.layer_core.specs.Instances.{InstanceOf}
use Rattle.layer_core.specs.Needs.{needed, width_count, widths_for}
use Rattle.layer_core.proofs.Filters.{filter_none, sum_map}
use Rattle.definitions.proofs.Lists.Ranges.{filter_at_most, filter_same, filter_twice}
use Rattle.definitions.proofs.Widths.Count.{wanted_few}
use Rattle.std.proofs.lemmas.List.FromFn.{length-range_with_len}

-- whether a variable is a member without which the cost is within the bound
pub is_affordable : (ℕ → ℕ) → ℕ → ℕ → ℕ → Bool
is_affordable costs bound mask x = eqb (bit_at mask x) 1 && leb (costs x) bound

pub affordable_is : (n : ℕ) (costs : ℕ → ℕ) (bound mask found : ℕ) → MaskOfFirst (is_affordable costs bound mask) n found →
    found ≡ mask_of (candidates n bound mask costs)
unfolding is_affordable candidates members
affordable_is n costs bound mask found m =
    mask_of_passing (is_affordable costs bound mask) n found m
    ∙ ap mask_of (sym (filter_twice (λ x. eqb (bit_at mask x) 1) (λ x. leb (costs x) bound) (variables n)))

pub affordable_yes : (costs : ℕ → ℕ) (bound mask x cost : ℕ) → bit_at mask x ≡ 1 → costs x ≡ cost → cost ≤ bound → is_affordable costs bound mask x ≡ true
unfolding is_affordable
affordable_yes costs bound mask x cost b e le = and_from _ _ (eq-eqb (bit_at mask x) 1 b) (le-leb (costs x) bound (omega arith))

pub affordable_dear : (costs : ℕ → ℕ) (bound mask x cost : ℕ) → costs x ≡ cost → bound < cost → is_affordable costs bound mask x ≡ false
unfolding is_affordable
affordable_dear costs bound mask x cost e lt = grind (arith, leb-true)

pub affordable_absent : (costs : ℕ → ℕ) (bound mask x : ℕ) → bit_at mask x ≢ 1 → is_affordable costs bound mask x ≡ false
unfolding is_affordable
affordable_absent costs bound mask x b = and_left _ _ (ne_eqb (bit_at mask x) 1 b)

-- the costs of a set without each of its members
abbrev pub AreCostsWithout : ℕ → List Function → List Pair → LowerBound → ℕ → ℕ → (ℕ → ℕ) → Type 0
AreCostsWithout n F P r bound mask costs = (x : ℕ) → has (members n mask) x ≡ true → costs x ≡ cell_cost n F P r bound (mask - 2 ^ x)

module _ (n : ℕ) (costs : ℕ → ℕ) (F : List Function) (P : List Pair) (r : LowerBound) (bound mask : ℕ) (are : AreCostsWithout n F P r bound mask costs) where
  abbrev S : List ℕ
  S = members n mask

  -- a member without which the cost is within the bound may stand on top
  top_is : (x : ℕ) → has S x ≡ true → cell_cost n F P r bound (mask - 2 ^ x) ≤ bound → is_lawful P (without x S) ≡ true
  top_is x m le = sym (lawful_same P (members n (mask - 2 ^ x)) (without x S) (members_without n mask x m)) ∙ (cost_known n F P r bound (mask - 2 ^ x) le).0

  both : (x : ℕ) → has S x ≡ true → is_lawful P S ≡ true →
      (is_lawful P (without x S) && (is_lawful P S && leb (cell_cost n F P r bound (mask - 2 ^ x)) bound)) ≡ leb (costs x) bound
  both x m low = grind (arith, same_bool, are x m, and_parts, and_from, top_is, leb-true)

  open_lawful : is_lawful P S ≡ true → open_tops n F P r bound mask ≡ candidates n bound mask costs
  unfolding open_tops candidates
  open_lawful low = filter_twice (λ x. is_lawful P (without x S)) (λ x. is_lawful P S && leb (cell_cost n F P r bound (mask - 2 ^ x)) bound) S
      ∙ filter_same (λ x. is_lawful P (without x S) && (is_lawful P S && leb (cell_cost n F P r bound (mask - 2 ^ x)) bound))
      (λ x. leb (costs x) bound) S (λ x m. both x m low)

-- the members whose widths a lawful set's cell takes, by the costs of the smaller sets
pub wanted_lawful : (n : ℕ) (costs : ℕ → ℕ) (F : List Function) (P : List Pair) (r : LowerBound) (bound mask : ℕ) →
    AreCostsWithout n F P r bound mask costs → is_lawful P (members n mask) ≡ true → wanted n F P r bound mask ≡ asked n r bound mask costs
unfolding wanted asked
wanted_lawful n costs F P Variables bound mask are low = open_lawful n costs F P Variables bound mask are low
wanted_lawful n costs F P Widths bound mask are low =
    ap (λ xs. cond (nat_eq (length xs) 0) [] (members n mask)) (open_lawful n costs F P Widths bound mask are low)

open_unlawful : (n : ℕ) (F : List Function) (P : List Pair) (r : LowerBound) (bound mask : ℕ) → is_lawful P (members n mask) ≡ false →
    open_tops n F P r bound mask ≡ []
unfolding open_tops
open_unlawful n F P r bound mask low =
    filter_none (λ x. is_lawful P (members n mask) && leb (cell_cost n F P r bound (mask - 2 ^ x)) bound) (tops P (members n mask))
    (λ x. and_left _ _ low)

pub wanted_unlawful : (n : ℕ) (F : List Function) (P : List Pair) (r : LowerBound) (bound mask : ℕ) → is_lawful P (members n mask) ≡ false →
    wanted n F P r bound mask ≡ []
unfolding wanted
wanted_unlawful n F P Variables bound mask low = open_unlawful n F P Variables bound mask low
wanted_unlawful n F P Widths bound mask low =
    ap (λ xs. cond (nat_eq (length xs) 0) [] (members n mask)) (open_unlawful n F P Widths bound mask low)

-- a mask of distinct variables is 0 just if there are none
mask_some : (xs : List ℕ) (x : ℕ) → IsDistinct nat_eq xs → has xs x ≡ true → mask_of xs ≢ 0
mask_some xs x d h e =
    let one : bit_at (mask_of xs) x ≡ 1 = bit-mask_of xs d x ∙ ap (λ b. cond b 1 0) h in
    let none : bit_at (mask_of xs) x ≡ 0 = ap (λ k. bit_at k x) e ∙ bit_at-zero x in
    omega (arith, one, none)

-- the mask of the members whose widths a cell takes, from that of those without which the cost is within the bound
module _ (n bound mask found : ℕ) (costs : ℕ → ℕ) (is : found ≡ mask_of (candidates n bound mask costs)) (small : mask < 2 ^ n) where
  -- what is taken, if the costs within the bound are of these members
  taken : List ℕ → List ℕ
  taken xs = cond (nat_eq (length xs) 0) [] (members n mask)

  taken_some : (xs : List ℕ) → candidates n bound mask costs ≡ xs → found ≢ 0 → mask_of (taken (candidates n bound mask costs)) ≡ mask
  unfolding mask_of taken
  taken_some [] e some = absurd (some (is ∙ ap mask_of e))
  taken_some (x ∷ xs) e some = grind (arith, taken, ne_eqb, mask_of_members)

  distinct_affordable : IsDistinct nat_eq (candidates n bound mask costs)
  unfolding candidates
  distinct_affordable = distinct_filter (λ x. leb (costs x) bound) (members n mask) (distinct_members n mask)

  taken_none : (xs : List ℕ) → candidates n bound mask costs ≡ xs → found ≡ 0 → mask_of (taken (candidates n bound mask costs)) ≡ found
  unfolding mask_of taken
  taken_none [] e none = ap (λ ys. mask_of (taken ys)) e ∙ sym none
  taken_none (x ∷ xs) e none =
      absurd
      (mask_some (candidates n bound mask costs) x distinct_affordable (ap (λ ys. has ys x) e ∙ ap (λ b. b || has xs x) (eq-eqb x x refl)) (sym is ∙ none))

  pub asked_some : found ≢ 0 → mask_of (asked n Widths bound mask costs) ≡ mask
  unfolding asked taken
  asked_some some = taken_some (candidates n bound mask costs) refl some

  pub asked_none : found ≡ 0 → mask_of (asked n Widths bound mask costs) ≡ found
  unfolding asked taken
  asked_none none = taken_none (candidates n bound mask costs) refl none

  pub asked_variables : mask_of (asked n Variables bound mask costs) ≡ found
  unfolding asked
  asked_variables = sym is

pub needed_lawful : (t : InstanceOf) (costs : ℕ → ℕ) (mask : ℕ) →
    AreCostsWithout t.problem.inputs (functions t.problem) t.pairs.pairs t.lower_bound t.bound mask costs →
    is_lawful t.pairs.pairs (members t.problem.inputs mask) ≡ true → mask_of (asked t.problem.inputs t.lower_bound t.bound mask costs) ≡ needed t mask
unfolding needed
needed_lawful t costs mask are low =
    ap mask_of (sym (wanted_lawful t.problem.inputs costs (functions t.problem) t.pairs.pairs t.lower_bound t.bound mask are low))

pub needed_unlawful : (t : InstanceOf) (mask : ℕ) → is_lawful t.pairs.pairs (members t.problem.inputs mask) ≡ false → 0 ≡ needed t mask
unfolding needed mask_of
needed_unlawful t mask low = sym (ap mask_of (wanted_unlawful t.problem.inputs (functions t.problem) t.pairs.pairs t.lower_bound t.bound mask low))

-- how many bits the mask of a list has
ones_mask_of : (n : ℕ) (xs : List ℕ) → IsDistinct nat_eq xs → ((y : ℕ) → has xs y ≡ true → y < n) → count_ones (mask_of xs) ≡ length xs
ones_mask_of n xs d small = ones-members n (mask_of xs) (mask_of_small n xs d small)
    ∙ length-from_same_keys nat_eq_equiv (members n (mask_of xs)) xs (distinct_members n (mask_of xs)) d (members_mask_of n xs d small)

module _ (n : ℕ) (F : List Function) (P : List Pair) (r : LowerBound) (bound mask : ℕ) where
  distinct_open : IsDistinct nat_eq (open_tops n F P r bound mask)
  unfolding open_tops
  distinct_open =
      distinct_filter _ (tops P (members n mask))
      (distinct_filter (λ x. is_lawful P (without x (members n mask))) (members n mask) (distinct_members n mask))

  open_member : (x : ℕ) → has (open_tops n F P r bound mask) x ≡ true → has (members n mask) x ≡ true
  unfolding open_tops
  open_member x h = grind (arith, and_parts, has_filter, n)

pub distinct_wanted : (n : ℕ) (F : List Function) (P : List Pair) (r : LowerBound) (bound mask : ℕ) → IsDistinct nat_eq (wanted n F P r bound mask)
unfolding wanted IsDistinct
distinct_wanted n F P r bound mask = grind (arith, n, distinct_open, distinct_members)

pub wanted_member : (n : ℕ) (F : List Function) (P : List Pair) (r : LowerBound) (bound mask x : ℕ) → has (wanted n F P r bound mask) x ≡ true →
    has (members n mask) x ≡ true
unfolding wanted
wanted_member n F P r bound mask x h = grind (arith, n, open_member, false≢true)

module _ (n : ℕ) (F : List Function) (P : List Pair) (r : LowerBound) (bound mask : ℕ) where
  pub wanted_ones : count_ones (mask_of (wanted n F P r bound mask)) ≡ length (wanted n F P r bound mask)
  wanted_ones =
      ones_mask_of n (wanted n F P r bound mask) (distinct_wanted n F P r bound mask) (λ y h. members_small n mask y (wanted_member n F P r bound mask y h))

  pub wanted_bit : (x : ℕ) → bit_at (mask_of (wanted n F P r bound mask)) x ≡ cond (has (wanted n F P r bound mask) x) 1 0
  wanted_bit x = bit-mask_of (wanted n F P r bound mask) (distinct_wanted n F P r bound mask) x

  pub bit_wanted : (x : ℕ) → bit_at (mask_of (wanted n F P r bound mask)) x ≡ 1 → has (wanted n F P r bound mask) x ≡ true
  bit_wanted x e = grind (arith, n, wanted_bit)

pub needed_ones : (t : InstanceOf) (mask : ℕ) → count_ones (needed t mask) ≡ width_count t mask
unfolding needed
needed_ones t mask = wanted_ones t.problem.inputs (functions t.problem) t.pairs.pairs t.lower_bound t.bound mask

-- the empty set takes none
open_none : (n : ℕ) (F : List Function) (P : List Pair) (r : LowerBound) (bound : ℕ) → open_tops n F P r bound 0 ≡ []
unfolding open_tops
open_none n F P r bound = ap (λ S. filter (λ x. is_lawful P (members n 0) && leb (cell_cost n F P r bound (0 - 2 ^ x)) bound) (tops P S)) (members_zero n)

pub wanted_none : (n : ℕ) (F : List Function) (P : List Pair) (r : LowerBound) (bound : ℕ) → wanted n F P r bound 0 ≡ []
unfolding wanted
wanted_none n F P Variables bound = open_none n F P Variables bound
wanted_none n F P Widths bound = ap (λ xs. cond (nat_eq (length xs) 0) [] (members n 0)) (open_none n F P Widths bound)

-- and no set takes more than there are variables
pub few_each : (t : InstanceOf) (mask : ℕ) → t.problem.inputs ≤ 16 → width_count t mask ≤ 16
unfolding members
few_each t mask few = grind (arith, wanted_few, filter_at_most, length-range_with_len)
