-- The first order that keeps pairs, built from the top by the smallest variable that may stand there.
--     top_from, top_parts      the test of a top, on masks
--     some_top_below      a lawful set that isn't empty has a top
--     GreedyTo n P variables k remaining      the first k variables are those that greedy steps take, and remaining is what they leave
--     greedy_start, greedy_step, greedy_end      before the first step, one step more, after the last
use Rattle.std.proofs.Common.{◌≡◌, ℕ, suc, ◌+◌, ◌-◌, ◌^◌, ◌<◌, ◌≤◌, true, inl, inr, List, [], ◌∷◌, ◌++◌, length, take, set, refl, sym, ap, ◌∙◌, subst, arith, eqb, eq-eqb, pow_pos, append_assoc, append-nil, length-take-le}
use Rattle.std.specs.Int.{bit_at}
use Rattle.std.specs.List.{filter}
use Rattle.std.proofs.lemmas.Bool.{cases_lt}
use Rattle.std.proofs.lemmas.List.{nil_from_length, take_more_set, length-set}
use Rattle.std.proofs.lemmas.List.FromFn.{length-range_with_len}
use Rattle.std.proofs.lemmas.Cmp.{nat_eq_equiv}
use Rattle.std.proofs.lemmas.Map.Made.{length-from_same_keys}
use Rattle.std.proofs.lemmas.Nat.Bits.{bit_at_ones, bit_at_above}
use Rattle.definitions.specs.Orders.{has, variables, members, without, mask_of}
use Rattle.definitions.specs.OrderFaults.{IsInRange, Accepts}
use Rattle.definitions.specs.Pairs.{Pair, is_lawful, tops, IsGreedy, IsFirstOrder}
use Rattle.definitions.specs.KeptPairs.{CanBeKept}
use Rattle.definitions.proofs.Lists.Orders.{has_variables}
use Rattle.definitions.proofs.Widths.Recurrence.{distinct_without, length_without}
use Rattle.definitions.proofs.Bits.Masks.{distinct_members, members_without, members_full, mask_of_members}
use Rattle.definitions.proofs.Widths.Cells.{has_tops, members_zero}
use Rattle.definitions.proofs.Precedence.Lists.{lawful_from, lawful_same}
use Rattle.definitions.proofs.Precedence.Sets.{among_pair}
use Rattle.definitions.proofs.Precedence.Cycles.{acyclic_kept, greedy_is_first, some_top}
use Rattle.definitions.proofs.Lists.Accepted.{member_at}
use Rattle.definitions.proofs.Precedence.Masks.{some_bit, not_one_from_zero, below_at}
use Rattle.definitions.proofs.Precedence.MaskLaws.{member_bit, member_from}
use Rattle.definitions.proofs.Lists.Ranges.{filter_same}

-- ---- tops

pub pow_le_bit : (m x : ℕ) → bit_at m x ≡ 1 → 2 ^ x ≤ m
pow_le_bit m x e = grind arith

pub top_from : (n : ℕ) (P : List Pair) (mask x : ℕ) → x < n → bit_at mask x ≡ 1 → is_lawful P (members n (mask - 2 ^ x)) ≡ true →
    has (tops P (members n mask)) x ≡ true
top_from n P mask x h e l = grind (arith, member_from, has_tops, lawful_same, members_without)

pub top_parts : (n : ℕ) (P : List Pair) (mask x : ℕ) → has (tops P (members n mask)) x ≡ true →
    (has (members n mask) x ≡ true) × (is_lawful P (members n (mask - 2 ^ x)) ≡ true)
top_parts n P mask x h = grind (arith, has_tops, lawful_same, members_without)

pub some_top_below : (n : ℕ) (P : List Pair) (mask : ℕ) → CanBeKept n P → 0 < mask → mask < 2 ^ n → mask < 2 ^ 16 →
    is_lawful P (members n mask) ≡ true → (x : ℕ) × (x < n) × (has (tops P (members n mask)) x ≡ true)
some_top_below n P mask kept some h k l =
    let z = some_bit mask k (λ e. absurd (omega arith)) in
    let low : z.0 < n = elim (cases_lt z.0 n) [ inl lt ↦ lt | inr le ↦ absurd (not_one_from_zero mask z.0 (bit_at_above mask n z.0 h le) z.2) ] in
    let top = some_top P kept.acyclic (members n mask) z.0 (distinct_members n mask) (member_from n mask z.0 low z.2) l in
    (top.0, (member_bit n mask top.0 (top_parts n P mask top.0 top.1).0).0, top.1)

-- ---- step by step

-- the first k variables are those that greedy steps take, and remaining is the mask of the others
pub record GreedyTo (n : ℕ) (P : List Pair) (xs : List ℕ) (k remaining : ℕ) : Type 0 where
  pub small : remaining < 2 ^ n
  pub lawful : is_lawful P (members n remaining) ≡ true
  pub count : length (members n remaining) + k ≡ n
  pub steps : (rest : List ℕ) → IsGreedy n P remaining rest → IsGreedy n P (2 ^ n - 1) (take k xs ++ rest)
  pub long : length xs ≡ 16

filter_all : (xs : List ℕ) → filter (λ x. true) xs ≡ xs
filter_all [] = refl
filter_all (x ∷ xs) = ap (λ ys. x ∷ ys) (filter_all xs)

all_members : (n : ℕ) → members n (2 ^ n - 1) ≡ variables n
unfolding members
all_members n =
    filter_same (λ x. eqb (bit_at (2 ^ n - 1) x) 1) (λ x. true) (variables n)
    (λ x h. eq-eqb (bit_at (2 ^ n - 1) x) 1 (bit_at_ones n x ((has_variables n x).0 h)))
    ∙ filter_all (variables n)

pub greedy_start : (n : ℕ) (P : List Pair) (xs : List ℕ) → CanBeKept n P → length xs ≡ 16 → GreedyTo n P xs 0 (2 ^ n - 1)
greedy_start n P xs kept long = record {
  small = omega (arith, pow_pos n);
  lawful = lawful_from P (members n (2 ^ n - 1)) (λ p m h. members_full n p.1 ∙ (has_variables n p.1).1 (below_at n P kept.below p.0 p.1 (among_pair P p m)).1);
  count = omega (arith, ap length (all_members n) ∙ length-range_with_len 0 n);
  steps = λ rest g. g;
  long = long;
}

one_fewer : (n mask x : ℕ) → has (members n mask) x ≡ true → suc (length (members n (mask - 2 ^ x))) ≡ length (members n mask)
one_fewer n mask x h =
    let e = length-from_same_keys nat_eq_equiv (members n (mask - 2 ^ x)) (without x (members n mask)) (distinct_members n (mask - 2 ^ x))
    (distinct_without x (members n mask) (distinct_members n mask)) (members_without n mask x h) in
    ap suc e ∙ length_without x (members n mask) (distinct_members n mask) h

pub greedy_some : (n : ℕ) (P : List Pair) (xs : List ℕ) (k remaining : ℕ) → GreedyTo n P xs k remaining → k < n → 0 < remaining
greedy_some n P xs k remaining g h = elim (cases_lt 0 remaining) [
  | inl lt ↦ lt
  | inr le ↦ absurd (let z : remaining ≡ 0 = omega arith in omega (arith, ap length (ap (members n) z ∙ members_zero n)))
]

pub greedy_step : (n : ℕ) (P : List Pair) (xs : List ℕ) (k remaining x : ℕ) → GreedyTo n P xs k remaining → k < 16 →
    has (tops P (members n remaining)) x ≡ true →
    ((y : ℕ) → has (tops P (members n remaining)) y ≡ true → x ≤ y) → GreedyTo n P (set xs k x) (k + 1) (remaining - 2 ^ x)
unfolding IsGreedy
greedy_step n P xs k remaining x g h top smallest =
    let parts = top_parts n P remaining x top in
    record {
      small = omega arith;
      lawful = parts.1;
      count = omega (arith, one_fewer n remaining x parts.0);
      steps = λ rest r. subst (IsGreedy n P (2 ^ n - 1)) (regroup rest) (g.steps (x ∷ rest) (top, smallest, r));
      long = length-set xs k x ∙ g.long;
    }
  where
    regroup : (rest : List ℕ) → take k xs ++ x ∷ rest ≡ take (k + 1) (set xs k x) ++ rest
    regroup rest = sym (append_assoc (take k xs) (x ∷ []) rest) ∙ ap (λ ys. ys ++ rest) (sym (take_more_set xs k x (omega arith)))

pub greedy_end : (n : ℕ) (P : List Pair) (xs : List ℕ) (k remaining : ℕ) → CanBeKept n P → GreedyTo n P xs k remaining → n ≤ k → k ≤ n →
    IsFirstOrder n P (take n xs)
unfolding IsGreedy mask_of
greedy_end n P xs k remaining kept g h j =
    let e : k ≡ n = omega arith in
    let none = nil_from_length (members n remaining) (omega arith) in
    let empty : remaining ≡ 0 = sym (mask_of_members n remaining g.small) ∙ ap mask_of none in
    let got = subst (IsGreedy n P (2 ^ n - 1)) (append-nil (take k xs)) (g.steps [] empty) in
    let base = acyclic_kept n P kept.below kept.acyclic in
    greedy_is_first n P base.0 (take n xs) base.2.is_order base.2.kept (subst (λ (i : ℕ). IsGreedy n P (2 ^ n - 1) (take i xs)) e got)

-- the first order isn't refused
pub first_accepted : (n : ℕ) (P : List Pair) (xs : List ℕ) → CanBeKept n P → length xs ≡ 16 → IsFirstOrder n P (take n xs) → Accepts (take n xs)
first_accepted n P xs kept long first = grind (arith, length-take-le)

pub in_range : (xs : List ℕ) → Accepts xs → IsInRange xs
in_range xs a = record { some = a.some; few = a.few; below = λ k d h. member_at (length xs) xs k d a.order h }
