-- The counts of a layer's sets.
--     counts_of_none      those of the empty set
--     below_from_layer      those of the layer below, for a set
--     counts_none, counts_between_more, counts_joined, whole_layer      counts of masks between two numbers
--     part_ordered, parts_all, parts_none      the first masks of parts
--     AreCountsTo given size k counts      those at the masks below k
--     counts_to_none, counts_to_one, counts_to_more, counts_to_all      at first, with the empty set, with one mask more, and at the end
use Rattle.std.proofs.Common.{◌≡◌, ℕ, zero, suc, ◌+◌, ◌-◌, ◌*◌, ◌^◌, ◌<◌, ◌≤◌, inl, inr, List, [], ◌∷◌, ◌++◌, length, length-append, get_or, slice_index_or, count_ones, Result, Ok, Err, IfOk, Vec, Global, refl, sym, ap, ◌∙◌, subst, arith}
use Rattle.std.specs.Int.{bit_at}
use Rattle.std.proofs.lemmas.Bool.{cases_lt}
use Rattle.std.proofs.lemmas.List.{get_or-append_right, get_or_append_left, get_or_past, get_or_push}
use Rattle.definitions.specs.Functions.{Function}
use Rattle.definitions.specs.Orders.{members}
use Rattle.definitions.specs.Pairs.{Pair}
use Rattle.definitions.specs.Problems.{functions}
use Rattle.definitions.specs.AllOrders.{ways}
use Rattle.definitions.proofs.Bits.Masks.{distinct_members}
use Rattle.definitions.proofs.Bits.Ones.{ones-members}
use Rattle.definitions.proofs.Precedence.MaskLaws.{member_from}
use Rattle.definitions.proofs.Widths.AllOrders.{members_less, members_none, ways_empty_more, ways_empty_zero}
use Rattle.definitions.proofs.Widths.Recurrence.{length_without}
use Rattle.order_counts.specs.declared.cost_counts.CostCounts.{CostCounts}
use Rattle.order_counts.specs.declared.set_counts.Recurrence.{Recurrence}
use Rattle.order_counts.specs.Sizes.{AreCountsBelow, AreCountsBetween, AreCountsInLayer, AreCountsOf, AreOfLayer, counts_at, first_of_part}
use Rattle.order_counts.proofs.Entries.{at_entry}

-- the empty set's one order, without nodes
pub counts_of_none : (n : ℕ) (F : List Function) (P : List Pair) (limit : ℕ) (s : CostCounts) → 0 < limit → s.least ≡ 0 → s.orders.items ≡ 1 ∷ [] →
    AreCountsOf n F P [] limit s
counts_of_none n F P limit s some least items = record {
  exact = exact;
  within = omega (arith, least, ap length items);
}
  where
    first : 0 - s.least ≡ 0
    first = omega arith

    exact : (c : ℕ) → c < limit → counts_at s c ≡ ways n F P [] c
    exact zero lt = at_entry s 0 (omega (arith, least)) ∙ ap (λ xs. get_or xs (0 - s.least) 0) items ∙ ap (λ k. get_or (1 ∷ []) k 0) first
        ∙ sym (ways_empty_zero n F P)
    exact (suc c) lt =
        at_entry s (suc c) (omega (arith, least)) ∙ ap (λ xs. get_or xs (suc c - s.least) 0) items
        ∙ get_or_past (1 ∷ []) (suc c - s.least) 0 (omega (arith, least)) ∙ sym (ways_empty_more n F P c)

-- a set without one of its members
one_less : (n set x : ℕ) → set < 2 ^ n → x < n → bit_at set x ≡ 1 → count_ones (set - 2 ^ x) + 1 ≡ count_ones set
one_less n set x within small bit =
    let member = member_from n set x small bit in
    omega (
      arith,
      ones-members n set within,
      ones-members n (set - 2 ^ x) (omega arith),
      ap length (members_less n set x member),
      length_without x (members n set) (distinct_members n set) member,
    )

pub below_from_layer : (given : Recurrence) (counts : List CostCounts) (set size : ℕ) → set < 2 ^ given.pairs.now.inputs → count_ones set ≡ size →
    0 < size → ((k : ℕ) → k + 1 ≡ size → AreCountsInLayer given k counts) → AreCountsBelow given counts set
below_from_layer given counts set size within ones some h =
    let layer = h (size - 1) (omega arith) in
    record {
      each = layer.each;
      are = λ x s small bit.
          layer.are (set - 2 ^ x) s (omega (arith, within)) (omega (arith, one_less given.pairs.now.inputs set x within small bit, ones));
    }

-- counts of masks up to a number, and from there on
pub counts_joined : (given : Recurrence) (size middle end : ℕ) (counts more : List CostCounts) → middle ≤ end →
    AreCountsBetween given size 0 middle counts → AreCountsBetween given size middle end more → AreCountsBetween given size 0 end (counts ++ more)
counts_joined given size middle end counts more le a b = record {
  each = length-append counts more ∙ (let x = a.each in let y = b.each in omega arith);
  are = λ set s low lt. elim (cases_lt set middle) [
    | inl below ↦
        subst (AreOfLayer given size set) (sym (get_or_append_left counts more s (set - 0) (let x = a.each in omega (arith, below, x))))
        (a.are set s low below)
    | inr from ↦
        subst (AreOfLayer given size set)
        (sym (get_or-append_right counts more (length counts) (set - 0) s refl (let x = a.each in omega (arith, from, x))
        ∙ ap (λ k. get_or more k s) (let x = a.each in let e : set - 0 - length counts ≡ set - middle = omega (arith, x) in e)))
        (b.are set s from lt)
  ];
}

pub counts_none : (given : Recurrence) (size first : ℕ) → AreCountsBetween given size first first []
counts_none given size first = record { each = omega arith; are = λ set s low lt. absurd (omega arith) }

-- one mask more
pub counts_between_more : (given : Recurrence) (size first set : ℕ) (counts : List CostCounts) (new : CostCounts) → first ≤ set →
    AreCountsBetween given size first set counts → AreOfLayer given size set new → AreCountsBetween given size first (set + 1) (counts ++ new ∷ [])
counts_between_more given size first set counts new le h is = record {
  each = length-append counts (new ∷ []) ∙ (let x = h.each in omega arith);
  are = λ m s low lt. elim (cases_lt m set) [
    | inl below ↦
        subst (AreOfLayer given size m) (sym (get_or_append_left counts (new ∷ []) s (m - first) (let x = h.each in omega (arith, below, x, low))))
        (h.are m s low below)
    | inr from ↦
        let e : m ≡ set = omega arith in
        subst (AreOfLayer given size m) (sym (get_or_push counts new s (m - first) (let x = h.each in omega (arith, x, e))))
        (subst (λ k. AreOfLayer given size k new) (sym e) is)
  ];
}

pub whole_layer : (given : Recurrence) (size end : ℕ) (counts : List CostCounts) → end ≡ 2 ^ given.pairs.now.inputs →
    AreCountsBetween given size 0 end counts → AreCountsInLayer given size counts
whole_layer given size end counts all h = record {
  each = h.each ∙ (let e : end - 0 ≡ 2 ^ given.pairs.now.inputs = omega (arith, all) in e);
  are = λ set s lt. subst (λ k. AreOfLayer given size set (slice_index_or counts k s)) (let e : set - 0 ≡ set = omega arith in e)
      (h.are set s (omega arith) (omega (arith, all)));
}

pub whole_if_ok : {E : Type 0} (given : Recurrence) (size end : ℕ) (r : Result (Vec CostCounts Global) E) → end ≡ 2 ^ given.pairs.now.inputs →
    IfOk r (λ counts. AreCountsBetween given size 0 end counts.items) → IfOk r (λ counts. AreCountsInLayer given size counts.items)
whole_if_ok given size end (Ok counts) all h = whole_layer given size end counts.items all h
whole_if_ok given size end (Err e) all h = tt

pub record AreCountsTo (given : Recurrence) (size k : ℕ) (counts : List CostCounts) : Type 0 where
  pub each : length counts ≡ k
  pub are : (set : ℕ) (s : CostCounts) → set < k → AreOfLayer given size set (slice_index_or counts set s)

pub counts_to_none : (given : Recurrence) (size : ℕ) → AreCountsTo given size 0 []
counts_to_none given size = record { each = refl; are = λ set s lt. absurd (omega arith) }

pub counts_to_more : (given : Recurrence) (size k : ℕ) (counts : List CostCounts) (new : CostCounts) → AreCountsTo given size k counts →
    AreOfLayer given size k new → AreCountsTo given size (k + 1) (counts ++ new ∷ [])
counts_to_more given size k counts new h is = record {
  each = length-append counts (new ∷ []) ∙ ap (λ m. m + 1) h.each;
  are = λ set s lt. elim (cases_lt set k) [
    | inl below ↦ subst (AreOfLayer given size set) (sym (get_or_append_left counts (new ∷ []) s set (omega (arith, h.each)))) (h.are set s below)
    | inr le ↦
        let e : set ≡ k = omega arith in
        subst (AreOfLayer given size set) (sym (get_or_push counts new s set (h.each ∙ sym e))) (subst (λ m. AreOfLayer given size m new) (sym e) is)
  ];
}

-- the empty set alone
pub counts_to_one : (given : Recurrence) (s : CostCounts) (items : List CostCounts) → items ≡ s ∷ [] →
    ((n : ℕ) (F : List Function) (P : List Pair) → AreCountsOf n F P [] (get_or given.limits.now 0 0) s) → AreCountsTo given 0 1 items
counts_to_one given s items is own =
    let n = given.pairs.now.inputs in
    let here = subst (λ S. AreCountsOf n (functions given.problem.now) given.pairs.now.pairs S (get_or given.limits.now 0 0) s) (sym (members_none n))
    (own n (functions given.problem.now) given.pairs.now.pairs) in
    subst (AreCountsTo given 0 1) (sym is) (counts_to_more given 0 0 [] s (counts_to_none given 0) (λ _. here))

pub counts_to_all : (given : Recurrence) (size k : ℕ) (counts : List CostCounts) → k ≡ 2 ^ given.pairs.now.inputs → AreCountsTo given size k counts →
    AreCountsInLayer given size counts
counts_to_all given size k counts all h = record { each = h.each ∙ all; are = λ set s lt. h.are set s (omega (arith, all)) }

-- parts of `step` masks each
pub part_ordered : (step sets part : ℕ) → first_of_part step sets part ≤ first_of_part step sets (part + 1)
part_ordered step sets part =
    let more : (part + 1) * step ≡ part * step + step = omega arith in
    omega (arith, more)

pub parts_all : (step sets parts : ℕ) → sets ≤ parts * step → first_of_part step sets parts ≡ sets
parts_all step sets parts le = omega (arith, le)

pub parts_none : (step sets : ℕ) → first_of_part step sets 0 ≡ 0
parts_none step sets = omega arith
