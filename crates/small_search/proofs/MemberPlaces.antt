-- Members of a set and how many stand above each: its place in the set's values.
--     member_parts      the members below one, it, and the others
--     member_at      where it stands among the members
--     members_none, members_next      the members below 0; below one more variable
--     next_stands, counted      where the next member stands, and what is asked to count what depends on it
--     width_of_values      a width is how many of the values that occur depend on the variable's place
use Rattle.std.proofs.Common.{◌≡◌, ℕ, zero, suc, ◌+◌, ◌-◌, ◌^◌, ◌<◌, ◌≤◌, Bool, true, false, cond, ◌&&◌, List, [], ◌∷◌, ◌++◌, length, get_or, count_ones, refl, sym, ap, ◌∙◌, subst, arith, eqb, eq-eqb, nat_eq}
use Rattle.std.specs.Int.{bit_at}
use Rattle.std.specs.List.{filter, range_with_len}
use Rattle.std.proofs.lemmas.List.{length-append}
use Rattle.std.proofs.lemmas.List.Elements.{filter-append}
use Rattle.std.proofs.lemmas.Nat.Bits.{shr_and_one}
use Rattle.definitions.specs.Orders.{has, members, without}
use Rattle.definitions.specs.Problems.{functions}
use Rattle.definitions.specs.Widths.{width}
use Rattle.definitions.proofs.Bits.LowerBounds.{members_gap}
use Rattle.definitions.proofs.Bits.Ones.{ones-members}
use Rattle.definitions.proofs.Precedence.Masks.{bit_inside}
use Rattle.definitions.proofs.Lists.Ranges.{range_append}
use Rattle.definitions.proofs.Lists.Sets.{among_from_member, nat_decides}
use Rattle.subset_layers.proofs.CostLists.{bit_from_member}
use Rattle.subfunction_classes.specs.Table.{ClassesOf, set_of}
use Rattle.small_search.specs.Counting.{AreOccurring, dependents_in, is_dependent_in}
use Rattle.small_search.specs.Occurrences.{AreOf, CanBeCounted, IsAtPlace}
use Rattle.small_search.specs.declared.width_counts.Subfunctions.{Subfunctions}
use Rattle.small_search.specs.declared.width_counts.Subfunctions.TheVariants.{Values, Classes}
use Rattle.small_search.specs.Values.{mask_over, places, size_of, set_values}
use Rattle.small_search.proofs.ValuePlaces.{place_bit, places_more}
use Rattle.small_search.proofs.ValueSets.{shifted}
use Rattle.small_search.proofs.ValueSteps.{among_at, fresh_members, told_of, values_below}
use Rattle.small_search.proofs.ValueWidths.{is_counted, width_by_values}

module _ (set : ℕ) where
  test : ℕ → Bool
  test y = eqb (bit_at set y) 1

  split : (n x : ℕ) → x < n → members n set ≡ members x set ++ filter (λ y. eqb (bit_at set y) 1) (x ∷ range_with_len (x + 1) (n - suc x))
  unfolding members
  split n x lt =
      let e : n ≡ x + suc (n - suc x) = omega (arith, lt) in
      ap (λ k. filter (λ y. eqb (bit_at set y) 1) (range_with_len 0 k)) e
      ∙ ap (filter (λ y. eqb (bit_at set y) 1)) (range_append 0 x (suc (n - suc x)))
      ∙ filter-append (λ y. eqb (bit_at set y) 1) (range_with_len 0 x) (range_with_len (0 + x) (suc (n - suc x)))
      ∙ ap (λ a. filter (λ y. eqb (bit_at set y) 1) (range_with_len 0 x) ++ filter (λ y. eqb (bit_at set y) 1) (a ∷ range_with_len (a + 1) (n - suc x)))
      (let f : 0 + x ≡ x = omega arith in f)

  pub member_parts : (n x : ℕ) → x < n → bit_at set x ≡ 1 →
      members n set ≡ members x set ++ x ∷ filter (λ y. eqb (bit_at set y) 1) (range_with_len (x + 1) (n - suc x))
  member_parts n x lt bit =
      split n x lt
      ∙ ap (λ b. members x set ++ cond b (x ∷ filter (λ y. eqb (bit_at set y) 1) (range_with_len (x + 1) (n - suc x)))
      (filter (λ y. eqb (bit_at set y) 1) (range_with_len (x + 1) (n - suc x)))) (eq-eqb (bit_at set x) 1 bit)

  at_seam : (xs ys : List ℕ) (x : ℕ) → get_or (xs ++ x ∷ ys) (length xs) 0 ≡ x
  at_seam [] ys x = refl
  at_seam (z ∷ xs) ys x = at_seam xs ys x

  pub member_at : (n x : ℕ) → x < n → bit_at set x ≡ 1 → get_or (members n set) (length (members x set)) 0 ≡ x
  member_at n x lt bit =
      ap (λ us. get_or us (length (members x set)) 0) (member_parts n x lt bit)
      ∙ at_seam (members x set) (filter (λ y. eqb (bit_at set y) 1) (range_with_len (x + 1) (n - suc x))) x

  pub members_none : length (members 0 set) ≡ 0
  unfolding members
  members_none = refl

  one_less : (x : ℕ) → x + 1 - suc x ≡ 0
  one_less x = omega arith

  pub members_next : (x : ℕ) → bit_at set x ≡ 1 → length (members (x + 1) set) ≡ length (members x set) + 1
  members_next x bit =
      ap length (member_parts (x + 1) x (omega arith) bit)
      ∙ length-append (members x set) (x ∷ filter (λ y. eqb (bit_at set y) 1) (range_with_len (x + 1) (x + 1 - suc x)))
      ∙ ap (λ k. length (members x set) + suc (length (filter (λ y. eqb (bit_at set y) 1) (range_with_len (x + 1) k)))) (one_less x)

-- a value over fewer variables, as one over three
up_to_three : (k v j : ℕ) → k ≤ 3 → v < 2 ^ 2 ^ k → j < k → bit_at (places 3 v) j ≡ bit_at (places k v) j
up_to_three zero v j few small l = absurd (omega (arith, l))
up_to_three (suc zero) v j few small l = places_more 2 v j (omega (arith, small)) (omega (arith, l)) ∙ places_more 1 v j small l
up_to_three (suc (suc zero)) v j few small l = places_more 2 v j small l
up_to_three (suc (suc (suc zero))) v j few small l = refl
up_to_three (suc (suc (suc (suc k)))) v j few small l = absurd (omega (arith, few))

few_values : (k : ℕ) → k ≤ 3 → 2 ^ 2 ^ k ≤ 256
few_values zero l = omega arith
few_values (suc zero) l = omega arith
few_values (suc (suc zero)) l = omega arith
few_values (suc (suc (suc zero))) l = omega arith
few_values (suc (suc (suc (suc k)))) l = absurd (omega (arith, l))

pub width_of_values : (t : ClassesOf) (occurring : List ℕ) (x place : ℕ) → count_ones t.set ≤ 3 → AreOccurring (set_values t.problem t.set) occurring →
    IsAtPlace t x place → dependents_in occurring place ≡ width t.problem.inputs (functions t.problem) (without x (set_of t)) x
unfolding dependents_in
width_of_values t occurring x place few are at =
    shifted (is_dependent_in occurring place) (is_counted S vs x) 256 0 0
    (λ i l. ap (is_dependent_in occurring place) (let e : 0 + i ≡ i = omega arith in e) ∙ each i l
    ∙ ap (is_counted S vs x) (let e : i ≡ 0 + i = omega arith in e))
    ∙ sym (width_by_values n (functions t.problem) S x 256 at.inside (told_of t.problem t.set)
    (subst (λ (k : ℕ). 2 ^ 2 ^ k ≤ 256) size (few_values (count_ones t.set) few)) at.member)
  where
    n : ℕ
    n = t.problem.inputs

    S : List ℕ
    S = members t.problem.inputs t.set

    vs : List ℕ
    vs = set_values t.problem t.set

    size : count_ones t.set ≡ length S
    size = ones-members t.problem.inputs t.set at.within

    stands : get_or S (length S - 1 - place) 0 ≡ x
    stands =
        ap (λ i. get_or S i 0) (let a = at.above in let e : length S - 1 - place ≡ length (members x t.set) = omega (arith, a) in e)
        ∙ member_at t.set t.problem.inputs x at.inside (sym (shr_and_one t.set x) ∙ bit_from_member t.problem.inputs t.set x at.member)

    bits : (v : ℕ) → has vs v ≡ true → bit_at (places 3 v) place ≡ bit_at (mask_over S v) x
    bits v h =
        let s = among_at vs v (among_from_member nat_eq nat_decides vs v h) in
        let small = subst (λ (u : ℕ). u < size_of S) s.2 (values_below t.problem t.set s.0 s.1) in
        let a = at.above in
        let inside : place < length S = omega (arith, a) in
        up_to_three (length S) v place (omega (arith, few, size)) small inside
        ∙ place_bit t.problem.inputs S (fresh_members t.problem.inputs t.set) v place inside
        ∙ ap (bit_at (mask_over S v)) stands

    each : (v : ℕ) → v < 256 → is_dependent_in occurring place v ≡ is_counted S vs x v
    each v l =
        ap (λ b. b && eqb (bit_at (places 3 v) place) 1) (are.each v l)
        ∙ by (has vs v) (λ e. ap (λ k. eqb k 1) (bits v e))
      where
        by : (b : Bool) → (b ≡ true → eqb (bit_at (places 3 v) place) 1 ≡ eqb (bit_at (mask_over S v) x) 1) →
            (b && eqb (bit_at (places 3 v) place) 1) ≡ (b && eqb (bit_at (mask_over S v) x) 1)
        by true e = e refl
        by false e = refl

-- a member and those above it
some_above : (set n x place : ℕ) → x < n → bit_at set x ≡ 1 → length (members x set) + place ≡ length (members n set) → 1 ≤ place
some_above set n x place lt bit e =
    let p = ap length (member_parts set n x lt bit) in
    let l = length-append (members x set) (x ∷ filter (λ y. eqb (bit_at set y) 1) (range_with_len (x + 1) (n - suc x))) in
    omega (arith, p, l, e)

-- where the next member stands
pub next_stands : (n set from x place : ℕ) → set < 2 ^ n → from ≤ x → bit_at set x ≡ 1 → ((y : ℕ) → from ≤ y → y < x → bit_at set y ≡ 0) →
    length (members from set) + place ≡ length (members n set) → (x < n) × (1 ≤ place) × (length (members x set) + place ≡ length (members n set))
next_stands n set from x place within le bit none above =
    let inside = bit_inside n set x within bit in
    let same : length (members x set) ≡ length (members from set) =
    ap (λ k. length (members k set)) (let e : x ≡ from + (x - from) = omega arith in e)
    ∙ ap length (members_gap set from (x - from) (λ y h lt. none y h (omega arith))) in
    let here : length (members x set) + place ≡ length (members n set) = omega (arith, same, above) in
    (inside, some_above set n x place inside bit here, here)

-- what is asked of the subfunctions to count those that depend on the next member
pub counted : (t : ClassesOf) (s : Subfunctions) (below place : ℕ) → t.set < 2 ^ t.problem.inputs → AreOf t s → 1 ≤ place →
    below + place ≡ length (set_of t) → CanBeCounted s (place - 1)
counted t (Values occurring) below place within are some e =
    let o = ones-members t.problem.inputs t.set within in
    let f = are.0 in
    omega (arith, o, f, e, some)
counted t (Classes masks) below place within are some e = are.1
