-- Sums over the members of a set, variable by variable.
--     sum_none, sum_with, sum_lacking, sum_part      the sum over the members below x: at first, with one variable more, and against the whole
--     number_top, total_top, ways_top      what a member adds with the others below it: lists, the sum of their costs, those of one cost
--     number_summed, total_summed, ways_summed      the whole sums are those of a set's lists
use Rattle.std.proofs.Common.{◌≡◌, ◌≢◌, ℕ, zero, suc, ◌+◌, ◌*◌, ◌-◌, ◌/◌, ◌^◌, ◌<◌, ◌≤◌, true, cond, inl, inr, List, [], ◌∷◌, ◌++◌, length, refl, sym, ap, ◌∙◌, subst, arith, nat_eq, eq-eqb}
use Rattle.std.specs.Int.{bit_at}
use Rattle.std.specs.List.{filter, sum_by}
use Rattle.std.proofs.Math.Nat.{div-eq_of_lt}
use Rattle.std.proofs.lemmas.Bool.{cases_lt, cases_eq, ne_eqb}
use Rattle.std.proofs.lemmas.List.Elements.{filter-append}
use Rattle.std.proofs.lemmas.List.Sums.{sum_by_push}
use Rattle.definitions.specs.Functions.{Function}
use Rattle.definitions.specs.Orders.{has, members, variables}
use Rattle.definitions.specs.Pairs.{Pair, is_lawful}
use Rattle.definitions.specs.Widths.{width}
use Rattle.definitions.specs.AllOrders.{lawful_lists, cost_total, ways, ways_above}
use Rattle.definitions.proofs.Lists.Accepted.{variables_more}
use Rattle.definitions.proofs.Precedence.MaskLaws.{member_from}
use Rattle.definitions.proofs.Precedence.Masks.{some_bit, bit_inside}
use Rattle.definitions.proofs.Bits.Masks.{power_small}
use Rattle.definitions.proofs.Widths.AllOrders.{number_by_masks, total_by_masks, ways_by_masks}

members_with : (x set : ℕ) → bit_at set x ≡ 1 → members (x + 1) set ≡ members x set ++ x ∷ []
unfolding members
members_with x set e =
    ap (filter (λ y. nat_eq (bit_at set y) 1)) (variables_more x) ∙ filter-append (λ y. nat_eq (bit_at set y) 1) (variables x) (x ∷ [])
    ∙ ap (λ b. filter (λ y. nat_eq (bit_at set y) 1) (variables x) ++ cond b (x ∷ []) []) (eq-eqb (bit_at set x) 1 e)

members_lacking : (x set : ℕ) → bit_at set x ≢ 1 → members (x + 1) set ≡ members x set
unfolding members
members_lacking x set ne =
    ap (filter (λ y. nat_eq (bit_at set y) 1)) (variables_more x) ∙ filter-append (λ y. nat_eq (bit_at set y) 1) (variables x) (x ∷ [])
    ∙ ap (λ b. filter (λ y. nat_eq (bit_at set y) 1) (variables x) ++ cond b (x ∷ []) []) (ne_eqb (bit_at set x) 1 ne)
    ∙ append_nil (filter (λ y. nat_eq (bit_at set y) 1) (variables x))
  where
    append_nil : (zs : List ℕ) → zs ++ [] ≡ zs
    append_nil [] = refl
    append_nil (z ∷ zs) = ap (λ us. z ∷ us) (append_nil zs)

members_below_0 : (set : ℕ) → members 0 set ≡ []
unfolding members
members_below_0 set = refl

-- a sum over the members below a variable
module _ (f : ℕ → ℕ) (set : ℕ) where
  pub sum_none : sum_by f (members 0 set) ≡ 0
  sum_none = ap (sum_by f) (members_below_0 set)

  pub sum_with : (x : ℕ) → bit_at set x ≡ 1 → sum_by f (members (x + 1) set) ≡ sum_by f (members x set) + f x
  sum_with x e = ap (sum_by f) (members_with x set e) ∙ sum_by_push f (members x set) x

  pub sum_lacking : (x : ℕ) → bit_at set x ≢ 1 → sum_by f (members (x + 1) set) ≡ sum_by f (members x set)
  sum_lacking x ne = ap (sum_by f) (members_lacking x set ne)

  sum_less : (x d : ℕ) → sum_by f (members x set) ≤ sum_by f (members (d + x) set)
  sum_less x zero = let e : 0 + x ≡ x = omega arith in subst (λ k. sum_by f (members x set) ≤ sum_by f (members k set)) (sym e) (omega arith)
  sum_less x (suc d) =
      let e : suc d + x ≡ (d + x) + 1 = omega arith in
      let le : sum_by f (members (d + x) set) ≤ sum_by f (members ((d + x) + 1) set) =
      elim (cases_eq (bit_at set (d + x)) 1) [
        | inl is ↦ omega (arith, sum_with (d + x) is)
        | inr ne ↦ omega (arith, sum_lacking (d + x) ne)
      ] in
      subst (λ k. sum_by f (members x set) ≤ sum_by f (members k set)) (sym e) (omega (arith, sum_less x d, le))

  pub sum_part : (x n : ℕ) → x ≤ n → sum_by f (members x set) ≤ sum_by f (members n set)
  sum_part x n le =
      let e : (n - x) + x ≡ n = omega arith in
      omega (arith, sum_less x (n - x), ap (λ k. sum_by f (members k set)) e)

-- the whole sums are those of a set's lists
module _ (n : ℕ) (P : List Pair) (set : ℕ) where
  -- the lists with member x on top
  abbrev pub number_top : ℕ → ℕ
  number_top x = length (lawful_lists P (members n (set - 2 ^ x)))

  -- the sum of their costs
  abbrev pub total_top : List Function → ℕ → ℕ
  total_top F x = cost_total n F P (members n (set - 2 ^ x)) + width n F (members n (set - 2 ^ x)) x * length (lawful_lists P (members n (set - 2 ^ x)))

  -- those of cost c
  abbrev pub ways_top : List Function → ℕ → ℕ → ℕ
  ways_top F c x = ways_above n F P (members n (set - 2 ^ x)) (width n F (members n (set - 2 ^ x)) x) c

  module _ (few : n ≤ 16) (some : set ≢ 0) (within : set < 2 ^ n) (lawful : is_lawful P (members n set) ≡ true) where
    a_member : (z : ℕ) × (has (members n set) z ≡ true)
    a_member =
        let p = power_small n few in
        let b = some_bit set (omega arith) some in
        (b.0, member_from n set b.0 (bit_inside n set b.0 within b.2) b.2)

    pub number_summed : sum_by number_top (members n set) ≡ length (lawful_lists P (members n set))
    number_summed = sym (number_by_masks P n set a_member.0 a_member.1 ∙ ap (λ c. cond c (sum_by number_top (members n set)) 0) lawful)

    pub total_summed : (F : List Function) → sum_by (total_top F) (members n set) ≡ cost_total n F P (members n set)
    total_summed F = sym (total_by_masks P n set a_member.0 a_member.1 F ∙ ap (λ c. cond c (sum_by (total_top F) (members n set)) 0) lawful)

    pub ways_summed : (F : List Function) (c : ℕ) → sum_by (ways_top F c) (members n set) ≡ ways n F P (members n set) c
    ways_summed F c = sym (ways_by_masks P n set a_member.0 a_member.1 F c ∙ ap (λ b. cond b (sum_by (ways_top F c) (members n set)) 0) lawful)

-- a bit of a set is at most the set
pub power_le : (set x : ℕ) → bit_at set x ≡ 1 → 2 ^ x ≤ set
power_le set x e =
    elim (cases_lt set (2 ^ x)) [
      | inl lt ↦ absurd (let q : set / 2 ^ x ≡ 0 = div-eq_of_lt lt in omega arith)
      | inr le ↦ le
    ]
