use Rattle.std.proofs.Common.{inl, inr, refl, Option, Some, None, IsTrue, ◌≡◌, ℕ, ◌+◌, ◌-◌, ◌*◌, ◌%◌, ◌^◌, ◌<◌, ◌≤◌, true, count_ones, length, get_or, sym, ap, ◌∙◌, subst, arith, w16}
use Rattle.definitions.proofs.Bits.Ones.{ones-members}
use Rattle.definitions.proofs.Precedence.MaskLaws.{member_bit}
use Rattle.definitions.specs.LowerBounds.{nodes_above}
use Rattle.definitions.specs.Orders.{has, members}
use Rattle.definitions.specs.Orders.{members}
use Rattle.definitions.specs.Problems.{functions}
use Rattle.layer_core.specs.Instances.{InstanceOf, cell_for}
use Rattle.layer_core.specs.Pairing.{no_cell}
use Rattle.small_search.proofs.MemberPlaces.{counted, members_next, members_none, next_stands}
use Rattle.definitions.specs.Pairs.{is_lawful}
use Rattle.small_search.specs.Searches.{IsPlainSearch}
use Rattle.small_search.specs.Occurrences.{IsAtPlace}
use Rattle.std.proofs.lemmas.Bool.{cases_lt}
use Rattle.std.proofs.lemmas.Bool.{true≢false}
use Rattle.std.proofs.lemmas.Nat.Bits.{shr_and_one}
use Rattle.std.proofs.lemmas.Nat.{one_shl, pow_pos}
use Rattle.std.proofs.lemmas.Nat.{ones-le}
use Rattle.subfunction_classes.specs.Table.{classes_of}
use Rattle.subset_layers.proofs.CellSteps.{cell_clipped, cell_found, first_has_mask, first_member}
use Rattle.subset_layers.proofs.CostLists.{member_from_bit}
use Rattle.subset_layers.specs.declared.costs.Cell.{Cell}
use Rattle.solutions.proofs.FlatLists.{first_cost}
use Rattle.std.specs.Int.{trailing_zeros}
use Rattle.definitions.specs.Cells.{AreForCell, first_of}
use Rattle.small_search.proofs.CellRows.{IsBestBelow, IsKept, best_all, best_gap, best_skipped, few_above, few_sum, kept_next, cost_without, width_without}
use Rattle.layer_core.specs.Pairing.{pair_of}
use Rattle.small_search.proofs.cells.cell_of_set.Goals as goal
use Rattle.small_search.proofs.cells.cell_of_set.Goals.{then-below-le-NO_BOUND+then-cost-best, then-below-le-NO_BOUND+else-cost-best, else-below-le-NO_BOUND}

pub loop-x-init : goal.loop-x-init
loop-x-init c =
    let t = c.args.search.now in
    let o = ones-members t.problem.inputs c.args.set c.requires.within in
    let z = members_none c.args.set in
    record { small = omega arith; kept = (None, (λ y l m. absurd (omega (arith, l))), refl); above = omega (arith, o, z) }

pub overflow_sub-place : goal.overflow_sub-place
overflow_sub-place c =
    let m = c.in-Some.ensures.member in
    (next_stands c.args.search.now.problem.inputs c.args.set c.loop-x.from c.in-Some.x c.loop-x.place c.requires.within m.0 m.2 c.in-Some.ensures.first
    c.loop-x.invariant.above).1

pub width-requires-clause-counted : goal.width-requires-clause-counted
width-requires-clause-counted c =
    let t = c.args.search.now in
    let m = c.in-Some.ensures.member in
    let at = next_stands t.problem.inputs c.args.set c.loop-x.from c.in-Some.x c.loop-x.place c.requires.within m.0 m.2 c.in-Some.ensures.first
    c.loop-x.invariant.above in
    counted (classes_of t.problem c.args.set) c.args.subfunctions.now (length (members c.in-Some.x c.args.set)) c.loop-x.place c.requires.within
    c.requires.subfunctions at.1 at.2

-- sums are below the bound
few_most : (n mask inputs : ℕ) → mask < 2 ^ n → inputs ≡ n → inputs ≤ 16 → count_ones mask * 2 ^ 20 < 33554433
few_most n mask inputs within e few = let o = ones-le n mask within in omega (arith, o, e, few)

pub loop-x-preserved : goal.loop-x-preserved
loop-x-preserved c =
    let t = c.args.search.now in
    let n = t.problem.inputs in
    let mask = c.args.set in
    let x = c.in-Some.x in
    let m = c.in-Some.ensures.member in
    let at = next_stands n mask c.loop-x.from x c.loop-x.place c.requires.within m.0 m.2 c.in-Some.ensures.first c.loop-x.invariant.above in
    let below = at.0 in
    let one = at.1 in
    let above = at.2 in
    let shift = one_shl x 16 m.1 in
    let p = pow_pos x in
    let some = c.requires.some in
    let cells = c.args.cells.now in
    let S : ℕ → Type 0 = λ y. IsTrue (has (members n mask) y) in
    let cost_is = first_cost t mask cells c.requires.cells.first (mask - 2 ^ x) no_cell (omega (arith, p, some)) in
    let cost : (get_or cells (mask - 1 * 2 ^ x % 65536) no_cell).cost ≡ cost_without t mask x =
    ap (λ k. (get_or cells (mask - k) no_cell).cost) shift ∙ cost_is in
    let bound = c.inputs.ensures.plain.bound_is in
    let member = member_from_bit n mask x below (shr_and_one mask x ∙ m.2) in
    let next = members_next mask x m.2 in
    let small = m.1 in
    let before = best_gap S t.bound (cost_without t mask) (width_without t mask) c.loop-x.from x c.loop-x.invariant.kept.0 m.0
    (λ y h lt s. absurd (let z = c.in-Some.ensures.first y h lt in let o = (member_bit n mask y s).1 in omega arith)) c.loop-x.invariant.kept.1 in
    let first : Cell = record { cost = 33554433; variable = trailing_zeros w16 mask } in
    let most = count_ones mask * 2 ^ 20 in
    let few = few_most n mask c.inputs.result c.requires.within c.inputs.ensures.value c.inputs.ensures.few in
    let below_cost = (get_or cells (mask - 1 * 2 ^ x % 65536) no_cell).cost in
    let stands : IsAtPlace (classes_of t.problem mask) x (c.loop-x.place - 1) =
    record { inside = below; within = c.requires.within; member = member; above = omega (arith, above, one) } in
    let step = λ (v : ℕ) (r : Cell) (is : v ≡ width_without t mask x) (most_width : v ≤ 2 ^ 20) (within : below_cost ≤ 33554432)
    (new : below_cost + v < c.loop-x.best.cost → r ≡ record { cost = below_cost + v; variable = x })
    (old : c.loop-x.best.cost ≤ below_cost + v → r ≡ c.loop-x.best).
    kept_next S t.bound (cost_without t mask) (width_without t mask) x (below_cost + v) most c.loop-x.invariant.kept.0 first c.loop-x.best
    (record { cost = below_cost + v; variable = x }) r few before c.loop-x.invariant.kept.2 member (omega (arith, cost, within, bound))
    (omega (arith, cost, is))
    (few_sum t mask cells c.requires.cells c.requires.within x member below_cost v (ap (λ k. (get_or cells (mask - k) no_cell).cost) shift)
    (omega (arith, within, bound)) most_width) refl new old in
    record {
      small = omega (arith, small);
      above = omega (arith, above, one, next);
      kept = elim c.if-below-le-NO_BOUND.branch [
        | then-below-le-NO_BOUND+then-cost-best w ↦
            step w.width.result _ (w.width.ensures.width (classes_of t.problem mask) c.requires.subfunctions stands) w.width.ensures.few
            w.if-below-le-NO_BOUND.true (λ lt. w.best-is) (λ le. absurd (let l = w.if-cost-best.true in omega (arith, l, le)))
        | then-below-le-NO_BOUND+else-cost-best w ↦
            step w.width.result _ (w.width.ensures.width (classes_of t.problem mask) c.requires.subfunctions stands) w.width.ensures.few
            w.if-below-le-NO_BOUND.true (λ lt. absurd (let l = w.if-cost-best.false in omega (arith, l, lt))) (λ le. w.best-is)
        | else-below-le-NO_BOUND w ↦
            let over = w.if-below-le-NO_BOUND.false in (
              c.loop-x.invariant.kept.0,
              best_skipped S t.bound (cost_without t mask) (width_without t mask) x c.loop-x.invariant.kept.0 before (λ m. omega (arith, cost, over, bound)),
              subst (λ (r : Cell). IsKept most first r c.loop-x.invariant.kept.0) (sym w.best-is) c.loop-x.invariant.kept.2,
            )
      ];
    }

-- the sums are by the costs and widths that the cell takes
for_cell : (t : InstanceOf) (mask : ℕ) →
    AreForCell t.problem.inputs (functions t.problem) t.pairs.pairs t.lower_bound t.bound mask (cost_without t mask) (width_without t mask)
for_cell t mask = record { are_costs = λ x m. refl; are_widths = λ l x a. refl }

-- the cell of a set without one within the bound
clipped : (t : InstanceOf) (mask : ℕ) → IsPlainSearch t → 0 < mask → mask < 2 ^ t.problem.inputs → mask < 65536 →
    (is_lawful t.pairs.pairs (members t.problem.inputs mask) ≡ true → (y : ℕ) → IsTrue (has (members t.problem.inputs mask) y) →
    t.bound < cost_without t mask y) → (33554433, trailing_zeros w16 mask) ≡ cell_for t mask
clipped t mask plain some within small none =
    let n = t.problem.inputs in
    let F = functions t.problem in
    let P = t.pairs.pairs in
    let b = plain.bounded in
    let first = first_member n mask some small within in
    let m = first_has_mask n mask some small within in
    let cell = cell_clipped n t.lower_bound mask t.bound (cost_without t mask) (width_without t mask) F P b.order b.is_order b.keeps (for_cell t mask)
    (nodes_above n F t.lower_bound (members n mask)) (first_of (members n mask)) m refl in
    (λ i. (let e : 33554433 ≡ t.bound + 1 = omega (arith, plain.bound_is) in e i, first i))
    ∙ cell (λ low y h le. let f = none low y h in omega (arith, f, le))

pub returns-then-not-lawful-clause-cell : goal.returns-then-not-lawful-clause-cell
returns-then-not-lawful-clause-cell c =
    clipped c.args.search.now c.args.set c.inputs.ensures.plain c.requires.some c.requires.within (omega arith)
    (λ low. absurd (true≢false (sym low ∙ sym c.requires.lawful ∙ c.if-not-lawful.true)))

-- all members were met
all_met : (c : goal.In_default) (y : ℕ) → IsTrue (has (members c.args.search.now.problem.inputs c.args.set) y) → y < c.loop-x.from
all_met c y s = elim (cases_lt y c.loop-x.from) [
  | inl lt ↦ lt
  | inr le ↦ absurd (let z = c.in_default.ensures.none refl y le in let o = (member_bit c.args.search.now.problem.inputs c.args.set y s).1 in omega arith)
]

-- the cell that is kept, once all members were met
found : (t : InstanceOf) (mask from : ℕ) (best : Cell) (o : Option Cell) → IsPlainSearch t → t.problem.inputs ≤ 16 → 0 < mask → mask < 2 ^ t.problem.inputs →
    mask < 65536 → is_lawful t.pairs.pairs (members t.problem.inputs mask) ≡ true →
    ((y : ℕ) → IsTrue (has (members t.problem.inputs mask) y) → y < from) →
    IsBestBelow (λ y. IsTrue (has (members t.problem.inputs mask) y)) t.bound (cost_without t mask) (width_without t mask) from o →
    IsKept (count_ones mask * 2 ^ 20) (record { cost = 33554433; variable = trailing_zeros w16 mask }) best o → pair_of best ≡ cell_for t mask
found t mask from best None plain few some within small low met h kept =
    ap pair_of kept ∙ clipped t mask plain some within small (λ l y m. h y (met y m) m)
found t mask from best (Some b) plain few some within small low met h kept =
    let n = t.problem.inputs in
    let F = functions t.problem in
    let p = plain.bounded in
    let most = kept.1 in
    let o = ones-le n mask within in
    let above = few_above n F t.lower_bound (members n mask) plain.by_variables in
    ap pair_of kept.0
    ∙ cell_found n t.lower_bound mask t.bound (cost_without t mask) (width_without t mask) F t.pairs.pairs p.order p.is_order p.keeps
    (for_cell t mask) (nodes_above n F t.lower_bound (members n mask)) b.cost b.variable low refl
    (best_all (λ y. IsTrue (has (members n mask) y)) t.bound (cost_without t mask) (width_without t mask) from b met h)
    (omega (arith, most, o, above, few, plain.bound_is))

pub returns-clause-cell : goal.returns-clause-cell
returns-clause-cell c =
    let i = c.inputs.ensures in
    let h = c.loop-x.invariant in
    found c.args.search.now c.args.set c.loop-x.from c.loop-x.best h.kept.0 i.plain (let v = i.value in let f = i.few in omega (arith, v, f)) c.requires.some
    c.requires.within (omega arith) (sym c.requires.lawful ∙ c.if-not-lawful.false) (all_met c) h.kept.1 h.kept.2
