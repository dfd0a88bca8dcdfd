use Rattle.std.proofs.Common.{◌-◌, length, refl, sym, ◌∙◌, subst, arith}
use Rattle.std.proofs.lemmas.Nat.Bits.{shr_and_one}
use Rattle.definitions.specs.Orders.{members}
use Rattle.definitions.specs.Problems.{functions}
use Rattle.definitions.proofs.Bits.Ones.{ones-members}
use Rattle.subset_layers.proofs.CostLists.{member_from_bit}
use Rattle.subfunction_classes.specs.Table.{classes_of}
use Rattle.small_search.specs.Occurrences.{IsAtPlace}
use Rattle.small_search.proofs.MemberPlaces.{counted, members_next, members_none, next_stands}
use Rattle.small_search.proofs.WidthRows.{IsRowTo, row_all, row_next, row_none}
use Rattle.small_search.proofs.all_widths.write_row.Goals as goal

pub loop-x-init : goal.loop-x-init
loop-x-init c =
    let t = c.args.search.now in
    let o = ones-members t.problem.inputs c.args.set c.requires.within in
    let z = members_none c.args.set in
    record {
      small = omega arith;
      row = subst (IsRowTo t.problem.inputs (functions t.problem) c.args.set 0) (sym c.requires.zeros)
          (row_none t.problem.inputs (functions t.problem) c.args.set);
      above = omega (arith, o, z);
    }

pub overflow_sub-place : goal.overflow_sub-place
overflow_sub-place c =
    let m = c.in-Some.ensures.member in
    (next_stands c.args.search.now.problem.inputs c.args.set c.loop-x.from c.in-Some.x c.loop-x.place c.requires.within m.0 m.2 c.in-Some.ensures.first
    c.loop-x.invariant.above).1

pub width-requires-clause-counted : goal.width-requires-clause-counted
width-requires-clause-counted c =
    let t = c.args.search.now in
    let m = c.in-Some.ensures.member in
    let at = next_stands t.problem.inputs c.args.set c.loop-x.from c.in-Some.x c.loop-x.place c.requires.within m.0 m.2 c.in-Some.ensures.first
    c.loop-x.invariant.above in
    counted (classes_of t.problem c.args.set) c.args.subfunctions.now (length (members c.in-Some.x c.args.set)) c.loop-x.place c.requires.within
    c.requires.subfunctions at.1 at.2

pub loop-x-preserved : goal.loop-x-preserved
loop-x-preserved c =
    let t = c.args.search.now in
    let n = t.problem.inputs in
    let mask = c.args.set in
    let x = c.in-Some.x in
    let m = c.in-Some.ensures.member in
    let at = next_stands n mask c.loop-x.from x c.loop-x.place c.requires.within m.0 m.2 c.in-Some.ensures.first c.loop-x.invariant.above in
    let below = at.0 in
    let one = at.1 in
    let above = at.2 in
    let small = m.1 in
    let member = member_from_bit n mask x below (shr_and_one mask x ∙ m.2) in
    let next = members_next mask x m.2 in
    let stands : IsAtPlace (classes_of t.problem mask) x (c.loop-x.place - 1) =
    record { inside = below; within = c.requires.within; member = member; above = omega (arith, above, one) } in
    record {
      small = omega (arith, small);
      row = row_next n (functions t.problem) mask c.loop-x.from c.loop-x.row c.loop-x.invariant.row x c.width.result m.0 m.1 c.in-Some.ensures.first member
          (c.width.ensures.width (classes_of t.problem mask) c.requires.subfunctions stands);
      above = omega (arith, above, one, next);
    }

pub returns : goal.returns
returns c =
    let t = c.args.search.now in
    row_all t.problem.inputs (functions t.problem) c.args.set c.loop-x.from c.loop-x.row c.loop-x.invariant.row (λ y le. c.in_default.ensures.none refl y le)
