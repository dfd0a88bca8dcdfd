use Rattle.std.proofs.Common.{◌≡◌, ℕ, ◌+◌, ◌-◌, List, map, max, refl, sym, ap, ap₂, ◌∙◌, arith}
use Rattle.std.specs.List.{fold}
use Rattle.definitions.specs.Orders.{members}
use Rattle.definitions.specs.Problems.{functions}
use Rattle.definitions.specs.LowerBounds.{asked_by}
use Rattle.definitions.proofs.Bits.LowerBounds.{most_none, most_with, members_gap, member_has}
use Rattle.definitions.proofs.Precedence.Masks.{bit_inside}
use Rattle.order_model.proofs.lower_bounds.LowerBounds.most_asked.Goals as goal

pub loop-x-init : goal.loop-x-init
loop-x-init c = grind (arith, most_none)

pub nodes_for_width-requires : goal.nodes_for_width-requires
nodes_for_width-requires c = bit_inside c.args.self.now.problem.inputs c.args.mask c.in-Some.x c.requires.within c.in-Some.ensures.member.2

pub loop-x-preserved : goal.loop-x-preserved
loop-x-preserved c =
    let p = c.args.self.now.problem in
    let x = c.in-Some.x in
    let from = c.loop-x.from in
    let f = asked_by p.inputs (functions p) (members p.inputs c.args.mask) in
    let all : List ℕ → ℕ = λ ms. fold max c.args.least (map f ms) in
    let m = c.in-Some.ensures.member in
    let inside = bit_inside p.inputs c.args.mask x c.requires.within m.2 in
    record {
      small = (let l = m.1 in omega arith);
      inside = omega arith;
      few = (let e = c.max-most.ensures in let a = c.loop-x.invariant.few in let b = c.nodes_for_width.ensures.few in omega arith);
      most = λ w.
          c.max-most.ensures
          ∙ ap₂ max (c.loop-x.invariant.most w
          ∙ sym (ap all (members_gap c.args.mask from (x - from) (λ y h lt. c.in-Some.ensures.first y h (let l = m.0 in omega arith))))
          ∙ ap (λ n. all (members n c.args.mask)) (let l = m.0 in let e : from + (x - from) ≡ x = omega arith in e))
          (c.nodes_for_width.ensures.nodes (w x (member_has p.inputs c.args.mask x inside m.2)))
          ∙ sym (most_with f c.args.least x c.args.mask m.2);
    }

pub returns-clause-most : goal.returns-clause-most
returns-clause-most c = λ w.
    let p = c.args.self.now.problem in
    let from = c.loop-x.from in
    let f = asked_by p.inputs (functions p) (members p.inputs c.args.mask) in
    let all : List ℕ → ℕ = λ ms. fold max c.args.least (map f ms) in
    let i = c.loop-x.invariant.inside in
    c.loop-x.invariant.most w
    ∙ sym (ap all (members_gap c.args.mask from (p.inputs - from) (λ y h lt. c.in_default.ensures.none refl y h)))
    ∙ ap (λ n. all (members n c.args.mask)) (let e : from + (p.inputs - from) ≡ p.inputs = omega arith in e)
