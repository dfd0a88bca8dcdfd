use denote.Bor.{Bor}
use Rattle.std.proofs.Common.{◌≡◌, ℕ, ◌^◌, ◌≤◌, List, length, sym, ◌∙◌, subst, arith, eqb}
use Rattle.std.specs.Int.{bit_at}
use Rattle.definitions.proofs.Lists.Ranges.{filter_at_most}
use Rattle.definitions.specs.Problems.{functions}
use Rattle.subfunction_classes.specs.Table.{set_of}
use Rattle.subfunction_classes.proofs.CountedWidths.{width_is_dependent_classes}
use Rattle.small_search.specs.Occurrences.{AreOf, CanBeCounted}
use Rattle.small_search.specs.declared.width_counts.Subfunctions.{Subfunctions}
use Rattle.small_search.specs.declared.width_counts.Subfunctions.TheVariants.{Classes}
use Rattle.small_search.proofs.MemberPlaces.{width_of_values}
use Rattle.small_search.proofs.width_counts.Subfunctions.width.Goals as goal

few_of : (s : Subfunctions) (place : ℕ) (masks : Bor (List ℕ)) → s ≡ Classes masks → CanBeCounted s place → length masks.now ≤ 2 ^ 20
few_of s place masks e h = subst (λ (u : Subfunctions). CanBeCounted u place) e h

pub returns-in-Values-clause-width : goal.returns-in-Values-clause-width
returns-in-Values-clause-width c = λ t are at.
    let of = subst (λ (s : Subfunctions). AreOf t s) c.in-Values.is are in
    c.count_dependent.ensures.dependents ∙ width_of_values t c.in-Values.occurring c.args.x c.args.place of.0 of.1 at

pub returns-in-Classes-clause-few : goal.returns-in-Classes-clause-few
returns-in-Classes-clause-few c =
    let e = c.count_with.ensures in
    let f = filter_at_most (λ m. eqb (bit_at m c.args.x) 1) c.in-Classes.masks.now in
    let l = few_of c.args.self.now c.args.place c.in-Classes.masks c.in-Classes.is c.requires.counted in
    omega (arith, e, f, l)

pub returns-in-Classes-clause-width : goal.returns-in-Classes-clause-width
returns-in-Classes-clause-width c = λ t are at.
    let of = subst (λ (s : Subfunctions). AreOf t s) c.in-Classes.is are in
    c.count_with.ensures
    ∙ sym (width_is_dependent_classes t.problem.inputs (functions t.problem) (set_of t) c.in-Classes.masks.now c.args.x at.inside at.member of.0)
