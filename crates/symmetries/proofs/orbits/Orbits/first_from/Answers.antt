use Rattle.std.proofs.Common.{◌≡◌, ◌<◌, ◌^◌, ◌∙◌, List, ap, get_or, length, subst, sym}
use Rattle.definitions.specs.Problems.{TruthTables}
use Rattle.symmetries.specs.Orbits.{KeepsWidths}
use Rattle.symmetries.specs.declared.orbits.Image.{Image}
use Rattle.symmetries.proofs.ImageWidths.{taken_on}
use Rattle.symmetries.proofs.orbits.Orbits.first_from.Goals as goal

pub returns-in-Some : goal.returns-in-Some
returns-in-Some c p S few taken =
    let t = c.self.inside.problem.now in
    let items = c.self.inside.images.items in
    let T = c.args.from.set in
    let image : Image = c.in-Some.image.now in
    let found = c.in-Some.ensures.lookup.3 in
    let at : image ≡ get_or items T image =
    found.1 image ∙ ap (λ (us : List Image). get_or us c.from.result image) c.deref.ensures.value ∙ ap (λ k. get_or items k image) c.from.ensures in
    let there : T < length items =
    subst (λ k. k < length items) c.from.ensures (subst (λ (us : List Image). c.from.result < length us) c.deref.ensures.value found.0) in
    let small : T < 2 ^ t.inputs = subst (λ (q : TruthTables). T < 2 ^ q.inputs) (sym c.self.view_is) taken.small in
    let kept = subst (λ (i : Image). KeepsWidths t T i.set i.variables) (sym at) (c.self.invariant.1 T image there small) in
    taken_on p c.args.self.now S T image.set c.args.from.variables image.variables c.moved.result few taken
    (subst (λ (q : TruthTables). KeepsWidths q T image.set image.variables) c.self.view_is kept) c.moved.ensures
