use Rattle.std.proofs.Common.{◌≡◌, ◌≤◌, ◌<◌, ◌∙◌, ℕ, List, ap, arith, get_or, length, slice_index, subst, sym}
use Rattle.symmetries.specs.Orbits.{ExchangeOf, IsExchangeOf}
use Rattle.symmetries.specs.declared.orbits.Image.{Image}
use Rattle.symmetries.proofs.ImageWidths.{linked_kept}
use Rattle.symmetries.proofs.orbits.Orbits.link.Goals as goal

pub invariant_of-self : goal.invariant_of-self
invariant_of-self c =
    let p = c.self.inside.problem.now in
    let es = c.self.inside.exchanges.items in
    let items = c.self.inside.images.items in
    let e : ExchangeOf = c.in-Some.exchange.now in
    let own : Image = c.in-Some-get-2.image.now in
    let few = subst (λ k. k ≤ 16) c.inputs.ensures.value c.if-prove.false in
    let exchange = c.in-Some.ensures.lookup.3 in
    let e_at : e ≡ get_or es c.args.number e = exchange.1 e ∙ ap (λ (us : List ExchangeOf). get_or us c.args.number e) c.deref.ensures.value in
    let e_there : c.args.number < length es = subst (λ (us : List ExchangeOf). c.args.number < length us) c.deref.ensures.value exchange.0 in
    let is : IsExchangeOf p e = subst (IsExchangeOf p) (sym e_at) (c.self.invariant.0 c.args.number e e_there) in
    let place = c.in-Some-get.ensures.lookup.3 in
    let p_there : c.args.set < length e.images =
    subst (λ k. k < length e.images) c.from.ensures (subst (λ (us : List ℕ). c.from.result < length us) c.images.ensures place.0) in
    let p_at : c.from-place.result ≡ slice_index e.images c.args.set =
    c.from-place.ensures ∙ place.1 0 ∙ ap (λ (us : List ℕ). slice_index us c.from.result) c.images.ensures ∙ ap (slice_index e.images) c.from.ensures in
    let image = c.in-Some-get-2.ensures.lookup.3 in
    let here : c.args.set < length items =
    subst (λ k. k < length items) c.from-2.ensures (subst (λ (us : List Image). c.from-2.result < length us) c.deref-2.ensures.value image.0) in
    let at : own ≡ get_or items c.args.set own =
    image.1 own ∙ ap (λ (us : List Image). get_or us c.from-2.result own) c.deref-2.ensures.value ∙ ap (λ k. get_or items k own) c.from-2.ensures in (
      c.self.invariant.0,
      linked_kept p e items c.args.set c.from-place.result own c.through-through.result few is c.self.invariant.1 here at p_there p_at
          (omega (arith, c.if-place-len.true, c.len.ensures, c.self.inside.images.ok)) c.through-through.ensures.set c.through-through.ensures.each,
    )
