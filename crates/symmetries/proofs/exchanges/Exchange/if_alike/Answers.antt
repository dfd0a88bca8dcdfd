use Rattle.std.proofs.Common.{ap, ◌∙◌, slice_index, subst, sym}
use Rattle.std.specs.Prelude.{IfSome}
use Rattle.symmetries.specs.Exchanges.{IsExchange}
use Rattle.symmetries.specs.Images.{AreImages}
use Rattle.symmetries.specs.Orbits.{ExchangeOf}
use Rattle.symmetries.proofs.PointValues.{exchange_by_values}
use Rattle.symmetries.proofs.exchanges.Exchange.if_alike.Goals as goal

pub returns : goal.returns
returns c p inputs labels =
    let e = c.in-Some.exchange in
    let n = c.args.inputs in
    exchange_by_values p n inputs e.partners e.images c.args.points.now
    (subst (λ o. IfSome o (λ (x : ExchangeOf). IsExchange n x.partners)) c.in-Some.is c.in_ok-exchange.ensures.exchange)
    (subst (λ o. IfSome o (λ (x : ExchangeOf). AreImages n x.partners x.images)) c.in-Some.is c.in_ok-exchange.ensures.images)
    labels c.requires.long
    (λ q l. ap (λ us. slice_index c.args.points.now (slice_index us q)) (sym c.images.ensures) ∙ c.are_alike.ensures c.if-not-are_alike.false q l)
