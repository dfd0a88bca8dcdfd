use Rattle.std.proofs.Common.{◌∙◌, All, IfSome, sym, ap, subst}
use Rattle.std.proofs.lemmas.List.Elements.{All-push}
use Rattle.definitions.specs.Problems.{TruthTables}
use Rattle.symmetries.specs.Orbits.{IsExchangeOf}
use Rattle.symmetries.proofs.exchanges.exchanges_of.Goals.{in-Some+in_ok-push, in_default}
use Rattle.symmetries.proofs.exchanges.exchanges_of.Goals as goal

pub loop-between-preserved : goal.loop-between-preserved
loop-between-preserved c = (
  c.exchange_of.ensures.problem ∙ c.loop-between.invariant.0,
  elim c.match-branch-3.branch [
    | in-Some+in_ok-push w ↦
        subst (All (IsExchangeOf c.args.problem.now)) (sym (ap (λ v. v.items) w.found-is ∙ w.in_ok-push.ensures.items))
        (All-push (IsExchangeOf c.args.problem.now) _ _ c.loop-between.invariant.1
        (subst (λ (p : TruthTables). IsExchangeOf p w.in-Some.exchange) c.loop-between.invariant.0
        (subst (λ o. IfSome o (IsExchangeOf c.loop-between.search.problem.now)) w.in-Some.is c.in_ok-exchange.ensures.exchange)))
    | in_default w ↦ subst (All (IsExchangeOf c.args.problem.now)) (sym (ap (λ v. v.items) w.found-is)) c.loop-between.invariant.1
  ],
)
