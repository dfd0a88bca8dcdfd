use Rattle.std.proofs.Common.{◌≡◌, ◌+◌, ◌-◌, ◌/◌, arith, rules}
use Rattle.unique_table.proofs.SessionsGoOn.{follows_trans}
use Rattle.dd_builder.proofs.SessionSteps.{makes_same, makes_refused}
use Rattle.dd_builder.proofs.Ends.{parts_follow}
use Rattle.dd_builder.proofs.Unions.{part_union, halves_union}
use Rattle.dd_builder.proofs.roots.+of_shares.Goals as goal

pub returns-then-count-eq1 : goal.returns-then-count-eq1
returns-then-count-eq1 t c = grind (arith, part_union)

pub of_shares-requires-2 : goal.of_shares-requires-2
of_shares-requires-2 t c = grind (arith, parts_follow)

pub returns : goal.returns
returns t c =
    let all : c.args.count ≡ c.args.count / 2 + (c.args.count - c.args.count / 2) = omega arith in
    makes_same _ _ _ c.apply.result _ _ (follows_trans _ _ _ c.of_shares.ensures.follows c.of_shares-2.ensures.follows) c.apply.ensures.made (λ id m.
    halves_union c.of_shares.new.session c.of_shares-2.new.session c.apply.new.session c.args.store.now.plan c.args.output c.args.first
    (c.args.count / 2) (c.args.count - c.args.count / 2) c.args.count c.in_ok-lower.lower c.in_ok-upper.upper id
    all c.in_ok-lower.ensures.function c.of_shares-2.ensures.follows c.in_ok-upper.ensures.function c.apply.ensures.made.follows m)

pub returns-in_err-upper : goal.returns-in_err-upper
returns-in_err-upper t c = makes_refused _ _ _ _ _ _ _ c.of_shares.ensures.follows c.in_err-upper.ensures c.from_residual-in_err-upper.ensures.0

pub apply-requires-clause-known : goal.apply-requires-clause-known
apply-requires-clause-known t c = search rules
