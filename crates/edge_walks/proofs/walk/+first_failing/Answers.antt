use Rattle.std.proofs.Common.{◌≡◌, ℕ, ◌+◌, ◌-◌, ◌<◌, IfOk, IfSome, cond, ap, subst, arith}
use Rattle.edge_walks.specs.Edges.{IsFirstEdge}
use Rattle.edge_walks.specs.Tables.{TableOf, rows_at}
use Rattle.edge_walks.specs.Walks.{FailsInBlock}
use Rattle.edge_walks.proofs.FirstEdges.{first_half, first_halves, none_judged}
use Rattle.edge_walks.proofs.WalkTables.{stands_lower, stands_shorter}
use Rattle.edge_walks.proofs.walk.+first_failing.Goals as goal

pub has_judged-requires : goal.has_judged-requires
has_judged-requires t c = grind arith

pub returns-then-not-has_judged : goal.returns-then-not-has_judged
returns-then-not-has_judged t c = grind (arith, none_judged)

pub invariant_of-same : goal.invariant_of-same
invariant_of-same t c = grind (arith, stands_shorter)

pub invariant_of-lower : goal.invariant_of-lower
invariant_of-lower t c =
    let y = c.args.at.free in
    record { stands = stands_lower c.args.at.edges.problem.now (y - 1) y c.args.at.table.now (let next : y ≡ y - 1 + 1 = omega arith in next) c.args.at.stands }

pub returns-then-passes : goal.returns-then-passes
returns-then-passes t c = grind (arith, first_half)

pub returns : goal.returns
returns t c = grind (arith, first_halves)

pub returns-in-Some : goal.returns-in-Some
returns-in-Some t c =
    let at = c.args.at in
    let shorter = subst (λ o. IfSome o (λ (z : TableOf). (z ≡ rows_at at.table.now at.free) × (at.free < at.table.now.level))) c.in-Some.is
    c.in_ok-shorter.ensures in
    let set = ap (λ (z : TableOf). z.set) shorter.0 in
    subst (λ s. IfOk c.first_failing.result (IsFirstEdge (FailsInBlock at.edges s at.free))) set c.first_failing.ensures

pub first_failing-requires : goal.first_failing-requires
first_failing-requires t c = (let left = ap {B = ℕ} (λ b. cond b 0 1) c.if-not-short.true in omega (arith, left), tt)

pub overflow_sub-upper : goal.overflow_sub-upper
overflow_sub-upper t c = omega arith
