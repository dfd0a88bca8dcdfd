use Rattle.std.proofs.Common.{◌≡◌, ◌-◌, ◌*◌, ◌%◌, ◌^◌, true, Some, slice_index, sym, ap, subst, ◌∙◌, arith}
use Rattle.std.specs.Int.{bit_at}
use Rattle.std.proofs.lemmas.Bool.{cases_eq, iff_false}
use Rattle.std.proofs.lemmas.Nat.{one_shl}
use Rattle.definitions.specs.Orders.{has, members}
use Rattle.definitions.specs.Problems.{TruthTables, functions}
use Rattle.definitions.specs.Widths.{width}
use Rattle.definitions.specs.Orders.{without}
use Rattle.edge_walks.specs.Edges.{FailsWithin, IsFirstEdge}
use Rattle.edge_walks.proofs.FirstEdges.{into_own}
use Rattle.edge_walks.proofs.IntoSet.{bit_needs, edge_into, edge_kept, first_found}
use Rattle.edge_walks.proofs.walk.first_into.Goals as goal

pub overflow_sub-from : goal.overflow_sub-from
overflow_sub-from c = grind (arith, bit_needs, one_shl)

pub width_into-requires : goal.width_into-requires
width_into-requires c = grind arith

pub returns-then-reached-from : goal.returns-then-reached-from
returns-then-reached-from c =
    let n = c.args.at.edges.problem.now.inputs in
    let F = functions c.args.at.edges.problem.now in
    let v = c.args.at.edges.values.now in
    let j = c.args.at.edges.judged.now in
    let x = c.loop-x.x - 1 in
    let t = c.args.at.table.now.set in
    let w : bit_at (slice_index j t) x ≡ 1 = sym (ap (λ k. bit_at (slice_index j k) x) c.set-set.ensures)
    ∙ c.contains.ensures.0 c.if-contains.true in
    let h : has (members n t) x ≡ true = c.args.at.edges.tables.members t x w in
    let place : t - 2 ^ x ≡ c.set-set.result - 1 * 2 ^ x % 2 ^ 16 = λ i. sym c.set-set.ensures i - sym (one_shl x 16 (omega arith)) i in
    let wide = c.width_into.ensures ∙ ap (λ (P : TruthTables). width P.inputs (functions P) (without x (members P.inputs t)) x) c.args.at.stands.problem in
    let low = ap (slice_index v) place in
    let high = ap (slice_index v) c.set-set.ensures in
    let fails = edge_into n F v j t x h (omega arith) w (omega arith) in
    subst (λ k. IsFirstEdge (FailsWithin n F v j t k) (Some (c.set-set.result - 1 * 2 ^ x % 2 ^ 16, x))) (sym c.requires)
    (subst (λ k. IsFirstEdge (FailsWithin n F v j t 0) (Some (k, x))) place
    (first_found n F v j c.args.at.edges.tables.judged_all t x h fails (λ S y l g. c.loop-x.invariant S y (omega arith) g)))

pub loop-x-preserved-else-reached-from : goal.loop-x-preserved-else-reached-from
loop-x-preserved-else-reached-from c S y l g = grind (arith, slice_index, one_shl, cases_eq, edge_kept, into_own)

pub loop-x-preserved : goal.loop-x-preserved
loop-x-preserved c S y l g = grind (arith, cases_eq, into_own, iff_false, slice_index)

pub returns : goal.returns
returns c = grind arith
