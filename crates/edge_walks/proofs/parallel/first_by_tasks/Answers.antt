use Rattle.std.proofs.Common.{ℕ, ◌-◌, ◌*◌, ◌<◌, ◌%◌, ◌^◌, IfOk, List, Option, Result, ◌∙◌, subst, arith}
use Rattle.std.specs.declared.alloc.AllocError.{AllocError}
use Rattle.std.specs.List.{AllZip}
use Rattle.std.proofs.lemmas.Nat.{one_shl}
use Rattle.rayon.specs.Numbers.{nat_range}
use Rattle.rayon.proofs.ToStd.{nat_range-All}
use Rattle.rayon.proofs.ListFacts.{IfOk-then}
use Rattle.definitions.specs.Problems.{functions}
use Rattle.edge_walks.specs.Edges.{IsFirstEdge, IsFirstOfParts, part_at}
use Rattle.edge_walks.specs.Walks.{CanStart, FailsInBlock}
use Rattle.edge_walks.proofs.Parts.{parts_first}
use Rattle.edge_walks.proofs.parallel.first_by_tasks.Goals as goal

pub collect-requires-clause-ready : goal.collect-requires-clause-ready
collect-requires-clause-ready g c =
    let ends = c.into_par_iter.ensures in
    let end = c.args.end in
    let inside =
    nat_range-All (λ i. (i < 2 ^ end) × CanStart c.args.root c.args.tops.now c.args.y end) 0 (1 * 2 ^ end % 18446744073709551616)
    (λ i low high. (omega arith, c.requires)) in
    rw (c.map.ensures.base, c.map.ensures.f, c.with_min_len.ensures.base, ends.0, ends.1) (λ κs within k d lt. (inside k d lt, λ y q. tt))

pub returns : goal.returns
returns g c =
    let P = c.args.root.edges.problem.now in
    let end = c.args.end in
    let shift = one_shl end 64 (omega arith) in
    let found = c.in_ok-parts.ensures in
    let from = rw (c.map.ensures.base, c.with_min_len.ensures.base) at found.1.1 in
    let places = from ∙ (λ i. nat_range (c.into_par_iter.ensures.0 i) (c.into_par_iter.ensures.1 i)) in
    let parts = subst
    (λ m. AllZip (λ k (r : Result (Option (ℕ × ℕ)) AllocError). IfOk r (IsFirstEdge (FailsInBlock c.args.root.edges (part_at end k * 2 ^ (m - end)) (m - end))))
    found.1.0 found.0) c.requires.whole (rw c.map.ensures.f at found.1.2) in
    IfOk-then c.first_of_parts.result _ _ c.first_of_parts.ensures (λ edge first.
    parts_first P.inputs (functions P) c.args.root.edges.values.now c.args.root.edges.judged.now end (1 * 2 ^ end % 18446744073709551616 - 0) found.1.0 found.0
    places (omega arith) (omega arith) (omega arith) c.args.root.edges.tables.judged_all parts edge
    (subst (λ (ps : List (Result (Option (ℕ × ℕ)) AllocError)). IsFirstOfParts ps edge) (c.deref.ensures.value ∙ found.2) first))
