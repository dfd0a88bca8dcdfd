use Rattle.std.proofs.Common.{◌≡◌, inl, length, slice_index, ap, sym, subst, rules}
use Rattle.edge_walks.specs.Walks.{AreAllGuides}
use Rattle.edge_walks.proofs.fewer_edges.fewer_edges.Goals as goal
use Rattle.edge_walks.proofs.fewer_edges.fewer_edges.Goals.{then-len-gt1+then-saturating_mul-steps+in_ok-leave_out_orbits, else-len-gt1}

pub leave_out_orbits-requires-clause-guides : goal.leave_out_orbits-requires-clause-guides
leave_out_orbits-requires-clause-guides c = subst (AreAllGuides c.args.edges) (sym c.deref-then-saturating_mul-steps.ensures.value) c.in_ok-guides.ensures

pub leave_out-requires-clause-guides : goal.leave_out-requires-clause-guides
leave_out-requires-clause-guides c = subst (AreAllGuides c.args.edges) (sym c.deref.ensures.value) c.in_ok-guides.ensures

pub leave_out-requires-clause-fewer : goal.leave_out-requires-clause-fewer
leave_out-requires-clause-fewer c =
    let same : c.in_ok-fewer.fewer.items ≡ c.args.edges.judged.now = search rules in
    record { long = ap length same; each = λ T. inl (ap (λ us. slice_index us T) same) }

pub returns : goal.returns
returns c = elim c.if-len-gt1.branch [
  | then-len-gt1+then-saturating_mul-steps+in_ok-leave_out_orbits w ↦ rw w.fewer-is w.in_ok-leave_out_orbits.ensures
  | else-len-gt1 w ↦ rw w.fewer-is c.leave_out.ensures
]
