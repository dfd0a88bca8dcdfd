use Rattle.std.proofs.Common.{◌≡◌, ◌++◌, length, drop, refl, sym, ap, subst, ◌∙◌}
use Rattle.minorder_c.specs.Diagrams.{IsDiagramFor}
use Rattle.minorder_c.proofs.Statuses.{other}
use Rattle.minorder_c.proofs.diagrams.minorder_diagram_with_lengths.Goals as goal

pub returns-else-nodes-len-clause-written : goal.returns-else-nodes-len-clause-written
returns-else-nodes-len-clause-written c =
    let nodes = c.deref.result.now in
    let long : length nodes ≡ c.len.result = c.deref.ensures.len ∙ sym c.len.ensures in
    λ _. record {
      items = nodes;
      is = subst (λ z. z) (λ i. IsDiagramFor (c.of-given.ensures i) c.args.order.now (sym c.deref.ensures.value i)
          (sym (c.copy_from_slice.ensures.after ∙ c.deref-in-Ok.ensures.value) i)) c.in-Ok.ensures.diagram;
      long = long;
      front = c.put_front.ensures ∙ ap (λ k. nodes ++ drop k c.args.nodes.now) long;
    }

pub returns-else-nodes-len-clause-short : goal.returns-else-nodes-len-clause-short
returns-else-nodes-len-clause-short c = other 0 7 refl
