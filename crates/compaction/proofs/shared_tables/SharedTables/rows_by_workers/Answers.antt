use Rattle.std.proofs.Common.{All, IfOk, IfSome, sym, subst}
use Rattle.std.proofs.lemmas.List.Elements.{All-append, All-pop}
use Rattle.compaction.specs.Rows.{HoldsRows}
use Rattle.compaction.proofs.shared_tables.SharedTables.rows_by_workers.Goals as goal

pub loop-part-preserved : goal.loop-part-preserved
loop-part-preserved g c =
    let holds = HoldsRows c.args.self.now in
    let popped = All-pop (λ r. IfOk r (λ v. All holds v.items)) c.loop-part.parts.items c.pop.new.self.items c.pop.result c.pop.ensures.items
    c.loop-part.invariant.parts in
    let part = subst (λ r. IfOk r (λ v. All holds v.items)) c.in_ok-part.was
    (subst (λ o. IfSome o (λ r. IfOk r (λ v. All holds v.items))) c.in-Some.is popped.1) in
    record {
      parts = popped.0;
      found = subst (All holds) (sym c.in_ok-append.ensures.items)
          (All-append holds c.loop-part.found.items c.in_ok-part.field-0.items c.loop-part.invariant.found part);
    }
