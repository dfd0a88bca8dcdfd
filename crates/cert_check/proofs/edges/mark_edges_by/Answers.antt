use Rattle.std.proofs.Common.{◌≡◌, ◌+◌, ◌*◌, ◌%◌, ◌^◌, ◌<◌, length, slice_index, bit_or, set, sym, ap, ◌∙◌, subst, arith}
use Rattle.std.proofs.lemmas.List.{get_or_default}
use Rattle.std.proofs.lemmas.Nat.{one_shl}
use Rattle.edge_walks.specs.Marks.{AreMarked}
use Rattle.edge_walks.proofs.EdgeMarks.{marked_more, marked_same}
use Rattle.cert_check.proofs.edges.mark_edges_by.Goals as goal
use Rattle.cert_check.proofs.edges.mark_edges_by.Goals.{then-is_edge_from, else-is_edge_from}

pub loop-number-preserved : goal.loop-number-preserved
loop-number-preserved c =
    let n = c.args.inputs in
    let P = c.args.pairs.now in
    let v = c.args.values.now in
    let s = c.args.sources.now in
    let x = c.args.x in
    let S = c.loop-number.number in
    let xs = c.loop-number.judged.items in
    elim c.if-is_edge_from.branch [
      | then-is_edge_from w ↦
          let o = one_shl x 16 (omega arith) in
          let into : S + 1 * 2 ^ x % 65536 ≡ S + 2 ^ x = ap (λ k. S + k) o in
          let found = c.is_edge_from.ensures.found w.if-is_edge_from.true in
          let more = marked_more n P v s x S xs c.loop-number.invariant (omega arith) found.0 found.1 in
          let U = S + 1 * 2 ^ x % 65536 in
          let within : U < length xs = omega (arith, c.loop-number.invariant.long, found.0) in
          let before : slice_index xs U ≡ w.index_mut.result.now = sym (w.index_mut.ensures.value ∙ get_or_default xs U w.index_mut.result.now 0 within) in
          rw (w.judged-is) (subst (λ b. AreMarked n P v s x (S + 1) (set xs U (bit_or b (1 * 2 ^ x % 65536)))) before
          (subst (λ k. AreMarked n P v s x (S + 1) (set xs k (bit_or (slice_index xs k) (1 * 2 ^ x % 65536)))) (sym into) more))
      | else-is_edge_from w ↦ rw (w.judged-is) (marked_same n P v s x S xs c.loop-number.invariant (c.is_edge_from.ensures.none w.if-is_edge_from.false))
    ]
