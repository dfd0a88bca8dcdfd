use Rattle.std.proofs.Common.{◌≡◌, ◌*◌, ◌++◌, length, get_or, map, take, IfOk, sym, ap, ◌∙◌, subst, arith, rules}
use Rattle.std.specs.Fork.{slice_chunk}
use Rattle.std.proofs.lemmas.Iterator.Adapters.{YieldsList-from_vec}
use Rattle.std.proofs.lemmas.Iterator.Consumers.{YieldsList-turn, YieldsList-end}
use Rattle.std.proofs.lemmas.List.{length_push}
use Rattle.subfunction_classes.specs.Table.{ClassesOf, with_variable}
use Rattle.compaction.proofs.JoinedTables.{all_chunks, chunk_more}
use Rattle.compaction.proofs.shared_tables.with_low_by_threads.Goals as goal

pub loop-part-preserved : goal.loop-part-preserved
loop-part-preserved g c =
    let tables = c.args.tables.now in
    let size = c.max-size.result in
    let larger = λ (t : ClassesOf). with_variable t c.args.x in
    let n = length c.loop-part.yielded in
    let parts = c.in_ok-parts.parts in
    let turn = YieldsList-turn (YieldsList-from_vec {s = c.into_iter-part-iterator.result} parts.items (search rules) (search rules))
    c.loop-part.yielded c.loop-part.part-iterator c.loop-part.yielded_by c.next.result c.next.new.self
    c.in-Some.part c.in-Some.is c.next.ensures.steps in
    let own : c.in_ok-part.part.items ≡ map larger (slice_chunk tables size n) =
    (let k = (c.in_ok-parts.ensures.each n c.in-Some.part (let l = parts.ok.0 in let t = turn.0 in omega arith)).1 in
    subst (λ r. IfOk r (λ v. v.items ≡ map larger (slice_chunk tables size n))) (sym turn.1 ∙ c.in_ok-part.was)
    (subst (λ xs. IfOk (get_or parts.items n c.in-Some.part) (λ v. v.items ≡ map larger xs)) k.argument_is.value k.call)) in
    c.in_ok-append.ensures.items ∙ (λ i. c.loop-part.invariant i ++ own i) ∙ sym (chunk_more larger tables size n)
    ∙ ap (λ k. map larger (take (k * size) tables)) (sym (length_push c.loop-part.yielded c.in-Some.part))

pub returns : goal.returns
returns g c =
    let parts = c.in_ok-parts.parts in
    let end = YieldsList-end (YieldsList-from_vec {s = c.into_iter-part-iterator.result} parts.items (search rules) (search rules))
    c.loop-part.yielded c.loop-part.part-iterator c.loop-part.yielded_by c.next.result c.next.new.self
    c.in-None.is c.next.ensures.steps in
    let m = c.max-size.ensures in
    let p = c.in_ok-parts.ensures.len in
    c.loop-part.invariant
    ∙ all_chunks (λ (t : ClassesOf). with_variable t c.args.x) c.args.tables.now c.max-size.result (length c.loop-part.yielded) (omega arith)
    (let l = parts.ok.0 in let e = end.1 in omega arith)
