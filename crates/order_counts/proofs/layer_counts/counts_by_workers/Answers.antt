use Rattle.std.proofs.Common.{◌≡◌, ◌+◌, ◌*◌, ◌%◌, ◌^◌, ◌<◌, ◌≤◌, IfOk, length, sym, ap, ◌∙◌, subst, arith, rules}
use Rattle.std.proofs.lemmas.Iterator.Adapters.{YieldsList-from_vec}
use Rattle.std.proofs.lemmas.Iterator.Consumers.{YieldsList-turn, YieldsList-end}
use Rattle.std.proofs.lemmas.List.{length_push}
use Rattle.std.proofs.lemmas.Grind.{div_ceil_times}
use Rattle.std.proofs.lemmas.Nat.{one_shl}
use Rattle.std.specs.Int.{div_ceil}
use Rattle.order_counts.specs.Sizes.{AreCountsBetween, first_of_part}
use Rattle.order_counts.proofs.LayerCounts.{counts_joined, counts_none, part_ordered, parts_all, parts_none, whole_layer}
use Rattle.order_counts.proofs.layer_counts.counts_by_workers.Goals as goal

pub loop-part-init : goal.loop-part-init
loop-part-init g c =
    let sets = 1 * 2 ^ c.inputs.result % 18446744073709551616 in
    subst (λ k. AreCountsBetween c.args.given c.args.size 0 k c.in_ok-counts.counts.items) (sym (parts_none c.div_ceil-step.result sets))
    (subst (AreCountsBetween c.args.given c.args.size 0 0) (sym c.in_ok-counts.ensures.items) (counts_none c.args.given c.args.size 0))

pub loop-part-preserved : goal.loop-part-preserved
loop-part-preserved g c =
    let given = c.args.given in
    let size = c.args.size in
    let sets = 1 * 2 ^ c.inputs.result % 18446744073709551616 in
    let step = c.div_ceil-step.result in
    let n = length c.loop-part.yielded in
    let parts = c.in_ok-found.found in
    let turn = YieldsList-turn (YieldsList-from_vec {s = c.into_iter-part-iterator.result} parts.items (search rules) (search rules))
    c.loop-part.yielded c.loop-part.part-iterator c.loop-part.yielded_by c.next.result c.next.new.self
    c.in-Some.part c.in-Some.is c.next.ensures.steps in
    let inside : n < c.parts_of-parts.result = (let l = parts.ok.0 in let t = turn.0 in let m = c.in_ok-found.ensures.len in omega arith) in
    let own : AreCountsBetween given size (first_of_part step sets n) (first_of_part step sets (n + 1)) c.in_ok-part.part.items =
    (let k = (c.in_ok-found.ensures.each n c.in-Some.part inside).1 in
    subst (λ r. IfOk r (λ v. AreCountsBetween given size (first_of_part step sets n) (first_of_part step sets (n + 1)) v.items))
    (sym turn.1 ∙ c.in_ok-part.was) k.met) in
    subst (λ k. AreCountsBetween given size 0 (first_of_part step sets k) c.append.new.self.items) (sym (length_push c.loop-part.yielded c.in-Some.part))
    (subst (AreCountsBetween given size 0 (first_of_part step sets (n + 1))) (sym c.in_ok-append.ensures.items)
    (counts_joined given size (first_of_part step sets n) (first_of_part step sets (n + 1)) c.loop-part.counts.items c.in_ok-part.part.items
    (part_ordered step sets n) c.loop-part.invariant own))

pub returns : goal.returns
returns g c =
    let parts = c.in_ok-found.found in
    let few = c.requires.given.inputs in
    let sets : 1 * 2 ^ c.inputs.result % 18446744073709551616 ≡ 2 ^ c.args.given.pairs.now.inputs =
    one_shl c.inputs.result 64 (omega (arith, few, c.inputs.ensures.value)) ∙ ap (λ k. 2 ^ k) c.inputs.ensures.value in
    let end = YieldsList-end (YieldsList-from_vec {s = c.into_iter-part-iterator.result} parts.items (search rules) (search rules))
    c.loop-part.yielded c.loop-part.part-iterator c.loop-part.yielded_by c.next.result c.next.new.self
    c.in-None.is c.next.ensures.steps in
    let all : length c.loop-part.yielded ≡ c.parts_of-parts.result =
    (let l = parts.ok.0 in let e = end.1 in let m = c.in_ok-found.ensures.len in omega arith) in
    let masks = 1 * 2 ^ c.inputs.result % 18446744073709551616 in
    let step = div_ceil masks c.parts_of-parts.result in
    let some = c.parts_of-parts.ensures.some in
    let room = (div_ceil_times masks c.parts_of-parts.result (some)).0 in
    let turned : c.parts_of-parts.result * step ≡ step * c.parts_of-parts.result = omega arith in
    let product : length c.loop-part.yielded * c.div_ceil-step.result ≡ step * c.parts_of-parts.result =
    ap (λ k. k * c.div_ceil-step.result) all ∙ ap (λ k. c.parts_of-parts.result * k) c.div_ceil-step.ensures ∙ turned in
    let enough : masks ≤ length c.loop-part.yielded * c.div_ceil-step.result = subst (λ k. masks ≤ k) (sym product) room in
    whole_layer c.args.given c.args.size _ c.loop-part.counts.items
    (parts_all c.div_ceil-step.result (1 * 2 ^ c.inputs.result % 18446744073709551616) (length c.loop-part.yielded) enough ∙ sets)
    c.loop-part.invariant
