use Rattle.order_counts.proofs.Entries.{none}
use Rattle.std.proofs.lemmas.Grind.{get_or-set_at}
use Rattle.std.proofs.Common.{◌≡◌, ◌+◌, ◌-◌, ◌*◌, ◌%◌, ◌^◌, ◌<◌, ◌≤◌, [], length, get_or, sym, ap, ◌∙◌, subst, arith, set, length-set}
use Rattle.std.proofs.lemmas.List.{with_items_is, get_or-set_other}
use Rattle.std.proofs.lemmas.Nat.{one_shl, pow_pos}
use Rattle.definitions.specs.Problems.{functions}
use Rattle.order_counts.proofs.LimitsFrom.{AreLimitsFrom, limits_from_more, limits_from_last}
use Rattle.order_counts.proofs.PassedOn.{IsPassedOn}
use Rattle.order_counts.proofs.limits.limits_of_sets.Goals as goal

pub loop-place-preserved : goal.loop-place-preserved
loop-place-preserved c =
    let n = c.args.pairs.now.inputs in
    let k = c.loop-place.place in
    let few : n ≤ 16 = c.inputs-inputs.ensures.kept.few in
    let inputs = c.inputs-inputs.ensures.value in
    let sets : 1 * 2 ^ c.inputs-inputs.result % 18446744073709551616 ≡ 2 ^ n = one_shl c.inputs-inputs.result 64 (omega arith) ∙ ap (λ k. 2 ^ k) inputs in
    let old = c.loop-place.limits in
    let new = c.pass_on.new.limits in
    let long = c.pass_on.ensures.long ∙ ap length c.deref_mut.ensures.value in
    let mask = 2 ^ n - 1 - k in
    let widths = c.args.widths.now in
    let more : k + 1 < 2 ^ n = omega (arith, c.loop-place-test.true, sets) in
    let place : 1 * 2 ^ c.inputs-inputs.result % 18446744073709551616 - 1 - k ≡ mask = ap (λ s. s - 1 - k) sets in
    let clauses = c.pass_on.ensures in
    let at = 1 * 2 ^ c.inputs-inputs.result % 18446744073709551616 - 1 - k in
    let passed : IsPassedOn c.deref_mut.result.now new (get_or widths at []) at c.inputs-inputs.result =
    record { rise = clauses.rise; more = clauses.more; above = clauses.above; small = clauses.small } in
    let here = subst (λ m. IsPassedOn old.items new (get_or widths m []) m n) place
    (subst (λ m. IsPassedOn old.items new (get_or widths at []) at m) inputs
    (subst (λ ls. IsPassedOn ls new (get_or widths at []) at c.inputs-inputs.result) c.deref_mut.ensures.value passed)) in
    subst (AreLimitsFrom n (functions c.args.problem.now) c.args.limit (k + 1)) (sym (with_items_is old new (long ∙ sym old.ok.0)))
    (limits_from_more n (functions c.args.problem.now) c.args.limit k old.items new (get_or widths mask []) few more c.loop-place.invariant
    (c.requires.are mask (omega (arith, more))) long here)

pub loop-place-init : goal.loop-place-init
loop-place-init c =
    let n = c.args.pairs.now.inputs in
    let few : n ≤ 16 = c.inputs-inputs.ensures.kept.few in
    let inputs = c.inputs-inputs.ensures.value in
    let last = 1 * 2 ^ c.inputs-inputs.result % 18446744073709551616 - 1 in
    let all : last ≡ 2 ^ n - 1 = ap (λ s. s - 1) (one_shl c.inputs-inputs.result 64 (omega arith) ∙ ap (λ k. 2 ^ k) inputs) in
    let old = c.in_ok-limits.limits.items in
    let long : length old ≡ 2 ^ n = omega (arith, c.in_ok-limits.limits.ok.0, c.in_ok-limits.ensures.len, all, pow_pos n) in
    limits_from_last n (functions c.args.problem.now) c.args.limit (set old last c.args.limit) (length-set old last c.args.limit ∙ long)
    (get_or-set_at old last (2 ^ n - 1) c.args.limit 0 (sym all) (omega (arith, long, all, pow_pos n)))
    (λ mask ne. get_or-set_other old last mask c.args.limit 0 (λ e. ne (e ∙ all))
    ∙ ap (λ xs. get_or xs mask 0) (c.in_ok-limits.ensures.items_if_clones_equal (λ y e. e)) ∙ none (last + 1) mask)
