use Rattle.order_counts.proofs.Entries.{none}
use Rattle.order_counts.proofs.Counts.{raised_none}
use Rattle.std.proofs.Common.{◌≡◌, ◌-◌, ◌≤◌, length, get_or, sym, ◌∙◌, subst, arith, ap}
use Rattle.definitions.specs.Problems.{functions}
use Rattle.order_counts.proofs.SetCounts.{counts_of_empty_span, counts_of_span, counts_of_unlawful}
use Rattle.order_counts.proofs.set_counts.counts_of_set.Goals as goal

pub returns-then-not-lawful : goal.returns-then-not-lawful
returns-then-not-lawful c =
    let given = c.args.given in
    counts_of_unlawful given.pairs.now.inputs (functions given.problem.now) given.pairs.now.pairs c.args.set (get_or given.limits.now c.args.set 0)
    c.none.result (sym c.lawful.ensures ∙ c.if-not-lawful.true) c.none.ensures.least c.none.ensures.none

pub returns-then-end-span : goal.returns-then-end-span
returns-then-end-span c =
    let given = c.args.given in
    let empty = subst (λ e. e ≤ c.span_of_set-span.result.start) c.min-end.ensures c.if-end-span.true in
    counts_of_empty_span given c.requires.given c.args.set c.requires.given.inputs c.requires.within
    (λ z. absurd (let some = c.requires.some in omega arith)) (sym c.lawful.ensures ∙ c.if-not-lawful.false)
    c.args.smaller.now c.requires.smaller c.span_of_set-span.result c.span_of_set-span.ensures c.none-then-end-span.result c.none-then-end-span.result empty
    c.none-then-end-span.ensures.least c.none-then-end-span.ensures.none

pub returns : goal.returns
returns c =
    let given = c.args.given in
    let end = c.min-end.ensures in
    let more = c.if-end-span.false in
    let long : length c.in_ok-vec.field-0.items ≡ c.min-end.result - c.span_of_set-span.result.start =
    sym c.in_ok-vec.field-0.ok.0 ∙ c.in_ok-vec.ensures.len in
    counts_of_span given c.requires.given c.args.set c.requires.given.inputs c.requires.within
    (λ z. absurd (let some = c.requires.some in omega arith)) (sym c.lawful.ensures ∙ c.if-not-lawful.false)
    c.args.smaller.now c.requires.smaller c.span_of_set-span.result c.span_of_set-span.ensures c.add_orders.new.counts c.add_orders.new.counts
    c.add_orders.ensures.least (omega (arith, c.add_orders.ensures.least, c.add_orders.ensures.long, long, end, more))
    (λ k low high. c.add_orders.ensures.counts k (omega (arith, c.add_orders.ensures.least))
    (omega (arith, c.add_orders.ensures.least, c.add_orders.ensures.long)))

pub add_orders-requires : goal.add_orders-requires
add_orders-requires c =
    let start = c.span_of_set-span.result.start in
    let items = c.in_ok-vec.field-0.items in
    record {
      given_are = c.requires.given;
      some = c.requires.some;
      within = c.requires.within;
      lawful = sym c.lawful.ensures ∙ c.if-not-lawful.false;
      smaller_are = c.requires.smaller;
      none = raised_none (λ i. get_or items i 0) start
          (λ i. ap (λ xs. get_or xs i 0) (c.in_ok-vec.ensures.items_if_clones_equal (λ y e. e)) ∙ none (c.min-end.result - start) i);
      limit = omega (arith, c.in_ok-vec.field-0.ok.0, c.in_ok-vec.ensures.len, c.min-end.ensures, c.if-end-span.false);
      least = λ x s small bit some. (c.span_of_set-span.ensures x s small bit some).0;
    }
