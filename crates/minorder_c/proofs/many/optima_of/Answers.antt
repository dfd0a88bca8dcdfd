use Rattle.std.proofs.Common.{◌≡◌, ℕ, ◌*◌, refl, ap, ◌∙◌, arith}
use Rattle.definitions.specs.Problems.{words_of}
use Rattle.minorder_c.proofs.Parts.{block_fits, more_put, none_put, part_tables}
use Rattle.minorder_c.proofs.many.optima_of.Goals as goal

pub put-requires : goal.put-requires
put-requires c =
    part_tables c.args.given.now _ _ c.args.many c.loop-i.i _ c.requires c.loop-i-test.true
    (c.block-words.ensures
    ∙ ap (λ (w : ℕ). words_of (c.args.given.now.outputs * w) c.args.given.now.words.now c.loop-i.i) c.words_per_table.ensures.value) refl refl

pub loop-i-preserved : goal.loop-i-preserved
loop-i-preserved c =
    let a = c.loop-i.answers in
    let b = c.put.new.answers in
    more_put c.args.given.now c.loop-i.i _ a.orders.items b.orders.items a.levels.items b.levels.items a.totals.items b.totals.items c.loop-i.invariant
    (c.block-words.ensures
    ∙ ap (λ (w : ℕ). words_of (c.args.given.now.outputs * w) c.args.given.now.words.now c.loop-i.i) c.words_per_table.ensures.value) refl refl
    c.in_ok-put.ensures

pub loop-i-init : goal.loop-i-init
loop-i-init c = none_put _ _ _ _ c.new-answers.ensures.orders c.new-answers.ensures.levels c.new-answers.ensures.totals

pub block-words-requires : goal.block-words-requires
block-words-requires c = block_fits c.args.given.now _ _ c.args.many _ _ c.requires c.loop-i-test.true c.words_per_table.ensures.value

pub returns-clause-orders : goal.returns-clause-orders
returns-clause-orders c =
    let all : c.loop-i.i ≡ c.args.many = omega arith in
    c.loop-i.invariant.orders_long ∙ ap (λ k. k * c.args.given.now.inputs) all

pub returns-clause-levels : goal.returns-clause-levels
returns-clause-levels c =
    let all : c.loop-i.i ≡ c.args.many = omega arith in
    c.loop-i.invariant.levels_long ∙ ap (λ k. k * c.args.given.now.inputs) all
