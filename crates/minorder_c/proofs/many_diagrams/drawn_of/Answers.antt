use Rattle.std.proofs.Common.{ℕ, ◌*◌, refl, ap, ◌∙◌, arith}
use Rattle.definitions.specs.Problems.{words_of}
use Rattle.minorder_c.proofs.DrawnParts.{all_drawn, more_drawn, none_drawn}
use Rattle.minorder_c.proofs.Parts.{block_fits, part_tables}
use Rattle.minorder_c.proofs.many_diagrams.drawn_of.Goals as goal

pub put_drawn-requires : goal.put_drawn-requires
put_drawn-requires c =
    part_tables c.args.given.now _ _ c.args.many c.loop-i.i _ c.requires c.loop-i-test.true
    (c.block-words.ensures
    ∙ ap (λ (w : ℕ). words_of (c.args.given.now.outputs * w) c.args.given.now.words.now c.loop-i.i) c.words_per_table.ensures.value) refl refl

pub loop-i-preserved : goal.loop-i-preserved
loop-i-preserved c =
    let a = c.loop-i.drawn in
    let b = c.put_drawn.new.drawn in
    more_drawn c.args.given.now c.loop-i.i _ a.answers.orders.items b.answers.orders.items a.answers.levels.items b.answers.levels.items
    a.answers.totals.items b.answers.totals.items a.nodes.items b.nodes.items a.roots.items b.roots.items c.loop-i.invariant
    (c.block-words.ensures
    ∙ ap (λ (w : ℕ). words_of (c.args.given.now.outputs * w) c.args.given.now.words.now c.loop-i.i) c.words_per_table.ensures.value) refl refl
    c.in_ok-put_drawn.ensures

pub returns : goal.returns
returns c =
    let d = c.loop-i.drawn in
    all_drawn c.args.given.now c.loop-i.i c.args.many d.answers.orders.items d.answers.levels.items d.answers.totals.items d.nodes.items d.roots.items
    (omega arith) c.loop-i.invariant

pub loop-i-init : goal.loop-i-init
loop-i-init c =
    none_drawn _ _ _ _ _ _ c.new.ensures.orders c.new.ensures.levels c.new.ensures.totals c.new-2.ensures.items c.new-3.ensures.items

pub block-words-requires : goal.block-words-requires
block-words-requires c = block_fits c.args.given.now _ _ c.args.many _ _ c.requires c.loop-i-test.true c.words_per_table.ensures.value
