use Rattle.std.proofs.Common.{◌-◌, ◌∙◌, arith}
use Rattle.unique_table.specs.Copies.{words_in}
use Rattle.unique_table.proofs.NodeCopies.{copies_step}
use Rattle.unique_table.proofs.PageNumbers.{read_as}
use Rattle.std.proofs.lemmas.Grind.{common_steps}
use Rattle.unique_table.proofs.node_copies.+copy.Goals as goal

pub returns-clause-copies : goal.returns-clause-copies
returns-clause-copies t c =
    let number = read_as c.args.numbers.now (c.args.id - 2) c.get-number.result c.get-number.ensures in
    copies_step c.args.order.now (words_in c.args.closed.now c.args.places) c.args.numbers.now c.copy.new.numbers
    c.copy-2.new.numbers c.add.new.numbers
    c.args.nodes.now.items c.copy.new.nodes.items c.copy-2.new.nodes.items c.add.new.nodes.items
    c.args.id c.word_at.result c.from.result c.node_parts-parts.result.low c.node_parts-parts.result.high c.get-number.result
    c.in_ok-low.low c.in_ok-high.high c.in_ok-made.made
    c.requires.nodes.nodes c.if-id-lt2.false number c.if-number-ne0.false c.requires.known c.requires.copied.size
    c.word_at.ensures (c.from.ensures ∙ c.node_parts-parts.ensures.level) c.node_parts-parts.ensures.low c.node_parts-parts.ensures.high
    c.in_ok-low.ensures.copies c.in_ok-high.ensures.copies c.in_ok-made.ensures.numbers c.in_ok-made.ensures.nodes c.in_ok-made.ensures.made

pub add-requires-clause-place : goal.add-requires-clause-place
add-requires-clause-place t c = grind (arith, common_steps)

pub get-number-requires : goal.get-number-requires
get-number-requires t c = grind (arith, common_steps)
