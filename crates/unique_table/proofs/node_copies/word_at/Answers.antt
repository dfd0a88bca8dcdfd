use Rattle.std.proofs.Common.{sym, ◌∙◌}
use lib.Seq.{get_or-take}
use Rattle.std.specs.Slots.{slots_items}
use Rattle.unique_table.proofs.FoundWords.{get_or_found}
use Rattle.unique_table.proofs.node_copies.word_at.Goals as goal

pub returns : goal.returns
returns c =
    sym (get_or-take c.args.places (slots_items c.args.closed.now.words) c.args.place 0 c.requires.place
    ∙ get_or_found (slots_items c.args.closed.now.words) c.args.place c.word.result c.word.ensures)
