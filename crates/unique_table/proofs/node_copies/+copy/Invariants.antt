use Rattle.std.proofs.Common.{◌-◌, length}
use Rattle.node_words.specs.Meaning.{depth}
use Rattle.unique_table.specs.Copies.{words_in}
use Rattle.unique_table.proofs.node_copies.+copy.Given as goal

abbrev pub decreases-copy : goal.decreases-copy
decreases-copy l = length l.order.now - depth (length l.order.now) (words_in l.closed.now l.places) l.id
