use Rattle.std.proofs.lemmas.List.{take-replicate}
use Rattle.unique_table.proofs.create.blank_words.Goals as goal

pub returns : goal.returns
returns c = take-replicate c.args.count 328720 0 c.requires
