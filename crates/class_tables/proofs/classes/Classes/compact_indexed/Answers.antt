use Rattle.class_tables.proofs.MoreClasses.{numbered_more}
use Rattle.class_tables.proofs.classes.Classes.compact_indexed.Goals as goal

pub with_numbers-requires-clause-classes : goal.with_numbers-requires-clause-classes
with_numbers-requires-clause-classes c =
    let p = c.pairs_by.ensures in
    numbered_more c.args.self.now c.args.x c.requires.inside c.requires.new c.pairs_by.result p.classes p.rank p.variable
    c.in_ok-numbered.numbered.numbers.items c.in_ok-numbered.numbered.masks.items c.in_ok-numbered.ensures
