use Rattle.std.proofs.Common.{sym, subst, ◌∙◌}
use Rattle.subfunction_classes.specs.PairTables.{AllBelow}
use Rattle.class_tables.specs.Chains.{AreRowsFor}
use Rattle.class_tables.proofs.chains.first_pairs.Goals as goal

pub first_occurrences-requires-clause-rows : goal.first_occurrences-requires-clause-rows
first_occurrences-requires-clause-rows c =
    let long = c.fill-2.ensures.len ∙ c.requires.stamps_len in
    subst (λ t. AreRowsFor t c.fill-2.new.self c.args.marks.now c.args.first.now) (sym c.of-chains.ensures.entries)
    (record {
      paired = c.requires.table.paired;
      classes = subst (AllBelow c.args.entries.now.numbers) (sym long) c.requires.table.below;
      marks_len = c.requires.marks_len ∙ sym long;
      first_len = c.requires.first_len;
    })
