use Rattle.std.proofs.Common.{length, sym, subst, ◌∙◌, arith}
use Rattle.std.proofs.lemmas.List.{length-take-le}
use Rattle.subfunction_classes.specs.PairTables.{AllBelow}
use Rattle.class_tables.proofs.scratch.count_in.Goals as goal

pub first_pairs-requires-clause-table : goal.first_pairs-requires-clause-table
first_pairs-requires-clause-table c = record {
  paired = c.rank.ensures.paired;
  few = c.args.pairs.now.few_entries;
  below =
      subst (AllBelow c.args.pairs.now.entries.numbers) (sym (length-take-le (length c.args.pairs.now.masks.now) c.args.heads.now (omega arith)))
      c.args.pairs.now.below;
}

pub first_pairs-requires-clause-stamps_len : goal.first_pairs-requires-clause-stamps_len
first_pairs-requires-clause-stamps_len c =
    length-take-le (length c.args.pairs.now.masks.now) c.args.stamps.now (omega arith)
    ∙ sym (length-take-le (length c.args.pairs.now.masks.now) c.args.heads.now (omega arith))

pub first_pairs-requires-clause-marks_len : goal.first_pairs-requires-clause-marks_len
first_pairs-requires-clause-marks_len c =
    length-take-le (length c.args.pairs.now.masks.now) c.args.marks.now (omega arith)
    ∙ sym (length-take-le (length c.args.pairs.now.masks.now) c.args.heads.now (omega arith))
