use Rattle.std.proofs.Common.{◌^◌, ◌∙◌, inl, inr, sym, subst, arith}
use Rattle.std.proofs.lemmas.Bool.{cases_eq}
use Rattle.subfunction_classes.specs.PairTables.{AllBelow}
use Rattle.subfunction_classes.specs.Numbering.{IsFirstOccurrence}
use Rattle.class_tables.specs.Chains.{lower_at}
use Rattle.subfunction_classes.specs.Places.{pair_at}
use Rattle.class_tables.proofs.chains.first_occurrences.Goals as goal

pub loop-lower-preserved : goal.loop-lower-preserved
loop-lower-preserved c = record {
  stamps = c.walk_chain.ensures.stamps;
  done = λ j l m. elim (cases_eq (lower_at c.args.chains.now.entries.now.numbers (2 ^ c.args.chains.now.entries.now.rank) j) c.loop-lower.lower) [
    | inl e ↦ c.walk_chain.ensures.own j l e
    | inr ne ↦ subst (IsFirstOccurrence (pair_at c.args.chains.now.entries.now.numbers (2 ^ c.args.chains.now.entries.now.rank)) j)
        (sym (c.walk_chain.ensures.others j l ne)) (c.loop-lower.invariant.done j l (omega arith))
  ];
}

pub returns : goal.returns
returns c = grind arith

pub walk_chain-requires-clause-rows : goal.walk_chain-requires-clause-rows
walk_chain-requires-clause-rows c =
    let rows = c.requires.rows in
    let long = c.loop-lower.auto in
    record {
      paired = rows.paired;
      classes = subst (AllBelow c.args.chains.now.entries.now.numbers) (sym long.stamps) rows.classes;
      marks_len = long.marks ∙ rows.marks_len ∙ sym long.stamps;
      first_len = long.first ∙ rows.first_len;
    }
