use Rattle.std.proofs.Common.{sym, ap, ◌∙◌, subst, arith}
use Rattle.definitions.specs.KeptPairs.{KeptPairs}
use Rattle.definitions.specs.Pairs.{IsFirstOrder}
use Rattle.pla_reader.specs.Covers.{functions_of}
use Rattle.report.proofs.LevelCounts.{functions_long}
use Rattle.truth_table.proofs.OfCovers.{tables_value}
use Rattle.report.proofs.search.manager_of.Goals as goal

pub with_pairs-requires-clause-few : goal.with_pairs-requires-clause-few
with_pairs-requires-clause-few c =
    let cover = c.args.input.now.cover.now in
    let long = c.diagrams_have_their_functions_tables.ensures.roots cover.inputs (functions_of cover)
    c.args.starting.order c.args.starting c.requires.diagram in
    let outputs = functions_long cover in
    let few = c.outputs.ensures.few in
    let value = c.outputs.ensures.value in
    omega arith

pub with_pairs-requires-clause-inputs : goal.with_pairs-requires-clause-inputs
with_pairs-requires-clause-inputs c = ap (λ (k : KeptPairs). k.inputs) c.copied.ensures ∙ c.args.input.now.are_its_pairs ∙ sym c.requires.long

pub returns : goal.returns
returns c =
    let cover = c.args.input.now.cover.now in
    let tables =
    c.diagrams_have_their_functions_tables.ensures.tables cover.inputs (functions_of cover) c.args.starting.order
    c.args.starting c.requires.long c.requires.diagram in
    record {
      first = subst (IsFirstOrder cover.inputs c.args.input.now.pairs.now.pairs) (sym c.in_ok-manager.ensures.order) c.requires.starts;
      functions = c.in_ok-manager.ensures.functions ∙ tables
          ∙ sym (tables_value cover c.args.input.now.tables.now c.args.input.now.are_its_tables);
      pairs = c.in_ok-manager.ensures.pairs ∙ ap (λ (k : KeptPairs). k.pairs) c.copied.ensures;
    }
