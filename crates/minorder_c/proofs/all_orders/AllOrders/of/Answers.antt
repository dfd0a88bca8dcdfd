use Rattle.std.proofs.Common.{◌∙◌, subst, arith}
use Rattle.std.proofs.lemmas.List.{length-map}
use Rattle.definitions.specs.AllOrders.{AreAllWidths}
use Rattle.definitions.specs.Functions.{from_table}
use Rattle.definitions.specs.Problems.{functions}
use Rattle.definitions.proofs.Bits.Problems.{length-tables_of}
use Rattle.minorder_c.specs.Answers.{tables_in}
use Rattle.minorder_c.proofs.all_orders.AllOrders.of.Goals as goal

pub returns-clause-all : goal.returns-clause-all
returns-clause-all c =
    let g = c.args.given.now in
    let many = length-map (tables_in c.args.given.now).tables from_table ∙ length-tables_of g.inputs g.outputs g.words.now in
    let range = c.in_ok-tables.ensures.there.in_range in
    let same = c.problem.ensures ∙ c.in_ok-tables.ensures.tables in
    record {
      tables = c.in_ok-tables.ensures.tables;
      pairs = c.in_ok-pairs.ensures.value;
      widths = subst (λ p. AreAllWidths p.inputs (functions p) c.in_ok-widths.widths.items) same c.in_ok-widths.ensures;
      few = let few = range.few_outputs in omega arith;
    }
