use Rattle.std.proofs.Common.{ℕ, ◌<◌, sym, ◌∙◌, subst}
use Rattle.definitions.specs.Functions.{SameFunction}
use Rattle.definitions.specs.Problems.{TruthTables, outputs_of}
use Rattle.definitions.specs.Products.{product_function}
use Rattle.unique_table.specs.Plans.{products_of, output_at}
use Rattle.dd_builder.proofs.Covers.{terms_give, store_for}
use Rattle.dd_builder.proofs.SessionSteps.{ok_same}
use Rattle.dd_builder.proofs.builders.cover_store.Goals as goal

pub new-requires-clause-terms : goal.new-requires-clause-terms
new-requires-clause-terms c =
    subst (λ (t : TruthTables). (j : ℕ) → j < outputs_of t →
    SameFunction t.inputs (product_function (products_of t c.terms.result.now) j) (output_at t j))
    (sym c.problem.ensures)
    (terms_give c.truth_tables_keep_functions.ensures.same c.args.cover.now c.args.tables.now c.terms.result.now c.requires.tables c.terms.ensures.products)

pub returns-clause-cover : goal.returns-clause-cover
returns-clause-cover c = ok_same _ _ c.new.result c.new.ensures.plan (λ r p.
    store_for r.0.plan c.args.cover.now c.args.tables.now c.terms.result c.requires.tables (p.problem ∙ c.problem.ensures) p.kind c.terms.ensures.products)
