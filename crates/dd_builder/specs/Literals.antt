-- Functions made of literals and terms.
--     with_literal term x f      the conjunction of a term's literal of variable x, if it has one, and a function
--     product_in b term, with_product product output f      the product of a term in a store; the disjunction of a function and an output's product
use Rattle.std.specs.Prelude.{ℕ, ◌&&◌, ◌||◌}
use Rattle.definitions.specs.declared.terms.Term.{Term}
use Rattle.definitions.specs.Functions.{Function}
use Rattle.definitions.specs.Problems.{outputs_of}
use Rattle.definitions.specs.Products.{Product, product_of, literal_holds, literal_in, matches, has_output}
use Rattle.unique_table.specs.declared.plan.Plan.{Plan}

-- 1 where the function is 1 and the term's literal of the variable, if it has one, holds
unfoldable pub with_literal : Term → ℕ → Function → Function
with_literal term x f p = literal_holds p (x, literal_in term x) && f p

-- the product of a term, for the inputs and outputs of a store
abbrev pub product_in : Plan → Term → Product
product_in b term = product_of b.problem.value.inputs (outputs_of b.problem.value) term

-- 1 where the function is 1, or where the product matches, if it belongs to the output's ON-set
unfoldable pub with_product : Product → ℕ → Function → Function
with_product product output f p = f p || (matches product p && has_output product output)
