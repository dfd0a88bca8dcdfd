-- A cell as a cost and a variable.
--     pair_of      a cell's cost and variable
--     no_cell      the cell of no set
use Rattle.std.specs.Prelude.{ℕ}
use Rattle.subset_layers.specs.declared.costs.Cell.{Cell}

abbrev pub pair_of : Cell → ℕ × ℕ
pair_of c = (c.cost, c.variable)

-- the cell of no set
abbrev pub no_cell : Cell
no_cell = record { cost = 0; variable = 0 }
