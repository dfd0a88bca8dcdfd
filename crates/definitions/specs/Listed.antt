-- Listed sets, as a certificate has them.
use Rattle.definitions.specs.Certificates.{Cell}
use Rattle.definitions.specs.declared.listed_cells.ListedCell.{ListedCell}

-- a listed set with its cost, as a certificate has it
abbrev pub listed : ListedCell → Cell
listed c = record { mask = c.mask; cost = c.cost }
