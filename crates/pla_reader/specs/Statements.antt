-- What the program finds in a line.
--     line_of statement      the meaning of the line that a statement stands for
use Rattle.pla_reader.specs.declared.statements.Statement.{Statement}
use Rattle.pla_reader.specs.declared.statements.Statement.TheVariants as found
use Rattle.pla_reader.specs.Text.{words, positions}
use Rattle.pla_reader.specs.Lines.{Line}
use Rattle.pla_reader.specs.Lines.Line.{Empty, Inputs, Outputs, InputNames, OutputNames, Products, LogicalType, End, UnknownWord, Row}

-- the meaning of the line that a statement stands for
abbrev pub line_of : Statement → Line
line_of found.Empty = Empty
line_of (found.Inputs text) = Inputs (words text.now)
line_of (found.Outputs text) = Outputs (words text.now)
line_of (found.InputNames text) = InputNames (words text.now)
line_of (found.OutputNames text) = OutputNames (words text.now)
line_of (found.Products text) = Products (words text.now)
line_of (found.Type text) = LogicalType (words text.now)
line_of found.End = End
line_of found.Unknown = UnknownWord
line_of (found.Row text) = Row (positions text.now)
