use Rattle.std.proofs.Common.{List, Bool, false, get_or, sym, ap, ◌∙◌}
use Rattle.definitions.proofs.Bits.Tables.{table_value}
use Rattle.definitions.proofs.problem.Problem.value.Goals as goal

pub returns : goal.returns
returns c =
    c.bit_of.ensures ∙ sym (table_value c.args.self.now.inputs c.words.result.now c.args.point c.requires.point)
    ∙ ap (λ (t : List Bool). get_or t c.args.point false) c.words.ensures.table
