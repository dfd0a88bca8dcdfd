use Rattle.std.proofs.Common.{◌==◌, ◌∙◌}
use Rattle.std.proofs.Math.Bool.{or_assoc}
use Rattle.memchr.specs.Find.{is_byte3}
use Rattle.pla_reader.specs.Text.{is_blank}
use Rattle.pla_reader.proofs.TextLemmas.{len_before_first}
use Rattle.pla_reader.proofs.lines.word_len.Goals as goal

pub returns-clause-value : goal.returns-clause-value
returns-clause-value c = c.unwrap_or.ensures
    ∙ len_before_first is_blank (is_byte3 32 9 13) (λ b. or_assoc (b == 32) (b == 9) (b == 13)) c.args.text.now c.memchr3.result c.memchr3.ensures
