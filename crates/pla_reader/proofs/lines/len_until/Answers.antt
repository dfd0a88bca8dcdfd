use Rattle.std.proofs.Common.{◌==◌, ◌∙◌, refl}
use Rattle.memchr.specs.Find.{is_byte}
use Rattle.pla_reader.proofs.TextLemmas.{len_before_first}
use Rattle.pla_reader.proofs.lines.len_until.Goals as goal

pub returns-clause-value : goal.returns-clause-value
returns-clause-value c = c.unwrap_or.ensures
    ∙ len_before_first (λ b. b == c.args.byte) (is_byte c.args.byte) (λ b. refl) c.args.text.now c.memchr.result c.memchr.ensures
