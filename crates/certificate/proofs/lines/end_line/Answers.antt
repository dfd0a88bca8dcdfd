use Rattle.std.proofs.Common.{sym, ap, ◌∙◌}
use Rattle.definitions.specs.Texts.{same}
use Rattle.certificate.proofs.LineWords.{end_yes, end_no}
use Rattle.certificate.proofs.lines.end_line.Goals as goal

pub returns-then-eq : goal.returns-then-eq
returns-then-eq c = (end_yes c.args.line.now (ap (same c.args.line.now) (sym c.as_slice.ensures) ∙ sym c.eq.ensures ∙ c.if-eq.true), tt)

pub returns-else-eq : goal.returns-else-eq
returns-else-eq c = end_no c.args.line.now (ap (same c.args.line.now) (sym c.as_slice.ensures) ∙ sym c.eq.ensures ∙ c.if-eq.false)
