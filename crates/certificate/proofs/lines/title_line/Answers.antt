use Rattle.std.proofs.Common.{sym, ap, ◌∙◌}
use Rattle.definitions.specs.Texts.{same}
use Rattle.certificate.proofs.LineWords.{first_title, second_title, no_title}
use Rattle.certificate.proofs.lines.title_line.Goals as goal

pub returns-then-eq : goal.returns-then-eq
returns-then-eq c = first_title c.args.line.now (ap (same c.args.line.now) (sym c.as_slice.ensures) ∙ sym c.eq.ensures ∙ c.if-eq.true)

pub returns-then-eq-2 : goal.returns-then-eq-2
returns-then-eq-2 c = second_title c.args.line.now (ap (same c.args.line.now) (sym c.as_slice-else-eq.ensures) ∙ sym c.eq-else-eq.ensures ∙ c.if-eq-2.true)

pub returns-else-eq-2 : goal.returns-else-eq-2
returns-else-eq-2 c =
    no_title c.args.line.now (ap (same c.args.line.now) (sym c.as_slice.ensures) ∙ sym c.eq.ensures ∙ c.if-eq.false)
    (ap (same c.args.line.now) (sym c.as_slice-else-eq.ensures) ∙ sym c.eq-else-eq.ensures ∙ c.if-eq-2.false)
