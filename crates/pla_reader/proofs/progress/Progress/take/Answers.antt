use Rattle.std.proofs.Common.{◌∙◌, ap, sym, inl, inr}
use Rattle.pla_reader.specs.Statements.{line_of}
use Rattle.pla_reader.specs.Progress.{state_of}
use Rattle.pla_reader.proofs.LineLemmas.{takes_nothing, takes_products, refuses_products, refuses_unknown}
use Rattle.pla_reader.proofs.progress.Progress.take.Goals as goal

pub returns-in-Empty : goal.returns-in-Empty
returns-in-Empty c before agrees =
    takes_nothing before (state_of c.args.self.now) _
    (elim c.in-Empty.is [ inl e ↦ inl (ap line_of e) | inr e ↦ inr (ap line_of e) ]) agrees

pub returns-then-is_number_alone : goal.returns-then-is_number_alone
returns-then-is_number_alone c before agrees =
    rw (ap line_of c.in-Products.is)
    (takes_products before (state_of c.args.self.now) _ (sym c.is_number_alone.ensures ∙ c.if-is_number_alone.true) agrees)

pub returns-else-is_number_alone : goal.returns-else-is_number_alone
returns-else-is_number_alone c before agrees =
    rw (ap line_of c.in-Products.is) (refuses_products before _ (sym c.is_number_alone.ensures ∙ c.if-is_number_alone.false))

pub returns-in-Unknown : goal.returns-in-Unknown
returns-in-Unknown c before agrees = rw (ap line_of c.in-Unknown.is) (refuses_unknown before)
