use Rattle.std.proofs.Common.{Bool, refl, subst, sum}
use Rattle.definitions.specs.Levels.{level_counts}
use Rattle.definitions.specs.Problems.{functions}
use Rattle.report_texts.specs.Answers.{IsCertifiedBy}
use Rattle.report_texts.specs.Texts.{file_order_levels}
use Rattle.report_texts.proofs.Certified.{certified_if_asked}
use Rattle.report_texts.proofs.ReportParts.{reported}
use Rattle.report.proofs.answers.answer_texts.Goals as goal

pub returns-clause-report : goal.returns-clause-report
returns-clause-report g c =
    let cover = c.args.cover.now in
    let t = c.in_ok-tables.tables in
    let found = c.in_ok-found.found in
    let best = found.best.optimum.order in
    let sifted = c.in_ok-found.ensures.sifted in
    reported cover t c.args.pairs.now.pairs _ cover.input_names best best (level_counts t.inputs (functions t) best)
    sifted.start found.sifted found.sifted (file_order_levels cover) found.sifted_size (sum (file_order_levels cover))
    (record { inputs = c.in_ok-tables.ensures.inputs; tables = c.in_ok-tables.ensures.tables })
    c.in_ok-found.ensures.best.optimum.first sifted.first c.in_ok-report.ensures refl refl refl refl sifted.is_order sifted.is_size refl refl

pub returns-clause-certificate : goal.returns-clause-certificate
returns-clause-certificate g c =
    let best = c.in_ok-found.found.best.optimum.order in
    certified_if_asked c.args.cover.now c.in_ok-tables.tables c.args.pairs.now.pairs best c.args.certify _
    (record { inputs = c.in_ok-tables.ensures.inputs; tables = c.in_ok-tables.ensures.tables })
    c.in_ok-found.ensures.best.optimum.first
    (subst (λ (b : Bool). IsCertifiedBy c.in_ok-tables.tables c.args.pairs.now.pairs best b c.in_ok-certificate.certificate)
    c.in_ok-found.ensures.best.asked
    (rw c.problem.ensures at c.in_ok-certificate.ensures))
