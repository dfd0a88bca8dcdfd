use Rattle.std.proofs.Common.{subst}
use Rattle.definitions.specs.Problems.{functions}
use Rattle.truth_table.specs.OfCovers.{AreTablesOf}
use Rattle.cert_check.specs.Verdicts.{Judges, reason_of}
use Rattle.check_runs.proofs.CoverVerdicts.{good_for, reason_for}
use Rattle.check_runs.proofs.check_run.verdict_on.Goals as goal

pub returns-in-Valid : goal.returns-in-Valid
returns-in-Valid g c =
    let tables : AreTablesOf c.args.cover.now c.in_ok-tables.tables =
    record { inputs = c.in_ok-tables.ensures.inputs; tables = c.in_ok-tables.ensures.tables } in (
      good_for c.args.cover.now c.in_ok-tables.tables c.args.cert.now tables (c.in_ok-check.ensures.exactly.0 c.in-Valid.is),
      c.in_ok-valid_text-in-Valid.ensures,
    )

pub returns : goal.returns
returns g c =
    let tables : AreTablesOf c.args.cover.now c.in_ok-tables.tables =
    record { inputs = c.in_ok-tables.ensures.inputs; tables = c.in_ok-tables.ensures.tables } in
    let first = subst (Judges c.in_ok-tables.tables.inputs (functions c.in_ok-tables.tables) c.args.cert.now) c.in-Invalid.is c.in_ok-check.ensures.judges in (
      reason_of c.in-Invalid.reason,
      reason_for c.args.cover.now c.in_ok-tables.tables c.args.cert.now (reason_of c.in-Invalid.reason) tables first,
      c.in_ok-invalid_text-in-Invalid.ensures,
    )
