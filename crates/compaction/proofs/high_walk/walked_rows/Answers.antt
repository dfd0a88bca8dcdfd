use Rattle.std.proofs.Common.{◌≡◌, length, sym, subst, arith}
use Rattle.compaction.specs.Rows.{AreByteRows}
use Rattle.compaction.proofs.FilledRows.{rows_back}
use Rattle.compaction.proofs.high_walk.walked_rows.Goals as goal

pub returns-clause-rows : goal.returns-clause-rows
returns-clause-rows c =
    let w = c.args.request in
    let rows = c.in_ok-compactions.ensures.rows in
    let long : length c.fill_rows.new.rows ≡ c.in_ok-rows.rows.len = omega (arith, rows.each, c.in_ok-rows.ensures.len, c.len.ensures) in
    record {
      inputs = c.requires;
      rows =
          subst (AreByteRows c.args.shared.now w.low w.needed.items)
          (sym (rows_back c.fill_rows.new.rows c.in_ok-rows.rows.items c.in_ok-rows.rows.len long)) rows;
    }
