use Rattle.certificate.proofs.Bodies.{sets_fail, end_fails, sets_told}
use Rattle.certificate.proofs.parser.read_sets.Goals as goal

pub returns-in_err-cells : goal.returns-in_err-cells
returns-in_err-cells c =
    sets_fail c.args.n c.args.lines.now.number c.args.lines.now.rest.now c.cells.new.self.number c.cells.new.self.rest.now _
    c.from_residual.result c.from_residual.ensures.1 c.in_err-cells.ensures.section

pub returns-in_err-end : goal.returns-in_err-end
returns-in_err-end c =
    end_fails c.args.n c.args.lines.now.number c.args.lines.now.rest.now c.in_ok-cells.cells c.cells.new.self.number
    c.cells.new.self.rest.now _ c.from_residual-in_err-end.result c.from_residual-in_err-end.ensures.1
    c.in_ok-cells.ensures.section c.in_err-end.ensures.failed

pub returns : goal.returns
returns c =
    sets_told c.args.n c.args.lines.now.number c.args.lines.now.rest.now c.in_ok-cells.cells c.cells.new.self.number
    c.cells.new.self.rest.now c.in_ok-cells.ensures.section c.in_ok-end.ensures.passed
