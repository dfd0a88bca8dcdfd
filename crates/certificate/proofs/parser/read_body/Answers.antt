use Rattle.certificate.proofs.Bodies.{first_fails, pairs_fail, second_fails, second_told, is_second}
use Rattle.certificate.proofs.parser.read_body.Goals as goal

pub returns-in_err-cells : goal.returns-in_err-cells
returns-in_err-cells c =
    first_fails c.args.format c.args.n c.args.lines.now.number c.args.lines.now.rest.now _ c.from_residual.result c.from_residual.ensures.1
    c.if-format-eq1.true c.in_err-cells.ensures

pub returns-in_err-pairs : goal.returns-in_err-pairs
returns-in_err-pairs c =
    pairs_fail c.args.format c.args.n c.args.lines.now.number c.args.lines.now.rest.now c.pairs.new.self.number c.pairs.new.self.rest.now _
    c.from_residual-in_err-pairs.result c.from_residual-in_err-pairs.ensures.1
    (is_second c.args.format c.requires.known c.if-format-eq1.false) c.in_err-pairs.ensures.section

pub returns-in_err-cells-2 : goal.returns-in_err-cells-2
returns-in_err-cells-2 c =
    second_fails c.args.format c.args.n c.args.lines.now.number c.args.lines.now.rest.now c.pairs.new.self.number c.pairs.new.self.rest.now
    c.in_ok-pairs.pairs _ c.from_residual-in_err-cells-2.result
    c.from_residual-in_err-cells-2.ensures.1 (is_second c.args.format c.requires.known c.if-format-eq1.false) c.in_ok-pairs.ensures.section
    c.in_err-cells-2.ensures

pub returns : goal.returns
returns c =
    second_told c.args.format c.args.n c.args.lines.now.number c.args.lines.now.rest.now c.pairs.new.self.number c.pairs.new.self.rest.now
    c.in_ok-pairs.pairs c.in_ok-cells-2.cells
    (is_second c.args.format c.requires.known c.if-format-eq1.false) c.in_ok-pairs.ensures.section c.in_ok-cells-2.ensures
