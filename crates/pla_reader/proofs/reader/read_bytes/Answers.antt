use Rattle.std.proofs.Common.{◌≡◌, ◌∙◌, ◌+◌, sym, ap, true, false, [], ◌∷◌, rules}
use Rattle.pla_reader.specs.Lines.{Line, line_said, is_end, said}
use Rattle.pla_reader.specs.Progress.{state_of}
use Rattle.pla_reader.proofs.ReadLemmas.{Reached, reached_next, first_is_found, ends_at_end, ends_with_input, said_first, said_none, end_line, answers_end}
use Rattle.pla_reader.proofs.reader.read_bytes.Goals as goal

pub returns-then-is_end : goal.returns-then-is_end
returns-then-is_end c =
    let lines = said c.args.bytes.now in
    let line : Line = line_said c.first_line.result.0.now in
    let rest = said c.first_line.result.1.now in
    let here : Reached lines (line ∷ rest) c.loop-rest.number (state_of c.loop-rest.progress) =
    rw (said_first c.loop-rest.rest.now c.first_line.result.1.now c.first_line.result.0.now c.first_line.ensures.line) at c.loop-rest.invariant.reached in
    let ends : is_end line ≡ true = ap is_end (sym c.statement_of-statement.ensures) ∙ sym c.is_end.ensures ∙ c.if-is_end.true in
    answers_end c.args.bytes.now (c.loop-rest.number + 1) _ c.finish.result
    (ends_at_end lines rest c.loop-rest.number _ line here (end_line line ends)) c.finish.ensures.ok c.finish.ensures.err

pub loop-rest-preserved : goal.loop-rest-preserved
loop-rest-preserved c =
    let lines = said c.args.bytes.now in
    let line : Line = line_said c.first_line.result.0.now in
    let rest = said c.first_line.result.1.now in
    let here : Reached lines (line ∷ rest) c.loop-rest.number (state_of c.loop-rest.progress) =
    rw (said_first c.loop-rest.rest.now c.first_line.result.1.now c.first_line.result.0.now c.first_line.ensures.line) at c.loop-rest.invariant.reached in
    let goes_on : is_end line ≡ false = ap is_end (sym c.statement_of-statement.ensures) ∙ sym c.is_end.ensures ∙ c.if-is_end.false in
    let taken = rw c.statement_of-statement.ensures at (c.in-Ok.ensures here.before here.agrees) in
    record { reached = reached_next lines rest line c.loop-rest.number _ _ here goes_on taken; counted = search rules }

pub returns-in-Err-Fault : goal.returns-in-Err-Fault
returns-in-Err-Fault c =
    let lines = said c.args.bytes.now in
    let line : Line = line_said c.first_line.result.0.now in
    let rest = said c.first_line.result.1.now in
    let here : Reached lines (line ∷ rest) c.loop-rest.number (state_of c.loop-rest.progress) =
    rw (said_first c.loop-rest.rest.now c.first_line.result.1.now c.first_line.result.0.now c.first_line.ensures.line) at c.loop-rest.invariant.reached in
    let goes_on : is_end line ≡ false = ap is_end (sym c.statement_of-statement.ensures) ∙ sym c.is_end.ensures ∙ c.if-is_end.false in
    let taken = rw c.statement_of-statement.ensures at (rw c.in-Err-Fault.field-0-is at (c.in-Err-Fault.ensures here.before here.agrees)) in
    rw c.in-Err-Fault.field-0-is (first_is_found lines rest line c.loop-rest.number _ _ here goes_on taken)

pub returns : goal.returns
returns c =
    let lines = said c.args.bytes.now in
    let here : Reached lines [] c.loop-rest.number (state_of c.loop-rest.progress) =
    rw (said_none c.loop-rest.rest.now (search rules)) at c.loop-rest.invariant.reached in
    answers_end c.args.bytes.now c.loop-rest.number _ c.finish-2.result (ends_with_input lines c.loop-rest.number _ here)
    c.finish-2.ensures.ok c.finish-2.ensures.err
