use Rattle.std.proofs.Common.{◌≡◌, ◌-◌, ◌^◌, refl, map, codes, arith, rules}
use Rattle.std.proofs.lemmas.List.{length-append, map-append}
use Rattle.definitions.specs.Listed.{listed}
use Rattle.certificate.specs.Faults.{entry_fault, is_cell, cell_key_of}
use Rattle.certificate.specs.Decoded.{read_cell, mask_key}
use Rattle.certificate.specs.Values.{is_above}
use Rattle.certificate.proofs.Outcomes.{asked}
use Rattle.certificate.proofs.LineSteps.{reached_first, reached_more, reached_fails, reached_all, section_fails}
use Rattle.std.proofs.lemmas.Grind.{common_steps}
use Rattle.certificate.proofs.reader.Lines.cells.Goals as goal

pub returns-in_err-count-clause-section : goal.returns-in_err-count-clause-section
returns-in_err-count-clause-section c =
    section_fails (codes "cells") (2 ^ c.args.n - 1) (is_cell c.args.n) cell_key_of read_cell (λ v. map listed v.items) _ _ _ _
    c.from_residual.result _ c.from_residual.ensures.1
    (λ pre js. (rw c.sets_below_all.ensures at c.in_err-count.ensures.line) _)

pub loop-n-init : goal.loop-n-init
loop-n-init c = grind (arith, reached_first)

pub returns-in_err-cell-clause-section : goal.returns-in_err-cell-clause-section
returns-in_err-cell-clause-section c =
    reached_fails read_cell mask_key (codes "cells") (2 ^ c.args.n - 1) (is_cell c.args.n) cell_key_of (λ a b. refl) (λ v. map listed v.items) _ _ _
    c.from_residual-in_err-cell.result c.from_residual-in_err-cell.ensures.1 c.loop-n.invariant.reached (omega arith)
    (asked _ (λ ws v. listed v ≡ read_cell ws) _ _ _ _ c.in_err-cell.ensures.line (λ line r read. search rules))

pub returns-in_err-add-clause-section : goal.returns-in_err-add-clause-section
returns-in_err-add-clause-section c = grind arith

pub loop-n-preserved : goal.loop-n-preserved
loop-n-preserved c =
    let taken = asked (entry_fault (is_cell c.args.n) (λ a b. is_above c.loop-n.last (cell_key_of a b))) (λ ws v. listed v ≡ read_cell ws) _ _ _ _
    c.in_ok-cell.ensures.line (λ line r read. search rules) in grind (arith, length-append, reached_more, map-append)

pub returns-clause-section : goal.returns-clause-section
returns-clause-section c =
    reached_all read_cell mask_key (codes "cells") (2 ^ c.args.n - 1) (is_cell c.args.n) cell_key_of (λ a b. refl) (λ v. map listed v.items) c.loop-n.cells
    c.loop-n.invariant.reached (omega arith) c.loop-n.invariant.few

pub loop-n-smaller : goal.loop-n-smaller
loop-n-smaller c = grind (arith, common_steps)
