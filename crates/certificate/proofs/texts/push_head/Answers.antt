use Rattle.std.proofs.Common.{ap, [], ◌∷◌}
use Rattle.certificate.proofs.WrittenLines.{six_written, stated}
use Rattle.certificate.proofs.texts.push_head.Goals as goal

pub returns : goal.returns
returns c =
    six_written _ _ _ _ _ _ _ _ _ _ _ _ _ (stated _ _ _ _ _ c.in_ok-push_number.ensures (ap (λ k. k ∷ []) c.format.ensures))
    (stated _ _ _ _ _ c.in_ok-push_number-2.ensures (ap (λ k. k ∷ []) c.inputs.ensures))
    (stated _ _ _ _ _ c.in_ok-push_number-3.ensures (ap (λ k. k ∷ []) c.outputs.ensures)) (stated _ _ _ _ _ c.in_ok-push_variables.ensures c.order.ensures)
    (stated _ _ _ _ _ c.in_ok-push_numbers.ensures c.levels.ensures) (stated _ _ _ _ _ c.in_ok-push_number-4.ensures (ap (λ k. k ∷ []) c.total.ensures))
