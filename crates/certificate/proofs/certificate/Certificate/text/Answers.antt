use Rattle.std.proofs.Common.{◌≤◌, List, ℕ, length, subst, sym}
use Rattle.certificate.specs.Heads.{most_bytes}
use Rattle.certificate.proofs.Lengths.{spelling_readable}
use Rattle.certificate.proofs.WrittenLines.{spelling_written}
use Rattle.certificate.proofs.certificate.Certificate.text.Goals as goal

pub returns-clause-spelling : goal.returns-clause-spelling
returns-clause-spelling c =
    spelling_written _ _ _ _ _ c.args.self.now c.in_ok-text.ensures.bytes c.in_ok-push_head.ensures c.in_ok-push_pair_lines.ensures
    c.in_ok-push_cell_lines.ensures c.in_ok-push_str.ensures.bytes

pub returns-clause-readable : goal.returns-clause-readable
returns-clause-readable c =
    subst (λ (text : List ℕ). length text ≤ most_bytes)
    (sym (spelling_written _ _ _ _ _ c.args.self.now c.in_ok-text.ensures.bytes c.in_ok-push_head.ensures c.in_ok-push_pair_lines.ensures
    c.in_ok-push_cell_lines.ensures c.in_ok-push_str.ensures.bytes))
    (spelling_readable c.args.self.now c.pairs.ensures.spelled)
