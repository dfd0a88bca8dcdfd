use Rattle.std.proofs.Common.{◌++◌, ap, ◌∙◌, codes, decimal, string_bytes}
use Rattle.report_texts.proofs.SpacedTexts.{counts_pushed}
use Rattle.report_texts.proofs.texts.push_counts.Goals as goal

pub returns : goal.returns
returns c = counts_pushed _ _ _ _ c.args.levels.now c.in_ok-push_str.ensures.bytes c.in_ok-push_numbers.ensures
    (c.in_ok-write.ensures.bytes ∙ ap (λ k. string_bytes c.push_numbers.new.text ++ (codes "\nnodes: " ++ (decimal k ++ codes "\n"))) c.total-nodes.ensures)
