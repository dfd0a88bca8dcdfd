use Rattle.report_texts.proofs.SpacedTexts.{sizes_pushed}
use Rattle.report_texts.proofs.texts.push_sizes.Goals as goal

pub returns : goal.returns
returns c =
    sizes_pushed _ _ _ _ c.args.report.now.sifted.now c.args.report.now.sifted_size c.args.report.now.file_size
    c.in_ok-push_str.ensures.bytes c.in_ok-push_variables.ensures c.in_ok-write.ensures.bytes
