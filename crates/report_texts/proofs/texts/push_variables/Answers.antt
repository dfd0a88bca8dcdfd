use Rattle.report_texts.proofs.SpacedTexts.{pushed}
use Rattle.report_texts.proofs.texts.push_variables.Goals as goal

pub returns : goal.returns
returns c =
    pushed _ _ _ c.in-Some.first.now c.in-Some.rest.now c.args.variables.now c.in-Some.ensures.cases.0 c.in_ok-write.ensures.bytes
    c.in_ok-push_spaced_variables.ensures
