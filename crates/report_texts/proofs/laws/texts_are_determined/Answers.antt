use Rattle.report_texts.proofs.OneAnswer.{text_unique, certificate_unique, printed_unique, certified_unique}
use Rattle.report_texts.proofs.laws.texts_are_determined.Goals as goal

pub returns : goal.returns
returns c = λ plan other same. record {
  reports = λ cover a b. text_unique plan other cover a b same;
  certificates = λ cover a b. certificate_unique plan other cover a b same;
  printed = λ file before after later c d e f. printed_unique plan other file before after later c d e f same;
  certified = λ file before after later c d e f. certified_unique plan other file before after later c d e f same;
}
