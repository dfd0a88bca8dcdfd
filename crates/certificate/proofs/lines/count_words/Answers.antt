use Rattle.std.proofs.Common.{arith}
use Rattle.std.proofs.lemmas.List.{length-append}
use Rattle.certificate.proofs.LineWords.{cut_words, whole_word}
use Rattle.certificate.proofs.lines.count_words.Goals as goal

pub loop-more-preserved : goal.loop-more-preserved
loop-more-preserved c = grind (arith, cut_words, length-append)

pub returns : goal.returns
returns c = grind (arith, whole_word)
