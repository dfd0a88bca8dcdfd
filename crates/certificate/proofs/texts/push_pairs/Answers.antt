use Rattle.std.proofs.Common.{◌++◌, ap, ◌∙◌, string_bytes, get_or}
use Rattle.certificate.specs.Spelling.{pair_words}
use Rattle.certificate.proofs.WrittenLines.{entries_more, pair_written}
use Rattle.certificate.proofs.texts.push_pairs.Goals as goal

pub loop-a-preserved : goal.loop-a-preserved
loop-a-preserved c =
    entries_more pair_words (string_bytes c.args.text.now) (string_bytes c.loop-a.text) _ c.args.pairs.now c.loop-a.a-index (0, 0)
    c.loop-a-test.true c.loop-a.invariant
    (c.in_ok-write.ensures.bytes ∙ ap (λ line. string_bytes c.loop-a.text ++ line) (pair_written (get_or c.args.pairs.now c.loop-a.a-index (0, 0))))
