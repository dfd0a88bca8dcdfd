use Rattle.std.proofs.Common.{◌++◌, ap, ◌∙◌, string_bytes}
use Rattle.certificate.proofs.WrittenLines.{number_written}
use Rattle.certificate.proofs.texts.push_number.Goals as goal

pub returns : goal.returns
returns c = c.in_ok-write.ensures.bytes ∙ ap (λ line. string_bytes c.args.text.now ++ line) (number_written c.args.name.now c.args.number)
