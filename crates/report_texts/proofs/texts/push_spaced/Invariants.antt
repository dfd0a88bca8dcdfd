use Rattle.std.proofs.Common.{◌≡◌, ◌++◌, take, string_bytes}
use Rattle.certificate.specs.Values.{each_spaced}
use Rattle.report_texts.proofs.texts.push_spaced.Given as goal

abbrev pub invariant-loop-number : goal.invariant-loop-number
invariant-loop-number l = string_bytes l.text ≡ string_bytes l.initial.text ++ each_spaced (take l.number-index l.numbers)
