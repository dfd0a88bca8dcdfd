use Rattle.std.proofs.Common.{◌≡◌, ◌++◌, map, take, string_bytes}
use Rattle.std.specs.List.{flat_map}
use Rattle.certificate.specs.Spelling.{text_line, pair_words}
use Rattle.certificate.proofs.texts.push_pairs.Given as goal

abbrev pub invariant-loop-a : goal.invariant-loop-a
invariant-loop-a l = string_bytes l.text ≡ string_bytes l.fn.text ++ flat_map text_line (map pair_words (take l.a-index l.fn.pairs))
