use Rattle.std.proofs.lemmas.Str.{IsUtf8-from_ascii}
use Rattle.pla_reader.proofs.NameLemmas.{ascii_name}
use Rattle.pla_reader.proofs.names.name.Goals as goal

pub unreachable-requires : goal.unreachable-requires
unreachable-requires c = c.in-Err.ensures.cases.0 (IsUtf8-from_ascii c.args.word.now (ascii_name c.args.word.now c.requires))
