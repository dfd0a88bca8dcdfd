use Rattle.std.proofs.Common.{◌≡◌, map}
use Rattle.std.specs.String.{string_bytes}
use Rattle.pla_reader.specs.Covers.{numbered_names}
use Rattle.pla_reader.proofs.names.default_names.Given as goal

abbrev pub invariant-loop-i : goal.invariant-loop-i
invariant-loop-i l = map string_bytes l.names.items ≡ numbered_names l.front l.i-counter
