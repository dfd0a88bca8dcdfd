use Rattle.std.proofs.Common.{◌≡◌, map, take}
use Rattle.definitions.specs.RefNumbers.{ref_named}
use Rattle.sifting.proofs.build.references.Given as goal

abbrev pub invariant-loop-code : goal.invariant-loop-code
invariant-loop-code l = l.refs.items ≡ map ref_named (take l.code-index l.codes)
