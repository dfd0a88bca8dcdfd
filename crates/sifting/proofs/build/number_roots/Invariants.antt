use Rattle.sifting.specs.Cuts.{RootsFirst}
use Rattle.sifting.proofs.build.number_roots.Given as goal

abbrev pub invariant-loop-root : goal.invariant-loop-root
invariant-loop-root l = RootsFirst l.root-index l.roots l.numbers.items l.codes.keys
