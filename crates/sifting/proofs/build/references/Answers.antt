use Rattle.std.proofs.Common.{◌++◌, ◌∷◌, [], ap₂, ◌∙◌, arith}
use Rattle.definitions.specs.RefNumbers.{ref_named}
use Rattle.sifting.proofs.SplitCuts.{map_more}
use Rattle.std.proofs.lemmas.Grind.{common_steps}
use Rattle.sifting.proofs.build.references.Goals as goal

pub loop-code-preserved : goal.loop-code-preserved
loop-code-preserved c =
    c.in_ok-push.ensures.items ∙ ap₂ (λ xs r. xs ++ r ∷ []) c.loop-code.invariant c.reference.ensures
    ∙ map_more ref_named c.args.codes.now c.loop-code.code-index 0 c.loop-code-test.true

pub returns : goal.returns
returns c = grind (arith, common_steps)
