use Rattle.std.proofs.Common.{◌≡◌, ◌+◌, arith, suc, take, get_or, ap, ap₂, ◌∙◌, sym, ◌++◌, ◌∷◌, []}
use Rattle.std.proofs.Math.Seq.{take-suc}
use Rattle.std.proofs.lemmas.List.{map-append}
use Rattle.sifting.specs.LevelLists.{nodes_of}
use Rattle.sifting.specs.declared.levels.Level.{Level}
use Rattle.std.proofs.lemmas.Grind.{common_steps}
use Rattle.sifting.proofs.manager.copies_of.Goals as goal

pub loop-level-preserved : goal.loop-level-preserved
unfolding nodes_of
loop-level-preserved c =
    let xs = c.args.levels.now in
    let k = c.loop-level.level-index in
    let d = c.level-item.result in
    let nodes = λ (l : Level). l.nodes.items in
    let next : suc k ≡ k + 1 = omega arith in
    let done = nodes_of (take k xs) in
    ap nodes_of c.in_ok-push.ensures.items
    ∙ map-append nodes c.loop-level.copies.items (c.in_ok-try_clone.field-0 ∷ [])
    ∙ ap₂ (λ a b. a ++ (b ∷ [])) c.loop-level.invariant c.in_ok-try_clone.ensures
    ∙ ap (λ (l : Level). done ++ (l.nodes.items ∷ [])) c.level-item.is
    ∙ sym (map-append nodes (take k xs) (get_or xs k d ∷ []))
    ∙ ap nodes_of (sym (take-suc xs k d c.loop-level-test.true))
    ∙ ap (λ m. nodes_of (take m xs)) next

pub returns : goal.returns
returns c = grind (arith, common_steps)
