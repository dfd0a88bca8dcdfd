use Rattle.std.proofs.Common.{◌≡◌, ℕ, ◌+◌, ◌<◌, List, [], ◌∷◌, ◌++◌, length, get_or, take, ap, sym, ◌∙◌}
use Rattle.std.proofs.lemmas.List.{map-append, take_all, take_more}
use Rattle.minorder_c.specs.declared.above.AbovePair.{AbovePair}
use Rattle.minorder_c.specs.Answers.{pairs_given}
use Rattle.definitions.specs.Pairs.{Pair}
use Rattle.minorder_c.proofs.above.numbers_of.Goals as goal

-- the numbers of one pair more
given_more : (given : List AbovePair) (i : ℕ) (d : AbovePair) → i < length given →
    pairs_given (take i given) ++ ((get_or given i d).above, (get_or given i d).below) ∷ [] ≡ pairs_given (take (i + 1) given)
given_more given i d h = sym (map-append (λ (p : AbovePair). (p.above, p.below)) (take i given) (get_or given i d ∷ []))
    ∙ ap pairs_given (sym (take_more given i d h))

pub loop-i-preserved : goal.loop-i-preserved
loop-i-preserved c =
    let zero : AbovePair = record { above = 0; below = 0 } in
    let p = get_or c.args.given.now c.loop-i.i zero in
    c.in_ok-push.ensures.items ∙ ap (λ (xs : List Pair). xs ++ (p.above, p.below) ∷ []) c.loop-i.invariant
    ∙ given_more c.args.given.now c.loop-i.i zero c.loop-i-test.true

pub returns : goal.returns
returns c = c.loop-i.invariant ∙ ap pairs_given (take_all c.loop-i.i c.args.given.now c.loop-i-test.false)
