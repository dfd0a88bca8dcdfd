use Rattle.std.proofs.Common.{List, get_or, map, set, refl, ap, ◌∙◌, arith}
use Rattle.std.proofs.lemmas.List.Edits.{paste_none}
use Rattle.minorder_c.specs.declared.above.AbovePair.{AbovePair}
use Rattle.minorder_c.specs.Stated.{pair_for_c}
use Rattle.minorder_c.proofs.Places.{pair_more, front_of}
use Rattle.minorder_c.proofs.stated.put_pairs.Goals as goal

pub loop-i-init : goal.loop-i-init
loop-i-init c = paste_none c.args.place.now 0 (map pair_for_c c.args.pairs.now)

pub loop-i-preserved : goal.loop-i-preserved
loop-i-preserved c =
    let i = c.loop-i.i in
    let p = get_or c.args.pairs.now i (0, 0) in
    ap (λ (xs : List AbovePair). set xs i (pair_for_c p)) c.loop-i.invariant
    ∙ pair_more c.args.place.now c.args.pairs.now i p (0, 0) (omega arith) (omega arith) refl

pub returns : goal.returns
returns c = c.loop-i.invariant ∙ front_of c.args.place.now c.args.pairs.now c.loop-i.i (omega arith)
