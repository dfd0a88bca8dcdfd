use Rattle.std.proofs.Common.{refl, [], ◌∷◌, ◌++◌, sym, ap₂, ◌∙◌, arith}
use Rattle.std.proofs.lemmas.List.{length-set, take_all, take_more, take_more_set}
use Rattle.small_search.proofs.classes.widen.Goals as goal

pub loop-i-init : goal.loop-i-init
loop-i-init c = record { long = grind arith; done = refl }

pub loop-i-preserved : goal.loop-i-preserved
loop-i-preserved c =
    let l = c.loop-i.invariant.long in
    let t = c.loop-i-test.true in
    record {
      long = length-set c.loop-i.wide.items c.loop-i.i c.from.result ∙ l;
      done = take_more_set c.loop-i.wide.items c.loop-i.i c.from.result (omega (arith, l, t))
          ∙ ap₂ (λ us k. us ++ k ∷ []) c.loop-i.invariant.done c.from.ensures ∙ sym (take_more c.args.values.now c.loop-i.i 0 t);
    }

pub returns : goal.returns
returns c =
    let l = c.loop-i.invariant.long in
    let f = c.loop-i-test.false in
    sym (take_all c.loop-i.i c.loop-i.wide.items (omega (arith, l, f))) ∙ c.loop-i.invariant.done ∙ take_all c.loop-i.i c.args.values.now f
