use Rattle.std.proofs.Common.{length, eqb, refl, sym, arith, rules}
use Rattle.std.specs.List.{slice_split}
use Rattle.std.proofs.lemmas.List.{length_push}
use Rattle.std.proofs.lemmas.Iterator.Consumers.{YieldsList-turn, YieldsList-end}
use Rattle.std.proofs.lemmas.Iterator.Splits.{YieldsList-from_slice_split}
use Rattle.definitions.proofs.Precedence.Masks.{no_masks, zeros_empty}
use Rattle.definitions.proofs.Precedence.Texts.{read_none, read_more, read_all, read_fails, pair_small}
use Rattle.order_model.proofs.pairs.listed_masks.Goals as goal

pub loop-part-init : goal.loop-part-init
loop-part-init c = read_none (slice_split (λ b. eqb b 58) c.args.text.now) no_masks refl (zeros_empty no_masks refl)

pub overflow_shl-below : goal.overflow_shl-below
overflow_shl-below c = (pair_small c.in-Some.part.now c.in_ok-a.a c.in_ok-a.b (sym c.in_ok-a.ensures)).1

pub bounds-below-a : goal.bounds-below-a
bounds-below-a c = (pair_small c.in-Some.part.now c.in_ok-a.a c.in_ok-a.b (sym c.in_ok-a.ensures)).0

pub bounds-below-a-in-loop-part : goal.bounds-below-a-in-loop-part
bounds-below-a-in-loop-part c = (pair_small c.in-Some.part.now c.in_ok-a.a c.in_ok-a.b (sym c.in_ok-a.ensures)).0

pub loop-part-preserved : goal.loop-part-preserved
loop-part-preserved c =
    let parts = slice_split (λ b. eqb b 58) c.args.text.now in
    let t = YieldsList-turn
    (YieldsList-from_slice_split _ (λ b. eqb b 58) c.args.text.now (cc) (cc) (cc) (λ x r q k. search rules))
    c.loop-part.yielded _ c.loop-part.yielded_by _ _ c.in-Some.part c.in-Some.is c.next.ensures.steps in
    grind (arith, length_push, read_more)

pub returns-in_err-a : goal.returns-in_err-a
returns-in_err-a c =
    let parts = slice_split (λ b. eqb b 58) c.args.text.now in
    let t = YieldsList-turn
    (YieldsList-from_slice_split _ (λ b. eqb b 58) c.args.text.now (cc) (cc) (cc) (λ x r q k. search rules))
    c.loop-part.yielded _ c.loop-part.yielded_by _ _ c.in-Some.part c.in-Some.is c.next.ensures.steps in
    grind (arith, read_fails)

pub returns : goal.returns
returns c =
    let parts = slice_split (λ b. eqb b 58) c.args.text.now in
    let t = YieldsList-end (YieldsList-from_slice_split _ (λ b. eqb b 58) c.args.text.now (cc) (cc) (cc) (λ x r q k. search rules))
    c.loop-part.yielded _ c.loop-part.yielded_by _ _ c.in-None.is c.next.ensures.steps in
    read_all parts (length c.loop-part.yielded) c.loop-part.below c.loop-part.invariant (omega arith)
