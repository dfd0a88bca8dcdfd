use Rattle.std.proofs.Common.{◌≡◌, ◌+◌, ◌&&◌, ◌∷◌, ◌++◌, cond, not, List, ℕ, [], sym, ap, ◌∙◌, subst, eq-eqb, ne_eqb, arith}
use Rattle.std.specs.List.{list_any}
use Rattle.definitions.specs.Widths.{same_pair}
use Rattle.truth_table.specs.Numberings.{pair_at, is_unequal}
use Rattle.truth_table.proofs.PairNumbers.{Merging, merging_none, merging_step, merging_end}
use Rattle.truth_table.proofs.level_classes.number_pairs.Goals as goal
use Rattle.std.proofs.lemmas.Grind.{common_steps}
use Rattle.truth_table.proofs.level_classes.number_pairs.Goals.{then-is_new+then-lower-upper, else-is_new, else-is_new-via-then-is_new+else-lower-upper, else-is_new-via-else-is_new}

pub loop-j-init : goal.loop-j-init
loop-j-init c =
    subst (λ (ks : List (ℕ × ℕ)). Merging ks [] c.in_ok-numbers.numbers.items 0) (sym (c.in_ok-reserve.ensures.keys ∙ c.requires.unseen))
    (subst (λ (ns : List ℕ). Merging [] [] ns 0) (sym c.in_ok-numbers.ensures.items) merging_none)

pub loop-j-preserved : goal.loop-j-preserved
loop-j-preserved c =
    let cs = c.args.classes.now in
    let j = c.loop-j.j in
    let keys = c.loop-j.seen.keys in
    let seen = list_any (same_pair (pair_at cs j)) keys in
    let new : c.in_ok-number.is_new ≡ not seen = c.in_ok-number.ensures.added in
    let count : c.if-is_new.unequal ≡ cond (not seen && is_unequal (pair_at cs j)) (c.loop-j.unequal + 1) c.loop-j.unequal =
    elim c.if-is_new.branch [
      | then-is_new+then-lower-upper w ↦ w.unequal-is
          ∙ sym ((λ i. cond ((sym new ∙ w.if-is_new.true) i && not (ne_eqb _ _ w.if-lower-upper.true i)) (c.loop-j.unequal + 1)
          c.loop-j.unequal))
      | else-is_new w ↦ elim w.else-is_new.branch [
        | else-is_new-via-then-is_new+else-lower-upper v ↦ w.unequal-is
            ∙ sym ((λ i. cond ((sym new ∙ v.if-is_new.true) i && not (eq-eqb _ _ v.if-lower-upper.false i)) (c.loop-j.unequal + 1)
            c.loop-j.unequal))
        | else-is_new-via-else-is_new v ↦ w.unequal-is
            ∙ sym ((λ i. cond ((sym new ∙ v.if-is_new.false) i && is_unequal (pair_at cs j)) (c.loop-j.unequal + 1) c.loop-j.unequal))
      ]
    ] in
    merging_step cs j keys c.insert_full.new.self.keys c.loop-j.numbers.items c.push.new.self.items c.loop-j.unequal c.if-is_new.unequal
    c.loop-j-test.true c.loop-j.invariant
    c.in_ok-number.ensures.keys (c.in_ok-push.ensures.items ∙ ap (λ z. c.loop-j.numbers.items ++ z ∷ []) c.in_ok-number.ensures.index) count

pub returns-clause-numbers : goal.returns-clause-numbers
returns-clause-numbers c =
    (merging_end c.args.classes.now c.loop-j.j c.loop-j.seen.keys c.loop-j.numbers.items c.loop-j.unequal c.loop-j-test.false
    c.loop-j.invariant).0

pub returns-clause-unequal : goal.returns-clause-unequal
returns-clause-unequal c =
    (merging_end c.args.classes.now c.loop-j.j c.loop-j.seen.keys c.loop-j.numbers.items c.loop-j.unequal c.loop-j-test.false
    c.loop-j.invariant).1

pub overflow_cast-number : goal.overflow_cast-number
overflow_cast-number c = grind (arith, common_steps)

pub overflow_add-unequal : goal.overflow_add-unequal
overflow_add-unequal c = grind (arith, common_steps)
