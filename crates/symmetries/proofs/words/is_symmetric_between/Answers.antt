use Rattle.std.proofs.Common.{◌≡◌, ◌+◌, ◌-◌, ◌^◌, sym, ap, ap₂, ◌∙◌, arith, inl, inr, subst, slice_index}
use Rattle.std.specs.Int.{bit_at}
use Rattle.std.proofs.lemmas.Bool.{cases_eq}
use Rattle.std.proofs.lemmas.Nat.{one_shl}
use Rattle.std.proofs.lemmas.Nat.Bits.{shr_and_one}
use Rattle.definitions.proofs.Precedence.Greedy.{pow_le_bit}
use Rattle.symmetries.proofs.words.is_symmetric_between.Goals as goal
use Rattle.symmetries.proofs.words.is_symmetric_between.Goals.{then-i-r-eq1+then-i-s-eq0+else-words-i, else-i-r-eq1, else-i-r-eq1-via-then-i-r-eq1+else-i-s-eq0, else-i-r-eq1-via-else-i-r-eq1}

pub overflow_sub-other : goal.overflow_sub-other
overflow_sub-other c = grind (arith, pow_le_bit, shr_and_one, one_shl)

pub loop-i-preserved : goal.loop-i-preserved
loop-i-preserved c i less one zero =
    elim (cases_eq i c.loop-i.i) [
      | inl e ↦ elim c.if-i-r-eq1.branch [
        | then-i-r-eq1+then-i-s-eq0+else-words-i w ↦
            let h = c.requires.high in
            let f = c.requires.first in
            subst (λ j. slice_index c.args.words.now j ≡ slice_index c.args.words.now ((j - 2 ^ c.args.r) + 2 ^ c.args.s)) (sym e)
            (w.if-words-i.false ∙ ap (slice_index c.args.words.now)
            (ap₂ (λ back step. c.loop-i.i - back + step) (one_shl c.args.r 64 (omega arith)) (one_shl c.args.s 64 (omega arith))))
        | else-i-r-eq1 w ↦ elim w.else-i-r-eq1.branch [
          | else-i-r-eq1-via-then-i-r-eq1+else-i-s-eq0 w' ↦
              absurd (w'.if-i-s-eq0.false (shr_and_one c.loop-i.i c.args.s ∙ ap (λ j. bit_at j c.args.s) (sym e) ∙ zero))
          | else-i-r-eq1-via-else-i-r-eq1 w' ↦
              absurd (w'.if-i-r-eq1.false (shr_and_one c.loop-i.i c.args.r ∙ ap (λ j. bit_at j c.args.r) (sym e) ∙ one))
        ]
      ]
      | inr ne ↦ c.loop-i.invariant i (omega arith) one zero
    ]
