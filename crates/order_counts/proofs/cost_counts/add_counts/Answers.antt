use Rattle.std.proofs.Common.{◌+◌, inl, inr, get_or, ap, arith}
use Rattle.std.proofs.lemmas.Bool.{cases_lt, cases_eq}
use Rattle.std.proofs.lemmas.Grind.{get_or-set_at}
use Rattle.std.proofs.lemmas.List.{get_or-set_other, get_or_past}
use Rattle.order_counts.proofs.cost_counts.add_counts.Goals as goal

pub overflow_add-counts : goal.overflow_add-counts
overflow_add-counts c = omega (arith, c.requires.fits c.loop-i.i c.loop-i-test.true, c.loop-i.invariant.1 c.loop-i.i (omega arith))

pub loop-i-preserved : goal.loop-i-preserved
loop-i-preserved c =
    let i = c.loop-i.i in
    let long = c.requires.long in
    let kept = c.loop-i.auto.counts in
    let below = c.loop-i-test.true in
    let sum = get_or c.loop-i.counts i 0 + get_or c.args.more.now i 0 in (
      (λ j lt. elim (cases_eq j i) [
        | inl e ↦ omega (
          arith,
          get_or-set_at c.loop-i.counts i j sum 0 e (omega arith),
          c.loop-i.invariant.1 i (omega arith),
          ap (λ k. get_or c.args.counts.now k 0) e,
          ap (λ k. get_or c.args.more.now k 0) e,
        )
        | inr ne ↦ omega (arith, get_or-set_other c.loop-i.counts i j sum 0 ne, c.loop-i.invariant.0 j (omega arith))
      ]),
      (λ j le. omega (arith, get_or-set_other c.loop-i.counts i j sum 0 (λ e. absurd (omega arith)), c.loop-i.invariant.1 j (omega arith))),
    )

pub returns-clause-added : goal.returns-clause-added
returns-clause-added c = λ j. elim (cases_lt j c.loop-i.i) [
  | inl lt ↦ c.loop-i.invariant.0 j lt
  | inr le ↦ omega (arith, c.loop-i.invariant.1 j le, get_or_past c.args.more.now j 0 (let f = c.loop-i-test.false in omega arith))
]
