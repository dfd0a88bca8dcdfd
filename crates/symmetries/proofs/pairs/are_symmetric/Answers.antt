use Rattle.std.proofs.Common.{◌≡◌, ◌+◌, ◌-◌, ◌<◌, ◌^◌, ℕ, List, inl, inr, false, get_or, ap, subst, sym, ◌∙◌, arith}
use Rattle.std.proofs.lemmas.Bool.{cases_eq}
use Rattle.definitions.specs.Problems.{TruthTables, packed_bit, table_at, table_in, value_at}
use Rattle.definitions.proofs.Bits.PointNumbers.{room_above}
use Rattle.definitions.proofs.Bits.Tables.{table_value}
use Rattle.symmetries.proofs.SymmetricPoints.{symmetric_by_points}
use Rattle.symmetries.proofs.pairs.are_symmetric.Goals as goal

-- the values of a function at two points, by its words
values_equal : (t : TruthTables) (j : ℕ) (words : List ℕ) (p q : ℕ) → table_in t.inputs words ≡ table_at t j → p < 2 ^ t.inputs → q < 2 ^ t.inputs →
    packed_bit words p ≡ packed_bit words q → value_at t j p ≡ value_at t j q
values_equal t j words p q table small other e =
    ap (λ us. get_or us p false) (sym table) ∙ table_value t.inputs words p small ∙ e ∙ sym (table_value t.inputs words q other)
    ∙ ap (λ us. get_or us q false) table

pub loop-output-preserved : goal.loop-output-preserved
loop-output-preserved c j p less small one zero =
    let t = c.args.problem.now in
    let a = c.args.a in
    let b = c.args.b in
    let n = c.inputs.ensures.value in
    let inside = c.requires.inside in
    let room = room_above t.inputs p b small inside zero in
    elim (cases_eq j c.loop-output.output) [
      | inl e ↦
          subst (λ k. value_at t k p ≡ value_at t k ((p - 2 ^ a) + 2 ^ b)) (sym e)
          (values_equal t c.loop-output.output c.words.result.now p ((p - 2 ^ a) + 2 ^ b) c.words.ensures.table small (omega arith)
          (c.is_symmetric_in.ensures c.if-not-is_symmetric_in.false p (subst (λ k. p < 2 ^ k) (sym n) small) one zero))
      | inr ne ↦ c.loop-output.invariant j p (omega arith) small one zero
    ]

pub returns : goal.returns
returns c true =
    let done = c.loop-output-test.false in
    let e = c.outputs-output-end.ensures.value in
    symmetric_by_points c.args.problem.now c.args.a c.args.b c.requires.first c.requires.inside
    (λ j p less small one zero. c.loop-output.invariant j p (omega arith) small one zero)
