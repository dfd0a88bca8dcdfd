use Rattle.small_search.proofs.LowestVariables.{sets_are, within}
use Rattle.std.proofs.Common.{◌≡◌, ◌+◌, ◌-◌, ◌^◌, [], ◌∷◌, ◌++◌, sym, ap, ◌∙◌, subst, arith}
use Rattle.std.proofs.lemmas.Nat.{pow_pos}
use Rattle.definitions.specs.Problems.{functions}
use Rattle.small_search.specs.Paths.{HoldPath}
use Rattle.small_search.proofs.WidthRows.{AreRowsTo, rows_all, rows_first, rows_written, zero_row}
use Rattle.small_search.proofs.all_widths.push_rows.Goals as goal

pub loop-number-init : goal.loop-number-init
loop-number-init c =
    let t = c.args.search.now.problem in
    record {
      path = c.in_ok-restart.ensures;
      rows = subst (AreRowsTo t.inputs (functions t) 1)
          (sym (c.in_ok-push.ensures.items ∙ ap (λ xs. xs ++ zero_row ∷ []) (c.in_ok-reserve.ensures.items ∙ c.requires)))
          (rows_first t.inputs (functions t));
    }

pub overflow_cast-set : goal.overflow_cast-set
overflow_cast-set c =
    let i = c.inputs.ensures in
    let s = sets_are _ _ i.value i.few in
    let t = c.loop-number-test.true in
    record { fits = omega (arith, s.0, s.1, t) }

pub loop-number-preserved : goal.loop-number-preserved
loop-number-preserved c =
    let t = c.args.search.now.problem in
    let number = c.loop-number.number in
    record {
      path = subst (λ k. HoldPath t k c.add_lowest.new.self) (let e : number ≡ number + 1 - 1 = omega arith in e)
          c.in_ok-add_lowest.ensures;
      rows = rows_written t.inputs (functions t) number c.loop-number.rows.items c.push-in-loop-number.new.self.items zero_row c.write_row.new.row
          c.loop-number.invariant.rows c.in_ok-push-2.ensures.items c.write_row.ensures;
    }

pub returns : goal.returns
returns c =
    let t = c.args.search.now.problem in
    let s = sets_are _ _ c.inputs.ensures.value c.inputs.ensures.few in
    let all : c.loop-number.number ≡ 2 ^ t.inputs = omega (arith, s.0, c.loop-number-test.false, c.loop-number.auto.number-end, pow_pos t.inputs) in
    rows_all t.inputs (functions t) c.loop-number.number c.loop-number.rows.items all c.loop-number.invariant.rows

pub write_row-requires-clause-within : goal.write_row-requires-clause-within
write_row-requires-clause-within c = within _ _ _ c.loop-number-test.true c.inputs.ensures.value c.inputs.ensures.few

pub add_lowest-requires-clause-within : goal.add_lowest-requires-clause-within
add_lowest-requires-clause-within c = within _ _ _ c.loop-number-test.true c.inputs.ensures.value c.inputs.ensures.few

pub subfunctions_in-subfunctions-requires-clause-within : goal.subfunctions_in-subfunctions-requires-clause-within
subfunctions_in-subfunctions-requires-clause-within c = within _ _ _ c.loop-number-test.true c.inputs.ensures.value c.inputs.ensures.few
