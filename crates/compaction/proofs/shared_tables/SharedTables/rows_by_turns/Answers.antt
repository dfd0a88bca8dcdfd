use Rattle.std.proofs.Common.{All, sym, subst, arith}
use Rattle.std.proofs.lemmas.Grind.{common_steps}
use Rattle.std.proofs.lemmas.List.Elements.{All-push}
use Rattle.compaction.specs.Rows.{HoldsRows}
use Rattle.compaction.proofs.shared_tables.SharedTables.rows_by_turns.Goals as goal
use Rattle.compaction.proofs.shared_tables.SharedTables.rows_by_turns.Goals.{in-Some-of_byte+then-request-inputs+in_ok-try_clone+in_ok-byte+in_ok-push, in_default}

pub loop-turn-preserved : goal.loop-turn-preserved
loop-turn-preserved c = elim c.match-of_byte.branch [
  | in-Some-of_byte+then-request-inputs+in_ok-try_clone+in_ok-byte+in_ok-push w ↦
      let both : All (HoldsRows c.args.self.now) w.push.new.self.items =
      subst (All (HoldsRows c.args.self.now)) (sym w.in_ok-push.ensures.items)
      (All-push (HoldsRows c.args.self.now) c.loop-turn.found.items _ c.loop-turn.invariant w.in_ok-byte.ensures.rows) in
      subst (λ v. All (HoldsRows c.args.self.now) v.items) (sym w.found-is) both
  | in_default w ↦ grind (arith, common_steps)
]
