use Rattle.std.proofs.Common.{◌≡◌, ◌+◌, ◌-◌, ℕ, subst, arith}
use Rattle.std.specs.List.{All}
use Rattle.unique_table.proofs.SessionsGoOn.{IsFrom, follows_trans}
use Rattle.store_tests.proofs.full_stores.lowest.Goals as goal

pub loop-step-preserved : goal.loop-step-preserved
loop-step-preserved g c = let at : 15 - c.loop-step.step ≡ 16 - (c.loop-step.step + 1) = omega arith in record {
  follows = follows_trans _ _ _ c.loop-step.invariant.follows c.make_all.ensures.follows;
  ids = subst (λ (k : ℕ). All (IsFrom c.make_all.new.session k) c.make_all.new.ids.items) at c.make_all.ensures.ids;
}
