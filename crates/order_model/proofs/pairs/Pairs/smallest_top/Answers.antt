use Rattle.std.proofs.Common.{◌≡◌, ◌*◌, ◌%◌, ◌^◌, ◌<◌, ◌≤◌, ℕ, inl, inr, subst, arith, IsTrue}
use Rattle.std.proofs.lemmas.Bool.{cases_eq, cases_lt}
use Rattle.std.proofs.lemmas.Nat.{one_shl}
use Rattle.definitions.specs.Orders.{has, members}
use Rattle.definitions.specs.Pairs.{tops}
use Rattle.definitions.proofs.Precedence.MaskLaws.{member_bit}
use Rattle.definitions.proofs.Precedence.Greedy.{top_from, top_parts, some_top_below}
use Rattle.order_model.proofs.pairs.Pairs.smallest_top.Goals as goal
use Rattle.order_model.proofs.pairs.Pairs.smallest_top.Goals.{else-contains-via-then-contains+else-lawful, else-contains-via-else-contains}

shifted : (x n : ℕ) → x < n → n ≤ 16 → (1 * 2 ^ x) % 2 ^ 16 ≡ 2 ^ x
shifted x n h k = one_shl x 16 (omega arith)

pub overflow_sub-set : goal.overflow_sub-set
overflow_sub-set c = grind arith

pub loop-x-init : goal.loop-x-init
loop-x-init c y h = absurd (omega arith)

pub loop-x-preserved : goal.loop-x-preserved
loop-x-preserved c y h top = elim (cases_eq y c.loop-x.x) [
  | inl e ↦
      let n = c.args.self.now.inputs in
      let P = c.args.self.now.pairs in
      let parts = top_parts n P c.args.set c.loop-x.x (subst (λ (v : ℕ). IsTrue (has (tops P (members n c.args.set)) v)) e top) in
      grind (arith, member_bit, shifted)
  | inr ne ↦ c.loop-x.invariant y (omega arith) top
]

pub returns-then-lawful-clause-top : goal.returns-then-lawful-clause-top
returns-then-lawful-clause-top c = grind (arith, shifted, top_from)

pub returns-then-lawful-clause-smallest : goal.returns-then-lawful-clause-smallest
returns-then-lawful-clause-smallest c y top = elim (cases_lt y c.loop-x.x) [ inl l ↦ absurd (c.loop-x.invariant y l top) | inr l ↦ l ]

pub unreachable-requires : goal.unreachable-requires
unreachable-requires c = grind (arith, some_top_below)
