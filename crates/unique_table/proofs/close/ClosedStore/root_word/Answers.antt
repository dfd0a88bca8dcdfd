use Rattle.std.proofs.Common.{◌≡◌, ℕ, ◌+◌, ◌^◌, ◌≤◌, get_or, ◌∙◌, sym, ap, subst, arith}
use Rattle.std.specs.Slots.{slots_items}
use Rattle.unique_table.proofs.FoundWords.{get_or_found}
use Rattle.unique_table.specs.Closed.{closed_store}
use Rattle.unique_table.specs.Closing.{ClosedStoreOf, root_word}
use Rattle.unique_table.proofs.Roots.{root_small}
use Rattle.unique_table.proofs.close.ClosedStore.root_word.Goals as goal
use Rattle.unique_table.proofs.close.ClosedStore.root_word.Goals.{After-word}

found : (c : After-word) → c.word.result ≡ root_word (closed_store c.self.inside) c.args.output
found c = sym (get_or_found (slots_items c.self.inside.closed.words) _ c.word.result c.word.ensures)
    ∙ (λ i. get_or (slots_items c.self.inside.closed.words) (c.self.invariant.first i + c.from.ensures i) 0)

pub returns-clause-is : goal.returns-clause-is
returns-clause-is c = found c ∙ ap (λ (z : ClosedStoreOf). root_word z c.args.output) c.self.view_is

pub returns-clause-small : goal.returns-clause-small
returns-clause-small c = subst (λ (z : ℕ). z ≤ 2 ^ 32) (sym (found c))
    (root_small (closed_store c.self.inside) c.self.invariant.final c.args.output (omega (arith, c.self.invariant.plan.places)))
