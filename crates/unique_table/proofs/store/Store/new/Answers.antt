use Rattle.std.proofs.Common.{ℕ, ◌+◌, List, [], rules, sym, refl, subst, arith}
use Rattle.atomic_table.specs.Table.{opening}
use Rattle.unique_table.specs.declared.plan.Plan.{Plan}
use Rattle.unique_table.specs.Invariant.{IsKept, newcomer}
use Rattle.unique_table.proofs.Starts.{starts}
use Rattle.std.proofs.lemmas.Grind.{common_steps}
use Rattle.unique_table.proofs.store.Store.new.Goals as goal

pub of_words-requires : goal.of_words-requires
of_words-requires c =
    let b : Plan = record {
      places = c.node_places-places.result;
      entries = c.cache_places-entries.result;
      roots = c.parts_count-roots.result;
      pieces = c.parts_count-roots.result + c.from.result;
      order = c.of.result;
      problem = c.of-2.result;
      kind = c.in_ok-kind.kind;
    } in
    subst (λ (ws : List ℕ). IsKept b (opening ws [] (newcomer b)))
    (sym c.blank_words-words.ensures)
    (starts b _ (search rules) refl)

pub invariant_of-store : goal.invariant_of-store
invariant_of-store c = grind (arith, common_steps)
