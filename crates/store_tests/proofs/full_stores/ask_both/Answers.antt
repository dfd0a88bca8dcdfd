use Rattle.std.proofs.Common.{rules, ◌≡◌, ℕ, List, sym, subst}
use Rattle.std.specs.List.{All}
use Rattle.unique_table.specs.Sessions.{IsKnownBelow}
use Rattle.unique_table.proofs.SessionsGoOn.{all_below}
use Rattle.store_tests.proofs.full_stores.ask_both.Goals as goal

pub ask-requires-clause-below : goal.ask-requires-clause-below
ask-requires-clause-below g c =
    let is : c.deref.result.now ≡ c.args.one.below.items = search rules in
    all_below c.args.one.session c.join-both.result 11 c.deref.result.now c.join-both.ensures.one
    (subst (λ (ids : List ℕ). All (IsKnownBelow c.args.one.session 11) ids) (sym is) c.requires.below)
