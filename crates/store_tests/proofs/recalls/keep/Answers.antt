use Rattle.std.proofs.Common.{◌≡◌, ℕ, Bool, true, false, ◌&&◌, List, length, sym, refl, ap, ◌∙◌, arith}
use Rattle.definitions.specs.Functions.{Point, SameFunction}
use Rattle.node_words.specs.Meaning.{function_of, along}
use Rattle.node_words.specs.Entries.{combine}
use Rattle.node_words.proofs.Meaning.{value_terminal}
use Rattle.unique_table.specs.Plans.{order_of}
use Rattle.store_tests.proofs.recalls.keep.Goals as goal

and_true : (b : Bool) → b ≡ (b && true)
and_true true = refl
and_true false = refl

one_is : (order ws : List ℕ) (p : Point) → function_of order ws 1 p ≡ true
unfolding function_of
one_is order ws p = value_terminal (length order) ws 1 (along order p) (omega arith)

pub remember-requires-clause-function : goal.remember-requires-clause-function
unfolding SameFunction combine
remember-requires-clause-function c = let s = c.args.session.now in record {
  known = c.requires.known;
  function = λ p l. and_true (function_of (order_of s.store.plan) s.seen c.args.id p)
      ∙ ap (λ (b : Bool). function_of (order_of s.store.plan) s.seen c.args.id p && b) (sym (one_is (order_of s.store.plan) s.seen p));
}
