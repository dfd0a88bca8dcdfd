-- A new store keeps the rule.
use Rattle.std.proofs.Common.{◌≡◌, ℕ, zero, suc, ◌+◌, true, List, [], ◌∷◌, replicate, get_or, take, sym, refl, ◌∙◌, subst, arith}
use Rattle.std.proofs.lemmas.List.{length-replicate, length-take-le}
use lib.Seq.{get_or-drop}
use mathlib.Core.Option.{some, some-injective, some-ne-none}
use lib.ListN.{get_elem?}
use Rattle.atomic_table.specs.Table.{opening}
use Rattle.definitions.specs.Orders.{IsOrder}
use Rattle.unique_table.specs.declared.plan.Plan.{Plan}
use Rattle.unique_table.specs.declared.session.View.{View}
use Rattle.unique_table.specs.Plans.{order_of, levels_of}
use Rattle.unique_table.specs.Invariant.{IsKept, IsSeen, newcomer, nodes_of, pieces_of}
use Rattle.unique_table.proofs.Stakes.{first_within}

abbrev blanks : ℕ → List ℕ
blanks n = replicate n 0

blank : (n p : ℕ) → get_or (blanks n) p 0 ≡ 0
blank zero p = refl
blank (suc n) zero = refl
blank (suc n) (suc p) = blank n p

blank_first : (m n p : ℕ) → get_or (take m (blanks n)) p 0 ≡ 0
blank_first zero n p = refl
blank_first (suc m) zero p = refl
blank_first (suc m) (suc n) zero = refl
blank_first (suc m) (suc n) (suc p) = blank_first m n p

module _ (b : Plan) (n : ℕ) (order : IsOrder (levels_of b) (order_of b)) (size : n ≡ b.places + b.entries + b.pieces) where
  abbrev words : List ℕ
  words = blanks n

  no_node : (p : ℕ) → get_or (nodes_of b words) p 0 ≡ 0
  no_node p = blank_first b.places n p

  no_piece : (q : ℕ) → get_or (pieces_of b words) q 0 ≡ 0
  no_piece q = get_or-drop (b.places + b.entries) words q 0 ∙ blank n (b.places + b.entries + q)

  first_sees : IsSeen b (nodes_of b words) (pieces_of b words) (newcomer b)
  first_sees = grind (arith, no_piece)

  seats : (i : ℕ) (v : View) → get_elem? (newcomer b ∷ []) i ≡ some v → v.live ≡ true → IsSeen b (nodes_of b words) (pieces_of b words) v
  seats zero v e live = subst (IsSeen b (nodes_of b words) (pieces_of b words)) (some-injective (newcomer b) v e) first_sees
  seats (suc i) v e live = absurd (some-ne-none v (sym e))

  pub starts : IsKept b (opening words [] (newcomer b))
  starts = grind (arith, length-replicate, length-take-le, words, no_node, blank, no_piece, seats, first_within)
