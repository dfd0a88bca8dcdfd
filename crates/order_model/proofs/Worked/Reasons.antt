-- The first reasons of the worked certificates.
use Rattle.std.proofs.Common.{◌≡◌, ℕ, refl, true, List, [], ◌∷◌, length, arith, lit<, nat_cmp, Less}
use Rattle.std.specs.Cmp.Lexicographic.{slice_cmp}
use Rattle.std.specs.List.{IsDistinct}
use Rattle.definitions.specs.Functions.{Function, points, restrict, table, depends}
use Rattle.definitions.specs.Orders.{IsOrder, has, members}
use Rattle.definitions.specs.Pairs.{keeps, Keeps}
use Rattle.definitions.specs.Levels.{subfunctions, reach, dependents, level_count, level_counts}
use Rattle.definitions.specs.Widths.{essential, essentials_outside}
use Rattle.definitions.specs.Certificates.{Certificate, lower_bound, set_value, Applies, rank_of, IsFirstReason}
use Rattle.definitions.specs.Certificates.Reason.{Pairs, Total, CellTooBig, Edge}
use Rattle.order_model.proofs.Worked.Counts.{parity3, mux}
use Rattle.order_model.proofs.Worked.Pairs.{is_order, below_three, order_021, cell, of_parity, of_mux, parity_edge, parity_too_big, without_pair, other_pair, last_above_first}

-- what holds of a certificate up to the test of the start
record IsSound (n : ℕ) (F : List Function) (cert : Certificate) : Type 0 where
  shape : (cert.inputs ≡ n) × (cert.outputs ≡ length F)
  order : IsOrder n cert.order
  pairs : Keeps cert.pairs cert.order
  levels : cert.levels ≡ level_counts n F cert.order
  start : set_value n F cert 0 ≡ 0

-- nothing comes before the edge from the empty set to variable 0 but the tests before the edges
none_before_edge : (m x : ℕ) → slice_cmp nat_cmp (8 ∷ m ∷ x ∷ []) (8 ∷ 0 ∷ 0 ∷ []) ≡ Less → ⊥
none_before_edge m x e = grind arith

edge_first : (n : ℕ) (F : List Function) (cert : Certificate) → IsSound n F cert → (Applies n F cert Total → ⊥) →
    (Applies n F cert CellTooBig → ⊥) → Applies n F cert (Edge 0 0) → IsFirstReason n F cert (Edge 0 0)
unfolding rank_of
edge_first n F cert sound total small applies = grind arith

order_012 : IsOrder 3 (0 ∷ 1 ∷ 2 ∷ [])
unfolding IsDistinct
order_012 =
    is_order 0 1 2 ((refl, (refl, tt)), ((refl, tt), (tt, tt))) (below_three (λ x. has (0 ∷ 1 ∷ 2 ∷ []) x ≡ true) refl refl refl) (lit< tt)
    (lit< tt) (lit< tt)

abbrev edge_bad : Certificate
edge_bad = of_parity (cell 0 0 ∷ cell 2 2 ∷ cell 4 2 ∷ [])

edge_sound : IsSound 3 (parity3 ∷ []) edge_bad
unfolding points restrict table depends subfunctions reach dependents level_count level_counts keeps set_value
edge_sound = record { shape = (refl, refl); order = order_012; pairs = refl; levels = refl; start = refl }

edge_small : Applies 3 (parity3 ∷ []) edge_bad CellTooBig → ⊥
unfolding points restrict table depends essential essentials_outside lower_bound members
edge_small h = grind arith

parity_invalid : IsFirstReason 3 (parity3 ∷ []) edge_bad (Edge 0 0)
parity_invalid = edge_first 3 (parity3 ∷ []) edge_bad edge_sound (λ ne. ne refl) edge_small parity_edge

abbrev pair_bad : Certificate
pair_bad = of_mux [] (cell 0 0 ∷ cell 2 1 ∷ [])

pair_sound : IsSound 3 (mux ∷ []) pair_bad
unfolding points restrict table depends subfunctions reach dependents level_count level_counts keeps set_value
pair_sound = record { shape = (refl, refl); order = order_021; pairs = refl; levels = refl; start = refl }

pair_small : Applies 3 (mux ∷ []) pair_bad CellTooBig → ⊥
unfolding points restrict table depends essential essentials_outside lower_bound members
pair_small h = grind arith

mux_invalid : IsFirstReason 3 (mux ∷ []) pair_bad (Edge 0 0)
mux_invalid = edge_first 3 (mux ∷ []) pair_bad pair_sound (λ ne. ne refl) pair_small without_pair

-- with a set that is too big, and with a broken pair, no test before is failed
abbrev big_bad : Certificate
big_bad = of_parity (cell 0 0 ∷ cell 1 2 ∷ cell 2 2 ∷ cell 3 5 ∷ cell 4 2 ∷ [])

big_invalid : IsFirstReason 3 (parity3 ∷ []) big_bad CellTooBig
unfolding points restrict table depends subfunctions reach dependents level_count level_counts keeps set_value rank_of
big_invalid = grind (arith, parity_too_big, order_012)

abbrev turned_bad : Certificate
turned_bad = of_mux last_above_first (cell 0 0 ∷ cell 2 1 ∷ [])

turned_invalid : IsFirstReason 3 (mux ∷ []) turned_bad Pairs
unfolding rank_of
turned_invalid = grind (arith, other_pair, order_021)
