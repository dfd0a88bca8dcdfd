-- Worked values of cells, of certificates in format 2 and of pairs, by computation.
use Rattle.std.proofs.Common.{◌≡◌, ℕ, zero, suc, ◌<◌, refl, sym, true, List, [], ◌∷◌, map, lit<, arith, nat_eq}
use Rattle.std.specs.List.{IsDistinct}
use Rattle.std.proofs.lemmas.Bool.{false≢true}
use Rattle.definitions.specs.Functions.{points, restrict, table, depends}
use Rattle.definitions.specs.Orders.{IsOrder, has, members, place_in, without}
use Rattle.definitions.specs.Pairs.{Pair, is_above, keeps, Keeps, is_lawful, are_lawful, sorted_pairs, IsGreedy, IsFirstOrder, Leads, IsPairCycle}
use Rattle.definitions.specs.Pairs.Leads.{by_one, by_more}
use Rattle.definitions.specs.Levels.{subfunctions, reach, dependents, level_count, level_counts, size_under}
use Rattle.definitions.specs.Widths.{outside, width, cost, arrangements, least_of, least, essential, essentials_outside}
use Rattle.definitions.specs.LowerBounds.{functions_with, functions_without, asked_by, nodes_above}
use Rattle.definitions.specs.declared.limits.LowerBound.TheVariants.{Variables, Widths}
use Rattle.definitions.specs.Cells.{open_tops, is_within, best_top, cell_of, cell_cost, wanted, widths_taken, IsReadFrom}
use Rattle.definitions.specs.Diagrams.{FewestKeeping, IsFirstKeeping}
use Rattle.definitions.specs.Certificates.{Certificate, Cell, IsGood, lower_bound, set_value, Applies, listed_masks, least_listed, certificate_of}
use Rattle.definitions.specs.Certificates.Reason.{Edge, CellTooBig, Pairs}
use Rattle.definitions.specs.Sifting.{placements, smallest_order, smallest_of, best, insert_by_count, sifting_order, sifted}
use Rattle.order_model.proofs.Worked.Counts.{parity3, mux}
use Rattle.definitions.proofs.Widths.Clipped.{clip}
use Rattle.definitions.proofs.Certificates.Written.{cert_of_is_good}
use Rattle.definitions.proofs.Certificates.Potential.{good_is_fewest}
use Rattle.definitions.proofs.Precedence.Cycles.{greedy_is_first}

-- the multiplexer's cells for the bound 3
mux_cells : map (cell_of 3 (mux ∷ []) [] Variables 3) (1 ∷ 2 ∷ 4 ∷ 3 ∷ 5 ∷ 6 ∷ 7 ∷ []) ≡ (1, 0) ∷ (1, 1) ∷ (4, 2) ∷ (2, 0) ∷ (4, 0) ∷ (4, 1) ∷ (3, 2) ∷ []
unfolding points restrict table depends subfunctions reach dependents outside width cost without arrangements are_lawful is_lawful least_of
    least members essential essentials_outside nodes_above is_within best_top cell_of
mux_cells = refl

-- the same, with the lower bound by widths
mux_narrow : map (cell_of 3 (mux ∷ []) [] Widths 3) (1 ∷ 2 ∷ 4 ∷ 3 ∷ 5 ∷ 6 ∷ 7 ∷ []) ≡ (1, 0) ∷ (1, 1) ∷ (4, 2) ∷ (2, 0) ∷ (4, 0) ∷ (4, 1) ∷ (3, 2) ∷ []
unfolding points restrict table depends subfunctions reach dependents outside width cost without arrangements are_lawful is_lawful least_of
    least members essential essentials_outside functions_with functions_without asked_by nodes_above is_within best_top cell_of
mux_narrow = refl

-- how many widths they take, and how many those of the parity do
mux_widths : widths_taken 3 (mux ∷ []) [] Variables 3 ∷ widths_taken 3 (parity3 ∷ []) [] Variables 5 ∷ [] ≡ 8 ∷ 12 ∷ []
unfolding points restrict table depends subfunctions reach dependents outside width cost without arrangements are_lawful is_lawful least_of
    least members essential essentials_outside nodes_above is_within best_top cell_of cell_cost open_tops wanted widths_taken
mux_widths = refl

-- the multiplexer's certificate lists nothing, and the parity's four sets
mux_certificate : certificate_of 3 (mux ∷ []) [] (2 ∷ 0 ∷ 1 ∷ []) ≡
    record { format = 2; inputs = 3; outputs = 1; order = 2 ∷ 0 ∷ 1 ∷ []; levels = 1 ∷ 1 ∷ 1 ∷ []; total = 3; pairs = []; cells = [] }
unfolding points restrict table depends subfunctions reach dependents level_count level_counts size_under outside width cost without
    arrangements are_lawful is_lawful least_of least members essential essentials_outside listed_masks least_listed sorted_pairs
    certificate_of
mux_certificate = refl

abbrev pub cell : ℕ → ℕ → Cell
cell m c = record { mask = m; cost = c }

abbrev pub of_parity : List Cell → Certificate
of_parity cells = record { format = 2; inputs = 3; outputs = 1; order = 0 ∷ 1 ∷ 2 ∷ []; levels = 1 ∷ 2 ∷ 2 ∷ []; total = 5; pairs = []; cells = cells }

parity_certificate : certificate_of 3 (parity3 ∷ []) [] (0 ∷ 1 ∷ 2 ∷ []) ≡ of_parity (cell 0 0 ∷ cell 1 2 ∷ cell 2 2 ∷ cell 4 2 ∷ [])
unfolding points restrict table depends subfunctions reach dependents level_count level_counts size_under outside width cost without
    arrangements are_lawful is_lawful least_of least members essential essentials_outside listed_masks least_listed sorted_pairs
    certificate_of
parity_certificate = refl

-- without the set of variable 0 the edge to it fails
pub parity_edge : Applies 3 (parity3 ∷ []) (of_parity (cell 0 0 ∷ cell 2 2 ∷ cell 4 2 ∷ [])) (Edge 0 0)
unfolding points restrict table depends subfunctions reach dependents outside width members is_lawful essential essentials_outside lower_bound set_value
parity_edge = (cell 0 0, (0, lit< tt, refl), refl, lit< tt, refl, (refl, refl), lit< tt)

-- a set whose cost leaves no room for the essential variable outside
pub parity_too_big : Applies 3 (parity3 ∷ []) (of_parity (cell 0 0 ∷ cell 1 2 ∷ cell 2 2 ∷ cell 3 5 ∷ cell 4 2 ∷ [])) CellTooBig
unfolding points restrict table depends essential essentials_outside lower_bound members
parity_too_big = (cell 3 5, (3, lit< tt, refl), lit< tt)

-- ---- pairs on the multiplexer

abbrev pub first_above_last : List Pair
first_above_last = (0, 2) ∷ []

abbrev pub last_above_first : List Pair
last_above_first = (2, 0) ∷ []

abbrev pub of_mux : List Pair → List Cell → Certificate
of_mux pairs cells = record { format = 2; inputs = 3; outputs = 1; order = 0 ∷ 2 ∷ 1 ∷ []; levels = 1 ∷ 2 ∷ 1 ∷ []; total = 4; pairs = pairs; cells = cells }

above_certificate : certificate_of 3 (mux ∷ []) first_above_last (0 ∷ 2 ∷ 1 ∷ []) ≡ of_mux first_above_last (cell 0 0 ∷ cell 2 1 ∷ [])
unfolding points restrict table depends subfunctions reach dependents level_count level_counts size_under outside width cost without
    arrangements are_lawful is_lawful least_of least members essential essentials_outside listed_masks least_listed sorted_pairs
    certificate_of
above_certificate = refl

above_sifted : sifted 3 (mux ∷ []) first_above_last (0 ∷ 1 ∷ 2 ∷ []) ≡ 0 ∷ 2 ∷ 1 ∷ []
unfolding points restrict table depends subfunctions reach dependents level_count level_counts size_under without placements smallest_order
    smallest_of keeps is_above best insert_by_count sifting_order sifted place_in
above_sifted = refl

below_sifted : sifted 3 (mux ∷ []) last_above_first (1 ∷ 2 ∷ 0 ∷ []) ≡ 2 ∷ 1 ∷ 0 ∷ []
unfolding points restrict table depends subfunctions reach dependents level_count level_counts size_under without placements smallest_order
    smallest_of keeps is_above best insert_by_count sifting_order sifted place_in
below_sifted = refl

sifted_sizes : map (size_under 3 (mux ∷ [])) ((0 ∷ 2 ∷ 1 ∷ []) ∷ (2 ∷ 1 ∷ 0 ∷ []) ∷ (2 ∷ 0 ∷ 1 ∷ []) ∷ (0 ∷ 1 ∷ 2 ∷ []) ∷ []) ≡ 4 ∷ 3 ∷ 3 ∷ 5 ∷ []
unfolding points restrict table depends subfunctions reach dependents level_count level_counts size_under
sifted_sizes = refl

-- the certificate without its pair
pub without_pair : Applies 3 (mux ∷ []) (of_mux [] (cell 0 0 ∷ cell 2 1 ∷ [])) (Edge 0 0)
unfolding points restrict table depends subfunctions reach dependents outside width members is_lawful essential essentials_outside lower_bound set_value
without_pair = (cell 0 0, (0, lit< tt, refl), refl, lit< tt, refl, (refl, refl), lit< tt)

-- and with the pair turned round
pub other_pair : Applies 3 (mux ∷ []) (of_mux last_above_first (cell 0 0 ∷ cell 2 1 ∷ [])) Pairs
unfolding keeps is_above
other_pair = refl

-- ---- cycles

two_way : IsPairCycle ((0, 1) ∷ (1, 0) ∷ []) 0
two_way = record { back = by_more {b = 1} refl (by_one refl); least = λ u lt. absurd (omega arith) }

to_itself : IsPairCycle ((0, 0) ∷ []) 0
to_itself = record { back = by_one refl; least = λ u lt. absurd (omega arith) }

abbrev later : List Pair
later = (1, 2) ∷ (2, 1) ∷ []

later_cycle : IsPairCycle later 1
later_cycle = record { back = by_more {b = 2} refl (by_one refl); least = none }
  where
    from_zero : {b : ℕ} → Leads later 0 b → ⊥
    from_zero (by_one h) = false≢true h
    from_zero (by_more h l) = false≢true h

    none : (u : ℕ) → u < 1 → Leads later u u → ⊥
    none zero lt l = from_zero l
    none (suc u) lt l = absurd (omega arith)

-- ---- the first orders that keep the pairs, and that have the fewest nodes

pub is_order : (a b c : ℕ) → IsDistinct nat_eq (a ∷ b ∷ c ∷ []) → ((x : ℕ) → x < 3 → has (a ∷ b ∷ c ∷ []) x ≡ true) → a < 3 → b < 3 →
    c < 3 → IsOrder 3 (a ∷ b ∷ c ∷ [])
is_order a b c d all p q r = grind arith

pub below_three : (Q : ℕ → Type 0) → Q 0 → Q 1 → Q 2 → (x : ℕ) → x < 3 → Q x
below_three Q h k l x m = grind arith

pub order_021 : IsOrder 3 (0 ∷ 2 ∷ 1 ∷ [])
unfolding IsDistinct
order_021 = grind arith

order_210 : IsOrder 3 (2 ∷ 1 ∷ 0 ∷ [])
unfolding IsDistinct
order_210 =
    is_order 2 1 0 ((refl, (refl, tt)), ((refl, tt), (tt, tt))) (below_three (λ x. has (2 ∷ 1 ∷ 0 ∷ []) x ≡ true) refl refl refl) (lit< tt)
    (lit< tt) (lit< tt)

above_read : IsReadFrom 3 (mux ∷ []) first_above_last Variables 4 7 (0 ∷ 2 ∷ 1 ∷ [])
unfolding points restrict table depends subfunctions reach dependents outside width cost without arrangements are_lawful is_lawful least_of
    least members essential essentials_outside nodes_above is_within best_top cell_of IsReadFrom
above_read = (refl, refl, (refl, refl, (refl, refl, refl)))

kept_above : Keeps first_above_last (0 ∷ 2 ∷ 1 ∷ [])
unfolding keeps is_above
kept_above = refl

above_first : IsFirstKeeping 3 (mux ∷ []) first_above_last (0 ∷ 2 ∷ 1 ∷ [])
unfolding points restrict table depends subfunctions reach dependents level_count level_counts size_under
above_first = clip 3 (mux ∷ []) first_above_last Variables (0 ∷ 2 ∷ 1 ∷ []) (0 ∷ 2 ∷ 1 ∷ []) order_021 kept_above above_read

below_read : IsReadFrom 3 (mux ∷ []) last_above_first Variables 3 7 (2 ∷ 0 ∷ 1 ∷ [])
unfolding points restrict table depends subfunctions reach dependents outside width cost without arrangements are_lawful is_lawful least_of
    least members essential essentials_outside nodes_above is_within best_top cell_of IsReadFrom
below_read = (refl, refl, (refl, refl, (refl, refl, refl)))

kept_below : Keeps last_above_first (2 ∷ 1 ∷ 0 ∷ [])
unfolding keeps is_above
kept_below = refl

below_first : IsFirstKeeping 3 (mux ∷ []) last_above_first (2 ∷ 0 ∷ 1 ∷ [])
unfolding points restrict table depends subfunctions reach dependents level_count level_counts size_under
below_first = clip 3 (mux ∷ []) last_above_first Variables (2 ∷ 1 ∷ 0 ∷ []) (2 ∷ 0 ∷ 1 ∷ []) order_210 kept_below below_read

-- the certificate with its pair is the tool's, so it is good
above_good : IsGood 3 (mux ∷ []) (of_mux first_above_last (cell 0 0 ∷ cell 2 1 ∷ []))
above_good =
    cert_of_is_good 3 (mux ∷ []) first_above_last (of_mux first_above_last (cell 0 0 ∷ cell 2 1 ∷ []))
    (record { first = above_first; parts = sym above_certificate })

four_is_fewest : FewestKeeping 3 (mux ∷ []) first_above_last 4
four_is_fewest = good_is_fewest 3 (mux ∷ []) (of_mux first_above_last (cell 0 0 ∷ cell 2 1 ∷ [])) above_good

above_greedy : IsGreedy 3 first_above_last 7 (0 ∷ 1 ∷ 2 ∷ [])
unfolding IsGreedy is_lawful without members
above_greedy = grind arith

below_greedy : IsGreedy 3 last_above_first 7 (1 ∷ 2 ∷ 0 ∷ [])
unfolding IsGreedy is_lawful without members
below_greedy = grind arith

-- the orders with which sifting starts
starts : IsFirstOrder 3 first_above_last (0 ∷ 1 ∷ 2 ∷ []) × IsFirstOrder 3 last_above_first (1 ∷ 2 ∷ 0 ∷ [])
starts = search (greedy_is_first, order_021, kept_above, above_greedy, order_210, kept_below, below_greedy)
