-- The widths of all sets as one list.
--     listed_none      of no masks
--     row_listed      the row of a mask, as it is listed
--     listed_more      those of one mask more
--     listed_long      how many they are
use Rattle.std.proofs.Common.{◌≡◌, ℕ, zero, suc, ◌+◌, ◌*◌, ◌≤◌, List, [], ◌∷◌, ◌++◌, map, length, take, refl, sym, ap, ap₂, ◌∙◌, arith}
use Rattle.std.specs.List.{flat_map, range_with_len}
use Rattle.std.proofs.lemmas.Grind.{same_number_lists}
use Rattle.std.proofs.lemmas.List.{flat_map_more, length-append}
use Rattle.std.proofs.lemmas.List.FromFn.{length-map-range_with_len, take-map-range_with_len, get_or-map-range_with_len}
use Rattle.definitions.proofs.Lists.Ranges.{range_append}
use Rattle.definitions.specs.Functions.{Function}
use Rattle.definitions.specs.AllOrders.{AreWidthsIn, width_in}
use Rattle.minorder_c.specs.OrderFigures.{widths_listed}

pub row_listed : (n : ℕ) (F : List Function) (mask : ℕ) (row : List ℕ) → n ≤ 16 → length row ≡ 16 → AreWidthsIn n F mask row →
    take n row ≡ map (width_in n F mask) (range_with_len 0 n)
row_listed n F mask row few long are =
    let f = width_in n F mask in
    let same : row ≡ map f (range_with_len 0 16) =
    same_number_lists row (map f (range_with_len 0 16)) (long ∙ sym (length-map-range_with_len f 0 16))
    (λ k lt. are k (omega (arith, lt, long)) ∙ sym (get_or-map-range_with_len f 0 16 k k 0 (omega (arith, lt, long)) (omega arith))) in
    ap (take n) same ∙ take-map-range_with_len f 0 16 n few

pub listed_none : (n : ℕ) (F : List Function) → [] ≡ widths_listed n F []
unfolding widths_listed
listed_none n F = refl

one_more : (k : ℕ) → range_with_len 0 (k + 1) ≡ range_with_len 0 k ++ k ∷ []
one_more k = let e : 0 + k ≡ k = omega arith in range_append 0 k 1 ∙ ap (λ z. range_with_len 0 k ++ z ∷ []) e

pub listed_more : (n : ℕ) (F : List Function) (k : ℕ) (row : List ℕ) → n ≤ 16 → length row ≡ 16 → AreWidthsIn n F k row →
    widths_listed n F (range_with_len 0 k) ++ take n row ≡ widths_listed n F (range_with_len 0 (k + 1))
unfolding widths_listed
listed_more n F k row few long are =
    let f : ℕ → List ℕ = λ mask. map (width_in n F mask) (range_with_len 0 n) in
    ap (λ xs. flat_map f (range_with_len 0 k) ++ xs) (row_listed n F k row few long are)
    ∙ flat_map_more f [] (range_with_len 0 k) k
    ∙ ap (flat_map f) (sym (one_more k))

pub listed_long : (n : ℕ) (F : List Function) (k : ℕ) → length (widths_listed n F (range_with_len 0 k)) ≡ k * n
unfolding widths_listed
listed_long n F zero = omega arith
listed_long n F (suc k) =
    let f : ℕ → List ℕ = λ mask. map (width_in n F mask) (range_with_len 0 n) in
    let more : suc k ≡ k + 1 = omega arith in
    ap (λ j. length (flat_map f (range_with_len 0 j))) more
    ∙ ap (λ xs. length (flat_map f xs)) (one_more k)
    ∙ ap length (sym (flat_map_more f [] (range_with_len 0 k) k))
    ∙ length-append (flat_map f (range_with_len 0 k)) (f k)
    ∙ ap₂ (λ a b. a + b) (listed_long n F k) (length-map-range_with_len (width_in n F k) 0 n)
    ∙ omega arith
