-- The values of a truth table, listed point by point.
--     bit_in      the bit at a point is that of the table in the words
--     one_more      one more value behind those that are listed
use Rattle.std.proofs.Common.{◌≡◌, ℕ, Bool, List, ◌<◌, ◌++◌, ◌∷◌, [], ◌^◌, map, get_or, false, sym, ap, ◌∙◌, arith}
use Rattle.std.proofs.lemmas.List.{append_assoc, map-append}
use Rattle.std.proofs.lemmas.List.FromFn.{get_or-map-range_with_len}
use Rattle.definitions.specs.Problems.{table_in, packed_bit}

pub bit_in : (n : ℕ) (words : List ℕ) (point : ℕ) → point < 2 ^ n → packed_bit words point ≡ get_or (table_in n words) point false
unfolding table_in
bit_in n words point lt = sym (get_or-map-range_with_len (packed_bit words) 0 (2 ^ n) point point false lt (omega arith))

pub one_more : (before : List ℕ) (values : List Bool) (num : Bool → ℕ) (v : Bool) →
    (before ++ map num values) ++ num v ∷ [] ≡ before ++ map num (values ++ v ∷ [])
one_more before values num v = append_assoc before (map num values) (num v ∷ []) ∙ ap (λ us. before ++ us) (sym (map-append num values (v ∷ [])))
