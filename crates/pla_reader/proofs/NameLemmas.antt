-- Names.
use Rattle.std.proofs.Common.{◌≡◌, ℕ, ◌+◌, true, ◌∙◌, ap, List, [], ◌∷◌, ◌++◌, decimal, length, Option, Some, None, IfSome, unwrap_or, sym, arith}
use Rattle.std.proofs.lemmas.List.FromFn.{length-map-range_with_len}
use Rattle.std.specs.Char.{is_ascii_graphic}
use Rattle.std.specs.Str.{IsAscii}
use Rattle.std.proofs.lemmas.Str.Ascii.{IsAscii-nil, IsAscii-cons}
use Rattle.std.proofs.lemmas.Bool.{and_parts}
use Rattle.std.proofs.lemmas.Bool.Decides.{nat_tests}
use mathlib.Core.List.{map-append}
use Rattle.pla_reader.specs.Text.{is_name}
use Rattle.pla_reader.specs.Covers.{numbered_names}
use Rattle.definitions.proofs.Lists.Ranges.{range_append}

pub ascii_name : (word : List ℕ) → is_name word ≡ true → IsAscii word
ascii_name [] e = IsAscii-nil
ascii_name (b ∷ bs) e = let parts = and_parts (is_ascii_graphic b) (is_name bs) e in IsAscii-cons b bs (grind (arith, nat_tests)) (ascii_name bs parts.1)

-- one name more with a number after it
pub numbered_next : (front : List ℕ) (n : ℕ) → numbered_names front (n + 1) ≡ numbered_names front n ++ (front ++ decimal n) ∷ []
unfolding numbered_names
numbered_next front n = grind (arith, decimal, range_append, map-append)

-- names that were given, or else numbered ones, are as many as their count says
pub names_number : (given : Option (List (List ℕ))) (count : Option ℕ) (n : ℕ) (front : List ℕ) (names : List (List ℕ)) → count ≡ Some n →
    IfSome given (λ ns. count ≡ Some (length ns)) →
    names ≡ unwrap_or given (numbered_names front n) → length names ≡ n
unfolding numbered_names
names_number None count n front names e counted same = ap length same ∙ length-map-range_with_len (λ i. front ++ decimal i) 0 n
names_number (Some ns) count n front names e counted same = let lengths = ap length same in
    let here : n ≡ length ns = cc in lengths ∙ sym here
