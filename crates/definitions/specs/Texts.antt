-- Texts that are read: their words, the numbers that words write, and what is wrong.
--     same word other      whether two texts are equal
--     is_number word, number_of word      whether a word is a number; the number that decimal digits write
--     first_fault tests      the first fault whose test holds
use Rattle.std.specs.Prelude.{ℕ, Bool, if◌then◌else◌, ◌&&◌, List, [], ◌∷◌, length, Option, Some, None, nat_eq, nat_le}
use Rattle.std.specs.Cmp.Lexicographic.{pointwise}
use Rattle.std.specs.Str.{all_ascii_digits}
use Rattle.std.specs.Str.Parse.{digits_value}

-- whether two texts are equal
abbrev pub same : List ℕ → List ℕ → Bool
same = pointwise nat_eq

-- a number: one to nine decimal digits
abbrev pub is_number : List ℕ → Bool
is_number word = all_ascii_digits word && (nat_le 1 (length word) && nat_le (length word) 9)

-- the number that decimal digits write
abbrev pub number_of : List ℕ → ℕ
number_of word = digits_value 10 word

-- the first fault whose test holds
abbrev pub first_fault : {Fault : Type 0} → List (Bool × Fault) → Option Fault
first_fault [] = None
first_fault ((holds, fault) ∷ others) = if holds then Some fault else first_fault others
