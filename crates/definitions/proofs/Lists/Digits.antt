-- Decimal digits of a word, read from its first.
--     pow_more      a number with one digit more
--     behind_first      a word without its first character
--     digits_rest, value_rest      the same of its digits, and of their value
--     digit_is, digit_range      the value of a digit, and the bytes that are digits
--     pow_small      numbers of at most eight digits are small
use Rattle.std.proofs.Common.{◌≡◌, ℕ, suc, ◌+◌, ◌-◌, ◌*◌, ◌^◌, ◌<◌, ◌≤◌, true, List, [], ◌∷◌, length, take, drop, sym, ap, arith, lit<}
use Rattle.std.specs.Char.{is_ascii_digit, digit_value}
use Rattle.std.specs.List.{slice_index_or}
use Rattle.std.specs.Str.{all_ascii_digits}
use Rattle.std.specs.Str.Parse.{digits_value_after}
use Rattle.std.proofs.Math.Nat.{pow-suc, pow-le-pow_right}
use Rattle.std.proofs.lemmas.List.{take_all, length-drop}
use Rattle.std.proofs.lemmas.Str.{digit_value_digit}

pub pow_more : (n k v d : ℕ) → v < 10 ^ k → d < 10 → n ≡ suc k → v * 10 + d < 10 ^ n
pow_more n k v d h small e = rw e (rw (pow-suc 10 k) (omega arith))

-- a slice after its first element
pub behind_first : (xs : List ℕ) → take (length xs - 1) (drop 1 xs) ≡ drop 1 xs
behind_first xs = take_all (length xs - 1) (drop 1 xs) (simp length-drop (omega arith))

pub digits_rest : (xs : List ℕ) → 0 < length xs → is_ascii_digit (slice_index_or xs 0 0) ≡ true →
    all_ascii_digits xs ≡ all_ascii_digits (take (length xs - 1) (drop 1 xs))
digits_rest [] some e = absurd (omega arith)
digits_rest (x ∷ xs) some e = rw e (ap all_ascii_digits (sym (behind_first (x ∷ xs))))

pub digit_is : (c : ℕ) → 48 ≤ c → c ≤ 57 → digit_value c ≡ c - 48
digit_is c low high = omega (arith, digit_value_digit c (low, high))

pub value_rest : (v : ℕ) (xs : List ℕ) → 0 < length xs → 48 ≤ slice_index_or xs 0 0 → slice_index_or xs 0 0 ≤ 57 →
    digits_value_after 10 v xs ≡ digits_value_after 10 (v * 10 + (slice_index_or xs 0 0 - 48)) (take (length xs - 1) (drop 1 xs))
value_rest v [] some low high = absurd (omega arith)
value_rest v (x ∷ xs) some low high = rw (digit_is x low high) (ap (digits_value_after 10 (v * 10 + (x - 48))) (sym (behind_first (x ∷ xs))))

pub digit_range : (c : ℕ) → is_ascii_digit c ≡ true → (48 ≤ c) × (c ≤ 57)
digit_range c e = (grind arith, grind arith)

pub pow_small : (k : ℕ) → k ≤ 8 → 10 ^ k ≤ 100000000
pow_small k h = pow-le-pow_right {n = 10} (lit< tt) {i = k} {j = 8} h
