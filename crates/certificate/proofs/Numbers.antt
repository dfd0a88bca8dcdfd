-- Words that are numbers as a certificate has them.
use Rattle.std.proofs.Common.{◌≡◌, ℕ, ◌^◌, ◌≤◌, ◌<◌, refl, sym, ◌∙◌, ap, true, false, inl, inr, ◌⊎◌, List, length, get_or, decimal, arith, lit<}
use Rattle.std.specs.Fmt.{digits}
use Rattle.std.specs.Str.{all_ascii_digits}
use Rattle.std.proofs.lemmas.Bool.{cases_lt}
use Rattle.std.proofs.lemmas.Fmt.{decimal_nonempty, first_decimal, length-decimal-le, decimal-digits_value, digits_decimal}
use Rattle.std.proofs.lemmas.Str.Parse.{tells_all_ascii_digits, numerals_by_value}
use Rattle.certificate.specs.Spelling.{most_nodes}
use Rattle.definitions.specs.Texts.{number_of}
use Rattle.certificate.specs.Faults.{is_decimal}
use Rattle.certificate.proofs.LineTests.{same_self, decimal_is}

-- digits without a leading zero, or just zero, are their number's decimal
pub spelled_digits : (word : List ℕ) → all_ascii_digits word ≡ true → 0 < length word → (get_or word 0 0 ≡ 48 → length word ≡ 1) →
    number_of word < 2 ^ 64 → decimal (number_of word) ≡ word
spelled_digits word all some leading small =
    decimal-digits_value (numerals_by_value (λ ds. all_ascii_digits ds ≡ true) tells_all_ascii_digits) word all some leading small

-- what a decimal of a number in bounds is
pub decimal_some : (n : ℕ) (word : List ℕ) → n ≤ most_nodes → word ≡ decimal n → 0 < length word
decimal_some n word few e = rw e (decimal_nonempty n (omega arith))

pub decimal_short : (n : ℕ) (word : List ℕ) → n ≤ most_nodes → word ≡ decimal n → length word ≤ 6
decimal_short n word few e = rw e (length-decimal-le 6 n (lit< tt) (omega arith) (omega arith))

pub decimal_leads : (n : ℕ) (word : List ℕ) → n ≤ most_nodes → word ≡ decimal n → get_or word 0 0 ≡ 48 → length word ≡ 1
decimal_leads n word few e first_zero = by (cases_lt 0 n) where
  nothing : (m : ℕ) → m ≡ 0 → length (decimal m) ≡ 1
  nothing m none = unfold digits in rw none refl

  by : (0 < n) ⊎ (n ≤ 0) → length word ≡ 1
  by (inl more) = let above = first_decimal n more (omega arith) in
      let first : get_or (decimal n) 0 0 ≡ 48 = ap (λ w. get_or w 0 0) (sym e) ∙ first_zero in absurd (omega arith)
  by (inr none) = rw e (nothing n (omega arith))

pub decimal_all : (n : ℕ) (word : List ℕ) → n ≤ most_nodes → word ≡ decimal n → all_ascii_digits word ≡ true
decimal_all n word few e = rw e (digits_decimal (numerals_by_value (λ ds. all_ascii_digits ds ≡ true) tells_all_ascii_digits) n (omega arith))

-- the test of bounds
pub bounded : (least most v : ℕ) (word : List ℕ) → decimal v ≡ word → number_of word ≡ v → least ≤ v → v ≤ most → is_decimal least most word ≡ true
bounded least most v word e number low high = grind (arith, same_self)

pub unbounded : (least most : ℕ) (word : List ℕ) → most ≤ most_nodes →
    ((n : ℕ) → n ≤ most_nodes → least ≤ n → n ≤ most → n ≡ number_of word → word ≡ decimal n → ⊥) → is_decimal least most word ≡ false
unbounded least most word few never = grind (arith, decimal_is)
