use Rattle.std.proofs.Common.{◌≡◌, ◌≤◌, ◌<◌, ◌&&◌, true, get_or, arith, length, ℕ, decimal, nat_le, List}
use Rattle.std.specs.Str.{all_ascii_digits}
use Rattle.std.proofs.lemmas.Bool.{and_parts}
use Rattle.std.proofs.lemmas.Str.Parse.{digits_value_short, numerals_by_value, tells_all_ascii_digits}
use Rattle.definitions.specs.Texts.{number_of, is_number}
use Rattle.certificate.proofs.Numbers.{spelled_digits, decimal_some, decimal_short, decimal_leads, decimal_all}
use Rattle.certificate.proofs.words.decimal.Goals as goal
use Rattle.certificate.proofs.words.decimal.Goals.{else-word-gt1-via-then-word-gt1+else-word-eq48, else-word-gt1-via-else-word-gt1}

pub returns-then-word-gt-MOST_DIGITS-clause-none : goal.returns-then-word-gt-MOST_DIGITS-clause-none
returns-then-word-gt-MOST_DIGITS-clause-none c n few e = let short = decimal_short n c.args.word.now few e in absurd (omega arith)

pub returns-then-word-eq48-clause-none : goal.returns-then-word-eq48-clause-none
returns-then-word-eq48-clause-none c n few e = grind (arith, decimal_leads)

-- a number that is read is its word's, if that begins with no zero
spelled : (word : List ℕ) (v : ℕ) → (get_or word 0 0 ≡ 48 → length word ≤ 1) → length word ≤ 6 → is_number word ≡ true → v ≡ number_of word →
    (decimal v ≡ word) × (number_of word ≡ v)
spelled word v leads short is e =
    let parts = and_parts (all_ascii_digits word) (nat_le 1 (length word) && nat_le (length word) 9) is in
    let lengths = and_parts (nat_le 1 (length word)) (nat_le (length word) 9) parts.1 in
    let some : 0 < length word = grind arith in
    let small = digits_value_short (numerals_by_value (λ ds. all_ascii_digits ds ≡ true) tells_all_ascii_digits) word 6 parts.0 short in
    grind (arith, spelled_digits)

pub returns-clause-some : goal.returns-clause-some
returns-clause-some c = grind (arith, spelled)

pub returns-clause-none : goal.returns-clause-none
returns-clause-none c = grind (arith, decimal_some, decimal_all)
