-- What it means that a line passes what it is asked.
use Rattle.std.proofs.Common.{◌≡◌, ℕ, ◌+◌, ◌-◌, ◌^◌, ◌≤◌, ◌<◌, suc, refl, sym, ◌∙◌, ap, Bool, true, false, not, ◌&&◌, ◌||◌, ◌==◌, nat_lt, nat_le, nat_eq, List, [], ◌∷◌, ◌++◌, length, map, get_or, decimal, None, arith}
use Rattle.std.specs.List.{AllByRecursion, list_all}
use Rattle.std.specs.Cmp.Lexicographic.{pointwise, same_text}
use Rattle.std.proofs.lemmas.Bool.{eqb-true}
use Rattle.std.proofs.lemmas.List.{length-map}
use Rattle.certificate.specs.declared.faults.LineFault.{LineFault}
use Rattle.certificate.specs.Spelling.{hex4, field}
use Rattle.definitions.specs.Texts.{same, number_of, first_fault}
use Rattle.certificate.specs.Faults.{mask_of, is_decimal, is_mask, field_fault, LineTest, line_faults}
use Rattle.certificate.specs.Decoded.{numbers_of}
use Rattle.certificate.proofs.WordLines.{decimal_back, hex_back}

-- each line passes what it is asked, and each question has its line
abbrev pub Pass : List LineTest → List (List (List ℕ)) → Type 0
Pass [] ws = ws ≡ []
Pass (judge ∷ others) [] = ⊥
Pass (judge ∷ others) (line ∷ ws) = (judge line ≡ None) × Pass others ws

pub pass_length : (js : List LineTest) (ws : List (List (List ℕ))) → Pass js ws → length js ≡ length ws
pass_length [] ws pass = rw pass refl
pass_length (j ∷ js) [] pass = elim pass [ ]
pass_length (j ∷ js) (line ∷ ws) (here, pass) = ap suc (pass_length js ws pass)

pub pass_append : (js ks : List LineTest) (vs ws : List (List (List ℕ))) → Pass js vs → Pass ks ws → Pass (js ++ ks) (vs ++ ws)
pass_append [] ks vs ws here more = rw here more
pass_append (j ∷ js) ks [] ws here more = elim here [ ]
pass_append (j ∷ js) ks (line ∷ vs) ws (first, here) more = (first, pass_append js ks vs ws here more)

-- lines that pass have no fault
pub pass_none : (number : ℕ) (js : List LineTest) (ws : List (List (List ℕ))) → Pass js ws → line_faults number js ws ≡ []
unfolding line_faults
pass_none number [] ws pass = refl
pass_none number (j ∷ js) [] pass = elim pass [ ]
pass_none number (j ∷ js) (line ∷ ws) (here, pass) = rw here (pass_none (number + 1) js ws pass)

-- two words are equal exactly if they are told to be
pub same_self : (w : List ℕ) → same w w ≡ true
same_self [] = refl
same_self (b ∷ w) = let here : nat_eq b b ≡ true = grind arith in rw here (same_self w)

pub same_is : (v w : List ℕ) → same v w ≡ true → v ≡ w
same_is v w e = same_text v w (sym e)

pub both_are : (s t : Bool) → (s && t) ≡ true → (s ≡ true) × (t ≡ true)
both_are true t e = (refl, e)
both_are false t e = absurd (cc e)

pub all_same_is : (vs ws : List (List ℕ)) → pointwise same vs ws ≡ true → vs ≡ ws
all_same_is [] [] e = refl
all_same_is [] (w ∷ ws) e = absurd (cc e)
all_same_is (v ∷ vs) [] e = absurd (cc e)
all_same_is (v ∷ vs) (w ∷ ws) e =
    let b = both_are (same v w) (pointwise same vs ws) e in
    rw (same_is v w b.0) (rw (all_same_is vs ws b.1) refl)

-- the test of a fault's first reason, and of its second
pub no_fault_here : (a b c : Bool) (e f : LineFault) → first_fault ((not a || not b, e) ∷ (not c, f) ∷ []) ≡ None → (a ≡ true) × (b ≡ true) × (c ≡ true)
no_fault_here a b c e f h = grind arith

-- a number of some bounds
abbrev pub IsFrom : ℕ → ℕ → ℕ → Type 0
IsFrom least most n = (least ≤ n) × (n ≤ most)

pub decimal_passes : (least most n : ℕ) → most < 2 ^ 64 → IsFrom least most n → is_decimal least most (decimal n) ≡ true
decimal_passes least most n fits (low, high) = grind (arith, decimal_back, same_self)

pub decimal_is : (least most : ℕ) (word : List ℕ) → is_decimal least most word ≡ true → (decimal (number_of word) ≡ word) × IsFrom least most (number_of word)
decimal_is least most word e =
    let b = both_are (same word (decimal (number_of word))) (nat_le least (number_of word) && nat_le (number_of word) most) e in
    let c = both_are (nat_le least (number_of word)) (nat_le (number_of word) most) b.1 in
    (sym (same_is word (decimal (number_of word)) b.0), (grind arith, grind arith))

pub decimals_pass : (least most : ℕ) (ns : List ℕ) → most < 2 ^ 64 → AllByRecursion (IsFrom least most) ns →
    list_all (is_decimal least most) (map decimal ns) ≡ true
decimals_pass least most [] fits all = refl
decimals_pass least most (n ∷ ns) fits (here, all) = rw (decimal_passes least most n fits here) (decimals_pass least most ns fits all)

pub decimals_are : (least most : ℕ) (ws : List (List ℕ)) → list_all (is_decimal least most) ws ≡ true →
    (map decimal (map number_of ws) ≡ ws) × AllByRecursion (IsFrom least most) (map number_of ws)
decimals_are least most [] e = (refl, tt)
decimals_are least most (w ∷ ws) e =
    let b = both_are (is_decimal least most w) (list_all (is_decimal least most) ws) e in
    grind (arith, decimal_is, decimals_are least most ws b.1)

pub mask_passes : (n mask : ℕ) → n ≤ 16 → mask < 2 ^ n - 1 → 2 ^ n ≤ 65536 → is_mask n (hex4 mask) ≡ true
mask_passes n mask small within top = grind (arith, hex_back, same_self)

pub mask_is : (n : ℕ) (word : List ℕ) → is_mask n word ≡ true → (hex4 (mask_of word) ≡ word) × (mask_of word < 2 ^ n - 1)
mask_is n word e =
    let b = both_are (same word (hex4 (mask_of word))) (nat_lt (mask_of word) (2 ^ n - 1)) e in
    (sym (same_is word (hex4 (mask_of word)) b.0), grind arith)

-- a line of a fixed word with numbers
pub field_passes : (name : List ℕ) (count least most : ℕ) (ns : List ℕ) → length ns ≡ count → most < 2 ^ 64 →
    AllByRecursion (IsFrom least most) ns → field_fault name count least most (field name ns) ≡ None
field_passes name count least most ns e fits all = grind (arith, length-map, same_self, decimals_pass)

pub record IsField (name : List ℕ) (count least most : ℕ) (ws : List (List ℕ)) : Type 0 where
  pub line_is : field name (numbers_of ws) ≡ ws
  pub many : length (numbers_of ws) ≡ count
  pub bounds : AllByRecursion (IsFrom least most) (numbers_of ws)

pub field_is : (name : List ℕ) (count least most : ℕ) (ws : List (List ℕ)) → field_fault name count least most ws ≡ None → IsField name count least most ws
field_is name count least most [] none = absurd (cc none)
field_is name count least most (word ∷ numbers) none =
    let b = no_fault_here (same word name) (length numbers == count) (list_all (is_decimal least most) numbers) _ _ none in
    let all = decimals_are least most numbers b.2 in
    let many : length numbers ≡ count = eqb-true (length numbers) count b.1 in
    record { line_is = rw (same_is word name b.0) (rw all.0 refl); many = length-map numbers number_of ∙ many; bounds = all.1 }

-- a line of one number
pub one_number : (name : List ℕ) (least most : ℕ) (ws : List (List ℕ)) → IsField name 1 least most ws →
    (field name (number_of (get_or ws 1 []) ∷ []) ≡ ws) × IsFrom least most (number_of (get_or ws 1 []))
one_number name least most [] is = absurd (let wrong = is.many in omega arith)
one_number name least most (word ∷ []) is = absurd (let wrong = is.many in omega arith)
one_number name least most (word ∷ n ∷ []) is = (is.line_is, is.bounds.0)
one_number name least most (word ∷ n ∷ m ∷ more) is = absurd (let wrong = is.many in omega arith)
