-- Words of lines.
use Rattle.std.proofs.Common.{◌≡◌, ℕ, ◌<◌, refl, sym, ◌∙◌, ap, Bool, true, false, ◌==◌, List, [], ◌∷◌, length, get_or, codes, None, Some, arith}
use Rattle.std.specs.List.{join_with_byte, slice_split}
use Rattle.std.specs.Cmp.Lexicographic.{pointwise}
use Rattle.std.proofs.lemmas.List.Splits.{join_with_byte-slice_split, slice_split_none, slice_split_at, length-slice_split}
use Rattle.certificate.specs.declared.faults.LineFault.TheVariants.{BadLine}
use Rattle.definitions.specs.Texts.{same, number_of}
use Rattle.certificate.specs.Faults.{words, fixed_fault, title_fault, field_fault}
use Rattle.certificate.specs.Parsing.{Lacks, Cuts}
use Rattle.certificate.proofs.LineTests.{same_is, same_self, all_same_is}
use Rattle.std.proofs.lemmas.Bool.{false_from_ne_true}

pub cut_words : (line front behind : List ℕ) → Cuts 32 line front behind → words line ≡ front ∷ words behind
unfolding words
cut_words line front behind (parts, lacks) = ap (slice_split (λ b. b == 32)) parts ∙ slice_split_at (λ b. b == 32) front 32 behind lacks refl

-- and of one without a space
pub whole_word : (line : List ℕ) → Lacks 32 line → words line ≡ line ∷ []
unfolding words
whole_word line lacks = slice_split_none (λ b. b == 32) line lacks

pub some_word : (line : List ℕ) → 0 < length (words line)
unfolding words
some_word line = omega (arith, length-slice_split (λ b. b == 32) line)

pub words_join : (line : List ℕ) → join_with_byte 32 (words line) ≡ line
unfolding words
words_join line = join_with_byte-slice_split 32 line

-- a line of other than two words
pub not_two : (name : List ℕ) (least most : ℕ) (ws : List (List ℕ)) → ((a b : List ℕ) → ws ≡ a ∷ b ∷ [] → ⊥) → field_fault name 1 least most ws ≡ Some BadLine
not_two name least most [] never = refl
not_two name least most (w ∷ []) never = by (same w name) refl where
  by : (t : Bool) → same w name ≡ t → field_fault name 1 least most (w ∷ []) ≡ Some BadLine
  by true e = rw e refl
  by false e = rw e refl
not_two name least most (w ∷ n ∷ []) never = absurd (never w n refl)
not_two name least most (w ∷ n ∷ m ∷ more) never = grind arith

-- a line that isn't what is wanted
other_words : (wanted : List (List ℕ)) (line text : List ℕ) → join_with_byte 32 wanted ≡ text → same line text ≡ false →
    pointwise same (words line) wanted ≡ false
other_words wanted line text joined other = false_from_ne_true (pointwise same (words line) wanted) (λ yes.
    let here : line ≡ text = sym (words_join line) ∙ ap (join_with_byte 32) (all_same_is (words line) wanted yes) ∙ joined in
    let wrong : false ≡ true = sym other ∙ (rw here (same_self text)) in absurd (cc wrong))

abbrev end_words : List (List ℕ)
end_words = codes "end" ∷ []

pub end_yes : (line : List ℕ) → same line (codes "end") ≡ true → fixed_fault end_words (words line) ≡ None
unfolding words
end_yes line e = let is : slice_split (λ b. b == 32) line ≡ end_words = ap (slice_split (λ b. b == 32)) (same_is line (codes "end") e) in rw is refl

pub end_no : (line : List ℕ) → same line (codes "end") ≡ false → fixed_fault end_words (words line) ≡ Some BadLine
end_no line e = rw (other_words end_words line (codes "end") refl e) refl

pub first_title : (line : List ℕ) → same line (codes "bddorder-certificate 1") ≡ true →
    (title_fault (words line) ≡ None) × (1 ≡ number_of (get_or (words line) 1 []))
unfolding words
first_title line e = rw (ap (slice_split (λ b. b == 32)) (same_is line (codes "bddorder-certificate 1") e)) (refl, refl)

pub second_title : (line : List ℕ) → same line (codes "bddorder-certificate 2") ≡ true →
    (title_fault (words line) ≡ None) × (2 ≡ number_of (get_or (words line) 1 []))
unfolding words
second_title line e =
    rw (ap (slice_split (λ b. b == 32)) (same_is line (codes "bddorder-certificate 2") e)) (refl, refl)

pub no_title : (line : List ℕ) → same line (codes "bddorder-certificate 1") ≡ false → same line (codes "bddorder-certificate 2") ≡ false →
    title_fault (words line) ≡ Some BadLine
no_title line first second = grind (arith, other_words)
