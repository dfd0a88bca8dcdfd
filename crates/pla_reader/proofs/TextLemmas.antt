-- How lines and words begin.
use Rattle.std.proofs.Common.{◌≡◌, ℕ, ◌+◌, ◌<◌, suc, get_or, refl, sym, ◌∙◌, ap, Bool, true, false, ◌==◌, List, [], ◌∷◌, ◌++◌, length, take, drop, append_assoc, ◌-◌, Option, Some, None, unwrap_or, arith}
use Rattle.std.specs.List.{slice_index_or, position_or_len, onto_first, slice_split, filter}
use Rattle.std.proofs.lemmas.Bool.{false_from_ne_true}
use Rattle.std.proofs.lemmas.List.{take-append-drop}
use Rattle.std.proofs.lemmas.List.Sums.{position_or_len_is}
use Rattle.memchr.specs.Find.{IsFirstByte}
use Rattle.pla_reader.specs.Text.{is_filled, lines_of, is_blank, words}
use Rattle.definitions.proofs.Lists.Digits.{behind_first}

abbrev is_feed : ℕ → Bool
is_feed b = b == 10

pub one_more : (k : ℕ) → 1 + k ≡ suc k
one_more k = omega arith

-- the first line of a text that isn't empty
pub first_line_cons : (b : ℕ) (bs : List ℕ) →
    lines_of (b ∷ bs) ≡ take (position_or_len is_feed (b ∷ bs)) (b ∷ bs) ∷ lines_of
    (drop 1 (drop (position_or_len is_feed (b ∷ bs)) (b ∷ bs)))
unfolding lines_of
first_line_cons b [] = grind (arith, is_feed)
first_line_cons b (c ∷ cs) = by (b == 10) refl (first_line_cons c cs) where
  by : (t : Bool) → (b == 10) ≡ t →
      lines_of (c ∷ cs) ≡ take (position_or_len is_feed (c ∷ cs)) (c ∷ cs) ∷ lines_of
      (drop 1 (drop (position_or_len is_feed (c ∷ cs)) (c ∷ cs))) →
      lines_of (b ∷ c ∷ cs) ≡ take (position_or_len is_feed (b ∷ c ∷ cs)) (b ∷ c ∷ cs) ∷ lines_of
      (drop 1 (drop (position_or_len is_feed (b ∷ c ∷ cs)) (b ∷ c ∷ cs)))
  by true e ih = rw e refl
  by false e ih = rw e (rw (one_more (position_or_len is_feed (c ∷ cs))) (ap (onto_first b) ih))

pub first_line_lem : (text : List ℕ) → 0 < length text →
    lines_of text ≡ take (position_or_len is_feed text) text ∷ lines_of (drop 1 (drop (position_or_len is_feed text) text))
first_line_lem [] h = absurd (omega (arith, h))
first_line_lem (b ∷ bs) h = first_line_cons b bs

pub words_none : words [] ≡ []
unfolding words
words_none = refl

-- a blank in front makes no word
pub words_blank : (b : ℕ) (bs : List ℕ) → is_blank b ≡ true → words (b ∷ bs) ≡ words bs
unfolding words
words_blank b bs e = rw e refl

-- the parts after the first
abbrev after_parts : List ℕ → List (List ℕ)
after_parts [] = []
after_parts (y ∷ ys) = slice_split is_blank ys

split_front : (xs : List ℕ) → slice_split is_blank xs ≡ take (position_or_len is_blank xs) xs ∷ after_parts (drop (position_or_len is_blank xs) xs)
split_front [] = refl
split_front (x ∷ xs) = by (is_blank x) refl (split_front xs) where
  by : (t : Bool) → is_blank x ≡ t → slice_split is_blank xs ≡ take (position_or_len is_blank xs) xs ∷ after_parts (drop (position_or_len is_blank xs) xs) →
      slice_split is_blank (x ∷ xs) ≡ take (position_or_len is_blank (x ∷ xs)) (x ∷ xs) ∷ after_parts (drop (position_or_len is_blank (x ∷ xs)) (x ∷ xs))
  by true e ih = rw e refl
  by false e ih = rw e (rw (one_more (position_or_len is_blank xs)) (ap (onto_first x) ih))

-- what is left begins with a blank, so its words are the parts after
after_words : (xs : List ℕ) → filter is_filled (after_parts (drop (position_or_len is_blank xs) xs)) ≡ words (drop (position_or_len is_blank xs) xs)
unfolding words
after_words [] = refl
after_words (x ∷ xs) = by (is_blank x) refl (after_words xs) where
  by : (t : Bool) → is_blank x ≡ t → filter is_filled (after_parts (drop (position_or_len is_blank xs) xs)) ≡ words (drop (position_or_len is_blank xs) xs) →
      filter is_filled (after_parts (drop (position_or_len is_blank (x ∷ xs)) (x ∷ xs))) ≡ words (drop (position_or_len is_blank (x ∷ xs)) (x ∷ xs))
  by true e ih = rw e (rw e refl)
  by false e ih = rw e (rw (one_more (position_or_len is_blank xs)) ih)

-- the first word of a line that begins with one
pub words_word : (b : ℕ) (bs : List ℕ) → is_blank b ≡ false →
    words (b ∷ bs) ≡ take (position_or_len is_blank (b ∷ bs)) (b ∷ bs) ∷ words (drop (position_or_len is_blank (b ∷ bs)) (b ∷ bs))
unfolding words
words_word b bs e =
    rw e (rw (one_more (position_or_len is_blank bs))
    (ap (λ parts. filter is_filled (onto_first b parts)) (split_front bs)
    ∙ ap (λ ws. (b ∷ take (position_or_len is_blank bs) bs) ∷ ws) (after_words bs)))

-- a line without its blank in front
pub words_rest : (xs : List ℕ) → 0 < length xs → is_blank (slice_index_or xs 0 0) ≡ true → words xs ≡ words (take (length xs - 1) (drop 1 xs))
words_rest [] some e = absurd (omega (arith, some))
words_rest (b ∷ bs) some e = words_blank b bs e ∙ ap words (sym (behind_first (b ∷ bs)))

pub words_of_none : (xs : List ℕ) → length xs ≡ 0 → words xs ≡ []
words_of_none [] e = words_none
words_of_none (b ∷ bs) e = absurd (omega (arith, e))

-- the first line, from the parts round the line feed
pub first_line_from : (text front back : List ℕ) (n : ℕ) → 0 < length text → n ≡ position_or_len is_feed text → front ≡ take n text → back ≡ drop n text →
    lines_of text ≡ front ∷ lines_of (take (length back - 1) (drop 1 back))
first_line_from text front back n some at e f = rw (behind_first back) (rw e (rw f (rw at (first_line_lem text some))))

-- a word that begins with no blank has a byte
pub word_some : (xs : List ℕ) → 0 < length xs → is_blank (slice_index_or xs 0 0) ≡ false → 0 < position_or_len is_blank xs
word_some [] some e = absurd (omega (arith, some))
word_some (b ∷ bs) some e = rw e (omega arith)

-- how many bytes stand before the first one that passes a test, by a search for an equal test
pub len_before_first : (p q : ℕ → Bool) → ((b : ℕ) → q b ≡ p b) → (xs : List ℕ) (found : Option ℕ) → IsFirstByte q xs found →
    unwrap_or found (length xs) ≡ position_or_len p xs
len_before_first p q same xs None h =
    sym (position_or_len_is p xs (length xs) 0 (omega arith)
    (λ k lt. false_from_ne_true (p (get_or xs k 0)) (λ t. h k (omega arith) lt (same (get_or xs k 0) ∙ t))) (λ lt. absurd (omega arith)))
len_before_first p q same xs (Some i) h = grind (arith, position_or_len_is, false_from_ne_true)

-- a text ends with another
abbrev pub EndsIn : List ℕ → List ℕ → Type 0
EndsIn text tail = (front : List ℕ) × (text ≡ front ++ tail)

-- the parts of a text whose rest has a first byte
pub first_apart : (text front rest : List ℕ) → text ≡ front ++ rest → text ≡ front ++ take 1 rest ++ take (length rest - 1) (drop 1 rest)
first_apart text front rest e =
    e ∙ ap (λ (xs : List ℕ). front ++ xs) (sym (take-append-drop 1 rest)) ∙ sym (append_assoc front (take 1 rest) (drop 1 rest))
    ∙ ap (λ (xs : List ℕ). front ++ take 1 rest ++ xs) (sym (behind_first rest))

-- those of a text that is split at a place
pub split_parts : (text front back : List ℕ) (n : ℕ) → front ≡ take n text → back ≡ drop n text → text ≡ front ++ back
split_parts text front back n f b = sym (take-append-drop n text) ∙ (λ i. sym f i ++ sym b i)

-- those of a text whose rest is split at a place
pub rest_parts : (text gone rest front back : List ℕ) (n : ℕ) → text ≡ gone ++ rest → front ≡ take n rest → back ≡ drop n rest →
    text ≡ gone ++ front ++ back
rest_parts text gone rest front back n e f b =
    e ∙ ap (λ (xs : List ℕ). gone ++ xs) (split_parts rest front back n f b) ∙ sym (append_assoc gone front back)
