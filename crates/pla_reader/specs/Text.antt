-- The text of a PLA description: its lines, the words of a line, and what words may be.
--     lines_of bytes      the lines, without their line feeds
--     content line, words content, positions content      a line up to its comment; its words; the bytes of a term
--     only_word words, is_name word      what directives are given
use Rattle.std.specs.Prelude.{ℕ, Bool, true, false, not, if◌then◌else◌, ◌||◌, ◌==◌, List, [], ◌∷◌, filter, take_while, Option, Some, None}
use Rattle.std.specs.List.{slice_split, onto_first, list_all}
use Rattle.std.specs.Char.{is_ascii_graphic}

-- the bytes that have a meaning
abbrev pub line_feed : ℕ
line_feed = 10

abbrev pub number_sign : ℕ
number_sign = 35

abbrev pub bar : ℕ
bar = 124

-- blanks are space, tab and carriage return, and no other bytes
abbrev pub is_blank : ℕ → Bool
is_blank b = b == 32 || (b == 9 || b == 13)

-- the lines: each one ends at a line feed or at the end of the input, and nothing after the last line feed is no line
unfoldable pub lines_of : List ℕ → List (List ℕ)
lines_of [] = []
lines_of (b ∷ bytes) = if b == line_feed then [] ∷ lines_of bytes else onto_first b (lines_of bytes)

-- what stands before the first number sign: espresso(5) has comments after a pound sign
abbrev pub content : List ℕ → List ℕ
content line = take_while (λ b. not (b == number_sign)) line

-- whether a list has an element
abbrev pub is_filled : {A : Type 0} → List A → Bool
is_filled [] = false
is_filled (x ∷ xs) = true

-- the words: what stands between blanks
unfoldable pub words : List ℕ → List (List ℕ)
words line = filter is_filled (slice_split is_blank line)

-- the positions of a term: espresso(5) ignores white space in a term, and a bar between its parts
unfoldable pub positions : List ℕ → List ℕ
positions line = filter (λ b. not (is_blank b || b == bar)) line

-- the word, if there is just one
abbrev pub only_word : List (List ℕ) → Option (List ℕ)
only_word (word ∷ []) = Some word
only_word _ = None

-- a name has visible ASCII bytes only, 33 to 126
abbrev pub is_name : List ℕ → Bool
is_name word = list_all is_ascii_graphic word
