-- Where words and names stand in a text.
--     from_both      what two facts of a result say together
--     word_at, next_place, next_inside      the place of a word, and those of one word more; they lie inside the text
--     inside_more, none_inside      places that lie inside a text lie inside a longer one, and so do none
--     lines_more      one line more
--     words_given, nothing_given, line_places      the names of a line, and their places
--     names_of kind lines      the names that a description's lines give
--     names_found, names_go_on, names_at_end, names_gone      at a line that gives some, behind one that doesn't, and at the end
use Rattle.std.proofs.Common.{◌≡◌, ℕ, ◌+◌, ◌-◌, ◌≤◌, refl, sym, ◌∙◌, ap, subst, Bool, true, false, cond, inr, List, [], ◌∷◌, ◌++◌, length, take, drop, map, Option, Some, None, is_some, Result, Ok, Err, IfOk, filter_map, arith, length-append, append_assoc}
use Rattle.std.specs.List.{All}
use Rattle.std.proofs.lemmas.List.Elements.{All-nil, All-push, All-weaker}
use Rattle.std.proofs.lemmas.List.{drop_at, map-append, take_at}
use Rattle.definitions.specs.Texts.{same}
use Rattle.pla_reader.specs.declared.places.Names.{Names}
use Rattle.pla_reader.specs.declared.places.TextPlace.{TextPlace}
use Rattle.pla_reader.specs.declared.places.Names.TheVariants as names
use Rattle.pla_reader.specs.Text.{words, content, lines_of, positions}
use Rattle.pla_reader.specs.Lines.{Line, description, directive, is_end, line_said, meaning, said}
use Rattle.pla_reader.specs.Lines.Line.{Empty, Inputs, Outputs, InputNames, OutputNames, Products, LogicalType, End, UnknownWord, Row}
use Rattle.pla_reader.specs.Covers.{first_or}
use Rattle.pla_reader.specs.Places.{AreNamesAt, Gives, LiesIn, bytes_at, naming_by}
use Rattle.pla_reader.proofs.ReadLemmas.{description_cons, description_end, description_none, said_first}

-- what two facts of a result say together
pub from_both : {X Y : Type 0} (r : Result X Y) (P Q R : X → Type 0) → ((x : X) → P x → Q x → R x) → IfOk r P → IfOk r Q → IfOk r R
from_both (Ok x) P Q R f p q = f x p q
from_both (Err y) P Q R f p q = tt

-- a part of a text
part_at : (front part back : List ℕ) (start long : ℕ) → length front ≡ start → length part ≡ long → take long (drop start (front ++ (part ++ back))) ≡ part
part_at front part back start long f p = ap (take long) (drop_at front (part ++ back) start f) ∙ take_at part back long p

regrouped : (front gone blanks word after back : List ℕ) →
    (front ++ (gone ++ ((blanks ++ word) ++ after))) ++ back ≡ ((front ++ gone) ++ blanks) ++ (word ++ (after ++ back))
regrouped front gone blanks word after back = simp append_assoc

-- the place of a word in a text around its own
word_at : (front text back gone rest blanks word after : List ℕ) (start : ℕ) → length front ≡ start → text ≡ gone ++ rest →
    rest ≡ blanks ++ word ++ after →
    take (length word) (drop (start + (length text - length after - length word)) (front ++ text ++ back)) ≡ word
word_at front text back gone rest blanks word after start f t r =
    let whole : text ≡ gone ++ ((blanks ++ word) ++ after) = t ∙ ap (λ (xs : List ℕ). gone ++ xs) r in
    let long = ap length whole in
    ap (λ (xs : List ℕ). take (length word) (drop (start + (length text - length after - length word)) (front ++ xs ++ back))) whole
    ∙ ap (λ (xs : List ℕ). take (length word) (drop (start + (length text - length after - length word)) xs)) (regrouped front gone blanks word after back)
    ∙ part_at ((front ++ gone) ++ blanks) word (after ++ back) (start + (length text - length after - length word)) (length word)
    (omega (arith, length-append {A = ℕ})) refl

-- one word more has its place
pub next_place : (start : ℕ) (text rest word after gone blanks : List ℕ) (places places' : List TextPlace) →
    ((front back : List ℕ) → length front ≡ start → map (bytes_at (front ++ text ++ back)) places ++ words rest ≡ words text) →
    text ≡ gone ++ rest → rest ≡ blanks ++ word ++ after → words rest ≡ word ∷ words after →
    places' ≡ places ++ record { start = start + (length text - length after - length word); length = length word } ∷ [] →
    (front back : List ℕ) → length front ≡ start → map (bytes_at (front ++ text ++ back)) places' ++ words after ≡ words text
next_place start text rest word after gone blanks places places' so_far t r w more front back f =
    let at : List TextPlace → List (List ℕ) = map (bytes_at (front ++ text ++ back)) in
    let p : TextPlace = record { start = start + (length text - length after - length word); length = length word } in
    ap (λ (ps : List TextPlace). at ps ++ words after) more
    ∙ ap (λ (ws : List (List ℕ)). ws ++ words after) (map-append (bytes_at (front ++ text ++ back)) places (p ∷ []))
    ∙ append_assoc (at places) (bytes_at (front ++ text ++ back) p ∷ []) (words after)
    ∙ ap (λ (v : List ℕ). at places ++ v ∷ words after) (word_at front text back gone rest blanks word after start f t r)
    ∙ ap (λ (ws : List (List ℕ)). at places ++ ws) (sym w) ∙ so_far front back f

pub next_inside : (start : ℕ) (text rest word after gone blanks : List ℕ) (places places' : List TextPlace) →
    All (LiesIn start (start + length text)) places → text ≡ gone ++ rest → rest ≡ blanks ++ word ++ after →
    places' ≡ places ++ record { start = start + (length text - length after - length word); length = length word } ∷ [] →
    All (LiesIn start (start + length text)) places'
next_inside start text rest word after gone blanks places places' so_far t r more =
    let p : TextPlace = record { start = start + (length text - length after - length word); length = length word } in
    let long = ap length t in
    let long' = ap length r in
    let lies : LiesIn start (start + length text) p = (omega arith, omega (arith, length-append {A = ℕ})) in
    subst (All (LiesIn start (start + length text))) (sym more) (All-push (LiesIn start (start + length text)) places p so_far lies)

-- places that lie in a part lie in a longer one
pub inside_more : (start end start' end' : ℕ) (places : List TextPlace) → start' ≤ start → end ≤ end' → All (LiesIn start end) places →
    All (LiesIn start' end') places
inside_more start end start' end' places s e all =
    All-weaker (LiesIn start end) (LiesIn start' end') (λ p h. (omega (arith, h.0, h.1), omega (arith, h.0, h.1))) places all

pub none_inside : (start end : ℕ) (places : List TextPlace) → places ≡ [] → All (LiesIn start end) places
none_inside start end places none = subst (All (LiesIn start end)) (sym none) (All-nil (LiesIn start end))

pub lines_more : (bytes rest line after : List ℕ) (before : List (List ℕ)) → lines_of bytes ≡ before ++ lines_of rest →
    lines_of rest ≡ line ∷ lines_of after → (before' : List (List ℕ)) × (lines_of bytes ≡ before' ++ lines_of after)
lines_more bytes rest line after before ls l =
    (before ++ line ∷ [], ls ∙ ap (λ (xs : List (List ℕ)). before ++ xs) l ∙ sym (append_assoc before (line ∷ []) (lines_of after)))

pub tail_of : (text rest word after gone blanks : List ℕ) → text ≡ gone ++ rest → rest ≡ blanks ++ word ++ after →
    (x : List ℕ) × (text ≡ x ++ after)
tail_of text rest word after gone blanks t r =
    (gone ++ (blanks ++ word), t ∙ ap (λ (xs : List ℕ). gone ++ xs) r ∙ sym (append_assoc gone (blanks ++ word) after))

-- ---- what a directive of names gives

either : (kind : Names) (given : List (List ℕ)) (b : Bool) (x y : Line) → Gives kind x given → Gives kind y given → Gives kind (cond b x y) given
either kind given true x y p q = p
either kind given false x y p q = q

given_by : (kind : Names) (word : List ℕ) (given : List (List ℕ)) → Gives kind (directive word given) given
unfolding directive
given_by names.Inputs word given =
    either names.Inputs given _ (Inputs given) _ (record { are = λ n e. cc }) (
    either names.Inputs given _ (Outputs given) _ (record { are = λ n e. cc }) (
    either names.Inputs given _ (InputNames given) _ (record { are = λ n e. cc }) (
    either names.Inputs given _ (OutputNames given) _ (record { are = λ n e. cc }) (
    either names.Inputs given _ (Products given) _ (record { are = λ n e. cc }) (
    either names.Inputs given _ (LogicalType given) _ (record { are = λ n e. cc }) (
    either names.Inputs given _ End _ (record { are = λ n e. cc }) (
    either names.Inputs given _ End UnknownWord (record { are = λ n e. cc }) (record { are = λ n e. cc }))))))))
given_by names.Outputs word given =
    either names.Outputs given _ (Inputs given) _ (record { are = λ n e. cc }) (
    either names.Outputs given _ (Outputs given) _ (record { are = λ n e. cc }) (
    either names.Outputs given _ (InputNames given) _ (record { are = λ n e. cc }) (
    either names.Outputs given _ (OutputNames given) _ (record { are = λ n e. cc }) (
    either names.Outputs given _ (Products given) _ (record { are = λ n e. cc }) (
    either names.Outputs given _ (LogicalType given) _ (record { are = λ n e. cc }) (
    either names.Outputs given _ End _ (record { are = λ n e. cc }) (
    either names.Outputs given _ End UnknownWord (record { are = λ n e. cc }) (record { are = λ n e. cc }))))))))

empty_gives : (kind : Names) (given : List (List ℕ)) → Gives kind Empty given
empty_gives names.Inputs given = record { are = λ n e. cc }
empty_gives names.Outputs given = record { are = λ n e. cc }

row_gives : (kind : Names) (bytes : List ℕ) (given : List (List ℕ)) → Gives kind (Row bytes) given
row_gives names.Inputs bytes given = record { are = λ n e. cc }
row_gives names.Outputs bytes given = record { are = λ n e. cc }

-- the names of a line are the words after its first one
words_given : (kind : Names) (line word : List ℕ) (given : List (List ℕ)) → words (content line) ≡ word ∷ given → Gives kind (line_said line) given
unfolding line_said meaning
words_given kind line word given e =
    subst (λ (ws : List (List ℕ)). Gives kind (meaning ws (Row (positions (content line)))) given) (sym e)
    (either kind given _ _ _ (given_by kind word given) (row_gives kind (positions (content line)) given))

-- a line without words gives none
pub nothing_given : (kind : Names) (line : List ℕ) (given : List (List ℕ)) → words (content line) ≡ [] → Gives kind (line_said line) given
unfolding line_said meaning
nothing_given kind line given e =
    subst (λ (ws : List (List ℕ)). Gives kind (meaning ws (Row (positions (content line)))) given) (sym e) (empty_gives kind given)

-- the names of a line, by the places of the words behind its first one
pub line_places : (start : ℕ) (line text comment word given blanks : List ℕ) (places : List TextPlace) → line ≡ text ++ comment →
    text ≡ content line → text ≡ blanks ++ word ++ given → words text ≡ word ∷ words given →
    ((front back : List ℕ) → length front ≡ start + (length text - length given) → map (bytes_at (front ++ given ++ back)) places ≡ words given) →
    (front back : List ℕ) (kind : Names) → length front ≡ start → Gives kind (line_said line) (map (bytes_at (front ++ line ++ back)) places)
line_places start line text comment word given blanks places l t b w at front back kind f =
    let whole : front ++ line ++ back ≡ (front ++ (blanks ++ word)) ++ given ++ (comment ++ back) =
    ap (λ (xs : List ℕ). front ++ xs ++ back) (l ∙ ap (λ (xs : List ℕ). xs ++ comment) b) ∙ simp append_assoc in
    let long = ap length b in
    let named : map (bytes_at (front ++ line ++ back)) places ≡ words given = ap (λ (xs : List ℕ). map (bytes_at xs) places) whole
    ∙ at (front ++ (blanks ++ word)) (comment ++ back) (omega (arith, length-append {A = ℕ})) in
    subst (Gives kind (line_said line)) (sym named) (words_given kind line word (words given) (ap words (sym t) ∙ w))

-- ---- the names of a description

-- the names that lines give
abbrev pub names_of : Names → List Line → List (List ℕ)
names_of kind lines = first_or [] (filter_map (naming_by kind) (description lines))

pub names_gone : (kind : Names) → names_of kind [] ≡ []
names_gone kind = ap (λ (ls : List Line). first_or [] (filter_map (naming_by kind) ls)) description_none

not_the_end : (kind : Names) (line : Line) (given : List (List ℕ)) → naming_by kind line ≡ Some given → is_end line ≡ false
not_the_end kind line given e = grind (arith, naming_by)

names_at_line : (kind : Names) (line : Line) (rest : List Line) (given : List (List ℕ)) → naming_by kind line ≡ Some given →
    names_of kind (line ∷ rest) ≡ given
names_at_line kind line rest given e =
    ap (λ (ls : List Line). first_or [] (filter_map (naming_by kind) ls)) (description_cons line rest (not_the_end kind line given e)) ∙ rw e refl

pub names_at_end : (kind : Names) (line : Line) (rest : List Line) → line ≡ End → names_of kind (line ∷ rest) ≡ []
names_at_end kind line rest e =
    ap (λ (l : Line). names_of kind (l ∷ rest)) e
    ∙ ap (λ (ls : List Line). first_or [] (filter_map (naming_by kind) ls)) (description_end rest)

names_past : (kind : Names) (line : Line) (rest : List Line) → is_end line ≡ false → naming_by kind line ≡ None →
    names_of kind (line ∷ rest) ≡ names_of kind rest
names_past kind line rest goes none =
    ap (λ (ls : List Line). first_or [] (filter_map (naming_by kind) ls)) (description_cons line rest goes) ∙ rw none refl

-- the names of a description are those of the first line that gives some
pub names_found : (kind : Names) (bytes gone rest line feed after : List ℕ) (before : List (List ℕ)) (places : List TextPlace) →
    names_of kind (said rest) ≡ names_of kind (said bytes) → bytes ≡ gone ++ rest → lines_of bytes ≡ before ++ lines_of rest →
    rest ≡ line ++ feed ++ after → lines_of rest ≡ line ∷ lines_of after →
    is_some (naming_by kind (line_said line)) ≡ true →
    ((front back : List ℕ) (names : Names) → length front ≡ length bytes - length rest →
    Gives names (line_said line) (map (bytes_at (front ++ line ++ back)) places)) →
    All (LiesIn (length bytes - length rest) (length bytes - length rest + length line)) places → AreNamesAt kind bytes places
names_found kind bytes gone rest line feed after before places same b ls r l some given within = by (naming_by kind (line_said line)) refl some
  where
    whole : bytes ≡ gone ++ line ++ (feed ++ after)
    whole = b ∙ ap (λ (xs : List ℕ). gone ++ xs) r ∙ simp append_assoc

    by : (named : Option (List (List ℕ))) → naming_by kind (line_said line) ≡ named → is_some named ≡ true → AreNamesAt kind bytes places
    by None e f = absurd cc
    by (Some named) e f =
        let long = ap length b in
        let long' = ap length r in
        let start = length bytes - length rest in
        let here = given gone (feed ++ after) kind (omega (arith, length-append {A = ℕ})) in
        let spelled : map (bytes_at bytes) places ≡ named = ap (λ (xs : List ℕ). map (bytes_at xs) places) whole ∙ here.are named e in
        record {
          inside = inside_more start (start + length line) 0 (length bytes) places (omega arith) (omega (arith, length-append {A = ℕ})) within;
          spell = spelled ∙ sym (names_at_line kind (line_said line) (said after) named e) ∙ ap (names_of kind) (sym (said_first rest after line l)) ∙ same;
          stand = inr (record {
            front = gone;
            rest = rest;
            bytes_are = b;
            before = before;
            lines_are = ls;
            line = line;
            others = lines_of after;
            first_is = l;
            given = e ∙ ap Some (sym spelled);
            within = inside_more start (start + length line) (length gone) (length gone + length line) places
                (omega (arith, length-append {A = ℕ})) (omega (arith, length-append {A = ℕ})) within;
          });
        }

-- a line that gives none, and doesn't end the description, leaves them
pub names_go_on : (kind : Names) (bytes rest line after : List ℕ) → names_of kind (said rest) ≡ names_of kind (said bytes) →
    lines_of rest ≡ line ∷ lines_of after → is_end (line_said line) ≡ false → is_some (naming_by kind (line_said line)) ≡ false →
    names_of kind (said after) ≡ names_of kind (said bytes)
names_go_on kind bytes rest line after same l goes none =
    sym (names_past kind (line_said line) (said after) goes (nothing (naming_by kind (line_said line)) none))
    ∙ ap (names_of kind) (sym (said_first rest after line l)) ∙ same
  where
    nothing : (named : Option (List (List ℕ))) → is_some named ≡ false → named ≡ None
    nothing None e = refl
    nothing (Some named) e = absurd cc
