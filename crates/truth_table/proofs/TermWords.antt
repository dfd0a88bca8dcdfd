-- Words of 64 points of terms, and the packed truth tables that they make.
--     masked_bits, joined_bits      the bits of words that are combined
--     free_bits_few, free_bits_all      the mask of the points of n variables
--     literal_points_none, literal_points_one, literal_points_zero      the points at which a literal holds
--     covered_more, term_added, term_left_out, place_added      what a term adds
--     blank_at      the words before the first term
--     packed_groups, groups_long      the packed truth tables of terms
use Rattle.std.proofs.Common.{◌≡◌, ◌≢◌, ℕ, zero, suc, ◌+◌, ◌-◌, ◌*◌, ◌/◌, ◌%◌, ◌^◌, ◌<◌, ◌≤◌, Bool, true, false, not, ◌&&◌, ◌||◌, inl, inr, List, [], ◌∷◌, length, map, take, get_or, slice_index, refl, sym, ap, ◌∙◌, arith, subst, eqb, min, max, bit_and, bit_or, ltb, zero-add, pow_pos, cond}
use Rattle.std.specs.Int.{bit_at, bit_not, w64}
use Rattle.std.specs.List.{All, AllZip, range_with_len, list_any}
use Rattle.std.proofs.lemmas.Bool.{cases_lt, false≢true}
use Rattle.std.proofs.lemmas.List.{length-map, get_or-map}
use Rattle.std.proofs.lemmas.List.Folds.{list_any_more}
use Rattle.std.proofs.lemmas.List.FromFn.{get_or-map-range_with_len, get_or-range_with_len, length-map-range_with_len, length-range_with_len}
use Rattle.std.proofs.lemmas.Slice.Zip.{AllZip-long}
use Rattle.std.proofs.lemmas.Nat.{and_le_r, one_shl}
use Rattle.std.proofs.lemmas.Nat.Bits.{bit_at-lt, bit_at_and, bit_at_or, bit_at_not, bit_at_ones, bit_at_ones_above, bit_at_above}
use Rattle.std.proofs.Math.Nat.{add-mul-div_right, div-lt_iff_lt-mul}
use Rattle.definitions.specs.declared.terms.Term.{Term}
use Rattle.definitions.specs.Functions.{Point, Function, number, points, from_table, table, SameFunction}
use Rattle.definitions.specs.Problems.{IsClean, IsPacked, tables_of, words_per_table}
use Rattle.definitions.specs.Products.{Product, product_function, product_functions, product_of}
use Rattle.definitions.proofs.Bits.Points.{table-from_table}
use Rattle.definitions.proofs.Bits.Problems.{point_inside, block_inside, same_tables}
use Rattle.definitions.proofs.Bits.Tables.{whole_words}
use Rattle.definitions.proofs.Bits.Words.{step_is}
use Rattle.definitions.proofs.Bits.PointNumbers.{some_point}
use Rattle.definitions.proofs.Functions.Tables.{same_from_table}
use Rattle.pla_reader.specs.Masks.{Fits}
use Rattle.truth_table.specs.Terms.{AddsTerm, AreGroupWords, literal_at, literals_at, covers, covered}
use Rattle.truth_table.proofs.Literals.{all_parts, and_turned, literals_apart, product_is}
use Rattle.definitions.proofs.Functions.Same.{table_long}

-- ---- bits

min_bits : (a b : ℕ) → a < 2 → b < 2 → eqb (min a b) 1 ≡ (eqb a 1 && eqb b 1)
min_bits a b h k = grind arith

max_bits : (a b : ℕ) → a < 2 → b < 2 → eqb (max a b) 1 ≡ (eqb a 1 || eqb b 1)
max_bits a b h k = grind arith

pub masked_bits : (u v b : ℕ) → eqb (bit_at (bit_and u v) b) 1 ≡ (eqb (bit_at u b) 1 && eqb (bit_at v b) 1)
masked_bits u v b = ap (λ z. eqb z 1) (bit_at_and u v b) ∙ min_bits (bit_at u b) (bit_at v b) (bit_at-lt u b) (bit_at-lt v b)

pub joined_bits : (u v b : ℕ) → eqb (bit_at (bit_or u v) b) 1 ≡ (eqb (bit_at u b) 1 || eqb (bit_at v b) 1)
joined_bits u v b = ap (λ z. eqb z 1) (bit_at_or u v b) ∙ max_bits (bit_at u b) (bit_at v b) (bit_at-lt u b) (bit_at-lt v b)

pub all_ones : (b : ℕ) → b < 64 → eqb (bit_at 18446744073709551615 b) 1 ≡ true
all_ones b h = ap (λ z. eqb z 1) (bit_at_ones 64 b h)

-- the mask of the points of n variables
pub mask_step : (n : ℕ) → n < 6 → 1 ≤ 1 * 2 ^ (1 * 2 ^ n % 4294967296) % 18446744073709551616
mask_step n h =
    let s = step_is n h in
    let p = pow_pos (1 * 2 ^ n % 4294967296) in
    omega (arith, one_shl (1 * 2 ^ n % 4294967296) 64 (omega arith))

pub free_bits_few : (n : ℕ) → n < 6 → (b : ℕ) → b < 64 → eqb (bit_at (1 * 2 ^ (1 * 2 ^ n % 4294967296) % 18446744073709551616 - 1) b) 1 ≡ ltb b (2 ^ n)
free_bits_few n h b k =
    let s = step_is n h in
    let e = one_shl (1 * 2 ^ n % 4294967296) 64 (omega arith) in
    grind (arith, bit_at_ones, bit_at_ones_above)

pub free_bits_all : (n : ℕ) → 6 ≤ n → (b : ℕ) → b < 64 → eqb (bit_at 18446744073709551615 b) 1 ≡ ltb b (2 ^ n)
free_bits_all n h b k = grind (arith, whole_words, all_ones, pow_pos)

-- ---- literals

pub literal_points_none : (term : Term) (x b : ℕ) → bit_at term.care x ≡ 0 → b < 64 → eqb (bit_at 18446744073709551615 b) 1 ≡ literal_at term b x
literal_points_none term x b e h = all_ones b h ∙ sym (ap (λ z. not (eqb z 1) || eqb (bit_at b x) (bit_at term.value x)) e)

complement : (a c : ℕ) → a < 2 → c ≡ 1 - a → eqb (1 - c) 1 ≡ eqb a 1
complement zero c h e = ap (λ z. eqb (1 - z) 1) e
complement (suc zero) c h e = ap (λ z. eqb (1 - z) 1) e
complement (suc (suc a)) c h e = absurd (omega arith)

pub literal_points_one : (term : Term) (x b lower : ℕ) → bit_at term.care x ≡ 1 → bit_at term.value x ≡ 1 → lower < 2 ^ 64 → b < 64 →
    bit_at lower b ≡ 1 - bit_at b x →
    eqb (bit_at (bit_not w64 lower) b) 1 ≡ literal_at term b x
literal_points_one term x b lower care value fits h low =
    ap (λ z. eqb z 1) (bit_at_not w64 lower b fits h) ∙ complement (bit_at b x) (bit_at lower b) (bit_at-lt b x) low
    ∙ sym ((λ i. not (eqb (care i) 1) || eqb (bit_at b x) (value i)))

pub literal_points_zero : (term : Term) (x b lower : ℕ) → bit_at term.care x ≡ 1 → bit_at term.value x ≡ 0 → b < 64 →
    bit_at lower b ≡ 1 - bit_at b x → eqb (bit_at lower b) 1 ≡ literal_at term b x
literal_points_zero term x b lower care value h low = grind arith

-- one more variable
pub literals_more : (term : Term) (k x : ℕ) → literals_at term k 0 (x + 1) ≡ (literals_at term k 0 x && literal_at term k x)
unfolding literals_at
literals_more term k x = grind (arith, all_parts)

-- ---- terms

-- a term's output, its literals within the word, and those above
covers_apart : (term : Term) (output place b : ℕ) → b < 64 →
    covers term output (64 * place + b) ≡
    (eqb (bit_at term.outs output) 1 && (literals_at term b 0 6 && literals_at term (64 * place) 6 10))
covers_apart term output place b h = ap (λ z. eqb (bit_at term.outs output) 1 && z) (literals_apart term place b h)

or_false : (b : Bool) → b ≡ (b || false)
or_false true = refl
or_false false = refl

pub covered_more : (terms : List Term) (i : ℕ) → i < length terms → (term : Term) → term ≡ get_or terms i term → (output k : ℕ) →
    covered (take (i + 1) terms) output k ≡ (covered (take i terms) output k || covers term output k)
unfolding covered
covered_more terms i h term read output k =
    list_any_more (λ t. covers t output k) terms i term h
    ∙ ap (λ z. list_any (λ t. covers t output k) (take i terms) || z) (ap (λ t. covers t output k) (sym read))

-- what a word's bit is where the term counts, and where it doesn't
word_with : (word pattern b : ℕ) (old above low : Bool) (out : Bool) → eqb (bit_at word b) 1 ≡ old → eqb (bit_at pattern b) 1 ≡ low →
    out ≡ true → above ≡ true →
    eqb (bit_at (bit_or word pattern) b) 1 ≡ (old || (out && (low && above)))
word_with word pattern b old above low out w p o a = grind (arith, joined_bits)

word_without_above : (word b : ℕ) (old above low out : Bool) → eqb (bit_at word b) 1 ≡ old → above ≡ false →
    eqb (bit_at word b) 1 ≡ (old || (out && (low && above)))
word_without_above word b old above low out w a = grind arith

-- a term whose literals above hold, and one whose don't
pub term_added : (term : Term) (place points : ℕ) (before after : List ℕ) →
    ((b : ℕ) → b < 64 → eqb (bit_at points b) 1 ≡ literals_at term b 0 6) → literals_at term (64 * place) 6 10 ≡ true
    → ((o : ℕ) → o < 16 →
    slice_index after o ≡ cond (eqb (bit_at term.outs o) 1) (bit_or (slice_index before o) points) (slice_index before o)) →
    AddsTerm term place before after
term_added term place points before after p a added = grind (arith, word_with, covers_apart)

pub term_left_out : (term : Term) (place : ℕ) (words : List ℕ) → literals_at term (64 * place) 6 10 ≡ false → AddsTerm term place words words
term_left_out term place words a = search (word_without_above, covers_apart)

-- one more place of a group, where the other places stay
pub place_added : (term : Term) (group place : ℕ) (initial words new : List (List ℕ)) →
    ((p : ℕ) → p < place → AddsTerm term (32 * group + p) (get_or initial p []) (get_or words p []))
    → ((p : ℕ) → place ≤ p → get_or words p [] ≡ get_or initial p []) → ((p : ℕ) → p ≢ place → get_or new p [] ≡ get_or words p []) →
    AddsTerm term (32 * group + place) (get_or words place []) (get_or new place [])
    → (p : ℕ) → p < place + 1 → AddsTerm term (32 * group + p) (get_or initial p []) (get_or new p [])
place_added term group place initial words new done left stays here p low = grind arith

-- ---- truth tables

entry_at : (n : ℕ) (g : Function) (p : Point) → length p ≡ n → get_or (table n g) (number p) false ≡ g p
unfolding SameFunction from_table
entry_at n g p l = same_from_table n (from_table (table n g)) g (table-from_table n (table n g) (table_long n g)) p l

-- the words of terms of n inputs and m outputs
pub record AreTermWords (n m : ℕ) (terms : List Term) (words : List ℕ) : Type 0 where
  pub long : length words ≡ m * words_per_table n
  pub fits : (i : ℕ) → i < length words → get_or words i 0 < 2 ^ 64
  pub bits : (i b : ℕ) → i < m * words_per_table n → b < 64 →
      eqb (bit_at (get_or words i 0) b) 1 ≡ (ltb b (2 ^ n) && covered terms (i / words_per_table n) (64 * (i % words_per_table n) + b))

module _ (n m : ℕ) (terms : List Term) (words : List ℕ) (some : 1 ≤ n) (few : n ≤ 16) (some_outputs : 1 ≤ m) (few_outputs : m ≤ 16)
    (fit : All (Fits n m) terms) (w : AreTermWords n m terms words) where
  products : List Product
  products = map (product_of n m) terms

  tables : List (List Bool)
  tables = map (table n) (product_functions m products)

  length-tables : length tables ≡ m
  unfolding tables product_functions
  length-tables = length-map (map (product_function products) (range_with_len 0 m)) (table n) ∙ length-map-range_with_len (product_function products) 0 m

  table_is : (j : ℕ) → j < m → get_or tables j [] ≡ table n (product_function products j)
  unfolding tables product_functions
  table_is j h =
      get_or-map (table n) (map (product_function products) (range_with_len 0 m)) j (λ (p : Point). false) [] (omega (
        arith,
        length-map-range_with_len (product_function products) 0 m,
      ))
      ∙ ap (table n) (get_or-map-range_with_len (product_function products) 0 m j j (λ p. false) h (zero-add j))

  word_place : (j k : ℕ) → j < m → k < 2 ^ n →
      ((j * words_per_table n + k / 64) / words_per_table n ≡ j) × ((j * words_per_table n + k / 64) % words_per_table n ≡ k / 64)
  word_place j k h l =
      let W : ℕ = words_per_table n in
      let p : k / 64 < W = point_inside n k l in
      let q : 0 < W = omega arith in
      let e : j * W + k / 64 ≡ k / 64 + j * W = omega arith in
      grind (arith, add-mul-div_right)

  value_is : (j k : ℕ) → j < m → k < 2 ^ n → eqb (bit_at (get_or words (j * words_per_table n + k / 64) 0) (k % 64)) 1 ≡ get_or (get_or tables j []) k false
  unfolding products
  value_is j k h l =
      let W : ℕ = words_per_table n in
      let block = block_inside W m j h in
      let place = word_place j k h l in
      let at = some_point n k l in
      grind (arith, table_is, entry_at, product_is)

  -- the words hold the truth tables of the products' functions
  pub terms_tables : tables_of n m words ≡ map (table n) (product_functions m (map (product_of n m) terms))
  unfolding tables products
  terms_tables = same_tables n m words tables length-tables (λ j h. ap length (table_is j h) ∙ table_long n (product_function products j)) value_is

  clean : IsClean n words
  clean i b h big = elim (cases_lt b 64) [
    | inr ge ↦ bit_at_above (get_or words i 0) 64 b (w.fits i h) ge
    | inl lt ↦ grind arith
  ]
    where
      not_one : (c : ℕ) → c < 2 → eqb c 1 ≡ false → c ≡ 0
      not_one zero k e = refl
      not_one (suc zero) k e = absurd (false≢true (sym e))
      not_one (suc (suc c)) k e = absurd (omega arith)

  pub terms_packed : IsPacked n m words
  terms_packed = record { some_inputs = some; few_inputs = few; some_outputs = some_outputs; few_outputs = few_outputs; long = w.long; clean = clean }

-- ---- words by groups

-- so many zeros, and so many rows of sixteen
unfoldable pub zeros : ℕ → List ℕ
zeros zero = []
zeros (suc k) = 0 ∷ zeros k

unfoldable pub blank : ℕ → List (List ℕ)
blank zero = []
blank (suc k) = zeros 16 ∷ blank k

zeros_at : (k o : ℕ) → get_or (zeros k) o 0 ≡ 0
unfolding zeros
zeros_at zero o = refl
zeros_at (suc k) zero = refl
zeros_at (suc k) (suc o) = zeros_at k o

pub blank_at : (k place o : ℕ) → get_or (get_or (blank k) place []) o 0 ≡ 0
unfolding blank
blank_at zero place o = refl
blank_at (suc k) zero o = zeros_at 16 o
blank_at (suc k) (suc place) o = blank_at k place o

groups_at : (R : ℕ → List (List ℕ) → Type 0) (xs : List ℕ) (ys : List (List (List ℕ))) → AllZip R xs ys → (j : ℕ) → j < length xs →
    R (get_or xs j 0) (get_or ys j [])
groups_at R [] ys h j l = absurd (omega arith)
groups_at R (x ∷ xs) [] h j l = absurd h
groups_at R (x ∷ xs) (y ∷ ys) h zero l = h.0
groups_at R (x ∷ xs) (y ∷ ys) h (suc j) l = groups_at R xs ys h.1 j (omega arith)

-- what the words hold that are laid out from those of the groups
pub packed_groups : (n m : ℕ) (terms : List Term) (size count mask : ℕ) (numbers : List ℕ) (groups : List (List (List ℕ)))
    (items : List ℕ) →
    1 ≤ n → n ≤ 16 → 1 ≤ m → m ≤ 16 → All (Fits n m) terms → 1 ≤ size → size ≡ words_per_table n
    → size ≤ 32 * count → mask < 2 ^ 64 → ((b : ℕ) → b < 64 → eqb (bit_at mask b) 1 ≡ ltb b (2 ^ n)) → numbers ≡ range_with_len 0 count →
    AllZip (AreGroupWords terms) numbers groups → length items ≡ m * size
    → ((i : ℕ) → i < m * size → get_or items i 0 ≡ bit_and (slice_index (get_or (get_or groups (i % size / 32) []) (i % size % 32) []) (i / size)) mask)
    → IsPacked n m items × (tables_of n m items ≡ map (table n) (product_functions m (map (product_of n m) terms)))
packed_groups n m terms size count mask numbers groups items a b c d fit some s wide narrow masks p z long laid =
    (terms_packed n m terms items a b c d fit w, terms_tables n m terms items a b c d fit w)
  where
    words_of : (i : ℕ) → i < m * size → AreGroupWords terms (i % size / 32) (get_or groups (i % size / 32) [])
    words_of i h =
        let l : length numbers ≡ count = ap length p ∙ length-range_with_len 0 count in
        let at : get_or numbers (i % size / 32) 0 ≡ i % size / 32 = grind (arith, get_or-range_with_len) in
        subst (λ (j : ℕ). AreGroupWords terms j (get_or groups (i % size / 32) [])) at
        (groups_at (AreGroupWords terms) numbers groups z (i % size / 32) (omega arith))

    few : (i : ℕ) → i < m * size → i / size < 16
    few i h = let q : i / size < m = (div-lt_iff_lt-mul some).1 h in omega arith

    bits_of : (i b : ℕ) → i < m * size → b < 64 → eqb (bit_at (get_or items i 0) b) 1 ≡ (ltb b (2 ^ n) && covered terms (i / size) (64 * (i % size) + b))
    bits_of i b h l =
        let place : ℕ = i % size in
        let word : ℕ = slice_index (get_or (get_or groups (place / 32) []) (place % 32) []) (i / size) in
        ap (λ v. eqb (bit_at v b) 1) (laid i h) ∙ masked_bits word mask b
        ∙ (λ k. words_of i h (place % 32) (i / size) b (omega arith) (few i h) l k && masks b l k)
        ∙ and_turned (covered terms (i / size) (64 * (32 * (place / 32) + place % 32) + b)) (ltb b (2 ^ n))
        ∙ ap (λ v. ltb b (2 ^ n) && covered terms (i / size) (64 * v + b)) (omega arith)

    w : AreTermWords n m terms items
    w = record {
      long = long ∙ ap (λ k. m * k) s;
      fits = λ i l.
          let e = laid i (omega arith) in
          omega (arith, and_le_r (slice_index (get_or (get_or groups (i % size / 32) []) (i % size % 32) []) (i / size)) mask);
      bits = λ i b h l. bits_of i b (subst (λ (k : ℕ). i < m * k) (sym s) h) l ∙ (λ k. ltb b (2 ^ n) && covered terms (i / s k) (64 * (i % s k) + b));
    }

-- there are as many as numbers
pub groups_long : (terms : List Term) (count : ℕ) (numbers : List ℕ) (groups : List (List (List ℕ))) → numbers ≡ range_with_len 0 count →
    AllZip (AreGroupWords terms) numbers groups → length groups ≡ count
groups_long terms count numbers groups p z = AllZip-long (AreGroupWords terms) numbers groups z ∙ ap length p ∙ length-range_with_len 0 count
