-- Sets of values in words.
--     depends_at place v      whether a value over three variables depends on the variable at a place
--     at_all      two tests that give the same lists give the same at each value
--     shifted      as many values pass in a later run if the tests agree
--     word_count, words_more      the bits of a word, as a part of the set; one word more
--     none_occur, one_occurs      no value; one more
use Rattle.std.proofs.Common.{◌≡◌, ℕ, zero, suc, ◌+◌, ◌*◌, ◌/◌, ◌%◌, ◌^◌, ◌<◌, Bool, true, false, cond, ◌&&◌, ◌||◌, inl, inr, List, [], ◌∷◌, ◌++◌, map, length, get_or, set, max, min, refl, sym, ap, ap₂, ◌∙◌, arith, nat_eq, eqb, eq-eqb, ne_eqb, bit_and, bit_or, count_ones, get_or-set_same, get_or-set_other}
use Rattle.std.specs.Int.{bit_at}
use Rattle.std.specs.List.{filter, range_with_len}
use Rattle.std.proofs.lemmas.Bool.{cases_eq, true≢false, false≢true}
use Rattle.std.proofs.lemmas.List.{length-append, length-set}
use Rattle.std.proofs.lemmas.List.Elements.{filter-append}
use Rattle.std.proofs.lemmas.List.FromFn.{get_or-map-range_with_len}
use Rattle.std.proofs.lemmas.Nat.{div-mul-add, mod-mul-add}
use Rattle.std.proofs.lemmas.Nat.Bits.{bit_at_and, bit_at_or, bit_at-lt, bit_at-zero, bit_at-pow_same, bit_at-pow_other}
use Rattle.definitions.specs.Orders.{has, members}
use Rattle.definitions.proofs.Bits.Ones.{ones-members}
use Rattle.definitions.proofs.Lists.Ranges.{range_append}
use Rattle.small_search.specs.Counting.{AreOccurring, is_in}
use Rattle.small_search.specs.Values.{places}

abbrev pub depends_at : ℕ → ℕ → Bool
depends_at place v = eqb (bit_at (places 3 v) place) 1

pub at_all : (p q : ℕ → Bool) (k : ℕ) → map p (range_with_len 0 k) ≡ map q (range_with_len 0 k) → (v : ℕ) → v < k → p v ≡ q v
at_all p q k e v l =
    sym (get_or-map-range_with_len p 0 k v v false l (omega arith)) ∙ ap (λ us. get_or us v false) e
    ∙ get_or-map-range_with_len q 0 k v v false l (omega arith)

pub shifted : (p q : ℕ → Bool) (k a b : ℕ) → ((i : ℕ) → i < k → p (a + i) ≡ q (b + i)) →
    length (filter p (range_with_len a k)) ≡ length (filter q (range_with_len b k))
shifted p q zero a b h = refl
shifted p q (suc k) a b h =
    by (p a) (q b) (ap p (let e : a ≡ a + 0 = omega arith in e) ∙ h 0 (omega arith) ∙ ap q (let e : b + 0 ≡ b = omega arith in e))
    (shifted p q k (a + 1) (b + 1) (λ i l. ap p (let e : a + 1 + i ≡ a + (1 + i) = omega arith in e) ∙ h (1 + i) (omega arith)
    ∙ ap q (let e : b + (1 + i) ≡ b + 1 + i = omega arith in e)))
  where
    by : (c d : Bool) → c ≡ d → length (filter p (range_with_len (a + 1) k)) ≡ length (filter q (range_with_len (b + 1) k)) →
        length (cond c (a ∷ filter p (range_with_len (a + 1) k)) (filter p (range_with_len (a + 1) k)))
        ≡ length (cond d (b ∷ filter q (range_with_len (b + 1) k)) (filter q (range_with_len (b + 1) k)))
    by true true e r = ap suc r
    by true false e r = absurd (true≢false e)
    by false true e r = absurd (false≢true e)
    by false false e r = r

both_bits : (a b i : ℕ) → eqb (bit_at (bit_and a b) i) 1 ≡ (eqb (bit_at a i) 1 && eqb (bit_at b i) 1)
both_bits a b i = ap (λ m. eqb m 1) (bit_at_and a b i) ∙ by (bit_at a i) (bit_at b i) (bit_at-lt a i) (bit_at-lt b i)
  where
    by : (x y : ℕ) → x < 2 → y < 2 → eqb (min x y) 1 ≡ (eqb x 1 && eqb y 1)
    by zero zero l m = refl
    by zero (suc zero) l m = refl
    by zero (suc (suc y)) l m = absurd (omega arith)
    by (suc zero) zero l m = refl
    by (suc zero) (suc zero) l m = refl
    by (suc zero) (suc (suc y)) l m = absurd (omega arith)
    by (suc (suc x)) y l m = absurd (omega arith)

word_of : (i b : ℕ) → b < 64 → (64 * i + b) / 64 ≡ i
word_of i b l = ap (λ k. k / 64) (let e : 64 * i + b ≡ i * 64 + b = omega arith in e) ∙ div-mul-add i 64 b l

bit_of_word : (i b : ℕ) → b < 64 → (64 * i + b) % 64 ≡ b
bit_of_word i b l = ap (λ k. k % 64) (let e : 64 * i + b ≡ i * 64 + b = omega arith in e) ∙ mod-mul-add i 64 b l

-- the values whose bits are in one word
word_count : (p : ℕ → Bool) (us vs : List ℕ) (i : ℕ) → ((v : ℕ) → v < 256 → is_in vs v ≡ p v) → i < 4 → bit_and (get_or us i 0) (get_or vs i 0) < 2 ^ 64 →
    count_ones (bit_and (get_or us i 0) (get_or vs i 0)) ≡ length (filter (λ v. is_in us v && p v) (range_with_len (64 * i) 64))
unfolding members
word_count p us vs i told small fits =
    ones-members 64 (bit_and (get_or us i 0) (get_or vs i 0)) fits
    ∙ shifted (λ b. eqb (bit_at (bit_and (get_or us i 0) (get_or vs i 0)) b) 1) (λ v. is_in us v && p v) 64 0 (64 * i) each
  where
    each : (b : ℕ) → b < 64 → eqb (bit_at (bit_and (get_or us i 0) (get_or vs i 0)) (0 + b)) 1 ≡ (is_in us (64 * i + b) && p (64 * i + b))
    each b l =
        ap (λ k. eqb (bit_at (bit_and (get_or us i 0) (get_or vs i 0)) k) 1) (let e : 0 + b ≡ b = omega arith in e)
        ∙ both_bits (get_or us i 0) (get_or vs i 0) b
        ∙ ap₂ (λ c d. c && d) (sym (ap₂ (λ k j. eqb (bit_at (get_or us k 0) j) 1) (word_of i b l) (bit_of_word i b l)))
        (sym (ap₂ (λ k j. eqb (bit_at (get_or vs k 0) j) 1) (word_of i b l) (bit_of_word i b l)) ∙ told (64 * i + b) (omega arith))

pub words_more : (p : ℕ → Bool) (us vs : List ℕ) (i count : ℕ) → ((v : ℕ) → v < 256 → is_in vs v ≡ p v) → i < 4 →
    bit_and (get_or us i 0) (get_or vs i 0) < 2 ^ 64 →
    count ≡ length (filter (λ v. is_in us v && p v) (range_with_len 0 (64 * i))) →
    count + count_ones (bit_and (get_or us i 0) (get_or vs i 0)) ≡ length (filter (λ v. is_in us v && p v) (range_with_len 0 (64 * (i + 1))))
words_more p us vs i count told small fits e =
    let q : ℕ → Bool = λ v. is_in us v && p v in
    let w = word_count p us vs i told small fits in
    let r = ap (λ k. length (filter q (range_with_len 0 k))) (let s : 64 * (i + 1) ≡ 64 * i + 64 = omega arith in s)
    ∙ ap (λ us. length (filter q us)) (range_append 0 (64 * i) 64)
    ∙ ap length (filter-append q (range_with_len 0 (64 * i)) (range_with_len (0 + 64 * i) 64))
    ∙ length-append (filter q (range_with_len 0 (64 * i))) (filter q (range_with_len (0 + 64 * i) 64)) in
    ap₂ (λ a b. a + b) e (w ∙ ap (λ k. length (filter q (range_with_len k 64))) (let s : 64 * i ≡ 0 + 64 * i = omega arith in s)) ∙ sym r

-- ---- the values that occur

abbrev no_bits : List ℕ
no_bits = 0 ∷ 0 ∷ 0 ∷ 0 ∷ []

pub none_occur : AreOccurring [] no_bits
none_occur = record { four = refl; each = λ v l. ap (λ k. eqb k 1) (ap (λ w. bit_at w (v % 64)) (zeros (v / 64)) ∙ bit_at-zero (v % 64)) }
  where
    zeros : (i : ℕ) → get_or no_bits i 0 ≡ 0
    zeros zero = refl
    zeros (suc zero) = refl
    zeros (suc (suc zero)) = refl
    zeros (suc (suc (suc zero))) = refl
    zeros (suc (suc (suc (suc i)))) = refl

has_more : (vs : List ℕ) (v u : ℕ) → has (vs ++ v ∷ []) u ≡ (has vs u || nat_eq u v)
has_more [] v u = by (nat_eq u v)
  where
    by : (b : Bool) → (b || false) ≡ (false || b)
    by true = refl
    by false = refl
has_more (w ∷ vs) v u = ap (λ b. nat_eq u w || b) (has_more vs v u) ∙ by (nat_eq u w)
  where
    by : (a : Bool) → (a || (has vs u || nat_eq u v)) ≡ ((a || has vs u) || nat_eq u v)
    by true = refl
    by false = refl

pub one_occurs : (vs words : List ℕ) (v bit : ℕ) → v < 256 → bit ≡ 2 ^ (v % 64) → AreOccurring vs words →
    AreOccurring (vs ++ v ∷ []) (set words (v / 64) (bit_or (get_or words (v / 64) 0) bit))
one_occurs vs words v bit small is h = record {
  four = length-set words _ _ ∙ h.four;
  each = λ u l. elim (cases_eq (u / 64) (v / 64)) [
    | inl e ↦
        ap (λ w. eqb (bit_at w (u % 64)) 1) (ap (λ k. get_or changed k 0) e ∙ get_or-set_same words (v / 64) _ 0 (let f = h.four in omega arith))
        ∙ own u l e ∙ sym (has_more vs v u)
    | inr ne ↦
        ap (λ w. eqb (bit_at w (u % 64)) 1) (get_or-set_other words (v / 64) (u / 64) _ 0 ne) ∙ h.each u l
        ∙ sym (has_more vs v u ∙ ap (λ b. has vs u || b) (ne_eqb u v (λ e. ne (ap (λ k. k / 64) e))) ∙ or_false (has vs u))
  ];
}
  where
    changed : List ℕ
    changed = set words (v / 64) (bit_or (get_or words (v / 64) 0) bit)

    or_false : (b : Bool) → (b || false) ≡ b
    or_false true = refl
    or_false false = refl

    max_none : (a : ℕ) → max a 0 ≡ a
    max_none a = omega arith

    full : (a : ℕ) → a < 2 → eqb (max a 1) 1 ≡ true
    full zero l = refl
    full (suc zero) l = refl
    full (suc (suc a)) l = absurd (omega arith)

    or_true : (b : Bool) → true ≡ (b || true)
    or_true true = refl
    or_true false = refl

    own : (u : ℕ) → u < 256 → u / 64 ≡ v / 64 → eqb (bit_at (bit_or (get_or words (v / 64) 0) bit) (u % 64)) 1 ≡ (has vs u || nat_eq u v)
    own u l e =
        ap (λ k. eqb k 1) (bit_at_or (get_or words (v / 64) 0) bit (u % 64)
        ∙ ap (λ b. max (bit_at (get_or words (v / 64) 0) (u % 64)) (bit_at b (u % 64))) is)
        ∙ elim (cases_eq (u % 64) (v % 64)) [
          | inl s ↦
              ap (λ k. eqb (max (bit_at (get_or words (v / 64) 0) (u % 64)) k) 1) (ap (bit_at (2 ^ (v % 64))) s ∙ bit_at-pow_same (v % 64))
              ∙ full (bit_at (get_or words (v / 64) 0) (u % 64)) (bit_at-lt (get_or words (v / 64) 0) (u % 64))
              ∙ or_true (has vs u) ∙ sym (ap (λ b. has vs u || b) (eq-eqb u v (omega (arith, e, s))))
          | inr ns ↦
              ap (λ k. eqb (max (bit_at (get_or words (v / 64) 0) (u % 64)) k) 1) (bit_at-pow_other (v % 64) (u % 64) ns)
              ∙ ap (λ k. eqb k 1) (max_none (bit_at (get_or words (v / 64) 0) (u % 64)) ∙ ap (λ k. bit_at (get_or words k 0) (u % 64)) (sym e))
              ∙ h.each u l ∙ sym (or_false (has vs u)) ∙ sym (ap (λ b. has vs u || b) (ne_eqb u v (λ s. ns (ap (λ k. k % 64) s))))
        ]
