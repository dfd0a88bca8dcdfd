use Rattle.std.proofs.Common.{◌≡◌, ℕ, zero, suc, ◌+◌, ◌*◌, ◌^◌, ◌<◌, List, [], ◌∷◌, map, length, get_or, refl, ap, ◌∙◌, arith, bit_and, count_ones, eqb}
use Rattle.std.specs.Int.{bit_at}
use Rattle.std.specs.List.{filter, range_with_len}
use Rattle.std.proofs.lemmas.List.FromFn.{length-range_with_len}
use Rattle.std.proofs.lemmas.Nat.{and_le_r}
use Rattle.definitions.proofs.Lists.Ranges.{filter_at_most}
use Rattle.small_search.specs.Counting.{dependents_in, is_dependent_in, is_in}
use Rattle.small_search.specs.Values.{places}
use Rattle.small_search.proofs.ValueSets.{at_all, depends_at, words_more}
use Rattle.small_search.proofs.width_counts.count_dependent.Goals as goal

-- the table of the code
abbrev first : List ℕ
first = 8067917257457496054 ∷ 18446744073709551615 ∷ 18446744073709551615 ∷ 8067917257457496054 ∷ []

abbrev second : List ℕ
second = 18446744073709517790 ∷ 18446744071492796415 ∷ 18446598796440764415 ∷ 8925852986471612415 ∷ []

abbrev third : List ℕ
third = 18444492256715866110 ∷ 18410715001810583535 ∷ 17870278923326062335 ∷ 9223301667573723135 ∷ []

-- the words have the right bits for all 256 values
first_bits : map (is_in first) (range_with_len 0 256) ≡ map (λ v. eqb (bit_at (places 3 v) 0) 1) (range_with_len 0 256)
unfolding places
first_bits = refl

second_bits : map (is_in second) (range_with_len 0 256) ≡ map (λ v. eqb (bit_at (places 3 v) 1) 1) (range_with_len 0 256)
unfolding places
second_bits = refl

third_bits : map (is_in third) (range_with_len 0 256) ≡ map (λ v. eqb (bit_at (places 3 v) 2) 1) (range_with_len 0 256)
unfolding places
third_bits = refl

dependent : (place : ℕ) → place < 3 → (v : ℕ) → v < 256 → is_in (get_or (first ∷ second ∷ third ∷ []) place []) v ≡ eqb (bit_at (places 3 v) place) 1
dependent zero l = at_all (is_in first) (λ v. eqb (bit_at (places 3 v) 0) 1) 256 first_bits
dependent (suc zero) l = at_all (is_in second) (λ v. eqb (bit_at (places 3 v) 1) 1) 256 second_bits
dependent (suc (suc zero)) l = at_all (is_in third) (λ v. eqb (bit_at (places 3 v) 2) 1) 256 third_bits
dependent (suc (suc (suc p))) l = absurd (omega arith)

row : (a b c d i : ℕ) → a < 2 ^ 64 → b < 2 ^ 64 → c < 2 ^ 64 → d < 2 ^ 64 → get_or (a ∷ b ∷ c ∷ d ∷ []) i 0 < 2 ^ 64
row a b c d zero k l m n = k
row a b c d (suc zero) k l m n = l
row a b c d (suc (suc zero)) k l m n = m
row a b c d (suc (suc (suc zero))) k l m n = n
row a b c d (suc (suc (suc (suc i)))) k l m n = omega arith

-- a word of the table fits
words_fit : (place i : ℕ) → get_or (get_or (first ∷ second ∷ third ∷ []) place []) i 0 < 2 ^ 64
words_fit zero i = row _ _ _ _ i (omega arith) (omega arith) (omega arith) (omega arith)
words_fit (suc zero) i = row _ _ _ _ i (omega arith) (omega arith) (omega arith) (omega arith)
words_fit (suc (suc zero)) i = row _ _ _ _ i (omega arith) (omega arith) (omega arith) (omega arith)
words_fit (suc (suc (suc place))) i = omega arith

-- one word more
more : (occurring : List ℕ) (place i count : ℕ) → length occurring ≡ 4 → place < 3 → i < 4 →
    get_or (get_or (first ∷ second ∷ third ∷ []) place []) i 0 < 2 ^ 64 →
    count ≡ length (filter (is_dependent_in occurring place) (range_with_len 0 (64 * i))) →
    count + count_ones (bit_and (get_or occurring i 0) (get_or (get_or (first ∷ second ∷ third ∷ []) place []) i 0))
    ≡ length (filter (is_dependent_in occurring place) (range_with_len 0 (64 * (i + 1))))
more occurring place i count four few lt fits h =
    let words = get_or (first ∷ second ∷ third ∷ []) place [] in
    let l = and_le_r (get_or occurring i 0) (get_or words i 0) in
    words_more (depends_at place) occurring words i count (dependent place few) lt (omega (arith, l, fits)) h

pub overflow_add-count : goal.overflow_add-count
overflow_add-count c =
    let m = more c.args.occurring.now c.args.place c.loop-i.i c.loop-i.count c.told-occurring c.requires c.loop-i-test.true
    (words_fit c.args.place c.loop-i.i) c.loop-i.invariant in
    let f = filter_at_most (is_dependent_in c.args.occurring.now c.args.place) (range_with_len 0 (64 * (c.loop-i.i + 1))) in
    let l = length-range_with_len 0 (64 * (c.loop-i.i + 1)) in
    let t = c.loop-i-test.true in
    omega (arith, m, f, l, t)

pub loop-i-preserved : goal.loop-i-preserved
loop-i-preserved c =
    more c.args.occurring.now c.args.place c.loop-i.i c.loop-i.count c.told-occurring c.requires c.loop-i-test.true
    (words_fit c.args.place c.loop-i.i) c.loop-i.invariant

pub returns-clause-few : goal.returns-clause-few
returns-clause-few c =
    let f = filter_at_most (is_dependent_in c.args.occurring.now c.args.place) (range_with_len 0 (64 * c.loop-i.i)) in
    let l = length-range_with_len 0 (64 * c.loop-i.i) in
    let e = c.loop-i.auto.i-end in
    let i = c.loop-i.invariant in
    omega (arith, i, f, l, e)

pub returns-clause-dependents : goal.returns-clause-dependents
unfolding dependents_in
returns-clause-dependents c =
    let f = c.loop-i-test.false in
    let e = c.loop-i.auto.i-end in
    let s : 64 * c.loop-i.i ≡ 256 = omega (arith, f, e) in
    c.loop-i.invariant ∙ ap (λ k. length (filter (is_dependent_in c.args.occurring.now c.args.place) (range_with_len 0 k))) s
