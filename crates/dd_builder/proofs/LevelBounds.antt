-- How many nodes a level of an order may have, and all levels: on the last three the functions of the variables that are left, numbered by
-- their values, else the ways to fix those above.
--     sum_below f m      the sum of the numbers of the levels above one
--     split_at      an order around a level
--     rest_alone      what the variables above a level reach doesn't depend on them
--     size_few      the size of an order
--     more_above      with more outputs there are no fewer
use Rattle.std.proofs.Common.{◌≡◌, ◌≢◌, ℕ, zero, suc, ◌+◌, ◌-◌, ◌*◌, ◌^◌, ◌<◌, ◌≤◌, Bool, true, false, cond, ◌||◌, nat_eq, nat_lt, List, [], ◌∷◌, ◌++◌, map, length, length-append, take, drop, get_or, set, replicate, refl, sym, ap, ◌∙◌, subst, ⊎_elim, arith, lt-ltb, le-ltb, mul-le-mul_right, zero-add}
use Rattle.std.specs.List.{filter, flat_map, range_with_len, sum}
use Rattle.std.specs.Set.{distinct_count}
use Rattle.std.proofs.Math.Nat.{mul-suc}
use Rattle.std.proofs.Math.Seq.{drop-cons}
use Rattle.std.proofs.lemmas.Bool.{cases_lt, or_left, or_right, false≢true}
use Rattle.std.proofs.lemmas.List.{get_or-replicate, set-set, set-get_or, length-replicate, length-set, get_or-set_same, get_or-set_other, take-append-drop, length-take, length-drop, length-map}
use Rattle.std.proofs.lemmas.List.FromFn.{fill_by_all, length-range_with_len, map-range_with_len_more}
use Rattle.std.proofs.lemmas.List.Sums.{sum_by-append}
use Rattle.std.proofs.lemmas.Nat.{pow-add, pow_pos}
use Rattle.definitions.specs.Functions.{Point, Function, bit, weight, restrict, SameFunction, table, depends, same_table}
use Rattle.definitions.specs.Orders.{has, IsOrder}
use Rattle.definitions.specs.Levels.{subfunctions, reach, dependents, level_count, level_counts, size_under}
use Rattle.definitions.proofs.Functions.Tables.{restrict_same, table_same, same_from_table, same_table_decides, depends_false}
use Rattle.definitions.proofs.Functions.Exchange.{mix, mix_is, bit-mix, length-mix, Below, below_from_has, subfunctions_fix}
use Rattle.definitions.proofs.Lists.Orders.{has_append, has_range}
use Rattle.definitions.proofs.Lists.Sets.{Among, count_le, nat_decides, among_from_map, among_from_filter, among_from_flat_map}
use Rattle.definitions.proofs.Widths.ClassPairs.{count_alike}
use Rattle.definitions.proofs.Widths.SizeBounds.{order_length, length-subfunctions}
use Rattle.node_words.proofs.Meaning.{choose_n, refuse_n}
use Rattle.dd_builder.specs.Subfunctions.{dependent, most_on, most_above, SizesAreFew}
use Rattle.dd_builder.proofs.Numberings.{parts_same, parts_small, pair, pair_small, pair_same}

-- how many functions of k variables there are
abbrev tail : ℕ → ℕ
tail k = 2 ^ 2 ^ k

tail_square : (k : ℕ) → tail (suc k) ≡ tail k * tail k
tail_square k = ap (λ z. 2 ^ z) twice ∙ pow-add 2 (2 ^ k) (2 ^ k)
  where
    twice : 2 ^ suc k ≡ 2 ^ k + 2 ^ k
    twice = omega arith

-- a number, itself times itself, and that times one less
square : (q : ℕ) → 0 < q → q + q * (q - 1) ≡ q * q
square zero some = absurd (omega arith)
square (suc q) some = grind arith

tail_next : (k : ℕ) → tail (suc k) ≡ tail k + tail k * (tail k - 1)
tail_next k = tail_square k ∙ sym (square (tail k) (pow_pos (2 ^ k)))

dependent_is : (k : ℕ) → dependent (suc k) ≡ tail k * (tail k - 1)
dependent_is k = grind (arith, tail, tail_next)

among_has : (xs : List ℕ) (t : ℕ) → has xs t ≡ true → Among t xs
among_has [] t h = absurd (false≢true h)
among_has (y ∷ xs) t h = grind (arith, nat_decides, among_has xs t)

among_range : (most t : ℕ) → t < most → Among t (range_with_len 0 most)
among_range most t low = among_has (range_with_len 0 most) t ((has_range most 0 t).1 (omega arith, omega arith))

weight_small : (b : Bool) → weight b < tail 0
weight_small true = omega arith
weight_small false = omega arith

weight_same : (a b : Bool) → weight a ≡ weight b → a ≡ b
weight_same true true e = refl
weight_same false false e = refl
weight_same true false e = absurd (omega (arith, e))
weight_same false true e = absurd (omega (arith, e))

module _ (n : ℕ) where
  abbrev zeros : Point
  zeros = replicate n false

  zeros_only : (p : Point) → length p ≡ n → ((y : ℕ) → y < n → bit p y ≡ false) → p ≡ zeros
  zeros_only p l z = fill_by_all (λ y. false) p n false l z
      ∙ sym (fill_by_all (λ y. false) zeros n false (length-replicate n false) (λ y low. get_or-replicate n y false false low))

  -- the number of a function of some variables, the others being 0: its values
  abbrev code : List ℕ → Function → ℕ
  code [] g = weight (g zeros)
  code (v ∷ vs) g = code vs (restrict v false g) * tail (length vs) + code vs (restrict v true g)

  code_small : (vs : List ℕ) (g : Function) → code vs g < tail (length vs)
  code_small [] g = weight_small (g zeros)
  code_small (v ∷ vs) g = subst (λ z. code vs (restrict v false g) * tail (length vs) + code vs (restrict v true g) < z) (sym (tail_square (length vs)))
      (parts_small (tail (length vs)) (tail (length vs)) (code vs (restrict v false g)) (code vs (restrict v true g))
      (code_small vs (restrict v false g)) (code_small vs (restrict v true g)))

  code_alike : (vs : List ℕ) (g h : Function) → SameFunction n g h → code vs g ≡ code vs h
  unfolding SameFunction
  code_alike [] g h s = ap weight (s zeros (length-replicate n false))
  code_alike (v ∷ vs) g h s = λ i.
      code_alike vs (restrict v false g) (restrict v false h) (restrict_same n v false g h s) i * tail (length vs)
      + code_alike vs (restrict v true g) (restrict v true h) (restrict_same n v true g h s) i

  own_value : (v : ℕ) (b : Bool) (g : Function) (p : Point) → bit p v ≡ b → restrict v b g (set p v false) ≡ g p
  unfolding restrict
  own_value v b g p e = ap g (set-set p v false b ∙ (ap (λ z. set p v z) (sym e) ∙ set-get_or p v false))

  -- functions with one number agree wherever the other variables are 0
  code_same : (vs : List ℕ) (g h : Function) → code vs g ≡ code vs h → (p : Point) → length p ≡ n →
      ((y : ℕ) → y < n → has vs y ≡ false → bit p y ≡ false) → g p ≡ h p
  code_same [] g h e p l zero_else =
      let z = zeros_only p l (λ y low. zero_else y low refl) in ap g z ∙ (weight_same (g zeros) (h zeros) e ∙ sym (ap h z))
  code_same (v ∷ vs) g h e p l zero_else = by
      (code_same vs (restrict v false g) (restrict v false h) both.0 (set p v false) long else_zero)
      (code_same vs (restrict v true g) (restrict v true h) both.1 (set p v false) long else_zero) (bit p v) refl
    where
      both : (code vs (restrict v false g) ≡ code vs (restrict v false h)) × (code vs (restrict v true g) ≡ code vs (restrict v true h))
      both =
          parts_same (tail (length vs)) (code vs (restrict v false g)) (code vs (restrict v true g)) (code vs (restrict v false h))
          (code vs (restrict v true h))
          (code_small vs (restrict v true g)) (code_small vs (restrict v true h)) e

      long : length (set p v false) ≡ n
      long = length-set p v false ∙ l

      else_zero : (y : ℕ) → y < n → has vs y ≡ false → bit (set p v false) y ≡ false
      else_zero y low out = at (nat_eq y v) refl
        where
          at : (c : Bool) → nat_eq y v ≡ c → bit (set p v false) y ≡ false
          at true s = let same = (nat_decides y v).0 s in
              subst (λ z. bit (set p v false) z ≡ false) (sym same) (get_or-set_same p v false false (omega (arith, same, low, l)))
          at false s = get_or-set_other p v y false false (λ same. absurd (let t = (nat_decides y v).1 same in cc))
              ∙ zero_else y low ((λ i. s i || has vs y) ∙ out)

      by : restrict v false g (set p v false) ≡ restrict v false h (set p v false) →
          restrict v true g (set p v false) ≡ restrict v true h (set p v false) → (b : Bool) → bit p v ≡ b → g p ≡ h p
      by low high false s = sym (own_value v false g p s) ∙ (low ∙ own_value v false h p s)
      by low high true s = sym (own_value v true g p s) ∙ (high ∙ own_value v true h p s)

  -- ---- a level

  module _ (F : List Function) (above : List ℕ) (x : ℕ) (below : List ℕ) (is : IsOrder n (above ++ x ∷ below)) where
    abbrev k : ℕ
    k = length below

    has_all : (y : ℕ) → has (above ++ x ∷ below) y ≡ (has above y || (nat_eq y x || has below y))
    has_all y = has_append above (x ∷ below) y

    x_inside : x < n
    x_inside = (is.all x).0 (has_all x ∙ or_right (has above x) (nat_eq x x || has below x) (or_left (nat_eq x x) (has below x) ((nat_decides x x).1 refl)))

    above_below : Below n above
    above_below = below_from_has n above (λ y h. (is.all y).0 (has_all y ∙ or_left (has above y) (nat_eq y x || has below y) h))

    -- what the variables above reach doesn't depend on them
    pub rest_alone : (g : Function) → Among g (reach F above) → (p q : Point) → length p ≡ n → length q ≡ n →
        ((y : ℕ) → y < n → has above y ≡ false → bit p y ≡ bit q y) → g p ≡ g q
    unfolding reach SameFunction
    rest_alone g there p q lp lq agree =
        let from = among_from_flat_map (subfunctions above) g F there in
        let fix = subfunctions_fix n above above_below from.0 g from.2 in
        fix.2 p lp ∙ (ap from.0 (sym (mix_is n above fix.0 p (mix n above fix.0 q) (length-mix n above fix.0 q)
        (λ y low. bit-mix n above fix.0 q y low ∙ at fix.0 (has above y) y low refl))) ∙ sym (fix.2 q lq))
      where
        at : (a : Point) (c : Bool) (y : ℕ) → y < n → has above y ≡ c → cond c (bit a y) (bit q y) ≡ cond c (bit a y) (bit p y)
        at a true y low e = refl
        at a false y low e = sym (agree y low e)

    -- two of them whose restrictions have one number
    from_codes : (g h : Function) (b c : Bool) → Among g (reach F above) → Among h (reach F above) →
        code below (restrict x b g) ≡ code below (restrict x c h) → SameFunction n (restrict x b g) (restrict x c h)
    unfolding SameFunction restrict
    from_codes g h b c mg mh e p l =
        rest_alone g mg (set p x b) (set q x b) (long_set p l b) (long_set q long b) (λ y low out. same y low out b)
        ∙ (code_same below (restrict x b g) (restrict x c h) e q long zero_else
        ∙ sym (rest_alone h mh (set p x c) (set q x c) (long_set p l c) (long_set q long c) (λ y low out. same y low out c)))
      where
        q : Point
        q = mix n (x ∷ above) zeros p

        long : length q ≡ n
        long = length-mix n (x ∷ above) zeros p

        long_set : (r : Point) → length r ≡ n → (z : Bool) → length (set r x z) ≡ n
        long_set r lr z = length-set r x z ∙ lr

        bit_q : (y : ℕ) → y < n → bit q y ≡ cond (nat_eq y x || has above y) (bit zeros y) (bit p y)
        bit_q y low = bit-mix n (x ∷ above) zeros p y low

        same : (y : ℕ) → y < n → has above y ≡ false → (z : Bool) → bit (set p x z) y ≡ bit (set q x z) y
        same y low out z = at (nat_eq y x) refl
          where
            at : (d : Bool) → nat_eq y x ≡ d → bit (set p x z) y ≡ bit (set q x z) y
            at true s = let is_x = (nat_decides y x).0 s in subst (λ w. bit (set p x z) w ≡ bit (set q x z) w) (sym is_x)
                (get_or-set_same p x z false (omega (arith, x_inside, l)) ∙ sym (get_or-set_same q x z false (omega (arith, x_inside, long))))
            at false s = let other : y ≢ x = (λ w. let t = (nat_decides y x).1 w in cc) in
                get_or-set_other p x y z false other
                ∙ (sym (bit_q y low ∙ (λ i. cond (s i || out i) (bit zeros y) (bit p y))) ∙ sym (get_or-set_other q x y z false other))

        zero_else : (y : ℕ) → y < n → has below y ≡ false → bit q y ≡ false
        zero_else y low out = bit_q y low ∙ at (nat_eq y x) (has above y) refl refl
          where
            there : (has above y || (nat_eq y x || has below y)) ≡ true
            there = sym (has_all y) ∙ (is.all y).1 low

            at : (c d : Bool) → nat_eq y x ≡ c → has above y ≡ d → cond (c || d) (bit zeros y) (bit p y) ≡ false
            at true d s t = get_or-replicate n y false false low
            at false true s t = get_or-replicate n y false false low
            at false false s t = absurd (let w : (false || (false || false)) ≡ true = (λ i. sym t i || (sym s i || sym out i)) ∙ there in cc)

    -- the number of one that depends on the level's variable
    abbrev number_of : Function → ℕ
    number_of g = pair (tail k) (code below (restrict x false g)) (code below (restrict x true g))

    abbrev Counted : Function → Type 0
    Counted g = Among g (filter (λ f. depends n f x) (reach F above))

    halves_differ : (g : Function) → Counted g → code below (restrict x false g) ≢ code below (restrict x true g)
    halves_differ g m e =
        let kept = among_from_filter (λ f. depends n f x) g (reach F above) m in
        let none = depends_false n g x (from_codes g g false true kept.0 kept.0 e) in
        let some : depends n g x ≡ true = kept.1 in cc

    number_small : (g : Function) → Counted g → number_of g < tail k * (tail k - 1)
    number_small g m = pair_small (tail k) (code below (restrict x false g)) (code below (restrict x true g))
        (code_small below (restrict x false g)) (code_small below (restrict x true g)) (halves_differ g m)

    number_alike : (g h : Function) → table n g ≡ table n h → number_of g ≡ number_of h
    number_alike g h e = let s = same_from_table n g h e in
        λ i. pair (tail k) (code_alike below (restrict x false g) (restrict x false h) (restrict_same n x false g h s) i)
        (code_alike below (restrict x true g) (restrict x true h) (restrict_same n x true g h s) i)

    number_once : (g h : Function) → Counted g → Counted h → number_of g ≡ number_of h → table n g ≡ table n h
    unfolding SameFunction restrict
    number_once g h mg mh e =
        let kg = among_from_filter (λ f. depends n f x) g (reach F above) mg in
        let kh = among_from_filter (λ f. depends n f x) h (reach F above) mh in
        let s = pair_same (tail k) (code below (restrict x false g)) (code below (restrict x true g))
        (code below (restrict x false h)) (code below (restrict x true h))
        (code_small below (restrict x false g)) (code_small below (restrict x true g)) (halves_differ g mg)
        (code_small below (restrict x false h)) (code_small below (restrict x true h)) (halves_differ h mh) e in
        let low = from_codes g h false false kg.0 kh.0 s.0 in
        let high = from_codes g h true true kg.0 kh.0 s.1 in
        table_same n g h (λ p l. whole low high p l (bit p x) refl)
      where
        back : (p : Point) (b : Bool) → bit p x ≡ b → set p x b ≡ p
        back p b e = ap (λ z. set p x z) (sym e) ∙ set-get_or p x false

        whole : SameFunction n (restrict x false g) (restrict x false h) → SameFunction n (restrict x true g) (restrict x true h) →
            (p : Point) → length p ≡ n → (b : Bool) → bit p x ≡ b → g p ≡ h p
        whole low high p l false s = sym (ap g (back p false s)) ∙ (low p l ∙ ap h (back p false s))
        whole low high p l true s = sym (ap g (back p true s)) ∙ (high p l ∙ ap h (back p true s))

    -- so many functions are left on the level
    late : dependents n (reach F above) x ≤ tail k * (tail k - 1)
    unfolding dependents
    late = let gs : List Function = filter (λ f. depends n f x) (reach F above) in
        let most : ℕ = tail k * (tail k - 1) in
        let e : distinct_count same_table (map (table n) gs) ≡ distinct_count nat_eq (map number_of gs) =
        count_alike same_table same_table_decides nat_eq nat_decides (table n) number_of gs
        (λ g h mg mh. (number_alike g h, number_once g h mg mh)) in
        let c = count_le nat_eq nat_decides (map number_of gs) (range_with_len 0 most)
        (λ t m. let from = among_from_map number_of t gs m in
        among_range most t (let s = number_small from.0 from.1 in omega (arith, s, from.2))) in
        let l = length-range_with_len 0 most in omega (arith, e, c, l)

    -- as many as there are ways to fix the variables above
    early : dependents n (reach F above) x ≤ length F * 2 ^ length above
    unfolding dependents reach
    early = let gs : List Function = filter (λ f. depends n f x) (reach F above) in
        let a = count_le same_table same_table_decides (map (table n) gs) (map (table n) gs) (λ t m. m) in
        let l = length-map gs (table n) in let s = short (reach F above) in let r = length_reach F in
        let m : 2 ^ length above * length F ≡ length F * 2 ^ length above = omega arith in omega (arith, a, l, s, r, m)
      where
        short : (fs : List Function) → length (filter (λ f. depends n f x) fs) ≤ length fs
        short [] = omega arith
        short (f ∷ fs) = grind (arith, short fs)

        length_reach : (fs : List Function) → length (flat_map (subfunctions above) fs) ≡ 2 ^ length above * length fs
        length_reach [] = omega arith
        length_reach (f ∷ fs) =
            let m = mul-suc (2 ^ length above) (length fs) in
            length-append (subfunctions above f) (flat_map (subfunctions above) fs) ∙ omega (arith, length_reach fs, length-subfunctions above f)

-- ---- all levels

abbrev pub sum_below : (ℕ → ℕ) → ℕ → ℕ
sum_below f m = sum (map f (range_with_len 0 m))

pub sum_next : (f : ℕ → ℕ) (m : ℕ) → sum_below f (suc m) ≡ sum_below f m + f m
sum_next f m =
    let longer = ap (λ z. sum (map f (range_with_len 0 z))) (suc_add m) in
    let all = ap sum (map-range_with_len_more f 0 m m (zero-add m)) in
    grind (arith, sum_by-append)
  where
    suc_add : (j : ℕ) → suc j ≡ j + 1
    suc_add j = omega arith

pub split_at : (order : List ℕ) (i : ℕ) → i < length order → take i order ++ get_or order i 0 ∷ drop (suc i) order ≡ order
split_at order i low = ap (λ z. take i order ++ z) (sym (drop-cons order i 0 low)) ∙ take-append-drop i order

more_outputs : (n m level : ℕ) → m ≤ 16 → most_on n m level ≤ most_on n 16 level
more_outputs n m level few = ⊎_elim
    (λ (late : n - level < 4).
    let a = choose_n (nat_lt (n - level) 4) (dependent (n - level)) (m * 2 ^ level) (lt-ltb (n - level) 4 late) in
    let b = choose_n (nat_lt (n - level) 4) (dependent (n - level)) (16 * 2 ^ level) (lt-ltb (n - level) 4 late) in omega (arith, a, b))
    (λ (early : 4 ≤ n - level).
    let a = refuse_n (nat_lt (n - level) 4) (dependent (n - level)) (m * 2 ^ level) (le-ltb (n - level) 4 early) in
    let b = refuse_n (nat_lt (n - level) 4) (dependent (n - level)) (16 * 2 ^ level) (le-ltb (n - level) 4 early) in
    let s : m * 2 ^ level ≤ 16 * 2 ^ level = mul-le-mul_right (2 ^ level) few in omega (arith, a, b, s))
    (cases_lt (n - level) 4)

pub more_above : (n m level : ℕ) → m ≤ 16 → most_above n m level ≤ most_above n 16 level
more_above n m zero few = omega arith
more_above n m (suc level) few = let a = more_above n m level few in let b = more_outputs n m level few in omega (arith, a, b)

module _ (n : ℕ) (F : List Function) (order : List ℕ) (is : IsOrder n order) where
  long : length order ≡ n
  long = order_length n order is

  level_few : (i : ℕ) → i < n → level_count n F order i ≤ most_on n (length F) i
  unfolding level_count
  level_few i low = ⊎_elim
      (λ (last : n - i < 4).
      let a = choose_n (nat_lt (n - i) 4) (dependent (n - i)) (length F * 2 ^ i) (lt-ltb (n - i) 4 last) in
      let d : dependent (n - i) ≡ tail (length below) * (tail (length below) - 1) = ap dependent left ∙ dependent_is (length below) in
      let l = late n F above x below split_is in omega (arith, a, d, l))
      (λ (first : 4 ≤ n - i).
      let a = refuse_n (nat_lt (n - i) 4) (dependent (n - i)) (length F * 2 ^ i) (le-ltb (n - i) 4 first) in
      let e = early n F above x below split_is in
      let p : length F * 2 ^ length above ≡ length F * 2 ^ i = ap (λ z. length F * 2 ^ z) ahead in omega (arith, a, e, p))
      (cases_lt (n - i) 4)
    where
      above : List ℕ
      above = take i order

      x : ℕ
      x = get_or order i 0

      below : List ℕ
      below = drop (suc i) order

      split_is : IsOrder n (above ++ x ∷ below)
      split_is = subst (λ z. IsOrder n z) (sym (split_at order i (omega (arith, long, low)))) is

      ahead : length above ≡ i
      ahead = let l = length-take i order in omega (arith, l, long, low)

      left : n - i ≡ suc (length below)
      left = let l = length-drop (suc i) order in omega (arith, l, long, low)

  levels_few : (m : ℕ) → m ≤ n → sum_below (level_count n F order) m ≤ most_above n (length F) m
  levels_few zero few = omega arith
  levels_few (suc m) few =
      let a = levels_few m (omega arith) in let b = level_few m (omega arith) in let c = sum_next (level_count n F order) m in omega (arith, a, b, c)

pub size_few : SizesAreFew
unfolding size_under level_counts
size_few n F order is = let l = levels_few n F order is (length order) (omega (arith, order_length n order is)) in
    subst (λ z. sum_below (level_count n F order) (length order) ≤ most_above n (length F) z) (order_length n order is) l
