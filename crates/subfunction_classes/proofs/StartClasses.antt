-- The classes of the empty set: the first value met has number 0, the other one 1.
--     start_numbers, start_masks      the class numbers of the empty set, and the masks
--     values_are, values_start      a problem's values are those of its functions; the first one
--     holds_start      the class table of the empty set
--     rows_more      the values of one function more
use Rattle.std.proofs.Common.{◌≡◌, ℕ, zero, suc, ◌+◌, ◌<◌, ◌≤◌, Bool, true, false, not, cond, inl, inr, List, [], ◌∷◌, ◌++◌, map, length, reverse, get_or, set, eqb-true, eq-eqb, nat_eq, refl, sym, ap, ap₂, ◌∙◌, subst, arith}
use Rattle.std.specs.Bool.{beq}
use Rattle.std.specs.Int.{bit_at}
use Rattle.std.specs.List.{take_while, filter, list_any, flat_map, range_with_len}
use Rattle.std.proofs.Common.{◌-◌, ◌*◌, ◌/◌, ◌^◌, eqb, zero-mul, pow_mono, take}
use Rattle.std.proofs.lemmas.Nat.{pow_pos}
use Rattle.std.proofs.lemmas.Nat.Bits.{bit_at-suc, bit_at-lt}
use Rattle.std.proofs.lemmas.List.FromFn.{length-map-range_with_len}
use Rattle.std.specs.Set.{distinct_count}
use Rattle.std.proofs.lemmas.Bool.{false≢true, true≢false, cases_lt, or_cases, or_left, or_right}
use Rattle.std.proofs.lemmas.List.{length-set, length-append, length-map, map-append, take_more}
use Rattle.std.proofs.lemmas.List.Concat.{flat_map-append}
use Rattle.std.proofs.lemmas.List.Sums.{take_while-cons}
use Rattle.definitions.specs.Functions.{Function, number, point_of, from_table, table, same_table, depends, SameFunction, restrict}
use Rattle.definitions.specs.Orders.{variables, mask_of}
use Rattle.definitions.specs.Levels.{reach}
use Rattle.definitions.specs.Widths.{outside, entries, class_of, class_numbers}
use Rattle.definitions.proofs.Lists.Sets.{Among, count_same}
use Rattle.definitions.proofs.Functions.Tables.{same_table_decides, depends_false, beq_decides}
use Rattle.definitions.proofs.Widths.ClassPairs.{count_alike}
use Rattle.definitions.proofs.Widths.Cells.{members_zero}
use Rattle.subfunction_classes.specs.Table.{HoldsClasses, classes_of}
use Rattle.subfunction_classes.specs.Numbering.{rank, ranks}
use Rattle.subfunction_classes.specs.Values.{row, values_of, number_of, class_count}
use Rattle.definitions.specs.Problems.{TruthTables, functions, value_at}
use Rattle.subfunction_classes.specs.Dependence.{support, dependence, AreMasks}
use Rattle.subfunction_classes.proofs.RankLaws.{rank_below, rank_reached, ranks_alike}
use Rattle.subfunction_classes.proofs.Lists.{map_ranges}
use Rattle.subfunction_classes.proofs.Constants.{value_of, all_values, values_reached, reached_constant, tables_as_values, outside_none}

-- there is one other value
other : (b x y : Bool) → beq b x ≡ false → beq b y ≡ false → x ≡ y
other b x y h k = grind arith

-- how many distinct values stand before a value
rank_value : (first : Bool) (bs : List Bool) (b : Bool) → rank beq (first ∷ bs) b ≡ number_of first b
unfolding rank
rank_value first bs b = ap (distinct_count beq) (take_while-cons (λ u. not (beq b u)) first bs) ∙ by (beq b first) refl
  where
    same : (xs : List Bool) → beq b first ≡ false → (u : Bool) → Among u (take_while (λ v. not (beq b v)) xs) → u ≡ first
    same [] e u h = absurd h
    same (x ∷ xs) e u h = one (beq b x) refl (subst (Among u) (take_while-cons (λ v. not (beq b v)) x xs) h) (same xs e u)
      where
        one : (c : Bool) → beq b x ≡ c → Among u (cond (not c) (x ∷ take_while (λ v. not (beq b v)) xs) []) →
            (Among u (take_while (λ v. not (beq b v)) xs) → u ≡ first) → u ≡ first
        one true q k r = absurd k
        one false q k r = elim k [ inl s ↦ s ∙ other b x first q e | inr a ↦ r a ]

    by : (c : Bool) → beq b first ≡ c → distinct_count beq (cond (not c) (first ∷ take_while (λ u. not (beq b u)) bs) []) ≡ cond c 0 1
    by true e = refl
    by false e =
        count_same beq beq_decides (first ∷ take_while (λ u. not (beq b u)) bs) (first ∷ [])
        (λ u h. elim h [ inl s ↦ inl s | inr a ↦ inl (same bs e u a) ])
        (λ u h. elim h [ inl s ↦ inl s | inr a ↦ absurd a ])

pub ranks_values : (first : Bool) (bs : List Bool) → ranks beq (first ∷ bs) ≡ map (number_of first) (first ∷ bs)
unfolding ranks
ranks_values first bs = grind (arith, rank_value)

-- the class numbers of the empty set
pub start_numbers : (n : ℕ) (F : List Function) (first : Bool) (rest : List Bool) → all_values n F ≡ first ∷ rest →
    class_numbers n F [] ≡ map (number_of first) (all_values n F)
unfolding class_numbers class_of entries ranks rank
start_numbers n F first rest e =
    ap (λ o. ranks same_table (map (table n) (reach F (reverse o)))) (outside_none n)
    ∙ sym (ranks_alike beq beq_decides same_table same_table_decides (value_of n) (table n) (reach F (reverse (variables n)))
    (λ g h a b. let t = tables_as_values n F g h a b in (t.1, t.0)))
    ∙ ap (ranks beq) (values_reached n F ∙ e) ∙ ranks_values first rest ∙ ap (map (number_of first)) (sym e)

-- ---- masks

-- a constant depends on nothing
constant_mask : (n : ℕ) (F : List Function) (g : Function) → Among g (reach F (reverse (variables n))) → dependence n g ≡ 0
unfolding dependence support mask_of SameFunction restrict
constant_mask n F g a = ap mask_of (none (variables n))
  where
    same : (x : ℕ) → SameFunction n (restrict x false g) (restrict x true g)
    same x p l = reached_constant n F g a (set p x false) (length-set p x false ∙ l) ∙ sym (reached_constant n F g a (set p x true) (length-set p x true ∙ l))

    none : (xs : List ℕ) → filter (λ y. depends n g y) xs ≡ []
    none [] = refl
    none (x ∷ xs) = ap₂ (λ b zs. cond b (x ∷ zs) zs) (depends_false n g x (same x)) (none xs)

count_values : (first : Bool) (bs : List Bool) → distinct_count beq (first ∷ bs) ≡ class_count (map (number_of first) (first ∷ bs))
count_values first bs = by (list_any (λ k. nat_eq k 1) (map (number_of first) (first ∷ bs))) refl
  where
    all : List Bool
    all = first ∷ bs

    some : (xs : List Bool) → list_any (λ k. nat_eq k 1) (map (number_of first) xs) ≡ true → (b : Bool) × Among b xs × (number_of first b ≡ 1)
    some [] h = absurd (false≢true h)
    some (x ∷ xs) h = elim (or_cases (nat_eq (number_of first x) 1) (list_any (λ k. nat_eq k 1) (map (number_of first) xs)) h) [
      | inl e ↦ (x, inl refl, eqb-true _ 1 e)
      | inr r ↦ let z = some xs r in (z.0, inr z.1, z.2)
    ]

    there : (xs : List Bool) (b : Bool) → Among b xs → number_of first b ≡ 1 → list_any (λ k. nat_eq k 1) (map (number_of first) xs) ≡ true
    there [] b h e = absurd h
    there (x ∷ xs) b h e = elim h [
      | inl s ↦ or_left _ _ (eq-eqb (number_of first x) 1 (ap (number_of first) (sym s) ∙ e))
      | inr a ↦ or_right (nat_eq (number_of first x) 1) _ (there xs b a e)
    ]

    at_most : (b : Bool) → number_of first b < 2
    at_most b = two (beq b first)
      where
        two : (c : Bool) → cond c 0 1 < 2
        two true = omega arith
        two false = omega arith

    few : distinct_count beq (first ∷ bs) ≤ 2
    few = elim (cases_lt 2 (distinct_count beq (first ∷ bs))) [
      | inl lt ↦ let t = rank_reached beq beq_decides (first ∷ bs) 2 lt in absurd (omega (arith, rank_value first bs t.0, at_most t.0))
      | inr le ↦ le
    ]

    by : (c : Bool) → list_any (λ k. nat_eq k 1) (map (number_of first) (first ∷ bs)) ≡ c → distinct_count beq (first ∷ bs) ≡ cond c 2 1
    by true e =
        let z = some (first ∷ bs) e in
        omega (arith, rank_value first bs z.0, rank_below beq beq_decides (first ∷ bs) z.0 z.1, few)
    by false e =
        elim (cases_lt 1 (distinct_count beq (first ∷ bs))) [
          | inl lt ↦
              let t = rank_reached beq beq_decides (first ∷ bs) 1 lt in
              absurd (true≢false (sym (there (first ∷ bs) t.0 t.1 (sym (rank_value first bs t.0) ∙ t.2)) ∙ e))
          | inr le ↦ omega (arith, rank_below beq beq_decides (first ∷ bs) first (inl refl))
        ]

-- as many zeros
nothings : {X : Type 0} → List X → List ℕ
nothings [] = []
nothings (x ∷ xs) = 0 ∷ nothings xs

nothings-map : {X Y : Type 0} (f : X → Y) (xs : List X) → nothings (map f xs) ≡ nothings xs
unfolding nothings
nothings-map f [] = refl
nothings-map f (x ∷ xs) = ap (λ zs. 0 ∷ zs) (nothings-map f xs)

-- the masks of the empty set's classes
pub start_masks : (n : ℕ) (F : List Function) (first : Bool) (rest : List Bool) → all_values n F ≡ first ∷ rest → (masks : List ℕ) →
    ((c : ℕ) → get_or masks c 0 ≡ 0) →
    length masks ≡ class_count (map (number_of first) (all_values n F)) → AreMasks n F [] masks
unfolding entries class_numbers nothings
start_masks n F first rest e masks zeros l = record {
  many = l ∙ ap (λ vs. class_count (map (number_of first) vs)) e ∙ sym (count_values first rest) ∙ ap (distinct_count beq) (sym e ∙ sym (values_reached n F))
      ∙ count_alike beq beq_decides same_table same_table_decides (value_of n) (table n) (reach F (reverse (variables n)))
      (λ g h a b. let t = tables_as_values n F g h a b in (t.1, t.0))
      ∙ ap (λ o. distinct_count same_table (map (table n) (reach F (reverse o)))) (sym (outside_none n));
  labels = all_zero (class_numbers n F []) ∙ numbers_long ∙ ap (λ o. map (dependence n) (reach F (reverse o))) (sym (outside_none n));
}
  where
    all_zero : (cs : List ℕ) → map (λ c. get_or masks c 0) cs ≡ nothings cs
    all_zero [] = refl
    all_zero (c ∷ cs) = λ i. zeros c i ∷ all_zero cs i

    constant_masks : (gs : List Function) → ((g : Function) → Among g gs → Among g (reach F (reverse (variables n)))) → nothings gs ≡ map (dependence n) gs
    constant_masks [] w = refl
    constant_masks (g ∷ gs) w = λ i. sym (constant_mask n F g (w g (inl refl))) i ∷ constant_masks gs (λ h a. w h (inr a)) i

    numbers_long : nothings (class_numbers n F []) ≡ map (dependence n) (reach F (reverse (variables n)))
    numbers_long =
        nothings-map (class_of (entries n F [])) (entries n F []) ∙ nothings-map (table n) (reach F (reverse (outside n [])))
        ∙ ap (λ o. nothings (reach F (reverse o))) (outside_none n)
        ∙ constant_masks (reach F (reverse (variables n))) (λ g a. a)

-- ---- the values of truth tables

number-point_of : (n k : ℕ) → k < 2 ^ n → number (point_of n k) ≡ k
unfolding number point_of
number-point_of zero k h = omega arith
number-point_of (suc n) k h =
    ap (λ xs. cond (eqb (bit_at k 0) 1) 1 0 + 2 * number xs) rest
    ∙ (let ih = number-point_of n (k / 2) (omega arith) in omega (arith, low (bit_at k 0) (bit_at-lt k 0)))
  where
    low : (b : ℕ) → b < 2 → cond (eqb b 1) 1 0 ≡ b
    low zero lt = refl
    low (suc zero) lt = refl
    low (suc (suc b)) lt = absurd (omega arith)

    rest : map (λ x. eqb (bit_at k x) 1) (range_with_len (0 + 1) n) ≡ point_of n (k / 2)
    rest = map_ranges (λ x. eqb (bit_at k x) 1) (λ x. eqb (bit_at (k / 2) x) 1) n (0 + 1) 0
        (λ i lt. ap (λ b. eqb b 1)
        (ap (bit_at k) (let s : 0 + 1 + i ≡ suc i = omega arith in s) ∙ bit_at-suc k i
        ∙ ap (bit_at (k / 2)) (let s : i ≡ 0 + i = omega arith in s)))

row_is : (n : ℕ) (t : List Bool) → map (λ j. from_table t (point_of n j)) (range_with_len 0 (2 ^ n)) ≡ row n t
unfolding row from_table
row_is n t = grind (arith, map_ranges, number-point_of)

-- the values of a problem's functions
pub values_are : (p : TruthTables) → all_values p.inputs (functions p) ≡ values_of p
unfolding all_values values_of
values_are p = each p.tables
  where
    each : (ts : List (List Bool)) →
        flat_map (λ f. map (λ j. f (point_of p.inputs j)) (range_with_len 0 (2 ^ p.inputs))) (map from_table ts) ≡ flat_map
        (row p.inputs) ts
    each [] = refl
    each (t ∷ ts) = λ i. row_is p.inputs t i ++ each ts i

-- the first value
pub values_start : (p : TruthTables) → 0 < length p.tables → (rest : List Bool) × (values_of p ≡ value_at p 0 0 ∷ rest)
unfolding values_of row
values_start p some = by p.tables some
  where
    by : (ts : List (List Bool)) → 0 < length ts → (rest : List Bool) × (flat_map (row p.inputs) ts ≡ get_or (get_or ts 0 []) 0 false ∷ rest)
    by [] h = absurd (omega arith)
    by (t ∷ ts) h =
        let e : 2 ^ p.inputs ≡ suc (2 ^ p.inputs - 1) = omega (arith, pow_pos p.inputs) in (
          map (λ j. get_or t j false) (range_with_len (0 + 1) (2 ^ p.inputs - 1)) ++ flat_map (row p.inputs) ts,
          ap (λ k. map (λ j. get_or t j false) (range_with_len 0 k) ++ flat_map (row p.inputs) ts) e,
        )

pub length_row : (n : ℕ) (t : List Bool) → length (row n t) ≡ 2 ^ n
unfolding row
length_row n t = length-map-range_with_len (λ j. get_or t j false) 0 (2 ^ n)

pub length_values : (p : TruthTables) → length (values_of p) ≡ length p.tables * 2 ^ p.inputs
unfolding values_of
length_values p = each p.tables
  where
    each : (ts : List (List Bool)) → length (flat_map (row p.inputs) ts) ≡ length ts * 2 ^ p.inputs
    each [] = sym (zero-mul (2 ^ p.inputs))
    each (t ∷ ts) =
        let r = each ts in
        grind (arith, length_row, length-append)

-- the class table of the empty set
pub holds_start : (p : TruthTables) (numbers masks : List ℕ) → p.inputs ≤ 16 → length p.tables ≤ 16 → 0 < length p.tables →
    numbers ≡ map (number_of (value_at p 0 0)) (values_of p) →
    ((c : ℕ) → get_or masks c 0 ≡ 0) → length masks ≡ class_count numbers → HoldsClasses (classes_of p 0) numbers masks
holds_start p numbers masks inputs outputs some e zeros l =
    let start = values_start p some in
    let head = values_are p ∙ start.1 in
    grind (arith, members_zero, pow_mono, length-map, length_values, start_numbers, start_masks)

-- one function more
pub rows_more : (num : Bool → ℕ) (n : ℕ) (ts : List (List Bool)) (j : ℕ) → j < length ts →
    map num (flat_map (row n) (take j ts)) ++ map num (row n (get_or ts j [])) ≡ map num (flat_map (row n) (take (j + 1) ts))
rows_more num n ts j h =
    sym (ap (λ us. map num (flat_map (row n) us)) (take_more ts j [] h)
    ∙ ap (map num)
    (flat_map-append (row n) (take j ts) (get_or ts j [] ∷ [])
    ∙ ap (λ us. flat_map (row n) (take j ts) ++ us) (one (row n (get_or ts j []))))
    ∙ map-append num (flat_map (row n) (take j ts)) (row n (get_or ts j [])))
  where
    one : (xs : List Bool) → xs ++ [] ≡ xs
    one [] = refl
    one (x ∷ xs) = ap (λ ys. x ∷ ys) (one xs)
