-- Class numbers of the leaves: the values at the points of all assignments of an order.
--     subfunctions_fixed      the subfunctions by an order's variables fix them to the points' bits
--     order_small      an order's variables are below 16
--     assignments_small      the points' numbers are below 2 ^ n
--     leaves_are      each value is that of its function with all variables fixed
--     leaves_tell      the values tell the functions with all variables fixed apart
use Rattle.std.proofs.Common.{◌≡◌, ◌≢◌, ℕ, zero, suc, ◌+◌, ◌-◌, ◌^◌, ◌<◌, ◌≤◌, Bool, true, false, cond, ◌||◌, nat_eq, List, [], ◌∷◌, ◌++◌, length, map, take, drop, drop-cons, get_or, set, replicate, refl, sym, ap, ap₂, ◌∙◌, arith, subst, inl, inr, eqb, eq-eqb, ne_eqb, bit_or}
use Rattle.std.specs.Int.{bit_at}
use Rattle.std.specs.List.{All, flat_map, AllZip, AllByRecursion, IsDistinct}
use Rattle.std.proofs.lemmas.Bool.{cases_eq, false≢true, true≢false}
use Rattle.std.proofs.lemmas.List.{length-append, map-append, take_all, take_more, length-set, length-replicate, get_or-set_same, get_or-set_other, append-nil}
use Rattle.std.proofs.lemmas.List.Concat.{flat_map-append}
use Rattle.std.proofs.lemmas.List.Elements.{All-cons, All-from_recursion, All-head, All-nil, All-tail}
use Rattle.std.proofs.lemmas.Nat.{or_lt, pow_below, pow_pos}
use Rattle.std.proofs.lemmas.Nat.Bits.{bit_at-lt, bit_at-zero, bit_at_or, bit_at-pow_same, bit_at-pow_other, same_from_bits_below}
use Rattle.definitions.specs.Functions.{Point, Function, bit, weight, number, from_table, restrict, SameFunction}
use Rattle.definitions.specs.Levels.{subfunctions, reach}
use Rattle.definitions.specs.Orders.{has, IsOrder}
use Rattle.definitions.specs.Problems.{packed_bit, table_in}
use Rattle.definitions.proofs.Functions.Exchange.{below_from_has}
use Rattle.definitions.proofs.Bits.Tables.{table_value}
use Rattle.definitions.proofs.Bits.PointNumbers.{number-small, bit-number, weight_bit}
use Rattle.definitions.proofs.Functions.Tables.{table_same, same_from_table}
use Rattle.truth_table.specs.Assignments.{assignments, value_number, values_at}
use Rattle.truth_table.specs.Restrictions.{fixed}
use Rattle.truth_table.proofs.LevelSteps.{Tells, function_at}

-- what holds of each element
abbrev pub Each : {X : Type 0} → (X → Type 0) → List X → Type 0
Each P [] = Unit {0}
Each P (x ∷ xs) = P x × Each P xs

each_append : {X : Type 0} (P : X → Type 0) (xs ys : List X) → Each P xs → Each P ys → Each P (xs ++ ys)
each_append P [] ys h k = k
each_append P (x ∷ xs) ys h k = (h.0, each_append P xs ys h.1 k)

each_map : {X Y : Type 0} (P : X → Type 0) (Q : Y → Type 0) (f : X → Y) → ((x : X) → P x → Q (f x)) → (xs : List X) → Each P xs → Each Q (map f xs)
each_map P Q f step [] h = tt
each_map P Q f step (x ∷ xs) h = (step x h.0, each_map P Q f step xs h.1)

map_each : {X Y : Type 0} (P : X → Type 0) (f g : X → Y) → ((x : X) → P x → f x ≡ g x) → (xs : List X) → Each P xs → map f xs ≡ map g xs
map_each P f g step [] h = refl
map_each P f g step (x ∷ xs) h = let here = step x h.0 in let rest = map_each P f g step xs h.1 in λ i. here i ∷ rest i

-- each variable is another one than those behind it, and below n
abbrev pub AreDistinct : ℕ → List ℕ → Type 0
AreDistinct n [] = Unit {0}
AreDistinct n (x ∷ xs) = (x < n) × Each (λ y. y ≢ x) xs × AreDistinct n xs

apart_from : (x : ℕ) (xs : List ℕ) → AllByRecursion (λ y. nat_eq x y ≡ false) xs → Each (λ y. y ≢ x) xs
apart_from x [] h = tt
apart_from x (y ∷ ys) h = (λ e. true≢false (sym (eq-eqb x y (sym e)) ∙ h.0), apart_from x ys h.1)

are_distinct : (n : ℕ) (xs : List ℕ) → AllByRecursion (λ x. x < n) xs → IsDistinct nat_eq xs → AreDistinct n xs
unfolding IsDistinct
are_distinct n [] b d = tt
are_distinct n (x ∷ xs) b d = (b.0, apart_from x xs d.0, are_distinct n xs b.1 d.1)

pub order_distinct : (n : ℕ) (order : List ℕ) → IsOrder n order → AreDistinct n order
order_distinct n order o = are_distinct n order (below_from_has n order (λ y h. (o.all y).0 h)) o.once

-- ---- the points of the assignments

-- the numbers have no bit of a variable that isn't assigned
assignments_clear : (x : ℕ) (xs : List ℕ) → Each (λ y. y ≢ x) xs → Each (λ k. bit_at k x ≡ 0) (assignments xs)
unfolding assignments
assignments_clear x [] h = (bit_at-zero x, tt)
assignments_clear x (y ∷ ys) h =
    let rest = assignments_clear x ys h.1 in
    each_append (λ k. bit_at k x ≡ 0) (assignments ys) (map (λ k. bit_or k (2 ^ y)) (assignments ys)) rest
    (each_map (λ k. bit_at k x ≡ 0) (λ k. bit_at k x ≡ 0) (λ k. bit_or k (2 ^ y)) (λ k e.
    bit_at_or k (2 ^ y) x ∙ omega (arith, bit_at-pow_other y x (λ s. h.0 (sym s)))) (assignments ys) rest)

pub assignments_small : (n : ℕ) (xs : List ℕ) → AreDistinct n xs → Each (λ k. k < 2 ^ n) (assignments xs)
unfolding assignments
assignments_small n [] h = (pow_pos n, tt)
assignments_small n (x ∷ xs) h = search (each_append, each_map, or_lt, pow_below, assignments_small n xs h.2)

-- a bit that is fixed last doesn't change what the others are fixed to
fixed_apart : (x k : ℕ) (xs : List ℕ) → Each (λ y. y ≢ x) xs → (f : Function) → fixed xs (bit_or k (2 ^ x)) f ≡ fixed xs k f
unfolding fixed
fixed_apart x k [] h f = refl
fixed_apart x k (y ∷ ys) h f = grind (arith, bit_at_or, bit_at-pow_other, fixed_apart x k ys h.1 (restrict y (eqb (bit_at k y) 1) f))

-- the subfunctions fix the variables to the bits of the points
pub subfunctions_fixed : (n : ℕ) (xs : List ℕ) → AreDistinct n xs → (f : Function) → subfunctions xs f ≡ map (λ k. fixed xs k f) (assignments xs)
unfolding subfunctions assignments fixed
subfunctions_fixed n [] h f = refl
subfunctions_fixed n (x ∷ xs) h f =
    ap₂ (λ us vs. us ++ vs) (subfunctions_fixed n xs h.2 (restrict x false f) ∙ lower) (subfunctions_fixed n xs h.2 (restrict x true f) ∙ upper)
    ∙ sym (map-append step (assignments xs) (map (λ k. bit_or k (2 ^ x)) (assignments xs)))
  where
    step : ℕ → Function
    step k = fixed xs k (restrict x (eqb (bit_at k x) 1) f)

    clear : Each (λ k. bit_at k x ≡ 0) (assignments xs)
    clear = assignments_clear x xs h.1

    lower : map (λ k. fixed xs k (restrict x false f)) (assignments xs) ≡ map (λ k. fixed xs k (restrict x (eqb (bit_at k x) 1) f)) (assignments xs)
    lower = map_each (λ k. bit_at k x ≡ 0) (λ k. fixed xs k (restrict x false f)) (λ k. fixed xs k (restrict x (eqb (bit_at k x) 1) f))
        (λ k e. sym (ap (λ z. fixed xs k (restrict x (eqb z 1) f)) e)) (assignments xs) clear

    upper : map (λ k. fixed xs k (restrict x true f)) (assignments xs) ≡ map (λ k. fixed xs k (restrict x (eqb (bit_at k x) 1) f))
        (map (λ k. bit_or k (2 ^ x)) (assignments xs))
    upper = map_each (λ k. bit_at k x ≡ 0) (λ k. fixed xs k (restrict x true f))
        (λ k. fixed xs (bit_or k (2 ^ x)) (restrict x (eqb (bit_at (bit_or k (2 ^ x)) x) 1) f))
        (λ k e.
        let one : bit_at (bit_or k (2 ^ x)) x ≡ 1 = bit_at_or k (2 ^ x) x ∙ omega (arith, bit_at-pow_same x) in
        grind (arith, fixed_apart)) (assignments xs) clear
        ∙ sym (twice (assignments xs))
      where
        twice : (ks : List ℕ) →
            map (λ k. fixed xs k (restrict x (eqb (bit_at k x) 1) f)) (map (λ k. bit_or k (2 ^ x)) ks) ≡ map
            (λ k. fixed xs (bit_or k (2 ^ x)) (restrict x (eqb (bit_at (bit_or k (2 ^ x)) x) 1) f)) ks
        twice [] = refl
        twice (k ∷ ks) = ap (λ us. fixed xs (bit_or k (2 ^ x)) (restrict x (eqb (bit_at (bit_or k (2 ^ x)) x) 1) f) ∷ us) (twice ks)

-- ---- all variables fixed

-- a point with variables set to a number's bits
abbrev laid : List ℕ → ℕ → Point → Point
laid [] k p = p
laid (x ∷ xs) k p = set (laid xs k p) x (eqb (bit_at k x) 1)

fixed_laid : (xs : List ℕ) (k : ℕ) (f : Function) (p : Point) → fixed xs k f p ≡ f (laid xs k p)
unfolding fixed restrict
fixed_laid [] k f p = refl
fixed_laid (x ∷ xs) k f p = fixed_laid xs k (restrict x (eqb (bit_at k x) 1) f) p

length-laid : (xs : List ℕ) (k : ℕ) (p : Point) → length (laid xs k p) ≡ length p
length-laid [] k p = refl
length-laid (x ∷ xs) k p = length-set (laid xs k p) x (eqb (bit_at k x) 1) ∙ length-laid xs k p

bit-laid : (xs : List ℕ) (k : ℕ) (p : Point) (y : ℕ) → y < length p → has xs y ≡ true → bit (laid xs k p) y ≡ eqb (bit_at k y) 1
bit-laid [] k p y l h = absurd (false≢true h)
bit-laid (x ∷ xs) k p y l h = elim (cases_eq y x) [
  | inl e ↦
      grind (arith, get_or-set_same, length-laid)
  | inr ne ↦ get_or-set_other (laid xs k p) x y (eqb (bit_at k x) 1) false ne ∙ bit-laid xs k p y l (sym (ap (λ b. b || has xs y) (ne_eqb y x ne)) ∙ h)
]
  where
    get_at : Point → ℕ → Bool
    get_at q z = get_or q z false

-- with all variables set the point is that of the number
number-laid : (n : ℕ) (xs : List ℕ) → ((y : ℕ) → y < n → has xs y ≡ true) → (k : ℕ) → k < 2 ^ n → (p : Point) → length p ≡ n → number (laid xs k p) ≡ k
number-laid n xs all k small p l =
    let long = length-laid xs k p ∙ l in
    same_from_bits_below n (number (laid xs k p)) k (subst (λ (z : ℕ). number (laid xs k p) < 2 ^ z) long (number-small (laid xs k p))) small
    (λ y h. bit-number (laid xs k p) y (omega arith) ∙ ap weight (bit-laid xs k p y (omega arith) (all y h)) ∙ weight_bit (bit_at k y) (bit_at-lt k y))

fixed_constant : (n : ℕ) (xs : List ℕ) → ((y : ℕ) → y < n → has xs y ≡ true) → (k : ℕ) → k < 2 ^ n → (t : List Bool) →
    SameFunction n (fixed xs k (from_table t)) (λ p. get_or t k false)
unfolding SameFunction from_table
fixed_constant n xs all k small t p l = fixed_laid xs k (from_table t) p ∙ ap (λ z. get_or t z false) (number-laid n xs all k small p l)

-- ---- the leaves

-- the class of a constant function is its value
abbrev pub IsLeaf : ℕ → Function → ℕ → Type 0
IsLeaf n g c = SameFunction n g (λ p. eqb c 1) × (c < 2)

value_leaf : (n : ℕ) (g : Function) (b : Bool) → SameFunction n g (λ p. b) → IsLeaf n g (cond b 1 0)
value_leaf n g true h = (h, omega arith)
value_leaf n g false h = (h, omega arith)

zip_append : (R : Function → ℕ → Type 0) (fs gs : List Function) (cs ds : List ℕ) → AllZip R fs cs → AllZip R gs ds → AllZip R (fs ++ gs) (cs ++ ds)
zip_append R [] gs [] ds h k = k
zip_append R [] gs (c ∷ cs) ds h k = absurd h
zip_append R (f ∷ fs) gs [] ds h k = absurd h
zip_append R (f ∷ fs) gs (c ∷ cs) ds h k = (h.0, zip_append R fs gs cs ds h.1 k)

module _ (n : ℕ) (order : List ℕ) (distinct : AreDistinct n order) (all : (y : ℕ) → y < n → has order y ≡ true) where
  table_leaves : (t : List Bool) (ks : List ℕ) → Each (λ k. k < 2 ^ n) ks →
      AllZip (IsLeaf n) (map (λ k. fixed order k (from_table t)) ks) (map (value_number t) ks)
  table_leaves t [] h = tt
  table_leaves t (k ∷ ks) h = (value_leaf n (fixed order k (from_table t)) (get_or t k false) (fixed_constant n order all k h.0 t), table_leaves t ks h.1)

  leaves : (tables : List (List Bool)) → AllZip (IsLeaf n) (reach (map from_table tables) order) (values_at (assignments order) tables)
  unfolding reach values_at
  leaves [] = tt
  leaves (t ∷ ts) =
      zip_append (IsLeaf n) (subfunctions order (from_table t)) (reach (map from_table ts) order) (map (value_number t) (assignments order))
      (values_at (assignments order) ts)
      (subst (λ (fs : List Function). AllZip (IsLeaf n) fs (map (value_number t) (assignments order)))
      (sym (subfunctions_fixed n order distinct (from_table t)))
      (table_leaves t (assignments order) (assignments_small n order distinct)))
      (leaves ts)

zip_long : (R : Function → ℕ → Type 0) (fs : List Function) (cs : List ℕ) → AllZip R fs cs → length cs ≡ length fs
zip_long R [] [] h = refl
zip_long R [] (c ∷ cs) h = absurd h
zip_long R (f ∷ fs) [] h = absurd h
zip_long R (f ∷ fs) (c ∷ cs) h = ap suc (zip_long R fs cs h.1)

zip_at : (R : Function → ℕ → Type 0) (fs : List Function) (cs : List ℕ) → AllZip R fs cs → (j : ℕ) → j < length fs → R (function_at fs j) (get_or cs j 0)
zip_at R [] cs h j l = absurd (omega arith)
zip_at R (f ∷ fs) [] h j l = absurd h
zip_at R (f ∷ fs) (c ∷ cs) h zero l = h.0
zip_at R (f ∷ fs) (c ∷ cs) h (suc j) l = zip_at R fs cs h.1 j (omega arith)

-- leaves are told apart by their values
leaves_apart : (n : ℕ) (fs : List Function) (cs : List ℕ) → AllZip (IsLeaf n) fs cs → Tells n fs cs
unfolding SameFunction
leaves_apart n fs cs h = record {
  long = zip_long (IsLeaf n) fs cs h;
  apart = λ j k a b.
      let f = zip_at (IsLeaf n) fs cs h j a in
      let g = zip_at (IsLeaf n) fs cs h k b in
      let p : Point = replicate n false in
      let l = length-replicate n false in grind (arith, table_same, same_from_table);
}

-- each value is that of its function with all variables fixed
pub leaves_are : (n : ℕ) (order : List ℕ) → IsOrder n order → (tables : List (List Bool)) →
    AllZip (IsLeaf n) (reach (map from_table tables) order) (values_at (assignments order) tables)
leaves_are n order o tables = leaves n order (order_distinct n order o) (λ y h. (o.all y).1 h) tables

pub leaves_tell : (n : ℕ) (order : List ℕ) → IsOrder n order → (tables : List (List Bool)) →
    Tells n (reach (map from_table tables) order) (values_at (assignments order) tables)
leaves_tell n order o tables = search (leaves_apart, leaves_are)

-- ---- the program's lists

pub upper_inside : (old now : List ℕ) (x i : ℕ) → i < length old → now ≡ old ++ map (λ k. bit_or k (2 ^ x)) (take i old) → i < length now
upper_inside old now x i h e = omega (arith, ap length e ∙ length-append old (map (λ k. bit_or k (2 ^ x)) (take i old)))

-- one more variable, from the bottom up
pub assignments_more : (xs : List ℕ) (i : ℕ) → 0 < i → i ≤ length xs →
    assignments (drop i xs) ++ map (λ k. bit_or k (2 ^ get_or xs (i - 1) 0)) (assignments (drop i xs)) ≡ assignments (drop (i - 1) xs)
unfolding assignments
assignments_more xs zero h l = absurd (omega arith)
assignments_more xs (suc i) h l =
    let e : suc i - 1 ≡ i = omega arith in
    ap (λ z. assignments (drop (suc i) xs) ++ map (λ k. bit_or k (2 ^ get_or xs z 0)) (assignments (drop (suc i) xs))) e
    ∙ sym (ap (λ z. assignments (drop z xs)) e ∙ ap assignments (drop-cons xs i 0 (omega arith)))

-- one more table
pub values_more : (ks : List ℕ) (tables : List (List Bool)) (j : ℕ) → j < length tables →
    values_at ks (take (j + 1) tables) ≡ values_at ks (take j tables) ++ map (value_number (get_or tables j [])) ks
unfolding values_at
values_more ks tables j h =
    ap (flat_map (λ t. map (value_number t) ks)) (take_more tables j [] h)
    ∙ flat_map-append (λ t. map (value_number t) ks) (take j tables) (get_or tables j [] ∷ [])
    ∙ ap (λ us. flat_map (λ t. map (value_number t) ks) (take j tables) ++ us) (append-nil (map (value_number (get_or tables j [])) ks))

pub values_packed : (n : ℕ) (words : List ℕ) (t : List Bool) (ks : List ℕ) → table_in n words ≡ t → All (λ k. k < 2 ^ n) ks →
    map (λ k. cond (packed_bit words k) 1 0) ks ≡ map (value_number t) ks
values_packed n words t [] e h = refl
values_packed n words t (k ∷ ks) e h =
    let rest = values_packed n words t ks e (All-tail (λ k. k < 2 ^ n) k ks h) in
    λ i. cond ((sym (table_value n words k (All-head (λ k. k < 2 ^ n) k ks h)) ∙ ap (λ u. get_or u k false) e) i) 1 0 ∷ rest i

pub order_small : (n : ℕ) (order : List ℕ) → n ≤ 16 → IsOrder n order → All (λ x. x < 16) order
order_small n order few o k d h =
    let below = All-from_recursion (λ x. x < n) order (below_from_has n order (λ y m. (o.all y).0 m)) k d h in
    omega arith

pub assignments_below : (n : ℕ) (order : List ℕ) → IsOrder n order → All (λ k. k < 2 ^ n) (assignments order)
assignments_below n order o = each_all (assignments order) (assignments_small n order (order_distinct n order o))
  where
    each_all : (ks : List ℕ) → Each (λ k. k < 2 ^ n) ks → All (λ k. k < 2 ^ n) ks
    each_all [] h = All-nil (λ k. k < 2 ^ n)
    each_all (k ∷ ks) h = All-cons (λ k. k < 2 ^ n) k ks h.0 (each_all ks h.1)

-- the program's first classes
pub start_tells : (n : ℕ) (order : List ℕ) (tables : List (List Bool)) (k : ℕ) (ks cs : List ℕ) → IsOrder n order → length order ≤ k →
    ks ≡ assignments order → cs ≡ values_at ks tables →
    Tells n (reach (map from_table tables) (take k order)) cs
start_tells n order tables k ks cs o l e v =
    subst (λ (xs : List ℕ). Tells n (reach (map from_table tables) xs) cs) (sym (take_all k order l))
    (subst (Tells n (reach (map from_table tables) order)) (sym (v ∙ ap (λ us. values_at us tables) e)) (leaves_tell n order o tables))
