-- One variable at each place among the others.
--     crossed_up, crossed_down      a swap moves it by one place
--     here, above_here, below_here      what stands at its place and next to it
--     not_above, not_below      a variable that must stay above or below isn't passed
use Rattle.std.proofs.Common.{◌≡◌, ◌≢◌, ℕ, zero, suc, ◌<◌, ◌≤◌, Bool, true, false, cond, ◌||◌, ◌&&◌, inl, inr, List, [], ◌∷◌, length, get_or, refl, sym, ap, ap₂, ◌∙◌, arith, nat_eq, eqb-true, eq-eqb, ne_eqb}
use Rattle.std.specs.List.{insert, IsDistinct, list_all}
use Rattle.std.proofs.lemmas.Bool.{false≢true, true≢false, or_cases, or_parts, and_parts}
use Rattle.definitions.specs.Orders.{has}
use Rattle.definitions.specs.Pairs.{Pair, has_pair, is_above, keeps}
use Rattle.definitions.proofs.Lists.Orders.{absent_from_apart, has_at}
use Rattle.definitions.proofs.Lists.Swaps.{crossed}

crossed_cons : (x : ℕ) (zs : List ℕ) (i : ℕ) → crossed (x ∷ zs) (suc i) ≡ x ∷ crossed zs i
crossed_cons x [] i = refl
crossed_cons x (y ∷ zs) i = refl

pub crossed_up : (others : List ℕ) (x i : ℕ) → i < length others → crossed (insert others (suc i) x) i ≡ insert others i x
crossed_up [] x i h = absurd (omega arith)
crossed_up (y ∷ others) x zero h = refl
crossed_up (y ∷ others) x (suc i) h = crossed_cons y (insert others (suc i) x) i ∙ ap (λ zs. y ∷ zs) (crossed_up others x i (omega arith))

pub crossed_down : (others : List ℕ) (x i : ℕ) → i < length others → crossed (insert others i x) i ≡ insert others (suc i) x
crossed_down [] x i h = absurd (omega arith)
crossed_down (y ∷ others) x zero h = refl
crossed_down (y ∷ others) x (suc i) h = crossed_cons y (insert others i x) i ∙ ap (λ zs. y ∷ zs) (crossed_down others x i (omega arith))

pub length-placed : (others : List ℕ) (x i : ℕ) → length (insert others i x) ≡ suc (length others)
length-placed [] x zero = refl
length-placed [] x (suc i) = refl
length-placed (y ∷ others) x zero = refl
length-placed (y ∷ others) x (suc i) = ap suc (length-placed others x i)

pub here : (others : List ℕ) (x i : ℕ) → i ≤ length others → get_or (insert others i x) i 0 ≡ x
here others x zero h = refl
here [] x (suc i) h = absurd (omega arith)
here (y ∷ others) x (suc i) h = here others x i (omega arith)

pub above_here : (others : List ℕ) (x i : ℕ) → i < length others → get_or (insert others (suc i) x) i 0 ≡ get_or others i 0
above_here [] x i h = absurd (omega arith)
above_here (y ∷ others) x zero h = refl
above_here (y ∷ others) x (suc i) h = above_here others x i (omega arith)

pub below_here : (others : List ℕ) (x i : ℕ) → i < length others → get_or (insert others i x) (suc i) 0 ≡ get_or others i 0
below_here [] x i h = absurd (omega arith)
below_here (y ∷ others) x zero h = refl
below_here (y ∷ others) x (suc i) h = below_here others x i (omega arith)

turn : (a b c : Bool) → (a || (b || c)) ≡ (b || (a || c))
turn true true c = refl
turn true false c = refl
turn false b c = refl

pub has_placed : (others : List ℕ) (x i y : ℕ) → has (insert others i x) y ≡ (nat_eq y x || has others y)
has_placed [] x zero y = refl
has_placed [] x (suc i) y = refl
has_placed (z ∷ others) x zero y = refl
has_placed (z ∷ others) x (suc i) y = ap (λ b. nat_eq y z || b) (has_placed others x i y) ∙ turn (nat_eq y z) (nat_eq y x) (has others y)

-- ---- pairs

-- what isn't in a list has nothing below it, and nothing has it below
none_above : (a b : ℕ) (zs : List ℕ) → has zs b ≡ false → is_above a b zs ≡ false
unfolding is_above
none_above a b [] h = refl
none_above a b (z ∷ zs) h = grind (arith, or_parts, none_above a b zs (or_parts (nat_eq b z) (has zs b) h).1)

-- y stands at place j among the others, at or after the place of x: then y isn't above x
pub not_above : (y x : ℕ) (others : List ℕ) (i j : ℕ) → i ≤ j → j < length others → get_or others j 0 ≡ y → IsDistinct nat_eq others →
    has others x ≡ false → is_above y x (insert others i x) ≡ false
unfolding is_above IsDistinct
not_above y x [] i j le lt e d h = absurd (omega arith)
not_above y x (z ∷ others) zero j le lt e d h = grind (arith, none_above)
not_above y x (z ∷ others) (suc i) zero le lt e d h = absurd (omega arith)
not_above y x (z ∷ others) (suc i) (suc j) le lt e d h =
    let there = ap (has others) (sym e) ∙ has_at others j (omega arith) in
    let ne : y ≢ z = λ s. true≢false (sym there ∙ ap (has others) s ∙ absent_from_apart z others d.0) in
    ap (λ c. cond c (has (insert others i x) x) (is_above y x (insert others i x))) (ne_eqb y z ne)
    ∙ not_above y x others i j (omega arith) (omega arith) e d.1 (or_parts (nat_eq x z) (has others x) h).1

-- z stands at place j among the others, before the place of x: then x isn't above z
pub not_below : (x y : ℕ) (others : List ℕ) (i j : ℕ) → j < i → i ≤ length others → get_or others j 0 ≡ y → IsDistinct nat_eq others →
    has others x ≡ false → is_above x y (insert others i x) ≡ false
unfolding is_above IsDistinct
not_below x y [] i j lt le e d h = absurd (omega arith)
not_below x y (z ∷ others) zero j lt le e d h = absurd (omega arith)
not_below x y (z ∷ others) (suc i) zero lt le e d h =
    let parts = or_parts (nat_eq x z) (has others x) h in
    ap (λ c. cond c (has (insert others i x) y) (is_above x y (insert others i x))) parts.0 ∙ none_above x y (insert others i x) (absent i)
  where
    parts : (nat_eq x z ≡ false) × (has others x ≡ false)
    parts = or_parts (nat_eq x z) (has others x) h

    out : has others y ≡ false
    out = ap (has others) (sym e) ∙ absent_from_apart z others d.0

    other : nat_eq y x ≡ false
    other = ne_eqb y x (λ s. true≢false (sym (eq-eqb x z (sym s ∙ sym e)) ∙ parts.0))

    absent : (k : ℕ) → has (insert others k x) y ≡ false
    absent k = has_placed others x k y ∙ by (nat_eq y x) other out
      where
        by : (c : Bool) → c ≡ false → has others y ≡ false → (c || has others y) ≡ false
        by true f g = f
        by false f g = g
not_below x y (z ∷ others) (suc i) (suc j) lt le e d h =
    let parts = or_parts (nat_eq x z) (has others x) h in
    ap (λ c. cond c (has (insert others i x) y) (is_above x y (insert others i x))) parts.0 ∙ not_below x y others i j (omega arith) (omega arith) e d.1 parts.1

pub breaks : (P : List Pair) (a b : ℕ) (order : List ℕ) → has_pair P a b ≡ true → is_above a b order ≡ false → keeps P order ≡ false
unfolding keeps
breaks [] a b order h k = absurd (false≢true h)
breaks (p ∷ P) a b order h k =
    elim (or_cases (nat_eq a p.0 && nat_eq b p.1) (has_pair P a b) h) [
      | inl e ↦
          let parts = and_parts (nat_eq a p.0) (nat_eq b p.1) e in
          let same : is_above p.0 p.1 order ≡ false = ap₂ (λ v w. is_above v w order) (sym (eqb-true a p.0 parts.0)) (sym (eqb-true b p.1 parts.1)) ∙ k in
          ap (λ c. c && list_all (λ (q : Pair). is_above q.0 q.1 order) P) same
      | inr r ↦ by (is_above p.0 p.1 order) (breaks P a b order r k)
    ]
  where
    by : (c : Bool) → list_all (λ (q : Pair). is_above q.0 q.1 order) P ≡ false → (c && list_all (λ (q : Pair). is_above q.0 q.1 order) P) ≡ false
    by true e = e
    by false e = refl
