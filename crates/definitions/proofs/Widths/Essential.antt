-- Each essential variable needs a node under every order.
--     essential_width      over a set without it, an essential variable's width is not 0
--     essentials_step, essentials_all      the essential variables outside a set, with one more member, and with all
--     essentials_through      a list of variables above a set costs at least as many nodes as essential variables are left outside less
use Rattle.std.proofs.Common.{◌≡◌, ℕ, ◌+◌, ◌<◌, ◌≤◌, Bool, true, false, not, cond, ◌&&◌, ◌||◌, inl, inr, List, [], ◌∷◌, ◌++◌, map, length, set, refl, sym, ap, ◌∙◌, arith, nat_eq, eq-eqb, ne_eqb}
use Rattle.std.specs.List.{filter, list_any, IsDistinct}
use Rattle.std.proofs.lemmas.Bool.{false≢true, true≢false, cases_Bool, cases_eq, cases_lt, or_cases, or_left, or_right, and_parts}
use Rattle.std.proofs.lemmas.List.{length-set, get_or-set_other}
use Rattle.definitions.specs.Functions.{Point, Function, restrict, SameFunction, table, same_table, depends}
use Rattle.definitions.specs.Orders.{has, IsOrder, variables}
use Rattle.definitions.specs.Levels.{subfunctions, reach, dependents, size_under}
use Rattle.definitions.specs.Widths.{outside, width, cost, essential, essentials_outside}
use Rattle.definitions.proofs.Lists.Sets.{Among, among_filter, among_map, among_flat_map, count_mono}
use Rattle.definitions.proofs.Functions.Tables.{same_table_decides, depends_false, depends_no}
use Rattle.definitions.proofs.Lists.Orders.{has_filter, has_outside, has_variables, absent_from_apart}
use Rattle.definitions.proofs.Functions.Exchange.{size_is_cost, mix, mix_is, fixing_reached, below_from_has}
use Rattle.definitions.proofs.Widths.Recurrence.{distinct_filter, distinct_variables}

-- a function that depends on x is counted
dependents_some : (n : ℕ) (fs : List Function) (x : ℕ) (g : Function) → Among g fs → depends n g x ≡ true → 1 ≤ dependents n fs x
unfolding dependents
dependents_some n fs x g m e =
    count_mono same_table same_table_decides (table n g ∷ []) (map (table n) (filter (λ f. depends n f x) fs))
    (λ t k. elim k [
      | inl s ↦ grind (arith, among_map, among_filter)
      | inr r ↦ absurd r
    ])

-- fixing to p's own values changes p only where x may be set
fixed_self : (n : ℕ) (xs : List ℕ) (p : Point) (x : ℕ) (b : Bool) → length p ≡ n → has xs x ≡ false → mix n xs p (set p x b) ≡ set p x b
fixed_self n xs p x b l out = grind (arith, mix_is, length-set, get_or-set_other)

-- over a set without it, a variable on which some function depends has a width that is not 0
pub essential_width : (n : ℕ) (F : List Function) (T : List ℕ) (x : ℕ) (f : Function) → Among f F → depends n f x ≡ true → 1 ≤ width n F T x
unfolding width reach SameFunction restrict
essential_width n F T x f m e =
    elim (cases_lt (width n F T x) 1) [
      | inl lt ↦ absurd (true≢false (sym e ∙ depends_false n f x (agree (omega arith))))
      | inr le ↦ le
    ]
  where
    xs : List ℕ
    xs = outside n (x ∷ T)

    out : has (outside n (x ∷ T)) x ≡ false
    out = has_outside n (x ∷ T) x ∙ ap (λ c. has (variables n) x && not (c || has T x)) (eq-eqb x x refl) ∙ last (has (variables n) x)
      where
        last : (a : Bool) → (a && false) ≡ false
        last true = refl
        last false = refl

    none : width n F T x ≡ 0 → (g : Function) → Among g (reach F (outside n (x ∷ T))) → depends n g x ≡ false
    none z g k = elim (cases_Bool (depends n g x)) [
      | inl t ↦ let some = dependents_some n (reach F (outside n (x ∷ T))) x g k t in absurd (omega arith)
      | inr r ↦ r
    ]

    agree : width n F T x ≡ 0 → SameFunction n (restrict x false f) (restrict x true f)
    agree z p l =
        let fix = fixing_reached n (outside n (x ∷ T))
        (below_from_has n (outside n (x ∷ T))
        (λ y h. (has_variables n y).0 (and_parts _ _ (sym (has_outside n (x ∷ T) y) ∙ h)).0)) f p in
        let g = fix.0 in
        let is = none z g (among_flat_map (subfunctions (outside n (x ∷ T))) f F g m fix.1) in
        ap f (sym (fixed_self n (outside n (x ∷ T)) p x false l out)) ∙ sym (fix.2 (set p x false) (length-set p x false ∙ l)) ∙ depends_no n g x is p l
        ∙ fix.2 (set p x true) (length-set p x true ∙ l) ∙ ap f (fixed_self n (outside n (x ∷ T)) p x true l out)

some_depends : (n : ℕ) (F : List Function) (x : ℕ) → list_any (λ f. depends n f x) F ≡ true → (f : Function) × Among f F × (depends n f x ≡ true)
some_depends n [] x h = absurd (false≢true h)
some_depends n (f ∷ F) x h =
    elim (or_cases (depends n f x) (list_any (λ f. depends n f x) F) h) [
      | inl e ↦ (f, inl refl, e)
      | inr r ↦ let s = some_depends n F x r in (s.0, inr s.1, s.2)
    ]

-- an essential variable's width is not 0
pub width_some : (n : ℕ) (F : List Function) (T : List ℕ) (x : ℕ) → has (essential n F) x ≡ true → 1 ≤ width n F T x
unfolding essential
width_some n F T x h = grind (arith, has_filter, some_depends, essential_width)

pub distinct_essential : (n : ℕ) (F : List Function) → IsDistinct nat_eq (essential n F)
unfolding essential
distinct_essential n F = distinct_filter (λ y. list_any (λ f. depends n f y) F) (variables n) (distinct_variables n)

-- ---- the essential variables outside a set

abbrev pub left_out : List ℕ → List ℕ → ℕ
left_out S E = length (filter (λ y. not (has S y)) E)

abbrev pub one_if : Bool → ℕ
one_if b = cond b 1 0

left_out_cons : (S : List ℕ) (z : ℕ) (E : List ℕ) → left_out S (z ∷ E) ≡ one_if (not (has S z)) + left_out S E
left_out_cons S z E = grind arith

-- one more variable in the set leaves one less outside, where it is among them
left_out_step : (S : List ℕ) (x : ℕ) (E : List ℕ) → IsDistinct nat_eq E → has S x ≡ false → left_out S E ≡ left_out (x ∷ S) E + one_if (has E x)
unfolding IsDistinct
left_out_step S x [] d h = omega arith
left_out_step S x (z ∷ E) d h = by (left_out_step S x E d.1 h) (left_out_cons S z E) (left_out_cons (x ∷ S) z E)
  where
    by : left_out S E ≡ left_out (x ∷ S) E + one_if (has E x) → left_out S (z ∷ E) ≡ one_if (not (has S z)) + left_out S E →
        left_out (x ∷ S) (z ∷ E) ≡ one_if (not (nat_eq z x || has S z)) + left_out (x ∷ S) E →
        left_out S (z ∷ E) ≡ left_out (x ∷ S) (z ∷ E) + one_if (nat_eq x z || has E x)
    by rest a b =
        elim (cases_eq z x) [
          | inl s ↦
              let v : one_if (not (nat_eq z x || has S z)) ≡ 0 = ap (λ c. one_if (not (c || has S z))) (eq-eqb z x s) in
              omega (
                arith,
                ap (λ v. one_if (not (has S v))) s ∙ ap (λ c. one_if (not c)) h,
                ap (λ c. one_if (c || has E x)) (eq-eqb x z (sym s)),
                ap one_if (ap (has E) (sym s) ∙ absent_from_apart z E d.0),
              )
          | inr ne ↦
              omega (arith, ap (λ c. one_if (not (c || has S z))) (ne_eqb z x ne), ap (λ c. one_if (c || has E x)) (ne_eqb x z (λ s. ne (sym s))))
        ]

-- how many are outside depends on the set alone
pub essentials_same : (n : ℕ) (F : List Function) (S T : List ℕ) → ((y : ℕ) → has S y ≡ has T y) → essentials_outside n F S ≡ essentials_outside n F T
unfolding essentials_outside
essentials_same n F S T h = λ i. length (filter (λ y. not (h y i)) (essential n F))

-- one more member costs at least what it takes from the essential variables outside
pub essentials_step : (n : ℕ) (F : List Function) (T : List ℕ) (x : ℕ) → has T x ≡ false →
    essentials_outside n F T ≤ essentials_outside n F (x ∷ T) + width n F T x
unfolding essentials_outside
essentials_step n F T x h = grind (arith, left_out_step, distinct_essential, width_some)

-- with all variables none is outside
pub essentials_all : (n : ℕ) (F : List Function) (S : List ℕ) → ((y : ℕ) → y < n → has S y ≡ true) → essentials_outside n F S ≡ 0
unfolding essentials_outside essential
essentials_all n F S h = none (essential n F) (λ y k. h y (within y k))
  where
    within : (y : ℕ) → has (essential n F) y ≡ true → y < n
    within y k =
        (has_variables n y).0
        (and_parts (has (variables n) y) (list_any (λ f. depends n f y) F)
        (sym (has_filter (λ z. list_any (λ f. depends n f z) F) (variables n) y) ∙ k)).0

    none : (E : List ℕ) → ((y : ℕ) → has E y ≡ true → has S y ≡ true) → left_out S E ≡ 0
    none [] k = refl
    none (z ∷ E) k =
        omega (arith, left_out_cons S z E, ap (λ c. one_if (not c)) (k z (or_left _ _ (eq-eqb z z refl))), none E (λ y m. k y (or_right _ _ m)))

-- a list of variables above a set has at least as many nodes as it has essential variables
pub essentials_through : (n : ℕ) (F : List Function) (above below : List ℕ) → IsDistinct nat_eq (above ++ below) →
    cost n F below + essentials_outside n F below ≤ cost n F (above ++ below) + essentials_outside n F (above ++ below)
unfolding cost IsDistinct
essentials_through n F [] below d = omega arith
essentials_through n F (x ∷ above) below d =
    omega (arith, essentials_through n F above below d.1, essentials_step n F (above ++ below) x (absent_from_apart x (above ++ below) d.0))

-- an order has at least the cost of its bottom part and a node for each essential variable above
pub essentials_bound : (n : ℕ) (F : List Function) (above below : List ℕ) → IsOrder n (above ++ below) →
    cost n F below + essentials_outside n F below ≤ size_under n F (above ++ below)
essentials_bound n F above below o = grind (arith, essentials_through, essentials_all, size_is_cost)
