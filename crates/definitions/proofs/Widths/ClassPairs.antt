-- Class numbers tell entries apart, and a width is the number of distinct pairs of unequal classes.
use Rattle.std.proofs.Common.{◌≡◌, ◌≢◌, ℕ, suc, ◌<◌, Bool, true, false, not, cond, ◌||◌, ◌⊎◌, inl, inr, List, [], ◌∷◌, ◌++◌, map, length, reverse, refl, sym, ap, ◌∙◌, subst, arith, nat_eq}
use Rattle.std.specs.List.{filter, take_while}
use Rattle.std.specs.Set.{is_member, unique_keys, distinct_count}
use Rattle.std.proofs.lemmas.Bool.{false≢true, true≢false, cases_Bool, and_parts, false_from_ne_true}
use Rattle.std.proofs.lemmas.List.Sums.{take_while-cons}
use Rattle.std.proofs.lemmas.List.{reverse-append}
use Rattle.definitions.specs.Functions.{Point, Function, bit, restrict, SameFunction, table, same_table, depends}
use Rattle.definitions.specs.Orders.{has, variables}
use Rattle.definitions.specs.Levels.{reach, dependents}
use Rattle.definitions.specs.Widths.{outside, width, entries, class_of, same_pair, class_pair, unequal_pairs}
use Rattle.definitions.proofs.Functions.Tables.{restrict_same, table_same, same_from_table, same_table_decides}
use Rattle.definitions.proofs.Functions.Exchange.{reach_same, below_from_has}
use Rattle.definitions.proofs.Nodes.Construction.{reach_more, own_restriction}
use Rattle.definitions.proofs.Lists.Sets.{Among, Within, among_from_filter, among_map, among_from_map, count_mono, among_from_member, member_from_among}
use Rattle.definitions.proofs.Lists.Orders.{same_bool, has_append, has_outside, has_variables}

module _ {K : Type 0} (eq : K → K → Bool) (decides : (x y : K) → (eq x y ≡ true → x ≡ y) × (x ≡ y → eq x y ≡ true)) where
  differs : (x y : K) → x ≢ y → eq x y ≡ false
  differs x y ne = false_from_ne_true (eq x y) (λ e. ne ((decides x y).0 e))

  -- the elements before the first one equal to t
  unfoldable pub before : List K → K → List K
  before ts t = take_while (λ u. not (eq t u)) ts

  pub before_here : (w : K) (ts : List K) (t : K) → eq t w ≡ true → before (w ∷ ts) t ≡ []
  unfolding before
  before_here w ts t e = take_while-cons (λ u. not (eq t u)) w ts ∙ ap (λ b. cond (not b) (w ∷ take_while (λ u. not (eq t u)) ts) []) e

  pub before_next : (w : K) (ts : List K) (t : K) → eq t w ≡ false → before (w ∷ ts) t ≡ w ∷ before ts t
  unfolding before
  before_next w ts t e = take_while-cons (λ u. not (eq t u)) w ts ∙ ap (λ b. cond (not b) (w ∷ take_while (λ u. not (eq t u)) ts) []) e

  pub not_among_before : (ts : List K) (t : K) → Among t (before ts t) → ⊥
  unfolding before
  not_among_before [] t h = h
  not_among_before (w ∷ ts) t h =
      elim (cases_Bool (eq t w)) [
        | inl e ↦ subst (Among t) (before_here w ts t e) h
        | inr e ↦
            let k : Among t (w ∷ before ts t) = subst (Among t) (before_next w ts t e) h in
            elim k [ inl s ↦ true≢false (sym ((decides t w).1 s) ∙ e) | inr a ↦ not_among_before ts t a ]
      ]

  among_rest : (w : K) (ts : List K) (t : K) → eq t w ≡ false → Among t (w ∷ ts) → Among t ts
  among_rest w ts t e h = elim h [ inl s ↦ absurd (true≢false (sym ((decides t w).1 s) ∙ e)) | inr a ↦ a ]

  Comes : List K → K → K → Type 0
  Comes ts t u = Within (t ∷ before ts t) (before ts u)

  comes_here : (w : K) (ts : List K) (t u : K) → eq t w ≡ true → eq u w ≡ false → Comes (w ∷ ts) t u
  unfolding Comes
  comes_here w ts t u e f x h = grind (arith, before_next, before_here)

  comes_next : (w : K) (ts : List K) (t u : K) → eq t w ≡ false → eq u w ≡ false → Comes ts t u → Comes (w ∷ ts) t u
  unfolding Comes
  comes_next w ts t u e f c x h =
      subst (Among x) (sym (before_next w ts u f))
      (elim h [
        | inl s ↦ inr (c x (inl s))
        | inr a ↦
            elim (subst (Among x) (before_next w ts t e) a) [ inl s ↦ inl s | inr b ↦ inr (c x (inr b)) ]
      ])

  -- of two different elements, the one that comes first is before the other, with all that is before it
  first_of_two : (ts : List K) (t u : K) → t ≢ u → Among t ts → Among u ts → Comes ts t u ⊎ Comes ts u t
  first_of_two [] t u ne h k = absurd h
  first_of_two (w ∷ ts) t u ne h k =
      elim (cases_Bool (eq t w)) [
        | inl e ↦ inl (comes_here w ts t u e (differs u w (λ s. ne ((decides t w).0 e ∙ sym s))))
        | inr e ↦
            elim (cases_Bool (eq u w)) [
              | inl f ↦ inr (comes_here w ts u t f e)
              | inr f ↦ grind (arith, comes_next, first_of_two ts t u ne (among_rest w ts t e h) (among_rest w ts u f k))
            ]
      ]

  -- the one that comes first has fewer distinct elements before it
  fewer_before : (ts : List K) (t u : K) → Comes ts t u → distinct_count eq (before ts t) < distinct_count eq (before ts u)
  unfolding Comes
  fewer_before ts t u c =
      let new : is_member eq (before ts t) t ≡ false = false_from_ne_true _ (λ m. not_among_before ts t (among_from_member eq decides (before ts t) t m)) in
      omega (
        arith,
        count_mono eq decides (t ∷ before ts t) (before ts u) c,
        ap (λ b. length (cond b (unique_keys eq (before ts t)) (t ∷ unique_keys eq (before ts t)))) new,
      )

  -- the number of distinct elements before the first equal one tells elements apart
  pub rank_apart : (ts : List K) (t u : K) → Among t ts → Among u ts →
      distinct_count eq (take_while (λ v. not (eq t v)) ts) ≡ distinct_count eq (take_while (λ v. not (eq u v)) ts) → t ≡ u
  unfolding before
  rank_apart ts t u h k e =
      elim (cases_Bool (eq t u)) [
        | inl s ↦ (decides t u).0 s
        | inr d ↦ absurd (by (first_of_two ts t u (λ s. true≢false (sym ((decides t u).1 s) ∙ d)) h k))
      ]
    where
      by : Comes ts t u ⊎ Comes ts u t → ⊥
      by (inl c) = omega (arith, fewer_before ts t u c)
      by (inr c) = omega (arith, fewer_before ts u t c)

-- two ways to name elements that tell the same ones apart give as many names
pub count_alike : {X A B : Type 0} (E : A → A → Bool) (dE : (x y : A) → (E x y ≡ true → x ≡ y) × (x ≡ y → E x y ≡ true)) (G : B → B → Bool)
    (dG : (x y : B) → (G x y ≡ true → x ≡ y) × (x ≡ y → G x y ≡ true)) →
    (f : X → A) (g : X → B) (xs : List X) → ((x y : X) → Among x xs → Among y xs → (f x ≡ f y → g x ≡ g y) × (g x ≡ g y → f x ≡ f y)) →
    distinct_count E (map f xs) ≡ distinct_count G (map g xs)
count_alike E dE G dG f g [] h = refl
count_alike E dE G dG f g (x ∷ xs) h =
    by (is_member E (map f xs) (f x)) (is_member G (map g xs) (g x)) (same_bool _ _ to from) (count_alike E dE G dG f g xs (λ y z a b. h y z (inr a) (inr b)))
  where
    to : is_member E (map f xs) (f x) ≡ true → is_member G (map g xs) (g x) ≡ true
    to m = let s = among_from_map f (f x) xs (among_from_member E dE (map f xs) (f x) m) in
        member_from_among G dG (map g xs) (g x) (subst (λ b. Among b (map g xs)) (sym ((h x s.0 (inl refl) (inr s.1)).0 s.2)) (among_map g s.0 xs s.1))

    from : is_member G (map g xs) (g x) ≡ true → is_member E (map f xs) (f x) ≡ true
    from m = let s = among_from_map g (g x) xs (among_from_member G dG (map g xs) (g x) m) in
        member_from_among E dE (map f xs) (f x) (subst (λ b. Among b (map f xs)) (sym ((h x s.0 (inl refl) (inr s.1)).1 s.2)) (among_map f s.0 xs s.1))

    by : (b c : Bool) → b ≡ c → distinct_count E (map f xs) ≡ distinct_count G (map g xs) →
        length (cond b (unique_keys E (map f xs)) (f x ∷ unique_keys E (map f xs))) ≡ length
        (cond c (unique_keys G (map g xs)) (g x ∷ unique_keys G (map g xs)))
    by true true e r = r
    by true false e r = absurd (true≢false e)
    by false true e r = absurd (false≢true e)
    by false false e r = ap suc r

-- ---- widths

pub pair_decides : (p q : ℕ × ℕ) → (same_pair p q ≡ true → p ≡ q) × (p ≡ q → same_pair p q ≡ true)
pair_decides p q = grind arith

pub has_reverse : (xs : List ℕ) (y : ℕ) → has (reverse xs) y ≡ has xs y
has_reverse [] y = refl
has_reverse (x ∷ xs) y =
    ap (λ zs. has zs y) (reverse-append (x ∷ []) xs) ∙ has_append (reverse xs) (x ∷ []) y
    ∙ ap (λ b. b || (nat_eq y x || false)) (has_reverse xs y) ∙ turn (has xs y) (nat_eq y x)
  where
    turn : (a b : Bool) → (a || (b || false)) ≡ (b || a)
    turn true true = refl
    turn true false = refl
    turn false true = refl
    turn false false = refl

pub filter_map_same : {X Y : Type 0} (p : X → Bool) (q : Y → Bool) (f : X → Y) (xs : List X) → ((x : X) → Among x xs → p x ≡ q (f x)) →
    filter q (map f xs) ≡ map f (filter p xs)
filter_map_same p q f [] h = refl
filter_map_same p q f (x ∷ xs) h = by (p x) (q (f x)) (h x (inl refl)) (filter_map_same p q f xs (λ y k. h y (inr k)))
  where
    by : (b c : Bool) → b ≡ c → filter q (map f xs) ≡ map f (filter p xs) →
        cond c (f x ∷ filter q (map f xs)) (filter q (map f xs)) ≡ map f (cond b (x ∷ filter p xs) (filter p xs))
    by true true e r = ap (λ ys. f x ∷ ys) r
    by true false e r = absurd (true≢false e)
    by false true e r = absurd (false≢true e)
    by false false e r = r

module _ (n : ℕ) (F : List Function) (T : List ℕ) (x : ℕ) (small : x < n) (new : has T x ≡ false) where
  abbrev pub reached : List Function
  reached = reach F (outside n (x ∷ T))

  -- fixing x, too, fixes just the variables outside T
  pub same_variables : (y : ℕ) → has (outside n (x ∷ T) ++ x ∷ []) y ≡ has (reverse (outside n T)) y
  same_variables y = grind (arith, has_append, has_outside, has_reverse, has_variables)

  inside : (y : ℕ) → has (reverse (outside n T)) y ≡ true → y < n
  inside y h = (has_variables n y).0 (and_parts (has (variables n) y) (not (has T y)) (sym (has_reverse (outside n T) y ∙ has_outside n T y) ∙ h)).0

  -- the restrictions by x are entries over T
  pub restriction_listed : (g : Function) → Among g reached → (b : Bool) → Among (table n (restrict x b g)) (entries n F T)
  unfolding entries reached
  restriction_listed g h b =
      let got = reach_same n F (outside n (x ∷ T) ++ x ∷ []) (reverse (outside n T))
      (below_from_has n _ (λ y k. inside y (sym (same_variables y) ∙ k))) (below_from_has n _ inside) same_variables
      (restrict x b g) (reach_more F (outside n (x ∷ T)) x b g h) in
      grind (arith, table_same, among_map)

  -- equal classes are equal restrictions
  pub class_tells : (g k : Function) (b c : Bool) → Among g reached → Among k reached →
      class_of (entries n F T) (table n (restrict x b g)) ≡ class_of (entries n F T) (table n (restrict x c k)) →
      table n (restrict x b g) ≡ table n (restrict x c k)
  unfolding class_of
  class_tells g k b c h i e = search (rank_apart, same_table_decides, restriction_listed)

  -- the function depends on x just where its classes are unequal
  pub depends_by_classes : (g : Function) → Among g reached → depends n g x ≡ not (nat_eq (class_pair n F T x g).0 (class_pair n F T x g).1)
  unfolding depends class_pair
  depends_by_classes g h = grind (arith, same_table_decides, class_tells)

  -- two functions have one table just where they have one pair of classes
  pub same_by_classes : (g k : Function) → Among g reached → Among k reached →
      (table n g ≡ table n k → class_pair n F T x g ≡ class_pair n F T x k)
      × (class_pair n F T x g ≡ class_pair n F T x k → table n g ≡ table n k)
  unfolding class_pair SameFunction
  same_by_classes g k h i = (
    λ e.
        let same = same_from_table n g k e in
        let low = table_same n (restrict x false g) (restrict x false k) (restrict_same n x false g k same) in
        let high = table_same n (restrict x true g) (restrict x true k) (restrict_same n x true g k same) in
        λ j. (class_of (entries n F T) (low j), class_of (entries n F T) (high j)),
    λ e.
        let low = same_from_table n (restrict x false g) (restrict x false k) (class_tells g k false false h i (ap (λ t. t.0) e)) in
        let high = same_from_table n (restrict x true g) (restrict x true k) (class_tells g k true true h i (ap (λ t. t.1) e)) in
        table_same n g k (λ p l. sym (own_restriction x g p) ∙ by p (bit p x) (low p l) (high p l) ∙ own_restriction x k p),
  )
    where
      by : (p : Point) (b : Bool) → restrict x false g p ≡ restrict x false k p → restrict x true g p ≡ restrict x true k p →
          restrict x b g p ≡ restrict x b k p
      by p true low high = high
      by p false low high = low

  -- the width is the number of distinct pairs of unequal classes
  pub width_is_pairs : width n F T x ≡ unequal_pairs n F T x
  unfolding width dependents unequal_pairs reached
  width_is_pairs =
      count_alike same_table same_table_decides same_pair pair_decides (table n) (class_pair n F T x) (filter (λ g. depends n g x) reached)
      (λ g k a b. same_by_classes g k (among_from_filter (λ g. depends n g x) g reached a).0 (among_from_filter (λ g. depends n g x) k reached b).0)
      ∙ ap (distinct_count same_pair)
      (sym (filter_map_same (λ g. depends n g x) (λ (p : ℕ × ℕ). not (nat_eq p.0 p.1)) (class_pair n F T x) reached depends_by_classes))
