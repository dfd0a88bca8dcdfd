-- Numbers by first occurrence: they are found one after another, and depend on which keys are equal alone.
--     rank_below, rank_reached      the numbers are those below the number of distinct keys
--     Numbers eq keys done      `keys` are the distinct keys of `done`, in order of first occurrence
--     numbers_none, numbers_push      at the start, and with one more key
--     rank_next      the number of a key stays, whatever comes after its first occurrence
--     ranks_alike      two ways to name elements that tell the same ones apart give the same numbers
use Rattle.std.proofs.Common.{◌≡◌, ℕ, suc, ◌+◌, ◌<◌, Bool, true, false, not, cond, eqb, ◌||◌, ◌⊎◌, inl, inr, List, [], ◌∷◌, ◌++◌, map, length, refl, sym, ap, ◌∙◌, subst, arith, if◌then◌else◌}
use Rattle.std.specs.List.{take_while, list_any, position_or_len}
use Rattle.std.specs.Set.{is_member, unique_keys, distinct_count}
use Rattle.std.proofs.lemmas.Bool.{false≢true, true≢false, cases_Bool, cases_eq}
use Rattle.std.proofs.Common.{eq-eqb}
use Rattle.std.proofs.lemmas.List.Sums.{take_while-cons}
use Rattle.std.proofs.lemmas.List.Folds.{position_or_len_push}
use Rattle.std.proofs.lemmas.List.{append_assoc}
use Rattle.definitions.proofs.Lists.Sets.{Among, Within, among_left, among_right, among_cases, among_from_member, member_from_among, count_same, count_mono}
use Rattle.definitions.proofs.Widths.ClassPairs.{count_alike, before_here, before_next, not_among_before, before}
use Rattle.definitions.proofs.Lists.Orders.{same_bool}
use Rattle.subfunction_classes.specs.Numbering.{rank, ranks}

module _ {K : Type 0} (eq : K → K → Bool) (decides : (x y : K) → (eq x y ≡ true → x ≡ y) × (x ≡ y → eq x y ≡ true)) where
  -- where t is there, what comes after doesn't count
  before_found : (xs ys : List K) (t : K) → Among t xs → before eq decides (xs ++ ys) t ≡ before eq decides xs t
  unfolding before
  before_found [] ys t h = absurd h
  before_found (w ∷ xs) ys t h =
      elim (cases_Bool (eq t w)) [
        | inl e ↦ before_here eq decides w (xs ++ ys) t e ∙ sym (before_here eq decides w xs t e)
        | inr e ↦ search (before_next, before_found xs ys t (elim h [ inl s ↦ absurd (true≢false (sym ((decides t w).1 s) ∙ e)) | inr a ↦ a ]))
      ]

  -- where it isn't, all of them come before it
  before_absent : (xs ys : List K) (t : K) → (Among t xs → ⊥) → before eq decides (xs ++ ys) t ≡ xs ++ before eq decides ys t
  unfolding before
  before_absent [] ys t h = refl
  before_absent (w ∷ xs) ys t h =
      elim (cases_Bool (eq t w)) [
        | inl e ↦ absurd (h (inl ((decides t w).0 e)))
        | inr e ↦ before_next eq decides w (xs ++ ys) t e ∙ ap (λ zs. w ∷ zs) (before_absent xs ys t (λ a. h (inr a)))
      ]

  before_all : (xs : List K) (t : K) → (Among t xs → ⊥) → before eq decides xs t ≡ xs
  unfolding before
  before_all [] t h = refl
  before_all (w ∷ xs) t h =
      elim (cases_Bool (eq t w)) [
        | inl e ↦ absurd (h (inl ((decides t w).0 e)))
        | inr e ↦ before_next eq decides w xs t e ∙ ap (λ zs. w ∷ zs) (before_all xs t (λ a. h (inr a)))
      ]

  before_within : (xs : List K) (t : K) → Within (before eq decides xs t) xs
  unfolding before
  before_within [] t u h = h
  before_within (w ∷ xs) t u h =
      elim (cases_Bool (eq t w)) [
        | inl e ↦ absurd (subst (Among u) (before_here eq decides w xs t e) h)
        | inr e ↦
            elim (subst (Among u) (before_next eq decides w xs t e) h) [ inl s ↦ inl s | inr a ↦ inr (before_within xs t u a) ]
      ]

  -- ---- how many distinct elements

  pub count_new : (x : K) (xs : List K) → (Among x xs → ⊥) → distinct_count eq (x ∷ xs) ≡ suc (distinct_count eq xs)
  count_new x xs h = grind (arith, among_from_member)

  pub count_old : (x : K) (xs : List K) → Among x xs → distinct_count eq (x ∷ xs) ≡ distinct_count eq xs
  count_old x xs h = ap (λ b. length (cond b (unique_keys eq xs) (x ∷ unique_keys eq xs))) (member_from_among eq decides xs x h)

  -- the order doesn't count
  pub count_end : (x : K) (xs : List K) → distinct_count eq (xs ++ x ∷ []) ≡ distinct_count eq (x ∷ xs)
  count_end x xs =
      count_same eq decides (xs ++ x ∷ []) (x ∷ xs)
      (λ u h. elim (among_cases u xs (x ∷ []) h) [ inl a ↦ inr a | inr b ↦ elim b [ inl s ↦ inl s | inr n ↦ absurd n ] ])
      (λ u h. elim h [ inl s ↦ among_right u xs (x ∷ []) (inl s) | inr a ↦ among_left u xs (x ∷ []) a ])

  pub among_or_not : (x : K) (xs : List K) → Among x xs ⊎ (Among x xs → ⊥)
  among_or_not x xs =
      elim (cases_Bool (is_member eq xs x)) [
        | inl e ↦ inl (among_from_member eq decides xs x e)
        | inr e ↦ inr (λ h. true≢false (sym (member_from_among eq decides xs x h) ∙ e))
      ]

  -- ---- numbers

  pub rank_below : (xs : List K) (t : K) → Among t xs → rank eq xs t < distinct_count eq xs
  unfolding rank before
  rank_below xs t h =
      let le = count_mono eq decides (t ∷ before eq decides xs t) xs
      (λ u k. elim k [ inl s ↦ subst (λ v. Among v xs) (sym s) h | inr a ↦ before_within xs t u a ]) in
      omega (arith, count_new t (before eq decides xs t) (not_among_before eq decides xs t))

  pub rank_absent : (xs : List K) (t : K) → (Among t xs → ⊥) → rank eq xs t ≡ distinct_count eq xs
  unfolding rank before
  rank_absent xs t h = ap (distinct_count eq) (before_all xs t h)

  pub rank_found : (xs ys : List K) (t : K) → Among t xs → rank eq (xs ++ ys) t ≡ rank eq xs t
  unfolding rank before
  rank_found xs ys t h = ap (distinct_count eq) (before_found xs ys t h)

  pub rank_here : (xs ys : List K) (t : K) → (Among t xs → ⊥) → rank eq (xs ++ t ∷ ys) t ≡ distinct_count eq xs
  unfolding rank before
  rank_here xs ys t h =
      ap (distinct_count eq) (before_absent xs (t ∷ ys) t h ∙ ap (λ zs. xs ++ zs) (before_here eq decides t ys t ((decides t t).1 refl)) ∙ append_nil xs)
    where
      append_nil : (zs : List K) → zs ++ [] ≡ zs
      append_nil [] = refl
      append_nil (z ∷ zs) = ap (λ us. z ∷ us) (append_nil zs)

  -- the next key's number, whatever comes after it
  pub rank_next : (xs ys : List K) (t : K) → rank eq (xs ++ t ∷ ys) t ≡ rank eq xs t
  rank_next xs ys t = grind (arith, rank_found, rank_here, rank_absent)

  -- each number below the number of distinct keys is reached
  pub rank_reached : (xs : List K) (c : ℕ) → c < distinct_count eq xs → (t : K) × Among t xs × (rank eq xs t ≡ c)
  rank_reached xs c lt = walk [] xs (λ d h. absurd (omega arith)) c lt
    where
      Reached : List K → Type 0
      Reached ys = (d : ℕ) → d < distinct_count eq ys → (t : K) × Among t ys × (rank eq ys t ≡ d)

      walk : (done rest : List K) → Reached done → Reached (done ++ rest)
      walk done [] r = subst Reached (sym (nil done)) r
        where
          nil : (zs : List K) → zs ++ [] ≡ zs
          nil [] = refl
          nil (z ∷ zs) = ap (λ us. z ∷ us) (nil zs)
      walk done (k ∷ rest) r = subst Reached (append_assoc done (k ∷ []) rest) (walk (done ++ k ∷ []) rest step)
        where
          step : Reached (done ++ k ∷ [])
          step d lt =
              elim (among_or_not k done) [
                | inl a ↦
                    let s = r d (subst (λ m. d < m) (count_end k done ∙ count_old k done a) lt) in
                    (s.0, among_left s.0 done (k ∷ []) s.1, rank_found done (k ∷ []) s.0 s.1 ∙ s.2)
                | inr n ↦
                    elim (cases_eq d (distinct_count eq done)) [
                      | inl e ↦ (k, among_right k done (k ∷ []) (inl refl), rank_here done [] k n ∙ sym e)
                      | inr ne ↦
                          let s = r d (omega (arith, subst (λ m. d < m) (count_end k done ∙ count_new k done n) lt)) in
                          (s.0, among_left s.0 done (k ∷ []) s.1, rank_found done (k ∷ []) s.0 s.1 ∙ s.2)
                    ]
              ]

  -- ---- numbers one after another

  -- `keys` number what was done: they are as many as there are distinct ones, and each has its number as its place
  pub record Numbers (keys done : List K) : Type 0 where
    pub many : length keys ≡ distinct_count eq done
    pub places : (u : K) → position_or_len (eq u) keys ≡ rank eq done u

  pub numbers_none : Numbers [] []
  unfolding rank
  numbers_none = record { many = refl; places = λ u. refl }

  -- with one more key
  pub numbers_push : (keys done : List K) (k : K) → Numbers keys done → Numbers (if list_any (eq k) keys then keys else keys ++ k ∷ []) (done ++ k ∷ [])
  numbers_push keys done k n =
      elim (among_or_not k done) [
        | inl a ↦
            let there : list_any (eq k) keys ≡ true =
            found keys (n.places k ∙ refl) (omega (arith, rank_below done k a)) in
            subst (λ b. Numbers (cond b keys (keys ++ k ∷ [])) (done ++ k ∷ [])) (sym there) (old a)
        | inr o ↦
            let gone : list_any (eq k) keys ≡ false = missed keys (n.places k ∙ rank_absent done k o ∙ sym n.many) in
            subst (λ b. Numbers (cond b keys (keys ++ k ∷ [])) (done ++ k ∷ [])) (sym gone) (new o)
      ]
    where
      found : (ks : List K) → position_or_len (eq k) keys ≡ rank eq done k → position_or_len (eq k) ks < length ks → list_any (eq k) ks ≡ true
      found [] e l = absurd (omega arith)
      found (w ∷ ks) e l = by (eq k w) l (found ks e)
        where
          by : (b : Bool) → cond (not b) (1 + position_or_len (eq k) ks) 0 < suc (length ks) →
              (position_or_len (eq k) ks < length ks → list_any (eq k) ks ≡ true) → (b || list_any (eq k) ks) ≡ true
          by true h r = refl
          by false h r = r (omega arith)

      missed : (ks : List K) → position_or_len (eq k) ks ≡ length ks → list_any (eq k) ks ≡ false
      missed [] e = refl
      missed (w ∷ ks) e = by (eq k w) e (missed ks)
        where
          by : (b : Bool) → cond (not b) (1 + position_or_len (eq k) ks) 0 ≡ suc (length ks) →
              (position_or_len (eq k) ks ≡ length ks → list_any (eq k) ks ≡ false) → (b || list_any (eq k) ks) ≡ false
          by true h r = absurd (omega arith)
          by false h r = r (omega arith)

      old : Among k done → Numbers keys (done ++ k ∷ [])
      old a = record {
        many = n.many ∙ sym (count_end k done ∙ count_old k done a);
        places = λ u. elim (among_or_not u done) [
          | inl b ↦ n.places u ∙ sym (rank_found done (k ∷ []) u b)
          | inr o ↦ n.places u ∙ rank_absent done u o
              ∙ sym (rank_absent (done ++ k ∷ []) u
              (λ h. elim (among_cases u done (k ∷ []) h)
              [ inl b ↦ o b | inr c ↦ elim c [ inl s ↦ o (subst (λ v. Among v done) (sym s) a) | inr z ↦ z ] ])
              ∙ count_end k done ∙ count_old k done a)
        ];
      }

      new : (Among k done → ⊥) → Numbers (keys ++ k ∷ []) (done ++ k ∷ [])
      new o = record {
        many = length_more keys ∙ ap suc n.many ∙ sym (count_end k done ∙ count_new k done o);
        places = λ u. position_or_len_push (eq u) keys k ∙ place u;
      }
        where
          length_more : (ks : List K) → length (ks ++ k ∷ []) ≡ suc (length ks)
          length_more [] = refl
          length_more (w ∷ ks) = ap suc (length_more ks)

          place : (u : K) →
              cond (eqb (position_or_len (eq u) keys) (length keys)) (length keys + cond (eq u k) 0 1) (position_or_len (eq u) keys) ≡ rank
              eq (done ++ k ∷ []) u
          place u =
              elim (among_or_not u done) [
                | inl b ↦
                    grind (arith, rank_below, rank_found)
                | inr c ↦
                    let e : position_or_len (eq u) keys ≡ length keys = n.places u ∙ rank_absent done u c ∙ sym n.many in
                    ap (λ d. cond d (length keys + cond (eq u k) 0 1) (position_or_len (eq u) keys)) (eq-eqb _ _ e) ∙ behind u c
              ]
            where
              behind : (v : K) → (Among v done → ⊥) → length keys + cond (eq v k) 0 1 ≡ rank eq (done ++ k ∷ []) v
              behind v c =
                  elim (cases_Bool (eq v k)) [
                    | inl e ↦
                        grind (arith, rank_here)
                    | inr e ↦
                        let q : length keys + 1 ≡ suc (distinct_count eq done) = omega arith in
                        ap (λ d. length keys + cond d 0 1) e ∙ q
                        ∙ sym (rank_absent (done ++ k ∷ []) v
                        (λ h. elim (among_cases v done (k ∷ []) h)
                        [ inl b ↦ c b | inr d ↦ elim d [ inl s ↦ true≢false (sym ((decides v k).1 s) ∙ e) | inr z ↦ z ] ])
                        ∙ count_end k done ∙ count_new k done o)
                  ]

-- two ways to name elements that tell the same ones apart give the same numbers
module _ {X A B : Type 0} (E : A → A → Bool) (dE : (x y : A) → (E x y ≡ true → x ≡ y) × (x ≡ y → E x y ≡ true)) (G : B → B → Bool)
    (dG : (x y : B) → (G x y ≡ true → x ≡ y) × (x ≡ y → G x y ≡ true)) (f : X → A) (g : X → B) where
  Alike : List X → Type 0
  Alike xs = (x y : X) → Among x xs → Among y xs → (f x ≡ f y → g x ≡ g y) × (g x ≡ g y → f x ≡ f y)

  -- the elements of xs before the first one named as x is
  front : X → List X → List X
  front x xs = take_while (λ y. not (E (f x) (f y))) xs

  front_step : (x w : X) (ws : List X) → front x (w ∷ ws) ≡ cond (not (E (f x) (f w))) (w ∷ front x ws) []
  unfolding front
  front_step x w ws = take_while-cons (λ y. not (E (f x) (f y))) w ws

  front_within : (x : X) (ws : List X) → Within (front x ws) ws
  unfolding front
  front_within x [] u h = h
  front_within x (w ∷ ws) u h = grind (arith, front_step, front_within x ws u)

  front_f : (x : X) (ws : List X) → take_while (λ u. not (E (f x) u)) (map f ws) ≡ map f (front x ws)
  unfolding front
  front_f x [] = refl
  front_f x (w ∷ ws) = take_while-cons (λ u. not (E (f x) u)) (f w) (map f ws) ∙ by (E (f x) (f w)) (front_f x ws) ∙ sym (ap (map f) (front_step x w ws))
    where
      by : (b : Bool) → take_while (λ u. not (E (f x) u)) (map f ws) ≡ map f (front x ws) →
          cond (not b) (f w ∷ take_while (λ u. not (E (f x) u)) (map f ws)) [] ≡ map f (cond (not b) (w ∷ front x ws) [])
      by true r = refl
      by false r = ap (λ us. f w ∷ us) r

  front_g : (xs : List X) → Alike xs → (x : X) → Among x xs → (ws : List X) → Within ws xs → take_while (λ u. not (G (g x) u)) (map g ws) ≡ map g (front x ws)
  unfolding front Alike
  front_g xs h x a [] i = refl
  front_g xs h x a (w ∷ ws) i =
      take_while-cons (λ u. not (G (g x) u)) (g w) (map g ws)
      ∙ by (E (f x) (f w)) (G (g x) (g w)) same (front_g xs h x a ws (λ u k. i u (inr k))) ∙ sym (ap (map g) (front_step x w ws))
    where
      tells : (f x ≡ f w → g x ≡ g w) × (g x ≡ g w → f x ≡ f w)
      tells = h x w a (i w (inl refl))

      same : E (f x) (f w) ≡ G (g x) (g w)
      same = same_bool _ _ (λ e. (dG (g x) (g w)).1 (tells.0 ((dE (f x) (f w)).0 e))) (λ e. (dE (f x) (f w)).1 (tells.1 ((dG (g x) (g w)).0 e)))

      by : (b c : Bool) → b ≡ c → take_while (λ u. not (G (g x) u)) (map g ws) ≡ map g (front x ws) →
          cond (not c) (g w ∷ take_while (λ u. not (G (g x) u)) (map g ws)) [] ≡ map g (cond (not b) (w ∷ front x ws) [])
      by true true s r = refl
      by true false s r = absurd (true≢false s)
      by false true s r = absurd (false≢true s)
      by false false s r = ap (λ us. g w ∷ us) r

  pub rank_alike : (xs : List X) → ((x y : X) → Among x xs → Among y xs → (f x ≡ f y → g x ≡ g y) × (g x ≡ g y → f x ≡ f y)) → (x : X) →
      Among x xs → rank E (map f xs) (f x) ≡ rank G (map g xs) (g x)
  unfolding rank Alike
  rank_alike xs h x a =
      ap (distinct_count E) (front_f x xs)
      ∙ count_alike E dE G dG f g (front x xs) (λ y z b c. h y z (front_within x xs y b) (front_within x xs z c))
      ∙ sym (ap (distinct_count G) (front_g xs h x a xs (λ u k. k)))

  pub ranks_alike : (xs : List X) → ((x y : X) → Among x xs → Among y xs → (f x ≡ f y → g x ≡ g y) × (g x ≡ g y → f x ≡ f y)) →
      ranks E (map f xs) ≡ ranks G (map g xs)
  unfolding ranks
  ranks_alike xs h = each xs (λ u k. k)
    where
      each : (ys : List X) → Within ys xs → map (rank E (map f xs)) (map f ys) ≡ map (rank G (map g xs)) (map g ys)
      each [] i = refl
      each (y ∷ ys) i = λ j. rank_alike xs h y (i y (inl refl)) j ∷ each ys (λ u k. i u (inr k)) j
