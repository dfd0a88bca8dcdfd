-- Masks of what functions depend on.
--     bit-dependence      bit y is 1 just where the function depends on y
--     dependence_joined      a function depends on what its two restrictions by x depend on, and on x where they differ
use Rattle.std.proofs.Common.{◌≡◌, ◌≢◌, ℕ, ◌^◌, ◌<◌, Bool, true, false, cond, ◌&&◌, ◌||◌, inl, inr, max, refl, sym, ap, ap₂, ◌∙◌, subst, bit_or}
use Rattle.std.specs.Int.{bit_at}
use Rattle.std.proofs.lemmas.Bool.{true≢false, cases_Bool, cases_eq, not-false}
use Rattle.std.proofs.lemmas.Nat.Bits.{same_from_bits, bit_at_or, bit_at-zero, bit_at-pow_same, bit_at-pow_other}
use Rattle.definitions.specs.Functions.{Function, bit, restrict, SameFunction, table, depends}
use Rattle.definitions.specs.Orders.{has, variables}
use Rattle.definitions.proofs.Functions.Tables.{restrict_comm, restrict_again, restrict_same, same_refl, depends_false, same_from_table, same_table_decides}
use Rattle.definitions.proofs.Nodes.Construction.{own_restriction}
use Rattle.definitions.proofs.Bits.Masks.{bit-mask_of}
use Rattle.definitions.proofs.Lists.Orders.{same_bool, has_filter, has_variables}
use Rattle.definitions.proofs.Widths.Recurrence.{distinct_filter, distinct_variables}
use Rattle.subfunction_classes.specs.Dependence.{support, dependence}

pub bit-dependence : (n : ℕ) (f : Function) (y : ℕ) → bit_at (dependence n f) y ≡ cond (has (variables n) y && depends n f y) 1 0
unfolding dependence support
bit-dependence n f y = search (bit-mask_of, distinct_filter, distinct_variables, has_filter)

-- a restriction by x doesn't depend on x
restriction_free : (n : ℕ) (x : ℕ) (b : Bool) (g : Function) → depends n (restrict x b g) x ≡ false
restriction_free n x b g = search (depends_false, restrict_again, same_refl)

same_restrictions : (n y : ℕ) (f : Function) → depends n f y ≡ false → SameFunction n (restrict y false f) (restrict y true f)
unfolding depends
same_restrictions n y f e = same_from_table n _ _ ((same_table_decides (table n (restrict y false f)) (table n (restrict y true f))).0 (not-false _ e))

-- a function depends on another variable where one of its restrictions by x does
depends_joined : (n x y : ℕ) (g : Function) → y ≢ x → depends n g y ≡ (depends n (restrict x false g) y || depends n (restrict x true g) y)
unfolding SameFunction
depends_joined n x y g ne = same_bool _ _ to from
  where
    to : depends n g y ≡ true → (depends n (restrict x false g) y || depends n (restrict x true g) y) ≡ true
    to t =
        elim (cases_Bool (depends n (restrict x false g) y)) [
          | inl a ↦ ap (λ b. b || depends n (restrict x true g) y) a
          | inr a ↦ ap (λ b. b || depends n (restrict x true g) y) a ∙
              elim (cases_Bool (depends n (restrict x true g) y)) [
                | inl c ↦ c
                | inr c ↦ absurd (true≢false (sym t ∙ depends_false n g y (together a c)))
              ]
        ]
      where
        one : (b : Bool) → depends n (restrict x b g) y ≡ false → SameFunction n (restrict x b (restrict y false g)) (restrict x b (restrict y true g))
        one b e p l = ap (λ k. k p) (sym (restrict_comm y x false b g ne)) ∙ same_restrictions n y (restrict x b g) e p l
            ∙ ap (λ k. k p) (restrict_comm y x true b g ne)

        together : depends n (restrict x false g) y ≡ false → depends n (restrict x true g) y ≡ false → SameFunction n (restrict y false g) (restrict y true g)
        together a c p l = sym (own_restriction x (restrict y false g) p) ∙ by (bit p x) ∙ own_restriction x (restrict y true g) p
          where
            by : (b : Bool) → restrict x b (restrict y false g) p ≡ restrict x b (restrict y true g) p
            by false = one false a p l
            by true = one true c p l

    from : (depends n (restrict x false g) y || depends n (restrict x true g) y) ≡ true → depends n g y ≡ true
    from t =
        elim (cases_Bool (depends n g y)) [
          | inl a ↦ a
          | inr a ↦ absurd (true≢false (sym t ∙ ap₂ (λ b c. b || c) (none false a) (none true a)))
        ]
      where
        none : (b : Bool) → depends n g y ≡ false → depends n (restrict x b g) y ≡ false
        none b e = depends_false n (restrict x b g) y (λ p l.
            ap (λ k. k p) (restrict_comm y x false b g ne)
            ∙ restrict_same n x b (restrict y false g) (restrict y true g) (same_restrictions n y g e) p l
            ∙ ap (λ k. k p) (sym (restrict_comm y x true b g ne)))

pub dependence_joined : (n x : ℕ) (g : Function) → x < n →
    dependence n g ≡ bit_or (bit_or (dependence n (restrict x false g)) (dependence n (restrict x true g))) (cond (depends n g x) (2 ^ x) 0)
dependence_joined n x g small = same_from_bits _ _ at
  where
    at : (i : ℕ) →
        bit_at (dependence n g) i ≡ bit_at
        (bit_or (bit_or (dependence n (restrict x false g)) (dependence n (restrict x true g))) (cond (depends n g x) (2 ^ x) 0)) i
    at i = bit-dependence n g i ∙ at_bit
        ∙ sym (bit_at_or (bit_or (dependence n (restrict x false g)) (dependence n (restrict x true g))) (cond (depends n g x) (2 ^ x) 0) i
        ∙ ap₂ max (bit_at_or (dependence n (restrict x false g)) (dependence n (restrict x true g)) i
        ∙ ap₂ max (bit-dependence n (restrict x false g) i) (bit-dependence n (restrict x true g) i)) refl)
      where
        Goal : ℕ → Type 0
        Goal j = cond (has (variables n) j && depends n g j) 1 0
            ≡ max (max (cond (has (variables n) j && depends n (restrict x false g) j) 1 0)
            (cond (has (variables n) j && depends n (restrict x true g) j) 1 0))
            (bit_at (cond (depends n g x) (2 ^ x) 0) j)

        own : (h d low high : Bool) → h ≡ true → low ≡ false → high ≡ false →
            cond (h && d) 1 0 ≡ max (max (cond (h && low) 1 0) (cond (h && high) 1 0)) (bit_at (cond d (2 ^ x) 0) x)
        own h d low high a b c = ap (λ z. cond (z && d) 1 0) a ∙ by d
            ∙ sym (λ k. max (max (cond (a k && b k) 1 0) (cond (a k && c k) 1 0)) (bit_at (cond d (2 ^ x) 0) x))
          where
            by : (e : Bool) → cond e 1 0 ≡ max (max 0 0) (bit_at (cond e (2 ^ x) 0) x)
            by true = sym (ap (max 0) (bit_at-pow_same x))
            by false = sym (ap (max 0) (bit_at-zero x))

        other : (h low high : Bool) → cond (h && (low || high)) 1 0 ≡ max (max (cond (h && low) 1 0) (cond (h && high) 1 0)) 0
        other true true true = refl
        other true true false = refl
        other true false true = refl
        other true false false = refl
        other false low high = refl

        no_bit : (e : Bool) → i ≢ x → bit_at (cond e (2 ^ x) 0) i ≡ 0
        no_bit true ne = bit_at-pow_other x i ne
        no_bit false ne = bit_at-zero i

        at_bit : Goal i
        at_bit =
            elim (cases_eq i x) [
              | inl e ↦ subst Goal (sym e)
                  (own (has (variables n) x) (depends n g x) (depends n (restrict x false g) x) (depends n (restrict x true g) x)
                  ((has_variables n x).1 small) (restriction_free n x false g) (restriction_free n x true g))
              | inr ne ↦
                  ap (λ b. cond (has (variables n) i && b) 1 0) (depends_joined n x i g ne)
                  ∙ other (has (variables n) i) (depends n (restrict x false g) i) (depends n (restrict x true g) i)
                  ∙ ap (max (max (cond (has (variables n) i && depends n (restrict x false g) i) 1 0)
                  (cond (has (variables n) i && depends n (restrict x true g) i) 1 0)))
                  (sym (no_bit (depends n g x) ne))
            ]
