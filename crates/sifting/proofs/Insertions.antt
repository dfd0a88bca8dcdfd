-- One element inserted into a list without repeats, which is there or is added at its end.
use Rattle.std.proofs.Common.{◌≡◌, ◌≢◌, ℕ, suc, ◌<◌, Bool, true, false, ◌||◌, List, [], ◌∷◌, ◌++◌, length, get_or, refl, sym, subst, ◌∙◌, arith, if◌then◌else◌}
use Rattle.std.specs.List.{list_any, position_or_len}
use Rattle.sifting.specs.NodeTables.{Inserted}
use Rattle.std.proofs.lemmas.Bool.{false≢true, true≢false, cases_eq, cases_order, false_from_ne_true}
use Rattle.std.proofs.lemmas.List.{length_push, get_or_append_left, get_or_at}
use Rattle.std.proofs.lemmas.List.Folds.{list_any_at}
use Rattle.std.proofs.lemmas.List.Sums.{position_or_len_is, passes_at_first, fails_before_first}

module _ {K : Type 0} (d : K) (p : K) (keys : List K) where
  -- it was there
  pub inserted_again : (i : ℕ) → i < length keys → get_or keys i d ≡ p → Inserted d keys keys p i
  inserted_again i there here = grind arith

  pub inserted_new : ((k : ℕ) → k < length keys → get_or keys k d ≢ p) → Inserted d keys (keys ++ p ∷ []) p (length keys)
  inserted_new absent = grind (arith, length_push, get_or_at, get_or_append_left, cases_eq)

module _ {K : Type 0} (eq : K → K → Bool) (decides : (x y : K) → (eq x y ≡ true → x ≡ y) × (x ≡ y → eq x y ≡ true)) (d : K) where
  some_place : (test : K → Bool) (keys : List K) → list_any test keys ≡ true → (k : ℕ) × (k < length keys) × (test (get_or keys k d) ≡ true)
  some_place test [] e = absurd (false≢true e)
  some_place test (x ∷ keys) e = by (test x) refl e (some_place test keys)
    where
      by : (b : Bool) → test x ≡ b → (b || list_any test keys) ≡ true →
          (list_any test keys ≡ true → (k : ℕ) × (k < length keys) × (test (get_or keys k d) ≡ true)) →
          (k : ℕ) × (k < length (x ∷ keys)) × (test (get_or (x ∷ keys) k d) ≡ true)
      by true t h r = (0, omega arith, t)
      by false t h r = let f = r h in (suc f.0, omega (arith, f.1), f.2)

  found_place : (p : K) (keys : List K) → list_any (eq p) keys ≡ true → position_or_len (eq p) keys < length keys
  found_place p keys e = grind (arith, cases_order, some_place, true≢false, fails_before_first)

  pub inserted : (p : K) (keys : List K) → Inserted d keys (if list_any (eq p) keys then keys else keys ++ p ∷ []) p (position_or_len (eq p) keys)
  inserted p keys = by (list_any (eq p) keys) refl
    where
      i : ℕ
      i = position_or_len (eq p) keys

      by : (b : Bool) → list_any (eq p) keys ≡ b → Inserted d keys (if b then keys else keys ++ p ∷ []) p (position_or_len (eq p) keys)
      by true e =
          let lt = found_place p keys e in
          inserted_again d p keys i lt (sym ((decides p (get_or keys i d)).0 (passes_at_first (eq p) keys d lt)))
      by false e =
          let none : (k : ℕ) → k < length keys → eq p (get_or keys k d) ≡ false =
          λ k h. false_from_ne_true (eq p (get_or keys k d)) (λ t. true≢false (sym (list_any_at (eq p) keys k d h t) ∙ e)) in
          let last : position_or_len (eq p) keys ≡ length keys =
          position_or_len_is (eq p) keys (length keys) d (omega arith) none (λ h. absurd (omega arith)) in
          subst (Inserted d keys (keys ++ p ∷ []) p) (sym last)
          (inserted_new d p keys (λ k h same. true≢false (sym ((decides p (get_or keys k d)).1 (sym same)) ∙ none k h)))
