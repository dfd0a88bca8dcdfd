-- Lists with an element for each set.
--     sets_none, sets_pushed      one element after another
use Rattle.std.proofs.Common.{◌≡◌, ℕ, ◌+◌, ◌<◌, inl, inr, List, [], ◌∷◌, ◌++◌, length, length-append, get_or, slice_index, sym, ap, ◌∙◌, subst, arith}
use Rattle.std.proofs.lemmas.Bool.{cases_lt}
use Rattle.std.proofs.lemmas.List.{get_or_append_left, get_or_push}

-- the elements for the first sets
pub record AreOfFirst {A : Type 0} (Is : ℕ → A → Type 0) (masks : List ℕ) (k : ℕ) (xs : List A) : Type 0 where
  pub each : length xs ≡ k
  pub are : (i : ℕ) (d : A) → i < length xs → Is (slice_index masks i) (get_or xs i d)

pub sets_none : {A : Type 0} (Is : ℕ → A → Type 0) (masks : List ℕ) → AreOfFirst Is masks 0 []
sets_none Is masks = record { each = omega arith; are = λ i d lt. absurd (omega arith) }

pub sets_pushed : {A : Type 0} (Is : ℕ → A → Type 0) (masks : List ℕ) (k : ℕ) (xs : List A) (x : A) → AreOfFirst Is masks k xs →
    Is (slice_index masks k) x → AreOfFirst Is masks (k + 1) (xs ++ x ∷ [])
sets_pushed Is masks k xs x first is = record {
  each = length-append xs (x ∷ []) ∙ ap (λ n. n + 1) first.each;
  are = λ i d lt. elim (cases_lt i (length xs)) [
    | inl l ↦ subst (Is (slice_index masks i)) (sym (get_or_append_left xs (x ∷ []) d i l)) (first.are i d l)
    | inr g ↦
        let long = length-append xs (x ∷ []) in
        let e = first.each in
        let at : length xs ≡ i = omega arith in
        let same : k ≡ i = omega arith in
        subst (Is (slice_index masks i)) (sym (get_or_push xs x d i at)) (subst (λ (j : ℕ). Is (slice_index masks j) x) same is)
  ];
}
