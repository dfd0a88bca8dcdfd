-- Rows of numbers by variables, written for the members of a set one after the other.
--     row_written      one member more: its entry is written
use Rattle.std.proofs.Common.{◌≡◌, ℕ, ◌+◌, ◌<◌, List, length, inl, inr, set, get_or, sym, ap, ◌∙◌, arith, get_or-set_other, get_or-set_same}
use Rattle.std.proofs.lemmas.Bool.{cases_lt}

module _ (P : ℕ → Type 0) (wanted : ℕ → ℕ) (row : List ℕ) (x : ℕ) (before : (y : ℕ) → y < x → P y → get_or row y 0 ≡ wanted y) where
  pub row_written : (v : ℕ) → x < length row → v ≡ wanted x → (y : ℕ) → y < x + 1 → P y → get_or (set row x v) y 0 ≡ wanted y
  row_written v lt e y l m =
      elim (cases_lt y x) [
        | inl a ↦ get_or-set_other row x y v 0 (λ s. let f : ⊥ = omega arith in f) ∙ before y a m
        | inr a ↦
            let s : y ≡ x = omega arith in
            ap (λ k. get_or (set row x v) k 0) s ∙ get_or-set_same row x v 0 lt ∙ e ∙ ap wanted (sym s)
      ]
