-- One node more in the slots of a table.
--     absent      a node whose search ends at a free slot is none of the table's
--     slotted_more      with its number in that slot each node is in a slot behind taken ones
use Rattle.std.proofs.Common.{◌≡◌, ◌≢◌, ℕ, ◌+◌, ◌<◌, ◌≤◌, List, [], ◌∷◌, ◌++◌, inl, inr, length, get_or, refl, sym, ap, ◌∙◌, subst, arith}
use Rattle.std.proofs.lemmas.Bool.{cases_eq, cases_lt}
use Rattle.std.proofs.lemmas.List.{length_push}
use Rattle.sifting.specs.Leveled.{Children, at}
use Rattle.sifting.specs.NodeTables.{home_of, HasNumber, IsFreeSlot, IsSet, HasSlot}
use Rattle.sifting.proofs.LevelNodes.{at_new, at_old}

module _ (slots : List ℕ) (homes base : ℕ) (nodes : List Children) (c : Children) (place : ℕ)
    (free : IsFreeSlot slots base nodes c (home_of homes c) place)
    (slotted : (k : ℕ) → k < length nodes → HasSlot slots homes base nodes k) where
  -- a slot with a node's number is not free
  apart : (u i : ℕ) → u < length slots → i < length nodes → get_or slots u 0 ≡ base + i → u ≢ place
  apart u i within few e same =
      let here = ap (λ v. get_or slots v 0) same in
      elim (free.free (omega arith)) [ inl low ↦ absurd (omega arith) | inr high ↦ absurd (omega arith) ]

  pub absent : (k : ℕ) → k < length nodes → at nodes k ≢ c
  absent k h same =
      let q = slotted k h in
      let home = ap (home_of homes) same in
      let from = free.from in
      let early = q.1 in
      let inside = q.2 in
      let has = q.3 in
      elim (cases_lt q.0 place) [
        | inl lt ↦
            let p = free.passed q.0 (omega arith) lt in
            let has' = p.1.1 in
            p.2 (ap (at nodes) (omega arith) ∙ same)
        | inr ge ↦
            elim (cases_eq q.0 place) [
              | inl e ↦ apart q.0 k inside h has e
              | inr ne ↦ let p = q.4 place (omega arith) (omega arith) in apart place p.0 (omega arith) p.1.0 p.1.1 refl
            ]
      ]

  module _ (slots' : List ℕ) (set : IsSet slots slots' place (base + length nodes)) where
    still : (u : ℕ) → u < length slots → (i : ℕ) × HasNumber base (length nodes) (get_or slots u 0) i
        → (i : ℕ) × HasNumber base (length (nodes ++ c ∷ [])) (get_or slots' u 0) i
    still u h p =
        let long = length_push nodes c in
        let few = p.1.0 in
        (p.0, (omega arith, set.others u h (apart u p.0 h p.1.0 p.1.1) ∙ p.1.1))

    pub slotted_more : (k : ℕ) → k < length (nodes ++ c ∷ []) → HasSlot slots' homes base (nodes ++ c ∷ []) k
    slotted_more k h =
        let long = length_push nodes c in
        let grows = set.grows in
        elim (cases_lt k (length nodes)) [
          | inl lt ↦
              let q = slotted k lt in
              let inside = q.2 in
              subst
              (λ (n : Children). (t : ℕ) × (home_of homes n ≤ t) × (t < length slots') × (get_or slots' t 0 ≡ base + k)
              × ((u : ℕ) → home_of homes n ≤ u → u < t → (i : ℕ) × HasNumber base (length (nodes ++ c ∷ [])) (get_or slots' u 0) i))
              (sym (at_old nodes c k (length nodes) refl lt))
              (q.0, q.1, omega arith, set.others q.0 q.2 (apart q.0 k q.2 lt q.3) ∙ q.3, λ u a b. still u (omega arith) (q.4 u a b))
          | inr ge ↦
              let last : k ≡ length nodes = omega arith in
              let within = free.within in
              subst
              (λ (n : Children). (t : ℕ) × (home_of homes n ≤ t) × (t < length slots') × (get_or slots' t 0 ≡ base + k)
              × ((u : ℕ) → home_of homes n ≤ u → u < t → (i : ℕ) × HasNumber base (length (nodes ++ c ∷ [])) (get_or slots' u 0) i))
              (sym (at_new nodes c k (length nodes) refl last)) (
                place,
                free.from,
                set.within,
                set.here ∙ ap (λ m. base + m) (sym last),
                λ u a b. let p = free.passed u a b in still u (omega arith) (p.0, p.1),
              )
        ]
