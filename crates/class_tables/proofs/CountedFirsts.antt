-- Masks counted at the first pair of each kind.
use Rattle.std.proofs.Common.{◌≡◌, ℕ, zero, suc, ◌+◌, ◌<◌, ◌≤◌, cond, eqb, List, [], ◌∷◌, ◌++◌, length, get_or, refl, ap, ◌∙◌, arith}
use Rattle.std.specs.Int.{bit_at}
use Rattle.std.specs.List.{filter}
use Rattle.std.proofs.lemmas.Nat.Bits.{bit_at-lt}
use Rattle.std.proofs.lemmas.List.{length-append}
use Rattle.std.proofs.lemmas.List.Elements.{filter-append}
use Rattle.subfunction_classes.specs.Numbering.{IsFirstOccurrence}
use Rattle.subfunction_classes.specs.Dependence.{joined_mask}
use Rattle.class_tables.specs.Scratch.{CountsMasks}
use Rattle.subfunction_classes.proofs.Firsts.{joined_again, joined_first}
use Rattle.subfunction_classes.specs.Made.{Joined}
use Rattle.subfunction_classes.proofs.JoinedMasks.{joined_many, joined_told}

module _ (ps : List (ℕ × ℕ)) (masks : List ℕ) (x : ℕ) where
  -- after j pairs
  pub record Counting (count j : ℕ) : Type 0 where
    pub out : List ℕ
    pub joined : Joined 0 ps (joined_mask masks x) out j
    pub counted : count ≡ length (filter (λ m. eqb (bit_at m x) 1) out)
    pub few : count ≤ j

  pub counting_first : (count more j mask : ℕ) → j < length ps → IsFirstOccurrence (λ i. get_or ps i (0, 0)) j j →
      mask ≡ joined_mask masks x (get_or ps j (0, 0)) → more ≡ bit_at mask x → Counting count j → Counting (count + more) (j + 1)
  counting_first count more j mask l f m b h = record {
    out = h.out ++ mask ∷ [];
    joined = joined_first 0 ps (joined_mask masks x) h.out j mask l f m h.joined;
    counted = (let e = ap length (filter-append (λ k. eqb (bit_at k x) 1) h.out (mask ∷ []))
        ∙ length-append (filter (λ k. eqb (bit_at k x) 1) h.out) (filter (λ k. eqb (bit_at k x) 1) (mask ∷ [])) in
        omega (arith, one (bit_at mask x) (bit_at-lt mask x)));
    few = omega arith;
  }
    where
      one : (v : ℕ) → v < 2 → length (cond (eqb v 1) (mask ∷ []) []) ≡ v
      one zero lt = refl
      one (suc zero) lt = refl
      one (suc (suc v)) lt = absurd (omega arith)

  pub counting_again : (count j first : ℕ) → j < length ps → IsFirstOccurrence (λ i. get_or ps i (0, 0)) j first → first < j →
      Counting count j → Counting count (j + 1)
  counting_again count j first l f lt h = record {
    out = h.out;
    joined = joined_again 0 ps (joined_mask masks x) h.out j first l f lt h.joined;
    counted = h.counted;
    few = omega arith;
  }

  pub counting_all : (count j : ℕ) → length ps ≤ j → Counting count j → CountsMasks masks x ps count
  counting_all count j l h = record {
    joined = h.out;
    many = joined_many 0 ps (joined_mask masks x) h.out j l h.joined;
    labels = joined_told 0 ps (joined_mask masks x) h.out j l h.joined;
    counted = h.counted;
  }
