-- The point of a path, level by level.
use Rattle.std.proofs.Common.{◌≡◌, ◌≢◌, ℕ, zero, suc, ◌+◌, ◌*◌, ◌/◌, ◌%◌, ◌^◌, ◌<◌, ◌≤◌, ◌⊎◌, max, List, length, get_or, sym, ap, ap₂, ◌∙◌, arith, subst, inl, inr, bit_and, bit_or}
use Rattle.std.specs.Int.{bit_at}
use Rattle.std.proofs.Math.Nat.{max-zero, zero-max}
use Rattle.std.proofs.lemmas.Nat.{or_disjoint, or_lt, pow_below, pow_pos, one_shl}
use Rattle.std.proofs.lemmas.Nat.Bits.{and_pow, bit_at_above, bit_at-lt, bit_at-zero, bit_at_or, bit_at-pow_same, bit_at-pow_other, shr_and_one}
use Rattle.definitions.specs.Orders.{IsOrder, place_in}
use Rattle.definitions.proofs.Lists.Orders.{has_at, place_get}
use Rattle.dd_builder.specs.Paths.{IsPointAbove, IsPointOf}

zero_times : (k : ℕ) → 0 * k ≡ 0
zero_times k = omega arith

one_times : (k : ℕ) → 1 * k ≡ k
one_times k = omega arith

-- a bit at its place
shifted : (b x : ℕ) → b < 2 → x < 32 → b * 2 ^ x % 4294967296 ≡ b * 2 ^ x
shifted zero x h l = (λ i. zero_times (2 ^ x) i % 4294967296) ∙ sym (zero_times (2 ^ x))
shifted (suc zero) x h l = one_shl x 32 l ∙ omega arith
shifted (suc (suc b)) x h l = absurd (omega arith)

bit_there : (b x : ℕ) → b < 2 → bit_at (b * 2 ^ x) x ≡ b
bit_there zero x h = ap (λ k. bit_at k x) (zero_times (2 ^ x)) ∙ bit_at-zero x
bit_there (suc zero) x h = ap (λ k. bit_at k x) (one_times (2 ^ x)) ∙ bit_at-pow_same x
bit_there (suc (suc b)) x h = absurd (omega arith)

bit_elsewhere : (b x y : ℕ) → b < 2 → y ≢ x → bit_at (b * 2 ^ x) y ≡ 0
bit_elsewhere zero x y h ne = ap (λ k. bit_at k y) (zero_times (2 ^ x)) ∙ bit_at-zero y
bit_elsewhere (suc zero) x y h ne = ap (λ k. bit_at k y) (one_times (2 ^ x)) ∙ bit_at-pow_other x y ne
bit_elsewhere (suc (suc b)) x y h ne = absurd (omega arith)

bit_small : (b x n : ℕ) → b < 2 → x < n → b * 2 ^ x < 2 ^ n
bit_small zero x n h l = omega (arith, pow_pos n)
bit_small (suc zero) x n h l = omega (arith, pow_below x n l)
bit_small (suc (suc b)) x n h l = absurd (omega arith)

module _ (order : List ℕ) (is : IsOrder (length order) order) where
  pub variable_below : (i : ℕ) → i < length order → get_or order i 0 < length order
  variable_below i l = (is.all (get_or order i 0)).0 (has_at order i l)

  other_place : (i level : ℕ) → i < length order → level < length order → i ≢ level → get_or order i 0 ≢ get_or order level 0
  other_place i level a b ne e = ne (sym (place_get order i is.once a) ∙ (ap (place_in order) e ∙ place_get order level is.once b))

  pub point_more : (level path point x now : ℕ) → length order ≤ 16 → level < length order → x ≡ get_or order level 0 → IsPointAbove order level path point
      → now ≡ bit_or point (bit_and (path / 2 ^ level) 1 * 2 ^ x % 4294967296) → IsPointAbove order (level + 1) path now
  point_more level path point x now few inside at h e =
      let b : ℕ = bit_at path level in
      let b2 = bit_at-lt path level in
      let low = variable_below level inside in
      let added : now ≡ bit_or point (b * 2 ^ x) = e
      ∙ (ap (λ k. bit_or point (k * 2 ^ x % 4294967296)) (shr_and_one path level) ∙ ap (bit_or point) (shifted b x b2 (omega arith))) in
      record {
        small = subst (λ k. k < 2 ^ length order) (sym added) (or_lt (length order) point (b * 2 ^ x) h.small (bit_small b x (length order) b2 (omega arith)));
        bits = λ i l in_order. by_cases i l in_order (same i level) added b2;
        clear = λ i l in_order. ap (λ k. bit_at k (get_or order i 0)) added ∙ (bit_at_or point (b * 2 ^ x) (get_or order i 0)
            ∙ (let z = bit_elsewhere b x (get_or order i 0) b2 (λ s. other_place i level in_order inside (λ q. omega arith) (s ∙ at)) in
            omega (arith, h.clear i (omega arith) in_order)));
      }
    where
      same : (i j : ℕ) → (i ≡ j) ⊎ (i ≢ j)
      same i j = grind arith

      by_cases : (i : ℕ) → i < level + 1 → i < length order → (i ≡ level) ⊎ (i ≢ level) → now ≡ bit_or point (bit_at path level * 2 ^ x) →
          bit_at path level < 2 → bit_at now (get_or order i 0) ≡ bit_at path i
      by_cases i l in_order t added b2 = elim t [
        | inl s ↦
            let z = bit_there (bit_at path level) x b2 in let c = h.clear level (omega arith) inside in
            ap (bit_at now) (ap (λ k. get_or order k 0) s ∙ sym at)
            ∙ (ap (λ k. bit_at k x) added
            ∙ (bit_at_or point (bit_at path level * 2 ^ x) x
            ∙ (ap₂ max (ap (bit_at point) at ∙ c) z ∙ (zero-max (bit_at path level) ∙ ap (bit_at path) (sym s)))))
        | inr ne ↦
            let z = bit_elsewhere (bit_at path level) x (get_or order i 0) b2 (λ q. other_place i level in_order inside ne (q ∙ at)) in
            let c = h.bits i (omega arith) in_order in
            ap (λ k. bit_at k (get_or order i 0)) added
            ∙ (bit_at_or point (bit_at path level * 2 ^ x) (get_or order i 0) ∙ (ap₂ max c z ∙ max-zero (bit_at path i)))
      ]

  -- on to the low child the point stays
  pub point_low : (level path point : ℕ) → path < 2 ^ level → IsPointAbove order level path point → IsPointAbove order (level + 1) path point
  point_low level path point small h = grind (arith, bit_at_above)

  -- on to the high child it gets the variable of the level
  pub point_high : (level path point x now : ℕ) → length order ≤ 16 → level < length order → path < 2 ^ level → x ≡ get_or order level 0 →
      IsPointAbove order level path point → now ≡ bit_or point (1 * 2 ^ x % 4294967296) → IsPointAbove order (level + 1) (path + 2 ^ level) now
  point_high level path point x now few inside small at h e =
      point_more level (path + 2 ^ level) point x now few inside at
      record { small = h.small; bits = λ i l in_order. h.bits i l in_order ∙ sym (lower i l); clear = h.clear }
      (e ∙ ap (λ k. bit_or point (k * 2 ^ x % 4294967296)) (sym (shr_and_one (path + 2 ^ level) level ∙ there)))
    where
      joined : path + 2 ^ level ≡ bit_or path (2 ^ level)
      joined = sym (or_disjoint path (2 ^ level)
          (and_pow path level ∙ (ap (λ b. b * 2 ^ level) (bit_at_above path level level small (omega arith)) ∙ zero_times (2 ^ level))))

      there : bit_at (path + 2 ^ level) level ≡ 1
      there = ap (λ k. bit_at k level) joined ∙ (bit_at_or path (2 ^ level) level
          ∙ ap₂ max (bit_at_above path level level small (omega arith)) (bit_at-pow_same level))

      lower : (i : ℕ) → i < level → bit_at (path + 2 ^ level) i ≡ bit_at path i
      lower i l = ap (λ k. bit_at k i) joined ∙ (bit_at_or path (2 ^ level) i
          ∙ (ap (max (bit_at path i)) (bit_at-pow_other level i (omega arith)) ∙ max-zero (bit_at path i)))

-- at the end of an order a point has all values of its path, and the other way about
pub point_whole : (order : List ℕ) (level path point : ℕ) → length order ≤ level → IsPointAbove order level path point → IsPointOf order path point
point_whole order level path point past h = record { small = h.small; bits = λ i l. h.bits i (omega arith) l }

pub point_above : (order : List ℕ) (level path point : ℕ) → path < 2 ^ level → IsPointOf order path point → IsPointAbove order level path point
point_above order level path point small h = grind (arith, bit_at_above)
