-- Pairs that are put in a place, as many as it has room for.
--     pair_more      one pair more
--     front_of      all that there is room for
use Rattle.std.proofs.Common.{◌≡◌, ◌⊎◌, ℕ, ◌+◌, ◌<◌, ◌≤◌, List, length, get_or, map, set, take, drop, min, ◌++◌, sym, ◌∙◌, ap, inl, inr, arith}
use Rattle.std.proofs.lemmas.List.{length-map, take_all, drop_all, get_or-map}
use Rattle.std.proofs.lemmas.List.Edits.{paste_more}
use lib.Seq.{paste}
use Rattle.definitions.specs.Pairs.{Pair}
use Rattle.minorder_c.specs.declared.above.AbovePair.{AbovePair}
use Rattle.minorder_c.specs.Stated.{pair_for_c, AreFront}

pub pair_more : (d : List AbovePair) (pairs : List Pair) (i : ℕ) (p : Pair) (z : Pair) → i < length d → i < length pairs → get_or pairs i z ≡ p →
    set (paste d 0 (map pair_for_c pairs) i) i (pair_for_c p) ≡ paste d 0 (map pair_for_c pairs) (i + 1)
pair_more d pairs i p z a b e =
    let s = map pair_for_c pairs in
    let at : 0 + i ≡ i = omega arith in
    let here : get_or s i (pair_for_c z) ≡ pair_for_c p = get_or-map pair_for_c pairs i z (pair_for_c z) b ∙ ap pair_for_c e in
    let step = paste_more d 0 s i (pair_for_c z) (omega arith) (omega (arith, length-map pairs pair_for_c)) in
    ap (λ (k : ℕ). set (paste d 0 s i) k (pair_for_c p)) (sym at) ∙ ap (λ (v : AbovePair). set (paste d 0 s i) (0 + i) v) (sym here) ∙ step

reaches : (a b n : ℕ) → n ≡ min a b → (a ≤ n) ⊎ (b ≤ n)
reaches a b n e = grind arith

pub front_of : (d : List AbovePair) (pairs : List Pair) (n : ℕ) → n ≡ min (length d) (length pairs) →
    AreFront pairs d (paste d 0 (map pair_for_c pairs) n)
front_of d pairs n e =
    let s = map pair_for_c pairs in
    let long : length s ≡ length pairs = length-map pairs pair_for_c in
    let at : 0 + n ≡ n = omega arith in
    elim (reaches (length d) (length pairs) n e) [
      | inl short ↦
          let m : n ≡ length d = omega arith in
          ap (λ (k : ℕ). take k s ++ drop (0 + k) d) m
          ∙ ap (λ (r : List AbovePair). take (length d) s ++ r) (drop_all (0 + length d) d (omega arith) ∙ sym (drop_all (length pairs) d (omega arith)))
      | inr all ↦
          let m : n ≡ length pairs = omega arith in
          ap (λ (k : ℕ). take n s ++ drop k d) (at ∙ m)
          ∙ ap (λ (r : List AbovePair). r ++ drop (length pairs) d) (take_all n s (omega arith) ∙ sym (take_all (length d) s (omega arith)))
    ]
