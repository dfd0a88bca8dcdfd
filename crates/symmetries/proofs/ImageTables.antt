-- The images of sets when variables are exchanged, with one variable after the other.
--     AreImagesTo n partners x images      the images of the sets of variables below x
--     images_more      with one variable more
use Rattle.std.proofs.Common.{◌≡◌, ℕ, ◌+◌, ◌-◌, ◌*◌, ◌^◌, ◌<◌, max, inl, inr, List, ◌++◌, map, length, slice_index, bit_or, sym, ap, ◌∙◌, subst, arith, zero-mul}
use Rattle.std.specs.Int.{bit_at}
use Rattle.std.proofs.lemmas.Bool.{cases_eq, cases_lt}
use Rattle.std.proofs.lemmas.List.{get_or-map, get_or_append_left, get_or-append_right, length-append, length-map}
use Rattle.std.proofs.lemmas.Grind.{pow_more}
use Rattle.std.proofs.Math.Pow.{pow-lt}
use Rattle.std.proofs.lemmas.Nat.{or_disjoint, or_lt}
use Rattle.std.proofs.lemmas.Nat.Bits.{and_pow, bit_at-pow_same, bit_at-pow_other, bit_at_above, bit_at_or}
use Rattle.symmetries.specs.Exchanges.{IsExchange}
use Rattle.symmetries.specs.Images.{IsImage}

-- the images of the sets of variables below x
pub record AreImagesTo (n : ℕ) (partners : List ℕ) (x : ℕ) (images : List ℕ) : Type 0 where
  pub long : length images ≡ 2 ^ x
  pub each : (S : ℕ) → S < 2 ^ x → IsImage n partners S (slice_index images S)

-- the bits of a set of variables below x, with x
bits_with : (S x y : ℕ) → S < 2 ^ x → bit_at (S + 2 ^ x) y ≡ max (bit_at S y) (bit_at (2 ^ x) y)
bits_with S x y l =
    ap (λ k. bit_at k y) (sym (or_disjoint S (2 ^ x) (and_pow S x ∙ ap (λ b. b * 2 ^ x) (bit_at_above S x x l (omega arith)) ∙ zero-mul (2 ^ x))))
    ∙ bit_at_or S (2 ^ x) y

-- a set's image with one variable more has that one's partner more
image_with : (n : ℕ) (partners : List ℕ) → IsExchange n partners → (S T x : ℕ) → S < 2 ^ x → x < n → IsImage n partners S T →
    IsImage n partners (S + 2 ^ x) (bit_or T (2 ^ slice_index partners x))
image_with n partners e S T x l inside image = record {
  small = or_lt n T (2 ^ slice_index partners x) image.small (pow-lt (e.inside x inside));
  bits = λ y less. bit_at_or T (2 ^ slice_index partners x) y ∙ (λ i. max (image.bits y less i) (own y less i))
      ∙ sym (bits_with S x (slice_index partners y) l);
}
  where
    own : (y : ℕ) → y < n → bit_at (2 ^ slice_index partners x) y ≡ bit_at (2 ^ x) (slice_index partners y)
    own y less =
        elim (cases_eq y (slice_index partners x)) [
          | inl s ↦
              ap (bit_at (2 ^ slice_index partners x)) s ∙ bit_at-pow_same (slice_index partners x)
              ∙ sym (ap (λ z. bit_at (2 ^ x) (slice_index partners z)) s ∙ ap (bit_at (2 ^ x)) (e.back x inside) ∙ bit_at-pow_same x)
          | inr ne ↦
              bit_at-pow_other (slice_index partners x) y ne
              ∙ sym (bit_at-pow_other x (slice_index partners y) (λ s. ne (sym (e.back y less) ∙ ap (slice_index partners) s)))
        ]

-- with one variable more
pub images_more : (n : ℕ) (partners : List ℕ) (x : ℕ) (images : List ℕ) → IsExchange n partners → x < n → AreImagesTo n partners x images →
    AreImagesTo n partners (x + 1) (images ++ map (λ image. bit_or image (2 ^ slice_index partners x)) images)
images_more n partners x images e inside are = record {
  long = length-append images others ∙ omega (arith, length-map images with, pow_more 2 x);
  each = λ S l. elim (cases_lt S (2 ^ x)) [
    | inl low ↦
        subst (IsImage n partners S) (sym (get_or_append_left images others 0 S (omega arith))) (are.each S low)
    | inr high ↦
        let p = pow_more 2 x in
        let low : S - 2 ^ x < 2 ^ x = omega arith in
        let is : slice_index (images ++ others) S ≡ bit_or (slice_index images (S - 2 ^ x)) (2 ^ slice_index partners x) =
        get_or-append_right images others (2 ^ x) S 0 are.long high
        ∙ get_or-map with images (S - 2 ^ x) 0 0 (omega arith) in
        subst (IsImage n partners S) (sym is)
        (subst (λ k. IsImage n partners k (bit_or (slice_index images (S - 2 ^ x)) (2 ^ slice_index partners x))) (omega arith)
        (image_with n partners e (S - 2 ^ x) (slice_index images (S - 2 ^ x)) x low inside (are.each (S - 2 ^ x) low)))
  ];
}
  where
    with : ℕ → ℕ
    with image = bit_or image (2 ^ slice_index partners x)

    others : List ℕ
    others = map with images
