-- Texts parted where a byte stands for the first time.
use Rattle.std.proofs.Common.{◌≡◌, ℕ, ◌+◌, ◌<◌, zero, suc, refl, ◌∙◌, ap, Bool, true, false, ◌==◌, List, [], ◌∷◌, ◌++◌, length, take, drop, ◌≤◌, Option, Some, None, position, sym, arith}
use Rattle.std.specs.List.{AllByRecursion, position_or_len}
use Rattle.std.proofs.lemmas.List.{take_all}
use Rattle.std.proofs.lemmas.List.Quantifiers.{position-Some}
use Rattle.std.proofs.lemmas.List.Elements.{All-from_recursion}
use Rattle.certificate.specs.Parsing.{Lacks, Cuts}

-- the first place that passes a test
first_place : (p : ℕ → Bool) (xs : List ℕ) (k : ℕ) → position p xs ≡ Some k → position_or_len p xs ≡ k
first_place p xs k e = grind arith

no_place : (p : ℕ → Bool) (xs : List ℕ) → position p xs ≡ None → length xs ≤ position_or_len p xs
no_place p xs e = grind arith

-- the byte does not stand before its first place
front_lacks : (byte : ℕ) (text : List ℕ) → AllByRecursion (λ b. (b == byte) ≡ false) (take (position_or_len (λ b. b == byte) text) text)
front_lacks byte [] = tt
front_lacks byte (b ∷ text) = by (b == byte) refl (front_lacks byte text) where
  by : (t : Bool) → (b == byte) ≡ t → AllByRecursion (λ x. (x == byte) ≡ false) (take (position_or_len (λ x. x == byte) text) text) →
      AllByRecursion (λ x. (x == byte) ≡ false) (take (position_or_len (λ x. x == byte) (b ∷ text)) (b ∷ text))
  by true e ih = rw e tt
  by false e ih = rw e (let next : 1 + position_or_len (λ x. x == byte) text ≡ suc (position_or_len (λ x. x == byte) text) = omega arith in rw next (e, ih))

-- and stands there
parted : (byte : ℕ) (text : List ℕ) → position_or_len (λ b. b == byte) text < length text →
    text ≡ take (position_or_len (λ b. b == byte) text) text ++ byte ∷ drop 1 (drop (position_or_len (λ b. b == byte) text) text)
parted byte [] within = absurd (omega arith)
parted byte (b ∷ text) within = by (b == byte) refl (parted byte text) where
  by : (t : Bool) → (b == byte) ≡ t →
      (position_or_len (λ x. x == byte) text < length text →
      text ≡ take (position_or_len (λ x. x == byte) text) text ++ byte ∷ drop 1 (drop (position_or_len (λ x. x == byte) text) text)) →
      b ∷ text ≡ take (position_or_len (λ x. x == byte) (b ∷ text)) (b ∷ text) ++ byte ∷ drop 1 (drop (position_or_len (λ x. x == byte) (b ∷ text)) (b ∷ text))
  by true e ih = let same : b ≡ byte = grind arith in rw e (rw same refl)
  by false e ih =
      let next : 1 + position_or_len (λ x. x == byte) text ≡ suc (position_or_len (λ x. x == byte) text) = omega arith in
      grind arith

drop_next : (k : ℕ) (xs : List ℕ) → drop 1 (drop k xs) ≡ drop (k + 1) xs
drop_next zero xs = refl
drop_next (suc k) [] = ap (λ n. drop n []) (let e : suc (k + 1) ≡ suc k + 1 = omega arith in e)
drop_next (suc k) (x ∷ xs) = drop_next k xs ∙ ap (λ n. drop n (x ∷ xs)) (let e : suc (k + 1) ≡ suc k + 1 = omega arith in e)

pub cut_at : (byte : ℕ) (text : List ℕ) (found : Option ℕ) (k : ℕ) → found ≡ position (λ b. b == byte) text → found ≡ Some k →
    Cuts byte text (take k text) (drop (k + 1) text)
cut_at byte text found k place is =
    let at : position_or_len (λ b. b == byte) text ≡ k = first_place (λ b. b == byte) text k (sym place ∙ is) in
    let within : k < length text = (position-Some (λ b. b == byte) text k 0 (sym place ∙ is)).0 in
    let next : drop 1 (drop k text) ≡ drop (k + 1) text = drop_next k text in
    (rw (sym next) (rw (sym at) (parted byte text (omega arith))), rw (sym at) (All-from_recursion _ _ (front_lacks byte text)))

-- and one that is not found doesn't stand in it
pub cut_nowhere : (byte : ℕ) (text : List ℕ) (found : Option ℕ) → found ≡ position (λ b. b == byte) text → found ≡ None → Lacks byte text
cut_nowhere byte text found place is =
    let beyond = no_place (λ b. b == byte) text (sym place ∙ is) in
    let whole : take (position_or_len (λ b. b == byte) text) text ≡ text = take_all _ text (omega arith) in
    let lacks = front_lacks byte text in All-from_recursion _ _ (rw whole at lacks)
