-- Elements of mapped lists and of lists side by side.
--     map_get, get_map      an element of a mapped list
--     zip_at, zip_from      lists side by side, place by place
--     same_key      keys that differ stand once
use Rattle.std.proofs.Common.{◌≡◌, ℕ, zero, suc, ◌<◌, false, List, [], ◌∷◌, map, length, get_or, slice_get, refl, sym, ap, ◌∙◌, arith, subst, Some}
use Rattle.std.specs.List.{AllZip, AllByRecursion, IsDistinct}
use Rattle.std.proofs.lemmas.Bool.{true≢false}
use Rattle.std.proofs.lemmas.Option.{same_Some}
use Rattle.definitions.specs.Widths.{same_pair}
use Rattle.definitions.proofs.Widths.ClassPairs.{pair_decides}

pub map_get : {X Y : Type 0} (f : X → Y) (xs : List X) (i : ℕ) (x : X) → slice_get xs i ≡ Some x → slice_get (map f xs) i ≡ Some (f x)
map_get f [] i x e = cc
map_get f (y ∷ ys) zero x e = ap (λ z. Some (f z)) (same_Some y x e)
map_get f (y ∷ ys) (suc i) x e = map_get f ys i x e

pub get_map : {X Y : Type 0} (f : X → Y) (xs : List X) (i : ℕ) (y : Y) → slice_get (map f xs) i ≡ Some y → (x : X) × (slice_get xs i ≡ Some x) × (y ≡ f x)
get_map f [] i y e = cc
get_map f (x ∷ xs) zero y e = (x, refl, sym (same_Some (f x) y e))
get_map f (x ∷ xs) (suc i) y e = get_map f xs i y e

pub zip_at : {A B : Type 0} (R : A → B → Type 0) (xs : List A) (ys : List B) → AllZip R xs ys → (k : ℕ) (d : A) (e : B) → k < length ys →
    R (get_or xs k d) (get_or ys k e)
zip_at R [] [] z k d e h = absurd (omega arith)
zip_at R [] (y ∷ ys) z k d e h = absurd z
zip_at R (x ∷ xs) [] z k d e h = absurd z
zip_at R (x ∷ xs) (y ∷ ys) z zero d e h = z.0
zip_at R (x ∷ xs) (y ∷ ys) z (suc k) d e h = zip_at R xs ys z.1 k d e (omega arith)

pub zip_from : {A B : Type 0} (R : A → B → Type 0) (xs : List A) (ys : List B) (d : A) (e : B) → length xs ≡ length ys →
    ((k : ℕ) → k < length ys → R (get_or xs k d) (get_or ys k e)) → AllZip R xs ys
zip_from R [] [] d e l h = tt
zip_from R [] (y ∷ ys) d e l h = absurd (omega arith)
zip_from R (x ∷ xs) [] d e l h = absurd (omega arith)
zip_from R (x ∷ xs) (y ∷ ys) d e l h = (h 0 (omega arith), zip_from R xs ys d e (omega arith) (λ k g. h (suc k) (omega arith)))

-- a key that each of the others differs from isn't among them
apart_get : (u : ℕ × ℕ) (ks : List (ℕ × ℕ)) → AllByRecursion (λ v. same_pair u v ≡ false) ks → (i : ℕ) → slice_get ks i ≡ Some u → {X : Type 0} → X
apart_get u [] h i e = cc
apart_get u (k ∷ ks) h zero e = absurd (true≢false (sym ((pair_decides u k).1 (sym (same_Some k u e))) ∙ h.0))
apart_get u (k ∷ ks) h (suc i) e = apart_get u ks h.1 i e

pub same_key : (ks : List (ℕ × ℕ)) → IsDistinct same_pair ks → (i j : ℕ) (u : ℕ × ℕ) → slice_get ks i ≡ Some u → slice_get ks j ≡ Some u → i ≡ j
unfolding IsDistinct
same_key [] h i j u a b = cc
same_key (k ∷ ks) h zero zero u a b = refl
same_key (k ∷ ks) h zero (suc j) u a b = apart_get u ks (subst (λ v. AllByRecursion (λ w. same_pair v w ≡ false) ks) (same_Some k u a) h.0) j b
same_key (k ∷ ks) h (suc i) zero u a b = apart_get u ks (subst (λ v. AllByRecursion (λ w. same_pair v w ≡ false) ks) (same_Some k u b) h.0) i a
same_key (k ∷ ks) h (suc i) (suc j) u a b = ap suc (same_key ks h.1 i j u a b)
