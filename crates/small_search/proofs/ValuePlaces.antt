-- The variables that values depend on, by their places.
--     mask_inside      a value over S depends on variables of S alone
--     place_bit      bit j stands for the variable at place j from the end of S
--     joined_bits      the places of a joined value over four variables
--     mask_of_places      the mask of a value's places is what it depends on
--     places_small, places_below      bits at k and above are 0, so the places are a small number
--     places_none, places_more      the value 0 depends on nothing; a smaller value over more variables
use Rattle.std.proofs.Common.{◌≡◌, ◌≢◌, ℕ, zero, suc, ◌+◌, ◌-◌, ◌*◌, ◌/◌, ◌%◌, ◌^◌, ◌<◌, ◌≤◌, Bool, true, false, cond, ◌||◌, inl, inr, List, [], ◌∷◌, length, get_or, max, refl, sym, ap, ap₂, ◌∙◌, arith, nat_eq, bit_or, eqb, eq-eqb}
use Rattle.std.specs.Int.{bit_at}
use Rattle.std.specs.Int.Bits.{or_self, or_zero_l, or_zero_r}
use Rattle.std.proofs.Math.Nat.{zero-div, zero-mod}
use Rattle.std.proofs.lemmas.Bool.{cases_eq, false≢true, true≢false}
use Rattle.std.proofs.Math.Nat.{mod-eq_of_lt, div-eq_of_lt}
use Rattle.std.proofs.lemmas.Nat.{or_lt, pow-add, pow_pos}
use Rattle.std.proofs.lemmas.Nat.Bits.{same_from_bits, bit_at_or, bit_at-lt, bit_at-zero, bit_at-pow_same, bit_at-pow_other}
use Rattle.definitions.specs.Orders.{has}
use Rattle.small_search.specs.Values.{size_of, mask_at, mask_over, places}
use Rattle.small_search.proofs.ValueLaws.{AreFresh, high_half, low_half}

-- a bit of what two halves and a variable have
joined_bit : (a b z i : ℕ) (e : Bool) → bit_at (bit_or (bit_or a b) (cond e 0 (2 ^ z))) i ≡ max (max (bit_at a i) (bit_at b i)) (cond e 0 (bit_at (2 ^ z) i))
joined_bit a b z i e = bit_at_or (bit_or a b) (cond e 0 (2 ^ z)) i ∙ ap₂ max (bit_at_or a b i) (last e)
  where
    last : (d : Bool) → bit_at (cond d 0 (2 ^ z)) i ≡ cond d 0 (bit_at (2 ^ z) i)
    last true = bit_at-zero i
    last false = refl

no_bit : (e : Bool) (z i : ℕ) → i ≢ z → cond e 0 (bit_at (2 ^ z) i) ≡ 0
no_bit true z i ne = refl
no_bit false z i ne = bit_at-pow_other z i ne

own_bit : (e : Bool) (z w : ℕ) → cond e 0 (bit_at (2 ^ z) z) ≡ cond e 0 (bit_at (2 ^ w) w)
own_bit true z w = refl
own_bit false z w = bit_at-pow_same z ∙ sym (bit_at-pow_same w)

-- a variable that is not the first is one of the others
not_first : (x y : ℕ) (S : List ℕ) → has (x ∷ S) y ≡ false → (y ≢ x) × (has S y ≡ false)
not_first x y S h = by (nat_eq y x) refl h
  where
    by : (b : Bool) → nat_eq y x ≡ b → (b || has S y) ≡ false → (y ≢ x) × (has S y ≡ false)
    by true e k = absurd (true≢false k)
    by false e k = (λ s. false≢true (sym e ∙ eq-eqb y x s), k)

pub mask_inside : (S : List ℕ) (v y : ℕ) → has S y ≡ false → bit_at (mask_over S v) y ≡ 0
unfolding mask_over
mask_inside [] v y h = bit_at-zero y
mask_inside (x ∷ S) v y h =
    let t = not_first x y S h in
    joined_bit (mask_over S (v % size_of S)) (mask_over S (v / size_of S)) x y (nat_eq (v % size_of S) (v / size_of S))
    ∙ ap₂ max (ap₂ max (mask_inside S (v % size_of S) y t.1) (mask_inside S (v / size_of S) y t.1)) (no_bit _ x y t.0)

pub places_small : (k v i : ℕ) → k ≤ i → bit_at (places k v) i ≡ 0
unfolding places
places_small zero v i l = bit_at-zero i
places_small (suc k) v i l =
    joined_bit (places k (v % 2 ^ 2 ^ k)) (places k (v / 2 ^ 2 ^ k)) k i (nat_eq (v % 2 ^ 2 ^ k) (v / 2 ^ 2 ^ k))
    ∙ ap₂ max (ap₂ max (places_small k (v % 2 ^ 2 ^ k) i (omega arith)) (places_small k (v / 2 ^ 2 ^ k) i (omega arith)))
    (no_bit _ k i (λ e. let f : ⊥ = omega (arith, e) in f))

pub places_none : (k : ℕ) → places k 0 ≡ 0
unfolding places
places_none zero = refl
places_none (suc k) =
    ap₂ (λ i j. bit_or (bit_or (places k i) (places k j)) (cond (nat_eq i j) 0 (2 ^ k))) (zero-mod (2 ^ 2 ^ k)) (zero-div (2 ^ 2 ^ k))
    ∙ ap₂ (λ i j. bit_or (bit_or i j) 0) (places_none k) (places_none k)

-- a smaller value, over one variable more
pub places_more : (k v j : ℕ) → v < 2 ^ 2 ^ k → j < k → bit_at (places (suc k) v) j ≡ bit_at (places k v) j
unfolding places
places_more k v j small l =
    joined_bit (places k (v % 2 ^ 2 ^ k)) (places k (v / 2 ^ 2 ^ k)) k j (nat_eq (v % 2 ^ 2 ^ k) (v / 2 ^ 2 ^ k))
    ∙ ap₂ max (ap₂ (λ a b. max (bit_at (places k a) j) (bit_at b j)) (mod-eq_of_lt small)
    (ap (places k) (div-eq_of_lt small) ∙ places_none k)) (no_bit _ k j (λ e. let f : ⊥ = omega (arith, e) in f))
    ∙ max_none (bit_at (places k v) j)
  where
    max_none : (a : ℕ) → max (max a (bit_at 0 j)) 0 ≡ a
    max_none a = let z = bit_at-zero j in omega (arith, z)

-- what is listed is there
listed : (T : List ℕ) (i y : ℕ) → i < length T → get_or T i 0 ≡ y → has T y ≡ true
listed [] i y l e = absurd (omega arith)
listed (z ∷ T) zero y l e = ap (λ b. b || has T y) (eq-eqb y z (sym e))
listed (z ∷ T) (suc i) y l e = by (nat_eq y z) (listed T i y (omega arith) e)
  where
    by : (b : Bool) → has T y ≡ true → (b || has T y) ≡ true
    by true h = refl
    by false h = h

pub place_bit : (n : ℕ) (S : List ℕ) → AreFresh n S → (v j : ℕ) → j < length S →
    bit_at (places (length S) v) j ≡ bit_at (mask_over S v) (get_or S (length S - 1 - j) 0)
unfolding places mask_over
place_bit n [] fresh v j l = absurd (omega arith)
place_bit n (x ∷ S) fresh v j l =
    elim (cases_eq j (length S)) [
      | inl e ↦
          ap (bit_at (places (suc (length S)) v)) e ∙ here
          ∙ sym (ap (λ i. bit_at (mask_over (x ∷ S) v) (get_or (x ∷ S) i 0)) (let f : suc (length S) - 1 - j ≡ 0 = omega (arith, e) in f))
      | inr ne ↦
          below (omega (arith, ne)) (λ u k. place_bit n S fresh.2 u j k)
          ∙ sym (ap (λ i. bit_at (mask_over (x ∷ S) v) (get_or (x ∷ S) i 0))
          (let f : suc (length S) - 1 - j ≡ suc (length S - 1 - j) = omega (arith, ne, l) in f))
    ]
  where
    low : ℕ
    low = v % size_of S

    high : ℕ
    high = v / size_of S

    here : bit_at (places (suc (length S)) v) (length S) ≡ bit_at (mask_over (x ∷ S) v) x
    here =
        joined_bit (places (length S) low) (places (length S) high) (length S) (length S) (nat_eq low high)
        ∙ ap₂ max (ap₂ max (places_small (length S) low (length S) (omega arith)) (places_small (length S) high (length S) (omega arith)))
        (own_bit (nat_eq low high) (length S) x)
        ∙ sym (joined_bit (mask_over S low) (mask_over S high) x x (nat_eq low high)
        ∙ ap₂ max (ap₂ max (mask_inside S low x fresh.1) (mask_inside S high x fresh.1)) refl)

    below : j < length S → ((u : ℕ) → j < length S → bit_at (places (length S) u) j ≡ bit_at (mask_over S u) (get_or S (length S - 1 - j) 0)) →
        bit_at (places (suc (length S)) v) j ≡ bit_at (mask_over (x ∷ S) v) (get_or S (length S - 1 - j) 0)
    below lt rest =
        joined_bit (places (length S) low) (places (length S) high) (length S) j (nat_eq low high)
        ∙ ap₂ max (ap₂ max (rest low lt) (rest high lt))
        (no_bit (nat_eq low high) (length S) j (λ e. let f : ⊥ = omega (arith, e) in f)
        ∙ sym (no_bit (nat_eq low high) x (get_or S (length S - 1 - j) 0) other))
        ∙ sym (joined_bit (mask_over S low) (mask_over S high) x (get_or S (length S - 1 - j) 0) (nat_eq low high))
      where
        other : get_or S (length S - 1 - j) 0 ≢ x
        other e = false≢true (sym fresh.1 ∙ listed S (length S - 1 - j) x (omega arith) e)

pub places_below : (k v : ℕ) → places k v < 2 ^ k
unfolding places
places_below zero v = omega arith
places_below (suc k) v =
    let w : 2 ^ suc k ≡ 2 ^ k + 2 ^ k = ap (λ i. 2 ^ i) (let e : suc k ≡ k + 1 = omega arith in e) ∙ pow-add 2 k 1 ∙ omega arith in
    let p = pow_pos k in
    let a = places_below k (v % 2 ^ 2 ^ k) in
    let b = places_below k (v / 2 ^ 2 ^ k) in
    or_lt (suc k) (bit_or (places k (v % 2 ^ 2 ^ k)) (places k (v / 2 ^ 2 ^ k))) (cond (nat_eq (v % 2 ^ 2 ^ k) (v / 2 ^ 2 ^ k)) 0 (2 ^ k))
    (or_lt (suc k) (places k (v % 2 ^ 2 ^ k)) (places k (v / 2 ^ 2 ^ k)) (omega (arith, a, w)) (omega (arith, b, w)))
    (last (nat_eq (v % 2 ^ 2 ^ k) (v / 2 ^ 2 ^ k)) w p)
  where
    last : (d : Bool) → 2 ^ suc k ≡ 2 ^ k + 2 ^ k → 0 < 2 ^ k → cond d 0 (2 ^ k) < 2 ^ suc k
    last true w p = omega (arith, w, p)
    last false w p = omega (arith, w, p)

-- ---- the variables at places

same_places : (S : List ℕ) (q r : ℕ) → ((i : ℕ) → i < length S → bit_at q i ≡ bit_at r i) → mask_at S q ≡ mask_at S r
unfolding mask_at
same_places [] q r h = refl
same_places (x ∷ S) q r h =
    ap₂ (λ m b. bit_or m (cond (eqb b 1) (2 ^ x) 0)) (same_places S q r (λ i l. h i (omega arith))) (h (length S) (omega arith))

-- four masks, two by two
turned : (a b c d : ℕ) → bit_or (bit_or a b) (bit_or c d) ≡ bit_or (bit_or a c) (bit_or b d)
turned a b c d = same_from_bits _ _ (λ i.
    bit_at_or (bit_or a b) (bit_or c d) i ∙ ap₂ max (bit_at_or a b i) (bit_at_or c d i)
    ∙ middle (bit_at a i) (bit_at b i) (bit_at c i) (bit_at d i)
    ∙ sym (bit_at_or (bit_or a c) (bit_or b d) i ∙ ap₂ max (bit_at_or a c i) (bit_at_or b d i)))
  where
    middle : (p q r s : ℕ) → max (max p q) (max r s) ≡ max (max p r) (max q s)
    middle p q r s = omega arith

both_places : (S : List ℕ) (q r : ℕ) → mask_at S (bit_or q r) ≡ bit_or (mask_at S q) (mask_at S r)
unfolding mask_at
both_places [] q r = sym (or_zero_r 0)
both_places (x ∷ S) q r =
    ap₂ bit_or (both_places S q r)
    (last (bit_at q (length S)) (bit_at r (length S)) (bit_at-lt q (length S)) (bit_at-lt r (length S)) (bit_at_or q r (length S)))
    ∙ turned (mask_at S q) (mask_at S r) (cond (eqb (bit_at q (length S)) 1) (2 ^ x) 0) (cond (eqb (bit_at r (length S)) 1) (2 ^ x) 0)
  where
    last : (a b : ℕ) → a < 2 → b < 2 → bit_at (bit_or q r) (length S) ≡ max a b →
        cond (eqb (bit_at (bit_or q r) (length S)) 1) (2 ^ x) 0 ≡ bit_or (cond (eqb a 1) (2 ^ x) 0) (cond (eqb b 1) (2 ^ x) 0)
    last zero zero l m e = ap (λ k. cond (eqb k 1) (2 ^ x) 0) e ∙ sym (or_zero_r 0)
    last zero (suc zero) l m e = ap (λ k. cond (eqb k 1) (2 ^ x) 0) e ∙ sym (or_zero_l (2 ^ x))
    last (suc zero) zero l m e = ap (λ k. cond (eqb k 1) (2 ^ x) 0) e ∙ sym (or_zero_r (2 ^ x))
    last (suc zero) (suc zero) l m e = ap (λ k. cond (eqb k 1) (2 ^ x) 0) e ∙ sym (or_self (2 ^ x))
    last (suc (suc a)) b l m e = absurd (omega arith)
    last zero (suc (suc b)) l m e = absurd (omega arith)
    last (suc zero) (suc (suc b)) l m e = absurd (omega arith)

-- the places of a value are those of the variables that it depends on
pub mask_of_places : (S : List ℕ) (v : ℕ) → mask_at S (places (length S) v) ≡ mask_over S v
unfolding mask_at mask_over places
mask_of_places [] v = refl
mask_of_places (x ∷ S) v =
    ap₂ (λ m b. bit_or m (cond (eqb b 1) (2 ^ x) 0))
    (same_places S (places (suc (length S)) v) (bit_or (places (length S) low) (places (length S) high)) below
    ∙ both_places S (places (length S) low) (places (length S) high) ∙ ap₂ bit_or (mask_of_places S low) (mask_of_places S high))
    here
    ∙ ap (bit_or (bit_or (mask_over S low) (mask_over S high))) (turn (nat_eq low high))
  where
    low : ℕ
    low = v % size_of S

    high : ℕ
    high = v / size_of S

    below : (i : ℕ) → i < length S → bit_at (places (suc (length S)) v) i ≡ bit_at (bit_or (places (length S) low) (places (length S) high)) i
    below i l =
        joined_bit (places (length S) low) (places (length S) high) (length S) i (nat_eq low high)
        ∙ ap (max (max (bit_at (places (length S) low) i) (bit_at (places (length S) high) i)))
        (no_bit (nat_eq low high) (length S) i (λ e. let f : ⊥ = omega (arith, e, l) in f))
        ∙ (let m : max (max (bit_at (places (length S) low) i) (bit_at (places (length S) high) i)) 0 ≡ max (bit_at (places (length S) low) i)
        (bit_at (places (length S) high) i) = omega arith in m)
        ∙ sym (bit_at_or (places (length S) low) (places (length S) high) i)

    here : bit_at (places (suc (length S)) v) (length S) ≡ cond (nat_eq low high) 0 1
    here =
        joined_bit (places (length S) low) (places (length S) high) (length S) (length S) (nat_eq low high)
        ∙ ap₂ max (ap₂ max (places_small (length S) low (length S) (omega arith)) (places_small (length S) high (length S) (omega arith)))
        (own (nat_eq low high))
        ∙ max_none (cond (nat_eq low high) 0 1)
      where
        own : (b : Bool) → cond b 0 (bit_at (2 ^ length S) (length S)) ≡ cond b 0 1
        own true = refl
        own false = bit_at-pow_same (length S)

        max_none : (a : ℕ) → max (max 0 0) a ≡ a
        max_none a = omega arith

    turn : (b : Bool) → cond (eqb (cond b 0 1) 1) (2 ^ x) 0 ≡ cond b 0 (2 ^ x)
    turn true = refl
    turn false = refl

-- the places of a joined value over four variables
pub joined_bits : (low high : ℕ) → low < 256 → high < 256 →
    places 4 (low + high * 256) ≡ bit_or (bit_or (places 3 low) (places 3 high)) (cond (nat_eq low high) 0 8)
unfolding places
joined_bits low high l m =
    ap₂ (λ i j. bit_or (bit_or (places 3 i) (places 3 j)) (cond (nat_eq i j) 0 8)) (low_half low high 256 l) (high_half low high 256 l)
