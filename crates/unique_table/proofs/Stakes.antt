-- Stakes of a store, and their sums over all views.
use Rattle.std.proofs.Common.{◌≡◌, ◌≢◌, ℕ, zero, suc, ◌+◌, ◌-◌, ◌*◌, ◌^◌, ◌<◌, ◌≤◌, ◌++◌, List, [], ◌∷◌, set, get_or, length, sum_by, sym, ap, ◌∙◌, subst, arith, add-mul, mul-add, mul_assoc, mul_comm, mul_right_comm, mul-pos, zero-mul, one-mul, mul-le-mul_right, le_of_mul-le-mul_right}
use Rattle.std.proofs.lemmas.Nat.{pow-add, pow_pos}
use Rattle.std.proofs.lemmas.List.Sums.{sum_by-set, sum_by_push, get_or-le-sum_by}
use mathlib.Core.Option.{some, some-injective, some-ne-none}
use lib.ListN.{get_elem?}
use Rattle.atomic_table.proofs.Lists.{set_else}
use Rattle.unique_table.specs.declared.session.Stake.{Stake}
use Rattle.unique_table.specs.declared.session.View.{View}
use Rattle.unique_table.specs.Stakes.{whole, half, joined, IsWhole, IsNoLess, amount, AreWithinWhole, HalvesJoin}

-- ---- stakes

pub no_less_same : (s t : Stake) → t ≡ s → IsNoLess s t
no_less_same s t e = subst (λ (z : Stake). IsNoLess s z) (sym e) (omega arith)

pub no_less_trans : (a b c : Stake) → IsNoLess a b → IsNoLess b c → IsNoLess a c
no_less_trans a b c f g = le_of_mul-le-mul_right along (pow_pos b.halvings)
  where
    A : ℕ
    A = 2 ^ a.halvings

    B : ℕ
    B = 2 ^ b.halvings

    C : ℕ
    C = 2 ^ c.halvings

    along : a.units * C * B ≤ c.units * A * B
    along =
        let x = mul_right_comm a.units B C in let y = mul_right_comm b.units A C in let z = mul_right_comm c.units B A in
        omega (arith, mul-le-mul_right C f, mul-le-mul_right A g, x, y, z)

pub no_less_first : (s t : Stake) → IsNoLess s (joined s t)
no_less_first s t = grind (arith, pow-add, mul_assoc, mul_right_comm, add-mul)

pub no_less_second : (s t : Stake) → IsNoLess t (joined s t)
no_less_second s t = grind (arith, pow-add, mul_assoc, add-mul)

pub joined_some : (s t : Stake) → 0 < s.units → 0 < (joined s t).units
joined_some s t some_part = let x = mul-pos some_part (pow_pos t.halvings) in omega (arith, x)

-- half of a stake is the whole only if the stake is
pub half_whole : (s : Stake) → IsWhole (half s) → IsWhole s
half_whole s w = let e = pow-add 2 s.halvings 1 in omega (arith, e, w)

pub stays_whole : (s t : Stake) → IsNoLess s t → IsWhole s → IsWhole t
stays_whole s t more w = grind (arith, mul-le-mul_right, mul_comm, le_of_mul-le-mul_right, pow_pos)

-- twice the units, beside two other factors
twice : (q h x : ℕ) → q * 2 ^ (h + 1) * x ≡ q * x * 2 ^ h * 2
twice q h x = ap (λ (z : ℕ). q * z * x) (pow-add 2 h 1)
    ∙ (ap (λ (z : ℕ). z * x) (sym (mul_assoc q (2 ^ h) 2))
    ∙ (mul_right_comm (q * 2 ^ h) 2 x ∙ ap (λ (z : ℕ). z * 2) (mul_right_comm q (2 ^ h) x)))

pub halves_join : HalvesJoin
halves_join s a b f g =
    let x' = twice a.units s.halvings (2 ^ b.halvings) in let y' = twice b.units s.halvings (2 ^ a.halvings) in
    let turn = mul_right_comm s.units (2 ^ b.halvings) (2 ^ a.halvings) in
    let e : s.units * 2 ^ (a.halvings + b.halvings) ≡ s.units * 2 ^ a.halvings * 2 ^ b.halvings =
    ap (λ (z : ℕ). s.units * z) (pow-add 2 a.halvings b.halvings) ∙ sym (mul_assoc s.units (2 ^ a.halvings) (2 ^ b.halvings)) in
    let d = add-mul (a.units * 2 ^ b.halvings) (b.units * 2 ^ a.halvings) (2 ^ s.halvings) in
    omega (arith, mul-le-mul_right (2 ^ b.halvings) f, mul-le-mul_right (2 ^ a.halvings) g, x', y', turn, e, d)

-- ---- amounts

two_halves : (k : ℕ) (s : Stake) → s.halvings + 1 ≤ k → amount k (half s) + amount k (half s) ≡ amount k s
two_halves k s low =
    let n : ℕ = k - (s.halvings + 1) in
    let twice : 2 ^ (k - s.halvings) ≡ 2 ^ n + 2 ^ n = ap (λ (z : ℕ). 2 ^ z) (omega (arith, low)) ∙ (pow-add 2 n 1 ∙ omega arith) in
    sym (mul-add s.units (2 ^ n) (2 ^ n)) ∙ ap (λ (z : ℕ). s.units * z) (sym twice)

both : (k : ℕ) (s t : Stake) → s.halvings + t.halvings ≤ k → amount k (joined s t) ≡ amount k s + amount k t
both k s t low =
    let n : ℕ = k - (s.halvings + t.halvings) in
    let first : 2 ^ t.halvings * 2 ^ n ≡ 2 ^ (k - s.halvings) = sym (pow-add 2 t.halvings n) ∙ ap (λ (z : ℕ). 2 ^ z) (omega (arith, low)) in
    let second : 2 ^ s.halvings * 2 ^ n ≡ 2 ^ (k - t.halvings) = sym (pow-add 2 s.halvings n) ∙ ap (λ (z : ℕ). 2 ^ z) (omega (arith, low)) in
    let x = mul_assoc s.units (2 ^ t.halvings) (2 ^ n) ∙ ap (λ (z : ℕ). s.units * z) first in
    let y = mul_assoc t.units (2 ^ s.halvings) (2 ^ n) ∙ ap (λ (z : ℕ). t.units * z) second in
    add-mul (s.units * 2 ^ t.halvings) (t.units * 2 ^ s.halvings) (2 ^ n) ∙ omega (arith, x, y)

whole_amount : (k : ℕ) (s : Stake) → s.halvings ≤ k → IsWhole s → 2 ^ k ≤ amount k s
whole_amount k s low w =
    let e : 2 ^ k ≡ 2 ^ s.halvings * 2 ^ (k - s.halvings) = ap (λ (z : ℕ). 2 ^ z) (omega (arith, low)) ∙ pow-add 2 s.halvings (k - s.halvings) in
    let h : 2 ^ s.halvings * 2 ^ (k - s.halvings) ≤ amount k s = mul-le-mul_right (2 ^ (k - s.halvings)) w in omega (arith, e, h)

-- ---- sums over lists

module _ {A : Type 0} (f : A → ℕ) where
  there : (l : List A) (i : ℕ) (v : A) → get_elem? l i ≡ some v → (i < length l) × (get_or l i v ≡ v)
  there [] i v e = absurd (some-ne-none v (sym e))
  there (x ∷ xs) zero v e = ((omega arith), some-injective x v e)
  there (x ∷ xs) (suc i) v e = let r = there xs i v e in ((let low = r.0 in omega (arith, low)), r.1)

  sum_at : (l : List A) (i : ℕ) (v w : A) → get_elem? l i ≡ some v → sum_by f (set l i w) + f v ≡ sum_by f l + f w
  sum_at l i v w e = let t = there l i v e in subst (λ (z : A). sum_by f (set l i w) + f z ≡ sum_by f l + f w) t.1 (sum_by-set f l i w v t.0)

  sum_one : (l : List A) (i : ℕ) (v : A) → get_elem? l i ≡ some v → f v ≤ sum_by f l
  sum_one l i v e = let t = there l i v e in subst (λ (z : A). f z ≤ sum_by f l) t.1 (get_or-le-sum_by f l i v t.0)

  -- two different elements, with one that counts nothing
  sum_two : (l : List A) (i j : ℕ) (v w none : A) → f none ≡ 0 → j ≢ i → get_elem? l i ≡ some v → get_elem? l j ≡ some w → f v + f w ≤ sum_by f l
  sum_two l i j v w none e n at at' =
      let a = sum_at l i v none at in let b = sum_one (set l i none) j w (set_else l i j none n ∙ at') in omega (arith, a, b, e)

-- ---- views

-- the first session
pub first_within : (v : View) → v.stake ≡ whole → AreWithinWhole (v ∷ [])
first_within v first k large =
    let e : amount k v.stake ≡ 2 ^ k = ap (amount k) first ∙ (one-mul (2 ^ (k - 0)) ∙ ap (λ (z : ℕ). 2 ^ z) (omega arith)) in omega (arith, e)

abbrev halvings : View → ℕ
halvings v = v.stake.halvings

abbrev part : ℕ → View → ℕ
part k v = amount k v.stake

module _ (views : List View) (id : ℕ) (v : View) (at : get_elem? views id ≡ some v) (within : AreWithinWhole views) where
  pub within_same : (w : View) → w.stake ≡ v.stake → AreWithinWhole (set views id w)
  within_same w same k large = grind (arith, sum_at, halvings, part)

  pub within_split : (l r : View) → l.stake ≡ half v.stake → r.stake ≡ half v.stake → AreWithinWhole (set views id l ++ r ∷ [])
  within_split l r first second k large = grind (arith, sum_at, halvings, part, sum_by_push, set, two_halves)

  pub within_join : (other : ℕ) (w both_views left : View) → other ≢ id → get_elem? views other ≡ some w → both_views.stake ≡ joined v.stake w.stake →
      left.stake ≡ record { units = 0; halvings = 0 } → AreWithinWhole (set (set views id both_views) other left)
  within_join other w j left ne at' sum_is none k large =
      let again = set_else views id other j ne ∙ at' in
      let h = sum_at halvings views id v j at in let a = sum_at (part k) views id v j at in
      let h' = sum_at halvings (set views id j) other w left again in let a' = sum_at (part k) (set views id j) other w left again in
      let e = ap (λ (z : Stake). z.halvings) sum_is in let e' = ap (λ (z : Stake). z.halvings) none in
      let two = sum_two halvings views id other v w left e' ne at at' in
      let d = ap (amount k) sum_is ∙ both k v.stake w.stake (omega (arith, h, h', e, e', two, large)) in
      let old = within k (omega (arith, h, h', e, e', large)) in omega (arith, a, a', d, ap (amount k) none ∙ zero-mul (2 ^ (k - 0)), old)

  pub no_other : (other : ℕ) (w left : View) → left.stake ≡ record { units = 0; halvings = 0 } → other ≢ id → get_elem? views other ≡ some w →
      0 < v.stake.units → IsWhole w.stake → ⊥
  no_other other w left none ne at' some_part w_whole =
      let k : ℕ = sum_by halvings views in
      let two = sum_two (part k) views id other v w left (ap (amount k) none ∙ zero-mul (2 ^ (k - 0))) ne at at' in
      let some_amount = mul-pos some_part (pow_pos (k - v.stake.halvings)) in
      omega (arith, within k (omega arith), two, whole_amount k w.stake (sum_one halvings views other w at') w_whole, some_amount)
