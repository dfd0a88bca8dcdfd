use Rattle.std.proofs.Common.{◌≡◌, ℕ, zero, suc, ◌+◌, ◌-◌, ◌*◌, ◌/◌, ◌%◌, ◌^◌, ◌<◌, ◌≢◌, inl, inr, replicate, List, [], ◌∷◌, length, get_or, set, max, refl, sym, ap, ◌∙◌, arith, subst, w16, bit_and, bit_or, cond, eqb}
use Rattle.std.specs.Int.{bit_at, trailing_zeros}
use Rattle.std.proofs.lemmas.Bool.{cases_eq}
use Rattle.std.proofs.lemmas.Grind.{common_steps}
use Rattle.std.proofs.lemmas.List.{length-set, get_or-set_same, get_or-set_other}
use Rattle.std.proofs.lemmas.Nat.{one_shl}
use Rattle.std.proofs.lemmas.Nat.Bits.{bit_at-lt, bit_at_or, same_from_bits, shr_and_one}
use Rattle.std.specs.Int.Bits.{or_zero_l, or_zero_r}
use Rattle.definitions.specs.Orders.{members}
use Rattle.definitions.proofs.Bits.Ones.{ones-members}
use Rattle.small_search.specs.Values.{mask_at}
use Rattle.small_search.proofs.FourVariables.{IsTaken, lowest_taken}
use Rattle.small_search.proofs.classes.masks_by_places.Goals as goal

pub loop-i-init : goal.loop-i-init
loop-i-init c =
    let o = ones-members 16 c.args.set (omega arith) in
    let r = c.requires in
    record {
      left = omega (arith, o, r);
      long = refl;
      each = λ q l. ap (λ k. bit_or k (mask_at (members 16 c.args.set) q)) (none q l) ∙ or_zero_l (mask_at (members 16 c.args.set) q);
    }
  where
    none : (q : ℕ) → q < 16 → get_or {A = ℕ} (replicate 16 0) q 0 ≡ 0
    none q l = grind (arith, common_steps)

taken : (i rest : ℕ) → i + length (members 16 rest) ≡ 4 → i < 4 → rest < 65536 → IsTaken rest
taken i rest left lt small = lowest_taken rest small (omega arith)

-- one more variable
moved : (m v s : ℕ) → bit_or (bit_or m v) s ≡ bit_or m (bit_or s v)
moved m v s = same_from_bits _ _ (λ i.
    bit_at_or (bit_or m v) s i ∙ ap (λ k. max k (bit_at s i)) (bit_at_or m v i)
    ∙ middle (bit_at m i) (bit_at v i) (bit_at s i)
    ∙ sym (bit_at_or m (bit_or s v) i ∙ ap (max (bit_at m i)) (bit_at_or s v i)))
  where
    middle : (p q r : ℕ) → max (max p q) r ≡ max p (max r q)
    middle p q r = omega arith

added : (S : List ℕ) (x m v q set' : ℕ) → v ≡ cond (eqb (bit_at q (length S)) 1) (2 ^ x) 0 → bit_or m (mask_at (x ∷ S) q) ≡ set' →
    bit_or (bit_or m v) (mask_at S q) ≡ set'
unfolding mask_at
added S x m v q set' is e = moved m v (mask_at S q) ∙ ap (λ k. bit_or m (bit_or (mask_at S q) k)) is ∙ e

-- a bit of the places, as the variable's mask
bit_is : (q k x : ℕ) → x < 16 → bit_and (q / 2 ^ k) 1 * 2 ^ x % 2 ^ 16 ≡ cond (eqb (bit_at q k) 1) (2 ^ x) 0
bit_is q k x small = by (bit_at q k) (bit_at-lt q k) (shr_and_one q k)
  where
    by : (b : ℕ) → b < 2 → bit_and (q / 2 ^ k) 1 ≡ b → bit_and (q / 2 ^ k) 1 * 2 ^ x % 2 ^ 16 ≡ cond (eqb b 1) (2 ^ x) 0
    by zero l e = ap (λ b. b * 2 ^ x % 2 ^ 16) e ∙ omega arith
    by (suc zero) l e = ap (λ b. b * 2 ^ x % 2 ^ 16) e ∙ one_shl x 16 small
    by (suc (suc b)) l e = absurd (omega arith)

pub loop-q-init : goal.loop-q-init
loop-q-init c = record { long = c.loop-i.invariant.long; done = λ q l. absurd (omega (arith, l)); ahead = λ q a l. c.loop-i.invariant.each q l }

pub overflow_shl-masks : goal.overflow_shl-masks
overflow_shl-masks c = (taken c.loop-i.i c.loop-i.rest c.loop-i.invariant.left c.loop-i-test.true (omega arith)).small

pub loop-q-preserved : goal.loop-q-preserved
loop-q-preserved c =
    let t = taken c.loop-i.i c.loop-i.rest c.loop-i.invariant.left c.loop-i-test.true (omega arith) in
    let rest = c.loop-i.rest in
    let x = trailing_zeros w16 rest in
    let S = members 16 (rest - 2 ^ x) in
    let masks = c.loop-q.masks in
    let p = c.loop-q.q in
    let left = c.loop-i.invariant.left in
    let long = c.loop-q.invariant.long in
    let test = c.loop-q-test.true in
    let m = ap length t.members_are in
    let size : 3 - c.loop-i.i ≡ length S = omega (arith, left, m) in
    let v = bit_and (p / 2 ^ (3 - c.loop-i.i)) 1 * 2 ^ x % 2 ^ 16 in
    let is = bit_is p (3 - c.loop-i.i) x t.small ∙ ap (λ k. cond (eqb (bit_at p k) 1) (2 ^ x) 0) size in
    record {
      long = length-set masks p _ ∙ long;
      done = λ q l. elim (cases_eq q p) [
        | inl e ↦
            subst (λ k. bit_or (get_or (set masks p (bit_or (get_or masks p 0) v)) k 0) (mask_at S k) ≡ mask_at (members 16 c.args.set) k) (sym e)
            (ap (λ k. bit_or k (mask_at S p)) (get_or-set_same masks p (bit_or (get_or masks p 0) v) 0 (omega (arith, long, test)))
            ∙ added S x (get_or masks p 0) v p _ is
            (ap (λ T. bit_or (get_or masks p 0) (mask_at T p)) (sym t.members_are) ∙ c.loop-q.invariant.ahead p (omega arith) test))
        | inr ne ↦ ap (λ k. bit_or k (mask_at S q)) (get_or-set_other masks p q _ 0 ne) ∙ c.loop-q.invariant.done q (omega (arith, l, ne))
      ];
      ahead = λ q a l.
          let ne : q ≢ p = omega (arith, a) in
          ap (λ k. bit_or k (mask_at (members 16 rest) q)) (get_or-set_other masks p q _ 0 ne) ∙ c.loop-q.invariant.ahead q (omega (arith, a)) l;
    }

pub overflow_shl-rest : goal.overflow_shl-rest
overflow_shl-rest c = (taken c.loop-i.i c.loop-i.rest c.loop-i.invariant.left c.loop-i-test.true (omega arith)).small

pub overflow_sub-rest : goal.overflow_sub-rest
overflow_sub-rest c =
    let t = taken c.loop-i.i c.loop-i.rest c.loop-i.invariant.left c.loop-i-test.true (omega arith) in
    let s = one_shl (trailing_zeros w16 c.loop-i.rest) 16 t.small in
    let b = t.back in
    omega (arith, s, b)

pub loop-i-preserved : goal.loop-i-preserved
loop-i-preserved c =
    let t = taken c.loop-i.i c.loop-i.rest c.loop-i.invariant.left c.loop-i-test.true (omega arith) in
    let x = trailing_zeros w16 c.loop-i.rest in
    let s = one_shl x 16 t.small in
    let l = c.loop-i.invariant.left in
    let m = ap length t.members_are in
    let end = c.loop-q-test.false in
    record {
      left = ap (λ k. c.loop-i.i + 1 + length (members 16 (c.loop-i.rest - k))) s ∙ omega (arith, m, l);
      long = c.loop-q.invariant.long;
      each = λ q lt. ap (λ k. bit_or (get_or c.loop-q.masks q 0) (mask_at (members 16 (c.loop-i.rest - k)) q)) s
          ∙ c.loop-q.invariant.done q (omega (arith, lt, end));
    }

pub returns : goal.returns
unfolding mask_at
returns c = λ q lt.
    let l = c.loop-i.invariant.left in
    let f = c.loop-i-test.false in
    sym (or_zero_r (get_or c.loop-i.masks q 0))
    ∙ sym (ap (λ (T : List ℕ). bit_or (get_or c.loop-i.masks q 0) (mask_at T q)) (none (members 16 c.loop-i.rest) (omega (arith, l, f))))
    ∙ c.loop-i.invariant.each q lt
  where
    none : (xs : List ℕ) → length xs ≡ 0 → xs ≡ []
    none [] e = refl
    none (x ∷ xs) e = absurd (omega (arith, e))
