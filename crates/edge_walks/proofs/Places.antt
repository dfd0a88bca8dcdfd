-- At which place a part stands.
--     part_within, part_twice      a part's number is in range, and the part at the place of its number is the place
use Rattle.std.proofs.Common.{◌≡◌, ℕ, zero, suc, ◌<◌, ◌^◌, Bool, true, ◌&&◌, eqb, ltb, inl, inr, refl, sym, subst, arith}
use Rattle.std.proofs.lemmas.Bool.{and_parts, cases_eq, eqb-true, ltb-true}
use Rattle.edge_walks.specs.Edges.{part_at}

all_below : (ℕ → Bool) → ℕ → Bool
all_below p zero = true
all_below p (suc n) = p n && all_below p n

at_each : (p : ℕ → Bool) (n : ℕ) → all_below p n ≡ true → (k : ℕ) → k < n → p k ≡ true
unfolding all_below
at_each p zero h k l = absurd (omega arith)
at_each p (suc n) h k l =
    let b = and_parts (p n) (all_below p n) h in
    elim (cases_eq k n) [
      | inl e ↦ subst (λ i. p i ≡ true) (sym e) b.0
      | inr ne ↦ at_each p n b.1 k (omega arith)
    ]

is_own : ℕ → ℕ → Bool
is_own end k = ltb (part_at end k) (2 ^ end) && eqb (part_at end (part_at end k)) k

all_own : all_below (λ end. all_below (is_own end) (2 ^ end)) 7 ≡ true
unfolding part_at all_below is_own
all_own = refl

owned : (end k : ℕ) → end < 7 → k < 2 ^ end → is_own end k ≡ true
owned end k few small = at_each (is_own end) (2 ^ end) (at_each (λ e. all_below (is_own e) (2 ^ e)) 7 all_own end few) k small

pub part_within : (end k : ℕ) → end < 7 → k < 2 ^ end → part_at end k < 2 ^ end
unfolding is_own
part_within end k few small =
    ltb-true (part_at end k) (2 ^ end)
    (and_parts (ltb (part_at end k) (2 ^ end)) (eqb (part_at end (part_at end k)) k) (owned end k few small)).0

pub part_twice : (end k : ℕ) → end < 7 → k < 2 ^ end → part_at end (part_at end k) ≡ k
unfolding is_own
part_twice end k few small =
    eqb-true (part_at end (part_at end k)) k
    (and_parts (ltb (part_at end k) (2 ^ end)) (eqb (part_at end (part_at end k)) k) (owned end k few small)).1
