-- The number of nodes with two different children, one after another.
use Rattle.std.proofs.Common.{◌≡◌, ◌≢◌, ℕ, ◌+◌, ◌<◌, ◌≤◌, Bool, true, false, cond, not, List, [], ◌∷◌, ◌++◌, length, take, refl, ap, nat_eq, eq-eqb, ne_eqb, arith}
use mir.Val.{bool_byte}
use Rattle.std.proofs.lemmas.List.Sums.{count_by_more_no, count_by_more_yes, count_by-le-length, sum_by-append}
use Rattle.std.proofs.lemmas.List.{take_all, length_push}
use Rattle.sifting.specs.Leveled.{Children, at, branching}

pub branching_none : 0 ≡ branching []
unfolding branching
branching_none = refl

pub branching_few : (L : List Children) → branching L ≤ length L
unfolding branching
branching_few L = count_by-le-length (λ (c : Children). not (nat_eq c.0 c.1)) L

pub branching_more_yes : (L : List Children) (i : ℕ) → i < length L → (at L i).0 ≢ (at L i).1 → branching (take (i + 1) L) ≡ branching (take i L) + 1
unfolding branching
branching_more_yes L i h ne = count_by_more_yes (λ (c : Children). not (nat_eq c.0 c.1)) L i (0, 0) h (ap not (ne_eqb _ _ ne))

pub branching_more_no : (L : List Children) (i : ℕ) → i < length L → (at L i).0 ≡ (at L i).1 → branching (take (i + 1) L) ≡ branching (take i L)
unfolding branching
branching_more_no L i h e = count_by_more_no (λ (c : Children). not (nat_eq c.0 c.1)) L i (0, 0) h (ap not (eq-eqb _ _ e))

pub branching_all : (L : List Children) (i : ℕ) → length L ≤ i → branching (take i L) ≡ branching L
branching_all L i h = ap branching (take_all i L h)

-- a truth value's number
byte : (b : Bool) → cond b 1 0 ≡ bool_byte b
byte true = refl
byte false = refl

pub branching_push : (L : List Children) (c : Children) → branching (L ++ c ∷ []) ≡ branching L + bool_byte (not (nat_eq c.0 c.1))
unfolding branching
branching_push L c = grind (arith, byte, sum_by-append)

-- one more node is counted
pub branching_counted : (L L' : List Children) (c : Children) (count more : ℕ) → count ≡ branching L → L' ≡ L ++ c ∷ [] →
    more ≡ bool_byte (not (nat_eq c.0 c.1)) →
    (count + more ≡ branching L') × (count + more ≤ length L + 1)
branching_counted L L' c count more e f g = grind (arith, branching_push, branching_few, length_push)
