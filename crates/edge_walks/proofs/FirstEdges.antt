-- The first of the edges that fail, from those of two parts.
--     first_joined      the first of two parts' first edges
--     first_halves      the 2 ^ (x + 1) sets from one on are the first 2 ^ x and the others
--     none_judged      nothing is judged
--     into_own      edges into one set
use Rattle.std.proofs.Common.{◌≡◌, ℕ, zero, suc, ◌+◌, ◌^◌, ◌<◌, ◌≤◌, ◌⊎◌, List, [], ◌∷◌, length, slice_index, Option, Some, None, refl, arith}
use Rattle.std.proofs.lemmas.Bool.{cases_lt, cases_eq}
use Rattle.std.proofs.lemmas.Nat.Bits.{bit_at-zero}
use Rattle.std.proofs.lemmas.Nat.{pow-add}
use Rattle.definitions.specs.Functions.{Function}
use Rattle.edge_walks.specs.Edges.{EdgeFails, FailsWithin, IsEdgeBefore, IsFirstOf, IsFirstEdge}

before_trans : (a b c : ℕ × ℕ) → IsEdgeBefore a b → IsEdgeBefore b c → IsEdgeBefore a c
before_trans a b c h k = grind arith

pub before_later : (a b c : ℕ × ℕ) → (IsEdgeBefore b a → ⊥) → IsEdgeBefore c a → IsEdgeBefore c b
before_later a b c n h = grind (arith, cases_lt, cases_eq)

pub first_joined : (P Q R : ℕ → ℕ → Type 0) (a b r : Option (ℕ × ℕ)) → ((S x : ℕ) → R S x → P S x ⊎ Q S x) → ((S x : ℕ) → P S x → R S x) →
    ((S x : ℕ) → Q S x → R S x) →
    IsFirstEdge P a → IsFirstEdge Q b → IsFirstOf a b r → IsFirstEdge R r
first_joined P Q R a b r h k l m e p = grind (arith, before_trans, before_later)

pub past_end : (xs : List ℕ) (k : ℕ) → length xs ≤ k → slice_index xs k ≡ 0
past_end [] k l = refl
past_end (x ∷ xs) zero l = absurd (omega arith)
past_end (x ∷ xs) (suc k) l = past_end xs k (omega arith)

module _ (n : ℕ) (F : List Function) (values judged : List ℕ) (long : length judged ≡ 2 ^ n) where
  -- an edge that is judged leads into a set of these variables
  pub judged_within : (S x : ℕ) → EdgeFails n F values judged S x → S + 2 ^ x < 2 ^ n
  judged_within S x f = grind (arith, cases_lt, past_end, bit_at-zero)

  pub none_judged : (set y : ℕ) → ((T : ℕ) → set ≤ T → T < set + 2 ^ y → slice_index judged T ≡ 0) →
      IsFirstEdge (FailsWithin n F values judged set y) None
  none_judged set y none S x f = grind (arith, bit_at-zero)

  pub first_halves : (set x y : ℕ) (a b r : Option (ℕ × ℕ)) → y ≡ x + 1 → IsFirstEdge (FailsWithin n F values judged set x) a →
      IsFirstEdge (FailsWithin n F values judged (set + 2 ^ x) x) b → IsFirstOf a b r →
      IsFirstEdge (FailsWithin n F values judged set y) r
  first_halves set x y a b r next = grind (arith, first_joined, cases_lt, pow-add)

  pub first_half : (set x y : ℕ) (a : Option (ℕ × ℕ)) → y ≡ x + 1 → IsFirstEdge (FailsWithin n F values judged set x) a →
      IsFirstEdge (FailsWithin n F values judged (set + 2 ^ x) x) None →
      IsFirstEdge (FailsWithin n F values judged set y) a
  first_half set x y a next h k = first_halves set x y a None a next h k (same a)
    where
      same : (o : Option (ℕ × ℕ)) → IsFirstOf o None o
      same None = refl
      same (Some e) = refl

  -- a set is the one set from itself on
  pub into_own : (set S x : ℕ) → FailsWithin n F values judged set 0 S x → S + 2 ^ x ≡ set
  into_own set S x f = omega arith
