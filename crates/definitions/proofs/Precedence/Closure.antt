-- What each variable reaches along pairs, joined through one variable after the other.
--     Reaches P k reached      the masks have the pairs, only what pairs lead to, and are closed under steps through the first k variables
--     start, one_more      the masks of the pairs, and one variable more
--     all_reached      closed under steps through all the variables of the pairs, the masks have all that pairs lead to
use Rattle.std.proofs.Common.{◌≡◌, ◌↔◌, ℕ, ◌+◌, ◌<◌, ◌≤◌, true, cond, ◌⊎◌, inl, inr, List, length, get_or, refl, ◌∙◌, arith, eqb, bit_or, set}
use Rattle.std.specs.Int.{bit_at}
use Rattle.std.proofs.lemmas.Bool.{cases_eq}
use Rattle.std.proofs.lemmas.List.{get_or_past, get_or-set_other, get_or-set_same, length-set}
use Rattle.std.proofs.lemmas.Nat.Bits.{bit_at_or}
use Rattle.definitions.specs.Pairs.{Pair, has_pair, Leads}
use Rattle.definitions.specs.Pairs.Leads.{by_one, by_more}
use Rattle.definitions.specs.KeptPairs.{HasBit, IsJoined}

pub leads_on : {P : List Pair} {a b c : ℕ} → Leads P a b → Leads P b c → Leads P a c
leads_on (by_one h) r = by_more h r
leads_on (by_more h l) r = by_more h (leads_on l r)

pub record Reaches (P : List Pair) (k : ℕ) (reached : List ℕ) : Type 0 where
  pub pairs : (a b : ℕ) → has_pair P a b ≡ true → HasBit reached a b
  pub led : (a b : ℕ) → HasBit reached a b → Leads P a b
  pub closed : (j a b : ℕ) → j < k → HasBit reached a j → HasBit reached j b → HasBit reached a b

pub start : (P : List Pair) (below : List ℕ) → ((a b : ℕ) → (has_pair P a b ≡ true) ↔ HasBit below a b) → Reaches P 0 below
start P below s = record {
  pairs = λ a b h. (s a b).0 h;
  led = λ a b h. by_one ((s a b).1 h);
  closed = λ j a b h. absurd (omega arith);
}

or_one : (m n b : ℕ) → (bit_at (bit_or m n) b ≡ 1) ↔ ((bit_at m b ≡ 1) ⊎ (bit_at n b ≡ 1))
or_one m n b = grind (arith, bit_at_or)

-- a bit of the joined masks
module _ (reached : List ℕ) (k : ℕ) (later : List ℕ) (row : IsJoined reached k later) where
  pub joined_bit : (a b : ℕ) → HasBit later a b ↔ (HasBit reached a b ⊎ (HasBit reached a k × HasBit reached k b))
  joined_bit a b = grind (arith, or_one)

-- one variable more
pub one_more : (P : List Pair) (k : ℕ) (reached later : List ℕ) → IsJoined reached k later → Reaches P k reached → Reaches P (k + 1) later
one_more P k reached later row r = record {
  pairs = λ a b h. (joined_bit reached k later row a b).1 (inl (r.pairs a b h));
  led = λ a b h. elim ((joined_bit reached k later row a b).0 h) [ inl x ↦ r.led a b x | inr y ↦ leads_on (r.led a k y.0) (r.led k b y.1) ];
  closed = λ j a b h x y. (joined_bit reached k later row a b).1
      (through j a b h ((joined_bit reached k later row a j).0 x) ((joined_bit reached k later row j b).0 y));
}
  where
    before : (j a b : ℕ) → j < k → (HasBit reached a j ⊎ (HasBit reached a k × HasBit reached k j)) →
        (HasBit reached j b ⊎ (HasBit reached j k × HasBit reached k b)) → HasBit reached a b ⊎ (HasBit reached a k × HasBit reached k b)
    before j a b h (inl x) (inl y) = inl (r.closed j a b h x y)
    before j a b h (inl x) (inr y) = inr (r.closed j a k h x y.0, y.1)
    before j a b h (inr x) (inl y) = inr (x.0, r.closed j k b h x.1 y)
    before j a b h (inr x) (inr y) = inr (x.0, y.1)

    at : (a b : ℕ) → (HasBit reached a k ⊎ (HasBit reached a k × HasBit reached k k)) →
        (HasBit reached k b ⊎ (HasBit reached k k × HasBit reached k b)) → HasBit reached a b ⊎ (HasBit reached a k × HasBit reached k b)
    at a b (inl x) (inl y) = inr (x, y)
    at a b (inl x) (inr y) = inr (x, y.1)
    at a b (inr x) (inl y) = inr (x.0, y)
    at a b (inr x) (inr y) = inr (x.0, y.1)

    through : (j a b : ℕ) → j < k + 1 → (HasBit reached a j ⊎ (HasBit reached a k × HasBit reached k j)) →
        (HasBit reached j b ⊎ (HasBit reached j k × HasBit reached k b)) → HasBit reached a b ⊎ (HasBit reached a k × HasBit reached k b)
    through j a b h x y = grind arith

-- closed under steps through all the variables of the pairs, the masks have all that pairs lead to
pub all_reached : (P : List Pair) (k : ℕ) (reached : List ℕ) → ((a b : ℕ) → has_pair P a b ≡ true → (a < k) × (b < k)) →
    Reaches P k reached → {a b : ℕ} → Leads P a b → HasBit reached a b
all_reached P k reached small r (by_one {a} {b} h) = r.pairs a b h
all_reached P k reached small r (by_more {a} {b} {c} h l) = r.closed b a c (small a b h).1 (r.pairs a b h) (all_reached P k reached small r l)

-- ---- joining mask after mask

-- the first i masks are joined through k, and the others are as they were
pub record JoinedTo (below : List ℕ) (k i : ℕ) (later : List ℕ) : Type 0 where
  pub done : (a : ℕ) → a < i → get_or later a 0 ≡ cond (eqb (bit_at (get_or below a 0) k) 1) (bit_or (get_or below a 0) (get_or below k 0)) (get_or below a 0)
  pub left : (a : ℕ) → i ≤ a → get_or later a 0 ≡ get_or below a 0
  pub long : length later ≡ length below

pub joined_none : (below : List ℕ) (k : ℕ) → JoinedTo below k 0 below
joined_none below k = record { done = λ a h. absurd (omega arith); left = λ a h. refl; long = refl }

pub joined_set : (below : List ℕ) (k i : ℕ) (later : List ℕ) → JoinedTo below k i later → i < length later →
    bit_at (get_or later i 0) k ≡ 1 → JoinedTo below k (i + 1) (set later i (bit_or (get_or later i 0) (get_or below k 0)))
joined_set below k i later j h e = record {
  done = λ a l. elim (cases_eq a i) [
    | inl s ↦
        grind (arith, get_or-set_same)
    | inr ne ↦ get_or-set_other later i a (bit_or (get_or later i 0) (get_or below k 0)) 0 ne ∙ j.done a (omega arith)
  ];
  left = λ a l. get_or-set_other later i a (bit_or (get_or later i 0) (get_or below k 0)) 0 (λ s. absurd (omega arith)) ∙ j.left a (omega arith);
  long = length-set later i (bit_or (get_or later i 0) (get_or below k 0)) ∙ j.long;
}

pub joined_all : (below : List ℕ) (k i : ℕ) (later : List ℕ) → JoinedTo below k i later → length later ≤ i → IsJoined below k later
joined_all below k i later j h a = grind (arith, get_or_past)
