-- A first order is the only one, and without pairs it is the file order.
--     first_unique      of the lists with a property the first, in lexicographic order, is the only one
--     first_order_unique, first_keeping_unique      so are the first order that keeps the pairs, and the first of the fewest nodes
--     cert_unique      so is the certificate that the tool writes
--     first_without_pairs      without pairs the first order is the file order
use Rattle.std.proofs.Common.{◌≡◌, ◌≢◌, ◌↔◌, ℕ, zero, suc, ◌+◌, ◌<◌, ◌≤◌, true, false, List, [], ◌∷◌, refl, sym, ap, ◌∙◌, subst, arith, nat_eq, nat_cmp, Ordering, Less, Equal, Greater}
use Rattle.std.specs.Ordering.{ordering_reverse}
use Rattle.std.specs.Cmp.Lexicographic.{slice_cmp}
use Rattle.std.specs.FinMap.{nat_cmp-IsAntisymmetric, slice_cmp-IsAntisymmetric}
use Rattle.std.specs.List.{IsDistinct, range_with_len}
use Rattle.std.proofs.lemmas.Bool.{false≢true}
use Rattle.std.proofs.lemmas.Cmp.{nat_list_cmp_total}
use Rattle.definitions.specs.Functions.{Function}
use Rattle.definitions.specs.Orders.{has, IsOrder, variables}
use Rattle.definitions.specs.Pairs.{Pair, Keeps, IsFirstOrder}
use Rattle.definitions.specs.Diagrams.{HasFewestKeeping, IsFirstKeeping}
use Rattle.definitions.specs.Certificates.{Certificate, IsCertOf, certificate_of}
use Rattle.definitions.proofs.Lists.Orders.{absent_from_apart}
use Rattle.definitions.proofs.Lists.Accepted.{order_variables}
use Rattle.definitions.proofs.Precedence.Lists.{nothing_to_keep}

-- ---- one first list

pub first_unique : (Q : List ℕ → Type 0) (xs ys : List ℕ) → Q xs → Q ys → ((zs : List ℕ) → Q zs → slice_cmp nat_cmp xs zs ≢ Greater) →
    ((zs : List ℕ) → Q zs → slice_cmp nat_cmp ys zs ≢ Greater) → xs ≡ ys
first_unique Q xs ys p q f g = slice_cmp-IsAntisymmetric nat_cmp-IsAntisymmetric xs ys (by (slice_cmp nat_cmp xs ys) refl)
  where
    by : (r : Ordering) → slice_cmp nat_cmp xs ys ≡ r → slice_cmp nat_cmp xs ys ≡ Equal
    by Less e = absurd (g xs p (nat_list_cmp_total.antisymm ys xs ∙ ap ordering_reverse e))
    by Equal e = e
    by Greater e = absurd (f ys q e)

pub first_order_unique : (n : ℕ) (P : List Pair) (order other : List ℕ) → IsFirstOrder n P order → IsFirstOrder n P other → order ≡ other
first_order_unique n P order other f g =
    first_unique (λ xs. IsOrder n xs × Keeps P xs) order other (f.is_order, f.kept) (g.is_order, g.kept) (λ xs h. f.first xs h.0 h.1)
    (λ xs h. g.first xs h.0 h.1)

pub first_keeping_unique : (n : ℕ) (F : List Function) (P : List Pair) (order other : List ℕ) → IsFirstKeeping n F P order →
    IsFirstKeeping n F P other → order ≡ other
first_keeping_unique n F P order other f g = first_unique (HasFewestKeeping n F P) order other f.fewest g.fewest f.first g.first

pub cert_unique : (n : ℕ) (F : List Function) (P : List Pair) (cert other : Certificate) → IsCertOf n F P cert → IsCertOf n F P other → cert ≡ other
cert_unique n F P cert other f g = f.parts ∙ ap (certificate_of n F P) (first_keeping_unique n F P cert.order other.order f.first g.first) ∙ sym g.parts

-- ---- the file order

-- one number more, a, in front: a list with all of them and no smaller one begins with a or with a larger one
module _ (k a y : ℕ) (ys : List ℕ) (apart : has ys y ≡ false) (low : (z : ℕ) → has (y ∷ ys) z ≡ true → a ≤ z)
    (all : (z : ℕ) → a ≤ z → z < a + suc k → has (y ∷ ys) z ≡ true)
    (rest : ((z : ℕ) → has ys z ≡ true → a + 1 ≤ z) → ((z : ℕ) → a + 1 ≤ z → z < a + 1 + k → has ys z ≡ true) →
    slice_cmp nat_cmp (range_with_len (a + 1) k) ys ≢ Greater) where
  none_before_more : slice_cmp nat_cmp (a ∷ range_with_len (a + 1) k) (y ∷ ys) ≢ Greater
  none_before_more = grind arith

-- k numbers from a on, in a row, come after no list without repeats that has each of them and no smaller one
none_before : (k a : ℕ) (ys : List ℕ) → IsDistinct nat_eq ys → ((z : ℕ) → has ys z ≡ true → a ≤ z) →
    ((z : ℕ) → a ≤ z → z < a + k → has ys z ≡ true) → slice_cmp nat_cmp (range_with_len a k) ys ≢ Greater
unfolding IsDistinct
none_before zero a [] d low all = λ f. cc
none_before zero a (y ∷ ys) d low all = λ f. cc
none_before (suc k) a [] d low all = λ f. false≢true (all a (omega arith) (omega arith))
none_before (suc k) a (y ∷ ys) d low all = none_before_more k a y ys (absent_from_apart y ys d.0) low all (none_before k (a + 1) ys d.1)

file_order_first : (n : ℕ) → IsFirstOrder n [] (variables n)
file_order_first n = record {
  is_order = order_variables n;
  kept = (nothing_to_keep (variables n)).0;
  first = λ other is kept. none_before n 0 other is.once (λ z h. omega arith) (λ z le lt. (is.all z).1 (omega arith));
}

pub first_without_pairs : (n : ℕ) (order : List ℕ) → IsFirstOrder n [] order ↔ (order ≡ variables n)
first_without_pairs n order =
    (λ f. first_order_unique n [] order (variables n) f (file_order_first n), λ e. subst (IsFirstOrder n []) (sym e) (file_order_first n))
