-- Pairs that may be asked on top of others: where each order that keeps P can be sorted into one that keeps Q, has as many nodes and does not
-- come later as a list, the fewest nodes and the first order that has them are the same under both.
--     fewest_harmless, first_harmless      the fewest nodes, and the first order that has them, under Q are those under P
--     harmless_same      P itself is harmless on top of P
--     harmless_symmetric      pairs of symmetric variables may be kept where no pair is asked for
use Rattle.std.proofs.Common.{◌≡◌, ◌≢◌, ℕ, List, [], length, refl, sym, ap, ◌∙◌, subst, arith, true≢false, nat_cmp, Greater}
use Rattle.std.specs.Cmp.Lexicographic.{slice_cmp}
use Rattle.std.specs.Ordering.{is_gt}
use Rattle.std.proofs.lemmas.Cmp.{nat_list_cmp_total, tied_itself}
use Rattle.definitions.specs.Functions.{Function}
use Rattle.definitions.specs.Orders.{IsOrder}
use Rattle.definitions.specs.Pairs.{Pair, Keeps, keeps}
use Rattle.definitions.specs.Levels.{size_under}
use Rattle.definitions.specs.Diagrams.{FewestKeeping, HasFewestKeeping, IsFirstKeeping}
use Rattle.symmetries.specs.SymmetricPairs.{AreSymmetricPairs, IsHarmless}
use Rattle.definitions.proofs.Nodes.Construction.{exact_diagram}
use Rattle.definitions.proofs.Nodes.LevelBound.{size_bound}
use Rattle.definitions.proofs.Widths.Fewest.{fewest_unique}
use Rattle.symmetries.proofs.SortedOrders.{sorted_order}

-- ---- lists that do not come later

-- of three lists, if the first does not come later than the second, nor the second than the third, then nor does the first than the third
not_later : (xs ys zs : List ℕ) → slice_cmp nat_cmp xs ys ≢ Greater → slice_cmp nat_cmp ys zs ≢ Greater → slice_cmp nat_cmp xs zs ≢ Greater
not_later xs ys zs h k e = grind (arith, nat_list_cmp_total)

-- no list comes later than itself
not_later_itself : (xs : List ℕ) → slice_cmp nat_cmp xs xs ≢ Greater
not_later_itself xs e = true≢false (ap is_gt (sym e ∙ tied_itself nat_list_cmp_total xs))

-- ---- the fewest nodes, and the first order that has them

-- the fewest nodes under orders that keep Q are the fewest under those that keep P
pub fewest_harmless : (n : ℕ) (F : List Function) (P Q : List Pair) (size : ℕ) → IsHarmless n F P Q → FewestKeeping n F Q size → FewestKeeping n F P size
fewest_harmless n F P Q size h f = record {
  some = let s = f.some in (s.0, s.1, s.2, h.more s.0 s.2 s.3, s.4, s.5);
  no_fewer = λ order d o k rep.
      let to = h.sorted order o k in
      let exact = exact_diagram n F to.0 to.1 in
      omega (arith, f.no_fewer to.0 exact.0 to.1 to.2 exact.1.represents, size_bound n F order d o rep);
}

-- an order that keeps Q, and whose size is that of an order of the fewest nodes under P, has the fewest under Q
fewest_sorted : (n : ℕ) (F : List Function) (P Q : List Pair) (size : ℕ) (order sorted : List ℕ) → IsHarmless n F P Q → FewestKeeping n F Q size →
    HasFewestKeeping n F P order → IsOrder n sorted → Keeps Q sorted → size_under n F sorted ≡ size_under n F order → HasFewestKeeping n F Q sorted
fewest_sorted n F P Q size order sorted h f g o k same =
    let exact = exact_diagram n F sorted o in
    let d = g.fewest.0 in
    let fewest : size ≡ length exact.0.nodes = omega (
      arith,
      size_bound n F order d g.is_order g.fewest.1,
      fewest_unique n F P size (length d.nodes) (fewest_harmless n F P Q size h f) g.fewest.2,
      f.no_fewer sorted exact.0 o k exact.1.represents,
    ) in
    record { is_order = o; kept = k; fewest = (exact.0, exact.1.represents, subst (FewestKeeping n F Q) fewest f) }

-- the first order of the fewest nodes among those that keep Q is the first among those that keep P
pub first_harmless : (n : ℕ) (F : List Function) (P Q : List Pair) (order : List ℕ) → IsHarmless n F P Q → IsFirstKeeping n F Q order →
    IsFirstKeeping n F P order
first_harmless n F P Q order h f =
    let d = f.fewest.fewest.0 in
    record {
      fewest = record {
        is_order = f.fewest.is_order;
        kept = h.more order f.fewest.is_order f.fewest.kept;
        fewest = (d, f.fewest.fewest.1, fewest_harmless n F P Q (length d.nodes) h f.fewest.fewest.2);
      };
      first = λ other g.
          let to = h.sorted other g.is_order g.kept in
          let there = fewest_sorted n F P Q (length d.nodes) other to.0 h f.fewest.fewest.2 g to.1 to.2 to.3 in
          not_later order to.0 other (f.first to.0 there) to.4;
    }

-- pairs ask no more than themselves
pub harmless_same : (n : ℕ) (F : List Function) (P : List Pair) → IsHarmless n F P P
harmless_same n F P = record { more = λ order o k. k; sorted = λ order o k. (order, o, k, refl, not_later_itself order) }

-- pairs of symmetric variables may be kept where no pair is asked for
pub harmless_symmetric : (n : ℕ) (F : List Function) (P : List Pair) → AreSymmetricPairs n F P → IsHarmless n F [] P
unfolding keeps
harmless_symmetric n F P h = grind (arith, sorted_order)
