-- Tables of the first sets, in the order of their masks.
--     first_set      the table at a place
--     latest, latest_of      the last table that was made, or the one to begin with
--     one_set_more      one more of them
--     can_take, with_larger      a larger member can come into all of them; with those that have it they are the first sets
--     one_more_known      the tables of one more variable are known with those that have it
--     larger_set, lacks_larger      the mask of a set with a larger member, which it lacked
use Rattle.std.proofs.Common.{◌≡◌, ℕ, zero, suc, ◌+◌, ◌*◌, ◌^◌, ◌<◌, List, Option, None, Some, [], ◌∷◌, ◌++◌, map, length, get_or, false, sym, ap, ◌∙◌, subst, arith, bit_or, zero-mul, add-one}
use Rattle.std.specs.List.{All, range_with_len}
use Rattle.std.specs.Borrow.{Bor}
use Rattle.std.specs.Option.{option_copied, unwrap_or}
use Rattle.std.proofs.Math.Nat.{mod-eq_of_lt}
use Rattle.std.proofs.lemmas.Nat.{or_disjoint}
use Rattle.std.proofs.lemmas.Nat.Bits.{and_pow, bit_at_above}
use Rattle.std.proofs.lemmas.List.{length-append, length-map, append-nil, append_assoc, ext_get_or, get_or-map}
use Rattle.std.proofs.lemmas.List.FromFn.{map-range_with_len_more, get_or-map-range_with_len, length-map-range_with_len}
use Rattle.definitions.specs.Orders.{has, members}
use Rattle.definitions.specs.Problems.{TruthTables}
use Rattle.subfunction_classes.specs.Table.{ClassesOf, classes_of, with_variable}
use Rattle.subfunction_classes.proofs.LowSets.{low_new}
use Rattle.compaction.specs.Strips.{AreKnownTables, AreOfFirstSets, CanTakeLow, low_variables}

-- the table at a place
pub first_set : (p : TruthTables) (tables : List ClassesOf) (i : ℕ) (d : ClassesOf) → AreOfFirstSets p tables → i < length tables →
    get_or tables i d ≡ classes_of p i
first_set p tables i d h lt =
    ap (λ ts. get_or ts i d) h ∙ get_or-map-range_with_len (classes_of p) 0 (length tables) i i d lt (omega arith)

-- the last table that was made, or the one to begin with
abbrev pub latest : Option ClassesOf → ClassesOf → ClassesOf
latest None first = first
latest (Some table) first = table

pub latest_of : (made : Option ClassesOf) (found : Option (Bor ClassesOf)) (first table : Bor ClassesOf) → option_copied found ≡ made →
    table ≡ unwrap_or found first → table.now ≡ latest made first.now
latest_of made None first table e u = ap (λ (b : Bor ClassesOf). b.now) u ∙ ap (λ m. latest m first.now) e
latest_of made (Some t) first table e u = ap (λ (b : Bor ClassesOf). b.now) u ∙ ap (λ m. latest m first.now) e

-- the mask of a set with a larger member
pub larger_set : (set x : ℕ) → set < 2 ^ x → bit_or set (2 ^ x) ≡ 2 ^ x + set
larger_set set x lt =
    or_disjoint set (2 ^ x) (and_pow set x ∙ ap (λ b. b * 2 ^ x) (bit_at_above set x x lt (omega arith)) ∙ zero-mul (2 ^ x)) ∙ omega arith

-- a set of smaller variables lacks the larger one
pub lacks_larger : (n set x : ℕ) → set < 2 ^ x → has (members n set) x ≡ false
lacks_larger n set x lt = ap (λ m. has (members n m) x) (sym (mod-eq_of_lt lt)) ∙ low_new n set x

-- n tables from a place on, one after the other
ranges : (p : TruthTables) (a n : ℕ) (m : ℕ) →
    map (classes_of p) (range_with_len a n) ++ map (classes_of p) (range_with_len (a + n) m) ≡ map (classes_of p) (range_with_len a (n + m))
ranges p a n zero = append-nil (map (classes_of p) (range_with_len a n))
    ∙ ap (λ k. map (classes_of p) (range_with_len a k)) (let e : n ≡ n + 0 = omega arith in e)
ranges p a n (suc m) =
    ap (λ ts. map (classes_of p) (range_with_len a n) ++ ts) (more (a + n) m)
    ∙ (sym (append_assoc (map (classes_of p) (range_with_len a n)) (map (classes_of p) (range_with_len (a + n) m)) (classes_of p (a + n + m) ∷ []))
    ∙ (ap (λ ts. ts ++ classes_of p (a + n + m) ∷ []) (ranges p a n m)
    ∙ (sym (map-range_with_len_more (classes_of p) a (n + m) (a + n + m) (omega arith))
    ∙ ap (λ k. map (classes_of p) (range_with_len a k)) (let e : n + m + 1 ≡ n + suc m = omega arith in e))))
  where
    more : (b k : ℕ) → map (classes_of p) (range_with_len b (suc k)) ≡ map (classes_of p) (range_with_len b k) ++ classes_of p (b + k) ∷ []
    more b k = ap (λ z. map (classes_of p) (range_with_len b z)) (let e : suc k ≡ k + 1 = omega arith in e)
        ∙ map-range_with_len_more (classes_of p) b k (b + k) (omega arith)

module _ (p : TruthTables) (tables : List ClassesOf) (x : ℕ) (first : AreOfFirstSets p tables) (long : length tables ≡ 2 ^ x) where
  -- a larger member can come into all of them
  pub can_take : x < low_variables p → All (CanTakeLow x) tables
  can_take low = grind (arith, first_set, lacks_larger)

  -- with those that have it they are the first sets
  pub with_larger : AreOfFirstSets p (tables ++ map (λ t. with_variable t x) tables)
  with_larger =
      (λ z. first z ++ larger z) ∙ (ranges p 0 (length tables) (length tables)
      ∙ ap (λ k. map (classes_of p) (range_with_len 0 k)) counted)
    where
      counted : length tables + length tables ≡ length (tables ++ map (λ t. with_variable t x) tables)
      counted = sym (length-append tables (map (λ t. with_variable t x) tables)
          ∙ ap (λ k. length tables + k) (length-map tables (λ t. with_variable t x)))

      same : (i : ℕ) → i < length tables → with_variable (get_or tables i (classes_of p 0)) x ≡ classes_of p (length tables + i)
      same i lt = ap (λ (t : ClassesOf). with_variable t x) (first_set p tables i (classes_of p 0) first lt)
          ∙ ap (classes_of p) (larger_set i x (omega arith) ∙ ap (λ k. k + i) (sym long))

      larger : map (λ t. with_variable t x) tables ≡ map (classes_of p) (range_with_len (0 + length tables) (length tables))
      larger = ext_get_or (with_variable (classes_of p 0) x) (map (λ t. with_variable t x) tables)
          (map (classes_of p) (range_with_len (0 + length tables) (length tables)))
          (length-map tables (λ t. with_variable t x) ∙ sym (length-map-range_with_len (classes_of p) (0 + length tables) (length tables)))
          (λ i lt. let l = length-map tables (λ t. with_variable t x) in
          get_or-map (λ t. with_variable t x) tables i (classes_of p 0) (with_variable (classes_of p 0) x) (omega arith)
          ∙ (same i (omega arith)
          ∙ sym (get_or-map-range_with_len (classes_of p) (0 + length tables) (length tables) i (length tables + i)
          (with_variable (classes_of p 0) x) (omega arith) (omega arith))))

-- the tables of one more variable
pub one_more_known : (p : TruthTables) (tables larger : List ClassesOf) (x : ℕ) → AreKnownTables p tables x → x < low_variables p →
    larger ≡ tables ++ map (λ t. with_variable t x) tables → AreKnownTables p larger (x + 1)
one_more_known p tables larger x known low is =
    let n = known.many in
    let long = ap length is ∙ (length-append tables (map (λ t. with_variable t x) tables)
    ∙ ap (λ k. length tables + k) (length-map tables (λ t. with_variable t x))) in
    let next = ap (λ k. 2 ^ k) (add-one x) in
    record {
      low = omega arith;
      many = omega arith;
      first = subst (AreOfFirstSets p) (sym is) (with_larger p tables x known.first known.many);
    }
