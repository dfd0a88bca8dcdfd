-- Tables of keys: numbers that tell subfunctions apart, in any order.
--     pairs_mapped      the pairs of a mapped table
--     keys_of_classes      class numbers are keys
--     pairs_depend, more_classes      masks and class numbers with one more variable, from keys
--     keys_ready      what the numbering of the pairs asks for
--     value_keys      the keys of the values
--     keys_by_names      the keys with one more variable, from names of the pairs
use Rattle.std.proofs.Common.{◌≡◌, ℕ, zero, suc, ◌+◌, ◌*◌, ◌/◌, ◌^◌, ◌<◌, ◌≤◌, Bool, true, false, not, cond, inl, inr, List, [], ◌∷◌, map, length, reverse, get_or, bit_or, nat_eq, eq-eqb, ne_eqb, refl, sym, ap, ap₂, ◌∙◌, arith}
use Rattle.std.specs.List.{filter, range_with_len, list_any}
use Rattle.std.proofs.lemmas.Bool.{cases_eq}
use Rattle.std.proofs.lemmas.Nat.{pow_pos}
use Rattle.std.proofs.lemmas.List.{length-map, get_or-map, map-id}
use Rattle.definitions.specs.Functions.{Function, restrict, same_table}
use Rattle.definitions.specs.Orders.{has, variables}
use Rattle.definitions.specs.Levels.{reach}
use Rattle.definitions.specs.Widths.{same_pair, entries, class_of, class_numbers, class_pair, outside}
use Rattle.definitions.proofs.Lists.Sets.{Among, among_from_map, nat_decides}
use Rattle.definitions.proofs.Functions.Tables.{same_table_decides}
use Rattle.definitions.proofs.Widths.ClassPairs.{pair_decides, rank_apart}
use Rattle.subfunction_classes.specs.Dependence.{dependence, joined_mask}
use Rattle.subfunction_classes.specs.Numbering.{rank, ranks}
use Rattle.subfunction_classes.specs.Places.{low_place, pairs}
use Rattle.std.proofs.lemmas.Nat.Bits.{shr_and_one, bit_at-zero}
use Rattle.definitions.specs.Problems.{TruthTables, value_at}
use Rattle.subfunction_classes.specs.Values.{values_of, number_of}
use Rattle.subfunction_classes.proofs.StartClasses.{holds_start}
use Rattle.subfunction_classes.specs.Table.{classes_of, ClassesOf, HoldsClasses, functions_of, set_of, free_below, with_variable}
use Rattle.compaction.specs.Strips.{HoldsKeys}
use Rattle.pair_numbering.specs.Keys.{TellsPairs}
use Rattle.pair_numbering.proofs.Names.{length_names, names_below, names_masks, names_ranked}
use Rattle.definitions.proofs.Precedence.Masks.{among_at}
use Rattle.subfunction_classes.proofs.RankLaws.{ranks_alike}
use Rattle.subfunction_classes.proofs.Index.{length-pairs, pair_within}
use Rattle.subfunction_classes.proofs.DependenceMasks.{dependence_joined}
use Rattle.subfunction_classes.proofs.MaskStep.{depends_at}
use Rattle.definitions.proofs.Lists.Maps.{map_same}
use Rattle.subfunction_classes.proofs.Compaction.{step_of, tops, length_numbers, pairs_told, pairs_of_classes, compacted, class_numbers_same}
use Rattle.subfunction_classes.proofs.OneMoreVariable.{members_more, step_is, class_below, few_masks, IsReady, rank_small, free_none, free_more}
use mathlib.Core.List.{map-map}

-- ---- lists

pub map_range_same : {X : Type 0} (f g : ℕ → X) (a m : ℕ) → ((i : ℕ) → a ≤ i → i < a + m → f i ≡ g i) → map f (range_with_len a m) ≡ map g (range_with_len a m)
map_range_same f g a zero h = refl
map_range_same f g a (suc m) h = λ i. h a (omega arith) (omega arith) i ∷ map_range_same f g (a + 1) m (λ k l u. h k (omega arith) (omega arith)) i

range_below : (a m k : ℕ) → Among k (range_with_len a m) → (a ≤ k) × (k < a + m)
range_below a zero k h = absurd h
range_below a (suc m) k h = elim h [
  | inl e ↦ (omega arith, omega arith)
  | inr r ↦ let b = range_below (a + 1) m k r in let l = b.0 in let u = b.1 in (omega arith, omega arith)
]

-- two lists that are told alike
told_zip : {P G A B : Type 0} (F : P → A) (F' : G → A) (H : P → B) (H' : G → B) (J : P → ℕ) (D : G → ℕ) (ps : List P) (gs : List G) →
    map F ps ≡ map F' gs → map H ps ≡ map H' gs →
    ((p : P) (g : G) → Among p ps → Among g gs → F p ≡ F' g → H p ≡ H' g → J p ≡ D g) → map J ps ≡ map D gs
told_zip F F' H H' J D [] [] e d t = refl
told_zip F F' H H' J D [] (g ∷ gs) e d t = absurd (cc)
told_zip F F' H H' J D (p ∷ ps) [] e d t = absurd (cc)
told_zip F F' H H' J D (p ∷ ps) (g ∷ gs) e d t =
    let a : F p ≡ F' g = cc in
    let b : H p ≡ H' g = cc in
    λ i. t p g (inl refl) (inl refl) a b i ∷ told_zip F F' H H' J D ps gs (cc) (cc) (λ q k u v. t q k (inr u) (inr v)) i

-- ---- pairs of keys

pub both : (ℕ → ℕ) → ℕ × ℕ → ℕ × ℕ
both f p = (f p.0, f p.1)

module _ (cs : List ℕ) (r : ℕ) (whole : (blocks : ℕ) × (length cs ≡ blocks * (2 * 2 ^ r))) where
  place_within : (j : ℕ) → j < length cs / 2 → low_place (2 ^ r) j + 2 ^ r < length cs
  place_within j h = pair_within (2 ^ r) whole.0 (length cs) j (pow_pos r) whole.1 h

  pub pairs_mapped : (f : ℕ → ℕ) → pairs (map f cs) (2 ^ r) ≡ map (both f) (pairs cs (2 ^ r))
  unfolding pairs both
  pairs_mapped f = grind (arith, length-map, map_range_same, map-map, place_within, get_or-map)

  pub pair_among : (p : ℕ × ℕ) → Among p (pairs cs (2 ^ r)) → Among p.0 cs × Among p.1 cs
  unfolding pairs
  pair_among p h = grind (arith, among_from_map, range_below, place_within, among_at)

  pub own : ℕ → ℕ
  own k = rank nat_eq cs k

  own_apart : (k l : ℕ) → Among k cs → Among l cs → own k ≡ own l → k ≡ l
  unfolding own rank
  own_apart k l a b e = rank_apart nat_eq nat_decides cs k l a b e

  both_apart : (p q : ℕ × ℕ) → Among p (pairs cs (2 ^ r)) → Among q (pairs cs (2 ^ r)) → (p ≡ q → both own p ≡ both own q) × (both own p ≡ both own q → p ≡ q)
  unfolding both
  both_apart p q h k = grind (arith, pair_among, both, own, own_apart)

  ranked_pairs : pairs (ranks nat_eq cs) (2 ^ r) ≡ map (both own) (pairs cs (2 ^ r))
  unfolding ranks own
  ranked_pairs = pairs_mapped (rank nat_eq cs)

  -- the pairs of numbers are told apart as the pairs of keys are
  pub pairs_ranked : ranks same_pair (pairs (ranks nat_eq cs) (2 ^ r)) ≡ ranks same_pair (pairs cs (2 ^ r))
  pairs_ranked =
      ap (ranks same_pair) ranked_pairs
      ∙ sym (ranks_alike same_pair pair_decides same_pair pair_decides (λ p. p) (both own) (pairs cs (2 ^ r)) both_apart)
      ∙ ap (ranks same_pair) (map-id (pairs cs (2 ^ r)))

  pub same_numbers : (p : ℕ × ℕ) → Among p (pairs cs (2 ^ r)) → nat_eq p.0 p.1 ≡ nat_eq (own p.0) (own p.1)
  same_numbers p h = grind (arith, pair_among, cases_eq, eq-eqb, own, ne_eqb, own_apart)

-- ---- one more variable

module _ (n : ℕ) (F : List Function) (T : List ℕ) (x : ℕ) (small : x < n) (new : has T x ≡ false) where
  R : List Function
  R = reach F (reverse (outside n (x ∷ T)))

  own_pair : Function → ℕ × ℕ
  own_pair g = (dependence n (restrict x false g), dependence n (restrict x true g))

  -- what the functions of the pairs depend on
  pub pairs_depend : (keys masks : List ℕ) (r : ℕ) → ((blocks : ℕ) × (length keys ≡ blocks * (2 * 2 ^ r))) → 2 ^ r ≡ step_of T x →
      class_numbers n F T ≡ ranks nat_eq keys →
      map (λ k. get_or masks k 0) keys ≡ map (dependence n) (reach F (reverse (outside n T))) →
      map (joined_mask masks x) (pairs keys (2 ^ r)) ≡ map (dependence n) (reach F (reverse (outside n (x ∷ T))))
  unfolding R own_pair both own
  pairs_depend keys masks r whole step classes labels =
      told_zip (both (λ k. get_or masks k 0)) own_pair (both (rank nat_eq keys)) (class_pair n F T x) (joined_mask masks x) (dependence n)
      (pairs keys (2 ^ r)) R
      (sym (pairs_mapped keys r whole (λ k. get_or masks k 0)) ∙ ap₂ pairs labels step ∙ pairs_told n T x small new F (dependence n))
      (sym (ranked_pairs keys r whole) ∙ ap₂ pairs (sym classes) step ∙ pairs_of_classes n T x small new F)
      (λ p g a b e d.
      ap₂ bit_or (ap₂ bit_or (ap (λ (z : ℕ × ℕ). z.0) e) (ap (λ (z : ℕ × ℕ). z.1) e))
      (ap (λ t. cond t 0 (2 ^ x)) (same_numbers keys r whole p a ∙ ap (λ (z : ℕ × ℕ). nat_eq z.0 z.1) d)
      ∙ turn (nat_eq (class_pair n F T x g).0 (class_pair n F T x g).1) ∙ ap (λ t. cond t (2 ^ x) 0) (sym (depends_at n F T x small new g b)))
      ∙ sym (dependence_joined n x g small))
    where
      turn : (b : Bool) → cond b 0 (2 ^ x) ≡ cond (not b) (2 ^ x) 0
      turn true = refl
      turn false = refl

  pub more_classes : (keys : List ℕ) (r : ℕ) → ((blocks : ℕ) × (length keys ≡ blocks * (2 * 2 ^ r))) → 2 ^ r ≡ step_of T x →
      class_numbers n F T ≡ ranks nat_eq keys →
      class_numbers n F (x ∷ T) ≡ ranks same_pair (pairs keys (2 ^ r))
  more_classes keys r whole step classes =
      compacted n T x small new F ∙ ap (ranks same_pair) (ap₂ pairs classes (sym step)) ∙ pairs_ranked keys r whole

-- ---- tables

-- class numbers are keys
pub keys_of_classes : (t : ClassesOf) (numbers masks : List ℕ) → HoldsClasses t numbers masks → HoldsKeys t numbers masks
unfolding class_numbers class_of ranks rank
keys_of_classes t numbers masks h = record {
  few_inputs = h.few_inputs;
  few = h.few;
  few_masks = (let a = few_masks t numbers masks h in let b = h.few in omega arith);
  below = class_below t numbers masks h;
  classes = sym (ap (ranks nat_eq) h.classes ∙ ranks_alike nat_eq nat_decides same_table same_table_decides (rank same_table es) (λ u. u) es
      (λ u v a b. (rank_apart same_table same_table_decides es u v a b, ap (rank same_table es))) ∙ ap (ranks same_table) (map-id es));
  labels = ap (map (λ k. get_or masks k 0)) h.classes ∙ h.masks_are.labels;
}
  where
    es : List (List Bool)
    es = entries t.problem.inputs (functions_of t) (set_of t)

pub outside_same : (n : ℕ) (F : List Function) (S T : List ℕ) → ((y : ℕ) → has S y ≡ has T y) →
    map (dependence n) (reach F (reverse (outside n S))) ≡ map (dependence n) (reach F (reverse (outside n T)))
unfolding outside
outside_same n F S T h = λ i. map (dependence n) (reach F (reverse (filter (λ y. not (h y i)) (variables n))))

-- what the numbering of the pairs asks for
pub keys_ready : (t : ClassesOf) (x : ℕ) → x < t.problem.inputs → has (set_of t) x ≡ false → (keys masks : List ℕ) (r : ℕ) →
    HoldsKeys t keys masks → r ≡ free_below t.set x → IsReady keys masks r
unfolding ranks
keys_ready t x inside new keys masks r h e = record {
  rank = (let a = rank_small t x inside new in let n = h.few_inputs in omega arith);
  whole = (
    length (tops t.problem.inputs (set_of t) x inside new (functions_of t)),
    sym (length-map keys (rank nat_eq keys)) ∙ ap length (sym h.classes) ∙ length_numbers t.problem.inputs (set_of t) x inside new (functions_of t)
        ∙ ap (λ s. length (tops t.problem.inputs (set_of t) x inside new (functions_of t)) * (2 * s)) (sym (ap (λ k. 2 ^ k) e ∙ step_is t x inside new)),
  );
  classes = h.below;
  few = h.few_masks;
  few_entries = h.few;
}

-- the keys of the values, with masks of both
pub start_keys : (p : TruthTables) (numbers exact masks : List ℕ) → HoldsClasses (classes_of p 0) numbers exact →
    length exact ≤ length masks → length masks ≤ 2 ^ 20 → ((c : ℕ) → get_or exact c 0 ≡ get_or masks c 0) →
    HoldsKeys (classes_of p 0) numbers masks
start_keys p numbers exact masks h long few same =
    let k = keys_of_classes (classes_of p 0) numbers exact h in
    record {
      few_inputs = k.few_inputs;
      few = k.few;
      few_masks = few;
      below = λ i lt. let b = k.below i lt in omega arith;
      classes = k.classes;
      labels = map_same (λ c. get_or masks c 0) (λ c. get_or exact c 0) numbers (λ c a. sym (same c)) ∙ k.labels;
    }

pub free_zero : (x : ℕ) → free_below 0 x ≡ x
free_zero zero = free_none 0
free_zero (suc x) = ap (free_below 0) (let s : suc x ≡ x + 1 = omega arith in s) ∙ free_more 0 x (shr_and_one 0 x ∙ bit_at-zero x)
    ∙ (let r = free_zero x in omega arith)

few_zeros : Bool → List ℕ
few_zeros b = cond b (0 ∷ 0 ∷ []) (0 ∷ [])

pub value_keys : (p : TruthTables) → p.inputs ≤ 16 → length p.tables ≤ 16 → 0 < length p.tables →
    HoldsKeys (classes_of p 0) (map (number_of (value_at p 0 0)) (values_of p)) (0 ∷ 0 ∷ [])
unfolding few_zeros
value_keys p inputs outputs some =
    start_keys p (map (number_of (value_at p 0 0)) (values_of p)) exact (0 ∷ 0 ∷ [])
    (holds_start p (map (number_of (value_at p 0 0)) (values_of p)) exact inputs outputs some refl (zeros both_occur) (long both_occur))
    (short both_occur) (omega arith) (λ c. zeros both_occur c ∙ sym (zeros true c))
  where
    both_occur : Bool
    both_occur = list_any (λ k. nat_eq k 1) (map (number_of (value_at p 0 0)) (values_of p))

    exact : List ℕ
    exact = few_zeros both_occur

    long : (b : Bool) → length (few_zeros b) ≡ cond b 2 1
    long true = refl
    long false = refl

    short : (b : Bool) → length (few_zeros b) ≤ 2
    short true = omega arith
    short false = omega arith

    zeros : (b : Bool) (c : ℕ) → get_or (few_zeros b) c 0 ≡ 0
    zeros true zero = refl
    zeros true (suc zero) = refl
    zeros true (suc (suc c)) = refl
    zeros false zero = refl
    zeros false (suc c) = refl

-- ---- names of pairs

-- the keys with one more variable
pub keys_by_names : (t : ClassesOf) (x : ℕ) → x < t.problem.inputs → has (set_of t) x ≡ false → (keys masks : List ℕ) →
    HoldsKeys t keys masks → ((blocks : ℕ) × (length keys ≡ blocks * (2 * 2 ^ free_below t.set x))) →
    (numbers joined : List ℕ) → TellsPairs masks x (pairs keys (2 ^ free_below t.set x)) numbers joined → HoldsKeys (with_variable t x) numbers joined
keys_by_names t x inside new keys masks h whole numbers joined names =
    let n = t.problem.inputs in
    let F = functions_of t in
    let T = set_of t in
    let s = step_is t x inside new in
    let ps = pairs keys (2 ^ free_below t.set x) in
    record {
      few_inputs = h.few_inputs;
      few = (let l = length_names masks x ps numbers joined names in let m = length-pairs keys (2 ^ free_below t.set x) in let f = h.few in omega arith);
      few_masks = names.few;
      below = names_below masks x ps numbers joined names;
      classes = sym (class_numbers_same n F (x ∷ T) (set_of (with_variable t x)) (members_more t x inside new))
          ∙ more_classes n F T x inside new keys (free_below t.set x) whole s h.classes
          ∙ sym (names_ranked masks x ps numbers joined names);
      labels = names_masks masks x ps numbers joined names
          ∙ pairs_depend n F T x inside new keys masks (free_below t.set x) whole s h.classes h.labels
          ∙ outside_same n F (x ∷ T) (set_of (with_variable t x)) (members_more t x inside new);
    }
