-- One more variable in the set of a class table.
--     free_none, free_more, free_same      how many variables below one more are outside the set
--     holds_more      the class table with one more variable, from the numbers of the pairs and their masks
--     class_below, few_masks, few_of_most      the numbers are below the number of masks; how many there are
--     IsReady, is_ready, ready_table      what a numbering of the pairs asks for, and that a class table meets it
--     width_into      a width is the number of masks with the variable
use Rattle.std.proofs.Common.{◌≡◌, ◌≢◌, ℕ, zero, suc, ◌+◌, ◌*◌, ◌/◌, ◌^◌, ◌<◌, ◌≤◌, Bool, true, false, not, cond, ◌&&◌, ◌||◌, inl, inr, List, [], ◌∷◌, map, length, reverse, get_or, refl, sym, ap, ap₂, ◌∙◌, arith, eqb, eq-eqb, ne_eqb, bit_or, bit_and}
use Rattle.std.specs.List.{filter, flat_map}
use Rattle.std.proofs.Common.{pow_mono}
use Rattle.std.proofs.Math.Nat.{mul-le-mul_left}
use Rattle.std.proofs.lemmas.List.FromFn.{length-range_with_len}
use Rattle.std.specs.Int.{bit_at}
use Rattle.std.proofs.lemmas.Bool.{cases_eq}
use Rattle.std.proofs.lemmas.List.{length-append, length-reverse, length-map}
use Rattle.std.proofs.lemmas.List.Elements.{filter-append}
use Rattle.std.proofs.lemmas.Nat.Bits.{bit_at_or, bit_at-pow_same, bit_at-pow_other, shr_and_one}
use Rattle.definitions.specs.Orders.{has, variables, without}
use Rattle.definitions.specs.Levels.{reach, subfunctions, dependents}
use Rattle.definitions.proofs.Widths.Recurrence.{has_again}
use Rattle.std.specs.Set.{distinct_count}
use Rattle.std.proofs.lemmas.List.{get_or-map}
use Rattle.std.proofs.lemmas.Map.Made.{distinct_count-le}
use Rattle.definitions.specs.Functions.{same_table, table}
use Rattle.definitions.specs.Widths.{same_pair, entries, class_of, class_numbers, outside, width}
use Rattle.definitions.proofs.Lists.Sets.{Among}
use Rattle.definitions.proofs.Functions.Tables.{same_table_decides}
use Rattle.definitions.proofs.Bits.Masks.{has_members}
use Rattle.definitions.proofs.Lists.Orders.{has_variables}
use Rattle.subfunction_classes.specs.Dependence.{joined_mask}
use Rattle.subfunction_classes.specs.Numbering.{rank, ranks}
use Rattle.subfunction_classes.specs.PairTables.{IsPairTable}
use Rattle.subfunction_classes.specs.Places.{pairs}
use Rattle.subfunction_classes.specs.Table.{ClassesOf, HoldsClasses, with_variable, functions_of, set_of, free_below}
use Rattle.subfunction_classes.proofs.Compaction.{filter_range_same, lows, step_of, compacted, length_numbers, length_blocks, class_numbers_same, tops}
use Rattle.subfunction_classes.proofs.RankLaws.{rank_below}
use Rattle.subfunction_classes.proofs.CountedWidths.{masks_same}
use Rattle.subfunction_classes.proofs.MaskStep.{masks_more}
use Rattle.subfunction_classes.proofs.JoinedMasks.{numbered_place}
use Rattle.definitions.proofs.Lists.Ranges.{range_append, filter_at_most}
use Rattle.definitions.proofs.Widths.SizeBounds.{length-subfunctions}

pub free_none : (set : ℕ) → free_below set 0 ≡ 0
unfolding free_below
free_none set = refl

pub free_step : (set y : ℕ) → free_below set (y + 1) ≡ free_below set y + cond (not (eqb (bit_at set y) 1)) 1 0
unfolding free_below
free_step set y = grind (arith, range_append, filter-append, length-append)

pub free_more : (set y : ℕ) → bit_and (set / 2 ^ y) 1 ≡ 0 → free_below set (y + 1) ≡ free_below set y + 1
free_more set y e = grind (arith, shr_and_one, free_step)

pub free_same : (set y : ℕ) → (bit_and (set / 2 ^ y) 1 ≡ 0 → ⊥) → free_below set (y + 1) ≡ free_below set y
free_same set y e = grind (arith, shr_and_one, free_step)

pub free_le : (set x : ℕ) → free_below set x ≤ x
free_le set zero = omega (arith, free_none set)
free_le set (suc x) = by (eqb (bit_at set x) 1) ((ap (free_below set) (omega arith)) ∙ free_step set x) (free_le set x)
  where
    by : (b : Bool) → free_below set (suc x) ≡ free_below set x + cond (not b) 1 0 → free_below set x ≤ x → free_below set (suc x) ≤ suc x
    by true s r = omega arith
    by false s r = omega arith

module _ (t : ClassesOf) (x : ℕ) (inside : x < t.problem.inputs) (new : has (set_of t) x ≡ false) where
  pub step_is : 2 ^ free_below t.set x ≡ step_of (set_of t) x
  unfolding free_below step_of lows
  step_is = grind (arith, length-reverse, filter_range_same, has_members, has_variables)

  -- the members with one more bit
  pub members_more : (y : ℕ) → has (x ∷ set_of t) y ≡ has (set_of (with_variable t x)) y
  members_more y =
      elim (cases_eq y x) [
        | inl e ↦ ap (λ b. b || has (set_of t) y) (eq-eqb y x e)
            ∙ sym (has_members t.problem.inputs (bit_or t.set (2 ^ x)) y
            ∙ ap₂ (λ a b. a && b) ((has_variables t.problem.inputs y).1 (omega arith))
            (eq-eqb (bit_at (bit_or t.set (2 ^ x)) y) 1 (set_bit e)))
        | inr ne ↦ ap (λ b. b || has (set_of t) y) (ne_eqb y x ne) ∙ has_members t.problem.inputs t.set y
            ∙ ap (λ m. has (variables t.problem.inputs) y && eqb m 1) (sym (other_bit ne))
            ∙ sym (has_members t.problem.inputs (bit_or t.set (2 ^ x)) y)
      ]
    where
      set_bit : y ≡ x → bit_at (bit_or t.set (2 ^ x)) y ≡ 1
      set_bit e = omega (arith, bit_at_or t.set (2 ^ x) y, ap (bit_at (2 ^ x)) e ∙ bit_at-pow_same x)

      other_bit : y ≢ x → bit_at (bit_or t.set (2 ^ x)) y ≡ bit_at t.set y
      other_bit ne = omega (arith, bit_at_or t.set (2 ^ x) y, bit_at-pow_other x y ne)

  pub rank_small : free_below t.set x < t.problem.inputs
  rank_small = omega (arith, free_le t.set x)

  pub numbers_whole : (numbers masks : List ℕ) → HoldsClasses t numbers masks → (blocks : ℕ) × (length numbers ≡ blocks * (2 * 2 ^ free_below t.set x))
  numbers_whole numbers masks h = (
    length (tops t.problem.inputs (set_of t) x inside new (functions_of t)),
    ap length h.classes
        ∙ length_numbers t.problem.inputs (set_of t) x inside new (functions_of t)
        ∙ ap (λ s. length (tops t.problem.inputs (set_of t) x inside new (functions_of t)) * (2 * s)) (sym step_is),
  )

  -- the table with one more variable
  pub holds_more : (numbers masks numbered joined : List ℕ) → HoldsClasses t numbers masks →
      numbered ≡ ranks same_pair (pairs numbers (2 ^ free_below t.set x)) →
      length joined ≡ distinct_count same_pair (pairs numbers (2 ^ free_below t.set x)) →
      map (λ c. get_or joined c 0) numbered ≡ map (joined_mask masks x) (pairs numbers (2 ^ free_below t.set x)) →
      HoldsClasses (with_variable t x) numbered joined
  holds_more numbers masks numbered joined h e many labels = record {
    few_inputs = h.few_inputs;
    few = omega (arith, numbered_place numbers numbered (free_below t.set x) e);
    classes = e ∙ ap₂ (λ us s. ranks same_pair (pairs us s)) h.classes step_is
        ∙ sym (compacted t.problem.inputs (set_of t) x inside new (functions_of t))
        ∙ class_numbers_same t.problem.inputs (functions_of t) (x ∷ set_of t) (set_of (with_variable t x)) members_more;
    masks_are = masks_same t.problem.inputs (functions_of t) (x ∷ set_of t) (set_of (with_variable t x)) members_more joined
        (masks_more t.problem.inputs (functions_of t) (set_of t) x inside new masks h.masks_are joined
        (many ∙ ap (distinct_count same_pair) same_pairs)
        (ap (map (λ c. get_or joined c 0)) (ap (ranks same_pair) (sym same_pairs) ∙ sym e) ∙ labels ∙ ap (map (joined_mask masks x)) same_pairs));
  }
    where
      same_pairs : pairs numbers (2 ^ free_below t.set x) ≡ pairs (class_numbers t.problem.inputs (functions_of t) (set_of t)) (step_of (set_of t) x)
      same_pairs = ap₂ pairs h.classes step_is

pub class_below : (t : ClassesOf) (numbers masks : List ℕ) → HoldsClasses t numbers masks → (i : ℕ) → i < length numbers → get_or numbers i 0 < length masks
unfolding class_numbers class_of rank
class_below t numbers masks h i lt =
    let es = entries t.problem.inputs (functions_of t) (set_of t) in
    let l = ap length h.classes in
    let k = length-map es (rank same_table es) in
    let small : i < length es = omega arith in
    omega (
      arith,
      ap (λ us. get_or us i 0) h.classes ∙ get_or-map (rank same_table es) es i [] 0 small,
      rank_below same_table same_table_decides es (get_or es i []) (among_get es i small),
    )
  where
    among_get : (xs : List (List Bool)) (j : ℕ) → j < length xs → Among (get_or xs j []) xs
    among_get [] j k = absurd (omega arith)
    among_get (y ∷ xs) zero k = inl refl
    among_get (y ∷ xs) (suc j) k = inr (among_get xs j (omega arith))

-- there are no more masks than entries
pub few_masks : (t : ClassesOf) (numbers masks : List ℕ) → HoldsClasses t numbers masks → length masks ≤ length numbers
unfolding class_numbers
few_masks t numbers masks h = grind (arith, length-map, distinct_count-le)

-- no table has more entries than that of the empty set
pub few_of_most : (t : ClassesOf) (numbers masks : List ℕ) → HoldsClasses t numbers masks → length numbers ≤ length t.problem.tables * 2 ^ t.problem.inputs
unfolding class_numbers entries reach outside
few_of_most t numbers masks h =
    let n = t.problem.inputs in
    let F = functions_of t in
    let free = filter (λ y. not (has (set_of t) y)) (variables n) in
    let es = map (table n) (flat_map (subfunctions (reverse free)) F) in
    let l = ap length h.classes ∙ length-map es (class_of es) ∙ length-map (flat_map (subfunctions (reverse free)) F) (table n)
    ∙ length_blocks (subfunctions (reverse free)) (2 ^ length (reverse free)) (λ f. length-subfunctions (reverse free) f) F in
    grind (arith, length-map, length-reverse, length-range_with_len, filter_at_most, pow_mono, mul-le-mul_left)

-- what the numbering of the pairs asks for
pub record IsReady (numbers masks : List ℕ) (r : ℕ) : Type 0 where
  pub rank : r < 16
  pub whole : (blocks : ℕ) × (length numbers ≡ blocks * (2 * 2 ^ r))
  pub classes : (i : ℕ) → i < length numbers → get_or numbers i 0 < length masks
  pub few : length masks ≤ 2 ^ 20
  pub few_entries : length numbers ≤ 2 ^ 20

pub is_ready : (t : ClassesOf) (x : ℕ) → x < t.problem.inputs → has (set_of t) x ≡ false → (numbers masks : List ℕ) (r : ℕ) →
    HoldsClasses t numbers masks → r ≡ free_below t.set x → IsReady numbers masks r
is_ready t x inside new numbers masks r h e =
    let w = numbers_whole t x inside new numbers masks h in
    record {
      rank = omega (arith, rank_small t x inside new);
      whole = (w.0, w.1 ∙ ap (λ k. w.0 * (2 * 2 ^ k)) (sym e));
      classes = class_below t numbers masks h;
      few = omega (arith, few_masks t numbers masks h);
      few_entries = h.few;
    }

-- so it is one whose entries are paired
pub ready_table : (numbers masks : List ℕ) (r : ℕ) → IsReady numbers masks r → IsPairTable numbers r (length masks)
ready_table numbers masks r h =
    record {
      paired = record { small_rank = h.rank; short = omega arith; whole = h.whole };
      few = h.few_entries;
      below = h.classes;
    }

-- the width of a variable over the set, from the table with it
pub width_into : (t : ClassesOf) (x : ℕ) → x < t.problem.inputs → has (set_of t) x ≡ false →
    (has (set_of (with_variable t x)) x ≡ true)
    × (width t.problem.inputs (functions_of t) (without x (set_of (with_variable t x))) x ≡ width t.problem.inputs (functions_of t)
    (set_of t) x)
unfolding width outside
width_into t x inside new = (
  member,
  λ i. dependents t.problem.inputs (reach (functions_of t) (filter (λ y. not (same y i)) (variables t.problem.inputs))) x,
)
  where
    member : has (set_of (with_variable t x)) x ≡ true
    member = sym (members_more t x inside new x) ∙ ap (λ b. b || has (set_of t) x) (eq-eqb x x refl)

    same : (y : ℕ) → has (x ∷ without x (set_of (with_variable t x))) y ≡ has (x ∷ set_of t) y
    same y = has_again x (set_of (with_variable t x)) member y ∙ sym (members_more t x inside new y)
