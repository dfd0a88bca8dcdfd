-- Numbers chosen by flags, with the table of their places.
--     filter_range_same, filter_range_more      a filter of a range: where two tests agree, and one number more
--     IsChoosing flags i numbers places      the tables after the first i flags
--     choosing_all      after all of them; choosing_no, choosing_yes      one flag more
use Rattle.std.proofs.Common.{◌≡◌, ℕ, zero, suc, ◌+◌, ◌<◌, ◌≤◌, Bool, true, false, cond, List, [], ◌∷◌, ◌++◌, map, length, set, get_or, get_or-set_same, get_or-set_other, refl, ap, ap₂, ◌∙◌, arith, length-append}
use Rattle.std.specs.List.{filter, range_with_len}
use Rattle.std.proofs.lemmas.Bool.{cases_lt}
use Rattle.std.proofs.lemmas.List.{get_or_append_left, get_or_push, append-nil, length-set}
use Rattle.std.proofs.lemmas.List.Elements.{filter-append}
use Rattle.std.proofs.lemmas.List.FromFn.{length-map-range_with_len, get_or-map-range_with_len}
use Rattle.subset_layers.specs.Selections.{chosen, ArePlaced}
use Rattle.definitions.proofs.Lists.Ranges.{range_last}

-- two tests that agree on a range choose the same
pub filter_range_same : (p q : ℕ → Bool) (k a : ℕ) → ((i : ℕ) → a ≤ i → i < a + k → p i ≡ q i) → filter p (range_with_len a k) ≡ filter q (range_with_len a k)
filter_range_same p q zero a h = refl
filter_range_same p q (suc k) a h =
    ap₂ (λ b zs. cond b (a ∷ zs) zs) (h a (omega arith) (omega arith)) (filter_range_same p q k (a + 1) (λ i low high. h i (omega arith) (omega arith)))

-- one number more
pub filter_range_more : (p : ℕ → Bool) (i : ℕ) → filter p (range_with_len 0 (i + 1)) ≡ filter p (range_with_len 0 i) ++ cond (p i) (i ∷ []) []
filter_range_more p i =
    let s : i + 1 ≡ suc i = omega arith in
    ap (λ k. filter p (range_with_len 0 k)) s ∙ ap (filter p) (range_last i 0) ∙ filter-append p (range_with_len 0 i) ((0 + i) ∷ [])
    ∙ ap (λ k. filter p (range_with_len 0 i) ++ filter p (k ∷ [])) (omega arith)

-- the numbers at which a test passes
pub chosen-map : (p : ℕ → Bool) (n : ℕ) → chosen (map p (range_with_len 0 n)) ≡ filter p (range_with_len 0 n)
unfolding chosen
chosen-map p n = grind (arith, length-map-range_with_len, filter_range_same, get_or-map-range_with_len)

-- the tables after the first i flags
pub record IsChoosing (flags : List Bool) (i : ℕ) (numbers places : List ℕ) : Type 0 where
  pub numbers_are : numbers ≡ filter (λ j. get_or flags j false) (range_with_len 0 i)
  pub long : length places ≡ length flags
  pub short : length numbers ≤ i
  pub below : (j : ℕ) → j < length numbers → get_or numbers j 0 < i
  pub placed : ArePlaced numbers places

pub choosing_all : (flags : List Bool) (numbers places : List ℕ) → IsChoosing flags (length flags) numbers places → numbers ≡ chosen flags
unfolding chosen
choosing_all flags numbers places h = h.numbers_are

-- one number more, above the others
placed_yes : (numbers places : List ℕ) (i : ℕ) → i < length places → ((j : ℕ) → j < length numbers → get_or numbers j 0 < i) → ArePlaced numbers places →
    ArePlaced (numbers ++ i ∷ []) (set places i (length numbers))
placed_yes numbers places i inside below h =
    grind (arith, get_or_append_left, get_or_push, set, length-set, length-append, cases_lt, get_or-set_other, get_or-set_same)

-- what is chosen stays below what comes next
below_more : (numbers : List ℕ) (i : ℕ) → ((j : ℕ) → j < length numbers → get_or numbers j 0 < i) →
    (j : ℕ) → j < length (numbers ++ i ∷ []) → get_or (numbers ++ i ∷ []) j 0 < i + 1
below_more numbers i below j lt = grind (arith, cases_lt, get_or_append_left, length-append, get_or_push)

pub choosing_no : (flags : List Bool) (i : ℕ) (numbers places : List ℕ) → get_or flags i false ≡ false → IsChoosing flags i numbers places →
    IsChoosing flags (i + 1) numbers places
choosing_no flags i numbers places b h = grind (arith, append-nil, filter_range_more)

pub choosing_yes : (flags : List Bool) (i : ℕ) (numbers places : List ℕ) → get_or flags i false ≡ true → i < length flags →
    IsChoosing flags i numbers places → IsChoosing flags (i + 1) (numbers ++ i ∷ []) (set places i (length numbers))
choosing_yes flags i numbers places b inside h = grind (arith, filter_range_more, length-set, length-append, below_more, placed_yes)
