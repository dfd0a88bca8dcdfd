-- Answers of many problems, one behind the other.
--     IsSoFar given i orders levels totals      the answers of the first i problems
--     part_tables      a problem's words are truth tables
--     more_put      those of one problem more, put behind the others
--     none_put      those of none
--     block_fits      the words of a problem are there
--     same_answers      answers by other names
use Rattle.std.proofs.Common.{◌≡◌, ℕ, ◌+◌, ◌*◌, ◌<◌, ◌≤◌, List, [], ◌∷◌, ◌++◌, length, take, drop, slice_index, sym, ◌∙◌, ap, ap₂, subst, arith, below_more}
use Rattle.std.proofs.lemmas.List.{length-drop, length-append, length-take-le, drop-append-le, take-append-le, take_all, drop_at, get_or_append_left, get_or_at}
use Rattle.std.proofs.lemmas.Nat.{row_fits}
use Rattle.definitions.specs.Functions.{Function}
use Rattle.definitions.specs.Problems.{functions, packed_tables, words_of, words_per_table}
use Rattle.solutions.specs.Solutions.{IsFirstFewest}
use Rattle.minorder_c.specs.declared.arguments.GivenTables.{GivenTables}
use Rattle.definitions.proofs.Widths.SizeBounds.{order_length}
use Rattle.minorder_c.specs.Answers.{AreTables}
use Rattle.minorder_c.specs.Many.{AreFirstFewest, HasManyShape, IsPut, tables_at}
use Rattle.minorder_c.proofs.Counts.{counts_long}

-- a part of a list stays where more is put behind the list
pub kept_part : (size : ℕ) (xs ys : List ℕ) (k : ℕ) → k * size + size ≤ length xs → words_of size (xs ++ ys) k ≡ words_of size xs k
kept_part size xs ys k h =
    ap (take size) (drop-append-le (k * size) xs ys (omega arith))
    ∙ take-append-le size (drop (k * size) xs) ys (omega (arith, length-drop (k * size) xs))

-- the part that is put behind a list
pub last_part : (size : ℕ) (xs ys : List ℕ) (k : ℕ) → length xs ≡ k * size → length ys ≡ size → words_of size (xs ++ ys) k ≡ ys
last_part size xs ys k l m = ap (take size) (drop_at xs ys (k * size) l) ∙ take_all size ys (omega arith)

pub record IsSoFar (given : GivenTables) (i : ℕ) (orders levels totals : List ℕ) : Type 0 where
  pub orders_long : length orders ≡ i * given.inputs
  pub levels_long : length levels ≡ i * given.inputs
  pub totals_long : length totals ≡ i
  pub answers : AreFirstFewest given i orders levels totals

-- an answer by other names
same_answer : (n : ℕ) (F : List Function) (order order' levels levels' : List ℕ) (total total' : ℕ) → order' ≡ order → levels' ≡ levels →
    total' ≡ total → IsFirstFewest n F [] order levels total → IsFirstFewest n F [] order' levels' total'
same_answer n F order order' levels levels' total total' p q r h =
    let h1 = subst (λ (x : ℕ). IsFirstFewest n F [] order levels x) (sym r) h in
    let h2 = subst (λ (x : List ℕ). IsFirstFewest n F [] order x total') (sym q) h1 in
    subst (λ (x : List ℕ). IsFirstFewest n F [] x levels' total') (sym p) h2

one_more : (given : GivenTables) (i : ℕ) (orders levels totals order counts : List ℕ) (total : ℕ) →
    IsSoFar given i orders levels totals → length order ≡ given.inputs → length counts ≡ given.inputs →
    IsFirstFewest given.inputs (functions (tables_at given i)) [] order counts total →
    IsSoFar given (i + 1) (orders ++ order) (levels ++ counts) (totals ++ total ∷ [])
one_more given i orders levels totals order counts total far long counted best =
    let n = given.inputs in
    let F : ℕ → List Function = λ (k : ℕ). functions (tables_at given k) in
    let P : ℕ → Type 0 = λ (k : ℕ).
    IsFirstFewest n (F k) [] (words_of n (orders ++ order) k) (words_of n (levels ++ counts) k) (slice_index (totals ++ total ∷ []) k) in
    let kept : (k : ℕ) → k < i → P k = λ k low.
    let fits : k * n + n ≤ i * n = row_fits k n i n low (omega arith) in
    same_answer n (F k) (words_of n orders k) (words_of n (orders ++ order) k) (words_of n levels k) (words_of n (levels ++ counts) k)
    (slice_index totals k) (slice_index (totals ++ total ∷ []) k)
    (kept_part n orders order k (omega (arith, far.orders_long))) (kept_part n levels counts k (omega (arith, far.levels_long)))
    (get_or_append_left totals (total ∷ []) 0 k (omega (arith, far.totals_long))) (far.answers k low) in
    let last : P i =
    same_answer n (F i) order (words_of n (orders ++ order) i) counts (words_of n (levels ++ counts) i) total
    (slice_index (totals ++ total ∷ []) i) (last_part n orders order i far.orders_long long)
    (last_part n levels counts i far.levels_long counted) (get_or_at totals total [] 0 i far.totals_long) best in
    record {
      orders_long = omega (arith, length-append orders order, far.orders_long, long);
      levels_long = omega (arith, length-append levels counts, far.levels_long, counted);
      totals_long = omega (arith, length-append totals (total ∷ []), far.totals_long);
      answers = below_more P i kept last;
    }

-- the words of one problem
pub part_tables : (given : GivenTables) (places counts many i : ℕ) (part : GivenTables) → HasManyShape given places counts many → i < many →
    part.words.now ≡ words_of (given.outputs * words_per_table given.inputs) given.words.now i → part.inputs ≡ given.inputs →
    part.outputs ≡ given.outputs → AreTables part
part_tables given places counts many i part h lt words inputs outputs =
    let size = given.outputs * words_per_table given.inputs in
    let fits : i * size + size ≤ many * size = row_fits i size many size lt (omega arith) in
    let r = h.in_range in
    record {
      in_range = record {
        some_inputs = omega (arith, inputs, r.some_inputs);
        few_inputs = omega (arith, inputs, r.few_inputs);
        some_outputs = omega (arith, outputs, r.some_outputs);
        few_outputs = omega (arith, outputs, r.few_outputs);
      };
      long = ap length words
          ∙ length-take-le size (drop (i * size) given.words.now)
          (let d = length-drop (i * size) given.words.now in let l = h.long in omega (arith, d, l, fits))
          ∙ sym (ap₂ (λ m n. m * words_per_table n) outputs inputs);
    }

pub more_put : (given : GivenTables) (i : ℕ) (part : GivenTables) (orders orders' levels levels' totals totals' : List ℕ) →
    IsSoFar given i orders levels totals → part.words.now ≡ words_of (given.outputs * words_per_table given.inputs) given.words.now i →
    part.inputs ≡ given.inputs → part.outputs ≡ given.outputs → IsPut part orders orders' levels levels' totals totals' →
    IsSoFar given (i + 1) orders' levels' totals'
more_put given i part orders orders' levels levels' totals totals' far words inputs outputs put =
    let best : IsFirstFewest given.inputs (functions (tables_at given i)) [] put.order put.counts put.total =
    subst (λ (ws : List ℕ). IsFirstFewest given.inputs (functions (packed_tables given.inputs given.outputs ws)) [] put.order put.counts put.total) words
    (subst (λ (m : ℕ). IsFirstFewest given.inputs (functions (packed_tables given.inputs m part.words.now)) [] put.order put.counts put.total) outputs
    (subst (λ (n : ℕ). IsFirstFewest n (functions (packed_tables n part.outputs part.words.now)) [] put.order put.counts put.total) inputs put.fewest)) in
    let long = order_length given.inputs put.order best.first.fewest.is_order in
    let counted = ap length best.levels_are ∙ counts_long given.inputs (functions (tables_at given i)) put.order ∙ long in
    let more = one_more given i orders levels totals put.order put.counts put.total far long counted best in
    let with_orders = subst (λ (x : List ℕ). IsSoFar given (i + 1) x (levels ++ put.counts) (totals ++ put.total ∷ [])) (sym put.orders_are) more in
    let with_levels = subst (λ (x : List ℕ). IsSoFar given (i + 1) orders' x (totals ++ put.total ∷ [])) (sym put.levels_are) with_orders in
    subst (λ (x : List ℕ). IsSoFar given (i + 1) orders' levels' x) (sym put.totals_are) with_levels

pub none_put : (given : GivenTables) (orders levels totals : List ℕ) → orders ≡ [] → levels ≡ [] → totals ≡ [] → IsSoFar given 0 orders levels totals
none_put given orders levels totals o l t = record {
  orders_long = ap length o ∙ omega arith;
  levels_long = ap length l ∙ omega arith;
  totals_long = ap length t;
  answers = λ k low. absurd (omega arith);
}

pub block_fits : (given : GivenTables) (places counts many i w : ℕ) → HasManyShape given places counts many → i < many →
    w ≡ words_per_table given.inputs → i * (given.outputs * w) + given.outputs * w ≤ length given.words.now
block_fits given places counts many i w shape low e =
    let size = given.outputs * w in
    let fits : i * size + size ≤ many * size = row_fits i size many size low (omega arith) in
    omega (arith, fits, shape.long, ap (λ v. many * (given.outputs * v)) e)

-- answers by other names
pub same_answers : (given given' : GivenTables) (many : ℕ) (orders orders' levels levels' totals totals' : List ℕ) → given ≡ given' →
    orders' ≡ orders → levels' ≡ levels → totals' ≡ totals → AreFirstFewest given many orders levels totals →
    AreFirstFewest given' many orders' levels' totals'
same_answers given given' many orders orders' levels levels' totals totals' g o l t h =
    subst (λ z. z) (λ i. AreFirstFewest (g i) many (sym o i) (sym l i) (sym t i)) h
