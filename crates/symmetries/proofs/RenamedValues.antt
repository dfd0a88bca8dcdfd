-- The values of functions with exchanged variables, as they are set point by point.
--     AreSetTo p old new images output k      the first k values of a function are those at the images of points, the others 0
--     set_more, set_kept      with the value at one point more
--     AreFilledTo p new images m      the first m functions have all their values
use Rattle.std.proofs.Common.{◌≡◌, ◌≢◌, ℕ, ◌+◌, ◌^◌, ◌<◌, ◌≤◌, true, false, inl, inr, List, [], length, set, get_or, slice_index, sym, ap, ◌∙◌, arith}
use Rattle.std.proofs.lemmas.Bool.{cases_eq}
use Rattle.std.proofs.lemmas.List.{get_or-set_same, get_or-set_other, length-set}
use Rattle.definitions.specs.Problems.{TruthTables, outputs_of, table_at, value_at}

-- the first k values of a function are those at the images of points, and the others are 0; the other functions stay
pub record AreSetTo (p old new : TruthTables) (images : List ℕ) (output k : ℕ) : Type 0 where
  pub inputs : new.inputs ≡ old.inputs
  pub outputs : outputs_of new ≡ outputs_of old
  pub long : length (table_at new output) ≡ 2 ^ p.inputs
  pub values : (i : ℕ) → i < k → value_at new output i ≡ value_at p output (slice_index images i)
  pub clear : (i : ℕ) → k ≤ i → value_at new output i ≡ false
  pub others : (j : ℕ) → j ≢ output → table_at new j ≡ table_at old j

-- with a 1 at one point more
pub set_more : (p old new next : TruthTables) (images : List ℕ) (output k : ℕ) → AreSetTo p old new images output k → k < 2 ^ p.inputs →
    output < outputs_of new →
    value_at p output (slice_index images k) ≡ true → next.inputs ≡ new.inputs →
    next.tables ≡ set new.tables output (set (table_at new output) k true) → AreSetTo p old next images output (k + 1)
set_more p old new next images output k are inside there one inputs tables = record {
  inputs = inputs ∙ are.inputs;
  outputs = ap length tables ∙ length-set new.tables output (set (table_at new output) k true) ∙ are.outputs;
  long = ap length own ∙ length-set (table_at new output) k true ∙ are.long;
  values = λ i l. elim (cases_eq i k) [
    | inl s ↦
        ap (value_at next output) s ∙ ap (λ t. get_or t k false) own ∙ get_or-set_same (table_at new output) k true false (omega (arith, are.long)) ∙ sym one
        ∙ ap (λ j. value_at p output (slice_index images j)) (sym s)
    | inr ne ↦ ap (λ t. get_or t i false) own ∙ get_or-set_other (table_at new output) k i true false ne ∙ are.values i (omega arith)
  ];
  clear = λ i l. ap (λ t. get_or t i false) own ∙ get_or-set_other (table_at new output) k i true false (omega arith) ∙ are.clear i (omega arith);
  others = λ j ne. ap (λ ts. get_or ts j []) tables ∙ get_or-set_other new.tables output j (set (table_at new output) k true) [] ne ∙ are.others j ne;
}
  where
    own : table_at next output ≡ set (table_at new output) k true
    own = ap (λ ts. get_or ts output []) tables ∙ get_or-set_same new.tables output (set (table_at new output) k true) [] there

-- with a 0 at one point more
pub set_kept : (p old new : TruthTables) (images : List ℕ) (output k : ℕ) → AreSetTo p old new images output k →
    value_at p output (slice_index images k) ≡ false → AreSetTo p old new images output (k + 1)
set_kept p old new images output k are none = record {
  inputs = are.inputs;
  outputs = are.outputs;
  long = are.long;
  values = λ i l. elim (cases_eq i k) [
    | inl s ↦
        ap (value_at new output) s ∙ are.clear k (omega arith) ∙ sym none ∙ ap (λ j. value_at p output (slice_index images j)) (sym s)
    | inr ne ↦ are.values i (omega arith)
  ];
  clear = λ i l. are.clear i (omega arith);
  others = are.others;
}

-- the first m functions have all their values, and the others are 0
pub record AreFilledTo (p new : TruthTables) (images : List ℕ) (m : ℕ) : Type 0 where
  pub inputs : new.inputs ≡ p.inputs
  pub outputs : outputs_of new ≡ outputs_of p
  pub long : (j : ℕ) → m ≤ j → j < outputs_of p → length (table_at new j) ≡ 2 ^ p.inputs
  pub values : (j k : ℕ) → j < m → k < 2 ^ p.inputs → value_at new j k ≡ value_at p j (slice_index images k)
  pub clear : (j k : ℕ) → m ≤ j → value_at new j k ≡ false
