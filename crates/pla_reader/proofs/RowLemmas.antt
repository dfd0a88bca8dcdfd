-- A term's line, position by position.
use Rattle.std.proofs.Common.{◌≡◌, ℕ, ◌+◌, ◌-◌, ◌≤◌, ◌<◌, zero, suc, refl, sym, ◌∙◌, ap, Bool, true, false, cond, ◌==◌, ◌||◌, nat_lt, List, [], ◌∷◌, ◌++◌, length, map, take, drop, Option, Some, None, arith, add-one}
use Rattle.std.specs.List.{slice_index_or, range_with_len}
use Rattle.std.proofs.lemmas.Bool.Decides.{nat_tests}
use Rattle.std.proofs.Math.Seq.{drop-cons}
use Rattle.std.proofs.lemmas.List.FromFn.{fill_by_all}
use Rattle.std.proofs.lemmas.List.{get_or-map, get_or-take, get_or-drop, length-map, length-take-le, length-drop}
use Rattle.pla_reader.specs.declared.errors.LineFault.{LineFault}
use Rattle.pla_reader.specs.declared.errors.LineFault.TheVariants.{ShortTerm, LongTerm}
use Rattle.definitions.specs.declared.Term.{Term}
use Rattle.pla_reader.specs.declared.terms.Masks.{Masks}
use Rattle.pla_reader.specs.Text.{is_blank, bar, positions}
use Rattle.pla_reader.specs.Covers.{literal_of, in_on_set, term_of}
use Rattle.pla_reader.specs.Faults.{first_some, input_fault, output_fault, length_fault, term_fault}
use Rattle.definitions.specs.Products.{literal_in, output_in, product_of}
use Rattle.pla_reader.specs.Masks.{literal_at, output_at, Fits, ReadsInput, ReadsOutput}
use Rattle.pla_reader.proofs.TermLemmas.{or_else, rest_fault, HoldsFirst, holds_input, holds_output, holds_none}

-- what drop leaves, taken apart
pub next_position : (bytes xs : List ℕ) (k x : ℕ) → drop k bytes ≡ x ∷ xs → (slice_index_or bytes k 0 ≡ x) × (drop (suc k) bytes ≡ xs) × (k < length bytes)
next_position [] xs zero x e = absurd cc
next_position [] xs (suc k) x e = absurd cc
next_position (b ∷ bs) xs zero x e = (cc, cc, omega arith)
next_position (b ∷ bs) xs (suc k) x e = let more = next_position bs xs k x e in (more.0, more.1, omega (arith, more.2))

pub length_of_none : (bytes : List ℕ) (k : ℕ) → drop k bytes ≡ [] → length bytes ≤ k
length_of_none [] k e = omega arith
length_of_none (b ∷ bs) zero e = absurd cc
length_of_none (b ∷ bs) (suc k) e = omega (arith, length_of_none bs k e)

-- whether a byte of a term is no position
abbrev skips : ℕ → Bool
skips b = is_blank b || b == bar

pub positions_skip : (line : List ℕ) (i : ℕ) → i < length line → skips (slice_index_or line i 0) ≡ true →
    positions (drop i line) ≡ positions (drop (suc i) line)
unfolding positions
positions_skip line i inside e = rw (drop-cons line i 0 inside) (rw e refl)

pub positions_next : (line : List ℕ) (i : ℕ) → i < length line → skips (slice_index_or line i 0) ≡ false →
    positions (drop i line) ≡ slice_index_or line i 0 ∷ positions (drop (suc i) line)
unfolding positions
positions_next line i inside e = rw (drop-cons line i 0 inside) (rw e refl)

pub positions_end : (line : List ℕ) (i : ℕ) → length line ≤ i → positions (drop i line) ≡ []
unfolding positions
positions_end [] zero e = refl
positions_end [] (suc i) e = refl
positions_end (b ∷ bs) zero e = absurd (omega (arith, e))
positions_end (b ∷ bs) (suc i) e = positions_end bs i (omega (arith, e))

-- where the reading of a term's line is: before byte i, with k positions read
pub record IsAt (taken : Bool) (n m : ℕ) (line : List ℕ) (i k : ℕ) (term : Masks) : Type 0 where
  pub at_most : k ≤ n + m
  pub upto : k ≤ length (positions line)
  pub ahead : drop k (positions line) ≡ positions (drop i line)
  pub fault : rest_fault taken n m k (positions (drop i line)) ≡ term_fault taken n m (positions line)
  pub held : HoldsFirst n m k (positions line) term

pub skip_one : (taken : Bool) (n m : ℕ) (line : List ℕ) (i k : ℕ) (term : Masks) → IsAt taken n m line i k term → i < length line →
    skips (slice_index_or line i 0) ≡ true →
    IsAt taken n m line (suc i) k term
skip_one taken n m line i k term here inside e = grind (arith, positions_skip, rest_fault)

-- the fault of what is left, with a position in front
front_fault : (taken : Bool) (n m : ℕ) (line : List ℕ) (i k : ℕ) (term : Masks) → IsAt taken n m line i k term → i < length line →
    skips (slice_index_or line i 0) ≡ false →
    rest_fault taken n m k (slice_index_or line i 0 ∷ positions (drop (suc i) line)) ≡ term_fault taken n m (positions line)
front_fault taken n m line i k term here inside e = ap (rest_fault taken n m k) (sym (positions_next line i inside e)) ∙ here.fault

input_front : (taken : Bool) (n m k c : ℕ) (cs : List ℕ) → k < n → rest_fault taken n m k (c ∷ cs) ≡ or_else (input_fault c) (rest_fault taken n m (k + 1) cs)
input_front taken n m k c cs inside = let test : nat_lt k n ≡ true = grind (arith, nat_tests) in rw test refl

output_front : (taken : Bool) (n m k c : ℕ) (cs : List ℕ) → n ≤ k → k < n + m →
    rest_fault taken n m k (c ∷ cs) ≡ or_else (output_fault taken c) (rest_fault taken n m (k + 1) cs)
output_front taken n m k c cs behind inside =
    let first : nat_lt k n ≡ false = grind (arith, nat_tests) in let second : nat_lt k (n + m) ≡ true = grind (arith, nat_tests) in rw first (rw second refl)

long_front : (taken : Bool) (n m k c : ℕ) (cs : List ℕ) → n + m ≤ k → rest_fault taken n m k (c ∷ cs) ≡ Some LongTerm
long_front taken n m k c cs behind =
    let first : nat_lt k n ≡ false = grind (arith, nat_tests) in let second : nat_lt k (n + m) ≡ false = grind (arith, nat_tests) in rw first (rw second refl)

pub input_step : (taken : Bool) (n m : ℕ) (line : List ℕ) (i k : ℕ) (old new : Masks) → IsAt taken n m line i k old → i < length line →
    skips (slice_index_or line i 0) ≡ false →
    k < n → input_fault (slice_index_or line i 0) ≡ None → ReadsInput old k (slice_index_or line i 0) new → IsAt taken n m line (suc i) (k + 1) new
input_step taken n m line i k old new here inside e small none reads =
    let c = slice_index_or line i 0 in
    let cs = positions (drop (suc i) line) in
    let parts = next_position (positions line) cs k c (here.ahead ∙ positions_next line i inside e) in
    record {
      at_most = omega arith;
      upto = omega (arith, parts.2);
      ahead = ap (λ j. drop j (positions line)) (add-one k) ∙ parts.1;
      fault = sym (input_front taken n m k c cs small ∙ rw none refl) ∙ front_fault taken n m line i k old here inside e;
      held = holds_input n m k (positions line) old new c here.held small parts.0 reads;
    }

pub output_step : (taken : Bool) (n m : ℕ) (line : List ℕ) (i k : ℕ) (old new : Masks) → IsAt taken n m line i k old → i < length line →
    skips (slice_index_or line i 0) ≡ false →
    n ≤ k → k < n + m → output_fault taken (slice_index_or line i 0) ≡ None → ReadsOutput old (k - n) (slice_index_or line i 0) new →
    IsAt taken n m line (suc i) (k + 1) new
output_step taken n m line i k old new here inside e behind small none reads =
    let c = slice_index_or line i 0 in
    let cs = positions (drop (suc i) line) in
    let parts = next_position (positions line) cs k c (here.ahead ∙ positions_next line i inside e) in
    record {
      at_most = omega arith;
      upto = omega (arith, parts.2);
      ahead = ap (λ j. drop j (positions line)) (add-one k) ∙ parts.1;
      fault = sym (output_front taken n m k c cs behind small ∙ rw none refl) ∙ front_fault taken n m line i k old here inside e;
      held = holds_output n m k (positions line) old new c here.held behind small parts.0 reads;
    }

pub input_fails : (taken : Bool) (n m : ℕ) (line : List ℕ) (i k : ℕ) (old : Masks) (fault : LineFault) → IsAt taken n m line i k old →
    i < length line → skips (slice_index_or line i 0) ≡ false →
    k < n → input_fault (slice_index_or line i 0) ≡ Some fault → term_fault taken n m (positions line) ≡ Some fault
input_fails taken n m line i k old fault here inside e small some =
    sym (front_fault taken n m line i k old here inside e)
    ∙ input_front taken n m k (slice_index_or line i 0) (positions (drop (suc i) line)) small ∙ rw some refl

pub output_fails : (taken : Bool) (n m : ℕ) (line : List ℕ) (i k : ℕ) (old : Masks) (fault : LineFault) → IsAt taken n m line i k old →
    i < length line → skips (slice_index_or line i 0) ≡ false →
    n ≤ k → k < n + m → output_fault taken (slice_index_or line i 0) ≡ Some fault → term_fault taken n m (positions line) ≡ Some fault
output_fails taken n m line i k old fault here inside e behind small some =
    sym (front_fault taken n m line i k old here inside e)
    ∙ output_front taken n m k (slice_index_or line i 0) (positions (drop (suc i) line)) behind small ∙ rw some refl

pub long_fails : (taken : Bool) (n m : ℕ) (line : List ℕ) (i k : ℕ) (old : Masks) → IsAt taken n m line i k old → i < length line →
    skips (slice_index_or line i 0) ≡ false →
    n + m ≤ k → term_fault taken n m (positions line) ≡ Some LongTerm
long_fails taken n m line i k old here inside e behind = sym (front_fault taken n m line i k old here inside e)
    ∙ long_front taken n m k (slice_index_or line i 0) (positions (drop (suc i) line)) behind

abbrev is_one : ℕ → Bool
is_one = in_on_set

end_fault : (taken : Bool) (n m : ℕ) (line : List ℕ) (i k : ℕ) (term : Masks) → IsAt taken n m line i k term → length line ≤ i →
    cond (nat_lt k (n + m)) (Some ShortTerm) None ≡ term_fault taken n m (positions line)
end_fault taken n m line i k term here over = sym (ap (rest_fault taken n m k) (positions_end line i over)) ∙ here.fault

pub short_fails : (taken : Bool) (n m : ℕ) (line : List ℕ) (i k : ℕ) (term : Masks) → IsAt taken n m line i k term → length line ≤ i → k < n + m →
    term_fault taken n m (positions line) ≡ Some ShortTerm
short_fails taken n m line i k term here over small = let test : nat_lt k (n + m) ≡ true = grind (arith, nat_tests) in
    sym (end_fault taken n m line i k term here over) ∙ rw test refl

pub has_no_fault : (taken : Bool) (n m : ℕ) (line : List ℕ) (i k : ℕ) (term : Masks) → IsAt taken n m line i k term → length line ≤ i → n + m ≤ k →
    term_fault taken n m (positions line) ≡ None
has_no_fault taken n m line i k term here over full = let test : nat_lt k (n + m) ≡ false = grind (arith, nat_tests) in
    sym (end_fault taken n m line i k term here over) ∙ rw test refl

-- a term that has the masks has what they hold
same_literal : (term : Term) (masks : Masks) (i : ℕ) → term.care ≡ masks.care → term.value ≡ masks.value → literal_in term i ≡ literal_at masks i
same_literal term masks i care value = rw care (rw value refl)

same_output : (term : Term) (masks : Masks) (j : ℕ) → term.outs ≡ masks.outs → output_in term j ≡ output_at masks j
same_output term masks j outs = rw outs refl

pub fits_term : (taken : Bool) (n m : ℕ) (line : List ℕ) (i k : ℕ) (masks : Masks) (term : Term) → term.care ≡ masks.care →
    term.outs ≡ masks.outs → IsAt taken n m line i k masks → Fits n m term
fits_term taken n m line i k masks term care outs here = record { care = rw care here.held.small_care; outs = rw outs here.held.small_outs }

pub is_the_term : (taken : Bool) (n m : ℕ) (line : List ℕ) (i k : ℕ) (masks : Masks) (term : Term) → term.care ≡ masks.care →
    term.value ≡ masks.value → term.outs ≡ masks.outs →
    IsAt taken n m line i k masks → length line ≤ i → n + m ≤ k → product_of n m term ≡ term_of n (positions line)
unfolding product_of term_of
is_the_term taken n m line i k masks term care value outs here over full =
    let bytes = positions line in
    let most : length bytes ≤ k = length_of_none bytes k (here.ahead ∙ positions_end line i over) in
    let front : length (map literal_of (take n bytes)) ≡ n = length-map (take n bytes) literal_of ∙ length-take-le n bytes (omega arith) in
    let back : length (map is_one (drop n bytes)) ≡ m = length-map (drop n bytes) is_one ∙ length-drop n bytes ∙ omega arith in
    let literals : map literal_of (take n bytes) ≡ map (literal_in term) (range_with_len 0 n) =
    fill_by_all (literal_in term) (map literal_of (take n bytes)) n None front
    (λ j inside. get_or-map literal_of (take n bytes) j 0 None (omega (arith, length-take-le n bytes (omega arith)))
    ∙ ap literal_of (get_or-take n bytes j 0 inside) ∙ sym (here.held.literals j (omega arith) inside)
    ∙ sym (same_literal term masks j care value)) in
    let outputs : map is_one (drop n bytes) ≡ map (output_in term) (range_with_len 0 m) = fill_by_all (output_in term) (map is_one (drop n bytes)) m false back
    (λ j inside. get_or-map is_one (drop n bytes) j 0 false (omega (arith, length-drop n bytes)) ∙ ap is_one (get_or-drop n bytes j 0)
    ∙ sym (here.held.outputs j (omega arith)) ∙ sym (same_output term masks j outs)) in
    rw (← literals, ← outputs) refl

-- what stands in front of the others is tried first
first_some_cons : (x : Option LineFault) (xs : List (Option LineFault)) → first_some (x ∷ xs) ≡ or_else x (first_some xs)
first_some_cons None xs = refl
first_some_cons (Some fault) xs = refl

short_length : (count wanted : ℕ) → count ≤ wanted → first_some (length_fault count wanted ∷ []) ≡ cond (nat_lt count wanted) (Some ShortTerm) None
short_length count wanted below = grind (arith, nat_lt, nat_tests)

long_length : (count wanted : ℕ) → wanted < count → first_some (length_fault count wanted ∷ []) ≡ Some LongTerm
long_length count wanted above =
    let under : nat_lt count wanted ≡ false = grind (arith, nat_tests) in
    let over : nat_lt wanted count ≡ true = grind (arith, nat_tests) in rw under (rw over refl)

-- with only outputs left
outputs_left : (taken : Bool) (n m left k : ℕ) (cs : List ℕ) → n ≤ k → k + left ≡ n + m →
    rest_fault taken n m k cs ≡ first_some (map (output_fault taken) (take left cs) ++ length_fault (k + length cs) (n + m) ∷ [])
outputs_left taken n m zero k [] behind e = let same : k + 0 ≡ k = omega arith in rw same (sym (short_length k (n + m) (omega arith)))
outputs_left taken n m (suc left) k [] behind e = let same : k + 0 ≡ k = omega arith in rw same (sym (short_length k (n + m) (omega arith)))
outputs_left taken n m zero k (c ∷ cs) behind e = long_front taken n m k c cs (omega arith) ∙ sym (long_length (k + suc (length cs)) (n + m) (omega arith))
outputs_left taken n m (suc left) k (c ∷ cs) behind e =
    output_front taken n m k c cs behind (omega arith)
    ∙ ap (or_else (output_fault taken c))
    (outputs_left taken n m left (k + 1) cs (omega arith) (omega arith)
    ∙ ap (λ count. first_some (map (output_fault taken) (take left cs) ++ length_fault count (n + m) ∷ [])) (omega arith))
    ∙ sym (first_some_cons (output_fault taken c) (map (output_fault taken) (take left cs) ++ length_fault (k + suc (length cs)) (n + m) ∷ []))

-- the fault of n inputs, m outputs and a length, where some inputs are left
abbrev fault_from : Bool → ℕ → ℕ → ℕ → ℕ → List ℕ → Option LineFault
fault_from taken n m left count cs =
    first_some (map input_fault (take left cs) ++ map (output_fault taken) (take m (drop left cs)) ++ length_fault count (n + m) ∷ [])

inputs_left : (taken : Bool) (n m left k : ℕ) (cs : List ℕ) → k + left ≡ n → rest_fault taken n m k cs ≡ fault_from taken n m left (k + length cs) cs
inputs_left taken n m zero k cs e = outputs_left taken n m m k cs (omega arith) (omega arith)
inputs_left taken n m (suc left) k [] e = outputs_none m where
  outputs_none : (j : ℕ) → rest_fault taken n m k [] ≡ first_some (map (output_fault taken) (take j []) ++ length_fault (k + 0) (n + m) ∷ [])
  outputs_none zero = let same : k + 0 ≡ k = omega arith in rw same (sym (short_length k (n + m) (omega arith)))
  outputs_none (suc j) = let same : k + 0 ≡ k = omega arith in rw same (sym (short_length k (n + m) (omega arith)))
inputs_left taken n m (suc left) k (c ∷ cs) e =
    let same : (k + 1) + length cs ≡ k + suc (length cs) = omega arith in
    input_front taken n m k c cs (omega arith)
    ∙ ap (or_else (input_fault c)) (inputs_left taken n m left (k + 1) cs (omega arith) ∙ ap (λ count. fault_from taken n m left count cs) same)
    ∙ sym (first_some_cons (input_fault c)
    (map input_fault (take left cs) ++ map (output_fault taken) (take m (drop left cs))
    ++ length_fault (k + suc (length cs)) (n + m) ∷ []))

rest_is_term : (taken : Bool) (n m : ℕ) (bytes : List ℕ) → rest_fault taken n m 0 bytes ≡ term_fault taken n m bytes
unfolding term_fault
rest_is_term taken n m bytes = let same : 0 + length bytes ≡ length bytes = omega arith in
    inputs_left taken n m n 0 bytes (omega arith) ∙ ap (λ count. fault_from taken n m n count bytes) same

-- nothing is read before the first byte
pub is_at_start : (taken : Bool) (n m : ℕ) (line : List ℕ) → IsAt taken n m line 0 0 (record { care = 0; value = 0; outs = 0 })
is_at_start taken n m line = record {
  at_most = omega arith;
  upto = omega arith;
  ahead = refl;
  fault = rest_is_term taken n m (positions line);
  held = holds_none n m (positions line);
}
