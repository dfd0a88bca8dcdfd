-- Nodes of literals and terms.
use Rattle.std.proofs.Common.{◌≡◌, ◌≢◌, ℕ, zero, suc, ◌+◌, ◌/◌, ◌^◌, ◌<◌, ◌≤◌, inl, inr, Bool, true, false, ◌&&◌, ◌||◌, cond, nat_eq, Some, None, List, [], ◌∷◌, length, map, drop, get_or, refl, sym, ap, ap₂, ◌∙◌, arith, eqb, eq-eqb, ne_eqb, bit_and}
use Rattle.std.specs.Int.{bit_at}
use Rattle.std.specs.Bool.{beq}
use Rattle.std.specs.List.{list_all, range_with_len, enumerate_from}
use Rattle.std.proofs.lemmas.Bool.{cases_eq, and_parts, false≢true}
use Rattle.std.proofs.lemmas.List.{drop_all, drop_more}
use Rattle.std.proofs.lemmas.List.FromFn.{get_or-map-range_with_len}
use Rattle.std.proofs.lemmas.Nat.Bits.{bit_at-lt, shr_and_one}
use Rattle.definitions.specs.declared.terms.Term.{Term}
use Rattle.definitions.specs.Functions.{Point, Function, SameFunction, bit}
use Rattle.definitions.specs.Orders.{has, IsOrder}
use Rattle.definitions.specs.Problems.{outputs_of}
use Rattle.definitions.specs.Products.{product_of, literal_holds, literal_in, matches, has_output}
use Rattle.definitions.proofs.Lists.Orders.{same_bool}
use Rattle.truth_table.proofs.Literals.{all_from, all_at}
use Rattle.node_words.specs.declared.operation.Operation.TheVariants.{Or}
use Rattle.node_words.specs.Entries.{combine}
use Rattle.node_words.specs.Meaning.{branch}
use Rattle.unique_table.specs.declared.plan.Plan.{Plan}
use Rattle.unique_table.specs.Sessions.{Knowledge, Follows, Knows, Means, function_in}
use Rattle.dd_builder.specs.Literals.{with_literal, with_product, product_in}
use Rattle.dd_builder.proofs.SessionSteps.{means_same, means_own, means_at, function_zero, function_one, terminal_known}
use Rattle.std.proofs.Math.Bool.{or-true}

-- ---- one literal

no_literal : (term : Term) (x : ℕ) (p : Point) → bit_at term.care x ≡ 0 → literal_holds p (x, literal_in term x) ≡ true
no_literal term x p e = ap (λ b. literal_holds p (x, cond (eqb b 1) (Some (eqb (bit_at term.value x) 1)) None)) e

some_literal : (term : Term) (x : ℕ) (p : Point) → bit_at term.care x ≡ 1 → literal_holds p (x, literal_in term x) ≡ beq (bit p x) (eqb (bit_at term.value x) 1)
some_literal term x p e = ap (λ b. literal_holds p (x, cond (eqb b 1) (Some (eqb (bit_at term.value x) 1)) None)) e

one_bit : (n x : ℕ) → bit_and (n / 2 ^ x) 1 ≢ 0 → bit_at n x ≡ 1
one_bit n x ne = let e = shr_and_one n x in omega arith

zero_bit : (n x : ℕ) → bit_at n x ≢ 1 → bit_at n x ≡ 0
zero_bit n x ne = let l = bit_at-lt n x in omega (arith, l, ne)

pub literal_absent : (s : Knowledge) (term : Term) (x y id : ℕ) → x ≡ y → Knows s id → bit_at term.care y ≢ 1 →
    Means s id (with_literal term x (function_in s id))
unfolding with_literal
literal_absent s term x y id at known absent = means_same s id (function_in s id) (with_literal term x (function_in s id)) (means_own s id known)
    (λ p l. ap (λ b. b && function_in s id p) (sym (no_literal term x p (ap (bit_at term.care) at ∙ zero_bit term.care y absent))))

upper_only : (b v z : Bool) → z ≡ false → cond b v z ≡ (beq b true && v)
upper_only true v z e = refl
upper_only false v z e = e

lower_only : (b v z : Bool) → z ≡ false → cond b z v ≡ (beq b false && v)
lower_only true v z e = e
lower_only false v z e = refl

pub literal_upper : (s : Knowledge) (term : Term) (x y id made : ℕ) → x ≡ y → bit_at term.care y ≡ 1 → bit_at term.value y ≡ 1 →
    Means s made (branch x (function_in s 0) (function_in s id)) →
    Means s made (with_literal term x (function_in s id))
unfolding with_literal branch
literal_upper s term x y id made at care value m = grind (arith, means_same, upper_only, function_zero, some_literal)

pub literal_lower : (s : Knowledge) (term : Term) (x y id made : ℕ) → x ≡ y → bit_at term.care y ≡ 1 → bit_at term.value y ≢ 1 →
    Means s made (branch x (function_in s id) (function_in s 0)) →
    Means s made (with_literal term x (function_in s id))
unfolding with_literal branch
literal_lower s term x y id made at care value m = grind (arith, means_same, lower_only, function_zero, some_literal, zero_bit)

-- ---- all literals

-- whether the literals of the variables from a level on hold
unfoldable pub literals_from : List ℕ → Term → ℕ → Function
literals_from order term level p = list_all (λ x. literal_holds p (x, literal_in term x)) (drop level order)

pub literals_none : (s : Knowledge) (order : List ℕ) (term : Term) (level : ℕ) → length order ≤ level → Means s 1 (literals_from order term level)
unfolding literals_from SameFunction
literals_none s order term level past = grind (arith, terminal_known, function_one, drop_all)

pub literals_more : (s s' : Knowledge) (order : List ℕ) (term : Term) (level x id made : ℕ) → level < length order →
    x ≡ get_or order level 0 → Knows s id → Means s id (literals_from order term (level + 1)) → Follows s s'
    → Means s' made (with_literal term x (function_in s' id)) → Means s' made (literals_from order term level)
unfolding literals_from with_literal
literals_more s s' order term level x id made inside at known below f m = grind (arith, means_same, literals_from, means_at, drop_more)

-- a test of all members of an order is one of all variables
list_all_each : (test : ℕ → Bool) (xs : List ℕ) → list_all test xs ≡ true → (y : ℕ) → has xs y ≡ true → test y ≡ true
list_all_each test [] h y m = absurd (false≢true m)
list_all_each test (x ∷ xs) h y m =
    let parts = and_parts (test x) (list_all test xs) h in
    elim (cases_eq y x) [
      | inl e ↦ ap test e ∙ parts.0
      | inr ne ↦ list_all_each test xs parts.1 y (sym (ap (λ b. b || has xs y) (ne_eqb y x ne)) ∙ m)
    ]

each_list_all : (test : ℕ → Bool) (xs : List ℕ) → ((y : ℕ) → has xs y ≡ true → test y ≡ true) → list_all test xs ≡ true
each_list_all test [] h = refl
each_list_all test (x ∷ xs) h =
    ap₂ (λ a b. a && b) (h x (ap (λ b. b || has xs x) (eq-eqb x x refl)))
    (each_list_all test xs (λ y m. h y (ap (λ b. nat_eq y x || b) m ∙ or-true (nat_eq y x))))

numbered_literals : (term : Term) (p : Point) (len a : ℕ)
    → list_all (literal_holds p) (enumerate_from a (map (literal_in term) (range_with_len a len))) ≡ list_all
    (λ x. literal_holds p (x, literal_in term x)) (range_with_len a len)
numbered_literals term p zero a = refl
numbered_literals term p (suc len) a = ap (λ b. literal_holds p (a, literal_in term a) && b) (numbered_literals term p len (a + 1))

literals_match : (order : List ℕ) (term : Term) (n m : ℕ) (p : Point) → IsOrder n order → literals_from order term 0 p ≡ matches (product_of n m term) p
unfolding literals_from matches product_of
literals_match order term n m p is =
    let test : ℕ → Bool = λ x. literal_holds p (x, literal_in term x) in
    same_bool (list_all test order) (list_all test (range_with_len 0 n))
    (λ h. all_from test n 0 (λ x l u. list_all_each test order h x ((is.all x).1 (omega arith))))
    (λ h. each_list_all test order (λ y m. all_at test n 0 h y (omega arith) (let low = (is.all y).0 m in omega arith)))
    ∙ sym (numbered_literals term p n 0)

pub term_means : (s : Knowledge) (order : List ℕ) (term : Term) (n m level id : ℕ) → IsOrder n order → level ≡ 0 →
    Means s id (literals_from order term level) → Means s id (matches (product_of n m term))
term_means s order term n m level id is top h =
    means_same s id (literals_from order term level) (matches (product_of n m term)) h
    (λ p l. ap (λ k. literals_from order term k p) top ∙ literals_match order term n m p is)

-- ---- a term of an output

has_output_bit : (n m : ℕ) (term : Term) (output : ℕ) → output < m → has_output (product_of n m term) output ≡ eqb (bit_at term.outs output) 1
unfolding product_of
has_output_bit n m term output low = grind (arith, get_or-map-range_with_len)

or_nothing : (v w : Bool) → v ≡ (v || (w && false))
or_nothing true w = refl
or_nothing false true = refl
or_nothing false false = refl

and_all : (w : Bool) → w ≡ (w && true)
and_all true = refl
and_all false = refl

pub other_output : (s : Knowledge) (b : Plan) (term : Term) (output id : ℕ) → Knows s id → output < outputs_of b.problem.value →
    bit_and (term.outs / 2 ^ output) 1 ≡ 0 → Means s id (with_product (product_in b term) output (function_in s id))
unfolding with_product
other_output s b term output id known low e = grind (arith, means_same, means_own, or_nothing, has_output_bit, shr_and_one)

pub own_output : (s s' : Knowledge) (b : Plan) (term : Term) (output id cube made : ℕ) → Knows s id → output < outputs_of b.problem.value →
    bit_and (term.outs / 2 ^ output) 1 ≢ 0 → Means s cube (matches (product_in b term)) → Follows s s'
    → Means s' made (combine Or (function_in s' id) (function_in s' cube)) → Means s' made (with_product (product_in b term) output (function_in s' id))
unfolding with_product combine
own_output s s' b term output id cube made known low e mc f m = grind (arith, means_same, means_at, and_all, has_output_bit, one_bit)
