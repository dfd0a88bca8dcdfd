-- The conjunction and the disjunction of two variables, as tests make them.
use Rattle.std.proofs.Common.{◌≡◌, ℕ, ◌<◌, ◌==◌, Bool, true, false, cond, List, [], ◌∷◌, length, get_or, refl, sym, ap, ◌∙◌, subst, arith}
use Rattle.definitions.specs.Functions.{Point, Function, bit, SameFunction, from_table, number}
use Rattle.node_words.specs.Meaning.{function_of, along, Denotes, branch}
use Rattle.node_words.proofs.Meaning.{value_terminal}
use Rattle.unique_table.specs.Plans.{order_of, output_at}
use Rattle.unique_table.specs.Sessions.{StoreId, Knowledge, Means, IsNodeOf}
use Rattle.store_tests.specs.Cases.{two_tables}

-- what is so of each point of two variables
each_point : (P : Point → Type 0) → ((a b : Bool) → P (a ∷ b ∷ [])) → (p : Point) → length p ≡ 2 → P p
each_point P each [] l = absurd (omega arith)
each_point P each (a ∷ []) l = absurd (omega arith)
each_point P each (a ∷ b ∷ []) l = each a b
each_point P each (a ∷ b ∷ c ∷ p) l = absurd (omega arith)

terminal : (order ws : List ℕ) (id : ℕ) (p : Point) → id < 2 → function_of order ws id p ≡ (id == 1)
unfolding function_of
terminal order ws id p low = value_terminal (length order) ws id (along order p) low

conjunction_table : (a b : Bool) → cond a b false ≡ from_table (false ∷ false ∷ false ∷ true ∷ []) (a ∷ b ∷ [])
unfolding from_table number
conjunction_table false false = refl
conjunction_table false true = refl
conjunction_table true false = refl
conjunction_table true true = refl

disjunction_table : (a b : Bool) → cond a true b ≡ from_table (false ∷ true ∷ true ∷ true ∷ []) (a ∷ b ∷ [])
unfolding from_table number
disjunction_table false false = refl
disjunction_table false true = refl
disjunction_table true false = refl
disjunction_table true true = refl

same_bit : (b : Bool) → cond b true false ≡ b
same_bit false = refl
same_bit true = refl

-- the second variable
abbrev pub second_bit : Function
second_bit p = bit p 1

module _ (order ws : List ℕ) (is : order ≡ 0 ∷ 1 ∷ []) where
  long : length order ≡ 2
  long = ap length is

  pub second_denotes : (id : ℕ) → Denotes order ws id (branch (get_or order 1 0) (function_of order ws 0) (function_of order ws 1)) →
      Denotes order ws id second_bit
  unfolding SameFunction branch
  second_denotes id d = record {
    known = d.known;
    function = λ p l. d.function p l
        ∙ ((λ i. cond (bit p (get_or (is i) 1 0)) (terminal order ws 1 p (omega arith) i) (terminal order ws 0 p (omega arith) i))
        ∙ same_bit (bit p 1));
  }

  pub conjunction_denotes : (second id : ℕ) → Denotes order ws second second_bit →
      Denotes order ws id (branch (get_or order 0 0) (function_of order ws 0) (function_of order ws second))
      → Denotes order ws id (from_table (false ∷ false ∷ false ∷ true ∷ []))
  unfolding SameFunction branch
  conjunction_denotes second id s d = record {
    known = d.known;
    function = λ p l. d.function p l ∙ ((λ i. cond (bit p (get_or (is i) 0 0)) (s.function p l i) (terminal order ws 0 p (omega arith) i))
        ∙ each_point (λ q. cond (bit q 0) (bit q 1) false ≡ from_table (false ∷ false ∷ false ∷ true ∷ []) q) conjunction_table p (l ∙ long));
  }

  pub disjunction_denotes : (second id : ℕ) → Denotes order ws second second_bit →
      Denotes order ws id (branch (get_or order 0 0) (function_of order ws second) (function_of order ws 1))
      → Denotes order ws id (from_table (false ∷ true ∷ true ∷ true ∷ []))
  unfolding SameFunction branch
  disjunction_denotes second id s d = record {
    known = d.known;
    function = λ p l. d.function p l ∙ ((λ i. cond (bit p (get_or (is i) 0 0)) (terminal order ws 1 p (omega arith) i) (s.function p l i))
        ∙ each_point (λ q. cond (bit q 0) true (bit q 1) ≡ from_table (false ∷ true ∷ true ∷ true ∷ []) q) disjunction_table p (l ∙ long));
  }

-- a session of a store of these
module _ (T : StoreId) (s : Knowledge) (here : s.store ≡ T) (order : order_of T.plan ≡ 0 ∷ 1 ∷ []) (tables : T.plan.problem.value.tables ≡ two_tables) where
  order_is : order_of s.store.plan ≡ 0 ∷ 1 ∷ []
  order_is = ap (λ (z : StoreId). order_of z.plan) here ∙ order

  pub second_means : (id : ℕ) → IsNodeOf s 1 0 1 id → Means s id second_bit
  second_means id n = second_denotes (order_of s.store.plan) s.seen order_is id n.function

  pub conjunction_means : (second id : ℕ) → Means s second second_bit → IsNodeOf s 0 0 second id → Means s id (output_at T.plan.problem.value 0)
  unfolding output_at
  conjunction_means second id two n = subst (λ (z : List (List Bool)). Means s id (from_table (get_or z 0 []))) (sym tables)
      (conjunction_denotes (order_of s.store.plan) s.seen order_is second id two n.function)

  pub disjunction_means : (second id : ℕ) → Means s second second_bit → IsNodeOf s 0 second 1 id → Means s id (output_at T.plan.problem.value 1)
  unfolding output_at
  disjunction_means second id two n = subst (λ (z : List (List Bool)). Means s id (from_table (get_or z 1 []))) (sym tables)
      (disjunction_denotes (order_of s.store.plan) s.seen order_is second id two n.function)
