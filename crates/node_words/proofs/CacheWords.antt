-- Cache words.
use Rattle.std.proofs.Common.{◌≡◌, ℕ, ◌+◌, ◌-◌, ◌*◌, ◌/◌, ◌%◌, ◌^◌, ◌<◌, List, length, sym, refl, ◌∙◌, subst, arith}
use Rattle.definitions.specs.Functions.{SameFunction}
use Rattle.node_words.specs.declared.operation.Operation.{Operation}
use Rattle.node_words.specs.declared.operation.Operation.TheVariants.{And, Or, Xor}
use Rattle.node_words.specs.Nodes.{AreNodeWords, Grows, IsKnown}
use Rattle.node_words.specs.Meaning.{function_of, Denotes}
use Rattle.node_words.specs.Entries.{code_of, combine, combine_values, entry_word, first_of, second_of, result_of, IsEntry}
use Rattle.node_words.proofs.OneMoreNode.{grows_full}
use Rattle.node_words.proofs.Functions.{function_grows}

pub code_small : (o : Operation) → code_of o < 4
code_small And = omega arith
code_small Or = omega arith
code_small Xor = omega arith

pub code_some : (o : Operation) → 0 < code_of o
code_some And = omega arith
code_some Or = omega arith
code_some Xor = omega arith

one_code : (o o' : Operation) → code_of o ≡ code_of o' → o ≡ o'
one_code And And e = refl
one_code And Or e = absurd (omega arith)
one_code And Xor e = absurd (omega arith)
one_code Or And e = absurd (omega arith)
one_code Or Or e = refl
one_code Or Xor e = absurd (omega arith)
one_code Xor And e = absurd (omega arith)
one_code Xor Or e = absurd (omega arith)
one_code Xor Xor e = refl

-- more places filled leave the operands' functions, and so the entry
pub entry_grows : (order xs ys : List ℕ) (w : ℕ) → AreNodeWords (length order) xs → Grows xs ys → IsEntry order xs w → IsEntry order ys w
unfolding SameFunction combine
entry_grows order xs ys w nodes g e = record {
  operation = e.operation;
  word = e.word;
  first = λ two. grows_full xs ys (first_of w - 2) g (e.first two);
  second = λ two. grows_full xs ys (second_of w - 2) g (e.second two);
  denotes = record {
    known = λ two. grows_full xs ys (result_of w - 2) g (e.denotes.known two);
    function = λ p l. function_grows order xs nodes ys g (result_of w) e.denotes.known p
        ∙ (e.denotes.function p l
        ∙ (λ i. combine_values e.operation (sym (function_grows order xs nodes ys g (first_of w) e.first p) i)
        (sym (function_grows order xs nodes ys g (second_of w) e.second p) i)));
  };
}

module _ (order ws : List ℕ) (o : Operation) (a b r : ℕ) (small_a : a < 2 ^ 20) (small_b : b < 2 ^ 20) (small_r : r < 2 ^ 20) where
  abbrev w : ℕ
  w = entry_word (code_of o) a b r

  first_is : first_of w ≡ a
  first_is = let c = code_small o in omega arith

  second_is : second_of w ≡ b
  second_is = let c = code_small o in omega arith

  result_is : result_of w ≡ r
  result_is = let c = code_small o in omega arith

  -- the word that is stored
  pub entry_made : IsKnown ws a → IsKnown ws b → Denotes order ws r (combine o (function_of order ws a) (function_of order ws b)) → IsEntry order ws w
  entry_made ka kb d = record {
    operation = o;
    word = λ i. entry_word (code_of o) (sym first_is i) (sym second_is i) (sym result_is i);
    first = subst (IsKnown ws) (sym first_is) ka;
    second = subst (IsKnown ws) (sym second_is) kb;
    denotes = subst (λ (z : ℕ × ℕ × ℕ). Denotes order ws z.2 (combine o (function_of order ws z.0) (function_of order ws z.1)))
        (λ i. (sym first_is i, sym second_is i, sym result_is i)) d;
  }

-- a word with the key of an operation on a and b has its result
pub entry_found : (order ws : List ℕ) (o : Operation) (a b w : ℕ) → a < 2 ^ 20 → b < 2 ^ 20 → IsEntry order ws w →
    w / 2 ^ 20 ≡ code_of o * 2 ^ 40 + a * 2 ^ 20 + b
    → Denotes order ws (result_of w) (combine o (function_of order ws a) (function_of order ws b))
entry_found order ws o a b w small_a small_b e key =
    let c = code_small o in let c' = code_small e.operation in let word = e.word in
    let first : first_of w ≡ a = omega arith in let second : second_of w ≡ b = omega arith in
    let code : code_of e.operation ≡ code_of o = omega arith in
    subst (λ (z : Operation × ℕ × ℕ). Denotes order ws (result_of w) (combine z.0 (function_of order ws z.1) (function_of order ws z.2)))
    (λ i. (one_code e.operation o code i, first i, second i)) e.denotes

-- the word that a key and a result make
pub entry_packed : (code a b r key : ℕ) → code < 4 → a < 2 ^ 20 → b < 2 ^ 20 → r < 2 ^ 20 → key ≡ code * 2 ^ 40 + a * 2 ^ 20 + b →
    (key * 1048576) % 18446744073709551616 + r ≡ entry_word code a b r
entry_packed code a b r key c x y z is = let small : key * 1048576 < 18446744073709551616 = omega arith in
    let same : (key * 1048576) % 18446744073709551616 ≡ key * 1048576 = omega arith in omega arith

pub entry_fits : (code a b r : ℕ) → code < 4 → a < 2 ^ 20 → b < 2 ^ 20 → r < 2 ^ 20 → entry_word code a b r < 2 ^ 64
entry_fits code a b r c x y z = omega arith
