-- The words of a cache of operations.
--     code_of, combine      the number of an operation in a word; the result of an operation on two functions
--     entry_word, first_of, second_of, result_of      a cache word and its parts
--     IsEntry order ws w      the result denotes the operation on the operands
use Rattle.std.specs.Prelude.{◌≡◌, ℕ, ◌+◌, ◌*◌, ◌/◌, ◌%◌, ◌^◌, Bool, not, ◌&&◌, ◌||◌, if◌then◌else◌, List}
use Rattle.definitions.specs.Functions.{Function}
use Rattle.node_words.specs.declared.operation.Operation.{Operation}
use Rattle.node_words.specs.declared.operation.Operation.TheVariants.{And, Or, Xor}
use Rattle.node_words.specs.Nodes.{IsKnown}
use Rattle.node_words.specs.Meaning.{function_of, Denotes}

-- an operation's number in a word
abbrev pub code_of : Operation → ℕ
code_of And = 1
code_of Or = 2
code_of Xor = 3

-- an operation on two values
abbrev pub combine_values : Operation → Bool → Bool → Bool
combine_values And x y = x && y
combine_values Or x y = x || y
combine_values Xor x y = if x then not y else y

-- an operation on two functions
unfoldable pub combine : Operation → Function → Function → Function
combine operation f g p = combine_values operation (f p) (g p)

-- the word of an operation's result
abbrev pub entry_word : ℕ → ℕ → ℕ → ℕ → ℕ
entry_word code first second result = code * 2 ^ 60 + first * 2 ^ 40 + second * 2 ^ 20 + result

-- the parts of a cache word: the two operands, and the result
abbrev pub first_of : ℕ → ℕ
first_of w = (w / 2 ^ 40) % 2 ^ 20

abbrev pub second_of : ℕ → ℕ
second_of w = (w / 2 ^ 20) % 2 ^ 20

abbrev pub result_of : ℕ → ℕ
result_of w = w % 2 ^ 20

-- the operands are known, and the result denotes the operation on them
pub record IsEntry (order ws : List ℕ) (w : ℕ) : Type 0 where
  pub operation : Operation
  pub word : w ≡ entry_word (code_of operation) (first_of w) (second_of w) (result_of w)
  pub first : IsKnown ws (first_of w)
  pub second : IsKnown ws (second_of w)
  pub denotes : Denotes order ws (result_of w)
      (combine operation (function_of order ws (first_of w)) (function_of order ws (second_of w)))
