-- Product terms and the functions of a list of them (espresso(5), logical type f).
--     Product      a product term: for each input its literal, if any, and for each output whether the product belongs to its ON-set
--     matches product p      whether all literals of a product hold at a point
--     product_function products j, product_functions m products      output j: 1 if some product of its ON-set matches; the outputs' functions
--     product_of n m term      the product that the program's masks stand for
use Rattle.std.specs.Prelude.{ℕ, Bool, true, if◌then◌else◌, ◌&&◌, ◌==◌, List, map, Option, Some, None}
use Rattle.std.specs.Int.{bit_at}
use Rattle.std.specs.List.{list_any, list_all, range_with_len, enumerate_from}
use Rattle.std.specs.Bool.{beq}
use Rattle.definitions.specs.declared.terms.Term.{Term}
use Rattle.definitions.specs.Functions.{Point, Function, bit}

-- a product term: for each input the value that its literal requires, if it has one, and for each output whether the product belongs to its ON-set
pub record Product : Type 0 where
  pub literals : List (Option Bool)
  pub outputs : List Bool

-- whether a literal holds at a point
abbrev pub literal_holds : Point → ℕ × Option Bool → Bool
literal_holds p (i, None) = true
literal_holds p (i, Some b) = beq (bit p i) b

-- whether all literals of a product hold at a point
unfoldable pub matches : Product → Point → Bool
matches product p = list_all (literal_holds p) (enumerate_from 0 product.literals)

-- whether a product belongs to output j's ON-set
abbrev pub has_output : Product → ℕ → Bool
has_output product j = bit product.outputs j

-- output j: 1 if some product of its ON-set matches
unfoldable pub product_function : List Product → ℕ → Function
product_function products j p = list_any (λ product. matches product p && has_output product j) products

-- the functions of the m outputs
unfoldable pub product_functions : ℕ → List Product → List Function
product_functions m products = map (product_function products) (range_with_len 0 m)

-- the literal of input i: a term has one if its mask `care` has the bit
abbrev pub literal_in : Term → ℕ → Option Bool
literal_in term i = if bit_at term.care i == 1 then Some (bit_at term.value i == 1) else None

-- whether a term belongs to output j's ON-set
abbrev pub output_in : Term → ℕ → Bool
output_in term j = bit_at term.outs j == 1

-- the product of n inputs and m outputs that a term's masks stand for
unfoldable pub product_of : ℕ → ℕ → Term → Product
product_of n m term = record {
  literals = map (literal_in term) (range_with_len 0 n);
  outputs = map (output_in term) (range_with_len 0 m);
}
