-- Sets that exchanges of variables take to one another.
--     ExchangeOf      an exchange: the partners of the variables, and the image of each set
--     IsExchangeOf p e      e is an exchange under which no function of p changes, with its images
--     width_into p S x      the width of a variable over a set without it
--     IsAfter e T variables U moved      e takes T to U, and each of `variables` to the one of `moved` in its place
--     TakesWidths p q S T variables      variables of p go to ones of q so that those of S go to those of T, with their widths
--     KeepsWidths p S T variables      TakesWidths with p for q: variables of p go to variables of p
--     AreKept p images      each set keeps its widths in its image
use Rattle.std.specs.Prelude.{◌≡◌, ℕ, ◌^◌, ◌<◌, List, length, get_or, slice_index}
use Rattle.std.specs.Int.{bit_at}
use Rattle.definitions.specs.Orders.{members, without}
use Rattle.definitions.specs.Problems.{TruthTables, functions}
use Rattle.definitions.specs.Widths.{width}
use Rattle.symmetries.specs.Exchanges.{AreSymmetric, IsExchange}
use Rattle.symmetries.specs.Images.{AreImages}
use Rattle.symmetries.specs.declared.orbits.Image.{Image}

-- an exchange: the partner of each variable, and the image of each set
pub record ExchangeOf : Type 0 where
  pub partners : List ℕ
  pub images : List ℕ

-- an exchange of a problem's variables under which no function changes
pub record IsExchangeOf (p : TruthTables) (e : ExchangeOf) : Type 0 where
  pub is_exchange : IsExchange p.inputs e.partners
  pub symmetric : AreSymmetric p.inputs (functions p) e.partners
  pub images_are : AreImages p.inputs e.partners e.images

-- the width of a variable over a set without it
unfoldable pub width_into : TruthTables → ℕ → ℕ → ℕ
width_into p S x = width p.inputs (functions p) (without x (members p.inputs S)) x

-- an exchange takes a set to its image, and variables to their partners
pub record IsAfter (e : ExchangeOf) (T : ℕ) (variables : List ℕ) (U : ℕ) (moved : List ℕ) : Type 0 where
  pub set : U ≡ slice_index e.images T
  pub each : (x : ℕ) → x < 16 → slice_index variables x < length e.partners → slice_index moved x ≡ slice_index e.partners (slice_index variables x)

-- each variable of p goes to one of q: the members of S to those of T, and widths stay
pub record TakesWidths (p q : TruthTables) (S T : ℕ) (variables : List ℕ) : Type 0 where
  pub inputs : q.inputs ≡ p.inputs
  pub small : T < 2 ^ q.inputs
  pub inside : (x : ℕ) → x < p.inputs → slice_index variables x < q.inputs
  pub bits : (x : ℕ) → x < p.inputs → bit_at T (slice_index variables x) ≡ bit_at S x
  pub widths : (x : ℕ) → x < p.inputs → width_into q T (slice_index variables x) ≡ width_into p S x

-- TakesWidths with p for q: variables of p go to variables of p
abbrev pub KeepsWidths : TruthTables → ℕ → ℕ → List ℕ → Type 0
KeepsWidths p = TakesWidths p p

-- each set keeps its widths in its image
abbrev pub AreKept : TruthTables → List Image → Type 0
AreKept p images = (S : ℕ) (d : Image) → S < length images → S < 2 ^ p.inputs → KeepsWidths p S (get_or images S d).set (get_or images S d).variables
