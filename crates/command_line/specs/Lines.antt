-- The command lines of the two programs, and the values that clap's matches of their words hold (those of a simple command, defaults among them).
--     minorder      [--workers W] [--cert OUT] [--count | --orders | --sizes] [--above LIST] FILE
--     ordercheck      FILE CERT
--     value_of app words id, read_of app words id      the value of an argument, as it was written and as it is read
--     IsGiven, IsNumber      what a read value means
--     IsOutputBy value read output      what the values ask to be printed
--     IsLineOf words line, IsCheckLineOf words line      clap takes the words, and their values make the line
--     LacksValues value read, LacksFiles file cert      a required argument is missing
--     AreAtOdds value read      options exclude one another
--     faults_of app words      the kinds of error that clap may give at the words, none if it takes them
use Rattle.std.specs.Prelude.{◌≡◌, ◌≢◌, ◌⊎◌, ◌↔◌, ◌≤◌, ℕ, List, [], ◌∷◌, map, Option, Some, None, codes, option_map, true, pos}
use Rattle.std.specs.Borrow.{Bor}
use Rattle.std.specs.Str.Parse.{IsNumeral, digits_value, without_leading_plus}
use Rattle.clap.specs.Words.{App, Kinds, Rule, Text, fault_of, first_of, one_of, matches_of, new_app, new_rule, with_rule}
use Rattle.clap.specs.declared.builder.action.ArgAction.TheVariants.{SetTrue}
use Rattle.clap.specs.declared.builder.value_parser.ValueParser.TheVariants as parser
use Rattle.command_line.specs.declared.ordercheck_line.CheckLine.{CheckLine}
use Rattle.command_line.specs.declared.line.Line.{Line}
use Rattle.command_line.specs.declared.line.Output.{Output}
use Rattle.command_line.specs.declared.line.Output.TheVariants.{Report, Count, Orders, Sizes}

-- an option with one value
abbrev pub option : Text → Rule
option name = record (new_rule name) { long = Some name; value_names = 1 }

abbrev pub workers_rule : Rule
workers_rule = record (option (codes "workers"))
    { parser = Some (parser.Signed (pos 1) (pos 64)); defaults = codes "4" ∷ [] }

-- an option without a value
abbrev pub flag : Text → Rule
flag name = record (new_rule name) { long = Some name; action = Some SetTrue }

-- an argument that has to be there
abbrev pub required : Text → Rule
required name = record (new_rule name) { required = true }

-- a command with a version, whose words are those after the program's name
abbrev pub named : Text → App
named name = record (new_app name) { top = record (new_app name).top { no_binary_name = true; has_version = true } }

abbrev pub with_outputs : App → App
with_outputs app = with_rule (with_rule (with_rule app (flag (codes "count"))) (flag (codes "orders"))) (flag (codes "sizes"))

abbrev pub with_options : App → App
with_options app =
    with_rule (with_outputs (with_rule (with_rule app workers_rule) (option (codes "cert")))) (option (codes "above"))

-- the command line of minorder
abbrev pub minorder : App
minorder = with_rule (with_options (named (codes "minorder"))) (required (codes "FILE"))

-- the command line of ordercheck
abbrev pub ordercheck : App
ordercheck = with_rule (with_rule (named (codes "ordercheck")) (required (codes "FILE"))) (required (codes "CERT"))

-- the texts of words
abbrev pub texts : List (Bor Text) → List Text
texts words = map (λ word. word.now) words

-- the value of an argument, as it was written
unfoldable pub value_of : App → List Text → Text → Option Text
value_of app words id = first_of id (matches_of app words)

-- the value of an argument, as it is read
unfoldable pub read_of : App → List Text → Text → Option Text
read_of app words id = one_of id (matches_of app words)

-- a flag is given
abbrev pub IsGiven : Option Text → Type 0
IsGiven value = value ≡ Some (codes "true")

-- the decimal number that a value spells; a plus may stand first
abbrev pub IsNumber : Option Text → ℕ → Type 0
IsNumber value n = (text : Text) × (value ≡ Some text) × IsNumeral 10 (without_leading_plus text)
    × (digits_value 10 (without_leading_plus text) ≡ n)

-- no file is given, or no number from 1 to 64
abbrev pub LacksValues : (Text → Option Text) → (Text → Option Text) → Type 0
LacksValues value read =
    (value (codes "FILE") ≡ None) ⊎ ((n : ℕ) → IsNumber (read (codes "workers")) n → 1 ≤ n → n ≤ 64 → ⊥)

-- two texts are asked for, or a certificate beside orders or sizes
abbrev pub AreAtOdds : (Text → Option Text) → (Text → Option Text) → Type 0
AreAtOdds value read =
    (IsGiven (read (codes "count")) × IsGiven (read (codes "orders")))
    ⊎ (IsGiven (read (codes "count")) × IsGiven (read (codes "sizes")))
    ⊎ (IsGiven (read (codes "orders")) × IsGiven (read (codes "sizes")))
    ⊎ ((value (codes "cert") ≢ None) × (IsGiven (read (codes "orders")) ⊎ IsGiven (read (codes "sizes"))))

-- no file is given, or no certificate
abbrev pub LacksFiles : Option Text → Option Text → Type 0
LacksFiles file cert = (file ≡ None) ⊎ (cert ≡ None)

-- words of minorder that give no file or no number of workers, or options that exclude one another
abbrev pub HasNoLine : List Text → Type 0
HasNoLine words = LacksValues (value_of minorder words) (read_of minorder words)
    ⊎ AreAtOdds (value_of minorder words) (read_of minorder words)

-- words of ordercheck that give no file, or no certificate
abbrev pub LacksPaths : List Text → Type 0
LacksPaths words = LacksFiles (value_of ordercheck words (codes "FILE")) (value_of ordercheck words (codes "CERT"))

-- the kinds of error that clap may give at the words, none if it takes them
unfoldable pub faults_of : App → List Text → Kinds
faults_of app words = fault_of app words

-- what the values of minorder's arguments ask to be printed; orders and sizes have no certificate
pub record IsOutputBy (value read : Text → Option Text) (output : Output) : Type 0 where
  pub count : (output ≡ Count) ↔ IsGiven (read (codes "count"))
  pub orders : (output ≡ Orders) ↔ IsGiven (read (codes "orders"))
  pub sizes : (output ≡ Sizes) ↔ IsGiven (read (codes "sizes"))
  pub certifies : value (codes "cert") ≢ None → (output ≡ Report) ⊎ (output ≡ Count)

-- the values of minorder's arguments, as they were written and as they are read, make the line
pub record IsLineBy (value read : Text → Option Text) (line : Line) : Type 0 where
  pub file : value (codes "FILE") ≡ Some line.file.now
  pub cert : value (codes "cert") ≡ option_map (λ s. s.now) line.cert
  pub above : value (codes "above") ≡ option_map (λ s. s.now) line.plan.above
  pub output : IsOutputBy value read line.plan.output
  pub workers : IsNumber (read (codes "workers")) line.plan.workers
  pub some_workers : 1 ≤ line.plan.workers
  pub most_workers : line.plan.workers ≤ 64

-- clap takes the words of minorder, and their values make the line
pub record IsLineOf (words : List Text) (line : Line) : Type 0 where
  pub taken : faults_of minorder words ≡ []
  pub values : IsLineBy (value_of minorder words) (read_of minorder words) line

-- the values of ordercheck's arguments make the line
pub record IsCheckLineBy (value : Text → Option Text) (line : CheckLine) : Type 0 where
  pub file : value (codes "FILE") ≡ Some line.file.now
  pub cert : value (codes "CERT") ≡ Some line.cert.now

-- clap takes the words of ordercheck, and their values make the line
pub record IsCheckLineOf (words : List Text) (line : CheckLine) : Type 0 where
  pub taken : faults_of ordercheck words ≡ []
  pub values : IsCheckLineBy (value_of ordercheck words) line
