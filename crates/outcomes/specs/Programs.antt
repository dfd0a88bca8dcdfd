-- How the programs end, as both promise it; each has a record of its own for what it does beside this.
--     Streams      what a program's output and standard error hold
--     ProgramEnds program MayEnd words status before after      its statuses, the words that it refuses, and standard error
--     UsageEnds program usage status before after      how it ends at words that give no plan
use Rattle.std.specs.Prelude.{◌≡◌, ◌≢◌, ℕ, ◌≤◌, List, Option, IsTrue}
use Rattle.definitions.specs.Orders.{has}
use Rattle.command_line.specs.Lines.{HasNoLine, LacksPaths, minorder, ordercheck}
use Rattle.command_line.specs.Usages.{AreFaulty, TurnsAway}
use Rattle.command_line.specs.declared.usage.Usage.{Usage}
use Rattle.outcomes.specs.declared.fault_lines.Program.{Program}
use Rattle.outcomes.specs.declared.fault_lines.Program.TheVariants.{Minorder, Ordercheck}
use Rattle.outcomes.specs.declared.outcome.Fault.{Fault}
use Rattle.outcomes.specs.declared.outcome.Fault.TheVariants.{OutOfMemory}
use Rattle.outcomes.specs.Messages.{IsTold, Receives, Writer, fault_line}
use Rattle.outcomes.specs.Statuses.{IsInformation, IsRefusal, check_exits, exits, usage_exits}

-- what a program's output holds, if it is known, and its standard error
pub record Streams : Type 0 where
  pub out : Option (List ℕ)
  pub err : Writer

abbrev pub streams : Option (List ℕ) → Writer → Streams
streams out err = record { out = out; err = err }

-- a program's exit statuses
abbrev pub exits_of : Program → List ℕ
exits_of Minorder = exits
exits_of Ordercheck = check_exits

-- clap finds a fault in the words of a program, or they lack what it needs
abbrev pub AreFaultyFor : Program → List (List ℕ) → Type 0
AreFaultyFor Minorder words = AreFaulty minorder HasNoLine words
AreFaultyFor Ordercheck words = AreFaulty ordercheck LacksPaths words

-- how a program ends at words that ask for nothing that it does
abbrev pub TurnsAwayFrom : Program → List (List ℕ) → ℕ → Type 0
TurnsAwayFrom Minorder words status = TurnsAway minorder words status
TurnsAwayFrom Ordercheck words status = TurnsAway ordercheck words status

-- how a program ends at its words: its exit status, and what its streams hold before and after
pub record ProgramEnds (program : Program) (MayEnd : Fault → Type 0) (words : List (List ℕ)) (status : ℕ)
    (before after : Streams) : Type 0 where
  -- 6 is none of them
  pub is_an_exit_status : IsTrue (has (exits_of program) status)
  -- 2: only if the words are faulty
  pub words_are_faulty : status ≡ 2 → AreFaultyFor program words
  -- faulty words: 2, or 4, or 0 and help or the version
  pub turns_away_faulty_words : AreFaultyFor program words → TurnsAwayFrom program words status
  -- 0 and 1: standard error gets nothing
  pub reports_no_fault : status ≤ 1 → after.err.holds ≡ before.err.holds
  -- 3, 4, 5 and 8: standard error gets the line of a fault with that status
  pub names_a_fault : status ≢ 0 → status ≢ 1 → status ≢ 2 → IsTold program MayEnd status before.err after.err
  -- 2, 3, 4 and 8: the output gets nothing
  pub writes_nothing : status ≢ 0 → status ≢ 1 → status ≢ 5 → after.out ≡ before.out

-- how a program ends at words that give no plan
pub record UsageEnds (program : Program) (usage : Usage) (status : ℕ) (before after : Streams) : Type 0 where
  pub is_an_exit_status : IsTrue (has usage_exits status)
  -- 0: only if help or the version was asked for, and standard error gets nothing
  pub is_information : status ≡ 0 → IsInformation usage
  pub reports_no_fault : status ≡ 0 → after.err.holds ≡ before.err.holds
  -- 2: only if the words are refused
  pub is_refusal : status ≡ 2 → IsRefusal usage
  -- 4: standard error gets the line of the fault
  pub names_the_fault : status ≡ 4 → Receives (fault_line program OutOfMemory) before.err after.err
  -- 2 and 4: the output gets nothing
  pub writes_nothing : status ≢ 0 → after.out ≡ before.out
