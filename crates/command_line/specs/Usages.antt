-- What an error of clap means for a program, and why words give no plan.
--     status_of usage      the exit status
--     usage_kind error      help or the version that was requested, out of memory, or refused words
--     AsksForInformation app words      clap answers the words with help or the version
--     AreFaulty app Lacks words      clap finds a fault in the words, or they lack a required argument
--     TurnsAway app words status      the exit status for words that request no run of the program
--     Explains app Lacks words usage      why words give no plan
use Rattle.std.specs.Prelude.{◌≡◌, ◌≢◌, ◌⊎◌, ℕ, List, []}
use Rattle.clap.specs.Words.{App, IsAmong, Text, kind_of}
use Rattle.clap.specs.declared.error.Error.{Error}
use Rattle.clap.specs.declared.error.kind.ErrorKind.{ErrorKind}
use Rattle.clap.specs.declared.error.kind.ErrorKind.TheVariants as kinds
use Rattle.command_line.specs.declared.usage.Usage.{Usage}
use Rattle.command_line.specs.declared.usage.Usage.TheVariants.{Information, Refused, OutOfMemory}
use Rattle.command_line.specs.Lines.{faults_of}

-- the exit status of a command line that gives no plan
abbrev pub status_of : Usage → ℕ
status_of (Information error) = 0
status_of (Refused error) = 2
status_of OutOfMemory = 4

abbrev pub usage_of_kind : ErrorKind → Error → Usage
usage_of_kind kinds.DisplayHelp error = Information error
usage_of_kind kinds.DisplayVersion error = Information error
usage_of_kind kinds.OutOfMemory error = OutOfMemory
usage_of_kind _ error = Refused error

-- help or the version that was requested, out of memory, or refused words
abbrev pub usage_kind : Error → Usage
usage_kind error = usage_of_kind (kind_of error) error

-- neither help nor the version was requested
abbrev pub IsNoInformation : Usage → Type 0
IsNoInformation (Information error) = ⊥
IsNoInformation _ = Unit {0}

-- clap answers the words with help or the version
abbrev pub AsksForInformation : App → List Text → Type 0
AsksForInformation app words = IsAmong kinds.DisplayHelp (faults_of app words) ⊎ IsAmong kinds.DisplayVersion (faults_of app words)

-- clap finds a fault in the words, or they lack a required argument
abbrev pub AreFaulty : App → (List Text → Type 0) → List Text → Type 0
AreFaulty app Lacks words = (faults_of app words ≢ []) ⊎ Lacks words

-- the exit status for words that request no run of the program: they are refused, memory is refused, or clap answers with help or the version
abbrev pub TurnsAway : App → List Text → ℕ → Type 0
TurnsAway app words status = (status ≡ 2) ⊎ (status ≡ 4) ⊎ ((status ≡ 0) × AsksForInformation app words)

-- why words give no plan
abbrev pub Explains : App → (List Text → Type 0) → List Text → Usage → Type 0
Explains app Lacks words (Information error) = AsksForInformation app words
Explains app Lacks words (Refused error) = AreFaulty app Lacks words
Explains app Lacks words OutOfMemory = Unit {0}
