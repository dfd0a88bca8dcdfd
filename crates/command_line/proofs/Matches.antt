-- The matches of either command line are those of a simple command, and their errors have that command's kinds.
use Rattle.std.proofs.Common.{◌≡◌, ◌≢◌, ◌⊎◌, ◌↔◌, inl, inr, List, [], ◌∷◌, Option, true, codes, refl, sym, subst, ap, ◌∙◌, Result, Ok, Err, IfErr, IsErrAnd}
use Rattle.clap.specs.Words.{App, HasKind, HasMatchesOf, IsAmong, Kinds, Text, fault_of, first_of, first_value, found_of, is_simple, is_simple_and_free, kind_of, matches_of, one_of, one_text}
use Rattle.clap.specs.declared.error.Error.{Error}
use Rattle.clap.specs.declared.error.kind.ErrorKind.{ErrorKind}
use Rattle.clap.specs.declared.error.kind.ErrorKind.TheVariants as kinds
use Rattle.clap.specs.declared.parser.matches.ArgMatches.{ArgMatches}
use Rattle.clap.proofs.OnLiterals.{clap_on_literals}
use Rattle.clap.proofs.WalkLemmas.{first_value-rows, one_text-rows}
use Rattle.command_line.specs.declared.ordercheck_line.CheckLine.{CheckLine}
use Rattle.command_line.specs.declared.line.Line.{Line}
use Rattle.command_line.specs.declared.line.Output.{Output}
use Rattle.command_line.specs.declared.usage.Usage.{Usage}
use Rattle.command_line.specs.declared.usage.Usage.TheVariants.{Information, Refused, OutOfMemory}
use Rattle.command_line.specs.Lines.{AreAtOdds, IsCheckLineBy, IsCheckLineOf, IsGiven, IsLineBy, IsLineOf, IsNumber, IsOutputBy, LacksValues, faults_of, minorder, ordercheck, read_of, value_of}
use Rattle.command_line.specs.Usages.{Explains, IsNoInformation, usage_kind, usage_of_kind}

pub minorder_is_simple : is_simple minorder ≡ true
unfolding clap_on_literals
minorder_is_simple = refl

pub minorder_is_free : is_simple_and_free minorder ≡ true
unfolding clap_on_literals
minorder_is_free = refl

pub ordercheck_is_simple : is_simple ordercheck ≡ true
unfolding clap_on_literals
ordercheck_is_simple = refl

pub ordercheck_is_free : is_simple_and_free ordercheck ≡ true
unfolding clap_on_literals
ordercheck_is_free = refl

-- a command that was built as one that is simple, and its words
module _ (built app : App) (is : built ≡ app) (simple : is_simple app ≡ true) (words : List Text) (m : ArgMatches)
    (h : HasMatchesOf built words m) (id : Text) where
  -- the value of an id, as it was written
  pub value_matched : value_of app words id ≡ first_value (found_of m) id
  unfolding value_of
  value_matched = ap (first_of id) (sym ((h (ap is_simple is ∙ simple)).0 ∙ ap (λ a. matches_of a words) is)) ∙ sym (first_value-rows (found_of m) id)

  pub read_matched : read_of app words id ≡ one_text (found_of m) id
  unfolding read_of
  read_matched = ap (one_of id) (sym ((h (ap is_simple is ∙ simple)).0 ∙ ap (λ a. matches_of a words) is)) ∙ sym (one_text-rows (found_of m) id)

-- words that clap takes have no fault
pub taken_faultless : (built app : App) (words : List Text) → built ≡ app → is_simple_and_free app ≡ true →
    (is_simple_and_free built ≡ true → fault_of built words ≡ []) → faults_of app words ≡ []
unfolding faults_of
taken_faultless built app words is free none = subst (λ a. fault_of a words ≡ []) is (none (ap is_simple_and_free is ∙ free))

-- what values ask for is asked for by others that are the same
module _ (value value' read read' : Text → Option Text) (v : (id : Text) → value id ≡ value' id) (r : (id : Text) → read id ≡ read' id) where
  given_moved : (id : Text) → IsGiven (read id) ↔ IsGiven (read' id)
  given_moved id = (subst IsGiven (r id), subst IsGiven (sym (r id)))

  pub output_moved : (output : Output) → IsOutputBy value read output → IsOutputBy value' read' output
  output_moved output is = record {
    count = (λ e. (given_moved (codes "count")).0 (is.count.0 e), λ g. is.count.1 ((given_moved (codes "count")).1 g));
    orders = (λ e. (given_moved (codes "orders")).0 (is.orders.0 e), λ g. is.orders.1 ((given_moved (codes "orders")).1 g));
    sizes = (λ e. (given_moved (codes "sizes")).0 (is.sizes.0 e), λ g. is.sizes.1 ((given_moved (codes "sizes")).1 g));
    certifies = λ some. is.certifies (λ none. some (sym (v (codes "cert")) ∙ none));
  }

  either : (id other : Text) → IsGiven (read id) × IsGiven (read other) → IsGiven (read' id) × IsGiven (read' other)
  either id other (g, h) = ((given_moved id).0 g, (given_moved other).0 h)

  pub odds_moved : AreAtOdds value read → AreAtOdds value' read'
  odds_moved (inl both) = inl (either (codes "count") (codes "orders") both)
  odds_moved (inr (inl both)) = inr (inl (either (codes "count") (codes "sizes") both))
  odds_moved (inr (inr (inl both))) = inr (inr (inl (either (codes "orders") (codes "sizes") both)))
  odds_moved (inr (inr (inr (some, inl g)))) =
      inr (inr (inr ((λ none. some (v (codes "cert") ∙ none)), inl ((given_moved (codes "orders")).0 g))))
  odds_moved (inr (inr (inr (some, inr g)))) =
      inr (inr (inr ((λ none. some (v (codes "cert") ∙ none)), inr ((given_moved (codes "sizes")).0 g))))

-- what the matches of words that clap takes hold is the line of the words, or they have none
module _ (built : App) (words : List Text) (m : ArgMatches) (h : HasMatchesOf built words m) where
  pub odds_matched : built ≡ minorder → AreAtOdds (first_value (found_of m)) (one_text (found_of m)) →
      AreAtOdds (value_of minorder words) (read_of minorder words)
  odds_matched is odds = odds_moved (first_value (found_of m)) (value_of minorder words) (one_text (found_of m)) (read_of minorder words)
      (λ id. sym (value_matched built minorder is minorder_is_simple words m h id))
      (λ id. sym (read_matched built minorder is minorder_is_simple words m h id)) odds

  pub lacking_matched : built ≡ minorder → LacksValues (first_value (found_of m)) (one_text (found_of m)) →
      LacksValues (value_of minorder words) (read_of minorder words)
  lacking_matched is (inl none) = inl (value_matched built minorder is minorder_is_simple words m h (codes "FILE") ∙ none)
  lacking_matched is (inr lacks) =
      inr (λ n number. lacks n (subst (λ v. IsNumber v n) (read_matched built minorder is minorder_is_simple words m h (codes "workers")) number))

  pub line_taken : (line : Line) → built ≡ minorder → (is_simple_and_free built ≡ true → fault_of built words ≡ []) →
      IsLineBy (first_value (found_of m)) (one_text (found_of m)) line → IsLineOf words line
  line_taken line is none by =
      let value = value_matched built minorder is minorder_is_simple words m h in
      let read = read_matched built minorder is minorder_is_simple words m h in
      record {
        taken = taken_faultless built minorder words is minorder_is_free none;
        values = record {
          file = value (codes "FILE") ∙ by.file;
          cert = value (codes "cert") ∙ by.cert;
          above = value (codes "above") ∙ by.above;
          output = output_moved (first_value (found_of m)) (value_of minorder words) (one_text (found_of m)) (read_of minorder words)
              (λ id. sym (value id)) (λ id. sym (read id)) line.plan.output by.output;
          workers = subst (λ v. IsNumber v line.plan.workers) (sym (read (codes "workers"))) by.workers;
          some_workers = by.some_workers;
          most_workers = by.most_workers;
        };
      }

  pub check_line_taken : (line : CheckLine) → built ≡ ordercheck → (is_simple_and_free built ≡ true → fault_of built words ≡ []) →
      IsCheckLineBy (first_value (found_of m)) line → IsCheckLineOf words line
  check_line_taken line is none by =
      let value = value_matched built ordercheck is ordercheck_is_simple words m h in
      record {
        taken = taken_faultless built ordercheck words is ordercheck_is_free none;
        values = record { file = value (codes "FILE") ∙ by.file; cert = value (codes "CERT") ∙ by.cert };
      }

among_some : (k : ErrorKind) (ks : Kinds) → IsAmong k ks → ks ≢ []
among_some k [] h = absurd h
among_some k (x ∷ xs) h = λ e. cc

-- words at which clap has an error of another kind than out of memory have a fault
some_fault : (k : ErrorKind) (ks : Kinds) → k ≢ kinds.OutOfMemory → (k ≡ kinds.OutOfMemory) ⊎ IsAmong k ks → ks ≢ []
some_fault k ks other (inl h) = absurd (other h)
some_fault k ks other (inr h) = among_some k ks h

-- what an error says of the words of a command
module _ (app : App) (Lacks : List Text → Type 0) (words : List Text) where
  explained : (e : Error) (k : ErrorKind) → (k ≡ kinds.OutOfMemory) ⊎ IsAmong k (faults_of app words) → Explains app Lacks words (usage_of_kind k e)
  explained e kinds.DisplayHelp (inl h) = cc
  explained e kinds.DisplayHelp (inr h) = inl h
  explained e kinds.DisplayVersion (inl h) = cc
  explained e kinds.DisplayVersion (inr h) = inr h
  explained e kinds.OutOfMemory h = record {}
  explained e kinds.InvalidValue h = inl (some_fault kinds.InvalidValue (faults_of app words) (λ e. cc) h)
  explained e kinds.UnknownArgument h = inl (some_fault kinds.UnknownArgument (faults_of app words) (λ e. cc) h)
  explained e kinds.InvalidSubcommand h = inl (some_fault kinds.InvalidSubcommand (faults_of app words) (λ e. cc) h)
  explained e kinds.NoEquals h = inl (some_fault kinds.NoEquals (faults_of app words) (λ e. cc) h)
  explained e kinds.ValueValidation h = inl (some_fault kinds.ValueValidation (faults_of app words) (λ e. cc) h)
  explained e kinds.TooManyValues h = inl (some_fault kinds.TooManyValues (faults_of app words) (λ e. cc) h)
  explained e kinds.TooFewValues h = inl (some_fault kinds.TooFewValues (faults_of app words) (λ e. cc) h)
  explained e kinds.WrongNumberOfValues h = inl (some_fault kinds.WrongNumberOfValues (faults_of app words) (λ e. cc) h)
  explained e kinds.ArgumentConflict h = inl (some_fault kinds.ArgumentConflict (faults_of app words) (λ e. cc) h)
  explained e kinds.MissingRequiredArgument h = inl (some_fault kinds.MissingRequiredArgument (faults_of app words) (λ e. cc) h)
  explained e kinds.MissingSubcommand h = inl (some_fault kinds.MissingSubcommand (faults_of app words) (λ e. cc) h)
  explained e kinds.DisplayHelpOnMissingArgumentOrSubcommand h =
      inl (some_fault kinds.DisplayHelpOnMissingArgumentOrSubcommand (faults_of app words) (λ e. cc) h)
  explained e kinds.Io h = inl (some_fault kinds.Io (faults_of app words) (λ e. cc) h)
  explained e kinds.Format h = inl (some_fault kinds.Format (faults_of app words) (λ e. cc) h)

  -- an error of clap says why words give no plan
  pub error_explained : {L : Type 0} (built : App) (e : Error) (r : Result L Usage) → built ≡ app → is_simple_and_free app ≡ true →
      (is_simple_and_free built ≡ true → HasKind (fault_of built words) e) → IsErrAnd r (λ u. u ≡ usage_kind e) →
      IfErr r (Explains app Lacks words)
  unfolding faults_of
  error_explained built e (Ok line) is free has usage = elim usage [ ]
  error_explained built e (Err u) is free has usage =
      subst (Explains app Lacks words) (sym usage)
      (explained e (kind_of e) (subst (λ a. HasKind (fault_of a words) e) is (has (ap is_simple_and_free is ∙ free))))

  -- so does an argument that is missing
  pub lacking_explained : (u : Usage) → IsNoInformation u → Lacks words → Explains app Lacks words u
  lacking_explained (Information e) h lacks = absurd h
  lacking_explained (Refused e) h lacks = inr lacks
  lacking_explained OutOfMemory h lacks = record {}
