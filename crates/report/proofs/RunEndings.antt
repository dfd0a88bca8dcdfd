-- How minorder ends at words that ask for a run, by how the run ended.
--     done_ends      the run is done
--     refused_ends      it was refused, and standard error got the fault's line
use Rattle.std.proofs.Common.{ℕ, ◌≡◌, List, Option, refl, rules}
use Rattle.command_line.specs.Lines.{IsLineOf}
use Rattle.command_line.specs.declared.line.Line.{Line as CommandLine}
use Rattle.pla_reader.specs.Covers.{IsCover}
use Rattle.outcomes.specs.declared.fault_lines.Program.TheVariants.{Minorder}
use Rattle.outcomes.specs.declared.outcome.Fault.{Fault}
use Rattle.outcomes.specs.declared.outcome.Fault.TheVariants.{Line, TooLong, OutOfMemory, Device, StoreFull, Pairs, CertificateLine, CertificateTooLong}
use Rattle.outcomes.specs.declared.outcome.Outcome.TheVariants.{Done, Refused}
use Rattle.outcomes.specs.Messages.{IsTold, Receives, Writer, fault_line}
use Rattle.outcomes.specs.Programs.{streams}
use Rattle.outcomes.specs.Statuses.{status_of}
use Rattle.report_texts.specs.Runs.{DeliversReport, IsHindered, MayEndRun, MinorderEnds}
use Rattle.report_texts.proofs.RunWords.{ends, not_faulty}

module _ (words : List (List ℕ)) (line : CommandLine) (is : IsLineOf words line) (before after : Option (List ℕ)) (err err' : Writer) where
  pub done_ends : DeliversReport line.plan IsCover before after Done → err'.holds ≡ err.holds →
      MinorderEnds words 0 (streams before err) (streams after err')
  done_ends delivers silent = record {
    done = search rules;
    file_is_refused = search rules;
    device_failed = search rules;
    pairs_are_refused = search rules;
    as_both_programs = record {
      is_an_exit_status = search rules;
      words_are_faulty = search rules;
      turns_away_faulty_words = λ faulty. absurd (not_faulty words line is faulty);
      reports_no_fault = λ small. silent;
      names_a_fault = λ not_done. absurd (not_done refl);
      writes_nothing = λ not_done. absurd (not_done refl);
    };
  }

  told : (fault : Fault) → DeliversReport line.plan IsCover before after (Refused fault) → IsHindered line.plan IsCover (Refused fault) →
      Receives (fault_line Minorder fault) err err' → IsTold Minorder (MayEndRun words) (status_of (Refused fault)) err err'
  told fault delivers hindered its_line = record {
    fault = fault;
    may_end = ends words line before after fault is delivers hindered;
    stands_for_it = refl;
    its_line = its_line;
  }

  pub refused_ends : (fault : Fault) → DeliversReport line.plan IsCover before after (Refused fault) →
      IsHindered line.plan IsCover (Refused fault) → Receives (fault_line Minorder fault) err err' →
      MinorderEnds words (status_of (Refused fault)) (streams before err) (streams after err')
  refused_ends (Line number fault) delivers hindered its_line = record {
    done = search rules;
    file_is_refused = search rules;
    device_failed = search rules;
    pairs_are_refused = search rules;
    as_both_programs = record {
      is_an_exit_status = search rules;
      words_are_faulty = search rules;
      turns_away_faulty_words = λ faulty. absurd (not_faulty words line is faulty);
      reports_no_fault = search rules;
      names_a_fault = λ not_done not_invalid not_refused. told (Line number fault) delivers hindered its_line;
      writes_nothing = search rules;
    };
  }
  refused_ends TooLong delivers hindered its_line = record {
    done = search rules;
    file_is_refused = search rules;
    device_failed = search rules;
    pairs_are_refused = search rules;
    as_both_programs = record {
      is_an_exit_status = search rules;
      words_are_faulty = search rules;
      turns_away_faulty_words = λ faulty. absurd (not_faulty words line is faulty);
      reports_no_fault = search rules;
      names_a_fault = λ not_done not_invalid not_refused. told TooLong delivers hindered its_line;
      writes_nothing = search rules;
    };
  }
  refused_ends OutOfMemory delivers hindered its_line = record {
    done = search rules;
    file_is_refused = search rules;
    device_failed = search rules;
    pairs_are_refused = search rules;
    as_both_programs = record {
      is_an_exit_status = search rules;
      words_are_faulty = search rules;
      turns_away_faulty_words = λ faulty. absurd (not_faulty words line is faulty);
      reports_no_fault = search rules;
      names_a_fault = λ not_done not_invalid not_refused. told OutOfMemory delivers hindered its_line;
      writes_nothing = search rules;
    };
  }
  refused_ends Device delivers hindered its_line = record {
    done = search rules;
    file_is_refused = search rules;
    device_failed = search rules;
    pairs_are_refused = search rules;
    as_both_programs = record {
      is_an_exit_status = search rules;
      words_are_faulty = search rules;
      turns_away_faulty_words = λ faulty. absurd (not_faulty words line is faulty);
      reports_no_fault = search rules;
      names_a_fault = λ not_done not_invalid not_refused. told Device delivers hindered its_line;
      writes_nothing = search rules;
    };
  }
  refused_ends StoreFull delivers hindered its_line = absurd hindered
  refused_ends (Pairs fault) delivers hindered its_line = record {
    done = search rules;
    file_is_refused = search rules;
    device_failed = search rules;
    pairs_are_refused = search rules;
    as_both_programs = record {
      is_an_exit_status = search rules;
      words_are_faulty = search rules;
      turns_away_faulty_words = λ faulty. absurd (not_faulty words line is faulty);
      reports_no_fault = search rules;
      names_a_fault = λ not_done not_invalid not_refused. told (Pairs fault) delivers hindered its_line;
      writes_nothing = search rules;
    };
  }
  refused_ends (CertificateLine number fault) delivers hindered its_line = absurd delivers
  refused_ends CertificateTooLong delivers hindered its_line = absurd delivers
