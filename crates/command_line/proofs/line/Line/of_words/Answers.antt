use Rattle.std.proofs.Common.{codes, inl, inr, refl, subst, sym}
use Rattle.clap.specs.Words.{app_of}
use Rattle.command_line.specs.Lines.{HasNoLine, minorder, texts}
use Rattle.command_line.proofs.Matches.{error_explained, lacking_explained, lacking_matched, line_taken, minorder_is_free, minorder_is_simple, odds_matched}
use Rattle.command_line.proofs.line.Line.of_words.Goals as goal

pub returns-in_err-matches-clause-refused : goal.returns-in_err-matches-clause-refused
returns-in_err-matches-clause-refused c =
    error_explained minorder HasNoLine (texts c.args.words.now) (app_of c.in_ok-command.command) c.in_err-matches.field-0.0
    c.from_residual-in_err-matches.result c.in_ok-command.ensures minorder_is_free c.in_err-matches.ensures.kinds c.from_residual-in_err-matches.ensures.1

pub returns-in_default-clause-refused : goal.returns-in_default-clause-refused
returns-in_default-clause-refused c =
    let words = texts c.args.words.now in
    lacking_explained minorder HasNoLine words c.refused_words.result c.refused_words.ensures
    (inr (odds_matched (app_of c.in_ok-command.command) words c.in_ok-matches.matches c.in_ok-matches.ensures.ok.2 c.in_ok-command.ensures
    (c.in_default.ensures.odds refl)))

pub returns-clause-refused : goal.returns-clause-refused
returns-clause-refused c =
    let words = texts c.args.words.now in
    lacking_explained minorder HasNoLine words c.refused_words-in-None.result c.refused_words-in-None.ensures
    (inl (lacking_matched (app_of c.in_ok-command.command) words c.in_ok-matches.matches c.in_ok-matches.ensures.ok.2 c.in_ok-command.ensures
    (c.in-None.ensures.lacks refl)))

pub returns-in-Some-line_of-clause-line : goal.returns-in-Some-line_of-clause-line
returns-in-Some-line_of-clause-line c =
    line_taken (app_of c.in_ok-command.command) (texts c.args.words.now) c.in_ok-matches.matches
    c.in_ok-matches.ensures.ok.2 c.in-Some-line_of.line c.in_ok-command.ensures c.in_ok-matches.ensures.kinds c.in-Some-line_of.ensures.line
