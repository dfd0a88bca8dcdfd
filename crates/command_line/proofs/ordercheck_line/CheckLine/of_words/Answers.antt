use Rattle.std.proofs.Common.{codes, refl, subst, sym}
use Rattle.clap.specs.Words.{app_of}
use Rattle.command_line.specs.Lines.{LacksFiles, LacksPaths, ordercheck, texts, value_of}
use Rattle.command_line.proofs.Matches.{check_line_taken, error_explained, lacking_explained, ordercheck_is_free, ordercheck_is_simple, value_matched}
use Rattle.command_line.proofs.ordercheck_line.CheckLine.of_words.Goals as goal

pub returns-in_err-matches-clause-refused : goal.returns-in_err-matches-clause-refused
returns-in_err-matches-clause-refused c =
    error_explained ordercheck LacksPaths (texts c.args.words.now) (app_of c.in_ok-command.command) c.in_err-matches.field-0.0
    c.from_residual-in_err-matches.result c.in_ok-command.ensures ordercheck_is_free c.in_err-matches.ensures.kinds c.from_residual-in_err-matches.ensures.1

pub returns-clause-refused : goal.returns-clause-refused
returns-clause-refused c =
    let words = texts c.args.words.now in
    let file = value_matched (app_of c.in_ok-command.command) ordercheck c.in_ok-command.ensures ordercheck_is_simple words
    c.in_ok-matches.matches c.in_ok-matches.ensures.ok.2 (codes "FILE") in
    let cert = value_matched (app_of c.in_ok-command.command) ordercheck c.in_ok-command.ensures ordercheck_is_simple words
    c.in_ok-matches.matches c.in_ok-matches.ensures.ok.2 (codes "CERT") in
    lacking_explained ordercheck LacksPaths words c.refused_words.result c.refused_words.ensures
    (subst (λ v. LacksFiles v (value_of ordercheck words (codes "CERT"))) (sym file)
    (subst (LacksFiles _) (sym cert) (c.in-None.ensures.lacks refl)))

pub returns-in-Some-clause-line : goal.returns-in-Some-clause-line
returns-in-Some-clause-line c =
    check_line_taken (app_of c.in_ok-command.command) (texts c.args.words.now) c.in_ok-matches.matches
    c.in_ok-matches.ensures.ok.2 c.in-Some.line c.in_ok-command.ensures c.in_ok-matches.ensures.kinds c.in-Some.ensures.line
