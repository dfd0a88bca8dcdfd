use Rattle.std.proofs.Common.{◌≡◌, refl, codes, arith, rules}
use Rattle.std.proofs.lemmas.List.{length-append}
use Rattle.certificate.specs.Spelling.{most_pairs, pair_key}
use Rattle.certificate.specs.Faults.{entry_fault, is_pair, pair_key_of}
use Rattle.certificate.specs.Decoded.{read_pair}
use Rattle.certificate.specs.Values.{is_above}
use Rattle.certificate.proofs.Outcomes.{asked}
use Rattle.certificate.proofs.LineSteps.{reached_first, reached_more, reached_fails, reached_all, section_fails}
use Rattle.std.proofs.lemmas.Grind.{common_steps}
use Rattle.certificate.proofs.reader.Lines.pairs.Goals as goal

pub returns-in_err-count-clause-section : goal.returns-in_err-count-clause-section
returns-in_err-count-clause-section c =
    section_fails (codes "pairs") most_pairs (is_pair c.args.n) pair_key_of read_pair (λ v. v.items) _ _ _ _ c.from_residual.result _
    c.from_residual.ensures.1 (λ pre js. c.in_err-count.ensures.line _)

pub loop-n-init : goal.loop-n-init
loop-n-init c = grind (arith, reached_first)

pub returns-in_err-pair-clause-section : goal.returns-in_err-pair-clause-section
returns-in_err-pair-clause-section c =
    reached_fails read_pair pair_key (codes "pairs") most_pairs (is_pair c.args.n) pair_key_of (λ a b. refl) (λ v. v.items) _ _ _
    c.from_residual-in_err-pair.result c.from_residual-in_err-pair.ensures.1 c.loop-n.invariant.reached (omega arith)
    (asked _ (λ ws v. v ≡ read_pair ws) _ _ _ _ c.in_err-pair.ensures.line (λ line r read. search rules))

pub returns-in_err-add-clause-section : goal.returns-in_err-add-clause-section
returns-in_err-add-clause-section c = grind arith

pub loop-n-preserved : goal.loop-n-preserved
loop-n-preserved c =
    let taken = asked (entry_fault (is_pair c.args.n) (λ a b. is_above c.loop-n.last (pair_key_of a b))) (λ ws v. v ≡ read_pair ws) _ _ _ _
    c.in_ok-pair.ensures.line (λ line r read. search rules) in grind (arith, length-append, reached_more)

pub returns-clause-section : goal.returns-clause-section
returns-clause-section c =
    reached_all read_pair pair_key (codes "pairs") most_pairs (is_pair c.args.n) pair_key_of (λ a b. refl) (λ v. v.items) c.loop-n.pairs
    c.loop-n.invariant.reached (omega arith) c.loop-n.invariant.few

pub loop-n-smaller : goal.loop-n-smaller
loop-n-smaller c = grind (arith, common_steps)
