use Rattle.std.proofs.Common.{arith, rules}
use Rattle.certificate.proofs.Masks.{mask_no, mask_yes, word_mask, four_long, four_bytes, digit_at}
use Rattle.certificate.proofs.words.mask.Goals as goal

pub returns-in_default-clause-none : goal.returns-in_default-clause-none
returns-in_default-clause-none c = mask_no c.args.n c.args.word.now (λ e within. let four = four_long c.args.word.now e in absurd (omega arith))

pub returns-in_default-2-clause-none : goal.returns-in_default-2-clause-none
returns-in_default-2-clause-none c = mask_no c.args.n c.args.word.now (λ e within. let four = four_long c.args.word.now e in absurd (omega arith))

pub returns-in_err-a-clause-none : goal.returns-in_err-a-clause-none
returns-in_err-a-clause-none c =
    rw c.from_residual.ensures
    (mask_no c.args.n c.args.word.now
    (λ e within. let g = digit_at c.args.word.now e 0 (omega arith) in c.in_err-a.ensures.none g.0 g.1 g.2))

pub returns-in_err-b-clause-none : goal.returns-in_err-b-clause-none
returns-in_err-b-clause-none c =
    rw c.from_residual-in_err-b.ensures
    (mask_no c.args.n c.args.word.now
    (λ e within. let g = digit_at c.args.word.now e 1 (omega arith) in c.in_err-b.ensures.none g.0 g.1 g.2))

pub returns-in_err-c-clause-none : goal.returns-in_err-c-clause-none
returns-in_err-c-clause-none c =
    rw c.from_residual-in_err-c.ensures
    (mask_no c.args.n c.args.word.now
    (λ e within. let g = digit_at c.args.word.now e 2 (omega arith) in c.in_err-c.ensures.none g.0 g.1 g.2))

pub returns-in_err-d-clause-none : goal.returns-in_err-d-clause-none
returns-in_err-d-clause-none c =
    rw c.from_residual-in_err-d.ensures
    (mask_no c.args.n c.args.word.now
    (λ e within. let g = digit_at c.args.word.now e 3 (omega arith) in c.in_err-d.ensures.none g.0 g.1 g.2))

pub returns-then-from-sets_below_all-clause-none : goal.returns-then-from-sets_below_all-clause-none
returns-then-from-sets_below_all-clause-none c =
    let a = c.in_ok-a.ensures.some in let b = c.in_ok-b.ensures.some in let d = c.in_ok-c.ensures.some in let f = c.in_ok-d.ensures.some in
    let value =
    word_mask c.args.word.now c.in_ok-a.a c.in_ok-b.b c.in_ok-c.c c.in_ok-d.d
    (four_bytes c.args.word.now _ _ _ _ (omega arith) a.0 b.0 d.0 f.0) a.1 b.1 d.1 f.1 in
    mask_no c.args.n c.args.word.now (λ e within. absurd (omega arith))

pub returns-clause-some : goal.returns-clause-some
returns-clause-some c =
    let a = c.in_ok-a.ensures.some in let b = c.in_ok-b.ensures.some in let d = c.in_ok-c.ensures.some in let f = c.in_ok-d.ensures.some in
    let word = four_bytes c.args.word.now _ _ _ _ (omega arith) a.0 b.0 d.0 f.0 in grind (arith, mask_yes, word_mask)

pub returns-in_err-d-clause-some : goal.returns-in_err-d-clause-some
returns-in_err-d-clause-some c = search rules

pub returns-in_err-a-clause-some : goal.returns-in_err-a-clause-some
returns-in_err-a-clause-some c = search rules

pub returns-in_err-c-clause-some : goal.returns-in_err-c-clause-some
returns-in_err-c-clause-some c = search rules

pub returns-in_err-b-clause-some : goal.returns-in_err-b-clause-some
returns-in_err-b-clause-some c = search rules
