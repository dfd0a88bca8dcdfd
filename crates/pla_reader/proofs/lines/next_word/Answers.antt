use Rattle.std.proofs.Common.{rules, ◌∙◌, ◌++◌, ℕ, ap, length, take, arith, length-append, length-drop}
use Rattle.pla_reader.proofs.TextLemmas.{first_apart, rest_parts, words_rest, words_of_none, word_some}
use Rattle.pla_reader.proofs.lines.next_word.Goals as goal

pub loop-rest-preserved : goal.loop-rest-preserved
loop-rest-preserved c =
    let h = c.loop-rest.invariant in
    let e = first_apart c.args.text.now h.tail.0 c.loop-rest.rest.now h.tail.1 in
    let w = words_rest c.loop-rest.rest.now (omega arith) (search rules) in
    record {
      same = h.same ∙ w;
      shorter = omega (arith, ap length e, length-append {A = ℕ});
      tail = (h.tail.0 ++ take 1 c.loop-rest.rest.now, e);
    }

pub returns-then-not-is_blank_byte-clause-shorter : goal.returns-then-not-is_blank_byte-clause-shorter
returns-then-not-is_blank_byte-clause-shorter c =
    rw c.split_at.ensures.back (omega (
      arith,
      length-drop c.word_len.result c.loop-rest.rest.now,
      word_some c.loop-rest.rest.now (omega arith) (search rules),
    ))

pub returns-clause-none : goal.returns-clause-none
returns-clause-none c = c.loop-rest.invariant.same ∙ words_of_none c.loop-rest.rest.now (omega arith)

pub returns-then-not-is_blank_byte-clause-parts : goal.returns-then-not-is_blank_byte-clause-parts
returns-then-not-is_blank_byte-clause-parts c =
    let h = c.loop-rest.invariant.tail in (
      h.0,
      rest_parts c.args.text.now h.0 c.loop-rest.rest.now c.split_at.result.0.now c.split_at.result.1.now c.word_len.result h.1 c.split_at.ensures.front
          c.split_at.ensures.back,
    )
