use Rattle.std.proofs.Common.{◌+◌, ◌*◌, ◌||◌, ℕ, List, [], get_or, eqb, slice_index, sym, ap, ◌∙◌}
use Rattle.std.specs.Int.{bit_at}
use Rattle.std.proofs.lemmas.Nat.Bits.{bit_at-zero}
use Rattle.truth_table.specs.Terms.{covered, covers}
use Rattle.truth_table.proofs.TermWords.{blank, blank_at, covered_more, term_left_out, zeros}
use Rattle.truth_table.proofs.term_points.group_words.Goals as goal
use Rattle.truth_table.proofs.term_points.group_words.Goals.{then-may_hold, else-may_hold}

pub loop-term-init : goal.loop-term-init
unfolding covered blank zeros
loop-term-init c = λ place o b low s h. ap (λ z. eqb (bit_at z b) 1) (blank_at 32 place o) ∙ ap (λ z. eqb z 1) (bit_at-zero b)

pub loop-term-preserved : goal.loop-term-preserved
loop-term-preserved c = λ place o b low s h.
    let t = c.term-item.result in
    let here : ℕ = 32 * c.args.group + place in
    elim c.if-may_hold.branch [
      | then-may_hold w ↦ ap (λ (ws : List (List ℕ)). eqb (bit_at (slice_index (get_or ws place []) o) b) 1) w.words-is ∙ w.add_term.ensures place low o b s h
      | else-may_hold w ↦ ap (λ (ws : List (List ℕ)). eqb (bit_at (slice_index (get_or ws place []) o) b) 1) w.words-is
          ∙ term_left_out t here (get_or c.loop-term.words place []) (c.may_hold.ensures w.if-may_hold.false place low) o b s h
    ]
    ∙ (λ i. c.loop-term.invariant place o b low s h i || covers t o (64 * here + b))
    ∙ sym (covered_more c.args.terms.now c.loop-term.term-index c.loop-term-test.true t c.term-item.is o (64 * here + b))
