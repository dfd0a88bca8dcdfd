use Rattle.std.proofs.Common.{◌≡◌, ℕ, ◌*◌, ◌<◌, ◌≤◌, ◌/◌, ◌%◌, ◌^◌, List, length, ap, ◌∙◌, arith, pow_mono}
use Rattle.std.proofs.lemmas.Bool.{cases_eq}
use Rattle.std.proofs.lemmas.List.{length-set}
use Rattle.std.proofs.Math.Nat.{mod-eq_of_lt}
use Rattle.compaction.proofs.HighBytes.{byte_next}
use Rattle.compaction.proofs.high_bytes.HighBytes.wanted.Goals as goal
use Rattle.compaction.proofs.high_bytes.HighBytes.wanted.Goals.{then-members-ne0, else-members-ne0}

-- a bit of a word
one_bit : (k : ℕ) → k < 64 → 1 * 2 ^ k % 18446744073709551616 ≡ 2 ^ k
one_bit k small =
    let p : 2 ^ k ≤ 2 ^ 63 = pow_mono {j = 63} (omega arith) in
    mod-eq_of_lt (omega (arith, p)) ∙ omega arith

pub loop-h-preserved : goal.loop-h-preserved
loop-h-preserved c =
    let h = c.loop-h.h in
    let old = c.loop-h.invariant in
    let few = c.requires in
    let lt = c.loop-h-test.true in
    elim c.if-members-ne0.branch [
      | then-members-ne0 w ↦ record {
        four = ap (λ (ws : List ℕ). length ws) w.words-is ∙ length-set c.loop-h.words (h / 64) _ ∙ old.four;
        so_far = byte_next c.args.needed.now c.loop-h.words c.if-members-ne0.words h (1 * 2 ^ (h % 64) % 18446744073709551616) old.four
            (omega arith) (one_bit (h % 64) (omega arith)) old.so_far w.words-is;
      }
      | else-members-ne0 w ↦ record {
        four = ap (λ (ws : List ℕ). length ws) w.words-is ∙ old.four;
        so_far = grind (arith, cases_eq);
      }
    ]
