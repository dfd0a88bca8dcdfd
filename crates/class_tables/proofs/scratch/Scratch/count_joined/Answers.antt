use Rattle.std.proofs.Common.{◌≡◌, ℕ, ◌++◌, List, length, length-append, take, drop, sym, ◌∙◌, arith}
use Rattle.std.proofs.lemmas.List.{length-take-le}
use Rattle.class_tables.proofs.scratch.Scratch.count_joined.Goals as goal

-- a slice that was written leaves its vector as long as it was
written : (new old : List ℕ) (n : ℕ) → n ≡ length old → length new ≡ length old → length (take n (new ++ drop (length new) old)) ≡ length old
written new old n e long = length-take-le n (new ++ drop (length new) old) (omega (arith, length-append new (drop (length new) old))) ∙ e

pub invariant_of-self : goal.invariant_of-self
invariant_of-self c =
    let s = c.self.inside in
    let new = c.count_in.new in
    let heads = written new.heads s.heads.items s.heads.len (omega (arith, s.heads.ok)) (omega arith) in
    record {
      next_long = written new.next s.next.items s.next.len (omega (arith, s.next.ok)) (omega arith) ∙ c.self.invariant.next_long ∙ sym heads;
      stamps_long = written new.stamps s.stamps.items s.stamps.len (omega (arith, s.stamps.ok)) (omega arith) ∙ c.self.invariant.stamps_long ∙ sym heads;
      marks_long = written new.marks s.marks.items s.marks.len (omega (arith, s.marks.ok)) (omega arith) ∙ c.self.invariant.marks_long ∙ sym heads;
      first_long = written new.first s.first.items s.first.len (omega (arith, s.first.ok)) (omega arith) ∙ c.self.invariant.first_long ∙ sym heads;
    }

pub returns-clause-same : goal.returns-clause-same
returns-clause-same c =
    written c.count_in.new.heads c.self.inside.heads.items c.self.inside.heads.len (omega (arith, c.self.inside.heads.ok)) (omega arith)
    ∙ c.self.view_is
