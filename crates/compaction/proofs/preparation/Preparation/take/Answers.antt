use Rattle.std.proofs.Common.{◌≡◌, All, sym, ap, ◌∙◌, subst}
use Rattle.std.proofs.lemmas.List.Elements.{All-append}
use Rattle.symmetries.specs.Renamings.{renamed_of}
use Rattle.compaction.specs.Preparations.{IsPrepared, PreparedOf}
use Rattle.compaction.specs.Rows.{HoldsRows}
use Rattle.compaction.specs.declared.preparation.Preparation.TheInside.{Inside}
use Rattle.compaction.proofs.preparation.Preparation.take.Goals as goal
use Rattle.compaction.proofs.preparation.Preparation.take.Goals.{then-end-self, else-end-self+in_ok-append}

pub invariant_of-self-2 : goal.invariant_of-self-2
invariant_of-self-2 c =
    let s = c.self.inside in
    let v = c.self.invariant in
    let same : renamed_of c.args.self.now.problem c.args.self.now.renamed ≡ s.shared =
    ap (λ (p : PreparedOf). renamed_of p.problem p.renamed) (sym c.self.view_is) ∙ sym v.shared_is in
    let new : All (HoldsRows s.shared) c.args.found.items = subst (λ p. All (HoldsRows p) c.args.found.items) same c.requires in
    elim c.if-end-self.branch [
      | then-end-self w ↦
          subst (λ (t : Inside). IsPrepared t.renaming.now t.shared t.orbits t.found.items) (sym w.self-inside-is)
          record { shared_is = v.shared_is; orbits_are = v.orbits_are; found_of = new }
      | else-end-self+in_ok-append w ↦
          subst (λ (t : Inside). IsPrepared t.renaming.now t.shared t.orbits t.found.items) (sym w.self-inside-is)
          record {
            shared_is = v.shared_is;
            orbits_are = v.orbits_are;
            found_of = subst (All (HoldsRows s.shared)) (sym w.in_ok-append.ensures.items)
                (All-append (HoldsRows s.shared) s.found.items c.args.found.items v.found_of new);
          }
    ]
