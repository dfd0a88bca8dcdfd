use Rattle.std.proofs.Common.{◌≢◌, ◌<◌, length, get_or, map, set, sym, ap, ◌∙◌, arith, inl, inr}
use Rattle.std.proofs.lemmas.Bool.{cases_eq}
use Rattle.std.proofs.lemmas.List.{get_or-set_same, get_or-set_other, length-set}
use Rattle.sifting.specs.declared.levels.Level.{Level}
use Rattle.sifting.proofs.ManagerFields.{count_is, items_long, counts_get}
use Rattle.sifting.proofs.manager.Manager.level_counts.Goals as goal

pub bounds-counts-place : goal.bounds-counts-place
bounds-counts-place c =
    let s = c.self.inside in
    let items = c.deref-level-items.result.now in
    let long = (items_long s.levels.items s.terminals.items s.order s.roots.items s.pairs c.self.invariant items
    c.deref-level-items.ensures.value c.args.self.now c.self.view_is).1 in
    let t = c.loop-place-test.true in
    omega arith

pub loop-place-preserved : goal.loop-place-preserved
loop-place-preserved c =
    let s = c.self.inside in
    let items = c.deref-level-items.result.now in
    let long = (items_long s.levels.items s.terminals.items s.order s.roots.items s.pairs c.self.invariant items
    c.deref-level-items.ensures.value c.args.self.now c.self.view_is).1 in
    let t = c.loop-place-test.true in
    let inside : c.loop-place.place < length c.loop-place.counts = let e = c.loop-place.invariant.long in omega arith in
    record {
      long = length-set c.loop-place.counts c.loop-place.place c.level-item.result.count ∙ c.loop-place.invariant.long;
      counted = λ k h.
          elim (cases_eq k c.loop-place.place) [
            | inl e ↦
                ap (λ m. get_or (set c.loop-place.counts c.loop-place.place c.level-item.result.count) m 0) e
                ∙ get_or-set_same c.loop-place.counts c.loop-place.place c.level-item.result.count 0 inside
                ∙ ap (λ (v : Level). v.count) c.level-item.is ∙ sym (counts_get items c.loop-place.place c.level-item.result t)
                ∙ ap (λ m. get_or (map (λ (v : Level). v.count) items) m 0) (sym e)
            | inr ne ↦ get_or-set_other c.loop-place.counts c.loop-place.place k c.level-item.result.count 0 ne ∙ c.loop-place.invariant.counted k (omega arith)
          ];
      others = λ k h.
          let ne : k ≢ c.loop-place.place = omega arith in
          get_or-set_other c.loop-place.counts c.loop-place.place k c.level-item.result.count 0 ne ∙ c.loop-place.invariant.others k (omega arith);
    }

pub returns-clause-counts : goal.returns-clause-counts
returns-clause-counts c i h =
    let s = c.self.inside in
    let items = c.deref-level-items.result.now in
    let long = (items_long s.levels.items s.terminals.items s.order s.roots.items s.pairs c.self.invariant items
    c.deref-level-items.ensures.value c.args.self.now c.self.view_is).0 in
    let t = c.loop-place-test.false in
    c.loop-place.invariant.counted i (omega arith)
    ∙ count_is s.levels.items s.terminals.items s.order s.roots.items s.pairs c.self.invariant items c.deref-level-items.ensures.value
    c.args.self.now c.self.view_is i h

pub returns-clause-others : goal.returns-clause-others
returns-clause-others c i h = grind (arith, items_long)
