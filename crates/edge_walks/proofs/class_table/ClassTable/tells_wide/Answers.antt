use Rattle.std.proofs.Common.{◌≡◌, ◌^◌, subst, arith}
use Rattle.rayon.proofs.ListFacts.{IfOk-then}
use Rattle.subfunction_classes.specs.Places as places
use Rattle.edge_walks.specs.LowerClasses.{pairs_with}
use Rattle.edge_walks.specs.Tables.{HoldsTable, TableOf}
use Rattle.edge_walks.proofs.LowerPairs.{pairs_with_width}
use Rattle.edge_walks.proofs.ShortenedTables.{pair_table, ready}
use Rattle.edge_walks.proofs.class_table.ClassTable.tells_wide.Goals as goal

pub are_wide-requires : goal.are_wide-requires
are_wide-requires c = grind (arith, pair_table, ready)

pub returns-in-None : goal.returns-in-None
unfolding pairs_with
returns-in-None c = IfOk-then c.are_wide.result _ _ c.are_wide.ensures (λ wide h labels y member.
    let t = c.args.self.now in
    let table =
    subst (λ (z : TableOf). HoldsTable z c.self.inside.full c.self.inside.numbers.items c.self.inside.masks.items) c.self.view_is
    c.self.invariant in
    let rows = subst (λ f. HoldsTable t f c.self.inside.numbers.items c.self.inside.masks.items) c.in-None.is table in
    let w = pairs_with_width t c.args.x y c.requires.inside c.requires.below c.requires.free c.self.inside.numbers.items c.self.inside.masks.items rows
    member in
    let e : pairs_with c.deref-in-None.result.now c.args.x y (places.pairs c.deref.result.now (2 ^ c.args.x))
    ≡ pairs_with c.self.inside.masks.items c.args.x y (places.pairs c.self.inside.numbers.items (2 ^ c.args.x)) =
    (λ i. pairs_with (c.deref-in-None.ensures.value i) c.args.x y (places.pairs (c.deref.ensures.value i) (2 ^ c.args.x))) in
    omega (arith, h labels y))
