use Rattle.std.proofs.Common.{◌-◌, Option, arith, subst, sym}
use Rattle.std.proofs.lemmas.Bool.{iff_false}
use Rattle.std.proofs.lemmas.Nat.Bits.{bit_at-lt}
use Rattle.edge_walks.specs.Blocks.{IsPartTable, table_or}
use Rattle.edge_walks.specs.Tables.{TableOf}
use Rattle.edge_walks.proofs.PartTables.{part_free, part_skip, part_with}
use Rattle.edge_walks.proofs.walk.part_table.Goals as goal
use Rattle.edge_walks.proofs.walk.part_table.Goals.{in-Some+in_ok-larger-in-Some, in-None+in_ok-larger-in-None}

pub with_variable-requires-clause-free : goal.with_variable-requires-clause-free
with_variable-requires-clause-free c = grind (arith, part_free)

pub with_variable-requires-in-None-clause-free : goal.with_variable-requires-in-None-clause-free
with_variable-requires-in-None-clause-free c = grind (arith, part_free)

pub loop-x-preserved-then-contains : goal.loop-x-preserved-then-contains
loop-x-preserved-then-contains c =
    let root = c.args.at.table.now in
    let part = c.args.part in
    let x = c.loop-x.x - 1 in
    let one = c.contains.ensures.0 c.if-contains.true in
    record {
      low = omega arith;
      is =
          elim c.match-own.branch [
            | in-Some+in_ok-larger-in-Some w ↦
                let is = subst (λ (o : Option TableOf). IsPartTable root part c.loop-x.x (table_or o root)) w.in-Some.is c.loop-x.invariant.is in
                subst (IsPartTable root part x) (sym w.larger-is)
                (part_with root part x c.loop-x.x (omega arith) w.in-Some.smaller w.in_ok-larger-in-Some.larger one w.in_ok-larger-in-Some.ensures is)
            | in-None+in_ok-larger-in-None w ↦
                let is = subst (λ (o : Option TableOf). IsPartTable root part c.loop-x.x (table_or o root)) w.in-None.is c.loop-x.invariant.is in
                subst (IsPartTable root part x) (sym w.larger-is)
                (part_with root part x c.loop-x.x (omega arith) root w.in_ok-larger-in-None.larger one w.in_ok-larger-in-None.ensures is)
          ];
    }

pub loop-x-preserved : goal.loop-x-preserved
loop-x-preserved c =
    let root = c.args.at.table.now in
    let x = c.loop-x.x - 1 in
    let absent = iff_false c.contains.ensures c.if-contains.false in
    let b = bit_at-lt c.args.part x in
    record {
      low = omega arith;
      is = part_skip root c.args.part x c.loop-x.x (omega arith) (table_or c.loop-x.own root) (omega arith) c.loop-x.invariant.is;
    }
