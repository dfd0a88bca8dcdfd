use Rattle.std.proofs.Common.{◌++◌, map, sym, ap, ◌∙◌, subst, arith, rules}
use Rattle.std.specs.List.{All}
use Rattle.subfunction_classes.specs.Table.{with_variable}
use Rattle.compaction.specs.Strips.{AreKnownTables, CanTakeLow}
use Rattle.compaction.proofs.FirstSets.{can_take, one_more_known}
use Rattle.compaction.proofs.shared_tables.SharedTables.by_threads.Goals as goal

pub loop-shared-init : goal.loop-shared-init
loop-shared-init g c = record {
  own = c.shared.view_is ∙ c.in_ok-shared.ensures;
  tables = subst (λ p. AreKnownTables p c.shared.inside.tables.items c.shared.inside.known) (c.shared.view_is ∙ c.in_ok-shared.ensures) c.shared.invariant;
}

pub invariant_of-shared : goal.invariant_of-shared
invariant_of-shared g c =
    subst (λ p. AreKnownTables p c.loop-shared.shared-inside.tables.items c.loop-shared.shared-inside.known) (sym c.loop-shared.invariant.own)
    c.loop-shared.invariant.tables

pub with_low_by_threads-requires : goal.with_low_by_threads-requires
with_low_by_threads-requires g c =
    let t = c.loop-shared.invariant.tables in
    let x = c.loop-shared.shared-inside.known in (
      search rules,
      subst (All (CanTakeLow x)) (sym c.deref.ensures.value)
          (can_take c.args.problem.now c.loop-shared.shared-inside.tables.items x t.first t.many (let k = c.most_known-known.ensures in grind arith)),
    )

pub loop-shared-preserved : goal.loop-shared-preserved
loop-shared-preserved g c =
    let x = c.loop-shared.shared-inside.known in
    let tables = c.loop-shared.shared-inside.tables.items in
    record {
      own = c.loop-shared.invariant.own;
      tables = one_more_known c.args.problem.now tables c.append.new.self.items x c.loop-shared.invariant.tables
          (let k = c.most_known-known.ensures in grind arith)
          (c.in_ok-append.ensures.items ∙ ap (λ ts. tables ++ ts) (c.in_ok-larger.ensures ∙ ap (map (λ t. with_variable t x)) c.deref.ensures.value));
    }
