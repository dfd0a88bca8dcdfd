use Rattle.std.proofs.Common.{◌≡◌, List, length, ap, sym, ◌∙◌, subst}
use Rattle.definitions.specs.Pairs.{Pair, Keeps}
use Rattle.definitions.specs.Problems.{TruthTables, functions}
use Rattle.definitions.specs.Levels.{level_counts, size_under}
use Rattle.definitions.specs.Sifting.{sifted}
use Rattle.definitions.proofs.Precedence.Lists.{nothing_to_keep}
use Rattle.definitions.proofs.Widths.SizeBounds.{order_length}
use Rattle.minorder_c.specs.Answers.{tables_in}
use Rattle.minorder_c.proofs.Counts.{counts_long}
use Rattle.minorder_c.proofs.sift.sifted_order.Goals as goal

pub sifted_from-requires-clause-kept : goal.sifted_from-requires-clause-kept
sifted_from-requires-clause-kept c =
    subst (λ (P : List Pair). Keeps P c.in_ok-arguments.arguments.order) (sym c.none-pairs.ensures.pairs)
    (nothing_to_keep c.in_ok-arguments.arguments.order).0

pub returns-clause-sifted : goal.returns-clause-sifted
returns-clause-sifted c =
    let s = c.in_ok-sifted.sifted in
    let f = c.in_ok-sized_order.field-0 in
    let problem : s.problem ≡ tables_in c.args.given.now = c.in_ok-sifted.ensures.problem ∙ c.in_ok-arguments.ensures.tables in
    let sized = c.in_ok-sized_order.ensures.sized in
    record {
      order_is = c.in_ok-sized_order.ensures.order ∙ c.in_ok-sifted.ensures.order
          ∙ (λ i. sifted (c.in_ok-arguments.ensures.tables i).inputs (functions (c.in_ok-arguments.ensures.tables i)) (c.none-pairs.ensures.pairs i)
          (c.in_ok-arguments.ensures.order i));
      levels_are = sized.levels_are ∙ (λ i. level_counts (problem i).inputs (functions (problem i)) f.order);
      size = sized.size ∙ (λ i. size_under (problem i).inputs (functions (problem i)) f.order);
    }

pub returns-clause-long : goal.returns-clause-long
returns-clause-long c =
    let p = c.in_ok-sifted.sifted.problem in
    let f = c.in_ok-sized_order.field-0 in
    let sized = c.in_ok-sized_order.ensures.sized in
    let problem = c.in_ok-sifted.ensures.problem ∙ c.in_ok-arguments.ensures.tables in
    let long = order_length p.inputs f.order sized.is_order ∙ ap (λ (t : TruthTables). t.inputs) problem in
    (long, ap length sized.levels_are ∙ counts_long p.inputs (functions p) f.order ∙ long)

pub returns-clause-shape : goal.returns-clause-shape
returns-clause-shape c = c.in_ok-arguments.ensures.shape

pub returns-clause-order : goal.returns-clause-order
returns-clause-order c = c.in_ok-arguments.ensures.is_order
