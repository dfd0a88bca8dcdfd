use Rattle.std.proofs.Common.{sym, ◌∙◌}
use Rattle.definitions.specs.Levels.{size_under}
use Rattle.definitions.specs.Problems.{functions}
use Rattle.report.proofs.search.sift_once.Goals as goal

pub returns : goal.returns
returns c =
    let found = c.in_ok-sifted.ensures.functions in
    let sifted = c.in_ok-order.ensures ∙ c.order.ensures.value in
    record {
      order = sifted ∙ c.in_ok-sifted.ensures.order;
      size = c.size.ensures.value ∙ c.size.ensures.sifted.true_size.size_is
          ∙ (λ i. size_under (found i).inputs (functions (found i)) (sym sifted i));
    }
