use Rattle.std.proofs.Common.{sym, ◌∙◌}
use Rattle.definitions.specs.Levels.{size_under}
use Rattle.definitions.specs.Problems.{functions}
use Rattle.report.proofs.search.sift.Goals as goal

pub returns : goal.returns
returns g c =
    let found = c.in_ok-found.ensures.functions in
    let sifted = c.in_ok-sifted.ensures ∙ c.order.ensures.value in
    record {
      order = sifted ∙ c.in_ok-found.ensures.order;
      size = c.size-size.ensures.value ∙ c.size-size.ensures.sifted.true_size.size_is
          ∙ (λ i. size_under (found i).inputs (functions (found i)) (sym sifted i));
      functions = c.in_ok-bound.ensures.functions ∙ found;
      pairs = c.in_ok-bound.ensures.pairs ∙ c.in_ok-found.ensures.pairs;
    }
