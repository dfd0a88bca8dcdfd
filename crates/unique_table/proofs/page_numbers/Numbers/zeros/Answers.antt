use Rattle.std.proofs.Common.{◌∙◌, ap, arith}
use Rattle.unique_table.specs.Pages.{numbers_of}
use Rattle.unique_table.proofs.PageNumbers.{numbers_none}
use Rattle.std.proofs.lemmas.Grind.{common_steps}
use Rattle.unique_table.proofs.page_numbers.Numbers.zeros.Goals as goal

pub returns : goal.returns
returns c =
    ap (numbers_of c.args.places c.in_ok-vec.field-0.items) (c.in_ok-vec-2.ensures.items_if_clones_equal (λ y e. e))
    ∙ numbers_none c.args.places c.in_ok-vec.field-0.items

pub invariant_of-result : goal.invariant_of-result
invariant_of-result c = grind (arith, common_steps)
