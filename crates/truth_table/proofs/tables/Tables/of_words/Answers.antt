use Rattle.std.proofs.Common.{ap, ◌∙◌, arith}
use Rattle.truth_table.proofs.KeptPoints.{kept_packed, kept_tables}
use Rattle.truth_table.proofs.tables.Tables.of_words.Goals as goal

pub from_words-requires : goal.from_words-requires
from_words-requires c =
    kept_packed c.args.n c.args.m c.args.words.now c.in_ok-kept.kept.items c.points_mask.result c.points_mask.ensures
    (omega arith) c.requires.long
    c.in_ok-kept.ensures.long c.in_ok-kept.ensures.words c.requires.some_inputs c.requires.few_inputs c.requires.some_outputs c.requires.few_outputs

pub returns : goal.returns
returns c =
    c.from_words.ensures
    ∙ ap (λ ts. record { inputs = c.args.n; tables = ts })
    (kept_tables c.args.n c.args.m c.args.words.now c.in_ok-kept.kept.items c.points_mask.result c.points_mask.ensures
    (omega arith) c.requires.long
    c.in_ok-kept.ensures.long c.in_ok-kept.ensures.words)
