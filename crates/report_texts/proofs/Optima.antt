-- What a printed order says of all diagrams.
--     optimum_of      an order of the fewest nodes is an optimum
--     printed      what the text of an answer says
use Rattle.std.proofs.Common.{◌≡◌, ℕ, List, Option, refl, arith}
use Rattle.std.specs.Borrow.{Bor}
use Rattle.definitions.specs.Functions.{Function}
use Rattle.definitions.specs.Pairs.{Pair}
use Rattle.definitions.specs.Levels.{size_under}
use Rattle.definitions.specs.Diagrams.{HasFewestKeeping}
use Rattle.definitions.specs.Orders.{variables}
use Rattle.definitions.specs.Sifting.{sifted}
use Rattle.definitions.proofs.Nodes.Construction.{exact_diagram}
use Rattle.definitions.proofs.Nodes.LevelBound.{size_bound}
use Rattle.pla_reader.specs.Covers.{NamedCover, functions_of}
use Rattle.pla_reader.specs.Reading.{Reads}
use Rattle.command_line.specs.declared.line.Output.{Output}
use Rattle.command_line.specs.declared.line.Output.TheVariants.{Report, Count, Orders, Sizes}
use Rattle.report_texts.specs.Answers.{IsText}
use Rattle.outcomes.specs.Headline.{IsOptimum, IsPrintedOptimum}
use Rattle.report_texts.specs.Texts.{levels_under, nodes_under, sizes_lines}

pub optimum_of : (n : ℕ) (F : List Function) (P : List Pair) (order : List ℕ) → HasFewestKeeping n F P order → IsOptimum n F P order (size_under n F order)
optimum_of n F P order h =
    let exact = exact_diagram n F order h.is_order in
    let least = size_bound n F order h.fewest.0 h.is_order h.fewest.1 in record {
      an_order = h.is_order;
      keeps_the_pairs = h.kept;
      has_a_diagram_of_that_size = (exact.0, exact.1.represents, exact.1.size);
      no_diagram_has_fewer = λ other d is keeps of. let more = h.fewest.2.no_fewer other d is keeps of in omega (arith, least, more);
    }

fewest_from : (n : ℕ) (F : List Function) (P : List Pair) (order : List ℕ) (nodes : ℕ) → IsOptimum n F P order nodes → HasFewestKeeping n F P order
fewest_from n F P order nodes o =
    let d = o.has_a_diagram_of_that_size in record {
      is_order = o.an_order;
      kept = o.keeps_the_pairs;
      fewest = (
        d.0,
        d.1,
        record {
          some = (order, d.0, o.an_order, o.keeps_the_pairs, d.1, refl);
          no_fewer = λ other e is keeps of. let least = o.no_diagram_has_fewer other e is keeps of in let same = d.2 in omega (arith, least, same);
        },
      );
    }

pub printed : (file : List ℕ) (cover : NamedCover) (output : Output) (above : Option (Bor (List ℕ))) (text : List ℕ) → output ≡ Report →
    Reads file cover → IsText output above cover text → IsPrintedOptimum file above text
unfolding size_under
printed file cover Count above text e reads is = absurd (cc)
printed file cover Orders above text e reads is = absurd (cc)
printed file cover Sizes above text e reads is = absurd (cc)
printed file cover Report above text e reads (kept, pairs, answer) = record {
  cover = cover;
  the_files_cover = reads;
  kept = kept;
  the_lists_pairs = pairs;
  order = answer.best;
  nodes = nodes_under cover answer.best;
  both_are_printed = record {
    levels = levels_under cover answer.best;
    their_sum = refl;
    rest = sizes_lines (sifted cover.inputs (functions_of cover) kept.pairs answer.start)
        (nodes_under cover (sifted cover.inputs (functions_of cover) kept.pairs answer.start)) (nodes_under cover (variables cover.inputs));
    text_is = answer.is;
  };
  none_has_fewer = optimum_of cover.inputs (functions_of cover) kept.pairs answer.best answer.first.fewest;
  the_first = λ other o. answer.first.first other (fewest_from cover.inputs (functions_of cover) kept.pairs other (nodes_under cover answer.best) o);
}
