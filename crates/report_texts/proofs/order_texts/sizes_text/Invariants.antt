use Rattle.std.proofs.Common.{◌≡◌, string_bytes}
use Rattle.std.specs.List.{flat_map, range_with_len}
use Rattle.order_counts.specs.Sizes.{counts_at}
use Rattle.report_texts.specs.OrderTexts.{size_line}
use Rattle.report_texts.proofs.order_texts.sizes_text.Given as goal

abbrev pub invariant-loop-i : goal.invariant-loop-i
invariant-loop-i l = string_bytes l.text ≡ flat_map (size_line (counts_at l.counts)) (range_with_len l.counts.least l.i)
