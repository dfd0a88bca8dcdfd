use Rattle.std.proofs.Common.{map, string_bytes}
use Rattle.report_texts.proofs.SpacedTexts.{order_pushed}
use Rattle.report_texts.proofs.texts.push_order.Goals as goal

pub returns : goal.returns
returns c =
    order_pushed _ _ _ _ _ _ (map string_bytes c.args.names.now) c.args.order.now c.in_ok-push_str.ensures.bytes
    c.in_ok-push_variables.ensures c.in_ok-push_str-2.ensures.bytes c.in_ok-push_names.ensures c.in_ok-push_str-3.ensures.bytes
