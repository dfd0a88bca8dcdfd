use Rattle.std.proofs.Common.{◌∙◌, string_bytes}
use Rattle.report_texts.specs.OrderTexts.{orders_lines}
use Rattle.report_texts.proofs.OrderLines.{lines_pushed}
use Rattle.report_texts.proofs.order_texts.orders_text.Goals as goal

pub returns : goal.returns
returns c =
    let f = c.args.report.now.figures in
    lines_pushed (string_bytes c.in_ok-text.text) (string_bytes c.push_line.new.text) (string_bytes c.push_line-2.new.text)
    (string_bytes c.push_line-3.new.text) (string_bytes c.push_line-4.new.text) (string_bytes c.push_line-5.new.text)
    (string_bytes c.push_mean.new.text) (string_bytes c.push_line-6.new.text) (string_bytes c.push_line-7.new.text) f.count
    c.from.result f.fewest.orders c.from-2.result f.most.orders f.total c.from-3.result c.args.report.now.better
    c.in_ok-text.ensures.bytes c.in_ok-push_line.ensures c.in_ok-push_line-2.ensures c.in_ok-push_line-3.ensures
    c.in_ok-push_line-4.ensures c.in_ok-push_line-5.ensures c.in_ok-push_mean.ensures c.in_ok-push_line-6.ensures
    c.in_ok-push_line-7.ensures
    ∙ (λ i. orders_lines f.count (c.from.ensures i) f.fewest.orders (c.from-2.ensures i) f.most.orders f.total (c.from-3.ensures i)
    c.args.report.now.better)
