use Rattle.report_texts.proofs.OrderLines.{mean_pushed}
use Rattle.report_texts.proofs.order_texts.push_mean.Goals as goal

pub returns : goal.returns
returns c = mean_pushed _ _ c.mean_hundredths-mean.result _ c.mean_hundredths-mean.ensures c.in_ok-write.ensures.bytes
