use Rattle.certificate.proofs.ToolCertificates.{tool_spelled}
use Rattle.certificate.proofs.laws.orders_have_certificates.Goals as goal

pub returns : goal.returns
returns c = tool_spelled
