use Rattle.definitions.proofs.Lists.Firsts.{first_order_unique, first_keeping_unique, cert_unique}
use Rattle.order_model.proofs.laws.first_orders_are_unique.Goals as goal

pub returns-clause-kept : goal.returns-clause-kept
returns-clause-kept c = first_order_unique

pub returns-clause-fewest : goal.returns-clause-fewest
returns-clause-fewest c = first_keeping_unique

pub returns-clause-certificates : goal.returns-clause-certificates
returns-clause-certificates c = cert_unique
