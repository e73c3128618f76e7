use Rattle.net_model.proofs.net_graph.Existing.{order_or_round}
use Rattle.net_model.proofs.net_graph.Returns.{order_or_cycle}
use Rattle.net_model.proofs.net_graph.laws.order_or_cycle.Goals as goal

pub returns-clause-one : goal.returns-clause-one
returns-clause-one c = order_or_round

pub returns-clause-not_both : goal.returns-clause-not_both
returns-clause-not_both c = order_or_cycle
