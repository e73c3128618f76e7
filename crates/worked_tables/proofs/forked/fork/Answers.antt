use Rattle.std.proofs.Common.{[], ◌∷◌, ◌++◌, ◌∙◌, ap}
use Rattle.worked_tables.proofs.ForkNetwork.{is_network}
use Rattle.worked_tables.proofs.forked.fork.Goals as goal

pub returns-clause-fork : goal.returns-clause-fork
returns-clause-fork c = record {
  ports = c.in_ok-ports.ensures;
  link = c.in_ok-link.field-0;
  links = c.in_ok-push.ensures.items ∙ ap (λ ls. ls ++ c.in_ok-link.field-0 ∷ []) c.new-links.ensures.items;
  over = c.in_ok-link.ensures;
}

pub returns-clause-network : goal.returns-clause-network
returns-clause-network c = is_network _ record {
  ports = c.in_ok-ports.ensures;
  link = c.in_ok-link.field-0;
  links = c.in_ok-push.ensures.items ∙ ap (λ ls. ls ++ c.in_ok-link.field-0 ∷ []) c.new-links.ensures.items;
  over = c.in_ok-link.ensures;
}
