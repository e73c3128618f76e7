use Rattle.cell_store.proofs.edit_store.Ordered.{back_stays, nothing_stays}
use Rattle.cell_store.proofs.edit_store.store.order_back.Goals as goal

pub returns-in-Nothing : goal.returns-in-Nothing
returns-in-Nothing c = λ net o. nothing_stays c.args.replaced.now net c.args.order c.in-Nothing.is o

pub returns-in-Server : goal.returns-in-Server
returns-in-Server c = λ net o. back_stays c.args.replaced.now _ _ net c.args.order c.in-Server.is o
