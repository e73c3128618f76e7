use Rattle.net_model.proofs.network.Network.server_named.Goals as goal

pub returns : goal.returns
returns c = rw (← c.self.view_is, ← c.deref.ensures.value) c.place_of_server.ensures
