-- Which cards a server may have.
use Rattle.std.specs.Prelude.{◌≡◌, ℕ, ◌<◌, List, length}
use Rattle.run_laws.specs.Cards.{Card}
use Rattle.run_laws.specs.Routes.{Routes, PassesServer}
use Rattle.run_laws.specs.Views.{Entry, hops_of, card_of}

-- a card of server s is that of a packet which has entered and whose path has the server
pub record IsCardAt (net : Routes) (entered : List Entry) (s : ℕ) (c : Card) : Type 0 where
  pub is : c ≡ card_of net entered c.packet s
  pub entered_one : c.packet < length entered
  pub passes : PassesServer s (hops_of net entered c.packet)
