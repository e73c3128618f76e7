-- The sites of servers at which nothing has been.
use Rattle.std.specs.Prelude.{Some, None, ◌≡◌, ℕ, List, length, slice_get}
use Rattle.run_laws.specs.Servers.{start}
use Rattle.net_model.specs.Networks.{NetServer}
use Rattle.run_check.specs.declared.site.Site.{Site}
use Rattle.run_check.specs.Sites.{IsSite}

-- that of server s
pub record IsFreshAt (servers : List NetServer) (room s : ℕ) (x : Site) : Type 0 where
  pub server : NetServer
  pub at : slice_get servers s ≡ Some server
  pub site : IsSite server.discipline room (start server.discipline) x
  pub idle : x.under ≡ None

-- those of the first n servers
pub record AreFresh (servers : List NetServer) (room n : ℕ) (sites : List Site) : Type 0 where
  pub many : length sites ≡ n
  pub each : (s : ℕ) (x : Site) → slice_get sites s ≡ Some x → IsFreshAt servers room s x
