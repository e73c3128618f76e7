use Rattle.std.proofs.Common.{◌≡◌, ℕ, ◌<◌, get_or}
use Rattle.std.specs.String.{string_bytes}
use Rattle.net_model.specs.declared.server.Server.{Server}
use Rattle.net_model.proofs.names.place_of_server.Given as goal

abbrev pub invariant-loop-i : goal.invariant-loop-i
invariant-loop-i l = (k : ℕ) (d : Server) → k < l.i → string_bytes (get_or l.servers k d).name ≡ l.name → ⊥
