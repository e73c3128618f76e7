-- The draft that the bytes of a file give, or its first fault. Own choice.
use Rattle.std.specs.Prelude.{◌≡◌, ℕ, ◌+◌, ◌&&◌, Bool, codes, nat_lt, nat_eq, if◌then◌else◌}
use Rattle.std.specs.Prelude.{List, [], ◌∷◌, Option, Some, None, Result, Ok, Err}
use Rattle.std.specs.List.{list_any}
use Rattle.std.specs.Str.{is_utf8}
use Rattle.run_laws.specs.Servers.{Discipline, Fifo, Priority, Drr}
use Rattle.toml.specs.Data.{Data, Members}
use Rattle.toml.specs.Parse.{parse_document}
use Rattle.net_model.specs.declared.fault.NetKind.TheVariants.{M1, M12}
use Rattle.net_draft.specs.declared.hop.Hop.{Hop}
use Rattle.net_draft.specs.Faults.{◌>>=◌, Read, under, nth}
use Rattle.net_draft.specs.Keys.{only}
use Rattle.net_draft.specs.Tables.{each, server_text_at, flow_at}
use Rattle.net_draft.specs.Texts.{ServerText, FlowText, DraftText}
use Rattle.net_draft.specs.Values.{optional, at_key, whole_in, list_in}

-- ---- quanta, once all servers and flows are read
abbrev pub is_hop_to : ℕ → ℕ → Hop → Bool
is_hop_to server queue h = nat_eq h.server server && nat_eq h.queue queue

-- a flow passes the queue, and has a packet that is longer
abbrev pub is_longer : ℕ → ℕ → ℕ → FlowText → Bool
is_longer server queue bits f = nat_lt bits f.packet && list_any (is_hop_to server queue) f.path

-- no quantum from this queue's on is below the longest packet of its flows
unfoldable pub quanta_from : List FlowText → List ℕ → ℕ → ℕ → List ℕ → Read (Unit {0})
quanta_from flows place server queue [] = Ok tt
quanta_from flows place server queue (bits ∷ more) =
    if list_any (is_longer server queue bits) flows then Err (record { kind = M12; place = nth place queue })
    else quanta_from flows place server (queue + 1) more

abbrev pub quanta_in : Discipline → List ℕ
quanta_in Fifo = []
quanta_in (Priority queues) = []
quanta_in (Drr quanta) = quanta

abbrev pub quanta_of_server : List FlowText → ℕ → ServerText → Read (Unit {0})
quanta_of_server flows server s =
    quanta_from flows (under (nth (codes "server") server) (codes "quanta")) server 0 (quanta_in s.discipline)

unfoldable pub quanta_fit : List FlowText → ℕ → List ServerText → Read (Unit {0})
quanta_fit flows server [] = Ok tt
quanta_fit flows server (s ∷ ss) =
    quanta_of_server flows server s >>= λ _. quanta_fit flows (server + 1) ss

-- ---- the root
unfoldable pub servers_of : Members → Read (List ServerText)
servers_of ms = at_key (codes "server") (optional (list_in 0 64) []) [] ms >>= each server_text_at (codes "server") []

unfoldable pub flows_of : List ServerText → Members → Read (List FlowText)
flows_of servers ms =
    at_key (codes "flow") (optional (list_in 0 256) []) [] ms >>= each (flow_at servers) (codes "flow") []

unfoldable pub root_of : Members → Read DraftText
root_of ms =
    only (codes "version" ∷ codes "server" ∷ codes "flow" ∷ []) [] ms >>= λ _.
    at_key (codes "version") (optional (whole_in 1 2) 1) [] ms >>= λ version.
    servers_of ms >>= λ servers.
    flows_of servers ms >>= λ flows.
    quanta_fit flows 0 servers >>= λ _.
    Ok (record { version = version; servers = servers; flows = flows })

-- the root table that `toml` reads in these bytes, where they are UTF-8 and TOML 1.1
abbrev pub tree_of : List ℕ → Option Members
tree_of bytes = if is_utf8 bytes then parse_document bytes else None

abbrev pub draft_in : Option Members → Read DraftText
draft_in None = Err (record { kind = M1; place = [] })
draft_in (Some ms) = root_of ms

abbrev pub draft_of : List ℕ → Read DraftText
draft_of bytes = draft_in (tree_of bytes)
