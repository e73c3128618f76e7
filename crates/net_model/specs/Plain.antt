-- Plain networks, for examples. (Own choice.)
use Rattle.std.specs.Prelude.{ℕ, zero, suc, pos, ◌+◌, List, [], ◌∷◌, ◌++◌, length, map, replicate, Option, Some, None, Bool, true, not, ◌&&◌, nat_le, nat_lt, nat_eq}
use Rattle.std.specs.Borrow.{Bor}
use Rattle.std.specs.List.{list_all, list_any}
use Rattle.rational.specs.Rational.{ℚ, int}
use Rattle.min_plus.specs.Functions.{zero_q}
use Rattle.upp_curve.specs.Kinds.{bucket, rate_latency}
use Rattle.run_laws.specs.Servers as spec
use Rattle.net_model.specs.declared.server.ServiceKind.TheVariants.{Latency}
use Rattle.net_model.specs.Networks.{Net, NetServer, NetFlow}

abbrev pub one_q : ℚ
one_q = int (pos 1)

-- a, b, c and so on
abbrev pub letter : ℕ → List ℕ
letter number = (97 + number) ∷ []

-- rate 1, no latency, first come first served
abbrev pub plain_server : ℕ → NetServer
plain_server number = record {
  name = letter number;
  rate = one_q;
  kind = Latency zero_q;
  service = rate_latency one_q zero_q;
  link = zero_q;
  discipline = spec.Fifo;
}

-- one packet of 1 bit in all
abbrev pub plain_flow : ℕ → List ℕ → NetFlow
plain_flow number path = record {
  name = letter number;
  path = path;
  queues = replicate (length path) 0;
  packet = 1;
  arrival = bucket one_q zero_q;
}

-- an empty path leaves its place empty
abbrev pub plain_place : ℕ → List ℕ → Option NetFlow
plain_place number [] = None
plain_place number (s ∷ ss) = Some (plain_flow number (s ∷ ss))

unfoldable pub plain_servers : ℕ → List NetServer
plain_servers zero = []
plain_servers (suc n) = plain_servers n ++ plain_server n ∷ []

unfoldable pub plain_flows : ℕ → List (List ℕ) → List (Option NetFlow)
plain_flows number [] = []
plain_flows number (path ∷ paths) = plain_place number path ∷ plain_flows (number + 1) paths

abbrev pub plain_net : ℕ → List (List ℕ) → Net
plain_net servers paths = record { version = 1; servers = plain_servers servers; flows = plain_flows 0 paths }

-- what lies behind references
abbrev pub contents : {X : Type 0} → List (Bor X) → List X
contents = map (λ r. r.now)

-- ---- which of them are networks
abbrev pub all_differ : List ℕ → Bool
all_differ [] = true
all_differ (x ∷ xs) = not (list_any (nat_eq x) xs) && all_differ xs

abbrev pub is_plain_path : ℕ → List ℕ → Bool
is_plain_path servers path = nat_le (length path) 16 && (list_all (λ s. nat_lt s servers) path && all_differ path)

-- at most 26 servers and paths, and each path over the servers, over none twice
abbrev pub is_plain : ℕ → List (List ℕ) → Bool
is_plain servers paths = nat_le servers 26 && (nat_le (length paths) 26 && list_all (is_plain_path servers) paths)
