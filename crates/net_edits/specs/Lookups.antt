-- The servers and flows that an edit names. Own choice.
use Rattle.std.specs.Prelude.{ℕ, List, [], ◌∷◌, Option, Some, None, Ok, Err, Bool, false, is_none, nat_eq, string_bytes}
use Rattle.std.specs.List.{position}
use Rattle.std.specs.Cmp.Lexicographic.{pointwise}
use Rattle.net_model.specs.declared.edit.PathEntry.{PathEntry}
use Rattle.net_model.specs.Networks.{Net, NetServer, NetFlow}
use Rattle.net_edits.specs.Refusals.{unknown_name, Or, and_then}

abbrev pub same_name : List ℕ → List ℕ → Bool
same_name = pointwise nat_eq

abbrev pub is_server_named : List ℕ → NetServer → Bool
is_server_named name server = same_name server.name name

-- a live flow has the name; a place that is left empty has none
abbrev pub is_flow_named : List ℕ → Option NetFlow → Bool
is_flow_named name None = false
is_flow_named name (Some flow) = same_name flow.name name

abbrev pub number_of : Option ℕ → List ℕ → Or ℕ
number_of None name = Err (unknown_name name)
number_of (Some number) name = Ok number

-- the number of the server with a name, and of the live flow with one
abbrev pub server_number : Net → List ℕ → Or ℕ
server_number net name = number_of (position (is_server_named name) net.servers) name

abbrev pub flow_number : Net → List ℕ → Or ℕ
flow_number net name = number_of (position (is_flow_named name) net.flows) name

-- one number before others
abbrev pub before : ℕ → Or (List ℕ) → Or (List ℕ)
before number numbers = and_then numbers (λ rest. Ok (number ∷ rest))

-- the numbers of a path's servers, up to the first name of no server
abbrev pub server_numbers : Net → List PathEntry → Or (List ℕ)
server_numbers net [] = Ok []
server_numbers net (entry ∷ entries) =
    and_then (server_number net (string_bytes entry.server)) (λ number. before number (server_numbers net entries))

-- no live flow has the name
abbrev pub is_free : Net → List ℕ → Bool
is_free net name = is_none (position (is_flow_named name) net.flows)
