-- Names of servers and flows. (Own choice.)
use Rattle.std.specs.Prelude.{◌≡◌, ◌≢◌, ℕ, ◌≤◌, List, length, All, AllPairs, Option, Some, None, Bool, IsTrue, nat_le, ◌&&◌, ◌||◌, ◌==◌, slice_get}
use Rattle.std.specs.List.{list_all}
use Rattle.net_model.specs.Networks.{Net, NetServer, NetFlow}

-- a letter, a digit, `_` or `-`
abbrev pub is_name_byte : ℕ → Bool
is_name_byte c =
    (nat_le 97 c && nat_le c 122) || (nat_le 65 c && nat_le c 90) || (nat_le 48 c && nat_le c 57) || (c == 95) ||
    (c == 45)

-- the byte `:`, which stands between the name and the queue of an entry of a path
abbrev pub is_colon : ℕ → Bool
is_colon b = b == 58

-- whether a text is 1 to 32 of the bytes of names
abbrev pub is_name : List ℕ → Bool
is_name name = nat_le 1 (length name) && (nat_le (length name) 32 && list_all is_name_byte name)

-- 1 to 32 of these
pub record IsName (name : List ℕ) : Type 0 where
  pub some : 1 ≤ length name
  pub few : length name ≤ 32
  pub bytes : All (λ c. IsTrue (is_name_byte c)) name

-- two places have no common name; an empty one has none
abbrev pub DifferInName : Option NetFlow → Option NetFlow → Type 0
DifferInName None g = Unit {0}
DifferInName (Some f) None = Unit {0}
DifferInName (Some f) (Some g) = f.name ≢ g.name

-- no two servers share a name, and no two live flows do; a server and a flow may
abbrev pub HaveOwnNames : Net → Type 0
HaveOwnNames net = AllPairs (λ s t. s.name ≢ t.name) net.servers × AllPairs DifferInName net.flows

-- the server of a number has a name
pub record IsServerNamed (servers : List NetServer) (name : List ℕ) (number : ℕ) : Type 0 where
  pub server : NetServer
  pub is : slice_get servers number ≡ Some server
  pub named : server.name ≡ name

-- what is found by a name: the number of the server that has it, or that none has it
abbrev pub FindsServer : List NetServer → List ℕ → Option ℕ → Type 0
FindsServer servers name None = (k : ℕ) → ¬ (IsServerNamed servers name k)
FindsServer servers name (Some k) = IsServerNamed servers name k

-- a place has a live flow with a name
abbrev pub HasName : Option NetFlow → List ℕ → Type 0
HasName None name = ⊥
HasName (Some f) name = f.name ≡ name

-- the flow of a number is live and has a name
pub record IsFlowNamed (flows : List (Option NetFlow)) (name : List ℕ) (number : ℕ) : Type 0 where
  pub flow : NetFlow
  pub is : slice_get flows number ≡ Some (Some flow)
  pub named : flow.name ≡ name

-- what is found by a name: the number of the live flow that has it, or that none has it
abbrev pub FindsFlow : List (Option NetFlow) → List ℕ → Option ℕ → Type 0
FindsFlow flows name None = (k : ℕ) → ¬ (IsFlowNamed flows name k)
FindsFlow flows name (Some k) = IsFlowNamed flows name k
