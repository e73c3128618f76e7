-- Where each packet of a recorded run is, and what has been worked of it at each server.
use Rattle.std.specs.Prelude.{Option, Some, None, ◌≡◌, ℕ, pos, ◌<◌, ◌≤◌, Bool, true, false, ◌==◌, if◌then◌else◌}
use Rattle.std.specs.Prelude.{List, [], ◌∷◌, ◌++◌, length, get_or, set}
use Rattle.rational.specs.Rational.{ℚ, int, ◌+ℚ◌}
use Rattle.run_laws.specs.declared.steps.Step.{Step}
use Rattle.run_laws.specs.declared.steps.Step.TheVariants.{Enter, Reach, Work, Leave, Visit}
use Rattle.run_laws.specs.Cards.{Card, whole}
use Rattle.run_laws.specs.Counts.{when}
use Rattle.run_laws.specs.Servers.{Under, done}
use Rattle.run_laws.specs.Routes.{Hop, Routes, route_of, link_at, PassesServer, first_server, server_after}
use Rattle.run_laws.specs.Views.{Entry, entry_of, hops_of, card_of}
use Rattle.run_laws.specs.Lawful.{Due, RunState, state_at}
use Rattle.run_laws.specs.Members.{Has}
use Rattle.run_laws.specs.Sound.{IsSound}
use Rattle.net_model.specs.stated_runs.CardsAt.{IsCardAt}
use Rattle.sim_servers.specs.sim_states.Places.{ArePlaced}
use Rattle.run_packets.specs.declared.place.Place.{Place}
use Rattle.run_packets.specs.declared.place.Place.TheVariants.{At, OnLink, Gone}
use Rattle.run_check.specs.broken_laws.Worked.{worked_in}

-- packet p
abbrev pub place_of : List Place → ℕ → Place
place_of places p = get_or places p Gone

-- a packet that leaves is on its way to the next server, if there is one
abbrev pub place_after : Option ℕ → ℚ → Place
place_after None t = Gone
place_after (Some s) t = OnLink s t

-- the places after a step
abbrev pub next_places : Routes → List Entry → List Place → Step → List Place
next_places net entered places (Enter f p t b) = places ++ At (first_server (route_of net f).hops) ∷ []
next_places net entered places (Reach s p t) = set places p (At s)
next_places net entered places (Work s p a b w) = places
next_places net entered places (Leave s p t) =
    set places p (place_after (server_after s (hops_of net entered p)) (t +ℚ link_at net s))
next_places net entered places (Visit s q t) = places

-- ---- what has been worked of a packet
-- server h stands on the path; before server s, or on a path without s
abbrev pub is_on : ℕ → List Hop → Bool
is_on h [] = false
is_on h (g ∷ gs) = if g.server == h then true else is_on h gs

abbrev pub is_before : ℕ → ℕ → List Hop → Bool
is_before h s [] = false
is_before h s (g ∷ gs) = if g.server == s then false else (if g.server == h then true else is_before h s gs)

-- a packet in this place has left server h
abbrev pub has_left : Place → List Hop → ℕ → Bool
has_left (At s) hops h = is_before h s hops
has_left (OnLink s t) hops h = is_before h s hops
has_left Gone hops h = is_on h hops

-- by what is under way at server h: what is done of packet p; else by its place: all of it where it has left, else 0
abbrev pub worked_else : Bool → ℚ → ℚ → ℚ
worked_else test done_of_it otherwise = if test then done_of_it else otherwise

abbrev pub worked_of : Option Under → ℕ → ℚ → ℚ
worked_of None p otherwise = otherwise
worked_of (Some u) p otherwise = worked_else (u.card.packet == p) (done u) otherwise

abbrev pub worked_at : Routes → RunState → List Place → ℕ → ℕ → ℚ
worked_at net r places h p =
    worked_of (state_at r h).under p
    (when (has_left (place_of places p) (hops_of net r.entered p) h) (whole (entry_of r.entered p).bits))

-- ---- what is known
-- a card at server s is of a packet that is there; one on a link of a packet that is on its way there
pub record IsHere (net : Routes) (entered : List Entry) (tracks : List Place) (s : ℕ) (c : Card) : Type 0 where
  pub card : IsCardAt net entered s c
  pub place : place_of tracks c.packet ≡ At s

pub record IsOnWay (net : Routes) (entered : List Entry) (tracks : List Place) (d : Due) : Type 0 where
  pub entered_one : d.packet < length entered
  pub passes : PassesServer d.server (hops_of net entered d.packet)
  pub place : place_of tracks d.packet ≡ OnLink d.server d.time

pub record IsLiveEntry (net : Routes) (e : Entry) : Type 0 where
  pub is_live : (route_of net e.flow).live ≡ true
  pub some_bits : 1 ≤ e.bits

pub record IsTracked (net : Routes) (before : List Step) (r : RunState) (tracks : List Place) : Type 0 where
  pub many : length r.servers ≡ length net.servers
  pub long : length tracks ≡ length r.entered
  pub entries : (p : ℕ) → p < length r.entered → IsLiveEntry net (entry_of r.entered p)
  pub sound : (s : ℕ) → IsSound (state_at r s)
  pub cards : (s : ℕ) (c : Card) → Has (state_at r s).inside c → IsHere net r.entered tracks s c
  pub here : (s p : ℕ) → place_of tracks p ≡ At s → Has (state_at r s).inside (card_of net r.entered p s)
  pub dues : (d : Due) → Has r.due d → IsOnWay net r.entered tracks d
  pub links : (s p : ℕ) (t : ℚ) → place_of tracks p ≡ OnLink s t → Has r.due record { packet = p; server = s; time = t }
  pub few : ArePlaced r
  pub worked : (s p : ℕ) → p < length r.entered → worked_in s p before ≡ worked_at net r tracks s p
  pub unknown : (s p : ℕ) → length r.entered ≤ p → worked_in s p before ≡ int (pos 0)
