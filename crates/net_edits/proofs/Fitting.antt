-- Packets within the quanta of their queues.
use Rattle.std.proofs.Common.{◌≡◌, ℕ, zero, suc, ◌<◌, List, [], ◌∷◌, length, get_or, Option, Some, None, Bool, true, refl, sym, subst, arith}
use Rattle.std.specs.Prelude.{Contains, slice_get, slice_index}
use Rattle.std.proofs.lemmas.Bool.{and_parts, and_from}
use Rattle.std.proofs.lemmas.List.Elements.{All-contains, Contains-get_or}
use Rattle.std.proofs.lemmas.List.Sums.{AllPass-from_list_all, list_all-from_AllPass}
use Rattle.net_model.specs.Networks.{Net, NetServer, NetFlow}
use Rattle.net_model.specs.Accepted.{IsFlow, IsAccepted}
use Rattle.net_model.specs.Quanta.{is_in_quantum}
use Rattle.net_model.proofs.Quanta.{to_quantum}
use Rattle.net_cells.specs.Numbered.{discipline_of}
use Rattle.net_edits.specs.Values.{fits_along, place_fits, quanta_fit}

-- the queue of a number at the server of a number, as told by tests
abbrev pub taken_at : List NetServer → ℕ → (s q : ℕ) → Bool
taken_at servers bits s q = is_in_quantum (discipline_of (slice_get servers s)) q bits

pub fits_at : (servers : List NetServer) (bits : ℕ) (path lanes : List ℕ) (k : ℕ) → fits_along servers bits path lanes ≡ true
    → k < length path → length lanes ≡ length path
    → taken_at servers bits (slice_index path k) (slice_index lanes k) ≡ true
fits_at servers bits [] lanes k e within pair = absurd (omega (arith, within))
fits_at servers bits (s ∷ path) [] k e within pair = absurd (omega (arith, pair))
fits_at servers bits (s ∷ path) (q ∷ lanes) zero e within pair =
    (and_parts (taken_at servers bits s q) (fits_along servers bits path lanes) e).0
fits_at servers bits (s ∷ path) (q ∷ lanes) (suc k) e within pair =
    fits_at servers bits path lanes k (and_parts (taken_at servers bits s q) (fits_along servers bits path lanes) e).1
    (omega (arith, within)) (omega (arith, pair))

fits_all : (servers : List NetServer) (bits : ℕ) (path lanes : List ℕ)
    → ((k : ℕ) → k < length path → taken_at servers bits (slice_index path k) (slice_index lanes k) ≡ true)
    → fits_along servers bits path lanes ≡ true
fits_all servers bits [] lanes each = refl
fits_all servers bits (s ∷ path) [] each = refl
fits_all servers bits (s ∷ path) (q ∷ lanes) each =
    and_from (taken_at servers bits s q) (fits_along servers bits path lanes) (each zero (omega arith))
    (fits_all servers bits path lanes (λ k within. each (suc k) (omega (arith, within))))

flow_fits : (servers : List NetServer) (f : NetFlow) → IsFlow servers f → place_fits servers (Some f) ≡ true
flow_fits servers f is =
    fits_all servers f.packet f.path f.queues (λ k within.
    let hop = is.hops k within in
    subst (λ (o : Option NetServer). is_in_quantum (discipline_of o) (slice_index f.queues k) f.packet ≡ true) (sym hop.is)
    (to_quantum hop.server.discipline (slice_index f.queues k) f.packet hop.takes))

-- they are in every network
pub accepted_fits : (net : Net) → IsAccepted net → quanta_fit net ≡ true
accepted_fits net a =
    list_all-from_AllPass (place_fits net.servers) net.flows
    (λ k d within. by (get_or net.flows k d) (Contains-get_or net.flows k d within))
  where
    by : (o : Option NetFlow) → Contains net.flows o → place_fits net.servers o ≡ true
    by None m = refl
    by (Some f) m = flow_fits net.servers f (a.flows f m)

pub flow_of_fitting : (servers : List NetServer) (flows : List (Option NetFlow)) (f : NetFlow)
    → quanta_fit (record { version = 1; servers = servers; flows = flows }) ≡ true → Contains flows (Some f)
    → fits_along servers f.packet f.path f.queues ≡ true
flow_of_fitting servers flows f e m =
    All-contains (λ (o : Option NetFlow). place_fits servers o ≡ true) flows (Some f)
    (AllPass-from_list_all (place_fits servers) flows e) m
