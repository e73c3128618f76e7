-- What an edit replaced, put back, gives the network before.
use Rattle.std.proofs.Common.{◌≡◌, ◌⊎◌, get_or, ℕ, zero, suc, ◌-◌, ◌<◌, List, [], ◌∷◌, length, take, Option, Some, None, refl, sym, ap, ap₂, ◌∙◌, subst, inl, inr, arith}
use Rattle.std.specs.Prelude.{slice_get, slice_set}
use Rattle.std.specs.Option.{option_map}
use Rattle.std.proofs.lemmas.List.{take-map, length-map, set-get_or, get_or-map}
use Rattle.std.proofs.lemmas.Option.{get_or_from_slice_get, slice_get_within, slice_get-get_or}
use Rattle.net_model.specs.declared.flow.Flow.{Flow}
use Rattle.net_model.specs.declared.server.Server.{Server}
use Rattle.net_model.specs.Networks.{Net, NetServer, NetFlow}
use Rattle.net_model.specs.Accepted.{IsAccepted}
use Rattle.net_model.specs.Views.{flow_of, servers_of, flows_of, net_of}
use Rattle.net_cells.proofs.Lists.{contains_has}
use Rattle.net_edits.specs.Changed as change
use Rattle.cell_rules.specs.edit_sites.Replaced.{without_last, IsServerChanged, IsFlowChanged, IsFlowAdded}

-- ---- one element
set_back : {X : Type 0} (xs : List X) (i : ℕ) (x y : X) → slice_get xs i ≡ Some x → slice_set (slice_set xs i y) i x ≡ xs
set_back [] i x y e = refl
set_back (z ∷ zs) zero x y e = let same : z ≡ x = cc in ap (λ w. w ∷ zs) (sym same)
set_back (z ∷ zs) (suc i) x y e = ap (λ ws. z ∷ ws) (set_back zs i x y e)

set_same : {X : Type 0} (xs : List X) (i : ℕ) (x : X) → slice_get xs i ≡ Some x → slice_set xs i x ≡ xs
set_same xs i x e = ap (slice_set xs i) (sym (get_or_from_slice_get xs i x x e)) ∙ set-get_or xs i x

-- ---- what was replaced
pub server_back : (old new : Net) (s : ℕ) (server : NetServer) → slice_get old.servers s ≡ Some server
    → IsServerChanged s old new → change.put_server new s server ≡ old
server_back old new s server e made =
    ap (λ (n : Net). change.put_server n s server) (made.is ∙ ap (change.server_changed made.change old s) e)
    ∙ ap (λ (ss : List NetServer). record old { servers = ss }) (set_back old.servers s server (made.change server) e)

pub no_server : (old new : Net) (s : ℕ) → slice_get old.servers s ≡ None → IsServerChanged s old new → new ≡ old
no_server old new s e made = made.is ∙ ap (change.server_changed made.change old s) e

pub flow_back : (old new : Net) (i : ℕ) (place : Option NetFlow) → slice_get old.flows i ≡ Some place
    → IsFlowChanged i old new → change.put_flow new i place ≡ old
flow_back old new i None e made =
    ap (λ (n : Net). change.put_flow n i None) (made.is ∙ ap (change.flow_changed made.change old i) e)
    ∙ ap (λ (fs : List (Option NetFlow)). record old { flows = fs }) (set_same old.flows i None e)
flow_back old new i (Some flow) e made =
    ap (λ (n : Net). change.put_flow n i (Some flow)) (made.is ∙ ap (change.flow_changed made.change old i) e)
    ∙ ap (λ (fs : List (Option NetFlow)). record old { flows = fs }) (set_back old.flows i (Some flow) (made.change flow) e)

-- a flow at a number is changed, and none is added there
pub flow_put_back : (old new : Net) (i : ℕ) (place : Option NetFlow) → slice_get old.flows i ≡ Some place
    → IsFlowChanged i old new ⊎ IsFlowAdded i old new → change.put_flow new i place ≡ old
flow_put_back old new i place e (inl made) = flow_back old new i place e made
flow_put_back old new i place e (inr made) =
    let within = slice_get_within old.flows i place e in absurd (omega (arith, within, made.last))

pub place_at : (fs : List (Option Flow)) (flows : List (Option NetFlow)) (i : ℕ) (f copy : Option Flow) → flows_of fs ≡ flows
    → i < length fs → f ≡ get_or fs i f → option_map flow_of copy ≡ option_map flow_of f
    → slice_get flows i ≡ Some (option_map flow_of copy)
place_at fs flows i f copy same within is copied =
    let many = length-map fs (option_map flow_of) in
    let inside : i < length (flows_of fs) = omega (arith, within, many) in
    ap (λ (xs : List (Option NetFlow)). slice_get xs i) (sym same)
    ∙ slice_get-get_or (flows_of fs) i (option_map flow_of f) inside
    ∙ ap Some (get_or-map (option_map flow_of) fs i f (option_map flow_of f) within ∙ ap (option_map flow_of) (sym is) ∙ sym copied)

-- a network of nothing
pub none_accepted : (ss : List Server) (fs : List (Option Flow)) → ss ≡ [] → fs ≡ [] → IsAccepted (net_of 1 ss fs)
none_accepted ss fs e f =
    subst (λ (xs : List Server). IsAccepted (net_of 1 xs fs)) (sym e)
    (subst (λ (xs : List (Option Flow)). IsAccepted (net_of 1 [] xs)) (sym f) none)
  where
    none : IsAccepted (net_of 1 [] [])
    none = record {
      version = (omega arith, omega arith);
      few_servers = omega arith;
      few_flows = omega arith;
      names = (λ i j d h k. absurd (omega (arith, h, k)), λ i j d h k. absurd (omega (arith, h, k)));
      servers = λ s m. absurd (contains_has [] s m);
      flows = λ f m. absurd (contains_has [] (Some f) m);
    }

-- ---- put together again
abbrev parts : ℕ → List NetServer → List (Option NetFlow) → Net
parts n xs ys = record { version = n; servers = xs; flows = ys }

pub one_less : (net : Net) (version : ℕ) (ss : List Server) (fs kept : List (Option Flow)) → version ≡ net.version
    → servers_of ss ≡ net.servers → flows_of fs ≡ net.flows → kept ≡ take (length fs - 1) fs
    → net_of version ss kept ≡ without_last net
one_less net version ss fs kept own servers flows is =
    let many : length fs ≡ length net.flows = sym (length-map fs (option_map flow_of)) ∙ ap length flows in
    let rest : flows_of kept ≡ take (length net.flows - 1) net.flows =
    ap flows_of is ∙ sym (take-map (option_map flow_of) (length fs - 1) fs)
    ∙ ap₂ (λ n gs. take (n - 1) gs) many flows in
    ap (λ (n : ℕ). parts n (servers_of ss) (flows_of kept)) own
    ∙ ap (λ (xs : List NetServer). parts net.version xs (flows_of kept)) servers
    ∙ ap (λ (xs : List (Option NetFlow)). parts net.version net.servers xs) rest
