-- A server of a network in the setup that the network and a trace make.
use Rattle.std.proofs.Common.{◌≡◌, ℕ, zero, suc, ◌+◌, ◌<◌, List, [], ◌∷◌, length, get_or, map, ap, ◌∙◌, arith, inl, inr, Some, None}
use Rattle.std.specs.Prelude.{pos, Contains, slice_get}
use Rattle.std.proofs.lemmas.Option.{slice_get_within, get_or_from_slice_get}
use Rattle.rational.specs.Rational.{int}
use Rattle.run_laws.specs.Routes.{link_at}
use Rattle.net_model.specs.declared.trace.Stall.{Stall}
use Rattle.net_model.specs.Networks.{Net, NetServer}
use Rattle.net_model.specs.NetRoutes.{link_for}
use Rattle.net_model.specs.Traces.{SpecTrace}
use Rattle.net_model.specs.stated_runs.Setups.{Opening, opening_of, rate_of}
use Rattle.net_model.specs.stated_runs.FromTraces.{gate_of, stalls_at, openings_from, setup_of}
use Rattle.net_model.proofs.stated_runs.Lists.{In, in_contains}

pub made_at : {X Y : Type 0} (f : X → Y) (xs : List X) (k : ℕ) (x : X) (d : Y) → k < length xs → get_or xs k x ≡ x → get_or (map f xs) k d ≡ f x
made_at f [] k x d h e = absurd (omega (arith, h))
made_at f (y ∷ ys) zero x d h e = ap f e
made_at f (y ∷ ys) (suc k) x d h e = made_at f ys k x d (omega (arith, h)) e

opening_at : (j : ℕ) (xs : List NetServer) (stalls : List Stall) (k : ℕ) (x : NetServer) (d : Opening) → k < length xs → get_or xs k x ≡ x
    → get_or (openings_from j xs stalls) k d ≡ record { gate = gate_of x.kind; stalls = stalls_at (j + k) stalls }
opening_at j [] stalls k x d h e = absurd (omega (arith, h))
opening_at j (y ∷ ys) stalls zero x d h e =
    ap (λ (z : NetServer). let o : Opening = record { gate = gate_of z.kind; stalls = stalls_at j stalls } in o) e
    ∙ ap (λ i. let o : Opening = record { gate = gate_of x.kind; stalls = stalls_at i stalls } in o) (let q : j ≡ j + 0 = omega arith in q)
opening_at j (y ∷ ys) stalls (suc k) x d h e =
    opening_at (suc j) ys stalls k x d (omega (arith, h)) e
    ∙ ap (λ i. let o : Opening = record { gate = gate_of x.kind; stalls = stalls_at i stalls } in o) (let q : suc j + k ≡ j + suc k = omega arith in q)

pub record ServerIs (net : Net) (trace : SpecTrace) (s : ℕ) (x : NetServer) : Type 0 where
  pub rate : rate_of (setup_of net trace) s ≡ x.rate
  pub opening : opening_of (setup_of net trace) s ≡ record { gate = gate_of x.kind; stalls = stalls_at s trace.stalls }
  pub link : link_at (setup_of net trace).net s ≡ x.link

pub server_is : (net : Net) (trace : SpecTrace) (s : ℕ) (x : NetServer) → s < length net.servers → get_or net.servers s x ≡ x → ServerIs net trace s x
server_is net trace s x h e = record {
  rate = made_at (λ (y : NetServer). y.rate) net.servers s x (int (pos 1)) h e;
  opening = opening_at 0 net.servers trace.stalls s x record { gate = None; stalls = [] } h e
      ∙ ap (λ i. let o : Opening = record { gate = gate_of x.kind; stalls = stalls_at i trace.stalls } in o) (let q : 0 + s ≡ s = omega arith in q);
  link = made_at link_for net.servers s x (int (pos 0)) h e;
}

-- a server that stands at a place of the list
pub record IsListed (servers : List NetServer) (s : ℕ) (x : NetServer) : Type 0 where
  pub inside : s < length servers
  pub is : get_or servers s x ≡ x
  pub there : Contains servers x

in_at : (servers : List NetServer) (s : ℕ) (x : NetServer) → slice_get servers s ≡ Some x → In servers x
in_at [] s x e = absurd (let f : None ≡ Some x = e in cc)
in_at (y ∷ ys) zero x e = inl (let f : Some y ≡ Some x = e in cc)
in_at (y ∷ ys) (suc s) x e = inr (in_at ys s x e)

pub listed : (servers : List NetServer) (s : ℕ) (x : NetServer) → slice_get servers s ≡ Some x → IsListed servers s x
listed servers s x e = record {
  inside = slice_get_within servers s x e;
  is = get_or_from_slice_get servers s x x e;
  there = in_contains servers x (in_at servers s x e);
}
