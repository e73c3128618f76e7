-- A server's part of the setup, and the loops over packets and stalls.
use Rattle.std.proofs.Common.{◌≡◌, ℕ, ◌<◌, ◌+◌, List, ◌∷◌, length, get_or, drop, refl, sym, ap, ◌∙◌, subst, arith}
use Rattle.std.specs.Prelude.{◌≢◌}
use Rattle.std.proofs.lemmas.Bool.{eq-eqb, ne_eqb}
use Rattle.std.proofs.lemmas.List.{drop_more}
use Rattle.rational.specs.Rational.{ℚ, ◌+ℚ◌, ◌-ℚ◌, neg_ℚ, ◌/ℚ◌}
use Rattle.rational.specs.Ratio.{SumFits}
use Rattle.rational.proofs.Linear.{with6}
use Rattle.rational.proofs.Laws.{antisym}
use Rattle.run_laws.specs.Cards.{whole}
use Rattle.run_laws.specs.Routes.{link_at}
use Rattle.net_model.specs.declared.trace.Stall.{Stall}
use Rattle.net_model.specs.Networks.{Net, NetServer}
use Rattle.net_model.specs.declared.server.ServiceKind.{ServiceKind}
use Rattle.net_model.specs.Traces.{SpecTrace}
use Rattle.net_model.specs.stated_runs.Setups.{StallTimes, Opening}
use Rattle.net_model.proofs.stated_runs.ServerSetups.{ServerIs}
use Rattle.net_model.specs.stated_runs.FromTraces.{gate_of, stalls_at, setup_of}
use Rattle.sim_bounds.specs.Horizons.{load, stalled_for}
use Rattle.sim_bounds.specs.Way.{open_time, gated_time, gated, plain_time, plain_span}
use Rattle.sim_bounds.specs.sim_gauge.Steps.{StallsFit}

-- the parts of the span, from a server's own fields
pub own_open : (net : Net) (trace : SpecTrace) (s : ℕ) (x : NetServer) → ServerIs net trace s x
    → open_time (setup_of net trace) s ≡ whole (load (setup_of net trace) s) /ℚ x.rate
own_open net trace s x k = ap (λ r. whole (load (setup_of net trace) s) /ℚ r) k.rate

pub own_plain : (net : Net) (trace : SpecTrace) (s : ℕ) (x : NetServer) → ServerIs net trace s x
    → plain_span (setup_of net trace) s
    ≡ plain_time (gate_of x.kind) (open_time (setup_of net trace) s) +ℚ stalled_for (stalls_at s trace.stalls) +ℚ x.link
own_plain net trace s x k =
    let t = open_time (setup_of net trace) s in
    ap (λ (o : Opening). plain_time o.gate t +ℚ stalled_for o.stalls +ℚ link_at (setup_of net trace).net s) k.opening
    ∙ ap (λ l. plain_time (gate_of x.kind) t +ℚ stalled_for (stalls_at s trace.stalls) +ℚ l) k.link

pub own_gated : (net : Net) (trace : SpecTrace) (s : ℕ) (x : NetServer) (kind : ServiceKind) → ServerIs net trace s x → x.kind ≡ kind
    → gated (setup_of net trace) s ≡ gated_time (gate_of kind) (open_time (setup_of net trace) s)
own_gated net trace s x kind k is =
    let time = open_time (setup_of net trace) s in
    ap (λ (o : Opening). gated_time o.gate time) k.opening ∙ ap (λ k. gated_time (gate_of k) time) is

-- ---- loops
pub stall_here : (s : ℕ) (xs : List Stall) (i : ℕ) (d : Stall) → i < length xs → (get_or xs i d).server ≡ s
    → stalls_at s (drop i xs) ≡ record { start = (get_or xs i d).start; end = (get_or xs i d).end } ∷ stalls_at s (drop (i + 1) xs)
stall_here s xs i d h e = ap (stalls_at s) (drop_more xs i d h) ∙ (rw (eq-eqb (get_or xs i d).server s e) refl)

pub stall_elsewhere : (s : ℕ) (xs : List Stall) (i : ℕ) (d : Stall) → i < length xs → (get_or xs i d).server ≢ s → stalls_at s (drop i xs) ≡ stalls_at s (drop (i + 1) xs)
stall_elsewhere s xs i d h n = ap (stalls_at s) (drop_more xs i d h) ∙ (rw (ne_eqb (get_or xs i d).server s n) refl)

-- ---- one stall more
stall_is : (s : ℕ) (xs : List Stall) (i : ℕ) (x : Stall) → i < length xs → x ≡ get_or xs i x → x.server ≡ s
    → stalls_at s (drop i xs) ≡ record { start = x.start; end = x.end } ∷ stalls_at s (drop (i + 1) xs)
stall_is s xs i x h is own =
    stall_here s xs i x h (ap (λ (y : Stall). y.server) (sym is) ∙ own)
    ∙ ap (λ (y : Stall). let t : StallTimes = record { start = y.start; end = y.end } in t ∷ stalls_at s (drop (i + 1) xs)) (sym is)

pub stalled_step : (s : ℕ) (xs : List Stall) (i : ℕ) (x : Stall) (a b t : ℚ) → i < length xs → x ≡ get_or xs i x → x.server ≡ s → b ≡ a +ℚ (x.end -ℚ x.start)
    → a +ℚ stalled_for (stalls_at s (drop i xs)) ≡ t → b +ℚ stalled_for (stalls_at s (drop (i + 1) xs)) ≡ t
stalled_step s xs i x a b t h is own sum before =
    let rest = stalled_for (stalls_at s (drop (i + 1) xs)) in
    let e : stalled_for (stalls_at s (drop i xs)) ≡ (x.end -ℚ x.start) +ℚ rest = ap stalled_for (stall_is s xs i x h is own) in
    let q : a +ℚ ((x.end -ℚ x.start) +ℚ rest) ≡ t = ap (λ y. a +ℚ y) (sym e) ∙ before in
    antisym (with6 a b t rest x.start x.end (λ c. omega (arith, c.le, c.lt, c.same)))

pub fits_step : (s : ℕ) (xs : List Stall) (i : ℕ) (x : Stall) (a b : ℚ) → i < length xs → x ≡ get_or xs i x → x.server ≡ s → b ≡ a +ℚ (x.end -ℚ x.start)
    → StallsFit a (stalls_at s (drop i xs)) → StallsFit b (stalls_at s (drop (i + 1) xs))
fits_step s xs i x a b h is own sum fits =
    let f = subst (λ ys. StallsFit a ys) (stall_is s xs i x h is own) fits in
    subst (λ y. StallsFit y (stalls_at s (drop (i + 1) xs))) (sym sum) f.2

pub fits_here : (s : ℕ) (xs : List Stall) (i : ℕ) (x : Stall) (a : ℚ) → i < length xs → x ≡ get_or xs i x → x.server ≡ s
    → StallsFit a (stalls_at s (drop i xs)) → SumFits x.end (neg_ℚ x.start) × SumFits a (x.end -ℚ x.start)
fits_here s xs i x a h is own fits = let f = subst (λ ys. StallsFit a ys) (stall_is s xs i x h is own) fits in (f.0, f.1)
