-- Where the numbers on the way to the horizon fit, the steps to a server's span do.
use Rattle.std.proofs.Common.{◌≡◌, ℕ, suc, ◌+◌, ◌<◌, List, [], ◌∷◌, ◌++◌, length, get_or, refl, sym, ap, ◌∙◌, subst, arith}
use Rattle.std.specs.Prelude.{pos, Contains}
use Rattle.std.specs.List.{AllByRecursion}
use Rattle.std.proofs.lemmas.List.{length-map}
use Rattle.rational.specs.Rational.{ℚ, int, ◌+ℚ◌, ◌*ℚ◌}
use Rattle.rational.specs.Ratio.{IsSmall, SumFits}
use Rattle.upp_curve.specs.Curve.{SpecCurve}
use Rattle.run_laws.specs.Routes.{link_at}
use Rattle.net_model.specs.declared.server.Server.{Server}
use Rattle.net_model.specs.declared.server.ServiceKind.{ServiceKind}
use Rattle.net_model.specs.declared.server.ServiceKind.TheVariants.{Latency, Gate, Listed}
use Rattle.net_model.specs.Accepted.{IsOfKind}
use Rattle.net_model.specs.Networks.{Net, NetServer}
use Rattle.net_model.specs.NetRoutes.{server_for}
use Rattle.net_model.specs.Traces.{SpecTrace}
use Rattle.net_model.specs.Views.{server_of, servers_of}
use Rattle.net_model.specs.stated_runs.Setups.{Opening, IsGateFor, opening_of}
use Rattle.net_model.specs.stated_runs.FromTraces.{gate_of, stalls_at, setup_of}
use Rattle.net_model.proofs.stated_runs.Lists.{In, in_contains}
use Rattle.sim_bounds.specs.Horizons.{gate_ratio, stalled_for, first_time, sum_below, horizon}
use Rattle.rational.proofs.Linear.{with1, with4, with5}
use Rattle.rational.proofs.Laws.{antisym}
use Rattle.sim_bounds.specs.Way.{open_time, gated, plain_time, plain_span, HorizonFits}
use Rattle.sim_bounds.proofs.WayFits.{horizon_parts}
use Rattle.net_model.specs.stated_runs.TimeGrids.{IsTime}
use Rattle.upp_limits.proofs.Every.{every_append}
use Rattle.fraction128.specs.declared.wide_sums.products.Product.{Product}
use Rattle.fraction128.specs.wide_sums.Sums.{IsFromZero, sum_of_products}
use Rattle.sim_bounds.proofs.Members.{at_in_list}
use Rattle.sim_bounds.specs.sim_gauge.Steps.{StallsFit}
use Rattle.net_model.proofs.stated_runs.ServerSetups.{ServerIs, made_at}
use Rattle.sim_bounds.proofs.sim_gauge.Rooms.{stalls_fit}
use Rattle.net_model.proofs.stated_runs.GridTimes.{time_fits, sum_fits}

pub record SpanSteps (time : ℚ) (o : Opening) (wire : ℚ) : Type 0 where
  pub ratio : IsSmall (gate_ratio o.gate)
  pub stalls : StallsFit (int (pos 0)) o.stalls
  pub stalled : SumFits (plain_time o.gate time) (stalled_for o.stalls)
  pub link : SumFits (plain_time o.gate time +ℚ stalled_for o.stalls) wire

many : (net : Net) (trace : SpecTrace) → length (setup_of net trace).net.servers ≡ length net.servers
many net trace = length-map net.servers (server_for net.version)

append_none : {X : Type 0} (xs : List X) → xs ≡ xs ++ []
append_none xs = sym (Rattle.std.proofs.Common.append-nil xs)

-- the time for a server's bits
pub open_small : (net : Net) (trace : SpecTrace) (d s : ℕ) (e : ℚ) → s < length net.servers → HorizonFits (setup_of net trace) d e
    → IsSmall (open_time (setup_of net trace) s)
open_small net trace d s e h f =
    let same = many net trace in
    time_fits d e (open_time (setup_of net trace) s) f.room (f.times s (omega (arith, h, same)))

way_steps : (net : Net) (trace : SpecTrace) (d s : ℕ) (e : ℚ) → s < length net.servers → HorizonFits (setup_of net trace) d e
    → SpanSteps (open_time (setup_of net trace) s) (opening_of (setup_of net trace) s) (link_at (setup_of net trace).net s)
way_steps net trace d s e h f =
    let S = setup_of net trace in
    let o = opening_of S s in
    let same = many net trace in
    let k : s < length S.net.servers = omega (arith, h, same) in
    let p = plain_time o.gate (open_time S s) in
    let r = f.room in
    record {
      ratio = f.ratios s k;
      stalls = stalls_fit d e r o.stalls [] o.stalls refl (f.stalls s k) (f.stall_times s k);
      stalled = sum_fits d e p (stalled_for o.stalls) r (f.plain_times s k) (f.stalls s k o.stalls [] (append_none o.stalls));
      link = sum_fits d e (p +ℚ stalled_for o.stalls) (link_at S.net s) r (f.closed s k) (f.links s k);
    }

pub span_steps : (net : Net) (trace : SpecTrace) (d s : ℕ) (e : ℚ) (x : NetServer) → ServerIs net trace s x → s < length net.servers → HorizonFits (setup_of net trace) d e
    → SpanSteps (open_time (setup_of net trace) s) record { gate = gate_of x.kind; stalls = stalls_at s trace.stalls } x.link
span_steps net trace d s e x is h f =
    let S = setup_of net trace in
    let own : Opening = record { gate = gate_of x.kind; stalls = stalls_at s trace.stalls } in
    subst (λ l. SpanSteps (open_time S s) own l) is.link
    (subst (λ o. SpanSteps (open_time S s) o (link_at S.net s)) is.opening (way_steps net trace d s e h f))

-- a span more
pub sum_step : (net : Net) (trace : SpecTrace) (d s : ℕ) (e t : ℚ) → s < length net.servers → HorizonFits (setup_of net trace) d e
    → t ≡ first_time (setup_of net trace) +ℚ sum_below (plain_span (setup_of net trace)) s → SumFits t (plain_span (setup_of net trace) s)
sum_step net trace d s e t h f is =
    let S = setup_of net trace in
    let same = many net trace in
    let k : s < length S.net.servers = omega (arith, h, same) in
    subst (λ x. SumFits x (plain_span S s)) (sym is)
    (sum_fits d e (first_time S +ℚ sum_below (plain_span S) s) (plain_span S s) f.room (f.plain_sums s (omega (arith, k))) (f.plain_spans s k))

-- the plain sum and the sum over all gates
pub last_step : (net : Net) (trace : SpecTrace) (d : ℕ) (e a b : ℚ) → HorizonFits (setup_of net trace) d e
    → a ≡ first_time (setup_of net trace) +ℚ sum_below (plain_span (setup_of net trace)) (length net.servers)
    → b ≡ sum_below (gated (setup_of net trace)) (length net.servers) → SumFits a b
last_step net trace d e a b f one two =
    let S = setup_of net trace in
    let same = many net trace in
    let n = length net.servers in
    let own = subst (λ k. IsTime d e (first_time S +ℚ sum_below (plain_span S) k)) same (f.plain_sums (length S.net.servers) (omega arith)) in
    let other = subst (λ k. IsTime d e (sum_below (gated S) k)) same f.gated_sum in
    subst (λ x. SumFits x b) (sym one) (subst (λ x. SumFits (first_time S +ℚ sum_below (plain_span S) n) x) (sym two)
    (sum_fits d e (first_time S +ℚ sum_below (plain_span S) n) (sum_below (gated S) n) f.room own other))

pub gated_small : (net : Net) (trace : SpecTrace) (d : ℕ) (e : ℚ) → HorizonFits (setup_of net trace) d e
    → IsSmall (sum_below (gated (setup_of net trace)) (length net.servers))
gated_small net trace d e f =
    let S = setup_of net trace in
    subst (λ k. IsSmall (sum_below (gated S) k)) (many net trace) (time_fits d e (sum_below (gated S) (length S.net.servers)) f.room f.gated_sum)

-- ---- a stored server
pub record Stored (net : Net) (s : ℕ) (x : NetServer) : Type 0 where
  pub inside : s < length net.servers
  pub is : get_or net.servers s x ≡ x
  pub there : Contains net.servers x

pub stored : (net : Net) (xs : List Server) (s : ℕ) (x : Server) → servers_of xs ≡ net.servers → s < length net.servers → x ≡ get_or xs s x → Stored net s (server_of x)
stored net xs s x e h is =
    let y = server_of x in
    let n = length-map xs server_of in
    let m = ap length e in
    let at : get_or net.servers s y ≡ y = ap (λ ys. get_or ys s y) (sym e) ∙ made_at server_of xs s x y (omega (arith, h, n, m)) (sym is) in
    record {
      inside = h;
      is = at;
      there = in_contains net.servers y (subst (In net.servers) at (at_in_list net.servers s y h));
    }

-- a gate's slot is above 0 and within its cycle
pub kind_gates : (rate : ℚ) (kind : ServiceKind) (c : SpecCurve) → IsOfKind rate kind c → IsGateFor (gate_of kind)
kind_gates rate (Latency latency) c h = tt
kind_gates rate (Gate cycle slot) c h = record { some_slot = h.0; within = h.1 }
kind_gates rate Listed c h = tt

-- ---- the sum of the spans
pub sum_more : (f : ℕ → ℚ) (s : ℕ) (first t u : ℚ) → u ≡ t +ℚ f s → t ≡ first +ℚ sum_below f s → u ≡ first +ℚ sum_below f (s + 1)
sum_more f s first t u e h =
    let same : u ≡ first +ℚ sum_below f (suc s) = antisym (with5 first t u (f s) (sum_below f s) (λ c. omega (arith, c.le, c.lt, c.same))) in
    subst (λ n. u ≡ first +ℚ sum_below f n) (let q : suc s ≡ s + 1 = omega arith in q) same

-- the whole horizon
pub horizon_is : (net : Net) (trace : SpecTrace) (a b : ℚ) → a ≡ first_time (setup_of net trace) +ℚ sum_below (plain_span (setup_of net trace)) (length net.servers)
    → b ≡ sum_below (gated (setup_of net trace)) (length net.servers) → a +ℚ b ≡ horizon (setup_of net trace)
horizon_is net trace a b one two =
    let S = setup_of net trace in
    let n = length net.servers in
    let parts = subst (λ k. horizon S ≡ (first_time S +ℚ sum_below (plain_span S) k) +ℚ sum_below (gated S) k) (many net trace) (horizon_parts S) in
    ap (λ x. x +ℚ b) one ∙ ap (λ x. (first_time S +ℚ sum_below (plain_span S) n) +ℚ x) two ∙ sym parts

-- ---- one product a server
pub products_end : (ps : List Product) (p : Product) → sum_of_products (ps ++ p ∷ []) ≡ sum_of_products ps +ℚ (p.left *ℚ p.right)
products_end [] p = antisym (with1 (p.left *ℚ p.right) (λ c. omega (arith, c.le, c.lt, c.same)))
products_end (q ∷ qs) p =
    let before = products_end qs p in
    antisym (with4 (q.left *ℚ q.right) (p.left *ℚ p.right) (sum_of_products qs) (sum_of_products (qs ++ p ∷ [])) (λ c. omega (arith, c.le, c.lt, c.same)))

pub products_more : (f : ℕ → ℚ) (ps qs : List Product) (p : Product) (s : ℕ) → qs ≡ ps ++ p ∷ [] → sum_of_products ps ≡ sum_below f s → p.left *ℚ p.right ≡ f s
    → sum_of_products qs ≡ sum_below f (s + 1)
products_more f ps qs p s is before here =
    let next = ap sum_of_products is ∙ products_end ps p in
    let same : sum_of_products qs ≡ sum_below f (suc s) = next ∙ ap (λ x. x +ℚ (p.left *ℚ p.right)) before ∙ ap (λ x. sum_below f s +ℚ x) here in
    subst (λ n. sum_of_products qs ≡ sum_below f n) (let q : suc s ≡ s + 1 = omega arith in q) same

pub from_zero_end : (ps qs : List Product) (p : Product) → qs ≡ ps ++ p ∷ [] → AllByRecursion IsFromZero ps → IsFromZero p → AllByRecursion IsFromZero qs
from_zero_end ps qs p is all own = subst (λ xs. AllByRecursion IsFromZero xs) (sym is) (every_append IsFromZero ps (p ∷ []) all (own, tt))
