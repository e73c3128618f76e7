-- What is known of all packets and queues before the first step of a lawful run, and after the last.
use Rattle.std.specs.Prelude.{◌≡◌, ◌⊎◌, ℕ, zero, suc, ◌<◌, ◌≤◌, pos, None, Bool, true, false, List, [], ◌∷◌, length, get_or, map, drop, take, replicate}
use Rattle.std.proofs.Common.{arith, refl, sym, ap, ◌∙◌, subst, inl, inr}
use Rattle.std.proofs.Math.Seq.{drop-length, take-length}
use Rattle.std.proofs.lemmas.List.{get_or-map, length-map, get_or-replicate, length-replicate}
use Rattle.rational.specs.Rational.{ℚ, int, le_q, ◌+ℚ◌, ◌-ℚ◌, ◌≤ℚ◌}
use Rattle.rational.proofs.Laws.{le_refl}
use Rattle.rational.proofs.Linear.{with2}
use Rattle.run_laws.specs.Runs.{SpecRun}
use Rattle.run_laws.specs.Cards.{of_queue, whole, ServerStep}
use Rattle.run_laws.specs.Servers.{Fifo, Discipline, ServerState, queue_count, start}
use Rattle.run_laws.specs.Delays.{backlog}
use Rattle.run_laws.specs.Routes.{Routes, server_at}
use Rattle.run_laws.specs.Views.{view, view_from}
use Rattle.run_laws.specs.Lawful.{state_at, run_start}
use Rattle.run_laws.proofs.Sums.{add_nothing}
use Rattle.net_model.specs.Networks.{Net, NetServer}
use Rattle.net_model.specs.NetRoutes.{routes_of, server_for}
use Rattle.simulator.specs.declared.run_measures.gauge.Gauge.{Gauge}
use Rattle.simulator.specs.declared.run_measures.levels.Levels.{Levels}
use Rattle.simulator.specs.run_measures.Gauges.{counted, level_at, empty_gauge, empty_row_of, gauge_in, gauges_of, peak_of}
use Rattle.simulator.specs.run_measures.Gauged.{WasThere, IsGauged, AreGauged, state_after}
use Rattle.simulator.specs.run_measures.Levels.{Tells}
use Rattle.simulator.specs.run_measures.Peaks.{backlog_at, IsReached, IsPeak, peak_in, ArePeaks}
use Rattle.run_laws.proofs.Views.{start_state}

-- one map after another
pub mapped_twice : {X Y Z : Type 0} (g : Y → Z) (f : X → Y) (xs : List X) → map (λ x. g (f x)) xs ≡ map g (map f xs)
mapped_twice g f [] = refl
mapped_twice g f (x ∷ xs) = ap (λ zs. g (f x) ∷ zs) (mapped_twice g f xs)

-- of a loop that has come to the end of a list
pub mapped_all : {X Y : Type 0} (f : X → Y) (xs : List X) (i : ℕ) → i ≤ length xs → length xs ≤ i → map f (take i xs) ≡ map f xs
mapped_all f xs i l m = ap (map f) (ap (λ n. take n xs) (let e : i ≡ length xs = omega (arith, l, m) in e) ∙ take-length xs)

-- ---- at first
fresh_row : (version : ℕ) (ss : List NetServer) (s : ℕ) → s < length ss
    → get_or (map empty_row_of ss) s [] ≡ replicate (queue_count (get_or (map (server_for version) ss) s record { discipline = Fifo; pace = None }).discipline) empty_gauge
fresh_row version [] s l = absurd (omega (arith, l))
fresh_row version (x ∷ xs) zero l = refl
fresh_row version (x ∷ xs) (suc s) l = fresh_row version xs s (omega (arith, l))

none_counted : (b : Bool) → counted b 0 ≡ 0
none_counted true = refl
none_counted false = refl

gauged_start : (net : Routes) (run : SpecRun) (s q : ℕ) (d : Discipline)
    → IsGauged (backlog_at net run s q) run.end q (start d) (view net run s) empty_gauge
gauged_start net run s q d = record {
  so_far = λ t. int (pos 0);
  rest = λ t. sym (add_nothing (backlog_at net run s q t));
  present = refl;
  short = omega arith;
  level = λ t l. ap whole (let none = none_counted (le_q t (int (pos 0))) in let e : 0 ≡ level_at empty_gauge t = omega (arith, none) in e);
  last = le_refl (int (pos 0));
  above = λ t. le_refl (int (pos 0));
  reached = inl refl;
}

fresh_gauged : (net : Net) (run : SpecRun) (rows : List (List Gauge)) → rows ≡ map empty_row_of net.servers
    → AreGauged (routes_of net) run 0 (run_start (routes_of net)) rows
fresh_gauged net run rows e =
    let R = routes_of net in
    let many = length-map net.servers (server_for net.version) in
    let lists : length rows ≡ length net.servers = ap length e ∙ length-map net.servers empty_row_of in
    let row : (s : ℕ) → s < length R.servers → get_or rows s [] ≡ replicate (queue_count (server_at R s).discipline) empty_gauge =
    λ s l. ap (λ gs. get_or gs s []) e ∙ fresh_row net.version net.servers s (omega (arith, many, l)) in
    record {
      as_many = omega (arith, many, lists);
      row = λ s l. ap length (row s l) ∙ length-replicate (queue_count (server_at R s).discipline) empty_gauge;
      each = λ s q l m.
          let gauge : gauge_in rows s q ≡ empty_gauge =
          ap (λ gs. get_or gs q empty_gauge) (row s l) ∙ get_or-replicate (queue_count (server_at R s).discipline) q empty_gauge empty_gauge m in
          subst (IsGauged (backlog_at R run s q) run.end q (state_at (run_start R) s) (view R run s)) (sym gauge)
          (subst (λ (σ : ServerState). IsGauged (backlog_at R run s q) run.end q σ (view R run s) empty_gauge) (sym (start_state R s l))
          (gauged_start R run s q (server_at R s).discipline));
    }

pub tells_nothing : (net : Net) (run : SpecRun) (v : Levels) → v.flows.items ≡ [] → v.bits.items ≡ [] → gauges_of v.rows.items ≡ map empty_row_of net.servers
    → Tells (routes_of net) run 0 v
tells_nothing net run v flows bits rows = record {
  entered = record { flows_are = flows; bits_are = bits; are_few = record { few = omega arith; short = λ p. omega arith } };
  gauged = fresh_gauged net run (gauges_of v.rows.items) rows;
}

-- ---- at the end
none_later : (x so : ℚ) → x ≡ so +ℚ (int (pos 0) -ℚ int (pos 0)) → x ≡ so
none_later x so h = with2 x so (λ c. omega (arith, c.le, c.lt, c.same))

peak_reached : (net : Routes) (run : SpecRun) (s q n : ℕ) (so : ℚ → ℚ) (now : ℚ) → ((t : ℚ) → backlog_at net run s q t ≡ so t)
    → (n ≡ 0) ⊎ WasThere so run.end now n → (n ≡ 0) ⊎ IsReached net run s q n
peak_reached net run s q n so now e (inl z) = inl z
peak_reached net run s q n so now e (inr w) = inr record { time = w.time; in_run = w.in_run; there = e w.time ∙ w.there }

peak_at_end : (net : Routes) (run : SpecRun) (s q : ℕ) (σ : ServerState) (later : List ServerStep) (g : Gauge) → later ≡ []
    → IsGauged (backlog_at net run s q) run.end q σ later g → IsPeak net run s q g.peak
peak_at_end net run s q σ later g none h =
    let all_told : (t : ℚ) → backlog_at net run s q t ≡ h.so_far t =
    λ t. none_later (backlog_at net run s q t) (h.so_far t) (h.rest t ∙ ap (λ (V : List ServerStep). h.so_far t +ℚ backlog (of_queue q) V t) none) in
    record {
      above = λ t l. subst (λ x. x ≤ℚ whole g.peak) (sym (all_told t)) (h.above t);
      reached = peak_reached net run s q g.peak h.so_far σ.now all_told h.reached;
    }

pub peaks_at_end : (net : Routes) (run : SpecRun) (k : ℕ) (rows : List (List Gauge)) → k ≡ length run.steps → AreGauged net run k (state_after net run.steps k) rows
    → ArePeaks net run (map (map peak_of) rows)
peaks_at_end net run k rows e h =
    let r = state_after net run.steps k in
    let lists = length-map rows (map peak_of) in
    let many = h.as_many in
    let none : drop k run.steps ≡ [] = ap (λ n. drop n run.steps) e ∙ drop-length run.steps in
    let row : (s : ℕ) → s < length net.servers → get_or (map (map peak_of) rows) s [] ≡ map peak_of (get_or rows s []) =
    λ s l. get_or-map (map peak_of) rows s [] [] (omega (arith, l, many)) in
    record {
      as_many = lists ∙ many;
      row = λ s l. ap length (row s l) ∙ length-map (get_or rows s []) peak_of ∙ h.row s l;
      each = λ s q l m.
          let long = h.row s l in
          let peak : peak_in (map (map peak_of) rows) s q ≡ (gauge_in rows s q).peak =
          ap (λ xs. get_or xs q 0) (row s l) ∙ get_or-map peak_of (get_or rows s []) q empty_gauge 0 (omega (arith, long, m)) in
          subst (IsPeak net run s q) (sym peak)
          (peak_at_end net run s q (state_at r s) (view_from net s r.entered (drop k run.steps)) (gauge_in rows s q)
          (ap (view_from net s r.entered) none) (h.each s q l m));
    }
