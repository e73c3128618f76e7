-- Where the simulation gauge is below 2 ^ 120, the numbers on the way to the horizon are small.
use Rattle.std.proofs.Common.{◌≡◌, ℕ, zero, suc, ◌<◌, ◌≤◌, ◌^◌, List, [], ◌∷◌, ◌++◌, length, get_or, sym, subst, arith, inl, inr, Some, None}
use Rattle.std.specs.Prelude.{Option, pos}
use Rattle.std.specs.List.{AllByRecursion}
use Rattle.std.proofs.lemmas.Bool.{cases_eq}
use Rattle.rational.specs.Rational.{ℚ, int, ◌+ℚ◌, ◌-ℚ◌, ◌*ℚ◌, ◌/ℚ◌, ◌≤ℚ◌}
use Rattle.rational.specs.Grid.{Whole}
use Rattle.rational.specs.Ratio.{IsSmall}
use Rattle.rational.proofs.Linear.{with1, with2, with3, with4, with5, with6}
use Rattle.rational.proofs.Laws.{le_refl, le_trans, le_of_lt, lt_le_trans, antisym, mul_le_mul_right, mul_nonneg, one_mul, not_zero}
use Rattle.rational.proofs.Quotients.{div_nonneg}
use Rattle.rational.proofs.Integers.{nat_le, nat_nonneg}
use Rattle.rational.proofs.Grid.{whole_int, whole_add, whole_sub, within_nonneg, max_whole}
use Rattle.rational.proofs.Sizes.{largest_part, small_on_grid, quotient_on_grid}
use Rattle.run_laws.specs.Cards.{whole}
use Rattle.run_laws.specs.Routes.{link_at}
use Rattle.run_laws.proofs.Sizes.{whole_nonneg}
use Rattle.net_model.specs.Networks.{Net}
use Rattle.net_model.specs.Accepted.{IsAccepted}
use Rattle.net_model.specs.Traces.{SpecTrace, IsTrace}
use Rattle.net_model.specs.Walks.{IsFeedForward}
use Rattle.net_model.specs.stated_runs.Setups.{Entering, GateTimes, StallTimes, Opening, Setup, IsSetup, IsGateFor, opening_of, rate_of}
use Rattle.net_model.specs.stated_runs.FromTraces.{setup_of, IsTraceOf}
use Rattle.net_model.specs.stated_runs.TimeGrids.{HasRoom, IsTime, AreStallTimes}
use Rattle.net_model.proofs.stated_runs.MadeSetups.{traces_make_setups}
use Rattle.sim_bounds.specs.Horizons.{latest_of, first_time, load, gate_ratio, gate_cycle, stalled_for, work_span, span, sum_below, horizon, AreStalls, IsForward}
use Rattle.sim_bounds.specs.Times.{IsGateWhole, AreStallsWhole, IsGrid}
use Rattle.sim_bounds.specs.Gauge.{simulation_gauge, grid_of}
use Rattle.sim_bounds.specs.Way.{open_time, gated_time, gated, plain_time, plain_span, HorizonFits}
use Rattle.sim_bounds.proofs.Places.{place_of_server}
use Rattle.sim_bounds.proofs.MadeBounds.{made_forward}
use Rattle.sim_bounds.proofs.Spans.{sum_nonneg, first_nonneg, ratio_pos, cycle_nonneg, stalled_nonneg}
use Rattle.sim_bounds.proofs.InTime.{first_in_time}
use Rattle.sim_bounds.proofs.Gauged.{span_in, work_in, cycle_in}
use Rattle.sim_bounds.proofs.Fits.{made_grid, horizon_whole, run_fits}

-- ---- the grid
latest_whole : {A : Type 0} (d : ℕ) (time : A → ℚ) (xs : List A) (none : A) → ((k : ℕ) → k < length xs → Whole d (time (get_or xs k none))) → Whole d (latest_of time xs)
latest_whole d time [] none h = whole_int d (pos 0)
latest_whole d time (x ∷ xs) none h =
    max_whole d (time x) (latest_of time xs) (h 0 (omega arith)) (latest_whole d time xs none (λ k l. h (suc k) (omega (arith, l))))

ends_whole : (d : ℕ) (xs : List StallTimes) → AreStallsWhole d xs → Whole d (latest_of (λ (x : StallTimes). x.end) xs)
ends_whole d [] w = whole_int d (pos 0)
ends_whole d (x ∷ xs) w = max_whole d x.end (latest_of (λ (y : StallTimes). y.end) xs) w.0.1 (ends_whole d xs w.1)

first_whole : (S : Setup) (d : ℕ) → IsGrid S d → Whole d (first_time S)
first_whole S d g =
    max_whole d (latest_of (λ (e : Entering). e.time) S.packets) (latest_of (λ (o : Opening). latest_of (λ (x : StallTimes). x.end) o.stalls) S.openings)
    (latest_whole d (λ (e : Entering). e.time) S.packets record { flow = 0; bits = 0; time = int (pos 0) } g.packets)
    (latest_whole d (λ (o : Opening). latest_of (λ (x : StallTimes). x.end) o.stalls) S.openings record { gate = None; stalls = [] }
    (λ k h. ends_whole d (opening_of S k).stalls (g.stalls k)))

stalled_whole : (d : ℕ) (xs : List StallTimes) → AreStallsWhole d xs → Whole d (stalled_for xs)
stalled_whole d [] w = whole_int d (pos 0)
stalled_whole d (x ∷ xs) w = whole_add d (x.end -ℚ x.start) (stalled_for xs) (whole_sub d x.end x.start w.0.1 w.0.0) (stalled_whole d xs w.1)

-- ---- sizes
front_each : (P : StallTimes → Type 0) (xs ys : List StallTimes) → AllByRecursion P (xs ++ ys) → AllByRecursion P xs
front_each P [] ys h = tt
front_each P (x ∷ xs) ys h = (h.0, front_each P xs ys h.1)

front_most : (xs ys : List StallTimes) → AreStalls (xs ++ ys) → stalled_for xs ≤ℚ stalled_for (xs ++ ys)
front_most [] ys h = stalled_nonneg ys h
front_most (x ∷ xs) ys h =
    let a = front_most xs ys h.1 in
    with4 x.start x.end (stalled_for xs) (stalled_for (xs ++ ys)) (λ c. omega (arith, c.le, c.lt, c.same))

sum_rises : (f : ℕ → ℚ) (n k : ℕ) → ((i : ℕ) → int (pos 0) ≤ℚ f i) → k ≤ n → sum_below f k ≤ℚ sum_below f n
sum_rises f zero k h l = subst (λ i. sum_below f i ≤ℚ sum_below f zero) (let e : 0 ≡ k = omega (arith, l) in e) (le_refl (sum_below f zero))
sum_rises f (suc n) k h l = elim (cases_eq k (suc n)) [
  | inl e ↦ subst (λ i. sum_below f i ≤ℚ sum_below f (suc n)) (sym e) (le_refl (sum_below f (suc n)))
  | inr d ↦
      let a = sum_rises f n k h (omega (arith, l, d)) in
      let b = h n in
      with3 (sum_below f k) (sum_below f n) (f n) (λ c. omega (arith, c.le, c.lt, c.same))
]

sum_whole : (d : ℕ) (f : ℕ → ℚ) (n k : ℕ) → ((i : ℕ) → i < n → Whole d (f i)) → k ≤ n → Whole d (sum_below f k)
sum_whole d f n zero h l = whole_int d (pos 0)
sum_whole d f n (suc k) h l = whole_add d (sum_below f k) (f k) (sum_whole d f n k h (omega (arith, l))) (h k (omega (arith, l)))

-- the horizon itself, times the grid, is small
room_once : (d : ℕ) (e : ℚ) → HasRoom d e → e *ℚ int (pos d) ≤ℚ int (pos largest_part)
room_once d e r =
    let all = r.room in
    let more : e *ℚ int (pos d) ≤ℚ (int (pos 8) *ℚ e) *ℚ int (pos d) =
    mul_le_mul_right (int (pos d)) (nat_nonneg d) (let z = r.from_zero in with1 e (λ c. omega (arith, c.le, c.lt, c.same))) in
    le_trans more all

ratio_small : (d : ℕ) (e : ℚ) (g : Option GateTimes) → HasRoom d e → IsGateFor g → IsGateWhole d g → gate_cycle g ≤ℚ e → IsSmall (gate_ratio g)
ratio_small d e None r ok w l =
    let small = r.small in
    small_on_grid d (int (pos 1)) (int (pos 1)) r.some (omega (arith, small))
    (subst (λ x. x ≤ℚ int (pos largest_part)) (sym (one_mul (int (pos d)))) (nat_le d largest_part (omega (arith, small))))
    (whole_int d (pos 1)) (within_nonneg (int (pos 1)) (int (pos 1)) (nat_nonneg 1) (le_refl (int (pos 1))))
ratio_small d e (Some g) r ok w l =
    quotient_on_grid d e e g.cycle g.slot r.some (not_zero g.slot ok.some_slot) (room_once d e r) (room_once d e r) w.0 w.1
    (within_nonneg e g.cycle (le_of_lt (lt_le_trans ok.some_slot ok.within)) l)
    (within_nonneg e g.slot (le_of_lt ok.some_slot) (le_trans ok.within l))

-- ---- the two parts of a span
span_parts : (g : Option GateTimes) (x stalled link : ℚ)
    → (gate_ratio g *ℚ x +ℚ gate_cycle g) +ℚ stalled +ℚ link ≡ (plain_time g x +ℚ stalled +ℚ link) +ℚ gated_time g x
span_parts None x stalled link =
    let is = one_mul x in
    antisym (with4 (int (pos 1) *ℚ x) x stalled link (λ c. omega (arith, c.le, c.lt, c.same)))
span_parts (Some g) x stalled link = antisym (with4 ((g.cycle /ℚ g.slot) *ℚ x) g.cycle stalled link (λ c. omega (arith, c.le, c.lt, c.same)))

sum_parts : (f g h : ℕ → ℚ) → ((i : ℕ) → f i ≡ g i +ℚ h i) → (n : ℕ) → sum_below f n ≡ sum_below g n +ℚ sum_below h n
sum_parts f g h e zero = antisym (with1 (int (pos 0)) (λ c. omega (arith, c.le, c.lt, c.same)))
sum_parts f g h e (suc n) =
    let before = sum_parts f g h e n in
    let here = e n in
    antisym (with6 (sum_below f n) (sum_below g n) (sum_below h n) (f n) (g n) (h n) (λ c. omega (arith, c.le, c.lt, c.same)))

pub horizon_parts : (S : Setup) → horizon S ≡ (first_time S +ℚ sum_below (plain_span S) (length S.net.servers)) +ℚ sum_below (gated S) (length S.net.servers)
horizon_parts S =
    let n = length S.net.servers in
    let own : (s : ℕ) → span S s ≡ plain_span S s +ℚ gated S s =
    λ s. span_parts (opening_of S s).gate (open_time S s) (stalled_for (opening_of S s).stalls) (link_at S.net s) in
    let parts = sum_parts (span S) (plain_span S) (gated S) own n in
    antisym (with4 (first_time S) (sum_below (span S) n) (sum_below (plain_span S) n) (sum_below (gated S) n) (λ c. omega (arith, c.le, c.lt, c.same)))

open_nonneg : (S : Setup) → IsSetup S → (s : ℕ) → int (pos 0) ≤ℚ open_time S s
open_nonneg S ok s = div_nonneg (whole (load S s)) (rate_of S s) (ok.rates s) (whole_nonneg (load S s))

gated_part : (g : Option GateTimes) (x : ℚ) → IsGateFor g → int (pos 0) ≤ℚ x → int (pos 0) ≤ℚ gated_time g x
gated_part None x ok h = le_refl (int (pos 0))
gated_part (Some g) x ok h =
    let one = ratio_pos (Some g) ok in
    mul_nonneg (with1 (gate_ratio (Some g)) (λ c. omega (arith, c.le, c.lt, c.same))) h

gated_nonneg : (S : Setup) → IsSetup S → (s : ℕ) → int (pos 0) ≤ℚ gated S s
gated_nonneg S ok s = gated_part (opening_of S s).gate (open_time S s) (ok.gates s) (open_nonneg S ok s)

plain_part : (g : Option GateTimes) (x : ℚ) → IsGateFor g → int (pos 0) ≤ℚ x → int (pos 0) ≤ℚ plain_time g x
plain_part None x ok h = h
plain_part (Some g) x ok h = cycle_nonneg (Some g) ok

plain_nonneg : (S : Setup) (place : ℕ → ℕ) → IsSetup S → IsForward S place → (s : ℕ) → int (pos 0) ≤ℚ plain_span S s
plain_nonneg S place ok f s =
    let g = (opening_of S s).gate in
    let x = open_time S s in
    let stalls = (opening_of S s).stalls in
    let a = plain_part g x (ok.gates s) (open_nonneg S ok s) in
    let b = stalled_nonneg stalls (f.stalls s) in
    let c = ok.links s in
    with3 (plain_time g x) (stalled_for stalls) (link_at S.net s) (λ o. omega (arith, o.le, o.lt, o.same))

plain_whole : (d : ℕ) (g : Option GateTimes) (x : ℚ) → IsGateWhole d g → Whole d x → Whole d (plain_time g x)
plain_whole d None x w h = h
plain_whole d (Some g) x w h = w.0

-- ---- one server
record ServerWay (S : Setup) (d s : ℕ) (e : ℚ) : Type 0 where
  opened : IsTime d e (open_time S s)
  plain : IsTime d e (plain_time (opening_of S s).gate (open_time S s))
  closed : IsTime d e (plain_time (opening_of S s).gate (open_time S s) +ℚ stalled_for (opening_of S s).stalls)
  plain_whole_span : IsTime d e (plain_span S s)
  stalled : stalled_for (opening_of S s).stalls ≤ℚ e

server_way : (S : Setup) (place : ℕ → ℕ) (d s : ℕ) → IsSetup S → IsForward S place → IsGrid S d → s < length S.net.servers → ServerWay S d s (horizon S)
server_way S place d s ok f g known =
    let e = horizon S in
    let gate = (opening_of S s).gate in
    let stalls = (opening_of S s).stalls in
    let x = open_time S s in
    let y = gate_ratio gate *ℚ x in
    let p = plain_time gate x in
    let link = link_at S.net s in
    let all = span_in S place ok f s known in
    let parts = span_parts gate x (stalled_for stalls) link in
    let some_gated = gated_nonneg S ok s in
    let stalled = stalled_nonneg stalls (f.stalls s) in
    let some_link = ok.links s in
    let cycle = cycle_nonneg gate (ok.gates s) in
    let some_x = open_nonneg S ok s in
    let some_p = plain_part gate x (ok.gates s) some_x in
    let one = mul_le_mul_right x some_x (ratio_pos gate (ok.gates s)) in
    let is = one_mul x in
    let x_y : x ≤ℚ y = with3 x y (int (pos 1) *ℚ x) (λ c. omega (arith, c.le, c.lt, c.same)) in
    let work_by : work_span S s ≤ℚ e = with4 (work_span S s) (stalled_for stalls) link e (λ c. omega (arith, c.le, c.lt, c.same)) in
    let y_by : y ≤ℚ e = with3 y (gate_cycle gate) e (λ c. omega (arith, c.le, c.lt, c.same)) in
    let span_by : plain_span S s ≤ℚ e = with4 (plain_span S s) (gated S s) (span S s) e (λ c. omega (arith, c.le, c.lt, c.same)) in
    let p_whole = plain_whole d gate x (g.gates s) (g.works s (load S s)) in
    let closed_whole = whole_add d p (stalled_for stalls) p_whole (stalled_whole d stalls (g.stalls s)) in
    record {
      opened = record { on_grid = g.works s (load S s); from_zero = some_x; by = le_trans x_y y_by };
      plain = record { on_grid = p_whole; from_zero = some_p; by = with4 p (stalled_for stalls) link e (λ c. omega (arith, c.le, c.lt, c.same)) };
      closed = record {
        on_grid = closed_whole;
        from_zero = with2 p (stalled_for stalls) (λ c. omega (arith, c.le, c.lt, c.same));
        by = with4 p (stalled_for stalls) link e (λ c. omega (arith, c.le, c.lt, c.same));
      };
      plain_whole_span = record { on_grid = whole_add d (p +ℚ stalled_for stalls) link closed_whole (g.links s); from_zero = plain_nonneg S place ok f s; by = span_by };
      stalled = with4 p (stalled_for stalls) link e (λ c. omega (arith, c.le, c.lt, c.same));
    }

-- ---- all of it
pub way_fits : (S : Setup) (place : ℕ → ℕ) (d : ℕ) → IsSetup S → IsForward S place → IsGrid S d → HasRoom d (horizon S)
    → ((s : ℕ) → AreStallTimes d (horizon S) (opening_of S s).stalls) → Whole d (horizon S) → HorizonFits S d (horizon S)
way_fits S place d ok f g room stalls w =
    let e = horizon S in
    let n = length S.net.servers in
    let way : (s : ℕ) → s < n → ServerWay S d s e = λ s h. server_way S place d s ok f g h in
    let first = first_whole S d g in
    let parts = horizon_parts S in
    let plain = plain_nonneg S place ok f in
    let plain_on : (i : ℕ) → i < n → Whole d (plain_span S i) = λ i h. (way i h).plain_whole_span.on_grid in
    let some_gated = sum_nonneg (gated S) n (gated_nonneg S ok) in
    let zero = first_nonneg S in
    record {
      room = room;
      first = record { on_grid = first; from_zero = zero; by = first_in_time S place ok f };
      times = λ s h. (way s h).opened;
      ratios = λ s h. ratio_small d e (opening_of S s).gate room (ok.gates s) (g.gates s)
          (le_trans (cycle_in S ok s) (work_in S place ok f s h).0);
      plain_times = λ s h. (way s h).plain;
      links = λ s h. record { on_grid = g.links s; from_zero = ok.links s; by = (work_in S place ok f s h).1 };
      stall_times = λ s h. stalls s;
      stalls = λ s h xs ys q.
          let good : AreStalls (xs ++ ys) = subst (λ t. AreStalls t) q (f.stalls s) in
          let grid : AreStallsWhole d (xs ++ ys) = subst (λ t. AreStallsWhole d t) q (g.stalls s) in
          let most : stalled_for (xs ++ ys) ≤ℚ e = subst (λ t. stalled_for t ≤ℚ e) q (way s h).stalled in
          record {
            on_grid = stalled_whole d xs (front_each (λ (x : StallTimes). Whole d x.start × Whole d x.end) xs ys grid);
            from_zero = stalled_nonneg xs (front_each (λ (x : StallTimes). x.start ≤ℚ x.end) xs ys good);
            by = le_trans (front_most xs ys good) most;
          };
      closed = λ s h. (way s h).closed;
      plain_spans = λ s h. (way s h).plain_whole_span;
      plain_sums = λ k l.
          let some = sum_nonneg (plain_span S) k plain in
          let most = sum_rises (plain_span S) n k plain l in
          record {
            on_grid = whole_add d (first_time S) (sum_below (plain_span S) k) first (sum_whole d (plain_span S) n k plain_on l);
            from_zero = with2 (first_time S) (sum_below (plain_span S) k) (λ c. omega (arith, c.le, c.lt, c.same));
            by = with5 (first_time S) (sum_below (plain_span S) k) (sum_below (plain_span S) n) (sum_below (gated S) n) e (λ c. omega (arith, c.le, c.lt, c.same));
          };
      gated_sum =
          let some = sum_nonneg (plain_span S) n plain in
          let all : n ≤ n = omega arith in
          let total = whole_add d (first_time S) (sum_below (plain_span S) n) first (sum_whole d (plain_span S) n n plain_on all) in
          let same : e -ℚ (first_time S +ℚ sum_below (plain_span S) n) ≡ sum_below (gated S) n =
          antisym (with4 (first_time S) (sum_below (plain_span S) n) (sum_below (gated S) n) e (λ c. omega (arith, c.le, c.lt, c.same))) in
          record {
            on_grid = subst (λ t. Whole d t) same (whole_sub d e (first_time S +ℚ sum_below (plain_span S) n) w total);
            from_zero = some_gated;
            by = with4 (first_time S) (sum_below (plain_span S) n) (sum_below (gated S) n) e (λ c. omega (arith, c.le, c.lt, c.same));
          };
    }

pub horizon_fits : (net : Net) (trace : SpecTrace) → IsAccepted net → IsTrace trace → IsTraceOf net trace → IsFeedForward net
    → simulation_gauge net trace < 2 ^ 120 → HorizonFits (setup_of net trace) (grid_of net trace) (horizon (setup_of net trace))
horizon_fits net trace ok fine named free small =
    let S = setup_of net trace in
    let fits = run_fits net trace ok fine named free small in
    way_fits S (place_of_server net) (grid_of net trace) (traces_make_setups net trace ok fine named) (made_forward net trace ok fine named free) (made_grid net trace ok)
    fits.grid.room fits.grid.stalls (horizon_whole net trace)
