-- Steps in which a server starts: it turns to a queue, or puts a packet under way.
use Rattle.std.specs.Prelude.{Option, Some, None, ◌≡◌, ◌≢◌, ℕ, zero, suc, pos, ◌<◌, List, [], ◌∷◌, ◌++◌, length, set, slice_get}
use Rattle.std.proofs.Common.{refl, sym, ap, ◌∙◌, subst, arith, inr}
use Rattle.std.proofs.lemmas.Option.{slice_get_within}
use Rattle.rational.specs.Rational.{ℚ, int, ◌-ℚ◌, ◌/ℚ◌, ◌≤ℚ◌, ◌<ℚ◌}
use Rattle.rational.specs.Ratio.{IsSmall}
use Rattle.rational.proofs.Laws.{le_refl, not_zero, antisym}
use Rattle.rational.proofs.Linear.{with1}
use Rattle.run_laws.specs.declared.steps.Step.{Step}
use Rattle.run_laws.specs.declared.steps.Step.TheVariants as steps
use Rattle.run_laws.specs.Cards.{Card, Works, Visits, size, whole}
use Rattle.run_laws.specs.Servers.{Discipline, ServerState, done_so_far}
use Rattle.run_laws.specs.Next.{next}
use Rattle.run_laws.specs.Allows.{pick}
use Rattle.run_laws.specs.Routes.{Hop, PassesServer, server_at, route_of}
use Rattle.run_laws.specs.Views.{card_of, entry_of}
use Rattle.run_laws.specs.Lawful.{state_at}
use Rattle.run_laws.proofs.Heads.{pick_is_head}
use Rattle.queue_sched.specs.Turns.{IsIdle, Starts}
use Rattle.queue_sched.specs.declared.turn.Turn.{Turn}
use Rattle.queue_sched.specs.declared.turn.Turn.TheVariants as turns
use Rattle.queue_sched.specs.index_links.Chains.{Chains}
use Rattle.net_model.specs.declared.trace.TracePacket.{TracePacket}
use Rattle.net_model.specs.stated_runs.Setups.{Entering, Setup, packet_of, rate_of}
use Rattle.net_model.specs.stated_runs.DueSteps.{work_kind}
use Rattle.net_model.specs.stated_runs.FromTraces.{entering}
use Rattle.net_model.specs.stated_runs.Simulated.{IsNext}
use Rattle.net_model.specs.stated_runs.Laws.{state_after}
use Rattle.net_model.specs.stated_runs.TimeGrids.{IsTime}
use Rattle.net_model.proofs.stated_runs.GoodServers.{IsCardAt}
use Rattle.net_model.proofs.stated_runs.Lists.{head_in}
use Rattle.run_laws.proofs.Sizes.{size_pos}
use Rattle.net_model.proofs.stated_runs.Progress.{fair_card}
use Rattle.sim_servers.specs.declared.due.Due.{Due}
use Rattle.sim_servers.specs.declared.due.DueKind.TheVariants as kinds
use Rattle.sim_servers.specs.declared.station.Next.{Next}
use Rattle.sim_servers.specs.declared.station.Next.TheVariants.{Start}
use Rattle.sim_servers.specs.declared.station.Station.{Station}
use Rattle.sim_servers.specs.declared.station.Stretch.{Stretch}
use Rattle.sim_servers.specs.declared.opening.Opening.{Opening}
use Rattle.sim_servers.specs.Openings.{opening_for, HasOpened, IsSameOpening}
use Rattle.sim_servers.specs.Firsts.{kind_number}
use Rattle.sim_servers.specs.Queues.{served_by, room_of, StandFor}
use Rattle.sim_servers.specs.Stations.{IsStation, IsOpeningOf, IsNextOf, WillStart}
use Rattle.sim_servers.proofs.GridSteps.{time_fits}
use Rattle.sim_servers.proofs.Openings.{first_later}
use Rattle.sim_servers.specs.declared.sim_states.arrival.Arrival.{Arrival}
use Rattle.sim_servers.specs.sim_states.Laws.{IsAfter}
use Rattle.sim_servers.proofs.sim_states.Firsts.{first_is_next}
use Rattle.sim_servers.proofs.sim_states.Kept.{set_same}
use Rattle.sim_servers.proofs.sim_states.Steps.{visit_keeps, work_keeps}
use Rattle.sim_servers.specs.sim_loop.Moves.{HasWorked, MayWorkOn}
use Rattle.simulator.specs.packet_sim.Simulating.{IsSimulating, IsFirstDue, IsTurning}
use Rattle.simulator.proofs.packet_sim.Candidates.{at_station, starting}
use Rattle.simulator.proofs.packet_sim.Common.{rank_same, sound_at, simulating_after, has_entered, in_trace_of}
use Rattle.simulator.proofs.packet_sim.Working.{IsReady, IsFit, MayWorkAt, may_work, work_is_due, worked}

-- ---- what is due
pub record IsStartingNow (S : Setup) (stations : List Station) (xs : List Step) (d : Due) : Type 0 where
  pub station : Station
  pub known : d.server < length S.net.servers
  pub at : slice_get stations d.server ≡ Some station
  pub keeps : IsStation S d.server (state_at (state_after S xs) d.server) station
  pub is : station.next ≡ Start d.time
  pub part : d.packet ≡ 0
  pub will : WillStart S d.server (state_at (state_after S xs) d.server) station.opening d.time

pub starting_now : (S : Setup) (stations : List Station) (links : Chains) (arrivals : List Arrival) (n : ℕ) (xs : List Step) (d : Due)
    → IsFirstDue S stations links arrivals n xs d → d.kind ≡ kinds.Start → IsStartingNow S stations xs d
starting_now S stations links arrivals n xs d h kind =
    let σ = state_at (state_after S xs) d.server in
    let a = at_station S stations links arrivals n (length S.net.servers) d h.first.0
    (λ e. let f : kinds.Start ≡ kinds.Enter = sym kind ∙ e in cc) (λ e. let f : kinds.Start ≡ kinds.Reach = sym kind ∙ e in cc) in
    let l = starting a.station.next d a.due kind in
    let keeps = h.now.running.servers.kept d.server a.station a.at in
    record {
      station = a.station;
      known = a.known;
      at = a.at;
      keeps = keeps;
      is = l.is;
      part = l.part;
      will = subst (λ (m : Next). IsNextOf S d.server σ a.station.opening m) l.is keeps.next;
    }

pub record MayTurnAt (stations : List Station) (s : ℕ) : Type 0 where
  pub known : s < length stations
  pub idle : (x : Station) → slice_get stations s ≡ Some x → IsIdle (StandFor x.queues)

pub start_may : (S : Setup) (stations : List Station) (links : Chains) (arrivals : List Arrival) (n : ℕ) (xs : List Step) (d : Due)
    → IsFirstDue S stations links arrivals n xs d → d.kind ≡ kinds.Start → MayTurnAt stations d.server
start_may S stations links arrivals n xs d h kind =
    let k = starting_now S stations links arrivals n xs d h kind in
    let known = k.known in
    let many = h.now.running.servers.many in
    record {
      known = omega (arith, known, many);
      idle = λ y at. record {
        state = state_at (state_after S xs) d.server;
        stands = (h.now.running.servers.kept d.server y at).queues;
        idle = k.will.idle;
      };
    }

-- a server with packets takes some turn
pub some_turn : (S : Setup) (stations : List Station) (links : Chains) (arrivals : List Arrival) (n : ℕ) (xs : List Step) (d : Due)
    → IsTurning S stations links arrivals n xs d None → d.kind ≡ kinds.Start → ⊥
some_turn S stations links arrivals n xs d h kind =
    let k = starting_now S h.before links arrivals n xs d h.due kind in
    let keeps = h.due.now.running.servers.kept d.server h.turned.old h.turned.moved.was in
    k.will.some (h.turned.turned (state_at (state_after S xs) d.server) keeps.queues k.will.idle).0

-- the station that turns is the one that is due
record IsStartingFrom (S : Setup) (xs : List Step) (d : Due) (station : Station) : Type 0 where
  known : d.server < length S.net.servers
  keeps : IsStation S d.server (state_at (state_after S xs) d.server) station
  is : station.next ≡ Start d.time
  part : d.packet ≡ 0
  will : WillStart S d.server (state_at (state_after S xs) d.server) station.opening d.time

starting_from : (S : Setup) (stations : List Station) (links : Chains) (arrivals : List Arrival) (n : ℕ) (xs : List Step) (d : Due) (turn : Option Turn)
    → (h : IsTurning S stations links arrivals n xs d turn) → d.kind ≡ kinds.Start → IsStartingFrom S xs d h.turned.old
starting_from S stations links arrivals n xs d turn h kind =
    let k = starting_now S h.before links arrivals n xs d h.due kind in
    let t = h.turned in
    let f : Some k.station ≡ Some t.old = sym k.at ∙ t.moved.was in
    let same : k.station ≡ t.old = cc in
    subst (λ (z : Station). IsStartingFrom S xs d z) same
    record { known = k.known; keeps = k.keeps; is = k.is; part = k.part; will = k.will }

-- the turn that it takes
record IsTakingTurn (S : Setup) (xs : List Step) (d : Due) (turn : Option Turn) (old new : Station) : Type 0 where
  from : IsStartingFrom S xs d old
  starts : Starts (server_at S.net d.server).discipline (StandFor new.queues) (state_at (state_after S xs) d.server) turn

taking_turn : (S : Setup) (stations : List Station) (links : Chains) (arrivals : List Arrival) (n : ℕ) (xs : List Step) (d : Due) (turn : Option Turn)
    → (h : IsTurning S stations links arrivals n xs d turn) → d.kind ≡ kinds.Start → IsTakingTurn S xs d turn h.turned.old h.turned.new
taking_turn S stations links arrivals n xs d turn h kind =
    let σ = state_at (state_after S xs) d.server in
    let k = starting_from S stations links arrivals n xs d turn h kind in
    let t = h.turned in
    record {
      from = k;
      starts = subst (λ j. Starts j (StandFor t.new.queues) σ turn) k.keeps.discipline (t.turned σ k.keeps.queues k.will.idle);
    }

-- ---- a visit
visit_next : (S : Setup) (s : ℕ) (d : Discipline) (σ : ServerState) (q : ℕ) (t : ℚ) (o : Opening) → WillStart S s σ o t
    → WillStart S s (next d σ (Visits q t)) o t
visit_next S s d σ q t o h = record {
  idle = h.idle;
  some = h.some;
  opens = first_later S s σ.now t t h.opens h.opens.not_before (le_refl t);
  opened = h.opened;
}

pub visit_done : (S : Setup) (stations : List Station) (links : Chains) (arrivals : List Arrival) (n : ℕ) (xs : List Step) (d : Due) (q : ℕ)
    → IsTurning S stations links arrivals n xs d (Some (turns.Visit q)) → d.kind ≡ kinds.Start
    → IsSimulating S stations links arrivals n (xs ++ steps.Visit d.server q d.time ∷ [])
visit_done S stations links arrivals n xs d q h kind =
    let took = taking_turn S stations links arrivals n xs d (Some (turns.Visit q)) h kind in
    let s = d.server in
    let r = state_after S xs in
    let σ = state_at r s in
    let k = took.from in
    let keeps = k.keeps in
    let will = k.will in
    let turn = took.starts in
    let now = h.due.now in
    let t = h.turned in
    let x = steps.Visit s q d.time in
    let n1 : IsNext S r x = first_is_next S now.setup h.before links arrivals n xs d now.running h.due.first x
    (k.known, record { may = turn.0; opens = will.opens }) refl
    (rank_same 4 (kind_number d.kind) s s 0 d.packet (sym (ap kind_number kind)) refl (sym k.part)) in
    let τ = next (server_at S.net s).discipline σ (Visits q d.time) in
    let own : IsAfter S xs x t.new = (
      record {
        discipline = t.discipline ∙ keeps.discipline;
        queues = turn.1 d.time;
        opening = subst (IsOpeningOf S s) (sym t.opening) keeps.opening;
        rate = t.rate ∙ keeps.rate;
        inside = t.inside ∙ keeps.inside;
        next = subst (λ o. IsNextOf S s τ o t.new.next) (sym t.opening) (subst (λ m. IsNextOf S s τ t.old.opening m) (sym (t.next ∙ k.is))
            (visit_next S s (server_at S.net s).discipline σ q d.time t.old.opening will));
      },
      t.moved.room ∙ now.running.servers.rooms s t.old t.moved.was,
    ) in
    let kept : IsSameOpening t.old.opening t.new.opening = subst (λ o. IsSameOpening t.old.opening o) (sym t.opening) record { gate = refl; stalls = refl } in
    simulating_after S h.before links arrivals n xs now s t.old t.new t.moved.was kept stations t.moved.is links arrivals n (xs ++ x ∷ [])
    (visit_keeps S now.setup h.before links arrivals n xs now.running s q d.time n1 t.new own)

-- ---- a packet that is sent
record IsSending (S : Setup) (before stations : List Station) (xs : List Step) (d : Due) (p : ℕ) (old new : Station) : Type 0 where
  known : d.server < length S.net.servers
  keeps : IsStation S d.server (state_at (state_after S xs) d.server) old
  will : WillStart S d.server (state_at (state_after S xs) d.server) old.opening d.time
  part : d.packet ≡ 0
  card : Card
  packet_is : card.packet ≡ p
  picked : pick (server_at S.net d.server).discipline (state_at (state_after S xs) d.server).inside (state_at (state_after S xs) d.server).round ≡ Some card
  moved : (a b w : ℚ) → StandFor new.queues (next (server_at S.net d.server).discipline (state_at (state_after S xs) d.server) (Works card a b w))
  here : IsCardAt S.net (state_after S xs).entered d.server card
  some : int (pos 0) <ℚ size card
  from_zero : int (pos 0) ≤ℚ (state_at (state_after S xs) d.server).now

sending : (S : Setup) (stations : List Station) (links : Chains) (arrivals : List Arrival) (n : ℕ) (xs : List Step) (d : Due) (p : ℕ)
    → (h : IsTurning S stations links arrivals n xs d (Some (turns.Send p))) → d.kind ≡ kinds.Start
    → IsSending S h.before stations xs d p h.turned.old h.turned.new
sending S stations links arrivals n xs d p h kind =
    let took = taking_turn S stations links arrivals n xs d (Some (turns.Send p)) h kind in
    let k = took.from in
    let sends = took.starts in
    let s = d.server in
    let r = state_after S xs in
    let σ = state_at r s in
    let sound = sound_at S h.before links arrivals n xs h.due.now in
    let good = sound.good.servers s k.known in
    let here = good.cards sends.card
    (head_in sends.card.queue σ.inside sends.card (pick_is_head (server_at S.net s).discipline σ.inside σ.round sends.card sends.picked)) in
    record {
      known = k.known;
      keeps = k.keeps;
      will = k.will;
      part = k.part;
      card = sends.card;
      packet_is = sends.packet_is;
      picked = sends.picked;
      moved = sends.moved;
      here = here;
      some = size_pos sends.card (fair_card S r sound.time sound.good s sends.card here).some;
      from_zero = good.from_zero;
    }

pub send_in_trace : (S : Setup) (stations : List Station) (links : Chains) (arrivals : List Arrival) (n : ℕ) (xs : List Step) (d : Due) (p : ℕ)
    → IsTurning S stations links arrivals n xs d (Some (turns.Send p)) → d.kind ≡ kinds.Start → p < length S.packets
send_in_trace S stations links arrivals n xs d p h kind =
    let k = sending S stations links arrivals n xs d p h kind in
    in_trace_of S h.before links arrivals n xs h.due.now p (subst (λ q. q < length (state_after S xs).entered) k.packet_is k.here.entered_one)

pub send_known : (S : Setup) (stations : List Station) (links : Chains) (arrivals : List Arrival) (n : ℕ) (xs : List Step) (d : Due) (turn : Option Turn)
    → IsTurning S stations links arrivals n xs d turn → d.server < length stations
send_known S stations links arrivals n xs d turn h =
    slice_get_within stations d.server h.turned.new
    (ap (λ (ys : List Station). slice_get ys d.server) h.turned.moved.is
    ∙ set_same h.before d.server h.turned.new (slice_get_within h.before d.server h.turned.old h.turned.moved.was))

-- the station that has turned is still there
turned_is : (S : Setup) (stations : List Station) (links : Chains) (arrivals : List Arrival) (n : ℕ) (xs : List Step) (d : Due) (turn : Option Turn)
    → (h : IsTurning S stations links arrivals n xs d turn) (x : Station) → slice_get stations d.server ≡ Some x → h.turned.new ≡ x
turned_is S stations links arrivals n xs d turn h x at =
    let f : Some h.turned.new ≡ Some x =
    sym (ap (λ (ys : List Station). slice_get ys d.server) h.turned.moved.is
    ∙ set_same h.before d.server h.turned.new (slice_get_within h.before d.server h.turned.old h.turned.moved.was)) ∙ at in
    cc

-- how long the packet takes
record IsLong (S : Setup) (D : ℕ) (E : ℚ) (s bits : ℕ) (c : Card) : Type 0 where
  bits_are : c.bits ≡ bits
  time : IsTime D E (whole bits /ℚ rate_of S s)

long : (S : Setup) (stations : List Station) (links : Chains) (arrivals : List Arrival) (n : ℕ) (xs : List Step) (d : Due) (p : ℕ)
    → (h : IsTurning S stations links arrivals n xs d (Some (turns.Send p))) (kind : d.kind ≡ kinds.Start) (e : TracePacket) → packet_of S p ≡ entering e
    → IsLong S h.due.now.grid h.due.now.most d.server e.bits (sending S stations links arrivals n xs d p h kind).card
long S stations links arrivals n xs d p h kind e is =
    let s = d.server in
    let r = state_after S xs in
    let now = h.due.now in
    let k = sending S stations links arrivals n xs d p h kind in
    let entered_one : p < length r.entered = subst (λ q. q < length r.entered) k.packet_is k.here.entered_one in
    let seen_as = has_entered S h.before links arrivals n xs now p entered_one e is in
    let passes : PassesServer s (route_of S.net (packet_of S p).flow).hops =
    subst (λ (hs : List Hop). PassesServer s hs) (ap (λ q. Rattle.run_laws.specs.Views.hops_of S.net r.entered q) k.packet_is ∙ seen_as.hops
    ∙ ap (λ (x : Entering). (route_of S.net x.flow).hops) (sym is)) k.here.passes in
    record {
      bits_are = ap (λ (x : Card). x.bits) k.here.is ∙ ap (λ q. (entry_of r.entered q).bits) k.packet_is ∙ seen_as.bits;
      time = subst (λ (x : Entering). IsTime now.grid now.most (whole x.bits /ℚ rate_of S s)) is
          (now.fits.grid.times s p (in_trace_of S h.before links arrivals n xs now p entered_one) passes);
    }

-- the rate that is read at its server is that server's
rate_is : (S : Setup) (stations : List Station) (links : Chains) (arrivals : List Arrival) (n : ℕ) (xs : List Step) (d : Due) (p : ℕ)
    → IsTurning S stations links arrivals n xs d (Some (turns.Send p)) → d.kind ≡ kinds.Start → (rate : ℚ)
    → ((x : Station) → slice_get stations d.server ≡ Some x → rate ≡ x.rate) → rate ≡ rate_of S d.server
rate_is S stations links arrivals n xs d p h kind rate rates =
    let s = d.server in
    let k = sending S stations links arrivals n xs d p h kind in
    let t = h.turned in
    let at = ap (λ (ys : List Station). slice_get ys s) t.moved.is ∙ set_same h.before s t.new (slice_get_within h.before s t.old t.moved.was) in
    rates t.new at ∙ t.rate ∙ k.keeps.rate

pub record MayDivide (bits : ℕ) (rate : ℚ) : Type 0 where
  pub some : rate ≢ int (pos 0)
  pub fits : IsSmall (int (pos bits) /ℚ rate)

pub send_fits : (S : Setup) (stations : List Station) (links : Chains) (arrivals : List Arrival) (n : ℕ) (xs : List Step) (d : Due) (p : ℕ)
    → IsTurning S stations links arrivals n xs d (Some (turns.Send p)) → d.kind ≡ kinds.Start → (e : TracePacket) → packet_of S p ≡ entering e
    → (rate : ℚ) → ((x : Station) → slice_get stations d.server ≡ Some x → rate ≡ x.rate) → MayDivide e.bits rate
send_fits S stations links arrivals n xs d p h kind e is rate rates =
    let s = d.server in
    let now = h.due.now in
    let l = long S stations links arrivals n xs d p h kind e is in
    let same : rate ≡ rate_of S s = rate_is S stations links arrivals n xs d p h kind rate rates in
    record {
      some = subst (λ u. u ≢ int (pos 0)) (sym same) (not_zero (rate_of S s) (now.setup.rates s));
      fits = subst (λ u. IsSmall (int (pos e.bits) /ℚ u)) (sym same) (time_fits now.grid now.most (whole e.bits /ℚ rate_of S s) now.fits.grid.room l.time);
    }

-- what is left of it at first
first_left : (S : Setup) (s : ℕ) (c : Card) (bits : ℕ) (left rate : ℚ) → c.bits ≡ bits → rate ≡ rate_of S s → left ≡ int (pos bits) /ℚ rate → left ≡ size c /ℚ rate_of S s
first_left S s c bits left rate e same is = is ∙ ap (λ u. int (pos bits) /ℚ u) same ∙ ap (λ b. whole b /ℚ rate_of S s) (sym e)

record IsSent (S : Setup) (D : ℕ) (E : ℚ) (s : ℕ) (xs : List Step) (p : ℕ) (c : Card) (from a left : ℚ) (y : Station) : Type 0 where
  ready : IsReady S s xs p from (size c) a
  fit : IsFit S s D E y
  opened : HasOpened y.opening a
  left_is : left ≡ size c /ℚ rate_of S s
  long : IsTime D E left

sent : (S : Setup) (stations : List Station) (links : Chains) (arrivals : List Arrival) (n : ℕ) (xs : List Step) (d : Due) (p : ℕ)
    → (h : IsTurning S stations links arrivals n xs d (Some (turns.Send p))) (kind : d.kind ≡ kinds.Start) (e : TracePacket) → packet_of S p ≡ entering e
    → (rate : ℚ) → ((x : Station) → slice_get stations d.server ≡ Some x → rate ≡ x.rate) → (left : ℚ) → left ≡ int (pos e.bits) /ℚ rate
    → IsSent S h.due.now.grid h.due.now.most d.server xs p (sending S stations links arrivals n xs d p h kind).card
    (state_at (state_after S xs) d.server).now d.time left h.turned.new
sent S stations links arrivals n xs d p h kind e is rate rates left left_is =
    let s = d.server in
    let now = h.due.now in
    let k = sending S stations links arrivals n xs d p h kind in
    let l = long S stations links arrivals n xs d p h kind e is in
    let t = h.turned in
    let same : rate ≡ rate_of S s = rate_is S stations links arrivals n xs d p h kind rate rates in
    let whole_left : left ≡ whole e.bits /ℚ rate_of S s = left_is ∙ ap (λ u. int (pos e.bits) /ℚ u) same in
    record {
      ready = record {
        known = k.known;
        from_zero = k.from_zero;
        some = k.some;
        opens = k.will.opens;
        due = λ b w z. (k.known, inr record { idle = k.will.idle; card = k.card; packet_is = k.packet_is; picked = k.picked; stretch = z });
      };
      fit = record {
        opening = subst (IsOpeningOf S s) (sym t.opening) k.keeps.opening;
        rate = t.rate ∙ k.keeps.rate;
        stalls = subst (λ o. Rattle.net_model.specs.stated_runs.TimeGrids.AreStallTimes now.grid now.most (opening_for o).stalls) (sym t.opening) (now.stalls s t.old t.moved.was);
      };
      opened = subst (λ o. HasOpened o d.time) (sym t.opening) k.will.opened;
      left_is = first_left S s k.card e.bits left rate l.bits_are same left_is;
      long = subst (λ u. IsTime now.grid now.most u) (sym whole_left) l.time;
    }

pub send_may : (S : Setup) (stations : List Station) (links : Chains) (arrivals : List Arrival) (n : ℕ) (xs : List Step) (d : Due) (p : ℕ)
    → IsTurning S stations links arrivals n xs d (Some (turns.Send p)) → d.kind ≡ kinds.Start → (e : TracePacket) → packet_of S p ≡ entering e
    → (rate : ℚ) → ((x : Station) → slice_get stations d.server ≡ Some x → rate ≡ x.rate) → (left : ℚ) → left ≡ int (pos e.bits) /ℚ rate
    → MayWorkAt stations d.server d.time left
send_may S stations links arrivals n xs d p h kind e is rate rates left left_is =
    let σ = state_at (state_after S xs) d.server in
    let k = sending S stations links arrivals n xs d p h kind in
    let z = sent S stations links arrivals n xs d p h kind e is rate rates left left_is in
    record {
      known = send_known S stations links arrivals n xs d (Some (turns.Send p)) h;
      may = λ y at.
          subst (λ (v : Station). MayWorkOn v d.time left) (turned_is S stations links arrivals n xs d (Some (turns.Send p)) h y at)
          (may_work S h.before links arrivals n xs h.due.now d.server p σ.now (size k.card) d.time left h.turned.new z.ready z.fit z.opened z.left_is z.long);
    }

set_twice : {X : Type 0} (xs : List X) (i : ℕ) (a b : X) → set (set xs i a) i b ≡ set xs i b
set_twice [] i a b = refl
set_twice (x ∷ xs) zero a b = refl
set_twice (x ∷ xs) (suc i) a b = ap (λ ys. x ∷ ys) (set_twice xs i a b)

same_openings : (o p q : Opening) → p ≡ o → IsSameOpening p q → IsSameOpening o q
same_openings o p q e h = record {
  gate = h.gate ∙ ap (λ (x : Opening). x.gate) e;
  stalls = h.stalls ∙ ap (λ (x : Opening). x.stalls.items) e;
}

pub send_done : (S : Setup) (stations : List Station) (links : Chains) (arrivals : List Arrival) (n : ℕ) (xs : List Step) (d : Due) (p : ℕ)
    → IsTurning S stations links arrivals n xs d (Some (turns.Send p)) → d.kind ≡ kinds.Start → (e : TracePacket) → packet_of S p ≡ entering e
    → (rate : ℚ) → ((x : Station) → slice_get stations d.server ≡ Some x → rate ≡ x.rate) → (left : ℚ) → left ≡ int (pos e.bits) /ℚ rate
    → (after : List Station) (w : Stretch) → HasWorked stations after d.server p d.time left w
    → IsSimulating S after links arrivals n (xs ++ steps.Work d.server p d.time w.end w.bits ∷ [])
send_done S stations links arrivals n xs d p h kind e is rate rates left left_is after w on =
    let s = d.server in
    let r = state_after S xs in
    let σ = state_at r s in
    let now = h.due.now in
    let t = h.turned in
    let k = sending S stations links arrivals n xs d p h kind in
    let z = sent S stations links arrivals n xs d p h kind e is rate rates left left_is in
    let same : t.new ≡ on.old = turned_is S stations links arrivals n xs d (Some (turns.Send p)) h on.old on.was in
    let fit : IsFit S s now.grid now.most on.old = subst (λ (y : Station). IsFit S s now.grid now.most y) same z.fit in
    let x = steps.Work s p d.time w.end w.bits in
    let due = work_is_due S now.setup s xs p σ.now (size k.card) d.time left now.grid now.most on.old w z.ready fit z.left_is on.work in
    let n1 : IsNext S r x = first_is_next S now.setup h.before links arrivals n xs d now.running h.due.first x due refl
    (rank_same (work_kind σ.under) (kind_number d.kind) s s 0 d.packet (ap work_kind k.will.idle ∙ sym (ap kind_number kind)) refl (sym k.part)) in
    let card : k.card ≡ card_of S.net r.entered p s = k.here.is ∙ ap (λ q. card_of S.net r.entered q s) k.packet_is in
    let had : size k.card ≡ size k.card -ℚ done_so_far σ.under =
    sym (ap (λ o. size k.card -ℚ done_so_far o) k.will.idle ∙ antisym (with1 (size k.card) (λ c. omega (arith, c.le, c.lt, c.same)))) in
    let stands : StandFor on.old.queues (next (server_at S.net s).discipline σ (Works k.card d.time w.end w.bits)) =
    subst (λ (y : Station). StandFor y.queues (next (server_at S.net s).discipline σ (Works k.card d.time w.end w.bits))) same (k.moved d.time w.end w.bits) in
    let discipline : served_by on.old.queues ≡ (server_at S.net s).discipline =
    ap (λ (y : Station). served_by y.queues) (sym same) ∙ t.discipline ∙ k.keeps.discipline in
    let inside : on.old.inside ≡ length σ.inside = ap (λ (y : Station). y.inside) (sym same) ∙ t.inside ∙ k.keeps.inside in
    let station = worked S now.setup s σ k.card p k.packet_is stations after d.time left w on fit.opening fit.rate inside discipline
    (z.left_is ∙ ap (λ u. u /ℚ rate_of S s) had) stands in
    let own : IsAfter S xs x on.new = (
      subst (λ c. IsStation S s (next (server_at S.net s).discipline σ (Works c d.time w.end w.bits)) on.new) card station,
      ap room_of on.queues ∙ ap (λ (y : Station). room_of y.queues) (sym same) ∙ t.moved.room ∙ now.running.servers.rooms s t.old t.moved.was,
    ) in
    let opening : on.old.opening ≡ t.old.opening = ap (λ (y : Station). y.opening) (sym same) ∙ t.opening in
    let placed : after ≡ set h.before s on.new =
    on.is ∙ ap (λ (ys : List Station). set ys s on.new) t.moved.is ∙ set_twice h.before s t.new on.new in
    simulating_after S h.before links arrivals n xs now s t.old on.new t.moved.was (same_openings t.old.opening on.old.opening on.new.opening opening on.same)
    after placed links arrivals n (xs ++ x ∷ [])
    (work_keeps S now.setup h.before links arrivals n xs now.running s p d.time w.end w.bits n1 on.new own)
