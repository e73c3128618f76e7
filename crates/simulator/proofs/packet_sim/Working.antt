-- Steps in which a server works.
use Rattle.std.specs.Prelude.{Some, None, ◌≡◌, ℕ, pos, ◌<◌, List, [], ◌∷◌, ◌++◌, length, slice_get}
use Rattle.std.proofs.Common.{refl, sym, ap, ◌∙◌, subst, arith, inl}
use Rattle.rational.specs.Rational.{ℚ, int, ◌-ℚ◌, ◌*ℚ◌, ◌/ℚ◌, ◌≤ℚ◌, ◌<ℚ◌}
use Rattle.rational.specs.Ratio.{IsSmall}
use Rattle.rational.proofs.Linear.{sub_pos}
use Rattle.run_laws.specs.declared.steps.Step.{Step}
use Rattle.run_laws.specs.declared.steps.Step.TheVariants as steps
use Rattle.run_laws.specs.Cards.{Card, Works, size}
use Rattle.run_laws.specs.Servers.{ServerState, done, done_so_far}
use Rattle.run_laws.specs.Next.{next}
use Rattle.run_laws.specs.Routes.{server_at}
use Rattle.run_laws.specs.Views.{card_of}
use Rattle.run_laws.specs.Lawful.{state_at}
use Rattle.queue_sched.specs.index_links.Chains.{Chains}
use Rattle.net_model.specs.stated_runs.Setups.{Setup, IsSetup, IsFirstOpen, IsStretch, rate_of}
use Rattle.net_model.specs.stated_runs.DueSteps.{IsDue, work_kind}
use Rattle.net_model.specs.stated_runs.Simulated.{IsNext}
use Rattle.net_model.specs.stated_runs.Laws.{state_after}
use Rattle.net_model.specs.stated_runs.TimeGrids.{IsTime, IsGateTime, AreStallTimes}
use Rattle.net_model.proofs.stated_runs.Opens.{stretch_of}
use Rattle.net_model.proofs.stated_runs.Unique.{open_once}
use Rattle.sim_servers.specs.declared.due.Due.{Due}
use Rattle.sim_servers.specs.declared.due.DueKind.TheVariants as kinds
use Rattle.sim_servers.specs.declared.station.Next.{Next}
use Rattle.sim_servers.specs.declared.station.Next.TheVariants.{Resume}
use Rattle.sim_servers.specs.declared.station.Rest.{Rest}
use Rattle.sim_servers.specs.declared.station.Station.{Station}
use Rattle.sim_servers.specs.declared.station.Stretch.{Stretch}
use Rattle.sim_servers.specs.declared.server_queues.ServerQueues.{ServerQueues}
use Rattle.sim_servers.specs.Openings.{opening_for, HasOpened}
use Rattle.sim_servers.specs.Firsts.{kind_number}
use Rattle.sim_servers.specs.Queues.{served_by, StandFor, work_goes_on}
use Rattle.sim_servers.specs.Stations.{IsStation, IsOpeningOf, IsNextOf, WillResume, rest_for, IsWorkOf, IsAfterWork}
use Rattle.sim_servers.proofs.Openings.{same_server}
use Rattle.sim_servers.proofs.StationSteps.{work_next, stretch_there}
use Rattle.sim_servers.specs.declared.sim_states.arrival.Arrival.{Arrival}
use Rattle.sim_servers.specs.sim_states.Laws.{IsAfter}
use Rattle.sim_servers.proofs.sim_states.Firsts.{first_is_next}
use Rattle.sim_servers.proofs.sim_states.Steps.{work_keeps}
use Rattle.sim_servers.specs.sim_loop.Moves.{HasWorked, MayWorkOn}
use Rattle.simulator.specs.packet_sim.Simulating.{IsSimulating, IsFirstDue}
use Rattle.simulator.proofs.packet_sim.Candidates.{at_station, resuming}
use Rattle.simulator.proofs.packet_sim.Common.{rank_same, sound_at, simulating_after}

-- ---- a station that may work from a on, for so long
pub record IsReady (S : Setup) (s : ℕ) (xs : List Step) (p : ℕ) (from bits a : ℚ) : Type 0 where
  pub known : s < length S.net.servers
  pub from_zero : int (pos 0) ≤ℚ from
  pub some : int (pos 0) <ℚ bits
  pub opens : IsFirstOpen S s from a
  pub due : (b w : ℚ) → IsStretch S s from bits a b w → IsDue S (state_after S xs) (steps.Work s p a b w)

pub record IsFit (S : Setup) (s : ℕ) (D : ℕ) (E : ℚ) (y : Station) : Type 0 where
  pub opening : IsOpeningOf S s y.opening
  pub rate : y.rate ≡ rate_of S s
  pub stalls : AreStallTimes D E (opening_for y.opening).stalls

pub may_work : (S : Setup) (stations : List Station) (links : Chains) (arrivals : List Arrival) (n : ℕ) (xs : List Step)
    → (h : IsSimulating S stations links arrivals n xs) (s p : ℕ) (from bits a left : ℚ) (y : Station) → IsReady S s xs p from bits a → IsFit S s h.grid h.most y
    → HasOpened y.opening a → left ≡ bits /ℚ rate_of S s → IsTime h.grid h.most left → MayWorkOn y a left
may_work S stations links arrivals n xs h s p from bits a left y ready fit opened left_is long =
    let rate = h.setup.rates s in
    let o = stretch_of S s rate (h.setup.gates s) from bits ready.from_zero ready.some in
    let here : IsStretch S s from bits a o.1 o.2 = subst (λ u. IsStretch S s from bits u o.1 o.2) (open_once S s from o.0 a o.3.begins ready.opens) o.3 in
    record {
      order = fit.opening.order;
      some = subst (λ u. int (pos 0) <ℚ u) (sym left_is) (Rattle.rational.proofs.Quotients.div_pos bits (rate_of S s) rate ready.some);
      opened = opened;
      room = record {
        grid = h.grid;
        most = h.most;
        room = h.fits.grid.room;
        gate = subst (λ g. IsGateTime h.grid h.most g) (sym fit.opening.gate) (h.fits.grid.gates s);
        stalls = fit.stalls;
        start_is = h.fits.due xs h.running.followed (steps.Work s p a o.1 o.2) (ready.due o.1 o.2 here);
        left_is = long;
        ends = λ e stays.
            let w : Stretch = record { packet = p; start = a; end = e; bits = rate_of S s *ℚ (e -ℚ a) } in
            let work : IsWorkOf (opening_for y.opening) (rate_of S s) p a left w = record { packet = refl; starts = refl; stays = stays; bits = refl } in
            h.fits.ends xs h.running.followed s p a e w.bits
            (ready.due e w.bits (stretch_there S s y.opening p from bits a left w fit.opening rate ready.opens left_is work));
        works = λ x i. subst (λ r. IsSmall (r *ℚ x)) (sym fit.rate) (h.fits.grid.works s x ready.known i);
      };
    }

-- the stretch that it works is the one that is due
pub work_is_due : (S : Setup) → IsSetup S → (s : ℕ) (xs : List Step) (p : ℕ) (from bits a left : ℚ) (D : ℕ) (E : ℚ) (y : Station) (w : Stretch)
    → IsReady S s xs p from bits a → IsFit S s D E y → left ≡ bits /ℚ rate_of S s → IsWorkOf (opening_for y.opening) y.rate p a left w
    → IsDue S (state_after S xs) (steps.Work s p a w.end w.bits)
work_is_due S ok s xs p from bits a left D E y w ready fit left_is work =
    ready.due w.end w.bits (stretch_there S s y.opening p from bits a left w fit.opening (ok.rates s) ready.opens left_is
    (subst (λ r. IsWorkOf (opening_for y.opening) r p a left w) fit.rate work))

-- ---- a station that has worked
pub worked : (S : Setup) → IsSetup S → (s : ℕ) (σ : ServerState) (c : Card) (p : ℕ) → c.packet ≡ p → (before after : List Station) (a left : ℚ) (w : Stretch)
    → (k : HasWorked before after s p a left w) → IsOpeningOf S s k.old.opening → k.old.rate ≡ rate_of S s → k.old.inside ≡ length σ.inside
    → served_by k.old.queues ≡ (server_at S.net s).discipline → left ≡ (size c -ℚ done_so_far σ.under) /ℚ rate_of S s
    → StandFor k.old.queues (next (server_at S.net s).discipline σ (Works c a w.end w.bits))
    → IsStation S s (next (server_at S.net s).discipline σ (Works c a w.end w.bits)) k.new
worked S ok s σ c p same before after a left w k opening rate inside discipline left_is stands =
    let τ = next (server_at S.net s).discipline σ (Works c a w.end w.bits) in
    let fine = same_server S s k.old.opening k.new.opening opening k.same k.order in
    record {
      discipline = ap served_by k.queues ∙ discipline;
      queues = subst (λ (v : ServerQueues). StandFor v τ) (sym k.queues) stands;
      opening = fine;
      rate = k.rate ∙ rate;
      inside = k.inside ∙ inside;
      next = work_next S s (server_at S.net s).discipline σ c a left k.old.opening k.new.opening w k.new.next opening fine (ok.rates s) left_is
          (subst (λ q. IsWorkOf (opening_for k.old.opening) (rate_of S s) q a left w) (sym same)
          (subst (λ r. IsWorkOf (opening_for k.old.opening) r p a left w) rate k.work))
          (subst (λ q. IsAfterWork k.new.opening q a left w k.new.next) (sym same) k.next);
    }

-- ---- work that goes on

no_rest : (r : Rest) → None ≡ Some r → ⊥
no_rest r e = cc

record IsResumingNow (S : Setup) (stations : List Station) (xs : List Step) (d : Due) (rest : Rest) : Type 0 where
  station : Station
  known : d.server < length S.net.servers
  at : slice_get stations d.server ≡ Some station
  keeps : IsStation S d.server (state_at (state_after S xs) d.server) station
  part : d.packet ≡ 0
  will : WillResume S d.server (state_at (state_after S xs) d.server) station.opening rest.packet d.time rest.left
  ready : IsReady S d.server xs rest.packet will.under.last.end (size will.under.card -ℚ done will.under) d.time

resuming_now : (S : Setup) (stations : List Station) (links : Chains) (arrivals : List Arrival) (n : ℕ) (xs : List Step) (d : Due)
    → IsFirstDue S stations links arrivals n xs d → d.kind ≡ kinds.Resume → (rest : Rest)
    → ((x : Station) → slice_get stations d.server ≡ Some x → Some rest ≡ rest_for x.next) → IsResumingNow S stations xs d rest
resuming_now S stations links arrivals n xs d h kind rest is_rest =
    let r = state_after S xs in
    let σ = state_at r d.server in
    let a = at_station S stations links arrivals n (length S.net.servers) d h.first.0
    (λ e. let f : kinds.Resume ≡ kinds.Enter = sym kind ∙ e in cc) (λ e. let f : kinds.Resume ≡ kinds.Reach = sym kind ∙ e in cc) in
    let l = resuming a.station.next d a.due kind in
    let f : Some rest ≡ Some record { packet = l.packet; time = d.time; left = l.left } = is_rest a.station a.at ∙ ap rest_for l.is in
    let g : rest ≡ record { packet = l.packet; time = d.time; left = l.left } = cc in
    let is : a.station.next ≡ Resume rest.packet d.time rest.left =
    l.is ∙ ap (λ q. Resume q d.time l.left) (sym (ap (λ (z : Rest). z.packet) g)) ∙ ap (λ u. Resume rest.packet d.time u) (sym (ap (λ (z : Rest). z.left) g)) in
    let keeps = h.now.running.servers.kept d.server a.station a.at in
    let will : WillResume S d.server σ a.station.opening rest.packet d.time rest.left =
    subst (λ (m : Next). IsNextOf S d.server σ a.station.opening m) is keeps.next in
    let good = ((sound_at S stations links arrivals n xs h.now).good.servers d.server a.known).under will.under will.is_under in
    record {
      station = a.station;
      known = a.known;
      at = a.at;
      keeps = keeps;
      part = l.part;
      will = will;
      ready = record {
        known = a.known;
        from_zero = good.from_zero;
        some = sub_pos (done will.under) (size will.under.card) will.not_done;
        opens = will.opens;
        due = λ b w k. (
          a.known,
          inl record { under = will.under; is_under = will.is_under; packet_is = will.packet_is; not_done = will.not_done; stretch = k },
        );
      };
    }

pub record MayWorkAt (stations : List Station) (s : ℕ) (a left : ℚ) : Type 0 where
  pub known : s < length stations
  pub may : (x : Station) → slice_get stations s ≡ Some x → MayWorkOn x a left

pub resume_some : (S : Setup) (stations : List Station) (links : Chains) (arrivals : List Arrival) (n : ℕ) (xs : List Step) (d : Due)
    → IsFirstDue S stations links arrivals n xs d → d.kind ≡ kinds.Resume → ((x : Station) → slice_get stations d.server ≡ Some x → None ≡ rest_for x.next) → ⊥
resume_some S stations links arrivals n xs d h kind none =
    let a = at_station S stations links arrivals n (length S.net.servers) d h.first.0
    (λ e. let f : kinds.Resume ≡ kinds.Enter = sym kind ∙ e in cc) (λ e. let f : kinds.Resume ≡ kinds.Reach = sym kind ∙ e in cc) in
    let l = resuming a.station.next d a.due kind in
    no_rest record { packet = l.packet; time = d.time; left = l.left } (none a.station a.at ∙ ap rest_for l.is)

pub resume_known : (S : Setup) (stations : List Station) (links : Chains) (arrivals : List Arrival) (n : ℕ) (xs : List Step) (d : Due)
    → IsFirstDue S stations links arrivals n xs d → d.kind ≡ kinds.Resume → d.server < length stations
resume_known S stations links arrivals n xs d h kind =
    let a = at_station S stations links arrivals n (length S.net.servers) d h.first.0
    (λ e. let f : kinds.Resume ≡ kinds.Enter = sym kind ∙ e in cc) (λ e. let f : kinds.Resume ≡ kinds.Reach = sym kind ∙ e in cc) in
    let known = a.known in
    let many = h.now.running.servers.many in
    omega (arith, known, many)

pub resume_may : (S : Setup) (stations : List Station) (links : Chains) (arrivals : List Arrival) (n : ℕ) (xs : List Step) (d : Due)
    → IsFirstDue S stations links arrivals n xs d → d.kind ≡ kinds.Resume → (rest : Rest)
    → ((x : Station) → slice_get stations d.server ≡ Some x → Some rest ≡ rest_for x.next) → MayWorkAt stations d.server d.time rest.left
resume_may S stations links arrivals n xs d h kind rest is_rest =
    let k = resuming_now S stations links arrivals n xs d h kind rest is_rest in
    let u = k.will.under in
    let long : IsTime h.now.grid h.now.most rest.left =
    subst (λ t. IsTime h.now.grid h.now.most t) (sym k.will.left_is) (h.now.fits.left xs h.now.running.followed d.server k.known u k.will.is_under) in
    record {
      known = resume_known S stations links arrivals n xs d h kind;
      may = λ y at.
          let f : Some k.station ≡ Some y = sym k.at ∙ at in
          let same : k.station ≡ y = cc in
          subst (λ (z : Station). MayWorkOn z d.time rest.left) same
          (may_work S stations links arrivals n xs h.now d.server rest.packet u.last.end (size u.card -ℚ done u) d.time rest.left k.station k.ready
          record { opening = k.keeps.opening; rate = k.keeps.rate; stalls = h.now.stalls d.server k.station k.at } k.will.opened k.will.left_is long);
    }

pub resume_done : (S : Setup) (stations : List Station) (links : Chains) (arrivals : List Arrival) (n : ℕ) (xs : List Step) (d : Due)
    → IsFirstDue S stations links arrivals n xs d → d.kind ≡ kinds.Resume → (rest : Rest)
    → ((x : Station) → slice_get stations d.server ≡ Some x → Some rest ≡ rest_for x.next)
    → (after : List Station) (w : Stretch) → HasWorked stations after d.server rest.packet d.time rest.left w
    → IsSimulating S after links arrivals n (xs ++ steps.Work d.server rest.packet d.time w.end w.bits ∷ [])
resume_done S stations links arrivals n xs d h kind rest is_rest after w worked_on =
    let r = state_after S xs in
    let s = d.server in
    let σ = state_at r s in
    let k = resuming_now S stations links arrivals n xs d h kind rest is_rest in
    let u = k.will.under in
    let keeps : IsStation S s σ worked_on.old = h.now.running.servers.kept s worked_on.old worked_on.was in
    let fit : IsFit S s h.now.grid h.now.most worked_on.old =
    record { opening = keeps.opening; rate = keeps.rate; stalls = h.now.stalls s worked_on.old worked_on.was } in
    let due = work_is_due S h.now.setup s xs rest.packet u.last.end (size u.card -ℚ done u) d.time rest.left h.now.grid h.now.most worked_on.old w k.ready fit
    k.will.left_is worked_on.work in
    let x = steps.Work s rest.packet d.time w.end w.bits in
    let n1 : IsNext S r x = first_is_next S h.now.setup stations links arrivals n xs d h.now.running h.first x due refl
    (rank_same (work_kind σ.under) (kind_number d.kind) s s 0 d.packet (ap work_kind k.will.is_under ∙ sym (ap kind_number kind)) refl (sym k.part)) in
    let good = ((sound_at S stations links arrivals n xs h.now).good.servers s k.known).under u k.will.is_under in
    let card : u.card ≡ card_of S.net r.entered rest.packet s = good.card.is ∙ ap (λ q. card_of S.net r.entered q s) k.will.packet_is in
    let left_is : rest.left ≡ (size u.card -ℚ done_so_far σ.under) /ℚ rate_of S s =
    k.will.left_is ∙ ap (λ o. (size u.card -ℚ done_so_far o) /ℚ rate_of S s) (sym k.will.is_under) in
    let stands : StandFor worked_on.old.queues (next (server_at S.net s).discipline σ (Works u.card d.time w.end w.bits)) =
    subst (λ j. StandFor worked_on.old.queues (next j σ (Works u.card d.time w.end w.bits))) keeps.discipline
    (work_goes_on worked_on.old.queues σ u d.time w.end w.bits keeps.queues k.will.is_under) in
    let station = worked S h.now.setup s σ u.card rest.packet k.will.packet_is stations after d.time rest.left w worked_on keeps.opening keeps.rate keeps.inside keeps.discipline left_is stands in
    let own : IsAfter S xs x worked_on.new = (
      subst (λ c. IsStation S s (next (server_at S.net s).discipline σ (Works c d.time w.end w.bits)) worked_on.new) card station,
      ap Rattle.sim_servers.specs.Queues.room_of worked_on.queues ∙ h.now.running.servers.rooms s worked_on.old worked_on.was,
    ) in
    simulating_after S stations links arrivals n xs h.now s worked_on.old worked_on.new worked_on.was worked_on.same after worked_on.is links arrivals n
    (xs ++ x ∷ [])
    (work_keeps S h.now.setup stations links arrivals n xs h.now.running s rest.packet d.time w.end w.bits n1 worked_on.new own)
