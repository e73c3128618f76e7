-- Runs over paths are runs in which a packet goes on at one next server at most, and so keep the laws of those.
use Rattle.std.specs.Prelude.{Option, Some, None, ◌≡◌, ◌≢◌, ◌≤◌, ℕ, suc, ◌==◌, true, List, [], ◌∷◌, ◌++◌, All}
use Rattle.std.proofs.Common.{arith, sym, ap, ◌∙◌, refl, inl, inr, subst}
use Rattle.std.proofs.lemmas.Bool.{cases_Bool, eqb-true, eq-eqb, ne_eqb}
use Rattle.rational.specs.Rational.{ℚ, ◌+ℚ◌, ◌-ℚ◌, ◌<ℚ◌, ◌≤ℚ◌}
use Rattle.rational.specs.Extended.{Ext, ◌+ₑ◌}
use Rattle.rational.specs.declared.Extended.TheVariants.{Fin}
use Rattle.run_laws.specs.declared.steps.Step.{Step}
use Rattle.run_laws.specs.declared.steps.Step.TheVariants.{Enter, Reach, Work, Leave, Visit}
use Rattle.run_laws.specs.Runs.{SpecRun}
use Rattle.run_laws.specs.Allows.{IsComplete}
use Rattle.run_laws.specs.Cards.{of_flow}
use Rattle.run_laws.specs.Counts.{arrived_in, departed_in}
use Rattle.run_laws.specs.Delays.{AreAtMost, kept}
use Rattle.run_laws.specs.FlowDelays.{delivered_at, delays_from, delays}
use Rattle.run_laws.specs.Rounds.{count_of}
use Rattle.run_laws.specs.Routes.{Hop, Routes, route_of, server_at, link_at, PassesServer, first_of, first_server, last_server, server_after}
use Rattle.run_laws.specs.Views.{entry_of, hops_of, view}
use Rattle.run_laws.specs.Lawful.{Due, RunState, sent, next_due, next_run, IsKnown, AllAllowedInRun, after_run, run_start, IsLawful}
use Rattle.run_laws.proofs.Classes.{output_from_delay}
use Rattle.run_laws.proofs.Delay.{kept_most}
use Rattle.run_laws.proofs.Entries.{passes_next}
use Rattle.run_laws.proofs.Views.{views_are_lawful}
use Rattle.net_laws.specs.Multicast.{NextServers, sent_to, next_due_by, next_run_by, AllAllowedBy, after_run_by, IsLawfulBy, delays_to_from, listed, path_next_servers, PathRunsAreMulticast}
use Rattle.net_laws.proofs.Arcs.{IsArc, IsRoot, IsReachedIn, IsSpanned, IsWalk}
use Rattle.net_laws.specs.Laws.{IsLink, LinkCarries, NextKeeps}
use Rattle.net_laws.specs.Once.{IsOverPaths, NoneArrivesTwice, ClassLeavesByDelay}
use Rattle.net_laws.specs.Paths.{IsPath, IsServedAlong, links_along, StaysAtMost, sum_along}
use Rattle.run_laws.specs.Premises.{KeepsArrivals}
use Rattle.net_laws.specs.PathLaws.{PathIsServed, DelayFromPathService, DelayFromHops}
use Rattle.net_laws.proofs.Dues.{AreLive, live_next}
use Rattle.net_laws.proofs.Links.{arc_carries, arc_window, arc_keeps}
use Rattle.net_laws.proofs.Paths.{after_passes, link_of_path, rest_of_path, one_further}
use Rattle.net_laws.proofs.Once.{none_twice_by}
use Rattle.net_laws.proofs.Walks.{walk_is_served}
use Rattle.net_laws.proofs.Ends.{delays_along, delays_by_service}

-- ---- a packet goes to the same servers
abbrev pub GoesAsPath : Routes → NextServers → Type 0
GoesAsPath net to = (i s : ℕ) → (route_of net i).live ≡ true → to i s ≡ listed (server_after s (route_of net i).hops)

sent_listed : (y : Option ℕ) (p : ℕ) (t : ℚ) (due : List Due) → sent y p t due ≡ sent_to (listed y) p t due
sent_listed None p t due = refl
sent_listed (Some s) p t due = refl

same_due_list : (net : Routes) (to : NextServers) (r : RunState) (x : Step) → GoesAsPath net to → AreLive net r.entered → IsKnown net r x
    → next_due net r x ≡ next_due_by net to r x
same_due_list net to r (Enter f p t b) same live known = refl
same_due_list net to r (Reach s p t) same live known = refl
same_due_list net to r (Work s p a b w) same live known = refl
same_due_list net to r (Leave s p t) same live known =
    sent_listed (server_after s (hops_of net r.entered p)) p (t +ℚ link_at net s) r.due
    ∙ ap (λ (ss : List ℕ). sent_to ss p (t +ℚ link_at net s) r.due) (sym (same (entry_of r.entered p).flow s (live p known.has_entered)))
same_due_list net to r (Visit s q t) same live known = refl

same_next : (net : Routes) (to : NextServers) (r : RunState) (x : Step) → GoesAsPath net to → AreLive net r.entered → IsKnown net r x
    → next_run net r x ≡ next_run_by net to r x
same_next net to r x same live known =
    ap (λ (ds : List Due). record { entered = (next_run net r x).entered; servers = (next_run net r x).servers; due = ds })
    (same_due_list net to r x same live known)

-- ---- so runs are lawful in the same way
record IsSame (net : Routes) (to : NextServers) (r : RunState) (xs : List Step) (Allowed : Type 0) : Type 0 where
  allowed : Allowed
  state : after_run net r xs ≡ after_run_by net to r xs

of_path : (net : Routes) (to : NextServers) (end : ℚ) (r : RunState) (xs : List Step) → GoesAsPath net to → AreLive net r.entered
    → AllAllowedInRun net end r xs → IsSame net to r xs (AllAllowedBy net to end r xs)
of_path net to end r [] same live a = record { allowed = tt; state = refl }
of_path net to end r (x ∷ xs) same live a =
    let s = same_next net to r x same live a.0.known in
    let k = of_path net to end (next_run net r x) xs same (live_next net r x a.0.known live) a.1 in
    record {
      allowed = (a.0, subst (λ (q : RunState). AllAllowedBy net to end q xs) s k.allowed);
      state = k.state ∙ ap (λ (q : RunState). after_run_by net to q xs) s;
    }

of_tree : (net : Routes) (to : NextServers) (end : ℚ) (r : RunState) (xs : List Step) → GoesAsPath net to → AreLive net r.entered
    → AllAllowedBy net to end r xs → IsSame net to r xs (AllAllowedInRun net end r xs)
of_tree net to end r [] same live a = record { allowed = tt; state = refl }
of_tree net to end r (x ∷ xs) same live a =
    let s = same_next net to r x same live a.0.known in
    let k = of_tree net to end (next_run_by net to r x) xs same (live_next net r x a.0.known live) a.1 in
    record {
      allowed = (a.0, subst (λ (q : RunState). AllAllowedInRun net end q xs) (sym s) k.allowed);
      state = ap (λ (q : RunState). after_run net q xs) s ∙ k.state;
    }

none_yet : (net : Routes) → AreLive net []
none_yet net p l = absurd (omega (arith, l))

pub lawful_of_path : (net : Routes) (to : NextServers) (run : SpecRun) → GoesAsPath net to → IsLawful net run → IsLawfulBy net to run
lawful_of_path net to run same lawful =
    let k = of_path net to run.end (run_start net) run.steps same (none_yet net) lawful.allowed in
    record {
      allowed = k.allowed;
      none_complete = subst (λ (r : RunState). All (λ s. ¬ IsComplete s.under) r.servers) k.state lawful.none_complete;
      none_overdue = subst (λ (r : RunState). All (λ d. run.end <ℚ d.time) r.due) k.state lawful.none_overdue;
    }

pub lawful_of_tree : (net : Routes) (to : NextServers) (run : SpecRun) → GoesAsPath net to → IsLawfulBy net to run → IsLawful net run
lawful_of_tree net to run same lawful =
    let k = of_tree net to run.end (run_start net) run.steps same (none_yet net) lawful.allowed in
    record {
      allowed = k.allowed;
      none_complete = subst (λ (r : RunState). All (λ s. ¬ IsComplete s.under) r.servers) (sym k.state) lawful.none_complete;
      none_overdue = subst (λ (r : RunState). All (λ d. run.end <ℚ d.time) r.due) (sym k.state) lawful.none_overdue;
    }

pub path_runs_are_multicast : PathRunsAreMulticast
path_runs_are_multicast net run = record {
  of_path = lawful_of_path net (path_next_servers net) run (λ i s live. refl);
  of_multicast = lawful_of_tree net (path_next_servers net) run (λ i s live. refl);
}

-- ---- links
none_listed : (b : ℕ) (y : Option ℕ) → y ≢ Some b → count_of b (listed y) ≡ 0
none_listed b None n = refl
none_listed b (Some s) n = rw (ne_eqb s b (λ e. n (ap (λ (k : ℕ). Some k) e))) (omega arith)

pub some_listed : (b : ℕ) (y : Option ℕ) → 1 ≤ count_of b (listed y) → y ≡ Some b
some_listed b None l = absurd (omega arith)
some_listed b (Some s) l = elim (cases_Bool (s == b)) [
  | inl e ↦ ap (λ (k : ℕ). Some k) (eqb-true s b e)
  | inr e ↦ let none : 1 ≤ 0 = rw e at l in absurd (omega arith)
]

pub arc_of_link : (net : Routes) (i a b : ℕ) → IsLink net i a b → IsArc net (path_next_servers net) i a b
arc_of_link net i a b link = record {
  next = ap (λ (y : Option ℕ). count_of b (listed y)) link.next ∙ rw (eq-eqb b b refl) refl;
  not_first = link.not_first;
  only = λ c n. none_listed b (server_after c (route_of net i).hops) (λ e. n (link.only c e));
}

as_multicast : (net : Routes) (run : SpecRun) → IsLawful net run → IsLawfulBy net (path_next_servers net) run
as_multicast net run lawful = (path_runs_are_multicast net run).of_path lawful

pub link_carries : LinkCarries
link_carries net run flow a b t lawful link l =
    arc_carries net (path_next_servers net) run flow a b t (as_multicast net run lawful) (arc_of_link net flow a b link) l

pub link_window : (net : Routes) (run : SpecRun) (i a b : ℕ) (s t : ℚ) → IsLawful net run → IsLink net i a b
    → arrived_in (of_flow i) (view net run b) s t ≤ℚ departed_in (of_flow i) (view net run a) (s -ℚ link_at net a) (t -ℚ link_at net a)
link_window net run i a b s t lawful link =
    arc_window net (path_next_servers net) run i a b s t (as_multicast net run lawful) (arc_of_link net i a b link)

pub next_keeps : NextKeeps
next_keeps net run flow a b out lawful link leaves_so =
    arc_keeps net (path_next_servers net) run flow a b out (as_multicast net run lawful) (arc_of_link net flow a b link) leaves_so

-- ---- paths are walks
walk_of_path : (net : Routes) (i : ℕ) (done hs : List Hop) → IsPath net (route_of net i).hops → (route_of net i).hops ≡ done ++ hs
    → IsWalk net (path_next_servers net) i hs
walk_of_path net i done [] path is = tt
walk_of_path net i done (h ∷ []) path is = let p = rest_of_path net i done (h ∷ []) path is in (p.0, p.1)
walk_of_path net i done (h ∷ g ∷ hs) path is =
    let p = rest_of_path net i done (h ∷ g ∷ hs) path is in (
      p.0,
      p.1,
      arc_of_link net i h.server g.server (link_of_path net i done h g hs path is),
      walk_of_path net i (done ++ h ∷ []) (g ∷ hs) path (one_further net i done h (g ∷ hs) is),
    )

path_root : (net : Routes) (i : ℕ) (h : Hop) (hs : List Hop) → IsPath net (route_of net i).hops → (route_of net i).hops ≡ h ∷ hs
    → IsRoot net (path_next_servers net) i h.server
path_root net i h hs path is = record {
  first = ap first_server is;
  never_again = λ a. none_listed h.server (server_after a (route_of net i).hops)
      (λ e. (subst (IsPath net) is path).2 (after_passes a h.server h hs (ap (server_after a) (sym is) ∙ e)));
}

reached_on : (net : Routes) (i n s : ℕ) (done : List Hop) (h : Hop) (hs : List Hop) → IsPath net (route_of net i).hops
    → (route_of net i).hops ≡ done ++ h ∷ hs → IsReachedIn net (path_next_servers net) i n h.server → PassesServer s (h ∷ hs)
    → (m : ℕ) × IsReachedIn net (path_next_servers net) i m s
reached_on net i n s done h hs path is r (inl e) = (n, subst (IsReachedIn net (path_next_servers net) i n) e r)
reached_on net i n s done h [] path is r (inr p) = absurd p
reached_on net i n s done h (g ∷ hs) path is r (inr p) =
    let known = (rest_of_path net i done (h ∷ g ∷ hs) path is).0 in
    let arc = arc_of_link net i h.server g.server (link_of_path net i done h g hs path is) in
    reached_on net i (suc n) s (done ++ h ∷ []) g hs path (one_further net i done h (g ∷ hs) is) (h.server, (known, arc, r)) p

reached_from : (net : Routes) (i s : ℕ) (hs : List Hop) → IsPath net (route_of net i).hops → (route_of net i).hops ≡ hs → PassesServer s hs
    → (m : ℕ) × IsReachedIn net (path_next_servers net) i m s
reached_from net i s [] path is p = absurd p
reached_from net i s (h ∷ hs) path is p = reached_on net i 0 s [] h hs path is (path_root net i h hs path is) p

pub spanned_by_paths : (net : Routes) → IsOverPaths net → IsSpanned net (path_next_servers net)
spanned_by_paths net paths = record {
  inside = λ i a b l. passes_next a b (route_of net i).hops (some_listed b (server_after a (route_of net i).hops) l);
  reached = λ i live s p. reached_from net i s (route_of net i).hops (paths i live) refl p;
}

pub none_arrives_twice : NoneArrivesTwice
none_arrives_twice net run s lawful paths = none_twice_by net (path_next_servers net) run s (as_multicast net run lawful) (spanned_by_paths net paths)

pub class_leaves_by_delay : ClassLeavesByDelay
class_leaves_by_delay net run s C queue α d a b lawful paths inside own keeps on most l =
    output_from_delay (server_at net s) run.end (view net run s) C queue α d a b
    (views_are_lawful net run s lawful inside)
    (none_arrives_twice net run s lawful paths) own keeps on most l

pub path_is_served : PathIsServed
path_is_served net run i γ curves lawful path serves within t l =
    walk_is_served net (path_next_servers net) run i (route_of net i).hops γ curves (as_multicast net run lawful) (walk_of_path net i [] (route_of net i).hops path refl) serves within t l

-- ---- delays from end to end
same_delays : (net : Routes) (i : ℕ) (end : ℚ) (xs : List Step)
    → delays_to_from net i (last_server (route_of net i).hops) end xs ≡ delays_from net i end xs
same_delays net i end [] = refl
same_delays net i end (Enter f p t b ∷ xs) = elim (cases_Bool (f == i)) [
  | inl e ↦
      ap (λ (j : ℕ). kept (f == i) (delivered_at net end (last_server (route_of net j).hops) p xs -ℚ t) (delays_to_from net i (last_server (route_of net i).hops) end xs)) (sym (eqb-true f i e))
      ∙ ap (λ (ys : List ℚ). kept (f == i) (delivered_at net end (last_server (route_of net f).hops) p xs -ℚ t) ys) (same_delays net i end xs)
  | inr e ↦ rw e (same_delays net i end xs)
]
same_delays net i end (Reach s p t ∷ xs) = same_delays net i end xs
same_delays net i end (Work s p a b w ∷ xs) = same_delays net i end xs
same_delays net i end (Leave s p t ∷ xs) = same_delays net i end xs
same_delays net i end (Visit s q t ∷ xs) = same_delays net i end xs

-- no packet enters on a flow without a path
no_delays : (net : Routes) (end : ℚ) (r : RunState) (xs : List Step) (i : ℕ) (most : Ext) → (route_of net i).hops ≡ [] → AllAllowedInRun net end r xs
    → AreAtMost most (delays_from net i end xs)
no_delays net end r [] i most is a = tt
no_delays net end r (Enter f p t b ∷ xs) i most is a =
    kept_most (f == i) (delivered_at net end (last_server (route_of net f).hops) p xs -ℚ t) (delays_from net i end xs) most
    (λ e. absurd (no_path (ap first_of (sym is ∙ ap (λ (j : ℕ). (route_of net j).hops) (sym (eqb-true f i e))) ∙ a.0.known.has_path)))
    (no_delays net end (next_run net r (Enter f p t b)) xs i most is a.1)
  where
    no_path : {s : ℕ} → first_of [] ≡ Some s → ⊥
    no_path e = cc
no_delays net end r (Reach s p t ∷ xs) i most is a = no_delays net end (next_run net r (Reach s p t)) xs i most is a.1
no_delays net end r (Work s p c b w ∷ xs) i most is a = no_delays net end (next_run net r (Work s p c b w)) xs i most is a.1
no_delays net end r (Leave s p t ∷ xs) i most is a = no_delays net end (next_run net r (Leave s p t)) xs i most is a.1
no_delays net end r (Visit s q t ∷ xs) i most is a = no_delays net end (next_run net r (Visit s q t)) xs i most is a.1

-- what holds of walks holds of the path
of_whole : (net : Routes) (run : SpecRun) (i : ℕ) (hs : List Hop) (most : Ext) → IsLawful net run → (route_of net i).hops ≡ hs
    → ((h : Hop) (gs : List Hop) → hs ≡ h ∷ gs → AreAtMost most (delays_to_from net i (last_server hs) run.end run.steps))
    → AreAtMost most (delays net run i)
of_whole net run i [] most lawful is f = no_delays net run.end (run_start net) run.steps i most is lawful.allowed
of_whole net run i (h ∷ hs) most lawful is f =
    subst (AreAtMost most) (same_delays net i run.end run.steps)
    (subst (λ (gs : List Hop). AreAtMost most (delays_to_from net i (last_server gs) run.end run.steps)) (sym is) (f h hs refl))

pub delay_from_hops : DelayFromHops
delay_from_hops net run i stays lawful path most =
    let hops = (route_of net i).hops in
    of_whole net run i hops (sum_along net hops stays) lawful refl
    (λ h gs is.
    let walk = walk_of_path net i [] hops path refl in
    subst (λ (hs : List Hop). AreAtMost (sum_along net hs stays) (delays_to_from net i (last_server hs) run.end run.steps)) (sym is)
    (delays_along net (path_next_servers net) run i h gs stays (as_multicast net run lawful) (ap first_server is) (subst (IsWalk net (path_next_servers net) i) is walk)
    (subst (λ (hs : List Hop). StaysAtMost net run i hs stays) is most)))

pub delay_from_path_service : DelayFromPathService
delay_from_path_service net run i α γ delay curves lawful path keeps serves within rises dev =
    let hops = (route_of net i).hops in
    of_whole net run i hops (delay +ₑ Fin (links_along net hops)) lawful refl
    (λ h gs is.
    let walk = walk_of_path net i [] hops path refl in
    subst (λ (hs : List Hop). AreAtMost (delay +ₑ Fin (links_along net hs)) (delays_to_from net i (last_server hs) run.end run.steps)) (sym is)
    (delays_by_service net (path_next_servers net) run i h gs α γ delay curves (as_multicast net run lawful) (ap first_server is) (subst (IsWalk net (path_next_servers net) i) is walk)
    (subst (λ (s : ℕ). KeepsArrivals (of_flow i) α (view net run s)) (ap first_server is) keeps)
    (subst (λ (hs : List Hop). IsServedAlong net run i hs curves) is serves) within rises dev))
