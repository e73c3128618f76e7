-- What is left at the end of a recorded run, by the walk.
use Rattle.std.proofs.Common.{◌≡◌, ℕ, zero, suc, ◌<◌, List, [], ◌∷◌, length, get_or, refl, sym, ap, ◌∙◌, subst, arith, inl, inr, Some, None}
use Rattle.std.specs.Prelude.{Option, slice_get, Bool, IsTrue, ◌↔◌, true, false}
use Rattle.std.specs.List.{Any, All}
use Rattle.std.proofs.lemmas.Option.{slice_get-get_or, get_or_from_slice_get}
use Rattle.rational.specs.Rational.{ℚ}
use Rattle.rational.proofs.Linear.{with3}
use Rattle.run_laws.specs.declared.steps.Step.{Step}
use Rattle.run_laws.specs.Cards.{size}
use Rattle.run_laws.specs.Servers.{ServerState, Under, Fifo, start, done}
use Rattle.run_laws.specs.Allows.{IsComplete}
use Rattle.run_laws.specs.Routes.{Routes}
use Rattle.run_laws.specs.Lawful.{Due, RunState, state_at}
use Rattle.net_model.proofs.stated_runs.Lists.{at_in, in_contains}
use Rattle.run_packets.specs.declared.place.Place.{Place}
use Rattle.run_packets.specs.declared.place.Place.TheVariants.{At, OnLink, Gone}
use Rattle.run_check.specs.broken_laws.FirstBroken.{IsUnfinished}
use Rattle.run_check.specs.broken_laws.Tracked.{place_of}
use Rattle.run_packets.specs.declared.underway.Underway.{Underway}
use Rattle.run_check.specs.declared.site.Site.{Site}
use Rattle.run_check.specs.declared.walk.Walk.{Walk}
use Rattle.run_check.specs.Sites.{AreUnder}
use Rattle.run_packets.specs.Works.{is_worked_off}
use Rattle.run_packets.specs.Places.{IsLate}
use Rattle.run_check.specs.Walks.{Keeps}
use Rattle.run_check.proofs.ReachRows.{some_site}

-- ---- links
at_place : (places : List Place) (k : ℕ) (x : Place) → k < length places → get_or places k x ≡ x → place_of places k ≡ x
at_place [] k x l e = absurd (omega (arith, l))
at_place (y ∷ ys) zero x l e = e
at_place (y ∷ ys) (suc k) x l e = at_place ys k x (omega (arith, l)) e

pub late_unfinished : (net : Routes) (room grid : ℕ) (most : ℚ) (before : List Step) (r : RunState) (w : Walk) (end : ℚ) → Keeps net room grid most before r w
    → Any (IsLate end) w.places.items → IsUnfinished end r
late_unfinished net room grid most before r w end h (k, x, l, e, late) = go x (at_place w.places.items k x l e) late
  where
    go : (x : Place) → place_of w.places.items k ≡ x → IsLate end x → IsUnfinished end r
    go (At s) i z = absurd z
    go Gone i z = absurd z
    go (OnLink s t) i z =
        let d : Due = record { packet = k; server = s; time = t } in
        let c = in_contains r.due d (h.tracked.links s k t i) in
        inl (c.0, d, c.1, c.2, z)

-- ---- servers
complete_of : (o : Option Under) (v : Option Underway) → AreUnder o v → is_worked_off v → IsComplete o
complete_of None None h z = z
complete_of None (Some v) h z = absurd h
complete_of (Some u) None h z = absurd h
complete_of (Some u) (Some v) h z = let l = h.left in with3 v.left (size u.card) (done u) (λ c. omega (arith, c.le, c.lt, c.same))

of_complete : (o : Option Under) (v : Option Underway) → AreUnder o v → IsComplete o → is_worked_off v
of_complete None v h z = absurd z
of_complete (Some u) None h z = absurd h
of_complete (Some u) (Some v) h z = let l = h.left in with3 v.left (size u.card) (done u) (λ c. omega (arith, c.le, c.lt, c.same))

default_same : {X : Type 0} (xs : List X) (k : ℕ) (d e : X) → k < length xs → get_or xs k d ≡ get_or xs k e
default_same [] k d e l = absurd (omega (arith, l))
default_same (x ∷ xs) zero d e l = refl
default_same (x ∷ xs) (suc k) d e l = default_same xs k d e (omega (arith, l))

found_site : (xs : List Site) (k : ℕ) (x : Site) → k < length xs → get_or xs k x ≡ x → slice_get xs k ≡ Some x
found_site xs k x l e = slice_get-get_or xs k x l ∙ ap Some e

pub complete_unfinished : (net : Routes) (room grid : ℕ) (most : ℚ) (before : List Step) (r : RunState) (w : Walk) (end : ℚ) → Keeps net room grid most before r w
    → Any (λ x. is_worked_off x.under) w.sites.items → IsUnfinished end r
complete_unfinished net room grid most before r w end h (k, x, l, e, z) =
    let site = h.sites k x (found_site w.sites.items k x l e) in
    let many = h.many in
    let also = h.tracked.many in
    let within : k < length r.servers = omega (arith, l, many, also) in
    inr (k, state_at r k, within, default_same r.servers k (state_at r k) (start Fifo) within, complete_of (state_at r k).under x.under site.under z)

pub finished : (net : Routes) (room grid : ℕ) (most : ℚ) (before : List Step) (r : RunState) (w : Walk) (end : ℚ) → Keeps net room grid most before r w
    → All (λ x. ¬ IsLate end x) w.places.items → All (λ x. ¬ is_worked_off x.under) w.sites.items → ¬ IsUnfinished end r
finished net room grid most before r w end h none whole (inl (k, d, l, e, late)) =
    let way = h.tracked.dues d (at_in r.due k d d l e) in
    let long = h.tracked.long in
    let known = way.entered_one in
    let there : d.packet < length w.places.items = omega (arith, known, long) in
    none d.packet Gone there (subst (IsLate end) (sym way.place) late)
finished net room grid most before r w end h none whole (inr (k, σ, l, e, complete)) =
    let many = h.many in
    let also = h.tracked.many in
    let within : k < length w.sites.items = omega (arith, l, many, also) in
    let (x, at) = some_site w.sites.items k within in
    let state : state_at r k ≡ σ = default_same r.servers k (start Fifo) σ l ∙ e in
    let here = of_complete (state_at r k).under x.under (h.sites k x at).under (subst (λ (y : ServerState). IsComplete y.under) (sym state) complete) in
    whole k x within (subst (λ (y : Site). is_worked_off y.under) (sym (get_or_from_slice_get w.sites.items k x x at)) here)

-- ---- tests
pub unfinished_test : (net : Routes) (room grid : ℕ) (most : ℚ) (before : List Step) (r : RunState) (w : Walk) (end : ℚ) (b : Bool) → Keeps net room grid most before r w
    → All (λ x. ¬ IsLate end x) w.places.items → (b ≡ true → Any (λ x. is_worked_off x.under) w.sites.items) → (b ≡ false → All (λ x. ¬ is_worked_off x.under) w.sites.items)
    → (IsTrue b ↔ IsUnfinished end r)
unfinished_test net room grid most before r w end true h none some all = (λ t. complete_unfinished net room grid most before r w end h (some refl), λ u. refl)
unfinished_test net room grid most before r w end false h none some all =
    (λ t. absurd (let f : false ≡ true = t in cc), λ u. absurd (finished net room grid most before r w end h none (all refl) u))
