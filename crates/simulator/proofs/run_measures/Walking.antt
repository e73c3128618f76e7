-- From one step to the one before it.
use Rattle.std.specs.Prelude.{Some, ◌≡◌, ℕ, suc, ◌-◌, ◌<◌, ◌≤◌, List, ◌∷◌, length, get_or, slice_get, drop}
use Rattle.std.proofs.Common.{arith, sym, ap, ◌∙◌, subst}
use Rattle.std.proofs.Math.Seq.{drop-cons}
use Rattle.std.proofs.lemmas.Option.{slice_get-get_or, slice_get_within, get_or_from_slice_get}
use Rattle.rational.specs.Rational.{ℚ, neg_ℚ}
use Rattle.rational.specs.Ratio.{SumFits}
use Rattle.run_laws.specs.declared.steps.Step.{Step}
use Rattle.run_laws.specs.declared.steps.Step.TheVariants.{Enter, Reach, Work, Leave, Visit}
use Rattle.run_laws.specs.FlowDelays.{delivered_at}
use Rattle.run_laws.specs.Routes.{Routes, route_of, last_server}
use Rattle.simulator.specs.declared.run_measures.worst.Tally.{Tally}
use Rattle.simulator.specs.run_measures.Numbered.{AreNumberedFrom, flows_in}
use Rattle.simulator.specs.run_measures.Worst.{AreWorst, DelaysFit}
use Rattle.simulator.specs.run_measures.Tallies.{IsTold, Tells, MayTell}
use Rattle.simulator.proofs.run_measures.Numbering.{numbered, fits_from}

step_first : (xs : List Step) (k : ℕ) (x : Step) → k < length xs → x ≡ get_or xs k x → drop k xs ≡ x ∷ drop (suc k) xs
step_first xs k x l e = drop-cons xs k x l ∙ ap (λ y. y ∷ drop (suc k) xs) (sym e)

may_by : (net : Routes) (end : ℚ) (xs : List Step) (many k : ℕ) (v : Tally) → AreNumberedFrom 0 xs → v.flows.items ≡ flows_in xs
    → IsTold net end (drop (suc k) xs) many v → (x : Step) → slice_get xs k ≡ Some x → DelaysFit net end (x ∷ drop (suc k) xs) → MayTell net x v
may_by net end xs many k v n flows told (Reach s p t) at fit = tt
may_by net end xs many k v n flows told (Work s p a b w) at fit = tt
may_by net end xs many k v n flows told (Leave s p t) at fit = fit.0
may_by net end xs many k v n flows told (Visit s q t) at fit = tt
may_by net end xs many k v n flows told (Enter f p t b) at fit =
    let r = numbered 0 xs k f p t b n at in
    let i = r.is in
    let place : p ≡ r.place = omega (arith, i) in
    let flow : slice_get v.flows.items p ≡ Some f = ap (λ (fs : List ℕ). slice_get fs p) flows ∙ ap (slice_get (flows_in xs)) place ∙ r.flow in
    let own : get_or v.flows.items p 0 ≡ f = get_or_from_slice_get v.flows.items p f 0 flow in
    let known = told.at p (slice_get_within v.flows.items p f flow)
    ∙ ap (λ g. delivered_at net end (last_server (route_of net g).hops) p (drop (suc k) xs)) own in
    (flow, subst (λ u. SumFits u (neg_ℚ t)) (sym known) fit.0)

earlier : (net : Routes) (end : ℚ) (xs : List Step) (many place : ℕ) (v : Tally) → 0 < place → IsTold net end (drop place xs) many v
    → IsTold net end (drop (suc (place - 1)) xs) many v
earlier net end xs many place v l told = subst (λ n. IsTold net end (drop n xs) many v) (let f : place ≡ suc (place - 1) = omega (arith, l) in f) told

pub may_tell : (net : Routes) (end : ℚ) (xs : List Step) (many place : ℕ) (v : Tally) (x : Step) → AreNumberedFrom 0 xs → DelaysFit net end xs
    → 0 < place → place ≤ length xs → x ≡ get_or xs (place - 1) x → v.flows.items ≡ flows_in xs → IsTold net end (drop place xs) many v → MayTell net x v
may_tell net end xs many place v x n fits some within is flows told =
    let k = place - 1 in
    let l : k < length xs = omega (arith, some, within) in
    may_by net end xs many k v n flows (earlier net end xs many place v some told) x
    (slice_get-get_or xs k x l ∙ ap (λ y. Some y) (sym is))
    (subst (DelaysFit net end) (step_first xs k x l is) (fits_from net end xs k fits))

pub told_before : (net : Routes) (end : ℚ) (xs : List Step) (many place : ℕ) (v w : Tally) (x : Step) → 0 < place → place ≤ length xs
    → x ≡ get_or xs (place - 1) x → IsTold net end (drop place xs) many v → Tells net x v w → IsTold net end (drop (place - 1) xs) many w
told_before net end xs many place v w x some within is told tells =
    let k = place - 1 in
    let l : k < length xs = omega (arith, some, within) in
    subst (λ ys. IsTold net end ys many w) (sym (step_first xs k x l is)) (tells end (drop (suc k) xs) many (earlier net end xs many place v some told))

pub told_all : (net : Routes) (end : ℚ) (xs : List Step) (many place : ℕ) (v : Tally) → place ≤ 0 → IsTold net end (drop place xs) many v
    → AreWorst net end xs many v.worst.items
told_all net end xs many place v l told =
    (let z : place ≡ 0 = omega (arith, l) in subst (λ n. IsTold net end (drop n xs) many v) z told).largest
