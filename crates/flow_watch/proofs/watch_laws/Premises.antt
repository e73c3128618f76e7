-- A lawful run keeps its premises exactly where it has no breach.
use Rattle.std.specs.Prelude.{◌≡◌, ℕ, zero, suc, ◌<◌, ◌≤◌, ◌==◌, true, false, List, [], ◌∷◌, length}
use Rattle.std.proofs.Common.{arith, refl, sym, subst, inl, inr}
use Rattle.std.proofs.lemmas.Bool.{cases_Bool, cases_lt, eq-eqb, eqb-true, both_ways}
use Rattle.rational.specs.Rational.{ℚ, ◌-ℚ◌}
use Rattle.rational.specs.Extended.{Ext, ◌≤ₑ◌, ◌+ₑ◌}
use Rattle.rational.specs.declared.Extended.TheVariants.{Fin}
use Rattle.upp_curve.specs.Curve.{SpecCurve, value_at}
use Rattle.run_laws.specs.declared.steps.Step.{Step}
use Rattle.run_laws.specs.declared.steps.Step.TheVariants.{Enter, Reach, Work, Leave, Visit}
use Rattle.run_laws.specs.Runs.{SpecRun}
use Rattle.run_laws.specs.Cards.{all}
use Rattle.run_laws.specs.Counts.{worked}
use Rattle.run_laws.specs.Routes.{Routes, server_at}
use Rattle.run_laws.specs.Views.{view}
use Rattle.run_laws.specs.Lawful.{IsLawful}
use Rattle.run_laws.specs.RunPremises.{EnterSizes, KeepsPremises}
use Rattle.run_laws.proofs.Views.{views_are_lawful}
use Rattle.net_model.specs.declared.breach.Breach.{Breach}
use Rattle.net_model.specs.declared.breach.Breach.TheVariants.{Size, Arrival, Service}
use Rattle.flow_watch.specs.declared.watch_laws.entering.Entering.{Entering}
use Rattle.flow_watch.specs.watch_laws.Entries.{entries, entering}
use Rattle.flow_watch.specs.watch_laws.Breaches.{IsBreach, order_key}
use Rattle.flow_watch.specs.watch_laws.Laws.{HaveCurves, PairsSuffice, WatchPointsSuffice, TurnsSuffice, TurnsSufficeWithin, TurnsSufficeBetween, StretchesAreApart, BreachesTell, FirstIsOne}
use Rattle.flow_watch.proofs.watch_laws.Idle.{none_idle, idle_breaks, none_found, found_between, found_in, inside_keeps, apart_or_one}
use Rattle.flow_watch.proofs.watch_laws.Crowds.{window_is, none_crowded, crowded_breaks}
use Rattle.flow_watch.proofs.watch_laws.Entered.{in_order}
use Rattle.flow_watch.proofs.watch_laws.Order.{both_no_later, one_key}
use Rattle.rational.proofs.ExtendedOrder.{not_past}

-- ---- sizes
size_at : (flow n : ℕ) (xs : List Step) (k : ℕ) → EnterSizes flow n xs → k < length (entries flow xs) → (entering (entries flow xs) k).bits ≤ n
size_at flow n [] k h l = absurd (omega arith)
size_at flow n (Enter f p t b ∷ xs) k h l = elim (cases_Bool (f == flow)) [
  | inr e ↦ subst (λ (es : List Entering). (entering es k).bits ≤ n) (sym (other e)) (size_at flow n xs k h.1 (subst (λ (es : List Entering). k < length es) (other e) l))
  | inl e ↦ subst (λ (es : List Entering). (entering es k).bits ≤ n) (sym (own e)) (here (λ j i. size_at flow n xs j h.1 i) k (h.0 (eqb-true f flow e)) (subst (λ (es : List Entering). k < length es) (own e) l))
]
  where
    own : f == flow ≡ true → entries flow (Enter f p t b ∷ xs) ≡ record { time = t; bits = b } ∷ entries flow xs
    own e = rw e refl

    other : f == flow ≡ false → entries flow (Enter f p t b ∷ xs) ≡ entries flow xs
    other e = rw e refl

    here : ((j : ℕ) → j < length (entries flow xs) → (entering (entries flow xs) j).bits ≤ n) → (j : ℕ) → b ≤ n → j < suc (length (entries flow xs)) → (entering (record { time = t; bits = b } ∷ entries flow xs) j).bits ≤ n
    here rest zero m i = m
    here rest (suc j) m i = rest j (omega arith)
size_at flow n (Reach s p t ∷ xs) k h l = size_at flow n xs k h l
size_at flow n (Work s p a b w ∷ xs) k h l = size_at flow n xs k h l
size_at flow n (Leave s p t ∷ xs) k h l = size_at flow n xs k h l
size_at flow n (Visit s q t ∷ xs) k h l = size_at flow n xs k h l

sizes_from : (flow n : ℕ) (xs : List Step) → ((k : ℕ) → k < length (entries flow xs) → (entering (entries flow xs) k).bits ≤ n) → EnterSizes flow n xs
sizes_from flow n [] h = tt
sizes_from flow n (Enter f p t b ∷ xs) h = elim (cases_Bool (f == flow)) [
  | inr e ↦ ((λ is. absurd (both_ways (f == flow) e (eq-eqb f flow is))), sizes_from flow n xs (λ k l. subst (λ (es : List Entering). (entering es k).bits ≤ n) (other e) (h k (subst (λ (es : List Entering). k < length es) (sym (other e)) l))))
  | inl e ↦ (
    (λ is. subst (λ (es : List Entering). (entering es 0).bits ≤ n) (own e) (h 0 (subst (λ (es : List Entering). 0 < length es) (sym (own e)) (omega arith)))),
    sizes_from flow n xs (λ k l. subst (λ (es : List Entering). (entering es (suc k)).bits ≤ n) (own e) (h (suc k) (subst (λ (es : List Entering). suc k < length es) (sym (own e)) (omega arith)))),
  )
]
  where
    own : f == flow ≡ true → entries flow (Enter f p t b ∷ xs) ≡ record { time = t; bits = b } ∷ entries flow xs
    own e = rw e refl

    other : f == flow ≡ false → entries flow (Enter f p t b ∷ xs) ≡ entries flow xs
    other e = rw e refl
sizes_from flow n (Reach s p t ∷ xs) h = sizes_from flow n xs h
sizes_from flow n (Work s p a b w ∷ xs) h = sizes_from flow n xs h
sizes_from flow n (Leave s p t ∷ xs) h = sizes_from flow n xs h
sizes_from flow n (Visit s q t ∷ xs) h = sizes_from flow n xs h

-- ---- the two laws
pub pairs_suffice : PairsSuffice
pairs_suffice net run flow α h k =
    let (x, sorted) = in_order net run flow h in
    let es = entries flow run.steps in (
      λ keeps i j is. crowded_breaks α x es i j sorted is (λ s t l. subst (λ w. Fin w ≤ₑ α (t -ℚ s)) (window_is flow s t run.steps) (keeps s t l)),
      λ none s t l. subst (λ w. Fin w ≤ₑ α (t -ℚ s)) (sym (window_is flow s t run.steps)) (none_crowded α x es k.rising k.nonnegative sorted none s t l),
    )

pub watch_points_suffice : WatchPointsSuffice
watch_points_suffice server end V c h k = (
  λ keeps a b is. idle_breaks end V c a b keeps is,
  λ none. none_idle server end V c h k.normal k.finite k.continuous k.at_zero none,
)

pub turns_suffice : TurnsSuffice
turns_suffice server end V c h k = (
  λ keeps u e a b is l pair. inside_keeps end V c u e a b keeps is l,
  λ all_keep. none_found server end V c h k.normal k.finite k.continuous k.at_zero
      (λ u e p q it. not_past (Fin (worked all V p) +ₑ value_at c (q -ℚ p)) (worked all V q) (all_keep u e p q it.inside it.forward it.pair) it.less),
)

pub turns_suffice_within : TurnsSufficeWithin
turns_suffice_within server end V c u e a b h k is l less =
    let (p, q, it) = found_in server end V c u e a b h k.normal k.finite k.continuous k.at_zero is l less in
    (p, q, it.inside, it.forward, it.pair, it.less)

pub turns_suffice_between : TurnsSufficeBetween
turns_suffice_between server end V c u e a b h k at_u at_e first l last less =
    let (p, q, it) = found_between server end V c u e a b h k.normal k.finite k.continuous k.at_zero at_u at_e first l last less in
    (p, q, it.from, it.forward, it.to, it.pair, it.less)

pub stretches_are_apart : StretchesAreApart
stretches_are_apart = apart_or_one

-- ---- a run
kept : (net : Routes) (packet : ℕ → ℕ) (α : ℕ → ℚ → Ext) (service : ℕ → SpecCurve) (run : SpecRun) → IsLawful net run → HaveCurves net α service
    → KeepsPremises net packet α (λ s. value_at (service s)) run → (x : Breach) → ¬ IsBreach net packet α service run x
kept net packet α service run h k keeps (Size flow p) is =
    let few = size_at flow (packet flow) run.steps p (keeps.sizes flow is.live) is.entered in
    let more = is.more in
    omega arith
kept net packet α service run h k keeps (Arrival flow i j) is = (pairs_suffice net run flow (α flow) h (k.flows flow is.live)).0 (keeps.arrivals flow is.live) i j is.crowded
kept net packet α service run h k keeps (Service s a b) is =
    idle_breaks run.end (view net run s) (service s) a b (keeps.service s is.known) is.idle

unbroken : (net : Routes) (packet : ℕ → ℕ) (α : ℕ → ℚ → Ext) (service : ℕ → SpecCurve) (run : SpecRun) → IsLawful net run → HaveCurves net α service
    → ((x : Breach) → ¬ IsBreach net packet α service run x) → KeepsPremises net packet α (λ s. value_at (service s)) run
unbroken net packet α service run h k none = record {
  sizes = λ flow live. sizes_from flow (packet flow) run.steps (λ p l. elim (cases_lt (packet flow) (entering (entries flow run.steps) p).bits) [
    | inl m ↦ absurd (none (Size flow p) record { live = live; entered = l; more = m })
    | inr m ↦ m
  ]);
  arrivals = λ flow live. (pairs_suffice net run flow (α flow) h (k.flows flow live)).1 (λ i j is. none (Arrival flow i j) record { live = live; crowded = is });
  service = λ s l. (watch_points_suffice (server_at net s) run.end (view net run s) (service s) (views_are_lawful net run s h l) (k.servers s l)).1
      (λ a b is. none (Service s a b) record { known = l; idle = is });
}

pub breaches_tell : BreachesTell
breaches_tell net packet α service run h k = (kept net packet α service run h k, unbroken net packet α service run h k)

pub first_is_one : FirstIsOne
first_is_one net packet α service run x y h k = one_key run x y (both_no_later (order_key run x) (order_key run y) (h.least y k.is) (k.least x h.is))
