-- A recorded run is lawful exactly where it breaks no law, and breaks one law first.
use Rattle.std.proofs.Common.{◌≡◌, ℕ, zero, suc, ◌<◌, List, [], ◌∷◌, ◌++◌, length, take, get_or, refl, sym, ap, ◌∙◌, subst, arith, inl, inr, ◌⊎◌, Some, append_assoc}
use Rattle.std.specs.Prelude.{◌≢◌, slice_get, All}
use Rattle.std.proofs.lemmas.Bool.{cases_eq}
use Rattle.std.proofs.lemmas.Option.{slice_get_within}
use Rattle.std.proofs.Math.Seq.{take-length}
use Rattle.rational.specs.Rational.{ℚ, ◌<ℚ◌}
use Rattle.rational.proofs.Laws.{lt_of_not_le, lt_irrefl, lt_le_trans}
use Rattle.run_laws.specs.declared.steps.Step.{Step}
use Rattle.run_laws.specs.Servers.{ServerState}
use Rattle.run_laws.specs.Runs.{SpecRun}
use Rattle.run_laws.specs.Allows.{IsComplete}
use Rattle.run_laws.specs.Routes.{Routes}
use Rattle.run_laws.specs.Lawful.{Due, RunState, next_run, run_start, after_run, AllowsInRun, AllAllowedInRun, IsLawful}
use Rattle.run_check.specs.declared.broken_laws.law.Law.{Law}
use Rattle.run_check.specs.declared.broken_laws.law.Law.TheVariants.{L1, L2, L3, L4, L5, L6, L7, L8, L9}
use Rattle.run_packets.specs.declared.place.Place.{Place}
use Rattle.run_check.specs.broken_laws.Recorded.{HasPaths, AreRecorded}
use Rattle.run_check.specs.broken_laws.FirstBroken.{number_of, BreaksNone, BreaksFirst, NoneBreaks, IsBrokenAtStep, IsBrokenAtEnd, IsUnfinished, IsFirstBroken}
use Rattle.run_check.specs.broken_laws.Tracked.{next_places, IsTracked}
use Rattle.run_check.proofs.broken_laws.Tracking.{tracked_start}
use Rattle.run_check.proofs.broken_laws.TrackedSteps.{tracked_next}
use Rattle.run_check.proofs.broken_laws.Breaking.{breaks_none, allows}

-- ---- along a lawful run
-- before the k-th step: the packets are tracked, and the step is allowed
pub record IsReached (net : Routes) (end : ℚ) (before : List Step) (r : RunState) (x : Step) : Type 0 where
  pub tracks : List Place
  pub tracked : IsTracked net before r tracks
  pub allowed : AllowsInRun net end r x

reached : (net : Routes) (end : ℚ) (before : List Step) (r : RunState) (tracks : List Place) (xs : List Step) (k : ℕ) (x : Step) → HasPaths net
    → IsTracked net before r tracks → AllAllowedInRun net end r xs → slice_get xs k ≡ Some x
    → IsReached net end (before ++ take k xs) (after_run net r (take k xs)) x
reached net end before r tracks [] k x paths t a e = absurd (cc)
reached net end before r tracks (y ∷ ys) zero x paths t a e =
    let same : y ≡ x = cc in
    subst (λ z. IsReached net end (before ++ []) r z) same (subst (λ zs. IsReached net end zs r y) (sym (Rattle.std.proofs.Common.append-nil before))
    record { tracks = tracks; tracked = t; allowed = a.0 })
reached net end before r tracks (y ∷ ys) (suc k) x paths t a e =
    subst (λ zs. IsReached net end zs (after_run net (next_run net r y) (take k ys)) x) (append_assoc before (y ∷ []) (take k ys))
    (reached net end (before ++ y ∷ []) (next_run net r y) (next_places net r.entered tracks y) ys k x paths (tracked_next net end before r tracks t paths y a.0) a.1 e)

pub broken_is_unlawful : (net : Routes) (run : SpecRun) (row : ℕ) (law : Law) → HasPaths net → IsFirstBroken net run row law → ¬ IsLawful net run
broken_is_unlawful net run row law paths (inl b) lawful =
    let k = reached net run.end [] (run_start net) [] run.steps b.before b.step paths (tracked_start net) lawful.allowed b.is in
    breaks_none net run.end (take b.before run.steps) (after_run net (run_start net) (take b.before run.steps)) k.tracks k.tracked b.step k.allowed law b.first.breaks
broken_is_unlawful net run row law paths (inr b) lawful = finished run.end (after_run net (run_start net) run.steps) lawful.none_overdue lawful.none_complete b.unfinished
  where
    finished : (end : ℚ) (r : RunState) → All (λ (d : Due). end <ℚ d.time) r.due → All (λ (s : ServerState). ¬ IsComplete s.under) r.servers → IsUnfinished end r → ⊥
    finished end r late none (inl (k, d, within, at, soon)) =
        let l = late k d within in lt_irrefl end (lt_le_trans (subst (λ (x : Due). end <ℚ x.time) at l) soon)
    finished end r late none (inr (k, s, within, at, complete)) = subst (λ (x : ServerState). ¬ IsComplete x.under) at (none k s within) complete

-- ---- a run that breaks none
all_allowed : (net : Routes) (end : ℚ) (before : List Step) (r : RunState) (tracks : List Place) (xs : List Step) → HasPaths net → IsTracked net before r tracks
    → AreRecorded net r.entered xs → NoneBreaks net end before r xs → AllAllowedInRun net end r xs
all_allowed net end before r tracks [] paths t k n = tt
all_allowed net end before r tracks (x ∷ xs) paths t k n =
    let a = allows net end before r tracks t paths x k.0 n.0 in
    (a, all_allowed net end (before ++ x ∷ []) (next_run net r x) (next_places net r.entered tracks x) xs paths (tracked_next net end before r tracks t paths x a) k.1 n.1)

pub unbroken_is_lawful : (net : Routes) (run : SpecRun) → HasPaths net → AreRecorded net [] run.steps → NoneBreaks net run.end [] (run_start net) run.steps
    → ¬ IsUnfinished run.end (after_run net (run_start net) run.steps) → IsLawful net run
unbroken_is_lawful net run paths k none finished = record {
  allowed = all_allowed net run.end [] (run_start net) [] run.steps paths (tracked_start net) k none;
  none_complete = λ i s within. λ complete. finished (inr (i, get_or (after_run net (run_start net) run.steps).servers i s, within, sym_at (after_run net (run_start net) run.steps).servers i s within, complete));
  none_overdue = λ i d within. lt_of_not_le (λ soon. finished (inl (i, get_or (after_run net (run_start net) run.steps).due i d, within, sym_at (after_run net (run_start net) run.steps).due i d within, soon)));
}
  where
    sym_at : {X : Type 0} (xs : List X) (i : ℕ) (d : X) → i < length xs → get_or xs i (get_or xs i d) ≡ get_or xs i d
    sym_at [] i d h = absurd (omega (arith, h))
    sym_at (x ∷ xs) zero d h = refl
    sym_at (x ∷ xs) (suc i) d h = sym_at xs i d (omega (arith, h))

-- ---- the first broken law
none_at : (net : Routes) (end : ℚ) (before : List Step) (r : RunState) (xs : List Step) (k n : ℕ) (x : Step) → NoneBreaks net end before r (take n xs) → k < n
    → slice_get xs k ≡ Some x → BreaksNone net end (before ++ take k xs) (after_run net r (take k xs)) x
none_at net end before r [] k n x h l e = absurd (cc)
none_at net end before r (y ∷ ys) k zero x h l e = absurd (omega (arith, l))
none_at net end before r (y ∷ ys) zero (suc n) x h l e =
    let same : y ≡ x = cc in
    subst (λ z. BreaksNone net end (before ++ []) r z) same (subst (λ zs. BreaksNone net end zs r y) (sym (Rattle.std.proofs.Common.append-nil before)) h.0)
none_at net end before r (y ∷ ys) (suc k) (suc n) x h l e =
    subst (λ zs. BreaksNone net end zs (after_run net (next_run net r y) (take k ys)) x) (append_assoc before (y ∷ []) (take k ys))
    (none_at net end (before ++ y ∷ []) (next_run net r y) ys k n x h.1 (omega (arith, l)) e)

-- the law with a number
law_of : ℕ → Law
law_of zero = L9
law_of (suc zero) = L1
law_of (suc (suc zero)) = L2
law_of (suc (suc (suc zero))) = L3
law_of (suc (suc (suc (suc zero)))) = L4
law_of (suc (suc (suc (suc (suc zero))))) = L5
law_of (suc (suc (suc (suc (suc (suc zero)))))) = L6
law_of (suc (suc (suc (suc (suc (suc (suc zero))))))) = L7
law_of (suc (suc (suc (suc (suc (suc (suc (suc zero)))))))) = L8
law_of (suc (suc (suc (suc (suc (suc (suc (suc (suc n))))))))) = L9

law_is : (a : Law) → law_of (number_of a) ≡ a
unfolding law_of
law_is L1 = refl
law_is L2 = refl
law_is L3 = refl
law_is L4 = refl
law_is L5 = refl
law_is L6 = refl
law_is L7 = refl
law_is L8 = refl
law_is L9 = refl

same_law : (a b : Law) → number_of a ≡ number_of b → a ≡ b
same_law a b e = sym (law_is a) ∙ (ap law_of e ∙ law_is b)

-- of two steps of a run that break a law first, none comes before the other
not_before : (net : Routes) (run : SpecRun) (row other : ℕ) (law another : Law) → (a : IsBrokenAtStep net run row law) → (b : IsBrokenAtStep net run other another)
    → ¬ (a.before < b.before)
not_before net run row other law another a b l =
    none_at net run.end [] (run_start net) run.steps a.before b.before a.step b.none l a.is law a.first.breaks

same_step : (x y : Step) → Some x ≡ Some y → x ≡ y
same_step x y e = cc

law_once : (net : Routes) (end : ℚ) (before : List Step) (r : RunState) (x : Step) (a b : Law) → BreaksFirst net end before r x a → BreaksFirst net end before r x b → a ≡ b
law_once net end before r x a b f g =
    same_law a b (elim (cases_eq (number_of a) (number_of b)) [
      | inl e ↦ e
      | inr n ↦ absurd (elim (less_or (number_of a) (number_of b) n) [
        | inl l ↦ g.no_other a l f.breaks
        | inr l ↦ f.no_other b l g.breaks
      ])
    ])
  where
    less_or : (m n : ℕ) → m ≢ n → (m < n) ⊎ (n < m)
    less_or zero zero d = absurd (d refl)
    less_or zero (suc n) d = inl (omega arith)
    less_or (suc m) zero d = inr (omega arith)
    less_or (suc m) (suc n) d = elim (less_or m n (λ e. d (ap suc e))) [ inl l ↦ inl (omega (arith, l)) | inr l ↦ inr (omega (arith, l)) ]

at_steps : (net : Routes) (run : SpecRun) (row other : ℕ) (law another : Law) → IsBrokenAtStep net run row law → IsBrokenAtStep net run other another
    → (row ≡ other) × (law ≡ another)
at_steps net run row other law another a b =
    let n = not_before net run row other law another a b in
    let m = not_before net run other row another law b a in
    let same : a.before ≡ b.before = omega (arith, n, m) in
    let step : a.step ≡ b.step = same_step a.step b.step (sym a.is ∙ (ap (slice_get run.steps) same ∙ b.is)) in
    let first : BreaksFirst net run.end (take b.before run.steps) (after_run net (run_start net) (take b.before run.steps)) b.step law =
    subst (λ k. BreaksFirst net run.end (take k run.steps) (after_run net (run_start net) (take k run.steps)) b.step law) same
    (subst (λ x. BreaksFirst net run.end (take a.before run.steps) (after_run net (run_start net) (take a.before run.steps)) x law) step a.first) in (
      a.place ∙ (ap suc same ∙ sym b.place),
      law_once net run.end (take b.before run.steps) (after_run net (run_start net) (take b.before run.steps)) b.step law another first b.first,
    )

-- a run that breaks a law at a step breaks none at its end first
not_both_ways : (net : Routes) (run : SpecRun) (row other : ℕ) (law another : Law) → IsBrokenAtStep net run row law → IsBrokenAtEnd net run other another → ⊥
not_both_ways net run row other law another a b =
    let within = slice_get_within run.steps a.before a.step a.is in
    none_at net run.end [] (run_start net) run.steps a.before (length run.steps) a.step
    (subst (NoneBreaks net run.end [] (run_start net)) (sym (take-length run.steps)) b.none) within a.is law a.first.breaks

pub first_once : (net : Routes) (run : SpecRun) (row other : ℕ) (law another : Law) → IsFirstBroken net run row law → IsFirstBroken net run other another
    → (row ≡ other) × (law ≡ another)
first_once net run row other law another (inl a) (inl b) = at_steps net run row other law another a b
first_once net run row other law another (inl a) (inr b) = absurd (not_both_ways net run row other law another a b)
first_once net run row other law another (inr a) (inl b) = absurd (not_both_ways net run other row another law b a)
first_once net run row other law another (inr a) (inr b) = (a.place ∙ sym b.place, a.law_is ∙ sym b.law_is)
