-- The walk from row to row.
use Rattle.std.proofs.Common.{◌≡◌, ℕ, zero, suc, ◌≤◌, ◌+◌, List, [], ◌∷◌, ◌++◌, length, take, sym, ap, ◌∙◌, subst, arith, Some, None, append_assoc, take_all}
use Rattle.std.specs.Prelude.{Option, slice_get, Result, Ok, Err, IfOk}
use Rattle.std.proofs.lemmas.Option.{slice_get_within}
use Rattle.rational.specs.Rational.{ℚ}
use Rattle.run_laws.specs.declared.steps.Step.{Step}
use Rattle.run_laws.specs.Runs.{SpecRun}
use Rattle.run_laws.specs.Routes.{Routes}
use Rattle.run_laws.specs.Lawful.{RunState, next_run, run_start, after_run}
use Rattle.run_laws.proofs.Views.{after_more}
use Rattle.run_check.specs.declared.broken_laws.law.Law.{Law}
use Rattle.run_check.specs.broken_laws.Recorded.{IsRecordedStep, AreRecorded}
use Rattle.run_check.specs.broken_laws.FirstBroken.{BreaksNone, NoneBreaks, state_before}
use Rattle.run_check.specs.declared.walk.Walk.{Walk}
use Rattle.run_check.specs.Walks.{Keeps, Stands, Told}
use Rattle.run_check.specs.Following.{IsWalkable, Follows, Goes}

recorded_at : (net : Routes) (r : RunState) (xs : List Step) (k : ℕ) (x : Step) → AreRecorded net r.entered xs → slice_get xs k ≡ Some x
    → IsRecordedStep net (after_run net r (take k xs)).entered x
recorded_at net r [] k x h e = absurd (cc)
recorded_at net r (y ∷ ys) zero x h e = let same : y ≡ x = cc in subst (IsRecordedStep net r.entered) same h.0
recorded_at net r (y ∷ ys) (suc k) x h e = recorded_at net (next_run net r y) ys k x h.1 e

take_more : (xs : List Step) (k : ℕ) (x : Step) → slice_get xs k ≡ Some x → take (suc k) xs ≡ take k xs ++ x ∷ []
take_more [] k x e = absurd (cc)
take_more (y ∷ ys) zero x e = let same : y ≡ x = cc in ap (λ z. z ∷ []) same
take_more (y ∷ ys) (suc k) x e = ap (λ zs. y ∷ zs) (take_more ys k x e)

none_more : (net : Routes) (end : ℚ) (before : List Step) (r : RunState) (xs : List Step) (x : Step) → NoneBreaks net end before r xs → BreaksNone net end (before ++ xs) (after_run net r xs) x
    → NoneBreaks net end before r (xs ++ x ∷ [])
none_more net end before r [] x h n = (subst (λ zs. BreaksNone net end zs r x) (Rattle.std.proofs.Common.append-nil before) n, tt)
none_more net end before r (y ∷ ys) x h n =
    (h.0, none_more net end (before ++ y ∷ []) (next_run net r y) ys x h.1 (subst (λ zs. BreaksNone net end zs (after_run net (next_run net r y) ys) x) (sym (append_assoc before (y ∷ []) ys)) n))

short : (xs : List Step) (k : ℕ) → length (take k xs) ≤ k
short xs zero = omega arith
short [] (suc k) = omega arith
short (x ∷ xs) (suc k) = let h = short xs k in omega (arith, h)

pub stands : (net : Routes) (run : SpecRun) (k : ℕ) (w : Walk) (x : Step) → Follows net run k w → slice_get run.steps k ≡ Some x → Stands net x w
stands net run k w x f e =
    let l = short run.steps k in
    let m = slice_get_within run.steps k x e in
    let n = f.walkable.few in
    record {
      room = f.room;
      grid = f.grid;
      most = f.most;
      before = take k run.steps;
      state = state_before net run k;
      keeps = f.keeps;
      paths = f.walkable.paths;
      recorded = recorded_at net (run_start net) run.steps k x f.walkable.recorded e;
      numbers = f.walkable.fit.numbers;
      fits = f.walkable.fit.fits k x e;
      more = omega (arith, l, m, n);
    }

pub goes : (net : Routes) (run : SpecRun) (k : ℕ) (w after : Walk) (x : Step) (f : Follows net run k w) (e : slice_get run.steps k ≡ Some x) (o : Option Law)
    → Told net x w (stands net run k w x f e) run.end after o → Goes net run k after o
unfolding stands
goes net run k w after x f e None t =
    let more : take (k + 1) run.steps ≡ take k run.steps ++ x ∷ [] = ap (λ n. take n run.steps) (let s : k + 1 ≡ suc k = omega arith in s) ∙ take_more run.steps k x e in
    let state : state_before net run (k + 1) ≡ next_run net (state_before net run k) x = ap (after_run net (run_start net)) more ∙ after_more net (run_start net) (take k run.steps) x in
    record {
      room = f.room;
      grid = f.grid;
      most = f.most;
      walkable = f.walkable;
      keeps = subst (λ r. Keeps net f.room f.grid f.most (take (k + 1) run.steps) r after) (sym state)
          (subst (λ xs. Keeps net f.room f.grid f.most xs (next_run net (state_before net run k) x) after) (sym more) t.1);
      none = subst (NoneBreaks net run.end [] (run_start net)) (sym more) (none_more net run.end [] (run_start net) (take k run.steps) x f.none t.0);
    }
goes net run k w after x f e (Some law) t =
    record { before = k; step = x; is = e; place = (let s : k + 1 ≡ suc k = omega arith in s); none = f.none; first = t }

pub goes_by : (net : Routes) (run : SpecRun) (k : ℕ) (w after : Walk) (x : Step) (f : Follows net run k w) (e : slice_get run.steps k ≡ Some x) (o : Option Law) (end : ℚ) → end ≡ run.end
    → ((s : Stands net x w) → Told net x w s end after o) → Goes net run k after o
goes_by net run k w after x f e o end is h = goes net run k w after x f e o (subst (λ z. Told net x w (stands net run k w x f e) z after o) is (h (stands net run k w x f e)))

pub goes_ok_by : {E : Type 0} (net : Routes) (run : SpecRun) (k : ℕ) (w after : Walk) (x : Step) (f : Follows net run k w) (e : slice_get run.steps k ≡ Some x) (r : Result (Option Law) E) (end : ℚ) → end ≡ run.end
    → IfOk r (λ o. (s : Stands net x w) → Told net x w s end after o) → IfOk r (Goes net run k after)
goes_ok_by net run k w after x f e (Ok o) end is h = goes_by net run k w after x f e o end is h
goes_ok_by net run k w after x f e (Err z) end is h = h

-- behind the last row
pub record IsBehind (net : Routes) (run : SpecRun) (w : Walk) : Type 0 where
  pub room : ℕ
  pub grid : ℕ
  pub most : ℚ
  pub walkable : IsWalkable net run room grid most
  pub keeps : Keeps net room grid most run.steps (after_run net (run_start net) run.steps) w
  pub none : NoneBreaks net run.end [] (run_start net) run.steps

pub behind : (net : Routes) (run : SpecRun) (k : ℕ) (w : Walk) → Follows net run k w → length run.steps ≤ k → IsBehind net run w
behind net run k w f l =
    let all : take k run.steps ≡ run.steps = take_all k run.steps l in
    record {
      room = f.room;
      grid = f.grid;
      most = f.most;
      walkable = f.walkable;
      keeps = subst (λ xs. Keeps net f.room f.grid f.most xs (after_run net (run_start net) xs) w) all f.keeps;
      none = subst (NoneBreaks net run.end [] (run_start net)) all f.none;
    }
