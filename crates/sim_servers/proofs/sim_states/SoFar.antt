-- A stated run as far as it has come.
use Rattle.std.specs.Prelude.{◌≡◌, pos, List, [], ◌∷◌, ◌++◌}
use Rattle.std.proofs.Common.{refl}
use Rattle.rational.specs.Rational.{ℚ, int}
use Rattle.run_laws.specs.declared.steps.Step.{Step}
use Rattle.run_laws.specs.Lawful.{RunState, next_run, run_start, after_run}
use Rattle.net_model.specs.stated_runs.Setups.{Setup, IsSetup}
use Rattle.net_model.specs.stated_runs.DueSteps.{IsDue, step_time}
use Rattle.net_model.specs.stated_runs.Simulated.{IsNext, Follows, FollowsSoFar}
use Rattle.net_model.specs.stated_runs.Laws.{state_after}
use Rattle.net_model.proofs.stated_runs.Good.{IsGood, good_from_step}
use Rattle.net_model.proofs.stated_runs.GoodSteps.{good_next}
use Rattle.net_model.proofs.stated_runs.Lawfulness.{good_start}
use Rattle.net_model.proofs.stated_runs.Progress.{AllKeepTurns, turn_next, turn_start}

-- what the proofs of stated runs know of each state
pub record IsSound (S : Setup) (r : RunState) : Type 0 where
  pub time : ℚ
  pub good : IsGood S r time
  pub turns : AllKeepTurns S r

pub sound_next : (S : Setup) → IsSetup S → (r : RunState) (x : Step) → IsSound S r → IsNext S r x → IsSound S (next_run S.net r x)
sound_next S ok r x h n =
    let k = good_next S ok r h.time h.good x n in
    record {
      time = step_time x;
      good = good_from_step S r h.time x h.good n k;
      turns = turn_next S ok r h.time h.good x n.due k.known h.turns;
    }

sound_from : (S : Setup) → IsSetup S → (xs : List Step) (r : RunState) → IsSound S r → FollowsSoFar S r xs → IsSound S (after_run S.net r xs)
sound_from S ok [] r h f = h
sound_from S ok (x ∷ xs) r h f = sound_from S ok xs (next_run S.net r x) (sound_next S ok r x h f.0) f.1

pub sound_so_far : (S : Setup) → IsSetup S → (xs : List Step) → FollowsSoFar S (run_start S.net) xs → IsSound S (state_after S xs)
sound_so_far S ok xs f =
    sound_from S ok xs (run_start S.net) record { time = int (pos 0); good = good_start S ok; turns = turn_start S } f

pub after_push : (S : Setup) (xs : List Step) (r : RunState) (x : Step) → after_run S.net r (xs ++ x ∷ []) ≡ next_run S.net (after_run S.net r xs) x
after_push S [] r x = refl
after_push S (y ∷ ys) r x = after_push S ys (next_run S.net r y) x

pub follows_push : (S : Setup) (xs : List Step) (r : RunState) (x : Step) → FollowsSoFar S r xs → IsNext S (after_run S.net r xs) x
    → FollowsSoFar S r (xs ++ x ∷ [])
follows_push S [] r x f n = (n, tt)
follows_push S (y ∷ ys) r x f n = (f.0, follows_push S ys (next_run S.net r y) x f.1 n)

-- where nothing is due it has come to its end
pub follows_whole : (S : Setup) (xs : List Step) (r : RunState) → FollowsSoFar S r xs → ((y : Step) → ¬ (IsDue S (after_run S.net r xs) y)) → Follows S r xs
follows_whole S [] r f none = none
follows_whole S (x ∷ xs) r f none = (f.0, follows_whole S xs (next_run S.net r x) f.1 none)
