-- What each server sees of a lawful run is lawful, whatever the steps of the other servers between.
use Rattle.std.specs.Prelude.{None, ◌≡◌, ◌≢◌, ◌<◌, ℕ, ◌==◌, List, [], ◌∷◌, ◌++◌, length}
use Rattle.std.proofs.Common.{sym, ap, ◌∙◌, refl, inl, inr, subst}
use Rattle.std.proofs.lemmas.Bool.{cases_Bool, eqb-true, eqb-false}
use Rattle.std.proofs.lemmas.List.{get_or-set_same, get_or-set_other, get_or-map, length-set, length-map}
use Rattle.std.proofs.lemmas.List.Elements.{All-get_or}
use Rattle.rational.specs.Rational.{ℚ}
use Rattle.run_laws.specs.declared.steps.Step.{Step}
use Rattle.run_laws.specs.Runs.{SpecRun}
use Rattle.run_laws.specs.Servers.{Fifo, Server, ServerState, start}
use Rattle.run_laws.specs.Next.{next, after}
use Rattle.run_laws.specs.Allows.{Allows, AllAllowed, IsLawfulView, IsComplete}
use Rattle.run_laws.specs.Routes.{Routes, server_at}
use Rattle.run_laws.specs.Views.{entered_after, server_of, seen, view_from, view}
use Rattle.run_laws.specs.Lawful.{RunState, state_at, next_run, AllowsInRun, AllAllowedInRun, run_start, after_run, IsLawful}

-- the state of a server after a step of its own, and of another
pub own_state : (net : Routes) (r : RunState) (x : Step) → server_of net x < length r.servers
    → state_at (next_run net r x) (server_of net x) ≡ next (server_at net (server_of net x)).discipline (state_at r (server_of net x)) (seen net r.entered x)
own_state net r x h = get_or-set_same r.servers (server_of net x) _ (start Fifo) h

pub other_state : (net : Routes) (r : RunState) (x : Step) (s : ℕ) → s ≢ server_of net x → state_at (next_run net r x) s ≡ state_at r s
other_state net r x s h = get_or-set_other r.servers (server_of net x) s _ (start Fifo) h

as_many : (net : Routes) (r : RunState) (x : Step) → length r.servers ≡ length net.servers
    → length (next_run net r x).servers ≡ length net.servers
as_many net r x h = length-set r.servers (server_of net x) _ ∙ h

-- a step at server s, as the server sees it
record IsSeen (net : Routes) (end : ℚ) (r : RunState) (x : Step) (s : ℕ) : Type 0 where
  allowed : Allows (server_at net s) end (state_at r s) (seen net r.entered x)
  state : state_at (next_run net r x) s ≡ next (server_at net s).discipline (state_at r s) (seen net r.entered x)

is_seen : (net : Routes) (end : ℚ) (r : RunState) (x : Step) (s : ℕ) → AllowsInRun net end r x → length r.servers ≡ length net.servers
    → server_of net x ≡ s → IsSeen net end r x s
is_seen net end r x s a n e =
    subst (IsSeen net end r x) e record { allowed = a.at_server; state = own_state net r x (subst (λ (k : ℕ). server_of net x < k) (sym n) a.known_server) }

record Sees (net : Routes) (end : ℚ) (r : RunState) (xs : List Step) (s : ℕ) : Type 0 where
  allowed : AllAllowed (server_at net s) end (state_at r s) (view_from net s r.entered xs)
  state : state_at (after_run net r xs) s ≡ after (server_at net s).discipline (state_at r s) (view_from net s r.entered xs)

sees : (net : Routes) (end : ℚ) (r : RunState) (xs : List Step) (s : ℕ) → AllAllowedInRun net end r xs
    → length r.servers ≡ length net.servers → Sees net end r xs s
sees net end r [] s a n = record { allowed = tt; state = refl }
sees net end r (x ∷ xs) s a n =
    let k = sees net end (next_run net r x) xs s a.1 (as_many net r x n) in
    elim (cases_Bool (server_of net x == s)) [
      | inl e ↦
          let own = is_seen net end r x s a.0 n (eqb-true (server_of net x) s e) in
          record {
            allowed = rw e (own.allowed, subst (λ (σ : ServerState). AllAllowed (server_at net s) end σ (view_from net s (entered_after r.entered x) xs)) own.state k.allowed);
            state = rw e (k.state ∙ ap (λ (σ : ServerState). after (server_at net s).discipline σ (view_from net s (entered_after r.entered x) xs)) own.state);
          }
      | inr e ↦
          let same = other_state net r x s (λ f. eqb-false (server_of net x) s e (sym f)) in
          record {
            allowed = rw e (subst (λ (σ : ServerState). AllAllowed (server_at net s) end σ (view_from net s (entered_after r.entered x) xs)) same k.allowed);
            state = rw e (k.state ∙ ap (λ (σ : ServerState). after (server_at net s).discipline σ (view_from net s (entered_after r.entered x) xs)) same);
          }
    ]

after_length : (net : Routes) (r : RunState) (xs : List Step) → length r.servers ≡ length net.servers
    → length (after_run net r xs).servers ≡ length net.servers
after_length net r [] n = n
after_length net r (x ∷ xs) n = after_length net (next_run net r x) xs (as_many net r x n)

-- one step more
pub after_more : (net : Routes) (r : RunState) (xs : List Step) (x : Step)
    → after_run net r (xs ++ x ∷ []) ≡ next_run net (after_run net r xs) x
after_more net r [] x = refl
after_more net r (y ∷ ys) x = after_more net (next_run net r y) ys x

pub start_state : (net : Routes) (s : ℕ) → s < length net.servers → state_at (run_start net) s ≡ start (server_at net s).discipline
start_state net s h = get_or-map (λ (x : Server). start x.discipline) net.servers s record { discipline = Fifo; pace = None } (start Fifo) h

pub views_are_lawful : (net : Routes) (run : SpecRun) (s : ℕ) → IsLawful net run → s < length net.servers
    → IsLawfulView (server_at net s) run.end (view net run s)
views_are_lawful net run s h k =
    let d = (server_at net s).discipline in
    let n = length-map net.servers (λ (x : Server). start x.discipline) in
    let v = sees net run.end (run_start net) run.steps s h.allowed n in
    let first = start_state net s k in
    let last : state_at (after_run net (run_start net) run.steps) s ≡ after d (start d) (view net run s) =
    v.state ∙ ap (λ (σ : ServerState). after d σ (view net run s)) first in
    let in_range : s < length (after_run net (run_start net) run.steps).servers = subst (λ (m : ℕ). s < m) (sym (after_length net (run_start net) run.steps n)) k in
    let none = All-get_or (λ (σ : ServerState). ¬ IsComplete σ.under) (after_run net (run_start net) run.steps).servers s (start Fifo) in_range h.none_complete in
    record {
      allowed = subst (λ (σ : ServerState). AllAllowed (server_at net s) run.end σ (view net run s)) first v.allowed;
      none_complete = subst (λ (σ : ServerState). ¬ IsComplete σ.under) last none;
    }
