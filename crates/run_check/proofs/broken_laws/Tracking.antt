-- What is known of the packets of a recorded run after some allowed steps.
use Rattle.std.proofs.Common.{◌≡◌, ℕ, zero, suc, ◌<◌, List, [], ◌∷◌, ◌++◌, length, get_or, set, map, refl, sym, ap, ◌∙◌, subst, arith, inl, inr, ◌⊎◌, Some, None}
use Rattle.std.specs.Prelude.{Option, ◌≢◌, pos}
use Rattle.std.proofs.lemmas.Bool.{cases_eq, eq-eqb, ne_eqb}
use Rattle.std.proofs.lemmas.List.{get_or-set_same, get_or-set_other, length-map}
use Rattle.rational.specs.Rational.{ℚ, int, ◌+ℚ◌}
use Rattle.rational.proofs.Linear.{with1, with3, with4}
use Rattle.run_laws.specs.declared.steps.Step.{Step}
use Rattle.run_laws.specs.Cards.{Card, whole}
use Rattle.run_laws.specs.Counts.{when}
use Rattle.run_laws.specs.Servers.{Fifo, Server, Under, ServerState, start, done}
use Rattle.run_laws.specs.Next.{next}
use Rattle.run_laws.specs.Routes.{Routes, route_of, server_at}
use Rattle.run_laws.specs.Views.{Entry, server_of, seen}
use Rattle.run_laws.specs.Lawful.{RunState, state_at, next_run, run_start}
use Rattle.run_laws.proofs.States.{IsSound}
use Rattle.run_laws.proofs.Views.{own_state, other_state}
use Rattle.net_model.proofs.stated_runs.Lists.{In, head_in}
use Rattle.sim_servers.proofs.sim_states.Places.{none_placed}
use Rattle.run_packets.specs.declared.place.Place.{Place}
use Rattle.run_packets.specs.declared.place.Place.TheVariants.{At, OnLink, Gone}
use Rattle.run_check.specs.broken_laws.Worked.{worked_by, worked_in}
use Rattle.run_check.specs.broken_laws.Tracked.{place_of, has_left, worked_of, IsHere, IsTracked}

-- ---- servers
-- what holds of the server of a step after it, and of all others, holds of each
pub each_server : (net : Routes) (r : RunState) (x : Step) (P : ℕ → ServerState → Type 0) → server_of net x < length r.servers
    → P (server_of net x) (next (server_at net (server_of net x)).discipline (state_at r (server_of net x)) (seen net r.entered x))
    → ((s : ℕ) → s ≢ server_of net x → P s (state_at r s)) → (s : ℕ) → P s (state_at (next_run net r x) s)
each_server net r x P known own other s = elim (cases_eq s (server_of net x)) [
  | inl e ↦ subst (λ k. P k (state_at (next_run net r x) k)) (sym e) (subst (P (server_of net x)) (sym (own_state net r x known)) own)
  | inr n ↦ subst (P s) (sym (other_state net r x s n)) (other s n)
]

-- ---- places
pub push_cases : (tracks : List Place) (x z : Place) (q : ℕ) → place_of (tracks ++ x ∷ []) q ≡ z
    → ((q ≡ length tracks) × (x ≡ z)) ⊎ (place_of tracks q ≡ z)
push_cases [] x z zero e = inl (refl, e)
push_cases [] x z (suc q) e = inr e
push_cases (y ∷ ys) x z zero e = inr e
push_cases (y ∷ ys) x z (suc q) e = elim (push_cases ys x z q e) [
  | inl k ↦ inl (ap suc k.0, k.1)
  | inr k ↦ inr k
]

pub place_last : (tracks : List Place) (x : Place) → place_of (tracks ++ x ∷ []) (length tracks) ≡ x
place_last [] x = refl
place_last (y ∷ ys) x = place_last ys x

pub place_before : (tracks : List Place) (x : Place) (q : ℕ) → q < length tracks → place_of (tracks ++ x ∷ []) q ≡ place_of tracks q
place_before [] x q h = absurd (omega (arith, h))
place_before (y ∷ ys) x zero h = refl
place_before (y ∷ ys) x (suc q) h = place_before ys x q (omega (arith, h))

pub place_set : (tracks : List Place) (p : ℕ) (x : Place) → p < length tracks → place_of (set tracks p x) p ≡ x
place_set tracks p x h = get_or-set_same tracks p x Gone h

pub place_other : (tracks : List Place) (p q : ℕ) (x : Place) → q ≢ p → place_of (set tracks p x) q ≡ place_of tracks q
place_other tracks p q x n = get_or-set_other tracks p q x Gone n

-- ---- works
pub worked_push : (s p : ℕ) (xs : List Step) (x : Step) → worked_in s p (xs ++ x ∷ []) ≡ worked_in s p xs +ℚ worked_by s p x
worked_push s p [] x = with1 (worked_by s p x) (λ c. omega (arith, c.le, c.lt, c.same))
worked_push s p (y ∷ ys) x =
    let h = worked_push s p ys x in
    with4 (worked_by s p y) (worked_in s p ys) (worked_by s p x) (worked_in s p (ys ++ x ∷ [])) (λ c. omega (arith, c.le, c.lt, c.same))

pub worked_same : (s p : ℕ) (xs : List Step) (x : Step) → worked_by s p x ≡ int (pos 0) → worked_in s p (xs ++ x ∷ []) ≡ worked_in s p xs
worked_same s p xs x z =
    let h = worked_push s p xs x in
    with3 (worked_in s p (xs ++ x ∷ [])) (worked_in s p xs) (worked_by s p x) (λ c. omega (arith, c.le, c.lt, c.same))

-- what is worked of a packet, by what is under way, its place, and its entry
abbrev pub worked_with : Routes → Option Under → Place → Entry → ℕ → ℕ → ℚ
worked_with net under place e h p = worked_of under p (when (has_left place (route_of net e.flow).hops h) (whole e.bits))

pub same_worked : (net : Routes) (u v : Option Under) (x y : Place) (d e : Entry) (h p : ℕ) → u ≡ v → x ≡ y → d ≡ e
    → worked_with net u x d h p ≡ worked_with net v y e h p
same_worked net u v x y d e h p a b c =
    ap (λ o. worked_with net o x d h p) a ∙ ap (λ o. worked_with net v o d h p) b ∙ ap (λ o. worked_with net v y o h p) c

-- a packet that is not under way
pub not_under : (o : Option Under) (p : ℕ) (z : ℚ) → ((u : Under) → o ≡ Some u → u.card.packet ≢ p) → worked_of o p z ≡ z
not_under None p z h = refl
not_under (Some u) p z h = rw (ne_eqb u.card.packet p (h u refl)) refl

pub is_under : (u : Under) (p : ℕ) (z : ℚ) → u.card.packet ≡ p → worked_of (Some u) p z ≡ done u
is_under u p z h = rw (eq-eqb u.card.packet p h) refl

-- ---- the start
pub record IsIdle (σ : ServerState) : Type 0 where
  pub none : σ.inside ≡ []
  pub idle : σ.under ≡ None

start_idle : (xs : List Server) (s : ℕ) → IsIdle (get_or (map (λ (x : Server). start x.discipline) xs) s (start Fifo))
start_idle [] s = record { none = refl; idle = refl }
start_idle (x ∷ xs) zero = record { none = refl; idle = refl }
start_idle (x ∷ xs) (suc s) = start_idle xs s

none_in : (s : ℕ) (net : Routes) (c : Card) → In (state_at (run_start net) s).inside c → ⊥
none_in s net c h = subst (λ cs. In cs c) (start_idle net.servers s).none h

sound_idle : (σ : ServerState) → σ.under ≡ None → IsSound σ
sound_idle σ e = subst (λ o. Rattle.run_laws.proofs.States.IsSoundFor σ.inside σ.busy o) (sym e) tt

pub tracked_start : (net : Routes) → IsTracked net [] (run_start net) []
tracked_start net = record {
  many = length-map net.servers (λ (x : Server). start x.discipline);
  long = refl;
  entries = λ p h. absurd (omega (arith, h));
  sound = λ s. sound_idle (state_at (run_start net) s) (start_idle net.servers s).idle;
  cards = λ s c h. absurd (none_in s net c h);
  here = λ s p e. absurd (let f : Gone ≡ At s = e in cc);
  dues = λ d h. absurd h;
  links = λ s p t e. absurd (let f : Gone ≡ OnLink s t = e in cc);
  few = record {
    few = λ p. let n = none_placed p net.servers in omega (arith, n);
    none = λ p h. let n = none_placed p net.servers in omega (arith, n);
  };
  worked = λ s p h. absurd (omega (arith, h));
  unknown = λ s p h. refl;
}

-- ---- the packet under way is there
pub under_in : (net : Routes) (before : List Step) (r : RunState) (tracks : List Place) → IsTracked net before r tracks → (s : ℕ) (u : Under)
    → (state_at r s).under ≡ Some u → In (state_at r s).inside u.card
under_in net before r tracks h s u e = go (state_at r s).under e (h.sound s)
  where
    go : (o : Option Under) → o ≡ Some u → Rattle.run_laws.proofs.States.IsSoundFor (state_at r s).inside (state_at r s).busy o
        → In (state_at r s).inside u.card
    go None e sound = absurd (cc)
    go (Some v) e sound =
        let same : v ≡ u = cc in
        subst (λ (y : Under). In (state_at r s).inside y.card) same (head_in v.card.queue (state_at r s).inside v.card sound.is_head)

pub under_here : (net : Routes) (before : List Step) (r : RunState) (tracks : List Place) → IsTracked net before r tracks → (s : ℕ) (u : Under)
    → (state_at r s).under ≡ Some u → IsHere net r.entered tracks s u.card
under_here net before r tracks h s u e = h.cards s u.card (under_in net before r tracks h s u e)
