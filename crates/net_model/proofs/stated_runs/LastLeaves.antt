-- Each packet of a stated run leaves the last server of its path.
use Rattle.std.proofs.Common.{◌≡◌, ℕ, ◌<◌, ◌≤◌, ◌+◌, List, [], ◌∷◌, ◌++◌, length, refl, sym, ap, ◌∙◌, subst, arith, inl, inr, ◌⊎◌, Some, None}
use Rattle.std.specs.Prelude.{Option, pos}
use Rattle.std.proofs.lemmas.Bool.{cases_eq, eq-eqb, ne_eqb}
use Rattle.std.proofs.lemmas.List.{get_or_push, length_push}
use Rattle.rational.specs.Rational.{ℚ, int, ◌+ℚ◌}
use Rattle.run_laws.specs.declared.steps.Step.{Step}
use Rattle.run_laws.specs.declared.steps.Step.TheVariants.{Enter, Reach, Work, Leave, Visit}
use Rattle.run_laws.specs.Runs.{SpecRun}
use Rattle.run_laws.specs.Cards.{Card}
use Rattle.run_laws.specs.Servers.{ServerState, head_of, without_head}
use Rattle.run_laws.specs.Next.{next_inside}
use Rattle.run_laws.specs.Routes.{Hop, link_at, route_of, PassesServer, first_server, server_after, last_server}
use Rattle.run_laws.specs.Views.{Entry, entry_of, hops_of, card_of, server_of, seen}
use Rattle.run_laws.specs.Lawful.{Due, RunState, sent, state_at, next_run, run_start}
use Rattle.run_laws.proofs.Members.{has_right}
use Rattle.net_model.specs.stated_runs.Setups.{Setup, IsSetup, packet_of}
use Rattle.net_model.specs.stated_runs.DueSteps.{IsLeaving, IsEntering, IsDue, step_time}
use Rattle.net_model.specs.stated_runs.Simulated.{Follows, IsSimulated}
use Rattle.net_model.specs.stated_runs.Laws.{LeavesAt}
use Rattle.net_model.proofs.stated_runs.Lists.{In, in_left, in_contains, in_kept, in_without_other}
use Rattle.net_model.proofs.stated_runs.GoodServers.{IsGoodUnder}
use Rattle.net_model.proofs.stated_runs.Good.{IsGood, own_state, other_state, extends_push, good_from_step}
use Rattle.net_model.proofs.stated_runs.GoodSteps.{good_next}
use Rattle.net_model.proofs.stated_runs.Lawfulness.{good_start}
use Rattle.net_model.proofs.stated_runs.Progress.{AllKeepTurns, turn_next, turn_start, none_inside}

-- ---- paths
abbrev pub last_of : Setup → ℕ → ℕ
last_of S p = last_server (route_of S.net (packet_of S p).flow).hops

-- a server of a path with none after it is the last
last_is : (s : ℕ) (hs : List Hop) → PassesServer s hs → server_after s hs ≡ None → last_server hs ≡ s
last_is s [] h e = absurd h
last_is s (x ∷ []) (inl k) e = k
last_is s (x ∷ []) (inr k) e = absurd k
last_is s (x ∷ y ∷ hs) h e = elim (cases_eq x.server s) [
  | inl k ↦ absurd (let f : Some y.server ≡ None = rw (eq-eqb x.server s k) at e in cc)
  | inr n ↦ last_is s (y ∷ hs) (elim h [ inl k ↦ absurd (n k) | inr k ↦ k ]) (rw (ne_eqb x.server s n) at e)
]

-- ---- the packets that have entered have the flows of the trace
abbrev pub AreOfTrace : Setup → RunState → Type 0
AreOfTrace S r = (p : ℕ) → p < length r.entered → (entry_of r.entered p).flow ≡ (packet_of S p).flow

of_trace_next : (S : Setup) (r : RunState) (x : Step) → IsDue S r x → AreOfTrace S r → AreOfTrace S (next_run S.net r x)
of_trace_next S r (Enter f p t b) due h = λ q l.
    let d : IsEntering S r f p t b = due in
    let e : Entry = record { flow = f; bits = b } in
    let long : length (r.entered ++ e ∷ []) ≡ length r.entered + 1 = length_push r.entered e in
    elim (cases_eq q p) [
      | inl i ↦
          let here : entry_of (r.entered ++ e ∷ []) p ≡ e = get_or_push r.entered e record { flow = 0; bits = 0 } p (sym d.in_turn) in
          subst (λ j. (entry_of (r.entered ++ e ∷ []) j).flow ≡ (packet_of S j).flow) (sym i) (ap (λ (z : Entry). z.flow) here ∙ d.flow_is)
      | inr n ↦
          let old : q < length r.entered = omega (arith, l, long, d.in_turn, n) in
          ap (λ (z : Entry). z.flow) (extends_push r.entered e q old).1 ∙ h q old
    ]
of_trace_next S r (Reach s p t) due h = h
of_trace_next S r (Work s p a b w) due h = h
of_trace_next S r (Leave s p t) due h = h
of_trace_next S r (Visit s q t) due h = h

-- ---- where a packet is that has not left its last server: still to enter, at a server, or on a link
pub record IsAt (S : Setup) (r : RunState) (s p : ℕ) : Type 0 where
  pub known : s < length S.net.servers
  pub card : Card
  pub there : In (state_at r s).inside card
  pub packet_is : card.packet ≡ p

pub record IsOn (r : RunState) (p : ℕ) : Type 0 where
  pub due : Due
  pub there : In r.due due
  pub packet_is : due.packet ≡ p

abbrev pub IsUnderWay : Setup → RunState → ℕ → Type 0
IsUnderWay S r p = (length r.entered ≤ p) ⊎ (((s : ℕ) × IsAt S r s p) ⊎ IsOn r p)

abbrev pub LeavesLast : Setup → ℕ → Step → Type 0
LeavesLast S p x = (t : ℚ) × (x ≡ Leave (last_of S p) p t)

-- a card that its server's step keeps
stays : (S : Setup) (r : RunState) (x : Step) → server_of S.net x < length r.servers → (s p : ℕ) → (h : IsAt S r s p)
    → (s ≡ server_of S.net x → In (next_inside (state_at r s).inside (seen S.net r.entered x)) h.card) → IsAt S (next_run S.net r x) s p
stays S r x known s p h kept = record {
  known = h.known;
  card = h.card;
  packet_is = h.packet_is;
  there = elim (cases_eq s (server_of S.net x)) [
    | inl e ↦ subst (λ i. In (state_at (next_run S.net r x) i).inside h.card) (sym e)
        (subst (λ (σ : ServerState). In σ.inside h.card) (sym (own_state S.net r x known))
        (subst (λ i. In (next_inside (state_at r i).inside (seen S.net r.entered x)) h.card) e (kept e)))
    | inr n ↦ subst (λ (σ : ServerState). In σ.inside h.card) (sym (other_state S.net r x s n)) h.there
  ];
}

-- a packet that enters, and one that reaches a server, is there
entered_at : (S : Setup) (r : RunState) (f p : ℕ) (t : ℚ) (b : ℕ) → first_server (route_of S.net f).hops < length r.servers
    → first_server (route_of S.net f).hops < length S.net.servers → IsAt S (next_run S.net r (Enter f p t b)) (first_server (route_of S.net f).hops) p
entered_at S r f p t b many known =
    let s = first_server (route_of S.net f).hops in
    let c = card_of S.net (r.entered ++ record { flow = f; bits = b } ∷ []) p s in
    record {
      known = known;
      card = c;
      there = subst (λ (σ : ServerState). In σ.inside c) (sym (own_state S.net r (Enter f p t b) many)) (has_right (state_at r s).inside (c ∷ []) c (inl refl));
      packet_is = refl;
    }

reached_at : (S : Setup) (r : RunState) (s p : ℕ) (t : ℚ) → s < length r.servers → s < length S.net.servers → IsAt S (next_run S.net r (Reach s p t)) s p
reached_at S r s p t many known =
    let c = card_of S.net r.entered p s in
    record {
      known = known;
      card = c;
      there = subst (λ (σ : ServerState). In σ.inside c) (sym (own_state S.net r (Reach s p t) many)) (has_right (state_at r s).inside (c ∷ []) c (inl refl));
      packet_is = refl;
    }

-- one that leaves is on a link, or it was at its last server
leaves : (S : Setup) (r : RunState) (i q : ℕ) (t : ℚ) → AreOfTrace S r → q < length r.entered → PassesServer i (hops_of S.net r.entered q)
    → LeavesLast S q (Leave i q t) ⊎ IsOn (next_run S.net r (Leave i q t)) q
leaves S r i q t flows entered passes = by_next (server_after i (hops_of S.net r.entered q)) refl
  where
    by_next : (o : Option ℕ) → server_after i (hops_of S.net r.entered q) ≡ o → LeavesLast S q (Leave i q t) ⊎ IsOn (next_run S.net r (Leave i q t)) q
    by_next None e =
        let last : last_server (hops_of S.net r.entered q) ≡ i = last_is i (hops_of S.net r.entered q) passes e in
        let mine : last_of S q ≡ i = ap (λ j. last_server (route_of S.net j).hops) (sym (flows q entered)) ∙ last in
        inl (t, ap (λ j. Leave j q t) (sym mine))
    by_next (Some g) e =
        let d : Due = record { packet = q; server = g; time = t +ℚ link_at S.net i } in
        inr record {
          due = d;
          there = subst (λ o. In (sent o q (t +ℚ link_at S.net i) r.due) d) (sym e) (has_right r.due (d ∷ []) d (inl refl));
          packet_is = refl;
        }

-- a packet on a link stays there when another one leaves a server
sent_kept : (o : Option ℕ) (q : ℕ) (t : ℚ) (due : List Due) (d : Due) → In due d → In (sent o q t due) d
sent_kept None q t due d h = h
sent_kept (Some g) q t due d h = in_left due (record { packet = q; server = g; time = t } ∷ []) d h

-- ---- one step
-- of a packet at a server
moves_from : (S : Setup) (r : RunState) (T : ℚ) → IsGood S r T → AllKeepTurns S r → AreOfTrace S r → (x : Step) → IsDue S r x
    → server_of S.net x < length S.net.servers → server_of S.net x < length r.servers → (s p : ℕ) → IsAt S r s p
    → LeavesLast S p x ⊎ IsUnderWay S (next_run S.net r x) p
moves_from S r T g a w (Enter f q t b) due known many s p h =
    inr (inr (inl (s, stays S r (Enter f q t b) many s p h (λ e. in_left (state_at r s).inside _ h.card h.there))))
moves_from S r T g a w (Reach i q t) due known many s p h =
    inr (inr (inl (s, stays S r (Reach i q t) many s p h (λ e. in_left (state_at r s).inside _ h.card h.there))))
moves_from S r T g a w (Work i q b c v) due known many s p h = inr (inr (inl (s, stays S r (Work i q b c v) many s p h (λ e. h.there))))
moves_from S r T g a w (Visit i q t) due known many s p h = inr (inr (inl (s, stays S r (Visit i q t) many s p h (λ e. h.there))))
moves_from S r T g a w (Leave i q t) due known many s p h =
    let y : IsLeaving (state_at r i) q t = due.1 in
    let u = y.under in
    let σ = state_at r i in
    let c = card_of S.net r.entered q i in
    let under : IsGoodUnder S.net r.entered i σ.busy u = (g.servers i known).under u y.is_under in
    let card_is : u.card ≡ c = under.card.is ∙ ap (λ j. card_of S.net r.entered j i) y.packet_is in
    let head : head_of c.queue σ.inside ≡ Some c = subst (λ (z : Card). head_of z.queue σ.inside ≡ Some z) card_is ((a i known).head u y.is_under) in
    elim (cases_eq s i) [
      | inr n ↦ inr (inr (inl (s, stays S r (Leave i q t) many s p h (λ e. absurd (n e)))))
      | inl e ↦ elim (in_kept c.queue σ.inside c h.card head (subst (λ j. In (state_at r j).inside h.card) e h.there)) [
        | inr k ↦ inr (inr (inl (
          s,
          stays S r (Leave i q t) many s p h
              (λ f. subst (λ j. In (without_head c.queue (state_at r j).inside) h.card) (sym e) k),
        )))
        | inl k ↦
            let same : q ≡ p = sym (ap (λ (z : Card). z.packet) k) ∙ h.packet_is in
            let entered : q < length r.entered = subst (λ j. j < length r.entered) y.packet_is under.card.entered_one in
            let passes : PassesServer i (hops_of S.net r.entered q) = subst (λ j. PassesServer i (hops_of S.net r.entered j)) y.packet_is under.card.passes in
            elim (leaves S r i q t w entered passes) [
              | inl z ↦ inl (subst (λ j. LeavesLast S j (Leave i q t)) same z)
              | inr z ↦ inr (inr (inr (subst (λ j. IsOn (next_run S.net r (Leave i q t)) j) same z)))
            ]
      ]
    ]

-- of one on a link
moves_on : (S : Setup) (r : RunState) (x : Step) → IsDue S r x → server_of S.net x < length S.net.servers → server_of S.net x < length r.servers
    → (p : ℕ) → IsOn r p → IsUnderWay S (next_run S.net r x) p
moves_on S r (Enter f q t b) due known many p h = inr (inr record { due = h.due; there = h.there; packet_is = h.packet_is })
moves_on S r (Work i q a b w) due known many p h = inr (inr record { due = h.due; there = h.there; packet_is = h.packet_is })
moves_on S r (Visit i q t) due known many p h = inr (inr record { due = h.due; there = h.there; packet_is = h.packet_is })
moves_on S r (Leave i q t) due known many p h =
    inr (inr record { due = h.due; there = sent_kept (server_after i (hops_of S.net r.entered q)) q (t +ℚ link_at S.net i) r.due h.due h.there; packet_is = h.packet_is })
moves_on S r (Reach i q t) due known many p h = elim (cases_eq h.due.packet q) [
  | inl e ↦ inr (inl (i, subst (λ j. IsAt S (next_run S.net r (Reach i q t)) i j) (sym e ∙ h.packet_is) (reached_at S r i q t many known)))
  | inr n ↦ inr (inr record { due = h.due; there = in_without_other record { packet = q; server = i; time = t } r.due h.due h.there n; packet_is = h.packet_is })
]

-- of one that is still to enter
moves_in : (S : Setup) (r : RunState) (x : Step) → IsDue S r x → server_of S.net x < length S.net.servers → server_of S.net x < length r.servers
    → (p : ℕ) → length r.entered ≤ p → IsUnderWay S (next_run S.net r x) p
moves_in S r (Enter f q t b) due known many p h =
    let d : IsEntering S r f q t b = due in
    elim (cases_eq q p) [
      | inl e ↦ inr (inl (
        first_server (route_of S.net f).hops,
        subst (λ j. IsAt S (next_run S.net r (Enter f q t b)) (first_server (route_of S.net f).hops) j) e
            (entered_at S r f q t b many known),
      ))
      | inr n ↦
          let e : Entry = record { flow = f; bits = b } in
          let long : length (r.entered ++ e ∷ []) ≡ length r.entered + 1 = length_push r.entered e in
          let less : length (r.entered ++ e ∷ []) ≤ p = omega (arith, h, long, d.in_turn, n) in
          inl less
    ]
moves_in S r (Reach i q t) due known many p h = inl h
moves_in S r (Work i q a b w) due known many p h = inl h
moves_in S r (Leave i q t) due known many p h = inl h
moves_in S r (Visit i q t) due known many p h = inl h

moves : (S : Setup) (r : RunState) (T : ℚ) → IsGood S r T → AllKeepTurns S r → AreOfTrace S r → (x : Step) → IsDue S r x
    → server_of S.net x < length S.net.servers → (p : ℕ) → IsUnderWay S r p → LeavesLast S p x ⊎ IsUnderWay S (next_run S.net r x) p
moves S r T g a w x due known p h =
    let many : server_of S.net x < length r.servers = omega (arith, known, g.many) in
    elim h [
      | inl k ↦ inr (moves_in S r x due known many p k)
      | inr k ↦ elim k [
        | inl z ↦ moves_from S r T g a w x due known many z.0 p z.1
        | inr z ↦ inr (moves_on S r x due known many p z)
      ]
    ]

-- ---- to the end
none_is_under_way : (S : Setup) → IsSetup S → (r : RunState) (T : ℚ) → IsGood S r T → AllKeepTurns S r → ((y : Step) → ¬ (IsDue S r y))
    → (p : ℕ) → p < length S.packets → ¬ (IsUnderWay S r p)
none_is_under_way S ok r T g a none p l h = elim h [
  | inl k ↦
      let n = length r.entered in
      none (Enter (packet_of S n).flow n (packet_of S n).time (packet_of S n).bits)
      record { in_turn = refl; in_trace = omega (arith, k, l); flow_is = refl; time_is = refl; bits_are = refl }
  | inr k ↦ elim k [
    | inl z ↦ subst (λ cs. In cs z.1.card) (none_inside S ok r T g a none z.0 z.1.known) z.1.there
    | inr z ↦ none (Reach z.due.server z.due.packet z.due.time) (in_contains r.due z.due z.there)
  ]
]

leaves_from : (S : Setup) → IsSetup S → (xs : List Step) (r : RunState) (T : ℚ) → IsGood S r T → AllKeepTurns S r → AreOfTrace S r → Follows S r xs
    → (p : ℕ) → p < length S.packets → IsUnderWay S r p → (x : Step) × In xs x × LeavesLast S p x
leaves_from S ok [] r T g a w none p l h = absurd (none_is_under_way S ok r T g a none p l h)
leaves_from S ok (x ∷ xs) r T g a w f p l h =
    let n = f.0 in
    let k = good_next S ok r T g x n in
    elim (moves S r T g a w x n.due k.known p h) [
      | inl z ↦ (x, inl refl, z)
      | inr z ↦
          let rest = leaves_from S ok xs (next_run S.net r x) (step_time x) (good_from_step S r T x g n k) (turn_next S ok r T g x n.due k.known a)
          (of_trace_next S r x n.due w) f.1 p l z in
          (rest.0, inr rest.1, rest.2)
    ]

pub each_leaves : (S : Setup) (run : SpecRun) → IsSetup S → IsSimulated S run → (p : ℕ) → p < length S.packets → LeavesAt run.steps (last_of S p) p
each_leaves S run ok sim p l =
    let k = leaves_from S ok run.steps (run_start S.net) (int (pos 0)) (good_start S ok) (turn_start S) (λ q h. absurd (omega (arith, h))) sim.follows p l
    (inl (let z : 0 ≤ p = omega arith in z)) in
    record { time = k.2.0; left = in_contains run.steps (Leave (last_of S p) p k.2.0) (subst (λ y. In run.steps y) k.2.1 k.1) }
