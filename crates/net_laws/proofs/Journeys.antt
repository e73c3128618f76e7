-- A packet from server to server: at each it is gone in time, and then at a next one a link later, or the run ends.
use Rattle.std.specs.Prelude.{◌≡◌, ◌⊎◌, ℕ, suc, pos, ◌==◌, false, List, [], ◌∷◌, ◌++◌, All, ◌≤◌, ◌+◌}
use Rattle.std.proofs.Common.{arith, sym, ap, ◌∙◌, refl, inl, inr, subst, append_assoc}
use Rattle.std.proofs.lemmas.Bool.{cases_Bool, eqb-true, eq-eqb}
use Rattle.rational.specs.Rational.{ℚ, int, ◌+ℚ◌, ◌≤ℚ◌, ◌<ℚ◌}
use Rattle.rational.proofs.Laws.{le_refl, le_trans, le_or_lt}
use Rattle.rational.proofs.Linear.{with2}
use Rattle.run_laws.specs.declared.steps.Step.{Step}
use Rattle.run_laws.specs.declared.steps.Step.TheVariants.{Enter, Reach, Work, Leave, Visit}
use Rattle.run_laws.specs.Cards.{Card, ServerStep, Arrives, Works, Leaves, Visits}
use Rattle.run_laws.specs.Servers.{Server, ServerState}
use Rattle.run_laws.specs.Next.{next}
use Rattle.run_laws.specs.Allows.{AllAllowed}
use Rattle.run_laws.specs.Delays.{gone_at}
use Rattle.run_laws.specs.Routes.{Routes, link_at}
use Rattle.run_laws.specs.Views.{Entry, entry_of, card_of, entered_after, server_of, seen, view_from}
use Rattle.run_laws.specs.Lawful.{Due, RunState, same_due, without}
use Rattle.run_laws.proofs.Cuts.{time_in_order}
use Rattle.net_laws.proofs.Links.{same_is}
use Rattle.run_laws.proofs.OneHop.{gone_other}
use Rattle.run_laws.specs.Rounds.{count_of}
use Rattle.net_laws.specs.Multicast.{NextServers, sent_to, next_run_by, AllAllowedBy, after_run_by}
use Rattle.net_laws.proofs.Dues.{Knows, knows_next_by}

-- ---- the steps that are left of a run, and what each server sees of them
abbrev pub Since : Routes → RunState → List Step → RunState → List Step → Type 0
Since net r xs q ys = (s : ℕ) → (front : List ServerStep) × (view_from net s r.entered xs ≡ front ++ view_from net s q.entered ys)

pub since_start : (net : Routes) (r : RunState) (xs : List Step) → Since net r xs r xs
since_start net r xs s = ([], refl)

pub since_next_by : (net : Routes) (to : NextServers) (r : RunState) (x : Step) (xs : List Step) → Since net r (x ∷ xs) (next_run_by net to r x) xs
since_next_by net to r x xs s = elim (cases_Bool (server_of net x == s)) [
  | inl e ↦ (seen net r.entered x ∷ [], rw e refl)
  | inr e ↦ ([], rw e refl)
]

pub since_both : (net : Routes) (r : RunState) (xs : List Step) (q : RunState) (ys : List Step) (p : RunState) (zs : List Step)
    → Since net r xs q ys → Since net q ys p zs → Since net r xs p zs
since_both net r xs q ys p zs h k s = (
  (h s).0 ++ (k s).0,
  (h s).1 ∙ ap (λ (V : List ServerStep). (h s).0 ++ V) (k s).1 ∙ sym (append_assoc (h s).0 (k s).0 (view_from net s p.entered zs)),
)

-- packet p arrives at server s at u, among the steps that are left
pub record ComesBy (net : Routes) (to : NextServers) (end : ℚ) (r : RunState) (xs : List Step) (s p : ℕ) (e : Entry) (u : ℚ) : Type 0 where
  pub state : RunState
  pub rest : List Step
  pub allowed : AllAllowedBy net to end state rest
  pub late : All (λ (d : Due). end <ℚ d.time) (after_run_by net to state rest).due
  pub knows : Knows state p e
  pub card : Card
  pub packet : card.packet ≡ p
  pub flow : card.flow ≡ e.flow
  pub front : List ServerStep
  pub joined : view_from net s r.entered xs ≡ front ++ Arrives card u ∷ view_from net s state.entered rest
  pub since : Since net r xs state rest

abbrev pub comes_since_by : (net : Routes) (to : NextServers) (end : ℚ) (r : RunState) (xs : List Step) (q : RunState) (ys : List Step) (s p : ℕ) (e : Entry) (u : ℚ)
    → Since net r xs q ys → (c : ComesBy net to end q ys s p e u) → ComesBy net to end r xs s p e u
comes_since_by net to end r xs q ys s p e u h c = record {
  state = c.state;
  rest = c.rest;
  allowed = c.allowed;
  late = c.late;
  knows = c.knows;
  card = c.card;
  packet = c.packet;
  flow = c.flow;
  front = (h s).0 ++ c.front;
  joined = (h s).1 ∙ ap (λ (V : List ServerStep). (h s).0 ++ V) c.joined ∙ sym (append_assoc (h s).0 c.front (Arrives c.card u ∷ view_from net s c.state.entered c.rest));
  since = since_both net r xs q ys c.state c.rest h c.since;
}

-- ---- what is due stays so until it reaches its server
abbrev pub IsDue : Due → List Due → Type 0
IsDue d [] = ⊥
IsDue d (c ∷ ds) = (c ≡ d) ⊎ IsDue d ds

pub due_late : (end : ℚ) (d : Due) (ds : List Due) → IsDue d ds → All (λ (d : Due). end <ℚ d.time) ds → end <ℚ d.time
due_late end d [] h k = absurd h
due_late end d (c ∷ ds) (inl e) k = subst (λ (x : Due). end <ℚ x.time) e (k 0 c (omega arith))
due_late end d (c ∷ ds) (inr h) k = due_late end d ds h (λ j x m. k (suc j) x (omega arith))

pub due_stays : (d c : Due) (ds : List Due) → IsDue d ds → same_due c d ≡ false → IsDue d (without c ds)
due_stays d c [] h n = absurd h
due_stays d c (x ∷ ds) (inl e) n = rw (subst (λ (y : Due). same_due c y ≡ false) (sym e) n) (inl e)
due_stays d c (x ∷ ds) (inr h) n = elim (cases_Bool (same_due c x)) [
  | inl f ↦ rw f h
  | inr f ↦ rw f (inr (due_stays d c ds h n))
]

pub due_pushed : (d : Due) (ds : List Due) (c : Due) → IsDue d ds → IsDue d (ds ++ c ∷ [])
due_pushed d [] c h = absurd h
due_pushed d (x ∷ ds) c (inl e) = inl e
due_pushed d (x ∷ ds) c (inr h) = inr (due_pushed d ds c h)

pub due_last : (ds : List Due) (d : Due) → IsDue d (ds ++ d ∷ [])
due_last [] d = inl refl
due_last (x ∷ ds) d = inr (due_last ds d)

-- ---- what is due within the run reaches its server
due_sent : (d : Due) (ss : List ℕ) (q : ℕ) (t : ℚ) (ds : List Due) → IsDue d ds → IsDue d (sent_to ss q t ds)
due_sent d [] q t ds h = h
due_sent d (b ∷ ss) q t ds h =
    let c : Due = record { packet = q; server = b; time = t } in
    due_sent d ss q t (ds ++ c ∷ []) (due_pushed d ds c h)

due_new : (b q : ℕ) (t : ℚ) (ss : List ℕ) (ds : List Due) → 1 ≤ count_of b ss → IsDue record { packet = q; server = b; time = t } (sent_to ss q t ds)
due_new b q t [] ds h = absurd (omega arith)
due_new b q t (y ∷ ss) ds h =
    let c : Due = record { packet = q; server = y; time = t } in
    elim (cases_Bool (y == b)) [
      | inl e ↦
          subst (λ (k : ℕ). IsDue record { packet = q; server = k; time = t } (sent_to ss q t (ds ++ c ∷ []))) (eqb-true y b e)
          (due_sent c ss q t (ds ++ c ∷ []) (due_last ds c))
      | inr e ↦
          let more : 1 ≤ 0 + count_of b ss = rw e at h in
          due_new b q t ss (ds ++ c ∷ []) (omega arith)
    ]

found : (net : Routes) (to : NextServers) (end : ℚ) (r : RunState) (xs : List Step) (s q : ℕ) (t : ℚ) (d : Due) (e : Entry)
    → AllAllowedBy net to end (next_run_by net to r (Reach s q t)) xs
    → All (λ (c : Due). end <ℚ c.time) (after_run_by net to (next_run_by net to r (Reach s q t)) xs).due → Knows r d.packet e
    → d ≡ record { packet = q; server = s; time = t } → ComesBy net to end r (Reach s q t ∷ xs) d.server d.packet e d.time
found net to end r xs s q t d e a late k same =
    subst (λ (c : Due). ComesBy net to end r (Reach s q t ∷ xs) c.server c.packet e c.time) (sym same) record {
      state = next_run_by net to r (Reach s q t);
      rest = xs;
      allowed = a;
      late = late;
      knows = subst (λ (c : Due). Knows (next_run_by net to r (Reach s q t)) c.packet e) same (knows_next_by net to r (Reach s q t) d.packet e k);
      card = card_of net r.entered q s;
      packet = refl;
      flow = ap (λ (x : Entry). x.flow) (subst (λ (c : Due). entry_of r.entered c.packet ≡ e) same k.is);
      front = [];
      joined = rw (eq-eqb s s refl) refl;
      since = since_next_by net to r (Reach s q t) xs;
    }

-- one step on
one_on : (net : Routes) (to : NextServers) (end : ℚ) (r : RunState) (x : Step) (xs : List Step) (s p : ℕ) (e : Entry) (u : ℚ)
    → ComesBy net to end (next_run_by net to r x) xs s p e u → ComesBy net to end r (x ∷ xs) s p e u
one_on net to end r x xs s p e u c = comes_since_by net to end r (x ∷ xs) (next_run_by net to r x) xs s p e u (since_next_by net to r x xs) c

reached : (net : Routes) (to : NextServers) (end : ℚ) (r : RunState) (xs : List Step) (d : Due) (e : Entry) → AllAllowedBy net to end r xs
    → All (λ (c : Due). end <ℚ c.time) (after_run_by net to r xs).due → Knows r d.packet e → d.time ≤ℚ end → IsDue d r.due
    → ComesBy net to end r xs d.server d.packet e d.time
reached net to end r [] d e a late k l h =
    let m = due_late end d r.due h late in
    absurd (with2 d.time end (λ c. omega (arith, c.le, c.lt, c.same)))
reached net to end r (Enter f q t b ∷ xs) d e a late k l h =
    one_on net to end r (Enter f q t b) xs d.server d.packet e d.time (reached net to end (next_run_by net to r (Enter f q t b)) xs d e a.1 late (knows_next_by net to r (Enter f q t b) d.packet e k) l h)
reached net to end r (Work s q c b w ∷ xs) d e a late k l h =
    one_on net to end r (Work s q c b w) xs d.server d.packet e d.time (reached net to end (next_run_by net to r (Work s q c b w)) xs d e a.1 late (knows_next_by net to r (Work s q c b w) d.packet e k) l h)
reached net to end r (Visit s q t ∷ xs) d e a late k l h =
    one_on net to end r (Visit s q t) xs d.server d.packet e d.time (reached net to end (next_run_by net to r (Visit s q t)) xs d e a.1 late (knows_next_by net to r (Visit s q t) d.packet e k) l h)
reached net to end r (Leave s q t ∷ xs) d e a late k l h =
    one_on net to end r (Leave s q t) xs d.server d.packet e d.time (reached net to end (next_run_by net to r (Leave s q t)) xs d e a.1 late (knows_next_by net to r (Leave s q t) d.packet e k) l
    (due_sent d (to (entry_of r.entered q).flow s) q (t +ℚ link_at net s) r.due h))
reached net to end r (Reach s q t ∷ xs) d e a late k l h = elim (cases_Bool (same_due record { packet = q; server = s; time = t } d)) [
  | inl f ↦ found net to end r xs s q t d e a.1 late k (same_is record { packet = q; server = s; time = t } d f)
  | inr f ↦
      one_on net to end r (Reach s q t) xs d.server d.packet e d.time (reached net to end (next_run_by net to r (Reach s q t)) xs d e a.1 late (knows_next_by net to r (Reach s q t) d.packet e k) l
      (due_stays d record { packet = q; server = s; time = t } r.due h f))
]

-- ---- from one server to a next, or up to the end
abbrev pub OnwardBy : Routes → NextServers → ℚ → RunState → List Step → ℕ → ℕ → ℕ → Entry → Type 0
OnwardBy net to end r xs a b p e =
    (end ≤ℚ gone_at end p (view_from net a r.entered xs) +ℚ link_at net a)
    ⊎ ComesBy net to end r xs b p e (gone_at end p (view_from net a r.entered xs) +ℚ link_at net a)

skip : (net : Routes) (to : NextServers) (end : ℚ) (r : RunState) (x : Step) (xs : List Step) (a b p : ℕ) (e : Entry)
    → gone_at end p (view_from net a r.entered (x ∷ xs)) ≡ gone_at end p (view_from net a (entered_after r.entered x) xs)
    → OnwardBy net to end (next_run_by net to r x) xs a b p e → OnwardBy net to end r (x ∷ xs) a b p e
skip net to end r x xs a b p e same (inl l) = inl (subst (λ (g : ℚ). end ≤ℚ g +ℚ link_at net a) (sym same) l)
skip net to end r x xs a b p e same (inr c) =
    inr (subst (λ (g : ℚ). ComesBy net to end r (x ∷ xs) b p e (g +ℚ link_at net a)) (sym same) (one_on net to end r x xs b p e (gone_at end p (view_from net a (entered_after r.entered x) xs) +ℚ link_at net a) c))

-- where it leaves
leaves_now : (net : Routes) (to : NextServers) (end : ℚ) (r : RunState) (xs : List Step) (a b p s q : ℕ) (t : ℚ) (e : Entry)
    → AllAllowedBy net to end (next_run_by net to r (Leave s q t)) xs
    → All (λ (c : Due). end <ℚ c.time) (after_run_by net to (next_run_by net to r (Leave s q t)) xs).due → Knows r p e
    → 1 ≤ count_of b (to e.flow a) → s ≡ a → q ≡ p
    → (end ≤ℚ t +ℚ link_at net a) ⊎ ComesBy net to end r (Leave s q t ∷ xs) b p e (t +ℚ link_at net a)
leaves_now net to end r xs a b p s q t e al late k goes here it = elim (le_or_lt end (t +ℚ link_at net a)) [
  | inl l ↦ inl l
  | inr l ↦
      let d : Due = record { packet = p; server = b; time = t +ℚ link_at net a } in
      let there : 1 ≤ count_of b (to (entry_of r.entered p).flow a) = subst (λ (x : Entry). 1 ≤ count_of b (to x.flow a)) (sym k.is) goes in
      let due : IsDue d (sent_to (to (entry_of r.entered q).flow s) q (t +ℚ link_at net s) r.due) =
      subst (λ (c : ℕ). IsDue d (sent_to (to (entry_of r.entered q).flow c) q (t +ℚ link_at net c) r.due)) (sym here)
      (subst (λ (j : ℕ). IsDue d (sent_to (to (entry_of r.entered j).flow a) j (t +ℚ link_at net a) r.due)) (sym it)
      (due_new b p (t +ℚ link_at net a) (to (entry_of r.entered p).flow a) r.due there)) in
      inr (one_on net to end r (Leave s q t) xs b p e (t +ℚ link_at net a)
      (reached net to end (next_run_by net to r (Leave s q t)) xs d e al late (knows_next_by net to r (Leave s q t) p e k) (with2 (t +ℚ link_at net a) end (λ c. omega (arith, c.le, c.lt, c.same))) due))
]

pub onward_by : (net : Routes) (to : NextServers) (end : ℚ) (r : RunState) (xs : List Step) (a b p : ℕ) (e : Entry) → AllAllowedBy net to end r xs
    → All (λ (c : Due). end <ℚ c.time) (after_run_by net to r xs).due → Knows r p e → 1 ≤ count_of b (to e.flow a)
    → int (pos 0) ≤ℚ link_at net a → OnwardBy net to end r xs a b p e
onward_by net to end r [] a b p e al late k goes on = inl (with2 end (link_at net a) (λ c. omega (arith, c.le, c.lt, c.same)))
onward_by net to end r (Enter f q t c ∷ xs) a b p e al late k goes on =
    skip net to end r (Enter f q t c) xs a b p e (gone_other net end a p r.entered (Enter f q t c) xs refl) (onward_by net to end (next_run_by net to r (Enter f q t c)) xs a b p e al.1 late (knows_next_by net to r (Enter f q t c) p e k) goes on)
onward_by net to end r (Reach s q t ∷ xs) a b p e al late k goes on =
    skip net to end r (Reach s q t) xs a b p e (gone_other net end a p r.entered (Reach s q t) xs refl) (onward_by net to end (next_run_by net to r (Reach s q t)) xs a b p e al.1 late (knows_next_by net to r (Reach s q t) p e k) goes on)
onward_by net to end r (Work s q c d w ∷ xs) a b p e al late k goes on =
    skip net to end r (Work s q c d w) xs a b p e (gone_other net end a p r.entered (Work s q c d w) xs refl) (onward_by net to end (next_run_by net to r (Work s q c d w)) xs a b p e al.1 late (knows_next_by net to r (Work s q c d w) p e k) goes on)
onward_by net to end r (Visit s q t ∷ xs) a b p e al late k goes on =
    skip net to end r (Visit s q t) xs a b p e (gone_other net end a p r.entered (Visit s q t) xs refl) (onward_by net to end (next_run_by net to r (Visit s q t)) xs a b p e al.1 late (knows_next_by net to r (Visit s q t) p e k) goes on)
onward_by net to end r (Leave s q t ∷ xs) a b p e al late k goes on =
    let rest = onward_by net to end (next_run_by net to r (Leave s q t)) xs a b p e al.1 late (knows_next_by net to r (Leave s q t) p e k) goes on in
    elim (cases_Bool (s == a)) [
      | inr f ↦ skip net to end r (Leave s q t) xs a b p e (rw f refl) rest
      | inl f ↦ elim (cases_Bool (q == p)) [
        | inr g ↦ skip net to end r (Leave s q t) xs a b p e (rw (f, g) refl) rest
        | inl g ↦
            let gone : gone_at end p (view_from net a r.entered (Leave s q t ∷ xs)) ≡ t = rw (f, g) refl in
            subst (λ (x : ℚ). (end ≤ℚ x +ℚ link_at net a) ⊎ ComesBy net to end r (Leave s q t ∷ xs) b p e (x +ℚ link_at net a)) (sym gone) (leaves_now net to end r xs a b p s q t e al.1 late k goes (eqb-true s a f) (eqb-true q p g))
      ]
    ]

-- ---- times: it is gone no earlier than the steps before
pub now_gone : (server : Server) (end : ℚ) (σ : ServerState) (front back : List ServerStep) (n : ℕ) → AllAllowed server end σ (front ++ back)
    → σ.now ≤ℚ end → σ.now ≤ℚ gone_at end n back
now_gone server end σ [] [] n a l = l
now_gone server end σ [] (Arrives c t ∷ V) n a l = le_trans (a.0.0.in_order) (now_gone server end (next server.discipline σ (Arrives c t)) [] V n a.1 a.0.0.in_run)
now_gone server end σ [] (Works c f b w ∷ V) n a l = le_trans (a.0.0.in_order) (now_gone server end (next server.discipline σ (Works c f b w)) [] V n a.1 a.0.0.in_run)
now_gone server end σ [] (Visits q t ∷ V) n a l = le_trans (a.0.0.in_order) (now_gone server end (next server.discipline σ (Visits q t)) [] V n a.1 a.0.0.in_run)
now_gone server end σ [] (Leaves c t ∷ V) n a l = elim (cases_Bool (c.packet == n)) [
  | inl e ↦ rw e a.0.0.in_order
  | inr e ↦ rw e (le_trans (a.0.0.in_order) (now_gone server end (next server.discipline σ (Leaves c t)) [] V n a.1 a.0.0.in_run))
]
now_gone server end σ (x ∷ front) back n a l =
    let order = time_in_order server end σ x a.0 in
    le_trans order.in_order (now_gone server end (next server.discipline σ x) front back n a.1 order.in_run)

pub gone_later : (server : Server) (end : ℚ) (σ : ServerState) (front back : List ServerStep) (n : ℕ) → AllAllowed server end σ (front ++ back)
    → gone_at end n (front ++ back) ≤ℚ gone_at end n back
gone_later server end σ [] back n a = le_refl (gone_at end n back)
gone_later server end σ (Arrives c t ∷ front) back n a = gone_later server end (next server.discipline σ (Arrives c t)) front back n a.1
gone_later server end σ (Works c f b w ∷ front) back n a = gone_later server end (next server.discipline σ (Works c f b w)) front back n a.1
gone_later server end σ (Visits q t ∷ front) back n a = gone_later server end (next server.discipline σ (Visits q t)) front back n a.1
gone_later server end σ (Leaves c t ∷ front) back n a = elim (cases_Bool (c.packet == n)) [
  | inl e ↦ rw e (now_gone server end (next server.discipline σ (Leaves c t)) front back n a.1 a.0.0.in_run)
  | inr e ↦ rw e (gone_later server end (next server.discipline σ (Leaves c t)) front back n a.1)
]
