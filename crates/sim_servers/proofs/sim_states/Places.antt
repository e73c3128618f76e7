-- Each packet that has entered is at one place at most: at a server, or on a link.
use Rattle.std.specs.Prelude.{Option, Some, None, ◌≡◌, ◌≢◌, ℕ, ◌+◌, ◌<◌, ◌≤◌, false, ◌==◌, ◌&&◌, List, [], ◌∷◌, ◌++◌, length, map, get_or, sum_by}
use Rattle.std.proofs.Common.{arith, refl, sym, ap, ◌∙◌, subst, inl, inr}
use Rattle.std.proofs.lemmas.Bool.{cases_eq, cases_Bool, eq-eqb, eqb-true, ne_eqb, and_parts}
use Rattle.std.proofs.lemmas.List.{length_push}
use Rattle.std.proofs.lemmas.List.Sums.{sum_by-set}
use Rattle.rational.specs.Rational.{ℚ, le_q, ◌+ℚ◌}
use Rattle.run_laws.specs.declared.steps.Step.{Step}
use Rattle.run_laws.specs.declared.steps.Step.TheVariants.{Enter, Reach, Work, Leave, Visit}
use Rattle.run_laws.specs.Cards.{Card}
use Rattle.run_laws.specs.Servers.{Fifo, ServerState, start, head_of, without_head, Server}
use Rattle.run_laws.specs.Next.{next, next_inside}
use Rattle.run_laws.specs.Routes.{Routes, server_at, link_at}
use Rattle.run_laws.specs.Views.{Entry, card_of, server_of, seen}
use Rattle.run_laws.specs.Lawful.{Due, RunState, same_due, without, sent, state_at, next_run}
use Rattle.net_model.proofs.stated_runs.Lists.{In}
use Rattle.sim_servers.specs.sim_states.Places.{one, cards_of, dues_of, at_server, places, ArePlaced}
use Rattle.run_laws.proofs.Entries.{same_due_self}

pub one_same : (p : ℕ) → one p p ≡ 1
one_same p = rw (eq-eqb p p refl) refl

pub one_other : (a b : ℕ) → a ≢ b → one a b ≡ 0
one_other a b h = rw (ne_eqb a b h) refl

-- ---- lists
cards_push : (p : ℕ) (cs : List Card) (c : Card) → cards_of p (cs ++ c ∷ []) ≡ cards_of p cs + one c.packet p
cards_push p [] c = omega arith
cards_push p (x ∷ xs) c = let h = cards_push p xs c in omega arith

cards_less : (p q : ℕ) (cs : List Card) (c : Card) → head_of q cs ≡ Some c → cards_of p (without_head q cs) + one c.packet p ≡ cards_of p cs
cards_less p q [] c e = absurd (cc)
cards_less p q (x ∷ xs) c e = elim (cases_eq x.queue q) [
  | inl i ↦
      let a : without_head q (x ∷ xs) ≡ xs = rw (eq-eqb x.queue q i) refl in
      let f : Some x ≡ Some c = rw (eq-eqb x.queue q i) at e in
      let g : x ≡ c = cc in
      let k : one x.packet p ≡ one c.packet p = ap (λ (y : Card). one y.packet p) g in
      let m : cards_of p (without_head q (x ∷ xs)) ≡ cards_of p xs = ap (cards_of p) a in
      omega (arith, k, m)
  | inr n ↦
      let a : without_head q (x ∷ xs) ≡ x ∷ without_head q xs = rw (ne_eqb x.queue q n) refl in
      let f : head_of q xs ≡ Some c = rw (ne_eqb x.queue q n) at e in
      let h = cards_less p q xs c f in
      let m : cards_of p (without_head q (x ∷ xs)) ≡ one x.packet p + cards_of p (without_head q xs) = ap (cards_of p) a in
      omega (arith, h, m)
]

-- a departure that is not the first one is a later one
pub later_due : (d e : Due) (es : List Due) → same_due d e ≡ false → In (e ∷ es) d → In es d
later_due d e es other has = elim has [
  | inl same ↦ absurd (let g : same_due d d ≡ false = ap (λ x. same_due d x) (sym same) ∙ other in let k = same_due_self d in cc)
  | inr i ↦ i
]

pub dues_less : (p : ℕ) (ds : List Due) (d : Due) → In ds d → dues_of p (without d ds) + one d.packet p ≡ dues_of p ds
dues_less p [] d h = absurd h
dues_less p (e ∷ es) d h = elim (cases_Bool (same_due d e)) [
  | inl t ↦
      let a : without d (e ∷ es) ≡ es = rw t refl in
      let g : d.packet ≡ e.packet = eqb-true d.packet e.packet (and_parts (d.packet == e.packet) ((d.server == e.server) && (le_q d.time e.time && le_q e.time d.time)) t).0 in
      let k : one d.packet p ≡ one e.packet p = ap (λ x. one x p) g in
      let m : dues_of p (without d (e ∷ es)) ≡ dues_of p es = ap (dues_of p) a in
      omega (arith, k, m)
  | inr f ↦
      let a : without d (e ∷ es) ≡ e ∷ without d es = rw f refl in
      let n = dues_less p es d (later_due d e es f h) in
      let m : dues_of p (without d (e ∷ es)) ≡ one e.packet p + dues_of p (without d es) = ap (dues_of p) a in
      omega (arith, n, m)
]

dues_push : (p : ℕ) (ds : List Due) (d : Due) → dues_of p (ds ++ d ∷ []) ≡ dues_of p ds + one d.packet p
dues_push p [] d = omega arith
dues_push p (x ∷ xs) d = let h = dues_push p xs d in omega arith

dues_sent : (p : ℕ) (o : Option ℕ) (q : ℕ) (t : ℚ) (ds : List Due) → dues_of p (sent o q t ds) ≤ dues_of p ds + one q p
dues_sent p None q t ds = omega arith
dues_sent p (Some s) q t ds = let h = dues_push p ds record { packet = q; server = s; time = t } in omega (arith, h)

-- ---- where a packet is
pub card_counts : (cs : List Card) (c : Card) → In cs c → 1 ≤ cards_of c.packet cs
card_counts [] c h = absurd h
card_counts (x ∷ xs) c (inl e) = let k : one x.packet c.packet ≡ 1 = ap (λ (y : Card). one y.packet c.packet) e ∙ one_same c.packet in omega (arith, k)
card_counts (x ∷ xs) c (inr h) = let k = card_counts xs c h in omega (arith, k)

pub due_counts : (ds : List Due) (d : Due) → In ds d → 1 ≤ dues_of d.packet ds
due_counts [] d h = absurd h
due_counts (x ∷ xs) d (inl e) = let k : one x.packet d.packet ≡ 1 = ap (λ (y : Due). one y.packet d.packet) e ∙ one_same d.packet in omega (arith, k)
due_counts (x ∷ xs) d (inr h) = let k = due_counts xs d h in omega (arith, k)

pub no_due : (ds : List Due) (p : ℕ) → dues_of p ds ≡ 0 → (d : Due) → In ds d → d.packet ≢ p
no_due ds p e d h f = let k = due_counts ds d h in let m : dues_of d.packet ds ≡ dues_of p ds = ap (λ x. dues_of x ds) f in omega (arith, k, m, e)

one_of_many : (p : ℕ) (xs : List ServerState) (s : ℕ) (d : ServerState) → s < length xs → at_server p (get_or xs s d) ≤ sum_by (at_server p) xs
one_of_many p xs s d h = let e = sum_by-set (at_server p) xs s record { now = d.now; busy = d.busy; inside = []; under = d.under; round = d.round } d h in omega (arith, e)

pub at_most : (r : RunState) (p s : ℕ) → s < length r.servers → at_server p (state_at r s) + dues_of p r.due ≤ places r p
at_most r p s h = let k = one_of_many p r.servers s (start Fifo) h in omega (arith, k)

-- ---- a step
servers_after : (p : ℕ) (net : Routes) (r : RunState) (x : Step) → server_of net x < length r.servers
    → sum_by (at_server p) (next_run net r x).servers + at_server p (state_at r (server_of net x))
    ≡ sum_by (at_server p) r.servers + cards_of p (next_inside (state_at r (server_of net x)).inside (seen net r.entered x))
servers_after p net r x h =
    sum_by-set (at_server p) r.servers (server_of net x) (next (server_at net (server_of net x)).discipline (state_at r (server_of net x)) (seen net r.entered x)) (start Fifo) h

abbrev pub KeepsPlaces : RunState → RunState → Type 0
KeepsPlaces r r' = (p : ℕ) → places r' p ≤ places r p

pub placed_next : (r r' : RunState) → r'.entered ≡ r.entered → KeepsPlaces r r' → ArePlaced r → ArePlaced r'
placed_next r r' e k h = record {
  few = λ p. let a = k p in let b = h.few p in omega (arith, a, b);
  none = λ p l. let a = k p in let b = h.none p (subst (λ (xs : List Entry). length xs ≤ p) e l) in omega (arith, a, b);
}

pub places_reach : (net : Routes) (r : RunState) (s p : ℕ) (t : ℚ) → s < length r.servers → In r.due record { packet = p; server = s; time = t }
    → KeepsPlaces r (next_run net r (Reach s p t))
places_reach net r s p t h i q =
    let a = servers_after q net r (Reach s p t) h in
    let b = cards_push q (state_at r s).inside (card_of net r.entered p s) in
    let c = dues_less q r.due record { packet = p; server = s; time = t } i in
    omega (arith, a, b, c)

pub places_work : (net : Routes) (r : RunState) (s p : ℕ) (a b w : ℚ) → s < length r.servers → KeepsPlaces r (next_run net r (Work s p a b w))
places_work net r s p a b w h q = let k = servers_after q net r (Work s p a b w) h in omega (arith, k)

pub places_visit : (net : Routes) (r : RunState) (s j : ℕ) (t : ℚ) → s < length r.servers → KeepsPlaces r (next_run net r (Visit s j t))
places_visit net r s j t h q = let k = servers_after q net r (Visit s j t) h in omega (arith, k)

pub places_leave : (net : Routes) (r : RunState) (s p : ℕ) (t : ℚ) → s < length r.servers
    → (c : Card) → c.packet ≡ p → head_of (card_of net r.entered p s).queue (state_at r s).inside ≡ Some c → KeepsPlaces r (next_run net r (Leave s p t))
places_leave net r s p t h c e head q =
    let a = servers_after q net r (Leave s p t) h in
    let b = cards_less q (card_of net r.entered p s).queue (state_at r s).inside c head in
    let k : one c.packet q ≡ one p q = ap (λ x. one x q) e in
    let d = dues_sent q (Rattle.run_laws.specs.Routes.server_after s (Rattle.run_laws.specs.Views.hops_of net r.entered p)) p
    (t +ℚ link_at net s) r.due in
    omega (arith, a, b, k, d)

pub placed_enter : (net : Routes) (r : RunState) (f p : ℕ) (t : ℚ) (b : ℕ) → server_of net (Enter f p t b) < length r.servers → p ≡ length r.entered
    → ArePlaced r → ArePlaced (next_run net r (Enter f p t b))
placed_enter net r f p t b h e k =
    let x = Enter f p t b in
    let s = server_of net x in
    let grown : (q : ℕ) → places (next_run net r x) q ≡ places r q + one p q = λ q.
    let a = servers_after q net r x h in
    let c = cards_push q (state_at r s).inside (card_of net (r.entered ++ record { flow = f; bits = b } ∷ []) p s) in
    omega (arith, a, c) in
    let long : length (r.entered ++ record { flow = f; bits = b } ∷ []) ≡ length r.entered + 1 = length_push r.entered record { flow = f; bits = b } in
    record {
      few = λ q. elim (cases_eq p q) [
        | inl i ↦ let a = grown q in let z = k.none q (omega (arith, i, e)) in let o : one p q ≡ 1 = ap (one p) (sym i) ∙ one_same p in omega (arith, a, z, o)
        | inr n ↦ let a = grown q in let z = k.few q in let o = one_other p q n in omega (arith, a, z, o)
      ];
      none = λ q l. let a = grown q in let z = k.none q (omega (arith, l, long)) in
          let d : p ≢ q = omega (arith, l, long, e) in let o = one_other p q d in omega (arith, a, z, o);
    }

-- ---- at the start
pub none_placed : (p : ℕ) (xs : List Server) → sum_by (at_server p) (map (λ (x : Server). start x.discipline) xs) ≡ 0
none_placed p [] = refl
none_placed p (x ∷ xs) = let h = none_placed p xs in omega (arith, h)
