-- How many bits a server still has to see or to work off: of packets that have not entered, that are in servers, and
-- that are on links; and what each step does to that sum.
use Rattle.std.proofs.Common.{◌≡◌, ℕ, zero, suc, ◌<◌, ◌≤◌, ◌+◌, List, [], ◌∷◌, ◌++◌, length, get_or, set, map, drop, refl, ap, ◌∙◌, subst, arith, inl, inr, Some, None, true, false}
use Rattle.std.specs.Prelude.{Option, ◌==◌, ◌&&◌}
use Rattle.std.proofs.lemmas.Bool.{cases_Bool, eqb-true, and_parts}
use Rattle.rational.specs.Rational.{ℚ, le_q}
use Rattle.run_laws.specs.Cards.{Card}
use Rattle.run_laws.specs.Servers.{Server, ServerState, head_of, without_head, start}
use Rattle.run_laws.specs.Routes.{Routes, route_of}
use Rattle.run_laws.specs.Views.{Entry, entry_of, hops_of}
use Rattle.run_laws.specs.Lawful.{Due, same_due, without, sent, RunState}
use Rattle.run_laws.proofs.Heads.{same_some}
use Rattle.net_model.specs.stated_runs.Setups.{Entering, Setup}
use Rattle.net_model.proofs.stated_runs.Lists.{In}
use Rattle.sim_bounds.specs.Horizons.{path_bits, bits_through}
use Rattle.sim_bounds.proofs.Ahead.{bits_from, bits_after}
use Rattle.run_laws.proofs.Entries.{same_due_self}

-- ---- the sums
-- a packet that is in server j
abbrev pub card_bits : Routes → ℕ → ℕ → Card → ℕ
card_bits net s j c = bits_from s j (route_of net c.flow).hops c.bits

abbrev pub bits_inside : Routes → ℕ → ℕ → List Card → ℕ
bits_inside net s j [] = 0
bits_inside net s j (c ∷ cs) = card_bits net s j c + bits_inside net s j cs

-- the servers from number j on
abbrev pub bits_in_servers : Routes → ℕ → ℕ → List ServerState → ℕ
bits_in_servers net s j [] = 0
bits_in_servers net s j (σ ∷ σs) = bits_inside net s j σ.inside + bits_in_servers net s (suc j) σs

-- a packet on a link
abbrev pub due_bits : Routes → List Entry → ℕ → Due → ℕ
due_bits net entered s d = bits_from s d.server (hops_of net entered d.packet) (entry_of entered d.packet).bits

abbrev pub bits_on_links : Routes → List Entry → ℕ → List Due → ℕ
bits_on_links net entered s [] = 0
bits_on_links net entered s (d ∷ ds) = due_bits net entered s d + bits_on_links net entered s ds

-- all that is ahead of server s, with what is inside
abbrev pub ahead : Setup → RunState → ℕ → ℕ
ahead S r s = bits_through S.net s (drop (length r.entered) S.packets) + bits_in_servers S.net s 0 r.servers + bits_on_links S.net r.entered s r.due

-- ---- one list of packets
pub inside_push : (net : Routes) (s j : ℕ) (cs : List Card) (c : Card) → bits_inside net s j (cs ++ c ∷ []) ≡ bits_inside net s j cs + card_bits net s j c
inside_push net s j [] c = omega arith
inside_push net s j (x ∷ xs) c = let h = inside_push net s j xs c in omega arith

pub inside_without : (net : Routes) (s j q : ℕ) (cs : List Card) (c : Card) → head_of q cs ≡ Some c
    → bits_inside net s j (without_head q cs) + card_bits net s j c ≡ bits_inside net s j cs
inside_without net s j q [] c e = absurd (cc)
inside_without net s j q (x ∷ xs) c e = elim (cases_Bool (x.queue == q)) [
  | inl i ↦
      let k : x ≡ c = same_some x c (rw i at e) in
      let w : card_bits net s j x ≡ card_bits net s j c = ap (card_bits net s j) k in
      rw i (omega (arith, w))
  | inr i ↦
      let h = inside_without net s j q xs c (rw i at e) in
      rw i (omega (arith, h))
]

-- ---- all servers
pub servers_set : (net : Routes) (s j : ℕ) (σs : List ServerState) (i : ℕ) (τ d : ServerState) → i < length σs
    → bits_in_servers net s j (set σs i τ) + bits_inside net s (j + i) (get_or σs i d).inside ≡ bits_in_servers net s j σs + bits_inside net s (j + i) τ.inside
servers_set net s j [] i τ d h = absurd (omega (arith, h))
servers_set net s j (σ ∷ σs) zero τ d h =
    let e : j + 0 ≡ j = omega arith in
    let a : bits_inside net s (j + 0) σ.inside ≡ bits_inside net s j σ.inside = ap (λ k. bits_inside net s k σ.inside) e in
    let b : bits_inside net s (j + 0) τ.inside ≡ bits_inside net s j τ.inside = ap (λ k. bits_inside net s k τ.inside) e in
    omega (arith, a, b)
servers_set net s j (σ ∷ σs) (suc i) τ d h =
    let k = servers_set net s (suc j) σs i τ d (omega (arith, h)) in
    let e : suc j + i ≡ j + suc i = omega arith in
    let a : bits_inside net s (suc j + i) (get_or σs i d).inside ≡ bits_inside net s (j + suc i) (get_or σs i d).inside = ap (λ m. bits_inside net s m (get_or σs i d).inside) e in
    let b : bits_inside net s (suc j + i) τ.inside ≡ bits_inside net s (j + suc i) τ.inside = ap (λ m. bits_inside net s m τ.inside) e in
    omega (arith, k, a, b)

pub servers_at : (net : Routes) (s j : ℕ) (σs : List ServerState) (i : ℕ) (d : ServerState) → i < length σs
    → bits_inside net s (j + i) (get_or σs i d).inside ≤ bits_in_servers net s j σs
servers_at net s j [] i d h = absurd (omega (arith, h))
servers_at net s j (σ ∷ σs) zero d h =
    let a : bits_inside net s (j + 0) σ.inside ≡ bits_inside net s j σ.inside = ap (λ k. bits_inside net s k σ.inside) (let e : j + 0 ≡ j = omega arith in e) in
    omega (arith, a)
servers_at net s j (σ ∷ σs) (suc i) d h =
    let k = servers_at net s (suc j) σs i d (omega (arith, h)) in
    let a : bits_inside net s (suc j + i) (get_or σs i d).inside ≡ bits_inside net s (j + suc i) (get_or σs i d).inside =
    ap (λ m. bits_inside net s m (get_or σs i d).inside) (let e : suc j + i ≡ j + suc i = omega arith in e) in
    omega (arith, k, a)

pub servers_start : (net : Routes) (s j : ℕ) (xs : List Server) → bits_in_servers net s j (map (λ (x : Server). start x.discipline) xs) ≡ 0
servers_start net s j [] = refl
servers_start net s j (x ∷ xs) = let h = servers_start net s (suc j) xs in omega (arith, h)

-- ---- links
-- entries that count as one have the same bits
same_bits : (net : Routes) (entered : List Entry) (s : ℕ) (d e : Due) → same_due d e ≡ true → due_bits net entered s d ≡ due_bits net entered s e
same_bits net entered s d e h =
    let a = and_parts (d.packet == e.packet) ((d.server == e.server) && (le_q d.time e.time && le_q e.time d.time)) h in
    let b = and_parts (d.server == e.server) (le_q d.time e.time && le_q e.time d.time) a.1 in
    let p : d.packet ≡ e.packet = eqb-true d.packet e.packet a.0 in
    let q : d.server ≡ e.server = eqb-true d.server e.server b.0 in
    ap (λ k. bits_from s k (hops_of net entered d.packet) (entry_of entered d.packet).bits) q
    ∙ ap (λ k. bits_from s e.server (hops_of net entered k) (entry_of entered k).bits) p

pub links_without : (net : Routes) (entered : List Entry) (s : ℕ) (d : Due) (ds : List Due) → In ds d
    → bits_on_links net entered s (without d ds) + due_bits net entered s d ≡ bits_on_links net entered s ds
links_without net entered s d [] h = absurd h
links_without net entered s d (e ∷ es) h = elim (cases_Bool (same_due d e)) [
  | inl t ↦
      let w = same_bits net entered s d e t in
      rw t (omega (arith, w))
  | inr f ↦ elim h [
    | inl i ↦ absurd (let a = same_due_self d in let b : same_due d d ≡ false = subst (λ x. same_due d x ≡ false) i f in cc)
    | inr i ↦
        let k = links_without net entered s d es i in
        rw f (omega (arith, k))
  ]
]

pub links_push : (net : Routes) (entered : List Entry) (s : ℕ) (ds : List Due) (d : Due) → bits_on_links net entered s (ds ++ d ∷ []) ≡ bits_on_links net entered s ds + due_bits net entered s d
links_push net entered s [] d = omega arith
links_push net entered s (x ∷ xs) d = let h = links_push net entered s xs d in omega arith

pub links_sent : (net : Routes) (entered : List Entry) (s : ℕ) (o : Option ℕ) (p : ℕ) (t : ℚ) (ds : List Due)
    → bits_on_links net entered s (sent o p t ds) ≡ bits_on_links net entered s ds + bits_after s o (hops_of net entered p) (entry_of entered p).bits
links_sent net entered s None p t ds = omega arith
links_sent net entered s (Some g) p t ds = links_push net entered s ds record { packet = p; server = g; time = t }

-- the packets on links are known already
pub links_extend : (net : Routes) (before after : List Entry) (s : ℕ) (ds : List Due) → ((d : Due) → In ds d → entry_of after d.packet ≡ entry_of before d.packet)
    → bits_on_links net after s ds ≡ bits_on_links net before s ds
links_extend net before after s [] h = refl
links_extend net before after s (d ∷ ds) h =
    let one : due_bits net after s d ≡ due_bits net before s d = ap (λ (e : Entry). bits_from s d.server (route_of net e.flow).hops e.bits) (h d (inl refl)) in
    let rest = links_extend net before after s ds (λ e i. h e (inr i)) in
    omega (arith, one, rest)

-- ---- packets that have not entered
pub through_drop : (net : Routes) (s k : ℕ) (es : List Entering) (d : Entering) → k < length es
    → bits_through net s (drop k es) ≡ path_bits s (route_of net (get_or es k d).flow).hops (get_or es k d).bits + bits_through net s (drop (suc k) es)
through_drop net s k [] d h = absurd (omega (arith, h))
through_drop net s zero (e ∷ es) d h = refl
through_drop net s (suc k) (e ∷ es) d h = through_drop net s k es d (omega (arith, h))
