-- Places on a path, and the paths of flows.
use Rattle.std.specs.Prelude.{Some, None, ◌≡◌, ◌≢◌, ℕ, zero, suc, pos, ◌-◌, ◌<◌, List, [], ◌∷◌, length, get_or, map, slice_get}
use Rattle.std.proofs.Common.{arith, refl, ap, ◌∙◌}
use Rattle.std.proofs.lemmas.Bool.{eq-eqb, ne_eqb}
use Rattle.run_laws.specs.Routes.{queue_at, server_after, first_of, first_server, last_server, link_at}
use Rattle.rational.specs.Rational.{int}
use Rattle.net_model.specs.NetRoutes.{hops_along, link_for, routes_of}
use Rattle.net_model.specs.Networks.{Net, NetServer}

-- no place before i has server s
abbrev pub NoneBefore : List ℕ → ℕ → ℕ → Type 0
NoneBefore path s i = (k : ℕ) → k < i → get_or path k 0 ≢ s

pub none_before_tail : (p : ℕ) (ps : List ℕ) (s i : ℕ) → NoneBefore (p ∷ ps) s (suc i) → NoneBefore ps s i
none_before_tail p ps s i h k l = h (suc k) (omega (arith, l))

pub queue_place : (path queues : List ℕ) (s i : ℕ) → length queues ≡ length path → i < length path → get_or path i 0 ≡ s → NoneBefore path s i
    → queue_at s (hops_along path queues) ≡ get_or queues i 0
queue_place [] queues s i e l g h = absurd (omega (arith, l))
queue_place (p ∷ ps) [] s i e l g h = absurd (omega (arith, e))
queue_place (p ∷ ps) (q ∷ qs) s zero e l g h = rw (eq-eqb p s g) refl
queue_place (p ∷ ps) (q ∷ qs) s (suc i) e l g h =
    let n : p ≢ s = h 0 (omega arith) in
    rw (ne_eqb p s n) (queue_place ps qs s i (omega (arith, e)) (omega (arith, l)) g (none_before_tail p ps s i h))

pub queue_none : (path queues : List ℕ) (s : ℕ) → length queues ≡ length path → NoneBefore path s (length path) → queue_at s (hops_along path queues) ≡ 0
queue_none [] queues s e h = refl
queue_none (p ∷ ps) [] s e h = refl
queue_none (p ∷ ps) (q ∷ qs) s e h =
    let n : p ≢ s = h 0 (omega arith) in
    rw (ne_eqb p s n) (queue_none ps qs s (omega (arith, e)) (λ k l. h (suc k) (omega (arith, l))))

pub first_is : (path queues : List ℕ) → length queues ≡ length path → first_of (hops_along path queues) ≡ slice_get path 0
first_is [] queues e = refl
first_is (p ∷ ps) [] e = absurd (omega (arith, e))
first_is (p ∷ ps) (q ∷ qs) e = refl

-- the first server of a path, be there one or none
pub first_some : (path queues : List ℕ) (s : ℕ) → length queues ≡ length path → slice_get path 0 ≡ Some s → first_server (hops_along path queues) ≡ s
first_some [] queues s e h = absurd (cc)
first_some (p ∷ ps) [] s e h = absurd (omega (arith, e))
first_some (p ∷ ps) (q ∷ qs) s e h = let g : p ≡ s = cc in g

pub first_missing : (path queues : List ℕ) → slice_get path 0 ≡ None → first_server (hops_along path queues) ≡ 0
first_missing [] queues h = refl
first_missing (p ∷ ps) queues h = absurd (cc)

-- the last server of a path, be there one or none
pub last_some : (path queues : List ℕ) (s : ℕ) → length queues ≡ length path → Some s ≡ slice_get path (length path - 1) → s ≡ last_server (hops_along path queues)
last_some [] queues s e h = absurd (cc)
last_some (p ∷ ps) [] s e h = absurd (omega (arith, e))
last_some (p ∷ []) (q ∷ qs) s e h = by qs
  where
    by : (qs : List ℕ) → s ≡ last_server (hops_along (p ∷ []) (q ∷ qs))
    by [] = let g : s ≡ p = cc in g
    by (r ∷ rs) = let g : s ≡ p = cc in g
last_some (p ∷ o ∷ ps) (q ∷ []) s e h = absurd (omega (arith, e))
last_some (p ∷ o ∷ ps) (q ∷ r ∷ qs) s e h =
    let k : length (p ∷ o ∷ ps) - 1 ≡ suc (length (o ∷ ps) - 1) = omega arith in
    let f : Some s ≡ slice_get (o ∷ ps) (length (o ∷ ps) - 1) = h ∙ ap (slice_get (p ∷ o ∷ ps)) k in
    last_some (o ∷ ps) (r ∷ qs) s (omega (arith, e)) f

pub last_missing : (path queues : List ℕ) → None ≡ slice_get path (length path - 1) → 0 ≡ last_server (hops_along path queues)
last_missing [] queues h = refl
last_missing (p ∷ []) queues h = absurd (cc)
last_missing (p ∷ o ∷ ps) queues h = absurd (missing p o ps h)
  where
    missing : (p o : ℕ) (ps : List ℕ) → None ≡ slice_get (p ∷ o ∷ ps) (length (p ∷ o ∷ ps) - 1) → ⊥
    missing p o [] h = let f : None ≡ Some o = h in cc
    missing p o (r ∷ rs) h =
        let k : length (p ∷ o ∷ r ∷ rs) - 1 ≡ suc (length (o ∷ r ∷ rs) - 1) = omega arith in
        missing o r rs (h ∙ ap (slice_get (p ∷ o ∷ r ∷ rs)) k)

pub after_place : (path queues : List ℕ) (s i : ℕ) → length queues ≡ length path → i < length path → get_or path i 0 ≡ s → NoneBefore path s i
    → server_after s (hops_along path queues) ≡ slice_get path (suc i)
after_place [] queues s i e l g h = absurd (omega (arith, l))
after_place (p ∷ ps) [] s i e l g h = absurd (omega (arith, e))
after_place (p ∷ ps) (q ∷ qs) s zero e l g h = rw (eq-eqb p s g) (first_is ps qs (omega (arith, e)))
after_place (p ∷ ps) (q ∷ qs) s (suc i) e l g h =
    let n : p ≢ s = h 0 (omega arith) in
    rw (ne_eqb p s n) (after_place ps qs s i (omega (arith, e)) (omega (arith, l)) g (none_before_tail p ps s i h))

pub after_none : (path queues : List ℕ) (s : ℕ) → length queues ≡ length path → NoneBefore path s (length path) → server_after s (hops_along path queues) ≡ None
after_none [] queues s e h = refl
after_none (p ∷ ps) [] s e h = refl
after_none (p ∷ ps) (q ∷ qs) s e h =
    let n : p ≢ s = h 0 (omega arith) in
    rw (ne_eqb p s n) (after_none ps qs s (omega (arith, e)) (λ k l. h (suc k) (omega (arith, l))))

-- ---- links
link_from : (servers : List NetServer) (s : ℕ) (x : NetServer) → Some x ≡ slice_get servers s → x.link ≡ get_or (map link_for servers) s (int (pos 0))
link_from [] s x e = absurd (cc)
link_from (y ∷ ys) zero x e = let g : x ≡ y = cc in ap link_for g
link_from (y ∷ ys) (suc s) x e = link_from ys s x e

no_link : (servers : List NetServer) (s : ℕ) → None ≡ slice_get servers s → int (pos 0) ≡ get_or (map link_for servers) s (int (pos 0))
no_link [] s e = refl
no_link (y ∷ ys) zero e = absurd (cc)
no_link (y ∷ ys) (suc s) e = no_link ys s e

pub link_is : (net : Net) (s : ℕ) (x : NetServer) → Some x ≡ slice_get net.servers s → x.link ≡ link_at (routes_of net) s
link_is net s x e = link_from net.servers s x e

pub link_none : (net : Net) (s : ℕ) → None ≡ slice_get net.servers s → int (pos 0) ≡ link_at (routes_of net) s
link_none net s e = no_link net.servers s e
