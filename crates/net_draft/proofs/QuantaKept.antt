-- Where no quantum is below the longest packet of its flows, each packet is within the quantum of each queue on its way.
use Rattle.std.specs.Prelude.{codes, All, Contains, slice_get, slice_index, nat_lt, ◌||◌}
use Rattle.std.specs.List.{list_any}
use Rattle.std.proofs.Common.{◌≡◌, ℕ, zero, suc, ◌+◌, ◌≤◌, ◌<◌, Bool, true, false, cond, List, [], ◌∷◌, length, Some, Ok, Err, refl, sym, ◌∙◌, subst, arith, true≢false}
use Rattle.std.proofs.lemmas.Bool.Decides.{nat_tests}
use Rattle.std.proofs.lemmas.List.Elements.{All-nil, All-cons, All-contains, All-contains_itself}
use Rattle.std.proofs.lemmas.List.Folds.{list_any-from_Any}
use Rattle.run_laws.specs.Servers.{Discipline, Fifo, Priority, Drr, queue_count}
use Rattle.net_model.specs.Accepted.{IsInQuantum}
use Rattle.net_draft.specs.declared.hop.Hop.{Hop}
use Rattle.net_draft.specs.Faults.{◌>>=◌, Fault, Read, under, nth}
use Rattle.net_draft.specs.Texts.{ServerText, FlowText, IsHopOf, IsWithinQuantum}
use Rattle.net_draft.specs.Drafts.{is_hop_to, is_longer, quanta_from, quanta_in, quanta_of_server, quanta_fit}

-- ---- tests of lists
pub no_left : (a b : Bool) → (a || b) ≡ false → a ≡ false
no_left true b h = absurd (true≢false h)
no_left false b h = refl

pub no_right : (a b : Bool) → (a || b) ≡ false → b ≡ false
no_right true b h = absurd (true≢false h)
no_right false b h = h

pub none_passes : {X : Type 0} (t : X → Bool) (xs : List X) → list_any t xs ≡ false → All (λ x. t x ≡ false) xs
none_passes t [] h = All-nil (λ x. t x ≡ false)
none_passes t (x ∷ xs) h = All-cons (λ x. t x ≡ false) x xs (no_left (t x) (list_any t xs) h) (none_passes t xs (no_right (t x) (list_any t xs) h))

some_passes : {X : Type 0} (t : X → Bool) (xs : List X) (x : X) → Contains xs x → t x ≡ true → list_any t xs ≡ true
some_passes t xs x within h = list_any-from_Any t xs (within.0, x, within.1, within.2, h)

-- ---- one quantum
passed : (b : Bool) (f : Fault) (r : Read (Unit {0})) → cond b (Err f) r ≡ Ok tt → (b ≡ false) × (r ≡ Ok tt)
passed true f r h = absurd cc
passed false f r h = (refl, h)

both_ok : (r s : Read (Unit {0})) → (r >>= λ x. s) ≡ Ok tt → (r ≡ Ok tt) × (s ≡ Ok tt)
both_ok (Ok tt) s h = (refl, h)
both_ok (Err f) s h = absurd cc

one_quantum : (flows : List FlowText) (place : List ℕ) (s q : ℕ) (qs : List ℕ) (j : ℕ) → quanta_from flows place s q qs ≡ Ok tt → j < length qs
    → list_any (is_longer s (q + j) (slice_index qs j)) flows ≡ false
unfolding quanta_from
one_quantum flows place s q [] j h l = absurd (omega (arith, l))
one_quantum flows place s q (b ∷ bs) zero h l =
    let k : q ≡ q + 0 = omega arith in
    subst (λ n. list_any (is_longer s n b) flows ≡ false) k (passed (list_any (is_longer s q b) flows) _ (quanta_from flows place s (q + 1) bs) h).0
one_quantum flows place s q (b ∷ bs) (suc j) h l =
    let rest = (passed (list_any (is_longer s q b) flows) _ (quanta_from flows place s (q + 1) bs) h).1 in
    let k : (q + 1) + j ≡ q + suc j = omega arith in
    subst (λ n. list_any (is_longer s n (slice_index bs j)) flows ≡ false) k (one_quantum flows place s (q + 1) bs j rest (omega (arith, l)))

one_server : (flows : List FlowText) (n : ℕ) (ss : List ServerText) (k : ℕ) (s : ServerText) → quanta_fit flows n ss ≡ Ok tt → slice_get ss k ≡ Some s → quanta_of_server flows (n + k) s ≡ Ok tt
unfolding quanta_fit
one_server flows n [] k s h is = absurd cc
one_server flows n (t ∷ ts) zero s h is =
    let same : t ≡ s = cc in
    let k : n ≡ n + 0 = omega arith in
    subst (λ m. quanta_of_server flows m s ≡ Ok tt) k (subst (λ u. quanta_of_server flows n u ≡ Ok tt) same (both_ok (quanta_of_server flows n t) (quanta_fit flows (n + 1) ts) h).0)
one_server flows n (t ∷ ts) (suc k) s h is =
    let rest = (both_ok (quanta_of_server flows n t) (quanta_fit flows (n + 1) ts) h).1 in
    let j : (n + 1) + k ≡ n + suc k = omega arith in
    subst (λ m. quanta_of_server flows m s ≡ Ok tt) j (one_server flows (n + 1) ts k s rest is)

-- ---- a flow's packet
not_longer : (s q bits : ℕ) (f : FlowText) (h : Hop) → h.server ≡ s → h.queue ≡ q → Contains f.path h → is_longer s q bits f ≡ false → f.packet ≤ bits
not_longer s q bits f h a b within e = by (nat_lt bits f.packet) refl
  where
    here : list_any (is_hop_to s q) f.path ≡ true
    here = some_passes (is_hop_to s q) f.path h within (rw (a, b) (grind (arith, nat_tests)))

    by : (t : Bool) → nat_lt bits f.packet ≡ t → f.packet ≤ bits
    by true t = absurd (true≢false (sym (rw (t, here) refl) ∙ e))
    by false t = grind (arith, nat_tests, t)

in_quantum : (d : Discipline) (q bits : ℕ) → q < queue_count d → ((qs : List ℕ) → d ≡ Drr qs → q < length qs → bits ≤ slice_index qs q) → IsInQuantum d q bits
in_quantum Fifo q bits l f = tt
in_quantum (Priority n) q bits l f = tt
in_quantum (Drr qs) q bits l f = f qs refl l

hop_kept : (flows : List FlowText) (servers : List ServerText) (f : FlowText) (h : Hop) → quanta_fit flows 0 servers ≡ Ok tt → Contains flows f → Contains f.path h → IsHopOf servers h
    → IsWithinQuantum servers f.packet h
hop_kept flows servers f h fit within on hop s is =
    let same : hop.server ≡ s = let e = hop.is in let g = is in cc in
    in_quantum s.discipline h.queue f.packet (subst (λ t. h.queue < queue_count t.discipline) same hop.has_queue) (λ qs e l.
    let k : 0 + h.server ≡ h.server = omega arith in
    let at_server = subst (λ m. quanta_of_server flows m s ≡ Ok tt) k (one_server flows 0 servers h.server s fit is) in
    let from : quanta_from flows (under (nth (codes "server") h.server) (codes "quanta")) h.server 0 qs ≡ Ok tt =
    subst (λ d. quanta_from flows (under (nth (codes "server") h.server) (codes "quanta")) h.server 0 (quanta_in d) ≡ Ok tt) e at_server in
    let j : 0 + h.queue ≡ h.queue = omega arith in
    let none = subst (λ n. list_any (is_longer h.server n (slice_index qs h.queue)) flows ≡ false) j
    (one_quantum flows (under (nth (codes "server") h.server) (codes "quanta")) h.server 0 qs h.queue from l) in
    not_longer h.server h.queue (slice_index qs h.queue) f h refl refl on
    (All-contains (λ g. is_longer h.server h.queue (slice_index qs h.queue) g ≡ false) flows f (none_passes (is_longer h.server h.queue (slice_index qs h.queue)) flows none) within))

pub quanta_kept : (flows : List FlowText) (servers : List ServerText) → quanta_fit flows 0 servers ≡ Ok tt → All (λ f. All (IsHopOf servers) f.path) flows
    → All (λ f. All (IsWithinQuantum servers f.packet) f.path) flows
quanta_kept flows servers fit paths i d l j e m =
    hop_kept flows servers _ _ fit (All-contains_itself flows i d l) (All-contains_itself _ j e m) (paths i d l j e m)
