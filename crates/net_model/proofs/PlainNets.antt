-- Plain networks keep what every network keeps.
use Rattle.std.proofs.Common.{◌≡◌, ◌≢◌, ℕ, zero, suc, pos, ◌<◌, ◌≤◌, ◌+◌, List, [], ◌∷◌, ◌++◌, length, get_or, take, replicate, refl, sym, ◌∙◌, ap, subst, arith, inl, inr, Bool, true, false, not, ◌&&◌, Option, Some, None, nat_eq, nat_le, nat_lt}
use Rattle.std.specs.Prelude.{All, AllPairs, Contains, IsTrue}
use Rattle.std.specs.List.{list_all, list_any}
use Rattle.std.proofs.lemmas.Bool.{cases_lt, leb-true, le-leb, ltb-true, and_parts}
use Rattle.std.specs.Borrow.{Bor}
use Rattle.std.specs.Option.{option_map}
use Rattle.std.proofs.Common.{eqb-true}
use Rattle.net_model.specs.declared.flow.Flow.{Flow}
use Rattle.net_model.specs.Views.{flow_of, flows_of}
use Rattle.std.proofs.lemmas.List.{map-append, map_more, length-map, length-take-le, length-append, length-replicate, get_or-replicate, get_or_append_left, get_or_at}
use Rattle.std.proofs.lemmas.List.Folds.{list_any_at, list_all_at}
use Rattle.std.proofs.lemmas.Option.{slice_get-get_or}
use Rattle.rational.specs.Rational.{int, frac, den, ◌<ℚ◌}
use Rattle.rational.specs.Ratio.{IsSmall}
use Rattle.rational.specs.Gcd.{gcd, gcd_steps}
use Rattle.rational.proofs.Linear.{with2}
use Rattle.std.proofs.Common.{eq-eqb}
use Rattle.std.proofs.lemmas.Bool.{not-true}
use Rattle.rational.proofs.Laws.{le_refl, le_of_lt}
use Rattle.min_plus.specs.Functions.{zero_q}
use Rattle.net_model.specs.Networks.{NetServer, NetFlow}
use Rattle.net_model.specs.Names.{IsName, is_name_byte, DifferInName}
use Rattle.net_model.specs.Accepted.{IsServer, IsFlow, IsHop, IsAccepted}
use Rattle.net_model.specs.Plain.{one_q, letter, plain_server, plain_flow, plain_place, plain_servers, plain_flows, plain_net, contents, all_differ, is_plain_path, is_plain}
use Rattle.net_model.proofs.KindsStand.{kinds_may_stand}

-- ---- servers
pub servers_count : (n : ℕ) → length (plain_servers n) ≡ n
unfolding plain_servers
servers_count zero = refl
servers_count (suc n) = length-append (plain_servers n) (plain_server n ∷ []) ∙ (let h = servers_count n in omega arith)

pub server_is : (n k : ℕ) (d : NetServer) → k < n → get_or (plain_servers n) k d ≡ plain_server k
unfolding plain_servers
server_is zero k d h = absurd (omega (arith, h))
server_is (suc n) k d h =
    let count = servers_count n in
    elim (cases_lt k n) [
      | inl l ↦ get_or_append_left (plain_servers n) (plain_server n ∷ []) d k (omega arith) ∙ server_is n k d l
      | inr l ↦ let last : n ≡ k = omega arith in
          get_or_at (plain_servers n) (plain_server n) [] d k (count ∙ last) ∙ ap plain_server last
    ]

zero_below_one : zero_q <ℚ one_q
zero_below_one = with2 zero_q one_q (λ c. omega (arith, c.le, c.lt, c.same))

name_of : (k : ℕ) → k < 26 → IsName (letter k)
name_of k h = record { some = omega arith; few = omega arith; bytes = bytes }
  where
    low : nat_le 97 (97 + k) ≡ true
    low = le-leb 97 (97 + k) (omega arith)

    high : nat_le (97 + k) 122 ≡ true
    high = le-leb (97 + k) 122 (omega (arith, h))

    bytes : All (λ c. IsTrue (is_name_byte c)) (letter k)
    bytes zero d l = rw (low, high) refl
    bytes (suc j) d l = absurd (omega (arith, l))

plain_is_server : (k : ℕ) → k < 26 → IsServer (plain_server k)
plain_is_server k h = record {
  name = name_of k h;
  rate = zero_below_one;
  kind = (le_refl zero_q, refl);
  service = kinds_may_stand.rate_latency one_q zero_q (le_of_lt zero_below_one) (le_refl zero_q);
  link = le_refl zero_q;
  queues = tt;
}

letters_differ : (i j : ℕ) → i < j → letter i ≢ letter j
letters_differ i j h e = let same : 97 + i ≡ 97 + j = cc in omega arith

-- ---- flows
pub flows_count : (number : ℕ) (paths : List (List ℕ)) → length (plain_flows number paths) ≡ length paths
unfolding plain_flows
flows_count number [] = refl
flows_count number (p ∷ ps) = ap suc (flows_count (number + 1) ps)

pub flow_is : (number : ℕ) (paths : List (List ℕ)) (k : ℕ) (d : Option NetFlow) → k < length paths
    → get_or (plain_flows number paths) k d ≡ plain_place (number + k) (get_or paths k [])
unfolding plain_flows
flow_is number [] k d h = absurd (omega (arith, h))
flow_is number (p ∷ ps) zero d h = ap (λ n. plain_place n p) (let e : number ≡ number + 0 = omega arith in e)
flow_is number (p ∷ ps) (suc k) d h =
    flow_is (number + 1) ps k d (omega (arith, h)) ∙ ap (λ n. plain_place n (get_or ps k [])) (let e : number + 1 + k ≡ number + suc k = omega arith in e)

-- ---- tests that were passed
pub each_passes : {X : Type 0} (p : X → Bool) (xs : List X) → list_all p xs ≡ true → All (λ x. p x ≡ true) xs
each_passes p xs h k d within = by_value (p (get_or xs k d)) refl
  where
    by_value : (b : Bool) → p (get_or xs k d) ≡ b → b ≡ true
    by_value true e = refl
    by_value false e = let f : true ≡ false = sym h ∙ list_all_at p xs k d within e in absurd cc

pub differ : (xs : List ℕ) → all_differ xs ≡ true → AllPairs (λ s t. s ≢ t) xs
differ [] h i j d before within = absurd (omega (arith, within))
differ (x ∷ xs) h i zero d before within = absurd (omega (arith, before))
differ (x ∷ xs) h zero (suc j) d before within =
    λ same.
    let parts = and_parts (not (list_any (nat_eq x) xs)) (all_differ xs) h in
    let none = not-true (list_any (nat_eq x) xs) parts.0 in
    let some = list_any_at (nat_eq x) xs j d (omega (arith, within)) (eq-eqb x (get_or xs j d) same) in
    let e : true ≡ false = sym some ∙ none in absurd cc
differ (x ∷ xs) h (suc i) (suc j) d before within =
    differ xs (and_parts (not (list_any (nat_eq x) xs)) (all_differ xs) h).1 i j d (omega (arith, before)) (omega (arith, within))

-- ---- networks
pub record IsPlain (n : ℕ) (paths : List (List ℕ)) : Type 0 where
  pub servers : n ≤ 26
  pub count : length paths ≤ 26
  pub each : All (λ p. is_plain_path n p ≡ true) paths

pub plain_of : (n : ℕ) (paths : List (List ℕ)) → is_plain n paths ≡ true → IsPlain n paths
plain_of n paths h =
    let first = and_parts (nat_le n 26) (nat_le (length paths) 26 && list_all (is_plain_path n) paths) h in
    let rest = and_parts (nat_le (length paths) 26) (list_all (is_plain_path n) paths) first.1 in
    record { servers = leb-true n 26 first.0; count = leb-true (length paths) 26 rest.0; each = each_passes (is_plain_path n) paths rest.1 }

plain_is_flow : (n number : ℕ) (s : ℕ) (ss : List ℕ) → number < 26 → is_plain_path n (s ∷ ss) ≡ true
    → IsFlow (plain_servers n) (plain_flow number (s ∷ ss))
plain_is_flow n number s ss h p = record {
  name = name_of number h;
  packet = (omega arith, omega arith);
  some = omega arith;
  few = leb-true (length path) 16 first.0;
  paired = length-replicate (length path) 0;
  hops = hop;
  once = differ path rest.1;
  arrival = kinds_may_stand.bucket one_q zero_q (le_of_lt zero_below_one) (le_refl zero_q);
}
  where
    path : List ℕ
    path = s ∷ ss

    first : (nat_le (length path) 16 ≡ true) × ((list_all (λ s. nat_lt s n) path && all_differ path) ≡ true)
    first = and_parts (nat_le (length path) 16) (list_all (λ s. nat_lt s n) path && all_differ path) p

    rest : (list_all (λ s. nat_lt s n) path ≡ true) × (all_differ path ≡ true)
    rest = and_parts (list_all (λ s. nat_lt s n) path) (all_differ path) first.1

    hop : (k : ℕ) → k < length path → IsHop (plain_servers n) (get_or path k 0) (get_or (replicate (length path) 0) k 0) 1
    hop k within =
        let below : get_or path k 0 < n = ltb-true (get_or path k 0) n (each_passes (λ s. nat_lt s n) path rest.0 k 0 within) in
        let count = servers_count n in
        let here : get_or path k 0 < length (plain_servers n) = omega (arith, below, count) in
        let first_queue = get_or-replicate {A = ℕ} (length path) k 0 0 within in
        record {
          server = plain_server (get_or path k 0);
          is = slice_get-get_or (plain_servers n) (get_or path k 0) (plain_server 0) here ∙ ap Some (server_is n (get_or path k 0) (plain_server 0) below);
          has_queue = omega (arith, first_queue);
          takes = tt;
        }

-- the names at two places
places_differ : (i j : ℕ) (p q : List ℕ) → i < j → DifferInName (plain_place i p) (plain_place j q)
places_differ i j [] q h = tt
places_differ i j (s ∷ ss) [] h = tt
places_differ i j (s ∷ ss) (t ∷ ts) h = letters_differ i j h

plain_place_is_flow : (n number : ℕ) (p : List ℕ) (f : NetFlow) → number < 26 → is_plain_path n p ≡ true → plain_place number p ≡ Some f
    → IsFlow (plain_servers n) f
plain_place_is_flow n number [] f h p e = absurd cc
plain_place_is_flow n number (s ∷ ss) f h p e =
    let same : plain_flow number (s ∷ ss) ≡ f = cc in
    let P : NetFlow → Type 0 = λ g. IsFlow (plain_servers n) g in
    subst P same (plain_is_flow n number s ss h p)

pub plain_is_accepted : (n : ℕ) (paths : List (List ℕ)) → is_plain n paths ≡ true → IsAccepted (plain_net n paths)
plain_is_accepted n paths passed = record {
  version = (omega arith, omega arith);
  few_servers = omega (arith, count, plain.servers);
  few_flows = omega (arith, places, plain.count);
  names = (own_servers, own_flows);
  servers = λ s c. each_server s c;
  flows = λ f c. each_flow f c;
}
  where
    plain : IsPlain n paths
    plain = plain_of n paths passed

    count : length (plain_servers n) ≡ n
    count = servers_count n

    places : length (plain_flows 0 paths) ≡ length paths
    places = flows_count 0 paths

    own_servers : AllPairs (λ s t. s.name ≢ t.name) (plain_servers n)
    own_servers i j d before within =
        let late : j < n = omega (arith, within, count) in
        rw (server_is n i d (omega (arith, before, late)), server_is n j d late) (letters_differ i j before)

    own_flows : AllPairs DifferInName (plain_flows 0 paths)
    own_flows i j d before within =
        let late : j < length paths = omega (arith, within, places) in
        rw (flow_is 0 paths i d (omega (arith, before, late)), flow_is 0 paths j d late)
        (places_differ (0 + i) (0 + j) (get_or paths i []) (get_or paths j []) (omega (arith, before)))

    each_server : (s : NetServer) → Contains (plain_servers n) s → IsServer s
    each_server s c =
        let within : c.0 < n = omega (arith, c.1, count) in
        let P : NetServer → Type 0 = λ t. IsServer t in
        subst P (sym (server_is n c.0 s within) ∙ c.2) (plain_is_server c.0 (omega (arith, within, plain.servers)))

    each_flow : (f : NetFlow) → Contains (plain_flows 0 paths) (Some f) → IsFlow (plain_servers n) f
    each_flow f c =
        let within : c.0 < length paths = omega (arith, c.1, places) in
        plain_place_is_flow n (0 + c.0) (get_or paths c.0 []) f (omega (arith, within, plain.count)) (plain.each c.0 [] within)
        (sym (flow_is 0 paths c.0 (Some f) within) ∙ c.2)

-- ---- one more
pub no_server : plain_servers 0 ≡ []
unfolding plain_servers
no_server = refl

pub servers_push : (n : ℕ) → plain_servers (n + 1) ≡ plain_servers n ++ plain_server n ∷ []
unfolding plain_servers
servers_push n = let P : ℕ → Type 0 = λ m. plain_servers m ≡ plain_servers n ++ plain_server n ∷ [] in subst P (let e : suc n ≡ n + 1 = omega arith in e) refl

pub no_flow : plain_flows 0 [] ≡ []
unfolding plain_flows
no_flow = refl

flows_from : (number : ℕ) (ps : List (List ℕ)) (p : List ℕ) → plain_flows number (ps ++ p ∷ []) ≡ plain_flows number ps ++ plain_place (number + length ps) p ∷ []
unfolding plain_flows
flows_from number [] p = ap (λ m. plain_place m p ∷ []) (let e : number ≡ number + 0 = omega arith in e)
flows_from number (q ∷ qs) p =
    ap (λ ls. plain_place number q ∷ ls) (flows_from (number + 1) qs p
    ∙ ap (λ m. plain_flows (number + 1) qs ++ plain_place m p ∷ []) (let e : number + 1 + length qs ≡ number + suc (length qs) = omega arith in e))

pub flows_push : (paths : List (List ℕ)) (p : List ℕ) → plain_flows 0 (paths ++ p ∷ []) ≡ plain_flows 0 paths ++ plain_place (length paths) p ∷ []
flows_push paths p = flows_from 0 paths p ∙ ap (λ m. plain_flows 0 paths ++ plain_place m p ∷ []) (let e : 0 + length paths ≡ length paths = omega arith in e)

-- ---- flows that are stored
pub none_along : (number : ℕ) (p : List ℕ) (b : Bool) → b ≡ nat_eq (length p) 0 → b ≡ true → None ≡ plain_place number p
none_along number [] b e h = refl
none_along number (s ∷ ss) b e h = let same = eqb-true (suc (length ss)) 0 (sym e ∙ h) in absurd (omega arith)

pub some_along : (number : ℕ) (p : List ℕ) (b : Bool) → b ≡ nat_eq (length p) 0 → b ≡ false → Some (plain_flow number p) ≡ plain_place number p
some_along number [] b e h = let f : true ≡ false = sym e ∙ h in absurd cc
some_along number (s ∷ ss) b e h = refl

pub stored_push : (fs gs : List (Option Flow)) (paths : List (Bor (List ℕ))) (n : ℕ) (d : Bor (List ℕ)) (x : Option Flow) → n < length paths
    → gs ≡ fs ++ x ∷ [] → flows_of fs ≡ plain_flows 0 (contents (take n paths)) → option_map flow_of x ≡ plain_place n (get_or paths n d).now
    → flows_of gs ≡ plain_flows 0 (contents (take (n + 1) paths))
stored_push fs gs paths n d x within pushes so_far newest =
    let count : length (contents (take n paths)) ≡ n = length-map (take n paths) (λ r. r.now) ∙ length-take-le n paths (omega (arith, within)) in
    ap flows_of pushes ∙ map-append (option_map flow_of) fs (x ∷ []) ∙ ap (λ xs. xs ++ option_map flow_of x ∷ []) so_far
    ∙ ap (λ y. plain_flows 0 (contents (take n paths)) ++ y ∷ []) (newest ∙ ap (λ m. plain_place m (get_or paths n d).now) (sym count))
    ∙ sym (flows_push (contents (take n paths)) (get_or paths n d).now) ∙ ap (plain_flows 0) (sym (map_more (λ r. r.now) paths n d within))

-- ---- small numbers
one_num : (int (pos 1)).num ≡ pos 1
unfolding frac gcd gcd_steps
one_num = refl

one_den : den (int (pos 1)) ≡ 1
unfolding frac gcd gcd_steps
one_den = refl

pub one_small : IsSmall (int (pos 1))
one_small = record { top = rw one_num (omega arith); bottom = rw one_den (omega arith) }
