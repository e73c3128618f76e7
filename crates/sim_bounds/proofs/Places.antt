-- In a network in which no walk comes back each server has a place, which grows along every path: how many lengths the
-- walks have that end at it.
use Rattle.std.proofs.Common.{◌≡◌, ℕ, zero, suc, ◌<◌, ◌≤◌, ◌+◌, List, [], ◌∷◌, ◌++◌, length, get_or, refl, sym, ap, subst, arith, inl, inr, ◌⊎◌, Some, None, Bool, true, false, append_assoc, nat_eq}
use Rattle.std.specs.Prelude.{Option, ◌==◌, ◌&&◌, ◌||◌}
use Rattle.std.specs.List.{AllByRecursion, IsDistinct}
use Rattle.std.proofs.lemmas.Bool.{cases_Bool, cases_eq, eqb-true, eq-eqb, ne_eqb, and_parts}
use Rattle.std.proofs.lemmas.List.{length_push}
use Rattle.std.proofs.lemmas.Map.Steps.{length-le_from_distinct_below}
use Rattle.net_model.specs.Networks.{Net, NetFlow}
use Rattle.net_model.specs.Accepted.{IsAccepted}
use Rattle.net_model.specs.Walks.{IsStep, IsNext, Chain, IsClosed, IsFeedForward}
use Rattle.net_model.proofs.net_graph.Chains.{front_of, rest_of, joined}
use Rattle.net_model.proofs.net_graph.Members.{is_member}
use Rattle.net_model.proofs.net_graph.Returns.{first_in_range}
use Rattle.net_model.proofs.stated_runs.Lists.{In, in_contains, contains_in}
use Rattle.sim_bounds.proofs.Members.{each_in}
use Rattle.run_laws.proofs.Sums.{one_if}

-- ---- tests
one_true : (p q : Bool) → (p || q) ≡ true → (p ≡ true) ⊎ (q ≡ true)
one_true true q e = inl refl
one_true false q e = inr e

left_true : (p q : Bool) → p ≡ true → (p || q) ≡ true
left_true true q e = refl
left_true false q e = absurd (cc)

right_true : (p q : Bool) → q ≡ true → (p || q) ≡ true
right_true true q e = refl
right_true false q e = e

-- whether a path has b right after a
step_test : List ℕ → ℕ → ℕ → Bool
step_test [] a b = false
step_test (x ∷ []) a b = false
step_test (x ∷ y ∷ ys) a b = ((x == a) && (y == b)) || step_test (y ∷ ys) a b

step_found : (path : List ℕ) (a b : ℕ) → step_test path a b ≡ true → IsStep path a b
unfolding step_test
step_found [] a b e = absurd (cc)
step_found (x ∷ []) a b e = absurd (cc)
step_found (x ∷ y ∷ ys) a b e = elim (one_true ((x == a) && (y == b)) (step_test (y ∷ ys) a b) e) [
  | inl h ↦
      let k = and_parts (x == a) (y == b) h in
      record { hop = 0; on_path = omega arith; from = eqb-true x a k.0; to = eqb-true y b k.1 }
  | inr h ↦
      let r = step_found (y ∷ ys) a b h in
      let l = r.on_path in
      record { hop = suc r.hop; on_path = omega (arith, l); from = r.from; to = r.to }
]

step_there : (path : List ℕ) (a b hop : ℕ) → suc hop < length path → get_or path hop 0 ≡ a → get_or path (suc hop) 0 ≡ b → step_test path a b ≡ true
unfolding step_test
step_there [] a b hop l e f = absurd (omega (arith, l))
step_there (x ∷ []) a b hop l e f = absurd (omega (arith, l))
step_there (x ∷ y ∷ ys) a b zero l e f = left_true ((x == a) && (y == b)) (step_test (y ∷ ys) a b) (rw (eq-eqb x a e, eq-eqb y b f) refl)
step_there (x ∷ y ∷ ys) a b (suc hop) l e f =
    right_true ((x == a) && (y == b)) (step_test (y ∷ ys) a b) (step_there (y ∷ ys) a b hop (omega (arith, l)) e f)

flows_test : List (Option NetFlow) → ℕ → ℕ → Bool
flows_test [] a b = false
flows_test (None ∷ fs) a b = flows_test fs a b
flows_test (Some f ∷ fs) a b = step_test f.path a b || flows_test fs a b

flows_found : (fs : List (Option NetFlow)) (a b : ℕ) → flows_test fs a b ≡ true → (f : NetFlow) × In fs (Some f) × IsStep f.path a b
unfolding flows_test
flows_found [] a b e = absurd (cc)
flows_found (None ∷ fs) a b e = let r = flows_found fs a b e in (r.0, inr r.1, r.2)
flows_found (Some f ∷ fs) a b e = elim (one_true (step_test f.path a b) (flows_test fs a b) e) [
  | inl h ↦ (f, inl refl, step_found f.path a b h)
  | inr h ↦ let r = flows_found fs a b h in (r.0, inr r.1, r.2)
]

flows_there : (fs : List (Option NetFlow)) (f : NetFlow) (a b : ℕ) → In fs (Some f) → step_test f.path a b ≡ true → flows_test fs a b ≡ true
unfolding flows_test
flows_there [] f a b h e = absurd h
flows_there (None ∷ fs) f a b (inl g) e = absurd (cc)
flows_there (None ∷ fs) f a b (inr h) e = flows_there fs f a b h e
flows_there (Some g ∷ fs) f a b (inl h) e =
    let same : g ≡ f = cc in
    left_true (step_test g.path a b) (flows_test fs a b) (subst (λ (x : NetFlow). step_test x.path a b ≡ true) (sym same) e)
flows_there (Some g ∷ fs) f a b (inr h) e = right_true (step_test g.path a b) (flows_test fs a b) (flows_there fs f a b h e)

next_test : Net → ℕ → ℕ → Bool
next_test net a b = flows_test net.flows a b

next_found : (net : Net) (a b : ℕ) → next_test net a b ≡ true → IsNext net a b
unfolding next_test
next_found net a b e =
    let r = flows_found net.flows a b e in
    record { flow = r.0; live = in_contains net.flows (Some r.0) r.1; step = r.2 }

next_there : (net : Net) (a b : ℕ) → IsNext net a b → next_test net a b ≡ true
unfolding next_test
next_there net a b n = flows_there net.flows n.flow a b (contains_in net.flows (Some n.flow) n.live) (step_there n.flow.path a b n.step.hop n.step.on_path n.step.from n.step.to)

-- ---- a test of the numbers below n
any_below : (ℕ → Bool) → ℕ → Bool
any_below p zero = false
any_below p (suc n) = p n || any_below p n

any_found : (p : ℕ → Bool) (n : ℕ) → any_below p n ≡ true → (i : ℕ) × (i < n) × (p i ≡ true)
unfolding any_below
any_found p zero e = absurd (cc)
any_found p (suc n) e = elim (one_true (p n) (any_below p n) e) [
  | inl h ↦ (n, omega arith, h)
  | inr h ↦ let r = any_found p n h in let l = r.1 in (r.0, omega (arith, l), r.2)
]

any_there : (p : ℕ → Bool) (n i : ℕ) → i < n → p i ≡ true → any_below p n ≡ true
unfolding any_below
any_there p zero i l e = absurd (omega (arith, l))
any_there p (suc n) i l e = elim (cases_eq i n) [
  | inl same ↦ left_true (p n) (any_below p n) (subst (λ k. p k ≡ true) same e)
  | inr d ↦ right_true (p n) (any_below p n) (any_there p n i (omega (arith, l, d)) e)
]

-- ---- walks
-- whether a walk of k steps ends at s
ends_walk : Net → ℕ → ℕ → Bool
ends_walk net zero s = true
ends_walk net (suc k) s = any_below (λ b. next_test net b s && ends_walk net k b) (length net.servers)

walk_on : (net : Net) → IsAccepted net → (k a b : ℕ) → IsNext net a b → ends_walk net k a ≡ true → ends_walk net (suc k) b ≡ true
unfolding ends_walk
walk_on net ok k a b n e =
    any_there (λ c. next_test net c b && ends_walk net k c) (length net.servers) a (first_in_range net a b ok n) (rw (next_there net a b n, e) refl)

-- the servers of a walk before its end
record IsWalkTo (net : Net) (k s : ℕ) : Type 0 where
  servers : List ℕ
  long : length servers ≡ k
  below : AllByRecursion (λ v. v < length net.servers) servers
  chain : Chain (IsNext net) (servers ++ s ∷ [])

each_push : (n : ℕ) (xs : List ℕ) (x : ℕ) → AllByRecursion (λ v. v < n) xs → x < n → AllByRecursion (λ v. v < n) (xs ++ x ∷ [])
each_push n [] x h l = (l, tt)
each_push n (y ∷ ys) x h l = (h.0, each_push n ys x h.1 l)

walk_to : (net : Net) (k s : ℕ) → ends_walk net k s ≡ true → IsWalkTo net k s
unfolding ends_walk
walk_to net zero s e = record { servers = []; long = refl; below = tt; chain = tt }
walk_to net (suc k) s e =
    let r = any_found (λ c. next_test net c s && ends_walk net k c) (length net.servers) e in
    let b = r.0 in
    let both = and_parts (next_test net b s) (ends_walk net k b) r.2 in
    let w = walk_to net k b both.1 in
    let step : Chain (IsNext net) (b ∷ s ∷ []) = (next_found net b s both.0, tt) in
    let chain = joined (IsNext net) w.servers b (s ∷ []) w.chain step in
    let long = w.long in
    let more = length_push w.servers b in
    record {
      servers = w.servers ++ b ∷ [];
      long = omega (arith, long, more);
      below = each_push (length net.servers) w.servers b w.below r.1;
      chain = subst (λ xs. Chain (IsNext net) xs) (sym (append_assoc w.servers (b ∷ []) (s ∷ []))) chain;
    }

-- ---- a list that has a number twice
record HasTwice (xs : List ℕ) : Type 0 where
  front : List ℕ
  twice : ℕ
  between : List ℕ
  behind : List ℕ
  is : xs ≡ front ++ twice ∷ (between ++ twice ∷ behind)

find_again : (x : ℕ) (xs : List ℕ) → ((a : List ℕ) × (b : List ℕ) × (xs ≡ a ++ x ∷ b)) ⊎ AllByRecursion (λ y. nat_eq x y ≡ false) xs
find_again x [] = inr tt
find_again x (y ∷ ys) = elim (cases_eq x y) [
  | inl e ↦ inl ([], ys, ap (λ t. t ∷ ys) (sym e))
  | inr n ↦ elim (find_again x ys) [
    | inl r ↦ inl (y ∷ r.0, r.1, ap (λ t. y ∷ t) r.2)
    | inr a ↦ inr (ne_eqb x y n, a)
  ]
]

distinct_or_twice : (xs : List ℕ) → IsDistinct nat_eq xs ⊎ HasTwice xs
unfolding IsDistinct
distinct_or_twice [] = inl tt
distinct_or_twice (x ∷ xs) = elim (find_again x xs) [
  | inl r ↦ inr record { front = []; twice = x; between = r.0; behind = r.1; is = ap (λ t. x ∷ t) r.2 }
  | inr a ↦ elim (distinct_or_twice xs) [
    | inl d ↦ inl (a, d)
    | inr t ↦ inr record { front = x ∷ t.front; twice = t.twice; between = t.between; behind = t.behind; is = ap (λ u. x ∷ u) t.is }
  ]
]

-- a walk that has a server twice comes back
comes_back : (net : Net) (xs : List ℕ) → Chain (IsNext net) xs → HasTwice xs → (walk : List ℕ) × IsClosed (IsNext net) walk
comes_back net xs c t =
    let R = IsNext net in
    let whole : Chain R (t.front ++ t.twice ∷ (t.between ++ t.twice ∷ t.behind)) = subst (λ u. Chain R u) t.is c in
    let rest : Chain R ((t.twice ∷ t.between) ++ t.twice ∷ t.behind) = rest_of R t.front t.twice (t.between ++ t.twice ∷ t.behind) whole in
    let loop : Chain R ((t.twice ∷ t.between) ++ t.twice ∷ []) = front_of R (t.twice ∷ t.between) t.twice t.behind rest in
    (t.twice ∷ (t.between ++ t.twice ∷ []), record { start = t.twice; between = t.between; is = refl; steps = loop })

-- so no walk has as many steps as there are servers
no_long_walk : (net : Net) → IsFeedForward net → (s : ℕ) → s < length net.servers → ends_walk net (length net.servers) s ≡ true → ⊥
no_long_walk net free s known e =
    let n = length net.servers in
    let w = walk_to net n s e in
    let all = w.servers ++ s ∷ [] in
    let below = each_push n w.servers s w.below known in
    elim (distinct_or_twice all) [
      | inl d ↦
          let few = length-le_from_distinct_below all n d (λ q m. each_in (λ v. v < n) all below q (contains_in all q (is_member all q m))) in
          let long = w.long in
          let more = length_push w.servers s in
          omega (arith, few, long, more)
      | inr t ↦ let r = comes_back net all w.chain t in free r.0 r.1
    ]

-- ---- places
-- how many lengths from 1 to k a walk to s can have
walks : Net → ℕ → ℕ → ℕ
walks net s zero = 0
walks net s (suc k) = walks net s k + one_if (ends_walk net (suc k) s)

pub place_of_server : Net → ℕ → ℕ
place_of_server net s = walks net s (length net.servers)

one_more : (p q : Bool) → (p ≡ true → q ≡ true) → one_if p ≤ one_if q
one_more true q h = let e = ap one_if (h refl) in omega (arith, e)
one_more false q h = omega arith

ends_none : (net : Net) (s : ℕ) → ends_walk net 0 s ≡ true
unfolding ends_walk
ends_none net s = refl

walks_more : (net : Net) → IsAccepted net → (a b : ℕ) → IsNext net a b → (k : ℕ) → suc (walks net a k) ≤ walks net b (suc k)
unfolding walks
walks_more net ok a b n zero = let e = ap one_if (walk_on net ok 0 a b n (ends_none net a)) in omega (arith, e)
walks_more net ok a b n (suc k) =
    let rest = walks_more net ok a b n k in
    let one = one_more (ends_walk net (suc k) a) (ends_walk net (suc (suc k)) b) (walk_on net ok (suc k) a b n) in
    omega (arith, rest, one)

last_walk : (net : Net) → IsAccepted net → IsFeedForward net → (a b m : ℕ) → IsNext net a b → length net.servers ≡ suc m → walks net a (suc m) < walks net b (suc m)
unfolding walks
last_walk net ok free a b m n e =
    let more = walks_more net ok a b n m in
    let none : ends_walk net (suc m) a ≡ false = elim (cases_Bool (ends_walk net (suc m) a)) [
      | inl t ↦ absurd (no_long_walk net free a (first_in_range net a b ok n) (subst (λ k. ends_walk net k a ≡ true) (sym e) t))
      | inr f ↦ f
    ] in
    let zero_one = ap one_if none in
    omega (arith, more, zero_one)

pub places_grow : (net : Net) → IsAccepted net → IsFeedForward net → (a b : ℕ) → IsNext net a b → place_of_server net a < place_of_server net b
unfolding place_of_server
places_grow net ok free a b n = by_number (length net.servers) refl
  where
    by_number : (m : ℕ) → length net.servers ≡ m → walks net a (length net.servers) < walks net b (length net.servers)
    by_number zero e = let l = first_in_range net a b ok n in absurd (omega (arith, l, e))
    by_number (suc m) e = subst (λ k. walks net a k < walks net b k) (sym e) (last_walk net ok free a b m n e)
