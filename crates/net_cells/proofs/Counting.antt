-- How many hops are in a queue, flow by flow.
use Rattle.std.proofs.Common.{◌≡◌, ℕ, zero, suc, ◌<◌, ◌≤◌, ◌+◌, List, [], ◌∷◌, ◌++◌, length, get_or, map, refl, sym, ap, ◌∙◌, arith, inl, inr, Bool, true, false, cond, eqb, length-append, append-nil, add-one}
use Rattle.std.specs.Prelude.{not, ◌&&◌, Option, None}
use Rattle.std.specs.List.{filter, flat_map, range_with_len}
use Rattle.std.proofs.lemmas.Bool.{cases_lt, cases_eq, eq-eqb, ne_eqb}
use Rattle.std.proofs.lemmas.List.{get_or_past}
use Rattle.net_model.specs.Networks.{Net, NetFlow}
use Rattle.net_cells.specs.Numbered.{flow_at, path, path_of, queues_of, hops, queue_of_hop}
use Rattle.net_cells.specs.Visits.{Visit, visit, visits_in, hops_at, hops_in}
use Rattle.net_cells.proofs.Growing.{flat_more, filter_flat, flat_same, filter_mapped, kept_number, dropped_number}
use Rattle.net_cells.proofs.Stored.{visits_by_flow}

-- ---- filters of filters
pub filter_twice : {X : Type 0} (p q : X → Bool) (xs : List X) → filter p (filter q xs) ≡ filter (λ x. q x && p x) xs
filter_twice {X} p q [] = refl
filter_twice {X} p q (x ∷ xs) = here (q x) (filter_twice p q xs)
  where
    here : (b : Bool) → filter p (filter q xs) ≡ filter (λ y. q y && p y) xs
        → filter p (cond b (x ∷ filter q xs) (filter q xs)) ≡ cond (b && p x) (x ∷ filter (λ y. q y && p y) xs)
        (filter (λ y. q y && p y) xs)
    here true rest = ap (λ ys. cond (p x) (x ∷ ys) ys) rest
    here false rest = rest

none_kept : {X : Type 0} (xs : List X) → filter (λ (x : X). false) xs ≡ []
none_kept [] = refl
none_kept (x ∷ xs) = none_kept xs

-- those that pass and those that do not are all
pub both_parts : {X : Type 0} (p : X → Bool) (xs : List X)
    → length (filter (λ x. not (p x)) xs) + length (filter p xs) ≡ length xs
both_parts {X} p [] = refl
both_parts {X} p (x ∷ xs) = here (p x) (both_parts p xs)
  where
    here : (b : Bool) → length (filter (λ y. not (p y)) xs) + length (filter p xs) ≡ length xs
        → length (cond (not b) (x ∷ filter (λ y. not (p y)) xs) (filter (λ y. not (p y)) xs)) + length
        (cond b (x ∷ filter p xs) (filter p xs))
        ≡ length (x ∷ xs)
    here true rest = omega (arith, rest)
    here false rest = omega (arith, rest)

-- ---- in a queue
-- those of the flow of a number
abbrev pub hops_of : Net → ℕ → ℕ → ℕ → List Visit
hops_of net s q i = hops_in i (path net i) (queues_of (flow_at net i)) s q

one_flow : (net : Net) (s q i : ℕ)
    → filter (λ (v : Visit). eqb (queue_of_hop net v.flow v.hop) q) (hops_at i (path net i) s) ≡ hops_of net s q i
one_flow net s q i =
    filter_twice (λ (v : Visit). eqb (queue_of_hop net v.flow v.hop) q) (λ (v : Visit). eqb (get_or (path net i) v.hop 0) s)
    (map (visit i) (range_with_len 0 (hops net i)))
    ∙ filter_mapped (λ (v : Visit). eqb (get_or (path net i) v.hop 0) s && eqb (queue_of_hop net v.flow v.hop) q)
    (λ (v : Visit). eqb (get_or (path net i) v.hop 0) s && eqb (get_or (queues_of (flow_at net i)) v.hop 0) q) (visit i)
    (range_with_len 0 (hops net i)) (λ k. refl)

pub in_by_flow : (net : Net) (s q : ℕ)
    → visits_in net s q ≡ flat_map (hops_of net s q) (range_with_len 0 (length net.flows))
in_by_flow net s q =
    ap (filter (λ (v : Visit). eqb (queue_of_hop net v.flow v.hop) q)) (visits_by_flow net s)
    ∙ filter_flat (λ (v : Visit). eqb (queue_of_hop net v.flow v.hop) q) (λ i. hops_at i (path net i) s)
    (range_with_len 0 (length net.flows))
    ∙ flat_same (λ i. filter (λ (v : Visit). eqb (queue_of_hop net v.flow v.hop) q) (hops_at i (path net i) s))
    (hops_of net s q)
    (range_with_len 0 (length net.flows)) (one_flow net s q)

-- ---- of one flow among them
-- in a list for each number, where those of all others are empty
none_before : {Y : Type 0} (f : ℕ → List Y) (i n : ℕ) → ((k : ℕ) → (k ≡ i → ⊥) → f k ≡ []) → n ≤ i
    → flat_map f (range_with_len 0 n) ≡ []
none_before f i zero blank l = refl
none_before f i (suc n) blank l =
    ap (λ k. flat_map f (range_with_len 0 k)) (sym (add-one n)) ∙ flat_more f n
    ∙ ap (λ ys. ys ++ f n) (none_before f i n blank (omega (arith, l))) ∙ blank n (λ e. omega (arith, e, l))

only_one : {Y : Type 0} (g : ℕ → List Y) (i n : ℕ) → ((j : ℕ) → (j ≡ i → ⊥) → g j ≡ []) → i < n
    → flat_map g (range_with_len 0 n) ≡ g i
only_one g i zero blank h = absurd (omega (arith, h))
only_one g i (suc n) blank h =
    ap (λ m. flat_map g (range_with_len 0 m)) (sym (add-one n)) ∙ flat_more g n
    ∙ elim (cases_eq n i) [
      | inl e ↦ ap (λ ys. ys ++ g n) (none_before g i n blank (omega (arith, e))) ∙ ap g e
      | inr e ↦ ap (λ ys. flat_map g (range_with_len 0 n) ++ ys) (blank n e)
          ∙ append-nil (flat_map g (range_with_len 0 n))
          ∙ only_one g i n blank (omega (arith, h, e))
    ]

own_all : (net : Net) (s q i : ℕ) → filter (λ (v : Visit). eqb v.flow i) (hops_of net s q i) ≡ hops_of net s q i
own_all net s q i =
    let t = λ (v : Visit). eqb (get_or (path net i) v.hop 0) s && eqb (get_or (queues_of (flow_at net i)) v.hop 0) q in
    filter_twice (λ (v : Visit). eqb v.flow i) t (map (visit i) (range_with_len 0 (hops net i)))
    ∙ filter_mapped (λ (v : Visit). t v && eqb v.flow i) t (visit i) (range_with_len 0 (hops net i))
    (λ k. ap (λ b. t (visit i k) && b) (eq-eqb i i refl) ∙ and_true (t (visit i k)))
  where
    and_true : (b : Bool) → (b && true) ≡ b
    and_true true = refl
    and_true false = refl

own_none : (net : Net) (s q i j : ℕ) → (j ≡ i → ⊥) → filter (λ (v : Visit). eqb v.flow i) (hops_of net s q j) ≡ []
own_none net s q i j n =
    let t = λ (v : Visit). eqb (get_or (path net j) v.hop 0) s && eqb (get_or (queues_of (flow_at net j)) v.hop 0) q in
    filter_twice (λ (v : Visit). eqb v.flow i) t (map (visit j) (range_with_len 0 (hops net j)))
    ∙ filter_mapped (λ (v : Visit). t v && eqb v.flow i) (λ (v : Visit). false) (visit j)
    (range_with_len 0 (hops net j))
    (λ k. ap (λ b. t (visit j k) && b) (ne_eqb j i n) ∙ and_false (t (visit j k)))
    ∙ none_kept (map (visit j) (range_with_len 0 (hops net j)))
  where
    and_false : (b : Bool) → (b && false) ≡ false
    and_false true = refl
    and_false false = refl

no_path : (net : Net) (s q i : ℕ) → length net.flows ≤ i → hops_of net s q i ≡ []
no_path net s q i l = ap (λ (o : Option NetFlow). hops_in i (path_of o) (queues_of o) s q)
    (get_or_past net.flows i None l)

pub own_count : (net : Net) (s q i : ℕ)
    → length (hops_of net s q i) ≡ length (filter (λ (v : Visit). eqb v.flow i) (visits_in net s q))
own_count net s q i =
    let n = length net.flows in
    let own = λ (j : ℕ). filter (λ (v : Visit). eqb v.flow i) (hops_of net s q j) in
    let all : filter (λ (v : Visit). eqb v.flow i) (visits_in net s q) ≡ flat_map own (range_with_len 0 n) =
    ap (filter (λ (v : Visit). eqb v.flow i)) (in_by_flow net s q)
    ∙ filter_flat (λ (v : Visit). eqb v.flow i) (hops_of net s q) (range_with_len 0 n) in
    elim (cases_lt i n) [
      | inl l ↦ ap length (sym (own_all net s q i) ∙ sym (only_one own i n (own_none net s q i) l) ∙ sym all)
      | inr l ↦ ap length (no_path net s q i l ∙ sym (none_before own i n (own_none net s q i) l) ∙ sym all)
    ]

-- ---- a count that grows
pub more_of : (net : Net) (s q n : ℕ) (total count : ℕ)
    → total ≡ length (flat_map (hops_of net s q) (range_with_len 0 n))
    → count ≡ length (hops_of net s q n)
    → total + count ≡ length (flat_map (hops_of net s q) (range_with_len 0 (n + 1)))
more_of net s q n total count a b =
    let joined = ap length (flat_more (hops_of net s q) n) in
    let sum = length-append (flat_map (hops_of net s q) (range_with_len 0 n)) (hops_of net s q n) in
    omega (arith, a, b, joined, sum)

pub one_more : (p : Visit → Bool) (f : ℕ → Visit) (n count : ℕ)
    → count ≡ length (filter p (map f (range_with_len 0 n))) → p (f n) ≡ true
    → count + 1 ≡ length (filter p (map f (range_with_len 0 (n + 1))))
one_more p f n count a e =
    let joined = ap length (kept_number p f n e) in
    let sum = length-append (filter p (map f (range_with_len 0 n))) (f n ∷ []) in
    omega (arith, a, joined, sum)

pub no_more : (p : Visit → Bool) (f : ℕ → Visit) (n count : ℕ)
    → count ≡ length (filter p (map f (range_with_len 0 n))) → p (f n) ≡ false
    → count ≡ length (filter p (map f (range_with_len 0 (n + 1))))
no_more p f n count a e = a ∙ ap length
    (sym (dropped_number p f n e ∙ append-nil (filter p (map f (range_with_len 0 n)))))
