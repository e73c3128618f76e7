-- What several queues bring together keeps the sum of their parts.
use Rattle.std.specs.Prelude.{◌≡◌, ◌<◌, ◌≤◌, ◌+◌, ℕ, suc, pos, ◌==◌, ltb, leb, false, not, ◌&&◌, ◌||◌, List, [], ◌∷◌, ◌++◌, length, Option, Some, None}
use Rattle.std.proofs.Common.{arith, sym, ap, ◌∙◌, refl, inl, inr, subst}
use Rattle.std.proofs.lemmas.Bool.{cases_Bool, eqb-true, eqb-false, ltb-true, ltb-false, leb-true, leb-false, lt-ltb, le-ltb, le-leb, lt-leb}
use Rattle.std.proofs.lemmas.List.{get_or-take, get_or-drop, length-drop, length-take}
use Rattle.rational.specs.Rational.{ℚ, int, ◌+ℚ◌, ◌-ℚ◌, ◌≤ℚ◌}
use Rattle.rational.specs.declared.Extended.TheVariants.{Fin}
use Rattle.rational.proofs.Laws.{le_refl}
use Rattle.rational.proofs.Linear.{with1, with3, with4}
use Rattle.run_laws.specs.Cards.{Card, Class, of_queue, before_queue, ServerStep, Arrives, Works, Leaves, Visits}
use Rattle.run_laws.specs.Servers.{queue_count, Server, ServerState, start}
use Rattle.run_laws.specs.Next.{next}
use Rattle.run_laws.specs.Allows.{AllAllowed, IsLawfulView, MayArrive}
use Rattle.run_laws.specs.Counts.{within, arrived_in}
use Rattle.run_laws.specs.Premises.{EachArrival, KeepsArrivals}
use Rattle.run_laws.proofs.Always.{AreAlwaysParts}
use Rattle.run_laws.proofs.Arrivals.{arrivals_map, arrivals_all, same_arrivals, none_arrive}
use Rattle.run_laws.proofs.Parts.{arrivals_parts}
use Rattle.residual_laws.specs.RestLaws.{others}
use Rattle.arrival_lines.specs.Grid.{part_value, parts_value}
use Rattle.arrival_lines.specs.declared.grid.Part.{Part}
use Rattle.port_bounds.specs.Incoming.{Incoming, queue_in, both, joined_parts, before, behind}
use Rattle.port_bounds.proofs.Queues.{parts_cons, parts_none, parts_append}

-- ---- sums of parts
add_three : (a b c : ℚ) → a +ℚ (b +ℚ c) ≡ (a +ℚ b) +ℚ c
add_three a b c = with3 a b c (λ k. omega (arith, k.le, k.lt, k.same))

add_none : (a : ℚ) → a ≡ int (pos 0) +ℚ a
add_none a = with1 a (λ k. omega (arith, k.le, k.lt, k.same))

pub parts_sum : (xs ys : List Part) (t : ℚ) → parts_value (xs ++ ys) t ≡ parts_value xs t +ℚ parts_value ys t
unfolding parts_value
parts_sum [] ys t = add_none (parts_value ys t)
parts_sum (x ∷ xs) ys t = rw (parts_sum xs ys t) (add_three (part_value x t) (parts_value xs t) (parts_value ys t))

no_parts : (t : ℚ) → parts_value [] t ≡ int (pos 0)
unfolding parts_value
no_parts t = refl

-- ---- both lists of a join
abbrev list_of : Option (List Part) → List Part
list_of None = []
list_of (Some parts) = parts

record AreJoined (a b : Option (List Part)) (parts : List Part) : Type 0 where
  first : List Part
  second : List Part
  is_first : a ≡ Some first
  is_second : b ≡ Some second
  is : parts ≡ first ++ second

are_joined : (a b : Option (List Part)) (parts : List Part) → both a b ≡ Some parts → AreJoined a b parts
are_joined None b parts h = absurd (grind (arith, h))
are_joined (Some a) None parts h = absurd (grind (arith, h))
are_joined (Some a) (Some b) parts h = record { first = a; second = b; is_first = refl; is_second = refl; is = sym (ap list_of h) }

-- ---- classes
two_sums : (q f g a b : ℚ) → q ≡ f +ℚ g → f ≤ℚ a → g ≤ℚ b → q ≤ℚ a +ℚ b
two_sums q f g a b is h k = rw is (with4 f g a b (λ c. omega (arith, c.le, c.lt, c.same)))

two_keep : (Q f g : Class) (α β : ℚ → ℚ) (V : List ServerStep) → AreAlwaysParts Q f g → KeepsArrivals f (λ t. Fin (α t)) V → KeepsArrivals g (λ t. Fin (β t)) V
    → KeepsArrivals Q (λ t. Fin (α t +ℚ β t)) V
two_keep Q f g α β V parts first second s t l =
    two_sums (arrived_in Q V s t) (arrived_in f V s t) (arrived_in g V s t) (α (t -ℚ s)) (β (t -ℚ s)) (arrivals_parts Q f g (within s t) V parts) (first s t l) (second s t l)

keeps_equal : (C : Class) (α β : ℚ → ℚ) (V : List ServerStep) → ((t : ℚ) → α t ≡ β t) → KeepsArrivals C (λ t. Fin (α t)) V → KeepsArrivals C (λ t. Fin (β t)) V
keeps_equal C α β V same keeps s t l = subst (λ (x : ℚ). arrived_in C V s t ≤ℚ x) (same (t -ℚ s)) (keeps s t l)

pub keeps_on : (C D : Class) (α : ℚ → ℚ) (V : List ServerStep) → EachArrival (λ c. C c ≡ D c) V → KeepsArrivals C (λ t. Fin (α t)) V → KeepsArrivals D (λ t. Fin (α t)) V
keeps_on C D α V same keeps s t l = subst (λ (x : ℚ). x ≤ℚ α (t -ℚ s)) (same_arrivals C D (within s t) V same) (keeps s t l)

-- the queues from k on, below n
abbrev pub between : ℕ → ℕ → Class
between k n c = leb k c.queue && ltb c.queue n

between_parts : (k n : ℕ) → k < n → AreAlwaysParts (between k n) (of_queue k) (between (suc k) n)
between_parts k n some = record { of_one = λ c. one c.queue; apart = λ c. two c.queue }
  where
    less : (q : ℕ) → (q ≡ k → ⊥) → q < suc k → q < k
    less q ne h = elim (cases_Bool (ltb q k)) [
      | inl e ↦ ltb-true q k e
      | inr e ↦ absurd (ne (let f = ltb-false q k e in omega (arith, f, h)))
    ]

    one : (q : ℕ) → (leb k q && ltb q n) ≡ ((q == k) || (leb (suc k) q && ltb q n))
    one q = elim (cases_Bool (q == k)) [
      | inl e ↦ let f = eqb-true q k e in rw (e, le-leb k q (omega (arith, f)), lt-ltb q n (omega (arith, f, some))) refl
      | inr e ↦ elim (cases_Bool (leb (suc k) q)) [
        | inl m ↦ let f = leb-true (suc k) q m in rw (e, m, le-leb k q (omega (arith, f))) refl
        | inr m ↦ let f = leb-false (suc k) q m in rw (e, m, lt-leb k q (less q (eqb-false q k e) f)) refl
      ]
    ]

    two : (q : ℕ) → ((q == k) && (leb (suc k) q && ltb q n)) ≡ false
    two q = elim (cases_Bool (q == k)) [
      | inl e ↦ let f = eqb-true q k e in rw (e, lt-leb (suc k) q (omega (arith, f))) refl
      | inr e ↦ rw e refl
    ]

none_between : (k n : ℕ) → n ≤ k → (c : Card) → between k n c ≡ false
none_between k n h c = none c.queue
  where
    none : (q : ℕ) → (leb k q && ltb q n) ≡ false
    none q = elim (cases_Bool (leb k q)) [
      | inl e ↦ let f = leb-true k q e in rw (e, le-ltb q n (omega (arith, f, h))) refl
      | inr e ↦ rw e refl
    ]

at_most_none : (a b : ℚ) → a ≡ int (pos 0) → int (pos 0) ≡ b → a ≤ℚ b
at_most_none a b h k = rw (h, sym k) (le_refl (int (pos 0)))

from_first : (q p : ℕ) → (leb 0 p && ltb p q) ≡ ltb p q
from_first q p = rw (le-leb 0 p (omega arith)) refl

-- each queue keeps its parts
abbrev Keep : List Incoming → ℕ → List ServerStep → Type 0
Keep queues k V = (j i : ℕ) (parts : List Part) → i ≡ k + j → j < length queues → (queue_in queues j).parts ≡ Some parts
    → KeepsArrivals (of_queue i) (λ t. Fin (parts_value parts t)) V

queues_bring : (queues : List Incoming) (k n : ℕ) (V : List ServerStep) (parts : List Part) → n ≡ k + length queues → Keep queues k V
    → joined_parts queues ≡ Some parts → KeepsArrivals (between k n) (λ t. Fin (parts_value parts t)) V
queues_bring [] k n V parts is keeps h = λ s t l.
    let none = none_arrive (between k n) (within s t) V (arrivals_all (λ c. between k n c ≡ false) (none_between k n (omega (arith, is))) V) in
    let empty : [] ≡ parts = ap list_of (sym parts_none ∙ h) in
    let value = sym (no_parts (t -ℚ s)) ∙ ap (λ xs. parts_value xs (t -ℚ s)) empty in
    at_most_none (arrived_in (between k n) V s t) (parts_value parts (t -ℚ s)) none value
queues_bring (x ∷ xs) k n V parts is keeps h =
    let two = are_joined x.parts (joined_parts xs) parts (sym (parts_cons x xs) ∙ h) in
    let first = keeps 0 k two.first (omega arith) (omega arith) two.is_first in
    let rest = queues_bring xs (suc k) n V two.second (omega (arith, is)) (λ j i ps e m g. keeps (suc j) i ps (omega (arith, e)) (omega (arith, m)) g) two.is_second in
    let sum = two_keep (between k n) (of_queue k) (between (suc k) n) (parts_value two.first) (parts_value two.second) V (between_parts k n (omega (arith, is))) first rest in
    keeps_equal (between k n) (λ t. parts_value two.first t +ℚ parts_value two.second t) (parts_value parts) V
    (λ t. sym (parts_sum two.first two.second t) ∙ ap (λ ps. parts_value ps t) (sym two.is)) sum

-- ---- of a port: each queue keeps its parts
abbrev pub KeepParts : List Incoming → List ServerStep → Type 0
KeepParts queues V = (q : ℕ) (parts : List Part) → (queue_in queues q).parts ≡ Some parts → KeepsArrivals (of_queue q) (λ t. Fin (parts_value parts t)) V

before_keep : (queues : List Incoming) (q : ℕ) (V : List ServerStep) → KeepParts queues V → q ≤ length queues → Keep (before q queues) 0 V
before_keep queues q V keeps h j i parts is m known =
    let inside : j < q = omega (arith, m, length-take q queues) in
    let same : i ≡ j = omega (arith, is) in
    let at = get_or-take q queues j record { parts = None; longest = 0 } inside in
    subst (λ (k : ℕ). KeepsArrivals (of_queue k) (λ t. Fin (parts_value parts t)) V) (sym same) (keeps j parts (ap (λ (w : Incoming). w.parts) (sym at) ∙ known))

behind_keep : (queues : List Incoming) (q : ℕ) (V : List ServerStep) → KeepParts queues V → Keep (behind q queues) (suc q) V
behind_keep queues q V keeps j i parts is m known =
    let at = get_or-drop (suc q) queues j record { parts = None; longest = 0 } in
    subst (λ (k : ℕ). KeepsArrivals (of_queue k) (λ t. Fin (parts_value parts t)) V) (sym is) (keeps (suc q + j) parts (ap (λ (w : Incoming). w.parts) (sym at) ∙ known))

-- the queues above
pub above_bring : (queues : List Incoming) (q : ℕ) (V : List ServerStep) (parts : List Part) → KeepParts queues V → q ≤ length queues
    → joined_parts (before q queues) ≡ Some parts → KeepsArrivals (before_queue q) (λ t. Fin (parts_value parts t)) V
above_bring queues q V parts keeps h known =
    let count : q ≡ 0 + length (before q queues) = omega (arith, length-take q queues, h) in
    keeps_on (between 0 q) (before_queue q) (parts_value parts) V (arrivals_all (λ c. between 0 q c ≡ before_queue q c) (λ c. from_first q c.queue) V)
    (queues_bring (before q queues) 0 q V parts count (before_keep queues q V keeps h) known)

-- ---- all other queues
known_queues : (server : Server) (end : ℚ) (σ : ServerState) (V : List ServerStep) → AllAllowed server end σ V → EachArrival (MayArrive server.discipline) V
known_queues server end σ [] a = tt
known_queues server end σ (Arrives c t ∷ V) a = (a.0.1, known_queues server end (next server.discipline σ (Arrives c t)) V a.1)
known_queues server end σ (Works c b f w ∷ V) a = known_queues server end (next server.discipline σ (Works c b f w)) V a.1
known_queues server end σ (Leaves c t ∷ V) a = known_queues server end (next server.discipline σ (Leaves c t)) V a.1
known_queues server end σ (Visits q t ∷ V) a = known_queues server end (next server.discipline σ (Visits q t)) V a.1

pub arrive_known : (server : Server) (end : ℚ) (V : List ServerStep) → IsLawfulView server end V → EachArrival (MayArrive server.discipline) V
arrive_known server end V lawful = known_queues server end (start server.discipline) V lawful.allowed

abbrev around : ℕ → ℕ → Class
around q n c = between 0 q c || between (suc q) n c

around_parts : (q n : ℕ) → AreAlwaysParts (around q n) (between 0 q) (between (suc q) n)
around_parts q n = record { of_one = λ c. refl; apart = λ c. two c.queue }
  where
    two : (p : ℕ) → ((leb 0 p && ltb p q) && (leb (suc q) p && ltb p n)) ≡ false
    two p = elim (cases_Bool (ltb p q)) [
      | inl e ↦ let f = ltb-true p q e in rw (e, le-leb 0 p (omega arith), lt-leb (suc q) p (omega (arith, f))) refl
      | inr e ↦ rw (e, le-leb 0 p (omega arith)) refl
    ]

around_others : (q n p : ℕ) → p < n → ((leb 0 p && ltb p q) || (leb (suc q) p && ltb p n)) ≡ not (p == q)
around_others q n p h = elim (cases_Bool (p == q)) [
  | inl e ↦ let f = eqb-true p q e in rw (e, le-leb 0 p (omega arith), le-ltb p q (omega (arith, f)), lt-leb (suc q) p (omega (arith, f))) refl
  | inr e ↦ elim (cases_Bool (ltb p q)) [
    | inl m ↦ rw (e, m, le-leb 0 p (omega arith)) refl
    | inr m ↦ rw (e, m, le-leb 0 p (omega arith), le-leb (suc q) p (more (eqb-false p q e) (ltb-false p q m)), lt-ltb p n h) refl
  ]
]
  where
    more : (p ≡ q → ⊥) → q ≤ p → suc q ≤ p
    more ne f = elim (cases_Bool (leb (suc q) p)) [
      | inl e ↦ leb-true (suc q) p e
      | inr e ↦ absurd (ne (let g = leb-false (suc q) p e in omega (arith, g, f)))
    ]

pub others_bring : (server : Server) (end : ℚ) (queues : List Incoming) (q : ℕ) (V : List ServerStep) (parts : List Part) → IsLawfulView server end V
    → queue_count server.discipline ≡ length queues → KeepParts queues V → q < length queues → joined_parts (before q queues ++ behind q queues) ≡ Some parts
    → KeepsArrivals (others (of_queue q)) (λ t. Fin (parts_value parts t)) V
others_bring server end queues q V parts lawful count keeps h known =
    let n = length queues in
    let two = are_joined (joined_parts (before q queues)) (joined_parts (behind q queues)) parts (sym (parts_append (before q queues) (behind q queues)) ∙ known) in
    let first = queues_bring (before q queues) 0 q V two.first (omega (arith, length-take q queues, h)) (before_keep queues q V keeps (omega (arith, h))) two.is_first in
    let second = queues_bring (behind q queues) (suc q) n V two.second (omega (arith, length-drop (suc q) queues, h)) (behind_keep queues q V keeps) two.is_second in
    let sum = two_keep (around q n) (between 0 q) (between (suc q) n) (parts_value two.first) (parts_value two.second) V (around_parts q n) first second in
    let all = keeps_equal (around q n) (λ t. parts_value two.first t +ℚ parts_value two.second t) (parts_value parts) V
    (λ t. sym (parts_sum two.first two.second t) ∙ ap (λ ps. parts_value ps t) (sym two.is)) sum in
    let same = arrivals_map (MayArrive server.discipline) (λ c. around q n c ≡ others (of_queue q) c)
    (λ c may. around_others q n c.queue (let k = may.known_queue in omega (arith, k, count))) V (arrive_known server end V lawful) in
    keeps_on (around q n) (others (of_queue q)) (parts_value parts) V same all
