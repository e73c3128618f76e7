-- No more bits arrive at a server than those of all packets, since each packet arrives there once.
use Rattle.std.specs.Prelude.{◌≡◌, ◌≢◌, ℕ, ◌+◌, ◌≤◌, ◌==◌, List, [], ◌∷◌, ◌++◌, length, set, sum_by}
use Rattle.std.proofs.Common.{arith, refl, ap, inl, inr}
use Rattle.std.proofs.lemmas.Bool.{cases_Bool, cases_lt}
use Rattle.std.proofs.lemmas.List.{get_or_past, get_or-set_other}
use Rattle.std.proofs.lemmas.List.Sums.{sum_by-append, sum_by-cons, sum_by-set}
use Rattle.run_laws.specs.declared.steps.Step.{Step}
use Rattle.run_laws.specs.declared.steps.Step.TheVariants.{Enter, Reach, Work, Leave, Visit}
use Rattle.run_laws.specs.Runs.{SpecRun}
use Rattle.run_laws.specs.Cards.{Card, ServerStep, Arrives, Works, Leaves, Visits}
use Rattle.run_laws.specs.Premises.{EachArrival, NoneTwice}
use Rattle.run_laws.specs.Routes.{Routes}
use Rattle.run_laws.specs.Views.{Entry, entry_of, entered_after, server_of, seen, view_from, view}
use Rattle.run_laws.proofs.Entries.{entry_before}
use Rattle.run_watch.specs.first_breaches.Sizes.{bits_in}
use Rattle.run_check.specs.check_gauge.Runs.{entering_bits, total_bits}

abbrev bits_of : Entry → ℕ
bits_of e = e.bits

abbrev none : Entry
none = record { flow = 0; bits = 0 }

-- ---- packets that have entered after some steps
abbrev pub entered_all : List Entry → List Step → List Entry
entered_all es [] = es
entered_all es (x ∷ xs) = entered_all (entered_after es x) xs

grows_once : (es : List Entry) (x : Step) (p : ℕ) → (entry_of es p).bits ≤ (entry_of (entered_after es x) p).bits
grows_once es (Enter f q t b) p = elim (cases_lt p (length es)) [
  | inl l ↦ let same = ap bits_of (entry_before es record { flow = f; bits = b } p l) in omega (arith, same)
  | inr l ↦ let past : (entry_of es p).bits ≡ 0 = ap bits_of (get_or_past es p none l) in omega (arith, past)
]
grows_once es (Reach s q t) p = omega arith
grows_once es (Work s q a b w) p = omega arith
grows_once es (Leave s q t) p = omega arith
grows_once es (Visit s q t) p = omega arith

grows : (es : List Entry) (xs : List Step) (p : ℕ) → (entry_of es p).bits ≤ (entry_of (entered_all es xs) p).bits
grows es [] p = omega arith
grows es (x ∷ xs) p =
    let one = grows_once es x p in
    let rest = grows (entered_after es x) xs p in
    omega (arith, one, rest)

all_bits : (es : List Entry) (xs : List Step) → sum_by bits_of (entered_all es xs) ≡ sum_by bits_of es + total_bits xs
all_bits es [] = omega arith
all_bits es (Enter f p t b ∷ xs) =
    let e : Entry = record { flow = f; bits = b } in
    let more : total_bits (Enter f p t b ∷ xs) ≡ b + total_bits xs = sum_by-cons entering_bits (Enter f p t b) xs in
    let last : sum_by bits_of (e ∷ []) ≡ 0 + b = refl in
    let rest = all_bits (es ++ e ∷ []) xs in
    let one = sum_by-append bits_of es (e ∷ []) in
    omega (arith, rest, one, more, last)
all_bits es (Reach s p t ∷ xs) = let rest = all_bits es xs in omega (arith, rest)
all_bits es (Work s p a b w ∷ xs) = let rest = all_bits es xs in omega (arith, rest)
all_bits es (Leave s p t ∷ xs) = let rest = all_bits es xs in omega (arith, rest)
all_bits es (Visit s q t ∷ xs) = let rest = all_bits es xs in omega (arith, rest)

-- ---- a card has no more bits than its packet
abbrev IsCardOf : List Entry → Card → Type 0
IsCardOf es c = c.bits ≤ (entry_of es c.packet).bits

first_card : (net : Routes) (es : List Entry) (x : Step) (xs : List Step) (V : List ServerStep)
    → EachArrival (IsCardOf (entered_all es (x ∷ xs))) V → EachArrival (IsCardOf (entered_all es (x ∷ xs))) (seen net es x ∷ V)
first_card net es (Enter f p t b) xs V h = (grows (es ++ record { flow = f; bits = b } ∷ []) xs p, h)
first_card net es (Reach s p t) xs V h = (grows es xs p, h)
first_card net es (Work s p a b w) xs V h = h
first_card net es (Leave s p t) xs V h = h
first_card net es (Visit s q t) xs V h = h

cards : (net : Routes) (s : ℕ) (es : List Entry) (xs : List Step) → EachArrival (IsCardOf (entered_all es xs)) (view_from net s es xs)
cards net s es [] = tt
cards net s es (x ∷ xs) =
    let rest = cards net s (entered_after es x) xs in
    elim (cases_Bool (server_of net x == s)) [
      | inl e ↦ rw e (first_card net es x xs (view_from net s (entered_after es x) xs) rest)
      | inr e ↦ rw e rest
    ]

-- ---- each packet once
without_one : (es : List Entry) (p : ℕ) (V : List ServerStep) → EachArrival (λ d. d.packet ≢ p) V → EachArrival (IsCardOf es) V → EachArrival (IsCardOf (set es p none)) V
without_one es p [] o h = tt
without_one es p (Arrives c t ∷ V) o h =
    let same = ap bits_of (get_or-set_other es p c.packet none none o.0) in
    let few = h.0 in (omega (arith, same, few), without_one es p V o.1 h.1)
without_one es p (Works c a b w ∷ V) o h = without_one es p V o h
without_one es p (Leaves c t ∷ V) o h = without_one es p V o h
without_one es p (Visits q t ∷ V) o h = without_one es p V o h

at_most : (es : List Entry) (V : List ServerStep) → NoneTwice V → EachArrival (IsCardOf es) V → bits_in V ≤ sum_by bits_of es
at_most es [] o h = omega arith
at_most es (Arrives c t ∷ V) o h =
    let few = h.0 in
    elim (cases_lt c.packet (length es)) [
      | inl l ↦
          let rest = at_most (set es c.packet none) V o.1 (without_one es c.packet V o.0 h.1) in
          let sum = sum_by-set bits_of es c.packet none none l in
          omega (arith, few, rest, sum)
      | inr l ↦
          let past : (entry_of es c.packet).bits ≡ 0 = ap bits_of (get_or_past es c.packet none l) in
          let rest = at_most es V o.1 h.1 in
          omega (arith, few, past, rest)
    ]
at_most es (Works c a b w ∷ V) o h = at_most es V o h
at_most es (Leaves c t ∷ V) o h = at_most es V o h
at_most es (Visits q t ∷ V) o h = at_most es V o h

pub arrived_most : (net : Routes) (run : SpecRun) (s : ℕ) → NoneTwice (view net run s) → bits_in (view net run s) ≤ total_bits run.steps
arrived_most net run s o =
    let most = at_most (entered_all [] run.steps) (view net run s) o (cards net s [] run.steps) in
    let all = all_bits [] run.steps in
    omega (arith, most, all)
