-- Which ports are ready.
use Rattle.std.proofs.Common.{◌≡◌, ◌≢◌, ℕ, ◌<◌, ◌≤◌, ◌+◌, List, [], ◌∷◌, ◌++◌, length, get_or, set, sym, ◌∙◌, ap, subst, arith, inl, inr, get_or-set_same, get_or-set_other}
use Rattle.std.proofs.lemmas.Bool.{cases_eq}
use Rattle.std.proofs.lemmas.List.{length-set}
use Rattle.tree_network.specs.Orders.{StandsAt}
use Rattle.tree_network.specs.Turns.{AreReady}
use Rattle.tree_network.proofs.Distinct.{Pushed, IsNew, pushed, earlier, newest, apart_push, stands_push, stands_last}

-- so far, of the ports below n
pub record ReadyBelow (waiting : List ℕ) (n : ℕ) (ready : List ℕ) : Type 0 where
  pub small : (i : ℕ) → i < length ready → get_or ready i 0 < n
  pub idle : (i : ℕ) → i < length ready → get_or waiting (get_or ready i 0) 0 ≡ 0
  pub once : (i j : ℕ) → i < j → j < length ready → get_or ready i 0 ≡ get_or ready j 0 → ⊥
  pub all : (s : ℕ) → s < n → get_or waiting s 0 ≡ 0 → (i : ℕ) × StandsAt ready s i

pub ready_yes : (waiting : List ℕ) (n : ℕ) (ready : List ℕ) → get_or waiting n 0 ≡ 0 → ReadyBelow waiting n ready → ReadyBelow waiting (n + 1) (ready ++ n ∷ [])
ready_yes waiting n ready e b = record {
  small = λ i h. small i (pushed ready n i h);
  idle = λ i h. idle i (pushed ready n i h);
  once = (apart_push ready n record { once = b.once } (λ i h same. let lt = b.small i h in omega (arith, lt, same))).once;
  all = all;
}
  where
    small : (i : ℕ) → Pushed ready n i → get_or (ready ++ n ∷ []) i 0 < n + 1
    small i (earlier l is) = let lt = b.small i l in omega (arith, lt, is)
    small i (newest l is) = omega (arith, is)

    idle : (i : ℕ) → Pushed ready n i → get_or waiting (get_or (ready ++ n ∷ []) i 0) 0 ≡ 0
    idle i (earlier l is) = ap (λ s. get_or waiting s 0) is ∙ b.idle i l
    idle i (newest l is) = ap (λ s. get_or waiting s 0) is ∙ e

    all : (s : ℕ) → s < n + 1 → get_or waiting s 0 ≡ 0 → (i : ℕ) × StandsAt (ready ++ n ∷ []) s i
    all s h zero_at =
        elim (cases_eq s n) [
          | inl same ↦ let P : ℕ → Type 0 = λ m. StandsAt (ready ++ n ∷ []) m (length ready) in (length ready, subst P (sym same) (stands_last ready n))
          | inr other ↦ let st = b.all s (omega arith) zero_at in (st.0, stands_push ready n s st.0 st.1)
        ]

pub ready_no : (waiting : List ℕ) (n : ℕ) (ready : List ℕ) → get_or waiting n 0 ≢ 0 → ReadyBelow waiting n ready → ReadyBelow waiting (n + 1) ready
ready_no waiting n ready some b = record {
  small = λ i h. let lt = b.small i h in omega (arith, lt);
  idle = b.idle;
  once = b.once;
  all = all;
}
  where
    all : (s : ℕ) → s < n + 1 → get_or waiting s 0 ≡ 0 → (i : ℕ) × StandsAt ready s i
    all s h zero_at =
        elim (cases_eq s n) [
          | inl same ↦ absurd (some (ap (λ m. get_or waiting m 0) (sym same) ∙ zero_at))
          | inr other ↦ b.all s (omega arith) zero_at
        ]

pub all_ready : (waiting : List ℕ) (n : ℕ) (ready : List ℕ) → n ≡ length waiting → ReadyBelow waiting n ready → AreReady waiting ready
all_ready waiting n ready e b = record {
  small = λ i h. let lt = b.small i h in omega (arith, lt, e);
  idle = b.idle;
  once = b.once;
  all = λ s h. b.all s (omega (arith, h, e));
}

-- ---- one waits less
not_ready : (waiting ready : List ℕ) (p : ℕ) → AreReady waiting ready → 1 ≤ get_or waiting p 0 → IsNew ready p
not_ready waiting ready p r some i h same =
    let idle = ap (λ m. get_or waiting m 0) (sym same) ∙ r.idle i h in omega (arith, some, idle)

idle_still : (waiting ready : List ℕ) (p v : ℕ) → AreReady waiting ready → 1 ≤ get_or waiting p 0 → (i : ℕ) → i < length ready
    → get_or (set waiting p v) (get_or ready i 0) 0 ≡ 0
idle_still waiting ready p v r some i h =
    get_or-set_other waiting p (get_or ready i 0) v 0 (λ same. not_ready waiting ready p r some i h same) ∙ r.idle i h

pub ready_same : (waiting ready : List ℕ) (p v : ℕ) → p < length waiting → 1 ≤ get_or waiting p 0 → v ≢ 0 → AreReady waiting ready
    → AreReady (set waiting p v) ready
ready_same waiting ready p v inside some left r =
    let count = length-set waiting p v in
    record {
      small = λ i h. let lt = r.small i h in omega (arith, lt, count);
      idle = idle_still waiting ready p v r some;
      once = r.once;
      all = all;
    }
  where
    all : (s : ℕ) → s < length (set waiting p v) → get_or (set waiting p v) s 0 ≡ 0 → (i : ℕ) × StandsAt ready s i
    all s h zero_at =
        let count = length-set waiting p v in
        elim (cases_eq s p) [
          | inl same ↦ absurd (left (sym (get_or-set_same waiting p v 0 inside) ∙ ap (λ m. get_or (set waiting p v) m 0) (sym same) ∙ zero_at))
          | inr other ↦ r.all s (omega (arith, h, count)) (sym (get_or-set_other waiting p s v 0 other) ∙ zero_at)
        ]

pub ready_more : (waiting ready : List ℕ) (p v : ℕ) → p < length waiting → 1 ≤ get_or waiting p 0 → v ≡ 0 → AreReady waiting ready
    → AreReady (set waiting p v) (ready ++ p ∷ [])
ready_more waiting ready p v inside some none r = record {
  small = λ i h. small i (pushed ready p i h);
  idle = λ i h. idle i (pushed ready p i h);
  once = (apart_push ready p record { once = r.once } (not_ready waiting ready p r some)).once;
  all = all;
}
  where
    small : (i : ℕ) → Pushed ready p i → get_or (ready ++ p ∷ []) i 0 < length (set waiting p v)
    small i (earlier l is) = let lt = r.small i l in let count = length-set waiting p v in omega (arith, lt, is, count)
    small i (newest l is) = let count = length-set waiting p v in omega (arith, is, inside, count)

    idle : (i : ℕ) → Pushed ready p i → get_or (set waiting p v) (get_or (ready ++ p ∷ []) i 0) 0 ≡ 0
    idle i (earlier l is) = ap (λ s. get_or (set waiting p v) s 0) is ∙ idle_still waiting ready p v r some i l
    idle i (newest l is) = ap (λ s. get_or (set waiting p v) s 0) is ∙ get_or-set_same waiting p v 0 inside ∙ none

    all : (s : ℕ) → s < length (set waiting p v) → get_or (set waiting p v) s 0 ≡ 0 → (i : ℕ) × StandsAt (ready ++ p ∷ []) s i
    all s h zero_at =
        let count = length-set waiting p v in
        elim (cases_eq s p) [
          | inl same ↦ let P : ℕ → Type 0 = λ m. StandsAt (ready ++ p ∷ []) m (length ready) in (length ready, subst P (sym same) (stands_last ready p))
          | inr other ↦
              let st = r.all s (omega (arith, h, count)) (sym (get_or-set_other waiting p s v 0 other) ∙ zero_at) in
              (st.0, stands_push ready p s st.0 st.1)
        ]
