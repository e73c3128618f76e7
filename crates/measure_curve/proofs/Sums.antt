-- The windows from one packet on have at most, and at best, the bits of the packets that are near enough; and so all windows.
use Rattle.std.specs.Prelude.{◌≡◌, ℕ, ◌+◌, ◌-◌, ◌≤◌, Bool, true, false, ◌&&◌, nat_le, List, [], ◌∷◌, ◌++◌, max}
use Rattle.std.proofs.Common.{arith, refl, sym, ◌∙◌, inl, inr, true≢false}
use Rattle.std.proofs.lemmas.Bool.{cases_Bool, cases_lt, le-leb}
use Rattle.packet_windows.specs.declared.windows.Entry.{Entry}
use Rattle.packet_windows.specs.declared.windows.Window.{Window}
use Rattle.packet_windows.specs.Scans.{EnterFrom, windows_from, windows}
use Rattle.measure_curve.proofs.Tests.{passed, most, GoesDown}

-- ---- tests
pub not_up : (fits : ℕ → Bool) → GoesDown fits → (m n : ℕ) → m ≤ n → fits m ≡ false → fits n ≡ false
not_up fits d m n h f = elim (cases_Bool (fits n)) [
  | inl t ↦ absurd (true≢false (sym (d.down m n h t) ∙ f))
  | inr e ↦ e
]

-- where a test passes only what another does, it sums no more
pub passed_le : (test other : ℕ → Bool) (u : ℕ) (es : List Entry) → EnterFrom u es → ((n : ℕ) → u ≤ n → test n ≡ true → other n ≡ true)
    → passed test es ≤ passed other es
passed_le test other u [] h k = omega arith
passed_le test other u (e ∷ es) h k =
    let rest = passed_le test other e.time es h.1 (λ n l. k n (omega arith)) in
    elim (cases_Bool (test e.time)) [
      | inl t ↦ let o = k e.time h.0 t in rw (t, o) (omega arith)
      | inr f ↦ rw f (omega arith)
    ]

-- ---- from one packet on
none_near : (fits : ℕ → Bool) → GoesDown fits → (t u : ℕ) (es : List Entry) → EnterFrom u es → fits (u - t) ≡ false
    → passed (λ n. fits (n - t)) es ≡ 0
none_near fits d t u [] h f = refl
none_near fits d t u (e ∷ es) h f =
    let g = not_up fits d (u - t) (e.time - t) (let l = h.0 in omega arith) f in
    rw (g, none_near fits d t e.time es h.1 g) refl

none_fit : (fits : ℕ → Bool) → GoesDown fits → (t u b : ℕ) (es : List Entry) → EnterFrom u es → fits (u - t) ≡ false
    → most fits (windows_from t b es) ≡ 0
none_fit fits d t u b [] h f = refl
none_fit fits d t u b (e ∷ es) h f =
    let g = not_up fits d (u - t) (e.time - t) (let l = h.0 in omega arith) f in
    rw (g, none_fit fits d t e.time (b + e.bits) es h.1 g) refl

pub most_from : (fits : ℕ → Bool) → GoesDown fits → (t b u : ℕ) (es : List Entry) → EnterFrom u es
    → max b (most fits (windows_from t b es)) ≡ b + passed (λ n. fits (n - t)) es
most_from fits d t b u [] h = omega arith
most_from fits d t b u (e ∷ es) h = elim (cases_Bool (fits (e.time - t))) [
  | inl y ↦
      let rest = most_from fits d t (b + e.bits) e.time es h.1 in
      rw y (omega arith)
  | inr f ↦
      let a = none_fit fits d t e.time (b + e.bits) es h.1 f in
      let z = none_near fits d t e.time es h.1 f in
      rw (f, a, z) (omega arith)
]

-- ---- all windows
pub most_append : (fits : ℕ → Bool) (xs ys : List Window) → most fits (xs ++ ys) ≡ max (most fits xs) (most fits ys)
most_append fits [] ys = omega arith
most_append fits (x ∷ xs) ys = let r = most_append fits xs ys in omega arith

-- no test under which packets are near has more bits
pub most_above : (fits test : ℕ → Bool) → GoesDown fits → (u : ℕ) (es : List Entry) → EnterFrom u es
    → ((m n : ℕ) → m ≤ n → test m ≡ true → test n ≡ true → fits (n - m) ≡ true) → passed test es ≤ most fits (windows es)
most_above fits test d u [] h k = omega arith
most_above fits test d u (e ∷ es) h k =
    let join = most_append fits (windows_from e.time 0 (e ∷ es)) (windows es) in
    elim (cases_Bool (test e.time)) [
      | inr f ↦
          let rest = most_above fits test d e.time es h.1 k in
          rw f (omega arith)
      | inl t ↦
          let near = passed_le test (λ n. fits (n - e.time)) e.time (e ∷ es) (omega arith, h.1) (λ n l y. k e.time n l t y) in
          let own = most_from fits d e.time 0 e.time (e ∷ es) (omega arith, h.1) in
          omega arith
    ]

-- and the packets from one on that are near have as many
pub most_taken : (fits : ℕ → Bool) → GoesDown fits → (u : ℕ) (es : List Entry) → EnterFrom u es
    → (t : ℕ) × (most fits (windows es) ≤ passed (λ n. nat_le t n && fits (n - t)) es)
most_taken fits d u [] h = (0, omega arith)
most_taken fits d u (e ∷ es) h =
    let (t, rest) = most_taken fits d e.time es h.1 in
    let join = most_append fits (windows_from e.time 0 (e ∷ es)) (windows es) in
    let own = most_from fits d e.time 0 e.time (e ∷ es) (omega arith, h.1) in
    let near = passed_le (λ n. fits (n - e.time)) (λ n. nat_le e.time n && fits (n - e.time)) e.time (e ∷ es) (omega arith, h.1) (λ n l y. both e.time n l (fits (n - e.time)) y) in
    elim (cases_lt (most fits (windows_from e.time 0 (e ∷ es))) (most fits (windows es))) [
      | inl l ↦ (t, omega arith)
      | inr g ↦ (e.time, omega arith)
    ]
  where
    both : (m n : ℕ) → m ≤ n → (b : Bool) → b ≡ true → nat_le m n && b ≡ true
    both m n l b y = rw (le-leb m n l, y) refl
