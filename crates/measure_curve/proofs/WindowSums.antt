-- On a grid the most bits of a closed window are those of the windows between packets.
use Rattle.std.specs.Prelude.{◌≡◌, ℕ, suc, ◌-◌, ◌≤◌, pos, ◌+ℤ◌, neg_ℤ, Bool, true, ◌&&◌, nat_le, List, [], ◌∷◌, map}
use Rattle.std.specs.List.{AllByRecursion}
use Rattle.std.proofs.Common.{arith, refl, sym, ap, subst, ◌∙◌}
use Rattle.std.proofs.lemmas.Bool.{and_parts, and_from, leb-true}
use Rattle.std.proofs.lemmas.Int.{ints}
use Rattle.rational.specs.Rational.{ℚ, frac, le_q, ◌+ℚ◌, ◌-ℚ◌, ◌≤ℚ◌}
use Rattle.rational.proofs.Laws.{le_trans}
use Rattle.rational.proofs.Linear.{with3, with4}
use Rattle.rational.proofs.Over.{le_over, sub_over, le_q_out, le_q_in}
use Rattle.run_laws.specs.Counts.{within}
use Rattle.net_model.specs.declared.trace.TracePacket.{TracePacket}
use Rattle.packet_windows.specs.Scans.{EnterFrom, windows}
use Rattle.measure_curve.specs.Scans.{entry_of, ticks}
use Rattle.measure_curve.specs.Staircases.{time_of}
use Rattle.measure_curve.specs.Windows.{bits_in, IsMost}
use Rattle.measure_curve.proofs.Tests.{passed, most, GoesDown}
use Rattle.measure_curve.proofs.Sums.{passed_le, most_above, most_taken}

-- ---- times of a grid
pub time_le : (d m n : ℕ) → m ≤ n → time_of (suc d) m ≤ℚ time_of (suc d) n
time_le d m n h = (le_over (pos m) (pos n) d).1 (omega (arith, ints))

pub le_time : (d m n : ℕ) → time_of (suc d) m ≤ℚ time_of (suc d) n → m ≤ n
le_time d m n h = let k = (le_over (pos m) (pos n) d).0 h in omega (arith, ints)

time_sub : (d m n : ℕ) → m ≤ n → time_of (suc d) (n - m) ≡ time_of (suc d) n -ℚ time_of (suc d) m
time_sub d m n h =
    let e : pos (n - m) ≡ pos n +ℤ neg_ℤ (pos m) = omega (arith, ints) in
    ap (λ z. frac z d) e ∙ sym (sub_over (pos n) (pos m) d)

-- the number of steps of a time that is at most x
abbrev pub near : ℕ → ℚ → ℕ → Bool
near grid x n = le_q (time_of grid n) x

pub near_down : (d : ℕ) (x : ℚ) → GoesDown (near (suc d) x)
near_down d x = record {
  down = λ m n l h. le_q_out (time_of (suc d) m) x (le_trans (time_le d m n l) (le_q_in (time_of (suc d) n) x h));
}

-- ---- packets on the grid
abbrev pub AreOnGrid : ℕ → List TracePacket → Type 0
AreOnGrid grid ps = AllByRecursion (λ p. p.time ≡ time_of grid (ticks grid p.time)) ps

bits_passed : (grid : ℕ) (s t : ℚ) (ps : List TracePacket) → AreOnGrid grid ps
    → bits_in s t ps ≡ passed (λ n. within s t (time_of grid n)) (map (entry_of grid) ps)
bits_passed grid s t [] h = refl
bits_passed grid s t (p ∷ ps) h =
    let rest = bits_passed grid s t ps h.1 in
    let same : within s t p.time ≡ within s t (time_of grid (ticks grid p.time)) = ap (λ x. within s t x) h.0 in
    rw (same, rest) refl

-- ---- windows
in_window : (s t u : ℚ) → within s t u ≡ true → (s ≤ℚ u) × (u ≤ℚ t)
in_window s t u h =
    let k = and_parts (le_q s u) (le_q u t) h in
    (le_q_in s u k.0, le_q_in u t k.1)

to_window : (s t u : ℚ) → s ≤ℚ u → u ≤ℚ t → within s t u ≡ true
to_window s t u h k = and_from (le_q s u) (le_q u t) (le_q_out s u h) (le_q_out u t k)

two_in : (d : ℕ) (s x : ℚ) (m n : ℕ) → m ≤ n → within s (s +ℚ x) (time_of (suc d) m) ≡ true → within s (s +ℚ x) (time_of (suc d) n) ≡ true
    → near (suc d) x (n - m) ≡ true
two_in d s x m n l a b =
    let u = time_of (suc d) m in
    let v = time_of (suc d) n in
    let low = (in_window s (s +ℚ x) u a).0 in
    let high = (in_window s (s +ℚ x) v b).1 in
    let gap : v -ℚ u ≤ℚ x = with4 s x u v (λ c. omega (arith, c.le, c.lt, c.same)) in
    le_q_out (time_of (suc d) (n - m)) x (subst (λ q. q ≤ℚ x) (sym (time_sub d m n l)) gap)

one_in : (d : ℕ) (x : ℚ) (m n : ℕ) → nat_le m n && near (suc d) x (n - m) ≡ true
    → within (time_of (suc d) m) (time_of (suc d) m +ℚ x) (time_of (suc d) n) ≡ true
one_in d x m n h =
    let k = and_parts (nat_le m n) (near (suc d) x (n - m)) h in
    let l = leb-true m n k.0 in
    let u = time_of (suc d) m in
    let v = time_of (suc d) n in
    let gap : v -ℚ u ≤ℚ x = subst (λ q. q ≤ℚ x) (time_sub d m n l) (le_q_in (time_of (suc d) (n - m)) x k.1) in
    to_window u (u +ℚ x) v (time_le d m n l) (with3 u v x (λ c. omega (arith, c.le, c.lt, c.same)))

-- the most bits of a closed window
pub is_most : (d : ℕ) (ps : List TracePacket) (x : ℚ) → AreOnGrid (suc d) ps → EnterFrom 0 (map (entry_of (suc d)) ps)
    → IsMost ps x (most (near (suc d) x) (windows (map (entry_of (suc d)) ps)))
is_most d ps x on up =
    let es = map (entry_of (suc d)) ps in
    let fits = near (suc d) x in
    let down = near_down d x in
    let bound : (s : ℚ) → bits_in s (s +ℚ x) ps ≤ most fits (windows es) = (λ s.
    let h = most_above fits (λ n. within s (s +ℚ x) (time_of (suc d) n)) down 0 es up (λ m n l a b. two_in d s x m n l a b) in
    rw (bits_passed (suc d) s (s +ℚ x) ps on) h) in
    let (t, low) = most_taken fits down 0 es up in
    let start = time_of (suc d) t in
    let into = passed_le (λ n. nat_le t n && fits (n - t)) (λ n. within start (start +ℚ x) (time_of (suc d) n)) 0 es up (λ n l a. one_in d x t n a) in
    let is = bits_passed (suc d) start (start +ℚ x) ps on in
    let high = bound start in
    record { above = bound; start = start; taken = omega arith }
