-- Packets that are not too wide stand on their grid, and their windows are narrow.
use Rattle.std.specs.Prelude.{◌≡◌, ℕ, zero, suc, ◌+◌, ◌-◌, ◌*◌, ◌<◌, ◌≤◌, ◌^◌, pos, List, [], ◌∷◌, length, map, All, AllPairs}
use Rattle.std.specs.List.{AllByRecursion, slice_index_or}
use Rattle.std.proofs.Common.{arith, refl, sym, subst, ◌∙◌}
use Rattle.std.proofs.lemmas.List.Elements.{All-nil, All-cons, All-tail, All-append}
use native.Mathlib.Nat.{mul-le-mul_right}
use Rattle.rational.specs.Rational.{ℚ, int, ◌*ℚ◌, ◌≤ℚ◌}
use Rattle.rational.specs.Gauge.{bound_of}
use Rattle.rational.specs.Grid.{Whole, Within}
use Rattle.rational.proofs.Grid.{whole_divides}
use Rattle.rational.proofs.Integers.{int_mul, nat_lt, nat_nonneg, nat_le_out}
use Rattle.rational.proofs.Laws.{mul_cancel, mul_le_mul_right, not_zero}
use Rattle.upp_limits.proofs.CommonDen.{common_den_pos, common_den_each, bound_each}
use Rattle.curve_library.proofs.SharesAre.{frac_times, steps_on}
use Rattle.min_plus.specs.Functions.{zero_q}
use Rattle.net_model.specs.declared.trace.TracePacket.{TracePacket}
use Rattle.net_model.specs.Traces.{IsTracePacket}
use Rattle.packet_windows.specs.declared.windows.Entry.{Entry}
use Rattle.packet_windows.specs.declared.windows.Window.{Window}
use Rattle.measure_curve.specs.Limits.{grid_of, reach_of}
use Rattle.measure_curve.specs.Grids.{IsNarrow}
use Rattle.packet_windows.specs.Scans.{EnterFrom, windows_from, windows}
use Rattle.measure_curve.specs.Scans.{ticks, entry_of}
use Rattle.measure_curve.specs.Staircases.{time_of}
use Rattle.measure_curve.proofs.WindowSums.{AreOnGrid, le_time}

pub each_all : {A : Type 0} (P : A → Type 0) (xs : List A) → All P xs → AllByRecursion P xs
each_all P [] h = tt
each_all P (x ∷ xs) h = (h 0 x (omega arith), each_all P xs (All-tail P x xs h))

-- ---- a time on the grid
on_grid : (d V : ℕ) (x : ℚ) → zero_q ≤ℚ x → Whole (suc d) x → x ≡ time_of (suc d) (ticks (suc d) x)
on_grid d V x h w =
    let g = int (pos (suc d)) in
    let t = ticks (suc d) x in
    mul_cancel x (time_of (suc d) t) g (not_zero g (nat_lt 0 (suc d) (omega arith)))
    (steps_on x (suc d) h (whole_divides (suc d) x w) ∙ sym (frac_times (pos t) (suc d) (omega arith)))

ticks_early : (d V : ℕ) (x : ℚ) → zero_q ≤ℚ x → Whole (suc d) x → Within (int (pos V)) x → ticks (suc d) x ≤ V * suc d
ticks_early d V x h w in_V =
    let g = int (pos (suc d)) in
    let t = ticks (suc d) x in
    let high = mul_le_mul_right g (nat_nonneg (suc d)) in_V.high in
    let left = steps_on x (suc d) h (whole_divides (suc d) x w) in
    let right = int_mul (pos V) (pos (suc d)) in
    nat_le_out t (V * suc d) (subst (λ q. q ≤ℚ int (pos (V * suc d))) left (subst (λ q. x *ℚ g ≤ℚ q) right high))

-- ---- the packets
pub record Stand (grid : ℕ) (ps : List TracePacket) : Type 0 where
  pub some : 0 < grid
  pub narrow : grid < 2 ^ 114
  pub on : AreOnGrid grid ps
  pub early : All (λ p. ticks grid p.time < 2 ^ 114) ps
  pub up : EnterFrom 0 (map (entry_of grid) ps)

-- times, one for each packet
abbrev IsTimed : ℕ → ℕ → TracePacket → Type 0
IsTimed grid V p = Whole grid p.time × Within (int (pos V)) p.time

timed : (grid V : ℕ) (ps : List TracePacket) → AllByRecursion (Whole grid) (map (λ p. p.time) ps) → AllByRecursion (Within (int (pos V))) (map (λ p. p.time) ps) → All (IsTimed grid V) ps
timed grid V [] h k = All-nil (IsTimed grid V)
timed grid V (p ∷ ps) h k = All-cons (IsTimed grid V) p ps (h.0, k.0) (timed grid V ps h.1 k.1)

are_on : (d V : ℕ) (ps : List TracePacket) → All IsTracePacket ps → All (IsTimed (suc d) V) ps → AreOnGrid (suc d) ps
are_on d V [] h k = tt
are_on d V (p ∷ ps) h k =
    let here = h 0 p (omega arith) in
    let t = k 0 p (omega arith) in
    (on_grid d V p.time here.from_zero t.0, are_on d V ps (All-tail IsTracePacket p ps h) (All-tail (IsTimed (suc d) V) p ps k))

are_early : (d V : ℕ) (ps : List TracePacket) → All IsTracePacket ps → All (IsTimed (suc d) V) ps → V * suc d < 2 ^ 114 → All (λ p. ticks (suc d) p.time < 2 ^ 114) ps
are_early d V ps h k l = λ i e m.
    let p = slice_index_or ps i e in
    let here = h i e m in
    let t = k i e m in
    let b = ticks_early d V p.time here.from_zero t.0 t.1 in
    omega arith

pairs_tail : (p : TracePacket) (ps : List TracePacket) → AllPairs (λ (a b : TracePacket). a.time ≤ℚ b.time) (p ∷ ps) → AllPairs (λ (a b : TracePacket). a.time ≤ℚ b.time) ps
pairs_tail p ps h = λ i j d l m. h (suc i) (suc j) d (omega arith) (omega arith)

enter_up : (d n : ℕ) (ps : List TracePacket) → AreOnGrid (suc d) ps → AllPairs (λ (a b : TracePacket). a.time ≤ℚ b.time) ps
    → ((p : TracePacket) (rest : List TracePacket) → ps ≡ p ∷ rest → n ≤ ticks (suc d) p.time) → EnterFrom n (map (entry_of (suc d)) ps)
enter_up d n [] on h first = tt
enter_up d n (p ∷ ps) on h first = (
  first p ps refl,
  enter_up d (ticks (suc d) p.time) ps on.1 (pairs_tail p ps h) (λ q rest e. later q rest e),
)
  where
    ordered : (q : TracePacket) (rest : List TracePacket) → AllPairs (λ (a b : TracePacket). a.time ≤ℚ b.time) (p ∷ q ∷ rest) → AreOnGrid (suc d) (q ∷ rest) → ticks (suc d) p.time ≤ ticks (suc d) q.time
    ordered q rest k o =
        let l = k 0 1 p (omega arith) (omega arith) in
        le_time d (ticks (suc d) p.time) (ticks (suc d) q.time) (subst (λ x. x ≤ℚ time_of (suc d) (ticks (suc d) q.time)) on.0 (subst (λ x. p.time ≤ℚ x) o.0 l))

    later : (q : TracePacket) (rest : List TracePacket) → ps ≡ q ∷ rest → ticks (suc d) p.time ≤ ticks (suc d) q.time
    later q rest e =
        ordered q rest (subst (λ xs. AllPairs (λ (a b : TracePacket). a.time ≤ℚ b.time) (p ∷ xs)) e h) (subst (AreOnGrid (suc d)) e on.1)

-- what the width says of the grid and the reach
record Room (D V : ℕ) : Type 0 where
  narrow : D < 2 ^ 114
  product : V * D < 2 ^ 114

room : (D R V : ℕ) → V ≤ R → 64 * (R + 1) * D < 2 ^ 120 → 0 < D → Room D V
room D R V h l some =
    let flat : 64 * (R + 1) * D ≡ 64 * (R * D) + 64 * D = omega arith in
    let a = mul-le-mul_right D h in
    record { narrow = omega arith; product = omega arith }

stand_at : (grid : ℕ) (ps : List TracePacket) → IsNarrow grid ps → 0 < grid → Stand grid ps
stand_at zero ps h some = absurd (omega arith)
stand_at (suc d) ps h some =
    let V = bound_of (map (λ (p : TracePacket). p.time) ps) in
    let R = reach_of ps in
    let is : suc d ≡ grid_of ps = h.grid_is in
    let narrow : 64 * (R + 1) * suc d < 2 ^ 120 = subst (λ n. 64 * (R + 1) * n < 2 ^ 120) (sym is) h.narrow in
    let r = room (suc d) R V (omega arith) narrow some in
    let whole = subst (λ n. AllByRecursion (Whole n) (map (λ (p : TracePacket). p.time) ps)) (sym is) (common_den_each (map (λ (p : TracePacket). p.time) ps)) in
    let t = timed (suc d) V ps whole (bound_each (map (λ (p : TracePacket). p.time) ps) V (omega arith)) in
    let on = are_on d V ps h.packets t in
    record {
      some = some;
      narrow = r.narrow;
      on = on;
      early = are_early d V ps h.packets t r.product;
      up = enter_up d 0 ps on h.in_order (λ p rest e. omega arith);
    }

pub stand : (grid : ℕ) (ps : List TracePacket) → IsNarrow grid ps → Stand grid ps
stand grid ps h =
    stand_at grid ps h (subst (λ n. 0 < n) (sym h.grid_is) (common_den_pos (map (λ (p : TracePacket). p.time) ps)))

-- ---- their windows
abbrev IsShort : ℕ → Window → Type 0
IsShort bits w = (w.length < 2 ^ 114) × (w.bits ≤ bits)

more_bits : (m n : ℕ) (ws : List Window) → m ≤ n → All (IsShort m) ws → All (IsShort n) ws
more_bits m n ws l h = λ k d b. let s = h k d b in (s.0, let t = s.1 in omega arith)

short_from : (first bits : ℕ) (es : List Entry) → All (λ e. (e.time < 2 ^ 114) × (e.bits ≤ 2 ^ 24)) es
    → All (IsShort (bits + 2 ^ 24 * length es)) (windows_from first bits es)
short_from first bits [] h = All-nil (IsShort (bits + 2 ^ 24 * 0))
short_from first bits (e ∷ es) h =
    let here = h 0 e (omega arith) in
    let small : e.bits ≤ 2 ^ 24 = here.1 in
    let rest = short_from first (bits + e.bits) es (All-tail (λ (e : Entry). (e.time < 2 ^ 114) × (e.bits ≤ 2 ^ 24)) e es h) in
    let most = bits + 2 ^ 24 * length (e ∷ es) in
    All-cons (IsShort most) record { length = e.time - first; bits = bits + e.bits } (windows_from first (bits + e.bits) es)
    (let t = here.0 in omega arith, omega arith)
    (more_bits ((bits + e.bits) + 2 ^ 24 * length es) most (windows_from first (bits + e.bits) es) (omega arith) rest)

pub windows_short : (es : List Entry) → All (λ e. (e.time < 2 ^ 114) × (e.bits ≤ 2 ^ 24)) es → All (IsShort (2 ^ 24 * length es)) (windows es)
windows_short [] h = All-nil (IsShort (2 ^ 24 * 0))
windows_short (e ∷ es) h =
    let most = 2 ^ 24 * length (e ∷ es) in
    let own = short_from e.time 0 (e ∷ es) h in
    let rest = windows_short es (All-tail (λ (e : Entry). (e.time < 2 ^ 114) × (e.bits ≤ 2 ^ 24)) e es h) in
    All-append (IsShort most) (windows_from e.time 0 (e ∷ es)) (windows es)
    (more_bits (0 + 2 ^ 24 * length (e ∷ es)) most (windows_from e.time 0 (e ∷ es)) (omega arith) own)
    (more_bits (2 ^ 24 * length es) most (windows es) (omega arith) rest)

pub entries_small : (grid : ℕ) (ps : List TracePacket) → Stand grid ps → All IsTracePacket ps → All (λ (e : Entry). (e.time < 2 ^ 114) × (e.bits ≤ 2 ^ 24)) (map (entry_of grid) ps)
entries_small grid ps s h = go ps s.early h
  where
    go : (ps : List TracePacket) → All (λ (p : TracePacket). ticks grid p.time < 2 ^ 114) ps → All IsTracePacket ps → All (λ (e : Entry). (e.time < 2 ^ 114) × (e.bits ≤ 2 ^ 24)) (map (entry_of grid) ps)
    go [] a b = All-nil (λ (e : Entry). (e.time < 2 ^ 114) × (e.bits ≤ 2 ^ 24))
    go (p ∷ ps) a b =
        let t = a 0 p (omega arith) in
        let k = b 0 p (omega arith) in
        All-cons (λ (e : Entry). (e.time < 2 ^ 114) × (e.bits ≤ 2 ^ 24)) (entry_of grid p) (map (entry_of grid) ps) (t, k.bits.1)
        (go ps (All-tail (λ (p : TracePacket). ticks grid p.time < 2 ^ 114) p ps a) (All-tail IsTracePacket p ps b))
