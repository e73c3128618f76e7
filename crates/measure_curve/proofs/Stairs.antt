-- The curve of steps: what is read of it, and that it is in normal form and readable.
use Rattle.std.specs.Prelude.{◌≡◌, ℕ, zero, suc, ◌<◌, ◌≤◌, ◌^◌, pos, nat_abs, true, List, [], ◌∷◌, map, None, All}
use Rattle.std.proofs.lemmas.List.Elements.{All-tail}
use Rattle.std.proofs.Common.{arith, refl, sym, ap, subst, ◌∙◌, inl, inr, true≢false}
use Rattle.std.proofs.lemmas.Bool.{cases_Bool}
use Rattle.std.proofs.lemmas.Int.{ints}
use Rattle.rational.specs.Rational.{ℚ, frac, int, ◌+ℚ◌, ◌*ℚ◌, ◌≤ℚ◌, ◌<ℚ◌}
use Rattle.rational.specs.Ratio.{IsSmall}
use Rattle.rational.specs.declared.Extended.TheVariants.{Fin}
use Rattle.rational.proofs.Laws.{le_refl, le_or_lt, lt_irrefl, zero_mul, mul_zero}
use Rattle.rational.proofs.Linear.{with2}
use Rattle.rational.proofs.Over.{lt_over, int_over, le_q_out, le_q_in}
use Rattle.rational.proofs.Parts.{small_ratio}
use Rattle.rational.proofs.ExtendedOrder.{fin_same}
use Rattle.min_plus.specs.Functions.{zero_q}
use Rattle.upp_curve.specs.declared.affine_segment.line.Piece.{Piece}
use Rattle.upp_curve.specs.affine_segment.Pieces.{Each, HasStart, RisesFrom, StartsAtZero}
use Rattle.upp_curve.specs.affine_segment.Reading.{read}
use Rattle.upp_curve.specs.affine_segment.Fits.{LineFits}
use Rattle.upp_curve.proofs.affine_segment.PieceIn.{read_go, read_stop, read_one}
use Rattle.upp_curve.specs.Curve.{value_at}
use Rattle.upp_curve.specs.Curves.{IsCurve}
use Rattle.upp_curve.specs.Normal.{IsNormal, Continues, NoneContinues}
use Rattle.upp_curve.specs.Readable.{EachFits}
use Rattle.upp_curve.specs.Steady.{last_of}
use Rattle.upp_curve.proofs.ReadableKinds.{bucket_curve, zero_small}
use Rattle.upp_curve.proofs.ByTail.{some_is}
use Rattle.upp_curve.proofs.StairValues.{flat_value}
use Rattle.run_laws.specs.Cards.{whole}
use Rattle.run_laws.proofs.Sizes.{whole_lt}
use Rattle.packet_windows.specs.declared.windows.Window.{Window}
use Rattle.packet_windows.specs.Scans.{last_length}
use Rattle.measure_curve.specs.Staircases.{time_of, piece_of, staircase, StepUp, AreSteps, Fit}
use Rattle.measure_curve.proofs.Tests.{level}
use Rattle.measure_curve.proofs.WindowSums.{near, time_le}

-- ---- reading
abbrev pub pieces_of : ℕ → List Window → List Piece
pieces_of grid ws = map (piece_of grid) ws

pub read_level : (grid : ℕ) (t : ℚ) (w : Window) (ws : List Window) → near grid t w.length ≡ true
    → read (pieces_of grid (w ∷ ws)) t ≡ Fin (whole (level (near grid t) w.bits ws))
read_level grid t w [] y =
    read_one (piece_of grid w) t ∙ flat_value (time_of grid w.length) (whole w.bits) t (le_q_in (time_of grid w.length) t y)
read_level grid t w (v ∷ vs) y = elim (cases_Bool (near grid t v.length)) [
  | inl here ↦
      rw here (read_go (piece_of grid w) (piece_of grid v) (pieces_of grid vs) t (le_q_in (time_of grid v.length) t here)
      ∙ read_level grid t v vs here)
  | inr later ↦
      let past : t <ℚ time_of grid v.length = elim (le_or_lt (time_of grid v.length) t) [
        | inl h ↦ absurd (true≢false (sym (le_q_out (time_of grid v.length) t h) ∙ later))
        | inr k ↦ k
      ] in
      rw later (read_stop (piece_of grid w) (piece_of grid v) (pieces_of grid vs) t past
      ∙ flat_value (time_of grid w.length) (whole w.bits) t (le_q_in (time_of grid w.length) t y))
]

pub time_zero : (d : ℕ) → time_of (suc d) 0 ≡ zero_q
time_zero d = sym (zero_over d)
  where
    zero_over : (d : ℕ) → int (pos 0) ≡ frac (pos 0) d
    zero_over d = int_over (pos 0) d ∙ ap (λ z. frac z d) (omega (arith, ints))

pub value_level : (d : ℕ) (ws : List Window) (t : ℚ) → AreSteps ws → zero_q ≤ℚ t
    → value_at (staircase (suc d) ws) t ≡ Fin (whole (level (near (suc d) t) 0 ws))
unfolding value_at
value_level d [] t h l = absurd h
value_level d (w ∷ ws) t h l =
    let y : near (suc d) t w.length ≡ true = rw (h.0, time_zero d) (le_q_out zero_q t l) in
    rw y (read_level (suc d) t w ws y)

-- ---- normal form
pub time_lt : (d m n : ℕ) → m < n → time_of (suc d) m <ℚ time_of (suc d) n
time_lt d m n h = (lt_over (pos m) (pos n) d).1 (omega (arith, ints))

pub rise_from : (d : ℕ) (w : Window) (ws : List Window) → StepUp w.length w.bits ws → RisesFrom (time_of (suc d) w.length) (pieces_of (suc d) ws)
rise_from d w [] h = tt
rise_from d w (v ∷ vs) h = (time_lt d w.length v.length h.0, rise_from d v vs h.2)

pub starts : (d : ℕ) (ws : List Window) → AreSteps ws → StartsAtZero (pieces_of (suc d) ws)
starts d [] h = absurd h
starts d (w ∷ ws) h = (ap (time_of (suc d)) h.0 ∙ time_zero d, rise_from d w ws (subst (λ n. StepUp n w.bits ws) (sym h.0) h.1))

last_from : (n : ℕ) (w : Window) (ws : List Window) → StepUp w.length w.bits ws → n ≤ w.length → n ≤ last_length w.length ws
last_from n w [] h l = l
last_from n w (v ∷ vs) h l = last_from n v vs h.2 (let k = h.0 in omega arith)

before_last : (d : ℕ) (w : Window) (ws : List Window) → StepUp w.length w.bits ws
    → Each (λ p. p.x ≤ℚ time_of (suc d) (last_length w.length ws)) (pieces_of (suc d) (w ∷ ws))
before_last d w [] h = (le_refl (time_of (suc d) w.length), tt)
before_last d w (v ∷ vs) h =
    let rest = before_last d v vs h.2 in
    (time_le d w.length (last_length v.length vs) (last_from w.length v vs h.2 (let k = h.0 in omega arith)), rest)

last_starts : (d : ℕ) (w : Window) (ws : List Window) → HasStart (time_of (suc d) (last_length w.length ws)) (pieces_of (suc d) (w ∷ ws))
last_starts d w [] = inl refl
last_starts d w (v ∷ vs) = inr (last_starts d v vs)

apart : (d : ℕ) (w v : Window) → w.bits < v.bits → ¬ (Continues (piece_of (suc d) w) (piece_of (suc d) v))
apart d w v h k =
    let z = zero_mul (time_of (suc d) v.length) in
    let same : whole v.bits ≡ whole w.bits = fin_same (k.0) ∙ flat_line (whole w.bits) (time_of (suc d) v.length) in
    lt_irrefl (whole w.bits) (subst (λ q. whole w.bits <ℚ q) same (whole_lt w.bits v.bits h))
  where
    flat_line : (v t : ℚ) → v +ℚ zero_q *ℚ t ≡ v
    flat_line v t = with2 v t (λ c. omega (arith, c.le, c.lt, c.same))

none_continues : (d : ℕ) (w : Window) (ws : List Window) → StepUp w.length w.bits ws → NoneContinues (piece_of (suc d) w) (pieces_of (suc d) ws)
none_continues d w [] h = tt
none_continues d w (v ∷ vs) h = (apart d w v h.1, none_continues d v vs h.2)

last_line_is : (d : ℕ) (w : Window) (ws : List Window) → ¬ ((last_of (piece_of (suc d) w) (pieces_of (suc d) ws)).line ≡ None)
last_line_is d w [] = some_is record { icept = whole w.bits; slope = zero_q }
last_line_is d w (v ∷ vs) = last_line_is d v vs

stairs_normal : (d : ℕ) (ws : List Window) → AreSteps ws → IsNormal (staircase (suc d) ws)
stairs_normal d [] h = absurd h
stairs_normal d (w ∷ ws) h =
    let up : StepUp w.length w.bits ws = subst (λ n. StepUp n w.bits ws) (sym h.0) h.1 in
    record {
      raw = record {
        starts = starts d (w ∷ ws) h;
        tail = record {
          nonneg = subst (λ q. q ≤ℚ time_of (suc d) (last_length w.length ws)) (time_zero d) (time_le d 0 (last_length w.length ws) (omega arith));
          starts = before_last d w ws up;
        };
      };
      rank_is_start = last_starts d w ws;
      no_merge = none_continues d w ws up;
      tail = last_line_is d w ws;
    }

-- ---- readable
pub small_time : (n d : ℕ) → n < 2 ^ 127 → suc d < 2 ^ 127 → IsSmall (time_of (suc d) n)
small_time n d h k = small_ratio (pos n) (pos (suc d)) (λ e. absurd (zero-not-suc d (ap nat_abs e))) h k
  where
    zero-not-suc : (d : ℕ) → suc d ≡ 0 → ⊥
    zero-not-suc d e = omega (arith, e)

level_fits : (n : ℕ) (x : ℚ) → n < 2 ^ 64 → LineFits x record { icept = whole n; slope = zero_q }
level_fits n x h =
    let z = zero_mul x in
    let at_start = (bucket_curve (whole n) zero_q (small_time n 0 (omega arith) (omega arith))).readable.0.sum in
    record {
      product = rw z zero_small;
      sum = rw z (rw mul_zero at at_start);
    }

abbrev IsSmallStep : Window → Type 0
IsSmallStep w = (w.length < 2 ^ 127) × (w.bits < 2 ^ 64)

each_fits : (d : ℕ) (ws : List Window) → All IsSmallStep ws → EachFits None (pieces_of (suc d) ws)
each_fits d [] h = tt
each_fits d (w ∷ []) h = let s = h 0 w (omega arith) in (level_fits w.bits (time_of (suc d) w.length) s.1, tt, tt)
each_fits d (w ∷ v ∷ vs) h =
    let s = h 0 w (omega arith) in
    let rest = All-tail IsSmallStep w (v ∷ vs) h in
    (level_fits w.bits (time_of (suc d) w.length) s.1, level_fits w.bits (time_of (suc d) v.length) s.1, each_fits d (v ∷ vs) rest)

pub stairs_curve : (grid : ℕ) (ws : List Window) → Fit grid ws → IsCurve (staircase grid ws)
stairs_curve zero ws h = absurd (let s = h.some in omega arith)
stairs_curve (suc d) ws h = record { normal = stairs_normal d ws h.steps; readable = each_fits d ws h.narrow_steps }
