-- The pieces of the curve of steps are where it rises.
use Rattle.std.specs.Prelude.{◌≡◌, ◌⊎◌, ℕ, zero, suc, ◌<◌, List, [], ◌∷◌}
use Rattle.std.proofs.Common.{arith, refl, sym, ap, subst, ◌∙◌, inl, inr}
use Rattle.rational.specs.Rational.{ℚ, ◌≤ℚ◌, ◌<ℚ◌}
use Rattle.rational.specs.Extended.{Ext, ◌<ₑ◌}
use Rattle.rational.specs.declared.Extended.TheVariants.{Fin, Inf}
use Rattle.rational.proofs.Laws.{le_refl, le_trans, le_of_lt, le_or_lt, lt_cases, lt_trans, lt_le_trans, le_lt_trans, lt_irrefl}
use Rattle.min_plus.specs.Functions.{zero_q}
use Rattle.upp_curve.specs.affine_segment.Pieces.{Each, HasStart}
use Rattle.upp_curve.specs.affine_segment.Reading.{read}
use Rattle.upp_curve.proofs.affine_segment.PieceIn.{read_first, read_go, read_stop, read_one}
use Rattle.upp_curve.specs.Curve.{value_at}
use Rattle.upp_curve.proofs.StairValues.{flat_value}
use Rattle.run_laws.specs.Cards.{whole}
use Rattle.run_laws.proofs.Sizes.{whole_lt}
use Rattle.packet_windows.specs.declared.windows.Window.{Window}
use Rattle.measure_curve.specs.Staircases.{time_of, piece_of, staircase, StepUp, AreSteps, TellRises}
use Rattle.measure_curve.specs.Windows.{RisesAt}
use Rattle.measure_curve.proofs.Stairs.{pieces_of, starts, rise_from, time_lt, time_zero}

-- from the start of the first of some steps on they are what is read
abbrev ReadsFrom : (ℚ → Ext) → ℕ → Window → List Window → Type 0
ReadsFrom m d w vs = (t : ℚ) → time_of (suc d) w.length ≤ℚ t → m t ≡ read (pieces_of (suc d) (w ∷ vs)) t

reads_next : (m : ℚ → Ext) (d : ℕ) (w v : Window) (us : List Window) → w.length < v.length → ReadsFrom m d w (v ∷ us) → ReadsFrom m d v us
reads_next m d w v us l h = λ t k.
    h t (le_trans (le_of_lt (time_lt d w.length v.length l)) k)
    ∙ read_go (piece_of (suc d) w) (piece_of (suc d) v) (pieces_of (suc d) us) t k

at_start : (m : ℚ → Ext) (d : ℕ) (w : Window) (vs : List Window) → StepUp w.length w.bits vs → ReadsFrom m d w vs → m (time_of (suc d) w.length) ≡ Fin (whole w.bits)
at_start m d w vs up h =
    let x = time_of (suc d) w.length in
    h x (le_refl x) ∙ read_first (piece_of (suc d) w) (pieces_of (suc d) vs) x x (rise_from d w vs up) (le_refl x) ∙ flat_value x (whole w.bits) x (le_refl x)

up_to_next : (m : ℚ → Ext) (d : ℕ) (w v : Window) (us : List Window) (t : ℚ) → ReadsFrom m d w (v ∷ us) → time_of (suc d) w.length ≤ℚ t → t <ℚ time_of (suc d) v.length
    → m t ≡ Fin (whole w.bits)
up_to_next m d w v us t h k l =
    h t k ∙ read_stop (piece_of (suc d) w) (piece_of (suc d) v) (pieces_of (suc d) us) t l ∙ flat_value (time_of (suc d) w.length) (whole w.bits) t k

-- ---- values
values_from : (m : ℚ → Ext) (d : ℕ) (w : Window) (vs : List Window) → StepUp w.length w.bits vs → ReadsFrom m d w vs → Each (λ p. p.at ≡ m p.x) (pieces_of (suc d) (w ∷ vs))
values_from m d w [] up h = (sym (at_start m d w [] up h), tt)
values_from m d w (v ∷ us) up h = (sym (at_start m d w (v ∷ us) up h), values_from m d v us up.2 (reads_next m d w v us up.0 h))

-- ---- each start is a rise
abbrev Begins : (ℚ → Ext) → ℚ → Type 0
Begins m x = (x ≡ zero_q) ⊎ RisesAt m x

below : (v : Ext) (a b : ℚ) → v <ₑ Fin a → a <ℚ b → v <ₑ Fin b
below Inf a b h l = h
below (Fin x) a b h l = lt_trans h l

next_rises : (m : ℚ → Ext) (d : ℕ) (w v : Window) (us : List Window) → w.length < v.length → w.bits < v.bits → StepUp v.length v.bits us → ReadsFrom m d w (v ∷ us)
    → m (time_of (suc d) w.length) ≡ Fin (whole w.bits) → Begins m (time_of (suc d) w.length) → RisesAt m (time_of (suc d) v.length)
next_rises m d w v us longer more up h here b = λ t k l.
    let high = at_start m d v us up (reads_next m d w v us longer h) in
    let bits = whole_lt w.bits v.bits more in
    subst (λ z. m t <ₑ z) (sym high) (elim (le_or_lt (time_of (suc d) w.length) t) [
      | inl from ↦ subst (λ z. z <ₑ Fin (whole v.bits)) (sym (up_to_next m d w v us t h from l)) bits
      | inr before ↦ elim b [
        | inl e ↦ absurd (lt_irrefl t (lt_le_trans (subst (λ x. t <ℚ x) e before) k))
        | inr r ↦ below (m t) (whole w.bits) (whole v.bits) (subst (λ z. m t <ₑ z) here (r t k before)) bits
      ]
    ])

each_from : (m : ℚ → Ext) (d : ℕ) (w : Window) (vs : List Window) → StepUp w.length w.bits vs → ReadsFrom m d w vs → Begins m (time_of (suc d) w.length)
    → Each (λ p. Begins m p.x) (pieces_of (suc d) (w ∷ vs))
each_from m d w [] up h b = (b, tt)
each_from m d w (v ∷ us) up h b =
    (b, each_from m d v us up.2 (reads_next m d w v us up.0 h) (inr (next_rises m d w v us up.0 up.1 up.2 h (at_start m d w (v ∷ us) up h) b)))

-- ---- each rise is a start
stays : (m : ℚ → Ext) (x y : ℚ) (v : Ext) → zero_q ≤ℚ x → x ≤ℚ y → m x ≡ v → m y ≡ v → RisesAt m y → x ≡ y
stays m x y v h l p q r = elim (lt_cases x y) [
  | inl k ↦ absurd (no_less v (subst (λ z. z <ₑ v) p (subst (λ z. m x <ₑ z) q (r x h k))))
  | inr k ↦ elim k [ inl e ↦ e | inr g ↦ absurd (lt_irrefl x (le_lt_trans l g)) ]
]
  where
    no_less : (v : Ext) → v <ₑ v → ⊥
    no_less Inf h = h
    no_less (Fin x) h = lt_irrefl x h

all_from : (m : ℚ → Ext) (d : ℕ) (w : Window) (vs : List Window) → StepUp w.length w.bits vs → ReadsFrom m d w vs → zero_q ≤ℚ time_of (suc d) w.length
    → (x : ℚ) → time_of (suc d) w.length ≤ℚ x → RisesAt m x → HasStart x (pieces_of (suc d) (w ∷ vs))
all_from m d w [] up h nonneg x l r =
    let here = at_start m d w [] up h in
    let there = h x l ∙ read_one (piece_of (suc d) w) x ∙ flat_value (time_of (suc d) w.length) (whole w.bits) x l in
    inl (stays m (time_of (suc d) w.length) x (Fin (whole w.bits)) nonneg l here there r)
all_from m d w (v ∷ us) up h nonneg x l r = elim (le_or_lt (time_of (suc d) v.length) x) [
  | inl k ↦
      inr (all_from m d v us up.2 (reads_next m d w v us up.0 h) (le_trans nonneg (le_of_lt (time_lt d w.length v.length up.0))) x k r)
  | inr k ↦
      inl (stays m (time_of (suc d) w.length) x (Fin (whole w.bits)) nonneg l (at_start m d w (v ∷ us) up h) (up_to_next m d w v us x h l k) r)
]

-- ---- all of it
stair_reads : (d : ℕ) (w : Window) (vs : List Window) → ReadsFrom (value_at (staircase (suc d) (w ∷ vs))) d w vs
unfolding value_at
stair_reads d w vs = λ t l. refl

pub tell_rises : (grid : ℕ) (ws : List Window) → AreSteps ws → 0 < grid → TellRises (value_at (staircase grid ws)) (pieces_of grid ws)
tell_rises zero ws h some = absurd (omega arith)
tell_rises (suc d) [] h some = absurd h
tell_rises (suc d) (w ∷ vs) h some =
    let m = value_at (staircase (suc d) (w ∷ vs)) in
    let up : StepUp w.length w.bits vs = subst (λ n. StepUp n w.bits vs) (sym h.0) h.1 in
    let reads = stair_reads d w vs in
    let zero_start : time_of (suc d) w.length ≡ zero_q = ap (time_of (suc d)) h.0 ∙ time_zero d in
    let nonneg : zero_q ≤ℚ time_of (suc d) w.length = subst (λ x. zero_q ≤ℚ x) (sym zero_start) (le_refl zero_q) in
    record {
      ordered = starts d (w ∷ vs) h;
      values = values_from m d w vs up reads;
      each = each_from m d w vs up reads (inl zero_start);
      all = λ x l r. all_from m d w vs up reads nonneg x (subst (λ y. y ≤ℚ x) (sym zero_start) (le_of_lt l)) r;
    }
