-- The scans read as the infimum over all later times of a function that repeats from `from` on; and their pieces are those of an answer.
use Rattle.std.specs.Prelude.{◌≡◌, ℕ, false, pos, List, [], ◌∷◌, ◌++◌, Option, Some, None}
use Rattle.std.proofs.Common.{arith, sym, ap, ◌∙◌, refl, subst, inl, inr}
use Rattle.rational.specs.Rational.{ℚ, ◌+ℚ◌, ◌-ℚ◌, ◌*ℚ◌, ◌≤ℚ◌, ◌<ℚ◌, int}
use Rattle.rational.specs.MinMax.{min_q, max_q}
use Rattle.rational.specs.Grid.{Whole}
use Rattle.rational.specs.Whole.{periods}
use Rattle.rational.specs.Extended.{Ext, ◌≤ₑ◌, ◌<ₑ◌, ◌+ₑ◌}
use Rattle.rational.specs.declared.Extended.TheVariants.{Fin, Inf}
use Rattle.rational.proofs.Bounds.{same_infimum}
use Rattle.rational.proofs.Grid.{within_weaken}
use Rattle.rational.proofs.Integers.{nat_nonneg}
use Rattle.rational.proofs.Linear.{with3, with4}
use Rattle.rational.proofs.Laws.{le_or_lt, le_refl, le_of_lt, le_trans, le_lt_trans, mul_nonneg, sub_add, zero_mul, add_zero}
use Rattle.rational.proofs.MinMax.{min_q_one, min_q_le_left, min_q_le_right, max_q_lt, max_q_ge_left, max_q_ge_right}
use Rattle.rational.proofs.Stretch.{line_infimum}
use Rattle.rational.proofs.Whole.{periods_low, periods_high}
use Rattle.rational.proofs.ExtendedOrder.{fin_same, le_ext_refl, le_ext_trans}
use Rattle.upp_curve.specs.declared.affine_segment.line.Line.{Line}
use Rattle.upp_curve.specs.declared.affine_segment.line.Piece.{Piece}
use Rattle.upp_curve.specs.affine_segment.Values.{line_at, line_value}
use Rattle.min_plus.specs.Functions.{zero_q, From}
use Rattle.upp_curve.specs.affine_segment.Pieces.{Each, StartsAtZero}
use Rattle.upp_curve.specs.affine_segment.Reading.{read, piece_value}
use Rattle.upp_normal.specs.Room.{PieceHasRoom}
use Rattle.min_plus.specs.Running.{IsRunningInfimum}
use Rattle.upp_curve.specs.Steady.{Repeats, last_line, last_of}
use Rattle.upp_limits.specs.Limits.{Sizes}
use Rattle.upp_limits.specs.Sized.{grid_of, times_largest}
use Rattle.upp_normal.specs.Operand.{answer_room}
use Rattle.upp_normal.proofs.Bends.{bends_on}
use Rattle.upp_curve.proofs.affine_segment.PieceIn.{value_past, piece_in_end, read_is, value_by}
use Rattle.upp_curve.proofs.affine_segment.PieceOrder.{each_map}
use Rattle.upp_normal.proofs.NormaliseLists.{last_is_last, last_in}
use Rattle.upp_curve.proofs.Repeats.{repeats_times}
use Rattle.upp_curve.proofs.Steady.{read_past}
use Rattle.upp_normal.proofs.UnrolledValues.{read_before, read_past_list}
use Rattle.curve_call.specs.Answering.{IsAnswerWindow}
use Rattle.plain_operators.specs.running.Scans.{Until, IsInfimumUntil}
use Rattle.plain_operators.proofs.running.Fronts.{kept_each, kept_starts, kept_reads, kept_bends}
use Rattle.plain_operators.proofs.running.Shifts.{infimum_repeats, raised}
use Rattle.curve_call.proofs.TailGrids.{grids_nest}
use Rattle.plain_operators.specs.running.Lowest.{level_piece, IsLowestCall, IsLowest}
use Rattle.plain_operators.proofs.running.SumSizes.{IsNear, EachSum, scan_room, only_bend}
use Rattle.upp_normal.proofs.AnswerRoom.{more_largest}
use Rattle.plain_operators.proofs.running.LowestCalls.{call_far, all_sums}
use Rattle.plain_operators.proofs.running.InfimumRuns.{same_until}

-- ---- one period from `r` on is enough
until_period : (f : ℚ → Ext) (r d c t : ℚ) (v : Ext) → int (pos 0) <ℚ d → zero_q ≤ℚ c → Repeats f r d c → t ≤ℚ r → IsInfimumUntil f (r +ℚ d) t v → IsRunningInfimum f t v
until_period f r d c t v some rise F early k =
    same_infimum {I = Until t (r +ℚ d)} {J = From t} (λ s. f s.at) (λ s. f s.at) v
    (λ s. (record { at = s.at; least = s.least }, le_ext_refl (f s.at)))
    (λ s. find s.at s.least)
    k
  where
    find : (x : ℚ) → t ≤ℚ x → (s : Until t (r +ℚ d)) × (f s.at ≤ₑ f x)
    find x h = elim (le_or_lt r x) [
      | inr l ↦ (record { at = x; least = h; early = with3 x r d (λ q. omega (arith, q.le, q.lt, q.same)) }, le_ext_refl (f x))
      | inl l ↦
          let n = periods r d x in
          let y = int (pos n) *ℚ d in
          let u = x -ℚ y in
          let first = periods_low r d x some l in
          let last = periods_high r d x some in
          let low : r ≤ℚ u = with3 r x y (λ q. omega (arith, q.le, q.lt, q.same)) in
          let high : u <ℚ r +ℚ d = with4 r x y d (λ q. omega (arith, q.le, q.lt, q.same)) in
          let high_by : zero_q ≤ℚ int (pos n) *ℚ c = mul_nonneg (nat_nonneg n) rise in
          let same : f x ≡ f u +ₑ Fin (int (pos n) *ℚ c) = ap f (sym (sub_add x y)) ∙ (repeats_times f r d c n (le_of_lt some) F).rule u low in
          (record { at = u; least = le_trans early low; early = high }, subst (λ z. f u ≤ₑ z) (sym same) (raised (f u) (int (pos n) *ℚ c) high_by))
    ]

-- ---- the pieces and the level
level_reads : (x w t : ℚ) → read (level_piece x w ∷ []) t ≡ Fin w
level_reads x w t =
    read_is (level_piece x w) [] t ∙ ap (λ z. piece_value z t) (piece_in_end (level_piece x w) t)
    ∙ elim (le_or_lt t x) [
      | inl l ↦ value_by (level_piece x w) t l
      | inr l ↦ value_past (level_piece x w) t l ∙ ap Fin (ap (λ y. w +ℚ y) (zero_mul t) ∙ add_zero w)
    ]

all_early : (ps : List Piece) (end w t : ℚ) → StartsAtZero ps → t <ℚ end → read (ps ++ level_piece end w ∷ []) t ≡ read ps t
all_early [] end w t s h = absurd s
all_early (p ∷ ps) end w t s h = read_before p ps (level_piece end w) [] t h

all_late : (ps : List Piece) (end w t : ℚ) → StartsAtZero ps → Each (λ p. p.x <ℚ end) ps → end ≤ℚ t → read (ps ++ level_piece end w ∷ []) t ≡ Fin w
all_late [] end w t s b h = absurd s
all_late (p ∷ ps) end w t s b h =
    read_past_list p ps (level_piece end w) [] t (each_map (λ q. q.x <ℚ end) (λ q. q.x ≤ℚ t) (λ q l. le_trans (le_of_lt l) h) ps b.1) h ∙ level_reads end w t

-- just before the end the last line comes as near to its limit as asked
near_end : (ps : List Piece) (end t limit y : ℚ) → StartsAtZero ps → Each (λ p. p.x <ℚ end) ps → t <ℚ end → line_value (last_line ps) end ≡ Fin limit → limit <ℚ y
    → (s : Until t end) × (read ps s.at <ₑ Fin y)
near_end [] end t limit y s b early e h = absurd s
near_end (p ∷ ps) end t limit y s b early e h = by_line (last_of p ps).line refl
  where
    last : ℚ
    last = (last_of p ps).x

    before : last <ℚ end
    before = last_in (λ q. q.x <ℚ end) p ps b.0 b.1

    by_line : (l : Option Line) → (last_of p ps).line ≡ l → (s : Until t end) × (read (p ∷ ps) s.at <ₑ Fin y)
    by_line None k = absurd (same_none (sym (ap (λ l. line_value l end) k) ∙ e))
      where
        same_none : Inf ≡ Fin limit → ⊥
        same_none e = cc
    by_line (Some l) k =
        let from = max_q t last in
        let far : from <ℚ end = max_q_lt t last end early before in
        let at : line_at l end ≡ limit = fin_same (sym (ap (λ l. line_value l end) k) ∙ e) in
        let low : min_q (line_at l from) (line_at l end) <ℚ y = le_lt_trans (min_q_le_right (line_at l from) (line_at l end)) (subst (λ x. x <ℚ y) (sym at) h) in
        let (u, less) = (line_infimum from end l.icept l.slope far).near y low in
        let past : last <ℚ u.at = le_lt_trans (max_q_ge_right t last) u.above in
        let same : read (p ∷ ps) u.at ≡ Fin (line_at l u.at) = read_past (p ∷ ps) last u.at (last_is_last p ps s.1) past ∙ ap (λ l. line_value l u.at) k in
        (record { at = u.at; least = le_of_lt (le_lt_trans (max_q_ge_left t last) u.above); early = u.below }, subst (λ x. x <ₑ Fin y) (sym same) less)

-- ---- what is read
pub record LowestOf (f : ℚ → Ext) (ps : List Piece) (from period end far rise : ℚ) : Type 0 where
  pub starts : StartsAtZero ps
  pub before : Each (λ p. p.x <ℚ end) ps
  pub reads : (t : ℚ) → zero_q ≤ℚ t → t <ℚ end → read ps t ≡ f t
  pub low : zero_q ≤ℚ from
  pub some : zero_q <ℚ period
  pub ends : from +ℚ period ≡ end
  pub late : end <ℚ far
  pub rise_low : zero_q ≤ℚ rise
  pub repeats : Repeats f from period rise

runs_end : (f : ℚ → Ext) (ps qs : List Piece) (from period end far rise : ℚ) → LowestOf f ps from period end far rise → (K : IsLowest ps from end far rise qs) → IsRunningInfimum f end (Fin (K.low +ℚ rise))
runs_end f ps qs from period end far rise L K =
    let until : IsInfimumUntil f end from (Fin K.low) = same_until f (read ps) end from (Fin K.low) (λ s h l. sym (L.reads s (le_trans L.low h) l)) K.first in
    let here = until_period f from period rise from (Fin K.low) L.some L.rise_low L.repeats (le_refl from) (subst (λ x. IsInfimumUntil f x from (Fin K.low)) (sym L.ends) until) in
    subst (λ x. IsRunningInfimum f x (Fin (K.low +ℚ rise))) L.ends (infimum_repeats f from period rise from (Fin K.low) (le_of_lt L.some) L.repeats (le_refl from) here)

scanned_runs : (f : ℚ → Ext) (ps qs : List Piece) (from period end far rise t : ℚ) → LowestOf f ps from period end far rise → (K : IsLowest ps from end far rise qs) → zero_q ≤ℚ t → t <ℚ end
    → IsRunningInfimum f t (read K.scanned t)
scanned_runs f ps qs from period end far rise t L K low early = record { below = under; near = close }
  where
    w : ℚ
    w = min_q (K.low +ℚ rise) K.limit

    v : Ext
    v = read K.scanned t

    until : IsInfimumUntil (read (ps ++ level_piece end w ∷ [])) far t v
    until = K.scan.reads t low (le_lt_trans (le_of_lt early) L.late)

    after : IsRunningInfimum f end (Fin (K.low +ℚ rise))
    after = runs_end f ps qs from period end far rise L K

    here : (s : ℚ) → t ≤ℚ s → s <ℚ end → read (ps ++ level_piece end w ∷ []) s ≡ f s
    here s h l = all_early ps end w s L.starts l ∙ L.reads s (le_trans low h) l

    under : (x : From t) → v ≤ₑ f x.at
    under x = elim (le_or_lt end x.at) [
      | inl h ↦
          let at_end : v ≤ₑ Fin w = subst (λ y. v ≤ₑ y) (all_late ps end w end L.starts L.before (le_refl end)) (until.below record { at = end; least = le_of_lt early; early = L.late }) in
          le_ext_trans v (Fin w) (f x.at) at_end (le_ext_trans (Fin w) (Fin (K.low +ℚ rise)) (f x.at) (min_q_le_left (K.low +ℚ rise) K.limit) (after.below record { at = x.at; least = h }))
      | inr h ↦ subst (λ y. v ≤ₑ y) (here x.at x.least h) (until.below record { at = x.at; least = x.least; early = le_lt_trans (le_of_lt h) L.late })
    ]

    by_level : (y : ℚ) → w <ℚ y → (x : From t) × (f x.at <ₑ Fin y)
    by_level y h = elim (min_q_one (K.low +ℚ rise) K.limit) [
      | inl same ↦ let (x, m) = after.near y (subst (λ u. u <ℚ y) same h) in (record { at = x.at; least = le_trans (le_of_lt early) x.least }, m)
      | inr same ↦
          let (s, m) = near_end ps end t K.limit y L.starts L.before early K.limit_is (subst (λ u. u <ℚ y) same h) in
          (record { at = s.at; least = s.least }, subst (λ u. u <ₑ Fin y) (L.reads s.at (le_trans low s.least) s.early) m)
    ]

    close : (y : ℚ) → v <ₑ Fin y → (x : From t) × (f x.at <ₑ Fin y)
    close y h =
        let (s, m) = until.near y h in
        elim (le_or_lt end s.at) [
          | inl l ↦ by_level y (subst (λ u. u <ₑ Fin y) (all_late ps end w s.at L.starts L.before l) m)
          | inr l ↦ (record { at = s.at; least = s.least }, subst (λ u. u <ₑ Fin y) (here s.at s.least l) m)
        ]

end_some : (from period end : ℚ) → zero_q ≤ℚ from → zero_q <ℚ period → from +ℚ period ≡ end → zero_q <ℚ end
end_some from period end a b e = with3 from period end (λ c. omega (arith, c.le, c.lt, c.same))

pub lowest_runs : (f : ℚ → Ext) (ps qs : List Piece) (from period end far rise t : ℚ) → LowestOf f ps from period end far rise → IsLowest ps from end far rise qs → zero_q ≤ℚ t → t <ℚ end
    → IsRunningInfimum f t (read qs t)
lowest_runs f ps qs from period end far rise t L K low early =
    let starts = kept_starts K.scanned end qs K.front (end_some from period end L.low L.some L.ends) K.scan.scan.starts in
    subst (IsRunningInfimum f t) (sym (kept_reads K.scanned end qs t K.front starts early)) (scanned_runs f ps qs from period end far rise t L K low early)

-- ---- the answer
pub lowest_answer : (z : Sizes) (ps qs : List Piece) (from period end far rise : ℚ) (times values : ℕ) → IsLowestCall z ps from end far rise → IsLowest ps from end far rise qs → times ≡ z.dt → values ≡ grid_of z
    → Whole z.dt period → zero_q <ℚ period → from +ℚ period ≡ end → IsAnswerWindow qs from period rise times values
lowest_answer z ps qs from period end far rise times values C K t v on some ends = record {
  sizes = z;
  end = end;
  limited = C.limited;
  times_is = t;
  values_is = v;
  starts = starts;
  before = before;
  room = kept_each (PieceHasRoom (answer_room z end) 1) K.scanned end qs K.front (scan_room false z end far all K.scanned C.limited F O K.scan.scan);
  from_whole = C.from_whole;
  nonneg = C.from_low;
  period_whole = on;
  above = some;
  early = subst (λ x. x ≤ℚ end) (sym ends) (le_refl end);
  rise_whole = C.rise_stands.whole;
  rise_within = within_weaken (times_largest 6 z) (times_largest 8 z) rise (more_largest z 6 8 (omega arith)) C.rise_stands.within;
  grids = bends_on false z.dt z.ds (grid_of z) qs from period rise (grids_nest z) starts record { nonneg = C.from_low; some = some; starts = before }
      (kept_bends false z.dt z.ds (grid_of z) K.scanned end qs K.front (only_bend false z end far all K.scanned C.limited F O K.scan.scan.made K.scan.scan.turns))
      C.from_whole on C.rise_stands.whole;
}
  where
    w : ℚ
    w = min_q (K.low +ℚ rise) K.limit

    all : List Piece
    all = ps ++ level_piece end w ∷ []

    F : IsNear z end far
    F = call_far z ps from end far rise C

    O : EachSum z end all
    O = all_sums z ps end w C.limited C.each (K.stands z C)

    before : Each (λ p. p.x <ℚ from +ℚ period) qs
    before = subst (λ x. Each (λ p. p.x <ℚ x) qs) (sym ends) K.front.before

    starts : StartsAtZero qs
    starts = kept_starts K.scanned end qs K.front (end_some from period end C.from_low some ends) K.scan.scan.starts
