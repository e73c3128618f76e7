-- The scan for the running supremum of a window, and its supremum between two times, without memory.
use Rattle.std.specs.Prelude.{◌≡◌, ℕ, zero, suc, ◌+◌, ◌-◌, ◌<◌, ◌≤◌, pos, List, [], ◌++◌, drop, length, Option, Some, None}
use Rattle.std.proofs.Common.{arith, sym, refl, subst, inl, inr, ◌∙◌}
use Rattle.std.proofs.lemmas.Bool.{cases_lt}
use Rattle.std.proofs.lemmas.Option.{slice_get_cases}
use Rattle.rational.specs.Rational.{ℚ, ◌-ℚ◌, ◌/ℚ◌, ◌≤ℚ◌, ◌<ℚ◌, int}
use Rattle.rational.specs.MinMax.{max_q, min_q}
use Rattle.rational.specs.Extended.{◌≤ₑ◌}
use Rattle.rational.specs.declared.Extended.TheVariants.{Fin}
use Rattle.rational.specs.Gauge.{size_up}
use Rattle.rational.proofs.Laws.{le_or_lt, lt_irrefl}
use Rattle.upp_curve.specs.declared.affine_segment.line.Line.{Line}
use Rattle.upp_curve.specs.declared.affine_segment.line.Piece.{Piece}
use Rattle.upp_curve.specs.affine_segment.Reading.{read}
use Rattle.upp_curve.specs.affine_segment.Values.{line_at}
use Rattle.upp_curve.proofs.affine_segment.LineValues.{level_value}
use Rattle.upp_curve.proofs.affine_segment.Meeting.{lines_meet}
use Rattle.upp_curve.proofs.affine_segment.PieceOrder.{zero_some}
use Rattle.min_plus.specs.Functions.{zero_q}
use Rattle.upp_curve.specs.Shapes.{IsLine}
use Rattle.upp_curve.proofs.Finite.{level_of}
use Rattle.plain_operators.specs.declared.running.bend.Bend.{Bend}
use Rattle.plain_operators.specs.running.Bends.{bent}
use Rattle.plain_operators.specs.running.Made.{IsMeeting, IsSupremumScan}
use Rattle.plain_operators.specs.running.Periods.{IsCover}
use Rattle.plain_operators.specs.running.Scans.{start_or, flat, IsWindow, ScanFits, IsStretch, IsSupremumIn}
use Rattle.plain_operators.proofs.running.Bending.{IsHigh, one_line, two_lines, sup_falling, sup_level, sup_rising, sup_turning}
use Rattle.plain_operators.proofs.running.Covers.{no_cover, cover_is}
use Rattle.plain_operators.proofs.running.Highest.{Part, BetweenLoop, inside_is, start_is, none_is, between_start, between_step, between_end}
use Rattle.plain_operators.proofs.running.Middle.{finite_at, right_fits, left_fits, stretch_is}
use Rattle.plain_operators.proofs.running.SupremumLoop.{SupremumLoop, supremum_start, supremum_step, supremum_end}

-- ---- the stretches of a window
pub line_of : (o : Option Line) → IsLine o → (l : Line) × (o ≡ Some l)
line_of None h = absurd h
line_of (Some l) h = (l, refl)

pub stretch : (ps : List Piece) (end : ℚ) (i : ℕ) → IsWindow end ps → ScanFits end ps → i < length ps → (s : _) × IsStretch ps end i s
stretch ps end i W F h = elim (slice_get_cases ps i).1 [
  | inr (l, none) ↦ absurd (omega (arith, l, h))
  | inl (p, inside, some, at) ↦
      let e = sym at in
      let finite = finite_at ps i p end W h e in
      let (v, value) = level_of p.at finite.at in
      let (l, line) = line_of p.line finite.line in
      let to = start_or end (drop (i + 1) ps) in
      (record { from = p.x; at = v; line = l; to = to; right = line_at l p.x; left = line_at l to }, stretch_is ps i p end v to (line_at l p.x) (line_at l to) l W h e value line refl refl refl (right_fits ps i p l end F h e line) (left_fits ps i p l end to F h e line refl))
]

-- ---- the greatest of a level and a line
pub meet : (level : ℚ) (l : Line) → int (pos 0) <ℚ l.slope → (x : ℚ) × IsMeeting level l x
meet level l rises =
    let a = level -ℚ l.icept in
    let b = l.slope -ℚ int (pos 0) in
    let apart = λ (e : l.slope ≡ int (pos 0)). lt_irrefl (int (pos 0)) (subst (λ s. int (pos 0) <ℚ s) e rises) in
    (a /ℚ b, record { rises = rises; is = lines_meet l (flat level) a b (a /ℚ b) apart refl refl refl ∙ sym (level_value (flat level) (a /ℚ b) refl) })

high : (level : ℚ) (ps : List Piece) (end : ℚ) (i : ℕ) (s : _) → IsStretch ps end i s → (b : Bend) × IsHigh level s b
high level ps end i s S = elim (le_or_lt s.line.slope (int (pos 0))) [
  | inl falls ↦ (one_line (flat (max_q level s.right)), sup_falling level s (int (pos 0)) (max_q level s.right) refl falls S.right refl)
  | inr rises ↦ elim (le_or_lt level s.right) [
    | inl l ↦ (one_line s.line, sup_rising level s rises S.right l)
    | inr low ↦ elim (le_or_lt s.left level) [
      | inl l ↦ (one_line (flat level), sup_level level s rises S.left l)
      | inr over ↦ let (x, m) = meet level s.line rises in (two_lines (flat level) x level s.line, sup_turning level s x rises S.right S.left low over m)
    ]
  ]
]

-- ---- the scan
record IsOneOn (ps : List Piece) (end : ℚ) (i : ℕ) : Type 0 where
  level : ℚ
  out : List Piece
  loop : SupremumLoop ps end (i + 1) level out

one_on : (ps : List Piece) (end : ℚ) (i : ℕ) (level : ℚ) (out : List Piece) → IsWindow end ps → ScanFits end ps → SupremumLoop ps end i level out → i < length ps → IsOneOn ps end i
one_on ps end i level out W F L h =
    let (s, S) = stretch ps end i W F h in
    let top = max_q level s.at in
    let (b, B) = high top ps end i s S in
    let more = out ++ bent s.from top b.line b.turn in
    let both = max_q s.right s.left in
    record { level = max_q top both; out = more; loop = supremum_step ps end i level out more s top both (max_q top both) b L S refl B.follows B.made refl refl refl }

on : (n : ℕ) (ps : List Piece) (end : ℚ) (i : ℕ) (level : ℚ) (out : List Piece) → IsWindow end ps → ScanFits end ps → SupremumLoop ps end i level out → i ≤ length ps → length ps - i ≤ n
    → (qs : List Piece) × IsSupremumScan ps end qs
on zero ps end i level out W F L most few = (out, supremum_end ps end i level out W L (omega (arith, most, few)) most)
on (suc n) ps end i level out W F L most few = elim (cases_lt i (length ps)) [
  | inr done ↦ (out, supremum_end ps end i level out W L done most)
  | inl h ↦ let one = one_on ps end i level out W F L h in on n ps end (i + 1) one.level one.out W F one.loop (omega (arith, h)) (omega (arith, few, h))
]

pub scan : (ps : List Piece) (end : ℚ) → IsWindow end ps → ScanFits end ps → (qs : List Piece) × IsSupremumScan ps end qs
scan ps end W F =
    let some : 0 < length ps = zero_some ps W.starts in
    let (s, S) = stretch ps end 0 W F some in
    on (length ps) ps end 0 s.at [] W F (supremum_start ps end s W S) (omega arith) (omega arith)

-- ---- the supremum between two times
highest_in : (ps : List Piece) (end : ℚ) (i : ℕ) (from to : ℚ) → IsWindow end ps → ScanFits end ps → i < length ps → (h : ℚ) × Part ps end i from to h
highest_in ps end i from to W F inside =
    let (s, S) = stretch ps end i W F inside in
    let low = max_q s.from from in
    let up = min_q s.to to in
    let first = line_at s.line low in
    let last = line_at s.line up in
    elim (le_or_lt up low) [
      | inl none ↦ (int (pos 0), none_is ps end i s from to low up (int (pos 0)) S refl refl none refl)
      | inr some ↦ elim (le_or_lt from s.from) [
        | inl early ↦ (max_q s.at (max_q first last), start_is ps end i s from to low up first last (max_q first last) (max_q s.at (max_q first last)) S refl refl some early refl refl refl refl)
        | inr late ↦ (max_q first last, inside_is ps end i s from to low up first last (max_q first last) S refl refl some late refl refl refl)
      ]
    ]

between_on : (n : ℕ) (ps : List Piece) (end from to : ℚ) (i : ℕ) (level : ℚ) → IsWindow end ps → ScanFits end ps → BetweenLoop ps end i from to level → i ≤ length ps → length ps - i ≤ n
    → int (pos 0) ≤ℚ from → from <ℚ to → to ≤ℚ end → ((t : ℚ) → int (pos 0) ≤ℚ t → t <ℚ end → Fin (int (pos 0)) ≤ₑ read ps t) → (v : ℚ) × IsSupremumIn (read ps) from to (Fin v)
between_on zero ps end from to i level W F L most few low some last nonneg = (level, between_end ps end i from to level L (omega (arith, most, few)) low some last nonneg)
between_on (suc n) ps end from to i level W F L most few low some last nonneg = elim (cases_lt i (length ps)) [
  | inr done ↦ (level, between_end ps end i from to level L done low some last nonneg)
  | inl h ↦
      let (v, P) = highest_in ps end i from to W F h in
      between_on n ps end from to (i + 1) (max_q level v) W F (between_step ps end i from to level v (max_q level v) L P.rises P.highest P.level refl) (omega (arith, h)) (omega (arith, few, h)) low some last nonneg
]

pub between : (ps : List Piece) (end from to : ℚ) → IsWindow end ps → ScanFits end ps → int (pos 0) ≤ℚ from → from <ℚ to → to ≤ℚ end
    → ((t : ℚ) → int (pos 0) ≤ℚ t → t <ℚ end → Fin (int (pos 0)) ≤ₑ read ps t) → (v : ℚ) × IsSupremumIn (read ps) from to (Fin v)
between ps end from to W F low some last nonneg =
    between_on (length ps) ps end from to 0 (int (pos 0)) W F (between_start ps end from to (int (pos 0)) W low refl) (omega arith) (omega arith) low some last nonneg

pub cover : (early once rise : ℚ) → zero_q <ℚ rise → (k : ℕ) × IsCover early once rise k
cover early once rise rises = elim (le_or_lt early once) [
  | inl l ↦ (0, no_cover early once rise l)
  | inr more ↦
      let gap = early -ℚ once in
      (size_up (gap /ℚ rise), cover_is early once rise gap (gap /ℚ rise) (size_up (gap /ℚ rise)) rises more refl refl refl)
]
