-- A running infimum has an answer: its scan from the last piece on, the pieces before a time, and the curve.
use Rattle.std.specs.Prelude.{◌≡◌, ℕ, zero, suc, ◌+◌, ◌-◌, ◌<◌, ◌≤◌, pos, List, [], ◌∷◌, ◌++◌, length, reverse}
use Rattle.std.proofs.Common.{arith, ap, refl, subst, inl, inr}
use Rattle.rational.specs.Rational.{ℚ, ◌+ℚ◌, ◌≤ℚ◌, int}
use Rattle.rational.specs.MinMax.{min_q}
use Rattle.rational.proofs.Laws.{le_or_lt}
use Rattle.upp_curve.specs.declared.affine_segment.line.Piece.{Piece}
use Rattle.upp_curve.proofs.affine_segment.PieceOrder.{heads_same, zero_some}
use Rattle.min_plus.specs.Functions.{IsFinite, IsNonnegative}
use Rattle.upp_curve.specs.Curve.{SpecCurve, value_at}
use Rattle.upp_curve.specs.Curves.{IsCurve}
use Rattle.upp_curve.specs.Steady.{rise_over}
use Rattle.upp_curve.specs.Unrolled.{unroll}
use Rattle.upp_limits.specs.declared.op_kind.OpKind.TheVariants.{RunInf}
use Rattle.curve_call.specs.declared.frame.Frame.{Frame}
use Rattle.curve_call.specs.Answers.{IsMadeBy}
use Rattle.curve_call.specs.Frames.{IsFrame, sizes_at}
use Rattle.curve_call.proofs.Limited.{run_inf_least}
use Rattle.existence.specs.curves.Answered.{HasAnswer}
use Rattle.existence.proofs.curves.Answered.{at_least}
use Rattle.existence.proofs.curves.Windows.{answer_curve}
use Rattle.plain_operators.specs.declared.running.bend.Bend.{Bend}
use Rattle.plain_operators.specs.running.Bends.{bent_back}
use Rattle.plain_operators.specs.running.Made.{IsInfimumScan}
use Rattle.plain_operators.specs.running.Runs.{IsFrontBefore}
use Rattle.plain_operators.specs.running.Scans.{flat, IsWindow, ScanFits, IsStretch}
use Rattle.plain_operators.proofs.running.Bending.{IsLow, one_line, two_lines, inf_falling, inf_level, inf_rising, inf_turning}
use Rattle.existence.proofs.curves.Scans.{stretch, meet}
use Rattle.plain_operators.proofs.running.InfimumLoop.{InfimumLoop, infimum_start, infimum_step, infimum_end}
use Rattle.plain_operators.proofs.running.InfimumRuns.{inf_answer, inf_value}
use Rattle.plain_operators.proofs.running.RunFacts.{inf_facts, run_window, run_fits}
use Rattle.plain_operators.proofs.running.SupremumLoop.{window_end}
use Rattle.curve_call.specs.Calls.{Applies}

-- ---- the scan
low : (level : ℚ) (ps : List Piece) (end : ℚ) (i : ℕ) (s : _) → IsStretch ps end i s → (b : Bend) × IsLow level s b
low level ps end i s S = elim (le_or_lt s.line.slope (int (pos 0))) [
  | inl falls ↦ (one_line (flat (min_q level s.left)), inf_falling level s (int (pos 0)) (min_q level s.left) refl falls S.left refl)
  | inr rises ↦ elim (le_or_lt level s.right) [
    | inl l ↦ (one_line (flat level), inf_level level s rises S.right l)
    | inr over ↦ elim (le_or_lt s.left level) [
      | inl l ↦ (one_line s.line, inf_rising level s rises S.left l)
      | inr under ↦ let (x, m) = meet level s.line rises in (two_lines s.line x level (flat level), inf_turning level s x rises S.right S.left over under m)
    ]
  ]
]

record IsOneBack (ps : List Piece) (end : ℚ) (i : ℕ) : Type 0 where
  level : ℚ
  out : List Piece
  loop : InfimumLoop ps end i level out

one_back : (ps : List Piece) (end : ℚ) (i : ℕ) (level : ℚ) (out : List Piece) → IsWindow end ps → ScanFits end ps → InfimumLoop ps end (i + 1) level out → i < length ps → IsOneBack ps end i
one_back ps end i level out W F L h =
    let (s, S) = stretch ps end i W F h in
    let (b, B) = low level ps end i s S in
    let both = min_q s.right s.left in
    let deep = min_q level both in
    let next = min_q s.at deep in
    let more = out ++ bent_back s.from next b.line b.turn in
    record { level = next; out = more; loop = infimum_step ps end i level out more s both deep next b L S B.follows B.made refl refl refl refl }

back : (i : ℕ) (ps : List Piece) (end level : ℚ) (out : List Piece) → IsWindow end ps → ScanFits end ps → InfimumLoop ps end i level out → i ≤ length ps → (qs : List Piece) × IsInfimumScan ps end qs
back zero ps end level out W F L most = (reverse out, infimum_end ps end level out (reverse out) W (window_end end ps W) L refl)
back (suc i) ps end level out W F L most =
    let next : suc i ≡ i + 1 = omega arith in
    let one = one_back ps end i level out W F (subst (λ n. InfimumLoop ps end n level out) next L) (omega (arith, most)) in
    back i ps end one.level one.out W F one.loop (omega (arith, most))

pub scan_back : (ps : List Piece) (end : ℚ) → IsWindow end ps → ScanFits end ps → (qs : List Piece) × IsInfimumScan ps end qs
scan_back ps end W F =
    let some : 0 < length ps = zero_some ps W.starts in
    let last : length ps - 1 + 1 ≡ length ps = omega (arith, some) in
    let (s, S) = stretch ps end (length ps - 1) W F (omega (arith, some)) in
    back (length ps) ps end s.left [] W F (infimum_start ps end (length ps - 1) s last S) (omega arith)

-- ---- the pieces before a time
none_first : (xs : List Piece) (p : Piece) (more : List Piece) → xs ≡ [] → xs ≡ p ∷ more → ⊥
none_first xs p more e k = cc

pub front_of : (ps : List Piece) (end : ℚ) → (front : List Piece) × IsFrontBefore ps end front
front_of [] end = ([], record { before = tt; rest = []; whole = refl; late = λ p more k. absurd (none_first [] p more refl k) })
front_of (p ∷ ps) end = elim (le_or_lt end p.x) [
  | inl late ↦ ([], record { before = tt; rest = p ∷ ps; whole = refl; late = λ q more k. subst (λ z. end ≤ℚ z.x) (heads_same p q ps more k) late })
  | inr early ↦ let (front, F) = front_of ps end in (p ∷ front, record { before = (early, F.before); rest = F.rest; whole = ap (λ z. p ∷ z) F.whole; late = F.late })
]

-- ---- within both limits
made : (f : SpecCurve) → IsFinite (value_at f) → IsNonnegative (value_at f) → (r : Frame) → IsFrame RunInf f f 0 0 r → (h : SpecCurve) × IsMadeBy RunInf f f h
made f finite nonneg r R =
    let z = sizes_at RunInf f f 0 0 in
    let facts = inf_facts f r R in
    let ps = unroll f r.end in
    let (qs, S) = scan_back ps r.end (run_window f r.start r.period r.end z facts finite) (run_fits f r.start r.period r.end z facts) in
    let to = r.start +ℚ r.period in
    let (front, K) = front_of qs to in
    let rise = rise_over f r.period in
    let (c, curve, same) = answer_curve front r.start r.period rise r.times r.values (inf_answer f r to rise ps qs front R refl refl refl S K) in
    (c, record { curve = curve; answers = inf_value f r to rise ps qs front c finite nonneg R refl refl refl S K same })

pub infimum_answered : (f : SpecCurve) → IsCurve f → IsFinite (value_at f) → IsNonnegative (value_at f) → HasAnswer (Applies RunInf f f)
infimum_answered f F finite nonneg = at_least RunInf f f 0 0 F tt (λ h. h) (run_inf_least f f) (made f finite nonneg)
