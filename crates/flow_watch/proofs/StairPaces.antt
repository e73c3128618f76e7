-- A flow whose bits are counted in steps against a line over a stair keeps the stair.
use Rattle.std.specs.Prelude.{◌≡◌, ◌≢◌, ℕ, zero, suc, ◌+◌, ◌<◌, pos, List, [], ◌∷◌, length, drop, Option, Some, None, IfSome, unwrap_or}
use Rattle.std.specs.List.{slice_index_or}
use Rattle.std.proofs.Common.{arith, sym, subst, ap, ◌∙◌, inl, inr, add-one}
use Rattle.rational.specs.Rational.{ℚ, int, ◌+ℚ◌, ◌-ℚ◌, ◌*ℚ◌, ◌/ℚ◌, ◌≤ℚ◌, ◌<ℚ◌}
use Rattle.rational.specs.Extended.{Ext, ◌≤ₑ◌, ◌+ₑ◌}
use Rattle.rational.specs.declared.Extended.TheVariants.{Fin, Inf}
use Rattle.rational.proofs.ExtendedOrder.{le_ext_trans}
use Rattle.rational.proofs.Integers.{nat_lt_out, nat_next}
use Rattle.rational.proofs.Laws.{div_mul, le_of_lt, le_or_lt, le_lt_trans, le_trans, lt_le_trans, mul_add, mul_le_mul_right, mul_lt_mul, mul_nonneg, not_zero, zero_mul}
use Rattle.rational.proofs.Linear.{with2, with3, with4, with_atoms, sub_nonneg}
use Rattle.rational.proofs.Whole.{one_more_times}
use Rattle.upp_curve.specs.declared.affine_segment.line.Piece.{Piece}
use Rattle.upp_curve.specs.affine_segment.Pieces.{StartsAtZero}
use Rattle.upp_curve.specs.affine_segment.Reading.{piece_value, read}
use Rattle.upp_curve.proofs.affine_segment.PieceIn.{read_go, read_one, read_stop}
use Rattle.upp_curve.specs.declared.curve.Tail.{Tail}
use Rattle.upp_curve.specs.declared.curve.Tail.TheVariants.{Periodic}
use Rattle.upp_curve.specs.Curve.{SpecCurve, value_at}
use Rattle.upp_curve.specs.Curves.{IsCurve}
use Rattle.upp_curve.specs.Normal.{IsNormal}
use Rattle.upp_curve.proofs.Repeats.{tail_lemma}
use Rattle.run_laws.specs.Cards.{whole}
use Rattle.run_laws.proofs.Sizes.{whole_le}
use Rattle.flow_watch.specs.declared.watch_laws.entering.Entering.{Entering}
use Rattle.flow_watch.specs.watch_laws.Entries.{entering, bits_between}
use Rattle.flow_watch.specs.watch_laws.Segments.{next_start}
use Rattle.flow_watch.specs.step_lines.Lines.{KeepsLine}
use Rattle.flow_watch.specs.Flows.{FlowReads, NoneCrowded, IsUnderPiece}
use Rattle.flow_watch.specs.Stairs.{IsCount, HasSteps, IsStep, IsStepAt, IsStair, RisesWith, IsClimbed}
use Rattle.flow_watch.proofs.Buckets.{not_both}

pub not_none : (z d : ℚ) → z ≡ int (pos 0) → z <ℚ d → d ≢ int (pos 0)
not_none z d e h = not_zero d (subst (λ x. x <ℚ d) e h)

pub rises_with : (height rate period rise unit : ℚ) → height ≡ rise → unit ≡ int (pos 1) → rate ≡ unit /ℚ period → period ≢ int (pos 0) → RisesWith height rate period rise
rises_with height rate period rise unit e one r some = record { one = ap (λ x. x *ℚ period) r ∙ div_mul unit period some ∙ one; high = e }

-- ---- pieces
pub has_steps : (height burst rate count : ℚ) (p : Piece) → IsUnderPiece p burst rate → rate ≡ int (pos 0) → IsCount height burst count → HasSteps height p count
has_steps height burst rate count p U flat C = record {
  number = C.number;
  is = C.is;
  under = λ d some.
      let none : rate *ℚ d ≡ int (pos 0) = ap (λ x. x *ℚ d) flat ∙ zero_mul d in
      let under = C.under in
      let run = rate *ℚ d in
      let all = count *ℚ height in
      let low : all ≤ℚ burst +ℚ run = with_atoms (all ∷ burst ∷ run ∷ []) (λ c. omega (arith, c.le, c.lt, c.same)) in
      le_ext_trans (Fin all) (Fin (burst +ℚ run)) (piece_value p d) low (U d some);
}

pub step_at : (height slack rate end : ℚ) (ps : List Piece) (i : ℕ) (p : Piece) → i < length ps → p ≡ slice_index_or ps i p → IsStep height slack rate p (unwrap_or (next_start (drop (i + 1) ps)) end) → IsStepAt height slack rate end (drop i ps)
step_at height slack rate end ps i p l e S = go ps i l e (rw add-one at S)
  where
    go : (ps : List Piece) (i : ℕ) → i < length ps → p ≡ slice_index_or ps i p → IsStep height slack rate p (unwrap_or (next_start (drop (suc i) ps)) end) → IsStepAt height slack rate end (drop i ps)
    go [] i l e S = absurd (omega arith)
    go (q ∷ ps) zero l e S = subst (λ (r : Piece). IsStep height slack rate r (unwrap_or (next_start ps) end)) e S
    go (q ∷ ps) (suc i) l e S = go ps i (omega arith) e S

-- where the line is below the steps of a piece, the piece has one step more than a whole number under the line
one_step : (height count value : ℚ) (p : Piece) (d : ℚ) (n : ℕ) → int (pos 0) ≤ℚ height → HasSteps height p count → int (pos 0) ≤ℚ d → whole n ≤ℚ value → value <ℚ count → Fin (whole (suc n) *ℚ height) ≤ₑ piece_value p d
one_step height count value p d n high S some h l =
    let fewer : n < S.number = nat_lt_out n S.number (subst (λ x. whole n <ℚ x) S.is (le_lt_trans h l)) in
    let most : whole (suc n) ≤ℚ count = subst (λ x. whole (suc n) ≤ℚ x) (sym S.is) (whole_le (suc n) S.number (omega arith)) in
    le_ext_trans (Fin (whole (suc n) *ℚ height)) (Fin (count *ℚ height)) (piece_value p d) (mul_le_mul_right height high most) (S.under d some)

line_before : (slack rate d x : ℚ) → int (pos 0) <ℚ rate → d <ℚ x → slack +ℚ rate *ℚ d <ℚ slack +ℚ rate *ℚ x
line_before slack rate d x some h =
    let a = rate *ℚ d in
    let b = rate *ℚ x in
    let k = mul_lt_mul rate some h in
    with_atoms (slack ∷ a ∷ b ∷ []) (λ c. omega (arith, c.le, c.lt, c.same))

climbed : (height slack rate end d : ℚ) (p : Piece) (ps : List Piece) → int (pos 0) <ℚ height → int (pos 0) <ℚ rate → ((i : ℕ) → i < length (p ∷ ps) → IsStepAt height slack rate end (drop i (p ∷ ps)))
    → int (pos 0) ≤ℚ d → d <ℚ end → IsClimbed height slack rate d (read (p ∷ ps) d)
climbed height slack rate end d p [] high some steps low near n h =
    let S : IsStep height slack rate p end = steps 0 (omega arith) in
    subst (λ (v : Ext). Fin (whole (suc n) *ℚ height) ≤ₑ v) (sym (read_one p d))
    (one_step height S.count (slack +ℚ rate *ℚ d) p d n (le_of_lt high) S.steps low h (lt_le_trans (line_before slack rate d end some near) S.line))
climbed height slack rate end d p (q ∷ qs) high some steps low near n h = elim (le_or_lt q.x d) [
  | inl k ↦ subst (λ (v : Ext). Fin (whole (suc n) *ℚ height) ≤ₑ v) (sym (read_go p q qs d k))
      (climbed height slack rate end d q qs high some (λ i l. steps (suc i) (omega arith)) low near n h)
  | inr k ↦
      let S : IsStep height slack rate p q.x = steps 0 (omega arith) in
      subst (λ (v : Ext). Fin (whole (suc n) *ℚ height) ≤ₑ v) (sym (read_stop p q qs d k))
      (one_step height S.count (slack +ℚ rate *ℚ d) p d n (le_of_lt high) S.steps low h (lt_le_trans (line_before slack rate d q.x some k) S.line))
]

read_climbed : (height slack rate end d : ℚ) (ps : List Piece) → StartsAtZero ps → IsStair height slack rate end ps → int (pos 0) ≤ℚ d → d <ℚ end → IsClimbed height slack rate d (read ps d)
read_climbed height slack rate end d [] at0 S low near = absurd at0
read_climbed height slack rate end d (p ∷ ps) at0 S low near = climbed height slack rate end d p ps S.high S.rises S.steps low near

line_some : (slack rate d : ℚ) → int (pos 0) ≤ℚ slack → int (pos 0) <ℚ rate → int (pos 0) ≤ℚ d → int (pos 0) ≤ℚ slack +ℚ rate *ℚ d
line_some slack rate d h some low =
    let x = rate *ℚ d in
    let k : int (pos 0) ≤ℚ x = mul_nonneg (le_of_lt some) low in
    with2 slack x (λ c. omega (arith, c.le, c.lt, c.same))

-- ---- periods
pub risen_over : (a b h : ℚ) (v : Ext) → a ≤ℚ b +ℚ h → Fin b ≤ₑ v → Fin a ≤ₑ v +ₑ Fin h
risen_over a b h Inf l k = tt
risen_over a b h (Fin x) l k = with4 a b h x (λ c. omega (arith, c.le, c.lt, c.same))

-- a period later the line has one step more, and so has the curve
climbs_on : (height slack rate period t : ℚ) (v : Ext) → int (pos 0) ≤ℚ slack → int (pos 0) <ℚ height → int (pos 0) <ℚ rate → int (pos 0) ≤ℚ t → rate *ℚ period ≡ int (pos 1)
    → IsClimbed height slack rate t v → IsClimbed height slack rate (t +ℚ period) (v +ₑ Fin height)
climbs_on height slack rate period t v s high some low one k zero h =
    let b = whole 1 *ℚ height in
    risen_over b b height v (with2 b height (λ c. omega (arith, c.le, c.lt, c.same))) (k 0 (line_some slack rate t s some low))
climbs_on height slack rate period t v s high some low one k (suc n) h =
    let a = whole (suc (suc n)) *ℚ height in
    let b = whole (suc n) *ℚ height in
    let more : a ≡ b +ℚ height = one_more_times (suc n) height in
    let next = nat_next n in
    let x = rate *ℚ t in
    let y = rate *ℚ period in
    let w = rate *ℚ (t +ℚ period) in
    let split : w ≡ x +ℚ y = mul_add rate t period in
    let m = whole n in
    let m2 = whole (suc n) in
    let unit = int (pos 1) in
    let under : m ≤ℚ slack +ℚ x = with_atoms (m ∷ m2 ∷ unit ∷ slack ∷ x ∷ y ∷ w ∷ []) (λ c. omega (arith, c.le, c.lt, c.same)) in
    risen_over a b height v (with3 a b height (λ c. omega (arith, c.le, c.lt, c.same))) (k n under)

always_by : (ps : List Piece) (tail : Tail) (rank period rise height slack rate t : ℚ) → tail ≡ Periodic rank period rise → IsNormal record { pieces = ps; tail = tail } → height ≡ rise → rate *ℚ period ≡ int (pos 1)
    → IsStair height slack rate (rank +ℚ period) ps → int (pos 0) ≤ℚ t → IsClimbed height slack rate t (value_at record { pieces = ps; tail = tail } t)
unfolding value_at
always_by ps tail rank period rise height slack rate t e normal same one S low =
    let Rule : Tail → Type 0 = λ k. IsNormal record { pieces = ps; tail = k } → IsClimbed height slack rate t (value_at record { pieces = ps; tail = k } t) in
    subst Rule (sym e) (λ m.
    let from = m.raw.tail.nonneg in
    tail_lemma (IsClimbed height slack rate) (read ps) rank period rise from m.raw.tail.some (λ d some near. read_climbed height slack rate (rank +ℚ period) d ps m.raw.starts S some near)
    (λ d v past k. subst (λ x. IsClimbed height slack rate (d +ℚ period) (v +ₑ Fin x)) same (climbs_on height slack rate period d v S.some S.high S.rises (le_trans from past) one k)) t low) normal

pub always_climbed : (c : SpecCurve) (rank period rise height slack rate t : ℚ) → IsCurve c → c.tail ≡ Periodic rank period rise → RisesWith height rate period rise → IsStair height slack rate (rank +ℚ period) c.pieces → int (pos 0) ≤ℚ t
    → IsClimbed height slack rate t (value_at c t)
always_climbed c rank period rise height slack rate t C e W S low = always_by c.pieces c.tail rank period rise height slack rate t e C.normal W.high W.one S low

-- ---- all pairs
spared : (b spare a : ℚ) → spare ≡ int (pos 0) → b +ℚ spare ≤ℚ a → b ≤ℚ a
spared b spare a e h = with_atoms (b ∷ spare ∷ a ∷ []) (λ c. omega (arith, c.le, c.lt, c.same))

pub none_past_stair : (c : SpecCurve) (es : List Entering) (height spare slack rate : ℚ) (upto : ℕ) → spare ≡ int (pos 0) → FlowReads c es → int (pos 0) ≤ℚ slack → int (pos 0) <ℚ rate
    → ((d : ℚ) → int (pos 0) ≤ℚ d → IsClimbed height slack rate d (value_at c d)) → KeepsLine height spare slack rate es upto → NoneCrowded (value_at c) es upto
none_past_stair c es height spare slack rate upto none R start rises S K i j m crowded =
    let order = crowded.in_order in
    let window = R i j order crowded.entered in
    let s = (entering es i).time in
    let t = (entering es j).time in
    let low = sub_nonneg s t window.forward in
    let (n, bits, under) = K i j order m (line_some slack rate (t -ℚ s) start rises low) in
    not_both (value_at c (t -ℚ s)) (whole (bits_between i j es))
    (le_ext_trans (Fin (whole (bits_between i j es))) (Fin (whole (suc n) *ℚ height)) (value_at c (t -ℚ s)) (spared (whole (bits_between i j es)) spare (whole (suc n) *ℚ height) none bits) (S (t -ℚ s) low n under)) crowded.more

-- where nothing is looked at, nothing is seen
pub seen_none : (α : ℚ → Ext) (es : List Entering) (o : Option ℕ) (from : ℕ) → IfSome o (NoneCrowded α es) → from ≡ unwrap_or o 0 → NoneCrowded α es from
seen_none α es None from h e = let none : from ≡ 0 = e in λ i j l. absurd (omega arith)
seen_none α es (Some n) from h e = subst (NoneCrowded α es) (sym e) h
