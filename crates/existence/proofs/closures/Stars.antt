-- The star of each part of a curve has an answer that is not want of memory.
use Rattle.std.specs.Prelude.{◌≢◌, ◌⊎◌, ℕ, ◌^◌, List, Option, Some, None, Result, Ok, Err}
use Rattle.std.proofs.Common.{◌≡◌, arith, inl, inr, refl, sym, ◌∙◌, subst}
use Rattle.std.proofs.lemmas.Bool.{cases_lt}
use Rattle.rational.specs.Rational.{ℚ, ◌+ℚ◌, ◌-ℚ◌, ◌/ℚ◌, ◌≤ℚ◌, ◌<ℚ◌}
use Rattle.rational.specs.Whole.{whole_part}
use Rattle.rational.specs.Extended.{Ext}
use Rattle.rational.specs.declared.Extended.TheVariants.{Fin, Inf}
use Rattle.rational.proofs.Laws.{le_or_lt}
use Rattle.rational.proofs.Linear.{with2}
use Rattle.rational.proofs.MinMax.{le_q_not}
use Rattle.rational.proofs.Over.{le_q_out}
use Rattle.upp_curve.specs.declared.affine_segment.line.Piece.{Piece}
use Rattle.upp_curve.specs.declared.affine_segment.element.Element.{Element}
use Rattle.upp_curve.specs.declared.affine_segment.element.Element.TheVariants.{Point, Open}
use Rattle.upp_curve.specs.declared.curve.Tail.{Tail}
use Rattle.upp_curve.specs.declared.curve.Tail.TheVariants.{Periodic, Affine, Infinite}
use Rattle.upp_curve.specs.affine_segment.Reading.{read}
use Rattle.upp_curve.specs.affine_segment.Elements.{start_of}
use Rattle.upp_curve.specs.Curve.{SpecCurve, value_at, with_tail}
use Rattle.upp_curve.specs.Curves.{IsCurve}
use Rattle.upp_curve.specs.Normal.{IsNormal, TailFits}
use Rattle.upp_curve.specs.Readable.{TailReadable}
use Rattle.upp_curve.proofs.Repeats.{repeated_first}
use Rattle.min_plus.specs.Functions.{zero_q, IsFinite, IsNonnegative}
use Rattle.upp_limits.specs.declared.op_kind.OpFault.{OpFault}
use Rattle.upp_limits.specs.declared.op_kind.OpFault.TheVariants.{TooMany, TooWide, NoMemory}
use Rattle.upp_limits.specs.declared.op_kind.OpKind.TheVariants.{Convolve}
use Rattle.curve_call.specs.Calls.{Applies}
use Rattle.outcomes.specs.Calls.{Then, goes_on, stops}
use Rattle.subadd_closure.specs.declared.part.Copies.{Copies}
use Rattle.subadd_closure.specs.CurveParts.{copies_of, part_of}
use Rattle.subadd_closure.specs.ElementCurves.{IsStretch}
use Rattle.subadd_closure.specs.Folds.{segment_number, segment_gauge, segment_tally, SegmentWithin, SegmentCause}
use Rattle.subadd_closure.specs.Folds.{CopiedAnswer, LoweredAnswer, PartAnswer}
use Rattle.subadd_closure.specs.Heavy.{IsHeavy}
use Rattle.subadd_closure.specs.Lattices.{lattice_curve, origin_curve}
use Rattle.subadd_closure.specs.SegmentLimits.{IsElementOf}
use Rattle.subadd_closure.proofs.ElementFits.{segment_late, segment_reads}
use Rattle.subadd_closure.proofs.ElementNumbers.{segment_start, segment_room}
use Rattle.subadd_closure.proofs.HeavyCalls.{heavy_is_refused}
use Rattle.subadd_closure.proofs.LatticeCurves.{lattice_is_curve, origin_is_curve}
use Rattle.subadd_closure.proofs.MeetNumbers.{stretches_meet}
use Rattle.existence.specs.curves.Answered.{HasAnswer}
use Rattle.existence.proofs.curves.Convolutions.{convolution_answered}
use Rattle.existence.proofs.curves.Lattices.{lower_answered}
use Rattle.existence.proofs.closures.Elements.{IsFoundClosure, point_found, segment_found}
use Rattle.existence.proofs.closures.SmallParts.{turns_small}

-- ---- answers
wide_found : {A : Type 0} → (let r : Result A OpFault = Err TooWide in r) ≢ Err NoMemory
wide_found h = cc

many_found : {A : Type 0} → (let r : Result A OpFault = Err TooMany in r) ≢ Err NoMemory
many_found h = cc

-- a refusal that is no want of memory stays one, whatever would have been made
pub kept_refusal : {A B : Type 0} (fault : OpFault) → (let r : Result A OpFault = Err fault in r) ≢ Err NoMemory
    → (let r : Result B OpFault = Err fault in r) ≢ Err NoMemory
kept_refusal TooMany h = many_found
kept_refusal TooWide h = wide_found
kept_refusal NoMemory h = absurd (h refl)

-- ---- copies
abbrev HasLattice : Option Copies → Type 0
HasLattice None = Unit {0}
HasLattice (Some k) = IsCurve (lattice_curve k.period k.rise)

-- a finite curve has a number where its period begins
number_there : (ps : List Piece) (rank period rise : ℚ) → IsFinite (with_tail (read ps) (Periodic rank period rise)) → zero_q ≤ℚ rank
    → zero_q <ℚ period → read ps rank ≢ Inf
number_there ps rank period rise fin low some none =
    let (v, at) = fin rank low in
    let inside : rank <ℚ rank +ℚ period = with2 rank period (λ c. omega (arith, c.le, c.lt, c.same)) in
    let same = repeated_first (read ps) rank period rise rank some inside in
    let bad : Inf ≡ Fin v = sym none ∙ sym same ∙ at in
    cc

lattice_in : (ps : List Piece) (tail : Tail) (e : Element) → IsFinite (with_tail (read ps) tail) → TailFits ps tail → TailReadable ps tail
    → HasLattice (copies_of tail e)
lattice_in ps (Periodic rank period rise) e fin fits reads =
    let small = turns_small ps rank period rise reads (number_there ps rank period rise fin fits.nonneg fits.some) in
    let lattice = lattice_is_curve period rise fits.some small.period_is small.rise_is reads.rate in
    elim (le_or_lt rank (start_of e)) [
      | inl late ↦ rw (le_q_out rank (start_of e) late) lattice
      | inr early ↦ rw (le_q_not rank (start_of e) early) tt
    ]
lattice_in ps (Affine rank) e fin fits reads = tt
lattice_in ps (Infinite rank) e fin fits reads = tt

has_lattice : (f : SpecCurve) (e : Element) → IsCurve f → IsFinite (value_at f) → HasLattice (copies_of f.tail e)
unfolding value_at
has_lattice f e F fin = lattice_in f.pieces f.tail e fin F.normal.raw.tail F.readable

-- ---- lowered by the point at 0
lowered : (c : SpecCurve) → IsCurve c → HasAnswer (LoweredAnswer c)
lowered c C = let a = lower_answered c origin_curve C origin_is_curve in record { answer = a.answer; is = a.is; found = a.found }

heavy_lowered : (c : SpecCurve) → IsNormal c → IsHeavy c → HasAnswer (LoweredAnswer c)
heavy_lowered c N heavy = record {
  answer = Err TooWide;
  is = heavy_is_refused.min c origin_curve N.raw origin_is_curve.normal.raw heavy;
  found = wide_found;
}

-- ---- with copies
abbrev TurnedAnswer : Option Copies → SpecCurve → Result SpecCurve OpFault → Type 0
TurnedAnswer o c r = Then (CopiedAnswer o c) LoweredAnswer r

single : (c : SpecCurve) → HasAnswer (LoweredAnswer c) → HasAnswer (TurnedAnswer None c)
single c a = record { answer = a.answer; is = goes_on c refl a.is; found = a.found }

copied : (k : Copies) (c : SpecCurve) (r : Result SpecCurve OpFault) → Applies Convolve c (lattice_curve k.period k.rise) r
    → r ≢ Err NoMemory → HasAnswer (TurnedAnswer (Some k) c)
copied k c (Ok x) a found =
    let l = lowered x a.made.curve in record { answer = l.answer; is = goes_on x a l.is; found = l.found }
copied k c (Err fault) a found = record { answer = Err fault; is = stops fault a refl; found = kept_refusal fault found }

turned : (o : Option Copies) (c : SpecCurve) → HasLattice o → IsNormal c → IsCurve c ⊎ IsHeavy c → HasAnswer (TurnedAnswer o c)
turned None c L N (inl C) = single c (lowered c C)
turned None c L N (inr heavy) = single c (heavy_lowered c N heavy)
turned (Some k) c L N (inl C) =
    let a = convolution_answered c (lattice_curve k.period k.rise) C L in copied k c a.answer a.is a.found
turned (Some k) c L N (inr heavy) =
    copied k c (Err TooWide) (heavy_is_refused.convolve c (lattice_curve k.period k.rise) N.raw L.normal.raw heavy) wide_found

-- ---- the operator of a segment
record SegmentRefused (f : SpecCurve) (o : Option ℕ) : Type 0 where
  fault : OpFault
  cause : SegmentCause f o fault
  found : (let r : Result SpecCurve OpFault = Err fault in r) ≢ Err NoMemory

within_or_not : (f : SpecCurve) (o : Option ℕ) → SegmentWithin f o ⊎ SegmentRefused f o
within_or_not f None = inl tt
within_or_not f (Some n) = elim (cases_lt (segment_gauge f n) (2 ^ 120)) [
  | inr wide ↦ inr record { fault = TooWide; cause = wide; found = wide_found }
  | inl narrow ↦ elim (cases_lt (2 ^ 20) (segment_tally n)) [
    | inl many ↦ inr record { fault = TooMany; cause = (narrow, many); found = many_found }
    | inr few ↦ inl (narrow, few)
  ]
]

-- how many of its stretches end before the next begins
record HasStretch (a : ℚ) (b : Ext) : Type 0 where
  many : ℕ
  stretch : IsStretch a b many
  none : b ≡ Inf → many ≡ 0

stretch_of : (a : ℚ) (b : Ext) → zero_q ≤ℚ a → ((e : ℚ) → b ≡ Fin e → a <ℚ e) → HasStretch a b
stretch_of a Inf low room = record { many = 0; stretch = stretches_meet.endless a low; none = λ e. refl }
stretch_of a (Fin e) low room =
    record { many = whole_part (a /ℚ (e -ℚ a)); stretch = stretches_meet.ended a e low (room e refl); none = λ bad. absurd (cc) }

-- ---- parts
module _ (f : SpecCurve) (F : IsCurve f) (fin : IsFinite (value_at f)) (low : IsNonnegative (value_at f)) where
  element_found : (e : Element) → IsElementOf f e → IsFoundClosure e
  element_found (Point x v) among = point_found f x v F fin low among
  element_found (Open a b l) among =
      let s = stretch_of a b (segment_start f a b l F.normal among)
      (λ e is. segment_room f a e l F.normal (subst (λ (z : Ext). IsElementOf f (Open a z l)) is among)) in
      segment_found a b l s.many record { stretch = s.stretch; late = segment_late f a b l F.normal fin low among }
      (segment_reads f a b l F among) s.none

  pub star_found : (e : Element) → IsElementOf f e → HasAnswer (PartAnswer f (part_of f.tail e))
  star_found e among = elim (within_or_not f (segment_number e)) [
    | inr over ↦ record { answer = Err over.fault; is = stops over.fault over.cause refl; found = over.found }
    | inl within ↦
        let c = element_found e among in
        let t = turned (copies_of f.tail e) c.curve (has_lattice f e F fin) c.closes.normal c.sort in
        record { answer = t.answer; is = goes_on c.curve (within, c.closes) t.is; found = t.found }
  ]

-- the star is a curve
pub star_curve : (f : SpecCurve) (o : Option Copies) (P : Result SpecCurve OpFault → Type 0) (c : SpecCurve)
    → Then P (λ d. Then (CopiedAnswer o d) LoweredAnswer) (Ok c) → IsCurve c
star_curve f o P c (goes_on x a (goes_on y b k)) = k.made.curve
star_curve f o P c (goes_on x a (stops fault b is)) = absurd (cc)
star_curve f o P c (stops fault a is) = absurd (cc)
