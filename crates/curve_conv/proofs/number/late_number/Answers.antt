use Rattle.std.specs.Prelude.{◌≡◌, pos, Some, None, IfSome}
use Rattle.std.proofs.Common.{sym, subst, true≢false}
use Rattle.rational.specs.Rational.{ℚ, ◌/ℚ◌, ◌≤ℚ◌, ◌<ℚ◌, ◌*ℚ◌, int}
use Rattle.rational.specs.Ratio.{IsSmall}
use Rattle.upp_curve.specs.Curve.{SpecCurve, value_at}
use Rattle.rational.specs.Extended.{Ext}
use Rattle.upp_curve.specs.Steady.{steady, rise_over}
use Rattle.upp_limits.specs.Windows.{IsLeast}
use Rattle.element_envelope.specs.ElementRoom.{WindowTime}
use Rattle.curve_call.specs.declared.gaps.Gap.{Gap}
use Rattle.curve_call.specs.Gaps.{InWindow, IsGap}
use Rattle.curve_conv.specs.PartGaps.{PartGapStands, ArePartValues, HavePartValues}
use Rattle.curve_conv.specs.Scans.{sizes_in}
use Rattle.curve_conv.specs.SpanElements.{IsPartWindow}
use Rattle.curve_conv.proofs.LateShifts.{values_are}
use Rattle.curve_conv.proofs.LateNumbers.{Values, late_of, soon_of, late_times, some_lead, none_early, zero_time, end_some, quotient_fits, number_none, number_endless, number_gap}
use Rattle.curve_conv.proofs.number.late_number.Goals as goal

pub part_gap-requires-clause-first : goal.part_gap-requires-clause-first
part_gap-requires-clause-first c =
    let s = c.args.s.now in
    subst (WindowTime (sizes_in s.first.now s.second.now s.end) s.end) (sym c.requires.first) (late_times s.first.now s.second.now c.args.from c.args.period s.end c.requires.call).first

pub part_gap-requires-clause-second : goal.part_gap-requires-clause-second
part_gap-requires-clause-second c =
    let s = c.args.s.now in
    subst (WindowTime (sizes_in s.first.now s.second.now s.end) s.end) (sym c.requires.second) (late_times s.first.now s.second.now c.args.from c.args.period s.end c.requires.call).second

pub part_gap-requires-clause-from : goal.part_gap-requires-clause-from
part_gap-requires-clause-from c = let s = c.args.s.now in (late_times s.first.now s.second.now c.args.from c.args.period s.end c.requires.call).from_in

-- the values of both parts, and their gap
values_at : (f g : SpecCurve) (first second from end : ℚ) → first ≡ steady f → second ≡ steady g → ((t : ℚ) → InWindow from end t → HavePartValues (value_at f) (value_at g) first second t) → Values f g from end
values_at f g first second from end a b V = subst (λ y. (t : ℚ) → InWindow from end t → HavePartValues (value_at f) (value_at g) (steady f) y t) b (subst (λ x. (t : ℚ) → InWindow from end t → HavePartValues (value_at f) (value_at g) x second t) a V)

gap_at : (f g : SpecCurve) (first second from end : ℚ) (gap : Gap) → first ≡ steady f → second ≡ steady g
    → ((a b : ℚ → Ext) → ArePartValues (value_at f) (value_at g) first second from end a b → IsGap (InWindow from end) a b gap) → (V : Values f g from end) → IsGap (InWindow from end) (late_of f g from end V) (soon_of f g from end V) gap
gap_at f g first second from end gap a b G V =
    G (late_of f g from end V) (soon_of f g from end V)
    (subst (λ x. ArePartValues (value_at f) (value_at g) x second from end (late_of f g from end V) (soon_of f g from end V)) (sym a)
    (subst (λ y. ArePartValues (value_at f) (value_at g) (steady f) y from end (late_of f g from end V) (soon_of f g from end V)) (sym b) (values_are (value_at f) (value_at g) (steady f) (steady g) from end V)))

pub least_times-requires-clause-some : goal.least_times-requires-clause-some
least_times-requires-clause-some c =
    let s = c.args.s.now in
    let V = values_at s.first.now s.second.now c.args.first c.args.second c.args.from s.end c.requires.first c.requires.second c.part_gap.ensures.values in
    let G = subst (λ x. IsGap (InWindow c.args.from s.end) (late_of s.first.now s.second.now c.args.from s.end V) (soon_of s.first.now s.second.now c.args.from s.end V) x) c.in-Is.is
    (gap_at s.first.now s.second.now c.args.first c.args.second c.args.from s.end c.part_gap.result c.requires.first c.requires.second c.part_gap.ensures.gap V) in
    subst (λ y. int (pos 0) <ℚ y) (sym c.lead.ensures)
    (some_lead s.first.now s.second.now c.args.from c.args.period s.end _ (late_of s.first.now s.second.now c.args.from s.end V) (soon_of s.first.now s.second.now c.args.from s.end V) c.requires.call
    (values_are (value_at s.first.now) (value_at s.second.now) (steady s.first.now) (steady s.second.now) c.args.from s.end V) G)

pub least_times-requires-clause-fits : goal.least_times-requires-clause-fits
least_times-requires-clause-fits c =
    let s = c.args.s.now in
    let z = sizes_in s.first.now s.second.now s.end in
    let T = late_times s.first.now s.second.now c.args.from c.args.period s.end c.requires.call in
    let Q = subst (PartGapStands z) c.in-Is.is c.part_gap.ensures.sizes in
    let some = subst (λ y. int (pos 0) <ℚ y) c.lead.ensures (least_times-requires-clause-some c) in
    subst (λ y. IsSmall (c.in-Is.gap /ℚ y)) (sym c.lead.ensures)
    (quotient_fits z s.end c.in-Is.gap (rise_over s.second.now c.args.period) (rise_over s.first.now c.args.period) c.requires.call.scan.first.limited Q T.fast_rise.whole T.slow_rise.whole T.fast_rise.within T.slow_rise.within some)

pub returns-in-NoTime : goal.returns-in-NoTime
returns-in-NoTime c =
    let s = c.args.s.now in
    let V = values_at s.first.now s.second.now c.args.first c.args.second c.args.from s.end c.requires.first c.requires.second c.part_gap.ensures.values in
    let G = subst (λ x. IsGap (InWindow c.args.from s.end) (late_of s.first.now s.second.now c.args.from s.end V) (soon_of s.first.now s.second.now c.args.from s.end V) x) c.in-NoTime.is
    (gap_at s.first.now s.second.now c.args.first c.args.second c.args.from s.end c.part_gap.result c.requires.first c.requires.second c.part_gap.ensures.gap V) in
    number_none s.first.now s.second.now c.args.from c.args.period s.end c.requires.call V G

pub returns-in-Never : goal.returns-in-Never
returns-in-Never c =
    let s = c.args.s.now in
    let V = values_at s.first.now s.second.now c.args.first c.args.second c.args.from s.end c.requires.first c.requires.second c.part_gap.ensures.values in
    let G = subst (λ x. IsGap (InWindow c.args.from s.end) (late_of s.first.now s.second.now c.args.from s.end V) (soon_of s.first.now s.second.now c.args.from s.end V) x) c.in-Never.is
    (gap_at s.first.now s.second.now c.args.first c.args.second c.args.from s.end c.part_gap.result c.requires.first c.requires.second c.part_gap.ensures.gap V) in
    number_endless s.first.now s.second.now c.args.from c.args.period s.end c.requires.call V G

pub returns : goal.returns
returns c =
    let s = c.args.s.now in
    let V = values_at s.first.now s.second.now c.args.first c.args.second c.args.from s.end c.requires.first c.requires.second c.part_gap.ensures.values in
    let G = subst (λ x. IsGap (InWindow c.args.from s.end) (late_of s.first.now s.second.now c.args.from s.end V) (soon_of s.first.now s.second.now c.args.from s.end V) x) c.in-Is.is
    (gap_at s.first.now s.second.now c.args.first c.args.second c.args.from s.end c.part_gap.result c.requires.first c.requires.second c.part_gap.ensures.gap V) in
    number_gap s.first.now s.second.now c.args.from c.args.period s.end c.in-Is.gap c.least_times.result c.requires.call V G
    (subst (λ y. IsLeast (λ k. c.in-Is.gap ≤ℚ int (pos k) *ℚ y) c.least_times.result) c.lead.ensures c.least_times.ensures)

pub returns-then-not-is_less : goal.returns-then-not-is_less
returns-then-not-is_less c =
    none_early c.args.s.now.first.now c.args.s.now.second.now c.args.from c.args.period
    (λ h. true≢false (sym (c.if-not-is_less.ensures.less.1 (subst (λ y. y <ℚ c.args.first) (sym c.zero-zero.ensures) (subst (λ x. int (pos 0) <ℚ x) (sym c.requires.first) h)))))

-- ---- both parts in memory
pub made_part-made_late-requires-clause-from : goal.made_part-made_late-requires-clause-from
made_part-made_late-requires-clause-from c =
    let s = c.args.s.now in
    subst (WindowTime (sizes_in s.first.now s.second.now s.end) s.end) (sym c.requires.first) (late_times s.first.now s.second.now c.args.from c.args.period s.end c.requires.call).first

pub made_part-made_late-requires-clause-low : goal.made_part-made_late-requires-clause-low
made_part-made_late-requires-clause-low c =
    let s = c.args.s.now in
    subst (WindowTime (sizes_in s.first.now s.second.now s.end) s.end) (sym c.zero-zero.ensures) (zero_time s.first.now s.second.now c.args.from c.args.period s.end c.requires.call)

pub made_part-made_late-requires-clause-some : goal.made_part-made_late-requires-clause-some
made_part-made_late-requires-clause-some c = let s = c.args.s.now in end_some s.first.now s.second.now c.args.from c.args.period s.end c.requires.call

pub made_part-made_soon-requires-clause-from : goal.made_part-made_soon-requires-clause-from
made_part-made_soon-requires-clause-from c =
    let s = c.args.s.now in
    subst (WindowTime (sizes_in s.first.now s.second.now s.end) s.end) (sym c.zero-zero.ensures) (zero_time s.first.now s.second.now c.args.from c.args.period s.end c.requires.call)

pub made_part-made_soon-requires-clause-until : goal.made_part-made_soon-requires-clause-until
made_part-made_soon-requires-clause-until c =
    let s = c.args.s.now in
    subst (WindowTime (sizes_in s.first.now s.second.now s.end) s.end) (sym c.requires.first) (late_times s.first.now s.second.now c.args.from c.args.period s.end c.requires.call).first

pub made_part-made_soon-requires-clause-low : goal.made_part-made_soon-requires-clause-low
made_part-made_soon-requires-clause-low c =
    let s = c.args.s.now in
    subst (WindowTime (sizes_in s.first.now s.second.now s.end) s.end) (sym c.requires.second) (late_times s.first.now s.second.now c.args.from c.args.period s.end c.requires.call).second

pub made_part-made_soon-requires-clause-some : goal.made_part-made_soon-requires-clause-some
made_part-made_soon-requires-clause-some c = let s = c.args.s.now in end_some s.first.now s.second.now c.args.from c.args.period s.end c.requires.call

pub part_gap-requires-clause-late : goal.part_gap-requires-clause-late
part_gap-requires-clause-late c =
    let s = c.args.s.now in
    let z = sizes_in s.first.now s.second.now s.end in
    subst (λ y. IfSome c.made_part-made_late.result (λ v. IsPartWindow z s.end (value_at s.first.now) (value_at s.second.now) c.args.first None y v.items)) c.zero-zero.ensures c.made_part-made_late.ensures

pub part_gap-requires-clause-soon : goal.part_gap-requires-clause-soon
part_gap-requires-clause-soon c =
    let s = c.args.s.now in
    let z = sizes_in s.first.now s.second.now s.end in
    subst (λ y. IfSome c.made_part-made_soon.result (λ v. IsPartWindow z s.end (value_at s.first.now) (value_at s.second.now) y (Some c.args.first) c.args.second v.items)) c.zero-zero.ensures
    c.made_part-made_soon.ensures
