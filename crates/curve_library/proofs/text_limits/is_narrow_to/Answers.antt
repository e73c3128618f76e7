use Rattle.std.proofs.Common.{◌↔◌, ◌<◌, ◌^◌, subst, sym, true≢false, IsTrue}
use Rattle.rational.specs.Rational.{◌<ℚ◌}
use Rattle.upp_curve.specs.affine_segment.Pieces.{Each}
use Rattle.upp_limits.specs.ClosedForm.{closed_numbers, closed_spans, tail_numbers}
use Rattle.upp_limits.specs.Gathered.{Gathers}
use Rattle.upp_limits.specs.Limits.{joined, no_numbers, time_alone}
use Rattle.upp_limits.specs.Spans.{spans}
use Rattle.upp_limits.proofs.CurveStands.{starts_below_own_end}
use Rattle.upp_limits.proofs.JoinedNumbers.{joined_assoc}
use Rattle.curve_library.specs.Listed.{listed_curve, text_pieces, text_tail}
use Rattle.curve_library.proofs.LimitParts.{ends_at, gauge_is, not_gathered}
use Rattle.curve_library.proofs.ListedParts.{raw_of}
use Rattle.curve_library.proofs.text_limits.is_narrow_to.Goals as goal

pub with_texts-requires-clause-early : goal.with_texts-requires-clause-early
with_texts-requires-clause-early c =
    let ps = c.args.texts.now in
    let tail = c.args.tail.now in
    subst (λ x. Each (λ p. p.x <ℚ x) (text_pieces ps)) (sym c.requires.end) (starts_below_own_end (listed_curve ps tail) (raw_of ps tail c.requires.form))

pub with_texts-requires-clause-end : goal.with_texts-requires-clause-end
with_texts-requires-clause-end c = ends_at c.args.texts.now c.args.tail.now c.args.end c.requires.end

pub returns-in-Some : goal.returns-in-Some
returns-in-Some c =
    let ps = c.args.texts.now in
    let tail = c.args.tail.now in
    let end = c.args.end in
    let t = text_tail ps tail in
    let a = time_alone end in
    let start = c.with_tail-start.ensures a (c.with_time.ensures no_numbers c.nothing.ensures) in
    let all = c.in-Some.ensures.value (joined a (tail_numbers t)) start in
    let whole = subst (λ n. Gathers c.in-Some.g n) (joined_assoc a (tail_numbers t) (closed_spans t end (spans t (text_pieces ps)))) all in
    subst (λ g. IsTrue c.is_small.result ↔ (g < 2 ^ 120)) (gauge_is ps tail end c.requires.end)
    (c.is_small.ensures (closed_numbers end (listed_curve ps tail)) whole)

pub returns-in-None : goal.returns-in-None
returns-in-None c =
    let ps = c.args.texts.now in
    let tail = c.args.tail.now in (
      λ t. absurd (true≢false (sym t)),
      λ small. absurd (not_gathered ps tail c.args.end c.requires.form c.requires.end (λ all k. true≢false (sym (c.in-None.ensures.fits all k))) small),
    )
