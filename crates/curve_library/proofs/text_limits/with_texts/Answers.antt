use Rattle.std.proofs.Common.{◌+◌, ◌≤◌, drop, length, subst, sym}
use Rattle.upp_limits.specs.ClosedForm.{closed_span}
use Rattle.upp_limits.specs.Gathered.{Gathers}
use Rattle.upp_limits.specs.Limits.{joined}
use Rattle.upp_limits.specs.Seen.{Knows}
use Rattle.upp_limits.specs.Spans.{Span, spans}
use Rattle.upp_limits.proofs.PieceLists.{all_done, every_at, one_more, span_at}
use Rattle.curve_library.specs.Listed.{text_piece, text_pieces, text_tail, TextFits}
use Rattle.curve_library.proofs.LimitParts.{as_many, early_at, itself, known_fits, span_there}
use Rattle.curve_library.proofs.text_limits.with_texts.Goals as goal

pub returns-in-None-clause-fits : goal.returns-in-None-clause-fits
returns-in-None-clause-fits c = λ all k.
    let ps = c.args.texts.now in let tail = c.args.tail.now in let t = text_tail ps tail in
    let i = c.loop-i.i in let p = c.index-texts-i.result in
    let s : Span = record { piece = text_piece p; next = c.next_start-next.result } in
    let e = span_there ps tail i p c.next_start-next.result c.after_last-after.result c.loop-i-test.true c.index-texts-i.is (c.after_last-after.ensures ps c.requires.end) c.next_start-next.ensures in
    let early = early_at c.args.end ps i p c.requires.early c.loop-i-test.true c.index-texts-i.is in
    c.in-None.ensures.fits (every_at TextFits ps i p all c.loop-i-test.true c.index-texts-i.is)
    (known_fits ps tail c.args.end s c.requires.length early (span_at (Knows t c.args.end) t (text_pieces ps) i s (spans t (drop (i + 1) (text_pieces ps))) k e))

pub loop-i-preserved : goal.loop-i-preserved
loop-i-preserved c = λ n h.
    let ps = c.args.texts.now in let tail = c.args.tail.now in let t = text_tail ps tail in
    let i = c.loop-i.i in let p = c.index-texts-i.result in
    let s : Span = record { piece = text_piece p; next = c.next_start-next.result } in
    let e = span_there ps tail i p c.next_start-next.result c.after_last-after.result c.loop-i-test.true c.index-texts-i.is (c.after_last-after.ensures ps c.requires.end) c.next_start-next.ensures in
    let early = early_at c.args.end ps i p c.requires.early c.loop-i-test.true c.index-texts-i.is in
    let self = itself ps tail c.args.end s c.requires.length c.requires.end early in
    let (m, k, w) = c.loop-i.invariant n h in (
      joined m (closed_span t c.args.end s),
      subst (λ z. Gathers c.in-Some.more (joined m z)) (sym self) (c.in-Some.ensures.value m k),
      one_more t c.args.end m _ (spans t (drop i (text_pieces ps))) (spans t (drop (i + 1) (text_pieces ps))) s e w,
    )

pub returns-clause-value : goal.returns-clause-value
returns-clause-value c = λ n h.
    let ps = c.args.texts.now in
    let t = text_tail ps c.args.tail.now in
    let (m, k, w) = c.loop-i.invariant n h in
    subst (λ x. Gathers c.loop-i.found x)
    (all_done t t c.args.end m _ (text_pieces ps) c.loop-i.i (subst (λ x. x ≤ c.loop-i.i) (sym (as_many ps)) c.loop-i-test.false) w) k
