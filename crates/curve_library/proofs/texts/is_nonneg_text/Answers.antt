use Rattle.std.proofs.Common.{true≢false, sym}
use Rattle.rational.proofs.Laws.{not_le_of_lt}
use Rattle.curve_library.proofs.SignTests.{nonneg_out, nonneg_test}
use Rattle.curve_library.proofs.texts.is_nonneg_text.Goals as goal

pub returns-then-is_negative : goal.returns-then-is_negative
returns-then-is_negative c = (λ h. absurd (true≢false (sym h)), λ h. absurd (not_le_of_lt (c.is_negative.ensures.0 c.if-is_negative.true) h.start))

pub returns-then-is_negative-2 : goal.returns-then-is_negative-2
returns-then-is_negative-2 c = (λ h. absurd (true≢false (sym h)), λ h. absurd (not_le_of_lt (c.is_negative-2.ensures.0 c.if-is_negative-2.true) h.value))

pub returns : goal.returns
returns c =
    let p = c.args.p.now in
    let after = nonneg_test c.is_negative-3.result p.after c.is_negative-3.ensures in
    let x = nonneg_out c.is_negative.result p.x c.is_negative.ensures c.if-is_negative.false in
    let at = nonneg_out c.is_negative-2.result p.at c.is_negative-2.ensures c.if-is_negative-2.false in
    (λ h. record { start = x; value = at; limit = after.0 h }, λ h. after.1 h.limit)
