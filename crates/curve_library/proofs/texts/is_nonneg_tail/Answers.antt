use Rattle.std.proofs.Common.{true≢false, sym, subst}
use Rattle.rational.proofs.Laws.{not_le_of_lt}
use Rattle.curve_library.specs.Listed.{IsNonnegTail}
use Rattle.curve_library.proofs.SignTests.{nonneg_out, nonneg_test}
use Rattle.curve_library.proofs.texts.is_nonneg_tail.Goals as goal

pub returns-then-is_negative : goal.returns-then-is_negative
returns-then-is_negative c =
    (λ h. absurd (true≢false (sym h)), λ h. absurd (not_le_of_lt (c.is_negative.ensures.0 c.if-is_negative.true) (subst IsNonnegTail c.in-Some.is h).0))

pub returns-else-is_negative : goal.returns-else-is_negative
returns-else-is_negative c =
    let t = c.in-Some.t in
    let rise = nonneg_test c.is_negative-in-Some.result t.rise c.is_negative-in-Some.ensures in
    let rank = nonneg_out c.is_negative.result t.rank c.is_negative.ensures c.if-is_negative.false in
    (λ h. subst IsNonnegTail (sym c.in-Some.is) (rank, rise.0 h), λ h. rise.1 (subst IsNonnegTail c.in-Some.is h).1)
