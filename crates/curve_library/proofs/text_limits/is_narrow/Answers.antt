use Rattle.std.proofs.Common.{sym, true≢false}
use Rattle.curve_library.proofs.LimitParts.{no_window, window_end}
use Rattle.curve_library.proofs.text_limits.is_narrow.Goals as goal

pub is_narrow_to-requires-clause-end : goal.is_narrow_to-requires-clause-end
is_narrow_to-requires-clause-end c =
    window_end c.args.texts.now c.args.tail.now c.index-texts-texts.result c.in-Some.end c.requires c.index-texts-texts.is c.in-Some.ensures.value

pub returns-in-None : goal.returns-in-None
returns-in-None c = (
  λ t. absurd (true≢false (sym t)),
  λ small. absurd (no_window c.args.texts.now c.args.tail.now c.index-texts-texts.result c.requires c.index-texts-texts.is (λ t k. true≢false (sym (c.in-None.ensures.fits t k))) small),
)
