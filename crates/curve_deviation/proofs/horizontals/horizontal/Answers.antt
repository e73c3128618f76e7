use Rattle.std.proofs.Common.{refl, sym, true≢false}
use Rattle.curve_deviation.proofs.KnownLags.{known_deviation}
use Rattle.curve_deviation.proofs.horizontals.horizontal.Goals as goal

pub looked_for-requires-clause-both : goal.looked_for-requires-clause-both
looked_for-requires-clause-both g c = record {
  first = c.if-is_known.ensures.finite (λ h. true≢false (sym h));
  second = c.requires.finite;
  first_rises = c.requires.rising.0;
  second_rises = c.requires.rising.1;
}

pub returns-then-is_known-clause-value : goal.returns-then-is_known-clause-value
returns-then-is_known-clause-value g c =
    known_deviation c.args.f.now c.args.g.now c.if-is_known.ensures.kept.0 c.if-is_known.ensures.kept.1 c.requires.finite c.requires.rising.1 (c.if-is_known.ensures.known.0 refl)
