use Rattle.std.proofs.Common.{true≢false, sym, refl, ◌∙◌}
use Rattle.curve_library.proofs.listing.service_shaped.Goals as goal

pub returns-then-not-starts_at_zero : goal.returns-then-not-starts_at_zero
returns-then-not-starts_at_zero c = record {
  service = refl;
  rises = c.requires;
  smooth = c.is_continuous.ensures.0 c.if-not-is_continuous.false;
  start = λ e. true≢false (sym (c.starts_at_zero.ensures.1 e) ∙ c.if-not-starts_at_zero.true);
}

pub returns : goal.returns
returns c = (
  refl,
  record {
    rises = c.requires;
    smooth = c.is_continuous.ensures.0 c.if-not-is_continuous.false;
    start = c.starts_at_zero.ensures.0 c.if-not-starts_at_zero.false;
  },
)
