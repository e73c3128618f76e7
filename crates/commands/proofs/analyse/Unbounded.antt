-- Only infinity is shown as `unbounded`.
use Rattle.std.proofs.Common.{◌≡◌, Option, Some, None, ap}
use Rattle.std.specs.Prelude.{codes}
use Rattle.rational.specs.Extended.{Ext}
use Rattle.rational.specs.declared.Extended.TheVariants.{Inf}
use Rattle.net_cells.specs.Meanings.{Meaning, curve, number}
use Rattle.report_text.specs.Shown.{shown_value}
use Rattle.report_text.proofs.TextLemmas.{only_infinity}
use Rattle.commands.specs.analyse.Laws.{UnboundedIsInfinite}

by_value : (m : Option Meaning) → shown_value m ≡ codes "unbounded" → m ≡ Some (number Inf)
by_value None same = absurd (cc)
by_value (Some (curve f)) same = absurd (cc)
by_value (Some (number x)) same = ap (λ (y : Ext). Some (number y)) (only_infinity x same)

pub unbounded_is_infinite : UnboundedIsInfinite
unbounded_is_infinite at c same = by_value (at c) same
