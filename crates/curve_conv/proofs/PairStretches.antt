-- What two elements make, as it goes on from a time.
use Rattle.std.specs.Prelude.{Option, Some, None}
use Rattle.std.proofs.Common.{sym, refl, subst}
use Rattle.rational.specs.Rational.{ℚ}
use Rattle.rational.specs.Extended.{Ext, ◌<ₑ◌}
use Rattle.rational.specs.declared.Extended.TheVariants.{Fin, Inf}
use Rattle.rational.proofs.Bounds.{all_infinite}
use Rattle.upp_curve.specs.declared.affine_segment.element.Element.{Element}
use Rattle.upp_curve.specs.declared.affine_segment.element.Element.TheVariants.{Point, Open}
use Rattle.upp_curve.specs.declared.affine_segment.element.Joined.{Joined}
use Rattle.upp_curve.specs.affine_segment.Elements.{IsProper, PairSplit, pair_sum, joined_value, AreAdjoined, IsConvolved}
use Rattle.upp_normal.specs.declared.ahead.Stretch.{Stretch}
use Rattle.upp_normal.specs.Ahead.{GoesOn}
use Rattle.upp_limits.specs.Limits.{Sizes}
use Rattle.curve_conv.specs.Stretches.{SumStretch, IsAhead, IsProperPart}

-- parts one after another are proper
pub first_proper : (first : Element) (join second : Option Element) → AreAdjoined first join second → IsProper first
first_proper first None None h = h
first_proper first None (Some second) h = absurd h
first_proper first (Some join) None h = absurd h
first_proper (Point x v) (Some join) (Some second) h = absurd h
first_proper (Open from to line) (Some (Open f t l)) (Some second) h = absurd h
first_proper (Open from to line) (Some (Point x v)) (Some (Point y u)) h = absurd h
first_proper (Open from to line) (Some (Point x v)) (Some (Open y end next)) h = subst (λ e. Fin from <ₑ e) (sym h.0) h.2

pub join_proper : (first : Element) (join second : Option Element) → AreAdjoined first join second → IsProperPart join
join_proper first None None h = tt
join_proper first None (Some second) h = absurd h
join_proper first (Some join) None h = absurd h
join_proper (Point x v) (Some join) (Some second) h = absurd h
join_proper (Open from to line) (Some (Open f t l)) (Some second) h = absurd h
join_proper (Open from to line) (Some (Point x v)) (Some (Point y u)) h = absurd h
join_proper (Open from to line) (Some (Point x v)) (Some (Open y end next)) h = tt

pub second_proper : (first : Element) (join second : Option Element) → AreAdjoined first join second → IsProperPart second
second_proper first None None h = tt
second_proper first None (Some second) h = absurd h
second_proper first (Some join) None h = absurd h
second_proper (Point x v) (Some join) (Some second) h = absurd h
second_proper (Open from to line) (Some (Open f t l)) (Some second) h = absurd h
second_proper (Open from to line) (Some (Point x v)) (Some (Point y u)) h = absurd h
second_proper (Open from to line) (Some (Point x v)) (Some (Open y end next)) h = h.3

pub pair_ahead : (a b : Element) (j : Joined) (end t : ℚ) (s : Stretch) → IsConvolved a b j → GoesOn (joined_value j) t s → IsAhead (PairSplit a b) (pair_sum a b) end t s
pair_ahead a b j end t s C G = record { value = joined_value j; is = λ u late early before. C.value u; goes = G }

pub none_ahead : (I : ℚ → Type 0) (sum : (u : ℚ) → I u → Ext) (end t : ℚ) → ((u : ℚ) → ¬ (I u)) → IsAhead I sum end t record { at = Inf; line = None; next = None }
none_ahead I sum end t none = record {
  value = λ u. Inf;
  is = λ u late early before. all_infinite (sum u) (λ i. absurd (none u i));
  goes = record { at = refl; line = λ u past before. refl; next = tt };
}

pub none_stands : (z : Sizes) (t : ℚ) → SumStretch z t record { at = Inf; line = None; next = None }
none_stands z t = record { at = tt; line = tt; next = tt }
