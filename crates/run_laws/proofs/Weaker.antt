-- What a curve promises, each weaker one does.
use Rattle.std.specs.Prelude.{pos}
use Rattle.std.proofs.Common.{arith}
use Rattle.rational.specs.Rational.{ℚ, int, ◌-ℚ◌, ◌≤ℚ◌}
use Rattle.rational.specs.Extended.{Ext, ◌≤ₑ◌, ◌+ₑ◌}
use Rattle.rational.specs.declared.Extended.TheVariants.{Fin}
use Rattle.rational.proofs.ExtendedOrder.{le_ext_trans, le_ext_refl, add_le_ext}
use Rattle.rational.proofs.Laws.{le_of_lt}
use Rattle.rational.proofs.Linear.{with2}
use Rattle.run_laws.specs.Cards.{all}
use Rattle.run_laws.specs.Counts.{arrived, arrived_in, worked, departed}
use Rattle.run_laws.specs.Views.{view}
use Rattle.run_laws.specs.RunPremises.{entered_in}
use Rattle.run_laws.specs.Weaker.{IsNowhereAbove, GreaterIsKept, WeakerPremisesAreKept, LesserIsKept, LesserServes, LesserServesPackets}

window : (s t : ℚ) → s ≤ℚ t → int (pos 0) ≤ℚ t -ℚ s
window s t l = with2 s t (λ c. omega (arith, c.le, c.lt, c.same))

-- the work that is asked for is no more
less_asked : (lesser β : ℚ → Ext) (a w s t : ℚ) → IsNowhereAbove lesser β → s ≤ℚ t → (Fin a +ₑ β (t -ℚ s)) ≤ₑ Fin w
    → (Fin a +ₑ lesser (t -ℚ s)) ≤ₑ Fin w
less_asked lesser β a w s t below l up =
    le_ext_trans (Fin a +ₑ lesser (t -ℚ s)) (Fin a +ₑ β (t -ℚ s)) (Fin w)
    (add_le_ext (Fin a) (Fin a) (lesser (t -ℚ s)) (β (t -ℚ s)) (le_ext_refl (Fin a)) (below (t -ℚ s) (window s t l))) up

pub greater_kept : GreaterIsKept
greater_kept V C α greater above keeps s t l =
    le_ext_trans (Fin (arrived_in C V s t)) (α (t -ℚ s)) (greater (t -ℚ s)) (keeps s t l) (above (t -ℚ s) (window s t l))

pub lesser_kept : LesserIsKept
lesser_kept end V β lesser below service a b l in_run busy =
    less_asked lesser β (worked all V a) (worked all V b) a b below (le_of_lt l) (service a b l in_run busy)

pub lesser_serves : LesserServes
lesser_serves end V C β lesser below serves t l =
    let (s, is) = serves t l in (
      s,
      record {
        earlier = is.earlier;
        left = is.left;
        kept_up = less_asked lesser β (arrived C V s) (worked C V t) s t below is.earlier is.kept_up;
      },
    )

pub lesser_serves_packets : LesserServesPackets
lesser_serves_packets end V C γ lesser below serves t l =
    let (s, is) = serves t l in (
      s,
      record {
        earlier = is.earlier;
        kept_up = less_asked lesser γ (arrived C V s) (departed C V t) s t below is.earlier is.kept_up;
      },
    )

pub weaker_premises_kept : WeakerPremisesAreKept
weaker_premises_kept net run packet α greater β lesser above below keeps = record {
  sizes = keeps.sizes;
  arrivals = λ flow live s t l.
      le_ext_trans (Fin (entered_in flow s t run.steps)) (α flow (t -ℚ s)) (greater flow (t -ℚ s))
      (keeps.arrivals flow live s t l) (above flow live (t -ℚ s) (window s t l));
  service = λ server known. lesser_kept run.end (view net run server) (β server) (lesser server) (below server known) (keeps.service server known);
}
