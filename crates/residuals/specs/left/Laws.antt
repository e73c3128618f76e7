-- What is left to a queue serves it, and has the shape of a service curve where the server's service has it: one law for
-- all disciplines. (Le Boudec and Thiran; Bouillard, Boyer and Le Corronc.)
use Rattle.std.specs.Prelude.{◌≡◌, ℕ, List, get_or}
use Rattle.rational.specs.Rational.{ℚ}
use Rattle.rational.specs.Extended.{Ext}
use Rattle.min_plus.specs.Functions.{IsNonnegative}
use Rattle.run_laws.specs.Cards.{of_queue, before_queue, after_queue, ServerStep}
use Rattle.run_laws.specs.Servers.{Fifo, Priority, Drr, Server}
use Rattle.run_laws.specs.Allows.{IsLawfulView}
use Rattle.run_laws.specs.Premises.{KeepsArrivals, KeepsService, KeepsSizes, IsZeroAtStart}
use Rattle.run_laws.specs.Serves.{Serves}
use Rattle.plain_operators.specs.CurveCalls.{GrowsFromZero}
pub use Rattle.residual_laws.specs.PriorityLaws.{IsPriorityService}
pub use Rattle.residual_laws.specs.DrrLaws.{IsDrrService}
use Rattle.residuals.specs.left.Left.{Left, all, above, share, EachBefore, IsFit}

-- R is what is left of β
abbrev pub IsLeft : (ℚ → Ext) → Left (ℚ → Ext) → (ℚ → Ext) → Type 0
IsLeft β all R = R ≡ β
IsLeft β (above before lower) R = IsPriorityService β before lower R
IsLeft β (share quanta longest queue) R = IsDrrService β quanta longest queue R

-- the server leaves it to queue i in a view
abbrev pub IsLeftTo : ℕ → Server → List ServerStep → Left (ℚ → Ext) → Type 0
IsLeftTo i server view all = (server.discipline ≡ Fifo) × (i ≡ 0)
IsLeftTo i server view (above before lower) = ((n : ℕ) × (server.discipline ≡ Priority n))
    × KeepsArrivals (before_queue i) before view × KeepsSizes (after_queue i) lower view
IsLeftTo i server view (share quanta longest queue) = (server.discipline ≡ Drr quanta) × (queue ≡ i)
    × ((p : ℕ) → KeepsSizes (of_queue p) (get_or longest p 0) view)

abbrev pub LeftServes : Type 0
LeftServes = (server : Server) (end : ℚ) (view : List ServerStep) (i : ℕ) (l : Left (ℚ → Ext)) (β R : ℚ → Ext) →
    IsLawfulView server end view → IsLeftTo i server view l → IsFit l → KeepsService β end view → IsZeroAtStart β →
    IsLeft β l R → Serves (of_queue i) R end view

abbrev pub LeftGrows : Type 0
LeftGrows = (l : Left (ℚ → Ext)) (β R : ℚ → Ext) → GrowsFromZero β → EachBefore IsNonnegative l → IsFit l →
    IsLeft β l R → GrowsFromZero R
