-- What a flow keeps from one server of its path to the next.
use Rattle.std.specs.Prelude.{Some, ◌≡◌, ◌≢◌, ℕ}
use Rattle.rational.specs.Rational.{ℚ, ◌-ℚ◌, ◌≤ℚ◌}
use Rattle.rational.specs.Extended.{Ext, ◌≤ₑ◌}
use Rattle.rational.specs.declared.Extended.TheVariants.{Fin}
use Rattle.run_laws.specs.Runs.{SpecRun}
use Rattle.run_laws.specs.Cards.{of_flow}
use Rattle.run_laws.specs.Counts.{arrived, departed, departed_in}
use Rattle.run_laws.specs.Premises.{KeepsArrivals}
use Rattle.run_laws.specs.Routes.{Routes, route_of, link_at, first_server, server_after}
use Rattle.run_laws.specs.Views.{view}
use Rattle.run_laws.specs.Lawful.{IsLawful}

-- for flow i, server b comes after server a, and after no other, and is not the first
pub record IsLink (net : Routes) (i a b : ℕ) : Type 0 where
  pub next : server_after a (route_of net i).hops ≡ Some b
  pub not_first : first_server (route_of net i).hops ≢ b
  pub only : (c : ℕ) → server_after c (route_of net i).hops ≡ Some b → c ≡ a

-- what arrives of a flow before t has left the server before, a link's time ago
abbrev pub LinkCarries : Type 0
LinkCarries = (net : Routes) (run : SpecRun) (flow a b : ℕ) (t : ℚ) →
    IsLawful net run → IsLink net flow a b → t ≤ℚ run.end →
    arrived (of_flow flow) (view net run b) t ≡ departed (of_flow flow) (view net run a) (t -ℚ link_at net a)

-- a flow keeps at the next server of its path the curve with which it leaves this one
abbrev pub NextKeeps : Type 0
NextKeeps = (net : Routes) (run : SpecRun) (flow a b : ℕ) (out : ℚ → Ext) → IsLawful net run → IsLink net flow a b →
    ((s t : ℚ) → s ≤ℚ t → Fin (departed_in (of_flow flow) (view net run a) s t) ≤ₑ out (t -ℚ s)) →
    KeepsArrivals (of_flow flow) out (view net run b)
