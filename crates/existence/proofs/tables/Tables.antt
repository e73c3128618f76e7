-- Networks have tables: each call that their cells make has an answer.
use Rattle.std.specs.Prelude.{ℕ, List}
use Rattle.std.proofs.Common.{inl, inr}
use Rattle.run_laws.proofs.Members.{Has, has_contains}
use Rattle.net_model.specs.Networks.{Net}
use Rattle.net_model.specs.Accepted.{IsAccepted}
use Rattle.net_model.specs.Orders.{IsOrder}
use Rattle.net_cells.proofs.Precedes.{in_front, leaf_in_front}
use Rattle.net_cells.proofs.Tables.{answered_meets, answers_meet, closed_front}
use Rattle.net_cells.specs.CellFormulas.{formula}
use Rattle.existence.specs.tables.Tables.{FormulasAreFound}
use Rattle.existence.proofs.tables.Formulas.{formulas}
use Rattle.existence.proofs.tables.OrderedTables.{tables}
use Rattle.run_watch.specs.simulated_sizes.Laws.{AreCurves}
use Rattle.existence.specs.tables.Networks.{NetworksHaveTables, TablesOrLimits}
use Rattle.existence.proofs.tables.Sound.{front_sound}
use Rattle.existence.proofs.tables.EachKind.{calls_of}

pub formulas_found : (net : Net) (order : List ℕ) → IsAccepted net → AreCurves net → IsOrder net order → FormulasAreFound net order
formulas_found net order a H o before c after at is all =
    formulas at (formula net c)
    (calls_of net at (Has before)
    record {
      closed = λ d e h m. closed_front net order before c after d e a o is h m;
      meet = λ d h. answered_meets net at d (all d (has_contains before d h));
    }
    (front_sound net order at a H o before c after is all) a H c.kind c.a c.b (in_front net order before c after is)
    (λ d h. leaf_in_front net order before c after d a o is h))

pub tables_or_limits : TablesOrLimits
tables_or_limits net order a H o = tables net order a o (formulas_found net order a H o)

pub have_tables : NetworksHaveTables
have_tables net order a H o never = elim (tables_or_limits net order a H o) [
  | inl (at, all) ↦ (at, answers_meet net order at a o all)
  | inr (c, fault, first) ↦ absurd (never c fault first)
]
