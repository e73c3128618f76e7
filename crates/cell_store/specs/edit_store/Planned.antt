-- An edited network with what makes it of the present one, and what makes that of it again. Own choice.
use Rattle.std.specs.Prelude.{◌≡◌}
use Rattle.net_model.specs.Networks.{Net}
use Rattle.net_model.specs.Orders.{IsOrder}
use Rattle.net_edits.specs.Changed.{changed}
use Rattle.cell_rules.specs.edit_sites.Replaced.{put_back}
use Rattle.cell_store.specs.declared.edit_store.plan.Planned.{Planned}
use Rattle.cell_store.specs.edit_store.Stored.{AreLost}

-- of a network it is made by a change, and has that again where what was replaced is put back; the cells that it lacks, and its order
pub record IsMadeOf (present : Net) (p : Planned) : Type 0 where
  pub order : IsOrder p.net p.order.items
  pub change : changed p.change present ≡ p.net
  pub lost : AreLost present p.net p.gone.items
  pub back : put_back p.replaced p.net ≡ present
  pub spared : put_back p.spared p.net ≡ present
