-- What is known of the values that a table has.
use Rattle.std.specs.Prelude.{◌≡◌, Some}
use Rattle.std.proofs.Common.{sym, ◌∙◌}
use Rattle.rational.specs.Extended.{Ext}
use Rattle.net_cells.specs.declared.cell.Cell.{Cell}
use Rattle.net_cells.specs.Meanings.{Meaning, curve, number, CellTable, IsNumberIn}
use Rattle.net_cells.specs.TableValues.{HasNumber}

pub has_number : (at : CellTable) (c : Cell) (Q : Ext → Type 0) (v : Meaning) → at c ≡ Some v → IsNumberIn Q v → HasNumber at c Q
has_number at c Q (curve f) is q = absurd q
has_number at c Q (number x) is q = record { value = x; is = is; holds = q }

pub same_number : (at : CellTable) (c : Cell) (x y : Ext) → at c ≡ Some (number x) → at c ≡ Some (number y) → x ≡ y
same_number at c x y p q = let same : Some (number x) ≡ Some (number y) = sym p ∙ q in cc
