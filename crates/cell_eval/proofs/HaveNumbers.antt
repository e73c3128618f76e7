-- Numbers of cells.
use Rattle.std.proofs.Common.{◌≡◌, suc, List, [], ◌∷◌, ◌++◌, length, refl, ap, inl, inr}
use Rattle.std.specs.Prelude.{Some}
use Rattle.rational.specs.Extended.{Ext}
use Rattle.net_cells.specs.declared.cell.Cell.{Cell}
use Rattle.net_cells.specs.Meanings.{number, CellTable}
use Rattle.net_cells.specs.Means.{HaveNumbers}
use Rattle.cell_numbers.specs.TableValues.{IsNumberAt}
use Rattle.run_laws.proofs.Members.{Has}

pub record HaveMore (at : CellTable) (cs : List Cell) (c : Cell) (xs : List Ext) : Type 0 where
  pub front : List Ext
  pub last : Ext
  pub is : xs ≡ front ++ last ∷ []
  pub are : HaveNumbers at cs front
  pub at_last : at c ≡ Some (number last)

pub have_more : (at : CellTable) (cs : List Cell) (c : Cell) (xs : List Ext)
    → HaveNumbers at (cs ++ c ∷ []) xs → HaveMore at cs c xs
have_more at [] c [] h = absurd h
have_more at [] c (x ∷ []) h = record { front = []; last = x; is = refl; are = tt; at_last = h.0 }
have_more at [] c (x ∷ y ∷ ys) h = absurd h.1
have_more at (d ∷ cs) c [] h = absurd h
have_more at (d ∷ cs) c (x ∷ xs) h =
    let rest = have_more at cs c xs h.1 in
    record {
      front = x ∷ rest.front;
      last = rest.last;
      is = ap (λ ys. x ∷ ys) rest.is;
      are = (h.0, rest.are);
      at_last = rest.at_last;
    }

pub record HaveAll (at : CellTable) (cs : List Cell) : Type 0 where
  pub numbers : List Ext
  pub are : HaveNumbers at cs numbers
  pub long : length numbers ≡ length cs

pub have_all : (at : CellTable) (cs : List Cell) → ((c : Cell) → Has cs c → IsNumberAt at c) → HaveAll at cs
have_all at [] each = record { numbers = []; are = tt; long = refl }
have_all at (c ∷ cs) each =
    let first = each c (inl refl) in
    let rest = have_all at cs (λ d h. each d (inr h)) in
    record { numbers = first.value ∷ rest.numbers; are = (first.is, rest.are); long = ap suc rest.long }

-- no cell, no number
pub have_none : (at : CellTable) (xs : List Ext) → HaveNumbers at [] xs → xs ≡ []
have_none at [] h = refl
have_none at (x ∷ xs) h = absurd h
