-- Cells that are gone have no values, and those of the network keep theirs.
use Rattle.std.proofs.Common.{◌≡◌, ◌≢◌, ℕ, ◌<◌, ◌+◌, List, [], ◌∷◌, ◌++◌, length, take, false, sym, ◌∙◌, subst, inl, inr}
use Rattle.std.specs.Prelude.{None, Ok, IsTrue}
use Rattle.std.proofs.lemmas.List.{take_more}
use Rattle.net_model.specs.Networks.{Net}
use Rattle.net_model.specs.Accepted.{IsAccepted}
use Rattle.net_model.specs.Orders.{IsOrder}
use Rattle.net_cells.specs.declared.cell.Cell.{Cell}
use Rattle.net_cells.specs.Cells.{has_cell}
use Rattle.net_cells.specs.Formulas.{leaves}
use Rattle.net_cells.specs.CellFormulas.{formula}
use Rattle.net_cells.specs.Meanings.{CellTable}
use Rattle.net_cells.proofs.Lists.{Has, contains_has, has_contains, has_either, has_left, has_right}
use Rattle.net_cells.proofs.SameLeaves.{answers_same}
use Rattle.net_cells.proofs.Precedes.{operands_are_cells}
use Rattle.net_cells.proofs.cell_table.Fronts.{no_cell, cell_at}
use Rattle.cell_rules.specs.cell_values.Edits.{AllAnswered, AreGone, IsCleared, SameButAt}

-- one more
module _ (gone : List Cell) (i : ℕ) (old at more : CellTable) (h : i < length gone) where
  abbrev longer : take (i + 1) gone ≡ take i gone ++ cell_at gone i ∷ []
  longer = take_more gone i no_cell h

  pub cleared_more : IsCleared (take i gone) old at → more (cell_at gone i) ≡ None
      → ((c : Cell) → at c ≡ None → more c ≡ None) → ((c : Cell) → c ≢ cell_at gone i → more c ≡ at c)
      → IsCleared (take (i + 1) gone) old more
  cleared_more was here still others = record {
    nothing = λ c m. elim (has_either (take i gone) (cell_at gone i ∷ []) c
        (subst (λ (xs : List Cell). Has xs c) longer (contains_has (take (i + 1) gone) c m))) [
          | inl l ↦ still c (was.nothing c (has_contains (take i gone) c l))
          | inr r ↦ one c r
        ];
    others = λ c out.
        let apart : c ≢ cell_at gone i = λ e. out (has_contains (take (i + 1) gone) c
        (subst (λ (xs : List Cell). Has xs c) (sym longer) (has_right (take i gone) (cell_at gone i ∷ []) c (inl (sym e))))) in
        others c apart ∙ was.others c (λ m. out (has_contains (take (i + 1) gone) c
        (subst (λ (xs : List Cell). Has xs c) (sym longer)
        (has_left (take i gone) (cell_at gone i ∷ []) c (contains_has (take i gone) c m)))));
  }
    where
      one : (c : Cell) → Has (cell_at gone i ∷ []) c → more c ≡ None
      one c (inl e) = subst (λ (x : Cell). more x ≡ None) e here
      one c (inr e) = absurd e

pub still_answered : (net : Net) (order : List ℕ) (gone : List Cell) (at more : CellTable) → IsAccepted net
    → IsOrder net order → AreGone net gone → AllAnswered net at → SameButAt gone at more → AllAnswered net more
still_answered net order gone at more a o out all same c h =
    let was = all c h in
    record {
      value = was.value;
      is = kept c h ∙ was.is;
      answers = answers_same at more (formula net c) (Ok was.value)
          (λ d k. sym (kept d (operands_are_cells net order a o c d h (has_contains (leaves (formula net c)) d k)))) was.answers;
    }
  where
    kept : (d : Cell) → IsTrue (has_cell net d) → more d ≡ at d
    kept d has = same d (λ m. let no : has_cell net d ≡ false = (out d m).0 in cc (has))
