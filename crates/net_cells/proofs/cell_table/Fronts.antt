-- The cells before one, where they are answered by a table: one more.
use Rattle.std.proofs.Common.{◌≡◌, ℕ, ◌<◌, ◌+◌, List, [], ◌∷◌, ◌++◌, length, get_or, take, drop, sym, ap, ◌∙◌, subst, inl, inr}
use Rattle.std.proofs.lemmas.List.{take-append-drop, drop_more}
use Rattle.std.specs.Prelude.{◌≢◌, Some, Ok}
use Rattle.net_model.specs.Networks.{Net}
use Rattle.net_model.specs.Accepted.{IsAccepted}
use Rattle.net_model.specs.Orders.{IsOrder}
use Rattle.net_cells.specs.declared.cell.Cell.{Cell}
use Rattle.net_cells.specs.declared.cell.Kind.TheVariants.{In}
use Rattle.net_cells.specs.Order.{evaluation_order}
use Rattle.net_cells.specs.CellFormulas.{formula}
use Rattle.net_cells.specs.Meanings.{Meaning, CellTable}
use Rattle.net_cells.specs.FirstOver.{IsAnswered, AnswersAll}
use Rattle.net_cells.proofs.Lists.{Has, Apart, apart_middle, contains_has, has_contains, has_either}
use Rattle.net_cells.proofs.SameLeaves.{AgreeOn, answers_same}
use Rattle.net_cells.proofs.Members.{apart_cells}
use Rattle.net_cells.proofs.Precedes.{leaf_in_front}
use Rattle.net_cells.proofs.Tables.{closed_front}
use Rattle.net_cells.specs.cell_table.Gives.{Gives}
use Rattle.net_cells.proofs.cell_table.GivesAnswers.{gives_ok}

-- any cell, for a place past the last
abbrev pub no_cell : Cell
no_cell = record { kind = In; a = 0; b = 0 }

-- the element at a place, with those before and after it
abbrev pub cell_at : List Cell → ℕ → Cell
cell_at cells i = get_or cells i no_cell

pub at_place : (cells : List Cell) (i : ℕ) → i < length cells
    → cells ≡ take i cells ++ cell_at cells i ∷ drop (i + 1) cells
at_place cells i h =
    sym (take-append-drop i cells) ∙ ap (λ (xs : List Cell). take i cells ++ xs) (drop_more cells i no_cell h)

-- ---- a front of the order
-- one more cell: a table that has its value, and else is as before
pub grown : (net : Net) (order : List ℕ) (at more : CellTable) (front : List Cell) (c : Cell) (back : List Cell)
    (v : Meaning) → IsAccepted net → IsOrder net order → evaluation_order net order ≡ front ++ c ∷ back
    → AnswersAll net at front
    → Gives at (formula net c) (Ok v) → more c ≡ Some v → ((d : Cell) → d ≢ c → more d ≡ at d)
    → AnswersAll net more (front ++ c ∷ [])
grown net order at more front c back v a o is all gives put others d m =
    elim (has_either front (c ∷ []) d (contains_has (front ++ c ∷ []) d m)) [ inl l ↦ old d l | inr r ↦ new d r ]
  where
    away : ¬ (Has front c)
    away = apart_middle front c back (subst (λ (cs : List Cell). Apart cs) is (apart_cells net order o))

    same : AgreeOn front at more
    same e h = sym (others e (λ k. away (subst (λ (x : Cell). Has front x) k h)))

    old : (e : Cell) → Has front e → IsAnswered net more e
    old e h =
        let was = all e (has_contains front e h) in record {
          value = was.value;
          is = sym (same e h) ∙ was.is;
          answers = answers_same at more (formula net e) (Ok was.value)
              (λ x k. same x (closed_front net order front c back e x a o is h k)) was.answers;
        }

    here : IsAnswered net more c
    here = record {
      value = v;
      is = put;
      answers = answers_same at more (formula net c) (Ok v)
          (λ x k. same x (leaf_in_front net order front c back x a o is k)) (gives_ok at (formula net c) v gives);
    }

    new : (e : Cell) → Has (c ∷ []) e → IsAnswered net more e
    new e (inl k) = subst (λ (x : Cell). IsAnswered net more x) k here
    new e (inr k) = absurd k
