-- A table, made cell by cell in the order: or a cell that is the first over a limit.
use Rattle.std.specs.Prelude.{◌≡◌, ◌≢◌, ◌⊎◌, ℕ, Option, Some, None, Ok, Err, List, [], ◌∷◌, ◌++◌}
use Rattle.std.proofs.Common.{refl, sym, ap, ◌∙◌, subst, inl, inr, arith, append_assoc, append-nil}
use Rattle.std.proofs.lemmas.Bool.{cases_lt}
use Rattle.upp_limits.specs.declared.op_kind.OpFault.{OpFault}
use Rattle.upp_limits.specs.declared.op_kind.OpFault.TheVariants.{NoMemory}
use Rattle.net_model.specs.Networks.{Net}
use Rattle.net_model.specs.Accepted.{IsAccepted}
use Rattle.net_model.specs.Orders.{IsOrder}
use Rattle.run_laws.proofs.Members.{Has, has_either, contains_has, has_contains}
use Rattle.net_cells.specs.declared.cell.Cell.{Cell}
use Rattle.net_cells.specs.declared.cell.Kind.{Kind}
use Rattle.net_cells.specs.Cells.{cell_of}
use Rattle.net_cells.specs.Order.{evaluation_order}
use Rattle.net_cells.specs.CellFormulas.{formula}
use Rattle.net_cells.specs.Meanings.{Meaning, CellTable}
use Rattle.net_cells.specs.Answers.{Answer, Answers}
use Rattle.net_cells.specs.FirstOver.{IsAnswered, AnswersAll}
use Rattle.net_cells.proofs.Lists.{Apart, apart_middle}
use Rattle.net_cells.proofs.Members.{apart_cells}
use Rattle.net_cells.proofs.Places.{rank, rank_one}
use Rattle.net_cells.proofs.Precedes.{leaf_in_front}
use Rattle.net_cells.proofs.SameLeaves.{answers_same}
use Rattle.net_cells.proofs.Tables.{closed_front}
use Rattle.existence.specs.tables.Tables.{TableOrLimit, FormulasAreFound, TablesExist}

-- ---- cells that are the same
same_number : (m n : ℕ) → (m ≡ n) ⊎ (m ≢ n)
same_number m n = elim (cases_lt m n) [
  | inl l ↦ inr (λ e. omega (arith, e, l))
  | inr h ↦ elim (cases_lt n m) [
    | inl l ↦ inr (λ e. omega (arith, e, l))
    | inr k ↦ inl (omega (arith, h, k))
  ]
]

cell_is : (c d : Cell) → c.kind ≡ d.kind → c.a ≡ d.a → c.b ≡ d.b → c ≡ d
cell_is c d k a b = ap (λ (x : Kind). cell_of x c.a c.b) k ∙ ap (λ (x : ℕ). cell_of d.kind x c.b) a ∙ ap (λ (x : ℕ). cell_of d.kind d.a x) b

same_cell : (c d : Cell) → (c ≡ d) ⊎ (c ≢ d)
same_cell c d = elim (same_number (rank c.kind) (rank d.kind)) [
  | inr n ↦ inr (λ e. n (ap (λ (x : Cell). rank x.kind) e))
  | inl k ↦ elim (same_number c.a d.a) [
    | inr n ↦ inr (λ e. n (ap (λ (x : Cell). x.a) e))
    | inl a ↦ elim (same_number c.b d.b) [
      | inr n ↦ inr (λ e. n (ap (λ (x : Cell). x.b) e))
      | inl b ↦ inl (cell_is c d (rank_one c.kind d.kind k) a b)
    ]
  ]
]

-- ---- a table with one more value
abbrev pick : (c d : Cell) → (c ≡ d) ⊎ (c ≢ d) → Meaning → Option Meaning → Option Meaning
pick c d (inl e) v o = Some v
pick c d (inr n) v o = o

abbrev put : CellTable → Cell → Meaning → CellTable
put at c v = λ d. pick c d (same_cell c d) v (at d)

picked : (c d : Cell) (s : (c ≡ d) ⊎ (c ≢ d)) (v : Meaning) (o : Option Meaning) → c ≡ d → pick c d s v o ≡ Some v
picked c d (inl e) v o h = refl
picked c d (inr n) v o h = absurd (n h)

passed : (c d : Cell) (s : (c ≡ d) ⊎ (c ≢ d)) (v : Meaning) (o : Option Meaning) → c ≢ d → pick c d s v o ≡ o
passed c d (inl e) v o n = absurd (n e)
passed c d (inr m) v o n = refl

put_here : (at : CellTable) (c : Cell) (v : Meaning) → put at c v c ≡ Some v
put_here at c v = picked c c (same_cell c c) v (at c) refl

put_there : (at : CellTable) (c : Cell) (v : Meaning) (d : Cell) → c ≢ d → put at c v d ≡ at d
put_there at c v d n = passed c d (same_cell c d) v (at d) n

-- ---- one more cell
grown : (net : Net) (order : List ℕ) (before : List Cell) (c : Cell) (after : List Cell) (at : CellTable) (v : Meaning) → IsAccepted net → IsOrder net order
    → evaluation_order net order ≡ before ++ c ∷ after → AnswersAll net at before → Answers at (formula net c) (Ok v) → AnswersAll net (put at c v) (before ++ c ∷ [])
grown net order before c after at v a o is all answer d h = elim (has_either before (c ∷ []) d (contains_has (before ++ c ∷ []) d h)) [
  | inl l ↦ old d l
  | inr (inl e) ↦ subst (λ (x : Cell). IsAnswered net (put at c v) x) e here
  | inr (inr bad) ↦ absurd bad
]
  where
    away : (d : Cell) → Has before d → c ≢ d
    away d l e = apart_middle before c after (subst (λ (cs : List Cell). Apart cs) is (apart_cells net order o)) (subst (λ (x : Cell). Has before x) (sym e) l)

    here : IsAnswered net (put at c v) c
    here = record {
      value = v;
      is = put_here at c v;
      answers = answers_same at (put at c v) (formula net c) (Ok v) (λ d m. sym (put_there at c v d (away d (leaf_in_front net order before c after d a o is m)))) answer;
    }

    old : (d : Cell) → Has before d → IsAnswered net (put at c v) d
    old d l =
        let was = all d (has_contains before d l) in
        record {
          value = was.value;
          is = put_there at c v d (away d l) ∙ was.is;
          answers = answers_same at (put at c v) (formula net d) (Ok was.value)
              (λ e m. sym (put_there at c v e (away e (closed_front net order before c after d e a o is l m)))) was.answers;
        }

-- ---- in the order
told_from : (P : Answer → Type 0) (r : Answer) → P r → r ≢ Err NoMemory → ((v : Meaning) × P (Ok v)) ⊎ ((fault : OpFault) × P (Err fault) × (fault ≢ NoMemory))
told_from P (Ok v) h k = inl (v, h)
told_from P (Err fault) h k = inr (fault, h, λ e. k (ap Err e))

tables_from : (net : Net) (order : List ℕ) → IsAccepted net → IsOrder net order → FormulasAreFound net order → (after before : List Cell) (at : CellTable)
    → evaluation_order net order ≡ before ++ after → AnswersAll net at before → TableOrLimit net order
tables_from net order a o found [] before at e all = inl (at, subst (λ (cs : List Cell). AnswersAll net at cs) (sym (e ∙ append-nil before)) all)
tables_from net order a o found (c ∷ after) before at e all =
    let f = found before c after at e all in
    elim (told_from (Answers at (formula net c)) f.answer f.is f.found) [
      | inl (v, h) ↦ tables_from net order a o found after (before ++ c ∷ []) (put at c v) (e ∙ sym (append_assoc before (c ∷ []) after)) (grown net order before c after at v a o e all h)
      | inr (fault, h, limit) ↦ inr (c, fault, record { before = before; after = after; is = e; table = at; answered = all; over = h; limit = limit })
    ]

pub tables : TablesExist
tables net order a o found = tables_from net order a o found (evaluation_order net order) [] (λ d. None) refl (λ c h. absurd (contains_has [] c h))
