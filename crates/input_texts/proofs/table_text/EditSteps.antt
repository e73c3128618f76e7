-- One row of an edit list after another.
use Rattle.std.proofs.Common.{◌≡◌, ℕ, suc, ◌+◌, ◌<◌, ◌≤◌, List, [], ◌∷◌, ◌++◌, length, take, drop, get_or, map, Ok, sym, ap, ap₂, subst, arith, ◌∙◌, length-take, take_all}
use Rattle.std.proofs.lemmas.List.{map_push}
use Rattle.input_texts.specs.declared.table_text.fault.TableKind.{TableKind}
use Rattle.input_texts.specs.table_text.Rows.{Row, Read, rows_of}
use Rattle.input_texts.specs.table_text.EditRows.{EditText, edit_row}
use Rattle.input_texts.specs.table_text.EditLists.{AreEditsOf, IsEditWrong, IsFirstEditFault}
use Rattle.input_texts.specs.table_text.EditAnswers.{AddsEdit}
use Rattle.input_texts.proofs.table_text.RowPlaces.{so_many, one_more, parted}

pub edits_more : (rows : List Row) (k : ℕ) (row : Row) (es es2 : List EditText) → k < length rows → get_or rows k row ≡ row → AreEditsOf (take k rows) es → AddsEdit k row es es2 → AreEditsOf (take (k + 1) rows) es2
edits_more rows k row es es2 within is so adds =
    let more = one_more rows k row within is in
    let ok : EditText → Read EditText = λ x. Ok x in
    record {
      each = ap (map edit_row) more ∙ (map_push edit_row (take k rows) row ∙ (ap₂ (λ (rs : List (Read EditText)) (r : Read EditText). rs ++ r ∷ []) so.each adds.is
          ∙ (sym (map_push ok es adds.edit) ∙ ap (map ok) (sym adds.are))));
      few = let n = length-take (k + 1) rows in let room = adds.room in omega (arith, n, room);
    }

short : (all : List Row) → length (take 1001 all) ≤ 1000 → take 1001 all ≡ all
short all h = let n = length-take 1001 all in take_all 1001 all (omega (arith, n, h))

pub edits_all : (text : List ℕ) (rows : List Row) (k : ℕ) (es : List EditText) → rows ≡ take 1001 (rows_of text) → length rows ≤ k → AreEditsOf (take k rows) es → AreEditsOf (rows_of text) es
edits_all text rows k es is past so =
    let whole : take k rows ≡ rows = take_all k rows past in
    let few : length rows ≤ 1000 = subst (λ rs. length rs ≤ 1000) whole so.few in
    let all : rows ≡ rows_of text = is ∙ short (rows_of text) (subst (λ rs. length rs ≤ 1000) is few) in
    subst (λ rs. AreEditsOf rs es) (whole ∙ all) so

pub edits_fault : (text : List ℕ) (rows : List Row) (k : ℕ) (row : Row) (es : List EditText) (kind : TableKind) (number : ℕ) → rows ≡ take 1001 (rows_of text) → k < length rows → get_or rows k row ≡ row
    → AreEditsOf (take k rows) es → IsEditWrong k row kind → number ≡ k + 1 → IsFirstEditFault text kind number
edits_fault text rows k row es kind number is within at so wrong place =
    let n = so_many rows k within in
    record {
      before = take k rows;
      row = row;
      after = drop (k + 1) rows ++ drop 1001 (rows_of text);
      rows = parted (rows_of text) rows 1001 k row is within at;
      place = let e : number ≡ suc (length (take k rows)) = omega (arith, n, place) in e;
      edits = es;
      right = so;
      wrong = subst (λ m. IsEditWrong m row kind) (sym n) wrong;
    }
