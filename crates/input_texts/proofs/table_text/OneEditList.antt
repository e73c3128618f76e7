-- A text is one list of edits at most, or has one first fault.
use Rattle.std.proofs.Common.{◌≡◌, ◌≢◌, ℕ, suc, ◌==◌, not, List, [], ◌∷◌, ◌++◌, length, drop, get_or, map, ok_or, if◌then◌else◌, Ok, Err, IfErr, refl, sym, ap, ap₂, subst, subst₂, arith, inl, inr, ⊎_elim, ◌∙◌, length-append}
use Rattle.input_texts.specs.declared.table_text.fault.TableKind.{TableKind}
use Rattle.input_texts.specs.declared.table_text.fault.TableKind.TheVariants.{T1, T2, T3, T4, NoMemory}
use Rattle.input_texts.specs.table_text.Rows.{Row, Read, and_then, field, is_plain, rows_of}
use Rattle.input_texts.specs.table_text.EditRows.{EditText, edit_word, field_count, edit_with, edit_row}
use Rattle.input_texts.specs.table_text.EditLists.{AreEditsOf, IsEditWrong, IsFirstEditFault}
use Rattle.input_texts.proofs.table_text.OneTrace.{same_value, same_kind, not_both_ways, Places, same, sooner, later, places}
use Rattle.input_texts.proofs.table_text.Told.{IsOfRow, row_kind, ok_or_told, then_told, if_told, read_told}

ok : EditText → Read EditText
ok x = Ok x

-- ---- one list
head_one : (x y : EditText) (xs ys : List (Read EditText)) → ok x ∷ xs ≡ ok y ∷ ys → x ≡ y
unfolding ok
head_one x y xs ys e = same_value (ok x) x y refl (ap (λ l. get_or l 0 (ok x)) e)

lists_one : (a b : List EditText) → map ok a ≡ map ok b → a ≡ b
lists_one [] [] e = refl
lists_one [] (y ∷ b) e = let n : 0 ≡ length (map ok (y ∷ b)) = ap length e in absurd (omega (arith, n))
lists_one (x ∷ a) [] e = let n : length (map ok (x ∷ a)) ≡ 0 = ap length e in absurd (omega (arith, n))
lists_one (x ∷ a) (y ∷ b) e = ap₂ (λ z zs. z ∷ zs) (head_one x y (map ok a) (map ok b) e) (lists_one a b (ap (drop 1) e))

pub edits_one : (rows : List Row) (a b : List EditText) → AreEditsOf rows a → AreEditsOf rows b → a ≡ b
unfolding ok
edits_one rows a b h k = lists_one a b (sym h.each ∙ k.each)

-- ---- a wrong row gives no list, whatever follows
each_says : (before : List Row) (row : Row) (more : List Row) (u : List EditText) → map edit_row (before ++ row ∷ more) ≡ map ok u → (e : EditText) × (edit_row row ≡ Ok e)
unfolding ok
each_says [] row more [] e = let n : suc (length (map edit_row more)) ≡ 0 = ap length e in absurd (omega (arith, n))
each_says [] row more (x ∷ u) e = (x, ap (λ l. get_or l 0 (edit_row row)) e)
each_says (r ∷ before) row more [] e = let n : suc (length (map edit_row (before ++ row ∷ more))) ≡ 0 = ap length e in absurd (omega (arith, n))
each_says (r ∷ before) row more (x ∷ u) e = each_says before row more u (ap (drop 1) e)

pub not_edits : (before : List Row) (row : Row) (more : List Row) (u : List EditText) (kind : TableKind) → IsEditWrong (length before) row kind → AreEditsOf (before ++ row ∷ more) u → ⊥
unfolding ok
not_edits before row more u kind wrong k =
    ⊎_elim
    (λ many. let n = length-append before (row ∷ more) in let few = k.few in let over = many.1 in omega (arith, n, few, over))
    (λ bad. let e = each_says before row more u k.each in not_both_ways (edit_row row) e.0 kind e.1 bad.1)
    wrong

pub no_edit_list : (text : List ℕ) (kind : TableKind) (number : ℕ) (u : List EditText) → IsFirstEditFault text kind number → AreEditsOf (rows_of text) u → ⊥
no_edit_list text kind number u f h = not_edits f.before f.row f.after u kind f.wrong (subst (λ rs. AreEditsOf rs u) f.rows h)

-- ---- one fault
one_edit_kind : (n : ℕ) (row : Row) (kind other : TableKind) → IsEditWrong n row kind → IsEditWrong n row other → kind ≡ other
one_edit_kind n row kind other (inl a) (inl b) = a.0 ∙ sym b.0
one_edit_kind n row kind other (inl a) (inr b) = let x = a.1 in let y = b.0 in absurd (omega (arith, x, y))
one_edit_kind n row kind other (inr a) (inl b) = let x = a.0 in let y = b.1 in absurd (omega (arith, x, y))
one_edit_kind n row kind other (inr a) (inr b) = same_kind (edit_row row) kind other a.1 b.1

pub edit_fault_one : (text : List ℕ) (kind other : TableKind) (number place : ℕ) → IsFirstEditFault text kind number → IsFirstEditFault text other place → (kind ≡ other) × (number ≡ place)
edit_fault_one text kind other number place f g = go (places f.before f.row f.after g.before g.row g.after (sym f.rows ∙ g.rows))
  where
    go : Places f.before f.row g.before g.row → (kind ≡ other) × (number ≡ place)
    go (same a b) =
        let n : length f.before ≡ length g.before = ap length a in (
          one_edit_kind (length g.before) g.row kind other (subst₂ (λ k r. IsEditWrong k r kind) n b f.wrong) g.wrong,
          f.place ∙ (ap suc n ∙ sym g.place),
        )
    go (sooner m a) = absurd (not_edits f.before f.row m g.edits kind f.wrong (subst (λ rs. AreEditsOf rs g.edits) a g.right))
    go (later m a) = absurd (not_edits g.before g.row m f.edits other g.wrong (subst (λ rs. AreEditsOf rs f.edits) a f.right))

-- ---- a fault of a row
edit_told : (row : Row) → IfErr (edit_row row) IsOfRow
unfolding edit_row
edit_told row =
    if_told (not (is_plain row)) (Err T1) (and_then (ok_or (edit_word (field row 0)) T2) (λ word. if not (length row == field_count word) then Err T3 else ok_or (edit_with word row) T4)) tt
    (then_told (ok_or (edit_word (field row 0)) T2) _ (ok_or_told (edit_word (field row 0)) T2 tt)
    (λ word. if_told (not (length row == field_count word)) (Err T3) (ok_or (edit_with word row) T4) tt (ok_or_told (edit_with word row) T4 tt)))

pub edit_fault_told : (text : List ℕ) (kind : TableKind) (number : ℕ) → IsFirstEditFault text kind number → kind ≢ NoMemory
edit_fault_told text kind number f =
    ⊎_elim
    (λ many. row_kind kind (subst IsOfRow (sym many.0) tt))
    (λ bad. read_told (edit_row f.row) kind (edit_told f.row) bad.1)
    f.wrong
