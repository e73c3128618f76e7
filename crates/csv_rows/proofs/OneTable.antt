-- The rows of a text are one list.
use Rattle.std.proofs.Common.{◌≡◌, ℕ, List, [], ◌∷◌, Option, Some, None, refl, sym, ap, ap₂, subst, ◌∙◌}
use Rattle.csv.specs.Machine.{Read, next_record}
use Rattle.csv.specs.Reading.{default_config, strip_bom}
use Rattle.csv.specs.declared.parser.State.{State}
use Rattle.csv.specs.declared.parser.State.TheVariants as st
use Rattle.csv_rows.specs.Rows.{AreLinedRowsOf, AreNextOf, LinedRow, line_of, used}

-- no row is next where there is none
none_next : {A : Type 0} (text : List ℕ) (s a : State) (left rest : List ℕ) (read : Read) → s ≡ a → left ≡ rest
    → next_record default_config a [] [] rest ≡ None → next_record default_config s [] [] left ≡ Some read → A
none_next text s a left rest read same_s same_left none some = cc (ap₂ (λ (t : State) (l : List ℕ). next_record default_config t [] [] l) same_s same_left, none, some)

same_read : (o : Option Read) (p q : Read) → o ≡ Some p → o ≡ Some q → p ≡ q
same_read o p q e f = cc (e, f)

all_next : (text : List ℕ) (s a b : State) (left left_rest right_rest : List ℕ) (xs ys : List LinedRow)
    → AreNextOf text s left xs a left_rest → AreNextOf text s left ys b right_rest
    → next_record default_config a [] [] left_rest ≡ None → next_record default_config b [] [] right_rest ≡ None → xs ≡ ys
unfolding AreNextOf
all_next text s a b left left_rest right_rest [] [] f g none_f none_g = refl
all_next text s a b left left_rest right_rest [] (y ∷ ys) f g none_f none_g = none_next text s a left left_rest g.0 f.0 f.1 none_f g.1
all_next text s a b left left_rest right_rest (x ∷ xs) [] f g none_f none_g = none_next text s b left right_rest f.0 g.0 g.1 none_g f.1
all_next text s a b left left_rest right_rest (x ∷ xs) (y ∷ ys) f g none_f none_g =
    let same : g.0 ≡ f.0 = same_read (next_record default_config s [] [] left) g.0 f.0 g.1 f.1 in
    let rest = subst (λ (read : Read). AreNextOf text read.1 read.2 ys b right_rest) same g.3 in
    let row : x ≡ y = f.2 ∙ sym (g.2 ∙ ap (λ (read : Read). (line_of text left, read.0)) same) in
    ap₂ (λ (r : LinedRow) (rs : List LinedRow). r ∷ rs) row (all_next text f.0.1 a b f.0.2 left_rest right_rest xs ys f.3 rest none_f none_g)

pub one_table : (text : List ℕ) (xs ys : List LinedRow) → AreLinedRowsOf text xs → AreLinedRowsOf text ys → xs ≡ ys
one_table text xs ys f g =
    let same = all_next (strip_bom text) st.StartRecord f.state g.state (strip_bom text) f.rest g.rest f.records g.records f.are g.are f.last g.last in
    f.all ∙ (ap used same ∙ sym g.all)
