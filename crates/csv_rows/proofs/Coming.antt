-- The rows that are yet to come, as a list.
use Rattle.std.proofs.Common.{◌≡◌, ◌≤◌, ◌<◌, ◌-◌, ◌++◌, ℕ, zero, suc, Bool, true, false, Bor, List, [], ◌∷◌, map, length, Option, Some, None, refl, sym, ap, subst, cond, ◌∙◌, arith, inl, inr, append_assoc}
use Rattle.std.specs.Prelude.{◌==◌, ◌||◌}
use Rattle.std.proofs.lemmas.List.{map-append}
use Rattle.csv.specs.Machine.{Read, ends_at_end, field_after, fields_after, in_field, is_end, next_record, start_field, start_record, step}
use Rattle.csv.specs.Reading.{default_config, source_of, strip_bom}
use Rattle.csv.specs.Records.{trimmed}
use Rattle.csv.specs.declared.parser.State.{State}
use Rattle.csv.specs.declared.parser.State.TheVariants as st
use Rattle.csv_rows.specs.declared.rows.TableRow.{TableRow}
use Rattle.csv_rows.specs.declared.reading.TableRows.{TableRows}
use Rattle.csv_rows.specs.Places.{IsBetween}
use Rattle.csv_rows.specs.Coming.{Stands, all_of, ends_of, line_in, rows_from, rows_next}
use Rattle.csv_rows.specs.Rows.{AreLinedRowsOf, AreNextOf, LinedRow, Row, is_blank, line_ends, lined_of, used}

-- ---- a record ends between two rows
field_ends : (c : ℕ) → is_end (in_field default_config c).1 ≡ true → IsBetween (in_field default_config c).0
field_ends c h = by (c == 44) (c == 13) (c == 10) refl refl refl h
  where
    by : (d r f : Bool) → (c == 44) ≡ d → (c == 13) ≡ r → (c == 10) ≡ f → is_end (in_field default_config c).1 ≡ true → IsBetween (in_field default_config c).0
    by true r f d_is r_is f_is h = cc (rw d_is at h)
    by false true f d_is r_is f_is h = rw (d_is, r_is) (inr refl)
    by false false true d_is r_is f_is h = rw (d_is, r_is, f_is) (inl refl)
    by false false false d_is r_is f_is h = cc (rw (d_is, r_is, f_is) at h)

first_ends : (c : ℕ) → is_end (start_field default_config c).1 ≡ true → IsBetween (start_field default_config c).0
first_ends c h = by (c == 34) refl h (field_ends c)
  where
    by : (q : Bool) → (c == 34) ≡ q → is_end (start_field default_config c).1 ≡ true
        → (is_end (in_field default_config c).1 ≡ true → IsBetween (in_field default_config c).0) → IsBetween (start_field default_config c).0
    by true q_is h more = cc (rw q_is at h)
    by false q_is h more = rw q_is (more (rw q_is at h))

start_ends : (c : ℕ) → is_end (start_record default_config c).1 ≡ true → IsBetween (start_record default_config c).0
start_ends c h = by ((c == 13) || (c == 10)) refl h (first_ends c)
  where
    by : (e : Bool) → ((c == 13) || (c == 10)) ≡ e → is_end (start_record default_config c).1 ≡ true
        → (is_end (start_field default_config c).1 ≡ true → IsBetween (start_field default_config c).0) → IsBetween (start_record default_config c).0
    by true e_is h more = cc (rw e_is at h)
    by false e_is h more = let m = rw e_is at more in rw e_is (m (rw e_is at h))

step_ends : (s : State) (c : ℕ) → is_end (step default_config s c).1 ≡ true → IsBetween (step default_config s c).0
step_ends st.StartRecord c h = start_ends c h
step_ends st.StartField c h = first_ends c h
step_ends st.InField c h = field_ends c h
step_ends st.InQuoted c h = by (c == 34) refl h
  where
    by : (q : Bool) → (c == 34) ≡ q → is_end (step default_config st.InQuoted c).1 ≡ true → IsBetween (step default_config st.InQuoted c).0
    by true q_is h = cc (rw q_is at h)
    by false q_is h = cc (rw q_is at h)
step_ends st.InEscape c h = cc h
step_ends st.AfterQuote c h = by (c == 34) refl h (field_ends c)
  where
    by : (q : Bool) → (c == 34) ≡ q → is_end (step default_config st.AfterQuote c).1 ≡ true
        → (is_end (in_field default_config c).1 ≡ true → IsBetween (in_field default_config c).0) → IsBetween (step default_config st.AfterQuote c).0
    by true q_is h more = cc (rw q_is at h)
    by false q_is h more = rw q_is (more (rw q_is at h))
step_ends st.InComment c h = by (c == 10) refl h
  where
    by : (f : Bool) → (c == 10) ≡ f → is_end (step default_config st.InComment c).1 ≡ true → IsBetween (step default_config st.InComment c).0
    by true f_is h = cc (rw f_is at h)
    by false f_is h = cc (rw f_is at h)
step_ends st.AfterCr c h = by (c == 10) refl h (start_ends c)
  where
    by : (f : Bool) → (c == 10) ≡ f → is_end (step default_config st.AfterCr c).1 ≡ true
        → (is_end (start_record default_config c).1 ≡ true → IsBetween (start_record default_config c).0) → IsBetween (step default_config st.AfterCr c).0
    by true f_is h more = cc (rw f_is at h)
    by false f_is h more = let m = rw f_is at more in rw f_is (m (rw f_is at h))

-- ---- a record leaves less of a text
abbrev IsPast : ℕ → Read → Type 0
IsPast most read = IsBetween read.1 × (length read.2 ≤ most)

past : (most : ℕ) (one read : Read) → Some one ≡ Some read → IsPast most one → IsPast most read
past most one read e h = let same : one ≡ read = cc e in subst (IsPast most) same h

reads_past : (s : State) (fields : List (List ℕ)) (field text : List ℕ) (read : Read)
    → next_record default_config s fields field text ≡ Some read → IsPast (length text - 1) read
unfolding next_record
reads_past s fields field [] read h = by (ends_at_end s) h
  where
    by : (b : Bool) → cond b (Some (fields ++ (field ∷ []), st.StartRecord, [])) None ≡ Some read → IsPast 0 read
    by true h = past 0 (fields ++ (field ∷ []), st.StartRecord, []) read h (inl refl, omega arith)
    by false h = cc h
reads_past s fields field (c ∷ text) read h =
    by (is_end (step default_config s c).1) refl h
    (reads_past (step default_config s c).0 (fields_after (step default_config s c).1 fields field) (field_after (step default_config s c).1 c field) text read)
  where
    by : (b : Bool) → is_end (step default_config s c).1 ≡ b
        → cond b (Some (fields_after (step default_config s c).1 fields field, (step default_config s c).0, text))
        (next_record default_config (step default_config s c).0 (fields_after (step default_config s c).1 fields field) (field_after (step default_config s c).1 c field) text)
        ≡ Some read
        → (next_record default_config (step default_config s c).0 (fields_after (step default_config s c).1 fields field) (field_after (step default_config s c).1 c field) text
        ≡ Some read → IsPast (length text - 1) read)
        → IsPast (length (c ∷ text) - 1) read
    by true is h more =
        past (length (c ∷ text) - 1) (fields_after (step default_config s c).1 fields field, (step default_config s c).0, text) read h
        (step_ends s c is, omega arith)
    by false is h more = let r = more h in (r.0, omega (arith, r.1))

none_at_end : {A : Type 0} (s : State) (read : Read) → IsBetween s → next_record default_config s [] [] [] ≡ Some read → A
unfolding next_record
none_at_end s read (inl e) h = cc (rw e at h)
none_at_end s read (inr e) h = cc (rw e at h)

-- a reader between two rows leaves less of a text
pub less_left : (s : State) (left : List ℕ) (read : Read) → IsBetween s → next_record default_config s [] [] left ≡ Some read
    → IsBetween read.1 × (length read.2 < length left)
less_left s [] read between h = none_at_end s read between h
less_left s (c ∷ left) read between h = let r = reads_past s [] [] (c ∷ left) read h in (r.0, omega (arith, r.1))

-- ---- rows from a state on
pub from_same : (ends n m : ℕ) (s : State) (left : List ℕ) → IsBetween s → length left < n → length left < m
    → rows_from ends n s left ≡ rows_from ends m s left
unfolding rows_from
from_same ends zero m s left between a b = absurd (omega (arith, a))
from_same ends (suc n) zero s left between a b = absurd (omega (arith, b))
from_same ends (suc n) (suc m) s left between a b = by (next_record default_config s [] [] left) refl (from_same ends n m)
  where
    by : (o : Option Read) → next_record default_config s [] [] left ≡ o
        → ((t : State) (l : List ℕ) → IsBetween t → length l < n → length l < m → rows_from ends n t l ≡ rows_from ends m t l)
        → rows_next (line_in ends left) (rows_from ends n) o ≡ rows_next (line_in ends left) (rows_from ends m) o
    by None is more = refl
    by (Some read) is more =
        let less = less_left s left read between is in
        ap (λ (rows : List LinedRow). (line_in ends left, read.0) ∷ rows)
        (more read.1 read.2 less.0 (omega (arith, less.1, a)) (omega (arith, less.1, b)))

pub from_are : (text : List ℕ) (n : ℕ) (s : State) (left : List ℕ) → IsBetween s → length left < n
    → (state : State) × (rest : List ℕ) × AreNextOf text s left (rows_from (line_ends text) n s left) state rest
    × (next_record default_config state [] [] rest ≡ None)
unfolding AreNextOf rows_from
from_are text zero s left between a = absurd (omega (arith, a))
from_are text (suc n) s left between a = by (next_record default_config s [] [] left) refl (from_are text n)
  where
    by : (o : Option Read) → next_record default_config s [] [] left ≡ o
        → ((t : State) (l : List ℕ) → IsBetween t → length l < n
        → (state : State) × (rest : List ℕ) × AreNextOf text t l (rows_from (line_ends text) n t l) state rest
        × (next_record default_config state [] [] rest ≡ None))
        → (state : State) × (rest : List ℕ) × AreNextOf text s left (rows_next (line_in (line_ends text) left) (rows_from (line_ends text) n) o) state rest
        × (next_record default_config state [] [] rest ≡ None)
    by None is more = (s, left, (refl, refl), is)
    by (Some read) is more =
        let less = less_left s left read between is in
        let r = more read.1 read.2 less.0 (omega (arith, less.1, a)) in
        (r.0, r.1, (read, is, refl, r.2), r.3)

-- all rows of a text
pub rows_are : (text : List ℕ) → AreLinedRowsOf text (used (rows_from (line_ends (strip_bom text)) (suc (length (strip_bom text))) st.StartRecord (strip_bom text)))
rows_are text =
    let bytes = strip_bom text in
    let r = from_are bytes (suc (length bytes)) st.StartRecord bytes (inl refl) (omega arith) in
    record {
      records = rows_from (line_ends bytes) (suc (length bytes)) st.StartRecord bytes;
      state = r.0;
      rest = r.1;
      are = r.2;
      last = r.3;
      all = refl;
    }

-- ---- of a reader
-- by what is left of the text
pub all_is : (rows : TableRows) (ends : ℕ) (left : List ℕ) → ends_of rows ≡ ends → source_of (λ (s : Bor (List ℕ)). Some s.now) rows.reader ≡ Some left
    → all_of rows ≡ rows_from ends (suc (length left)) rows.reader.state left
unfolding all_of
all_is rows ends left ends_is source = rw (ends_is, source) refl

pub none_left : (rows : TableRows) (stands : Stands rows) → next_record default_config rows.reader.state [] [] stands.left ≡ None → all_of rows ≡ []
unfolding rows_from
none_left rows stands none =
    all_is rows (ends_of rows) stands.left refl stands.source ∙ rw none refl

-- one more is read
pub one_left : (old new : TableRows) (stands : Stands old) (left : List ℕ) (read : Read) (line : ℕ) (cells : Row)
    → next_record default_config old.reader.state [] [] stands.left ≡ Some read → ends_of new ≡ ends_of old
    → source_of (λ (s : Bor (List ℕ)). Some s.now) new.reader ≡ Some left → cells ≡ read.0 → read.1 ≡ new.reader.state → read.2 ≡ left
    → line ≡ line_in (ends_of old) stands.left
    → all_of old ≡ (line, cells) ∷ all_of new
unfolding rows_from
one_left old new stands left read line cells next ends source has after leaves on =
    let less = less_left old.reader.state stands.left read stands.between next in
    let n = length stands.left in
    let same : length read.2 ≡ length left = ap length leaves in
    let rest : rows_from (ends_of old) n read.1 read.2 ≡ all_of new =
    from_same (ends_of old) n (suc (length left)) read.1 read.2 less.0 less.1 (omega (arith, same))
    ∙ (ap (λ (t : State). rows_from (ends_of old) (suc (length left)) t read.2) after
    ∙ (ap (λ (l : List ℕ). rows_from (ends_of old) (suc (length left)) new.reader.state l) leaves
    ∙ sym (all_is new (ends_of old) left ends source))) in
    all_is old (ends_of old) stands.left refl stands.source
    ∙ (rw next refl ∙ (λ i. ((sym on) i, (sym has) i) ∷ rest i))

-- ---- rows of which some cell is not empty
pub used_some : (all more : List LinedRow) (line : ℕ) (cells tight : Row) → all ≡ (line, cells) ∷ more → tight ≡ map trimmed cells → is_blank tight ≡ false
    → used all ≡ (line, tight) ∷ used more
unfolding used
used_some all more line cells tight is on some =
    let full : is_blank (map trimmed cells) ≡ false = ap is_blank (sym on) ∙ some in
    ap used is ∙ rw full (ap (λ (row : Row). (line, row) ∷ used more) (sym on))

pub used_none : (all more : List LinedRow) (line : ℕ) (cells tight : Row) → all ≡ (line, cells) ∷ more → tight ≡ map trimmed cells → is_blank tight ≡ true
    → used all ≡ used more
unfolding used
used_none all more line cells tight is on none =
    let blank : is_blank (map trimmed cells) ≡ true = ap is_blank (sym on) ∙ none in
    ap used is ∙ rw blank refl

-- the next one is put behind those before it
pub pushed : (before : List TableRow) (row : TableRow) (old new : List LinedRow) → old ≡ lined_of row ∷ new
    → map lined_of (before ++ row ∷ []) ++ new ≡ map lined_of before ++ old
pushed before row old new is =
    ap (λ (rows : List LinedRow). rows ++ new) (map-append lined_of before (row ∷ []))
    ∙ (append_assoc (map lined_of before) (lined_of row ∷ []) new
    ∙ ap (λ (rows : List LinedRow). map lined_of before ++ rows) (sym is))
