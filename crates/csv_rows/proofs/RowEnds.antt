-- The line on which the next row of a text begins, and what a reader leaves of the text behind a row.
use Rattle.std.proofs.Common.{◌≡◌, ◌≢◌, ◌≤◌, ◌<◌, ◌+◌, ℕ, suc, Bool, true, false, List, [], ◌∷◌, length, drop, get_or, Some, refl, sym, ap, cond, ◌∙◌, arith, inl, inr}
use Rattle.std.specs.Prelude.{◌==◌, ◌||◌, IfSome}
use Rattle.std.proofs.lemmas.Bool.{ne_eqb}
use Rattle.std.proofs.lemmas.List.{drop_more, drop_all}
use Rattle.std.proofs.lemmas.List.Sums.{sum_by-cons}
use Rattle.csv.specs.Machine.{Read, step, is_end, next_record, fields_after, field_after}
use Rattle.csv.specs.Reading.{default_config, is_bom, strip_bom}
use Rattle.csv.specs.declared.parser.State.{State}
use Rattle.csv.specs.declared.parser.State.TheVariants as st
use Rattle.csv_rows.specs.declared.lines.Place.{Place}
use Rattle.csv_rows.specs.declared.lines.Place.TheVariants as places
use Rattle.csv_rows.specs.Places.{Goes, IsBetween, LeavesBehind, beyond, state_of}
use Rattle.csv_rows.specs.Rows.{from_row, is_line_feed, is_row_end, line_ends}

-- ---- a mark of the byte order
pub short : (text : List ℕ) → length text < 3 → text ≡ strip_bom text
unfolding strip_bom
short [] h = refl
short (x ∷ []) h = refl
short (x ∷ y ∷ []) h = refl
short (x ∷ y ∷ z ∷ text) h = absurd (omega arith)

pub marked : (text : List ℕ) → 3 ≤ length text → is_bom (get_or text 0 0) (get_or text 1 0) (get_or text 2 0) ≡ true
    → drop 3 text ≡ strip_bom text
unfolding strip_bom
marked [] h e = absurd (omega arith)
marked (x ∷ []) h e = absurd (omega arith)
marked (x ∷ y ∷ []) h e = absurd (omega arith)
marked (x ∷ y ∷ z ∷ text) h e = rw e refl

pub not_marked : (text : List ℕ) → 3 ≤ length text → is_bom (get_or text 0 0) (get_or text 1 0) (get_or text 2 0) ≡ false
    → text ≡ strip_bom text
unfolding strip_bom
not_marked [] h e = absurd (omega arith)
not_marked (x ∷ []) h e = absurd (omega arith)
not_marked (x ∷ y ∷ []) h e = absurd (omega arith)
not_marked (x ∷ y ∷ z ∷ text) h e = rw e refl

-- ---- ends of lines
pub byte_then : (text : List ℕ) (at : ℕ) → at < length text → drop at text ≡ get_or text at 0 ∷ drop (at + 1) text
byte_then text at h = drop_more text at 0 h

pub past_end : (text : List ℕ) (at : ℕ) → at < length text → is_row_end (get_or text at 0) ≡ true
    → from_row (drop at text) ≡ from_row (drop (at + 1) text)
unfolding from_row
past_end text at h e = ap from_row (byte_then text at h) ∙ rw e refl

pub row_here : (text : List ℕ) (at : ℕ) → at < length text → is_row_end (get_or text at 0) ≡ false
    → from_row (drop at text) ≡ drop at text
unfolding from_row
row_here text at h e = ap from_row (byte_then text at h) ∙ rw e (sym (byte_then text at h))

abbrev ends : ℕ → ℕ
ends byte = cond (is_line_feed byte) 1 0

pub one_more : (text : List ℕ) (at : ℕ) → at < length text → (get_or text at 0 == 10) ≡ true
    → line_ends (drop at text) ≡ line_ends (drop (at + 1) text) + 1
one_more text at h e =
    let cons = sum_by-cons ends (get_or text at 0) (drop (at + 1) text) in
    ap line_ends (byte_then text at h) ∙ (cons ∙ rw e (omega arith))

pub none_more : (text : List ℕ) (at : ℕ) → at < length text → (get_or text at 0 == 10) ≡ false
    → line_ends (drop at text) ≡ line_ends (drop (at + 1) text)
none_more text at h e =
    let cons = sum_by-cons ends (get_or text at 0) (drop (at + 1) text) in
    ap line_ends (byte_then text at h) ∙ (cons ∙ rw e (omega arith))

from_row_less : (text : List ℕ) → length (from_row text) ≤ length text
unfolding from_row
from_row_less [] = omega arith
from_row_less (byte ∷ text) = by (is_row_end byte) (from_row_less text)
  where
    by : (b : Bool) → length (from_row text) ≤ length text → length (cond b (from_row text) (byte ∷ text)) ≤ suc (length text)
    by true h = omega arith
    by false h = omega arith

-- a text that begins with its first row
pub begins : (text : List ℕ) → 0 < length text → from_row text ≡ text → is_row_end (get_or text 0 0) ≡ false
unfolding from_row
begins [] h e = absurd (omega arith)
begins (byte ∷ text) h e = by (is_row_end byte) refl e
  where
    by : (b : Bool) → is_row_end byte ≡ b → cond (is_row_end byte) (from_row text) (byte ∷ text) ≡ byte ∷ text → is_row_end byte ≡ false
    by true k e = absurd (
        let long : length (from_row text) ≡ suc (length text) = ap length (rw k at e) in
        let short = from_row_less text in
        omega (arith, long, short)
        )
    by false k e = k

-- what is left from its first row on begins with it
pub from_row_twice : (text : List ℕ) → from_row (from_row text) ≡ from_row text
unfolding from_row
from_row_twice [] = refl
from_row_twice (byte ∷ text) = by (is_row_end byte) refl (from_row_twice text)
  where
    by : (b : Bool) → is_row_end byte ≡ b → from_row (from_row text) ≡ from_row text
        → from_row (cond (is_row_end byte) (from_row text) (byte ∷ text)) ≡ cond (is_row_end byte) (from_row text) (byte ∷ text)
    by true k h = rw k h
    by false k h = rw k (rw k refl)

-- ---- a byte above the comma
apart : (byte other : ℕ) → other < byte → (byte == other) ≡ false
apart byte other h = ne_eqb byte other (λ e. absurd (omega (arith, e, h)))

pub beyond_goes : (place : Place) (byte : ℕ) → 44 < byte → Goes (state_of place) byte (beyond place)
beyond_goes place byte h =
    by place (apart byte 34 (omega (arith, h))) (apart byte 44 (omega (arith, h))) (apart byte 13 (omega (arith, h))) (apart byte 10 (omega (arith, h)))
  where
    by : (place : Place) → (byte == 34) ≡ false → (byte == 44) ≡ false → (byte == 13) ≡ false → (byte == 10) ≡ false → Goes (state_of place) byte (beyond place)
    by places.Between quote comma cr lf = rw (quote, comma, cr, lf) (refl, refl)
    by places.CellStart quote comma cr lf = rw (quote, comma, cr, lf) (refl, refl)
    by places.Plain quote comma cr lf = rw (comma, cr, lf) (refl, refl)
    by places.Quoted quote comma cr lf = rw quote (refl, refl)
    by places.AfterQuote quote comma cr lf = rw (quote, comma, cr, lf) (refl, refl)

-- ---- a row
-- the next record is that from this state on, with some fields and a field at hand
abbrev pub ReadsFrom : (text : List ℕ) → State → List ℕ → Type 0
ReadsFrom text s rest = (fields : List (List ℕ)) × (field : List ℕ)
    × (next_record default_config st.StartRecord [] [] text ≡ next_record default_config s fields field rest)

pub reads_first : (text : List ℕ) → ReadsFrom text st.StartRecord (drop 0 text)
reads_first text = ([], [], refl)

goes_on : (s : State) (byte : ℕ) (next : Place) → next ≢ places.Between → Goes s byte next
    → (is_end (step default_config s byte).1 ≡ false) × ((step default_config s byte).0 ≡ state_of next)
goes_on s byte places.Between other h = absurd (other refl)
goes_on s byte places.CellStart other h = h
goes_on s byte places.Plain other h = h
goes_on s byte places.Quoted other h = h
goes_on s byte places.AfterQuote other h = h

pub reads_on : (text : List ℕ) (s : State) (at : ℕ) (next : Place) → at < length text → next ≢ places.Between
    → Goes s (get_or text at 0) next → ReadsFrom text s (drop at text) → ReadsFrom text (state_of next) (drop (at + 1) text)
unfolding next_record
reads_on text s at next h other goes reads =
    let byte = get_or text at 0 in
    let on = goes_on s byte next other goes in
    let done = step default_config s byte in (
      fields_after done.1 reads.0 reads.1,
      field_after done.1 byte reads.1,
      reads.2 ∙ (ap (next_record default_config s reads.0 reads.1) (byte_then text at h) ∙ rw (on.0, on.1) refl),
    )

pub leaves_row : (text : List ℕ) (s : State) (at : ℕ) → at < length text → Goes s (get_or text at 0) places.Between
    → ReadsFrom text s (drop at text) → LeavesBehind text (drop at text)
unfolding next_record
leaves_row text s at h goes reads =
    let byte = get_or text at 0 in
    let same = reads.2 ∙ ap (next_record default_config s reads.0 reads.1) (byte_then text at h) in
    rw same (rw goes.1 (goes.2, past_end text at h goes.0))

at_end : (place : Place) (fields : List (List ℕ)) (field : List ℕ)
    → IfSome (next_record default_config (state_of place) fields field []) (λ read. IsBetween read.1 × (from_row [] ≡ from_row read.2))
unfolding next_record
at_end places.Between fields field = tt
at_end places.CellStart fields field = (inl refl, refl)
at_end places.Plain fields field = (inl refl, refl)
at_end places.Quoted fields field = (inl refl, refl)
at_end places.AfterQuote fields field = (inl refl, refl)

pub leaves_all : (text : List ℕ) (place : Place) (at : ℕ) → length text ≤ at → ReadsFrom text (state_of place) (drop at text)
    → LeavesBehind text []
leaves_all text place at h reads =
    rw (reads.2 ∙ ap (next_record default_config (state_of place) reads.0 reads.1) (drop_all at text h)) (at_end place reads.0 reads.1)

-- ---- between rows
past_one : (s : State) (byte : ℕ) (left : List ℕ) → IsBetween s → is_row_end byte ≡ true
    → next_record default_config s [] [] (byte ∷ left) ≡ next_record default_config st.StartRecord [] [] left
unfolding next_record
past_one s byte left (inl e) k = rw e (by (byte == 13) (byte == 10) refl refl k)
  where
    by : (c f : Bool) → (byte == 13) ≡ c → (byte == 10) ≡ f → (c || f) ≡ true
        → next_record default_config st.StartRecord [] [] (byte ∷ left) ≡ next_record default_config st.StartRecord [] [] left
    by true f c_is f_is k = rw c_is refl
    by false true c_is f_is k = rw (c_is, f_is) refl
    by false false c_is f_is k = cc k
past_one s byte left (inr e) k = rw e (by (byte == 13) (byte == 10) refl refl k)
  where
    by : (c f : Bool) → (byte == 13) ≡ c → (byte == 10) ≡ f → (c || f) ≡ true
        → next_record default_config st.AfterCr [] [] (byte ∷ left) ≡ next_record default_config st.StartRecord [] [] left
    by c true c_is f_is k = rw f_is refl
    by true false c_is f_is k = rw (f_is, c_is) refl
    by false false c_is f_is k = cc k

from_start : (s : State) (byte : ℕ) (left : List ℕ) → IsBetween s → is_row_end byte ≡ false
    → next_record default_config s [] [] (byte ∷ left) ≡ next_record default_config st.StartRecord [] [] (byte ∷ left)
unfolding next_record
from_start s byte left (inl e) k = rw e refl
from_start s byte left (inr e) k = rw e (by (byte == 13) (byte == 10) refl refl k)
  where
    by : (c f : Bool) → (byte == 13) ≡ c → (byte == 10) ≡ f → (c || f) ≡ false
        → next_record default_config st.AfterCr [] [] (byte ∷ left) ≡ next_record default_config st.StartRecord [] [] (byte ∷ left)
    by true f c_is f_is k = cc k
    by false true c_is f_is k = cc k
    by false false c_is f_is k = rw (f_is, c_is) refl

at_none : (s : State) → IsBetween s → next_record default_config s [] [] [] ≡ next_record default_config st.StartRecord [] [] []
unfolding next_record
at_none s (inl e) = rw e refl
at_none s (inr e) = rw e refl

-- a reader between rows reads the next one from its first byte on
pub next_from : (s : State) (left : List ℕ) → IsBetween s
    → next_record default_config s [] [] left ≡ next_record default_config st.StartRecord [] [] (from_row left)
unfolding from_row
next_from s [] between = at_none s between
next_from s (byte ∷ left) between = by (is_row_end byte) refl (next_from st.StartRecord left (inl refl))
  where
    by : (b : Bool) → is_row_end byte ≡ b
        → next_record default_config st.StartRecord [] [] left ≡ next_record default_config st.StartRecord [] [] (from_row left)
        → next_record default_config s [] [] (byte ∷ left)
        ≡ next_record default_config st.StartRecord [] [] (cond (is_row_end byte) (from_row left) (byte ∷ left))
    by true k h =
        past_one s byte left between k ∙ (h ∙ ap (next_record default_config st.StartRecord [] []) (rw k refl))
    by false k h =
        from_start s byte left between k ∙ ap (next_record default_config st.StartRecord [] []) (rw k refl)

-- what is left behind the next row
pub leaves_next : (s : State) (left rest rest_after : List ℕ) (read : Read) → IsBetween s → from_row rest ≡ from_row left
    → next_record default_config s [] [] left ≡ Some read → LeavesBehind (from_row rest) rest_after
    → IsBetween read.1 × (from_row rest_after ≡ from_row read.2)
leaves_next s left rest rest_after read between same next leaves =
    let reads : next_record default_config st.StartRecord [] [] (from_row rest) ≡ Some read =
    ap (next_record default_config st.StartRecord [] []) same ∙ (sym (next_from s left between) ∙ next) in
    rw reads at leaves
