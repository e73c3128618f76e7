-- Rows of an edit list: a word, and what the word asks for. Own choice.
use Rattle.std.specs.Prelude.{◌≡◌, ℕ, ℤ, List, Option, Some, None, ok_or, option_and_then, option_map, map, Result, Ok, Err, not, ◌==◌, length, codes, string_bytes, if◌then◌else◌}
use Rattle.std.specs.Str.{bytes_eq}
use Rattle.rational.specs.Rational.{ℚ}
use Rattle.net_model.specs.declared.edit.Edit.{Edit}
use Rattle.net_model.specs.declared.edit.Edit.TheVariants as edit
use Rattle.input_texts.specs.declared.table_text.fault.TableKind.{TableKind}
use Rattle.input_texts.specs.declared.table_text.fault.TableKind.TheVariants.{T1, T2, T3, T4, T5, T6, T7, NoMemory}
use Rattle.input_texts.specs.declared.table_text.edit_words.EditWord.{EditWord}
use Rattle.input_texts.specs.declared.table_text.edit_words.EditWord.TheVariants as words
use Rattle.input_texts.specs.declared.table_text.edit_words.OneNumber.{OneNumber}
use Rattle.input_texts.specs.declared.table_text.edit_words.OneNumber.TheVariants as one
use Rattle.input_texts.specs.declared.table_text.edit_words.TwoNumbers.{TwoNumbers}
use Rattle.input_texts.specs.declared.table_text.edit_words.TwoNumbers.TheVariants as two
use Rattle.input_texts.specs.table_text.Rows.{Row, Read, and_then, field, is_plain}
use Rattle.input_texts.specs.table_text.Fields.{number_in, whole_in}
use Rattle.input_texts.specs.table_text.Paths.{EntryText, entry_view, path_in}

-- an edit as it is asked for, with names as texts
pub data EditText : Type 0 where
  Rate : List ℕ → ℚ → EditText
  Latency : List ℕ → ℚ → EditText
  Link : List ℕ → ℚ → EditText
  Quantum : List ℕ → (queue bits : ℤ) → EditText
  Bucket : List ℕ → (burst rate : ℚ) → EditText
  Stair : List ℕ → (period jitter : ℚ) → EditText
  Packet : List ℕ → ℤ → EditText
  Route : List ℕ → List EntryText → EditText
  Add : List ℕ → ℤ → (burst rate : ℚ) → List EntryText → EditText
  Drop : List ℕ → EditText
  Undo : EditText

abbrev pub edit_view : Edit → EditText
edit_view (edit.Rate name x) = Rate (string_bytes name) x
edit_view (edit.Latency name x) = Latency (string_bytes name) x
edit_view (edit.Link name x) = Link (string_bytes name) x
edit_view (edit.Quantum name queue bits) = Quantum (string_bytes name) queue bits
edit_view (edit.Bucket name burst rate) = Bucket (string_bytes name) burst rate
edit_view (edit.Stair name period jitter) = Stair (string_bytes name) period jitter
edit_view (edit.Packet name bits) = Packet (string_bytes name) bits
edit_view (edit.Route name path) = Route (string_bytes name) (map entry_view path.items)
edit_view (edit.Add name bits burst rate path) = Add (string_bytes name) bits burst rate (map entry_view path.items)
edit_view (edit.Drop name) = Drop (string_bytes name)
edit_view edit.Undo = Undo

-- ---- words
abbrev pub number_word : List ℕ → Option EditWord
number_word text =
    if bytes_eq text (codes "rate") then Some (words.One one.Rate)
    else (if bytes_eq text (codes "latency") then Some (words.One one.Latency)
    else (if bytes_eq text (codes "link") then Some (words.One one.Link)
    else (if bytes_eq text (codes "bucket") then Some (words.Two two.Bucket)
    else (if bytes_eq text (codes "stair") then Some (words.Two two.Stair) else None))))

abbrev pub other_word : List ℕ → Option EditWord
other_word text =
    if bytes_eq text (codes "quantum") then Some words.Quantum
    else (if bytes_eq text (codes "packet") then Some words.Packet
    else (if bytes_eq text (codes "route") then Some words.Route
    else (if bytes_eq text (codes "add") then Some words.Add
    else (if bytes_eq text (codes "drop") then Some words.Drop
    else (if bytes_eq text (codes "undo") then Some words.Undo else None)))))

abbrev pub or_word : Option EditWord → Option EditWord → Option EditWord
or_word None other = other
or_word (Some word) other = Some word

abbrev pub edit_word : List ℕ → Option EditWord
edit_word text = or_word (number_word text) (other_word text)

-- how many fields a row has that begins with the word
abbrev pub field_count : EditWord → ℕ
field_count (words.One word) = 3
field_count (words.Two word) = 4
field_count words.Quantum = 4
field_count words.Packet = 3
field_count words.Route = 3
field_count words.Add = 6
field_count words.Drop = 2
field_count words.Undo = 1

-- ---- what a row says; nothing where a field is not what its word asks for
abbrev pub one_edit : OneNumber → List ℕ → ℚ → EditText
one_edit one.Rate name x = Rate name x
one_edit one.Latency name x = Latency name x
one_edit one.Link name x = Link name x

abbrev pub one_of : OneNumber → Row → Option EditText
one_of word row = option_map (one_edit word (field row 1)) (number_in (field row 2))

abbrev pub two_edit : TwoNumbers → List ℕ → ℚ → ℚ → EditText
two_edit two.Bucket name x y = Bucket name x y
two_edit two.Stair name x y = Stair name x y

abbrev pub two_of : TwoNumbers → Row → Option EditText
two_of word row =
    option_and_then (λ x. option_map (two_edit word (field row 1) x) (number_in (field row 3)))
    (number_in (field row 2))

abbrev pub quantum_of : Row → Option EditText
quantum_of row =
    option_and_then (λ queue. option_map (Quantum (field row 1) queue) (whole_in (field row 3)))
    (whole_in (field row 2))

abbrev pub packet_of : Row → Option EditText
packet_of row = option_map (Packet (field row 1)) (whole_in (field row 2))

abbrev pub route_of : Row → Option EditText
route_of row = option_map (Route (field row 1)) (path_in (field row 2))

abbrev pub add_of : Row → Option EditText
add_of row =
    option_and_then (λ bits.
    option_and_then (λ burst.
    option_and_then (λ rate. option_map (Add (field row 1) bits burst rate) (path_in (field row 5)))
    (number_in (field row 4))) (number_in (field row 3))) (whole_in (field row 2))

abbrev pub edit_with : EditWord → Row → Option EditText
edit_with (words.One word) row = one_of word row
edit_with (words.Two word) row = two_of word row
edit_with words.Quantum row = quantum_of row
edit_with words.Packet row = packet_of row
edit_with words.Route row = route_of row
edit_with words.Add row = add_of row
edit_with words.Drop row = Some (Drop (field row 1))
edit_with words.Undo row = Some Undo

-- or what is wrong with it: first a byte that is not plain, then an unknown word, then the number of its fields, and then a
-- field that is not what the word asks for
unfoldable pub edit_row : Row → Read EditText
edit_row row =
    if not (is_plain row) then Err T1
    else and_then (ok_or (edit_word (field row 0)) T2) (λ word.
    if not (length row == field_count word) then Err T3 else ok_or (edit_with word row) T4)

-- ---- what a call answers, beside what is read
-- nothing is read; want of memory says nothing
abbrev pub IsMissing : {Y : Type 0} → TableKind → Option Y → Type 0
IsMissing T1 o = ⊥
IsMissing T2 o = ⊥
IsMissing T3 o = ⊥
IsMissing T4 o = o ≡ None
IsMissing T5 o = ⊥
IsMissing T6 o = ⊥
IsMissing T7 o = ⊥
IsMissing NoMemory o = Unit {0}

abbrev pub Finds : {X Y : Type 0} → (X → Y) → Result X TableKind → Option Y → Type 0
Finds view (Ok x) o = o ≡ Some (view x)
Finds view (Err kind) o = IsMissing kind o
