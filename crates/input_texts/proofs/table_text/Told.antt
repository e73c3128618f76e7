-- A fault of a row never has the kind of want of memory.
use Rattle.std.proofs.Common.{◌≡◌, ◌≢◌, ◌==◌, not, length, ℕ, List, Bool, true, false, if◌then◌else◌, Option, Some, None, Ok, Err, IfErr, ok_or, sym, subst, ⊎_elim}
use Rattle.input_texts.specs.declared.table_text.fault.TableKind.{TableKind}
use Rattle.input_texts.specs.declared.table_text.fault.TableKind.TheVariants.{T1, T2, T3, T4, NoMemory}
use Rattle.input_texts.specs.declared.table_text.trace_rows.TraceWord.{TraceWord}
use Rattle.input_texts.specs.declared.table_text.trace_rows.TraceWord.TheVariants as words
use Rattle.rational.specs.Rational.{lt_q}
use Rattle.net_model.specs.Networks.{Net}
use Rattle.input_texts.specs.table_text.Rows.{Row, Read, and_then, field, is_plain}
use Rattle.input_texts.specs.table_text.Fields.{number_in, time_in, bits_in}
use Rattle.input_texts.specs.table_text.TraceRows.{packet_row, stall_row, packet_of, stall_of, row_with, trace_word, trace_row}
use Rattle.input_texts.specs.table_text.Traces.{IsFirstFault}

-- of a row
abbrev pub IsOfRow : TableKind → Type 0
IsOfRow NoMemory = ⊥
IsOfRow kind = Unit {0}

pub row_kind : (kind : TableKind) → IsOfRow kind → kind ≢ NoMemory
row_kind kind h e = subst IsOfRow e h

pub ok_or_told : {X : Type 0} (o : Option X) (kind : TableKind) → IsOfRow kind → IfErr (ok_or o kind) IsOfRow
ok_or_told (Some x) kind h = tt
ok_or_told None kind h = h

pub then_told : {X Y : Type 0} (r : Read X) (f : X → Read Y) → IfErr r IsOfRow → ((x : X) → IfErr (f x) IsOfRow) → IfErr (and_then r f) IsOfRow
then_told (Ok x) f h g = g x
then_told (Err e) f h g = h

pub if_told : {X : Type 0} (b : Bool) (r s : Read X) → IfErr r IsOfRow → IfErr s IsOfRow → IfErr (if b then r else s) IsOfRow
if_told true r s h g = h
if_told false r s h g = g

packet_told : (row : Row) → IfErr (packet_of row) IsOfRow
packet_told row =
    then_told (ok_or (time_in (field row 1)) T4) (λ time. and_then (ok_or (bits_in (field row 3)) T4) (λ bits. Ok (packet_row time (field row 2) bits))) (ok_or_told (time_in (field row 1)) T4 tt)
    (λ time. then_told (ok_or (bits_in (field row 3)) T4) (λ bits. Ok (packet_row time (field row 2) bits)) (ok_or_told (bits_in (field row 3)) T4 tt) (λ bits. tt))

stall_told : (row : Row) → IfErr (stall_of row) IsOfRow
stall_told row =
    then_told (ok_or (time_in (field row 2)) T4) _ (ok_or_told (time_in (field row 2)) T4 tt)
    (λ start. then_told (ok_or (number_in (field row 3)) T4) _ (ok_or_told (number_in (field row 3)) T4 tt) (λ end. if_told (lt_q start end) (Ok (stall_row (field row 1) start end)) (Err T4) tt tt))

with_told : (word : TraceWord) (row : Row) → IfErr (row_with word row) IsOfRow
with_told words.Packet row = packet_told row
with_told words.Stall row = stall_told row

row_told : (row : Row) → IfErr (trace_row row) IsOfRow
unfolding trace_row
row_told row =
    if_told (not (is_plain row)) (Err T1) (and_then (ok_or (trace_word (field row 0)) T2) (λ word. if not (length row == 4) then Err T3 else row_with word row)) tt
    (then_told (ok_or (trace_word (field row 0)) T2) _ (ok_or_told (trace_word (field row 0)) T2 tt) (λ word. if_told (not (length row == 4)) (Err T3) (row_with word row) tt (with_told word row)))

pub read_told : {X : Type 0} (r : Read X) (kind : TableKind) → IfErr r IsOfRow → r ≡ Err kind → kind ≢ NoMemory
read_told r kind h e = row_kind kind (subst (λ q. IfErr q IsOfRow) e h)

pub fault_told : (net : Net) (text : List ℕ) (kind : TableKind) (number : ℕ) → IsFirstFault net text kind number → kind ≢ NoMemory
fault_told net text kind number f =
    ⊎_elim
    (λ many. row_kind kind (subst IsOfRow (sym many.0) tt))
    (λ one. ⊎_elim
    (λ itself. ⊎_elim (λ bad. read_told (trace_row f.row) kind (row_told f.row) bad) (λ unknown. row_kind kind (subst IsOfRow (sym unknown.0) tt)) itself)
    (λ late. row_kind kind (subst IsOfRow (sym late.0) tt)) one.1)
    f.wrong
