-- The ranges of what cells are read as.
use Rattle.std.proofs.Common.{◌≡◌, ℕ, ◌+◌, ◌*◌, ◌≤◌, ◌==◌, ◌&&◌, nat_le, nat_lt, Bool, true, false, List, [], ◌∷◌, ◌++◌, length, All, Option, Some, None, Ok, Err, refl, ap, subst, arith, length-append}
use Rattle.std.proofs.lemmas.Bool.{ltb-false, eqb-false, leb-true}
use Rattle.std.specs.Prelude.{not, ok_or, slice_index_or, codes, if◌then◌else◌, option_map}
use Rattle.std.specs.Str.{bytes_eq}
use Rattle.std.proofs.lemmas.List.Elements.{All-nil, All-push}
use Rattle.table_cells.specs.declared.amount.Amount.{Amount}
use Rattle.table_cells.specs.Amounts.{IsAmount, amount_in, few_digits, is_at_most, is_whole, is_within, reaches_one, whole}
use Rattle.table_cells.proofs.Digits.{both}
use Rattle.document_rows.specs.declared.disciplines.GateRow.{GateRow}
use Rattle.document_rows.specs.declared.fault.Wrong.TheVariants.{Empty, NoNumber, NoWhole, TooSmall, TooLarge, OffGrid, NoDiscipline, SlotTooLong, PathTooLong}
use Rattle.document_rows.specs.Reads.{and_then}
use Rattle.document_rows.specs.Rows.{is_empty}
use Rattle.document_rows.specs.Cells.{number_in, within, longest_time, time_in, time_or_zero, on_grid, link_time, rate_in, gap_in, in_range, whole_between}
use Rattle.document_rows.specs.Disciplines.{DisciplineText, Fifo, Priority, Drr, is_between, whole_of, most_queues, queues_in, quantum_in, quanta_from, quanta_of, quanta_in, discipline_of, gate_with, gate_of}
use Rattle.document_rows.specs.LinkRows.{priority_in, path_of, deadline_in}
use Rattle.document_tables.specs.Ranges.{IsWithin, IsTime, IsTimeOrNone, IsGateOrNone, IsQuantum, IsDiscipline}
use Rattle.document_tables.proofs.Reading.{both_read, both_some, one_some, some_read, not_refused, not_denied, allowed, same_read, some_if}
use Rattle.document_tables.proofs.AmountRanges.{amount_written, zero_amount}

-- ---- numbers
number : (cell : List ℕ) (a : Amount) → number_in cell ≡ Ok a → IsAmount a
number cell a h = amount_written cell a (some_read (amount_in cell) NoNumber a (not_refused (is_empty cell) Empty (ok_or (amount_in cell) NoNumber) a h).1)

limited : (times most : ℕ) (cell : List ℕ) (a : Amount) → and_then (number_in cell) (within times most) ≡ Ok a → IsWithin times most a
limited times most cell a h =
    let n = both_read (number_in cell) (within times most) a h in
    let low = not_denied (reaches_one n.0 times) TooSmall (if not (is_at_most n.0 most) then Err TooLarge else Ok n.0) a n.2 in
    let high = not_denied (is_at_most n.0 most) TooLarge (Ok n.0) a low.1 in
    subst (IsWithin times most) (same_read n.0 a high.1) (record { amount = number cell n.0 n.1; not_under = low.0; not_over = high.0 })

pub rate : (cell : List ℕ) (a : Amount) → rate_in cell ≡ Ok a → IsWithin 1000000 1000000 a
rate cell a h = limited 1000000 1000000 cell a h

pub gap : (cell : List ℕ) (a : Amount) → gap_in cell ≡ Ok a → IsWithin 1000000000 1000000 a
gap cell a h = limited 1000000000 1000000 cell a h

pub time : (cell : List ℕ) (a : Amount) → time_in cell ≡ Ok a → IsTime a
time cell a h =
    let n = both_read (number_in cell) (λ n. if not (is_at_most n longest_time) then Err TooLarge else Ok n) a h in
    let high = not_denied (is_at_most n.0 longest_time) TooLarge (Ok n.0) a n.2 in
    subst IsTime (same_read n.0 a high.1) (record { amount = number cell n.0 n.1; most = high.0 })

pub time_or_none : (cell : List ℕ) (a : Amount) → time_or_zero cell ≡ Ok a → IsTime a
time_or_none cell a h = by (is_empty cell) h
  where
    by : (b : Bool) → (if b then Ok (whole 0) else time_in cell) ≡ Ok a → IsTime a
    by true e = subst IsTime (same_read (whole 0) a e) (record { amount = zero_amount; most = refl })
    by false e = time cell a e

pub on_link : (cell : List ℕ) (a : Amount) → link_time cell ≡ Ok a → IsTime a × (is_whole 1000000 a ≡ true)
on_link cell a h =
    let n = both_read (time_or_zero cell) on_grid a h in
    let all = not_denied (is_whole 1000000 n.0) OffGrid (Ok n.0) a n.2 in
    let same = same_read n.0 a all.1 in
    (subst IsTime same (time_or_none cell n.0 n.1), subst (λ (b : Amount). is_whole 1000000 b ≡ true) same all.0)

pub deadline : (cell : List ℕ) (d : Option Amount) → deadline_in cell ≡ Ok d → IsTimeOrNone d
deadline cell d h = by (is_empty cell) h
  where
    by : (b : Bool) → (if b then Ok None else and_then (time_in cell) (λ n. Ok (Some n))) ≡ Ok d → IsTimeOrNone d
    by true e = subst IsTimeOrNone (same_read None d e) tt
    by false e = let n = both_read (time_in cell) (λ n. Ok (Some n)) d e in subst IsTimeOrNone (same_read (Some n.0) d n.2) (time cell n.0 n.1)

ranged : (least most n m : ℕ) → in_range least most n ≡ Ok m → (least ≤ m) × (m ≤ most)
ranged least most n m h =
    let low = not_refused (nat_lt n least) TooSmall (if nat_lt most n then Err TooLarge else Ok n) m h in
    let high = not_refused (nat_lt most n) TooLarge (Ok n) m low.1 in
    let e : n ≡ m = same_read n m high.1 in
    (subst (λ (k : ℕ). least ≤ k) e (ltb-false n least low.0), subst (λ (k : ℕ). k ≤ most) e (ltb-false most n high.0))

pub between : (least most : ℕ) (cell : List ℕ) (m : ℕ) → whole_between least most cell ≡ Ok m → (least ≤ m) × (m ≤ most)
between least most cell m h =
    let n = both_read (ok_or (few_digits cell) NoWhole) (in_range least most) m (not_refused (is_empty cell) Empty (and_then (ok_or (few_digits cell) NoWhole) (in_range least most)) m h).1 in
    ranged least most n.0 m n.2

pub priority : (cell : List ℕ) (m : ℕ) → priority_in cell ≡ Ok m → m ≤ 7
priority cell m h = by (is_empty cell) h
  where
    by : (b : Bool) → (if b then Ok 0 else whole_between 0 7 cell) ≡ Ok m → m ≤ 7
    by true e = let z = same_read 0 m e in omega (arith, z)
    by false e = (between 0 7 cell m e).1

pub some_path : (words path : List (List ℕ)) → path_of words ≡ Ok path → (1 ≤ length path) × (length path ≤ 64)
some_path words path h =
    let low = not_refused (length words == 0) Empty (if nat_lt 64 (length words) then Err PathTooLong else Ok words) path h in
    let high = not_refused (nat_lt 64 (length words)) PathTooLong (Ok words) path low.1 in
    let e : length words ≡ length path = ap length (same_read words path high.1) in
    let some = eqb-false (length words) 0 low.0 in
    (omega (arith, some, e), subst (λ (k : ℕ). k ≤ 64) e (ltb-false 64 (length words) high.0))

-- ---- disciplines
in_between : (least most n : ℕ) → is_between least most n ≡ true → (least ≤ n) × (n ≤ most)
in_between least most n h = let b = both (nat_le least n) (nat_le n most) h in (leb-true least n b.0, leb-true n most b.1)

whole_range : (least most : ℕ) (word : List ℕ) (n : ℕ) → whole_of least most word ≡ Some n → (least ≤ n) × (n ≤ most)
whole_range least most word n h =
    let m = both_some (λ n. if is_between least most n then Some n else None) (few_digits word) n h in
    let i = some_if (is_between least most m.0) (Some m.0) n m.2 in
    let e : m.0 ≡ n = cc (i.1) in
    let b = in_between least most m.0 i.0 in
    (omega (arith, b, e), omega (arith, b, e))

quantum : (word : List ℕ) (q : ℕ) → quantum_in word ≡ Some q → IsQuantum q
quantum word q h =
    let m = one_some (λ bytes. bytes * 8) (whole_of 1 2097152 word) q h in
    let b = whole_range 1 2097152 word m.0 m.1 in
    let e = m.2 in
    (omega (arith, b, e), omega (arith, b, e))

quanta : (before : List ℕ) (words : List (List ℕ)) (qs : List ℕ) → All IsQuantum before → quanta_from before words ≡ Some qs → All IsQuantum qs × (length qs ≡ length before + length words)
unfolding quanta_from
quanta before [] qs a h = let e : before ≡ qs = cc in (subst (All IsQuantum) e a, let l = ap length e in omega (arith, l))
quanta before (word ∷ words) qs a h =
    let q = both_some (λ q. quanta_from (before ++ q ∷ []) words) (quantum_in word) qs h in
    let more = quanta (before ++ q.0 ∷ []) words qs (All-push IsQuantum before q.0 a (quantum word q.0 q.1)) q.2 in
    let l = length-append before (q.0 ∷ []) in
    let m = more.1 in
    (more.0, omega (arith, l, m))

queues : (words : List (List ℕ)) (d : DisciplineText) → queues_in words ≡ Ok d → IsDiscipline d
queues words d h =
    let one = not_denied (length words == 1) NoDiscipline (ok_or (option_map Priority (whole_of 1 most_queues (slice_index_or words 0 []))) NoDiscipline) d h in
    let n = one_some Priority (whole_of 1 most_queues (slice_index_or words 0 [])) d (some_read (option_map Priority (whole_of 1 most_queues (slice_index_or words 0 []))) NoDiscipline d one.1) in
    subst IsDiscipline n.2 (whole_range 1 most_queues (slice_index_or words 0 []) n.0 n.1)

with_quanta : (words : List (List ℕ)) (d : DisciplineText) → quanta_in words ≡ Ok d → IsDiscipline d
with_quanta words d h =
    let some = allowed (is_between 1 most_queues (length words)) NoDiscipline (ok_or (option_map Drr (quanta_of words)) NoDiscipline) d h in
    let b = in_between 1 most_queues (length words) some.0 in
    let n = one_some Drr (quanta_of words) d (some_read (option_map Drr (quanta_of words)) NoDiscipline d some.1) in
    let qs = quanta [] words n.0 (All-nil IsQuantum) n.1 in
    let l = qs.1 in
    subst IsDiscipline n.2 (omega (arith, l, b), omega (arith, l, b), qs.0)

pub discipline : (words : List (List ℕ)) (d : DisciplineText) → discipline_of words ≡ Ok d → IsDiscipline d
discipline [] d h = subst IsDiscipline (same_read Fifo d h) tt
discipline (word ∷ words) d h = by (bytes_eq word (codes "priority")) (bytes_eq word (codes "drr")) (bytes_eq word (codes "fifo") && (length words == 0)) h
  where
    by : (p q r : Bool) → (if p then queues_in words else (if q then quanta_in words else (if r then Ok Fifo else Err NoDiscipline))) ≡ Ok d → IsDiscipline d
    by true q r e = queues words d e
    by false true r e = with_quanta words d e
    by false false true e = subst IsDiscipline (same_read Fifo d e) tt
    by false false false e = cc

-- ---- gates
gate_between : (cycle slot : Amount) (g : Option GateRow) → IsTime cycle → IsTime slot → gate_with cycle slot ≡ Ok g → IsGateOrNone g
gate_between cycle slot g c s h =
    let gate : GateRow = record { cycle = cycle; slot = slot } in
    let some = not_denied (reaches_one slot 1000000) TooSmall (if not (is_within slot cycle) then Err SlotTooLong else Ok (Some gate)) g h in
    let within = not_denied (is_within slot cycle) SlotTooLong (Ok (Some gate)) g some.1 in
    subst IsGateOrNone (same_read (Some gate) g within.1) (record { cycle = c; slot = s; some = some.0; within = within.0 })

pub gate : (words : List (List ℕ)) (g : Option GateRow) → gate_of words ≡ Ok g → IsGateOrNone g
gate [] g h = subst IsGateOrNone (same_read None g h) tt
gate (one ∷ []) g h = cc
gate (cycle ∷ slot ∷ []) g h =
    let c = both_read (time_in cycle) (λ c. and_then (time_in slot) (λ s. gate_with c s)) g h in
    let s = both_read (time_in slot) (λ s. gate_with c.0 s) g c.2 in
    gate_between c.0 s.0 g (time cycle c.0 c.1) (time slot s.0 s.1) s.2
gate (one ∷ two ∷ three ∷ words) g h = cc
