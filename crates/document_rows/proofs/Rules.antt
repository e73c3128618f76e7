-- Words of disciplines and gates, and head lines.
use Rattle.std.proofs.Common.{◌≡◌, ℕ, zero, suc, ◌+◌, ◌<◌, ◌≤◌, Bool, true, false, cond, List, [], ◌∷◌, ◌++◌, length, drop, get_or, Option, Some, None, Err, refl, sym, ap, ◌∙◌, arith}
use Rattle.std.specs.Option.{option_and_then}
use Rattle.std.specs.List.{position_from}
use Rattle.std.specs.Str.{bytes_eq}
use Rattle.std.proofs.lemmas.List.{drop_more, drop_all}
use Rattle.csv.specs.Records.{field_at}
use Rattle.document_rows.specs.declared.fault.Wrong.TheVariants.{NoGate}
use Rattle.document_rows.specs.Rows.{Row, cell}
use Rattle.document_rows.specs.Disciplines.{gate_of, quantum_in, quanta_from}

pub no_gate : (ws : List (List ℕ)) → (length ws ≡ 0 → ⊥) → (length ws ≡ 2 → ⊥) → gate_of ws ≡ Err NoGate
no_gate [] a b = absurd (a refl)
no_gate (one ∷ []) a b = refl
no_gate (one ∷ two ∷ []) a b = absurd (b refl)
no_gate (one ∷ two ∷ three ∷ ws) a b = refl

-- ---- quanta
here : (before : List ℕ) (ws : List (List ℕ)) (k : ℕ) (word : List ℕ) → k < length ws → word ≡ get_or ws k []
    → quanta_from before (drop k ws) ≡ option_and_then (λ q. quanta_from (before ++ q ∷ []) (drop (k + 1) ws)) (quantum_in word)
unfolding quanta_from
here before ws k word h is = ap (quanta_from before) (drop_more ws k [] h ∙ ap (λ (w : List ℕ). w ∷ drop (k + 1) ws) (sym is))

pub quanta_more : (before : List ℕ) (ws : List (List ℕ)) (k : ℕ) (word : List ℕ) (q : ℕ) → k < length ws → word ≡ get_or ws k [] → Some q ≡ quantum_in word
    → quanta_from before (drop k ws) ≡ quanta_from (before ++ q ∷ []) (drop (k + 1) ws)
quanta_more before ws k word q h is e = here before ws k word h is ∙ ap (option_and_then (λ q. quanta_from (before ++ q ∷ []) (drop (k + 1) ws))) (sym e)

pub quanta_none : (before : List ℕ) (ws : List (List ℕ)) (k : ℕ) (word : List ℕ) → k < length ws → word ≡ get_or ws k [] → None ≡ quantum_in word → quanta_from before (drop k ws) ≡ None
quanta_none before ws k word h is e = here before ws k word h is ∙ ap (option_and_then (λ q. quanta_from (before ++ q ∷ []) (drop (k + 1) ws))) (sym e)

pub quanta_all : (before : List ℕ) (ws : List (List ℕ)) (k : ℕ) → length ws ≤ k → quanta_from before (drop k ws) ≡ Some before
unfolding quanta_from
quanta_all before ws k h = ap (quanta_from before) (drop_all k ws h)

-- ---- cells
cell_is : (row : Row) (k : ℕ) → get_or row k [] ≡ cell row k
unfolding field_at
cell_is [] k = refl
cell_is (c ∷ cs) zero = refl
cell_is (c ∷ cs) (suc k) = cell_is cs k

drop_cell : (row : Row) (k : ℕ) → k < length row → drop k row ≡ cell row k ∷ drop (k + 1) row
drop_cell row k h = drop_more row k [] h ∙ ap (λ (c : List ℕ). c ∷ drop (k + 1) row) (cell_is row k)

pub found : (word : List ℕ) (row : Row) (k : ℕ) → k < length row → bytes_eq word (cell row k) ≡ true → position_from (bytes_eq word) k (drop k row) ≡ Some k
found word row k h e = ap (position_from (bytes_eq word) k) (drop_cell row k h) ∙ rw e refl

pub passed : (word : List ℕ) (row : Row) (k : ℕ) → k < length row → bytes_eq word (cell row k) ≡ false
    → position_from (bytes_eq word) k (drop k row) ≡ position_from (bytes_eq word) (k + 1) (drop (k + 1) row)
passed word row k h e = ap (position_from (bytes_eq word) k) (drop_cell row k h) ∙ rw e refl

pub nowhere : (word : List ℕ) (row : Row) (k : ℕ) → length row ≤ k → position_from (bytes_eq word) k (drop k row) ≡ None
nowhere word row k h = ap (position_from (bytes_eq word) k) (drop_all k row h)
