-- A text is a recorded run of a network, or has a first fault.
use Rattle.std.proofs.Common.{◌≡◌, ℕ, suc, ◌<◌, ◌≤◌, List, [], ◌∷◌, ◌++◌, length, Ok, Err, refl, sym, ap, subst, arith, inl, inr, ◌⊎◌, ◌∙◌, append-nil, append_assoc}
use Rattle.std.proofs.lemmas.Bool.{cases_lt}
use Rattle.std.proofs.lemmas.List.{length_push}
use Rattle.rational.specs.Rational.{ℚ}
use Rattle.run_laws.specs.declared.steps.Step.{Step}
use Rattle.run_laws.specs.declared.steps.Step.TheVariants.{Enter, Reach, Work, Leave, Visit}
use Rattle.run_laws.specs.Runs.{SpecRun}
use Rattle.net_model.specs.Networks.{Net}
use Rattle.input_texts.specs.table_text.Rows.{Row, rows_of}
use Rattle.input_texts.specs.table_text.Traces.{most_rows}
use Rattle.existence.proofs.texts.EachTable.{server_or_none, flow_or_none}
use Rattle.run_check.specs.declared.run_table.fault.RunKind.{RunKind}
use Rattle.run_check.specs.declared.run_table.fault.RunKind.TheVariants.{T5, T7, T8}
use Rattle.run_check.specs.declared.run_table.run_rows.RunEntry.TheVariants.{Does}
use Rattle.run_check.specs.run_table.RunRows.{Read, RunRow, enter_row, reach_row, work_row, leave_row, visit_row, end_row, run_row, NamesStep, IsUnknown, Gives}
use Rattle.run_check.specs.run_table.Runs.{Give, GiveSteps, GiveAll, IsRunOf, IsWrong, IsFirstFault}
use Rattle.commands.specs.check.Checked.{run_fault_reply}
use Rattle.existence.specs.texts.Laws.{RunsAreRead, RunStagesEnd}
use Rattle.run_check.proofs.run_table.RunSteps.{packets_behind}
use Rattle.run_check.proofs.run_table.RunSteps.{give_more}

-- ---- what a row says, where so many packets have entered: a step, the end, or a name that nothing has
data Sort (net : Net) (packets : ℕ) (says : RunRow) : Type 0 where
  does : (x : Step) → NamesStep net packets says x → Sort net packets says
  ends : (t : ℚ) → says ≡ end_row t → Sort net packets says
  unknown : IsUnknown net says → Sort net packets says

sort : (net : Net) (packets : ℕ) (says : RunRow) → Sort net packets says
sort net packets (enter_row time flow bits) = elim (flow_or_none net.flows flow) [
  | inl f ↦ does (Enter f.0 packets time bits) (refl, refl, refl, f.1)
  | inr none ↦ unknown none
]
sort net packets (reach_row time server packet) = elim (server_or_none net.servers server) [
  | inl s ↦ does (Reach s.0 packet time) (refl, refl, s.1)
  | inr none ↦ unknown none
]
sort net packets (work_row server packet start end bits) = elim (server_or_none net.servers server) [
  | inl s ↦ does (Work s.0 packet start end bits) (refl, refl, refl, refl, s.1)
  | inr none ↦ unknown none
]
sort net packets (leave_row time server packet) = elim (server_or_none net.servers server) [
  | inl s ↦ does (Leave s.0 packet time) (refl, refl, s.1)
  | inr none ↦ unknown none
]
sort net packets (visit_row time server queue) = elim (server_or_none net.servers server) [
  | inl s ↦ does (Visit s.0 queue time) (refl, refl, s.1)
  | inr none ↦ unknown none
]
sort net packets (end_row time) = ends time refl

-- ---- one row
abbrev IsRunOrFaulty : Net → List ℕ → Type 0
IsRunOrFaulty net text = ((run : SpecRun) × IsRunOf net (rows_of text) run) ⊎ ((kind : RunKind) × (number : ℕ) × IsFirstFault net text kind number)

wrong_row : (net : Net) (text : List ℕ) (before : List Row) (row : Row) (rest : List Row) → rows_of text ≡ before ++ row ∷ rest → length before ≤ most_rows
    → (kind : RunKind) → IsWrong net before row kind → IsRunOrFaulty net text
wrong_row net text before row rest e room kind wrong =
    inr (kind, suc (length before), inl record { before = before; row = row; after = rest; rows_are = e; place = refl; few = room; wrong = wrong })

-- behind rows that give steps, a row that says the end
at_end : (net : Net) (text : List ℕ) (rest before : List Row) (row : Row) → rows_of text ≡ before ++ row ∷ rest → length before < most_rows
    → GiveSteps net before → (t : ℚ) → run_row row ≡ Ok (end_row t) → IsRunOrFaulty net text
at_end net text [] before row e few g t is =
    let more = length_push before row in
    let long = ap length e in
    inl (record { steps = g.steps; end = t }, record { before = before; last = row; rows_are = e; give = g.give; ends = is; few = omega (arith, few, more, long) })
at_end net text (next ∷ rest) before row e few g t is =
    let so_far = before ++ row ∷ [] in
    let more = length_push before row in
    let all : GiveAll net so_far = record { before = before; last = row; rows_are = refl; steps = g; end = record { time = t; is = is } } in
    let there : rows_of text ≡ so_far ++ next ∷ rest = e ∙ sym (append_assoc before (row ∷ []) (next ∷ rest)) in
    let room : length so_far ≤ most_rows = omega (arith, few, more) in
    elim (cases_lt (length so_far) most_rows) [
      | inl less ↦ wrong_row net text so_far next rest there room T8 (inr (inl (refl, less, all)))
      | inr many ↦ wrong_row net text so_far next rest there room T7 (inl (refl, many, inr all))
    ]

module _ (net : Net) (text : List ℕ) (before : List Row) (row : Row) (rest : List Row) (steps : List Step) (e : rows_of text ≡ before ++ row ∷ rest)
    (few : length before < most_rows) (given : Give net 0 before steps)
    (next : (x : Step) → Gives net (packets_behind 0 steps) (run_row row) (Does x) → IsRunOrFaulty net text) where
  so_many : GiveSteps net before
  so_many = record { steps = steps; give = given }

  bad_row : (kind : RunKind) → IsWrong net before row kind → IsRunOrFaulty net text
  bad_row kind wrong = wrong_row net text before row rest e (omega (arith, few)) kind wrong

  by_sort : (says : RunRow) → run_row row ≡ Ok says → Sort net (packets_behind 0 steps) says → IsRunOrFaulty net text
  by_sort says is (does x names) = next x record { says = says; is = is; names = names }
  by_sort says is (ends t same) = at_end net text rest before row e few so_many t (is ∙ ap (λ (w : RunRow). let r : Read RunRow = Ok w in r) same)
  by_sort says is (unknown none) = bad_row T5 (inr (inr (few, so_many, inr (refl, record { says = says; is = is; unknown = none }))))

  by_row : (r : Read RunRow) → run_row row ≡ r → IsRunOrFaulty net text
  by_row (Err kind) is = bad_row kind (inr (inr (few, so_many, inl is)))
  by_row (Ok says) is = by_sort says is (sort net (packets_behind 0 steps) says)

-- ---- row after row
run_from : (net : Net) (text : List ℕ) (rest before : List Row) (steps : List Step) → rows_of text ≡ before ++ rest → Give net 0 before steps
    → length before ≤ most_rows → IsRunOrFaulty net text
run_from net text [] before steps e given room =
    let whole : before ≡ rows_of text = sym (e ∙ append-nil before) in
    let g : GiveSteps net before = record { steps = steps; give = given } in
    inr (
      T8,
      suc (length (rows_of text)),
      inr record {
        kind_is = refl;
        place = refl;
        few = subst (λ (rs : List Row). length rs ≤ most_rows) whole room;
        steps = subst (λ (rs : List Row). GiveSteps net rs) whole g;
      },
    )
run_from net text (row ∷ rest) before steps e given room = elim (cases_lt (length before) most_rows) [
  | inl few ↦
      let more = length_push before row in
      by_row net text before row rest steps e few given
      (λ x gives. run_from net text rest (before ++ row ∷ []) (steps ++ x ∷ []) (e ∙ sym (append_assoc before (row ∷ []) rest))
      (give_more net 0 before steps row x given gives) (omega (arith, few, more))) (run_row row) refl
  | inr many ↦ wrong_row net text before row rest e room T7 (inl (refl, many, inl record { steps = steps; give = given }))
]

pub runs_are_read : RunsAreRead
runs_are_read net text = run_from net text (rows_of text) [] [] refl tt (omega arith)

pub run_stages_end : RunStagesEnd
run_stages_end net run_file run_bytes = elim (runs_are_read net run_bytes) [
  | inl read ↦ inr read
  | inr bad ↦ inl (
    run_fault_reply run_file record { kind = bad.0; row = bad.1 },
    record { fault = record { kind = bad.0; row = bad.1 }; first = bad.2; is = refl },
  )
]
