-- A text is one run of a network at most, or has one first fault.
use Rattle.std.proofs.Common.{◌≡◌, ℕ, suc, ◌<◌, ◌≤◌, List, [], ◌∷◌, ◌++◌, length, Ok, refl, sym, ap, ap₂, subst, inl, inr, ◌⊎◌, ◌∙◌, arith, append_assoc, length-append}
use native.Mathlib.Nat.{not-le_of_lt}
use Rattle.rational.specs.Rational.{ℚ}
use Rattle.run_laws.specs.declared.steps.Step.{Step}
use Rattle.run_laws.specs.declared.steps.Step.TheVariants.{Enter, Reach, Work, Leave, Visit}
use Rattle.run_laws.specs.Runs.{SpecRun}
use Rattle.net_model.specs.Accepted.{IsAccepted}
use Rattle.net_model.specs.Networks.{Net}
use Rattle.input_texts.specs.table_text.Rows.{Row, rows_of}
use Rattle.input_texts.specs.table_text.Traces.{most_rows}
use Rattle.input_texts.proofs.table_text.OneTrace.{same_value, same_kind, not_both_ways, flow_one, server_one, Places, same, sooner, later, places}
use Rattle.run_check.specs.declared.run_table.fault.RunKind.{RunKind}
use Rattle.run_check.specs.declared.run_table.run_rows.RunEntry.TheVariants.{Does}
use Rattle.run_check.specs.run_table.RunRows.{RunRow, enter_row, reach_row, work_row, leave_row, visit_row, end_row, run_row, NamesStep, IsUnknown, Gives, IsWrongIn}
use Rattle.run_check.specs.run_table.Runs.{packets_after, Give, IsEnd, IsRunOf, GiveSteps, GiveAll, IsWrong, IsWrongRow}
use Rattle.run_check.specs.run_table.OneReading.{HasOneRun, HasOneFault, HasNotBoth, ReadingsAreOne}

-- ---- one step for a row
names_one : (net : Net) (n : ℕ) (w : RunRow) (x y : Step) → IsAccepted net → NamesStep net n w x → NamesStep net n w y
    → x ≡ y
names_one net n (enter_row time flow bits) (Enter f p t b) (Enter g q u c) ok h k =
    let one = flow_one net flow f g ok h.3 k.3 in
    let a = h.0 ∙ sym k.0 in
    let d = h.1 ∙ sym k.1 in
    let e = h.2 ∙ sym k.2 in
    cc
names_one net n (reach_row time server packet) (Reach s p t) (Reach z q u) ok h k =
    let one = server_one net server s z ok h.2 k.2 in
    let a = h.0 ∙ sym k.0 in
    let d = h.1 ∙ sym k.1 in
    cc
names_one net n (work_row server packet start end bits) (Work s p a b w) (Work z q c d v) ok h k =
    let one = server_one net server s z ok h.4 k.4 in
    let e = h.0 ∙ sym k.0 in
    let f = h.1 ∙ sym k.1 in
    let g = h.2 ∙ sym k.2 in
    let i = h.3 ∙ sym k.3 in
    cc
names_one net n (leave_row time server packet) (Leave s p t) (Leave z q u) ok h k =
    let one = server_one net server s z ok h.2 k.2 in
    let a = h.0 ∙ sym k.0 in
    let d = h.1 ∙ sym k.1 in
    cc
names_one net n (visit_row time server queue) (Visit s p t) (Visit z q u) ok h k =
    let one = server_one net server s z ok h.2 k.2 in
    let a = h.0 ∙ sym k.0 in
    let d = h.1 ∙ sym k.1 in
    cc
names_one net n (enter_row time flow bits) (Enter f p t b) y ok h k = absurd k
names_one net n (reach_row time server packet) (Reach s p t) y ok h k = absurd k
names_one net n (work_row server packet start end bits) (Work s p a b w) y ok h k = absurd k
names_one net n (leave_row time server packet) (Leave s p t) y ok h k = absurd k
names_one net n (visit_row time server queue) (Visit s p t) y ok h k = absurd k
names_one net n w x y ok h k = absurd h

gives_one : (net : Net) (n : ℕ) (row : Row) (x y : Step) → IsAccepted net → Gives net n (run_row row) (Does x)
    → Gives net n (run_row row) (Does y) → x ≡ y
gives_one net n row x y ok h k =
    let w = same_value (run_row row) h.says k.says h.is k.is in
    names_one net n k.says x y ok (subst (λ z. NamesStep net n z x) w h.names) k.names

give_one : (net : Net) (n : ℕ) (rows : List Row) (xs ys : List Step) → IsAccepted net → Give net n rows xs
    → Give net n rows ys → xs ≡ ys
give_one net n [] [] [] ok h k = refl
give_one net n [] [] (y ∷ ys) ok h k = absurd k
give_one net n [] (x ∷ xs) ys ok h k = absurd h
give_one net n (r ∷ rows) [] ys ok h k = absurd h
give_one net n (r ∷ rows) (x ∷ xs) [] ok h k = absurd k
give_one net n (r ∷ rows) (x ∷ xs) (y ∷ ys) ok h k =
    let own : x ≡ y = gives_one net n r x y ok h.0 k.0 in
    let there : Give net (packets_after n x) rows ys =
    subst (λ (z : Step). Give net (packets_after n z) rows ys) (sym own) k.1 in
    ap₂ (λ z zs. z ∷ zs) own (give_one net (packets_after n x) rows xs ys ok h.1 there)

-- ---- what a row is: a step, the end, or wrong
record IsStepRow (net : Net) (row : Row) : Type 0 where
  packets : ℕ
  step : Step
  gives : Gives net packets (run_row row) (Does step)

names_no_end : (net : Net) (n : ℕ) (t : ℚ) (x : Step) → NamesStep net n (end_row t) x → ⊥
names_no_end net n t (Enter f p u b) h = h
names_no_end net n t (Reach s p u) h = h
names_no_end net n t (Work s p a b w) h = h
names_no_end net n t (Leave s p u) h = h
names_no_end net n t (Visit s q u) h = h

step_no_end : (net : Net) (row : Row) → IsStepRow net row → IsEnd row → ⊥
step_no_end net row h e =
    let w = same_value (run_row row) h.gives.says (end_row e.time) h.gives.is e.is in
    names_no_end net h.packets e.time h.step (subst (λ z. NamesStep net h.packets z h.step) w h.gives.names)

names_unknown : (net : Net) (n : ℕ) (w : RunRow) (x : Step) → IsUnknown net w → NamesStep net n w x → ⊥
names_unknown net n (enter_row time flow bits) (Enter f p t b) u h = u f h.3
names_unknown net n (reach_row time server packet) (Reach s p t) u h = u s h.2
names_unknown net n (work_row server packet start end bits) (Work s p a b w) u h = u s h.4
names_unknown net n (leave_row time server packet) (Leave s p t) u h = u s h.2
names_unknown net n (visit_row time server queue) (Visit s q t) u h = u s h.2
names_unknown net n w x u h = h

step_not_wrong : (net : Net) (row : Row) (kind : RunKind) → IsStepRow net row → IsWrongIn net (run_row row) kind → ⊥
step_not_wrong net row kind h (inl bad) = not_both_ways (run_row row) h.gives.says kind h.gives.is bad
step_not_wrong net row kind h (inr bad) =
    let s = bad.1 in
    let w = same_value (run_row row) s.says h.gives.says s.is h.gives.is in
    names_unknown net h.packets h.gives.says h.step (subst (IsUnknown net) w s.unknown) h.gives.names

end_not_wrong : (net : Net) (row : Row) (kind : RunKind) → IsEnd row → IsWrongIn net (run_row row) kind → ⊥
end_not_wrong net row kind e (inl bad) = not_both_ways (run_row row) (end_row e.time) kind e.is bad
end_not_wrong net row kind e (inr bad) =
    let s = bad.1 in
    subst (IsUnknown net) (same_value (run_row row) s.says (end_row e.time) s.is e.is) s.unknown

-- two names of one fault by itself
one_wrong : (net : Net) (row : Row) (kind other : RunKind) → IsWrongIn net (run_row row) kind
    → IsWrongIn net (run_row row) other → kind ≡ other
one_wrong net row kind other (inl h) (inl k) = same_kind (run_row row) kind other h k
one_wrong net row kind other (inl h) (inr k) = absurd (not_both_ways (run_row row) k.1.says kind k.1.is h)
one_wrong net row kind other (inr h) (inl k) = absurd (not_both_ways (run_row row) h.1.says other h.1.is k)
one_wrong net row kind other (inr h) (inr k) = h.0 ∙ sym k.0

-- ---- rows among others
step_at : (net : Net) (n : ℕ) (b : List Row) (row : Row) (m : List Row) (xs : List Step) → Give net n (b ++ row ∷ m) xs
    → IsStepRow net row
step_at net n [] row m [] h = absurd h
step_at net n [] row m (x ∷ xs) h = record { packets = n; step = x; gives = h.0 }
step_at net n (r ∷ b) row m [] h = absurd h
step_at net n (r ∷ b) row m (x ∷ xs) h = step_at net (packets_after n x) b row m xs h.1

steps_at : (net : Net) (rows b : List Row) (row : Row) (m : List Row) → rows ≡ b ++ row ∷ m → GiveSteps net rows
    → IsStepRow net row
steps_at net rows b row m e h = step_at net 0 b row m h.steps (subst (λ rs. Give net 0 rs h.steps) e h.give)

-- rows that give steps, and maybe then the end
abbrev Go : Net → List Row → Type 0
Go net rows = GiveSteps net rows ⊎ GiveAll net rows

-- a row among them is a step or the end
go_at : (net : Net) (rows b : List Row) (row : Row) (m : List Row) → rows ≡ b ++ row ∷ m → Go net rows
    → IsStepRow net row ⊎ IsEnd row
go_at net rows b row m e (inl h) = inl (steps_at net rows b row m e h)
go_at net rows b row m e (inr h) = go (places b row m h.before h.last [] (sym e ∙ h.rows_are))
  where
    go : Places b row h.before h.last → IsStepRow net row ⊎ IsEnd row
    go (same a is) = inr (subst IsEnd (sym is) h.end)
    go (sooner k a) = inl (steps_at net h.before b row k a h.steps)
    go (later k a) =
        let n = ap length e in
        let l = length-append b (row ∷ m) in
        let p = ap length h.rows_are in
        let q = length-append h.before (h.last ∷ []) in
        let r = ap length a in
        let s = length-append h.before (h.last ∷ k) in
        absurd (omega (arith, n, l, p, q, r, s))

-- one before another is a step
go_before : (net : Net) (rows b : List Row) (row next : Row) (m : List Row) → rows ≡ b ++ row ∷ next ∷ m → Go net rows
    → IsStepRow net row
go_before net rows b row next m e (inl h) = steps_at net rows b row (next ∷ m) e h
go_before net rows b row next m e (inr h) = go (places b row (next ∷ m) h.before h.last [] (sym e ∙ h.rows_are))
  where
    go : Places b row h.before h.last → IsStepRow net row
    go (same a is) =
        let n = ap length e in
        let l = length-append b (row ∷ next ∷ m) in
        let p = ap length h.rows_are in
        let q = length-append h.before (h.last ∷ []) in
        let r = ap length a in
        absurd (omega (arith, n, l, p, q, r))
    go (sooner k a) = steps_at net h.before b row k a h.steps
    go (later k a) =
        let n = ap length e in
        let l = length-append b (row ∷ next ∷ m) in
        let p = ap length h.rows_are in
        let q = length-append h.before (h.last ∷ []) in
        let r = ap length a in
        let s = length-append h.before (h.last ∷ k) in
        absurd (omega (arith, n, l, p, q, r, s))

-- rows that give steps have no end
steps_or_all : (net : Net) (rows : List Row) → GiveSteps net rows → GiveAll net rows → ⊥
steps_or_all net rows h k =
    step_no_end net k.last (steps_at net rows k.before k.last [] k.rows_are h) k.end

-- it goes wrong with every continuation
wrong_within : (net : Net) (b : List Row) (row : Row) (m : List Row) (kind : RunKind) → length b < most_rows
    → IsWrong net b row kind → Go net (b ++ row ∷ m) → ⊥
wrong_within net b row m kind few (inl late) go = not-le_of_lt few late.1
wrong_within net b row m kind few (inr (inl behind)) go =
    let a = behind.2 in
    let parted : b ++ row ∷ m ≡ a.before ++ a.last ∷ row ∷ m =
    ap (λ (rs : List Row). rs ++ row ∷ m) a.rows_are ∙ append_assoc a.before (a.last ∷ []) (row ∷ m) in
    step_no_end net a.last (go_before net (b ++ row ∷ m) a.before a.last row m parted go) a.end
wrong_within net b row m kind few (inr (inr bad)) go = elim (go_at net (b ++ row ∷ m) b row m refl go) [
  | inl step ↦ step_not_wrong net row kind step bad.2
  | inr end ↦ end_not_wrong net row kind end bad.2
]

wrong_goes : (net : Net) (b : List Row) (row : Row) (kind : RunKind) → IsWrong net b row kind → Go net b
wrong_goes net b row kind (inl late) = late.2
wrong_goes net b row kind (inr (inl behind)) = inr behind.2
wrong_goes net b row kind (inr (inr bad)) = inl bad.1

one_kind : (net : Net) (b : List Row) (row : Row) (kind other : RunKind) → IsWrong net b row kind
    → IsWrong net b row other → kind ≡ other
one_kind net b row kind other (inl h) (inl k) = h.0 ∙ sym k.0
one_kind net b row kind other (inl h) (inr (inl k)) = absurd (not-le_of_lt k.1 h.1)
one_kind net b row kind other (inl h) (inr (inr k)) = absurd (not-le_of_lt k.0 h.1)
one_kind net b row kind other (inr (inl h)) (inl k) = absurd (not-le_of_lt h.1 k.1)
one_kind net b row kind other (inr (inl h)) (inr (inl k)) = h.0 ∙ sym k.0
one_kind net b row kind other (inr (inl h)) (inr (inr k)) = absurd (steps_or_all net b k.1 h.2)
one_kind net b row kind other (inr (inr h)) (inl k) = absurd (not-le_of_lt h.0 k.1)
one_kind net b row kind other (inr (inr h)) (inr (inl k)) = absurd (steps_or_all net b h.1 k.2)
one_kind net b row kind other (inr (inr h)) (inr (inr k)) = one_wrong net row kind other h.2 k.2

-- ---- first faults
-- no wrong row is among rows that give steps, and maybe then the end
none_wrong : (net : Net) (text : List ℕ) (kind : RunKind) (number : ℕ) → length (rows_of text) ≤ most_rows
    → Go net (rows_of text) → IsWrongRow net text kind number → ⊥
none_wrong net text kind number few go f =
    let n = ap length f.rows_are in
    let l = length-append f.before (f.row ∷ f.after) in
    let below : length f.before < most_rows = omega (arith, n, l, few) in
    wrong_within net f.before f.row f.after kind below f.wrong (subst (Go net) f.rows_are go)

-- of two wrong rows neither is before the other
not_sooner : (net : Net) (b : List Row) (row : Row) (m c : List Row) (kind : RunKind) → IsWrong net b row kind
    → c ≡ b ++ row ∷ m → length c ≤ most_rows → Go net c → ⊥
not_sooner net b row m c kind wrong e few go =
    let n = ap length e in
    let l = length-append b (row ∷ m) in
    let below : length b < most_rows = omega (arith, n, l, few) in
    wrong_within net b row m kind below wrong (subst (Go net) e go)

wrong_one : (net : Net) (text : List ℕ) (kind other : RunKind) (row another : ℕ) → IsWrongRow net text kind row
    → IsWrongRow net text other another → (kind ≡ other) × (row ≡ another)
wrong_one net text kind other row another f g =
    go (places f.before f.row f.after g.before g.row g.after (sym f.rows_are ∙ g.rows_are))
  where
    go : Places f.before f.row g.before g.row → (kind ≡ other) × (row ≡ another)
    go (same a is) =
        let there : IsWrong net g.before g.row kind =
        subst (λ r. IsWrong net g.before r kind) is (subst (λ b. IsWrong net b f.row kind) a f.wrong) in (
          one_kind net g.before g.row kind other there g.wrong,
          f.place ∙ (ap (λ (b : List Row). suc (length b)) a ∙ sym g.place),
        )
    go (sooner m a) =
        absurd (not_sooner net f.before f.row m g.before kind f.wrong a g.few
        (wrong_goes net g.before g.row other g.wrong))
    go (later m a) =
        absurd (not_sooner net g.before g.row m f.before other g.wrong a f.few
        (wrong_goes net f.before f.row kind f.wrong))

fault_one : (net : Net) (text : List ℕ) → HasOneFault net text
fault_one net text kind other row another (inl f) (inl g) = wrong_one net text kind other row another f g
fault_one net text kind other row another (inl f) (inr g) =
    absurd (none_wrong net text kind row g.few (inl g.steps) f)
fault_one net text kind other row another (inr f) (inl g) =
    absurd (none_wrong net text other another f.few (inl f.steps) g)
fault_one net text kind other row another (inr f) (inr g) = (f.kind_is ∙ sym g.kind_is, f.place ∙ sym g.place)

-- ---- runs
all_of : (net : Net) (rows : List Row) (run : SpecRun) → IsRunOf net rows run → GiveAll net rows
all_of net rows run h = record {
  before = h.before;
  last = h.last;
  rows_are = h.rows_are;
  steps = record { steps = run.steps; give = h.give };
  end = record { time = run.end; is = h.ends };
}

not_both : (net : Net) (text : List ℕ) → HasNotBoth net text
not_both net text run kind row h (inl f) =
    none_wrong net text kind row h.few (inr (all_of net (rows_of text) run h)) f
not_both net text run kind row h (inr f) =
    steps_or_all net (rows_of text) f.steps (all_of net (rows_of text) run h)

end_value : (row : Row) (t u : ℚ) → run_row row ≡ Ok (end_row t) → run_row row ≡ Ok (end_row u) → t ≡ u
end_value row t u h k = let e = same_value (run_row row) (end_row t) (end_row u) h k in cc

one_run : (x y : SpecRun) → x.steps ≡ y.steps → x.end ≡ y.end → x ≡ y
one_run x y steps end =
    ap (λ xs. let r : SpecRun = record { steps = xs; end = x.end } in r) steps
    ∙ ap (λ t. let r : SpecRun = record { steps = y.steps; end = t } in r) end

run_one : (net : Net) (text : List ℕ) → IsAccepted net → HasOneRun net text
run_one net text ok x y h k = go (places h.before h.last [] k.before k.last [] (sym h.rows_are ∙ k.rows_are))
  where
    lengths : length h.before ≡ length k.before
    lengths =
        let n = ap length h.rows_are in
        let l = length-append h.before (h.last ∷ []) in
        let p = ap length k.rows_are in
        let q = length-append k.before (k.last ∷ []) in
        omega (arith, n, l, p, q)

    go : Places h.before h.last k.before k.last → x ≡ y
    go (same a is) =
        let steps = give_one net 0 k.before x.steps y.steps ok (subst (λ b. Give net 0 b x.steps) a h.give) k.give in
        let end = end_value k.last x.end y.end (subst (λ r. run_row r ≡ Ok (end_row x.end)) is h.ends) k.ends in
        one_run x y steps end
    go (sooner m a) =
        let n = ap length a in
        let l = length-append h.before (h.last ∷ m) in
        let e = lengths in
        absurd (omega (arith, n, l, e))
    go (later m a) =
        let n = ap length a in
        let l = length-append k.before (k.last ∷ m) in
        let e = lengths in
        absurd (omega (arith, n, l, e))

pub readings_are_one : ReadingsAreOne
readings_are_one net text ok = record {
  run = run_one net text ok;
  fault = fault_one net text;
  not_both = not_both net text;
}
