-- The run that a text gives is a recorded run.
use Rattle.std.proofs.Common.{◌≡◌, ℕ, zero, suc, ◌<◌, ◌≤◌, List, [], ◌∷◌, length, map, get_or, Option, Some, None, Ok, Err, Bool, true, false, inl, inr, refl, sym, ap, subst, ◌∙◌, arith, length-append}
use Rattle.std.specs.Prelude.{ℤ, pos, negsuc, nat_le, ◌&&◌, ◌==◌, not, if◌then◌else◌, ok_or, slice_get}
use Rattle.std.specs.List.{AllByRecursion}
use Rattle.std.proofs.lemmas.List.{length-map}
use Rattle.std.proofs.lemmas.Bool.Decides.{nat_tests}
use Rattle.std.proofs.lemmas.Option.{slice_get_within, same_Some, none-some, option_and_then_some, cond_some}
use Rattle.rational.specs.Rational.{ℚ, ◌≤ℚ◌}
use Rattle.rational.proofs.Laws.{le_or_lt}
use Rattle.rational.proofs.MinMax.{lt_q_not}
use Rattle.rational.proofs.Over.{lt_q_out}
use Rattle.min_plus.specs.Functions.{zero_q}
use Rattle.run_laws.specs.declared.steps.Step.{Step}
use Rattle.run_laws.specs.declared.steps.Step.TheVariants.{Enter, Reach, Work, Leave, Visit}
use Rattle.run_laws.specs.Routes.{Route}
use Rattle.run_laws.specs.Views.{Entry, entered_after}
use Rattle.net_model.specs.Names.{IsServerNamed}
use Rattle.net_model.specs.Networks.{Net, NetFlow}
use Rattle.net_model.specs.NetRoutes.{routes_of, route_for, server_for}
use Rattle.run_check.specs.broken_laws.Recorded.{IsRecordedStep, AreRecorded}
use Rattle.input_texts.specs.table_text.Fields.{time_in, not_below_zero, number_in, bits_in, length_of, whole_in}
use Rattle.input_texts.specs.table_text.Rows.{Row, field, is_plain}
use Rattle.run_check.specs.declared.run_table.fault.RunKind.{RunKind}
use Rattle.run_check.specs.declared.run_table.fault.RunKind.TheVariants.{T1, T2, T3, T4}
use Rattle.run_check.specs.declared.run_table.run_rows.RunEntry.TheVariants.{Does}
use Rattle.run_check.specs.declared.run_table.run_rows.RunWord.{RunWord}
use Rattle.run_check.specs.declared.run_table.run_rows.RunWord.TheVariants as words
use Rattle.run_check.specs.run_table.RunRows.{Read, and_then, RunRow, enter_row, reach_row, work_row, leave_row, visit_row, end_row, run_word, fields_for, index_in, enter_of, reach_of, work_of, leave_of, visit_of, end_of, row_with, run_row, NamesStep, Gives}
use Rattle.run_check.specs.run_table.Runs.{packets_after, Give}
use Rattle.run_check.specs.run_table.ReadRuns.{IsFromZero, RunsReadAreRecorded}

-- ---- fields
from_zero : (x t : ℚ) → not_below_zero x ≡ Some t → zero_q ≤ℚ t
from_zero x t h = elim (le_or_lt zero_q x) [
  | inl up ↦
      let e = ap (λ (b : Bool). if b then None else Some x) (lt_q_not x zero_q up) in
      subst (λ y. zero_q ≤ℚ y) (same_Some x t (sym e ∙ h)) up
  | inr down ↦
      let e = ap (λ (b : Bool). if b then None else Some x) (lt_q_out x zero_q down) in
      absurd (none-some t (sym e ∙ h))
]

time_from : (text : List ℕ) (t : ℚ) → time_in text ≡ Some t → zero_q ≤ℚ t
time_from text t h = option_and_then_some not_below_zero (number_in text) t h (λ x is here. from_zero x t here)

one_or_more : (n : ℕ) → (nat_le 1 n && nat_le n 16777216) ≡ true → 1 ≤ n
one_or_more n h = grind (arith, nat_tests)

some_bits : (z : ℤ) (b : ℕ) → length_of z ≡ Some b → 1 ≤ b
some_bits (pos n) b h =
    let c = cond_some (nat_le 1 n && nat_le n 16777216) n b h in
    subst (λ m. 1 ≤ m) c.1 (one_or_more n c.0)
some_bits (negsuc n) b h = absurd (none-some b h)

bits_from : (text : List ℕ) (b : ℕ) → bits_in text ≡ Some b → 1 ≤ b
bits_from text b h = option_and_then_some length_of (whole_in text) b h (λ z is here. some_bits z b here)

-- ---- rows
-- what a row says has times from 0 on, and packets of some bits
abbrev Says : RunRow → Type 0
Says (enter_row time flow bits) = (zero_q ≤ℚ time) × (1 ≤ bits)
Says (reach_row time server packet) = zero_q ≤ℚ time
Says (work_row server packet start end bits) = (zero_q ≤ℚ start) × (zero_q ≤ℚ end)
Says (leave_row time server packet) = zero_q ≤ℚ time
Says (visit_row time server queue) = zero_q ≤ℚ time
Says (end_row time) = zero_q ≤ℚ time

abbrev Tells : Read RunRow → Type 0
Tells (Ok w) = Says w
Tells (Err kind) = Unit {0}

then_tells : {X : Type 0} (o : Option X) (kind : RunKind) (next : X → Read RunRow)
    → ((x : X) → o ≡ Some x → Tells (next x)) → Tells (and_then (ok_or o kind) next)
then_tells (Some x) kind next h = h x refl
then_tells None kind next h = tt

else_tells : (b : Bool) (kind : RunKind) (next : Read RunRow) → Tells next → Tells (if b then Err kind else next)
else_tells true kind next h = tt
else_tells false kind next h = h

enter_tells : (row : Row) → Tells (enter_of row)
enter_tells row =
    then_tells (time_in (field row 1)) T4 _ (λ time is_time.
    then_tells (bits_in (field row 3)) T4 _ (λ bits is_bits.
    (time_from (field row 1) time is_time, bits_from (field row 3) bits is_bits)))

reach_tells : (row : Row) → Tells (reach_of row)
reach_tells row =
    then_tells (time_in (field row 1)) T4 _ (λ time is_time.
    then_tells (index_in (field row 3)) T4 _ (λ packet is. time_from (field row 1) time is_time))

work_tells : (row : Row) → Tells (work_of row)
work_tells row =
    then_tells (index_in (field row 2)) T4 _ (λ packet is.
    then_tells (time_in (field row 3)) T4 _ (λ start is_start.
    then_tells (time_in (field row 4)) T4 _ (λ end is_end.
    then_tells (number_in (field row 5)) T4 _ (λ bits are.
    (time_from (field row 3) start is_start, time_from (field row 4) end is_end)))))

leave_tells : (row : Row) → Tells (leave_of row)
leave_tells row =
    then_tells (time_in (field row 1)) T4 _ (λ time is_time.
    then_tells (index_in (field row 3)) T4 _ (λ packet is. time_from (field row 1) time is_time))

visit_tells : (row : Row) → Tells (visit_of row)
visit_tells row =
    then_tells (time_in (field row 1)) T4 _ (λ time is_time.
    then_tells (index_in (field row 3)) T4 _ (λ queue is. time_from (field row 1) time is_time))

end_tells : (row : Row) → Tells (end_of row)
end_tells row = then_tells (time_in (field row 1)) T4 _ (λ time is_time. time_from (field row 1) time is_time)

with_tells : (word : RunWord) (row : Row) → Tells (row_with word row)
with_tells words.Enter row = enter_tells row
with_tells words.Reach row = reach_tells row
with_tells words.Work row = work_tells row
with_tells words.Leave row = leave_tells row
with_tells words.Visit row = visit_tells row
with_tells words.End row = end_tells row

row_tells : (row : Row) → Tells (run_row row)
unfolding run_row
row_tells row =
    else_tells (not (is_plain row)) T1 _ (then_tells (run_word (field row 0)) T2 _ (λ word is.
    else_tells (not (length row == fields_for word)) T3 (row_with word row) (with_tells word row)))

row_says : (row : Row) (w : RunRow) → run_row row ≡ Ok w → Says w
row_says row w is = subst Tells is (row_tells row)

-- ---- names
live_flow : (flows : List (Option NetFlow)) (f : ℕ) (flow : NetFlow) (d : Route) → slice_get flows f ≡ Some (Some flow)
    → (get_or (map route_for flows) f d).live ≡ true
live_flow [] f flow d h = absurd (none-some (Some flow) h)
live_flow (x ∷ xs) zero flow d h =
    ap (λ (o : Option NetFlow). (route_for o).live) (same_Some x (Some flow) h)
live_flow (x ∷ xs) (suc f) flow d h = live_flow xs f flow d h

known : (net : Net) (name : List ℕ) (s : ℕ) → IsServerNamed net.servers name s → s < length (routes_of net).servers
known net name s h =
    let there = slice_get_within net.servers s h.server h.is in
    let same = length-map net.servers (server_for net.version) in
    omega (arith, there, same)

-- ---- steps
record IsStep (net : Net) (entered : List Entry) (x : Step) : Type 0 where
  recorded : IsRecordedStep (routes_of net) entered x
  times : IsFromZero x

named : (net : Net) (n : ℕ) (entered : List Entry) (w : RunRow) (x : Step) → n ≡ length entered → Says w
    → NamesStep net n w x → IsStep net entered x
named net n entered (enter_row time flow bits) (Enter f p t b) count says h =
    let none : Route = record { live = false; hops = [] } in
    record {
      recorded = record {
        in_turn = h.2 ∙ count;
        is_live = live_flow net.flows f h.3.flow none h.3.is;
        some_bits = subst (λ m. 1 ≤ m) (sym h.1) says.1;
      };
      times = subst (λ y. zero_q ≤ℚ y) (sym h.0) says.0;
    }
named net n entered (reach_row time server packet) (Reach s p t) count says h = record {
  recorded = known net server s h.2;
  times = subst (λ y. zero_q ≤ℚ y) (sym h.0) says;
}
named net n entered (work_row server packet start end bits) (Work s p a b w) count says h = record {
  recorded = known net server s h.4;
  times = (subst (λ y. zero_q ≤ℚ y) (sym h.1) says.0, subst (λ y. zero_q ≤ℚ y) (sym h.2) says.1);
}
named net n entered (leave_row time server packet) (Leave s p t) count says h = record {
  recorded = known net server s h.2;
  times = subst (λ y. zero_q ≤ℚ y) (sym h.0) says;
}
named net n entered (visit_row time server queue) (Visit s q t) count says h = record {
  recorded = known net server s h.2;
  times = subst (λ y. zero_q ≤ℚ y) (sym h.0) says;
}
named net n entered w x count says h = absurd h

step_is : (net : Net) (n : ℕ) (entered : List Entry) (row : Row) (x : Step) → n ≡ length entered
    → Gives net n (run_row row) (Does x) → IsStep net entered x
step_is net n entered row x count h = named net n entered h.says x count (row_says row h.says h.is) h.names

counted : (n : ℕ) (entered : List Entry) (x : Step) → n ≡ length entered
    → packets_after n x ≡ length (entered_after entered x)
counted n entered (Enter f p t b) count =
    let e : Entry = record { flow = f; bits = b } in
    let more = length-append entered (e ∷ []) in
    omega (arith, more, count)
counted n entered (Reach s p t) count = count
counted n entered (Work s p a b w) count = count
counted n entered (Leave s p t) count = count
counted n entered (Visit s q t) count = count

-- ---- all steps
record AreSteps (net : Net) (entered : List Entry) (xs : List Step) : Type 0 where
  recorded : AreRecorded (routes_of net) entered xs
  times : AllByRecursion IsFromZero xs

steps_are : (net : Net) (n : ℕ) (entered : List Entry) (rows : List Row) (xs : List Step) → n ≡ length entered
    → Give net n rows xs → AreSteps net entered xs
steps_are net n entered [] [] count h = record { recorded = tt; times = tt }
steps_are net n entered [] (x ∷ xs) count h = absurd h
steps_are net n entered (r ∷ rows) [] count h = absurd h
steps_are net n entered (r ∷ rows) (x ∷ xs) count h =
    let own = step_is net n entered r x count h.0 in
    let others =
    steps_are net (packets_after n x) (entered_after entered x) rows xs (counted n entered x count) h.1 in
    record { recorded = (own.recorded, others.recorded); times = (own.times, others.times) }

as_many : (net : Net) (n : ℕ) (rows : List Row) (xs : List Step) → Give net n rows xs → length xs ≡ length rows
as_many net n [] [] h = refl
as_many net n [] (x ∷ xs) h = absurd h
as_many net n (r ∷ rows) [] h = absurd h
as_many net n (r ∷ rows) (x ∷ xs) h =
    let rest = as_many net (packets_after n x) rows xs h.1 in
    ap suc rest

pub runs_read_are_recorded : RunsReadAreRecorded
runs_read_are_recorded net rows run h =
    let steps = steps_are net 0 [] h.before run.steps refl h.give in
    let many = as_many net 0 h.before run.steps h.give in
    let all = length-append h.before (h.last ∷ []) in
    let same = ap length h.rows_are in
    let few = h.few in
    record {
      recorded = steps.recorded;
      times = steps.times;
      end = row_says h.last (end_row run.end) h.ends;
      few = omega (arith, many, all, same, few);
    }
