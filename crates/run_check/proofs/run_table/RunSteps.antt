-- One row after another.
use Rattle.std.proofs.Common.{Option, Some, None, MatchOption, ⊎_elim, eq-or-lt_of_le, ◌≡◌, ◌≢◌, ℕ, suc, ◌+◌, ◌<◌, ◌≤◌, List, [], ◌∷◌, ◌++◌, length, take, drop, get_or, refl, sym, ap, subst, arith, inl, inr, ◌⊎◌, ◌∙◌, append_assoc, take-append-drop, length-take, take_all}
use Rattle.std.proofs.lemmas.List.{take_more, drop_more, get_or_default}
use Rattle.run_laws.specs.declared.steps.Step.{Step}
use Rattle.run_laws.specs.declared.steps.Step.TheVariants.{Enter, Reach, Work, Leave, Visit}
use Rattle.run_laws.specs.Runs.{SpecRun}
use Rattle.rational.specs.Rational.{ℚ}
use Rattle.net_model.specs.Networks.{Net}
use Rattle.run_check.specs.declared.run_table.fault.RunKind.{RunKind}
use Rattle.run_check.specs.declared.run_table.fault.RunKind.TheVariants.{T1, T2, T3, T4, T5, T7, T8, NoMemory}
use Rattle.run_check.specs.declared.run_table.run_rows.RunEntry.TheVariants.{Does}
use Rattle.input_texts.specs.table_text.Rows.{Row, rows_of}
use Rattle.input_texts.specs.table_text.Traces.{most_rows}
use Rattle.input_texts.proofs.table_text.TraceSteps.{all_taken}
use Rattle.run_check.specs.run_table.RunRows.{run_row, Gives}
use Rattle.run_check.specs.run_table.Runs.{packets_after, Give, GiveSteps, GiveAll, IsRunOf, IsWrong, IsFirstFault}
use Rattle.run_check.specs.run_table.Rounds.{AddsStep, SaysEnd, IsWrongNext, IsBehindEnd}

-- ---- results
pub when_none : {X : Type 0} {A : Type 0} (B : X → Type 0) (o : Option X) → o ≡ None → MatchOption o A B → A
when_none B None is h = h
when_none B (Some x) is h = let bad : ⊥ = cc in absurd bad

pub when_some : {X : Type 0} (A : Type 0) (B : X → Type 0) (o : Option X) (x : X) → o ≡ Some x → MatchOption o A B → B x
when_some {X} A B o x is h = subst (λ (p : Option X). MatchOption p A B) is h

pub memory_or : (kind : RunKind) → (kind ≡ NoMemory) ⊎ (kind ≢ NoMemory)
memory_or NoMemory = inl refl
memory_or T1 = inr (λ e. let bad : ⊥ = cc in bad)
memory_or T2 = inr (λ e. let bad : ⊥ = cc in bad)
memory_or T3 = inr (λ e. let bad : ⊥ = cc in bad)
memory_or T4 = inr (λ e. let bad : ⊥ = cc in bad)
memory_or T5 = inr (λ e. let bad : ⊥ = cc in bad)
memory_or T7 = inr (λ e. let bad : ⊥ = cc in bad)
memory_or T8 = inr (λ e. let bad : ⊥ = cc in bad)

-- how many packets have entered after some steps
abbrev pub packets_behind : ℕ → List Step → ℕ
packets_behind n [] = n
packets_behind n (x ∷ xs) = packets_behind (packets_after n x) xs

behind_more : (n : ℕ) (xs : List Step) (x : Step) → packets_behind n (xs ++ x ∷ []) ≡ packets_after (packets_behind n xs) x
behind_more n [] x = refl
behind_more n (y ∷ ys) x = behind_more (packets_after n y) ys x

after_most : (n : ℕ) (x : Step) → packets_after n x ≤ suc n
after_most n (Enter f p t b) = omega arith
after_most n (Reach s p t) = omega arith
after_most n (Work s p a b w) = omega arith
after_most n (Leave s p t) = omega arith
after_most n (Visit s q t) = omega arith

pub give_more : (net : Net) (n : ℕ) (rows : List Row) (xs : List Step) (row : Row) (x : Step) → Give net n rows xs → Gives net (packets_behind n xs) (run_row row) (Does x) → Give net n (rows ++ row ∷ []) (xs ++ x ∷ [])
give_more net n [] [] row x h g = (g, tt)
give_more net n [] (y ∷ ys) row x h g = absurd h
give_more net n (r ∷ rows) [] row x h g = absurd h
give_more net n (r ∷ rows) (y ∷ ys) row x h g = (h.0, give_more net (packets_after n y) rows ys row x h.1 g)

-- ---- the loop over the rows
-- what the rows before a place have given
pub record IsSoFar (net : Net) (rows : List Row) (k packets : ℕ) (steps : List Step) : Type 0 where
  pub give : Give net 0 (take k rows) steps
  pub packets_are : packets ≡ packets_behind 0 steps
  pub few : packets ≤ k
  pub room : k ≤ most_rows

behind_one : (rows : List Row) (k : ℕ) (row : Row) → k < length rows → get_or rows k row ≡ row → take (k + 1) rows ≡ take k rows ++ row ∷ []
behind_one rows k row within is = take_more rows k row within ∙ ap (λ (x : Row). take k rows ++ x ∷ []) is

pub so_far_more : (net : Net) (rows : List Row) (k : ℕ) (row : Row) (packets : ℕ) (steps : List Step) (packets2 : ℕ) (steps2 : List Step) → k < length rows → get_or rows k row ≡ row
    → IsSoFar net rows k packets steps → AddsStep net k packets row steps packets2 steps2 → IsSoFar net rows (k + 1) packets2 steps2
so_far_more net rows k row packets steps packets2 steps2 within is so adds =
    let x = adds.step in
    let gives = subst (λ (p : ℕ). Gives net p (run_row row) (Does x)) so.packets_are adds.gives in
    let given = give_more net 0 (take k rows) steps row x so.give gives in
    let there = subst (λ (rs : List Row). Give net 0 rs (steps ++ x ∷ [])) (sym (behind_one rows k row within is)) given in
    record {
      give = subst (λ (xs : List Step). Give net 0 (take (k + 1) rows) xs) (sym adds.steps_are) there;
      packets_are = adds.packets_are ∙ (ap (λ (p : ℕ). packets_after p x) so.packets_are ∙ (sym (behind_more 0 steps x) ∙ ap (packets_behind 0) (sym adds.steps_are)));
      few = let a = after_most packets x in let e = adds.packets_are in let f = so.few in omega (arith, a, e, f);
      room = let r = adds.room in omega (arith, r);
    }

-- ---- at the end
-- no more rows than were asked for: they are all

all_there : (text : List ℕ) (rows : List Row) → rows ≡ take 10001 (rows_of text) → length rows ≤ 10000 → rows ≡ rows_of text
all_there text rows is few = is ∙ all_taken (rows_of text) (subst (λ (rs : List Row). length rs ≤ 10000) is few)

pub so_far_run : (net : Net) (text : List ℕ) (rows : List Row) (k : ℕ) (row : Row) (packets : ℕ) (steps steps2 : List Step) (run : SpecRun) → rows ≡ take 10001 (rows_of text)
    → k < length rows → get_or rows k row ≡ row → IsSoFar net rows k packets steps → SaysEnd k row steps steps2 run.end → run.steps ≡ steps2 → k + 1 ≡ length rows → IsRunOf net (rows_of text) run
so_far_run net text rows k row packets steps steps2 run is within at so says same last =
    let room = says.room in
    let few : length rows ≤ 10000 = omega (arith, room, last) in
    let all = all_there text rows is few in
    let whole : take (k + 1) rows ≡ rows = take_all (k + 1) rows (omega (arith, last)) in
    record {
      before = take k rows;
      last = row;
      rows_are = sym all ∙ (sym whole ∙ behind_one rows k row within at);
      give = subst (λ (xs : List Step). Give net 0 (take k rows) xs) (sym (same ∙ says.steps_are)) so.give;
      ends = says.is;
      few = subst (λ (rs : List Row). length rs ≤ 10000) all few;
    }

-- ---- faults
-- the row at a place of the first rows, and those around it in the text
module _ (net : Net) (text : List ℕ) (rows : List Row) (k : ℕ) (row : Row) (is : rows ≡ take 10001 (rows_of text)) (within : k < length rows) (at : get_or rows k row ≡ row) where
  parted : rows_of text ≡ take k rows ++ row ∷ (drop (k + 1) rows ++ drop 10001 (rows_of text))
  parted =
      let rest = drop 10001 (rows_of text) in
      let here : drop k rows ≡ row ∷ drop (k + 1) rows = drop_more rows k row within ∙ ap (λ (x : Row). x ∷ drop (k + 1) rows) at in
      let cut : rows ≡ take k rows ++ (row ∷ drop (k + 1) rows) = sym (take-append-drop k rows) ∙ ap (λ (rs : List Row). take k rows ++ rs) here in
      sym (take-append-drop 10001 (rows_of text)) ∙ (ap (λ rs. rs ++ rest) (sym is ∙ cut) ∙ append_assoc (take k rows) (row ∷ drop (k + 1) rows) rest)

  so_many : length (take k rows) ≡ k
  so_many = let m = length-take k rows in omega (arith, m, within)

  fault_there : (kind : RunKind) (number : ℕ) → k ≤ most_rows → number ≡ k + 1 → IsWrong net (take k rows) row kind → IsFirstFault net text kind number
  fault_there kind number room place wrong = inl (record {
    before = take k rows;
    row = row;
    after = drop (k + 1) rows ++ drop 10001 (rows_of text);
    rows_are = parted;
    place = let n = so_many in let e : number ≡ suc (length (take k rows)) = omega (arith, n, place) in e;
    few = subst (λ (m : ℕ). m ≤ most_rows) (sym so_many) room;
    wrong = wrong;
  })

  pub so_far_fault : (packets : ℕ) (steps : List Step) (kind : RunKind) (number : ℕ) → IsSoFar net rows k packets steps → IsWrongNext net k row kind → number ≡ k + 1 → IsFirstFault net text kind number
  so_far_fault packets steps kind number so wrong place =
      let gs : GiveSteps net (take k rows) = record { steps = steps; give = so.give } in
      let n = so_many in
      fault_there kind number so.room place (⊎_elim
      (λ late. inl (late.0, subst (λ (m : ℕ). most_rows ≤ m) (sym n) late.1, inl gs))
      (λ bad. inr (inr (subst (λ (m : ℕ). m < most_rows) (sym n) bad.0, gs, bad.1)))
      wrong)

  -- the row behind that of the end
  pub behind_fault : (kind : RunKind) (number : ℕ) → k ≤ most_rows → GiveAll net (take k rows) → IsBehindEnd k kind → number ≡ k + 1 → IsFirstFault net text kind number
  behind_fault kind number room ga wrong place =
      let n = so_many in
      fault_there kind number room place (⊎_elim
      (λ late. inl (late.0, subst (λ (m : ℕ). most_rows ≤ m) (sym n) late.1, inr ga))
      (λ bad. inr (inl (bad.0, subst (λ (m : ℕ). m < most_rows) (sym n) bad.1, ga)))
      wrong)

pub so_far_behind : (net : Net) (text : List ℕ) (rows : List Row) (k : ℕ) (row : Row) (packets : ℕ) (steps steps2 : List Step) (end : ℚ) (kind : RunKind) (number : ℕ) → rows ≡ take 10001 (rows_of text)
    → k < length rows → get_or rows k row ≡ row → IsSoFar net rows k packets steps → SaysEnd k row steps steps2 end → k + 1 ≢ length rows → IsBehindEnd (k + 1) kind → number ≡ k + 1 + 1
    → IsFirstFault net text kind number
so_far_behind net text rows k row packets steps steps2 end kind number is within at so says more wrong place =
    let next = get_or rows (k + 1) [] in
    let below : k + 1 < length rows = ⊎_elim (λ same. absurd (more same)) (λ less. less) (eq-or-lt_of_le (let e : k + 1 ≤ length rows = omega (arith, within) in e)) in
    let same : get_or rows (k + 1) next ≡ next = get_or_default rows (k + 1) next [] below in
    let ga : GiveAll net (take (k + 1) rows) = record {
      before = take k rows;
      last = row;
      rows_are = behind_one rows k row within at;
      steps = record { steps = steps; give = so.give };
      end = record { time = end; is = says.is };
    } in
    let room : k + 1 ≤ most_rows = let r = says.room in omega (arith, r) in
    behind_fault net text rows (k + 1) next is below same kind number room ga wrong place

pub so_far_no_end : (net : Net) (text : List ℕ) (rows : List Row) (k packets : ℕ) (steps : List Step) (kind : RunKind) (number : ℕ) → rows ≡ take 10001 (rows_of text) → length rows ≤ k
    → IsSoFar net rows k packets steps → kind ≡ T8 → number ≡ length rows + 1 → IsFirstFault net text kind number
so_far_no_end net text rows k packets steps kind number is past so kind_is place =
    let room = so.room in
    let few : length rows ≤ 10000 = omega (arith, room, past) in
    let all = all_there text rows is few in
    let whole : take k rows ≡ rows = take_all k rows past in
    let there : length (rows_of text) ≡ length rows = ap length (sym all) in
    inr (record {
      kind_is = kind_is;
      place = let e : number ≡ suc (length (rows_of text)) = omega (arith, place, there) in e;
      few = subst (λ (rs : List Row). length rs ≤ 10000) all few;
      steps = record { steps = steps; give = subst (λ (rs : List Row). Give net 0 rs steps) (whole ∙ all) so.give };
    })
