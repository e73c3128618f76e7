-- What holds of the replies of each command. A new command has a case in each lemma.
use Rattle.std.proofs.Common.{◌≡◌, ◌≢◌, ℕ, List, [], ◌∷◌, inl, inr, sym, ap, ◌∙◌, subst}
use Rattle.upp_limits.specs.declared.own_limits.OverLimit.TheVariants.{TooMany, TooWide}
use Rattle.net_model.specs.Networks.{Net}
use Rattle.net_cells.specs.Meanings.{CellTable}
use Rattle.net_bounds.proofs.Kept.{table_bounds_every_run}
use Rattle.command_replies.specs.Causes.{HasCause}
use Rattle.command_replies.specs.Guarantee.{Guarantees}
use Rattle.command_replies.specs.Replies.{Reply}
use Rattle.command_replies.proofs.Causes.{with_reports}
use Rattle.command_replies.proofs.OneRefusal.{equal}
use Rattle.report_text.specs.declared.json_report.form.Form.{Form}
use Rattle.commands.specs.FileCounts.{IsTold, CountsOnFolds, CountsOnFile, CountsOnRows}
use Rattle.commands.specs.analyse.OnFiles.{IsReportOf, IsReport}
use Rattle.commands.proofs.analyse.Causes as analyse
use Rattle.commands.proofs.analyse.OneReply as analysed
use Rattle.commands.specs.edit.EditCounts as edit_counts
use Rattle.commands.proofs.edit.Causes as edit_statuses
use Rattle.commands.proofs.edit.OneReply as edited
use Rattle.commands.proofs.edit.Promised.{reports_guarantee, replies_are_complete}
use Rattle.commands.specs.simulate.RunCounts as run_counts
use Rattle.command_replies.specs.run_findings.Statuses.{IsOfReport}
use Rattle.commands.proofs.simulate.Causes as run
use Rattle.commands.proofs.simulate.OneReply as simulated
use Rattle.commands.proofs.simulate.Status.{status_tells}
use Rattle.commands.proofs.simulate.Within.{quiet_runs, guarantee}
use Rattle.command_replies.specs.run_findings.CellCounts.{CountsOnCells}
use Rattle.exercise_load.specs.Workloads.{network_of}
use Rattle.commands.proofs.exercise.Causes as exercise
use Rattle.commands.proofs.exercise.OneReply as exercised
use Rattle.commands.proofs.exercise.Within as summaries
use Rattle.commands.specs.check.CheckCounts as check_counts
use Rattle.commands.proofs.check.Causes as check
use Rattle.commands.proofs.check.OneReply as checked
use Rattle.commands.proofs.check.Verdicts.{verdicts}
use Rattle.commands.proofs.check.Within as admissible
use Rattle.commands.specs.measure.MeasureCounts as measure_counts
use Rattle.commands.proofs.measure.Counting.{burst_at}
use Rattle.commands.specs.curve.ScriptCounts as script_counts
use Rattle.commands.proofs.measure.Causes as measure
use Rattle.commands.proofs.measure.OneMeasure as measured
use Rattle.commands.proofs.curve.Causes as curve
use Rattle.commands.proofs.curve.OneReply as calculated
use Rattle.netcalc_cli.specs.Commands.{Command, Analyse, Edit, Simulate, Exercise, Check, Measure, Curve}
use Rattle.netcalc_cli.specs.Commands.{IsReplyTo, IsMalformed, IsOver}
use Rattle.netcalc_cli.specs.Commands.{AreSameTo, IsCyclic, TellsBreach, IsDone, IsAnswerable, IsAnswer, CountsTo}

-- ---- by status
abbrev pub IsByStatus : Command → List (List ℕ) → Reply → Type 0
IsByStatus command files =
    HasCause (IsDone command files) (TellsBreach command files) (IsMalformed command files) (IsOver TooWide command files)
    (IsOver TooMany command files) (IsCyclic command files)

-- no run passes the table of a report
guaranteed : (form : Form) (net : Net) (at : CellTable) (bytes : List ℕ) (reply : Reply) → IsReportOf form net at bytes reply
    → Guarantees net at
guaranteed form net at bytes reply h run keeps =
    table_bounds_every_run net h.order at run h.gives.accepted h.ordered h.meets keeps

report_done : (form : Form) (net bytes : List ℕ) (reply : Reply) → IsReport form bytes reply → IsDone (Analyse form net) (bytes ∷ []) reply
report_done form net bytes reply r = (r.0, r.1, r.2, guaranteed form r.0 r.1 bytes reply r.2)

pub by_command : (command : Command) (files : List (List ℕ)) (reply : Reply) → IsReplyTo command files reply
    → IsByStatus command files reply
by_command (Analyse form net) (bytes ∷ []) reply h =
    let k = analyse.causes form net bytes reply h in
    with_reports reply k (λ e. report_done form net bytes reply (k.done e)) k.breach
by_command (Edit form net edits) (bytes ∷ rows ∷ []) reply h =
    let k = edit_statuses.causes form net bytes edits rows reply h in
    with_reports reply k
    (λ e. let r = k.done e in (r.0, r.1, r.2, reports_guarantee form r.0 r.1 bytes rows reply r.2)) k.breach
by_command (Simulate net trace) (bytes ∷ rows ∷ []) reply h =
    let k = run.causes net bytes trace rows reply h in
    with_reports reply k
    (λ e. let quiet = quiet_runs net bytes trace rows reply h e in (quiet, guarantee bytes rows reply quiet.report))
    (λ e. let r = k.breach e in (r, (status_tells bytes rows reply r).breaks.0 e, guarantee bytes rows reply r))
by_command (Exercise seed) [] reply h =
    let k = exercise.causes seed reply h in
    with_reports reply k
    (λ e. let quiet = summaries.quiet_summaries seed reply h e in
    (quiet, summaries.guarantee seed reply quiet.summary))
    (λ e. let r = k.breach e in
    (r, (summaries.status_tells seed reply r).breaks.0 e, summaries.guarantee seed reply r))
by_command (Check net run) (bytes ∷ rows ∷ []) reply h =
    let k = check.causes net bytes run rows reply h in
    with_reports reply k
    (λ e. let told = admissible.admissible_runs net bytes run rows reply h e in
    (told, admissible.guarantee bytes rows reply told.report))
    (λ e. let r = k.breach e in
    (r, (verdicts bytes rows reply r).refused.0 e, admissible.guarantee bytes rows reply r))
by_command (Measure net trace name rate) (bytes ∷ rows ∷ []) reply h =
    let k = measure.causes net bytes trace rows name rate reply h in
    with_reports reply k
    (λ e. let r = k.done e in
    (r.0, r.1, r.2, r.3, measured.reports_are_least bytes rows name rate r.0 r.1 r.2 reply r.3)) k.breach
by_command (Curve script) (bytes ∷ []) reply h = curve.causes script bytes reply h
by_command command files reply h = absurd h

-- ---- one reply
pub equal_by_command : (command : Command) (x y : Reply) → x ≡ y → AreSameTo command x y
equal_by_command (Analyse form net) x y e = equal x y e
equal_by_command (Edit form net edits) x y e =
    record { status = ap (λ (r : Reply). r.status) e; text = inl (ap (λ (r : Reply). r.bytes) e) }
equal_by_command (Simulate net trace) x y e = equal x y e
equal_by_command (Exercise seed) x y e = equal x y e
equal_by_command (Check net run) x y e = equal x y e
equal_by_command (Measure net trace name rate) x y e = equal x y e
equal_by_command (Curve script) x y e = equal x y e

pub one_by_command : (command : Command) (files : List (List ℕ)) (x y : Reply) → IsReplyTo command files x
    → IsReplyTo command files y → AreSameTo command x y
one_by_command (Analyse form net) (bytes ∷ []) x y h k = analysed.replies_are_determined form net bytes x y h k
one_by_command (Edit form net edits) (bytes ∷ rows ∷ []) x y h k =
    edited.replies_are_determined form net bytes edits rows x y h k
one_by_command (Simulate net trace) (bytes ∷ rows ∷ []) x y h k =
    simulated.replies_are_determined net bytes trace rows x y h k
one_by_command (Exercise seed) [] x y h k = equal x y (exercised.replies_are_determined seed x y h k)
one_by_command (Check net run) (bytes ∷ rows ∷ []) x y h k =
    checked.replies_are_determined net bytes run rows x y h k
one_by_command (Measure net trace name rate) (bytes ∷ rows ∷ []) x y h k =
    equal x y (measured.replies_are_determined net bytes trace rows name rate x y h k)
one_by_command (Curve script) (bytes ∷ []) x y h k =
    equal x y (calculated.replies_are_determined script bytes x y h k)
one_by_command command files x y h k = absurd h

-- ---- on files that can be answered
pub complete_by_command : (command : Command) (files : List (List ℕ)) (reply : Reply) → IsAnswerable command files
    → IsReplyTo command files reply → IsAnswer command reply.status
complete_by_command (Analyse form net) (bytes ∷ []) reply can h = analysed.replies_are_complete form net bytes reply can h
complete_by_command (Edit form net edits) (bytes ∷ rows ∷ []) reply can h =
    replies_are_complete form net bytes edits rows reply can h
complete_by_command (Simulate net trace) (bytes ∷ rows ∷ []) reply can h =
    simulated.replies_are_complete net bytes trace rows reply can h
complete_by_command (Exercise seed) [] reply can h = exercised.replies_are_complete seed reply can h
complete_by_command (Check net run) (bytes ∷ rows ∷ []) reply can h =
    checked.replies_are_complete net bytes run rows reply can h
complete_by_command (Measure net trace name rate) (bytes ∷ rows ∷ []) reply can h =
    measured.replies_are_complete net bytes trace rows name rate reply can h
complete_by_command (Curve script) (bytes ∷ []) reply can h = calculated.replies_are_complete script bytes reply can h
complete_by_command command files reply can h = absurd can

-- ---- steps
-- the status that the call gives is that of the answer, but where it cannot be written
abbrev pub IsGiven : (status other : ℕ) → Type 0
IsGiven status other = other ≢ 4 → other ≡ status

zero_given : (status other : ℕ) → IsGiven status other → other ≡ 0 → status ≡ 0
zero_given status other same zero = sym (same (λ four. absurd (cc))) ∙ zero

nine_given : (status other : ℕ) → IsGiven status other → other ≡ 9 → status ≡ 9
nine_given status other same nine = sym (same (λ four. absurd (cc))) ∙ nine

report_given : (status other : ℕ) → IsGiven status other → IsOfReport other → IsOfReport status
report_given status other same (inl zero) = inl (zero_given status other same zero)
report_given status other same (inr nine) = inr (nine_given status other same nine)

pub answer_given : (command : Command) (status other : ℕ) → IsGiven status other → IsAnswer command other
    → IsAnswer command status
answer_given (Analyse form net) status other same h = zero_given status other same h
answer_given (Edit form net edits) status other same h = zero_given status other same h
answer_given (Simulate net trace) status other same h = report_given status other same h
answer_given (Exercise seed) status other same h = report_given status other same h
answer_given (Check net run) status other same h = report_given status other same h
answer_given (Measure net trace name rate) status other same h = zero_given status other same h
answer_given (Curve script) status other same h = zero_given status other same h

told_given : (status other : ℕ) → IsGiven status other → IsTold other → IsTold status
told_given status other same told = subst IsTold (same told.0) told

-- those of the folds
folds_at : (bytes : List ℕ) (status other old new : ℕ) → IsGiven status other → CountsOnFolds bytes status old new
    → CountsOnFolds bytes other old new
folds_at bytes status other old new same h =
    record { rises = h.rises; most = h.most; all = λ told. h.all (told_given status other same told) }

-- by a file, where it is so by each network
file_counts_at : (OnNet : Net → (status old new : ℕ) → Type 0) (bytes : List ℕ) (status other old new : ℕ)
    → IsGiven status other → ((net : Net) (between : ℕ) → OnNet net status between new → OnNet net other between new)
    → CountsOnFile OnNet bytes status old new → CountsOnFile OnNet bytes other old new
file_counts_at OnNet bytes status other old new same at h = record {
  between = h.between;
  folds = folds_at bytes status other old h.between same h.folds;
  refused = h.refused;
  on_net = λ net is. at net h.between (h.on_net net is);
}

cells_at : (net : Net) (status other old new : ℕ) → IsGiven status other → CountsOnCells net status old new
    → CountsOnCells net other old new
cells_at net status other old new same k = record {
  rises = k.rises;
  most = k.most;
  report = λ is. k.report (report_given status other same is);
  round = k.round;
}

rows_at : {K : Type 0} (IsFault : K → ℕ → Type 0) (net : Net) (status other old new : ℕ) → IsGiven status other
    → CountsOnRows IsFault net status old new → CountsOnRows IsFault net other old new
rows_at IsFault net status other old new same k =
    record { cells = cells_at net status other old new same k.cells; refused = k.refused }

measure_counts_at : (bytes : List ℕ) (status other old new : ℕ) → IsGiven status other
    → measure_counts.CountsOn bytes status old new → measure_counts.CountsOn bytes other old new
measure_counts_at bytes status other old new same h = record {
  between = h.between;
  folds = folds_at bytes status other old h.between same h.folds;
  burst = burst_at status other h.between new (zero_given status other same) h.burst;
}

edits_at : (net : Net) (rows : List ℕ) (status other old new : ℕ) → IsGiven status other
    → edit_counts.CountsOnNet net rows status old new → edit_counts.CountsOnNet net rows other old new
edits_at net rows status other old new same (inl none) =
    inl (λ zero. none.0 (zero_given status other same zero), none.1)
edits_at net rows status other old new same (inr k) = inr (record {
  edits = k.edits;
  asked = k.asked;
  counts = record {
    rises = k.counts.rises;
    most = k.counts.most;
    report = λ zero. k.counts.report (zero_given status other same zero);
    round = k.counts.round;
  };
})

script_counts_at : (bytes : List ℕ) (status other old new : ℕ) → IsGiven status other
    → script_counts.CountsOn bytes status old new → script_counts.CountsOn bytes other old new
script_counts_at bytes status other old new same (inl none) =
    inl (λ zero. none.0 (zero_given status other same zero), none.1)
script_counts_at bytes status other old new same (inr k) = inr record {
  lines = k.lines;
  script = k.script;
  counts = record {
    told = k.counts.told;
    finds = k.counts.finds;
    report = λ zero. k.counts.report (zero_given status other same zero);
  };
}

pub counts_by_command : (command : Command) (files : List (List ℕ)) (status other old new : ℕ)
    → IsGiven status other → CountsTo command files status old new → CountsTo command files other old new
counts_by_command (Analyse form net) (bytes ∷ []) status other old new same h =
    file_counts_at CountsOnCells bytes status other old new same
    (λ model between k. cells_at model status other between new same k) h
counts_by_command (Edit form net edits) (bytes ∷ rows ∷ []) status other old new same h =
    file_counts_at (λ model. edit_counts.CountsOnNet model rows) bytes status other old new same
    (λ model between k. edits_at model rows status other between new same k) h
counts_by_command (Simulate net trace) (bytes ∷ rows ∷ []) status other old new same h =
    file_counts_at (λ model. run_counts.CountsOnNet model rows) bytes status other old new same
    (λ model between k. rows_at _ model status other between new same k) h
counts_by_command (Exercise seed) [] status other old new same h =
    cells_at (network_of seed) status other old new same h
counts_by_command (Check net run) (bytes ∷ rows ∷ []) status other old new same h =
    file_counts_at (λ model. check_counts.CountsOnNet model rows) bytes status other old new same
    (λ model between k. rows_at _ model status other between new same k) h
counts_by_command (Measure net trace name rate) (bytes ∷ rows ∷ []) status other old new same h =
    measure_counts_at bytes status other old new same h
counts_by_command (Curve script) (bytes ∷ []) status other old new same h =
    script_counts_at bytes status other old new same h
counts_by_command command files status other old new same h = absurd h
