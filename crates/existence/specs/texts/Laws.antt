-- Each text that a command reads is what it is read as, or has a first fault; with the laws that it is one of these at most
-- (`input_texts`, `run_check`), exactly one. Own choice.
use Rattle.std.specs.Prelude.{◌⊎◌, ℕ, List}
use Rattle.net_model.specs.Networks.{Net}
use Rattle.net_model.specs.Traces.{SpecTrace, IsTrace}
use Rattle.net_model.specs.stated_runs.FromTraces as stated
use Rattle.run_laws.specs.Runs.{SpecRun}
use Rattle.input_texts.specs.declared.table_text.fault.TableKind.{TableKind}
use Rattle.input_texts.specs.table_text.Rows.{Row, rows_of}
use Rattle.input_texts.specs.table_text.Traces.{IsTraceOf, IsFirstFault}
use Rattle.input_texts.specs.table_text.EditRows.{EditText}
use Rattle.input_texts.specs.table_text.EditLists.{AreEditsOf, IsFirstEditFault}
use Rattle.input_texts.specs.declared.curve_script.fault.LangKind.{LangKind}
use Rattle.input_texts.specs.curve_script.Scripts as scripts
use Rattle.input_texts.specs.curve_script.Scripts.{Numbered, IsScript}
use Rattle.run_check.specs.declared.run_table.fault.RunKind.{RunKind}
use Rattle.run_check.specs.run_table.Runs as runs
use Rattle.run_check.specs.run_table.Runs.{IsRunOf}
use Rattle.command_replies.specs.Replies.{Reply}
use Rattle.command_replies.specs.OnFiles.{IsBadTraceOf}
use Rattle.commands.specs.check.OnRuns.{IsBadRunOf}
use Rattle.commands.specs.edit.OnEdits.{IsBadListOf, AsksFor}
use Rattle.commands.specs.simulate.OnTraces.{GivesTrace}

-- a trace of a network
abbrev pub TracesAreRead : Type 0
TracesAreRead =
    (net : Net) (text : List ℕ)
    → ((trace : SpecTrace) × IsTraceOf net (rows_of text) trace)
    ⊎ ((kind : TableKind) × (number : ℕ) × IsFirstFault net text kind number)

-- what rows give as a trace keeps what every trace keeps, and its numbers are those of live flows and of servers: so in an
-- accepted network without a cycle there is a stated run of it
abbrev pub TracesStand : Type 0
TracesStand =
    (net : Net) (rows : List Row) (trace : SpecTrace) → IsTraceOf net rows trace → IsTrace trace × stated.IsTraceOf net trace

-- so the stage of `simulate` that reads the trace ends: there is the reply that tells the first fault, or a trace
abbrev pub TraceStagesEnd : Type 0
TraceStagesEnd =
    (net : Net) (trace_file trace_bytes : List ℕ)
    → ((reply : Reply) × IsBadTraceOf net trace_file trace_bytes reply) ⊎ ((trace : SpecTrace) × GivesTrace net trace_bytes trace)

-- a list of edits
abbrev pub EditsAreRead : Type 0
EditsAreRead =
    (text : List ℕ)
    → ((edits : List EditText) × AreEditsOf (rows_of text) edits)
    ⊎ ((kind : TableKind) × (number : ℕ) × IsFirstEditFault text kind number)

-- so the stage of `edit` that reads the list ends: there is the reply that tells the first fault, or the edits that it asks for
abbrev pub ListStagesEnd : Type 0
ListStagesEnd =
    (edits_file edits_bytes : List ℕ)
    → ((reply : Reply) × IsBadListOf edits_file edits_bytes reply) ⊎ ((edits : List EditText) × AsksFor edits_bytes edits)

-- a recorded run of a network
abbrev pub RunsAreRead : Type 0
RunsAreRead =
    (net : Net) (text : List ℕ)
    → ((run : SpecRun) × IsRunOf net (rows_of text) run)
    ⊎ ((kind : RunKind) × (number : ℕ) × runs.IsFirstFault net text kind number)

-- so the stage of `check` that reads the run ends: there is the reply that tells the first fault, or a run
abbrev pub RunStagesEnd : Type 0
RunStagesEnd =
    (net : Net) (run_file run_bytes : List ℕ)
    → ((reply : Reply) × IsBadRunOf net run_file run_bytes reply) ⊎ ((run : SpecRun) × IsRunOf net (rows_of run_bytes) run)

-- a script of curve expressions
abbrev pub ScriptsAreRead : Type 0
ScriptsAreRead =
    (text : List ℕ)
    → ((out : List Numbered) × IsScript text out) ⊎ ((kind : LangKind) × (at : ℕ) × scripts.IsFirstFault text kind at)
