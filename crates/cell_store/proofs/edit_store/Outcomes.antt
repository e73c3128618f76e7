-- What a store answers to an edit, from what the steps on the way answer.
use Rattle.std.proofs.Common.{◌≡◌, ◌≢◌, ℕ, List, [], ◌∷◌, ◌++◌, length, sum_by, sym, ap, ◌∙◌, subst, refl, inl, inr}
use Rattle.std.specs.Prelude.{Result, Ok, Err, IfErr, OnErr}
use Rattle.upp_limits.specs.declared.op_kind.OpFault.{OpFault}
use Rattle.upp_limits.specs.declared.op_kind.OpFault.TheVariants as operator
use Rattle.net_model.specs.declared.edit.Edit.{Edit}
use Rattle.net_model.specs.declared.edit.Edit.TheVariants.{Undo}
use Rattle.net_model.specs.Networks.{Net}
use Rattle.net_model.specs.net_graph.Faults.{IsGraphFault}
use Rattle.net_model.specs.declared.net_graph.placing.GraphFault.{GraphFault}
use Rattle.net_model.specs.declared.net_graph.placing.GraphFault.TheVariants as graph
use Rattle.net_cells.specs.declared.cell.Cell.{Cell}
use Rattle.net_cells.proofs.Lists.{contains_has}
use Rattle.net_cells.specs.Work.{work}
use Rattle.net_cells.specs.declared.cell_table.fault.AnalysisFault.{AnalysisFault}
use Rattle.net_cells.specs.declared.cell_table.fault.AnalysisFault.TheVariants as analysis
use Rattle.net_edits.specs.declared.fault.EditFault.{EditFault}
use Rattle.net_edits.specs.declared.fault.EditFault.TheVariants.{UnknownName, NameTaken, BadValue, LimitReached, Cycle, TooMany, TooWide, NothingToUndo, NoMemory}
use Rattle.net_edits.specs.Edited.{edited}
use Rattle.net_edits.specs.Replies.{IsReply, IsChangeReply, IsOverNone}
use Rattle.net_edits.proofs.OverNone.{within_none}
use Rattle.cell_rules.specs.cell_values.Edits.{IsFirstTouched, RefusesFor}
use Rattle.cell_rules.proofs.cell_values.Fronts.{are_touched}
use Rattle.cell_store.specs.edit_store.Stored.{Stored, AreTouched, IsAdvanced, IsBack}
use Rattle.cell_store.specs.edit_store.Applied.{Gives, IsTaken, IsTakenBack, IsCellOver, IsRefused, IsEvaluated, IsWorkOf, IsHidden, IsUnplanned}
use Rattle.cell_store.specs.edit_store.Faults.{graph_fault, analysis_fault}
use Rattle.cell_store.proofs.edit_store.Steps.{same_touched, gives_one}

module _ {V : Type 0} where
  -- ---- taken
  pub taken : (old new : Stored V) (edit : Edit) (net : Net) (touched : List Cell) (cells : ℕ) → Gives old.present edit net
      → AreTouched old.present net touched → IsAdvanced old net new → cells ≡ length touched → IsTaken old edit cells new
  taken old new edit net touched cells gives are advanced count = record {
    networks = ap (λ (ns : List Net). ns ++ new.present ∷ []) advanced.before;
    gives = subst (λ (n : Net). Gives old.present edit n) (sym advanced.present) gives;
    touched = touched;
    are = subst (λ (n : Net). AreTouched old.present n touched) (sym advanced.present) are;
    count = count;
  }

  pub taken_back : (old new : Stored V) → IsBack old new → IsTakenBack old 0 new
  taken_back old new back = record {
    networks = ap (λ (ns : List Net). ns ++ old.present ∷ []) back.before;
    count = refl;
  }

  -- ---- refused
  pub cell_over : (old : Stored V) (edit : Edit) (net : Net) (touched : List Cell) (c : Cell) (fault : OpFault)
      → Gives old.present edit net → AreTouched old.present net touched → IsFirstTouched net touched c fault
      → IsCellOver old.present edit c fault
  cell_over old edit net touched c fault gives are first = record {
    net = net;
    gives = gives;
    order = are.order;
    servers = are.servers;
    all_touched = touched;
    are = are;
    touched = are_touched old.present net _ touched are.are c (contains_has touched c first.among);
    over = first.first are.order are.servers;
  }

  pub cell_refused : (old : Stored V) (edit : Edit) (net : Net) (touched : List Cell) (why : AnalysisFault) → edit ≢ Undo
      → Gives old.present edit net → AreTouched old.present net touched → RefusesFor (IsFirstTouched net touched) why
      → IsRefused old edit (analysis_fault why)
  cell_refused old edit net touched (analysis.TooMany c) other gives are first =
      inr (cell_over old edit net touched c operator.TooMany gives are first)
  cell_refused old edit net touched (analysis.TooWide c) other gives are first =
      inr (cell_over old edit net touched c operator.TooWide gives are first)
  cell_refused old edit net touched analysis.NoMemory other gives are first = other

  pub unplanned_refused : (old : Stored V) (edit : Edit) (why : EditFault) → edit ≢ Undo
      → IsUnplanned old.present edit why → IsRefused old edit why
  unplanned_refused old edit (UnknownName name) other r = r
  unplanned_refused old edit (NameTaken name) other r = r
  unplanned_refused old edit BadValue other r = r
  unplanned_refused old edit LimitReached other r = r
  unplanned_refused old edit (Cycle walk) other r = r
  unplanned_refused old edit (TooMany cell) other r = inl r
  unplanned_refused old edit (TooWide cell) other r = inl r
  unplanned_refused old edit NothingToUndo other r = absurd r
  unplanned_refused old edit NoMemory other r = other

  -- ---- looked at
  pub reply_hidden : (old : Stored V) (edit : Edit) (why : EditFault) → ((c : Cell) → why ≢ TooMany c)
      → ((c : Cell) → why ≢ TooWide c) → IsReply (edited old.present edit) (Err why) → IsHidden old edit why
  reply_hidden old edit (UnknownName name) many wide r = r
  reply_hidden old edit (NameTaken name) many wide r = r
  reply_hidden old edit BadValue many wide r = r
  reply_hidden old edit LimitReached many wide r = r
  reply_hidden old edit (Cycle walk) many wide r = absurd r
  reply_hidden old edit (TooMany cell) many wide r = absurd (many cell refl)
  reply_hidden old edit (TooWide cell) many wide r = absurd (wide cell refl)
  reply_hidden old edit NothingToUndo many wide r = absurd r
  reply_hidden old edit NoMemory many wide r = tt

-- ---- what is counted
evaluated : (present : Net) (edit : Edit) (net : Net) (touched : List Cell) → Gives present edit net
    → AreTouched present net touched → IsEvaluated present edit
evaluated present edit net touched gives are =
    record { net = net; gives = gives; order = are.order; servers = are.servers }

-- the work of an edit is that of the cells that it touches
pub work_is : (present : Net) (edit : Edit) (net : Net) (touched : List Cell) (n : ℕ) → Gives present edit net
    → AreTouched present net touched → IsWorkOf present edit n → sum_by (work net) touched ≡ n
work_is present edit net touched n gives are (inl w) =
    let one : net ≡ w.net = gives_one present edit net w.net gives w.gives in
    let same : touched ≡ w.touched =
    same_touched present net touched w.touched are (subst (λ (d : Net). AreTouched present d w.touched) (sym one) w.are) in
    ap (λ (cells : List Cell). sum_by (work net) cells) same ∙ ap (λ (d : Net). sum_by (work d) w.touched) one ∙ sym w.is
work_is present edit net touched n gives are (inr (none, zero)) =
    absurd (none (evaluated present edit net touched gives are))

-- an undo gives no network, so it has no work
pub undo_gives_none : (present net : Net) → ¬ (Gives present Undo net)
undo_gives_none present net g = let bad : edited present Undo ≡ Ok g.edited = g.is in cc

pub undo_work : (present : Net) (edit : Edit) (n : ℕ) → edit ≡ Undo → IsWorkOf present edit n → n ≡ 0
undo_work present edit n is (inl w) =
    absurd (undo_gives_none present w.net (subst (λ (e : Edit). Gives present e w.net) is w.gives))
undo_work present edit n is (inr (none, zero)) = zero

-- ---- planned
pub cycle_unplanned : (present : Net) (edit : Edit) (net : Net) (why : GraphFault) → Gives present edit net
    → IsGraphFault net why → IsUnplanned present edit (graph_fault why)
cycle_unplanned present edit net (graph.Cycle walk) gives cycle = record { net = net; gives = gives; cycle = cycle }
cycle_unplanned present edit net graph.NoMemory gives cycle = tt

pub reply_unplanned : (present : Net) (edit : Edit) (why : EditFault) → IsChangeReply present (edited present edit) (Err why)
    → IsUnplanned present edit why
reply_unplanned present edit (UnknownName name) r = r
reply_unplanned present edit (NameTaken name) r = r
reply_unplanned present edit BadValue r = r
reply_unplanned present edit LimitReached r = r
reply_unplanned present edit (Cycle walk) r = absurd r
reply_unplanned present edit (TooMany cell) r = r
reply_unplanned present edit (TooWide cell) r = r
reply_unplanned present edit NothingToUndo r = absurd r
reply_unplanned present edit NoMemory r = tt

-- ---- want of memory
pub given_none : (present net : Net) (edit : Edit) → Gives present edit net → IsOverNone (edited present edit)
given_none present net edit gives = within_none (edited present edit) gives.edited gives.is gives.within

pub lacks_too : (why : AnalysisFault) → analysis_fault why ≡ NoMemory → why ≡ analysis.NoMemory
lacks_too (analysis.TooMany cell) e = absurd (let bad : ⊥ = cc in bad)
lacks_too (analysis.TooWide cell) e = absurd (let bad : ⊥ = cc in bad)
lacks_too analysis.NoMemory e = refl

-- ---- a refusal that is handed on
pub on_err : {X E : Type 0} (r : Result X E) (P : E → Type 0) (f e : E) → r ≡ Err f → f ≡ e → P e → IfErr r P
on_err {X} {E} r P f e is same h = subst (λ (x : Result X E). IfErr x P) (sym is) (subst P (sym same) h)

pub in_any : {X E : Type 0} (r : Result X E) (Q : Type 0) → Q → OnErr r Q
in_any (Ok x) Q q = tt
in_any (Err e) Q q = q
