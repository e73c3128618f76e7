-- What one edit of a store answers.
use Rattle.std.proofs.Common.{◌≡◌, ◌≢◌, ◌⊎◌, List, [], ◌∷◌, ◌++◌, Option, inl, inr, sym, ap, ◌∙◌, subst}
use Rattle.std.specs.Prelude.{Result, Ok, Err, IfOk, OnErr}
use Rattle.std.proofs.lemmas.List.{append_cancel_right}
use Rattle.net_model.specs.declared.edit.Done.{Done}
use Rattle.net_model.specs.declared.edit.Edit.{Edit}
use Rattle.net_model.specs.declared.edit.Edit.TheVariants.{Undo}
use Rattle.net_model.specs.Networks.{Net}
use Rattle.net_model.specs.Accepted.{IsAccepted}
use Rattle.net_cells.specs.Meanings.{Meaning}
use Rattle.net_cells.specs.Order.{evaluation_order}
use Rattle.net_cells.proofs.Lists.{contains_has}
use Rattle.net_cells.proofs.Members.{order_has}
use Rattle.net_edits.specs.declared.fault.EditFault.{EditFault}
use Rattle.cell_rules.specs.cell_values.Placed.{placed}
use Rattle.cell_store.specs.edit_store.Stored.{Stored, HoldsTable, IsStored}
use Rattle.cell_store.specs.edit_store.Applied.{IsApplied}
use Rattle.commands.specs.edit_report.Said.{EditSaid, Made, said_of}
use Rattle.commands.specs.edit.NetHistories.{history_of}
use Rattle.commands.specs.edit.Causes.{IsCause}
use Rattle.commands.specs.edit.Answered.{IsAnalysed, IsAnswered, Taken, Undone, Refused}
use Rattle.commands.specs.edit.Said.{IsSaidOf, IsSaid}
use Rattle.commands.proofs.edit.Exclusive.{is_undo}

module _ {V : Type 0} (meaning : V → Meaning) where
  -- each cell of a store's present network has its answer
  pub analysed : (net : Net) (version : List (Option V)) → IsAccepted net → HoldsTable meaning net version
      → IsAnalysed net (placed meaning version)
  analysed net version accepted held = record {
    accepted = accepted;
    order = held.order;
    ordered = held.servers;
    answers = λ c m. held.answered c
        (order_has net held.order c (contains_has (evaluation_order net held.order) c m));
  }

  taken_or_undone : (old new : Stored V) (edit : Edit) (done : Done) (said : EditSaid) → IsAccepted new.present
      → IsApplied old edit done.cells new → IsStored meaning new.before new.present new.values
      → said ≡ said_of new.present (Ok done) → (edit ≡ Undo) ⊎ (edit ≢ Undo)
      → IsAnswered (history_of old) edit said (history_of new)
  taken_or_undone old new edit done said accepted applied stored says (inl undo) =
      let back = applied.undo undo in
      Undone (record {
        undo = undo;
        back = append_cancel_right old.before (new.before ++ new.present ∷ []) (old.present ∷ []) back.networks;
        says = says ∙ ap Made back.count;
      })
  taken_or_undone old new edit done said accepted applied stored says (inr other) =
      let taken = applied.other other in
      Taken (record {
        gives = taken.gives;
        before = append_cancel_right new.before (old.before ++ old.present ∷ []) (new.present ∷ []) taken.networks;
        table = placed meaning new.values.newest;
        analysed = analysed new.present new.values.newest accepted stored.now;
        touched = taken.touched;
        are = taken.are;
        says = says ∙ ap Made taken.count;
      })

  pub row_answered : (old new : Stored V) (edit : Edit) (r : Result Done EditFault) (said : EditSaid)
      → IsAccepted new.present → IfOk r (λ done. IsApplied old edit done.cells new) → OnErr r (new ≡ old)
      → IsStored meaning new.before new.present new.values → IsSaid new edit r said
      → IsAnswered (history_of old) edit said (history_of new)
  row_answered old new edit (Ok done) said accepted applied kept stored says =
      taken_or_undone old new edit done said accepted applied stored says (is_undo edit)
  row_answered old new edit (Err fault) said accepted applied kept stored why =
      Refused (record {
        same = ap history_of kept;
        fault = fault;
        named_by = why.named_by;
        cause = subst (λ (s : Stored V). IsCause (history_of s) edit fault why.named_by) kept why.cause;
        says = why.says;
      })

-- ---- what is said by an answer, by its variant
module _ {V : Type 0} (s : Stored V) (edit : Edit) where
  pub said_of_done : (answer : Result Done EditFault) (done : Done) (said : EditSaid) → answer ≡ Ok done
      → said ≡ said_of s.present answer → IsSaid s edit answer said
  said_of_done (Ok d) done said is says = says
  said_of_done (Err fault) done said is says = absurd (cc)

  pub said_of_fault : (answer : Result Done EditFault) (fault : EditFault) (said : EditSaid) → answer ≡ Err fault
      → IsSaidOf s edit fault said → IsSaid s edit answer said
  said_of_fault (Ok d) fault said is why = absurd (cc)
  said_of_fault (Err other) fault said is why =
      let same : other ≡ fault = cc in subst (λ (f : EditFault). IsSaidOf s edit f said) (sym same) why
