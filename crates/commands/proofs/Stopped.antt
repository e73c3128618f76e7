-- The reply on a network, beside its table or where it stops, and its steps.
use Rattle.std.proofs.Common.{◌≡◌, ◌≢◌, ℕ, List, Result, Ok, Err, IfOk, inl, inr, refl, sym, ◌∙◌, subst, arith}
use Rattle.std.proofs.lemmas.Result.{IfOk-weaker}
use Rattle.upp_limits.specs.declared.own_limits.OverLimit.TheVariants.{TooMany, TooWide}
use Rattle.net_model.specs.Networks.{Net}
use Rattle.net_model.specs.Accepted.{IsAccepted}
use Rattle.net_model.specs.Orders.{IsOrder}
use Rattle.net_model.proofs.net_graph.OneOrders.{one_order}
use Rattle.net_model.proofs.net_graph.Returns.{order_or_cycle}
use Rattle.net_cells.specs.Meanings.{CellTable}
use Rattle.command_replies.specs.CellWork.{work_of_cells}
use Rattle.command_replies.specs.OnFiles.{OnTable, OnCurves}
use Rattle.command_replies.specs.Replies.{Reply}
use Rattle.outcomes.specs.Spending.{Counts}
use Rattle.outcomes.specs.Stages.{stops, goes_on}
use Rattle.replies.specs.declared.answer.Answer.{Answer}
use Rattle.command_replies.specs.View.{reply_of, status_of}
use Rattle.run_watch.specs.simulated_sizes.Laws.{AreCurves}
use Rattle.command_replies.specs.run_findings.CellCounts.{CountsOnCells}
use Rattle.command_replies.specs.run_findings.Statuses.{IsOfReport}
use Rattle.command_replies.proofs.Statuses.{status_is}
use Rattle.command_replies.proofs.run_findings.Counted.{no_report}
use Rattle.commands.specs.Tabled.{HasTable, IsStopped, CountsOnTable}

-- ---- beside a table
pub told_beside : {E : Type 0} (net : Net) (at : CellTable) (Told : CellTable → Reply → Type 0) (r : Result Answer E)
    → HasTable net at → AreCurves net → IfOk r (λ a. Told at (reply_of a))
    → IfOk r (λ a. OnTable net (OnCurves net Told) (reply_of a))
told_beside net at Told r t curves told =
    IfOk-weaker r _ _ (λ a on. goes_on t.order t.ordered (goes_on at t.table (curves, on))) told

-- ---- where it stops
-- it is the reply on the network, whatever is told beside a table
stopped : (net : Net) (Told : CellTable → Reply → Type 0) (reply : Reply) → IsStopped net reply
    → OnTable net Told reply
stopped net Told reply (inl h) = stops h
stopped net Told reply (inr (order, o, h)) = goes_on order o (stops h)

pub stopped_told : {E : Type 0} (net : Net) (Told : CellTable → Reply → Type 0) (r : Result Answer E)
    → IfOk r (λ a. IsStopped net (reply_of a)) → IfOk r (λ a. OnTable net Told (reply_of a))
stopped_told net Told r h = IfOk-weaker r _ _ (λ a at. stopped net Told (reply_of a) at) h

-- and no report
pub not_at : (status at : ℕ) → status ≡ at → at ≢ 0 → at ≢ 9 → ¬ IsOfReport status
not_at status at is zero nine = no_report status (λ e. zero (sym is ∙ e)) (λ e. nine (sym is ∙ e))

is_none : (net : Net) (reply : Reply) → IsStopped net reply → ¬ IsOfReport reply.status
is_none net reply (inl h) = not_at reply.status 8 (status_is reply _ h.is) (λ e. cc) (λ e. cc)
is_none net reply (inr (order, o, (TooMany, h))) = not_at reply.status 7 (status_is reply _ h.is) (λ e. cc) (λ e. cc)
is_none net reply (inr (order, o, (TooWide, h))) = not_at reply.status 6 (status_is reply _ h.is) (λ e. cc) (λ e. cc)

-- so an answer that is such a reply, if any, is none
pub none_of : {E : Type 0} (Is : Reply → Type 0) → ((reply : Reply) → Is reply → ¬ IsOfReport reply.status)
    → (r : Result Answer E) → IfOk r (λ a. Is (reply_of a)) → ¬ IsOfReport (status_of r)
none_of Is none (Ok a) h = none (reply_of a) h
none_of Is none (Err e) h = no_report 5 (λ k. absurd (cc)) (λ k. absurd (cc))

-- ---- the steps of its cells
-- by an order, of which there is one
pub table_counts : {A E : Type 0} (net : Net) (order : List ℕ) (old new : ℕ) (r : Result A E) → IsAccepted net → IsOrder net order
    → Counts (work_of_cells net order) old new r → CountsOnTable net old new r
table_counts net order old new r a o c = record {
  rises = c.least;
  counts = λ other p. subst (λ xs. Counts (work_of_cells net xs) old new r) (one_order net order other o p) c;
  round = λ walk cycle. absurd (order_or_cycle.no_cycle net order walk a o cycle);
}

-- none
pub none_counted : {A E : Type 0} (net : Net) (n : ℕ) (fault : E) → CountsOnTable {A = A} net n n (Err fault)
none_counted net n fault = record {
  rises = omega arith;
  counts = λ order o. record { exact = tt; least = omega arith; most = omega arith };
  round = λ walk cycle. refl;
}

-- beside a table, at the status of an answer
pub at_status : {A E : Type 0} (net : Net) (status old new : ℕ) {table : A} → CountsOnTable {E = E} net old new (Ok table)
    → CountsOnCells net status old new
at_status net status old new h = record {
  rises = h.rises;
  most = λ order o. (h.counts order o).most;
  report = λ is order o. (h.counts order o).exact;
  round = h.round;
}

-- where it stops, no more than those of all cells
pub stopped_counts : {A E : Type 0} (net : Net) (r : Result Answer E) (old new : ℕ) → CountsOnTable {A = A} net old new (Err r)
    → IfOk r (λ a. IsStopped net (reply_of a)) → CountsOnCells net (status_of r) old new
stopped_counts net r old new h at = record {
  rises = h.rises;
  most = λ order o. (h.counts order o).most;
  report = λ is order o. absurd (none_of (IsStopped net) (is_none net) r at is);
  round = h.round;
}
