-- What is gathered of a server from the steps of a run is what the server sees of it.
use Rattle.std.specs.Prelude.{◌≡◌, pos, List, []}
use Rattle.std.proofs.Common.{sym, ap, ◌∙◌}
use Rattle.rational.specs.Rational.{int}
use Rattle.run_laws.specs.Views.{view}
use Rattle.run_laws.proofs.Views.{views_are_lawful}
use Rattle.run_watch.specs.declared.span.Span.{Span}
use Rattle.run_watch.specs.Ramps.{amount, ramps_after, spans_of}
use Rattle.run_watch.specs.Seen.{arrival_spans, work_spans}
use Rattle.run_watch.specs.Sights.{SightsAreViews}
use Rattle.run_watch.proofs.RampLists.{spans_are}
use Rattle.run_watch.proofs.SeenLists.{works_seen, leaves_seen, arrivals_seen, arrived_is, worked_is}

pub sight_is_view : SightsAreViews
sight_is_view net run firsts s w h l F S =
    let V = view net run s in
    let zero = int (pos 0) in
    let arrivals : w.arrivals.items ≡ ramps_after zero (arrival_spans V) = S.arrivals ∙ ap (ramps_after zero) (sym (arrivals_seen net firsts s [] run.steps F)) in
    let works : w.works.items ≡ ramps_after zero (work_spans V) = S.works ∙ ap (ramps_after zero) (sym (works_seen net s [] run.steps)) in
    record {
      lawful = views_are_lawful net run s h l;
      arrivals = arrivals;
      works = works;
      leaves = S.leaves ∙ sym (leaves_seen net s [] run.steps);
      end_is = S.end;
      arrived_is = λ t. ap (λ (ss : List Span). amount ss t) (ap spans_of arrivals ∙ spans_are zero (arrival_spans V)) ∙ sym (arrived_is V t);
      worked_is = λ t. ap (λ (ss : List Span). amount ss t) (ap spans_of works ∙ spans_are zero (work_spans V)) ∙ sym (worked_is V t);
    }
