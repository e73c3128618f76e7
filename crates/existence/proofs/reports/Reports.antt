-- The curves of a network that a file gives are in normal form and readable, and so the file has a report; each file has a reply.
use Rattle.std.specs.Prelude.{◌≡◌, ℕ, length, map, List, [], ◌∷◌, Option, Some, None, Bool, true, false, Ok, Err, All, slice_get}
use Rattle.std.proofs.Common.{refl, sym, ◌∙◌, subst, inl, inr}
use Rattle.std.proofs.lemmas.Bool.{cases_lt}
use Rattle.std.proofs.lemmas.List.Elements.{All-contains}
use Rattle.std.proofs.lemmas.List.{get_or_default, get_or_past}
use Rattle.std.proofs.lemmas.Option.{slice_get_within, get_or_from_slice_get}
use Rattle.upp_curve.specs.Curve.{SpecCurve}
use Rattle.upp_curve.specs.Curves.{IsCurve}
use Rattle.net_model.specs.Networks.{Net, NetServer, NetFlow}
use Rattle.net_draft.specs.Drafts.{draft_of}
use Rattle.net_draft.specs.Faults.{Fault, Read}
use Rattle.net_draft.specs.Texts.{FlowText, CurveText, DraftText}
use Rattle.net_text.specs.Becoming.{Becomes, limit_fault}
use Rattle.net_text.specs.Built.{IsServerOf, IsLiveFlowOf, IsBuilt}
use Rattle.net_text.specs.Firsts.{PlacedCurve, FirstCurveOver, curves_of}
use Rattle.net_text.proofs.Zips.{zip_all}
use Rattle.net_cells.specs.Numbered.{service_of, arrival_of, flow_at}
use Rattle.net_cells.proofs.Tables.{answers_meet}
use Rattle.net_bounds.proofs.Kept.{table_bounds_every_run}
use Rattle.net_model.specs.Orders.{IsOrder}
use Rattle.net_model.proofs.net_graph.Existing.{order_or_round}
use Rattle.net_cells.specs.declared.cell.Cell.{Cell}
use Rattle.net_cells.specs.FirstOver.{FirstOver}
use Rattle.report_text.specs.CellWords.{server_name, cell_words}
use Rattle.report_text.specs.declared.json_report.form.Form.{Form}
use Rattle.upp_limits.specs.declared.op_kind.OpFault.{OpFault}
use Rattle.upp_limits.specs.declared.op_kind.OpFault.TheVariants.{TooMany, TooWide, NoMemory}
use Rattle.upp_limits.specs.declared.own_limits.OverLimit.{OverLimit}
use Rattle.upp_limits.specs.declared.own_limits.OverLimit.TheVariants as limits
use Rattle.command_replies.specs.Replies.{Reply, breaks_rule, goes_round, curve_over, cell_over}
use Rattle.command_replies.specs.OnFiles.{IsNetOf, IsNoNetwork, IsOver}
use Rattle.outcomes.specs.Stages.{stops, goes_on}
use Rattle.commands.specs.analyse.OnFiles.{report, IsReplyOn, IsReplyOnNet}
use Rattle.run_watch.specs.simulated_sizes.Laws.{AreCurves}
use Rattle.existence.proofs.tables.Sound.{zero_is}
use Rattle.existence.proofs.tables.Tables.{tables_or_limits}
use Rattle.existence.proofs.drafts.Files.{drafts_have_networks}
use Rattle.existence.specs.reports.Laws.{FilesHaveReports, FilesHaveReplies, StopsOrGives, FirstStagesEnd}

abbrev LiveCurve : Option NetFlow → Type 0
LiveCurve o = IsCurve (arrival_of o)

becomes : (closes : Bool) (t : CurveText) (f : SpecCurve) → Becomes closes t (Ok f) → IsCurve f
becomes false t f b = b.curve
becomes true t f b = b.closes.curve

all_tt : {X : Type 0} (xs : List X) → All (λ x. Unit {0}) xs
all_tt xs = λ k e l. tt

live : (t : FlowText) (o : Option NetFlow) → Unit {0} → IsLiveFlowOf t o → LiveCurve o
live t o p r = subst LiveCurve (sym r.live) (becomes t.closes t.arrival r.flow.arrival r.is.arrival)

-- ---- the curves of the network that a draft becomes
module _ (d : DraftText) (net : Net) (b : IsBuilt d net) where
  each_service : All (λ (x : NetServer). IsCurve x.service) net.servers
  each_service = zip_all IsServerOf (λ t. Unit {0}) (λ (x : NetServer). IsCurve x.service) (λ t n p r. r.service.curve) d.servers net.servers (all_tt d.servers) b.servers

  each_arrival : All LiveCurve net.flows
  each_arrival = zip_all IsLiveFlowOf (λ t. Unit {0}) LiveCurve live d.flows net.flows (all_tt d.flows) b.flows

  service_is : (s : ℕ) (o : Option NetServer) → slice_get net.servers s ≡ o → IsCurve (service_of o)
  service_is s None e = zero_is
  service_is s (Some x) e =
      All-contains (λ (y : NetServer). IsCurve y.service) net.servers x each_service (s, slice_get_within net.servers s x e, get_or_from_slice_get net.servers s x x e)

  arrival_is : (i : ℕ) (o : Option NetFlow) → flow_at net i ≡ o → IsCurve (arrival_of o)
  arrival_is i None e = zero_is
  arrival_is i (Some f) e = elim (cases_lt i (length net.flows)) [
    | inl l ↦ All-contains LiveCurve net.flows (Some f) each_arrival (i, l, get_or_default net.flows i (Some f) None l ∙ e)
    | inr l ↦ absurd (let bad : None ≡ Some f = sym (get_or_past net.flows i None l) ∙ e in cc)
  ]

  are_curves : AreCurves net
  are_curves = record { services = λ s l. service_is s (slice_get net.servers s) refl; arrivals = λ i h. arrival_is i (flow_at net i) refl }

-- ---- the report
pub files_have : FilesHaveReports
files_have form bytes net order g o never =
    elim (tables_or_limits net order g.accepted (are_curves g.reads.draft net g.reads.built) o) [
      | inl (at, all) ↦
          let m = answers_meet net order at g.accepted o all in (
            at,
            report form net at,
            record { gives = g; order = order; ordered = o; answers = all; meets = m; is = refl },
            λ run r. table_bounds_every_run net order at run g.accepted o m r,
          )
      | inr (c, fault, first) ↦ absurd (never c fault first)
    ]

-- ---- a reply
-- on the first cell over a limit
over_limit : (net : Net) (order : List ℕ) (c : Cell) (fault : OpFault) → FirstOver net order c fault
    → (reply : Reply) × IsOver net order reply
over_limit net order c TooWide first =
    (cell_over limits.TooWide (cell_words net c), (limits.TooWide, record { cell = c; first = first; is = refl }))
over_limit net order c TooMany first =
    (cell_over limits.TooMany (cell_words net c), (limits.TooMany, record { cell = c; first = first; is = refl }))
over_limit net order c NoMemory first = absurd (first.limit refl)

in_order : (form : Form) (bytes : List ℕ) (net : Net) (order : List ℕ) → IsNetOf bytes net → IsOrder net order
    → (reply : Reply) × IsReplyOnNet form net reply
in_order form bytes net order g o =
    elim (tables_or_limits net order g.accepted (are_curves g.reads.draft net g.reads.built) o) [
      | inl (at, all) ↦
          let m = answers_meet net order at g.accepted o all in
          (report form net at, goes_on order o (goes_on at record { answers = all; meets = m } refl))
      | inr (c, fault, first) ↦
          let over = over_limit net order c fault first in
          (over.0, goes_on order o (stops over.1))
    ]

on_net : (form : Form) (bytes : List ℕ) (net : Net) → IsNetOf bytes net → (reply : Reply) × IsReplyOnNet form net reply
on_net form bytes net g = elim (order_or_round net g.accepted) [
  | inl o ↦ in_order form bytes net o.0 g o.1
  | inr c ↦ (goes_round (map (server_name net) c.0), stops record { walk = c.0; cycle = c.1; is = refl })
]

-- ---- by what the tables say
-- the first of some curves over a limit is over one, at a place
limit_of : (es : List PlacedCurve) (f : Fault) → FirstCurveOver es f
    → (limit : OverLimit) × (place : List ℕ) × (f ≡ limit_fault limit place)
limit_of [] f h = absurd h
limit_of (e ∷ es) f (inl here) = (here.limit, e.place, here.is)
limit_of (e ∷ es) f (inr later) = limit_of es f later.1

on_fault : (file bytes : List ℕ) (d : DraftText) (f : Fault) → draft_of bytes ≡ Ok d → FirstCurveOver (curves_of d) f
    → (reply : Reply) × IsNoNetwork file bytes reply
on_fault file bytes d f is first =
    let (limit, place, named) = limit_of (curves_of d) f first in (
      curve_over limit place,
      inr (
        limit,
        record {
          place = place;
          first = record { draft = d; is_draft = is; first = subst (FirstCurveOver (curves_of d)) named first };
          is = refl;
        },
      ),
    )

by_draft : (file bytes : List ℕ) (r : Read DraftText) → draft_of bytes ≡ r → StopsOrGives file bytes
by_draft file bytes (Err fault) is = inl (breaks_rule file fault, inl record { fault = fault; first = is; is = refl })
by_draft file bytes (Ok d) is = elim (drafts_have_networks bytes d is) [
  | inl n ↦ inr (
    n.net,
    record { reads = record { draft = d; is_draft = is; built = n.built }; accepted = n.accepted },
  )
  | inr over ↦ inl (on_fault file bytes d over.0 is over.1)
]

pub first_stages : FirstStagesEnd
first_stages file bytes = by_draft file bytes (draft_of bytes) refl

-- so `analyse` has a reply
by_stage : (form : Form) (file bytes : List ℕ) → StopsOrGives file bytes → (reply : Reply) × IsReplyOn form file bytes reply
by_stage form file bytes (inl none) = (none.0, stops none.1)
by_stage form file bytes (inr given) =
    let next = on_net form bytes given.0 given.1 in
    (next.0, goes_on given.0 given.1 next.1)

pub replies_exist : FilesHaveReplies
replies_exist form file bytes = by_stage form file bytes (first_stages file bytes)
