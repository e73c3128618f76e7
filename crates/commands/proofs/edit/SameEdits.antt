-- Edits that a text asks for make the same of a network, whatever strings and vectors hold them.
use Rattle.std.proofs.Common.{◌≡◌, ℕ, ℤ, List, [], ◌∷◌, length, map, inl, inr, refl, sym, ap, ◌∙◌, subst}
use Rattle.std.specs.Prelude.{None, Ok, Err, not, ◌&&◌, nat_lt, string_bytes}
use Rattle.upp_limits.specs.declared.own_limits.OverLimit.{OverLimit}
use Rattle.upp_limits.specs.declared.own_limits.OverLimit.TheVariants as limit
use Rattle.rational.specs.Rational.{ℚ}
use Rattle.net_model.specs.declared.edit.Edit.{Edit}
use Rattle.net_model.specs.declared.edit.Edit.TheVariants as edit
use Rattle.net_model.specs.declared.edit.PathEntry.{PathEntry}
use Rattle.net_model.specs.Networks.{Net}
use Rattle.net_cells.specs.declared.cell.Cell.{Cell}
use Rattle.net_edits.specs.declared.fault.EditFault.{EditFault}
use Rattle.net_edits.specs.declared.fault.EditFault.TheVariants.{UnknownName, NameTaken, BadValue, LimitReached, Cycle, TooMany, TooWide, NothingToUndo, NoMemory}
use Rattle.net_edits.specs.Refusals.{Or, and_then, only_if, nothing_to_undo}
use Rattle.net_edits.specs.Lookups.{server_number, server_numbers, flow_number, is_free, before}
use Rattle.net_edits.specs.Values.{whole_that, is_length, is_name, entry_queues, may_be_path}
use Rattle.net_edits.specs.Changed.{at_flow, with_path, with_more}
use Rattle.net_edits.specs.Edited.{Edited, edited, fitting, is_negative, only_if_free, only_if_left, new_flow}
use Rattle.net_edits.specs.Edited.{rate_edited, latency_edited, link_edited, quantum_edited, bucket_edited, stair_edited}
use Rattle.net_edits.specs.Edited.{packet_edited, drop_edited}
use Rattle.net_edits.specs.Replies.{Refuses, IsEdited, IsEditOver}
use Rattle.input_texts.specs.table_text.EditRows.{EditText, edit_view}
use Rattle.input_texts.specs.table_text.EditRows as text
use Rattle.input_texts.specs.table_text.Paths.{EntryText, entry_view}
use Rattle.commands.specs.edit_report.Said.{EditSaid}
use Rattle.commands.specs.edit.NetHistories.{NetHistory}
use Rattle.commands.specs.edit.Causes.{IsOverBy, IsCause}
use Rattle.commands.specs.edit.Answered.{IsAnswered, Taken, Undone, Refused}

-- ---- what an edit makes, by its text
numbers_of : Net → List EntryText → Or (List ℕ)
numbers_of net [] = Ok []
numbers_of net (e ∷ es) = and_then (server_number net e.server) (λ number. before number (numbers_of net es))

lanes_of : List EntryText → List ℕ
lanes_of [] = []
lanes_of (e ∷ es) = e.queue ∷ lanes_of es

numbers_same : (net : Net) (path : List PathEntry) → server_numbers net path ≡ numbers_of net (map entry_view path)
unfolding numbers_of
numbers_same net [] = refl
numbers_same net (e ∷ es) =
    ap (λ (r : Or (List ℕ)). and_then (server_number net (string_bytes e.server)) (λ number. before number r))
    (numbers_same net es)

lanes_same : (path : List PathEntry) → entry_queues path ≡ lanes_of (map entry_view path)
unfolding lanes_of
lanes_same [] = refl
lanes_same (e ∷ es) = ap (λ (qs : List ℕ). e.queue ∷ qs) (lanes_same es)

abbrev route_by : Net → List ℕ → Or (List ℕ) → List ℕ → Or Edited
route_by net name servers lanes =
    and_then (flow_number net name) (λ i.
    and_then servers (λ ss.
    only_if (may_be_path net ss lanes) (fitting (at_flow (with_path ss lanes) net i) None)))

abbrev add_by : Net → List ℕ → ℤ → ℚ → ℚ → Or (List ℕ) → List ℕ → Or Edited
add_by net name bits burst rate servers lanes =
    and_then servers (λ ss.
    only_if_free (is_free net name) name (
    only_if (is_name name && (not (is_negative burst) && not (is_negative rate))) (
    and_then (whole_that is_length bits) (λ b.
    only_if (may_be_path net ss lanes) (
    and_then (fitting (with_more (new_flow name b burst rate ss lanes) net) None)
    (only_if_left (nat_lt (length net.flows) 256)))))))

abbrev made_of : Net → EditText → Or Edited
made_of net (text.Rate name x) = rate_edited net name x
made_of net (text.Latency name x) = latency_edited net name x
made_of net (text.Link name x) = link_edited net name x
made_of net (text.Quantum name queue bits) = quantum_edited net name queue bits
made_of net (text.Bucket name burst rate) = bucket_edited net name burst rate
made_of net (text.Stair name period jitter) = stair_edited net name period jitter
made_of net (text.Packet name bits) = packet_edited net name bits
made_of net (text.Route name path) = route_by net name (numbers_of net path) (lanes_of path)
made_of net (text.Add name bits burst rate path) = add_by net name bits burst rate (numbers_of net path) (lanes_of path)
made_of net (text.Drop name) = drop_edited net name
made_of net text.Undo = Err nothing_to_undo

by_text : (net : Net) (e : Edit) → edited net e ≡ made_of net (edit_view e)
by_text net (edit.Rate name x) = refl
by_text net (edit.Latency name x) = refl
by_text net (edit.Link name x) = refl
by_text net (edit.Quantum name queue bits) = refl
by_text net (edit.Bucket name burst rate) = refl
by_text net (edit.Stair name period jitter) = refl
by_text net (edit.Packet name bits) = refl
by_text net (edit.Route name path) =
    ap (λ (r : Or (List ℕ)). route_by net (string_bytes name) r (entry_queues path.items)) (numbers_same net path.items)
    ∙ ap (λ (qs : List ℕ). route_by net (string_bytes name) (numbers_of net (map entry_view path.items)) qs)
    (lanes_same path.items)
by_text net (edit.Add name bits burst rate path) =
    ap (λ (r : Or (List ℕ)). add_by net (string_bytes name) bits burst rate r (entry_queues path.items))
    (numbers_same net path.items)
    ∙ ap (λ (qs : List ℕ). add_by net (string_bytes name) bits burst rate (numbers_of net (map entry_view path.items)) qs)
    (lanes_same path.items)
by_text net (edit.Drop name) = refl
by_text net edit.Undo = refl

make_the_same : (net : Net) (e f : Edit) → edit_view e ≡ edit_view f → edited net f ≡ edited net e
make_the_same net e f same = by_text net f ∙ ap (made_of net) (sym same) ∙ sym (by_text net e)

is_the_undo : (e : Edit) → edit_view e ≡ text.Undo → e ≡ edit.Undo
is_the_undo (edit.Rate name x) h = absurd (cc)
is_the_undo (edit.Latency name x) h = absurd (cc)
is_the_undo (edit.Link name x) h = absurd (cc)
is_the_undo (edit.Quantum name queue bits) h = absurd (cc)
is_the_undo (edit.Bucket name burst rate) h = absurd (cc)
is_the_undo (edit.Stair name period jitter) h = absurd (cc)
is_the_undo (edit.Packet name bits) h = absurd (cc)
is_the_undo (edit.Route name path) h = absurd (cc)
is_the_undo (edit.Add name bits burst rate path) h = absurd (cc)
is_the_undo (edit.Drop name) h = absurd (cc)
is_the_undo edit.Undo h = refl

both_undo : (e f : Edit) → edit_view e ≡ edit_view f → f ≡ edit.Undo → e ≡ edit.Undo
both_undo e f same u = is_the_undo e (same ∙ ap edit_view u)

-- ---- so they have the same answers
module _ (old : NetHistory) (e f : Edit) (same : edit_view e ≡ edit_view f) where
  made : edited old.present f ≡ edited old.present e
  made = make_the_same old.present e f same

  gives : (net : Net) → IsEdited (edited old.present f) net → IsEdited (edited old.present e) net
  gives net h = subst (λ r. IsEdited r net) (make_the_same old.present e f same) h

  refuses : (fault : EditFault) → Refuses (edited old.present f) fault → Refuses (edited old.present e) fault
  refuses fault h = subst (λ r. Refuses r fault) (make_the_same old.present e f same) h

  over_by : (cell : Cell) (which : OverLimit) (net : Net) → IsOverBy old.present f cell which net
      → IsOverBy old.present e cell which net
  over_by cell which net (inl o) =
      inl (subst (λ r. IsEditOver r cell which) (make_the_same old.present e f same) o.0, o.1)
  over_by cell which net (inr h) = inr (record {
    gives = gives net h.gives;
    accepted = h.accepted;
    order = h.order;
    ordered = h.ordered;
    all_touched = h.all_touched;
    are = h.are;
    touched = h.touched;
    first = h.first;
  })

  cause : (fault : EditFault) (net : Net) → IsCause old f fault net → IsCause old e fault net
  cause (UnknownName name) net c = refuses (UnknownName name) c
  cause (NameTaken name) net c = refuses (NameTaken name) c
  cause BadValue net c = refuses BadValue c
  cause LimitReached net c = refuses LimitReached c
  cause (Cycle walk) net c = record { gives = gives net c.gives; accepted = c.accepted; cycle = c.cycle }
  cause (TooMany cell) net c = over_by cell limit.TooMany net c
  cause (TooWide cell) net c = over_by cell limit.TooWide net c
  cause NothingToUndo net c = (both_undo e f same c.0, c.1)
  cause NoMemory net c = absurd c

  pub answered_alike : (said : EditSaid) (new : NetHistory) → IsAnswered old f said new → IsAnswered old e said new
  answered_alike said new (Taken h) = Taken (record {
    gives = gives new.present h.gives;
    before = h.before;
    table = h.table;
    analysed = h.analysed;
    touched = h.touched;
    are = h.are;
    says = h.says;
  })
  answered_alike said new (Undone h) =
      Undone (record { undo = both_undo e f same h.undo; back = h.back; says = h.says })
  answered_alike said new (Refused h) = Refused (record {
    same = h.same;
    fault = h.fault;
    named_by = h.named_by;
    cause = cause h.fault h.named_by h.cause;
    says = h.says;
  })
