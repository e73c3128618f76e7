-- Edits that no limit refuses: those that make no curve, and those whose curve is over none.
use Rattle.std.proofs.Common.{◌≡◌, ℕ, List, Option, None, Bool, true, false, sym, subst}
use Rattle.std.specs.Prelude.{Ok, Err, ℤ, length, nat_lt, not, ◌&&◌}
use Rattle.rational.specs.Rational.{ℚ}
use Rattle.net_model.specs.declared.edit.PathEntry.{PathEntry}
use Rattle.upp_curve.specs.Kinds.{bucket}
use Rattle.net_model.specs.Networks.{Net}
use Rattle.net_model.specs.Quanta.{is_quantum_of}
use Rattle.net_cells.specs.Numbered.{discipline}
use Rattle.net_edits.specs.declared.fault.EditFault.{EditFault}
use Rattle.net_edits.specs.declared.fault.EditFault.TheVariants.{NoMemory}
use Rattle.net_edits.specs.Refusals.{Or, unknown_name, and_then, only_if}
use Rattle.net_edits.specs.Lookups.{server_number, flow_number, server_numbers, is_free}
use Rattle.net_edits.specs.Values.{whole_that, is_length, is_name, entry_queues, may_be_path, quanta_fit}
use Rattle.net_edits.specs.Changed.{at_server, with_link, with_quantum, at_flow, with_arrival, with_packet, with_path, dropped, with_more}
use Rattle.net_edits.specs.Edited.{MadeCurve, Edited, is_negative, fitting, new_flow, only_if_free, only_if_left, link_edited, quantum_edited, bucket_edited, packet_edited, route_edited, drop_edited, add_edited}
use Rattle.net_edits.specs.Replies.{MadeCurveFits, MakesNone, IsOverNone}

-- ---- an edit whose curve is over none
pub within_none : (r : Or Edited) (edited : Edited) → r ≡ Ok edited → MadeCurveFits edited.made → IsOverNone r
within_none r edited e h = subst IsOverNone (sym e) h

-- nothing was made for a curve, for want of memory
pub memory_within : (made : Option MadeCurve) (fault : EditFault) → MakesNone made fault → fault ≡ NoMemory
    → MadeCurveFits made
memory_within made fault h e = subst (MakesNone made) e h

-- ---- steps
module _ {X : Type 0} where
  pub unknown_none : (r : Or X) (next : X → Or Edited) (name : List ℕ) → r ≡ Err (unknown_name name)
      → IsOverNone (and_then r next)
  unknown_none r next name e = subst (λ (s : Or X). IsOverNone (and_then s next)) (sym e) tt

  then_none : (r : Or X) (next : X → Or Edited) → ((x : X) → IsOverNone (next x)) → IsOverNone (and_then r next)
  then_none (Ok x) next h = h x
  then_none (Err refusal) next h = tt

only_none : (test : Bool) (r : Or Edited) → IsOverNone r → IsOverNone (only_if test r)
only_none true r h = h
only_none false r h = tt

free_none : (test : Bool) (name : List ℕ) (r : Or Edited) → IsOverNone r → IsOverNone (only_if_free test name r)
free_none true name r h = h
free_none false name r h = tt

left_none : (test : Bool) (edited : Edited) → MadeCurveFits edited.made → IsOverNone (only_if_left test edited)
left_none true edited h = h
left_none false edited h = tt

-- ---- edits that make no curve
fitting_none : (net : Net) → IsOverNone (fitting net None)
fitting_none net = only_none (quanta_fit net) (Ok (record { net = net; made = None })) tt

more_none : (net : Net) (fits left : Bool)
    → IsOverNone (and_then (only_if fits (Ok (record { net = net; made = None }))) (only_if_left left))
more_none net true left = left_none left (record { net = net; made = None }) tt
more_none net false left = tt

tested_none : (test : Bool) (net : Net) → IsOverNone (only_if test (fitting net None))
tested_none test net = only_none test (fitting net None) (fitting_none net)

pub link_none : (net : Net) (name : List ℕ) (link : ℚ) → IsOverNone (link_edited net name link)
link_none net name link =
    then_none (server_number net name) _ (λ s. tested_none (not (is_negative link)) (at_server (with_link link) net s))

pub quantum_none : (net : Net) (name : List ℕ) (queue bits : ℤ) → IsOverNone (quantum_edited net name queue bits)
quantum_none net name queue bits =
    then_none (server_number net name) _ (λ s. then_none (whole_that (is_quantum_of (discipline net s)) queue) _ (λ q.
    then_none (whole_that is_length bits) _ (λ b. fitting_none (at_server (with_quantum q b) net s))))

pub bucket_none : (net : Net) (name : List ℕ) (burst rate : ℚ) → IsOverNone (bucket_edited net name burst rate)
bucket_none net name burst rate =
    then_none (flow_number net name) _ (λ i.
    tested_none (not (is_negative burst) && not (is_negative rate)) (at_flow (with_arrival (bucket burst rate)) net i))

pub packet_none : (net : Net) (name : List ℕ) (bits : ℤ) → IsOverNone (packet_edited net name bits)
packet_none net name bits =
    then_none (flow_number net name) _ (λ i.
    then_none (whole_that is_length bits) _ (λ b. fitting_none (at_flow (with_packet b) net i)))

pub route_none : (net : Net) (name : List ℕ) (path : List PathEntry) → IsOverNone (route_edited net name path)
route_none net name path =
    then_none (flow_number net name) _ (λ i. then_none (server_numbers net path) _ (λ ss.
    tested_none (may_be_path net ss (entry_queues path)) (at_flow (with_path ss (entry_queues path)) net i)))

pub drop_none : (net : Net) (name : List ℕ) → IsOverNone (drop_edited net name)
drop_none net name = then_none (flow_number net name) _ (λ i. fitting_none (at_flow dropped net i))

pub add_none : (net : Net) (name : List ℕ) (bits : ℤ) (burst rate : ℚ) (path : List PathEntry)
    → IsOverNone (add_edited net name bits burst rate path)
add_none net name bits burst rate path =
    then_none (server_numbers net path) _ (λ ss.
    free_none (is_free net name) name _ (only_none (is_name name && (not (is_negative burst) && not (is_negative rate))) _
    (then_none (whole_that is_length bits) _ (λ b.
    let after = with_more (new_flow name b burst rate ss (entry_queues path)) net in
    only_none (may_be_path net ss (entry_queues path))
    (and_then (fitting after None) (only_if_left (nat_lt (length net.flows) 256)))
    (more_none after (quanta_fit after) (nat_lt (length net.flows) 256))))))
