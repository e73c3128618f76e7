-- What one flow more gives.
use Rattle.std.proofs.Common.{◌≡◌, ℕ, ◌<◌, ◌≤◌, List, length, None, Bool, true, false, sym, ap, ◌∙◌}
use Rattle.std.specs.Prelude.{Ok, Err, ℤ, nat_le, nat_lt, ◌&&◌, not}
use Rattle.std.specs.List.{list_all}
use Rattle.std.proofs.lemmas.Bool.{and_parts, and_from, not_from_false, leb-true, lt-ltb, le-ltb}
use Rattle.std.proofs.lemmas.List.Sums.{AllPass-from_list_all}
use Rattle.rational.specs.Rational.{ℚ}
use Rattle.net_model.specs.declared.edit.PathEntry.{PathEntry}
use Rattle.net_model.specs.Networks.{Net}
use Rattle.net_model.specs.Names.{IsName, is_name_byte}
use Rattle.net_model.specs.Accepted.{IsFlow, IsAccepted}
use Rattle.net_model.proofs.KindsStand.{kinds_may_stand}
use Rattle.net_edits.specs.Refusals.{Or, no_number_left, and_then, only_if}
use Rattle.net_edits.specs.Lookups.{server_numbers, is_free}
use Rattle.net_edits.specs.Values.{whole_that, is_length, is_name, entry_queues, may_be_path, fits_along, quanta_fit}
use Rattle.net_edits.specs.Changed.{with_more}
use Rattle.net_edits.specs.Edited.{Edited, is_negative, fitting, new_flow, only_if_free, only_if_left, add_edited}
use Rattle.net_edits.proofs.Steps.{passed}
use Rattle.net_edits.proofs.Signs.{nonneg_of}
use Rattle.net_edits.proofs.Found.{free_differs}
use Rattle.net_edits.proofs.Pathways.{way_of, hops_of}
use Rattle.net_edits.proofs.Flows.{more_stands, more_fits}
use Rattle.net_edits.proofs.FlowEdits.{bits_length, lanes_long}

name_of : (name : List ℕ) → is_name name ≡ true → IsName name
name_of name e =
    let first = and_parts (nat_le 1 (length name)) (nat_le (length name) 32 && list_all is_name_byte name) e in
    let second = and_parts (nat_le (length name) 32) (list_all is_name_byte name) first.1 in
    record {
      some = leb-true 1 (length name) first.0;
      few = leb-true (length name) 32 second.0;
      bytes = AllPass-from_list_all is_name_byte name second.1;
    }

-- what the tests of a flow have told that come before the numbers of flows are looked at
pub record MayBeAdded (net : Net) (name : List ℕ) (bits : ℤ) (b : ℕ) (burst rate : ℚ) (entries : List PathEntry)
    (path lanes : List ℕ) : Type 0 where
  pub accepted : IsAccepted net
  pub servers : server_numbers net entries ≡ Ok path
  pub free : is_free net name ≡ true
  pub named : is_name name ≡ true
  pub burst_up : is_negative burst ≡ false
  pub rate_up : is_negative rate ≡ false
  pub size : whole_that is_length bits ≡ Ok b
  pub queues : lanes ≡ entry_queues entries
  pub way : may_be_path net path lanes ≡ true
  pub fits : fits_along net.servers b path lanes ≡ true

module _ {net : Net} {name : List ℕ} {bits : ℤ} {b : ℕ} {burst rate : ℚ} {entries : List PathEntry} {path lanes : List ℕ}
    (may : MayBeAdded net name bits b burst rate entries path lanes) where
  is_flow : IsFlow net.servers (new_flow name b burst rate path lanes)
  is_flow =
      let w = way_of net path lanes may.way in
      let pair = lanes_long net entries path lanes may.servers may.queues in
      record {
        name = name_of name may.named;
        packet = bits_length bits b may.size;
        some = w.some;
        few = w.few;
        paired = pair;
        hops = hops_of net path lanes b w pair may.fits;
        once = w.once;
        arrival = kinds_may_stand.bucket burst rate (nonneg_of burst may.burst_up) (nonneg_of rate may.rate_up);
      }

  pub add_stands : length net.flows < 256 → IsAccepted (with_more (new_flow name b burst rate path lanes) net)
  add_stands room =
      more_stands net (new_flow name b burst rate path lanes) may.accepted room is_flow
      (free_differs net (new_flow name b burst rate path lanes) may.free)

  -- up to the numbers
  added : add_edited net name bits burst rate entries
      ≡ only_if_left (nat_lt (length net.flows) 256)
      (record { net = with_more (new_flow name b burst rate path lanes) net; made = None })
  added =
      ap (λ (r : Or (List ℕ)). and_then r (λ ss.
      only_if_free (is_free net name) name (
      only_if (is_name name && (not (is_negative burst) && not (is_negative rate))) (
      and_then (whole_that is_length bits) (λ m.
      only_if (may_be_path net ss (entry_queues entries)) (
      and_then (fitting (with_more (new_flow name m burst rate ss (entry_queues entries)) net) None)
      (only_if_left (nat_lt (length net.flows) 256)))))))) may.servers
      ∙ ap (λ (t : Bool). only_if_free t name (
      only_if (is_name name && (not (is_negative burst) && not (is_negative rate))) (
      and_then (whole_that is_length bits) (λ m.
      only_if (may_be_path net path (entry_queues entries)) (
      and_then (fitting (with_more (new_flow name m burst rate path (entry_queues entries)) net) None)
      (only_if_left (nat_lt (length net.flows) 256))))))) may.free
      ∙ passed (is_name name && (not (is_negative burst) && not (is_negative rate)))
      (and_then (whole_that is_length bits) (λ m.
      only_if (may_be_path net path (entry_queues entries)) (
      and_then (fitting (with_more (new_flow name m burst rate path (entry_queues entries)) net) None)
      (only_if_left (nat_lt (length net.flows) 256)))))
      (and_from (is_name name) (not (is_negative burst) && not (is_negative rate)) may.named
      (and_from (not (is_negative burst)) (not (is_negative rate)) (not_from_false (is_negative burst) may.burst_up)
      (not_from_false (is_negative rate) may.rate_up)))
      ∙ ap (λ (r : Or ℕ). and_then r (λ m.
      only_if (may_be_path net path (entry_queues entries)) (
      and_then (fitting (with_more (new_flow name m burst rate path (entry_queues entries)) net) None)
      (only_if_left (nat_lt (length net.flows) 256))))) may.size
      ∙ ap (λ (qs : List ℕ). only_if (may_be_path net path qs) (
      and_then (fitting (with_more (new_flow name b burst rate path qs) net) None)
      (only_if_left (nat_lt (length net.flows) 256)))) (sym may.queues)
      ∙ passed (may_be_path net path lanes) (and_then (fitting (with_more (new_flow name b burst rate path lanes) net) None)
      (only_if_left (nat_lt (length net.flows) 256))) may.way
      ∙ ap (λ (r : Or Edited). and_then r (only_if_left (nat_lt (length net.flows) 256)))
      (passed (quanta_fit (with_more (new_flow name b burst rate path lanes) net))
      (Ok (record { net = with_more (new_flow name b burst rate path lanes) net; made = None }))
      (more_fits net (new_flow name b burst rate path lanes) may.accepted ∙ may.fits))

  pub add_edit : length net.flows < 256
      → add_edited net name bits burst rate entries
      ≡ Ok (record { net = with_more (new_flow name b burst rate path lanes) net; made = None })
  add_edit room =
      added
      ∙ ap (λ (t : Bool). only_if_left t (record { net = with_more (new_flow name b burst rate path lanes) net; made = None }))
      (lt-ltb (length net.flows) 256 room)

  pub no_more : 256 ≤ length net.flows → add_edited net name bits burst rate entries ≡ Err no_number_left
  no_more full =
      added
      ∙ ap (λ (t : Bool). only_if_left t (record { net = with_more (new_flow name b burst rate path lanes) net; made = None }))
      (le-ltb (length net.flows) 256 full)
