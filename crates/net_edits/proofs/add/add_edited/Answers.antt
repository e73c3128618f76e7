use Rattle.std.proofs.Common.{w64, Ok, ◌≡◌, ◌<◌, List, ℕ, length, sym, ap, ◌∙◌, subst, arith}
use Rattle.std.specs.Prelude.{ℤ}
use Rattle.std.specs.Option.{option_map}
use Rattle.std.proofs.lemmas.Int.{to_z-of_z}
use Rattle.std.proofs.lemmas.List.{length-map}
use Rattle.net_model.specs.Accepted.{IsAccepted}
use Rattle.net_model.specs.Networks.{NetServer, NetFlow}
use Rattle.net_model.specs.Views.{flow_of}
use Rattle.net_edits.specs.Values.{whole_that, is_length, fits_along, may_be_path}
use Rattle.net_edits.specs.Changed.{with_more}
use Rattle.net_edits.proofs.Signs.{nonneg_of}
use Rattle.net_edits.proofs.Steps.{change_reply}
use Rattle.net_edits.proofs.Added.{MayBeAdded, add_stands, add_edit, no_more}
use Rattle.net_edits.proofs.add.add_edited.Goals as goal
use Rattle.net_edits.proofs.add.add_edited.Goals.{After-flows}

pub new_flow-requires-clause-burst : goal.new_flow-requires-clause-burst
new_flow-requires-clause-burst c = nonneg_of c.args.bucket.0 (sym c.is_negative.ensures ∙ c.if-is_negative.false)

pub new_flow-requires-clause-rate : goal.new_flow-requires-clause-rate
new_flow-requires-clause-rate c = nonneg_of c.args.bucket.1 (sym c.is_negative-2.ensures ∙ c.if-is_negative-2.false)

-- ---- where the numbers of flows are looked at
-- every test before has passed
passed : (c : After-flows)
    → MayBeAdded c.args.net.now c.args.name.now c.args.bits c.in_ok-bits.bits c.args.bucket.0 c.args.bucket.1 c.args.entries.now
    c.in_ok-path.path.items c.in_ok-lanes.lanes.items
passed c =
    let net = c.args.net.now in
    let path = c.in_ok-path.path.items in
    let b = c.in_ok-bits.bits in
    let way =
    ap (λ (xs : List ℕ). may_be_path net path xs) (sym c.deref-2.ensures.value)
    ∙ ap (λ (xs : List ℕ). may_be_path net xs c.deref-2.result.now) (sym c.deref.ensures.value)
    ∙ sym c.may_be_path.ensures ∙ c.if-not-may_be_path.false in
    let told =
    c.fits_along.ensures
    ∙ ap (λ (ss : List NetServer). fits_along ss b c.deref-3.result.now c.deref-4.result.now) c.servers.ensures.servers
    ∙ ap (λ (xs : List ℕ). fits_along net.servers b xs c.deref-4.result.now) c.deref-3.ensures.value
    ∙ ap (λ (xs : List ℕ). fits_along net.servers b path xs) c.deref-4.ensures.value in
    record {
      accepted = c.flows.ensures.kept;
      servers = c.in_ok-path.ensures.numbers;
      free = sym c.is_free.ensures ∙ c.if-not-is_free.false;
      named = sym c.is_name.ensures ∙ c.if-not-is_name.false;
      burst_up = sym c.is_negative.ensures ∙ c.if-is_negative.false;
      rate_up = sym c.is_negative-2.ensures ∙ c.if-is_negative-2.false;
      size = subst (λ (z : ℤ). whole_that is_length z ≡ Ok b) (to_z-of_z w64 c.args.bits c.ranges.bits) c.in_ok-bits.ensures;
      queues = c.in_ok-lanes.ensures;
      way = way;
      fits = sym told ∙ c.if-not-fits_along.false;
    }

given : (c : After-flows) → length c.args.net.now.flows ≡ length c.flows.result.now
given c = sym (ap length c.flows.ensures.flows) ∙ length-map c.flows.result.now (option_map flow_of)

pub returns-then-flows-ge-MOST_FLOWS : goal.returns-then-flows-ge-MOST_FLOWS
returns-then-flows-ge-MOST_FLOWS c =
    let at = (goal.at.returns-then-flows-ge-MOST_FLOWS c).After-flows in
    no_more (passed at) (omega (arith, given at, c.if-flows-ge-MOST_FLOWS.true))

pub returns : goal.returns
returns c =
    let at = (goal.at.returns c).After-flows in
    let left : length c.args.net.now.flows < 256 = omega (arith, given at, c.if-flows-ge-MOST_FLOWS.false) in
    change_reply _ _ c.args.net.now _ (add_edit (passed at) left) (ap (λ (f : NetFlow). with_more f c.args.net.now) c.in_ok-flow.ensures) tt
    (subst (λ (f : NetFlow). IsAccepted (with_more f c.args.net.now)) (sym c.in_ok-flow.ensures) (add_stands (passed at) left))
