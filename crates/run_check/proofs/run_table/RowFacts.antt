-- Rows of a recorded run.
use Rattle.std.proofs.Common.{Ok, ◌≡◌, ℕ, List, Some, None, refl, sym, ap, subst, inr, ◌∙◌}
use Rattle.rational.specs.Rational.{ℚ}
use Rattle.net_model.specs.Networks.{Net}
use Rattle.net_model.specs.Names.{IsServerNamed, IsFlowNamed, FindsServer, FindsFlow}
use Rattle.run_laws.specs.declared.steps.Step.TheVariants.{Enter, Reach, Work, Leave, Visit}
use Rattle.run_check.specs.declared.run_table.fault.RunKind.TheVariants.{T5}
use Rattle.run_check.specs.declared.run_table.run_rows.RunEntry.TheVariants.{Does, Ends}
use Rattle.input_texts.specs.table_text.Rows.{Row, field}
use Rattle.input_texts.specs.table_text.Fields.{number_in, time_in, bits_in}
use Rattle.run_check.specs.run_table.RunRows.{index_in, enter_row, reach_row, work_row, leave_row, visit_row, end_row, enter_of, reach_of, work_of, leave_of, visit_of, end_of, Gives, IsWrongIn}

-- ---- enter
module _ (net : Net) (packets : ℕ) (row : Row) (a b name : List ℕ) (time : ℚ) (bits : ℕ) where
  enter_says : a ≡ field row 1 → b ≡ field row 3 → Some time ≡ time_in a → Some bits ≡ bits_in b → enter_of row ≡ Ok (enter_row time (field row 2) bits)
  enter_says ea eb sa sb =
      let ta : time_in (field row 1) ≡ Some time = ap time_in (sym ea) ∙ sym sa in
      let tb : bits_in (field row 3) ≡ Some bits = ap bits_in (sym eb) ∙ sym sb in
      rw (ta, tb) refl

  pub enter_gives : (id : ℕ) → a ≡ field row 1 → b ≡ field row 3 → Some time ≡ time_in a → Some bits ≡ bits_in b → name ≡ field row 2 → IsFlowNamed net.flows name id
      → Gives net packets (enter_of row) (Does (Enter id packets time bits))
  enter_gives id ea eb sa sb en h = record {
    says = enter_row time (field row 2) bits;
    is = enter_says ea eb sa sb;
    names = (refl, refl, refl, subst (λ x. IsFlowNamed net.flows x id) en h);
  }

  pub enter_unknown : a ≡ field row 1 → b ≡ field row 3 → Some time ≡ time_in a → Some bits ≡ bits_in b → name ≡ field row 2 → FindsFlow net.flows name None → IsWrongIn net (enter_of row) T5
  enter_unknown ea eb sa sb en h = inr (
    refl,
    record { says = enter_row time (field row 2) bits; is = enter_says ea eb sa sb; unknown = subst (λ x. FindsFlow net.flows x None) en h },
  )

-- ---- reach
module _ (net : Net) (packets : ℕ) (row : Row) (a b name : List ℕ) (time : ℚ) (packet : ℕ) where
  reach_says : a ≡ field row 1 → b ≡ field row 3 → Some time ≡ time_in a → Some packet ≡ index_in b → reach_of row ≡ Ok (reach_row time (field row 2) packet)
  reach_says ea eb sa sb =
      let ta : time_in (field row 1) ≡ Some time = ap time_in (sym ea) ∙ sym sa in
      let tb : index_in (field row 3) ≡ Some packet = ap index_in (sym eb) ∙ sym sb in
      rw (ta, tb) refl

  pub reach_gives : (id : ℕ) → a ≡ field row 1 → b ≡ field row 3 → Some time ≡ time_in a → Some packet ≡ index_in b → name ≡ field row 2 → IsServerNamed net.servers name id
      → Gives net packets (reach_of row) (Does (Reach id packet time))
  reach_gives id ea eb sa sb en h = record {
    says = reach_row time (field row 2) packet;
    is = reach_says ea eb sa sb;
    names = (refl, refl, subst (λ x. IsServerNamed net.servers x id) en h);
  }

  pub reach_unknown : a ≡ field row 1 → b ≡ field row 3 → Some time ≡ time_in a → Some packet ≡ index_in b → name ≡ field row 2 → FindsServer net.servers name None → IsWrongIn net (reach_of row) T5
  reach_unknown ea eb sa sb en h = inr (
    refl,
    record { says = reach_row time (field row 2) packet; is = reach_says ea eb sa sb; unknown = subst (λ x. FindsServer net.servers x None) en h },
  )

-- ---- work
module _ (net : Net) (packets : ℕ) (row : Row) (a b c d name : List ℕ) (packet : ℕ) (start : ℚ) (end : ℚ) (bits : ℚ) where
  work_says : a ≡ field row 2 → b ≡ field row 3 → c ≡ field row 4 → d ≡ field row 5 → Some packet ≡ index_in a → Some start ≡ time_in b → Some end ≡ time_in c → Some bits ≡ number_in d → work_of row ≡ Ok (work_row (field row 1) packet start end bits)
  work_says ea eb ec ed sa sb sc sd =
      let ta : index_in (field row 2) ≡ Some packet = ap index_in (sym ea) ∙ sym sa in
      let tb : time_in (field row 3) ≡ Some start = ap time_in (sym eb) ∙ sym sb in
      let tc : time_in (field row 4) ≡ Some end = ap time_in (sym ec) ∙ sym sc in
      let td : number_in (field row 5) ≡ Some bits = ap number_in (sym ed) ∙ sym sd in
      rw (ta, tb, tc, td) refl

  pub work_gives : (id : ℕ) → a ≡ field row 2 → b ≡ field row 3 → c ≡ field row 4 → d ≡ field row 5 → Some packet ≡ index_in a → Some start ≡ time_in b → Some end ≡ time_in c → Some bits ≡ number_in d → name ≡ field row 1 → IsServerNamed net.servers name id
      → Gives net packets (work_of row) (Does (Work id packet start end bits))
  work_gives id ea eb ec ed sa sb sc sd en h = record {
    says = work_row (field row 1) packet start end bits;
    is = work_says ea eb ec ed sa sb sc sd;
    names = (refl, refl, refl, refl, subst (λ x. IsServerNamed net.servers x id) en h);
  }

  pub work_unknown : a ≡ field row 2 → b ≡ field row 3 → c ≡ field row 4 → d ≡ field row 5 → Some packet ≡ index_in a → Some start ≡ time_in b → Some end ≡ time_in c → Some bits ≡ number_in d → name ≡ field row 1 → FindsServer net.servers name None → IsWrongIn net (work_of row) T5
  work_unknown ea eb ec ed sa sb sc sd en h = inr (
    refl,
    record { says = work_row (field row 1) packet start end bits; is = work_says ea eb ec ed sa sb sc sd; unknown = subst (λ x. FindsServer net.servers x None) en h },
  )

-- ---- leave
module _ (net : Net) (packets : ℕ) (row : Row) (a b name : List ℕ) (time : ℚ) (packet : ℕ) where
  leave_says : a ≡ field row 1 → b ≡ field row 3 → Some time ≡ time_in a → Some packet ≡ index_in b → leave_of row ≡ Ok (leave_row time (field row 2) packet)
  leave_says ea eb sa sb =
      let ta : time_in (field row 1) ≡ Some time = ap time_in (sym ea) ∙ sym sa in
      let tb : index_in (field row 3) ≡ Some packet = ap index_in (sym eb) ∙ sym sb in
      rw (ta, tb) refl

  pub leave_gives : (id : ℕ) → a ≡ field row 1 → b ≡ field row 3 → Some time ≡ time_in a → Some packet ≡ index_in b → name ≡ field row 2 → IsServerNamed net.servers name id
      → Gives net packets (leave_of row) (Does (Leave id packet time))
  leave_gives id ea eb sa sb en h = record {
    says = leave_row time (field row 2) packet;
    is = leave_says ea eb sa sb;
    names = (refl, refl, subst (λ x. IsServerNamed net.servers x id) en h);
  }

  pub leave_unknown : a ≡ field row 1 → b ≡ field row 3 → Some time ≡ time_in a → Some packet ≡ index_in b → name ≡ field row 2 → FindsServer net.servers name None → IsWrongIn net (leave_of row) T5
  leave_unknown ea eb sa sb en h = inr (
    refl,
    record { says = leave_row time (field row 2) packet; is = leave_says ea eb sa sb; unknown = subst (λ x. FindsServer net.servers x None) en h },
  )

-- ---- visit
module _ (net : Net) (packets : ℕ) (row : Row) (a b name : List ℕ) (time : ℚ) (queue : ℕ) where
  visit_says : a ≡ field row 1 → b ≡ field row 3 → Some time ≡ time_in a → Some queue ≡ index_in b → visit_of row ≡ Ok (visit_row time (field row 2) queue)
  visit_says ea eb sa sb =
      let ta : time_in (field row 1) ≡ Some time = ap time_in (sym ea) ∙ sym sa in
      let tb : index_in (field row 3) ≡ Some queue = ap index_in (sym eb) ∙ sym sb in
      rw (ta, tb) refl

  pub visit_gives : (id : ℕ) → a ≡ field row 1 → b ≡ field row 3 → Some time ≡ time_in a → Some queue ≡ index_in b → name ≡ field row 2 → IsServerNamed net.servers name id
      → Gives net packets (visit_of row) (Does (Visit id queue time))
  visit_gives id ea eb sa sb en h = record {
    says = visit_row time (field row 2) queue;
    is = visit_says ea eb sa sb;
    names = (refl, refl, subst (λ x. IsServerNamed net.servers x id) en h);
  }

  pub visit_unknown : a ≡ field row 1 → b ≡ field row 3 → Some time ≡ time_in a → Some queue ≡ index_in b → name ≡ field row 2 → FindsServer net.servers name None → IsWrongIn net (visit_of row) T5
  visit_unknown ea eb sa sb en h = inr (
    refl,
    record { says = visit_row time (field row 2) queue; is = visit_says ea eb sa sb; unknown = subst (λ x. FindsServer net.servers x None) en h },
  )

-- ---- end
pub end_gives : (net : Net) (packets : ℕ) (row : Row) (a : List ℕ) (time : ℚ) → a ≡ field row 1 → Some time ≡ time_in a → Gives net packets (end_of row) (Ends time)
end_gives net packets row a time ea sa = record {
  says = end_row time;
  is = let ta : time_in (field row 1) ≡ Some time = ap time_in (sym ea) ∙ sym sa in rw ta refl;
  names = refl;
}
