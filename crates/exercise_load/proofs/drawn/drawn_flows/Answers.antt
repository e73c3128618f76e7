use Rattle.std.proofs.Common.{◌∷◌, ◌++◌, [], map, ap, sym, ◌∙◌, arith}
use Rattle.std.specs.List.{range_with_len}
use Rattle.std.proofs.lemmas.List.FromFn.{map-range_with_len_more}
use Rattle.exercise_load.specs.Draws.{state_after}
use Rattle.exercise_load.specs.Drawn.{drawn_from, drawn_flow}
use Rattle.exercise_load.proofs.DrawnAre.{at_first, five_more}
use Rattle.exercise_load.proofs.drawn.drawn_flows.Goals as goal

pub loop-number-init : goal.loop-number-init
loop-number-init c = record { drawn = c.in_ok-flows.ensures.items; state = at_first c.args.seed }

pub loop-number-preserved : goal.loop-number-preserved
loop-number-preserved c =
    let n = c.loop-number.number in
    let seed = c.args.seed in
    record {
      drawn = c.in_ok-push.ensures.items
          ∙ ap (λ fs. fs ++ c.next_flow.result ∷ []) c.loop-number.invariant.drawn
          ∙ ap (λ f. map (drawn_flow seed) (range_with_len 0 n) ++ f ∷ [])
          (c.next_flow.ensures.flow ∙ ap (drawn_from seed n) c.loop-number.invariant.state)
          ∙ sym (map-range_with_len_more (drawn_flow seed) 0 n n (omega arith));
      state = c.next_flow.ensures.state ∙ ap (λ x. state_after x 5) c.loop-number.invariant.state
          ∙ sym (five_more seed n);
    }
