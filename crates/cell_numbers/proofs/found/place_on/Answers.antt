use Rattle.std.proofs.Common.{◌≡◌, sym, ap, ◌∙◌, arith, inl, inr}
use Rattle.std.specs.Prelude.{slice_index}
use Rattle.std.proofs.lemmas.Bool.{cases_lt}
use Rattle.std.proofs.lemmas.List.{get_or_default}
use Rattle.cell_numbers.proofs.found.place_on.Goals as goal

pub loop-place-preserved : goal.loop-place-preserved
loop-place-preserved c = λ j l.
    let path = c.args.path.now in
    let k = c.loop-place.place in
    elim (cases_lt j k) [
      | inl before ↦ c.loop-place.invariant j before
      | inr after ↦
          let same : j ≡ k = omega (arith, l, after) in
          λ e. c.if-path-place.false (get_or_default path k _ 0 c.loop-place-test.true ∙ ap (slice_index path) (sym same) ∙ e)
    ]

pub returns-then-path-place : goal.returns-then-path-place
returns-then-path-place c = record {
  inside = c.loop-place-test.true;
  here = sym (get_or_default c.args.path.now c.loop-place.place _ 0 c.loop-place-test.true) ∙ c.if-path-place.true;
  before = c.loop-place.invariant;
}

pub returns : goal.returns
returns c = λ j l. let past = c.loop-place-test.false in c.loop-place.invariant j (omega (arith, l, past))
