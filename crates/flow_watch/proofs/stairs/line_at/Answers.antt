use Rattle.std.proofs.Common.{◌≡◌, ◌∙◌, ap}
use Rattle.std.proofs.lemmas.Result.{IfOk-weaker}
use Rattle.rational.specs.Rational.{ℚ, ◌+ℚ◌, ◌*ℚ◌}
use Rattle.flow_watch.proofs.stairs.line_at.Goals as goal

pub returns : goal.returns
returns c =
    let s = c.args.stair.now in
    IfOk-weaker c.add.result (λ (x : ℚ). x ≡ s.slack +ℚ c.in_ok-risen.risen) (λ (x : ℚ). x ≡ s.slack +ℚ s.rate *ℚ c.args.d)
    (λ (x : ℚ) (h : x ≡ s.slack +ℚ c.in_ok-risen.risen). h ∙ ap (λ y. s.slack +ℚ y) c.in_ok-risen.ensures.value) c.add.ensures.value
