use Rattle.std.proofs.Common.{sym, ◌∙◌, ap₂, pos_of_ne-zero, nat_cmp, ◌*◌, ◌/◌, ◌≡◌, ◌≢◌, ℕ}
use native.Mathlib.Nat.{div-add-mod, mod-lt}
use Rattle.fraction128.proofs.Compared.{cmp_whole, cmp_turned, cmp_none, cmp_same_q}
use Rattle.fraction128.proofs.order.compare_rests.Goals as goal

pub returns-then-left-right : goal.returns-then-left-right
returns-then-left-right c =
    let p = c.steps.p in let q = c.steps.q in let r = c.steps.r in let s = c.steps.s in
    let n : p / q ≢ r / s = λ h. c.if-left-right.true (c.divide-left.ensures.whole ∙ h ∙ sym c.divide-right.ensures.whole) in
    c.cmp.ensures
    ∙ ap₂ nat_cmp c.divide-left.ensures.whole c.divide-right.ensures.whole
    ∙ cmp_whole p q r s _ _ _ _ (div-add-mod p q) (div-add-mod r s) (mod-lt p c.steps.invariant.left) (mod-lt r c.steps.invariant.right) n
    ∙ c.steps.invariant.same

pub returns-then-over-eq0 : goal.returns-then-over-eq0
returns-then-over-eq0 c =
    let p = c.steps.p in let q = c.steps.q in let r = c.steps.r in let s = c.steps.s in
    let h : p / q ≡ r / s = sym c.divide-left.ensures.whole ∙ c.if-left-right.false ∙ c.divide-right.ensures.whole in
    c.cmp-then-over-eq0.ensures
    ∙ cmp_none _ _ q s c.steps.invariant.left c.steps.invariant.right c.then-over-eq0.either
    ∙ ap₂ (λ (x y : ℕ). nat_cmp (x * s) (y * q)) c.divide-left.ensures.rest c.divide-right.ensures.rest
    ∙ cmp_same_q p q r s h ∙ c.steps.invariant.same

pub steps-preserved : goal.steps-preserved
steps-preserved c =
    let p = c.steps.p in let q = c.steps.q in let r = c.steps.r in let s = c.steps.s in
    let h : p / q ≡ r / s = sym c.divide-left.ensures.whole ∙ c.if-left-right.false ∙ c.divide-right.ensures.whole in
    record {
      left = pos_of_ne-zero c.if-rest-eq0.false;
      right = pos_of_ne-zero c.if-over-eq0.false;
      same = sym (cmp_turned _ _ q s)
          ∙ ap₂ (λ (x y : ℕ). nat_cmp (x * s) (y * q)) c.divide-left.ensures.rest c.divide-right.ensures.rest
          ∙ cmp_same_q p q r s h ∙ c.steps.invariant.same;
    }
