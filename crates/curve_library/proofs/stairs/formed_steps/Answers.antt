use Rattle.std.proofs.Common.{subst, sym}
use Rattle.upp_curve.specs.Normal.{IsNormal}
use Rattle.curve_library.specs.Causes.{KeepsOwnLimits}
use Rattle.curve_library.proofs.SignTests.{nonpos_out, positive_out}
use Rattle.curve_library.proofs.StairParts.{is_one, is_two, second_wide}
use Rattle.curve_library.proofs.stairs.formed_steps.Goals as goal

pub of_normal-requires : goal.of_normal-requires
of_normal-requires c =
    let a = c.args in
    let e = is_one a.rise a.period a.first a.late (nonpos_out c.is_positive.result a.late c.is_positive.ensures c.if-not-is_positive.true) in
    rw (c.flat.ensures, c.zero-rank.ensures) (subst IsNormal (sym e) c.requires.normal)

pub returns-then-not-is_positive : goal.returns-then-not-is_positive
returns-then-not-is_positive c =
    let a = c.args in
    let e = is_one a.rise a.period a.first a.late (nonpos_out c.is_positive.result a.late c.is_positive.ensures c.if-not-is_positive.true) in
    subst (λ k. KeepsOwnLimits k c.of_normal.result) e (rw (c.flat.ensures, c.zero-rank.ensures) at c.of_normal.ensures)

pub of_normal-requires-in-Some : goal.of_normal-requires-in-Some
of_normal-requires-in-Some c =
    let a = c.args in
    let e = is_two a.rise a.period a.first a.late (positive_out c.is_positive.result a.late c.is_positive.ensures c.if-not-is_positive.false) in
    rw (c.flat-in-Some.ensures, c.in-Some.ensures, c.zero-rank.ensures) (subst IsNormal (sym e) c.requires.normal)

pub returns-in-Some : goal.returns-in-Some
returns-in-Some c =
    let a = c.args in
    let e = is_two a.rise a.period a.first a.late (positive_out c.is_positive.result a.late c.is_positive.ensures c.if-not-is_positive.false) in
    subst (λ k. KeepsOwnLimits k c.of_normal-in-Some.result) e (rw (c.flat-in-Some.ensures, c.in-Some.ensures, c.zero-rank.ensures) at c.of_normal-in-Some.ensures)

pub returns-in-None : goal.returns-in-None
returns-in-None c =
    let a = c.args in
    second_wide a.rise a.period a.first a.late c.requires.normal c.requires.late c.in-None.ensures
