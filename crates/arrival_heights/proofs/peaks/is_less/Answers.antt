use Rattle.std.proofs.Common.{◌/◌, rules, arith, inl, inr}
use Rattle.std.proofs.lemmas.Bool.{cases_lt}
use Rattle.arrival_heights.proofs.Further.{less_by_whole, same_whole}
use Rattle.arrival_heights.proofs.peaks.is_less.Goals as goal

pub returns-then-whole-other_whole : goal.returns-then-whole-other_whole
returns-then-whole-other_whole c =
    let a = c.args.over in
    let u = c.args.under in
    let b = c.args.other_over in
    let v = c.args.other_under in
    elim (cases_lt (a / u) (b / v)) [
      | inl less ↦ let l = less_by_whole a u b v c.requires.under c.requires.other_under less in search (rules, l)
      | inr more ↦ let l = less_by_whole b v a u c.requires.other_under c.requires.under (omega arith) in search (rules, l)
    ]

pub returns : goal.returns
returns c = let e = same_whole c.args.over c.args.under c.args.other_over c.args.other_under c.requires.under c.requires.other_under (omega arith) in search (rules, e)
