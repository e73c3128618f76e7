use Rattle.std.proofs.Common.{◌≡◌, ℕ, ◌-◌, List, Option, ◌++◌, ◌∷◌, [], take, drop, get_or, None, Some, Ok, Err, refl, sym, ap, subst, ◌∙◌, arith}
use Rattle.std.proofs.lemmas.List.{take_all}
use Rattle.std.proofs.lemmas.Result.{err_from_is_err_and}
use Rattle.document_tables.specs.Growing.{Grows}
use Rattle.document_tables.specs.Trees.{hangs_from, last_of, IsTreeOf}
use Rattle.document_tables.proofs.GrowSteps.{refused_at, grown_at, hang_all, last_before}
use Rattle.document_tables.proofs.trees.Tree.grow.Goals as goal

pub returns-in_err-begin : goal.returns-in_err-begin
returns-in_err-begin c =
    λ paths k.
    let path = c.args.path.now in
    let p = err_from_is_err_and c.from_residual.result c.from_residual.ensures.1 in
    subst (λ r. Grows r (hangs_from paths 0 None path) (last_of None path) (paths ++ path ∷ []) c.begin.new.self) (sym (p.1 ∙ ap Err p.2))
    (refused_at c.in_err-begin.field-0.0 paths path 0 None (Some (get_or path 0 0)) (last_of None path) (paths ++ (get_or path 0 0 ∷ []) ∷ []) (paths ++ path ∷ []) c.begin.new.self c.requires.some refl
    (c.in_err-begin.ensures paths k))

pub loop-place-init : goal.loop-place-init
loop-place-init c = record {
  some = omega arith;
  so_far = λ paths k. grown_at paths c.args.path.now 0 None c.begin.new.self c.requires.some refl (c.in_ok-begin.ensures paths k);
}

pub returns-in_err-step : goal.returns-in_err-step
returns-in_err-step c =
    λ paths k.
    let path = c.args.path.now in
    let n = c.loop-place.place in
    let p = err_from_is_err_and c.from_residual-in_err-step.result c.from_residual-in_err-step.ensures.1 in
    let before = c.loop-place.invariant.so_far paths k in
    let last = last_before path n c.loop-place.invariant.some (omega arith) in
    subst (λ r. Grows r (hangs_from paths 0 None path) (last_of None path) (paths ++ path ∷ []) c.step.new.self) (sym (p.1 ∙ ap Err p.2))
    (refused_at c.in_err-step.field-0.0 paths path n (Some (get_or path (n - 1) 0)) (Some (get_or path n 0)) (last_of None path) (paths ++ (take n path ++ get_or path n 0 ∷ []) ∷ []) (paths ++ path ∷ []) c.step.new.self (omega arith)
    (before.1 ∙ ap (λ (l : Option ℕ). hangs_from paths n l (drop n path)) last)
    (c.in_err-step.ensures paths (take n path) before.0 last (c.requires.own n (omega arith))))

pub loop-place-preserved : goal.loop-place-preserved
loop-place-preserved c =
    let path = c.args.path.now in
    let n = c.loop-place.place in record {
      some = omega arith;
      so_far = λ paths k.
          let before = c.loop-place.invariant.so_far paths k in
          let last = last_before path n c.loop-place.invariant.some (omega arith) in
          grown_at paths path n (Some (get_or path (n - 1) 0)) c.step.new.self (omega arith) (before.1 ∙ ap (λ (l : Option ℕ). hangs_from paths n l (drop n path)) last)
          (c.in_ok-step.ensures paths (take n path) before.0 last (c.requires.own n (omega arith)));
    }

pub returns : goal.returns
returns c =
    λ paths k.
    let path = c.args.path.now in
    let n = c.loop-place.place in
    let before = c.loop-place.invariant.so_far paths k in
    let all : take n path ≡ path = take_all n path (omega arith) in (
      before.1 ∙ (hang_all paths path n (last_of None (take n path)) (omega arith) ∙ ap (λ (front : List ℕ). Ok (last_of None front)) all),
      subst (λ (front : List ℕ). IsTreeOf (paths ++ front ∷ []) c.loop-place.self) all before.0,
    )
