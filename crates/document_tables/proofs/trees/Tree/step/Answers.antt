use Rattle.std.specs.Prelude.{nat_eq}
use Rattle.std.specs.Map.{lookup}
use Rattle.std.proofs.Common.{◌≡◌, ℕ, Option, ◌++◌, ◌∷◌, [], cond, ◌==◌, None, Some, Err, sym, ap, subst, ◌∙◌}
use Rattle.document_rows.specs.declared.fault.Column.TheVariants.{Path}
use Rattle.document_rows.specs.Reads.{at}
use Rattle.document_tables.specs.Growing.{Grows}
use Rattle.document_tables.specs.Trees.{hangs}
use Rattle.document_tables.proofs.TreeFacts.{same_is}
use Rattle.document_tables.proofs.TreeSteps.{step_same, step_new, step_other}
use Rattle.document_tables.proofs.StopSteps.{comes_after_it, next_stops, same_next}
use Rattle.document_tables.proofs.trees.Tree.step.Goals as goal

pub returns-then-is_after : goal.returns-then-is_after
returns-then-is_after c =
    λ paths path k last fresh.
    let stops = c.args.self.now.stops in
    let kept : ℕ → Option (Option ℕ) = λ port. lookup (nat_eq port) stops in
    let there : kept c.args.port ≡ Some (Some c.args.after) =
    sym c.before-2.ensures ∙ (c.in-Some.is ∙ ap Some (same_is c.in-Some.before (Some c.args.after) (sym c.is_after.ensures ∙ c.if-is_after.true)))
    in
    let hung = step_same paths path kept c.args.self.now.root c.args.place c.args.after c.args.port k.kept last there in
    (hung.0, record { kept = hung.1; stops = same_next stops paths c.args.port path (Some c.args.after) last (Some c.args.after) k.stops there })

pub returns-else-is_after : goal.returns-else-is_after
returns-else-is_after c =
    λ paths path k last fresh. subst (λ e. Grows (Err e) (hangs paths c.args.place (Some c.args.after) c.args.port) (Some c.args.port) (paths ++ (path ++ c.args.port ∷ []) ∷ []) c.args.self.now)
    (sym c.wrong_path.ensures)
    (ap (at Path) (step_other paths path (λ port. lookup (nat_eq port) c.args.self.now.stops) c.args.self.now.root c.args.place c.args.after c.args.port c.in-Some.before k.kept fresh
    (sym c.before-2.ensures ∙ c.in-Some.is) (sym c.is_after.ensures ∙ c.if-is_after.false)))

pub returns-in_ok-pass-in-None : goal.returns-in_ok-pass-in-None
returns-in_ok-pass-in-None c =
    λ paths path k last fresh.
    let stops = c.args.self.now.stops in
    let kept : ℕ → Option (Option ℕ) = λ port. lookup (nat_eq port) stops in
    let next : ℕ → Option (Option ℕ) = λ port. lookup (nat_eq port) c.pass.new.self in
    let none : kept c.args.port ≡ None = sym c.before-2.ensures ∙ c.in-None.is in
    let each : (q : ℕ) → next q ≡ cond (c.args.port == q) (Some (Some c.args.after)) (kept q) =
    λ q. ap (lookup (nat_eq q)) c.in_ok-pass-in-None.ensures ∙ comes_after_it stops c.args.port (Some c.args.after) none q in
    let hung = step_new paths path kept next c.args.self.now.root c.args.place c.args.after c.args.port k.kept last none each in
    (hung.0, record { kept = hung.1; stops = c.in_ok-pass-in-None.ensures ∙ next_stops stops paths c.args.port path (Some c.args.after) last k.stops })
