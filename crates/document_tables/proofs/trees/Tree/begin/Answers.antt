use Rattle.std.specs.Prelude.{nat_eq}
use Rattle.std.specs.Map.{lookup}
use Rattle.std.proofs.Common.{◌≡◌, ℕ, Option, ◌++◌, ◌∷◌, [], cond, ◌==◌, None, Some, Err, sym, ap, subst, ◌∙◌}
use Rattle.std.proofs.lemmas.Bool.{ne_eqb}
use Rattle.document_rows.specs.declared.fault.Column.TheVariants.{Path}
use Rattle.document_rows.specs.Reads.{at}
use Rattle.document_tables.specs.Growing.{Grows}
use Rattle.document_tables.specs.Trees.{hangs}
use Rattle.document_tables.proofs.TreeSteps.{begin_same, begin_new, begin_other, unbegun}
use Rattle.document_tables.proofs.StopSteps.{comes_after_it, next_first, same_first}
use Rattle.document_tables.proofs.trees.Tree.begin.Goals as goal

pub returns-then-root-port : goal.returns-then-root-port
returns-then-root-port c =
    λ paths k.
    let stops = c.args.self.now.stops in
    let kept : ℕ → Option (Option ℕ) = λ port. lookup (nat_eq port) stops in
    let r : c.args.self.now.root ≡ Some c.args.port = c.in-Some.is ∙ ap Some c.if-root-port.true in
    let hung = begin_same paths kept c.args.self.now.root 0 c.args.port k.kept r in
    let there = k.kept.all c.args.port None (k.kept.root_held c.args.port r) in (hung.0, record { kept = hung.1; stops = same_first stops paths c.args.port None k.stops there })

pub returns-else-root-port : goal.returns-else-root-port
returns-else-root-port c =
    λ paths k. subst (λ e. Grows (Err e) (hangs paths 0 None c.args.port) (Some c.args.port) (paths ++ (c.args.port ∷ []) ∷ []) c.args.self.now) (sym c.wrong_path.ensures)
    (ap (at Path) (begin_other paths (λ port. lookup (nat_eq port) c.args.self.now.stops) c.args.self.now.root 0 c.args.port c.in-Some.root k.kept c.in-Some.is (ne_eqb c.in-Some.root c.args.port c.if-root-port.false)))

pub returns-in_ok-pass-in-None : goal.returns-in_ok-pass-in-None
returns-in_ok-pass-in-None c =
    λ paths k.
    let stops = c.args.self.now.stops in
    let kept : ℕ → Option (Option ℕ) = λ port. lookup (nat_eq port) stops in
    let next : ℕ → Option (Option ℕ) = λ port. lookup (nat_eq port) c.pass.new.self in
    let none : kept c.args.port ≡ None = unbegun paths kept c.args.self.now.root c.args.port k.kept c.in-None.is in
    let each : (q : ℕ) → next q ≡ cond (c.args.port == q) (Some None) (kept q) =
    λ q. ap (lookup (nat_eq q)) c.in_ok-pass-in-None.ensures ∙ comes_after_it stops c.args.port None none q in
    let hung = begin_new paths kept next c.args.self.now.root 0 c.args.port k.kept c.in-None.is each in
    (hung.0, record { kept = hung.1; stops = c.in_ok-pass-in-None.ensures ∙ next_first stops paths c.args.port k.stops })
