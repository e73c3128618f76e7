use Rattle.std.specs.Prelude.{◌≡◌, ◌++◌, OnOk}
use Rattle.std.proofs.Common.{subst, sym}
use Rattle.curve_lang.specs.Texts.{tail_text}
use Rattle.curve_lang.proofs.text.add_tail.Goals as goal

pub returns-in-Periodic : goal.returns-in-Periodic
returns-in-Periodic c =
    subst (λ t. OnOk c.add_repeated.result (c.add_repeated.new.out.items ≡ c.args.out.now.items ++ tail_text t)) (sym c.in-Periodic.is) c.add_repeated.ensures
