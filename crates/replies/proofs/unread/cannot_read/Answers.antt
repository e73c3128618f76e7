use Rattle.std.proofs.Common.{◌++◌, List, ℕ, sym, ◌∙◌, ap, append_assoc}
use Rattle.std.specs.Prelude.{codes, Vec}
use Rattle.std.specs.declared.alloc.Global.{Global}
use Rattle.replies.specs.Replies.{Reply}
use Rattle.replies.proofs.unread.cannot_read.Goals as goal

pub returns : goal.returns
returns c =
    let R : List ℕ → Reply = λ bytes. record { status = 3; bytes = bytes } in
    let T : Vec ℕ Global → Reply = λ text. record { status = 3; bytes = text.items } in
    let front = c.args.front.now in
    let file = c.args.file.now in
    ap T c.into_bytes.ensures.value
    ∙ ap R (c.in_ok-line.ensures.ok
    ∙ ap (λ (rest : List ℕ). front ++ rest) (sym (append_assoc (codes "cannot read ") file (codes "\n")))
    ∙ sym (append_assoc front (codes "cannot read " ++ file) (codes "\n")))
