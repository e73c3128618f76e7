use Rattle.std.proofs.Common.{◌++◌, ap, ◌∙◌}
use Rattle.element_envelope.specs.JoinedWindows.{joined_list, lead_of}
use Rattle.element_envelope.proofs.JoinedReads.{window_is}
use Rattle.element_envelope.proofs.window.joined_window.Goals as goal

pub returns : goal.returns
returns c =
    let j = c.args.j.now in
    window_is j c.push_joined.new.pieces.items c.requires.nonneg c.requires.adjoined
    (c.in_ok-push_joined.ensures ∙ ap (λ z. z ++ joined_list j.first j.join j.second) (c.in_ok-pieces.ensures ∙ ap lead_of c.start_of.ensures))
