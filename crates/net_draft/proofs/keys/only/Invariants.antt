use Rattle.std.proofs.Common.{◌≡◌}
use Rattle.toml.specs.View.{members_view}
use Rattle.net_draft.specs.Keys.{only, texts_of}
use Rattle.net_draft.proofs.keys.only.Given as goal

abbrev pub invariant-loop-key : goal.invariant-loop-key
invariant-loop-key l =
    (goal.iterator-loop-key).can_next l.key-iterator × (goal.iterator-loop-key).is_finite l.key-iterator
    × (only (texts_of l.known) l.place (members_view l.key-iterator) ≡ only (texts_of l.known) l.place (members_view l.table.entries))
