use Rattle.std.proofs.Common.{◌≡◌, drop}
use Rattle.std.specs.List.{list_any}
use Rattle.std.specs.Str.{bytes_eq}
use Rattle.net_draft.specs.Keys.{texts_of}
use Rattle.net_draft.proofs.keys.is_known.Given as goal

abbrev pub invariant-loop-word : goal.invariant-loop-word
invariant-loop-word l = list_any (bytes_eq l.key) (texts_of (drop l.word-index l.known)) ≡ list_any (bytes_eq l.key) (texts_of l.known)
