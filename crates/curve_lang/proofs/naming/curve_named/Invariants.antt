use Rattle.std.proofs.Common.{◌≡◌, map, drop}
use Rattle.curve_lang.specs.Found.{curve_named}
use Rattle.curve_lang.specs.Views.{let_view}
use Rattle.curve_lang.proofs.naming.curve_named.Given as goal

-- the names before have other words
abbrev pub invariant-loop-l : goal.invariant-loop-l
invariant-loop-l l = curve_named (map let_view l.lets) l.word ≡ curve_named (map let_view (drop l.l-index l.lets)) l.word
