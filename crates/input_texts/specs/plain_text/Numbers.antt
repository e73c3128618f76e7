-- How a number that may be infinite is written. (Own choice.)
use Rattle.std.specs.Prelude.{ℕ, List, codes}
use Rattle.rational.specs.Extended.{Ext}
use Rattle.rational.specs.declared.Extended.TheVariants.{Fin, Inf}
use Rattle.fraction128.specs.Text.{text_of}

-- a whole number, or a fraction in lowest terms, or `unbounded` for infinity
abbrev pub number_text : Ext → List ℕ
number_text Inf = codes "unbounded"
number_text (Fin x) = text_of x
