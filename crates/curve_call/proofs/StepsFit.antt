-- What a step that may not fit answers.
use Rattle.std.specs.Prelude.{Option, Some, None, IfSome, MatchOption}

pub if_it_fits : {A : Type 0} (o : Option A) (P : Type 0) (Q : A → Type 0) → MatchOption o P Q → IfSome o Q
if_it_fits None P Q h = tt
if_it_fits (Some x) P Q h = h
