-- How the known bytes of a reader and of a writer go on over several calls.
use Rattle.std.proofs.Common.{◌≡◌, ◌-◌, ℕ, List, ◌++◌, length, take, drop, Option, Some, None, refl, ◌∙◌, append_assoc, arith, length-append}
use Rattle.std.proofs.lemmas.Grind.{common_steps}
use Rattle.std.proofs.lemmas.List.{take_rest}
use Rattle.std.specs.Io.KnownBytes.{Appends, Keeps}
use Rattle.outside.specs.Written.{AppendsFront}

-- Of `bytes` those before `rest` were written.
pub record HasWritten (old now : Option (List ℕ)) (bytes rest : List ℕ) : Type 0 where
  pub done : List ℕ
  pub whole : done ++ rest ≡ bytes
  pub written : Appends old now done

appends-appends : (old now new : Option (List ℕ)) (xs ys : List ℕ) → Appends old now xs → Appends now new ys
    → Appends old new (xs ++ ys)
appends-appends None now new xs ys a b = tt
appends-appends (Some os) None new xs ys a b = elim a [ ]
appends-appends (Some os) (Some ns) None xs ys a b = elim b [ ]
appends-appends (Some os) (Some ns) (Some ms) xs ys a b = rw (b, a) (append_assoc os xs ys)

appends-keeps : (old now new : Option (List ℕ)) (xs : List ℕ) → Appends old now xs → Keeps now new → Appends old new xs
appends-keeps None now new xs a b = tt
appends-keeps (Some os) None new xs a b = elim a [ ]
appends-keeps (Some os) (Some ns) None xs a b = elim b [ ]
appends-keeps (Some os) (Some ns) (Some ms) xs a b = b ∙ a

keeps-same : (known : Option (List ℕ)) → Keeps known known
keeps-same None = tt
keeps-same (Some xs) = refl

front-of : (old new : Option (List ℕ)) (done rest : List ℕ) → Appends old new done → AppendsFront old new (done ++ rest)
front-of None new done rest a = tt
front-of (Some os) None done rest a = elim a [ ]
front-of (Some os) (Some ns) done rest a = (length done, (omega (arith, length-append done rest)), rw a (grind (arith, common_steps)))

pub has_written-more : (old now new : Option (List ℕ)) (bytes rest : List ℕ) (count : ℕ)
    → HasWritten old now bytes rest → Appends now new (take count rest) → HasWritten old new bytes (drop count rest)
has_written-more old now new bytes rest count before more = record {
  done = before.done ++ take count rest;
  whole = grind (arith, common_steps, before.whole);
  written = appends-appends old now new before.done (take count rest) before.written more;
}

-- the same, with the rest as a slice's range has it
pub has_written-range : (old now new : Option (List ℕ)) (bytes rest : List ℕ) (count : ℕ)
    → HasWritten old now bytes rest → Appends now new (take count rest)
    → HasWritten old new bytes (take (length rest - count) (drop count rest))
has_written-range old now new bytes rest count before more =
    rw (take_rest rest count) (has_written-more old now new bytes rest count before more)

pub appends_front-has_written : (old now new : Option (List ℕ)) (bytes rest : List ℕ) → HasWritten old now bytes rest
    → Keeps now new → AppendsFront old new bytes
appends_front-has_written old now new bytes rest before keeps =
    let front : AppendsFront old new (before.done ++ rest) = front-of old new before.done rest (appends-keeps old now new before.done before.written keeps) in
    rw before.whole at front

pub appends_front-more : (old now new : Option (List ℕ)) (bytes rest : List ℕ) (count : ℕ)
    → HasWritten old now bytes rest → Appends now new (take count rest) → AppendsFront old new bytes
appends_front-more old now new bytes rest count before more =
    appends_front-has_written old new new bytes (drop count rest) (has_written-more old now new bytes rest count before more) (keeps-same new)
