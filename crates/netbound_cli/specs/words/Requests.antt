-- What a command line asks for: what `clap` reads of the words, or which of its refusals it makes of them. Own choice.
use Rattle.std.specs.Prelude.{ℕ, Bool, false, nat_le, List, [], ◌∷◌, map, codes, Option, Some, None, option_and_then}
use Rattle.std.specs.Prelude.{String, string_bytes, if◌then◌else◌}
use Rattle.std.specs.Str.{bytes_eq}
use Rattle.std.specs.declared.alloc.Global.{Global}
use Rattle.clap.specs.Simple.{matches_of}
use Rattle.clap.specs.Words.{Row, Text, first_of, fault_of, Kinds}
use Rattle.clap.specs.declared.error.kind.ErrorKind.TheVariants as kind
use Rattle.table_cells.specs.Amounts.{few_digits}
use Rattle.netbound_cli.specs.words.Apps.{netbound}

-- the bounds of the network of two tables, by the names of their files, where a frame has so many bytes on the wire
-- beside its own, as JSON or not; what the program does; or which version it is
pub data Request : Type 0 where
  Bounds : (ports links : Text) (overhead : ℕ) (json : Bool) → Request
  Help : Request
  Version : Request

-- the words as bytes
abbrev pub texts : List (String Global) → List Text
texts = map string_bytes

-- ---- taken words
abbrev pub usual_overhead : ℕ
usual_overhead = 20

abbrev pub most_overhead : ℕ
most_overhead = 1048576

abbrev pub in_range : ℕ → Option ℕ
in_range bytes = if nat_le bytes most_overhead then Some bytes else None

-- a whole number that a word writes
abbrev pub overhead_in : Option Text → Option ℕ
overhead_in None = Some usual_overhead
overhead_in (Some word) = option_and_then in_range (few_digits word)

-- the value of a flag that was given
abbrev pub is_given : Option Text → Bool
is_given None = false
is_given (Some value) = bytes_eq value (codes "true")

abbrev pub asks_json : List Row → Bool
asks_json rows = is_given (first_of (codes "json") rows)

abbrev pub bounds_in : List Row → Option Request
bounds_in rows =
    option_and_then (λ ports. option_and_then (λ links. option_and_then (λ overhead.
    Some (Bounds ports links overhead (asks_json rows))) (overhead_in (first_of (codes "overhead") rows)))
    (first_of (codes "links") rows)) (first_of (codes "ports") rows)

-- ---- refused words
abbrev pub asked_by : Kinds → List Row → Option Request
asked_by [] rows = bounds_in rows
asked_by (kind.DisplayHelp ∷ []) rows = Some Help
asked_by (kind.DisplayVersion ∷ []) rows = Some Version
asked_by kinds rows = None

-- the words ask for this; none where they are not taken
abbrev pub request_of : List Text → Option Request
request_of words = asked_by (fault_of netbound words) (matches_of netbound words)
