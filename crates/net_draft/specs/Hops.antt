-- Entries of paths: a server's name, or a name, `:` and the digits of a queue. Own choice.
use Rattle.std.specs.Prelude.{ℕ, ◌+◌, ◌-◌, ◌^◌, min, ◌==◌, ◌&&◌, Bool, nat_lt, nat_eq, if◌then◌else◌}
use Rattle.std.specs.Prelude.{List, [], ◌∷◌, drop, Option, Some, None, Result, Ok, Err}
use Rattle.std.specs.List.{list_any, position}
use Rattle.std.specs.Str.{bytes_eq}
use Rattle.std.specs.Str.Parse.{digits_value}
use Rattle.fraction128.specs.Text.{is_numeral, before_at}
use Rattle.run_laws.specs.Servers.{queue_count}
use Rattle.toml.specs.Data.{Data}
use Rattle.net_model.specs.declared.fault.NetKind.{NetKind}
use Rattle.net_model.specs.declared.fault.NetKind.TheVariants.{M5, M6, M8, M10}
use Rattle.net_draft.specs.declared.hop.Hop.{Hop}
pub use Rattle.net_model.specs.Names.{is_colon}
use Rattle.net_draft.specs.Faults.{◌>>=◌}
use Rattle.net_draft.specs.Texts.{ServerText}
use Rattle.net_draft.specs.Values.{text_in, is_name}

-- a name and a queue: a number above 2^32 - 1 counts as 2^32 - 1, which is a queue that no server has
pub record HopText : Type 0 where
  pub name : List ℕ
  pub queue : ℕ

-- the bytes after the first colon, or the digit 0
abbrev pub queue_digits : Option ℕ → List ℕ → List ℕ
queue_digits None bytes = 48 ∷ []
queue_digits (Some place) bytes = drop (place + 1) bytes

abbrev pub hop_parts : List ℕ → List ℕ → Result HopText NetKind
hop_parts name digits =
    if is_name name && is_numeral digits
    then Ok (record { name = name; queue = min (digits_value 10 digits) (2 ^ 32 - 1) })
    else Err M5

abbrev pub hop_text : List ℕ → Result HopText NetKind
hop_text s = hop_parts (before_at (position is_colon s) s) (queue_digits (position is_colon s) s)

-- the first server of a name, and its number from n on
unfoldable pub named_from : ℕ → List ℕ → List ServerText → Result (ℕ × ServerText) NetKind
named_from n name [] = Err M8
named_from n name (s ∷ ss) = if bytes_eq s.name name then Ok (n, s) else named_from (n + 1) name ss

-- a queue that the server has, of a server that is not on the path yet
abbrev pub hop_to : List Hop → ℕ → ℕ × ServerText → Result Hop NetKind
hop_to before queue found =
    if nat_lt queue (queue_count found.1.discipline)
    then (if list_any (λ h. nat_eq h.server found.0) before then Err M10
    else Ok (record { server = found.0; queue = queue }))
    else Err M6

unfoldable pub hop_in : List ServerText → List Hop → Data → Result Hop NetKind
hop_in servers before d =
    text_in d >>= λ s. hop_text s >>= λ h. named_from 0 h.name servers >>= λ found. hop_to before h.queue found
