-- What one value of a file is read as, or what is wrong with it; its place is looked at elsewhere. Own choice.
use Rattle.std.specs.Prelude.{ℕ, ℤ, pos, negsuc, Bool, List, [], ◌∷◌, length, ◌&&◌, nat_le, nat_lt, if◌then◌else◌}
use Rattle.std.specs.Prelude.{Option, Some, None, option_map, Result, Ok, Err}
use Rattle.std.specs.List.{list_all, list_any}
use Rattle.std.specs.Str.{bytes_eq}
use Rattle.rational.specs.Rational.{ℚ, int}
use Rattle.rational.specs.Ratio.{cmp_q}
use Rattle.std.specs.Ordering.{is_lt}
use Rattle.fraction128.specs.declared.fault.FracText.{FracText}
use Rattle.fraction128.specs.Text.{parse_of}
use Rattle.toml.specs.Data.{Data, Items, no_items, item, Members, get_member}
use Rattle.toml.specs.Data.{as_str, as_integer, as_bool, as_array, as_table}
use Rattle.net_model.specs.declared.fault.NetKind.{NetKind}
use Rattle.net_model.specs.declared.fault.NetKind.TheVariants.{M2, M4, M5, M6, M7, M11}
use Rattle.net_draft.specs.Faults.{◌>>=◌, Read, placed, under}
pub use Rattle.net_model.specs.Names.{is_name}

-- ---- kinds
-- a value of the kind that is asked for
abbrev pub wanted : {A : Type 0} → Option A → Result A NetKind
wanted None = Err M4
wanted (Some x) = Ok x

-- the entries of an array
abbrev pub entries : Items → List Data
entries no_items = []
entries (item d ds) = d ∷ entries ds

abbrev pub text_in : Data → Result (List ℕ) NetKind
text_in d = wanted (as_str d)

abbrev pub truth_in : Data → Result Bool NetKind
truth_in d = wanted (as_bool d)

abbrev pub table_in : Data → Result Members NetKind
table_in d = wanted (as_table d)

abbrev pub entries_in : Data → Result (List Data) NetKind
entries_in d = wanted (option_map entries (as_array d))

-- ---- numbers
abbrev pub written : Result ℚ FracText → Result ℚ NetKind
written (Ok x) = Ok x
written (Err e) = Err M5

-- an integer, or a string that writes a number
abbrev pub number_of : Option ℤ → Option (List ℕ) → Result ℚ NetKind
number_of (Some z) s = Ok (int z)
number_of None (Some s) = written (parse_of s)
number_of None None = Err M4

abbrev pub number_in : Data → Result ℚ NetKind
number_in d = number_of (as_integer d) (as_str d)

-- x is below y
abbrev pub less : ℚ → ℚ → Bool
less x y = is_lt (cmp_q x y)

abbrev pub above_zero : ℚ → Result ℚ NetKind
above_zero x = if less (int (pos 0)) x then Ok x else Err M6

abbrev pub not_below_zero : ℚ → Result ℚ NetKind
not_below_zero x = if less x (int (pos 0)) then Err M6 else Ok x

abbrev pub positive_in : Data → Result ℚ NetKind
positive_in d = number_in d >>= above_zero

abbrev pub nonnegative_in : Data → Result ℚ NetKind
nonnegative_in d = number_in d >>= not_below_zero

-- an integer from the least to the most
abbrev pub in_range : ℕ → ℕ → ℤ → Result ℕ NetKind
in_range least most (pos n) = if nat_le least n && nat_le n most then Ok n else Err M6
in_range least most (negsuc n) = Err M6

abbrev pub whole_in : ℕ → ℕ → Data → Result ℕ NetKind
whole_in least most d = wanted (as_integer d) >>= in_range least most

-- the lengths of packets and quanta
abbrev pub longest : ℕ
longest = 16777216

-- ---- names
-- 1 to 32 letters, digits, `_` or `-`

abbrev pub name_of : List ℕ → Result (List ℕ) NetKind
name_of s = if is_name s then Ok s else Err M6

abbrev pub name_in : Data → Result (List ℕ) NetKind
name_in d = text_in d >>= name_of

-- a name that none of those before it is
abbrev pub untaken : List (List ℕ) → List ℕ → Result (List ℕ) NetKind
untaken names s = if list_any (bytes_eq s) names then Err M7 else Ok s

abbrev pub new_name : List (List ℕ) → Data → Result (List ℕ) NetKind
new_name names d = name_in d >>= untaken names

-- ---- arrays of so many entries
abbrev pub counted : ℕ → ℕ → List Data → Result (List Data) NetKind
counted least most ds =
    if nat_lt (length ds) least then Err M6 else if nat_lt most (length ds) then Err M11 else Ok ds

abbrev pub list_in : ℕ → ℕ → Data → Result (List Data) NetKind
list_in least most d = entries_in d >>= counted least most

-- ---- keys of a table
abbrev pub required : {A : Type 0} → (Data → Result A NetKind) → Option Data → Result A NetKind
required read None = Err M2
required read (Some d) = read d

abbrev pub optional : {A : Type 0} → (Data → Result A NetKind) → A → Option Data → Result A NetKind
optional read default None = Ok default
optional read default (Some d) = read d

-- what stands at a key of the table at a place
abbrev pub at_key : {A : Type 0} → List ℕ → (Option Data → Result A NetKind) → List ℕ → Members → Read A
at_key name read place ms = placed (under place name) (read (get_member name ms))
