-- A command without subcommands is refused at words by one kind of error at most.
use Rattle.std.proofs.Common.{◌≡◌, ◌≤◌, ℕ, zero, suc, Bool, true, false, List, [], ◌∷◌, length, map, drop, Option}
use Rattle.std.proofs.Common.{Some, None, inl, inr, refl, sym, ap, cond, arith}
use Rattle.std.specs.Prelude.{◌+◌, ◌==◌, ◌&&◌, encode_utf8, is_some, min, nat_lt, not}
use Rattle.std.specs.Option.{option_map_or}
use Rattle.std.specs.List.{list_any}
use Rattle.std.specs.Str.{bytes_eq}
use Rattle.clap.specs.Walk.{Held, Step, next, trailing, subcommand, value, idle, option, positional, Row, Rule}
use Rattle.clap.specs.Walk.{Text, Waiting, Walk, action_of}
use Rattle.clap.specs.Walk.{arg_by_id, arg_by_index, arg_by_long, arg_by_short, attached_value, count_of}
use Rattle.clap.specs.Walk.{finished}
use Rattle.clap.specs.Walk.{is_pending, most_values, nothing_held, reacted, settled, subcommand_met, takes_several}
use Rattle.clap.specs.Walk.{values_or_missing, walk, walk_from, walked, with_default, word_met}
use Rattle.clap.specs.Lexer.{long_of}
use Rattle.clap.specs.Matches.{count_text}
use Rattle.clap.specs.Facts.{explicit_source, parser_of_value, unwrap_or_range}
use Rattle.clap.specs.Takes.{is_given}
use Rattle.clap.specs.Simple.{App, Shape, argument_words, built, label_of, names_of}
use Rattle.clap.specs.Kinds.{IsAmong, Kinds, check_kinds, or_else, range_kinds, request_kinds, value_kinds}
use Rattle.clap.specs.Kinds.{values_kinds}
use Rattle.clap.specs.Faults
use Rattle.clap.specs.declared.builder.action.ArgAction.{ArgAction}
use Rattle.clap.specs.declared.builder.action.ArgAction.TheVariants as action
use Rattle.clap.specs.declared.builder.value_parser.ValueParser.{ValueParser}
use Rattle.clap.specs.declared.error.kind.ErrorKind.{ErrorKind}
use Rattle.clap.specs.declared.error.kind.ErrorKind.TheVariants as kind

-- at most one kind
pub record IsOne (kinds : Kinds) : Type 0 where
  pub few : length kinds ≤ 1

nothing : IsOne []
nothing = record { few = omega arith }

single : (k : ErrorKind) → IsOne (k ∷ [])
single k = record { few = omega arith }

or_one : (a b : Kinds) → IsOne a → IsOne b → IsOne (or_else a b)
or_one [] b h k = k
or_one (x ∷ a) b h k = h

if_one : (test : Bool) (a b : Kinds) → IsOne a → IsOne b → IsOne (cond test a b)
if_one true a b h k = h
if_one false a b h k = k

may_one : {T : Type 0} (f : T → Kinds) (o : Option T) (d : Kinds) → ((x : T) → IsOne (f x)) → IsOne d
    → IsOne (option_map_or f o d)
may_one f None d h k = k
may_one f (Some x) d h k = h x

-- ---- one use of an argument
value_one : (ignore_case : Bool) (parser : ValueParser) (text : Text) → IsOne (value_kinds ignore_case parser text)
value_one ignore_case parser text = if_one _ _ _ nothing (single _)

values_one : (ignore_case : Bool) (parser : ValueParser) (vs : List Text) → IsOne (values_kinds ignore_case parser vs)
values_one ignore_case parser [] = nothing
values_one ignore_case parser (v ∷ vs) = or_one _ _ (value_one ignore_case parser v)
    (values_one ignore_case parser vs)

range_one : (least most n : ℕ) → IsOne (range_kinds least most n)
range_one least most n = by (nat_lt 0 least && n == 0) (least == most) (least == n) (nat_lt n least) (nat_lt most n)
  where
    by : (none same fits few many : Bool) → IsOne (cond none (kind.InvalidValue ∷ [])
        (cond same (cond fits [] (kind.WrongNumberOfValues ∷ []))
        (cond few (kind.TooFewValues ∷ []) (cond many (kind.TooManyValues ∷ []) []))))
    by true same fits few many = single kind.InvalidValue
    by false true true few many = nothing
    by false true false few many = single kind.WrongNumberOfValues
    by false false fits true many = single kind.TooFewValues
    by false false fits false true = single kind.TooManyValues
    by false false fits false false = nothing

request_one : (a : ArgAction) → IsOne (request_kinds a)
request_one action.Set = nothing
request_one action.Append = nothing
request_one action.SetTrue = nothing
request_one action.SetFalse = nothing
request_one action.Count = nothing
request_one action.Help = single _
request_one action.HelpShort = single _
request_one action.HelpLong = single _
request_one action.Version = single _

set_one : (again : Bool) (a : Rule) (values : List Text) (rows : List Row)
    → IsOne (Faults.set_fault again a values rows)
set_one again a values rows = or_one _ _ (if_one _ _ _ (single _) nothing) (values_one _ _ values)

count_one : (a : Rule) (values : List Text) (rows : List Row) → IsOne (Faults.count_fault a values rows)
count_one a [] rows = value_one a.ignore_case (parser_of_value a.parser)
    (count_text (min (count_of a.id rows + 1) 255))
count_one a (v ∷ vs) rows = values_one a.ignore_case (parser_of_value a.parser) (v ∷ vs)

action_one : (act : ArgAction) (again : Bool) (a : Rule) (values : List Text) (rows : List Row)
    → IsOne (Faults.action_fault act again a values rows)
action_one action.Set again a values rows = set_one again a values rows
action_one action.Append again a values rows = values_one _ _ values
action_one action.SetTrue again a values rows = set_one again a values rows
action_one action.SetFalse again a values rows = set_one again a values rows
action_one action.Count again a values rows = count_one a values rows
action_one action.Help again a values rows = single _
action_one action.HelpShort again a values rows = single _
action_one action.HelpLong again a values rows = single _
action_one action.Version again a values rows = single _

use_one : (again : Bool) (a : Rule) (values : List Text) (rows : List Row)
    → IsOne (Faults.use_fault again a values rows)
use_one again a values rows = or_one _ _ (range_one (unwrap_or_range a.range).start_inclusive (most_values a)
    (length values)) (action_one (action_of a) again a (values_or_missing a values) rows)

-- ---- the walk
settle_one : (c : List Rule) (again : Bool) (h : Held) → IsOne (Faults.settle_fault c again h)
settle_one c again h = may_one _ h.pending [] (λ p. may_one _ (arg_by_id c p.0) [] (λ a. use_one again a p.1 h.rows)
    nothing) nothing

react_one : (c : List Rule) (again : Bool) (a : Rule) (values : List Text) (h : Held)
    → IsOne (Faults.react_fault c again a values h)
react_one c again a values h = or_one _ _ (settle_one c again h) (use_one again a values (settled c h).rows)

option_one : (c : List Rule) (again : Bool) (a : Rule) (v : Option Text) (h : Held)
    → IsOne (Faults.option_fault c again a v h)
option_one c again a (Some v) h = react_one c again a (v ∷ []) h
option_one c again a None h = settle_one c again h

long_one : (c : List Rule) (again : Bool) (a : Option Rule) (v : Option Text) (h : Held)
    → IsOne (Faults.long_fault c again a v h)
long_one c again None v h = single _
long_one c again (Some a) v h = if_one _ _ _ (option_one c again a v h)
    (if_one _ _ _ (single _) (react_one c again a [] h))

short_one : (c : List Rule) (again : Bool) (a : Option Rule) (rest : Text) (h : Held) (later : Held → Kinds)
    → ((x : Held) → IsOne (later x)) → IsOne (Faults.short_fault c again a rest h later)
short_one c again None rest h later one = single _
short_one c again (Some a) rest h later one =
    if_one _ _ _ (option_one c again a (attached_value rest) h)
    (or_one _ _ (react_one c again a [] h) (one (reacted c a [] h)))

step_one : (c : List Rule) (again : Bool) (x : Option ℕ) (flags : Text) (skip : ℕ) (h : Held)
    (later : Text → ℕ → Held → Kinds)
    → ((rest : Text) (n : ℕ) (y : Held) → IsOne (later rest n y))
    → IsOne (Faults.bundle_step_fault c again x flags skip h later)
step_one c again None flags skip h later one = nothing
step_one c again (Some x) flags zero h later one =
    let rest = drop (length (encode_utf8 x)) flags in
    short_one c again (arg_by_short c x) rest h (later rest 0) (λ y. one rest 0 y)
step_one c again (Some x) flags (suc skip) h later one = one (drop (length (encode_utf8 x)) flags) skip h

flags_one : (c : List Rule) (again : Bool) (k : ℕ) (flags : Text) (skip : ℕ) (h : Held)
    → IsOne (Faults.flags_fault c again k flags skip h)
unfolding Faults.flags_fault
flags_one c again zero flags skip h = nothing
flags_one c again (suc k) flags skip h = step_one c again _ flags skip h _ (λ rest n y. flags_one c again k rest n y)

flag_word_one : (c : List Rule) (again : Bool) (p : Option (Text × Option Text)) (word : Text) (h : Held)
    → IsOne (Faults.flag_word_fault c again p word h)
flag_word_one c again (Some p) word h = long_one c again (arg_by_long c p.0) p.1 h
flag_word_one c again None word h = may_one _ _ [] (λ flags. flags_one c again _ flags _ _) nothing

other_one : (s : Shape) (word : Text) (h : Held) → IsOne (Faults.other_fault s None word h)
other_one s word h =
    if_one (bytes_eq word (45 ∷ 45 ∷ [])) [] (Faults.flag_word_fault s.rules s.args_override_self (long_of word) word
    h) nothing
    (flag_word_one s.rules s.args_override_self (long_of word) word h)

-- no word names a subcommand where there is none
no_name : (waiting : Waiting) (word : Text) → ◌≡◌ {A = Option Text} (subcommand_met [] waiting word) None
no_name idle word = refl
no_name (option id) word = refl
no_name positional word = refl

word_one : (s : Shape) (is_trailing : Bool) (waiting : Waiting) (word : Text) (h : Held)
    → IsOne (Faults.word_fault s [] is_trailing waiting word h)
word_one s is_trailing waiting word h =
    if_one is_trailing [] (Faults.other_fault s (subcommand_met [] waiting word) word h) nothing
    (rw (no_name waiting word) (other_one s word h))

positional_one : (c : List Rule) (again : Bool) (a : Rule) (h : Held) → IsOne (Faults.positional_fault c again a h)
positional_one c again a h =
    if_one (is_pending a h.pending && takes_several a) [] (Faults.settle_fault c again h) nothing
    (settle_one c again h)

turn_step_one : (s : Shape) (position : ℕ) (h : Held) (step : Step) → s.is_leaf ≡ true
    → IsOne (Faults.step_fault s position h step)
turn_step_one s position h (next w) leaf = nothing
turn_step_one s position h (trailing n) leaf = nothing
turn_step_one s position h (subcommand name) leaf = nothing
turn_step_one s position h value leaf =
    may_one (λ a. Faults.positional_fault s.rules s.args_override_self a h) (arg_by_index s.rules position)
    (Faults.stray_fault s)
    (λ a. positional_one s.rules s.args_override_self a h) (rw leaf (single kind.UnknownArgument))

turn_one : (s : Shape) (w : Walk) (word : Text) → s.is_leaf ≡ true → IsOne (Faults.turn_fault s [] w word)
turn_one s w word leaf =
    let met = word_met s.rules [] w.is_trailing w.waiting w.position word w.held in
    let named = Faults.word_fault s [] w.is_trailing w.waiting word w.held in
    let stepped = Faults.step_fault s w.position met.0 met.1 in
    if_one (is_some w.stopped) [] (or_else named stepped) nothing
    (or_one named stepped (word_one s w.is_trailing w.waiting word w.held)
    (turn_step_one s w.position met.0 met.1 leaf))

walk_one : (s : Shape) (w : Walk) (words : List Text) → s.is_leaf ≡ true → IsOne (Faults.walk_fault s [] w words)
unfolding Faults.walk_fault
walk_one s w [] leaf = nothing
walk_one s w (word ∷ rest) leaf =
    let more = walked s.rules [] w word in
    or_one (Faults.turn_fault s [] w word) (Faults.walk_fault s [] more rest) (turn_one s w word leaf)
    (walk_one s more rest leaf)

-- ---- after the walk
default_one : (rows : List Row) (a : Rule) → IsOne (Faults.default_fault rows a)
default_one rows a = if_one _ _ _ nothing (or_one _ _ (request_one (action_of a))
    (values_one a.ignore_case (parser_of_value a.parser) a.defaults))

defaults_one : (rows : List Row) (rules : List Rule) → IsOne (Faults.defaults_fault rows rules)
unfolding Faults.defaults_fault
defaults_one rows [] = nothing
defaults_one rows (a ∷ rest) = or_one _ _ (default_one rows a) (defaults_one (with_default rows a) rest)

checks_one : (a b c : Bool) → IsOne (check_kinds a b c)
checks_one true b c = single kind.DisplayHelpOnMissingArgumentOrSubcommand
checks_one false true c = single kind.MissingSubcommand
checks_one false false true = single kind.MissingRequiredArgument
checks_one false false false = nothing

check_one : (s : Shape) (rows : List Row) (has : Bool) → IsOne (Faults.check_fault s rows has)
check_one s rows has =
    checks_one (not has && (s.arg_required_else_help && not (list_any (λ r. explicit_source r.source) rows)))
    (not has && s.subcommand_required)
    (not (s.subcommand_negates_reqs && has) && list_any (λ a. a.required && not (is_given a.id rows)) s.rules)

level_one : (s : Shape) (h : Held) (words : List Text) (has : Bool) (below : Kinds) → s.is_leaf ≡ true → IsOne below
    → IsOne (Faults.level_fault s [] h words has below)
level_one s h words has below leaf one =
    let end = (walk s.rules [] h words).held in
    let walked = Faults.walk_fault s [] (walk_from h) words in
    let held = Faults.settle_fault s.rules s.args_override_self end in
    let told = Faults.defaults_fault (settled s.rules end).rows s.rules in
    let checked = Faults.check_fault s (finished s.rules end) has in
    or_one walked (or_else below (or_else held (or_else told checked))) (walk_one s (walk_from h) words leaf)
    (or_one below (or_else held (or_else told checked)) one
    (or_one held (or_else told checked) (settle_one s.rules s.args_override_self end)
    (or_one told checked (defaults_one (settled s.rules end).rows s.rules) (check_one s (finished s.rules end) has))))

entered_one : (a : App) (stop : Option (Text × List Text)) → a.subs ≡ [] → IsOne (Faults.entered_fault a stop)
entered_one a None none = nothing
entered_one a (Some p) none = rw none nothing

pub at_words : (a : App) (words : List Text) → (built a).subs ≡ [] → (built a).top.is_leaf ≡ true
    → IsOne (Faults.fault_of a words)
at_words a words none leaf =
    let names : names_of (built a) ≡ [] = ap (map label_of) none in
    rw names (level_one (built a).top nothing_held (argument_words a words) _ _ leaf (entered_one (built a) _ none))

-- the kind that an error has is the only one
pub is_only : (kinds : Kinds) (k : ErrorKind) → IsOne kinds → IsAmong k kinds → kinds ≡ k ∷ []
is_only [] k one among = absurd among
is_only (x ∷ []) k one (inl same) = ap (λ (y : ErrorKind). y ∷ []) (sym same)
is_only (x ∷ []) k one (inr among) = absurd among
is_only (x ∷ y ∷ kinds) k one among = absurd (omega (arith, one.few))
