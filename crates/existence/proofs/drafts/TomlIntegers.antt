-- Each integer of a file has at most 64 bits, as the grammar of TOML says of each number.
use Rattle.std.specs.Prelude.{codes, drop, take, filter, slice_index, not, ◌++◌}
use Rattle.std.proofs.Common.{◌≡◌, ℕ, ℤ, pos, zero, suc, ◌<◌, ◌≤◌, ◌^◌, ◌&&◌, ◌||◌, ◌==◌, nat_lt, nat_abs, Bool, true, false, if◌then◌else◌, List, [], ◌∷◌, length, Option, Some, None, option_map, option_and_then, refl, subst, sym, arith}
use Rattle.std.specs.Ordering.{match_ordering, nat_cmp}
use Rattle.std.specs.Cmp.Lexicographic.{slice_cmp}
use Rattle.std.specs.declared.cmp.Ordering.{Ordering}
use Rattle.std.specs.declared.cmp.Ordering.TheVariants.{Less, Equal, Greater}
use Rattle.std.specs.List.{list_all}
use Rattle.std.specs.Char.{is_digit}
use Rattle.std.specs.Float.{binary64, float_is_finite}
use Rattle.std.specs.Float.Ieee.{inf, nan}
use Rattle.std.specs.Str.Parse.{digits_value}
use Rattle.std.specs.Str.{bytes_eq, is_utf8}
use Rattle.std.proofs.lemmas.Bool.{and_parts, ltb-true}
use Rattle.std.proofs.lemmas.Bool.Decides.{nat_tests}
use Rattle.fast_float.specs.Text.{Parts, with_sign, nearest, digits_of, scan}
use Rattle.toml_parser.specs.declared.scalar.Scalar.{Scalar}
use Rattle.toml_parser.specs.declared.scalar.Scalar.TheVariants.{Boolean, Integer, Float, Datetime}
use Rattle.toml_datetime.specs.Parse.{parse_datetime}
use Rattle.toml_parser.specs.Lexical.{Read, plus, dash, underscore, left_bracket, right_bracket, left_brace, right_brace, first, skip_ws, skip_blank}
use Rattle.toml_parser.specs.Strings.{Key, quoted, starts_string, recursion_limit}
use Rattle.toml_parser.specs.Numbers.{prefixed_integer, integer_of, float_of, decimal_number, plain_number, number, word_value, unquoted, radix_of, underscores_fit, underscore_radix, is_decimal, looks_like_datetime, word_len}
use Rattle.toml.specs.Data.{Data, string, integer, array, table, Items, no_items, item, Members, no_members, member, get_member, push_item, same_key}
use Rattle.toml.specs.Tables.{Node, value, open_table, open_array, Nodes, no_nodes, node, implicit, dotted, header, get_node, insert, replace, close_node, close, Edit, header_node, dot_node, by_header, by_dot, along_header, along_dots, Definition, key_value, std_table, array_table, Expression, new_node, redefine, at_found, at_key, put, Document, define_as, define}
use Rattle.toml.specs.Parse.{items, members, keyval, scalar_data, atom, val, expression, line, lines, parse_document, after_element, key_equals, header_key, after_byte, ends_line, skip_bom}
use Rattle.net_draft.specs.Drafts.{tree_of}

-- ---- what is said of data
abbrev pub IsShort : ℤ → Type 0
IsShort z = nat_abs z ≤ 2 ^ 63

abbrev mutual
  pub AreShort : Data → Type 0
  AreShort (integer z) = IsShort z
  AreShort (array ds) = ItemsAreShort ds
  AreShort (table ms) = MembersAreShort ms
  AreShort _ = Unit {0}

  pub ItemsAreShort : Items → Type 0
  ItemsAreShort no_items = Unit {0}
  ItemsAreShort (item d ds) = AreShort d × ItemsAreShort ds

  pub MembersAreShort : Members → Type 0
  MembersAreShort no_members = Unit {0}
  MembersAreShort (member k d ms) = AreShort d × MembersAreShort ms

abbrev mutual
  NodeIsShort : Node → Type 0
  NodeIsShort (value d) = AreShort d
  NodeIsShort (open_table origin ns) = NodesAreShort ns
  NodeIsShort (open_array done ns) = ItemsAreShort done × NodesAreShort ns

  NodesAreShort : Nodes → Type 0
  NodesAreShort no_nodes = Unit {0}
  NodesAreShort (node k x ns) = NodeIsShort x × NodesAreShort ns

-- ---- what is said of each value, if there is one
pub record Gives {A : Type 0} (P : A → Type 0) (o : Option A) : Type 0 where
  pub given : (x : A) → o ≡ Some x → P x

none_is_some : {A : Type 0} (x : A) → (let o : Option A = None in o) ≡ Some x → ⊥
none_is_some x h = cc

same_some : {A : Type 0} (x y : A) → Some x ≡ Some y → x ≡ y
same_some x y h = cc

nothing : {A : Type 0} {P : A → Type 0} → Gives {A = A} P None
nothing {A} {P} = record { given = λ x h. absurd (none_is_some x h) }

one : {A : Type 0} {P : A → Type 0} (x : A) → P x → Gives {A = A} P (Some x)
one {A} {P} x p = record { given = λ y h. subst P (same_some x y h) p }

anything : {A : Type 0} (o : Option A) → Gives (λ x. Unit {0}) o
anything o = record { given = λ x h. tt }

next : {A B : Type 0} {P : A → Type 0} {Q : B → Type 0} {o : Option A} {f : A → Option B}
    → Gives P o → ((x : A) → P x → Gives Q (f x)) → Gives Q (option_and_then f o)
next {A} {B} {P} {Q} {o} {f} h k = by o h
  where
    by : (q : Option A) → Gives P q → Gives Q (option_and_then f q)
    by None g = nothing
    by (Some x) g = k x (g.given x refl)

mapped : {A B : Type 0} {P : A → Type 0} {Q : B → Type 0} {o : Option A} (f : A → B)
    → Gives P o → ((x : A) → P x → Q (f x)) → Gives Q (option_map f o)
mapped {A} {B} {P} {Q} {o} f h k = by o h
  where
    by : (q : Option A) → Gives P q → Gives Q (option_map f q)
    by None g = nothing
    by (Some x) g = one (f x) (k x (g.given x refl))

choose : {A : Type 0} {P : A → Type 0} (b : Bool) {x y : Option A} → Gives P x → Gives P y → Gives P (if b then x else y)
choose true h k = h
choose false h k = k

-- ---- numbers
abbrev ScalarIsShort : Scalar → Type 0
ScalarIsShort (Integer z) = IsShort z
ScalarIsShort _ = Unit {0}

size_of : (negative : Bool) (n : ℕ) → nat_abs (with_sign negative n) ≡ n
size_of false n = refl
size_of true zero = refl
size_of true (suc n) = refl

by_prefix : (a : Bool) (n : ℕ) (b : Bool) → (a && nat_lt n (2 ^ 63)) ≡ b → Gives ScalarIsShort (if b then Some (Integer (pos n)) else None)
by_prefix a n true e =
    let l : n < 2 ^ 63 = ltb-true n (2 ^ 63) (and_parts a (nat_lt n (2 ^ 63)) e).1 in
    one (Integer (pos n)) (let most : n ≤ 2 ^ 63 = omega (arith, l) in most)
by_prefix a n false e = nothing

prefixed_short : (radix : ℕ) (digits : List ℕ) → Gives ScalarIsShort (prefixed_integer radix digits)
unfolding prefixed_integer
prefixed_short radix digits =
    let a = nat_lt 0 (length digits) && list_all (λ c. is_digit c radix) digits in
    let n = digits_value radix digits in
    by_prefix a n (a && nat_lt n (2 ^ 63)) refl

few_bits : (negative : Bool) (n : ℕ) → (nat_lt n (2 ^ 63) || (negative && n == 2 ^ 63)) ≡ true → n ≤ 2 ^ 63
few_bits true n h = grind (arith, nat_tests)
few_bits false n h = grind (arith, nat_tests)

by_size : (negative : Bool) (n : ℕ) (b : Bool) → (nat_lt n (2 ^ 63) || (negative && n == 2 ^ 63)) ≡ b
    → Gives ScalarIsShort (if b then Some (Integer (with_sign negative n)) else None)
by_size negative n true e =
    one (Integer (with_sign negative n)) (subst (λ (m : ℕ). m ≤ 2 ^ 63) (sym (size_of negative n)) (few_bits negative n e))
by_size negative n false e = nothing

integer_short : (negative : Bool) (n : ℕ) → Gives ScalarIsShort (integer_of negative n)
integer_short negative n = by_size negative n (nat_lt n (2 ^ 63) || (negative && n == 2 ^ 63)) refl

float_short : (negative : Bool) (p : Parts) → Gives ScalarIsShort (float_of negative p)
float_short negative p = choose (float_is_finite (nearest binary64 negative p)) (one (Float (nearest binary64 negative p)) tt) nothing

decimal_short : (negative : Bool) (word : List ℕ) → Gives ScalarIsShort (decimal_number negative word)
unfolding decimal_number
decimal_short negative word =
    let p = scan word in
    choose (bytes_eq word (codes "inf")) (one (Float (inf negative)) tt)
    (choose (bytes_eq word (codes "nan")) (one (Float nan) tt)
    (choose (not (p.len == length word && is_decimal p)) nothing
    (choose (p.point || nat_lt 0 (length p.exponent)) (float_short negative p) (integer_short negative (digits_of p)))))

plain_short : (word : List ℕ) → Gives ScalarIsShort (plain_number word)
unfolding plain_number
plain_short word =
    choose (not (radix_of word == 10)) (prefixed_short (radix_of word) (drop 2 word))
    (choose (first word == dash) (decimal_short true (drop 1 word))
    (choose (first word == plus) (decimal_short false (drop 1 word)) (decimal_short false word)))

number_short : (word : List ℕ) → Gives ScalarIsShort (number word)
unfolding number
number_short word =
    choose (underscores_fit (λ c. is_digit c (underscore_radix word)) 0 word) (plain_short (filter (λ c. not (c == underscore)) word)) nothing

word_short : (word : List ℕ) → Gives ScalarIsShort (word_value word)
unfolding word_value
word_short word =
    choose (bytes_eq word (codes "true")) (one (Boolean true) tt)
    (choose (bytes_eq word (codes "false")) (one (Boolean false) tt)
    (choose (looks_like_datetime word) (mapped Datetime (anything (parse_datetime word)) (λ d u. tt)) (number_short word)))

-- what was read, whatever follows it
abbrev First : {A : Type 0} → (A → Type 0) → A × List ℕ → Type 0
First P r = P r.0

unquoted_short : (text : List ℕ) → Gives (First ScalarIsShort) (unquoted text)
unfolding unquoted
unquoted_short text =
    choose (word_len text == 0) nothing (mapped (λ d. (d, drop (word_len text) text)) (word_short (take (word_len text) text)) (λ d s. s))

scalar_short : (s : Scalar) → ScalarIsShort s → AreShort (scalar_data s)
scalar_short (Boolean b) h = tt
scalar_short (Integer z) h = h
scalar_short (Float x) h = tt
scalar_short (Datetime dt) h = tt

atom_short : (text : List ℕ) → Gives (First AreShort) (atom text)
unfolding atom
atom_short text =
    choose (starts_string text) (mapped (λ p. (string p.0, p.1)) (anything (quoted text)) (λ s u. tt))
    (mapped (λ p. (scalar_data p.0, p.1)) (unquoted_short text) (λ r s. scalar_short r.0 s))

-- ---- tables
push_short : (ds : Items) (e : Data) → ItemsAreShort ds → AreShort e → ItemsAreShort (push_item ds e)
push_short no_items e h s = (s, tt)
push_short (item d ds) e h s = (h.0, push_short ds e h.1 s)

mutual
  closed_node : (x : Node) → NodeIsShort x → AreShort (close_node x)
  closed_node (value d) h = h
  closed_node (open_table origin ns) h = closed ns h
  closed_node (open_array done ns) h = push_short done (table (close ns)) h.0 (closed ns h.1)

  closed : (ns : Nodes) → NodesAreShort ns → MembersAreShort (close ns)
  closed no_nodes h = tt
  closed (node k x ns) h = (closed_node x h.0, closed ns h.1)

got_short : (k : List ℕ) (ns : Nodes) → NodesAreShort ns → Gives NodeIsShort (get_node k ns)
got_short k no_nodes h = nothing
got_short k (node l x ns) h = choose (same_key k l) (one x h.0) (got_short k ns h.1)

by_order : (r : Ordering) (a b c : Nodes) → NodesAreShort a → NodesAreShort b → NodesAreShort c → NodesAreShort (match_ordering r a b c)
by_order Less a b c p q s = p
by_order Equal a b c p q s = q
by_order Greater a b c p q s = s

inserted : (k : List ℕ) (x : Node) (ns : Nodes) → NodeIsShort x → NodesAreShort ns → NodesAreShort (insert k x ns)
inserted k x no_nodes s h = (s, tt)
inserted k x (node l y ns) s h =
    by_order (slice_cmp nat_cmp k l) (node k x (node l y ns)) (node l x ns) (node l y (insert k x ns)) (s, h) (s, h.1) (h.0, inserted k x ns s h.1)

by_test : (b : Bool) (x y : Nodes) → NodesAreShort x → NodesAreShort y → NodesAreShort (if b then x else y)
by_test true x y p q = p
by_test false x y p q = q

replaced : (k : List ℕ) (x : Node) (ns : Nodes) → NodeIsShort x → NodesAreShort ns → NodesAreShort (replace k x ns)
replaced k x no_nodes s h = tt
replaced k x (node l y ns) s h =
    by_test (same_key k l) (node l x ns) (node l y (replace k x ns)) (s, h.1) (h.0, replaced k x ns s h.1)

-- what a table has at a key
at_order : (r : Ordering) {x y z : Option Data} → Gives AreShort x → Gives AreShort y → Gives AreShort z → Gives AreShort (match_ordering r x y z)
at_order Less p q s = p
at_order Equal p q s = q
at_order Greater p q s = s

pub member_short : (k : List ℕ) (ms : Members) → MembersAreShort ms → Gives AreShort (get_member k ms)
member_short k no_members h = nothing
member_short k (member l d ms) h =
    at_order (slice_cmp nat_cmp k l) (member_short k ms h.1) (one d h.0) (member_short k ms h.1)

-- ---- changes of tables
abbrev Keeps : Edit → Type 0
Keeps edit = (ns : Nodes) → NodesAreShort ns → Gives NodesAreShort (edit ns)

at_header : (edit : Edit) → Keeps edit → (x : Node) → NodeIsShort x → Gives NodeIsShort (header_node edit x)
at_header edit e (value d) h = nothing
at_header edit e (open_table origin inner) h = mapped (open_table origin) (e inner h) (λ new s. s)
at_header edit e (open_array done last) h = mapped (open_array done) (e last h.1) (λ new s. (h.0, s))

at_dot : (edit : Edit) → Keeps edit → (x : Node) → NodeIsShort x → Gives NodeIsShort (dot_node edit x)
at_dot edit e (value d) h = nothing
at_dot edit e (open_table header inner) h = nothing
at_dot edit e (open_table implicit inner) h = mapped (open_table dotted) (e inner h) (λ new s. s)
at_dot edit e (open_table dotted inner) h = mapped (open_table dotted) (e inner h) (λ new s. s)
at_dot edit e (open_array done last) h = nothing

headed : (k : List ℕ) (edit : Edit) → Keeps edit → (ns : Nodes) (o : Option Node) → NodesAreShort ns → Gives NodeIsShort o
    → Gives NodesAreShort (by_header k edit ns o)
headed k edit e ns None h g = mapped (λ new. insert k (open_table implicit new) ns) (e no_nodes tt) (λ new s. inserted k (open_table implicit new) ns s h)
headed k edit e ns (Some x) h g = mapped (λ new. replace k new ns) (at_header edit e x (g.given x refl)) (λ new s. replaced k new ns s h)

joined : (k : List ℕ) (edit : Edit) → Keeps edit → (ns : Nodes) (o : Option Node) → NodesAreShort ns → Gives NodeIsShort o
    → Gives NodesAreShort (by_dot k edit ns o)
joined k edit e ns None h g = mapped (λ new. insert k (open_table dotted new) ns) (e no_nodes tt) (λ new s. inserted k (open_table dotted new) ns s h)
joined k edit e ns (Some x) h g = mapped (λ new. replace k new ns) (at_dot edit e x (g.given x refl)) (λ new s. replaced k new ns s h)

along_headers : (path : List (List ℕ)) (edit : Edit) → Keeps edit → Keeps (along_header path edit)
unfolding along_header
along_headers [] edit e ns h = e ns h
along_headers (k ∷ path) edit e ns h =
    headed k (along_header path edit) (along_headers path edit e) ns (get_node k ns) h (got_short k ns h)

along_keys : (path : List (List ℕ)) (edit : Edit) → Keeps edit → Keeps (along_dots path edit)
unfolding along_dots
along_keys [] edit e ns h = e ns h
along_keys (k ∷ path) edit e ns h =
    joined k (along_dots path edit) (along_keys path edit e) ns (get_node k ns) h (got_short k ns h)

-- ---- definitions
abbrev DefinesShort : Definition → Type 0
DefinesShort (key_value d) = AreShort d
DefinesShort _ = Unit {0}

new_short : (what : Definition) → DefinesShort what → NodeIsShort (new_node what)
new_short (key_value d) s = s
new_short std_table s = tt
new_short array_table s = (tt, tt)

redefined : (what : Definition) (x : Node) → NodeIsShort x → Gives NodeIsShort (redefine what x)
redefined (key_value d) x h = nothing
redefined std_table (value d) h = nothing
redefined std_table (open_table implicit inner) h = one (open_table header inner) h
redefined std_table (open_table dotted inner) h = nothing
redefined std_table (open_table header inner) h = nothing
redefined std_table (open_array done last) h = nothing
redefined array_table (value d) h = nothing
redefined array_table (open_table origin inner) h = nothing
redefined array_table (open_array done last) h =
    one (open_array (push_item done (table (close last))) no_nodes) (push_short done (table (close last)) h.0 (closed last h.1), tt)

found_short : (k : List ℕ) (what : Definition) (ns : Nodes) (o : Option Node) → DefinesShort what → NodesAreShort ns → Gives NodeIsShort o
    → Gives NodesAreShort (at_found k what ns o)
found_short k what ns None s h g = one (insert k (new_node what) ns) (inserted k (new_node what) ns (new_short what s) h)
found_short k what ns (Some x) s h g = mapped (λ y. replace k y ns) (redefined what x (g.given x refl)) (λ y t. replaced k y ns t h)

at_key_short : (k : List ℕ) (what : Definition) → DefinesShort what → Keeps (at_key k what)
unfolding at_key
at_key_short k what s ns h = found_short k what ns (get_node k ns) s h (got_short k ns h)

put_short : (key : Key) (d : Data) → AreShort d → Keeps (put key d)
put_short key d s = along_keys key.0 (at_key key.1 (key_value d)) (at_key_short key.1 (key_value d) s)

-- the root table of a document
abbrev Rooted : Document → Type 0
Rooted doc = NodesAreShort doc.0

defined_as : (doc : Document) (key : Key) (what : Definition) → Rooted doc → DefinesShort what → Gives Rooted (define_as doc key what)
defined_as doc key (key_value d) h s = mapped (λ root. (root, doc.1)) (along_headers doc.1 (put key d) (put_short key d s) doc.0 h) (λ root r. r)
defined_as doc key std_table h s =
    mapped (λ root. (root, key.0 ++ key.1 ∷ [])) (along_headers key.0 (at_key key.1 std_table) (at_key_short key.1 std_table tt) doc.0 h) (λ root r. r)
defined_as doc key array_table h s =
    mapped (λ root. (root, key.0 ++ key.1 ∷ [])) (along_headers key.0 (at_key key.1 array_table) (at_key_short key.1 array_table tt) doc.0 h) (λ root r. r)

define_short : (doc : Document) (e : Expression) → Rooted doc → DefinesShort e.1 → Gives Rooted (define doc e)
unfolding define
define_short doc e h s = defined_as doc e.0 e.1 h s

-- ---- values
abbrev ReadsShort : (List ℕ → Read Data) → Type 0
ReadsShort read = (text : List ℕ) → Gives (First AreShort) (read text)

items_short : (read : List ℕ → Read Data) → ReadsShort read → (n : ℕ) (found : Items) (text : List ℕ) → ItemsAreShort found
    → Gives (First ItemsAreShort) (items read n found text)
unfolding items
items_short read each zero found text h = nothing
items_short read each (suc n) found text h =
    let start = skip_blank text in
    choose (first start == right_bracket) (one (found, drop 1 start) h)
    (next (each start) (λ v s. next (anything (after_element right_bracket v.1)) (λ rest u. items_short read each n (push_item found v.0) rest (push_short found v.0 h s))))

-- a key and its value
abbrev PairIsShort : Key × Data → Type 0
PairIsShort p = AreShort p.1

keyval_short : (read : List ℕ → Read Data) → ReadsShort read → (text : List ℕ) → Gives (First PairIsShort) (keyval read text)
keyval_short read each text = next (anything (key_equals text)) (λ k u. mapped (λ p. ((k.0, p.0), p.1)) (each k.1) (λ r s. s))

members_short : (read : List ℕ → Read Data) → ReadsShort read → (n : ℕ) (found : Nodes) (text : List ℕ) → NodesAreShort found
    → Gives (First MembersAreShort) (members read n found text)
unfolding members
members_short read each zero found text h = nothing
members_short read each (suc n) found text h =
    let start = skip_blank text in
    choose (first start == right_brace) (one (close found, drop 1 start) (closed found h))
    (next (keyval_short read each start) (λ e s. next (put_short e.0.0 e.0.1 s found h)
    (λ more m. next (anything (after_element right_brace e.1)) (λ rest u. members_short read each n more rest m))))

val_short : (n : ℕ) → ReadsShort (val n)
unfolding val
val_short zero text = atom_short text
val_short (suc n) text =
    choose (first text == left_bracket)
    (mapped (λ p. (array p.0, p.1)) (items_short (val n) (val_short n) (length text) no_items (drop 1 text) tt) (λ r s. s))
    (choose (first text == left_brace)
    (mapped (λ p. (table p.0, p.1)) (members_short (val n) (val_short n) (length text) no_nodes (drop 1 text) tt) (λ r s. s))
    (atom_short text))

-- ---- documents
abbrev ExpressionIsShort : Expression → Type 0
ExpressionIsShort e = DefinesShort e.1

expression_short : (text : List ℕ) → Gives (First ExpressionIsShort) (expression text)
unfolding expression
expression_short text =
    choose (first text == left_bracket && slice_index text 1 == left_bracket)
    (next (anything (header_key (drop 2 text)))
    (λ k u. mapped (λ rest. ((k.0, array_table), rest)) (anything (after_byte right_bracket k.1)) (λ rest v. tt)))
    (choose (first text == left_bracket) (mapped (λ p. ((p.0, std_table), p.1)) (anything (header_key (drop 1 text))) (λ k u. tt))
    (mapped (λ p. ((p.0.0, key_value p.0.1), p.1)) (keyval_short (val recursion_limit) (val_short recursion_limit) text) (λ p s. s)))

line_short : (text : List ℕ) → Gives (First ExpressionIsShort) (line text)
unfolding line
line_short text = next (expression_short text) (λ e s. choose (ends_line (skip_ws e.1)) (one e s) nothing)

lines_short : (n : ℕ) (doc : Document) (text : List ℕ) → Rooted doc → Gives Rooted (lines n doc text)
unfolding lines
lines_short zero doc text h = nothing
lines_short (suc n) doc text h =
    let start = skip_blank text in
    choose (length start == 0) (one doc h)
    (next (line_short start) (λ e s. next (define_short doc e.0 h s) (λ more r. lines_short n more e.1 r)))

document_short : (text : List ℕ) → Gives MembersAreShort (parse_document text)
unfolding parse_document
document_short text = mapped (λ doc. close doc.0) (lines_short (suc (length text)) (no_nodes, []) (skip_bom text) tt) (λ doc h. closed doc.0 h)

-- ---- files
tree_short : (bytes : List ℕ) → Gives MembersAreShort (tree_of bytes)
tree_short bytes = choose (is_utf8 bytes) (document_short bytes) nothing

pub integers_are_short : (bytes : List ℕ) (ms : Members) → tree_of bytes ≡ Some ms → MembersAreShort ms
integers_are_short bytes ms h = (tree_short bytes).given ms h
