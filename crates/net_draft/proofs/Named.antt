-- Names that are new, and the first server of a name, as loops find it.
use Rattle.std.specs.Prelude.{◌≢◌, All, String, slice_get}
use Rattle.std.specs.List.{list_any, position, position_from}
use Rattle.std.specs.declared.alloc.Global.{Global}
use Rattle.std.specs.Str.{bytes_eq}
use Rattle.std.specs.String.{string_bytes, string_eq}
use Rattle.std.specs.Cmp.Lexicographic.{nat_list_eq_equiv}
use Rattle.std.proofs.Common.{◌≡◌, ℕ, suc, ◌+◌, ◌<◌, ◌||◌, Bool, true, false, cond, List, [], ◌∷◌, length, map, Option, None, Some, Result, Ok, Err, refl, sym, ap, ◌∙◌, arith, true≢false, zero-add}
use Rattle.std.proofs.lemmas.List.{length-map}
use Rattle.std.proofs.lemmas.Option.{slice_get_within}
use Rattle.std.proofs.lemmas.Iterator.Adapters.{position_from-zero}
use Rattle.std.proofs.lemmas.List.Elements.{All-nil, All-cons, All-head, All-tail}
use Rattle.std.proofs.lemmas.Slice.Eq.{bytes_eq-Decides}
use Rattle.net_model.specs.declared.fault.NetKind.{NetKind}
use Rattle.net_model.specs.declared.fault.NetKind.TheVariants.{M8}
use Rattle.net_draft.specs.declared.server_draft.ServerDraft.{ServerDraft}
use Rattle.net_draft.specs.Hops.{named_from}
use Rattle.net_draft.specs.Tables.{server_names}
use Rattle.net_draft.specs.Texts.{ServerText}
use Rattle.net_draft.specs.Views.{server_text}
use Rattle.net_draft.proofs.QuantaKept.{no_left, no_right}

-- ---- new names
other : (x name : List ℕ) → bytes_eq name x ≡ false → x ≢ name
other x name h e = true≢false (sym ((bytes_eq-Decides name x).1 (sym e)) ∙ h)

pub all_other : (xs : List (List ℕ)) (name : List ℕ) → list_any (bytes_eq name) xs ≡ false → All (λ x. x ≢ name) xs
all_other [] name h = All-nil (λ x. x ≢ name)
all_other (x ∷ xs) name h =
    All-cons (λ y. y ≢ name) x xs (other x name (no_left (bytes_eq name x) (list_any (bytes_eq name) xs) h))
    (all_other xs name (no_right (bytes_eq name x) (list_any (bytes_eq name) xs) h))

-- what holds of each viewed part holds of each whole
pub All-unmap : {X Y : Type 0} (P : Y → Type 0) (f : X → Y) (xs : List X) → All P (map f xs) → All (λ x. P (f x)) xs
All-unmap P f [] h = All-nil (λ x. P (f x))
All-unmap P f (x ∷ xs) h = All-cons (λ y. P (f y)) x xs (All-head P (f x) (map f xs) h) (All-unmap P f xs (All-tail P (f x) (map f xs) h))

-- ---- names in a set
-- a set has a name where its texts do
pub texts_any : (name : String Global) (names : List (String Global)) → list_any (string_eq name) names ≡ list_any (bytes_eq (string_bytes name)) (map string_bytes names)
texts_any name [] = refl
texts_any name (x ∷ xs) = ap (λ b. string_eq name x || b) (texts_any name xs)

-- ---- a server by its name
abbrev pub Found : Type 0
Found = Result (ℕ × ServerText) NetKind

same_swapped : (a b : List ℕ) → bytes_eq a b ≡ bytes_eq b a
same_swapped a b = nat_list_eq_equiv.symm a b

some_is_none : (m : ℕ) → Some m ≡ None → ⊥
some_is_none m g = cc

some_inside : (a b : ℕ) → Some a ≡ Some b → a ≡ b
some_inside a b g = cc

same_server : (a b : ServerText) → Some a ≡ Some b → a ≡ b
same_server a b g = cc

step : (n : ℕ) (name : List ℕ) (s : ServerText) (rest : List ServerText) (b : Bool) → bytes_eq name s.name ≡ b → named_from n name (s ∷ rest) ≡ cond b (Ok (n, s)) (named_from (n + 1) name rest)
unfolding named_from
step n name s rest b h = rw (same_swapped s.name name ∙ h) refl

none_step : (n : ℕ) (name : List ℕ) (s : ServerText) (ss : List ServerText) (b : Bool) → bytes_eq name s.name ≡ b → cond b (Some n) (position_from (bytes_eq name) (n + 1) (server_names ss)) ≡ None
    → (position_from (bytes_eq name) (n + 1) (server_names ss) ≡ None → named_from (n + 1) name ss ≡ Err M8) → named_from n name (s ∷ ss) ≡ Err M8
none_step n name s ss true e g later = absurd (some_is_none n g)
none_step n name s ss false e g later = step n name s ss false e ∙ later g

none_from : (n : ℕ) (name : List ℕ) (ss : List ServerText) → position_from (bytes_eq name) n (server_names ss) ≡ None → named_from n name ss ≡ Err M8
unfolding named_from
none_from n name [] h = refl
none_from n name (s ∷ ss) h = none_step n name s ss (bytes_eq name s.name) refl h (none_from (n + 1) name ss)

-- the server k places on, whose number is i
pub record FoundFrom (n : ℕ) (name : List ℕ) (ss : List ServerText) (i : ℕ) : Type 0 where
  pub on : ℕ
  pub number : i ≡ n + on
  pub server : ServerText
  pub is : slice_get ss on ≡ Some server
  pub named : named_from n name ss ≡ Ok (i, server)

found_step : (n : ℕ) (name : List ℕ) (s : ServerText) (ss : List ServerText) (i : ℕ) (b : Bool) → bytes_eq name s.name ≡ b
    → cond b (Some n) (position_from (bytes_eq name) (n + 1) (server_names ss)) ≡ Some i → (position_from (bytes_eq name) (n + 1) (server_names ss) ≡ Some i → FoundFrom (n + 1) name ss i)
    → FoundFrom n name (s ∷ ss) i
found_step n name s ss i true e g later =
    let same : n ≡ i = some_inside n i g in
    record { on = 0; number = omega arith; server = s; is = refl; named = step n name s ss true e ∙ ap (λ m. Ok (m, s)) same }
found_step n name s ss i false e g later =
    let f = later g in
    record { on = suc f.on; number = f.number ∙ omega arith; server = f.server; is = f.is; named = step n name s ss false e ∙ f.named }

found_from : (n : ℕ) (name : List ℕ) (ss : List ServerText) (i : ℕ) → position_from (bytes_eq name) n (server_names ss) ≡ Some i → FoundFrom n name ss i
found_from n name [] i h = absurd (some_is_none i (sym h))
found_from n name (s ∷ ss) i h = found_step n name s ss i (bytes_eq name s.name) refl h (found_from (n + 1) name ss i)

-- what the search of a set finds is what the search of the servers finds
position_from-map : {X : Type 0} (f : X → List ℕ) (p : List ℕ → Bool) (n : ℕ) (xs : List X) → position_from p n (map f xs) ≡ position_from (λ x. p (f x)) n xs
position_from-map f p n [] = refl
position_from-map f p n (x ∷ xs) = ap (λ r. cond (p (f x)) (Some n) r) (position_from-map f p (n + 1) xs)

by_names : (name : List ℕ) (names : List (String Global)) (ss : List ServerText) (r : Option ℕ) → map string_bytes names ≡ server_names ss
    → r ≡ position (λ k. bytes_eq name (string_bytes k)) names → position_from (bytes_eq name) 0 (server_names ss) ≡ r
by_names name names ss r named found =
    ap (position_from (bytes_eq name) 0) (sym named) ∙ position_from-map string_bytes (bytes_eq name) 0 names
    ∙ sym (position_from-zero (λ k. bytes_eq name (string_bytes k)) names) ∙ sym found

pub unknown_server : (name : List ℕ) (names : List (String Global)) (ss : List ServerText) → map string_bytes names ≡ server_names ss
    → None ≡ position (λ k. bytes_eq name (string_bytes k)) names → named_from 0 name ss ≡ Err M8
unknown_server name names ss named found = none_from 0 name ss (by_names name names ss None named found)

pub known_server : (name : List ℕ) (names : List (String Global)) (ss : List ServerText) (i : ℕ) (s : ServerText) → map string_bytes names ≡ server_names ss
    → Some i ≡ position (λ k. bytes_eq name (string_bytes k)) names → slice_get ss i ≡ Some s → named_from 0 name ss ≡ Ok (i, s)
known_server name names ss i s named found is =
    let f = found_from 0 name ss i (by_names name names ss (Some i) named found) in
    let at : i ≡ f.on = f.number ∙ zero-add f.on in
    f.named ∙ ap (λ t. Ok (i, t)) (same_server f.server s (sym f.is ∙ ap (slice_get ss) (sym at) ∙ is))

-- a place that the search finds is one of the servers'
pub known_within : (name : List ℕ) (names : List (String Global)) (servers : List ServerDraft) (i : ℕ) → map string_bytes names ≡ server_names (map server_text servers)
    → Some i ≡ position (λ k. bytes_eq name (string_bytes k)) names → i < length servers
known_within name names servers i named found =
    let f = found_from 0 name (map server_text servers) i (by_names name names (map server_text servers) (Some i) named found) in
    let within : f.on < length (map server_text servers) = slice_get_within (map server_text servers) f.on f.server f.is in
    let same : length (map server_text servers) ≡ length servers = length-map servers server_text in
    let at : i ≡ f.on = f.number ∙ zero-add f.on in
    omega arith
