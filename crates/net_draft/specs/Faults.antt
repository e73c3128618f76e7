-- What reading gives: a value, or the first fault, which says what is wrong and where. Own choice.
use Rattle.std.specs.Prelude.{◌≡◌, ℕ, List, [], ◌∷◌, ◌++◌, Result, Ok, Err}
use Rattle.std.specs.Fmt.{decimal}
use Rattle.std.specs.String.{string_bytes}
use Rattle.net_model.specs.declared.fault.NetKind.{NetKind}
use Rattle.net_model.specs.declared.fault.NetFault.{NetFault}
use Rattle.net_draft.specs.declared.fault.DraftFault.{DraftFault}
use Rattle.net_draft.specs.declared.fault.DraftFault.TheVariants as answers

pub record Fault : Type 0 where
  pub kind : NetKind
  pub place : List ℕ

abbrev pub Read : Type 0 → Type 0
Read A = Result A Fault

infixl 10 ◌>>=◌
abbrev pub ◌>>=◌ : {A B E : Type 0} → Result A E → (A → Result B E) → Result B E
(Ok x) >>= f = f x
(Err e) >>= f = Err e

-- the value as view sees it
abbrev pub viewed : {X Y E : Type 0} → (X → Y) → Result X E → Result Y E
viewed view (Ok x) = Ok (view x)
viewed view (Err e) = Err e

-- ---- places
-- of a key of the table at a place: `server[0].service`; at the root the key alone
unfoldable pub under : List ℕ → List ℕ → List ℕ
under [] key = key
under (c ∷ place) key = (c ∷ place) ++ 46 ∷ key

-- of an entry of the array at a place: `server[0]`
unfoldable pub nth : List ℕ → ℕ → List ℕ
nth place number = place ++ 91 ∷ (decimal number ++ 93 ∷ [])

-- what was read, or its fault at a place
abbrev pub placed : {A : Type 0} → List ℕ → Result A NetKind → Read A
placed place (Ok x) = Ok x
placed place (Err kind) = Err (record { kind = kind; place = place })

-- ---- what a call answers, beside what reading gives
abbrev pub fault_of : NetFault → Fault
fault_of f = record { kind = f.kind; place = string_bytes f.place }

-- a fault of this kind at this place, unless memory ran out
abbrev pub IsFault : NetKind → List ℕ → DraftFault → Type 0
IsFault kind place answers.NoMemory = Unit {0}
IsFault kind place (answers.Fault f) = (f.kind ≡ kind) × (string_bytes f.place ≡ place)

abbrev pub Fails : {Y : Type 0} → DraftFault → Read Y → Type 0
Fails answers.NoMemory read = Unit {0}
Fails (answers.Fault f) read = read ≡ Err (fault_of f)

-- what a call returned, viewed by view, is what reading gives, unless memory ran out
abbrev pub Gives : {X Y : Type 0} → (X → Y) → Result X DraftFault → Read Y → Type 0
Gives view (Ok x) read = read ≡ Ok (view x)
Gives view (Err e) read = Fails e read
