-- Calls made of stages, one after the other: the first stage that stops gives the answer. Own choice.
use Rattle.std.specs.Prelude.{◌≡◌}

-- A stage stops with an answer; or it makes something, and what comes next is chosen by that.
pub data Staged {R X : Type 0} (Stops : R → Type 0) (Makes : X → Type 0) (Next : X → R → Type 0) (r : R) : Type 0 where
  stops : Stops r → Staged Stops Makes Next r
  goes_on : (x : X) → Makes x → Next x r → Staged Stops Makes Next r

-- an answer behind what was made
abbrev pub Behind : {R X : Type 0} → (X → Type 0) → (X → R → Type 0) → R → Type 0
Behind {R} {X} Makes Next r = (x : X) × Makes x × Next x r

-- a stage that stops makes nothing
abbrev pub AreApart : {R X : Type 0} → (R → Type 0) → (X → Type 0) → Type 0
AreApart {R} {X} Stops Makes = (r : R) (x : X) → Stops r → Makes x → ⊥

-- two answers that are allowed are alike: equal, or equal but for a choice that is left open
abbrev pub AreAlike : {R : Type 0} → (R → R → Type 0) → (R → Type 0) → Type 0
AreAlike {R} Alike P = (r s : R) → P r → P s → Alike r s

-- equal
abbrev pub IsEqual : {R : Type 0} → R → R → Type 0
IsEqual x y = x ≡ y

-- what follows is alike, whichever was made
abbrev pub GoOnAlike : {R X : Type 0} → (R → R → Type 0) → (X → Type 0) → (X → R → Type 0) → Type 0
GoOnAlike {R} {X} Alike Makes Next = (x y : X) (r s : R) → Makes x → Makes y → Next x r → Next y s → Alike r s
