-- What stands at a place of a list, where f made each element.
use Rattle.std.proofs.Common.{◌≡◌, ℕ, ◌<◌, List, length, map, get_or, Some, None, refl, sym, ◌∙◌, ap, inl, inr}
use Rattle.std.specs.Prelude.{slice_get, Option}
use Rattle.net_model.specs.Networks.{NetServer, NetFlow}
use Rattle.net_model.specs.Accepted.{IsFlow}
use Rattle.std.specs.Option.{option_map}
use Rattle.std.proofs.lemmas.Option.{slice_get-map, slice_get_read, slice_get_cases}

pub made_at : {X Y : Type 0} (f : X → Y) (xs : List X) (k : ℕ) (x : X) → k < length xs → x ≡ get_or xs k x → slice_get (map f xs) k ≡ Some (f x)
made_at f xs k x within is = slice_get-map f xs k ∙ ap (option_map f) (slice_get_read xs (length xs) k x refl within is)

-- the element that f made what is found of
pub record Made {X Y : Type 0} (f : X → Y) (xs : List X) (k : ℕ) (y : Y) : Type 0 where
  pub element : X
  pub within : k < length xs
  pub is : get_or xs k element ≡ element
  pub made : f element ≡ y

pub made_of : {X Y : Type 0} (f : X → Y) (xs : List X) (k : ℕ) (y : Y) → slice_get (map f xs) k ≡ Some y → Made f xs k y
made_of f xs k y found =
    elim (slice_get_cases xs k).1 [
      | inl h ↦ record {
        element = h.0;
        within = h.1;
        is = h.3;
        made = let e : Some (f h.0) ≡ Some y = sym (slice_get-map f xs k ∙ ap (option_map f) h.2) ∙ found in cc;
      }
      | inr h ↦ let e : None ≡ Some y = sym (slice_get-map f xs k ∙ ap (option_map f) h.1) ∙ found in absurd cc
    ]

-- what stands at a place of a network's flows may be a flow over these servers
abbrev pub MayBe : List NetServer → Option NetFlow → Type 0
MayBe servers o = (f : NetFlow) → o ≡ Some f → IsFlow servers f
