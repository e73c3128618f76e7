-- What holds of calls made of stages.
use Rattle.std.proofs.Common.{◌≡◌, sym, subst}
use Rattle.outcomes.specs.Stages.{Staged, stops, goes_on, AreApart, AreAlike, GoOnAlike}

-- a call is determined where each stage is, and what it makes serves for one answer: the first stop is the answer
pub one_staged : {R X : Type 0} (Stops : R → Type 0) (Makes : X → Type 0) (Next : X → R → Type 0)
    (Alike : R → R → Type 0) → AreApart Stops Makes → AreAlike Alike Stops → GoOnAlike Alike Makes Next
    → AreAlike Alike (Staged Stops Makes Next)
one_staged Stops Makes Next Alike apart one next r s (stops h) (stops k) = one r s h k
one_staged Stops Makes Next Alike apart one next r s (stops h) (goes_on y m k) = absurd (apart r y h m)
one_staged Stops Makes Next Alike apart one next r s (goes_on x m h) (stops k) = absurd (apart s x k m)
one_staged Stops Makes Next Alike apart one next r s (goes_on x m h) (goes_on y n k) = next x y r s m n h k

-- one thing is made, and each two answers behind it are alike
pub on_one : {R X : Type 0} (Makes : X → Type 0) (Next : X → R → Type 0) (Alike : R → R → Type 0)
    → ((x y : X) → Makes x → Makes y → x ≡ y) → ((x : X) → Makes x → AreAlike Alike (Next x))
    → GoOnAlike Alike Makes Next
on_one Makes Next Alike one alike x y r s m n h k =
    alike x m r s h (subst (λ z. Next z s) (sym (one x y m n)) k)

-- where this can be made, and nothing else, the stage went on with it
pub reached : {R X : Type 0} (Stops : R → Type 0) (Makes : X → Type 0) (Next : X → R → Type 0) (x : X) (r : R)
    → (Stops r → ⊥) → ((y : X) → Makes y → y ≡ x) → Staged Stops Makes Next r → Next x r
reached Stops Makes Next x r apart one (stops h) = absurd (apart h)
reached Stops Makes Next x r apart one (goes_on y m h) = subst (λ z. Next z r) (one y m) h
