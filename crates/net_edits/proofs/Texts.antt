-- What tests of texts tell.
use Rattle.std.proofs.Common.{◌≡◌, ◌≢◌, ℕ, List, Bool, true, false, refl, sym}
use Rattle.std.specs.Cmp.Lexicographic.{same_text, other_text}
use Rattle.net_edits.specs.Lookups.{same_name}

pub same_to : (xs ys : List ℕ) → xs ≡ ys → same_name xs ys ≡ true
same_to xs ys e = by (same_name xs ys) refl
  where
    by : (b : Bool) → b ≡ same_name xs ys → same_name xs ys ≡ true
    by true h = sym h
    by false h = absurd (other_text xs ys h e)

pub not_same : (xs ys : List ℕ) → xs ≢ ys → same_name xs ys ≡ false
not_same xs ys n = by (same_name xs ys) refl
  where
    by : (b : Bool) → b ≡ same_name xs ys → same_name xs ys ≡ false
    by true h = absurd (n (same_text xs ys h))
    by false h = sym h

pub differ_of : (xs ys : List ℕ) → same_name xs ys ≡ false → xs ≢ ys
differ_of xs ys e = other_text xs ys (sym e)
