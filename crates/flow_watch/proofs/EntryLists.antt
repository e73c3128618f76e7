-- The packets of a flow, one after another.
use Rattle.std.specs.Prelude.{◌≡◌, ℕ, zero, suc, ◌+◌, ◌<◌, ◌≤◌, List, [], ◌∷◌, length, drop}
use Rattle.std.specs.List.{slice_index_or}
use Rattle.std.proofs.Common.{arith, refl, sym, ap, add-one}
use Rattle.flow_watch.specs.declared.watch_laws.entering.Entering.{Entering}
use Rattle.flow_watch.specs.watch_laws.Entries.{entering, bits_to, bits_between}

-- what is left of a list begins with the item of the number
pub next_item : {A : Type 0} (x : A) (xs : List A) (i : ℕ) → i < length xs → x ≡ slice_index_or xs i x → drop i xs ≡ x ∷ drop (i + 1) xs
next_item x xs i h e = rw add-one (suc_item x xs i h e)
  where
    suc_item : {A : Type 0} (x : A) (xs : List A) (i : ℕ) → i < length xs → x ≡ slice_index_or xs i x → drop i xs ≡ x ∷ drop (suc i) xs
    suc_item x [] i h e = absurd (omega arith)
    suc_item x (y ∷ xs) zero h e = ap (λ z. z ∷ xs) (sym e)
    suc_item x (y ∷ xs) (suc i) h e = suc_item x xs i (omega arith) e

-- ---- their bits
pub bits_past : (first last : ℕ) (es : List Entering) → last < first → bits_between first last es ≡ 0
bits_past first last [] h = refl
bits_past zero last (e ∷ es) h = absurd (omega arith)
bits_past (suc first) zero (e ∷ es) h = refl
bits_past (suc first) (suc last) (e ∷ es) h = bits_past first last es (omega arith)

bits_first : (last : ℕ) (es : List Entering) → bits_to last es ≡ bits_between 0 last es
bits_first last [] = refl
bits_first last (e ∷ es) = refl

-- with one packet before
pub bits_one_more : (first last : ℕ) (es : List Entering) → first ≤ last → last < length es
    → bits_between first last es ≡ (entering es first).bits + bits_between (suc first) last es
bits_one_more first last [] h k = absurd (omega arith)
bits_one_more zero zero (e ∷ es) h k = omega arith
bits_one_more zero (suc last) (e ∷ es) h k = ap (λ (n : ℕ). e.bits + n) (bits_first last es)
bits_one_more (suc first) zero (e ∷ es) h k = absurd (omega arith)
bits_one_more (suc first) (suc last) (e ∷ es) h k = bits_one_more first last es (omega arith) (omega arith)
