-- Pieces that go on as copies of those before, by their indices.
use Rattle.std.specs.Prelude.{◌≡◌, ℕ, ◌+◌, ◌-◌, ◌<◌, ◌≤◌, List, length}
use Rattle.std.proofs.Common.{arith, sym, ap, ◌∙◌, inl, inr, take, drop, get_or}
use Rattle.std.proofs.lemmas.List.{ext_get_or, get_or_default, get_or-drop, get_or-take, get_or-map, length-drop, length-take}
use Rattle.std.proofs.lemmas.Bool.{cases_lt}
use Rattle.rational.specs.Rational.{ℚ}
use Rattle.upp_curve.specs.declared.affine_segment.line.Piece.{Piece}
use Rattle.upp_curve.specs.Unrolled.{later, each_later}
use Rattle.upp_normal.specs.Normalising.{GoesOn}
use Rattle.upp_normal.proofs.NormaliseCopies.{each_later_map, length-moved}

moved_at : (d c : ℚ) (ps : List Piece) (i : ℕ) (z : Piece) → i < length ps → get_or (each_later d c ps) i z ≡ later d c (get_or ps i z)
moved_at d c ps i z h = ap (λ zs. get_or zs i z) (each_later_map d c ps) ∙ get_or-map (later d c) ps i z z h

pub goes_on_at : (ps : List Piece) (k : ℕ) (d c : ℚ) (i : ℕ) (z : Piece) → GoesOn ps k d c → k ≤ i → i < length ps → get_or ps i z ≡ later d c (get_or ps (i - k) z)
goes_on_at ps k d c i z G h l =
    let j = i - k in
    let is : k + j ≡ i = omega arith in
    let n = length ps - k in
    let inside : j < n = omega arith in
    let size : j < length (take n ps) = omega (arith, length-take n ps) in
    sym (ap (λ m. get_or ps m z) is) ∙ sym (get_or-drop k ps j z) ∙ ap (λ zs. get_or zs j z) G
    ∙ moved_at d c (take n ps) j z size ∙ ap (later d c) (get_or-take n ps j z inside)

pub goes_on_all : (ps : List Piece) (k : ℕ) (d c : ℚ) (z : Piece) → ((j : ℕ) → k + j < length ps → get_or ps (k + j) z ≡ later d c (get_or ps j z)) → GoesOn ps k d c
goes_on_all ps k d c z h =
    let n = length ps - k in
    let sizes : length (drop k ps) ≡ length (each_later d c (take n ps)) = omega (arith, length-drop k ps, length-moved d c (take n ps), length-take n ps) in
    ext_get_or z (drop k ps) (each_later d c (take n ps)) sizes (λ j l.
    let inside : j < n = omega (arith, length-drop k ps) in
    let room : k + j < length ps = omega arith in
    let size : j < length (take n ps) = omega (arith, length-take n ps) in
    get_or-drop k ps j z ∙ h j room ∙ sym (moved_at d c (take n ps) j z size ∙ ap (later d c) (get_or-take n ps j z inside)))

-- ---- the loop: the piece at i and the one k before it, read with any default
read_other : (ps : List Piece) (i : ℕ) (p z : Piece) → i < length ps → p ≡ get_or ps i p → p ≡ get_or ps i z
read_other ps i p z h e = e ∙ get_or_default ps i p z h

pub moved_is : (ps : List Piece) (k : ℕ) (d c : ℚ) (i : ℕ) (moved before here : Piece) → k ≤ i → i < length ps → moved ≡ later d c before → before ≡ get_or ps (i - k) before → here ≡ get_or ps i here
    → GoesOn ps k d c → moved ≡ here
moved_is ps k d c i moved before here h l m b e G =
    let less : i - k < length ps = omega arith in
    m ∙ ap (later d c) (read_other ps (i - k) before here less b) ∙ sym (goes_on_at ps k d c i here G h l) ∙ sym e

pub goes_on_more : (ps : List Piece) (k : ℕ) (d c : ℚ) (i : ℕ) (moved before here : Piece) → k ≤ i → i < length ps → moved ≡ later d c before → before ≡ get_or ps (i - k) before → here ≡ get_or ps i here
    → moved ≡ here → ((j : ℕ) (z : Piece) → k + j < i → get_or ps (k + j) z ≡ later d c (get_or ps j z))
    → (j : ℕ) (z : Piece) → k + j < i + 1 → get_or ps (k + j) z ≡ later d c (get_or ps j z)
goes_on_more ps k d c i moved before here h l m b e same done j z n = elim (cases_lt (k + j) i) [
  | inl a ↦ done j z a
  | inr a ↦
      let at : k + j ≡ i = omega arith in
      let back : i - k ≡ j = omega arith in
      let less : i - k < length ps = omega arith in
      ap (λ x. get_or ps x z) at ∙ sym (read_other ps i here z l e) ∙ sym same ∙ m ∙ ap (later d c) (read_other ps (i - k) before z less b ∙ ap (λ x. get_or ps x z) back)
]
