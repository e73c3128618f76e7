-- Rows, as they are shown one after the other.
use Rattle.std.proofs.Common.{◌≡◌, ℕ, ◌+◌, ◌<◌, List, [], ◌∷◌, ◌++◌, map, length, take, get_or, sym, ap, ◌∙◌, append-nil, append_assoc}
use Rattle.std.specs.List.{flat_map}
use Rattle.std.proofs.lemmas.Grind.{flat_map-append}
use Rattle.std.proofs.lemmas.List.{map-append, take_more}

-- a text that a word tells of, and what comes behind it
pub told : (old label text rest : List ℕ) {mid new : List ℕ} → mid ≡ old ++ (label ++ text) → new ≡ mid ++ rest → new ≡ old ++ (label ++ (text ++ rest))
told old label text rest is more =
    more
    ∙ (ap (λ (xs : List ℕ). xs ++ rest) is
    ∙ (append_assoc old (label ++ text) rest ∙ ap (λ (xs : List ℕ). old ++ xs) (append_assoc label text rest)))

pub shown_next : {X Y Z : Type 0} (show : X → Y) (make : Z → Y) (xs more : List X) (x : X) (zs : List Z) (k : ℕ) (d : Z) → k < length zs
    → map show xs ≡ map make (take k zs) → more ≡ xs ++ x ∷ [] → show x ≡ make (get_or zs k d) → map show more ≡ map make (take (k + 1) zs)
shown_next show make xs more x zs k d below before is one =
    ap (map show) is
    ∙ (map-append show xs (x ∷ [])
    ∙ ((λ i. before i ++ one i ∷ []) ∙ (sym (map-append make (take k zs) (get_or zs k d ∷ [])) ∙ ap (map make) (sym (take_more zs k d below)))))

pub lines_next : {Z : Type 0} (line : Z → List ℕ) (first old new : List ℕ) (zs : List Z) (k : ℕ) (d : Z) → k < length zs
    → old ≡ first ++ flat_map line (take k zs) → new ≡ old ++ line (get_or zs k d) → new ≡ first ++ flat_map line (take (k + 1) zs)
lines_next line first old new zs k d below before is =
    let z = get_or zs k d in
    let front = flat_map line (take k zs) in
    let more : flat_map line (take (k + 1) zs) ≡ front ++ line z =
    ap (flat_map line) (take_more zs k d below) ∙ (flat_map-append line (take k zs) (z ∷ []) ∙ ap (λ (xs : List ℕ). front ++ xs) (append-nil (line z))) in
    is ∙ (ap (λ (xs : List ℕ). xs ++ line z) before ∙ (append_assoc first front (line z) ∙ ap (λ (xs : List ℕ). first ++ xs) (sym more)))
