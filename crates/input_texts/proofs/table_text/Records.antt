-- All rows of a text.
use Rattle.std.proofs.Common.{◌≡◌, ℕ, zero, suc, ◌+◌, ◌<◌, ◌≤◌, Bool, true, false, if◌then◌else◌, List, [], ◌∷◌, ◌++◌, length, take, Option, Some, None, refl, sym, ap, arith, inl, inr, ⊎_elim, ◌⊎◌, ◌∙◌, ap₂, subst₂, take_all, take_at, append-nil, le_refl}
use Rattle.std.proofs.lemmas.Option.{none-some}
use Rattle.std.specs.Prelude.{unwrap_or}
use Rattle.csv.specs.Machine.{Read, next_record, step, is_end, ends_at_end, fields_after, field_after}
use Rattle.csv.specs.Reading.{Reached, records, records_from, records_next, default_config}
use Rattle.csv.specs.declared.parser.Config.{Config}
use Rattle.csv.specs.declared.parser.State.{State}
use Rattle.csv.specs.declared.parser.State.TheVariants as st

same : (p q : Read) → Some p ≡ Some q → p ≡ q
same p q e = ap (λ o. unwrap_or o p) e

either : (b : Bool) (q p : Read) (o : Option Read) → (if b then Some q else o) ≡ Some p → (q ≡ p) ⊎ (o ≡ Some p)
either true q p o e = inl (same q p e)
either false q p o e = inr e

-- a record takes at least a byte, or the end of the text
abbrev IsTaken : List ℕ → Read → Type 0
IsTaken xs p = (length p.2 < length xs) ⊎ ((xs ≡ []) × (p.1 ≡ st.StartRecord) × (p.2 ≡ []))

shorter : (cfg : Config) (s : State) (fields : List (List ℕ)) (fld xs : List ℕ) (p : Read) → next_record cfg s fields fld xs ≡ Some p → IsTaken xs p
unfolding next_record
shorter cfg s fields fld [] p e =
    ⊎_elim
    (λ is. inr (refl, sym (ap (λ (r : Read). r.1) is), sym (ap (λ (r : Read). r.2) is)))
    (λ none. let bad : ⊥ = cc in absurd bad)
    (either (ends_at_end s) (fields ++ (fld ∷ []), st.StartRecord, []) p None e)
shorter cfg s fields fld (c ∷ rest) p e =
    let go = step cfg s c in
    ⊎_elim
    (λ is. let n : length p.2 ≡ length rest = sym (ap (λ (r : Read). length r.2) is) in inl (omega (arith, n)))
    (λ later. ⊎_elim
    (λ less. inl (omega (arith, less)))
    (λ ends. let n : length p.2 ≡ 0 = ap length ends.2 in inl (omega (arith, n)))
    (shorter cfg go.0 (fields_after go.1 fields fld) (field_after go.1 c fld) rest p later))
    (either (is_end go.1) (fields_after go.1 fields fld, go.0, rest) p (next_record cfg go.0 (fields_after go.1 fields fld) (field_after go.1 c fld) rest) e)

-- nothing is left at the end
at_end : (cfg : Config) → next_record cfg st.StartRecord [] [] [] ≡ None
unfolding next_record
at_end cfg = refl

-- the records that were read, and then those that are left
abbrev IsSplit : Config → ℕ → State → List ℕ → List (List (List ℕ)) → State → List ℕ → Type 0
IsSplit cfg n s xs rows s2 ys = (m : ℕ) × (records_from cfg n s xs ≡ rows ++ records_from cfg m s2 ys)

-- nothing can be read behind the end
ended : (cfg : Config) (rows : List (List (List ℕ))) (s2 : State) (ys : List ℕ) (k : ℕ) → Reached cfg st.StartRecord [] rows s2 ys → IsSplit cfg k st.StartRecord [] rows s2 ys
unfolding Reached
ended cfg [] s2 ys k r = (k, ap₂ (λ s xs. records_from cfg k s xs) r.0 r.1)
ended cfg (row ∷ rows) s2 ys k r = let none : None ≡ Some r.0 = sym (at_end cfg) ∙ r.1 in absurd (none-some r.0 none)

behind : (cfg : Config) (p : Read) (rows : List (List (List ℕ))) (s2 : State) (ys xs : List ℕ) (n : ℕ) → length xs ≤ n → IsTaken xs p → Reached cfg p.1 p.2 rows s2 ys
    → ((k : ℕ) → length p.2 ≤ k → IsSplit cfg (suc k) p.1 p.2 rows s2 ys) → IsSplit cfg n p.1 p.2 rows s2 ys
behind cfg p rows s2 ys xs zero h (inl less) r more = absurd (omega (arith, less, h))
behind cfg p rows s2 ys xs (suc k) h (inl less) r more = more k (omega (arith, less, h))
behind cfg p rows s2 ys xs n h (inr ends) r more =
    let at : Reached cfg st.StartRecord [] rows s2 ys = subst₂ (λ s zs. Reached cfg s zs rows s2 ys) ends.1 ends.2 r in
    subst₂ (λ s zs. IsSplit cfg n s zs rows s2 ys) (sym ends.1) (sym ends.2) (ended cfg rows s2 ys n at)

split : (cfg : Config) (rows : List (List (List ℕ))) (s : State) (xs : List ℕ) (s2 : State) (ys : List ℕ) (n : ℕ) → length xs ≤ n → Reached cfg s xs rows s2 ys → IsSplit cfg (suc n) s xs rows s2 ys
unfolding Reached records_from
split cfg [] s xs s2 ys n h r = (suc n, ap₂ (λ z zs. records_from cfg (suc n) z zs) r.0 r.1)
split cfg (row ∷ rows) s xs s2 ys n h r =
    let p = r.0 in
    let taken = shorter cfg s [] [] xs p r.1 in
    let later = behind cfg p rows s2 ys xs n h taken r.3 (λ k less. split cfg rows p.1 p.2 s2 ys k less r.3) in
    let first : records_from cfg (suc n) s xs ≡ p.0 ∷ records_from cfg n p.1 p.2 = ap (records_next (records_from cfg n)) r.1 in
    (later.0, first ∙ (ap (λ zs. p.0 ∷ zs) later.1 ∙ ap (λ (q : List (List ℕ)). q ∷ (rows ++ records_from cfg later.0 s2 ys)) (sym r.2)))

-- and where nothing is left, these are all
pub none_left : (cfg : Config) (m : ℕ) (s : State) (ys : List ℕ) → next_record cfg s [] [] ys ≡ None → records_from cfg m s ys ≡ []
unfolding records_from
none_left cfg zero s ys e = refl
none_left cfg (suc m) s ys e = ap (records_next (records_from cfg m)) e

-- ---- as many rows as were asked for
-- of all records of a text
abbrev IsAll : List ℕ → List (List (List ℕ)) → State → List ℕ → Type 0
IsAll xs rows s2 ys = (m : ℕ) × (records default_config xs ≡ rows ++ records_from default_config m s2 ys)

of_all : (xs : List ℕ) (rows : List (List (List ℕ))) (s2 : State) (ys : List ℕ) → Reached default_config st.StartRecord xs rows s2 ys → IsAll xs rows s2 ys
of_all xs rows s2 ys r =
    let parts = split default_config rows st.StartRecord xs s2 ys (length xs) (le_refl (length xs)) r in
    let n : length xs + 1 ≡ suc (length xs) = omega arith in
    (parts.0, ap (λ k. records_from default_config k st.StartRecord xs) n ∙ parts.1)

pub full_rows : (xs : List ℕ) (rows : List (List (List ℕ))) (s2 : State) (ys : List ℕ) (most : ℕ) → Reached default_config st.StartRecord xs rows s2 ys → length rows ≡ most
    → rows ≡ take most (records default_config xs)
full_rows xs rows s2 ys most r h =
    let parts = of_all xs rows s2 ys r in sym (ap (take most) parts.1 ∙ take_at rows (records_from default_config parts.0 s2 ys) most h)

pub all_rows : (xs : List ℕ) (rows : List (List (List ℕ))) (s2 : State) (ys : List ℕ) (most : ℕ) → Reached default_config st.StartRecord xs rows s2 ys
    → next_record default_config s2 [] [] ys ≡ None → length rows ≤ most → rows ≡ take most (records default_config xs)
all_rows xs rows s2 ys most r e h =
    let parts = of_all xs rows s2 ys r in
    let all : records default_config xs ≡ rows = parts.1 ∙ (ap (λ zs. rows ++ zs) (none_left default_config parts.0 s2 ys e) ∙ append-nil rows) in
    sym (ap (take most) all ∙ take_all most rows h)
