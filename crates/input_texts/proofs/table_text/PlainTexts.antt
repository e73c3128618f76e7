-- Fields of plain bytes are text.
use Rattle.std.proofs.Common.{◌≡◌, ℕ, zero, suc, ◌<◌, Bool, true, false, ◌&&◌, List, [], ◌∷◌, drop, Some, None, refl, ap, subst, arith}
use Rattle.std.specs.Prelude.{unwrap_or}
use Rattle.std.specs.List.{list_all}
use Rattle.std.specs.Str.{IsUtf8}
use Rattle.std.proofs.lemmas.Bool.Decides.{nat_tests}
use Rattle.std.proofs.lemmas.List.Elements.{All-weaker}
use Rattle.std.proofs.lemmas.List.Sums.{AllPass-from_list_all}
use Rattle.std.proofs.lemmas.Str.{IsUtf8-from_ascii}
use Rattle.std.proofs.lemmas.Str.Ascii.{IsAscii-from_all}
use Rattle.csv.specs.Records.{field_at}
use Rattle.input_texts.specs.plain_text.Plain.{is_plain_byte}
use Rattle.input_texts.specs.plain_text.Plain as plain
use Rattle.input_texts.specs.table_text.Rows.{Row, is_plain}

pub both : (a b : Bool) → (a && b) ≡ true → (a ≡ true) × (b ≡ true)
both true b h = (refl, h)
both false b h = let bad : ⊥ = cc in absurd bad

second_false : (a b : Bool) → b ≡ false → (a && b) ≡ false
second_false true b h = h
second_false false b h = refl

same : (a b : List ℕ) → Some a ≡ Some b → a ≡ b
same a b e = ap (λ o. unwrap_or o []) e

-- bytes that pass a test which those of ASCII alone pass are text
pub passed_is_text : (test : ℕ → Bool) → ((b : ℕ) → test b ≡ true → b < 128) → (bs : List ℕ) → list_all test bs ≡ true → IsUtf8 bs
passed_is_text test small bs h =
    IsUtf8-from_ascii bs (IsAscii-from_all bs (All-weaker (λ b. test b ≡ true) (λ b. b < 128) small bs (AllPass-from_list_all test bs h)))

below : (b : ℕ) → is_plain_byte b ≡ true → b < 128
unfolding is_plain_byte
below b h = grind (arith, nat_tests)

plain_at : (row : Row) (place : ℕ) (bytes : List ℕ) → is_plain row ≡ true → field_at row place ≡ Some bytes → plain.is_plain bytes ≡ true
unfolding field_at
plain_at [] place bytes h e = let bad : ⊥ = cc in absurd bad
plain_at (f ∷ fs) zero bytes h e = subst (λ b. plain.is_plain b ≡ true) (same f bytes e) (both _ _ h).0
plain_at (f ∷ fs) (suc i) bytes h e = plain_at fs i bytes (both _ _ h).1 e

pub plain_is_text : (row : Row) (place : ℕ) (bytes : List ℕ) → is_plain row ≡ true → field_at row place ≡ Some bytes → IsUtf8 bytes
plain_is_text row place bytes h e = passed_is_text is_plain_byte below bytes (plain_at row place bytes h e)

-- ---- one field after another
-- a field that is not plain
pub not_plain_at : (row : Row) (place : ℕ) (bytes : List ℕ) → field_at row place ≡ Some bytes → plain.is_plain bytes ≡ false → is_plain row ≡ false
unfolding field_at
not_plain_at [] place bytes e h = let bad : ⊥ = cc in absurd bad
not_plain_at (f ∷ fs) zero bytes e h = rw (same f bytes e, h) refl
not_plain_at (f ∷ fs) (suc i) bytes e h = second_false (plain.is_plain f) (is_plain fs) (not_plain_at fs i bytes e h)

-- the fields from a place on
pub rest_plain : (row : Row) (place : ℕ) (bytes : List ℕ) → field_at row place ≡ Some bytes → plain.is_plain bytes ≡ true → is_plain (drop place row) ≡ is_plain (drop (suc place) row)
unfolding field_at
rest_plain [] place bytes e h = let bad : ⊥ = cc in absurd bad
rest_plain (f ∷ fs) zero bytes e h = rw (same f bytes e, h) refl
rest_plain (f ∷ fs) (suc i) bytes e h = rest_plain fs i bytes e h

pub no_rest : (row : Row) (place : ℕ) → field_at row place ≡ None → is_plain (drop place row) ≡ true
unfolding field_at
no_rest [] zero e = refl
no_rest [] (suc i) e = refl
no_rest (f ∷ fs) zero e = let bad : ⊥ = cc in absurd bad
no_rest (f ∷ fs) (suc i) e = no_rest fs i e
