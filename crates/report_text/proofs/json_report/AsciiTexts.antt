-- The text of a number is ASCII.
use Rattle.std.proofs.Common.{ℕ, zero, suc, ◌^◌, ◌<◌, [], ◌∷◌, arith}
use Rattle.std.specs.Prelude.{ℤ, pos, negsuc, nat_abs, codes}
use Rattle.std.specs.Fmt.{decimal, signed_decimal}
use Rattle.std.specs.Str.{IsUtf8, IsAscii}
use Rattle.std.proofs.lemmas.Fmt.{IsAscii-decimal_wide}
use Rattle.std.proofs.lemmas.Str.{IsUtf8-from_ascii, IsAscii-append}
use Rattle.rational.specs.Extended.{Ext}
use Rattle.rational.specs.declared.Extended.TheVariants.{Fin, Inf}
use Rattle.fraction128.specs.Text.{text_over}
use Rattle.input_texts.specs.plain_text.Numbers.{number_text}
use Rattle.report_text.specs.Laws.{IsPrintable}

one : (c : ℕ) → c < 128 → IsAscii (c ∷ [])
one c h zero = h
one c h (suc i) = omega arith

below : (n : ℕ) → n < 2 ^ 127 → n < 10 ^ 64
below n h = omega (arith, h)

signed : (z : ℤ) → nat_abs z < 2 ^ 127 → IsAscii (signed_decimal z)
signed (pos n) h = IsAscii-decimal_wide n (below n h)
signed (negsuc n) h =
    IsAscii-append (45 ∷ []) (decimal (suc n)) (one 45 (omega arith)) (IsAscii-decimal_wide (suc n) (below (suc n) h))

over_one : (p : ℤ) (k : ℕ) → nat_abs p < 2 ^ 127 → suc k < 2 ^ 127 → IsAscii (text_over p k)
over_one p zero h l = signed p h
over_one p (suc k) h l =
    IsAscii-append (signed_decimal p) (47 ∷ decimal (suc (suc k))) (signed p h)
    (IsAscii-append (47 ∷ []) (decimal (suc (suc k))) (one 47 (omega arith))
    (IsAscii-decimal_wide (suc (suc k)) (below (suc (suc k)) l)))

unbounded : IsAscii (codes "unbounded")
unbounded zero = omega arith
unbounded (suc zero) = omega arith
unbounded (suc (suc zero)) = omega arith
unbounded (suc (suc (suc zero))) = omega arith
unbounded (suc (suc (suc (suc zero)))) = omega arith
unbounded (suc (suc (suc (suc (suc zero))))) = omega arith
unbounded (suc (suc (suc (suc (suc (suc zero)))))) = omega arith
unbounded (suc (suc (suc (suc (suc (suc (suc zero))))))) = omega arith
unbounded (suc (suc (suc (suc (suc (suc (suc (suc zero)))))))) = omega arith
unbounded (suc (suc (suc (suc (suc (suc (suc (suc (suc i))))))))) = omega arith

pub number_is_text : (x : Ext) → IsPrintable x → IsUtf8 (number_text x)
number_is_text Inf h = IsUtf8-from_ascii (codes "unbounded") unbounded
number_is_text (Fin x) h = IsUtf8-from_ascii (number_text (Fin x)) (over_one x.num x.pre h.top h.bottom)
