use Rattle.std.proofs.Common.{◌≡◌, Bool, true, false, None, Option, cond, sym, refl}
use Rattle.std.specs.Str.{is_utf8}
use Rattle.std.proofs.lemmas.Str.{is_utf8-from_IsUtf8, IsUtf8-from_is_utf8}
use Rattle.toml.specs.Data.{Members}
use Rattle.toml.specs.Errors.{IsMemory}
use Rattle.toml.specs.Parse.{parse_document}
use Rattle.net_draft.proofs.tree.tree_of.Goals as goal

pub returns-in-Ok : goal.returns-in-Ok
returns-in-Ok c = rw (is_utf8-from_IsUtf8 c.args.bytes.now c.in-Ok.ensures.ok.0, c.in-Ok.ensures.ok.1) refl

pub returns-else-is_memory : goal.returns-else-is_memory
returns-else-is_memory c =
    let bytes = c.args.bytes.now in
    let not_memory : IsMemory c.in-Err.fault → ⊥ = λ m. let told : c.is_memory.result ≡ true = c.is_memory.ensures.1 m in cc in
    let by : (b : Bool) → is_utf8 bytes ≡ b → ◌≡◌ {A = Option Members} None (cond b (parse_document bytes) None) =
    λ b. elim b as (λ b. is_utf8 bytes ≡ b → ◌≡◌ {A = Option Members} None (cond b (parse_document bytes) None)) [
      | true ↦ λ e. sym (c.in-Err.ensures.refused not_memory (IsUtf8-from_is_utf8 bytes e))
      | false ↦ λ e. refl
    ] in
    by (is_utf8 bytes) refl
