-- Bytes that are no document.
use Rattle.std.proofs.Common.{◌≡◌, ℕ, List, None, true, false, refl}
use Rattle.std.specs.Prelude.{IsUtf8, if◌then◌else◌}
use Rattle.std.specs.Str.{is_utf8}
use Rattle.std.proofs.lemmas.Str.{IsUtf8-from_is_utf8}
use Rattle.toml.specs.Parse.{parse_document}
use Rattle.kr_table.specs.Reading.{document}

pub no_document : (bytes : List ℕ) → (IsUtf8 bytes → parse_document bytes ≡ None) → document bytes ≡ None
no_document bytes h =
    elim (is_utf8 bytes) as (λ b. is_utf8 bytes ≡ b → (if b then parse_document bytes else None) ≡ None) [
      | true ↦ λ e. h (IsUtf8-from_is_utf8 bytes e)
      | false ↦ λ e. refl
    ] refl
