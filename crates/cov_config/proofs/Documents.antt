-- The meaning of bytes that are a document, and of others.
use Rattle.std.proofs.Common.{◌≡◌, ℕ, List, [], Bool, true, false, cond, Some, None, Err, refl, ap, ◌∙◌}
use Rattle.std.specs.Str.{IsUtf8, is_utf8}
use Rattle.std.proofs.lemmas.Str.{IsUtf8-from_is_utf8, is_utf8-from_IsUtf8}
use Rattle.toml.specs.Data.{Members}
use Rattle.toml.specs.Parse.{parse_document}
use Rattle.cov_config.specs.Settings.{settings_of, meaning_of_document, meaning_of}

pub meaning_of-document : (bytes : List ℕ) (ms : Members) → IsUtf8 bytes → parse_document bytes ≡ Some ms → meaning_of bytes ≡ settings_of ms
meaning_of-document bytes ms text is =
    ap (λ b. meaning_of_document (cond b (parse_document bytes) None)) (is_utf8-from_IsUtf8 bytes text) ∙ ap meaning_of_document is

no_document : (bytes : List ℕ) (b : Bool) → is_utf8 bytes ≡ b → (IsUtf8 bytes → parse_document bytes ≡ None) → meaning_of_document (cond b (parse_document bytes) None) ≡ Err []
no_document bytes true text none = ap meaning_of_document (none (IsUtf8-from_is_utf8 bytes text))
no_document bytes false text none = refl

pub meaning_of-none : (bytes : List ℕ) → (IsUtf8 bytes → parse_document bytes ≡ None) → meaning_of bytes ≡ Err []
meaning_of-none bytes none = no_document bytes (is_utf8 bytes) refl none
