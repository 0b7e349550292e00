-- The settings where there is no file of them.
use Rattle.std.proofs.Common.{◌≡◌, inr, [], Ok, refl}
use Rattle.std.specs.Str.{is_utf8, chars}
use Rattle.toml.specs.Parse.{parse_document, lines, skip_bom}
use Rattle.toml_parser.specs.Lexical.{skip_from}
use Rattle.cov_config.specs.Settings.{meaning_of, defaults}
use Rattle.cov_complete_laws.specs.Premises.{DefaultsLaw}

-- an empty file sets nothing
empty-file : meaning_of [] ≡ Ok defaults
unfolding is_utf8 chars parse_document lines skip_bom skip_from
empty-file = refl

pub defaults-set : DefaultsLaw
defaults-set files none = record { bytes = []; file = inr (none, refl); formed = empty-file }
