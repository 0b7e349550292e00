-- Causes that are worked out.
use Rattle.std.proofs.Common.{◌≡◌, inl, inr, sym, ap, ℕ, ◌≤◌, ◌<◌, List, [], ◌∷◌, length, None, Err, refl, arith}
use lib.Utf8.{encode}
use Rattle.std.specs.Prelude.{codes}
use Rattle.std.specs.Str.{is_utf8, chars}
use Rattle.toml.specs.Parse.{parse_document, lines, skip_bom, line, expression, header_key, key_equals, val, atom}
use Rattle.toml.specs.Tables.{define, along_header, along_dots, at_key}
use Rattle.toml_parser.specs.Lexical.{skip_from, skip_ws}
use Rattle.toml_parser.specs.Strings.{key_after, simple_key, quoted, one_line, body, special}
use Rattle.cov_config.specs.Settings.{meaning_of, defaults}
use Rattle.cov_run.specs.Loading.{most_bytes}
use Rattle.cov_step.specs.Phases.{most_patterns}
use Rattle.cov_why.specs.Answers.{limit}
use Rattle.cov_why.specs.declared.why.LimitKind.TheVariants as limits
use Rattle.cov_words.specs.Commands.{PlainCommand, IsCommand, spelled, BeginsCommand, StopsAfter}
use Rattle.cov_words.specs.Commands as plain
use Rattle.cov_words.specs.Options.{none}
use Rattle.cov_words.specs.Values.{Word}
use Rattle.cov_complete_laws.specs.Premises.{DefaultsLaw}
use Rattle.cov_cause_laws.specs.Checks.{unusable}
use Rattle.cov_cause_laws.specs.Causes as causes
use Rattle.cov_cause_laws.specs.Rows.{NoWords, NothingReported, bad_limit, BadLimit, ManyPatterns}

-- ---- no words

no-words : (ws : List Word) (c : PlainCommand) → ws ≡ [] → IsCommand c ws → ⊥
no-words _ c e (spelled w name g xs ys named gives fits is) = cc

begins : BeginsCommand []
begins = (codes "erase" ∷ [], plain.erase None None, spelled (codes "erase") _ [] [] [] refl none refl refl)

stops : StopsAfter [] 0
stops = record { within = omega arith; begins = begins; most = λ j h b. h }

pub nothing-spelled : NoWords
nothing-spelled files contents = inl (0, ((λ c is. no-words [] c refl is), stops), refl)

-- ---- settings

pub no-report : DefaultsLaw → NothingReported
no-report law files contents unset absent =
    inr (defaults, law files unset, inr (omega arith, inr (omega arith, inr (refl, inr (refl, inr (tt, inl (ap (unusable (codes ".coverage")) absent)))))))

read-limit : meaning_of bad_limit ≡ Err (codes "tool.coverage.report.fail_under")
unfolding is_utf8 chars parse_document lines skip_bom skip_from line expression header_key key_equals val atom define along_header along_dots at_key encode skip_ws key_after simple_key quoted one_line body special
read-limit = refl

small-limit : length bad_limit ≤ most_bytes
small-limit = omega arith

pub text-limit : BadLimit
text-limit files contents there = inl (causes.bad bad_limit (codes "tool.coverage.report.fail_under") (inl (record { there = there; small = small-limit })) read-limit refl)

one-more : (n : ℕ) → n ≡ 33 → most_patterns < n
one-more n e = omega (arith, e)

pub many-patterns : ManyPatterns
many-patterns files contents s set e = inr (s, set, inl (one-more _ e, ap (limit limits.Patterns) (sym e)))
