-- What the answers of the `regex` crate say of a text.
use Rattle.std.proofs.Common.{◌≡◌, ◌≢◌, inl, inr, ℕ, ◌<◌, ◌≤◌, List, false, Option, Some, None, get_or, refl, arith}
use Rattle.std.specs.Prelude.{is_some, option_map, unwrap_or, chars, IsSomeAnd, IfSome}
use Rattle.regex.specs.Patterns.{Re, find_str, default_config, Reads, Refuses}
use Rattle.regex.specs.Strings.{regex_pattern, regex_source}
use Rattle.regex.specs.declared.string.regex.Regex.{Regex}
use Rattle.regex.proofs.OnLiterals.{IsReadAs, is_match_as_written, same_refl}
use Rattle.regex_syntax.specs.Brackets.{Nested}
use Rattle.regex_syntax.specs.Grammar.{read, Names}
use Rattle.regex_syntax.specs.declared.error.ErrorKind.{ErrorKind}
use Rattle.regex_syntax.specs.declared.error.ErrorKind.TheVariants.{OutOfMemory}
use Rattle.cov_exclude.specs.Texts.{IsNoPattern, IsPlainlyMade, is_matched_by}

too_deep : {A : Type 0} (o : Option A) (most : ℕ) (depth : A → ℕ) (Q : A → Type 0) → ((a : A) → Q a → depth a ≤ most) → IfSome o (λ a. most < depth a) → ¬ IsSomeAnd o Q
too_deep None most depth Q low h g = g
too_deep (Some a) most depth Q low h g = absurd (omega (arith, h, low a g))

pub no_pattern : (text : List ℕ) (kind : ErrorKind) → Refuses default_config text kind → kind ≢ OutOfMemory → IsNoPattern text
unfolding Refuses Reads
no_pattern text kind (inl memory) other h = other memory
no_pattern text kind (inr (inl none)) other h = absurd (rw none at h.2)
no_pattern text kind (inr (inr deep)) other h = too_deep (read default_config (chars text)) 250 (λ x. x.0.depth) _ (λ a q. q.0) deep.1 h.2

matched_for : (r : Regex) (line : List ℕ) (o : Option (Nested Re × Names)) → read default_config (chars (regex_source r)) ≡ o → IsPlainlyMade r → ((k : ℕ) → get_or line k 0 < 256)
    → is_some (find_str (regex_pattern r) line 0) ≡ unwrap_or (option_map (λ found. is_some (find_str found.0.value line 0)) o) false
unfolding Reads
matched_for r line None is made bytes = absurd (rw (made.config, is) at made.read)
matched_for r line (Some found) is made bytes =
    let written : IsReadAs default_config (regex_source r) found.0.value = rw is (same_refl found.0.value) in
    is_match_as_written r (regex_source r) found.0.value refl made.config made.read written line bytes 0

pub matched : (r : Regex) (line : List ℕ) → IsPlainlyMade r → ((k : ℕ) → get_or line k 0 < 256) → is_some (find_str (regex_pattern r) line 0) ≡ is_matched_by (regex_source r) line
matched r line made bytes = matched_for r line (read default_config (chars (regex_source r))) refl made bytes
