-- Patterns one after the other, and why one isn't made.
use Rattle.std.proofs.Common.{◌≡◌, inl, inr, ℕ, ◌+◌, ◌<◌, ◌≤◌, List, [], ◌∷◌, ◌++◌, Some, get_or, length, map, take, string_bytes, String, Global, refl, sym, ap, ap₂, subst, ◌∙◌, arith}
use Rattle.std.specs.Prelude.{slice_get, slice_index_or, IsSomeAnd}
use Rattle.std.specs.List.{All}
use Rattle.std.proofs.lemmas.List.{map-append, take_more, take-map, length-map, get_or-map}
use Rattle.std.proofs.lemmas.List.Elements.{All-map}
use Rattle.std.proofs.lemmas.Option.{slice_get_read}
use Rattle.cov_outside.specs.Counts.{Rose}
use Rattle.regex.specs.Failures.{IsPattern}
use Rattle.regex.specs.Strings.{regex_source}
use Rattle.regex.specs.declared.string.regex.Regex.{Regex}
use Rattle.regex.proofs.SetLemmas.{All-one_more}
use Rattle.cov_exclude.specs.declared.patterns.PatternError.{PatternError}
use Rattle.cov_exclude.specs.declared.patterns.PatternError.TheVariants.{BadPattern, PatternSize, NoMemory}
use Rattle.cov_exclude.specs.Refusals.{ArePatternsBefore, IsCauseOf, IsCauseAt}
use Rattle.cov_exclude.specs.Texts.{IsPatternText, IsNoPattern, IsMadeOf, IsPlainlyMade, ArePlainlyMade, texts_of}

rose_after : (before mid after : ℕ) → before ≤ mid → Rose mid after → Rose before after
rose_after before mid after grows (inl more) = inl (omega (arith, grows, more))
rose_after before mid after grows (inr most) = inr most

-- the cause at a place, in a call whose count was no greater before
pub cause-of : (texts : List (List ℕ)) (place : ℕ) (text : List ℕ) (large : List ℕ → Type 0) (before mid after : ℕ) (e : PatternError) → slice_get texts place ≡ Some text → before ≤ mid
    → ArePatternsBefore texts place → IsCauseAt place text large mid after e → IsCauseOf texts large before after e
cause-of texts place text large before mid after (BadPattern at) found grows earlier (is, none) =
    (subst (ArePatternsBefore texts) (sym is) earlier, subst (λ o. IsSomeAnd o IsNoPattern) (sym (ap (slice_get texts) is ∙ found)) none)
cause-of texts place text large before mid after (PatternSize at) found grows earlier (is, was, rose) =
    (subst (ArePatternsBefore texts) (sym is) earlier, subst (λ o. IsSomeAnd o large) (sym (ap (slice_get texts) is ∙ found)) was, rose_after before mid after grows rose)
cause-of texts place text large before mid after NoMemory found grows earlier h = tt

is-pattern : (made : Regex) → IsPlainlyMade made → IsPatternText (regex_source made)
is-pattern made plainly = subst (λ config. IsPattern config (regex_source made)) plainly.config (_, _, plainly.read)

-- what was made so far was made of patterns
pub earlier-patterns : (made : List Regex) (texts : List (String Global)) (at : ℕ) → ArePlainlyMade made → texts_of made ≡ map string_bytes (take at texts) → ArePatternsBefore (map string_bytes texts) at
earlier-patterns made texts at plainly same =
    subst (All IsPatternText) (same ∙ sym (take-map string_bytes at texts))
    (All-map IsPatternText regex_source made (λ k d within. is-pattern (slice_index_or made k d) (plainly.each k d within)))

-- the bytes of the text at a place
pub text-found : (texts : List (String Global)) (at : ℕ) (text : String Global) → at < length texts → text ≡ get_or texts at text → slice_get (map string_bytes texts) at ≡ Some (string_bytes text)
text-found texts at text within is =
    slice_get_read (map string_bytes texts) (length (map string_bytes texts)) at (string_bytes text) refl (omega (arith, length-map texts string_bytes, within))
    (ap string_bytes is ∙ sym (get_or-map string_bytes texts at text (string_bytes text) within))

-- one more pattern
pub one-more : (made : List Regex) (new : Regex) (texts : List (String Global)) (at : ℕ) (text : String Global) → at < length texts → text ≡ get_or texts at text → IsMadeOf (string_bytes text) new
    → texts_of made ≡ map string_bytes (take at texts) → texts_of (made ++ new ∷ []) ≡ map string_bytes (take (at + 1) texts)
one-more made new texts at text within is made-of before =
    map-append regex_source made (new ∷ []) ∙ ap₂ (λ xs x. xs ++ x ∷ []) before (made-of.source ∙ ap string_bytes is)
    ∙ sym (ap (map string_bytes) (take_more texts at text within) ∙ map-append string_bytes (take at texts) (get_or texts at text ∷ []))

pub one-more-plainly : (made : List Regex) (new : Regex) → ArePlainlyMade made → IsPlainlyMade new → ArePlainlyMade (made ++ new ∷ [])
one-more-plainly made new all last = record { each = All-one_more IsPlainlyMade made new all.each last }
