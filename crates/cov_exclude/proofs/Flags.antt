-- Flags of texts, one text or one pattern further.
use Rattle.std.proofs.Common.{◌≡◌, ℕ, ◌+◌, ◌<◌, Bool, true, false, List, [], ◌∷◌, ◌++◌, length, get_or, set, take, drop, map, replicate, refl, ap, ap₂, sym, ◌∙◌, append_assoc, arith}
use Rattle.std.specs.Borrow.{Bor}
use Rattle.std.specs.Prelude.{◌||◌}
use Rattle.std.proofs.lemmas.List.{drop-set-lt, drop_more, map_more, take_more_set}
use Rattle.std.proofs.lemmas.List.Folds.{list_any-append}
use Rattle.regex.specs.Strings.{regex_source}
use Rattle.regex.specs.declared.string.regex.Regex.{Regex}
use Rattle.cov_exclude.specs.Flags.{flagged_by, flagged_from}
use Rattle.cov_exclude.specs.Texts.{is_matched_by, is_matched, texts_of}
use Rattle.cov_exclude.specs.Touched.{mark_if, numbers_from}
use Rattle.cov_exclude.specs.Views.{texts_view}

-- ---- the texts of one pattern

-- the flag of one more text
pub one-text : (pattern : List ℕ) (flags : List Bool) (texts : List (Bor (List ℕ))) (at : ℕ) (flag : Bool) (text : Bor (List ℕ)) → at < length flags → at < length texts
    → text ≡ get_or texts at text → flag ≡ (get_or flags at false || is_matched_by pattern text.now)
    → take (at + 1) (set flags at flag) ++ flagged_by pattern (drop (at + 1) (set flags at flag)) (texts_view (drop (at + 1) texts)) ≡ take at flags ++ flagged_by pattern (drop at flags) (texts_view (drop at texts))
one-text pattern flags texts at flag text in-flags in-texts text-is flag-is =
    let rest = flagged_by pattern (drop (at + 1) flags) (texts_view (drop (at + 1) texts)) in
    ap₂ (λ front back. front ++ flagged_by pattern back (texts_view (drop (at + 1) texts))) (take_more_set flags at flag in-flags) (drop-set-lt (at + 1) flags at flag (omega arith))
    ∙ append_assoc (take at flags) (flag ∷ []) rest
    ∙ ap (λ f. take at flags ++ (f ∷ rest)) (flag-is ∙ ap (λ t. get_or flags at false || is_matched_by pattern t.now) text-is)
    ∙ ap₂ (λ fs ts. take at flags ++ flagged_by pattern fs (texts_view ts)) (sym (drop_more flags at false in-flags)) (sym (drop_more texts at text in-texts))

-- ---- the patterns, one after the other

or_false : (b : Bool) → (b || false) ≡ b
or_false true = refl
or_false false = refl

matched-more : (earlier : List (List ℕ)) (pattern line : List ℕ) → (is_matched earlier line || is_matched_by pattern line) ≡ is_matched (earlier ++ pattern ∷ []) line
matched-more earlier pattern line =
    ap (λ b. is_matched earlier line || b) (sym (or_false (is_matched_by pattern line)))
    ∙ sym (list_any-append (λ text. is_matched_by text line) earlier (pattern ∷ []))

flagged-more : (earlier : List (List ℕ)) (pattern : List ℕ) (lines : List (List ℕ)) → flagged_by pattern (map (is_matched earlier) lines) lines ≡ map (is_matched (earlier ++ pattern ∷ [])) lines
flagged-more earlier pattern [] = refl
flagged-more earlier pattern (line ∷ lines) = ap₂ (λ b bs. b ∷ bs) (matched-more earlier pattern line) (flagged-more earlier pattern lines)

-- the flags by one more pattern
pub one-pattern : (made : List Regex) (at : ℕ) (regex : Regex) (lines : List (List ℕ)) (flags new : List Bool) → at < length made → regex ≡ get_or made at regex
    → flags ≡ map (is_matched (texts_of (take at made))) lines → new ≡ flagged_by (regex_source regex) flags lines
    → new ≡ map (is_matched (texts_of (take (at + 1) made))) lines
one-pattern made at regex lines flags new within is before flagged =
    flagged ∙ ap (λ fs. flagged_by (regex_source regex) fs lines) before
    ∙ flagged-more (texts_of (take at made)) (regex_source regex) lines
    ∙ ap (λ texts. map (is_matched texts) lines) (ap (λ r. texts_of (take at made) ++ regex_source r ∷ []) is ∙ sym (map_more regex_source made at regex within))

-- the flags by no pattern
pub no-pattern-yet : (texts : List (Bor (List ℕ))) → replicate (length texts) false ≡ map (is_matched []) (texts_view texts)
no-pattern-yet [] = refl
no-pattern-yet (text ∷ texts) = ap (λ bs. false ∷ bs) (no-pattern-yet texts)

-- ---- the numbers of flags that are set

flagged-numbers : (passes : List ℕ → Bool) (n : ℕ) (lines : List (List ℕ)) → flagged_from n (map passes lines) ≡ numbers_from passes n lines
flagged-numbers passes n [] = refl
flagged-numbers passes n (line ∷ lines) = ap (λ ns. mark_if (passes line) n ++ ns) (flagged-numbers passes (n + 1) lines)

pub numbers-are : (passes : List ℕ → Bool) (n : ℕ) (lines : List (List ℕ)) (flags : List Bool) (numbers : List ℕ) → flags ≡ map passes lines → numbers ≡ flagged_from n flags → numbers ≡ numbers_from passes n lines
numbers-are passes n lines flags numbers flags-are flagged = flagged ∙ ap (flagged_from n) flags-are ∙ flagged-numbers passes n lines
