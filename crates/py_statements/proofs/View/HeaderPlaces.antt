-- Headers of `match` statements by the places of the tokens that the code reads.
use Rattle.std.proofs.Common.{◌≡◌, ℕ, zero, suc, ◌+◌, ◌-◌, ◌<◌, ◌≤◌, Bool, true, false, not, ◌&&◌, List, [], ◌∷◌, length, drop, get_or, refl, sym, ap, ◌∙◌, arith}
use Rattle.std.proofs.Math.ListN.{drop_of_length-le}
use Rattle.py_token.specs.declared.token.Token.{Token}
use Rattle.py_syntax.specs.Kinds.{Kind, Newline}
use Rattle.py_syntax.specs.Headers.{is_match, is_colon, is_header, ends_in_colon, ends_line}
use Rattle.py_grammar.proofs.View.Places.{kind_there, kinds_length}
use Rattle.py_statements.specs.ViewMarks.{kinds_of, is_newline, begins_from, heads, header_at}
use Rattle.py_statements.specs.ViewStates.{kind_at}

-- ---- where a line begins

begins_after : (b : Bool) (ks : List Kind) (p : ℕ) (k : Kind) (rest : List Kind) → drop p ks ≡ k ∷ rest → begins_from b ks (suc p) ≡ ends_line k
begins_after b [] zero k rest h = absurd cc
begins_after b [] (suc p) k rest h = absurd cc
begins_after b (x ∷ ks) zero k rest h = let one : x ≡ k = cc in ap ends_line one
begins_after b (x ∷ ks) (suc p) k rest h = begins_after (ends_line x) ks p k rest h

pub begins_there : (tokens : List Token) (at : ℕ) (d : Token) (b : Bool) → b ≡ ends_line (kind_at (get_or tokens (at - 1) d)) → (at ≡ 0 → ⊥) → at < length tokens → b ≡ begins_from true (kinds_of tokens) at
begins_there tokens zero d b h some lt = absurd (some refl)
begins_there tokens (suc p) d b h some lt =
    let one : suc p - 1 ≡ p = omega arith in
    h ∙ ap (λ (n : ℕ). ends_line (kind_at (get_or tokens n d))) one ∙ sym (begins_after true (kinds_of tokens) p (kind_at (get_or tokens p d)) (drop (p + 1) (kinds_of tokens)) (kind_there tokens p d (omega arith)))

-- ---- the end of the line

-- the reading has come so far
abbrev pub Ending : List Token → ℕ → ℕ → Bool → Type 0
Ending tokens from at colon = ends_in_colon colon (drop at (kinds_of tokens)) ≡ ends_in_colon false (drop from (kinds_of tokens))

pub at_newline : (tokens : List Token) (from at : ℕ) (colon : Bool) (d : Token) → at < length tokens → is_newline (kind_at (get_or tokens at d)) ≡ true → Ending tokens from at colon → colon ≡ ends_in_colon false (drop from (kinds_of tokens))
at_newline tokens from at colon d lt is h = sym (ap (ends_in_colon colon) (kind_there tokens at d lt) ∙ go (kind_at (get_or tokens at d)) is) ∙ h
  where
    go : (k : Kind) → is_newline k ≡ true → ends_in_colon colon (k ∷ drop (at + 1) (kinds_of tokens)) ≡ colon
    go Newline is = refl
    go k is = absurd cc

pub at_other : (tokens : List Token) (from at : ℕ) (colon next : Bool) (d : Token) → at < length tokens → is_newline (kind_at (get_or tokens at d)) ≡ false → next ≡ is_colon (kind_at (get_or tokens at d)) → Ending tokens from at colon → Ending tokens from (at + 1) next
at_other tokens from at colon next d lt is same h = ap (λ (c : Bool). ends_in_colon c (drop (at + 1) (kinds_of tokens))) same ∙ sym (ap (ends_in_colon colon) (kind_there tokens at d lt) ∙ go (kind_at (get_or tokens at d)) is) ∙ h
  where
    go : (k : Kind) → is_newline k ≡ false → ends_in_colon colon (k ∷ drop (at + 1) (kinds_of tokens)) ≡ ends_in_colon (is_colon k) (drop (at + 1) (kinds_of tokens))
    go Newline is = absurd cc
    go k is = refl

pub at_end : (tokens : List Token) (from at : ℕ) (colon : Bool) → length tokens ≤ at → Ending tokens from at colon → false ≡ ends_in_colon false (drop from (kinds_of tokens))
at_end tokens from at colon le h = let e = kinds_length tokens in sym (ap (ends_in_colon colon) (drop_of_length-le (kinds_of tokens) (omega arith))) ∙ h

-- ---- headers

header_is : (tokens : List Token) (at : ℕ) (d : Token) → at < length tokens → header_at (kinds_of tokens) at ≡ (begins_from true (kinds_of tokens) at && (is_match (kind_at (get_or tokens at d)) && is_header (drop (at + 1) (kinds_of tokens))))
header_is tokens at d lt = ap (λ (ks : List Kind). begins_from true (kinds_of tokens) at && heads ks) (kind_there tokens at d lt)

none_right : (a : Bool) → (a && false) ≡ false
none_right true = refl
none_right false = refl

pub no_begin : (tokens : List Token) (at : ℕ) → begins_from true (kinds_of tokens) at ≡ false → false ≡ header_at (kinds_of tokens) at
no_begin tokens at h = sym (ap (λ (b : Bool). b && heads (drop at (kinds_of tokens))) h)

pub no_match : (tokens : List Token) (at : ℕ) (d : Token) → at < length tokens → is_match (kind_at (get_or tokens at d)) ≡ false → false ≡ header_at (kinds_of tokens) at
no_match tokens at d lt h = sym (header_is tokens at d lt ∙ ap (λ (b : Bool). begins_from true (kinds_of tokens) at && (b && is_header (drop (at + 1) (kinds_of tokens)))) h ∙ none_right (begins_from true (kinds_of tokens) at))

no_rest : (tokens : List Token) (at : ℕ) (d : Token) → at < length tokens → at + 1 ≡ length tokens → false ≡ header_at (kinds_of tokens) at
no_rest tokens at d lt end =
    let e = kinds_length tokens in
    let none = ap is_header (drop_of_length-le (kinds_of tokens) {i = at + 1} (omega arith)) in
    sym (header_is tokens at d lt ∙ ap (λ (b : Bool). begins_from true (kinds_of tokens) at && (is_match (kind_at (get_or tokens at d)) && b)) none ∙ ap (λ (b : Bool). begins_from true (kinds_of tokens) at && b) (none_right (is_match (kind_at (get_or tokens at d)))) ∙ none_right (begins_from true (kinds_of tokens) at))

-- the name is the last token
pub no_more : (tokens : List Token) (at : ℕ) → at < length tokens → at + 1 ≡ length tokens → false ≡ header_at (kinds_of tokens) at
no_more [] at lt end = absurd (omega arith)
no_more (t ∷ tokens) at lt end = no_rest (t ∷ tokens) at t lt end

pub whole_line : (tokens : List Token) (at : ℕ) (d d' : Token) (b : Bool) → at < length tokens → at + 1 < length tokens → begins_from true (kinds_of tokens) at ≡ true → is_match (kind_at (get_or tokens at d)) ≡ true → b ≡ (not (is_newline (kind_at (get_or tokens (at + 1) d'))) && ends_in_colon false (drop (at + 2) (kinds_of tokens))) → b ≡ header_at (kinds_of tokens) at
whole_line tokens at d d' b lt more begins named h =
    let two : at + 1 + 1 ≡ at + 2 = omega arith in
    h ∙ ap (λ (n : ℕ). not (is_newline (kind_at (get_or tokens (at + 1) d'))) && ends_in_colon false (drop n (kinds_of tokens))) (sym two)
    ∙ sym (go (kind_at (get_or tokens (at + 1) d')) (drop (at + 1 + 1) (kinds_of tokens)))
    ∙ sym (ap is_header (kind_there tokens (at + 1) d' more))
    ∙ sym (header_is tokens at d lt ∙ ap (λ (c : Bool). c && (is_match (kind_at (get_or tokens at d)) && is_header (drop (at + 1) (kinds_of tokens)))) begins ∙ ap (λ (c : Bool). c && is_header (drop (at + 1) (kinds_of tokens))) named)
  where
    go : (k : Kind) (ks : List Kind) → is_header (k ∷ ks) ≡ (not (is_newline k) && ends_in_colon false ks)
    go Newline ks = refl
    go k ks = refl

middle : (a b c : Bool) → (a && (b && c)) ≡ true → b ≡ true
middle true true c h = refl
middle true false c h = h
middle false b c h = absurd cc

pub header_match : (tokens : List Token) (at : ℕ) (d : Token) (header : Bool) → at < length tokens → header ≡ header_at (kinds_of tokens) at → header ≡ true → is_match (kind_at (get_or tokens at d)) ≡ true
header_match tokens at d header lt is yes_it = middle (begins_from true (kinds_of tokens) at) (is_match (kind_at (get_or tokens at d))) (is_header (drop (at + 1) (kinds_of tokens))) (sym (header_is tokens at d lt) ∙ sym is ∙ yes_it)

pub ruleset line_end_rules = (at_newline, at_other, at_end)

pub ruleset no_header_rules = (no_begin, no_match)
