-- The layout of a text keeps its lines.
use Rattle.std.proofs.Common.{◌≡◌, ◌≤◌, ◌+◌, ℕ, zero, suc, Bool, true, false, cond, ◌&&◌, ◌||◌, eqb, List, [], ◌∷◌, ◌++◌, length, drop, Result, Ok, Err, refl, subst, arith}
use Rattle.std.specs.List.{prefix_len}
use Rattle.py_token.specs.declared.error.TokenError.{TokenError}
use Rattle.py_token.specs.declared.error.TokenError.TheVariants.{BadIndent}
use Rattle.py_token.specs.Source.{begins, line_count, last_line, most_lines}
use Rattle.py_token.specs.Plain.{PKind, newline, indent, dedent, end, PToken, token}
use Rattle.py_token.specs.Words.{same_text}
use Rattle.py_token.specs.Numbers.{is_empty}
use Rattle.py_token.specs.Strings.{◌>>=◌}
use Rattle.py_token.specs.Rules.{Match}
use Rattle.py_token.specs.Fields.{is_blank, change_of, token_at}
use Rattle.py_token.specs.Segments.{Lexeme, spelled, blank, comment, line_end, joined_end, stuck, in_comment, token_segment, segment_at, segments}
use Rattle.py_token.specs.Layout.{State, outermost, current, is_within, dedents, block_tokens, line_begins, changed, newline_if, spelled_at, put, closing_tokens, ends_with, layout}
use Rattle.py_token.specs.Spelling.{spelling}
use Rattle.py_token.specs.OnLines.{IsKindOnLines, AreOnLines}
use Rattle.py_token.proofs.Lines.{line_count-cons}
use Rattle.py_token.proofs.FStringBodies.{token_fair}
use Rattle.py_token.proofs.LinesKept.{token_kind}
use Rattle.py_token.proofs.Reading.{segment_fair}

append_on_lines : (xs ys : List PToken) → AreOnLines xs → AreOnLines ys → AreOnLines (xs ++ ys)
append_on_lines [] ys hx hy = hy
append_on_lines (x ∷ xs) ys hx hy = (hx.0, append_on_lines xs ys hx.1 hy)

abbrev the_step : {S : Type 0} → List PToken × S → Result (List PToken × S) TokenError
the_step x = Ok x

step_is : {S : Type 0} (x y : List PToken × S) → the_step x ≡ the_step y → x ≡ y
step_is x y h = cc

one_token : (kind : PKind) (line : ℕ) → IsKindOnLines kind → 1 ≤ line → line ≤ most_lines → AreOnLines (token kind line line ∷ [])
one_token kind line ok low high = ((low, omega arith, high, ok), tt)

dedents_on_lines : (blanks : List ℕ) (line : ℕ) (is : List (List ℕ)) (x : List PToken × List (List ℕ)) → 1 ≤ line → line ≤ most_lines → dedents blanks line is ≡ the_step x → AreOnLines x.0
dedents_on_lines blanks line [] x low high h = go (is_empty blanks) h
  where
    go : (b : Bool) → cond b (the_step ([], [])) (Err (BadIndent line)) ≡ the_step x → AreOnLines x.0
    go true h = subst (λ (w : List PToken × List (List ℕ)). AreOnLines w.0) (step_is ([], []) x h) tt
    go false h = absurd cc
dedents_on_lines blanks line (i ∷ is) x low high h = go (same_text i blanks) (dedents blanks line is) (λ y e. dedents_on_lines blanks line is y low high e) h
  where
    go : (b : Bool) (r : Result (List PToken × List (List ℕ)) TokenError) → ((y : List PToken × List (List ℕ)) → r ≡ the_step y → AreOnLines y.0) → cond b (the_step ([], i ∷ is)) (r >>= λ x. Ok (token dedent line line ∷ x.0, x.1)) ≡ the_step x → AreOnLines x.0
    go true r more h = subst (λ (w : List PToken × List (List ℕ)). AreOnLines w.0) (step_is ([], i ∷ is) x h) tt
    go false (Ok y) more h = subst (λ (w : List PToken × List (List ℕ)). AreOnLines w.0) (step_is (token dedent line line ∷ y.0, y.1) x h) ((low, omega arith, high, tt), more y refl)
    go false (Err e) more h = absurd cc

block_on_lines : (blanks : List ℕ) (line : ℕ) (is : List (List ℕ)) (x : List PToken × List (List ℕ)) → 1 ≤ line → line ≤ most_lines → block_tokens blanks line is ≡ the_step x → AreOnLines x.0
block_on_lines blanks line is x low high h = go (is_within (current is) blanks) h
  where
    go : (b : Bool) → cond b (the_step (token indent line line ∷ [], blanks ∷ is)) (dedents blanks line is) ≡ the_step x → AreOnLines x.0
    go true h = subst (λ (w : List PToken × List (List ℕ)). AreOnLines w.0) (step_is (token indent line line ∷ [], blanks ∷ is) x h) (one_token indent line tt low high)
    go false h = dedents_on_lines blanks line is x low high h

begins_on_lines : (s : State) (line : ℕ) (x : List PToken × State) → 1 ≤ line → line ≤ most_lines → line_begins s line ≡ the_step x → AreOnLines x.0
begins_on_lines s line x low high h = go s.begun (block_tokens s.blanks line s.indents) (λ y e. block_on_lines s.blanks line s.indents y low high e) h
  where
    go : (b : Bool) (r : Result (List PToken × List (List ℕ)) TokenError) → ((y : List PToken × List (List ℕ)) → r ≡ the_step y → AreOnLines y.0) → cond b (the_step ([], s)) (r >>= λ x. Ok (x.0, record s { indents = x.1; begun = true })) ≡ the_step x → AreOnLines x.0
    go true r more h = subst (λ (w : List PToken × State). AreOnLines w.0) (step_is ([], s) x h) tt
    go false (Ok y) more h = subst (λ (w : List PToken × State). AreOnLines w.0) (step_is (y.0, record s { indents = y.1; begun = true }) x h) (more y refl)
    go false (Err e) more h = absurd cc

-- a segment that keeps lines of the text
abbrev FitsLines : Lexeme → ℕ → ℕ → Type 0
FitsLines (spelled kind) line next = (line ≤ next) × (next ≤ most_lines) × IsKindOnLines kind
FitsLines (blank c) line next = Unit {0}
FitsLines comment line next = Unit {0}
FitsLines line_end line next = Unit {0}
FitsLines joined_end line next = Unit {0}
FitsLines (stuck e) line next = Unit {0}

spelled_on_lines : (s : State) (kind : PKind) (line next : ℕ) (x : List PToken × State) → 1 ≤ line → line ≤ next → next ≤ most_lines → IsKindOnLines kind → spelled_at s kind line next ≡ the_step x → AreOnLines x.0
spelled_on_lines s kind line next x low grows high ok h = go (line_begins s line) (λ y e. begins_on_lines s line y low (omega arith) e) h
  where
    go : (r : Result (List PToken × State) TokenError) → ((y : List PToken × State) → r ≡ the_step y → AreOnLines y.0) → (r >>= λ x. Ok (x.0 ++ token kind line next ∷ [], record x.1 { brackets = changed (change_of kind) line x.1.brackets })) ≡ the_step x → AreOnLines x.0
    go (Ok y) begun h = subst (λ (w : List PToken × State). AreOnLines w.0) (step_is (y.0 ++ token kind line next ∷ [], record y.1 { brackets = changed (change_of kind) line y.1.brackets }) x h) (append_on_lines y.0 (token kind line next ∷ []) (begun y refl) ((low, grows, high, ok), tt))
    go (Err e) begun h = absurd cc

newline_on_lines : (b : Bool) (line : ℕ) → 1 ≤ line → line ≤ most_lines → AreOnLines (newline_if b line)
newline_on_lines true line low high = one_token newline line tt low high
newline_on_lines false line low high = tt

put_on_lines : (s : State) (lexeme : Lexeme) (line next : ℕ) (x : List PToken × State) → 1 ≤ line → line ≤ most_lines → FitsLines lexeme line next → put s lexeme line next ≡ the_step x → AreOnLines x.0
unfolding put
put_on_lines s (spelled kind) line next x low high fit h = spelled_on_lines s kind line next x low fit.0 fit.1 fit.2 h
put_on_lines s (blank c) line next x low high fit h = subst (λ (w : List PToken × State). AreOnLines w.0) (step_is ([], cond (s.begun || s.settled) s (record s { blanks = s.blanks ++ c ∷ [] })) x h) tt
put_on_lines s comment line next x low high fit h = subst (λ (w : List PToken × State). AreOnLines w.0) (step_is ([], s) x h) tt
put_on_lines s joined_end line next x low high fit h = subst (λ (w : List PToken × State). AreOnLines w.0) (step_is ([], record s { settled = true }) x h) tt
put_on_lines s line_end line next x low high fit h = go (is_empty s.brackets) h
  where
    go : (b : Bool) → cond b (the_step (newline_if s.begun line, record s { begun = false; blanks = []; settled = false })) (the_step ([], s)) ≡ the_step x → AreOnLines x.0
    go true h = subst (λ (w : List PToken × State). AreOnLines w.0) (step_is (newline_if s.begun line, record s { begun = false; blanks = []; settled = false }) x h) (newline_on_lines s.begun line low high)
    go false h = subst (λ (w : List PToken × State). AreOnLines w.0) (step_is ([], s) x h) tt
put_on_lines s (stuck e) line next x low high fit h = go (line_begins s line) h
  where
    go : (r : Result (List PToken × State) TokenError) → (r >>= λ x. Err e) ≡ the_step x → AreOnLines x.0
    go (Ok y) h = absurd cc
    go (Err f) h = absurd cc

closing_on_lines : (line count : ℕ) → 1 ≤ line → line ≤ most_lines → AreOnLines (closing_tokens line count)
closing_on_lines line zero low high = one_token end line tt low high
closing_on_lines line (suc count) low high = ((low, omega arith, high, tt), closing_on_lines line count low high)

abbrev the_list : List PToken → Result (List PToken) TokenError
the_list ts = Ok ts

list_is : (a b : List PToken) → the_list a ≡ the_list b → a ≡ b
list_is a b h = cc

ends_on_lines : (s : State) (brackets : List ℕ) (last : ℕ) (ts : List PToken) → 1 ≤ last → last ≤ most_lines → ends_with brackets s last ≡ the_list ts → AreOnLines ts
ends_on_lines s [] last ts low high h = subst AreOnLines (list_is (newline_if s.begun last ++ closing_tokens last (length s.indents)) ts h) (append_on_lines (newline_if s.begun last) (closing_tokens last (length s.indents)) (newline_on_lines s.begun last low high) (closing_on_lines last (length s.indents) low high))
ends_on_lines s (b ∷ bs) last ts low high h = absurd cc

token_fits : (line c : ℕ) (cs : List ℕ) (r : Result Match TokenError) → 1 ≤ line → line + line_count (c ∷ cs) ≤ suc most_lines → token_at line c cs ≡ r → FitsLines (token_segment line r).lexeme line (token_segment line r).next
token_fits line c cs (Ok t) low lines is = let h = token_fair line c cs t is in let on = h.on_line in (h.later, omega (arith, on, lines), token_kind line c cs t low lines is)
token_fits line c cs (Err e) low lines is = tt

segment_fits : (line c : ℕ) (cs : List ℕ) → 1 ≤ line → line + line_count (c ∷ cs) ≤ suc most_lines → FitsLines (segment_at line c cs).lexeme line (segment_at line c cs).next
unfolding segment_at
segment_fits line c cs low lines = go (is_blank c) (eqb c 10) (eqb c 35) ((eqb c 92) && begins 10 cs)
  where
    go : (a b d e : Bool) → FitsLines (cond a (record { lexeme = blank c; after = 0; next = line }) (cond b (record { lexeme = line_end; after = 0; next = line + 1 }) (cond d (record { lexeme = comment; after = prefix_len in_comment cs; next = line }) (cond e (record { lexeme = joined_end; after = 1; next = line + 1 }) (token_segment line (token_at line c cs)))))).lexeme line (cond a (record { lexeme = blank c; after = 0; next = line }) (cond b (record { lexeme = line_end; after = 0; next = line + 1 }) (cond d (record { lexeme = comment; after = prefix_len in_comment cs; next = line }) (cond e (record { lexeme = joined_end; after = 1; next = line + 1 }) (token_segment line (token_at line c cs)))))).next
    go true b d e = tt
    go false true d e = tt
    go false false true e = tt
    go false false false true = tt
    go false false false false = token_fits line c cs (token_at line c cs) low lines refl

layout_on_lines : (s : State) (last skip line : ℕ) (cs : List ℕ) (ts : List PToken) → 1 ≤ last → last ≤ most_lines → 1 ≤ line → line + line_count (drop skip cs) ≤ suc most_lines → layout s last (segments skip line cs) ≡ the_list ts → AreOnLines ts
unfolding layout segments
layout_on_lines s last zero line [] ts some high low lines h = ends_on_lines s s.brackets last ts some high h
layout_on_lines s last (suc skip) line [] ts some high low lines h = ends_on_lines s s.brackets last ts some high h
layout_on_lines s last (suc skip) line (c ∷ cs) ts some high low lines h = layout_on_lines s last skip line cs ts some high low lines h
layout_on_lines s last zero line (c ∷ cs) ts some high low lines h =
    let fair = segment_fair line c cs in
    let passed = fair.lines in
    let later = fair.later in
    let here = (line_count-cons c cs).1 in
    go (put s (segment_at line c cs).lexeme line (segment_at line c cs).next)
    (λ x e. put_on_lines s (segment_at line c cs).lexeme line (segment_at line c cs).next x low (omega (arith, lines, here)) (segment_fits line c cs low lines) e)
    (λ after more e. layout_on_lines after last (segment_at line c cs).after (segment_at line c cs).next cs more some high (omega (arith, low, later)) (omega (arith, passed, lines)) e)
    h
  where
    go : (r : Result (List PToken × State) TokenError) → ((x : List PToken × State) → r ≡ the_step x → AreOnLines x.0)
        → ((after : State) (more : List PToken) → layout after last (segments (segment_at line c cs).after (segment_at line c cs).next cs) ≡ the_list more → AreOnLines more)
        → (r >>= λ here. layout here.1 last (segments (segment_at line c cs).after (segment_at line c cs).next cs) >>= λ more. Ok (here.0 ++ more)) ≡ the_list ts → AreOnLines ts
    go (Ok x) first rest h = inner (layout x.1 last (segments (segment_at line c cs).after (segment_at line c cs).next cs)) (rest x.1) h
      where
        inner : (r : Result (List PToken) TokenError) → ((more : List PToken) → r ≡ the_list more → AreOnLines more) → (r >>= λ more. Ok (x.0 ++ more)) ≡ the_list ts → AreOnLines ts
        inner (Ok more) rest h = subst AreOnLines (list_is (x.0 ++ more) ts h) (append_on_lines x.0 more (first x refl) (rest more refl))
        inner (Err e) rest h = absurd cc
    go (Err e) first rest h = absurd cc

-- the tokens of a text of at most 65,535 lines
pub spelling_on_lines : (cs : List ℕ) (ts : List PToken) → line_count cs ≤ most_lines → spelling cs ≡ Ok ts → AreOnLines ts
unfolding spelling
spelling_on_lines cs ts few is = layout_on_lines outermost (last_line cs) 0 1 cs ts (omega arith) (omega (arith, few)) (omega arith) (omega (arith, few)) is
