-- The logical lines of a text go on down the text.
use Rattle.std.proofs.Common.{◌≡◌, ◌≤◌, ◌+◌, ℕ, zero, suc, Bool, true, false, cond, ◌&&◌, ◌||◌, eqb, List, [], ◌∷◌, ◌++◌, length, Result, Ok, Err, refl, subst, arith}
use Rattle.std.specs.List.{prefix_len}
use Rattle.py_token.specs.declared.error.TokenError.{TokenError}
use Rattle.py_token.specs.declared.error.TokenError.TheVariants.{BadIndent}
use Rattle.py_token.specs.Source.{begins, source_text, last_line}
use Rattle.py_token.specs.Plain.{PKind, indent, dedent, PToken, token}
use Rattle.py_token.specs.Words.{same_text}
use Rattle.py_token.specs.Numbers.{is_empty}
use Rattle.py_token.specs.Strings.{◌>>=◌}
use Rattle.py_token.specs.Rules.{Match}
use Rattle.py_token.specs.Fields.{is_blank, change_of, token_at}
use Rattle.py_token.specs.Segments.{Lexeme, spelled, blank, comment, line_end, joined_end, stuck, in_comment, token_segment, segment_at, segments}
use Rattle.py_token.specs.Layout.{State, outermost, current, is_within, dedents, block_tokens, line_begins, changed, newline_if, spelled_at, put, closing_tokens, ends_with, layout}
use Rattle.py_token.specs.Spelling.{spelling, Spells}
use Rattle.py_token.proofs.FStringBodies.{token_fair}
use Rattle.py_line_laws.proofs.Written.{IsWritten, token_written}
use Rattle.py_line_laws.proofs.Rising.{Rises, lower, front}

abbrev the_step : {S : Type 0} → List PToken × S → Result (List PToken × S) TokenError
the_step x = Ok x

step_is : {S : Type 0} (x y : List PToken × S) → the_step x ≡ the_step y → x ≡ y
step_is x y h = cc

-- ---- tokens in front of others that rise

-- tokens may stand in front of any that rise from the line on
abbrev Precede : ℕ → List PToken → Type 0
Precede l ts = (more : List PToken) → Rises l more → Rises l (ts ++ more)

dedents_precede : (blanks : List ℕ) (line l : ℕ) (is : List (List ℕ)) (x : List PToken × List (List ℕ)) → dedents blanks line is ≡ the_step x → Precede l x.0
dedents_precede blanks line l [] x h = go (is_empty blanks) h
  where
    go : (b : Bool) → cond b (the_step ([], [])) (Err (BadIndent line)) ≡ the_step x → Precede l x.0
    go true h = subst (λ (w : List PToken × List (List ℕ)). Precede l w.0) (step_is ([], []) x h) (λ more r. r)
    go false h = absurd cc
dedents_precede blanks line l (i ∷ is) x h = go (same_text i blanks) (dedents blanks line is) (λ y e. dedents_precede blanks line l is y e) h
  where
    go : (b : Bool) (r : Result (List PToken × List (List ℕ)) TokenError) → ((y : List PToken × List (List ℕ)) → r ≡ the_step y → Precede l y.0)
        → cond b (the_step ([], i ∷ is)) (r >>= λ y. the_step (token dedent line line ∷ y.0, y.1)) ≡ the_step x → Precede l x.0
    go true r more h = subst (λ (w : List PToken × List (List ℕ)). Precede l w.0) (step_is ([], i ∷ is) x h) (λ more r. r)
    go false (Ok y) more h = subst (λ (w : List PToken × List (List ℕ)). Precede l w.0) (step_is (token dedent line line ∷ y.0, y.1) x h) (λ others r. (tt, more y refl others r))
    go false (Err e) more h = absurd cc

block_precede : (blanks : List ℕ) (line l : ℕ) (is : List (List ℕ)) (x : List PToken × List (List ℕ)) → block_tokens blanks line is ≡ the_step x → Precede l x.0
block_precede blanks line l is x h = go (is_within (current is) blanks) h
  where
    go : (b : Bool) → cond b (the_step (token indent line line ∷ [], blanks ∷ is)) (dedents blanks line is) ≡ the_step x → Precede l x.0
    go true h = subst (λ (w : List PToken × List (List ℕ)). Precede l w.0) (step_is (token indent line line ∷ [], blanks ∷ is) x h) (λ more r. (tt, r))
    go false h = dedents_precede blanks line l is x h

begins_precede : (s : State) (line l : ℕ) (x : List PToken × State) → line_begins s line ≡ the_step x → Precede l x.0
begins_precede s line l x h = go s.begun (block_tokens s.blanks line s.indents) (λ y e. block_precede s.blanks line l s.indents y e) h
  where
    go : (b : Bool) (r : Result (List PToken × List (List ℕ)) TokenError) → ((y : List PToken × List (List ℕ)) → r ≡ the_step y → Precede l y.0)
        → cond b (the_step ([], s)) (r >>= λ y. the_step (y.0, record s { indents = y.1; begun = true })) ≡ the_step x → Precede l x.0
    go true r more h = subst (λ (w : List PToken × State). Precede l w.0) (step_is ([], s) x h) (λ more r. r)
    go false (Ok y) more h = subst (λ (w : List PToken × State). Precede l w.0) (step_is (y.0, record s { indents = y.1; begun = true }) x h) (more y refl)
    go false (Err e) more h = absurd cc

-- ---- segments

-- where a segment leads from its line
abbrev Leads : Lexeme → ℕ → ℕ → Type 0
Leads (spelled kind) line next = IsWritten kind × (line ≤ next)
Leads (blank c) line next = line ≤ next
Leads comment line next = line ≤ next
Leads line_end line next = suc line ≤ next
Leads joined_end line next = line ≤ next
Leads (stuck e) line next = line ≤ next

-- tokens of a segment in front of those after it
abbrev Lead : ℕ → ℕ → List PToken → Type 0
Lead line next ts = (more : List PToken) → Rises next more → Rises line (ts ++ more)

append_all : (xs ys zs : List PToken) → (xs ++ ys) ++ zs ≡ xs ++ (ys ++ zs)
append_all [] ys zs = refl
append_all (x ∷ xs) ys zs = let e = append_all xs ys zs in cc

spelled_leads : (s : State) (kind : PKind) (line next : ℕ) (x : List PToken × State) → IsWritten kind → line ≤ next → spelled_at s kind line next ≡ the_step x → Lead line next x.0
spelled_leads s kind line next x ok le h = go (line_begins s line) (λ y e. begins_precede s line line y e) h
  where
    go : (r : Result (List PToken × State) TokenError) → ((y : List PToken × State) → r ≡ the_step y → Precede line y.0) → (r >>= λ x. Ok (x.0 ++ token kind line next ∷ [], record x.1 { brackets = changed (change_of kind) line x.1.brackets })) ≡ the_step x → Lead line next x.0
    go (Ok y) begun h =
        subst (λ (w : List PToken × State). Lead line next w.0) (step_is (y.0 ++ token kind line next ∷ [], record y.1 { brackets = changed (change_of kind) line y.1.brackets }) x h)
        (λ more r. subst (λ us. Rises line us) (sym_of (append_all y.0 (token kind line next ∷ []) more)) (begun y refl (token kind line next ∷ more) (front line kind next more ok (lower line next more le r))))
      where
        sym_of : {a b : List PToken} → a ≡ b → b ≡ a
        sym_of e = cc
    go (Err e) begun h = absurd cc

newline_leads : (b : Bool) (line next : ℕ) → suc line ≤ next → Lead line next (newline_if b line)
newline_leads true line next le more r = (tt, lower (suc line) next more le r)
newline_leads false line next le more r = lower line next more (omega arith) r

put_leads : (s : State) (lexeme : Lexeme) (line next : ℕ) (x : List PToken × State) → Leads lexeme line next → put s lexeme line next ≡ the_step x → Lead line next x.0
unfolding put
put_leads s (spelled kind) line next x on h = spelled_leads s kind line next x on.0 on.1 h
put_leads s (blank c) line next x on h = subst (λ (w : List PToken × State). Lead line next w.0) (step_is ([], cond (s.begun || s.settled) s (record s { blanks = s.blanks ++ c ∷ [] })) x h) (λ more r. lower line next more on r)
put_leads s comment line next x on h = subst (λ (w : List PToken × State). Lead line next w.0) (step_is ([], s) x h) (λ more r. lower line next more on r)
put_leads s joined_end line next x on h = subst (λ (w : List PToken × State). Lead line next w.0) (step_is ([], record s { settled = true }) x h) (λ more r. lower line next more on r)
put_leads s line_end line next x on h = go (is_empty s.brackets) h
  where
    go : (b : Bool) → cond b (the_step (newline_if s.begun line, record s { begun = false; blanks = []; settled = false })) (the_step ([], s)) ≡ the_step x → Lead line next x.0
    go true h = subst (λ (w : List PToken × State). Lead line next w.0) (step_is (newline_if s.begun line, record s { begun = false; blanks = []; settled = false }) x h) (newline_leads s.begun line next on)
    go false h = subst (λ (w : List PToken × State). Lead line next w.0) (step_is ([], s) x h) (λ more r. lower line next more (omega arith) r)
put_leads s (stuck e) line next x on h = go (line_begins s line) h
  where
    go : (r : Result (List PToken × State) TokenError) → (r >>= λ x. Err e) ≡ the_step x → Lead line next x.0
    go (Ok y) h = absurd cc
    go (Err f) h = absurd cc

token_leads : (line c : ℕ) (cs : List ℕ) (r : Result Match TokenError) → token_at line c cs ≡ r → Leads (token_segment line r).lexeme line (token_segment line r).next
token_leads line c cs (Ok t) is = (token_written line c cs t is, (token_fair line c cs t is).later)
token_leads line c cs (Err e) is = omega arith

segment_leads : (line c : ℕ) (cs : List ℕ) → Leads (segment_at line c cs).lexeme line (segment_at line c cs).next
unfolding segment_at
segment_leads line c cs = go (is_blank c) (eqb c 10) (eqb c 35) ((eqb c 92) && begins 10 cs)
  where
    go : (a b d e : Bool) → Leads (cond a (record { lexeme = blank c; after = 0; next = line }) (cond b (record { lexeme = line_end; after = 0; next = line + 1 }) (cond d (record { lexeme = comment; after = prefix_len in_comment cs; next = line }) (cond e (record { lexeme = joined_end; after = 1; next = line + 1 }) (token_segment line (token_at line c cs)))))).lexeme line (cond a (record { lexeme = blank c; after = 0; next = line }) (cond b (record { lexeme = line_end; after = 0; next = line + 1 }) (cond d (record { lexeme = comment; after = prefix_len in_comment cs; next = line }) (cond e (record { lexeme = joined_end; after = 1; next = line + 1 }) (token_segment line (token_at line c cs)))))).next
    go true b d e = omega arith
    go false true d e = omega arith
    go false false true e = omega arith
    go false false false true = omega arith
    go false false false false = token_leads line c cs (token_at line c cs) refl

-- ---- the end of a text

closing_rises : (line count l : ℕ) → Rises l (closing_tokens line count)
closing_rises line zero l = (tt, tt)
closing_rises line (suc count) l = (tt, closing_rises line count l)

abbrev the_list : List PToken → Result (List PToken) TokenError
the_list ts = Ok ts

list_is : (a b : List PToken) → the_list a ≡ the_list b → a ≡ b
list_is a b h = cc

end_rises : (b : Bool) (line count l : ℕ) → Rises l (newline_if b line ++ closing_tokens line count)
end_rises true line count l = (tt, closing_rises line count (suc l))
end_rises false line count l = closing_rises line count l

ends_rise : (s : State) (brackets : List ℕ) (last l : ℕ) (ts : List PToken) → ends_with brackets s last ≡ the_list ts → Rises l ts
ends_rise s [] last l ts h = subst (λ us. Rises l us) (list_is (newline_if s.begun last ++ closing_tokens last (length s.indents)) ts h) (end_rises s.begun last (length s.indents) l)
ends_rise s (b ∷ bs) last l ts h = absurd cc

-- ---- the text

layout_rises : (s : State) (last skip line : ℕ) (cs : List ℕ) (ts : List PToken) → layout s last (segments skip line cs) ≡ the_list ts → Rises line ts
unfolding layout segments
layout_rises s last zero line [] ts h = ends_rise s s.brackets last line ts h
layout_rises s last (suc skip) line [] ts h = ends_rise s s.brackets last line ts h
layout_rises s last (suc skip) line (c ∷ cs) ts h = layout_rises s last skip line cs ts h
layout_rises s last zero line (c ∷ cs) ts h =
    go (put s (segment_at line c cs).lexeme line (segment_at line c cs).next)
    (λ x e. put_leads s (segment_at line c cs).lexeme line (segment_at line c cs).next x (segment_leads line c cs) e)
    (λ after more e. layout_rises after last (segment_at line c cs).after (segment_at line c cs).next cs more e)
    h
  where
    go : (r : Result (List PToken × State) TokenError) → ((x : List PToken × State) → r ≡ the_step x → Lead line (segment_at line c cs).next x.0)
        → ((after : State) (more : List PToken) → layout after last (segments (segment_at line c cs).after (segment_at line c cs).next cs) ≡ the_list more → Rises (segment_at line c cs).next more)
        → (r >>= λ here. layout here.1 last (segments (segment_at line c cs).after (segment_at line c cs).next cs) >>= λ more. Ok (here.0 ++ more)) ≡ the_list ts → Rises line ts
    go (Ok x) first rest h = inner (layout x.1 last (segments (segment_at line c cs).after (segment_at line c cs).next cs)) (rest x.1) h
      where
        inner : (r : Result (List PToken) TokenError) → ((more : List PToken) → r ≡ the_list more → Rises (segment_at line c cs).next more) → (r >>= λ more. Ok (x.0 ++ more)) ≡ the_list ts → Rises line ts
        inner (Ok more) rest h = subst (λ us. Rises line us) (list_is (x.0 ++ more) ts h) (first x refl more (rest more refl))
        inner (Err e) rest h = absurd cc
    go (Err e) first rest h = absurd cc

-- the tokens of a text rise from its first line on
pub text_rises : (cs : List ℕ) (ts : List PToken) → Spells cs ts → Rises 1 ts
unfolding Spells spelling
text_rises cs ts is = layout_rises outermost (last_line (source_text cs)) 0 1 (source_text cs) ts is
