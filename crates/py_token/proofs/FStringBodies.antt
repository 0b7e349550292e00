-- What the loop over the items of an f-string keeps.
use Rattle.std.proofs.Common.{◌≡◌, ◌≤◌, ◌<◌, ◌+◌, ◌-◌, ℕ, suc, Bool, true, false, cond, ◌&&◌, not, eqb, List, [], ◌∷◌, ◌++◌, length, drop, Result, Ok, Err, refl, sym, ap, subst, ◌∙◌, arith, append_assoc, append-nil, length-drop}
use Rattle.py_token.specs.declared.error.TokenError.{TokenError}
use Rattle.py_token.specs.declared.error.TokenError.TheVariants.{BadCharacter, BadIndent, OpenString, OpenBracket, WideNumber, NoMemory}
use Rattle.py_token.specs.Source.{begins, line_count, most_lines}
use Rattle.py_token.specs.Plain.{PTokens, PPiece, chars, field, fstring, piece_row}
use Rattle.py_token.specs.Strings.{◌>>=◌, doubled, StringItem, holds, closing, fault, Body, more_of, after_of, text_item, body_of}
use Rattle.py_token.specs.Fields.{field_item, chars_item, fstring_item, fstring_body, with_chars, normal, is_format_prefix, matched_pieces, fstring_at, token_at}
use Rattle.py_token.specs.Rules.{Match, begins_quote, plain_token}
use Rattle.py_token.proofs.FairTokens.{FairToken, the_match, match_is, string_fair, prefix_fair, plain_fair}
use Rattle.py_token.specs.ViewPieces.{opens_field, ended, PushesField, pieces_of, view_fstring}
use Rattle.py_token.specs.Answers.{Gives}
use Rattle.py_token.proofs.Lines.{line_count-cons}
use Rattle.py_token.proofs.Bodies.{body_step, body_end, bounded}
use Rattle.py_token.proofs.Fair.{Fair}
use Rattle.py_token.proofs.FieldItems.{fstring_fair}
use Rattle.py_token.proofs.Reaches.{Known, known_tail, known_drop, nothing_known}

-- pieces and characters before what is still read
abbrev pub with_pieces : List PPiece → List ℕ → Result (List PPiece × ℕ × ℕ) TokenError → Result (List PPiece × ℕ × ℕ) TokenError
with_pieces ps held read = read >>= λ x. Ok (ps ++ with_chars held x.0, x.1, x.2)

pub record Reads (quote : ℕ) (triple : Bool) (first : ℕ) (text : List ℕ) (ps : List PPiece) (held : List ℕ) (line : ℕ) (rest : List ℕ) (limit : ℕ) : Type 0 where
  pub same : with_pieces ps held (pieces_of (body_of (fstring_item quote triple first) first 0 line rest)) ≡ pieces_of (fstring_body quote triple first text)
  pub lines : line + line_count rest ≤ suc most_lines
  pub long : length rest ≤ length text
  pub known : Known quote triple limit rest

with_chars-append : (held xs : List ℕ) (ps : List PPiece) → with_chars held (with_chars xs ps) ≡ with_chars (held ++ xs) ps
with_chars-append [] xs ps = refl
with_chars-append (h ∷ hs) [] ps = ap (λ t. with_chars t ps) (sym (append-nil (h ∷ hs)))
with_chars-append (h ∷ hs) (x ∷ xs) [] = refl
with_chars-append (h ∷ hs) (x ∷ xs) (chars ys ∷ ps) = ap (λ t. chars t ∷ ps) (sym (append_assoc (h ∷ hs) (x ∷ xs) ys))
with_chars-append (h ∷ hs) (x ∷ xs) (field ts ∷ ps) = refl

with_chars-field : (held : List ℕ) (ts : PTokens) (ps : List PPiece) → with_chars held (field ts ∷ ps) ≡ ended held ++ field ts ∷ ps
with_chars-field [] ts ps = refl
with_chars-field (h ∷ hs) ts ps = refl

with_chars-nil : (held : List ℕ) → with_chars held [] ≡ ended held
with_chars-nil [] = refl
with_chars-nil (h ∷ hs) = refl

more_chars : (ps : List PPiece) (held xs : List ℕ) (body : Result (Body PPiece) TokenError) → with_pieces ps held (pieces_of (more_of (chars xs) body)) ≡ with_pieces ps (held ++ xs) (pieces_of body)
more_chars ps held xs (Ok b) = ap (λ (x : List PPiece). Ok (ps ++ x, length b.rest, b.next)) (with_chars-append held xs (normal b.values))
more_chars ps held xs (Err e) = refl

more_fields : (ps : List PPiece) (held : List ℕ) (ts : PTokens) (body : Result (Body PPiece) TokenError) → with_pieces ps held (pieces_of (more_of (field ts) body)) ≡ with_pieces (ps ++ (ended held ++ field ts ∷ [])) [] (pieces_of body)
more_fields ps held ts (Ok b) =
    ap (λ (x : List PPiece). Ok (x, length b.rest, b.next))
    (ap (λ x. ps ++ x) (with_chars-field held ts (normal b.values) ∙ sym (append_assoc (ended held) (field ts ∷ []) (normal b.values)))
    ∙ sym (append_assoc ps (ended held ++ field ts ∷ []) (normal b.values)))
more_fields ps held ts (Err e) = refl

none_before : (r : Result (List PPiece × ℕ × ℕ) TokenError) → with_pieces [] [] r ≡ r
none_before (Ok x) = refl
none_before (Err e) = refl

pub starts : (quote : ℕ) (triple : Bool) (first : ℕ) (text : List ℕ) (ps : List PPiece) (held : List ℕ) (limit : ℕ) → ps ≡ [] → held ≡ [] → first + line_count text ≤ suc most_lines → length text < limit → Reads quote triple first text ps held first text limit
unfolding fstring_body
starts quote triple first text ps held limit ps_is held_is few low = record {
  same = ap (λ x. with_pieces x held (pieces_of (body_of (fstring_item quote triple first) first 0 first text))) ps_is
      ∙ ap (λ x. with_pieces [] x (pieces_of (body_of (fstring_item quote triple first) first 0 first text))) held_is
      ∙ none_before (pieces_of (body_of (fstring_item quote triple first) first 0 first text));
  lines = few;
  long = omega arith;
  known = nothing_known quote triple limit text low;
}

pub known_after : (quote : ℕ) (triple : Bool) (limit c : ℕ) (rest cs : List ℕ) → Known quote triple limit rest → rest ≡ c ∷ cs → Known quote triple limit cs
known_after quote triple limit c rest cs h is = known_tail quote triple limit c cs (subst (λ x. Known quote triple limit x) is h)

pub lines_after : (line c : ℕ) (rest cs : List ℕ) → line + line_count rest ≤ suc most_lines → rest ≡ c ∷ cs → line + line_count cs ≤ suc most_lines
lines_after line c rest cs h is = let e = ap line_count is in let m = (line_count-cons c cs).0 in omega (arith, h, e, m)

pub on_a_line : (line c : ℕ) (rest cs : List ℕ) → line + line_count rest ≤ suc most_lines → rest ≡ c ∷ cs → line ≤ most_lines
on_a_line line c rest cs h is = let e = ap line_count is in let m = (line_count-cons c cs).1 in omega (arith, h, e, m)

pub fits : (quote : ℕ) (triple : Bool) (first line c : ℕ) (cs : List ℕ) (b : StringItem PPiece) → b ≡ fstring_item quote triple first line c cs → after_of b ≤ length cs
fits quote triple first line c cs b is = let h = (fstring_fair quote triple first line c cs).within in let e = ap after_of is in omega (arith, h, e)

pub field_stands : (quote : ℕ) (triple : Bool) (first line c : ℕ) (cs : List ℕ) → true ≡ opens_field c cs → field_item quote triple first line cs ≡ fstring_item quote triple first line c cs
unfolding fstring_item
field_stands quote triple first line c cs opens = go (eqb c 123) (begins 123 cs) opens
  where
    go : (a b : Bool) → true ≡ (a && not b) → field_item quote triple first line cs ≡ cond a (cond b (holds (chars (123 ∷ [])) 1 line) (field_item quote triple first line cs)) (cond (eqb c 125) (cond (begins 125 cs) (holds (chars (125 ∷ [])) 1 line) (fault (BadCharacter line))) (chars_item (text_item false quote triple first line c cs)))
    go true true is = absurd cc
    go true false is = refl
    go false b is = absurd cc

pub faulty : {quote : ℕ} {triple : Bool} {first : ℕ} {text : List ℕ} {ps : List PPiece} {held : List ℕ} {line : ℕ} {rest : List ℕ} {limit : ℕ} (c : ℕ) (cs : List ℕ) (e : TokenError) → Reads quote triple first text ps held line rest limit → rest ≡ c ∷ cs → fault e ≡ fstring_item quote triple first line c cs → pieces_of (fstring_body quote triple first text) ≡ Err e
faulty {quote} {triple} {first} {text} {ps} {held} {line} {rest} c cs e h is stands = sym h.same ∙ ap (λ b. with_pieces ps held (pieces_of b)) (body_step (fstring_item quote triple first) first line c rest cs (fault e) is stands)

-- a field that is refused
pub field_faulty : {quote : ℕ} {triple : Bool} {first : ℕ} {text : List ℕ} {ps : List PPiece} {held : List ℕ} {line : ℕ} {rest : List ℕ} {limit : ℕ} (c : ℕ) (cs held' : List ℕ) (old new : List PPiece) (e : TokenError) → Reads quote triple first text ps held line rest limit → rest ≡ c ∷ cs → true ≡ opens_field c cs
    → PushesField (Err e) (field_item quote triple first line cs) line held' old new → Gives view_fstring (Err e) (pieces_of (fstring_body quote triple first text))
field_faulty {quote} {triple} {first} {text} {line = line} c cs held' old new e h is opens pushes =
    go e pushes (λ is_fault. faulty c cs e h is (sym is_fault ∙ field_stands quote triple first line c cs opens))
  where
    go : (e : TokenError) → PushesField (Err e) (field_item quote triple first line cs) line held' old new → (field_item quote triple first line cs ≡ fault e → pieces_of (fstring_body quote triple first text) ≡ Err e) → Gives view_fstring (Err e) (pieces_of (fstring_body quote triple first text))
    go NoMemory pushes on = tt
    go (BadCharacter l) pushes on = on pushes
    go (BadIndent l) pushes on = on pushes
    go (OpenString l) pushes on = on pushes
    go (OpenBracket l) pushes on = on pushes
    go (WideNumber l) pushes on = on pushes

pub open_end : {quote : ℕ} {triple : Bool} {first : ℕ} {text : List ℕ} {ps : List PPiece} {held : List ℕ} {line : ℕ} {rest : List ℕ} {limit : ℕ} → Reads quote triple first text ps held line rest limit → rest ≡ [] → pieces_of (fstring_body quote triple first text) ≡ Err (OpenString first)
open_end {quote} {triple} {first} {text} {ps} {held} {line} {rest} h is = sym h.same ∙ ap (λ b. with_pieces ps held (pieces_of b)) (body_end (fstring_item quote triple first) first line rest is)

pub closed : {quote : ℕ} {triple : Bool} {first : ℕ} {text : List ℕ} {ps : List PPiece} {held : List ℕ} {line : ℕ} {rest : List ℕ} {limit : ℕ} (c : ℕ) (cs : List ℕ) (n : ℕ) (new : List PPiece) → Reads quote triple first text ps held line rest limit → rest ≡ c ∷ cs → closing n ≡ fstring_item quote triple first line c cs → new ≡ ps ++ ended held
    → pieces_of (fstring_body quote triple first text) ≡ Ok (new, length cs - n, line)
closed {quote} {triple} {first} {text} {ps} {held} {line} {rest} c cs n new h is stands new_is =
    sym h.same ∙ ap (λ b. with_pieces ps held (pieces_of b)) (body_step (fstring_item quote triple first) first line c rest cs (closing n) is stands)
    ∙ ap (λ (x : List PPiece). Ok (x, length (drop n cs), line)) (ap (λ x. ps ++ x) (with_chars-nil held) ∙ sym new_is)
    ∙ ap (λ (k : ℕ). Ok (new, k, line)) (length-drop n cs)

pub goes_on : {quote : ℕ} {triple : Bool} {first : ℕ} {text : List ℕ} {ps : List PPiece} {held : List ℕ} {line : ℕ} {rest : List ℕ} {limit : ℕ} (c : ℕ) (cs xs new : List ℕ) (n next : ℕ) → Reads quote triple first text ps held line rest limit → rest ≡ c ∷ cs → holds (chars xs) n next ≡ fstring_item quote triple first line c cs → new ≡ held ++ xs
    → Reads quote triple first text ps new next (drop n cs) limit
goes_on {quote} {triple} {first} {ps = ps} {held} {line} {rest} {limit} c cs xs new n next h is stands new_is =
    let fair = subst (λ b. Fair line c cs b) (sym stands) (fstring_fair quote triple first line c cs) in
    let passed = fair.lines in
    let lines = h.lines in
    let long = h.long in
    let e = ap line_count is in
    let l = ap length is in
    let d = length-drop n cs in
    record {
      same = ap (λ t. with_pieces ps t (pieces_of (body_of (fstring_item quote triple first) first 0 next (drop n cs)))) new_is
          ∙ sym (more_chars ps held xs (body_of (fstring_item quote triple first) first 0 next (drop n cs)))
          ∙ ap (λ b. with_pieces ps held (pieces_of b)) (sym (body_step (fstring_item quote triple first) first line c rest cs (holds (chars xs) n next) is stands))
          ∙ h.same;
      lines = omega (arith, passed, lines, e);
      long = omega (arith, d, l, long);
      known = known_drop quote triple limit n cs (known_after quote triple limit c rest cs h.known is);
    }

pub goes_over : {quote : ℕ} {triple : Bool} {first : ℕ} {text : List ℕ} {ps : List PPiece} {held : List ℕ} {line : ℕ} {rest : List ℕ} {limit : ℕ} (c : ℕ) (cs matched empty : List ℕ) (n later : ℕ) (new : List PPiece) → Reads quote triple first text ps held line rest limit → rest ≡ c ∷ cs → true ≡ opens_field c cs
    → matched ≡ held → PushesField (Ok n) (field_item quote triple first line cs) line matched ps new → empty ≡ [] → Known quote triple later cs → Reads quote triple first text new empty line (drop n cs) later
goes_over {quote} {triple} {first} {ps = ps} {held} {line} {rest} c cs matched empty n later new h is opens match_is pushes_match empty_is known =
    let pushes = subst (λ x. PushesField (Ok n) (field_item quote triple first line cs) line x ps new) match_is pushes_match in
    let ts = pushes.0 in
    let stands : holds (field ts) n line ≡ fstring_item quote triple first line c cs = sym pushes.1 ∙ field_stands quote triple first line c cs opens in
    let fair = subst (λ b. Fair line c cs b) (sym stands) (fstring_fair quote triple first line c cs) in
    let passed = fair.lines in
    let lines = h.lines in
    let long = h.long in
    let e = ap line_count is in
    let l = ap length is in
    let d = length-drop n cs in
    record {
      same = ap (λ t. with_pieces t empty (pieces_of (body_of (fstring_item quote triple first) first 0 line (drop n cs)))) pushes.2
          ∙ ap (λ t. with_pieces (ps ++ (ended held ++ field ts ∷ [])) t (pieces_of (body_of (fstring_item quote triple first) first 0 line (drop n cs)))) empty_is
          ∙ sym (more_fields ps held ts (body_of (fstring_item quote triple first) first 0 line (drop n cs)))
          ∙ ap (λ b. with_pieces ps held (pieces_of b)) (sym (body_step (fstring_item quote triple first) first line c rest cs (holds (field ts) n line) is stands))
          ∙ h.same;
      lines = omega (arith, passed, lines, e);
      long = omega (arith, d, l, long);
      known = known_drop quote triple later n cs known;
    }

-- how many characters a field takes
pub field_fits : (quote : ℕ) (triple : Bool) (first line c n : ℕ) (cs held : List ℕ) (old new : List PPiece) → true ≡ opens_field c cs → PushesField (Ok n) (field_item quote triple first line cs) line held old new → n ≤ length cs
field_fits quote triple first line c n cs held old new opens pushes = fits quote triple first line c cs (holds (field pushes.0) n line) (sym pushes.1 ∙ field_stands quote triple first line c cs opens)

abbrev the_pieces : List PPiece × ℕ × ℕ → Result (List PPiece × ℕ × ℕ) TokenError
the_pieces x = Ok x

pieces_is : (x y : List PPiece × ℕ × ℕ) → the_pieces x ≡ the_pieces y → x ≡ y
pieces_is x y h = cc

-- how many characters an f-string leaves
pub pieces_left : (quote : ℕ) (triple : Bool) (first : ℕ) (text : List ℕ) (ps : List PPiece) (left next : ℕ) → pieces_of (fstring_body quote triple first text) ≡ Ok (ps, left, next) → left ≤ length text
unfolding fstring_body
pieces_left quote triple first text ps left next is = go (body_of (fstring_item quote triple first) first 0 first text) refl is
  where
    go : (r : Result (Body PPiece) TokenError) → body_of (fstring_item quote triple first) first 0 first text ≡ r → pieces_of r ≡ Ok (ps, left, next) → left ≤ length text
    go (Ok b) reads e = let h = (bounded (fstring_item quote triple first) (fstring_fair quote triple first) first 0 first text b reads).within in let same = ap (λ (x : List PPiece × ℕ × ℕ). x.1) (pieces_is (normal b.values, length b.rest, b.next) (ps, left, next) e) in omega (arith, h, same)
    go (Err e) reads is = absurd cc

fstring_match_fair : (triple : Bool) (quote line c j : ℕ) (cs : List ℕ) (t : Match) → matched_pieces cs (fstring_body quote triple line (drop j cs)) ≡ the_match t → FairToken line c cs t
unfolding fstring_body
fstring_match_fair triple quote line c j cs t is = go (body_of (fstring_item quote triple line) line 0 line (drop j cs)) refl is
  where
    go : (r : Result (Body PPiece) TokenError) → body_of (fstring_item quote triple line) line 0 line (drop j cs) ≡ r → matched_pieces cs r ≡ the_match t → FairToken line c cs t
    go (Ok b) reads is = subst (λ w. FairToken line c cs w) (match_is (record { kind = fstring (piece_row (normal b.values)); after = length cs - length b.rest; next = b.next }) t is) (string_fair line c j cs (fstring (piece_row (normal b.values))) b (bounded (fstring_item quote triple line) (fstring_fair quote triple line) line 0 line (drop j cs) b reads))
    go (Err e) reads is = absurd cc

fstring_at_fair : (line c : ℕ) (cs : List ℕ) (t : Match) → fstring_at line cs ≡ the_match t → FairToken line c cs t
fstring_at_fair line c [] t is = absurd cc
fstring_at_fair line c (d ∷ ds) t is = prefix_fair line c d ds (cond (doubled d ds) (matched_pieces ds (fstring_body d true line (drop 2 ds))) (matched_pieces ds (fstring_body d false line ds))) t (λ u e. go (doubled d ds) u e) is
  where
    go : (b : Bool) (u : Match) → cond b (matched_pieces ds (fstring_body d true line (drop 2 ds))) (matched_pieces ds (fstring_body d false line ds)) ≡ the_match u → FairToken line d ds u
    go true u e = fstring_match_fair true d line d 2 ds u e
    go false u e = fstring_match_fair false d line d 0 ds u e

pub token_fair : (line c : ℕ) (cs : List ℕ) (t : Match) → token_at line c cs ≡ the_match t → FairToken line c cs t
unfolding token_at
token_fair line c cs t is = go (is_format_prefix c && begins_quote cs) is
  where
    go : (b : Bool) → cond b (fstring_at line cs) (plain_token line c cs) ≡ the_match t → FairToken line c cs t
    go true is = fstring_at_fair line c cs t is
    go false is = plain_fair line c cs t is
