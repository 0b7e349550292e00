-- Every token keeps lines of its text.
use Rattle.std.proofs.Common.{◌≡◌, ◌≤◌, ◌+◌, ◌-◌, ℕ, zero, suc, Bool, true, false, cond, ◌&&◌, eqb, List, [], ◌∷◌, length, take, drop, Option, Some, None, Result, Ok, Err, refl, subst, arith}
use Rattle.std.specs.Prelude.{nat_lt, ◌^◌, pos}
use Rattle.std.specs.List.{prefix_len, take_while}
use Rattle.std.specs.Char.{is_ascii_digit}
use Rattle.py_token.specs.declared.error.TokenError.{TokenError}
use Rattle.py_token.specs.declared.error.TokenError.TheVariants.{BadCharacter, WideNumber}
use Rattle.py_token.specs.declared.token.Keyword.{Keyword}
use Rattle.py_token.specs.declared.token.Mark.{Mark}
use Rattle.py_token.specs.Source.{begins, line_count, most_lines}
use Rattle.py_token.specs.Plain.{PKind, int, str, fstring, mark, PToken, token, token_row, PPiece, chars, field, piece_row}
use Rattle.py_token.specs.Words.{begins_name, in_name, keyword_of, kind_of_word, word_kind}
use Rattle.py_token.specs.Numbers.{in_number, number_of, kind_of_number}
use Rattle.py_token.specs.Marks.{mark_at}
use Rattle.py_token.specs.Strings.{◌>>=◌, StringItem, holds, closing, fault, doubled, Body, after_of, next_of, with_item, text_item, body_of, text_body}
use Rattle.py_token.specs.Rules.{Match, is_quote, begins_quote, is_raw_prefix, joined, match_text, string_at, after_prefix, raw_string, word_at, number_at, marked, plain_token}
use Rattle.py_token.specs.Fields.{is_blank, is_format_prefix, reach, limit_fault, depth_after, field_token, after_match, change_of_match, with_match, field_tokens, field_of, field_item, chars_item, fstring_item, fstring_body, with_chars, normal, matched_pieces, fstring_at, token_at}
use Rattle.py_token.specs.OnLines.{IsKindOnLines, AreRowOnLines, IsPieceOnLines, ArePiecesOnLines, AreOnLines}
use Rattle.py_token.proofs.Lines.{line_count-cons, line_count-drop}
use Rattle.py_token.proofs.FairTokens.{the_match, match_is}
use Rattle.py_token.proofs.FieldItems.{fstring_fair}

-- a kind that holds no tokens
str_kind : (cs : List ℕ) (r : Result (Body (List ℕ)) TokenError) (t : Match) → match_text cs r ≡ the_match t → IsKindOnLines t.kind
str_kind cs (Ok b) t is = subst (λ (w : Match). IsKindOnLines w.kind) (match_is (record { kind = str (joined b.values); after = length cs - length b.rest; next = b.next }) t is) tt
str_kind cs (Err e) t is = absurd cc

string_kind : (raw : Bool) (line quote : ℕ) (cs : List ℕ) (t : Match) → string_at raw line quote cs ≡ the_match t → IsKindOnLines t.kind
string_kind raw line quote cs t is = go (doubled quote cs) is
  where
    go : (b : Bool) → cond b (match_text cs (text_body raw quote true line (drop 2 cs))) (match_text cs (text_body raw quote false line cs)) ≡ the_match t → IsKindOnLines t.kind
    go true is = str_kind cs (text_body raw quote true line (drop 2 cs)) t is
    go false is = str_kind cs (text_body raw quote false line cs) t is

prefix_kind : (r : Result Match TokenError) (t : Match) → ((u : Match) → r ≡ the_match u → IsKindOnLines u.kind) → after_prefix r ≡ the_match t → IsKindOnLines t.kind
prefix_kind (Ok u) t kind is = subst (λ (w : Match). IsKindOnLines w.kind) (match_is (record u { after = u.after + 1 }) t is) (kind u refl)
prefix_kind (Err e) t kind is = absurd cc

raw_kind : (line : ℕ) (cs : List ℕ) (t : Match) → raw_string line cs ≡ the_match t → IsKindOnLines t.kind
raw_kind line [] t is = absurd cc
raw_kind line (d ∷ ds) t is = prefix_kind (string_at true line d ds) t (λ u e. string_kind true line d ds u e) is

word_on_lines : (o : Option Keyword) (word : List ℕ) → IsKindOnLines (kind_of_word o word)
word_on_lines None word = tt
word_on_lines (Some k) word = tt

word_at_kind : (line c : ℕ) (cs : List ℕ) (t : Match) → word_at line c cs ≡ the_match t → IsKindOnLines t.kind
word_at_kind line c cs t is = subst (λ (w : Match). IsKindOnLines w.kind) (match_is (record { kind = word_kind (c ∷ take_while in_name cs); after = prefix_len in_name cs; next = line }) t is) (word_on_lines (keyword_of (c ∷ take_while in_name cs)) (c ∷ take_while in_name cs))

abbrev the_kind : PKind → Result PKind TokenError
the_kind k = Ok k

kind_is : (a b : PKind) → the_kind a ≡ the_kind b → a ≡ b
kind_is a b h = cc

number_on_lines : (line : ℕ) (o : Option ℕ) (k : PKind) → kind_of_number line o ≡ the_kind k → IsKindOnLines k
number_on_lines line None k is = absurd cc
number_on_lines line (Some n) k is = go (nat_lt n (2 ^ 63)) is
  where
    go : (b : Bool) → cond b (the_kind (int (pos n))) (Err (WideNumber line)) ≡ the_kind k → IsKindOnLines k
    go true is = subst (λ w. IsKindOnLines w) (kind_is (int (pos n)) k is) tt
    go false is = absurd cc

number_at_kind : (line n : ℕ) (o : Option ℕ) (r : Result PKind TokenError) (t : Match) → kind_of_number line o ≡ r → (r >>= λ k. the_match (record { kind = k; after = n; next = line })) ≡ the_match t → IsKindOnLines t.kind
number_at_kind line n o (Ok k) t kind is = subst (λ (w : Match). IsKindOnLines w.kind) (match_is (record { kind = k; after = n; next = line }) t is) (number_on_lines line o k kind)
number_at_kind line n o (Err e) t kind is = absurd cc

marked_kind : (line : ℕ) (o : Option (Mark × ℕ)) (t : Match) → marked line o ≡ the_match t → IsKindOnLines t.kind
marked_kind line None t is = absurd cc
marked_kind line (Some m) t is = subst (λ (w : Match). IsKindOnLines w.kind) (match_is (record { kind = mark m.0; after = m.1; next = line }) t is) tt

plain_kind : (line c : ℕ) (cs : List ℕ) (t : Match) → plain_token line c cs ≡ the_match t → IsKindOnLines t.kind
unfolding plain_token
plain_kind line c cs t is = go (is_quote c) (is_raw_prefix c && begins_quote cs) (begins_name c) (is_ascii_digit c) is
  where
    go : (q r n d : Bool) → cond q (string_at false line c cs) (cond r (raw_string line cs) (cond n (word_at line c cs) (cond d (number_at line c cs) (marked line (mark_at c cs))))) ≡ the_match t → IsKindOnLines t.kind
    go true r n d is = string_kind false line c cs t is
    go false true n d is = raw_kind line cs t is
    go false false true d is = word_at_kind line c cs t is
    go false false false true is = number_at_kind line (prefix_len in_number cs) (number_of c (take_while in_number cs)) (kind_of_number line (number_of c (take_while in_number cs))) t refl is
    go false false false false is = marked_kind line (mark_at c cs) t is

-- the tokens of a field
field_kind : (line c : ℕ) (cs : List ℕ) (t : Match) → field_token line c cs ≡ the_match t → IsKindOnLines t.kind
field_kind line c cs t is = go (is_format_prefix c && begins_quote cs) is
  where
    go : (b : Bool) → cond b (Err (BadCharacter line)) (plain_token line c cs) ≡ the_match t → IsKindOnLines t.kind
    go true is = absurd cc
    go false is = plain_kind line c cs t is

abbrev the_tokens : Body PToken → Result (Body PToken) TokenError
the_tokens b = Ok b

tokens_is : (a b : Body PToken) → the_tokens a ≡ the_tokens b → a ≡ b
tokens_is a b h = cc

match_on_lines : (limit : TokenError) (line : ℕ) (r : Result Match TokenError) (body : Result (Body PToken) TokenError) (b : Body PToken) → 1 ≤ line → line ≤ most_lines → ((t : Match) → r ≡ the_match t → IsKindOnLines t.kind) → ((b' : Body PToken) → body ≡ the_tokens b' → AreOnLines b'.values)
    → with_match limit line r body ≡ the_tokens b → AreOnLines b.values
match_on_lines limit line (Ok t) (Ok b') b low high kind more is = subst (λ (w : Body PToken). AreOnLines w.values) (tokens_is (record b' { values = token t.kind line line ∷ b'.values }) b is) ((low, omega arith, high, kind t refl), more b' refl)
match_on_lines limit line (Ok t) (Err e) b low high kind more is = absurd cc
match_on_lines limit line (Err e) body b low high kind more is = absurd cc

field_on_lines : (limit : TokenError) (line skip depth : ℕ) (cs : List ℕ) (b : Body PToken) → 1 ≤ line → line ≤ most_lines → field_tokens limit line skip depth cs ≡ the_tokens b → AreOnLines b.values
unfolding field_tokens
field_on_lines limit line zero depth [] b low high is = absurd cc
field_on_lines limit line (suc skip) depth [] b low high is = absurd cc
field_on_lines limit line (suc skip) depth (c ∷ cs) b low high is = field_on_lines limit line skip depth cs b low high is
field_on_lines limit line zero depth (c ∷ cs) b low high is =
    go ((eqb c 125) && (eqb depth 0)) (is_blank c) (λ e. field_on_lines limit line 0 depth cs b low high e) (λ b' e. field_on_lines limit line (after_match (field_token line c cs)) (depth_after (change_of_match (field_token line c cs)) depth) cs b' low high e) is
  where
    go : (ends blank : Bool) → (field_tokens limit line 0 depth cs ≡ the_tokens b → AreOnLines b.values)
        → ((b' : Body PToken) → field_tokens limit line (after_match (field_token line c cs)) (depth_after (change_of_match (field_token line c cs)) depth) cs ≡ the_tokens b' → AreOnLines b'.values)
        → cond ends (the_tokens (record { values = []; rest = cs; next = line })) (cond blank (field_tokens limit line 0 depth cs) (with_match limit line (field_token line c cs) (field_tokens limit line (after_match (field_token line c cs)) (depth_after (change_of_match (field_token line c cs)) depth) cs))) ≡ the_tokens b
        → AreOnLines b.values
    go true blank over more is = subst (λ (w : Body PToken). AreOnLines w.values) (tokens_is (record { values = []; rest = cs; next = line }) b is) tt
    go false true over more is = over is
    go false false over more is = match_on_lines limit line (field_token line c cs) (field_tokens limit line (after_match (field_token line c cs)) (depth_after (change_of_match (field_token line c cs)) depth) cs) b low high (λ t e. field_kind line c cs t e) more is

row_on_lines : (ts : List PToken) → AreOnLines ts → AreRowOnLines (token_row ts)
row_on_lines [] h = tt
row_on_lines (t ∷ ts) h = (h.0, row_on_lines ts h.1)

-- a piece that stands on a line of the text
abbrev HoldsOnLines : StringItem PPiece → Type 0
HoldsOnLines (holds p n next) = IsPieceOnLines p
HoldsOnLines (closing n) = Unit {0}
HoldsOnLines (fault e) = Unit {0}

chars_on_lines : (b : StringItem (List ℕ)) → HoldsOnLines (chars_item b)
chars_on_lines (holds x n next) = tt
chars_on_lines (closing n) = tt
chars_on_lines (fault e) = tt

field_item_on_lines : (quote : ℕ) (triple : Bool) (first line : ℕ) (cs : List ℕ) → 1 ≤ line → line ≤ most_lines → HoldsOnLines (field_item quote triple first line cs)
unfolding field_item
field_item_on_lines quote triple first line cs low high = go (field_tokens (limit_fault triple first line (drop (reach quote triple cs) cs)) line 0 0 (take (reach quote triple cs) cs)) refl
  where
    go : (r : Result (Body PToken) TokenError) → field_tokens (limit_fault triple first line (drop (reach quote triple cs) cs)) line 0 0 (take (reach quote triple cs) cs) ≡ r → HoldsOnLines (field_of line (take (reach quote triple cs) cs) r)
    go (Ok b) is = row_on_lines b.values (field_on_lines (limit_fault triple first line (drop (reach quote triple cs) cs)) line 0 0 (take (reach quote triple cs) cs) b low high is)
    go (Err e) is = tt

item_on_lines : (quote : ℕ) (triple : Bool) (first line c : ℕ) (cs : List ℕ) → 1 ≤ line → line ≤ most_lines → HoldsOnLines (fstring_item quote triple first line c cs)
unfolding fstring_item
item_on_lines quote triple first line c cs low high = go (eqb c 123) (begins 123 cs) (eqb c 125) (begins 125 cs)
  where
    go : (a b d e : Bool) → HoldsOnLines (cond a (cond b (holds (chars (123 ∷ [])) 1 line) (field_item quote triple first line cs)) (cond d (cond e (holds (chars (125 ∷ [])) 1 line) (fault (BadCharacter line))) (chars_item (text_item false quote triple first line c cs))))
    go true true d e = tt
    go true false d e = field_item_on_lines quote triple first line cs low high
    go false b true true = tt
    go false b true false = tt
    go false b false e = chars_on_lines (text_item false quote triple first line c cs)

abbrev ArePieces : List PPiece → Type 0
ArePieces [] = Unit {0}
ArePieces (p ∷ ps) = IsPieceOnLines p × ArePieces ps

abbrev the_pieces : Body PPiece → Result (Body PPiece) TokenError
the_pieces b = Ok b

pieces_is : (a b : Body PPiece) → the_pieces a ≡ the_pieces b → a ≡ b
pieces_is a b h = cc

step_on_lines : (line : ℕ) (cs : List ℕ) (item : StringItem PPiece) (body : Result (Body PPiece) TokenError) (b : Body PPiece) → HoldsOnLines item → ((b' : Body PPiece) → body ≡ the_pieces b' → ArePieces b'.values) → with_item item line cs body ≡ the_pieces b → ArePieces b.values
step_on_lines line cs (holds p n next) (Ok b') b here more is = subst (λ (w : Body PPiece). ArePieces w.values) (pieces_is (record b' { values = p ∷ b'.values }) b is) (here, more b' refl)
step_on_lines line cs (holds p n next) (Err e) b here more is = absurd cc
step_on_lines line cs (closing n) body b here more is = subst (λ (w : Body PPiece). ArePieces w.values) (pieces_is (record { values = []; rest = drop n cs; next = line }) b is) tt
step_on_lines line cs (fault e) body b here more is = absurd cc

body_on_lines : (quote : ℕ) (triple : Bool) (first skip line : ℕ) (cs : List ℕ) (b : Body PPiece) → 1 ≤ line → line + line_count (drop skip cs) ≤ suc most_lines → body_of (fstring_item quote triple first) first skip line cs ≡ the_pieces b → ArePieces b.values
unfolding body_of
body_on_lines quote triple first zero line [] b low lines is = absurd cc
body_on_lines quote triple first (suc skip) line [] b low lines is = absurd cc
body_on_lines quote triple first (suc skip) line (c ∷ cs) b low lines is = body_on_lines quote triple first skip line cs b low lines is
body_on_lines quote triple first zero line (c ∷ cs) b low lines is =
    let some = (line_count-cons c cs).1 in
    let fair = fstring_fair quote triple first line c cs in
    let passed = fair.lines in
    let later = fair.later in
    step_on_lines line cs (fstring_item quote triple first line c cs) (body_of (fstring_item quote triple first) first (after_of (fstring_item quote triple first line c cs)) (next_of (fstring_item quote triple first line c cs) line) cs) b
    (item_on_lines quote triple first line c cs low (omega (arith, lines, some)))
    (λ b' e. body_on_lines quote triple first (after_of (fstring_item quote triple first line c cs)) (next_of (fstring_item quote triple first line c cs) line) cs b' (omega (arith, low, later)) (omega (arith, passed, lines)) e)
    is

with_chars_on_lines : (xs : List ℕ) (ps : List PPiece) → ArePiecesOnLines (piece_row ps) → ArePiecesOnLines (piece_row (with_chars xs ps))
with_chars_on_lines [] ps h = h
with_chars_on_lines (x ∷ xs) [] h = (tt, tt)
with_chars_on_lines (x ∷ xs) (chars ys ∷ ps) h = (tt, h.1)
with_chars_on_lines (x ∷ xs) (field ts ∷ ps) h = (tt, h)

normal_on_lines : (ps : List PPiece) → ArePieces ps → ArePiecesOnLines (piece_row (normal ps))
normal_on_lines [] h = tt
normal_on_lines (chars xs ∷ ps) h = with_chars_on_lines xs (normal ps) (normal_on_lines ps h.1)
normal_on_lines (field ts ∷ ps) h = (h.0, normal_on_lines ps h.1)

pieces_kind : (triple : Bool) (quote line : ℕ) (cs text : List ℕ) (t : Match) → 1 ≤ line → line + line_count text ≤ suc most_lines → matched_pieces cs (fstring_body quote triple line text) ≡ the_match t → IsKindOnLines t.kind
unfolding fstring_body
pieces_kind triple quote line cs text t low lines is = go (body_of (fstring_item quote triple line) line 0 line text) refl is
  where
    go : (r : Result (Body PPiece) TokenError) → body_of (fstring_item quote triple line) line 0 line text ≡ r → matched_pieces cs r ≡ the_match t → IsKindOnLines t.kind
    go (Ok b) reads is = subst (λ (w : Match). IsKindOnLines w.kind) (match_is (record { kind = fstring (piece_row (normal b.values)); after = length cs - length b.rest; next = b.next }) t is) (normal_on_lines b.values (body_on_lines quote triple line 0 line text b low lines reads))
    go (Err e) reads is = absurd cc

fstring_kind : (line : ℕ) (cs : List ℕ) (t : Match) → 1 ≤ line → line + line_count cs ≤ suc most_lines → fstring_at line cs ≡ the_match t → IsKindOnLines t.kind
fstring_kind line [] t low lines is = absurd cc
fstring_kind line (d ∷ ds) t low lines is = prefix_kind (cond (doubled d ds) (matched_pieces ds (fstring_body d true line (drop 2 ds))) (matched_pieces ds (fstring_body d false line ds))) t (λ u e. go (doubled d ds) u e) is
  where
    go : (b : Bool) (u : Match) → cond b (matched_pieces ds (fstring_body d true line (drop 2 ds))) (matched_pieces ds (fstring_body d false line ds)) ≡ the_match u → IsKindOnLines u.kind
    go true u e = pieces_kind true d line ds (drop 2 ds) u low (let h = line_count-drop 2 ds in let m = (line_count-cons d ds).0 in omega (arith, lines, h, m)) e
    go false u e = pieces_kind false d line ds ds u low (let m = (line_count-cons d ds).0 in omega (arith, lines, m)) e

pub token_kind : (line c : ℕ) (cs : List ℕ) (t : Match) → 1 ≤ line → line + line_count (c ∷ cs) ≤ suc most_lines → token_at line c cs ≡ the_match t → IsKindOnLines t.kind
unfolding token_at
token_kind line c cs t low lines is = go (is_format_prefix c && begins_quote cs) is
  where
    go : (b : Bool) → cond b (fstring_at line cs) (plain_token line c cs) ≡ the_match t → IsKindOnLines t.kind
    go true is = fstring_kind line cs t low (let m = (line_count-cons c cs).0 in omega (arith, lines, m)) is
    go false is = plain_kind line c cs t is
