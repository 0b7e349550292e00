-- What a text spells at a place is no token of its layout.
use Rattle.std.proofs.Common.{◌≡◌, ◌+◌, ◌-◌, ℕ, Bool, true, false, cond, ◌&&◌, List, [], ◌∷◌, length, drop, Option, Some, None, Result, Ok, Err, refl, subst}
use Rattle.std.specs.Prelude.{nat_lt, ◌^◌, pos}
use Rattle.std.specs.List.{prefix_len, take_while}
use Rattle.std.specs.Char.{is_ascii_digit}
use Rattle.py_token.specs.declared.error.TokenError.{TokenError}
use Rattle.py_token.specs.declared.error.TokenError.TheVariants.{WideNumber}
use Rattle.py_token.specs.declared.token.Keyword.{Keyword}
use Rattle.py_token.specs.declared.token.Mark.{Mark}
use Rattle.py_token.specs.Plain.{PKind, name, keyword, int, str, fstring, mark, newline, indent, dedent, end, PPiece, piece_row}
use Rattle.py_token.specs.Words.{begins_name, in_name, keyword_of, kind_of_word, word_kind}
use Rattle.py_token.specs.Numbers.{in_number, number_of, kind_of_number}
use Rattle.py_token.specs.Marks.{mark_at}
use Rattle.py_token.specs.Strings.{◌>>=◌, doubled, Body, text_body}
use Rattle.py_token.specs.Rules.{Match, is_quote, begins_quote, is_raw_prefix, joined, match_text, string_at, after_prefix, raw_string, word_at, number_at, marked, plain_token}
use Rattle.py_token.specs.Fields.{is_format_prefix, fstring_body, normal, matched_pieces, fstring_at, token_at}
use Rattle.py_token.proofs.FairTokens.{the_match, match_is}

-- a kind that isn't of the layout
abbrev pub IsWritten : PKind → Type 0
IsWritten (name x) = Unit {0}
IsWritten (keyword w) = Unit {0}
IsWritten (int n) = Unit {0}
IsWritten (str x) = Unit {0}
IsWritten (fstring ps) = Unit {0}
IsWritten (mark m) = Unit {0}
IsWritten newline = ⊥
IsWritten indent = ⊥
IsWritten dedent = ⊥
IsWritten end = ⊥

-- the kind of an answer
written : (t u : Match) → the_match t ≡ the_match u → IsWritten t.kind → IsWritten u.kind
written t u is h = subst (λ (w : Match). IsWritten w.kind) (match_is t u is) h

text_written : (cs : List ℕ) (r : Result (Body (List ℕ)) TokenError) (t : Match) → match_text cs r ≡ the_match t → IsWritten t.kind
text_written cs (Ok b) t is = written (record { kind = str (joined b.values); after = length cs - length b.rest; next = b.next }) t is tt
text_written cs (Err e) t is = absurd cc

string_written : (raw : Bool) (line quote : ℕ) (cs : List ℕ) (t : Match) → string_at raw line quote cs ≡ the_match t → IsWritten t.kind
string_written raw line quote cs t is = go (doubled quote cs) is
  where
    go : (b : Bool) → cond b (match_text cs (text_body raw quote true line (drop 2 cs))) (match_text cs (text_body raw quote false line cs)) ≡ the_match t → IsWritten t.kind
    go true is = text_written cs (text_body raw quote true line (drop 2 cs)) t is
    go false is = text_written cs (text_body raw quote false line cs) t is

prefix_written : (r : Result Match TokenError) (t : Match) → ((u : Match) → r ≡ the_match u → IsWritten u.kind) → after_prefix r ≡ the_match t → IsWritten t.kind
prefix_written (Ok u) t kind is = written (record u { after = u.after + 1 }) t is (kind u refl)
prefix_written (Err e) t kind is = absurd cc

raw_written : (line : ℕ) (cs : List ℕ) (t : Match) → raw_string line cs ≡ the_match t → IsWritten t.kind
raw_written line [] t is = absurd cc
raw_written line (d ∷ ds) t is = prefix_written (string_at true line d ds) t (λ u e. string_written true line d ds u e) is

kind_written : (o : Option Keyword) (x : List ℕ) → IsWritten (kind_of_word o x)
kind_written None x = tt
kind_written (Some k) x = tt

word_written : (line c : ℕ) (cs : List ℕ) (t : Match) → word_at line c cs ≡ the_match t → IsWritten t.kind
word_written line c cs t is =
    written (record { kind = word_kind (c ∷ take_while in_name cs); after = prefix_len in_name cs; next = line }) t is
    (kind_written (keyword_of (c ∷ take_while in_name cs)) (c ∷ take_while in_name cs))

abbrev the_kind : PKind → Result PKind TokenError
the_kind k = Ok k

kind_is : (a b : PKind) → the_kind a ≡ the_kind b → a ≡ b
kind_is a b h = cc

value_written : (line : ℕ) (o : Option ℕ) (k : PKind) → kind_of_number line o ≡ the_kind k → IsWritten k
value_written line None k is = absurd cc
value_written line (Some n) k is = go (nat_lt n (2 ^ 63)) is
  where
    go : (b : Bool) → cond b (the_kind (int (pos n))) (Err (WideNumber line)) ≡ the_kind k → IsWritten k
    go true is = subst (λ w. IsWritten w) (kind_is (int (pos n)) k is) tt
    go false is = absurd cc

number_written : (line n : ℕ) (o : Option ℕ) (r : Result PKind TokenError) (t : Match) → kind_of_number line o ≡ r → (r >>= λ k. the_match (record { kind = k; after = n; next = line })) ≡ the_match t → IsWritten t.kind
number_written line n o (Ok k) t kind is = written (record { kind = k; after = n; next = line }) t is (value_written line o k kind)
number_written line n o (Err e) t kind is = absurd cc

mark_written : (line : ℕ) (o : Option (Mark × ℕ)) (t : Match) → marked line o ≡ the_match t → IsWritten t.kind
mark_written line None t is = absurd cc
mark_written line (Some m) t is = written (record { kind = mark m.0; after = m.1; next = line }) t is tt

plain_written : (line c : ℕ) (cs : List ℕ) (t : Match) → plain_token line c cs ≡ the_match t → IsWritten t.kind
unfolding plain_token
plain_written line c cs t is = go (is_quote c) (is_raw_prefix c && begins_quote cs) (begins_name c) (is_ascii_digit c) is
  where
    go : (q r n d : Bool) → cond q (string_at false line c cs) (cond r (raw_string line cs) (cond n (word_at line c cs) (cond d (number_at line c cs) (marked line (mark_at c cs))))) ≡ the_match t → IsWritten t.kind
    go true r n d is = string_written false line c cs t is
    go false true n d is = raw_written line cs t is
    go false false true d is = word_written line c cs t is
    go false false false true is = number_written line (prefix_len in_number cs) (number_of c (take_while in_number cs)) (kind_of_number line (number_of c (take_while in_number cs))) t refl is
    go false false false false is = mark_written line (mark_at c cs) t is

pieces_written : (cs : List ℕ) (r : Result (Body PPiece) TokenError) (t : Match) → matched_pieces cs r ≡ the_match t → IsWritten t.kind
pieces_written cs (Ok b) t is = written (record { kind = fstring (piece_row (normal b.values)); after = length cs - length b.rest; next = b.next }) t is tt
pieces_written cs (Err e) t is = absurd cc

fstring_written : (line : ℕ) (cs : List ℕ) (t : Match) → fstring_at line cs ≡ the_match t → IsWritten t.kind
fstring_written line [] t is = absurd cc
fstring_written line (d ∷ ds) t is = prefix_written (cond (doubled d ds) (matched_pieces ds (fstring_body d true line (drop 2 ds))) (matched_pieces ds (fstring_body d false line ds))) t (λ u e. go (doubled d ds) u e) is
  where
    go : (b : Bool) (u : Match) → cond b (matched_pieces ds (fstring_body d true line (drop 2 ds))) (matched_pieces ds (fstring_body d false line ds)) ≡ the_match u → IsWritten u.kind
    go true u e = pieces_written ds (fstring_body d true line (drop 2 ds)) u e
    go false u e = pieces_written ds (fstring_body d false line ds) u e

pub token_written : (line c : ℕ) (cs : List ℕ) (t : Match) → token_at line c cs ≡ the_match t → IsWritten t.kind
unfolding token_at
token_written line c cs t is = go (is_format_prefix c && begins_quote cs) is
  where
    go : (b : Bool) → cond b (fstring_at line cs) (plain_token line c cs) ≡ the_match t → IsWritten t.kind
    go true is = fstring_written line cs t is
    go false is = plain_written line c cs t is
