-- What a token is spelled by, where no f-string is meant (The Python Language Reference, "Lexical
-- analysis").
--     Match                               what a rule takes
--     is_quote .. is_raw_prefix           characters
--     joined .. raw_string                a string
--     word_at, number_at, marked          a word, a number, a mark
--     plain_token                         the longest of them
use Rattle.std.specs.Prelude.{ℕ, ◌+◌, ◌-◌, Bool, true, false, ◌||◌, ◌&&◌, ◌==◌, List, [], ◌∷◌, ◌++◌, length, drop, Option, Some, None, Result, Ok, Err, if◌then◌else◌}
use Rattle.std.specs.List.{prefix_len, take_while}
use Rattle.std.specs.Char.{is_ascii_digit}
use Rattle.py_token.specs.declared.error.TokenError.{TokenError}
use Rattle.py_token.specs.declared.error.TokenError.TheVariants.{BadCharacter}
use Rattle.py_token.specs.declared.token.Mark.{Mark}
use Rattle.py_token.specs.Plain.{PKind, str, mark}
use Rattle.py_token.specs.Words.{begins_name, in_name, word_kind}
use Rattle.py_token.specs.Numbers.{in_number, number_of, kind_of_number}
use Rattle.py_token.specs.Marks.{mark_at}
use Rattle.py_token.specs.Strings.{◌>>=◌, doubled, Body, text_body}

-- a token's kind, how many of its characters stand after the first, and the line where it ends
pub record Match : Type 0 where
  pub kind : PKind
  pub after : ℕ
  pub next : ℕ

-- `'` or `"`
abbrev pub is_quote : ℕ → Bool
is_quote c = (c == 39) || (c == 34)

-- whether a quote stands in front
abbrev pub begins_quote : List ℕ → Bool
begins_quote [] = false
begins_quote (c ∷ cs) = is_quote c

-- `r` or `R`
abbrev pub is_raw_prefix : ℕ → Bool
is_raw_prefix c = (c == 114) || (c == 82)

-- texts as one
abbrev pub joined : List (List ℕ) → List ℕ
joined [] = []
joined (xs ∷ xss) = xs ++ joined xss

-- a string is one token
abbrev pub match_text : List ℕ → Result (Body (List ℕ)) TokenError → Result Match TokenError
match_text cs body =
    body >>= λ b. Ok (record {
      kind = str (joined b.values);
      after = length cs - length b.rest;
      next = b.next;
    })

-- a string, with these characters after its first quote; three quotes open a string in three
abbrev pub string_at : Bool → ℕ → ℕ → List ℕ → Result Match TokenError
string_at raw line quote cs =
    if doubled quote cs then match_text cs (text_body raw quote true line (drop 2 cs))
    else match_text cs (text_body raw quote false line cs)

-- a token with one character more in front
abbrev pub after_prefix : Result Match TokenError → Result Match TokenError
after_prefix matched = matched >>= λ t. Ok (record t { after = t.after + 1 })

-- a raw string, with these characters after its prefix
abbrev pub raw_string : ℕ → List ℕ → Result Match TokenError
raw_string line [] = Err (BadCharacter line)
raw_string line (quote ∷ cs) = after_prefix (string_at true line quote cs)

-- the word at the front
abbrev pub word_at : ℕ → ℕ → List ℕ → Result Match TokenError
word_at line c cs =
    Ok (record {
      kind = word_kind (c ∷ take_while in_name cs);
      after = prefix_len in_name cs;
      next = line;
    })

-- the number at the front
abbrev pub number_at : ℕ → ℕ → List ℕ → Result Match TokenError
number_at line c cs =
    kind_of_number line (number_of c (take_while in_number cs))
    >>= λ k. Ok (record { kind = k; after = prefix_len in_number cs; next = line })

-- a mark, or a character that no rule takes
abbrev pub marked : ℕ → Option (Mark × ℕ) → Result Match TokenError
marked line None = Err (BadCharacter line)
marked line (Some m) = Ok (record { kind = mark m.0; after = m.1; next = line })

-- the longest token at the front
unfoldable pub plain_token : ℕ → ℕ → List ℕ → Result Match TokenError
plain_token line c cs =
    if is_quote c then string_at false line c cs
    else (if is_raw_prefix c && begins_quote cs then raw_string line cs
    else (if begins_name c then word_at line c cs
    else (if is_ascii_digit c then number_at line c cs
    else marked line (mark_at c cs))))
