-- Names and keywords (The Python Language Reference, "Identifiers and keywords").
use Rattle.std.specs.Prelude.{ℕ, Bool, ◌||◌, ◌==◌, nat_eq, List, [], ◌∷◌, Option, Some, None, codes, if◌then◌else◌}
use Rattle.std.specs.Borrow.{Bor}
use Rattle.std.specs.Char.{is_ascii_digit, is_ascii_alphabetic}
use Rattle.std.specs.Cmp.Lexicographic.{pointwise}
use Rattle.py_token.specs.declared.token.Keyword.{Keyword}
use Rattle.py_token.specs.declared.token.Keyword.TheVariants as keywords
use Rattle.py_token.specs.Plain.{PKind, name, keyword}

-- whether a name may begin with a character: a letter or an underscore
abbrev pub begins_name : ℕ → Bool
begins_name c = is_ascii_alphabetic c || (c == 95)

-- whether a name may go on with a character: a letter, an underscore or a digit
abbrev pub in_name : ℕ → Bool
in_name c = begins_name c || is_ascii_digit c

-- whether two texts are the same
abbrev pub same_text : List ℕ → List ℕ → Bool
same_text = pointwise nat_eq

-- the keywords with their spellings
abbrev pub keyword_table : List (List ℕ × Keyword)
keyword_table =
    (codes "False", keywords.False) ∷ (codes "None", keywords.None) ∷ (codes "True", keywords.True)
    ∷ (codes "and", keywords.And) ∷ (codes "as", keywords.As) ∷ (codes "assert", keywords.Assert)
    ∷ (codes "async", keywords.Async) ∷ (codes "await", keywords.Await)
    ∷ (codes "break", keywords.Break) ∷ (codes "class", keywords.Class)
    ∷ (codes "continue", keywords.Continue) ∷ (codes "def", keywords.Def)
    ∷ (codes "del", keywords.Del) ∷ (codes "elif", keywords.Elif) ∷ (codes "else", keywords.Else)
    ∷ (codes "except", keywords.Except) ∷ (codes "finally", keywords.Finally)
    ∷ (codes "for", keywords.For) ∷ (codes "from", keywords.From)
    ∷ (codes "global", keywords.Global) ∷ (codes "if", keywords.If)
    ∷ (codes "import", keywords.Import) ∷ (codes "in", keywords.In) ∷ (codes "is", keywords.Is)
    ∷ (codes "lambda", keywords.Lambda) ∷ (codes "nonlocal", keywords.Nonlocal)
    ∷ (codes "not", keywords.Not) ∷ (codes "or", keywords.Or) ∷ (codes "pass", keywords.Pass)
    ∷ (codes "raise", keywords.Raise) ∷ (codes "return", keywords.Return)
    ∷ (codes "try", keywords.Try) ∷ (codes "while", keywords.While)
    ∷ (codes "with", keywords.With) ∷ (codes "yield", keywords.Yield) ∷ []

-- the keyword of the first of these rows that has this spelling
abbrev pub keyword_in : List (List ℕ × Keyword) → List ℕ → Option Keyword
keyword_in [] word = None
keyword_in (row ∷ rows) word = if same_text word row.0 then Some row.1 else keyword_in rows word

-- a row of the table as the code holds it
abbrev pub view_row : Bor (List ℕ) × Keyword → List ℕ × Keyword
view_row row = (row.0.now, row.1)

-- the keyword that a word is, if it is one
unfoldable pub keyword_of : List ℕ → Option Keyword
keyword_of word = keyword_in keyword_table word

-- a word is a keyword or a name
abbrev pub kind_of_word : Option Keyword → List ℕ → PKind
kind_of_word None word = name word
kind_of_word (Some k) word = keyword k

-- what the token of a word is
abbrev pub word_kind : List ℕ → PKind
word_kind word = kind_of_word (keyword_of word) word
