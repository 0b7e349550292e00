-- The tokens that a text spells, or the one place where it is stuck.
use Rattle.std.specs.Prelude.{◌≡◌, ℕ, List, Result, Ok, Err}
use Rattle.py_token.specs.declared.error.TokenError.{TokenError}
use Rattle.py_token.specs.Source.{source_text, last_line}
use Rattle.py_token.specs.Plain.{PToken}
use Rattle.py_token.specs.Segments.{segments}
use Rattle.py_token.specs.Layout.{outermost, layout}

-- the tokens of characters without a mark at their start and with plain line ends
unfoldable pub spelling : List ℕ → Result (List PToken) TokenError
spelling cs = layout outermost (last_line cs) (segments 0 1 cs)

-- the text spells these tokens
unfoldable pub Spells : List ℕ → List PToken → Type 0
Spells text ts = spelling (source_text text) ≡ Ok ts

-- the text is stuck, with this fault
unfoldable pub StuckAt : List ℕ → TokenError → Type 0
StuckAt text error = spelling (source_text text) ≡ Err error

-- a text spells at most one list of tokens
abbrev pub OneSpelling : Type 0
OneSpelling = (text : List ℕ) (a b : List PToken) → Spells text a → Spells text b → a ≡ b

-- a text that is stuck is stuck in one place, and spells nothing
abbrev pub OneFault : Type 0
OneFault = (text : List ℕ) (e f : TokenError) → StuckAt text e → StuckAt text f → e ≡ f

-- no text both spells tokens and is stuck
abbrev pub NeverBoth : Type 0
NeverBoth =
    (text : List ℕ) (ts : List PToken) (e : TokenError) → Spells text ts → StuckAt text e → ⊥
