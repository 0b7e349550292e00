-- Items and strings as the code holds them.
use Rattle.std.specs.Prelude.{ℕ, List, [], ◌∷◌, length, Result, Ok, Err}
use Rattle.py_token.specs.declared.error.TokenError.{TokenError}
use Rattle.py_token.specs.declared.strings.Opening.{Opening}
use Rattle.py_token.specs.declared.strings.TextBody.{TextBody}
use Rattle.py_token.specs.declared.strings.Denoted.{Denoted}
use Rattle.py_token.specs.declared.strings.Denoted.TheVariants.{Nothing, One, Two}
use Rattle.py_token.specs.declared.strings.StringItem as code_item
use Rattle.py_token.specs.declared.strings.StringItem.TheVariants.{Holds, Closing}
use Rattle.py_token.specs.Strings.{◌>>=◌, StringItem, holds, closing, fault, text_item, Body, text_body}
use Rattle.py_token.specs.Rules.{joined}

-- the characters that an item stands for
abbrev pub denoted_text : Denoted → List ℕ
denoted_text Nothing = []
denoted_text (One c) = c ∷ []
denoted_text (Two c d) = c ∷ d ∷ []

-- an item, or its fault
abbrev pub item_of : Result code_item.StringItem TokenError → StringItem (List ℕ)
item_of (Ok (Holds denoted after next)) = holds (denoted_text denoted) after next
item_of (Ok (Closing after)) = closing after
item_of (Err e) = fault e

-- what stands at a place of a string that was opened so
abbrev pub item_after : Opening → ℕ → ℕ → List ℕ → StringItem (List ℕ)
item_after o line c cs = text_item o.raw o.quote o.triple o.line line c cs

-- the text of a string, how many characters are left after it, and the line where it ends
abbrev pub text_of : Result (Body (List ℕ)) TokenError → Result (List ℕ × ℕ × ℕ) TokenError
text_of body = body >>= λ b. Ok (joined b.values, length b.rest, b.next)

-- the same of these characters after an opening
abbrev pub text_after : Opening → List ℕ → Result (List ℕ × ℕ × ℕ) TokenError
text_after o cs = text_of (text_body o.raw o.quote o.triple o.line cs)

-- the same of what the code answers
abbrev pub view_text : TextBody → List ℕ × ℕ × ℕ
view_text b = (b.text, b.left, b.next)
