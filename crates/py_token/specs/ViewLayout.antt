-- The reading of a text as the code holds it (The Python Language Reference, "Line structure").
use Rattle.std.specs.Prelude.{◌≡◌, ℕ, List, ◌++◌, map, reverse, Result, Ok, Err}
use Rattle.std.specs.Global.{Vec}
use Rattle.py_token.specs.declared.error.TokenError.{TokenError}
use Rattle.py_token.specs.declared.error.TokenError.TheVariants.{NoMemory}
use Rattle.py_token.specs.declared.fields.BracketChange as code_change
use Rattle.py_token.specs.declared.layout.State as code_state
use Rattle.py_token.specs.declared.token.Token.{Token}
use Rattle.py_token.specs.Plain.{PToken}
use Rattle.py_token.specs.Strings.{◌>>=◌}
use Rattle.py_token.specs.Layout.{State, changed, ends}
use Rattle.py_token.specs.View.{view_tokens}
use Rattle.py_token.specs.ViewMatch.{view_change}

-- the open indentations, the innermost first
abbrev pub stack_of : List (Vec ℕ) → List (List ℕ)
stack_of indents = reverse (map (λ i. i.items) indents)

-- where the reading stands
abbrev pub view_state : code_state.State → State
view_state s = record {
  indents = stack_of s.indents.items;
  brackets = reverse s.brackets.items;
  begun = s.begun;
  blanks = s.blanks.items;
  settled = s.settled;
}

-- the same after a token with that change of the brackets
abbrev pub after_change : code_change.BracketChange → ℕ → code_state.State → State
after_change change line s =
    record (view_state s) { brackets = changed (view_change change) line (view_state s).brackets }

-- the tokens are the old ones and these
abbrev pub Appends : List PToken → Vec Token → Vec Token → Type 0
Appends added old new = view_tokens new.items ≡ view_tokens old.items ++ added

-- what a definition adds to the tokens, and what it leaves
abbrev pub Adds : {S : Type 0} → Result (List PToken × S) TokenError
    → Result (Unit {0}) TokenError → S → List PToken → List PToken → Type 0
Adds given (Ok x) after old new =
    (added : List PToken) × (given ≡ Ok (added, after)) × (new ≡ old ++ added)
Adds given (Err NoMemory) after old new = Unit {0}
Adds given (Err e) after old new = given ≡ Err e

-- the same of the tokens and the state of the code: a step from the state before
abbrev pub Lays : (State → Result (List PToken × State) TokenError)
    → Result (Unit {0}) TokenError → code_state.State → code_state.State → Vec Token → Vec Token
    → Type 0
Lays step answer before after old new =
    Adds (step (view_state before)) answer (view_state after)
    (view_tokens old.items) (view_tokens new.items)

-- the same of its open indentations
abbrev pub Indents : (List (List ℕ) → Result (List PToken × List (List ℕ)) TokenError)
    → Result (Unit {0}) TokenError → Vec (Vec ℕ) → Vec (Vec ℕ) → Vec Token → Vec Token → Type 0
Indents step answer before after old new =
    Adds (step (stack_of before.items)) answer (stack_of after.items)
    (view_tokens old.items) (view_tokens new.items)

-- the same at the end, which leaves nothing
abbrev pub Closes : Result (List PToken × Unit {0}) TokenError
    → Result (Unit {0}) TokenError → Vec Token → Vec Token → Type 0
Closes given answer old new = Adds given answer tt (view_tokens old.items) (view_tokens new.items)

-- the end of the text, in the form of a step
abbrev pub ended : State → ℕ → Result (List PToken × Unit {0}) TokenError
ended s last = ends s last >>= λ ts. Ok (ts, tt)
