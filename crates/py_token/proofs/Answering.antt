-- What an answer of an error says.
use Rattle.std.proofs.Common.{◌≡◌, Result, Err}
use Rattle.py_token.specs.declared.error.TokenError.{TokenError}
use Rattle.py_token.specs.declared.error.TokenError.TheVariants.{BadCharacter, BadIndent, OpenString, OpenBracket, WideNumber, NoMemory}
use Rattle.py_token.specs.Answers.{Gives}

pub gives_error : {A B : Type 0} (view : A → B) (given : Result B TokenError) (e : TokenError) → given ≡ Err e → Gives view (Err e) given
gives_error view given NoMemory is = tt
gives_error view given (BadCharacter line) is = is
gives_error view given (BadIndent line) is = is
gives_error view given (OpenString line) is = is
gives_error view given (OpenBracket line) is = is
gives_error view given (WideNumber line) is = is

-- an error that a call answered as the definition says
pub passes_error : {A B C D : Type 0} (view : A → B) (other : C → D) (given : Result B TokenError) (given' : Result D TokenError) (e : TokenError) → (given ≡ Err e → given' ≡ Err e) → Gives view (Err e) given → Gives other (Err e) given'
passes_error view other given given' NoMemory on is = tt
passes_error view other given given' (BadCharacter line) on is = on is
passes_error view other given given' (BadIndent line) on is = on is
passes_error view other given given' (OpenString line) on is = on is
passes_error view other given given' (OpenBracket line) on is = on is
passes_error view other given given' (WideNumber line) on is = on is
