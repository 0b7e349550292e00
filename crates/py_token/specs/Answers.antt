-- What the functions of this crate answer, in the words of the definitions.
use Rattle.std.specs.Prelude.{◌≡◌, Result, Ok, Err}
use Rattle.py_token.specs.declared.error.TokenError.{TokenError}
use Rattle.py_token.specs.declared.error.TokenError.TheVariants.{NoMemory}

-- the answer is what the definition gives, or memory is short
abbrev pub Gives : {A B : Type 0} → (A → B) → Result A TokenError → Result B TokenError → Type 0
Gives view (Ok x) given = given ≡ Ok (view x)
Gives view (Err NoMemory) given = Unit {0}
Gives view (Err e) given = given ≡ Err e
