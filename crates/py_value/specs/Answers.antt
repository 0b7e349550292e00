-- Steps of which each may raise.
use Rattle.std.specs.Prelude.{Result, Ok, Err}

infixl 10 ◌>>=◌
-- goes on with the value; what is raised stays
abbrev pub ◌>>=◌ : {A B E : Type 0} → Result A E → (A → Result B E) → Result B E
(Ok x) >>= f = f x
(Err e) >>= f = Err e

-- raises in other words
abbrev pub in_words : {A D E : Type 0} → (D → E) → Result A D → Result A E
in_words say (Ok x) = Ok x
in_words say (Err e) = Err (say e)
