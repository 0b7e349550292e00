-- A text spells one list of tokens or is stuck in one place.
use Rattle.std.proofs.Common.{◌≡◌, List, Result, Ok, Err, sym, ◌∙◌}
use Rattle.py_token.specs.declared.error.TokenError.{TokenError}
use Rattle.py_token.specs.Plain.{PToken}
use Rattle.py_token.specs.Spelling.{Spells, StuckAt, OneSpelling, OneFault, NeverBoth}

abbrev spelled : List PToken → Result (List PToken) TokenError
spelled ts = Ok ts

spelled_is : (a b : List PToken) → spelled a ≡ spelled b → a ≡ b
spelled_is a b h = cc

abbrev stuck : TokenError → Result (List PToken) TokenError
stuck e = Err e

stuck_is : (e f : TokenError) → stuck e ≡ stuck f → e ≡ f
stuck_is e f h = cc

differ : (ts : List PToken) (e : TokenError) → spelled ts ≡ stuck e → ⊥
differ ts e h = cc

pub one_list : OneSpelling
unfolding Spells
one_list text a b h k = spelled_is a b (sym h ∙ k)

pub one_fault : OneFault
unfolding StuckAt
one_fault text e f h k = stuck_is e f (sym h ∙ k)

pub never_both : NeverBoth
unfolding Spells StuckAt
never_both text ts e h k = differ ts e (sym h ∙ k)
