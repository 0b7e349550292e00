-- What a step from a state makes, as the code comes to it.
use Rattle.std.proofs.Common.{◌≡◌, sym, subst}
use Rattle.py_token.specs.declared.token.Token.{Token}
use Rattle.py_statements.specs.declared.places.State.{State}
use Rattle.py_statements.specs.Machine.{plain_step}
use Rattle.py_statements.specs.ViewStates.{kind_at, first_at, last_at, view_state, Made, Turned, Makes, TurnsInto, Steps}

pub choosing : (t : Token) (held made : State) (m : Made) (r : Turned) → held ≡ made → Makes (plain_step (view_state made) (kind_at t) (first_at t) (last_at t)) m → TurnsInto m r → Steps t (plain_step (view_state held)) r
choosing t held made m r is makes turns = subst (λ (s : State). Steps t (plain_step (view_state s)) r) (sym is) (turns t (plain_step (view_state made) (kind_at t) (first_at t) (last_at t)) makes)
