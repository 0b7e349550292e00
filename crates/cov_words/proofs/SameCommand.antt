-- What is read after a command's name leaves the command as it is.
use Rattle.std.proofs.Common.{◌≡◌, Bool, true, false, ◌&&◌, cond, List, [], ◌∷◌, ◌++◌, Option, Some, None, option_and_then, refl, sym, ap, ◌∙◌}
use Rattle.cov_words.specs.declared.options.OptionName.{OptionName}
use Rattle.cov_words.specs.declared.options.CommandName.{CommandName}
use Rattle.cov_words.specs.Values.{Word, Value, value_of}
use Rattle.cov_words.specs.Options.{form_of, may_take}
use Rattle.cov_words.specs.Operands.{begins_option, shape_of}
use Rattle.cov_words.specs.Reading.{Reading, Found, nowhere, whole, half, found, next, extends, with_operand, is_first, with_given, step_in, step, run}

abbrev command_in : Reading → Option Reading → CommandName
command_in r None = r.command
command_in r (Some q) = q.command

next_command : (r : Reading) (f : Found) → command_in r (next r f) ≡ r.command
next_command r nowhere = refl
next_command r (whole o v) = chosen (may_take r.command r.given o)
  where
    chosen : (b : Bool) → command_in r (cond b (Some (record r { given = r.given ++ ((o, v) ∷ []) })) None) ≡ r.command
    chosen true = refl
    chosen false = refl
next_command r (half o) = chosen (may_take r.command r.given o)
  where
    chosen : (b : Bool) → command_in r (cond b (Some (record r { awaiting = Some o })) None) ≡ r.command
    chosen true = refl
    chosen false = refl

operand_command : (r : Reading) (w : Word) (b : Bool) → command_in r (cond b (Some (record r { operands = r.operands ++ (w ∷ []) })) None) ≡ r.command
operand_command r w true = refl
operand_command r w false = refl

fresh_command : (r : Reading) (w : Word) (b : Bool) → command_in r (cond b (next r (found w)) (with_operand r w)) ≡ r.command
fresh_command r w true = next_command r (found w)
fresh_command r w false = operand_command r w (extends (shape_of r.command) r.operands w)

given_command : (r : Reading) (o : OptionName) (v : Option Value) → command_in r (with_given r o v) ≡ r.command
given_command r o None = refl
given_command r o (Some v) = refl

step_command : (r : Reading) (a : Option OptionName) (w : Word) → command_in r (step_in r a w) ≡ r.command
step_command r None w = fresh_command r w (is_first r.operands && begins_option w)
step_command r (Some o) w = given_command r o (value_of (form_of o) w)

run_on : (ws : List Word) (w : Word) (r q : Reading) (s : Option Reading) → step r w ≡ s → ((t : Reading) → run ws t ≡ Some q → q.command ≡ t.command) → option_and_then (run ws) s ≡ Some q → q.command ≡ r.command
run_on ws w r q None e ih h = cc
run_on ws w r q (Some t) e ih h = ih t h ∙ ap (command_in r) (sym e) ∙ step_command r r.awaiting w

pub run_command : (ws : List Word) (r q : Reading) → run ws r ≡ Some q → q.command ≡ r.command
run_command [] r q h = ap (command_in r) (sym h)
run_command (w ∷ ws) r q h = run_on ws w r q (step r w) refl (λ t. run_command ws t q) h
