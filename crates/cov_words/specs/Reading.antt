-- Words one after the other: what has been read of a command, and what a further word makes of it.
--     Reading                   what was read
--     found, next               an option, and what it makes of a reading
--     extends, step             a further word
--     run, passed               many words, and how many of them a command begins with
use Rattle.std.specs.Prelude.{ℕ, zero, suc, Bool, true, false, ◌&&◌, ◌==◌, List, [], ◌∷◌, ◌++◌, Option, Some, None, option_map, option_and_then, if◌then◌else◌}
use Rattle.std.specs.Option.{is_some}
use Rattle.cov_words.specs.declared.options.OptionName.{OptionName}
use Rattle.cov_words.specs.declared.options.CommandName.{CommandName}
use Rattle.cov_words.specs.Values.{Word, Value, on, Form, no_value, any_text, up_to, a_file_and_name, value_of, whole_number, number_up_to}
use Rattle.cov_words.specs.Options.{command_named, option_named, form_of, joins, Given, may_take}
use Rattle.cov_words.specs.Operands.{begins_option, Shape, a_script, any_names, nothing, a_name, two_names, a_seed_and_size, shape_of, is_name}
use Rattle.cov_words.specs.Commands.{PlainCommand, command_of}

-- what was read: a command, its options, an option whose value is still to come, and operands
pub record Reading : Type 0 where
  pub command : CommandName
  pub given : Given
  pub awaiting : Option OptionName
  pub operands : List Word

-- an option with its value, or with a value that is still to come
pub data Found : Type 0 where
  nowhere : Found
  whole : OptionName → Value → Found
  half : OptionName → Found

-- an option alone, whose value comes next where it takes one
abbrev pub by_form : Form → OptionName → Found
by_form no_value o = whole o on
by_form any_text o = half o
by_form (up_to most) o = half o
by_form a_file_and_name o = half o

-- `=`
abbrev pub is_equals : ℕ → Bool
is_equals b = b == 61

-- an option with its value, where the word is one
abbrev pub with_value : OptionName → Option Value → Found
with_value o None = nowhere
with_value o (Some v) = whole o v

-- an option that stands before `=`, with what stands after it
abbrev pub found_before : Option OptionName → Word → Found
found_before None t = nowhere
found_before (Some o) t = if joins o then with_value o (value_of (form_of o) t) else nowhere

-- what stands before the first `=` and after it
abbrev pub cut : Word → Option (Word × Word)
cut [] = None
cut (b ∷ bs) = if is_equals b then Some ([], bs) else option_map (λ p. (b ∷ p.0, p.1)) (cut bs)

-- the option of a word with an `=`
abbrev pub found_cut : Option (Word × Word) → Found
found_cut None = nowhere
found_cut (Some p) = found_before (option_named p.0) p.1

-- the option that the whole word spells, or else the part before `=`
abbrev pub found_whole : Option OptionName → Word → Found
found_whole None w = found_cut (cut w)
found_whole (Some o) w = by_form (form_of o) o

-- the option of a word
abbrev pub found : Word → Found
found w = found_whole (option_named w) w

-- what an option makes of a reading
abbrev pub next : Reading → Found → Option Reading
next r nowhere = None
next r (whole o v) =
    if may_take r.command r.given o then Some (record r { given = r.given ++ ((o, v) ∷ []) })
    else None
next r (half o) =
    if may_take r.command r.given o then Some (record r { awaiting = Some o }) else None

-- whether a word may follow these operands
abbrev pub extends : Shape → List Word → Word → Bool
extends a_script [] w = is_name w
extends a_script (x ∷ xs) w = true
extends any_names xs w = is_name w
extends nothing xs w = false
extends a_name [] w = is_name w
extends a_name (x ∷ xs) w = false
extends two_names [] w = is_name w
extends two_names (x ∷ []) w = is_name w
extends two_names (x ∷ y ∷ xs) w = false
extends a_seed_and_size [] w = is_some (whole_number w)
extends a_seed_and_size (x ∷ []) w = is_some (number_up_to 16000 w)
extends a_seed_and_size (x ∷ y ∷ xs) w = false

-- what an operand makes of it
abbrev pub with_operand : Reading → Word → Option Reading
with_operand r w =
    if extends (shape_of r.command) r.operands w
    then Some (record r { operands = r.operands ++ (w ∷ []) }) else None

-- whether no operand was read yet
abbrev pub is_first : List Word → Bool
is_first [] = true
is_first (w ∷ ws) = false

-- a word that isn't a value
abbrev pub fresh : Reading → Word → Option Reading
fresh r w = if is_first r.operands && begins_option w then next r (found w) else with_operand r w

-- what a value makes of it
abbrev pub with_given : Reading → OptionName → Option Value → Option Reading
with_given r o None = None
with_given r o (Some v) = Some (record r { given = r.given ++ ((o, v) ∷ []); awaiting = None })

-- a word is the value of an option, or else it stands for itself
abbrev pub step_in : Reading → Option OptionName → Word → Option Reading
step_in r None w = fresh r w
step_in r (Some o) w = with_given r o (value_of (form_of o) w)

-- what a further word makes of it
abbrev pub step : Reading → Word → Option Reading
step r w = step_in r r.awaiting w

-- a reading that has only met the name of a command
abbrev pub begun : Word → Option Reading
begun w =
    option_map (λ c. record { command = c; given = []; awaiting = None; operands = [] })
    (command_named w)

-- what further words make of it
abbrev pub run : List Word → Reading → Option Reading
run [] r = Some r
run (w ∷ ws) r = option_and_then (run ws) (step r w)

-- a word more where it can be read
abbrev pub passed_by : (Reading → ℕ) → Option Reading → ℕ
passed_by count None = zero
passed_by count (Some r) = suc (count r)

-- how many of the words can be read
abbrev pub passed : List Word → Reading → ℕ
passed [] r = zero
passed (w ∷ ws) r = passed_by (passed ws) (step r w)

-- what the words make, where all can be read
abbrev pub read : List Word → Option Reading
read [] = None
read (w ∷ ws) = option_and_then (run ws) (begun w)

-- how many words begin a command
abbrev pub passed_words : List Word → ℕ
passed_words [] = zero
passed_words (w ∷ ws) = passed_by (passed ws) (begun w)

-- the command that was read
abbrev pub ended : Reading → Option OptionName → Option PlainCommand
ended r None = command_of r.command r.given r.operands
ended r (Some o) = None

-- the command of what was read
abbrev pub command_read : Option Reading → Option PlainCommand
command_read None = None
command_read (Some r) = ended r r.awaiting
