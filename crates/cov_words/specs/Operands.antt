-- The operands of the commands: what follows the options.
--     begins_option, is_name     a word that is an option, and one that is a name
--     Shape, shape_of            how many operands a command takes, and of which form
--     fit                        whether words are the operands of a shape
use Rattle.std.specs.Prelude.{Bool, true, false, ◌&&◌, not, ◌==◌, List, [], ◌∷◌}
use Rattle.std.specs.List.{list_all}
use Rattle.std.specs.Option.{is_some}
use Rattle.cov_words.specs.declared.options.CommandName.{CommandName}
use Rattle.cov_words.specs.declared.options.CommandName.TheVariants.{Arcs, Run, Combine, Report, Json, Lcov, Annotate, Erase, Script, Make, Suite, Select, Mutate}
use Rattle.cov_words.specs.Values.{Word, whole_number, number_up_to}

-- words that begin with `-` are options
abbrev pub begins_option : Word → Bool
begins_option [] = false
begins_option (b ∷ bs) = b == 45

-- the operands of a command: how many there are, and of which form
pub data Shape : Type 0 where
  a_script : Shape
  any_names : Shape
  nothing : Shape
  a_name : Shape
  two_names : Shape
  a_seed_and_size : Shape

-- what operands a command takes
abbrev pub shape_of : CommandName → Shape
shape_of Arcs = a_script
shape_of Run = a_script
shape_of Combine = any_names
shape_of Report = nothing
shape_of Json = nothing
shape_of Lcov = nothing
shape_of Annotate = a_name
shape_of Erase = nothing
shape_of Script = a_name
shape_of Make = a_seed_and_size
shape_of Suite = a_name
shape_of Select = two_names
shape_of Mutate = a_name

-- whether a word is a name
abbrev pub is_name : Word → Bool
is_name w = not (begins_option w)

-- whether all words are names
abbrev pub are_names : List Word → Bool
are_names ws = list_all is_name ws

-- a script, and then words of any form that are the script's
abbrev pub begin_with_script : List Word → Bool
begin_with_script [] = false
begin_with_script (w ∷ ws) = is_name w

-- whether it is one name
abbrev pub are_one : List Word → Bool
are_one [] = false
are_one (w ∷ []) = is_name w
are_one (w ∷ x ∷ ws) = false

-- whether it is two names
abbrev pub are_two : List Word → Bool
are_two [] = false
are_two (w ∷ []) = false
are_two (w ∷ x ∷ []) = is_name w && is_name x
are_two (w ∷ x ∷ y ∷ ws) = false

-- a whole number, and one up to 16,000
abbrev pub are_seed_and_size : List Word → Bool
are_seed_and_size [] = false
are_seed_and_size (w ∷ []) = false
are_seed_and_size (w ∷ x ∷ []) = is_some (whole_number w) && is_some (number_up_to 16000 x)
are_seed_and_size (w ∷ x ∷ y ∷ ws) = false

-- whether there is no word
abbrev pub are_none : List Word → Bool
are_none [] = true
are_none (w ∷ ws) = false

-- whether these words are the operands
abbrev pub fit : Shape → List Word → Bool
fit a_script ws = begin_with_script ws
fit any_names ws = are_names ws
fit nothing ws = are_none ws
fit a_name ws = are_one ws
fit two_names ws = are_two ws
fit a_seed_and_size ws = are_seed_and_size ws
