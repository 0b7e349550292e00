-- The words of a command are read as that command.
use Rattle.std.proofs.Common.{◌≡◌, true, List, [], ◌∷◌, ◌++◌, Option, Some, None, option_map, option_and_then, refl, sym, ap, subst, ◌∙◌, append_assoc}
use Rattle.std.proofs.lemmas.List.{append-nil}
use Rattle.cov_words.specs.declared.options.OptionName.{OptionName}
use Rattle.cov_words.specs.declared.options.CommandName.{CommandName}
use Rattle.cov_words.specs.Values.{Word, Value, on}
use Rattle.cov_words.specs.Options.{Spells, alone, apart, joined, Given, may_take, Gives, none, one_more}
use Rattle.cov_words.specs.Operands.{begins_option, shape_of, fit}
use Rattle.cov_words.specs.Commands.{PlainCommand, IsCommand, spelled}
use Rattle.cov_words.specs.Reading.{Reading, Found, whole, half, found, next, extends, with_operand, with_given, step, run, read, command_read}
use Rattle.cov_words.proofs.Choices.{cond_true, cond_false}
use Rattle.cov_words.proofs.Tables.{option_begins}
use Rattle.cov_words.proofs.OperandLists.{may_follow, first_is_name}
use Rattle.cov_words.proofs.FoundOptions.{found_alone, found_half, found_joined, spelled_begins}

-- where options and operands were read
abbrev pub at : CommandName → Given → List Word → Reading
at c g ys = record { command = c; given = g; awaiting = None; operands = ys }

-- where an option waits for its value
abbrev pub awaits : CommandName → Given → OptionName → Reading
awaits c g o = record { command = c; given = g; awaiting = Some o; operands = [] }

option_step : (c : CommandName) (g : Given) (w : Word) (f : Found) → begins_option w ≡ true → found w ≡ f → step (at c g []) w ≡ next (at c g []) f
option_step c g w f begins is = cond_true (begins_option w) (next (at c g []) (found w)) (with_operand (at c g []) w) begins ∙ ap (next (at c g [])) is

whole_step : (c : CommandName) (g : Given) (w : Word) (o : OptionName) (v : Value) → may_take c g o ≡ true → begins_option w ≡ true → found w ≡ whole o v → step (at c g []) w ≡ Some (at c (g ++ ((o, v) ∷ [])) [])
whole_step c g w o v may begins is = option_step c g w (whole o v) begins is ∙ cond_true (may_take c g o) (Some (at c (g ++ ((o, v) ∷ [])) [])) None may

half_step : (c : CommandName) (g : Given) (w : Word) (o : OptionName) → may_take c g o ≡ true → begins_option w ≡ true → found w ≡ half o → step (at c g []) w ≡ Some (awaits c g o)
half_step c g w o may begins is = option_step c g w (half o) begins is ∙ cond_true (may_take c g o) (Some (awaits c g o)) None may

-- one option
spelled_run : (c : CommandName) (g : Given) (o : OptionName) (v : Value) (xs rest : List Word) → may_take c g o ≡ true → Spells o v xs → run (xs ++ rest) (at c g []) ≡ run rest (at c (g ++ ((o, v) ∷ [])) [])
spelled_run c g o v _ rest may (alone w named form) =
    ap (option_and_then (run rest)) (whole_step c g w o on may (option_begins w o named) (found_alone w o named form))
spelled_run c g o v _ rest may (apart w t named value) =
    ap (option_and_then (run (t ∷ rest))) (half_step c g w o may (option_begins w o named) (found_half w t o v named value))
    ∙ ap (λ (x : Option Value). option_and_then (run rest) (with_given (awaits c g o) o x)) value
spelled_run c g o v _ rest may (joined w t named j value) =
    ap (option_and_then (run rest)) (whole_step c g (w ++ (61 ∷ t)) o v may (spelled_begins w t o named) (found_joined w t o v named j value))

options_run : (c : CommandName) (g : Given) (xs rest : List Word) → Gives c g xs → run (xs ++ rest) (at c [] []) ≡ run rest (at c g [])
options_run c _ _ rest none = refl
options_run c _ _ rest (one_more {g} {o} {v} ws xs gives may spells) =
    ap (λ (x : List Word). run x (at c [] [])) (append_assoc ws xs rest)
    ∙ options_run c g ws (xs ++ rest) gives
    ∙ spelled_run c g o v xs rest may spells

operand_step : (c : CommandName) (g : Given) (ys : List Word) (w : Word) (rest : List Word) → fit (shape_of c) (ys ++ (w ∷ rest)) ≡ true → step (at c g ys) w ≡ with_operand (at c g ys) w
operand_step c g [] w rest h = cond_false (begins_option w) (next (at c g []) (found w)) (with_operand (at c g []) w) (first_is_name (shape_of c) w rest h)
operand_step c g (y ∷ ys) w rest h = refl

operands_run : (c : CommandName) (g : Given) (ys rest : List Word) → fit (shape_of c) (ys ++ rest) ≡ true → run rest (at c g ys) ≡ Some (at c g (ys ++ rest))
operands_run c g ys [] h = ap (λ (x : List Word). Some (at c g x)) (sym (append-nil ys))
operands_run c g ys (w ∷ rest) h =
    let again : (ys ++ (w ∷ [])) ++ rest ≡ ys ++ (w ∷ rest) = append_assoc ys (w ∷ []) rest in
    ap (option_and_then (run rest)) (operand_step c g ys w rest h ∙ cond_true (extends (shape_of c) ys w) (Some (at c g (ys ++ (w ∷ [])))) None (may_follow (shape_of c) ys w rest h))
    ∙ operands_run c g (ys ++ (w ∷ [])) rest (subst (λ (x : List Word). fit (shape_of c) x ≡ true) (sym again) h)
    ∙ ap (λ (x : List Word). Some (at c g x)) again

-- the words of a command are read as it
pub is_read : (command : PlainCommand) (words : List Word) → IsCommand command words → command_read (read words) ≡ Some command
is_read command _ (spelled w c g xs ys named gives fits is) =
    ap (λ (x : Option CommandName). command_read (option_and_then (run (xs ++ ys)) (option_map (λ d. at d [] []) x))) named
    ∙ ap command_read (options_run c g xs ys gives ∙ operands_run c g [] ys fits)
    ∙ is

-- no words are two commands
pub same_command : (words : List Word) (c d : PlainCommand) → IsCommand c words → IsCommand d words → c ≡ d
same_command words c d one other = let same : Some c ≡ Some d = sym (is_read c words one) ∙ is_read d words other in cc
