-- What is found in the tables of words.
use Rattle.std.proofs.Common.{◌≡◌, Bool, true, false, not, cond, List, [], ◌∷◌, Option, Some, refl, sym, subst}
use Rattle.std.specs.Str.{bytes_eq}
use Rattle.std.specs.List.{list_all, list_any}
use Rattle.cov_words.proofs.Choices.{first_true, second_true}
use Rattle.std.proofs.lemmas.Slice.Eq.{bytes_eq-Decides}
use Rattle.cov_words.specs.declared.options.OptionName.{OptionName}
use Rattle.cov_words.specs.Values.{Word}
use Rattle.cov_words.specs.Options.{look_up, options, option_named}
use Rattle.cov_words.specs.Operands.{begins_option}
use Rattle.cov_words.specs.Reading.{is_equals}

in_entry : {A : Type 0} (p : Word → Bool) (w k : Word) (y x : A) (rest : Option A) (b : Bool) → (rest ≡ Some x → p w ≡ true) → bytes_eq w k ≡ b → p k ≡ true → cond b (Some y) rest ≡ Some x → p w ≡ true
in_entry p w k y x rest true ih same h found = subst (λ (z : Word). p z ≡ true) (sym ((bytes_eq-Decides w k).0 same)) h
in_entry p w k y x rest false ih same h found = ih found

-- a word that is found has what all words of the table have
pub looked_up : {A : Type 0} (p : Word → Bool) (w : Word) (es : List (Word × A)) (x : A) → list_all (λ e. p e.0) es ≡ true → look_up w es ≡ Some x → p w ≡ true
looked_up p w [] x all found = cc
looked_up p w (e ∷ es) x all found =
    in_entry p w e.0 e.1 x (look_up w es) (bytes_eq w e.0) (looked_up p w es x (second_true (p e.0) (list_all (λ d. p d.0) es) all)) refl (first_true (p e.0) (list_all (λ d. p d.0) es) all) found

pub option_begins : (w : Word) (o : OptionName) → option_named w ≡ Some o → begins_option w ≡ true
option_begins w o found = looked_up begins_option w options o refl found

-- no option's spelling has a `=`
pub option_plain : (w : Word) (o : OptionName) → option_named w ≡ Some o → not (list_any is_equals w) ≡ true
option_plain w o found = looked_up (λ (k : Word). not (list_any is_equals k)) w options o refl found
