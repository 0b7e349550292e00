-- Words ask for no larger a made source than they may.
use Rattle.std.proofs.Common.{◌≡◌, ◌≤◌, ℕ, nat_le, Bool, true, false, if◌then◌else◌, List, [], ◌∷◌, codes, Option, Some, None, refl, subst}
use Rattle.std.specs.Prelude.{option_and_then}
use Rattle.std.specs.Str.{bytes_eq}
use Rattle.std.proofs.lemmas.Bool.{leb-true}
use Rattle.cov_words.specs.Values.{Word, whole_number, within, number_up_to}
use Rattle.cov_words.specs.Options.{Given, look_up, commands, command_named}
use Rattle.cov_words.specs.Commands.{PlainCommand, command_of, of_numbers, IsCommand, spelled}
use Rattle.cov_words.specs.Commands as plain

some-is : {A : Type 0} {a b : A} → ◌≡◌ {A = Option A} (Some a) (Some b) → a ≡ b
some-is e = cc

none-some : {A : Type 0} {a : A} → ◌≡◌ {A = Option A} None (Some a) → ⊥
none-some e = cc

-- the size of a made source is small
abbrev IsSmall : PlainCommand → Type 0
IsSmall (plain.arcs budget script args) = Unit {0}
IsSmall (plain.run branch append context budget hook data_file rcfile script args) = Unit {0}
IsSmall (plain.combine append keep data_file rcfile names) = Unit {0}
IsSmall (plain.report show_missing fail_under data_file rcfile) = Unit {0}
IsSmall (plain.json name fail_under data_file rcfile) = Unit {0}
IsSmall (plain.lcov name fail_under data_file rcfile) = Unit {0}
IsSmall (plain.annotate data_file rcfile file) = Unit {0}
IsSmall (plain.erase data_file rcfile) = Unit {0}
IsSmall (plain.script file) = Unit {0}
IsSmall (plain.make seed size) = size ≤ 16000
IsSmall (plain.suite branch budget data_file rcfile file) = Unit {0}
IsSmall (plain.select budget old new) = Unit {0}
IsSmall (plain.mutate budget file) = Unit {0}

abbrev AllSmall : Option PlainCommand → Type 0
AllSmall None = Unit {0}
AllSmall (Some c) = IsSmall c

fitting : (k n : ℕ) (b : Bool) → nat_le k 16000 ≡ b → ◌≡◌ {A = Option ℕ} (if b then Some k else None) (Some n) → n ≤ 16000
fitting k n true h e = subst (λ m. m ≤ 16000) (some-is e) (leb-true k 16000 h)
fitting k n false h e = absurd (none-some e)

among : (o : Option ℕ) (n : ℕ) → option_and_then (within 16000) o ≡ Some n → n ≤ 16000
among None n e = absurd (none-some e)
among (Some k) n e = fitting k n (nat_le k 16000) refl e

of-numbers : (seed size : Option ℕ) → ((n : ℕ) → size ≡ Some n → n ≤ 16000) → AllSmall (of_numbers seed size)
of-numbers None size h = tt
of-numbers (Some m) None h = tt
of-numbers (Some m) (Some n) h = h n refl

-- ---- the command of a name

-- the command of this name, with these options and operands
abbrev named-so : Word → Given → List Word → Option PlainCommand
named-so w g ys = option_and_then (λ n. command_of n g ys) (command_named w)

of-arcs : (g : Given) (ys : List Word) → AllSmall (named-so (codes "arcs") g ys)
of-arcs g [] = tt
of-arcs g (y ∷ ys) = tt

of-run : (g : Given) (ys : List Word) → AllSmall (named-so (codes "run") g ys)
of-run g [] = tt
of-run g (y ∷ ys) = tt

of-annotate : (g : Given) (ys : List Word) → AllSmall (named-so (codes "annotate") g ys)
of-annotate g [] = tt
of-annotate g (y ∷ ys) = tt

of-script : (g : Given) (ys : List Word) → AllSmall (named-so (codes "script") g ys)
of-script g [] = tt
of-script g (y ∷ ys) = tt

of-make : (g : Given) (ys : List Word) → AllSmall (named-so (codes "make") g ys)
of-make g [] = tt
of-make g (y ∷ []) = tt
of-make g (y ∷ z ∷ ys) = of-numbers (whole_number y) (number_up_to 16000 z) (among (whole_number z))

of-suite : (g : Given) (ys : List Word) → AllSmall (named-so (codes "suite") g ys)
of-suite g [] = tt
of-suite g (y ∷ ys) = tt

of-select : (g : Given) (ys : List Word) → AllSmall (named-so (codes "select") g ys)
of-select g [] = tt
of-select g (y ∷ []) = tt
of-select g (y ∷ z ∷ ys) = tt

of-mutate : (g : Given) (ys : List Word) → AllSmall (named-so (codes "mutate") g ys)
of-mutate g [] = tt
of-mutate g (y ∷ ys) = tt

-- what holds of each name of a table
abbrev EachOf : {N : Type 0} → (N → Type 0) → List (Word × N) → Type 0
EachOf P [] = Unit {0}
EachOf P (e ∷ es) = P e.1 × EachOf P es

-- holds of the one that is found
of-first : {N : Type 0} (P : N → Type 0) (b : Bool) (first n : N) (rest : Option N) → P first → (rest ≡ Some n → P n) → ◌≡◌ {A = Option N} (if b then Some first else rest) (Some n) → P n
of-first P true first n rest h ih is = subst P (some-is is) h
of-first P false first n rest h ih is = ih is

found-in : {N : Type 0} (P : N → Type 0) (w : Word) (table : List (Word × N)) (n : N) → EachOf P table → look_up w table ≡ Some n → P n
found-in P w [] n h is = absurd (none-some is)
found-in P w (e ∷ es) n h is = of-first P (bytes_eq w e.0) e.1 n (look_up w es) h.0 (found-in P w es n h.1) is

small-command : (c : PlainCommand) (words : List Word) → IsCommand c words → IsSmall c
small-command c _ (spelled w name g xs ys named gives fits is) =
    subst AllSmall is (found-in (λ n. (f : Given) (zs : List Word) → AllSmall (command_of n f zs)) w commands name
    (of-arcs, (of-run, (λ f zs. tt, (λ f zs. tt, (λ f zs. tt, (λ f zs. tt, (of-annotate, (λ f zs. tt, (of-script, (of-make, (of-suite, (of-select, (of-mutate, tt))))))))))))) named g ys)

pub small-size : (words : List Word) (seed size : ℕ) → IsCommand (plain.make seed size) words → size ≤ 16000
small-size words seed size is = small-command (plain.make seed size) words is
