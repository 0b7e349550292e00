-- Commands by what they need: what each group leaves to the next.
use Rattle.std.proofs.Common.{◌≡◌, refl}
use Rattle.cov_words.specs.declared.command.Command.{Command}
use Rattle.cov_words.specs.declared.command.Command.TheVariants as command
use Rattle.cov_words.specs.Plain.{command_view}
use Rattle.cov_step.specs.Scripts.{inside}
use Rattle.cov_step.specs.Step.{doing}
use Rattle.cov_app.specs.Groups.{of_data, of_report}

-- any command but a script is done as in a script
pub no-script : (c : Command) → ((a : _) → c ≡ command.Script a → ⊥) → inside (command_view c) ≡ doing (command_view c)
no-script (command.Script a) n = absurd (n a refl)
no-script c n = refl

-- a command that runs no program
pub no-program : (c : Command) → ((a b d : _) → c ≡ command.Arcs a b d → ⊥) → ((a b d e f h i j k : _) → c ≡ command.Run a b d e f h i j k → ⊥) → ((a b : _) → c ≡ command.Make a b → ⊥) → ((a b d e f : _) → c ≡ command.Suite a b d e f → ⊥)
    → ((a b d : _) → c ≡ command.Select a b d → ⊥) → ((a b : _) → c ≡ command.Mutate a b → ⊥) → of_data (command_view c) ≡ inside (command_view c)
no-program (command.Arcs a b d) l m n s t o = absurd (l a b d refl)
no-program (command.Run a b d e f h i j k) l m n s t o = absurd (m a b d e f h i j k refl)
no-program (command.Make a b) l m n s t o = absurd (n a b refl)
no-program (command.Suite a b d e f) l m n s t o = absurd (s a b d e f refl)
no-program (command.Select a b d) l m n s t o = absurd (t a b d refl)
no-program (command.Mutate a b) l m n s t o = absurd (o a b refl)
no-program c l m n s t o = refl

-- one that isn't on data alone
pub no-data : (c : Command) → ((a b d e f : _) → c ≡ command.Combine a b d e f → ⊥) → ((a b : _) → c ≡ command.Erase a b → ⊥) → of_report (command_view c) ≡ of_data (command_view c)
no-data (command.Combine a b d e f) m n = absurd (m a b d e f refl)
no-data (command.Erase a b) m n = absurd (n a b refl)
no-data c m n = refl
