-- What a request asks, by its words.
use Rattle.std.proofs.Common.{◌≡◌, ℕ, Bool, List, [], ◌∷◌, map, Option, Some, None, option_map, String, string_bytes, refl, ap, ◌∙◌}
use Rattle.std.specs.Global.{Global}
use Rattle.std.specs.Option.{unwrap_or, option_or}
use Rattle.std.specs.Str.{chars}
use Rattle.py_syntax.specs.Tree.{Text}
use Rattle.cov_config.specs.Plain.{hook_view}
use Rattle.cov_measure.specs.Requests.{Asked, words_in}
use Rattle.cov_step.specs.Commands.{hook_named, words_of}
use Rattle.cov_step.specs.Names.{or_else}
use Rattle.cov_words.specs.Values.{Word}

-- the words of a program
words-are : (words : List (String Global)) → words_in words ≡ map chars (map string_bytes words)
words-are [] = refl
words-are (w ∷ words) = ap (λ ws. chars (string_bytes w) ∷ ws) (words-are words)

pub program-words : (script : String Global) (args : List (String Global)) → words_in (script ∷ args) ≡ words_of (string_bytes script) (map string_bytes args)
program-words script args = words-are (script ∷ args)

-- words go before settings
pub text-or : (word : Option (String Global)) (own : String Global) → string_bytes (unwrap_or word own) ≡ or_else (option_map string_bytes word) (string_bytes own)
text-or None own = refl
text-or (Some word) own = refl

pub number-or : (word : Option ℕ) (own : ℕ) → unwrap_or word own ≡ or_else word own
number-or None own = refl
number-or (Some word) own = refl

pub hook-or : (word own : Option (String Global × String Global)) → hook_view (option_or word own) ≡ hook_named (hook_view word) (hook_view own)
hook-or None own = refl
hook-or (Some word) own = refl

-- the same request
pub asked-so : (by_name : Bool) {arcs lines : Bool} {c d : Word} {v w : List Text} {m n : ℕ} → arcs ≡ lines → c ≡ d → v ≡ w → m ≡ n
    → ◌≡◌ {A = Asked} (record { arcs = arcs; context = c; by_name = by_name; words = v; budget = m }) (record { arcs = lines; context = d; by_name = by_name; words = w; budget = n })
asked-so by_name {arcs} {lines} {c} {d} {v} {w} {m} {n} b e f g =
    ap (λ b. record { arcs = b; context = c; by_name = by_name; words = v; budget = m }) b
    ∙ ap (λ c. record { arcs = lines; context = c; by_name = by_name; words = v; budget = m }) e
    ∙ ap (λ v. record { arcs = lines; context = d; by_name = by_name; words = v; budget = m }) f
    ∙ ap (λ m. record { arcs = lines; context = d; by_name = by_name; words = w; budget = m }) g
