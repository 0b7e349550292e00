-- What tests are asked, by words and settings.
use Rattle.std.proofs.Common.{◌≡◌, ℕ, Bool, Option, Some, None, refl, ap, ◌∙◌}
use Rattle.std.specs.Option.{unwrap_or}
use Rattle.cov_step.specs.Calls.{TestsAsked}
use Rattle.cov_step.specs.Names.{or_else}
use Rattle.cov_words.specs.Values.{Word}

-- words go before settings
pub number-or : (word : Option ℕ) (own : ℕ) → unwrap_or word own ≡ or_else word own
number-or None own = refl
number-or (Some word) own = refl

-- the same request
pub asked-so : (context : Word) {arcs lines : Bool} {m n : ℕ} → arcs ≡ lines → m ≡ n → ◌≡◌ {A = TestsAsked} (record { arcs = arcs; context = context; budget = m }) (record { arcs = lines; context = context; budget = n })
asked-so context {arcs} {lines} {m} {n} a b =
    ap (λ a. record { arcs = a; context = context; budget = m }) a
    ∙ ap (λ m. record { arcs = lines; context = context; budget = m }) b
