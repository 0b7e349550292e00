-- An answer that refuses a command, and its refusal.
use Rattle.std.proofs.Common.{◌≡◌, ◌≢◌, ◌⊎◌, inl, inr, Result, Ok, Err, refl, sym, ap, ◌∙◌, subst}
use Rattle.std.specs.Prelude.{MatchResult}
use Rattle.cov_why.specs.declared.why.Why.{Why}
use Rattle.cov_why.specs.declared.why.Why.TheVariants as why
use Rattle.cov_why.specs.Answers.{Refusal, usage, no_such_file, syntax, limit, bad_config, bad_pattern, pattern_size, no_function, no_data, mixed, bad_data, no_source, read_fault, write_fault, shelf_fault, vault_fault, no_memory, import_failed, Ended, PlainWhy, plain_why, RefusedAs, AnsweredAs}

-- the refusal
pub refused-is : (w : Why) (P : Refusal → Type 0) → RefusedAs w P → (r : Refusal) × (plain_why w ≡ Err r) × P r
refused-is w P h = found (plain_why w) refl h
  where
    found : (x : PlainWhy) → plain_why w ≡ x → MatchResult x (λ ended. ⊥) P → (r : Refusal) × (plain_why w ≡ Err r) × P r
    found (Ok ended) e h = absurd h
    found (Err r) e h = (r, e, h)

-- what holds of it, holds so
pub refused-so : (w : Why) (r : Refusal) (P : Refusal → Type 0) → plain_why w ≡ Err r → P r → RefusedAs w P
refused-so w r P e h = subst (λ (x : PlainWhy). MatchResult x (λ ended. ⊥) P) (sym e) h

-- and the other way round
pub refused-for : (w : Why) (r : Refusal) (P : Refusal → Type 0) → plain_why w ≡ Err r → RefusedAs w P → P r
refused-for w r P e h = subst (λ (x : PlainWhy). MatchResult x (λ ended. ⊥) P) e h

pub refused-map : (w : Why) (P Q : Refusal → Type 0) → ((r : Refusal) → P r → Q r) → RefusedAs w P → RefusedAs w Q
refused-map w P Q f h = let s = refused-is w P h in refused-so w s.0 Q s.1 (f s.0 s.2)

-- the same of what a call answered
pub answered-map : {A B : Type 0} (view : A → B) (result : Result A Why) (P Q : Result B Refusal → Type 0) → ((answer : Result B Refusal) → P answer → Q answer) → AnsweredAs view result P → AnsweredAs view result Q
answered-map view (Ok a) P Q f h = f (Ok (view a)) h
answered-map view (Err w) P Q f h = refused-map w (λ r. P (Err r)) (λ r. Q (Err r)) (λ r. f (Err r)) h

-- a call that was answered so
pub refused-result : {A B : Type 0} (view : A → B) (result : Result A Why) (w : Why) (P : Result B Refusal → Type 0) → result ≡ Err w → RefusedAs w (λ r. P (Err r)) → AnsweredAs view result P
refused-result view result w P e h = subst (λ x. AnsweredAs view x P) (sym e) h

-- memory was wanting, or not
pub is-memory : (r : Refusal) → (r ≡ no_memory) ⊎ (r ≢ no_memory)
is-memory (usage words) = inr (λ e. cc)
is-memory (no_such_file name) = inr (λ e. cc)
is-memory (syntax file line kind) = inr (λ e. cc)
is-memory (limit kind n) = inr (λ e. cc)
is-memory (bad_config key) = inr (λ e. cc)
is-memory (bad_pattern at) = inr (λ e. cc)
is-memory (pattern_size at) = inr (λ e. cc)
is-memory (no_function name) = inr (λ e. cc)
is-memory (no_data name) = inr (λ e. cc)
is-memory (mixed first other) = inr (λ e. cc)
is-memory (bad_data name kind) = inr (λ e. cc)
is-memory (no_source path) = inr (λ e. cc)
is-memory read_fault = inr (λ e. cc)
is-memory write_fault = inr (λ e. cc)
is-memory shelf_fault = inr (λ e. cc)
is-memory vault_fault = inr (λ e. cc)
is-memory no_memory = inl refl
is-memory (import_failed file) = inr (λ e. cc)

-- a fault of the shelf says so
pub fault-is : (w : Why) (r : Refusal) → w ≡ why.ShelfFault → plain_why w ≡ Err r → r ≡ shelf_fault
fault-is w r is e = same (sym (ap plain_why is) ∙ e)
  where
    same : ◌≡◌ {A = PlainWhy} (Err shelf_fault) (Err r) → r ≡ shelf_fault
    same e = cc
