-- The answers on words, from what was read of them.
use Rattle.std.proofs.Common.{◌≡◌, ◌≤◌, ◌<◌, ℕ, ◌+◌, suc, List, [], ◌∷◌, length, Option, Some, None, option_and_then, refl, sym, ap, subst, ◌∙◌, arith}
use Rattle.cov_words.specs.Values.{Word}
use Rattle.cov_words.specs.Options.{command_named}
use Rattle.cov_words.specs.Commands.{PlainCommand, IsCommand, StopsAfter}
use Rattle.cov_words.specs.Reading.{Reading, step, begun, run, passed, passed_by, read, passed_words, command_read}
use Rattle.cov_words.proofs.SameCommand.{run_command}
use Rattle.cov_words.proofs.Sound.{HasRead, run_keeps, begun_is, ended_command}
use Rattle.cov_words.proofs.Prefixes.{named_by, within, stops, no_command}

-- no command has these words, and the first n are the most that begin one
abbrev pub Refuses : List Word → ℕ → Type 0
Refuses words n = ((c : PlainCommand) → IsCommand c words → ⊥) × StopsAfter words n

-- where some words can't be read, nothing was read
short_by : (ws : List Word) (s : Option Reading) → ((t : Reading) → passed ws t < length ws → run ws t ≡ None) → passed_by (passed ws) s < suc (length ws) → option_and_then (run ws) s ≡ None
short_by ws None ih h = refl
short_by ws (Some t) ih h = ih t (omega (arith, h))

short : (ws : List Word) (r : Reading) → passed ws r < length ws → run ws r ≡ None
short [] r h = absurd (omega (arith, h))
short (w ∷ ws) r h = short_by ws (step r w) (short ws) h

refused : (words : List Word) (n : ℕ) → command_read (read words) ≡ None → n ≡ passed_words words → Refuses words n
refused words n h is = (no_command words h, subst (StopsAfter words) (sym is) (stops words))

pub refuses_none : (words : List Word) → words ≡ [] → Refuses words 0
refuses_none words is = subst (λ (x : List Word). Refuses x 0) (sym is) (refused [] 0 refl refl)

pub refuses_name : (words ws : List Word) (w : Word) → words ≡ w ∷ ws → begun w ≡ None → Refuses words 0
refuses_name words ws w is none =
    subst (λ (x : List Word). Refuses x 0) (sym is)
    (refused (w ∷ ws) 0 (ap (λ (x : Option Reading). command_read (option_and_then (run ws) x)) none) (ap (passed_by (passed ws)) (sym none)))

pub refuses_at : (words ws : List Word) (w : Word) (r : Reading) (n : ℕ) → words ≡ w ∷ ws → begun w ≡ Some r → n ≡ passed ws r → n < length ws → Refuses words (n + 1)
refuses_at words ws w r n is begins at less =
    let fails : run ws r ≡ None = short ws r (omega (arith, at, less)) in
    let count : n + 1 ≡ suc (passed ws r) = omega (arith, at) in
    subst (λ (x : List Word). Refuses x (n + 1)) (sym is)
    (refused (w ∷ ws) (n + 1) (ap (λ (x : Option Reading). command_read (option_and_then (run ws) x)) begins ∙ ap command_read fails) (count ∙ ap (passed_by (passed ws)) (sym begins)))

all_read : (ws : List Word) (r : Reading) (n : ℕ) → n ≡ passed ws r → (n < length ws → ⊥) → n ≡ length ws
all_read ws r n at all = let most = within ws r in omega (arith, at, most, at_least n (length ws) all)
  where
    at_least : (a b : ℕ) → (a < b → ⊥) → b ≤ a
    at_least a b h = omega (arith, h)

pub refuses_all : (words ws : List Word) (w : Word) (r q : Reading) (n : ℕ) → words ≡ w ∷ ws → begun w ≡ Some r → n ≡ passed ws r → (n ≡ length ws → run ws r ≡ Some q) → (n < length ws → ⊥) → command_read (Some q) ≡ None → Refuses words (length words)
refuses_all words ws w r q n is begins at reads all none =
    let whole = all_read ws r n at all in
    let count : length (w ∷ ws) ≡ suc (passed ws r) = omega (arith, whole, at) in
    subst (λ (x : List Word). Refuses x (length x)) (sym is)
    (refused (w ∷ ws) (length (w ∷ ws)) (ap (λ (x : Option Reading). command_read (option_and_then (run ws) x)) begins ∙ ap command_read (reads whole) ∙ none) (count ∙ ap (passed_by (passed ws)) (sym begins)))

pub takes : (words ws : List Word) (w : Word) (r q : Reading) (n : ℕ) (command : PlainCommand) → words ≡ w ∷ ws → begun w ≡ Some r → n ≡ passed ws r → (n ≡ length ws → run ws r ≡ Some q) → (n < length ws → ⊥) → command_read (Some q) ≡ Some command → IsCommand command words
takes words ws w r q n command is begins at reads all made =
    let whole = all_read ws r n at all in
    let name = named_by w (command_named w) r refl begins in
    let has = run_keeps ws r q [] (subst (λ (x : Reading). HasRead x []) name.2 (begun_is name.0)) (reads whole) in
    let same : command_named w ≡ Some q.command = name.1 ∙ ap Some (ap (λ (x : Reading). x.command) name.2 ∙ sym (run_command ws r q (reads whole))) in
    subst (IsCommand command) (sym is) (ended_command q w ws command same has made)

pub no_words : {A : Type 0} (ws : List A) → length ws ≡ 0 → ws ≡ []
no_words [] h = refl
no_words (w ∷ ws) h = cc
