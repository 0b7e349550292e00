-- The parts of patterns: where memory may be wanting, and the sizes of texts one after another.
use Rattle.std.proofs.Common.{◌≡◌, ◌<◌, ◌≤◌, ℕ, suc, Bool, true, false, nat_le, if◌then◌else◌, List, [], ◌∷◌, length, map, drop, drop-cons, get_or, String, Ok, Err, refl, sym, ap, ◌∙◌, string_bytes}
use Rattle.std.specs.declared.alloc.Global.{Global}
use Rattle.std.proofs.lemmas.Bool.{le-leb, lt-leb}
use Rattle.std.proofs.lemmas.List.{drop_all}
use Rattle.cov_programs.specs.Ends.{IsOpen, Follows}
use Rattle.cov_programs.specs.Objects.{nobody}
use Rattle.cov_programs.proofs.Composing.{followed-so, gives, refuses}
use Rattle.cov_programs.proofs.Each.{then-open}
use Rattle.cov_programs.specs.Programs.{bind}
use Rattle.cov_step.specs.Calls.{Call, Answer, Patterns, Step, IsNoMemory, refuse}
use Rattle.cov_step.specs.Phases.{few, short, most_patterns, most_pattern_bytes, patterns_by}
use Rattle.cov_why.specs.Answers.{limit}
use Rattle.cov_why.specs.declared.why.LimitKind.TheVariants as limits
use Rattle.cov_calls.specs.Parts.{making}

cond-open : {A : Type 0} (b : Bool) (p q : Step A) → IsOpen p → IsOpen q → IsOpen (if b then p else q)
cond-open true p q h k = h
cond-open false p q h k = k

pub few-open : (texts : List (List ℕ)) → IsOpen (few texts)
few-open texts = cond-open (nat_le (length texts) most_patterns) _ _ tt tt

pub short-open : (texts : List (List ℕ)) → IsOpen (short texts)
short-open [] = tt
short-open (text ∷ texts) = cond-open (nat_le (length text) most_pattern_bytes) _ _ (short-open texts) tt

-- what is left to do of patterns: after the sizes of the first list, after both counts, after one
abbrev pub lasting : List (List ℕ) → List (List ℕ) → Step Patterns
lasting exclude partial = bind (short partial) (λ d. making exclude partial)

abbrev pub sizing : List (List ℕ) → List (List ℕ) → Step Patterns
sizing exclude partial = bind (short exclude) (λ c. lasting exclude partial)

abbrev pub counting : List (List ℕ) → List (List ℕ) → Step Patterns
counting exclude partial = bind (few partial) (λ b. sizing exclude partial)

pub lasting-open : (exclude partial : List (List ℕ)) → IsOpen (lasting exclude partial)
lasting-open exclude partial = then-open (short partial) _ (short-open partial) (λ d. tt)

pub sizing-open : (exclude partial : List (List ℕ)) → IsOpen (sizing exclude partial)
sizing-open exclude partial = then-open (short exclude) _ (short-open exclude) (λ c. lasting-open exclude partial)

pub counting-open : (exclude partial : List (List ℕ)) → IsOpen (counting exclude partial)
counting-open exclude partial = then-open (few partial) _ (few-open partial) (λ b. sizing-open exclude partial)

pub patterns-open : (exclude partial : List (List ℕ)) → IsOpen (patterns_by exclude partial)
patterns-open exclude partial = then-open (few exclude) _ (few-open exclude) (λ a. counting-open exclude partial)

-- ---- one text after another

module _ (all : List (String Global)) (i : ℕ) (so : short (map string_bytes all) ≡ short (map string_bytes (drop i all))) where
  at : (x : String Global) → i < length all → x ≡ get_or all i x → short (map string_bytes all) ≡ short (string_bytes x ∷ map string_bytes (drop (suc i) all))
  at x h is = so ∙ ap (λ (r : List (String Global)). short (map string_bytes r)) (drop-cons all i x h) ∙ ap (λ (y : String Global). short (string_bytes y ∷ map string_bytes (drop (suc i) all))) (sym is)

  pub passes : (x : String Global) → i < length all → x ≡ get_or all i x → length (string_bytes x) ≤ most_pattern_bytes → short (map string_bytes all) ≡ short (map string_bytes (drop (suc i) all))
  passes x h is small =
      at x h is
      ∙ ap (λ (b : Bool). if b then short (map string_bytes (drop (suc i) all)) else refuse (limit limits.PatternBytes (length (string_bytes x)))) (le-leb (length (string_bytes x)) most_pattern_bytes small)

  pub stops-short : (x : String Global) → i < length all → x ≡ get_or all i x → most_pattern_bytes < length (string_bytes x)
      → Follows (nobody Call Answer) IsNoMemory (short (map string_bytes all)) tt (Err (Err (limit limits.PatternBytes (length (string_bytes x))))) tt
  stops-short x h is large =
      followed-so (nobody Call Answer)
      (sym (at x h is ∙ ap (λ (b : Bool). if b then short (map string_bytes (drop (suc i) all)) else refuse (limit limits.PatternBytes (length (string_bytes x)))) (lt-leb (length (string_bytes x)) most_pattern_bytes large)))
      refl refuses

  pub all-short : length all ≤ i → Follows (nobody Call Answer) IsNoMemory (short (map string_bytes all)) tt (Ok tt) tt
  all-short h = followed-so (nobody Call Answer) (sym (so ∙ ap (λ (r : List (String Global)). short (map string_bytes r)) (drop_all i all h))) refl gives
