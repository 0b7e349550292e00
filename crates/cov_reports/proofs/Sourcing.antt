-- Sources that are read one after another.
use Rattle.std.proofs.Common.{◌≡◌, ℕ, suc, zero, ◌+◌, ◌<◌, ◌≤◌, List, [], ◌∷◌, ◌++◌, map, length, drop, get_or, String, Global, string_bytes, refl, sym, ap, ◌∙◌, subst, Ok, Err, add-one, arith}
use Rattle.std.proofs.lemmas.List.{drop_all, length-map}
use Rattle.cov_words.specs.Values.{Word}
use Rattle.cov_outside.specs.declared.shelf.Shelf.{Ghosts as ShelfOf}
use Rattle.cov_programs.specs.Programs.{each}
use Rattle.cov_programs.specs.Ends.{Follows, IsOpen}
use Rattle.cov_programs.proofs.Each.{IsDone, done-more, done-stops, done-starves, done-all}
use Rattle.cov_why.specs.Answers.{PlainWhy, no_memory}
use Rattle.cov_step.specs.Calls.{PlainSource, IsNoMemory}
use Rattle.cov_step.specs.Objects.{on_shelf}
use Rattle.cov_step.specs.Phases.{source}

source-open : (path : Word) → IsOpen (source path)
source-open path = tt

drop-at : {A : Type 0} (f : A → Word) (xs : List A) (i : ℕ) (d : A) → i < length xs → drop i (map f xs) ≡ f (get_or xs i d) ∷ drop (suc i) (map f xs)
drop-at f [] i d h = absurd (omega (arith, h))
drop-at f (x ∷ xs) zero d h = refl
drop-at f (x ∷ xs) (suc i) d h = drop-at f xs i d (omega (arith, h))

module _ {H : Type 0} (shelf : ShelfOf H) (all : List (String Global)) (i : ℕ) (ys : List PlainSource) (old now : H) where
  abbrev pub names : List Word
  names = map string_bytes all

  -- the path at this place is the first of the rest
  at : (path : String Global) → i < length all → path ≡ get_or all i path → IsDone (on_shelf shelf) IsNoMemory source names (drop i names) ys old now
      → IsDone (on_shelf shelf) IsNoMemory source names (string_bytes path ∷ drop (i + 1) names) ys old now
  at path h is d =
      subst (λ r. IsDone (on_shelf shelf) IsNoMemory source names r ys old now)
      (drop-at string_bytes all i path h ∙ ap (λ (p : String Global). string_bytes p ∷ drop (suc i) names) (sym is) ∙ ap (λ k. string_bytes path ∷ drop k names) (sym (add-one i))) d

  pub one-more : (path : String Global) (y : PlainSource) (mid : H) → i < length all → path ≡ get_or all i path → IsDone (on_shelf shelf) IsNoMemory source names (drop i names) ys old now
      → Follows (on_shelf shelf) IsNoMemory (source (string_bytes path)) now (Ok y) mid
      → IsDone (on_shelf shelf) IsNoMemory source names (drop (i + 1) names) (ys ++ y ∷ []) old mid
  one-more path y mid h is d f = done-more (on_shelf shelf) IsNoMemory source source-open names (drop (i + 1) names) (string_bytes path) ys y old now mid (at path h is d) f

  pub refused-there : (path : String Global) (r : PlainWhy) (new : H) → i < length all → path ≡ get_or all i path → IsDone (on_shelf shelf) IsNoMemory source names (drop i names) ys old now
      → Follows (on_shelf shelf) IsNoMemory (source (string_bytes path)) now (Err r) new
      → Follows (on_shelf shelf) IsNoMemory (each source names) old (Err r) new
  refused-there path r new h is d f = done-stops (on_shelf shelf) IsNoMemory source source-open names (drop (i + 1) names) (string_bytes path) ys r old now new (at path h is d) f

  pub wanting-there : IsDone (on_shelf shelf) IsNoMemory source names (drop i names) ys old now → Follows (on_shelf shelf) IsNoMemory (each source names) old (Err (Err no_memory)) now
  wanting-there d = done-starves (on_shelf shelf) IsNoMemory source source-open names (drop i names) ys (Err no_memory) old now d refl

  pub all-done : length all ≤ i → IsDone (on_shelf shelf) IsNoMemory source names (drop i names) ys old now → Follows (on_shelf shelf) IsNoMemory (each source names) old (Ok ys) now
  all-done h d =
      done-all (on_shelf shelf) IsNoMemory source source-open names ys old now
      (subst (λ r. IsDone (on_shelf shelf) IsNoMemory source names r ys old now) (drop_all i names (subst (λ k. k ≤ i) (sym (length-map all string_bytes)) h)) d)
