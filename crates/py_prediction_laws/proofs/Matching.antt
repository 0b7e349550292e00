-- A pattern that is irrefutable never misses, so that what stands after its case isn't tried.
use Rattle.std.proofs.Common.{ℕ, Bool, true, false, not, ◌||◌, IsTrue, [], ◌∷◌, Option, Some, None, Ok, Err, refl, ◌⊎◌, inl, inr, ⊎_elim}
use Rattle.py_value.specs.Answers.{◌>>=◌}
use Rattle.py_value.specs.Plain.{PlainValue, PlainRaised}
use Rattle.py_syntax.specs.LastMarks.{is_sure}
use Rattle.py_syntax.specs.Patterns.{is_irrefutable, has_irrefutable}
use Rattle.py_syntax.specs.Tree.{Expr, Pattern, literal, capture, wild, member, sequence, p_or, p_as, p_paren, Patterns, no_patterns, patterns}
use Rattle.py_builtins.specs.World.{Names}
use Rattle.py_meaning.specs.Computations.{Setting, Ans, M, ask}
use Rattle.py_meaning.specs.Patterns.{Match, and_then, or_else, matched, matched_one}
use Rattle.py_meaning.specs.Places.{Scope}
use Rattle.py_meaning.specs.Statements.{Out, raises, on_answer, on_match, using}
use Rattle.py_prediction_laws.proofs.Members.{untrue}
use Rattle.py_prediction_laws.proofs.Tracks.{Fact}
use Rattle.py_prediction_laws.proofs.Posts.{Frame, Goes, throws, uses-asked}

-- an answer that isn't a miss
abbrev Hits : Ans Match → Type 0
Hits (Ok None) = ⊥
Hits (Ok (Some names)) = Unit {0}
Hits (Err e) = Unit {0}

or-cases : (a b : Bool) → IsTrue (a || b) → IsTrue a ⊎ IsTrue b
or-cases true b h = inl refl
or-cases false b h = inr h

as-hits : (m : Ans Match) (n : Names) → Hits m → Hits (m >>= λ found. and_then found (Ok (Some n)))
as-hits (Ok None) n h = absurd h
as-hits (Ok (Some names)) n h = tt
as-hits (Err e) n h = tt

or-hits : (m n : Ans Match) → Hits m ⊎ Hits n → Hits (m >>= λ found. or_else found n)
or-hits (Ok None) n (inl h) = absurd h
or-hits (Ok None) n (inr h) = h
or-hits (Ok (Some names)) n h = tt
or-hits (Err e) n h = tt

mutual
  unfolding matched matched_one

  hits : (p : Scope) (w : Setting) (q : Pattern) (v : PlainValue) → IsTrue (is_irrefutable q) → Hits (matched p w q v)
  hits p w (literal minus c) v h = absurd (untrue h)
  hits p w (capture x) v h = tt
  hits p w wild v h = tt
  hits p w (member m x) v h = absurd (untrue h)
  hits p w (sequence brackets qs comma) v h = absurd (untrue h)
  hits p w (p_or qs) v h = one-hits p w qs v h
  hits p w (p_as q x) v h = as-hits (matched p w q v) ((x, v) ∷ []) (hits p w q v h)
  hits p w (p_paren q) v h = hits p w q v h

  one-hits : (p : Scope) (w : Setting) (qs : Patterns) (v : PlainValue) → IsTrue (has_irrefutable qs) → Hits (matched_one p w qs v)
  one-hits p w no_patterns v h = absurd (untrue h)
  one-hits p w (patterns q qs) v h =
      or-hits (matched p w q v) (matched_one p w qs v) (⊎_elim (λ a. inl (hits p w q v a)) (λ b. inr (one-hits p w qs v b)) (or-cases (is_irrefutable q) (has_irrefutable qs) h))

sure-pattern : (q : Pattern) (g : Option Expr) → IsTrue (is_sure q g) → IsTrue (is_irrefutable q)
sure-pattern q None h = h
sure-pattern q (Some e) h = absurd (untrue h)

unsure : (b : Bool) → (IsTrue b → ⊥) → IsTrue (not b)
unsure true h = absurd (h refl)
unsure false h = refl

-- what follows a pattern: its case, or the cases after it where the pattern isn't sure
module _ (F : Frame) (pre : Fact) (post : Out → Fact) (taken : Names → M Out) (rest : M Out) where
  found-goes : (b : Bool) (a : Ans Match) → (IsTrue b → Hits a) → ((names : Names) → Goes F pre (taken names) post) → (IsTrue (not b) → Goes F pre rest post) → ((e : PlainRaised) (k : ℕ) (t : Bool) → pre k t → post (raises e true) k true)
      → Goes F pre (on_answer a (λ found. on_match found taken rest)) post
  found-goes b (Ok None) h ht hr he = hr (unsure b h)
  found-goes b (Ok (Some names)) h ht hr he = ht names
  found-goes b (Err e) h ht hr he = throws F pre e post (he e)

  pub match-goes : (p : Scope) (q : Pattern) (g : Option Expr) (v : PlainValue) → ((names : Names) → Goes F pre (taken names) post) → (IsTrue (not (is_sure q g)) → Goes F pre rest post) → ((e : PlainRaised) (k : ℕ) (t : Bool) → pre k t → post (raises e true) k true)
      → Goes F pre (using (ask (λ w. matched p w q v)) (λ found. on_match found taken rest)) post
  match-goes p q g v ht hr he = uses-asked F pre _ _ post (λ w. found-goes (is_sure q g) (matched p w q v) (λ s. hits p w q v (sure-pattern q g s)) ht hr he)
