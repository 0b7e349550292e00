-- Programs one after another, taken apart: a program over a list is the fold.
use Rattle.std.proofs.Common.{inl, inr, List, [], ◌∷◌, refl, sym, subst, Result, Ok, Err}
use Rattle.cov_programs.specs.Programs.{Program, give, settle, refuse, ask, bind, each}
use Rattle.cov_programs.specs.Objects.{Moves}
use Rattle.cov_programs.specs.Ends.{Starves, Ends}
use Rattle.cov_programs.specs.Laws.{Parted, Folds}
use Rattle.cov_programs.proofs.Results.{ok_no_err}

module _ {C : Type 0} {Answer : C → Type 0} {R W : Type 0} (moves : Moves C Answer W) (wants : R → Type 0) where
  starved : {A B : Type 0} {old new : W} {e : Result B R} (s : Starves wants old e new) → Starves {A = A} wants old (Err s.why) new
  starved s = record { why = s.why; wanting = s.wanting; is = refl; same = s.same }

  pub parted : {A B : Type 0} (p : Program C Answer R A) (next : A → Program C Answer R B) (old new : W) (e : Result B R) → Ends moves wants (bind p next) old e new → Parted moves wants p next old e new
  parted (give a) next old new e h = inl (a, old, inr (refl, refl), h)
  parted (settle a) next old new e h = inl (a, old, (refl, refl), h)
  parted (refuse r) next old new e (inl s) = inr (s.why, inl (starved s), s.is)
  parted (refuse r) next old new e (inr (is, same)) = inr (r, inr (refl, same), is)
  parted (ask call f) next old new e (inl s) = inr (s.why, inl (starved s), s.is)
  parted {A} (ask call f) next old new e (inr (x, u, m, rest)) = more (parted (f x) next u new e rest)
    where
      more : Parted moves wants (f x) next u e new → Parted moves wants (ask call f) next old e new
      more (inl (a, mid, first, second)) = inl (a, mid, inr (x, u, m, first), second)
      more (inr (r, first, is)) = inr (r, inr (x, u, m, first), is)

  -- what gave values may also want memory after them
  folds-starve : {A B : Type 0} (p : A → Program C Answer R B) (xs : List A) (old new : W) (more : List B) (r : R) → wants r → Folds moves wants p xs old (Ok more) new → Folds moves wants p xs old (Err r) new
  folds-starve p [] old new more r h (inl s) = absurd (ok_no_err s.is)
  folds-starve p [] old new more r h (inr (is, same)) = inl (record { why = r; wanting = h; is = refl; same = same })
  folds-starve p (x ∷ rest) old new more r h (inl (b, mid, Ok later, one, others, is)) = inl (b, mid, Err r, one, folds-starve p rest mid new later r h others, refl)
  folds-starve p (x ∷ rest) old new more r h (inl (b, mid, Err q, one, others, is)) = absurd (ok_no_err is)
  folds-starve p (x ∷ rest) old new more r h (inr (q, one, is)) = absurd (ok_no_err is)

  two : {A B : Type 0} (p : A → Program C Answer R B) (x : A) (rest : List A) (b : B) (old mid new : W) (e : Result (List B) R) → Ends moves wants (p x) old (Ok b) mid
      → ((d : Result (List B) R) (v : W) → Ends moves wants (each p rest) mid d v → Folds moves wants p rest mid d v)
      → Parted moves wants (each p rest) (λ more. give (b ∷ more)) mid e new → Folds moves wants p (x ∷ rest) old e new
  two p x rest b old mid new e one ih (inr (r, all, is)) = inl (b, mid, Err r, one, ih (Err r) new all, is)
  two p x rest b old mid new e one ih (inl (more, last, all, inl s)) =
      inl (b, mid, Err s.why, one, subst (λ w. Folds moves wants p rest mid (Err s.why) w) (sym s.same) (folds-starve p rest mid last more s.why s.wanting (ih (Ok more) last all)), s.is)
  two p x rest b old mid new e one ih (inl (more, last, all, inr (is, same))) =
      inl (b, mid, Ok more, one, subst (λ w. Folds moves wants p rest mid (Ok more) w) (sym same) (ih (Ok more) last all), is)

  one-of : {A B : Type 0} (p : A → Program C Answer R B) (x : A) (rest : List A) (old new : W) (e : Result (List B) R)
      → ((u v : W) (d : Result (List B) R) → Ends moves wants (each p rest) u d v → Folds moves wants p rest u d v)
      → Parted moves wants (p x) (λ b. bind (each p rest) (λ more. give (b ∷ more))) old e new → Folds moves wants p (x ∷ rest) old e new
  one-of p x rest old new e ih (inr (r, one, is)) = inr (r, one, is)
  one-of p x rest old new e ih (inl (b, mid, one, others)) = two p x rest b old mid new e one (λ d v. ih mid v d) (parted (each p rest) (λ more. give (b ∷ more)) mid new e others)

  -- a list: the fold
  pub folds : {A B : Type 0} (p : A → Program C Answer R B) (xs : List A) (old new : W) (e : Result (List B) R) → Ends moves wants (each p xs) old e new → Folds moves wants p xs old e new
  folds p [] old new e h = h
  folds p (x ∷ rest) old new e h = one-of p x rest old new e (λ u v d. folds p rest u v d) (parted (p x) (λ b. bind (each p rest) (λ more. give (b ∷ more))) old new e h)
