-- What is written and told only grows.
use Rattle.std.proofs.Common.{ℕ, Bool, true, false, List, [], ◌∷◌, ◌++◌, refl, sym, ap, ◌∙◌, append_assoc}
use Rattle.std.proofs.lemmas.List.{append-nil}
use Rattle.cov_event.specs.declared.event.Event.{Event}
use Rattle.cov_event.specs.declared.event.Event.TheVariants.{Call}
use Rattle.cov_outside.specs.Prefixes.{IsPrefix}
use Rattle.py_meaning.specs.Activations.{Item, mark, again, throw, sub, Activation, activation, Items, no_items, more, is_kept}
use Rattle.py_meaning.specs.Computations.{State, add}
use Rattle.py_meaning.specs.Events.{line_unless, return_if, told, told_of}

pub begins-itself : {A : Type 0} (xs : List A) → IsPrefix xs xs
begins-itself xs = record { rest = []; is = sym (append-nil xs) }

pub begins-trans : {A : Type 0} {xs ys zs : List A} → IsPrefix xs ys → IsPrefix ys zs → IsPrefix xs zs
begins-trans {xs = xs} p q = record { rest = p.rest ++ q.rest; is = q.is ∙ ap (λ w. w ++ q.rest) p.is ∙ append_assoc xs p.rest q.rest }

pub begins-append : {A : Type 0} (xs ys : List A) → IsPrefix xs (xs ++ ys)
begins-append xs ys = record { rest = ys; is = refl }

line-grows : (kept : Bool) (l : ℕ) (es : List Event) → IsPrefix es (line_unless kept l es)
line-grows true l es = begins-itself es
line-grows false l es = begins-append es _

pub return-grows : (ended : Bool) (es : List Event) → IsPrefix es (return_if ended es)
return-grows true es = begins-append es _
return-grows false es = begins-itself es

mutual
  unfolding told told_of

  -- what is told comes after what came before
  pub told-after : (es : List Event) (is : Items) → IsPrefix es (told es is)
  told-after es no_items = begins-itself es
  told-after es (more is (mark l)) = begins-trans (told-after es is) (line-grows (is_kept l is) l (told es is))
  told-after es (more is (again l)) = begins-trans (told-after es is) (begins-append (told es is) _)
  told-after es (more is (throw kind)) = begins-trans (told-after es is) (begins-append (told es is) _)
  told-after es (more is (sub a)) = begins-trans (told-after es is) (told-after-of (told es is) a)

  told-after-of : (es : List Event) (a : Activation) → IsPrefix es (told_of es a)
  told-after-of es (activation code is ended) =
      begins-trans (begins-append es _) (begins-trans (told-after (es ++ Call code ∷ []) is) (return-grows ended _))

-- an item tells more
pub told-more : (es : List Event) (is : Items) (i : Item) → IsPrefix (told es is) (told es (more is i))
unfolding told
told-more es is (mark l) = line-grows (is_kept l is) l (told es is)
told-more es is (again l) = begins-append (told es is) _
told-more es is (throw kind) = begins-append (told es is) _
told-more es is (sub a) = told-after-of (told es is) a

-- what was written and told up to a state is the beginning of that up to another
abbrev pub Before : State → State → Type 0
Before s t = IsPrefix s.out t.out × ((es : List Event) → IsPrefix (told es s.items) (told es t.items))

pub before-itself : (s : State) → Before s s
before-itself s = (begins-itself s.out, λ es. begins-itself (told es s.items))

pub before-trans : (s t u : State) → Before s t → Before t u → Before s u
before-trans s t u p q = (begins-trans p.0 q.0, λ es. begins-trans (p.1 es) (q.1 es))

pub before-add : (i : Item) (s : State) → Before s (add i s)
before-add i s = (begins-itself s.out, λ es. told-more es s.items i)
