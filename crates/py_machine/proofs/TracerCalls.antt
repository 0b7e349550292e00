-- Calls of a tracer, one after another.
use Rattle.std.proofs.Common.{List, [], ◌∷◌, ◌++◌, Bool, true, false, inl, inr, refl, subst}
use Rattle.cov_event.specs.declared.event.Event.{Event}
use Rattle.cov_event.specs.Moves.{Takes, Calls}
use Rattle.py_machine.specs.Told.{TakesSome, CallsSome}

module _ {T : Type 0} (moves refused : T → Event → T → Type 0) where
  calls_both : (a b c : T) (xs ys : List (Event × Bool)) → Calls moves refused a xs b → Calls moves refused b ys c → Calls moves refused a (xs ++ ys) c
  calls_both a b c [] ys h k = subst (λ x. Calls moves refused x ys c) h k
  calls_both a b c (x ∷ xs) ys h k = (h.0, h.1, calls_both h.0 b c xs ys h.2 k)

  pub calls_none : (a : T) → CallsSome moves refused a a
  calls_none a = ([], refl)

  pub calls_then : (a b c : T) → CallsSome moves refused a b → CallsSome moves refused b c → CallsSome moves refused a c
  calls_then a b c h k = (h.0 ++ k.0, calls_both a b c h.0 k.0 h.1 k.1)

  pub calls_one : (a b : T) (event : Event) → moves a event b → CallsSome moves refused a b
  calls_one a b event h = ((event, true) ∷ [], (b, h, refl))

  pub calls_refused : (a b : T) (event : Event) → refused a event b → CallsSome moves refused a b
  calls_refused a b event h = ((event, false) ∷ [], (b, h, refl))

  pub calls_taken : (a b : T) (es : List Event) → Takes moves a es b → CallsSome moves refused a b
  calls_taken a b [] h = ([], h)
  calls_taken a b (e ∷ es) h = calls_then a h.0 b (calls_one a h.0 e h.1) (calls_taken h.0 b es h.2)

  pub calls_some : (a b : T) (es : List Event) → TakesSome moves refused a es b → CallsSome moves refused a b
  calls_some a b es (inl h) = calls_taken a b es h
  calls_some a b es (inr k) = calls_then a k.mid b (calls_taken a k.mid k.taken k.has_taken) (calls_refused k.mid b k.last k.has_refused)
