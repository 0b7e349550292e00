-- What items tell comes after what was told before.
use Rattle.std.proofs.Common.{◌≡◌, ℕ, suc, Bool, true, false, List, [], ◌∷◌, ◌++◌, Ok, Err, refl, sym, ap, ◌∙◌, subst, append_assoc}
use Rattle.std.proofs.lemmas.List.{append-nil}
use Rattle.cov_event.specs.declared.event.Event.{Event}
use Rattle.cov_event.specs.declared.event.Event.TheVariants.{Call, Line, Throw, Return}
use Rattle.py_value.specs.Plain.{PlainValue}
use Rattle.py_syntax.specs.Tree.{Text}
use Rattle.py_meaning.specs.Activations.{mark, again, throw, sub, Activation, activation, Items, no_items, more, is_kept}
use Rattle.py_meaning.specs.Calls.{enter}
use Rattle.py_meaning.specs.Computations.{Setting, State, Res, done, cut, Ans, bind, put, give, chain, read, write, tick}
use Rattle.py_meaning.specs.Events.{line_unless, return_if, told, told_of}
use Rattle.py_meaning.specs.Frames.{back_in, answer_of, left_by, framed, begun, ended, in_unit, calls}
use Rattle.py_meaning.specs.Laws.{script_code, TellsItsItems, EventsLaw}
use Rattle.py_meaning.specs.Loading.{Program, loaded}
use Rattle.py_meaning.specs.Modules.{LoadedModule}
use Rattle.py_meaning.specs.Program.{run_modules, meaning, run_of, first_world, at_rest}
use Rattle.py_meaning.specs.Statements.{Out}

line-after : (kept : Bool) (l : ℕ) (es fs gs : List Event) → fs ≡ es ++ gs → line_unless kept l fs ≡ es ++ line_unless kept l gs
line-after true l es fs gs e = e
line-after false l es fs gs e = ap (λ w. w ++ Line l ∷ []) e ∙ append_assoc es gs (Line l ∷ [])

return-after : (ended : Bool) (es fs gs : List Event) → fs ≡ es ++ gs → return_if ended fs ≡ es ++ return_if ended gs
return-after true es fs gs e = ap (λ w. w ++ Return ∷ []) e ∙ append_assoc es gs (Return ∷ [])
return-after false es fs gs e = e

mutual
  unfolding told told_of

  pub told-after_it : (es : List Event) (is : Items) → told es is ≡ es ++ told [] is
  told-after_it es no_items = sym (append-nil es)
  told-after_it es (more is (mark l)) = line-after (is_kept l is) l es (told es is) (told [] is) (told-after_it es is)
  told-after_it es (more is (again l)) = line-after false l es (told es is) (told [] is) (told-after_it es is)
  told-after_it es (more is (throw kind)) = ap (λ w. w ++ Throw kind ∷ []) (told-after_it es is) ∙ append_assoc es (told [] is) (Throw kind ∷ [])
  told-after_it es (more is (sub a)) =
      ap (λ w. told_of w a) (told-after_it es is) ∙ told-after_of (es ++ told [] is) a ∙ append_assoc es (told [] is) (told_of [] a)
      ∙ ap (λ w. es ++ w) (sym (told-after_of (told [] is) a))

  pub told-after_of : (es : List Event) (a : Activation) → told_of es a ≡ es ++ told_of [] a
  told-after_of es (activation code is ended) =
      return-after ended es (told (es ++ Call code ∷ []) is) (told (Call code ∷ []) is)
      (told-after_it (es ++ Call code ∷ []) is ∙ append_assoc es (Call code ∷ []) (told [] is) ∙ ap (λ w. es ++ w) (sym (told-after_it (Call code ∷ []) is)))

-- one item, the script's, after what the end of the body does to the world
one_item : (budget : ℕ) (s : State) (a : Ans PlainValue) (now : Setting) (out : List ℕ) (is : Items) (n : ℕ)
    → TellsItsItems (run_of budget (ended 0 a (record { now = now; out = out; items = more no_items (sub (activation script_code is true)) }) n)).items
unfolding told give write
one_item budget s (Ok v) now out is n = record { inside = is; ended = true; is = refl; told = refl }
one_item budget s (Err e) now out is n = record { inside = is; ended = true; is = refl; told = refl }

left_items : (budget : ℕ) (s : State) → s.items ≡ no_items → (r : Res Out) → TellsItsItems (run_of budget (bind (left_by script_code s r) (ended 0))).items
unfolding told
left_items budget s none (done o t n) =
    subst (λ is. TellsItsItems (run_of budget (ended 0 (answer_of o) (record { now = back_in s.now t.now; out = t.out; items = more is (sub (activation script_code t.items true)) }) n)).items) (sym none)
    (one_item budget s (answer_of o) (back_in s.now t.now) t.out t.items n)
left_items budget s none (cut t) = record { inside = t.items; ended = false; is = ap (λ w. more w (sub (activation script_code t.items false))) none; told = ap (λ w. told [] (more w (sub (activation script_code t.items false)))) none }

modules_tell : (ms : List LoadedModule) (words : List Text) (input : List ℕ) (budget : ℕ) → TellsItsItems (run_modules ms words input (suc budget)).items
unfolding run_modules enter read calls tick in_unit write chain framed
modules_tell ms words input budget = left_items (suc budget) (put (begun ms 0) (at_rest (first_world ms words) input)) refl _

run_tells : (program : Program) (words : List Text) (input : List ℕ) (budget : ℕ) → TellsItsItems (meaning program words input (suc budget)).items
unfolding meaning
run_tells program words input budget = modules_tell (loaded program) words input budget

pub events_law : EventsLaw
events_law = record { after = told-after_it; after_of = told-after_of; of_run = run_tells; of_modules = modules_tell }
