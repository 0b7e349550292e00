-- A command that is refused by a fault of an object raised that object's count; of objects side by side.
use Rattle.std.proofs.Common.{◌≡◌, ◌⊎◌, inl, inr, ◌∙◌, ℕ, ◌≤◌, ◌<◌, Bool, true, false, true≢false, refl, sym, ap, subst, List, Option, Some, None, Result, Ok, Err, arith}
use Rattle.std.specs.Prelude.{nat_eq}
use Rattle.cov_outside.specs.Counts.{greatest, Rose}
use Rattle.cov_programs.specs.Objects.{Moves, beside}
use Rattle.cov_programs.specs.Ends.{Ends, Follows}
use Rattle.cov_programs.specs.Laws.{BlamesOnly, Brought, Counting}
use Rattle.cov_programs.proofs.Counting.{blames}
use Rattle.cov_programs.proofs.Later.{ends-onward}
use Rattle.cov_why.specs.Answers.{Refusal, PlainWhy, no_memory}
use Rattle.cov_words.specs.Values.{Word}
use Rattle.cov_step.specs.Calls.{Call, Answer, Answered, Step, IsNoMemory}
use Rattle.cov_step.specs.Step.{step}
use Rattle.cov_step.specs.Promises.{Object, the_input, the_output, the_shelf, the_vault, the_maker, number_of, blame_of, blamed, is_object, brings}
use Rattle.cov_step.proofs.Blames.{law_of_blame}

-- ---- counts

pub raised-on : (a b c : ℕ) → a ≤ b → Rose b c → Rose a c
raised-on a b c h (inl less) = inl (omega (arith, h, less))
raised-on a b c h (inr full) = inr full

pub stays-raised : (a b c : ℕ) → Rose a b → b ≤ c → Rose a c
stays-raised a b c (inl less) h = inl (omega (arith, h, less))
stays-raised a b c (inr full) h = inr (omega (arith, h, full))

-- an object by its number
which : (o p : Object) → nat_eq (number_of p) (number_of o) ≡ true → p ≡ o
which the_input the_input e = refl
which the_input the_output e = absurd (true≢false (sym e))
which the_input the_shelf e = absurd (true≢false (sym e))
which the_input the_vault e = absurd (true≢false (sym e))
which the_input the_maker e = absurd (true≢false (sym e))
which the_output the_input e = absurd (true≢false (sym e))
which the_output the_output e = refl
which the_output the_shelf e = absurd (true≢false (sym e))
which the_output the_vault e = absurd (true≢false (sym e))
which the_output the_maker e = absurd (true≢false (sym e))
which the_shelf the_input e = absurd (true≢false (sym e))
which the_shelf the_output e = absurd (true≢false (sym e))
which the_shelf the_shelf e = refl
which the_shelf the_vault e = absurd (true≢false (sym e))
which the_shelf the_maker e = absurd (true≢false (sym e))
which the_vault the_input e = absurd (true≢false (sym e))
which the_vault the_output e = absurd (true≢false (sym e))
which the_vault the_shelf e = absurd (true≢false (sym e))
which the_vault the_vault e = refl
which the_vault the_maker e = absurd (true≢false (sym e))
which the_maker the_input e = absurd (true≢false (sym e))
which the_maker the_output e = absurd (true≢false (sym e))
which the_maker the_shelf e = absurd (true≢false (sym e))
which the_maker the_vault e = absurd (true≢false (sym e))
which the_maker the_maker e = refl

whose : (o : Object) (b : Option Object) → is_object o b ≡ true → b ≡ Some o
whose o None e = absurd (true≢false (sym e))
whose o (Some p) e = ap Some (which o p e)

blame-fed : (r : Refusal) (o : Object) → blame_of r ≡ Some o → ◌≡◌ {A = PlainWhy} (Err r) (Err no_memory) → ⊥
blame-fed r o e h = no-one (sym (ap blame_of (is h)) ∙ e)
  where
    is : ◌≡◌ {A = PlainWhy} (Err r) (Err no_memory) → r ≡ no_memory
    is x = cc

    no-one : ◌≡◌ {A = Option Object} None (Some o) → ⊥
    no-one x = cc

-- ---- a count that never falls

pub never-falls : {W : Type 0} (moves : Moves Call Answer W) (count : W → ℕ) → ((u : W) (call : Call) (x : Answer call) (v : W) → moves u call x v → count u ≤ count v)
    → {A : Type 0} (p : Step A) (old new : W) (e : Result A PlainWhy) → Follows moves IsNoMemory p old e new → count old ≤ count new
never-falls moves count later p old new e f =
    ends-onward moves IsNoMemory (λ u v. count u ≤ count v) (λ u. omega arith) (λ u v w g h. omega (arith, g, h)) later p old new e f.ends

-- ---- a command

module _ {W : Type 0} (moves : Moves Call Answer W) (count : W → ℕ) (o : Object)
    (later : (u : W) (call : Call) (x : Answer call) (v : W) → moves u call x v → count u ≤ count v)
    (rose : (u : W) (call : Call) (x : Answer call) (v : W) → moves u call x v → blamed call x ≡ Some o → Rose (count u) (count v)) where
  abbrev counting : Counting W
  counting = record {
    Later = λ u v. count u ≤ count v;
    still = λ w. omega arith;
    onward = λ g h. omega (arith, g, h);
    NoneRose = λ u v. count v ≤ count u;
    before = λ g h n. omega (arith, g, h, n);
    after = λ g h n. omega (arith, g, h, n);
  }

  pub raised : (r : Refusal) → blame_of r ≡ Some o → (words : List Word) (old new : W) → Follows moves IsNoMemory (step words) old (Err (Err r)) new → Rose (count old) (count new)
  raised r e words old new f =
      let b = blames moves IsNoMemory counting (brings o) (Err r) (blame-fed r o e) later (step words) old new (law_of_blame o r e words) f.ends in
      stays-raised (count old) (count b.after) (count new) (raised-on (count old) (count b.before) (count b.after) b.early (rose b.before b.call b.answer b.after b.moved (whose o (blamed b.call b.answer) b.is))) b.late

-- ---- objects side by side

module _ {U V : Type 0} (left : Moves Call Answer U) (right : Moves Call Answer V) where
  pub left-later : (count : U → ℕ) → ((u : U) (call : Call) (x : Answer call) (v : U) → left u call x v → count u ≤ count v)
      → (p : U × V) (call : Call) (x : Answer call) (q : U × V) → beside left right p call x q → count p.0 ≤ count q.0
  left-later count h p call x q (inl (m, same)) = h p.0 call x q.0 m
  left-later count h p call x q (inr (m, same)) = subst (λ u. count p.0 ≤ count u) (sym same) (omega arith)

  pub right-later : (count : V → ℕ) → ((u : V) (call : Call) (x : Answer call) (v : V) → right u call x v → count u ≤ count v)
      → (p : U × V) (call : Call) (x : Answer call) (q : U × V) → beside left right p call x q → count p.1 ≤ count q.1
  right-later count h p call x q (inl (m, same)) = subst (λ u. count p.1 ≤ count u) (sym same) (omega arith)
  right-later count h p call x q (inr (m, same)) = h p.1 call x q.1 m

  pub left-rose : (o : Object) (count : U → ℕ) → ((u : U) (call : Call) (x : Answer call) (v : U) → left u call x v → blamed call x ≡ Some o → Rose (count u) (count v))
      → ((u : V) (call : Call) (x : Answer call) (v : V) → right u call x v → blamed call x ≡ Some o → ⊥)
      → (p : U × V) (call : Call) (x : Answer call) (q : U × V) → beside left right p call x q → blamed call x ≡ Some o → Rose (count p.0) (count q.0)
  left-rose o count h other p call x q (inl (m, same)) e = h p.0 call x q.0 m e
  left-rose o count h other p call x q (inr (m, same)) e = absurd (other p.1 call x q.1 m e)

  pub right-rose : (o : Object) (count : V → ℕ) → ((u : V) (call : Call) (x : Answer call) (v : V) → right u call x v → blamed call x ≡ Some o → Rose (count u) (count v))
      → ((u : U) (call : Call) (x : Answer call) (v : U) → left u call x v → blamed call x ≡ Some o → ⊥)
      → (p : U × V) (call : Call) (x : Answer call) (q : U × V) → beside left right p call x q → blamed call x ≡ Some o → Rose (count p.1) (count q.1)
  right-rose o count h other p call x q (inl (m, same)) e = absurd (other p.0 call x q.0 m e)
  right-rose o count h other p call x q (inr (m, same)) e = h p.1 call x q.1 m e

  -- neither is blamed
  pub neither : (o : Object) → ((u : U) (call : Call) (x : Answer call) (v : U) → left u call x v → blamed call x ≡ Some o → ⊥)
      → ((u : V) (call : Call) (x : Answer call) (v : V) → right u call x v → blamed call x ≡ Some o → ⊥)
      → (p : U × V) (call : Call) (x : Answer call) (q : U × V) → beside left right p call x q → blamed call x ≡ Some o → ⊥
  neither o h g p call x q (inl (m, same)) e = h p.0 call x q.0 m e
  neither o h g p call x q (inr (m, same)) e = g p.1 call x q.1 m e
