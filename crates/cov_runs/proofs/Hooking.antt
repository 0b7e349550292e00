-- A hook, by the files that it was loaded from.
use Rattle.std.proofs.Common.{◌≡◌, ◌⊎◌, inl, inr, ℕ, zero, suc, ◌<◌, Bool, true, false, ◌||◌, if◌then◌else◌, List, [], ◌∷◌, map, length, Option, Some, None, Result, Ok, Err, refl, sym, ap, ◌∙◌, subst, arith}
use Rattle.std.specs.Result.{IsErr, IsErrAnd}
use Rattle.std.specs.List.{Contains, list_any}
use Rattle.std.specs.Str.{chars}
use Rattle.cov_outside.specs.declared.shelf.Shelf.{Ghosts as ShelfOf}
use Rattle.py_code.specs.Loaded.{module_of, modules_of}
use Rattle.py_code.specs.declared.code.Program.{Program}
use Rattle.py_compile.specs.ProgramRuns.{AreFaithful}
use Rattle.py_meaning.specs.Modules.{LoadedModule}
use Rattle.py_syntax.specs.Functions.{Function, functions}
use Rattle.py_syntax.specs.Tree.{Text}
use Rattle.py_syntax.specs.declared.stmt.Module.{Module}
use Rattle.py_text.specs.Comparison.{is_same_text}
use Rattle.py_text.proofs.SameTexts.{same_text, same_text_from}
use Rattle.cov_hook.specs.States.{opened as opened_state}
use Rattle.cov_hook.specs.View.{path_of, state_of}
use Rattle.cov_hook.specs.declared.hook.Hook.{Hook}
use Rattle.cov_hook_laws.specs.Laws.{HooksMean, with_trees}
use Rattle.cov_hook_laws.specs.MeantHooks.{HasDef, name_of}
use Rattle.cov_programs.specs.Ends.{Follows, IsOpen}
use Rattle.cov_programs.specs.Objects.{Moves, nobody}
use Rattle.cov_programs.specs.Programs.{give}
use Rattle.cov_programs.proofs.Composing.{followed-so, gives, goes-on, on-nobody, refuses, starves, stops}
use Rattle.cov_programs.proofs.Results.{handed}
use Rattle.cov_run.specs.Loads.{IsCompiled, loaded_modules, loaded_pairs}
use Rattle.cov_run.specs.declared.programs.Loaded.{Loaded}
use Rattle.cov_why.specs.Answers.{Refusal, PlainWhy, no_function, no_memory, plain_why}
use Rattle.cov_why.specs.declared.why.Why.{Why}
use Rattle.cov_why.specs.declared.why.Why.TheVariants as why
use Rattle.cov_calls.specs.Views.{RefusedBy}
use Rattle.cov_step.specs.Calls.{Call, Answer, HookFiles, IsNoMemory, Step, refuse}
use Rattle.cov_step.specs.Objects.{on_shelf}
use Rattle.cov_step.specs.Phases.{defines, hook_in, hook_of, main_name, opened}
use Rattle.cov_words.specs.Values.{Word}
use Rattle.cov_runs.specs.Hooks.{IsHookOf, HookAs, AnsweredAs, HookFollows}

-- ---- the functions of a script

now-true : (b c : Bool) → b ≡ true → (b || c) ≡ true
now-true true c e = refl
now-true false c e = absurd (cc)

later-true : (b c : Bool) → c ≡ true → (b || c) ≡ true
later-true true c e = refl
later-true false c e = e

either-true : (b c : Bool) → (b || c) ≡ true → (b ≡ true) ⊎ (c ≡ true)
either-true true c e = inl refl
either-true false c e = inr e

named : (fs : List Function) (name : Text) → Contains (map name_of fs) name → list_any (λ (f : Function). is_same_text name f.name) fs ≡ true
named [] name (k, low, is) = absurd (omega (arith, low))
named (f ∷ fs) name (zero, low, is) = now-true (is_same_text name f.name) _ (same_text_from name f.name (sym is))
named (f ∷ fs) name (suc k, low, is) = later-true (is_same_text name f.name) _ (named fs name (k, omega (arith, low), is))

found-of : (f : Function) (fs : List Function) (name : Text) → (list_any (λ (f : Function). is_same_text name f.name) fs ≡ true → Contains (map name_of fs) name)
    → (is_same_text name f.name ≡ true) ⊎ (list_any (λ (f : Function). is_same_text name f.name) fs ≡ true) → Contains (map name_of (f ∷ fs)) name
found-of f fs name rest (inl here) = (zero, omega arith, sym (same_text name f.name here))
found-of f fs name rest (inr there) = let k = rest there in (suc k.0, omega (arith, k.1), k.2)

found : (fs : List Function) (name : Text) → list_any (λ (f : Function). is_same_text name f.name) fs ≡ true → Contains (map name_of fs) name
found [] name e = absurd (cc)
found (f ∷ fs) name e = found-of f fs name (found fs name) (either-true (is_same_text name f.name) (list_any (λ (f : Function). is_same_text name f.name) fs) e)

pub defined : (ms : List LoadedModule) (name : Text) → HasDef ms name → defines ms name ≡ true
defined [] name (k, low, is) = absurd (omega (arith, low))
defined (script ∷ others) name h = named (functions script.body) name h

pub undefined : (ms : List LoadedModule) (name : Text) → ¬ (HasDef ms name) → defines ms name ≡ false
undefined [] name h = refl
undefined (script ∷ others) name h = of (defines (script ∷ others) name) refl
  where
    of : (b : Bool) → defines (script ∷ others) name ≡ b → defines (script ∷ others) name ≡ false
    of true e = absurd (h (found (functions script.body) name e))
    of false e = e

-- ---- a hook that is opened

pub pairs-some : (ps : List Program) (ms : List Module) → 0 < length (map module_of ps) → length ms ≡ length ps → 0 < length (loaded_pairs ps ms)
pairs-some [] ms low e = absurd (omega (arith, low))
pairs-some (p ∷ ps) [] low e = absurd (omega (arith, e))
pairs-some (p ∷ ps) (m ∷ ms) low e = omega arith

pub is-hook : (means : HooksMean) (l : Loaded) (hook : Hook) (script function : List ℕ) → IsCompiled l → 0 < length (loaded_modules l) → path_of l.programs ≡ chars script
    → state_of hook ≡ opened_state (modules_of l.programs) (path_of l.programs) (chars function)
    → IsHookOf hook (record { modules = loaded_modules l; script = chars script; function = chars function })
is-hook means l hook script function compiled some path state = record {
  well_formed = compiled.well_formed;
  faithful = subst (λ s. AreFaithful s.modules (loaded_modules l)) (sym state) compiled.faithful;
  opened =
      ap (with_trees (loaded_modules l)) (state ∙ ap (λ p. opened_state (modules_of l.programs) p (chars function)) path)
      ∙ means.opens (modules_of l.programs) (loaded_modules l) compiled.faithful compiled.well_formed some (chars script) (chars function);
}

pub hook-there : (ms : List LoadedModule) (script function : Word) (hook : Hook) → defines ms (chars function) ≡ true
    → IsHookOf hook (record { modules = ms; script = chars script; function = chars function })
    → HookFollows (nobody Call Answer) (hook_in script function ms) tt (Ok (Some hook)) tt
hook-there ms script function hook e h = record {
  found = Ok (Some (record { modules = ms; script = chars script; function = chars function }));
  says = h;
  follows = followed-so (nobody Call Answer) (ap (λ (b : Bool). if b then give (Some (record { modules = ms; script = chars script; function = chars function })) else refuse (no_function function)) (sym e)) refl gives;
}

pub refused-by : {W A : Type 0} (moves : Moves Call Answer W) (old : W) (refusal : Refusal) (w : Why) → RefusedBy refusal w → Follows {A = A} moves IsNoMemory (refuse refusal) old (Err (plain_why w)) old
refused-by moves old refusal w (inl e) = followed-so moves refl (ap Err (sym e)) refuses
refused-by moves old refusal w (inr e) = starves tt e

pub no-hook : (ms : List LoadedModule) (script function : Word) (w : Why) → defines ms (chars function) ≡ false → RefusedBy (no_function function) w
    → HookFollows (nobody Call Answer) (hook_in script function ms) tt (Err w) tt
no-hook ms script function w e h = record {
  found = Err (plain_why w);
  says = refl;
  follows = followed-so (nobody Call Answer) (ap (λ (b : Bool). if b then give (Some (record { modules = ms; script = chars script; function = chars function })) else refuse (no_function function)) (sym e)) refl (refused-by (nobody Call Answer) tt (no_function function) w h);
}

if-open : {A : Type 0} (b : Bool) (a : A) (r : Refusal) → IsOpen (if b then give a else refuse {A = A} r)
if-open true a r = tt
if-open false a r = tt

in-open : (script function : Word) (ms : List LoadedModule) → IsOpen (hook_in script function ms)
in-open script function ms = if-open (defines ms (chars function)) (Some (record { modules = ms; script = chars script; function = chars function })) (no_function function)

pub hook-starved : (ms : List LoadedModule) (script function : Word) → HookFollows (nobody Call Answer) (hook_in script function ms) tt (Err why.NoMemory) tt
hook-starved ms script function = record { found = Err (Err no_memory); says = refl; follows = starves (in-open script function ms) refl }

-- ---- a script of a hook that is loaded

pub hook-not-loaded : {H : Type 0} (shelf : ShelfOf H) (script function : Word) (old new : H) (w : Why) (d : Result (Option Hook) Why) → Follows (on_shelf shelf) IsNoMemory (opened main_name script) old (Err (plain_why w)) new → IsErr d × IsErrAnd d (λ e. e ≡ w)
    → HookFollows (on_shelf shelf) (hook_of (Some (script, function))) old d new
hook-not-loaded shelf script function old new w d f h =
    subst (λ (d : Result (Option Hook) Why). HookFollows (on_shelf shelf) (hook_of (Some (script, function))) old d new) (sym (handed d w h))
    (record { found = Err (plain_why w); says = refl; follows = stops (hook_in script function) f (in-open script function) })

pub hook-loaded : {H : Type 0} (shelf : ShelfOf H) (script function : Word) (ms : List LoadedModule) (old new : H) (answer : Result (Option Hook) Why) → Follows (on_shelf shelf) IsNoMemory (opened main_name script) old (Ok ms) new
    → HookFollows (nobody Call Answer) (hook_in script function ms) tt answer tt → HookFollows (on_shelf shelf) (hook_of (Some (script, function))) old answer new
hook-loaded shelf script function ms old new answer f h = record {
  found = h.found;
  says = h.says;
  follows = goes-on (hook_in script function) f (on-nobody (on_shelf shelf) new h.follows);
}

-- of the same names
pub hook-in-so : {s t f h : Word} (ms : List LoadedModule) (answer : Result (Option Hook) Why) → s ≡ t → f ≡ h → HookFollows (nobody Call Answer) (hook_in s f ms) tt answer tt → HookFollows (nobody Call Answer) (hook_in t h ms) tt answer tt
hook-in-so {s} {t} {f} {h} ms answer e d k =
    subst (λ (h : Word). HookFollows (nobody Call Answer) (hook_in t h ms) tt answer tt) d (subst (λ (s : Word). HookFollows (nobody Call Answer) (hook_in s f ms) tt answer tt) e k)

pub no-hook-named : {H : Type 0} (shelf : ShelfOf H) (old : H) → HookFollows (on_shelf shelf) (hook_of None) old (Ok None) old
no-hook-named shelf old = record { found = Ok None; says = tt; follows = gives }

-- ---- code that goes on with a hook

pub hook-refused : {W : Type 0} (moves : Moves Call Answer W) (p : Step (Option HookFiles)) (old new : W) (w : Why) → HookFollows moves p old (Err w) new → Follows moves IsNoMemory p old (Err (plain_why w)) new
hook-refused moves p old new w h = of h.found h.says h.follows
  where
    of : (r : Result (Option HookFiles) PlainWhy) → AnsweredAs (Err w) r → Follows moves IsNoMemory p old r new → Follows moves IsNoMemory p old (Err (plain_why w)) new
    of (Ok files) says f = absurd says
    of (Err why) says f = followed-so moves refl (ap Err (sym says)) f

-- the files of a hook
pub record Found {W : Type 0} (moves : Moves Call Answer W) (p : Step (Option HookFiles)) (old : W) (hook : Option Hook) (new : W) : Type 0 where
  pub files : Option HookFiles
  pub is : HookAs hook files
  pub follows : Follows moves IsNoMemory p old (Ok files) new

pub hook-found : {W : Type 0} (moves : Moves Call Answer W) (p : Step (Option HookFiles)) (old new : W) (hook : Option Hook) → HookFollows moves p old (Ok hook) new → Found moves p old hook new
hook-found moves p old new hook h = of h.found h.says h.follows
  where
    of : (r : Result (Option HookFiles) PlainWhy) → AnsweredAs (Ok hook) r → Follows moves IsNoMemory p old r new → Found moves p old hook new
    of (Ok files) says f = record { files = files; is = says; follows = f }
    of (Err why) says f = absurd says
