-- What was read are the words of a command, or of its beginning.
use Rattle.std.proofs.Common.{◌≡◌, Bool, true, false, ◌&&◌, cond, List, [], ◌∷◌, ◌++◌, Option, Some, None, option_and_then, refl, sym, ap, subst, ◌∙◌, append_assoc}
use Rattle.std.proofs.lemmas.List.{append-nil}
use Rattle.std.proofs.lemmas.Option.{cond_some}
use Rattle.cov_words.specs.declared.options.OptionName.{OptionName}
use Rattle.cov_words.specs.declared.options.CommandName.{CommandName}
use Rattle.cov_words.specs.declared.options.CommandName.TheVariants.{Arcs, Run, Combine, Report, Json, Lcov, Annotate, Erase, Script, Make, Suite, Select, Mutate}
use Rattle.cov_words.specs.Values.{Word, Value, value_of}
use Rattle.cov_words.specs.Options.{command_named, option_named, form_of, has_value, Spells, apart, Given, may_take, Gives, none, one_more}
use Rattle.cov_words.specs.Operands.{begins_option, a_script, a_name, two_names, a_seed_and_size, shape_of, begin_with_script, are_one, are_two, are_seed_and_size, fit}
use Rattle.cov_words.specs.Commands.{PlainCommand, of_script, of_one, of_two, of_seed_and_size, command_of, IsCommand, spelled}
use Rattle.cov_words.specs.Reading.{Reading, Found, nowhere, whole, half, found, next, extends, with_operand, is_first, with_given, step_in, step, run, ended}
use Rattle.cov_words.proofs.OperandLists.{begun_so, none_begun, one_more_begun}
use Rattle.cov_words.proofs.FoundOptions.{FoundIs, found_is}

-- the words after a command's name are options and the first of its operands, or options and one whose value is to come
pub record Settled (r : Reading) (words : List Word) : Type 0 where
  pub option_words : List Word
  pub gives : Gives r.command r.given option_words
  pub begun : begun_so (shape_of r.command) r.operands ≡ true
  pub are : words ≡ option_words ++ r.operands

pub record Open (r : Reading) (o : OptionName) (words : List Word) : Type 0 where
  pub option_words : List Word
  pub word : Word
  pub gives : Gives r.command r.given option_words
  pub may : may_take r.command r.given o ≡ true
  pub named : option_named word ≡ Some o
  pub takes : has_value (form_of o) ≡ true
  pub no_operands : r.operands ≡ []
  pub are : words ≡ option_words ++ (word ∷ [])

abbrev pub HasReadIn : Reading → List Word → Option OptionName → Type 0
HasReadIn r words None = Settled r words
HasReadIn r words (Some o) = Open r o words

abbrev pub HasRead : Reading → List Word → Type 0
HasRead r words = HasReadIn r words r.awaiting

abbrev IfRead : List Word → Option Reading → Type 0
IfRead words None = Unit {0}
IfRead words (Some r) = HasRead r words

-- one more option
with_option : (r : Reading) (words : List Word) (w : Word) (o : OptionName) (v : Value) → r.awaiting ≡ None → r.operands ≡ [] → Settled r words → may_take r.command r.given o ≡ true → Spells o v (w ∷ []) → HasRead (record r { given = r.given ++ ((o, v) ∷ []) }) (words ++ (w ∷ []))
with_option r words w o v settled first s may spells = subst (λ (a : Option OptionName). HasReadIn (record r { given = r.given ++ ((o, v) ∷ []) }) (words ++ (w ∷ [])) a) (sym settled) (record {
  option_words = s.option_words ++ (w ∷ []);
  gives = one_more s.option_words (w ∷ []) s.gives may spells;
  begun = s.begun;
  are = ap (λ (x : List Word). x ++ (w ∷ [])) (s.are ∙ ap (λ (x : List Word). s.option_words ++ x) first ∙ append-nil s.option_words)
      ∙ sym (append-nil (s.option_words ++ (w ∷ []))) ∙ ap (λ (x : List Word). (s.option_words ++ (w ∷ [])) ++ x) (sym first);
})

next_keeps : (r q : Reading) (words : List Word) (w : Word) (f : Found) → r.awaiting ≡ None → r.operands ≡ [] → Settled r words → FoundIs w f → next r f ≡ Some q → HasRead q (words ++ (w ∷ []))
next_keeps r q words w nowhere settled first s is h = cc
next_keeps r q words w (whole o v) settled first s is h =
    let taken = cond_some (may_take r.command r.given o) (record r { given = r.given ++ ((o, v) ∷ []) }) q h in
    subst (λ (x : Reading). HasRead x (words ++ (w ∷ []))) taken.1 (with_option r words w o v settled first s taken.0 is)
next_keeps r q words w (half o) settled first s is h =
    let taken = cond_some (may_take r.command r.given o) (record r { awaiting = Some o }) q h in
    subst (λ (x : Reading). HasRead x (words ++ (w ∷ []))) taken.1 (record {
      option_words = s.option_words;
      word = w;
      gives = s.gives;
      may = taken.0;
      named = is.0;
      takes = is.1;
      no_operands = first;
      are = ap (λ (x : List Word). x ++ (w ∷ [])) (s.are ∙ ap (λ (x : List Word). s.option_words ++ x) first ∙ append-nil s.option_words);
    })

operand_keeps : (r q : Reading) (words : List Word) (w : Word) → r.awaiting ≡ None → Settled r words → with_operand r w ≡ Some q → HasRead q (words ++ (w ∷ []))
operand_keeps r q words w settled s h =
    let taken = cond_some (extends (shape_of r.command) r.operands w) (record r { operands = r.operands ++ (w ∷ []) }) q h in
    subst (λ (x : Reading). HasRead x (words ++ (w ∷ []))) taken.1 (subst (λ (a : Option OptionName). HasReadIn (record r { operands = r.operands ++ (w ∷ []) }) (words ++ (w ∷ [])) a) (sym settled) (record {
      option_words = s.option_words;
      gives = s.gives;
      begun = one_more_begun (shape_of r.command) r.operands w s.begun taken.0;
      are = ap (λ (x : List Word). x ++ (w ∷ [])) s.are ∙ append_assoc s.option_words r.operands (w ∷ []);
    }))

no_operand : (ys : List Word) (b : Bool) → (is_first ys && b) ≡ true → ys ≡ []
no_operand [] b h = refl
no_operand (y ∷ ys) b h = cc

fresh_keeps : (r q : Reading) (words : List Word) (w : Word) (b : Bool) → (is_first r.operands && begins_option w) ≡ b → r.awaiting ≡ None → Settled r words → cond b (next r (found w)) (with_operand r w) ≡ Some q → HasRead q (words ++ (w ∷ []))
fresh_keeps r q words w true e settled s h = next_keeps r q words w (found w) settled (no_operand r.operands (begins_option w) e) s (found_is w) h
fresh_keeps r q words w false e settled s h = operand_keeps r q words w settled s h

value_keeps : (r q : Reading) (words : List Word) (w : Word) (o : OptionName) (v : Option Value) → value_of (form_of o) w ≡ v → Open r o words → with_given r o v ≡ Some q → HasRead q (words ++ (w ∷ []))
value_keeps r q words w o None e p h = cc
value_keeps r q words w o (Some v) e p h = subst (IfRead (words ++ (w ∷ []))) h (record {
  option_words = p.option_words ++ (p.word ∷ w ∷ []);
  gives = one_more p.option_words (p.word ∷ w ∷ []) p.gives p.may (apart p.word w p.named e);
  begun = subst (λ (x : List Word). begun_so (shape_of r.command) x ≡ true) (sym p.no_operands) (none_begun (shape_of r.command));
  are = ap (λ (x : List Word). x ++ (w ∷ [])) p.are ∙ append_assoc p.option_words (p.word ∷ []) (w ∷ []) ∙ sym (append-nil (p.option_words ++ (p.word ∷ w ∷ []))) ∙ ap (λ (x : List Word). (p.option_words ++ (p.word ∷ w ∷ [])) ++ x) (sym p.no_operands);
})

step_keeps_in : (r q : Reading) (words : List Word) (w : Word) (a : Option OptionName) → r.awaiting ≡ a → HasReadIn r words a → step_in r a w ≡ Some q → HasRead q (words ++ (w ∷ []))
step_keeps_in r q words w None e s h = fresh_keeps r q words w (is_first r.operands && begins_option w) refl e s h
step_keeps_in r q words w (Some o) e p h = value_keeps r q words w o (value_of (form_of o) w) refl p h

run_keeps_after : (ws : List Word) (w : Word) (r q : Reading) (words : List Word) (s : Option Reading) → step r w ≡ s → HasRead r words → ((t : Reading) (words : List Word) → HasRead t words → run ws t ≡ Some q → HasRead q (words ++ ws)) → option_and_then (run ws) s ≡ Some q → HasRead q (words ++ (w ∷ ws))
run_keeps_after ws w r q words None e has ih h = cc
run_keeps_after ws w r q words (Some t) e has ih h =
    subst (HasRead q) (append_assoc words (w ∷ []) ws) (ih t (words ++ (w ∷ [])) (step_keeps_in r t words w r.awaiting refl has e) h)

pub run_keeps : (ws : List Word) (r q : Reading) (words : List Word) → HasRead r words → run ws r ≡ Some q → HasRead q (words ++ ws)
run_keeps [] r q words has h = subst (IfRead (words ++ [])) h (subst (HasRead r) (sym (append-nil words)) has)
run_keeps (w ∷ ws) r q words has h = run_keeps_after ws w r q words (step r w) refl has (λ t more. run_keeps ws t q more) h

-- a command alone
abbrev pub alone_read : CommandName → Reading
alone_read c = record { command = c; given = []; awaiting = None; operands = [] }

pub begun_is : (c : CommandName) → HasRead (alone_read c) []
begun_is c = record { option_words = []; gives = none; begun = none_begun (shape_of c); are = refl }

-- operands of which a command was made fit it
fits_two : (ys : List Word) (make : Word → Word → PlainCommand) (k : PlainCommand) → begun_so two_names ys ≡ true → of_two make ys ≡ Some k → are_two ys ≡ true
fits_two [] make k h made = cc
fits_two (y ∷ []) make k h made = cc
fits_two (y ∷ z ∷ ys) make k h made = h

fits_numbers : (ys : List Word) (k : PlainCommand) → begun_so a_seed_and_size ys ≡ true → of_seed_and_size ys ≡ Some k → are_seed_and_size ys ≡ true
fits_numbers [] k h made = cc
fits_numbers (y ∷ []) k h made = cc
fits_numbers (y ∷ z ∷ ys) k h made = h

fits_script : (ys : List Word) (make : Word → List Word → PlainCommand) (k : PlainCommand) → begun_so a_script ys ≡ true → of_script make ys ≡ Some k → begin_with_script ys ≡ true
fits_script [] make k h made = cc
fits_script (y ∷ ys) make k h made = h

fits_name : (ys : List Word) (make : Word → PlainCommand) (k : PlainCommand) → begun_so a_name ys ≡ true → of_one make ys ≡ Some k → are_one ys ≡ true
fits_name [] make k h made = cc
fits_name (y ∷ ys) make k h made = h

fits : (c : CommandName) (g : Given) (ys : List Word) (k : PlainCommand) → begun_so (shape_of c) ys ≡ true → command_of c g ys ≡ Some k → fit (shape_of c) ys ≡ true
fits Arcs g ys k h made = fits_script ys _ k h made
fits Run g ys k h made = fits_script ys _ k h made
fits Combine g ys k h made = h
fits Report g ys k h made = h
fits Json g ys k h made = h
fits Lcov g ys k h made = h
fits Annotate g ys k h made = fits_name ys _ k h made
fits Erase g ys k h made = h
fits Script g ys k h made = fits_name ys _ k h made
fits Make g ys k h made = fits_numbers ys k h made
fits Suite g ys k h made = fits_name ys _ k h made
fits Select g ys k h made = fits_two ys _ k h made
fits Mutate g ys k h made = fits_name ys _ k h made

ended_is : (r : Reading) (a : Option OptionName) (w : Word) (words : List Word) (command : PlainCommand) → command_named w ≡ Some r.command → HasReadIn r words a → ended r a ≡ Some command → IsCommand command (w ∷ words)
ended_is r None w words command named s h =
    subst (λ (x : List Word). IsCommand command (w ∷ x)) (sym s.are)
    (spelled w r.command r.given s.option_words r.operands named s.gives (fits r.command r.given r.operands command s.begun h) h)
ended_is r (Some o) w words command named s h = cc

pub ended_command : (r : Reading) (w : Word) (words : List Word) (command : PlainCommand) → command_named w ≡ Some r.command → HasRead r words → ended r r.awaiting ≡ Some command → IsCommand command (w ∷ words)
ended_command r w words command named has h = ended_is r r.awaiting w words command named has h
