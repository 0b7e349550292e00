-- Programs over what objects hold, taken apart where they ended well; and programs that change nothing.
use Rattle.std.proofs.Common.{◌≡◌, inl, inr, ℕ, Bool, true, false, true≢false, refl, sym, ap, subst, List, [], ◌∷◌, filter, Option, Some, None, Result, Ok, Err}
use Rattle.cov_outside.specs.declared.shelf.ShelfError.{ShelfError}
use Rattle.cov_outside.specs.declared.shelf.ShelfError.TheVariants as shelf_error
use Rattle.cov_contexts.specs.declared.plugins.Plugin.{Ghosts as PluginOf}
use Rattle.cov_data.specs.DataSet.{DataSet}
use Rattle.cov_programs.specs.Programs.{give, ask, bind}
use Rattle.cov_programs.specs.Ends.{Ends}
use Rattle.cov_programs.specs.Laws.{OnlyKeeps, Parted, nothing_wants}
use Rattle.cov_programs.proofs.Folding.{parted}
use Rattle.cov_programs.proofs.Keeping.{keeps-all}
use Rattle.cov_programs.proofs.Parts.{then-keeps, each-keeps}
use Rattle.cov_programs.proofs.Results.{ok_is, ok_no_err}
use Rattle.cov_run.specs.Reading.{Reading, no_text, long, stuck, no_tree, ill_formed, tree, unread}
use Rattle.cov_vault.specs.declared.vault.VaultError.{VaultError}
use Rattle.cov_vault.specs.declared.vault.VaultError.TheVariants as vault_error
use Rattle.cov_why.specs.Answers.{Refusal, PlainWhy}
use Rattle.cov_words.specs.Values.{Word}
use Rattle.py_syntax.specs.Tree.{Text}
use Rattle.cov_step.specs.Calls.{Call, spells, checks, reads, puts, opens, lists, loads, saves, removes, makes, writes, crosses, measures, tries, tests, selects, judges, says, Answer, Answered, Ran, Step}
use Rattle.cov_step.specs.Answers.{bytes_of, bytes_if_any, given_or, load_refusal, vault_refusal, Before, before_of, removed, pattern_refusal, last, on, tree_of}
use Rattle.cov_step.specs.Making.{ran_if_any}
use Rattle.cov_step.specs.Phases.{needed, before, opened, settings, patterns_by, source, hook_of, joins, inputs, is_part_of, own_input, some_input, same_kind, reported}
use Rattle.cov_step.proofs.Parts.{settings-so, patterns_by-so, source-so, hook_of-so, joins-so, own_input-so, some_input-so, same_kind-so, reported-so}
use Rattle.cov_headline.specs.Told.{Held, tells}

-- ---- answers after which nothing is called

module _ (k : (call : Call) → Answer call → Bool) where
  abbrev pub Keeps : (A : Type 0) → Step A → Type 0
  Keeps A p = OnlyKeeps k p

  pub given-keeps : {A E : Type 0} (why : E → Refusal) (x : Result A E) → Keeps A (given_or why x)
  given-keeps why (Ok a) = tt
  given-keeps why (Err e) = tt

  pub last-keeps : {E : Type 0} (why : E → Refusal) (a : Answered) (x : Option E) → Keeps Answered (last why a x)
  last-keeps why a None = tt
  last-keeps why a (Some e) = tt

  on-keeps : {E : Type 0} (why : E → Refusal) (x : Option E) → Keeps (Unit {0}) (on why x)
  on-keeps why None = tt
  on-keeps why (Some e) = tt

  pub bytes-keeps : (absent : Refusal) (x : Result (List ℕ) ShelfError) → Keeps (List ℕ) (bytes_of absent x)
  bytes-keeps absent (Ok bytes) = tt
  bytes-keeps absent (Err shelf_error.Absent) = tt
  bytes-keeps absent (Err shelf_error.TooLarge) = tt
  bytes-keeps absent (Err shelf_error.Failed) = tt
  bytes-keeps absent (Err shelf_error.NoMemory) = tt

  any-keeps : (x : Result (List ℕ) ShelfError) → Keeps (List ℕ) (bytes_if_any x)
  any-keeps (Ok bytes) = tt
  any-keeps (Err shelf_error.Absent) = tt
  any-keeps (Err shelf_error.TooLarge) = tt
  any-keeps (Err shelf_error.Failed) = tt
  any-keeps (Err shelf_error.NoMemory) = tt

  before-keeps : (name : Word) (x : Result DataSet VaultError) → Keeps Before (before_of name x)
  before-keeps name (Ok d) = tt
  before-keeps name (Err vault_error.Absent) = tt
  before-keeps name (Err vault_error.NotSchema7) = tt
  before-keeps name (Err (vault_error.BadRow i)) = tt
  before-keeps name (Err vault_error.Failed) = tt
  before-keeps name (Err vault_error.NoMemory) = tt

  pub removed-keeps : {A : Type 0} (next : Step A) → Keeps A next → (x : Option VaultError) → Keeps A (removed next x)
  removed-keeps next h None = h
  removed-keeps next h (Some vault_error.Absent) = h
  removed-keeps next h (Some vault_error.NotSchema7) = tt
  removed-keeps next h (Some (vault_error.BadRow i)) = tt
  removed-keeps next h (Some vault_error.Failed) = tt
  removed-keeps next h (Some vault_error.NoMemory) = tt

  pub tree-keeps : (path : Word) (bytes : List ℕ) (x : Reading) → Keeps _ (tree_of path bytes x)
  tree-keeps path bytes (no_text line) = tt
  tree-keeps path bytes (long lines) = tt
  tree-keeps path bytes (stuck error) = tt
  tree-keeps path bytes (no_tree error) = tt
  tree-keeps path bytes (ill_formed error) = tt
  tree-keeps path bytes (tree m) = tt
  tree-keeps path bytes unread = tt

  pub ran-keeps : (x : Option Ran) → Keeps Ran (ran_if_any x)
  ran-keeps None = tt
  ran-keeps (Some r) = tt

  listed-keeps : (own : Word) (x : Result (List Word) VaultError) → Keeps (List Word) (bind (given_or (vault_refusal own) x) (λ found. give (filter (is_part_of own) found)))
  listed-keeps own (Ok found) = tt
  listed-keeps own (Err e) = tt

  -- ---- programs that make quiet calls alone

  module _ (of_reads : (name : Word) (most : ℕ) (x : Answer (reads name most)) → k (reads name most) x ≡ true) (of_opens : (name : Text) (script : Word) (x : Answer (opens name script)) → k (opens name script) x ≡ true)
      (of_checks : (bytes : List ℕ) (x : Answer (checks bytes)) → k (checks bytes) x ≡ true) (of_makes : (texts : List (List ℕ)) (x : Answer (makes texts)) → k (makes texts) x ≡ true)
      (of_loads : (name : Word) (x : Answer (loads name)) → k (loads name) x ≡ true) (of_lists : (x : Answer lists) → k lists x ≡ true) where
    pub opened-keeps : (name : Text) (script : Word) → Keeps _ (opened name script)
    opened-keeps name script = λ x. (of_opens name script x, given-keeps (λ refusal. refusal) x)

    pub needed-keeps : (name : Word) → Keeps _ (needed name)
    needed-keeps name = λ x. (of_loads name x, given-keeps (load_refusal name) x)

    stands-keeps : (name : Word) → Keeps _ (before name)
    stands-keeps name = λ x. (of_loads name x, before-keeps name x)

    inputs-keeps : (own : Word) (named : List Word) → Keeps _ (inputs own named)
    inputs-keeps own (n ∷ ns) = tt
    inputs-keeps own [] = λ x. (of_lists x, listed-keeps own x)

    pub check-keeps : (path : Word) (bytes : List ℕ) → Keeps _ (ask (checks bytes) (tree_of path bytes))
    check-keeps path bytes = λ x. (of_checks bytes x, tree-keeps path bytes x)

    pub settings-keeps : (rcfile : Option Word) → Keeps _ (settings rcfile)
    settings-keeps rcfile = settings-so Keeps (λ A a. tt) (λ A r e. tt) (λ A B p next. then-keeps k p next) (λ A B p h xs. each-keeps k p h xs)
        (λ absent n name x. (of_reads name _ x, bytes-keeps absent x)) (λ x. (of_reads _ _ x, any-keeps x)) opened-keeps check-keeps (λ n texts x. (of_makes texts x, on-keeps (pattern_refusal n) x)) rcfile

    pub patterns_by-keeps : (exclude partial : List (List ℕ)) → Keeps _ (patterns_by exclude partial)
    patterns_by-keeps exclude partial = patterns_by-so Keeps (λ A a. tt) (λ A r e. tt) (λ A B p next. then-keeps k p next) (λ A B p h xs. each-keeps k p h xs)
        (λ absent n name x. (of_reads name _ x, bytes-keeps absent x)) (λ x. (of_reads _ _ x, any-keeps x)) opened-keeps check-keeps (λ n texts x. (of_makes texts x, on-keeps (pattern_refusal n) x)) exclude partial

    pub source-keeps : (path : Word) → Keeps _ (source path)
    source-keeps path = source-so Keeps (λ A a. tt) (λ A r e. tt) (λ A B p next. then-keeps k p next) (λ A B p h xs. each-keeps k p h xs)
        (λ absent n name x. (of_reads name _ x, bytes-keeps absent x)) (λ x. (of_reads _ _ x, any-keeps x)) opened-keeps check-keeps (λ n texts x. (of_makes texts x, on-keeps (pattern_refusal n) x)) path

    hook-keeps : (h : Option (Word × Word)) → Keeps _ (hook_of h)
    hook-keeps h = hook_of-so Keeps (λ A a. tt) (λ A r e. tt) (λ A B p next. then-keeps k p next) (λ A B p h xs. each-keeps k p h xs)
        (λ absent n name x. (of_reads name _ x, bytes-keeps absent x)) (λ x. (of_reads _ _ x, any-keeps x)) opened-keeps check-keeps (λ n texts x. (of_makes texts x, on-keeps (pattern_refusal n) x)) h

    joins-keeps : (append : Bool) (name : Word) (arcs : Bool) (was : Before) → Keeps _ (joins append name arcs was)
    joins-keeps append name arcs was = joins-so Keeps (λ A a. tt) (λ A r e. tt) (λ A B p next. then-keeps k p next) (λ A B p h xs. each-keeps k p h xs)
        (λ absent n name x. (of_reads name _ x, bytes-keeps absent x)) (λ x. (of_reads _ _ x, any-keeps x)) opened-keeps check-keeps (λ n texts x. (of_makes texts x, on-keeps (pattern_refusal n) x)) append name arcs was

    own_input-keeps : (append : Bool) (name : Word) (was : Before) → Keeps _ (own_input append name was)
    own_input-keeps append name was = own_input-so Keeps (λ A a. tt) (λ A r e. tt) (λ A B p next. then-keeps k p next) (λ A B p h xs. each-keeps k p h xs)
        (λ absent n name x. (of_reads name _ x, bytes-keeps absent x)) (λ x. (of_reads _ _ x, any-keeps x)) opened-keeps check-keeps (λ n texts x. (of_makes texts x, on-keeps (pattern_refusal n) x)) append name was

    some_input-keeps : (name : Word) (own : Bool) (ns : List Word) → Keeps _ (some_input name own ns)
    some_input-keeps name own ns = some_input-so Keeps (λ A a. tt) (λ A r e. tt) (λ A B p next. then-keeps k p next) (λ A B p h xs. each-keeps k p h xs)
        (λ absent n name x. (of_reads name _ x, bytes-keeps absent x)) (λ x. (of_reads _ _ x, any-keeps x)) opened-keeps check-keeps (λ n texts x. (of_makes texts x, on-keeps (pattern_refusal n) x)) name own ns

    same_kind-keeps : (ds : List DataSet) → Keeps _ (same_kind ds)
    same_kind-keeps ds = same_kind-so Keeps (λ A a. tt) (λ A r e. tt) (λ A B p next. then-keeps k p next) (λ A B p h xs. each-keeps k p h xs)
        (λ absent n name x. (of_reads name _ x, bytes-keeps absent x)) (λ x. (of_reads _ _ x, any-keeps x)) opened-keeps check-keeps (λ n texts x. (of_makes texts x, on-keeps (pattern_refusal n) x)) ds

    reported-keeps : (data_file rcfile : Option Word) → Keeps _ (reported data_file rcfile)
    reported-keeps data_file rcfile = reported-so Keeps (λ A a. tt) (λ A r e. tt) (λ A B p next. then-keeps k p next) (λ A B p h xs. each-keeps k p h xs)
        (λ absent n name x. (of_reads name _ x, bytes-keeps absent x)) (λ x. (of_reads _ _ x, any-keeps x)) opened-keeps check-keeps (λ n texts x. (of_makes texts x, on-keeps (pattern_refusal n) x)) needed-keeps data_file rcfile

-- ---- calls that change nothing

-- an answer after which all is held as before
abbrev pub is_quiet : (call : Call) → Answer call → Bool
is_quiet (spells words) answer = true
is_quiet (checks bytes) reading = true
is_quiet (reads name most) answer = true
is_quiet (puts name bytes) refusal = false
is_quiet (opens name script) answer = true
is_quiet lists answer = true
is_quiet (loads name) answer = true
is_quiet (saves name content) refusal = false
is_quiet (removes name) refusal = false
is_quiet (makes texts) refusal = true
is_quiet (writes bytes) refusal = false
is_quiet (crosses modules words budget) answer = false
is_quiet (measures asked modules hook) answer = false
is_quiet (tries modules words budget) answer = true
is_quiet (tests asked modules) answer = false
is_quiet (selects budget before after) answer = true
is_quiet (judges budget modules) answer = true
is_quiet (says text) answer = false

abbrev pub IsQuiet : {A : Type 0} → Step A → Type 0
IsQuiet p = OnlyKeeps is_quiet p

pub quiet-opened : (name : Text) (script : Word) → IsQuiet (opened name script)
quiet-opened = opened-keeps is_quiet (λ n m x. refl) (λ n s x. refl) (λ b x. refl) (λ t x. refl) (λ n x. refl) (λ x. refl)

pub quiet-needed : (name : Word) → IsQuiet (needed name)
quiet-needed = needed-keeps is_quiet (λ n m x. refl) (λ n s x. refl) (λ b x. refl) (λ t x. refl) (λ n x. refl) (λ x. refl)

pub quiet-before : (name : Word) → IsQuiet (before name)
quiet-before = stands-keeps is_quiet (λ n m x. refl) (λ n s x. refl) (λ b x. refl) (λ t x. refl) (λ n x. refl) (λ x. refl)

pub quiet-inputs : (own : Word) (named : List Word) → IsQuiet (inputs own named)
quiet-inputs = inputs-keeps is_quiet (λ n m x. refl) (λ n s x. refl) (λ b x. refl) (λ t x. refl) (λ n x. refl) (λ x. refl)

pub quiet-settings : (rcfile : Option Word) → IsQuiet (settings rcfile)
quiet-settings = settings-keeps is_quiet (λ n m x. refl) (λ n s x. refl) (λ b x. refl) (λ t x. refl) (λ n x. refl) (λ x. refl)

pub quiet-patterns_by : (exclude partial : List (List ℕ)) → IsQuiet (patterns_by exclude partial)
quiet-patterns_by = patterns_by-keeps is_quiet (λ n m x. refl) (λ n s x. refl) (λ b x. refl) (λ t x. refl) (λ n x. refl) (λ x. refl)

pub quiet-source : (path : Word) → IsQuiet (source path)
quiet-source = source-keeps is_quiet (λ n m x. refl) (λ n s x. refl) (λ b x. refl) (λ t x. refl) (λ n x. refl) (λ x. refl)

pub quiet-hook : (h : Option (Word × Word)) → IsQuiet (hook_of h)
quiet-hook = hook-keeps is_quiet (λ n m x. refl) (λ n s x. refl) (λ b x. refl) (λ t x. refl) (λ n x. refl) (λ x. refl)

pub quiet-joins : (append : Bool) (name : Word) (arcs : Bool) (was : Before) → IsQuiet (joins append name arcs was)
quiet-joins = joins-keeps is_quiet (λ n m x. refl) (λ n s x. refl) (λ b x. refl) (λ t x. refl) (λ n x. refl) (λ x. refl)

pub quiet-own_input : (append : Bool) (name : Word) (was : Before) → IsQuiet (own_input append name was)
quiet-own_input = own_input-keeps is_quiet (λ n m x. refl) (λ n s x. refl) (λ b x. refl) (λ t x. refl) (λ n x. refl) (λ x. refl)

pub quiet-some_input : (name : Word) (own : Bool) (ns : List Word) → IsQuiet (some_input name own ns)
quiet-some_input = some_input-keeps is_quiet (λ n m x. refl) (λ n s x. refl) (λ b x. refl) (λ t x. refl) (λ n x. refl) (λ x. refl)

pub quiet-same_kind : (ds : List DataSet) → IsQuiet (same_kind ds)
quiet-same_kind = same_kind-keeps is_quiet (λ n m x. refl) (λ n s x. refl) (λ b x. refl) (λ t x. refl) (λ n x. refl) (λ x. refl)

pub quiet-reported : (data_file rcfile : Option Word) → IsQuiet (reported data_file rcfile)
quiet-reported = reported-keeps is_quiet (λ n m x. refl) (λ n s x. refl) (λ b x. refl) (λ t x. refl) (λ n x. refl) (λ x. refl)

-- ---- programs that ended well

module _ {P : Type 0} (plugin : PluginOf P) where
  -- a program over what objects hold
  abbrev pub Goes : {A : Type 0} → Step A → Held P → Result A PlainWhy → Held P → Type 0
  Goes p old e new = Ends (tells plugin) nothing_wants p old e new

  quiet-kept : (u : Held P) (call : Call) (x : Answer call) (v : Held P) → tells plugin u call x v → is_quiet call x ≡ true → v ≡ u
  quiet-kept u (spells words) x v m e = m.1
  quiet-kept u (checks bytes) x v m e = m.1
  quiet-kept u (reads name most) x v m e = m.1
  quiet-kept u (puts name bytes) x v m e = absurd (true≢false (sym e))
  quiet-kept u (opens name script) x v m e = m.1
  quiet-kept u lists x v m e = m.1
  quiet-kept u (loads name) x v m e = m.1
  quiet-kept u (saves name content) x v m e = absurd (true≢false (sym e))
  quiet-kept u (removes name) x v m e = absurd (true≢false (sym e))
  quiet-kept u (makes texts) x v m e = m
  quiet-kept u (writes bytes) x v m e = absurd (true≢false (sym e))
  quiet-kept u (crosses modules words budget) x v m e = absurd (true≢false (sym e))
  quiet-kept u (measures asked modules hook) x v m e = absurd (true≢false (sym e))
  quiet-kept u (tries modules words budget) x v m e = m
  quiet-kept u (tests asked modules) x v m e = absurd (true≢false (sym e))
  quiet-kept u (selects budget before after) x v m e = m.1
  quiet-kept u (judges budget modules) x v m e = m.1
  quiet-kept u (says text) x v m e = absurd (true≢false (sym e))

  -- a quiet program changes nothing
  pub quiet-same : {A : Type 0} (p : Step A) (old new : Held P) (e : Result A PlainWhy) → IsQuiet p → Goes p old e new → new ≡ old
  quiet-same p old new e q h = keeps-all (tells plugin) nothing_wants (λ w. w) is_quiet quiet-kept p old new e q h

  -- one after another
  pub went : {A B : Type 0} (p : Step A) (next : A → Step B) (old new : Held P) (b : B) → Goes (bind p next) old (Ok b) new → (a : A) × (mid : Held P) × Goes p old (Ok a) mid × Goes (next a) mid (Ok b) new
  went p next old new b h = by (parted (tells plugin) nothing_wants p next old new (Ok b) h)
    where
      by : Parted (tells plugin) nothing_wants p next old (Ok b) new → (a : _) × (mid : Held P) × Goes p old (Ok a) mid × Goes (next a) mid (Ok b) new
      by (inl (a, mid, f, g)) = (a, mid, f, g)
      by (inr (r, f, is)) = absurd (ok_no_err is)

  -- the first of them changes nothing
  pub quietly : {A B : Type 0} (p : Step A) (next : A → Step B) (old new : Held P) (b : B) → IsQuiet p → Goes (bind p next) old (Ok b) new → (a : A) × Goes p old (Ok a) old × Goes (next a) old (Ok b) new
  quietly p next old new b q h =
      let s = went p next old new b h in
      let same = quiet-same p old s.1 (Ok s.0) q s.2 in
      (s.0, subst (λ w. Goes p old (Ok s.0) w) same s.2, subst (λ w. Goes (next s.0) w (Ok b) new) same s.3)

  -- a value is given
  pub gave : {A : Type 0} (a b : A) (old new : Held P) → Goes (give a) old (Ok b) new → (b ≡ a) × (new ≡ old)
  gave a b old new (inl s) = absurd s.wanting
  gave a b old new (inr (is, same)) = (ok_is is, same)

  -- an answer that isn't refused
  pub answered : {A E : Type 0} (why : E → Refusal) (x : Result A E) (b : A) (old new : Held P) → Goes (given_or why x) old (Ok b) new → x ≡ Ok b
  answered why (Ok a) b old new h = ap Ok (sym (gave a b old new h).0)
  answered why (Err e) b old new (inl s) = absurd s.wanting
  answered why (Err e) b old new (inr (is, same)) = absurd (ok_no_err is)
