-- Counts of faults: no call lowers them, and an answer that is an object's fault raised its count.
use Rattle.std.proofs.Common.{◌≡◌, ℕ, ◌≤◌, refl, sym, ap, subst, Option, Some, None, Ok, Err, arith}
use Rattle.cov_outside.specs.Counts.{Rose}
use Rattle.cov_outside.specs.declared.shelf.Shelf.{Ghosts as ShelfOf}
use Rattle.cov_outside.specs.declared.shelf.ShelfError.TheVariants as shelf_error
use Rattle.cov_outside.specs.declared.sink.Sink.{Ghosts as SinkOf}
use Rattle.cov_exclude.specs.declared.maker.Maker.{Ghosts as MakerOf}
use Rattle.cov_exclude.specs.declared.patterns.PatternError.TheVariants as pattern_error
use Rattle.cov_vault.specs.declared.vault.Vault.{Ghosts as VaultOf}
use Rattle.cov_vault.specs.declared.vault.VaultError.TheVariants as vault_error
use Rattle.cov_why.specs.Answers.{Refusal, usage, no_such_file, syntax, limit, bad_config, bad_pattern, pattern_size, no_function, no_data, mixed, bad_data, no_source, read_fault, write_fault, shelf_fault, vault_fault, no_memory, import_failed}
use Rattle.cov_step.specs.Calls.{Call, spells, checks, reads, puts, opens, lists, loads, saves, removes, makes, writes, crosses, measures, tries, tests, selects, judges, says, Answer}
use Rattle.cov_step.specs.Objects.{on_grammar, on_shelf, on_vault, on_maker, on_sink, on_err, Saying}
use Rattle.cov_step.specs.Promises.{Object, the_shelf, the_vault, the_maker, blame_of, blamed}

some-is : {A : Type 0} {a b : A} → ◌≡◌ {A = Option A} (Some a) (Some b) → a ≡ b
some-is e = cc

none-some : {A : Type 0} {a : A} → ◌≡◌ {A = Option A} None (Some a) → ⊥
none-some e = cc

same-count : {a b : ℕ} → b ≡ a → a ≤ b
same-count {a = a} e = subst (λ n. a ≤ n) (sym e) (omega arith)

-- ---- a shelf

pub shelf-later : {H : Type 0} (shelf : ShelfOf H) (u : H) (call : Call) (x : Answer call) (v : H) → on_shelf shelf u call x v → shelf.faults u ≤ shelf.faults v
shelf-later shelf u (spells words) x v m = absurd m
shelf-later shelf u (checks bytes) x v m = same-count (ap shelf.faults m.same)
shelf-later shelf u (reads name most) x v m = m.count
shelf-later shelf u (puts name bytes) x v m = m.count
shelf-later shelf u (opens name script) x v m = m.count
shelf-later shelf u lists x v m = absurd m
shelf-later shelf u (loads name) x v m = absurd m
shelf-later shelf u (saves name content) x v m = absurd m
shelf-later shelf u (removes name) x v m = absurd m
shelf-later shelf u (makes texts) x v m = absurd m
shelf-later shelf u (writes bytes) x v m = absurd m
shelf-later shelf u (crosses modules words budget) x v m = absurd m
shelf-later shelf u (measures asked modules hook) x v m = absurd m
shelf-later shelf u (tries modules words budget) x v m = absurd m
shelf-later shelf u (tests asked modules) x v m = absurd m
shelf-later shelf u (selects budget before after) x v m = absurd m
shelf-later shelf u (judges budget modules) x v m = absurd m
shelf-later shelf u (says text) x v m = absurd m

-- the one refusal that blames a shelf
only-shelf : (r : Refusal) → blame_of r ≡ Some the_shelf → r ≡ shelf_fault
only-shelf (usage words) e = absurd (none-some e)
only-shelf (no_such_file name) e = absurd (none-some e)
only-shelf (syntax file line kind) e = absurd (none-some e)
only-shelf (limit kind n) e = absurd (none-some e)
only-shelf (bad_config key) e = absurd (none-some e)
only-shelf (bad_pattern at) e = absurd (none-some e)
only-shelf (pattern_size at) e = cc
only-shelf (no_function name) e = absurd (none-some e)
only-shelf (no_data name) e = absurd (none-some e)
only-shelf (mixed first other) e = absurd (none-some e)
only-shelf (bad_data name kind) e = absurd (none-some e)
only-shelf (no_source path) e = absurd (none-some e)
only-shelf read_fault e = cc
only-shelf write_fault e = cc
only-shelf shelf_fault e = refl
only-shelf vault_fault e = cc
only-shelf no_memory e = absurd (none-some e)
only-shelf (import_failed file) e = absurd (none-some e)

pub shelf-rose : {H : Type 0} (shelf : ShelfOf H) (u : H) (call : Call) (x : Answer call) (v : H) → on_shelf shelf u call x v → blamed call x ≡ Some the_shelf → Rose (shelf.faults u) (shelf.faults v)
shelf-rose shelf u (spells words) x v m e = absurd m
shelf-rose shelf u (checks bytes) x v m e = absurd (none-some e)
shelf-rose shelf u (reads name most) (Ok bytes) v m e = absurd (none-some e)
shelf-rose shelf u (reads name most) (Err shelf_error.Absent) v m e = absurd (none-some e)
shelf-rose shelf u (reads name most) (Err shelf_error.TooLarge) v m e = absurd (none-some e)
shelf-rose shelf u (reads name most) (Err shelf_error.Failed) v m e = m.failed refl
shelf-rose shelf u (reads name most) (Err shelf_error.NoMemory) v m e = absurd (none-some e)
shelf-rose shelf u (puts name bytes) None v m e = absurd (none-some e)
shelf-rose shelf u (puts name bytes) (Some shelf_error.Absent) v m e = absurd (m.not_absent refl)
shelf-rose shelf u (puts name bytes) (Some shelf_error.TooLarge) v m e = absurd (m.not_too_large refl)
shelf-rose shelf u (puts name bytes) (Some shelf_error.Failed) v m e = m.failed refl
shelf-rose shelf u (puts name bytes) (Some shelf_error.NoMemory) v m e = absurd (none-some e)
shelf-rose shelf u (opens name script) (Ok ms) v m e = absurd (none-some e)
shelf-rose shelf u (opens name script) (Err r) v m e = m.failed (ap Err (only-shelf r e))
shelf-rose shelf u lists x v m e = absurd m
shelf-rose shelf u (loads name) x v m e = absurd m
shelf-rose shelf u (saves name content) x v m e = absurd m
shelf-rose shelf u (removes name) x v m e = absurd m
shelf-rose shelf u (makes texts) x v m e = absurd m
shelf-rose shelf u (writes bytes) x v m e = absurd m
shelf-rose shelf u (crosses modules words budget) x v m e = absurd m
shelf-rose shelf u (measures asked modules hook) x v m e = absurd m
shelf-rose shelf u (tries modules words budget) x v m e = absurd m
shelf-rose shelf u (tests asked modules) x v m e = absurd m
shelf-rose shelf u (selects budget before after) x v m e = absurd m
shelf-rose shelf u (judges budget modules) x v m e = absurd m
shelf-rose shelf u (says text) x v m e = absurd m

-- a shelf's answer is nobody else's fault
pub shelf-alone : {H : Type 0} (shelf : ShelfOf H) (u : H) (call : Call) (x : Answer call) (v : H) (o : Object) → on_shelf shelf u call x v → blamed call x ≡ Some o → o ≡ the_shelf
shelf-alone shelf u (spells words) x v o m e = absurd m
shelf-alone shelf u (checks bytes) x v o m e = absurd (none-some e)
shelf-alone shelf u (reads name most) (Ok bytes) v o m e = absurd (none-some e)
shelf-alone shelf u (reads name most) (Err shelf_error.Absent) v o m e = absurd (none-some e)
shelf-alone shelf u (reads name most) (Err shelf_error.TooLarge) v o m e = absurd (none-some e)
shelf-alone shelf u (reads name most) (Err shelf_error.Failed) v o m e = sym (some-is e)
shelf-alone shelf u (reads name most) (Err shelf_error.NoMemory) v o m e = absurd (none-some e)
shelf-alone shelf u (puts name bytes) None v o m e = absurd (none-some e)
shelf-alone shelf u (puts name bytes) (Some shelf_error.Absent) v o m e = sym (some-is e)
shelf-alone shelf u (puts name bytes) (Some shelf_error.TooLarge) v o m e = sym (some-is e)
shelf-alone shelf u (puts name bytes) (Some shelf_error.Failed) v o m e = sym (some-is e)
shelf-alone shelf u (puts name bytes) (Some shelf_error.NoMemory) v o m e = absurd (none-some e)
shelf-alone shelf u (opens name script) x v o m e = m.blames o e
shelf-alone shelf u lists x v o m e = absurd m
shelf-alone shelf u (loads name) x v o m e = absurd m
shelf-alone shelf u (saves name content) x v o m e = absurd m
shelf-alone shelf u (removes name) x v o m e = absurd m
shelf-alone shelf u (makes texts) x v o m e = absurd m
shelf-alone shelf u (writes bytes) x v o m e = absurd m
shelf-alone shelf u (crosses modules words budget) x v o m e = absurd m
shelf-alone shelf u (measures asked modules hook) x v o m e = absurd m
shelf-alone shelf u (tries modules words budget) x v o m e = absurd m
shelf-alone shelf u (tests asked modules) x v o m e = absurd m
shelf-alone shelf u (selects budget before after) x v o m e = absurd m
shelf-alone shelf u (judges budget modules) x v o m e = absurd m
shelf-alone shelf u (says text) x v o m e = absurd m

-- ---- a vault

pub vault-later : {V : Type 0} (vault : VaultOf V) (u : V) (call : Call) (x : Answer call) (v : V) → on_vault vault u call x v → vault.faults u ≤ vault.faults v
vault-later vault u (spells words) x v m = absurd m
vault-later vault u (checks bytes) x v m = absurd m
vault-later vault u (reads name most) x v m = absurd m
vault-later vault u (puts name bytes) x v m = absurd m
vault-later vault u (opens name script) x v m = absurd m
vault-later vault u lists x v m = m.count
vault-later vault u (loads name) x v m = m.count
vault-later vault u (saves name content) x v m = m.count
vault-later vault u (removes name) x v m = m.count
vault-later vault u (makes texts) x v m = absurd m
vault-later vault u (writes bytes) x v m = absurd m
vault-later vault u (crosses modules words budget) x v m = absurd m
vault-later vault u (measures asked modules hook) x v m = absurd m
vault-later vault u (tries modules words budget) x v m = absurd m
vault-later vault u (tests asked modules) x v m = absurd m
vault-later vault u (selects budget before after) x v m = absurd m
vault-later vault u (judges budget modules) x v m = absurd m
vault-later vault u (says text) x v m = absurd m

pub vault-rose : {V : Type 0} (vault : VaultOf V) (u : V) (call : Call) (x : Answer call) (v : V) → on_vault vault u call x v → blamed call x ≡ Some the_vault → Rose (vault.faults u) (vault.faults v)
vault-rose vault u (spells words) x v m e = absurd m
vault-rose vault u (checks bytes) x v m e = absurd m
vault-rose vault u (reads name most) x v m e = absurd m
vault-rose vault u (puts name bytes) x v m e = absurd m
vault-rose vault u (opens name script) x v m e = absurd m
vault-rose vault u lists (Ok names) v m e = absurd (none-some e)
vault-rose vault u lists (Err vault_error.Absent) v m e = absurd (m.not_absent refl)
vault-rose vault u lists (Err vault_error.NotSchema7) v m e = absurd (none-some e)
vault-rose vault u lists (Err (vault_error.BadRow i)) v m e = absurd (none-some e)
vault-rose vault u lists (Err vault_error.Failed) v m e = m.failed refl
vault-rose vault u lists (Err vault_error.NoMemory) v m e = absurd (none-some e)
vault-rose vault u (loads name) (Ok d) v m e = absurd (none-some e)
vault-rose vault u (loads name) (Err vault_error.Absent) v m e = absurd (none-some e)
vault-rose vault u (loads name) (Err vault_error.NotSchema7) v m e = absurd (none-some e)
vault-rose vault u (loads name) (Err (vault_error.BadRow i)) v m e = absurd (none-some e)
vault-rose vault u (loads name) (Err vault_error.Failed) v m e = m.failed refl
vault-rose vault u (loads name) (Err vault_error.NoMemory) v m e = absurd (none-some e)
vault-rose vault u (saves name content) None v m e = absurd (none-some e)
vault-rose vault u (saves name content) (Some vault_error.Absent) v m e = absurd (m.not_absent refl)
vault-rose vault u (saves name content) (Some vault_error.NotSchema7) v m e = absurd (none-some e)
vault-rose vault u (saves name content) (Some (vault_error.BadRow i)) v m e = absurd (none-some e)
vault-rose vault u (saves name content) (Some vault_error.Failed) v m e = m.failed refl
vault-rose vault u (saves name content) (Some vault_error.NoMemory) v m e = absurd (none-some e)
vault-rose vault u (removes name) None v m e = absurd (none-some e)
vault-rose vault u (removes name) (Some vault_error.Absent) v m e = absurd (none-some e)
vault-rose vault u (removes name) (Some vault_error.NotSchema7) v m e = absurd (m.not_schema refl)
vault-rose vault u (removes name) (Some (vault_error.BadRow i)) v m e = absurd (m.not_bad_row i refl)
vault-rose vault u (removes name) (Some vault_error.Failed) v m e = m.failed refl
vault-rose vault u (removes name) (Some vault_error.NoMemory) v m e = absurd (none-some e)
vault-rose vault u (makes texts) x v m e = absurd m
vault-rose vault u (writes bytes) x v m e = absurd m
vault-rose vault u (crosses modules words budget) x v m e = absurd m
vault-rose vault u (measures asked modules hook) x v m e = absurd m
vault-rose vault u (tries modules words budget) x v m e = absurd m
vault-rose vault u (tests asked modules) x v m e = absurd m
vault-rose vault u (selects budget before after) x v m e = absurd m
vault-rose vault u (judges budget modules) x v m e = absurd m
vault-rose vault u (says text) x v m e = absurd m

pub vault-alone : {V : Type 0} (vault : VaultOf V) (u : V) (call : Call) (x : Answer call) (v : V) (o : Object) → on_vault vault u call x v → blamed call x ≡ Some o → o ≡ the_vault
vault-alone vault u (spells words) x v o m e = absurd m
vault-alone vault u (checks bytes) x v o m e = absurd m
vault-alone vault u (reads name most) x v o m e = absurd m
vault-alone vault u (puts name bytes) x v o m e = absurd m
vault-alone vault u (opens name script) x v o m e = absurd m
vault-alone vault u lists (Ok names) v o m e = absurd (none-some e)
vault-alone vault u lists (Err vault_error.Absent) v o m e = sym (some-is e)
vault-alone vault u lists (Err vault_error.NotSchema7) v o m e = absurd (none-some e)
vault-alone vault u lists (Err (vault_error.BadRow i)) v o m e = absurd (none-some e)
vault-alone vault u lists (Err vault_error.Failed) v o m e = sym (some-is e)
vault-alone vault u lists (Err vault_error.NoMemory) v o m e = absurd (none-some e)
vault-alone vault u (loads name) (Ok d) v o m e = absurd (none-some e)
vault-alone vault u (loads name) (Err vault_error.Absent) v o m e = absurd (none-some e)
vault-alone vault u (loads name) (Err vault_error.NotSchema7) v o m e = absurd (none-some e)
vault-alone vault u (loads name) (Err (vault_error.BadRow i)) v o m e = absurd (none-some e)
vault-alone vault u (loads name) (Err vault_error.Failed) v o m e = sym (some-is e)
vault-alone vault u (loads name) (Err vault_error.NoMemory) v o m e = absurd (none-some e)
vault-alone vault u (saves name content) None v o m e = absurd (none-some e)
vault-alone vault u (saves name content) (Some vault_error.Absent) v o m e = sym (some-is e)
vault-alone vault u (saves name content) (Some vault_error.NotSchema7) v o m e = absurd (none-some e)
vault-alone vault u (saves name content) (Some (vault_error.BadRow i)) v o m e = absurd (none-some e)
vault-alone vault u (saves name content) (Some vault_error.Failed) v o m e = sym (some-is e)
vault-alone vault u (saves name content) (Some vault_error.NoMemory) v o m e = absurd (none-some e)
vault-alone vault u (removes name) None v o m e = absurd (none-some e)
vault-alone vault u (removes name) (Some vault_error.Absent) v o m e = absurd (none-some e)
vault-alone vault u (removes name) (Some vault_error.NotSchema7) v o m e = sym (some-is e)
vault-alone vault u (removes name) (Some (vault_error.BadRow i)) v o m e = sym (some-is e)
vault-alone vault u (removes name) (Some vault_error.Failed) v o m e = sym (some-is e)
vault-alone vault u (removes name) (Some vault_error.NoMemory) v o m e = absurd (none-some e)
vault-alone vault u (makes texts) x v o m e = absurd m
vault-alone vault u (writes bytes) x v o m e = absurd m
vault-alone vault u (crosses modules words budget) x v o m e = absurd m
vault-alone vault u (measures asked modules hook) x v o m e = absurd m
vault-alone vault u (tries modules words budget) x v o m e = absurd m
vault-alone vault u (tests asked modules) x v o m e = absurd m
vault-alone vault u (selects budget before after) x v o m e = absurd m
vault-alone vault u (judges budget modules) x v o m e = absurd m
vault-alone vault u (says text) x v o m e = absurd m

-- ---- a maker

pub maker-later : {M : Type 0} (maker : MakerOf M) (u : M) (call : Call) (x : Answer call) (v : M) → on_maker maker u call x v → maker.sizes u ≤ maker.sizes v
maker-later maker u (spells words) x v m = absurd m
maker-later maker u (checks bytes) x v m = absurd m
maker-later maker u (reads name most) x v m = absurd m
maker-later maker u (puts name bytes) x v m = absurd m
maker-later maker u (opens name script) x v m = absurd m
maker-later maker u lists x v m = absurd m
maker-later maker u (loads name) x v m = absurd m
maker-later maker u (saves name content) x v m = absurd m
maker-later maker u (removes name) x v m = absurd m
maker-later maker u (makes texts) x v m = m.count
maker-later maker u (writes bytes) x v m = absurd m
maker-later maker u (crosses modules words budget) x v m = absurd m
maker-later maker u (measures asked modules hook) x v m = absurd m
maker-later maker u (tries modules words budget) x v m = absurd m
maker-later maker u (tests asked modules) x v m = absurd m
maker-later maker u (selects budget before after) x v m = absurd m
maker-later maker u (judges budget modules) x v m = absurd m
maker-later maker u (says text) x v m = absurd m

pub maker-rose : {M : Type 0} (maker : MakerOf M) (u : M) (call : Call) (x : Answer call) (v : M) → on_maker maker u call x v → blamed call x ≡ Some the_maker → Rose (maker.sizes u) (maker.sizes v)
maker-rose maker u (spells words) x v m e = absurd m
maker-rose maker u (checks bytes) x v m e = absurd m
maker-rose maker u (reads name most) x v m e = absurd m
maker-rose maker u (puts name bytes) x v m e = absurd m
maker-rose maker u (opens name script) x v m e = absurd m
maker-rose maker u lists x v m e = absurd m
maker-rose maker u (loads name) x v m e = absurd m
maker-rose maker u (saves name content) x v m e = absurd m
maker-rose maker u (removes name) x v m e = absurd m
maker-rose maker u (makes texts) None v m e = absurd (none-some e)
maker-rose maker u (makes texts) (Some (pattern_error.BadPattern i)) v m e = absurd (none-some e)
maker-rose maker u (makes texts) (Some (pattern_error.PatternSize i)) v m e = (m.refused (pattern_error.PatternSize i) refl).2
maker-rose maker u (makes texts) (Some pattern_error.NoMemory) v m e = absurd (none-some e)
maker-rose maker u (writes bytes) x v m e = absurd m
maker-rose maker u (crosses modules words budget) x v m e = absurd m
maker-rose maker u (measures asked modules hook) x v m e = absurd m
maker-rose maker u (tries modules words budget) x v m e = absurd m
maker-rose maker u (tests asked modules) x v m e = absurd m
maker-rose maker u (selects budget before after) x v m e = absurd m
maker-rose maker u (judges budget modules) x v m e = absurd m
maker-rose maker u (says text) x v m e = absurd m

pub maker-alone : {M : Type 0} (maker : MakerOf M) (u : M) (call : Call) (x : Answer call) (v : M) (o : Object) → on_maker maker u call x v → blamed call x ≡ Some o → o ≡ the_maker
maker-alone maker u (spells words) x v o m e = absurd m
maker-alone maker u (checks bytes) x v o m e = absurd m
maker-alone maker u (reads name most) x v o m e = absurd m
maker-alone maker u (puts name bytes) x v o m e = absurd m
maker-alone maker u (opens name script) x v o m e = absurd m
maker-alone maker u lists x v o m e = absurd m
maker-alone maker u (loads name) x v o m e = absurd m
maker-alone maker u (saves name content) x v o m e = absurd m
maker-alone maker u (removes name) x v o m e = absurd m
maker-alone maker u (makes texts) None v o m e = absurd (none-some e)
maker-alone maker u (makes texts) (Some (pattern_error.BadPattern i)) v o m e = absurd (none-some e)
maker-alone maker u (makes texts) (Some (pattern_error.PatternSize i)) v o m e = sym (some-is e)
maker-alone maker u (makes texts) (Some pattern_error.NoMemory) v o m e = absurd (none-some e)
maker-alone maker u (writes bytes) x v o m e = absurd m
maker-alone maker u (crosses modules words budget) x v o m e = absurd m
maker-alone maker u (measures asked modules hook) x v o m e = absurd m
maker-alone maker u (tries modules words budget) x v o m e = absurd m
maker-alone maker u (tests asked modules) x v o m e = absurd m
maker-alone maker u (selects budget before after) x v o m e = absurd m
maker-alone maker u (judges budget modules) x v o m e = absurd m
maker-alone maker u (says text) x v o m e = absurd m

-- ---- an output

pub sink-later : {O : Type 0} (sink : SinkOf O) (u : O) (call : Call) (x : Answer call) (v : O) → on_sink sink u call x v → sink.faults u ≤ sink.faults v
sink-later sink u (spells words) x v m = absurd m
sink-later sink u (checks bytes) x v m = absurd m
sink-later sink u (reads name most) x v m = absurd m
sink-later sink u (puts name bytes) x v m = absurd m
sink-later sink u (opens name script) x v m = absurd m
sink-later sink u lists x v m = absurd m
sink-later sink u (loads name) x v m = absurd m
sink-later sink u (saves name content) x v m = absurd m
sink-later sink u (removes name) x v m = absurd m
sink-later sink u (makes texts) x v m = absurd m
sink-later sink u (writes bytes) x v m = m.count
sink-later sink u (crosses modules words budget) x v m = absurd m
sink-later sink u (measures asked modules hook) x v m = absurd m
sink-later sink u (tries modules words budget) x v m = absurd m
sink-later sink u (tests asked modules) x v m = absurd m
sink-later sink u (selects budget before after) x v m = absurd m
sink-later sink u (judges budget modules) x v m = absurd m
sink-later sink u (says text) x v m = absurd m

-- ---- words, sources and `err`, which nobody blames

pub grammar-alone : (u : Unit {0}) (call : Call) (x : Answer call) (v : Unit {0}) (o : Object) → on_grammar u call x v → blamed call x ≡ Some o → ⊥
grammar-alone u (spells words) x v o m e = none-some e
grammar-alone u (checks bytes) x v o m e = none-some e
grammar-alone u (reads name most) x v o m e = m
grammar-alone u (puts name bytes) x v o m e = m
grammar-alone u (opens name script) x v o m e = m
grammar-alone u lists x v o m e = m
grammar-alone u (loads name) x v o m e = m
grammar-alone u (saves name content) x v o m e = m
grammar-alone u (removes name) x v o m e = m
grammar-alone u (makes texts) x v o m e = m
grammar-alone u (writes bytes) x v o m e = m
grammar-alone u (crosses modules words budget) x v o m e = m
grammar-alone u (measures asked modules hook) x v o m e = m
grammar-alone u (tries modules words budget) x v o m e = m
grammar-alone u (tests asked modules) x v o m e = m
grammar-alone u (selects budget before after) x v o m e = m
grammar-alone u (judges budget modules) x v o m e = m
grammar-alone u (says text) x v o m e = m

pub err-alone : {E : Type 0} (sink : SinkOf E) (u : Saying E) (call : Call) (x : Answer call) (v : Saying E) (o : Object) → on_err sink u call x v → blamed call x ≡ Some o → ⊥
err-alone sink u (spells words) x v o m e = m
err-alone sink u (checks bytes) x v o m e = m
err-alone sink u (reads name most) x v o m e = m
err-alone sink u (puts name bytes) x v o m e = m
err-alone sink u (opens name script) x v o m e = m
err-alone sink u lists x v o m e = m
err-alone sink u (loads name) x v o m e = m
err-alone sink u (saves name content) x v o m e = m
err-alone sink u (removes name) x v o m e = m
err-alone sink u (makes texts) x v o m e = m
err-alone sink u (writes bytes) x v o m e = m
err-alone sink u (crosses modules words budget) x v o m e = m
err-alone sink u (measures asked modules hook) x v o m e = m
err-alone sink u (tries modules words budget) x v o m e = m
err-alone sink u (tests asked modules) x v o m e = m
err-alone sink u (selects budget before after) x v o m e = m
err-alone sink u (judges budget modules) x v o m e = m
err-alone sink u (says text) x v o m e = none-some e
