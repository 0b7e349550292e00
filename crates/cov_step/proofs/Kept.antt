-- What calls leave of a shelf and a vault that tell what they hold.
use Rattle.std.proofs.Common.{◌≡◌, true, false, true≢false, refl, sym, ap, Some, None}
use Rattle.cov_outside.specs.declared.shelf.Shelf.{Ghosts as ShelfOf}
use Rattle.cov_vault.specs.declared.vault.Vault.{Ghosts as VaultOf}
use Rattle.cov_vault.specs.declared.vault.VaultError.TheVariants as vault_error
use Rattle.cov_step.specs.Calls.{Call, spells, checks, reads, puts, opens, lists, loads, saves, removes, makes, writes, crosses, measures, tries, tests, selects, judges, says, Answer}
use Rattle.cov_step.specs.Objects.{on_shelf, on_vault}
use Rattle.cov_step.specs.Promises.{keeps}

pub shelf-kept : {H : Type 0} (shelf : ShelfOf H) → shelf.tells → (u : H) (call : Call) (x : Answer call) (v : H) → on_shelf shelf u call x v → keeps call x ≡ true → shelf.files v ≡ shelf.files u
shelf-kept shelf t u (spells words) x v m e = absurd m
shelf-kept shelf t u (checks bytes) x v m e = ap shelf.files m.same
shelf-kept shelf t u (reads name most) x v m e = (shelf.truthful t u name most x v m.moved).1
shelf-kept shelf t u (puts name bytes) None v m e = absurd (true≢false (sym e))
shelf-kept shelf t u (puts name bytes) (Some r) v m e = shelf.puts_whole t u name bytes (Some r) v m.moved
shelf-kept shelf t u (opens name script) x v m e = m.kept t
shelf-kept shelf t u lists x v m e = absurd m
shelf-kept shelf t u (loads name) x v m e = absurd m
shelf-kept shelf t u (saves name content) x v m e = absurd m
shelf-kept shelf t u (removes name) x v m e = absurd m
shelf-kept shelf t u (makes texts) x v m e = absurd m
shelf-kept shelf t u (writes bytes) x v m e = absurd m
shelf-kept shelf t u (crosses modules words budget) x v m e = absurd m
shelf-kept shelf t u (measures asked modules hook) x v m e = absurd m
shelf-kept shelf t u (tries modules words budget) x v m e = absurd m
shelf-kept shelf t u (tests asked modules) x v m e = absurd m
shelf-kept shelf t u (selects budget before after) x v m e = absurd m
shelf-kept shelf t u (judges budget modules) x v m e = absurd m
shelf-kept shelf t u (says text) x v m e = absurd m

-- a vault that tells goes on telling
pub vault-tells : {V : Type 0} (vault : VaultOf V) (u : V) (call : Call) (x : Answer call) (v : V) → on_vault vault u call x v → vault.tells u → vault.tells v
vault-tells vault u (spells words) x v m t = absurd m
vault-tells vault u (checks bytes) x v m t = absurd m
vault-tells vault u (reads name most) x v m t = absurd m
vault-tells vault u (puts name bytes) x v m t = absurd m
vault-tells vault u (opens name script) x v m t = absurd m
vault-tells vault u lists x v m t = (vault.lists_truly u x v t m.moved).0
vault-tells vault u (loads name) x v m t = (vault.loads_truly u name x v t m.moved).0
vault-tells vault u (saves name content) x v m t = (vault.saves_whole u name content x v t m.moved).0
vault-tells vault u (removes name) x v m t = (vault.removes_whole u name x v t m.moved).0
vault-tells vault u (makes texts) x v m t = absurd m
vault-tells vault u (writes bytes) x v m t = absurd m
vault-tells vault u (crosses modules words budget) x v m t = absurd m
vault-tells vault u (measures asked modules hook) x v m t = absurd m
vault-tells vault u (tries modules words budget) x v m t = absurd m
vault-tells vault u (tests asked modules) x v m t = absurd m
vault-tells vault u (selects budget before after) x v m t = absurd m
vault-tells vault u (judges budget modules) x v m t = absurd m
vault-tells vault u (says text) x v m t = absurd m

pub vault-kept : {V : Type 0} (vault : VaultOf V) (u : V) (call : Call) (x : Answer call) (v : V) → on_vault vault u call x v → vault.tells u → keeps call x ≡ true → vault.contents v ≡ vault.contents u
vault-kept vault u (spells words) x v m t e = absurd m
vault-kept vault u (checks bytes) x v m t e = absurd m
vault-kept vault u (reads name most) x v m t e = absurd m
vault-kept vault u (puts name bytes) x v m t e = absurd m
vault-kept vault u (opens name script) x v m t e = absurd m
vault-kept vault u lists x v m t e = (vault.lists_truly u x v t m.moved).2
vault-kept vault u (loads name) x v m t e = (vault.loads_truly u name x v t m.moved).2
vault-kept vault u (saves name content) None v m t e = absurd (true≢false (sym e))
vault-kept vault u (saves name content) (Some vault_error.Absent) v m t e = absurd (m.not_absent refl)
vault-kept vault u (saves name content) (Some vault_error.NotSchema7) v m t e = (vault.saves_whole u name content (Some vault_error.NotSchema7) v t m.moved).1.1
vault-kept vault u (saves name content) (Some (vault_error.BadRow i)) v m t e = absurd (m.not_bad_row i refl)
vault-kept vault u (saves name content) (Some vault_error.Failed) v m t e = (vault.saves_whole u name content (Some vault_error.Failed) v t m.moved).1
vault-kept vault u (saves name content) (Some vault_error.NoMemory) v m t e = (vault.saves_whole u name content (Some vault_error.NoMemory) v t m.moved).1
vault-kept vault u (removes name) None v m t e = absurd (true≢false (sym e))
vault-kept vault u (removes name) (Some vault_error.Absent) v m t e = (vault.removes_whole u name (Some vault_error.Absent) v t m.moved).1.1
vault-kept vault u (removes name) (Some vault_error.NotSchema7) v m t e = absurd (m.not_schema refl)
vault-kept vault u (removes name) (Some (vault_error.BadRow i)) v m t e = absurd (m.not_bad_row i refl)
vault-kept vault u (removes name) (Some vault_error.Failed) v m t e = (vault.removes_whole u name (Some vault_error.Failed) v t m.moved).1
vault-kept vault u (removes name) (Some vault_error.NoMemory) v m t e = (vault.removes_whole u name (Some vault_error.NoMemory) v t m.moved).1
vault-kept vault u (makes texts) x v m t e = absurd m
vault-kept vault u (writes bytes) x v m t e = absurd m
vault-kept vault u (crosses modules words budget) x v m t e = absurd m
vault-kept vault u (measures asked modules hook) x v m t e = absurd m
vault-kept vault u (tries modules words budget) x v m t e = absurd m
vault-kept vault u (tests asked modules) x v m t e = absurd m
vault-kept vault u (selects budget before after) x v m t e = absurd m
vault-kept vault u (judges budget modules) x v m t e = absurd m
vault-kept vault u (says text) x v m t e = absurd m
