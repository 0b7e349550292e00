-- A plugin that labels functions by a prefix of their names.
--     Prefix                   its state
--     begins, prefixed         the names that it labels, and their labels
--     verdict_of, left_after   what it answers, and how many labels are left then
--     PrefixMoves              both, as a relation of two states
use Rattle.std.specs.Prelude.{◌≡◌, ℕ, ◌-◌, ◌==◌, nat_eq, Bool, if◌then◌else◌, List, ◌++◌, codes, encode_utf8_all}
use Rattle.std.specs.List.{starts_with}
use Rattle.cov_event.specs.declared.plugin.Verdict.{Verdict}
use Rattle.cov_event.specs.declared.plugin.Verdict.TheVariants.{Quiet, Label, Leave}
use Rattle.cov_contexts.specs.Names.{dotted}

-- The characters of the prefix, and how many labels are left.
pub record Prefix : Type 0 where
  pub prefix : List ℕ
  pub left : ℕ

-- whether the name begins with the prefix
abbrev pub begins : List ℕ → List ℕ → Bool
begins prefix function = starts_with nat_eq function (encode_utf8_all prefix)

-- `prefix:module.function`
abbrev pub prefixed : List ℕ → List ℕ → List ℕ → List ℕ
prefixed prefix «module» function = prefix ++ codes ":" ++ dotted «module» function

-- it leaves where no label is left, and else labels the names with the prefix
abbrev pub verdict_of : Prefix → List ℕ → List ℕ → Verdict
verdict_of p «module» function =
    if p.left == 0 then Leave
    else (if begins p.prefix function then Label (prefixed p.prefix «module» function) else Quiet)

-- one fewer where it gave one
abbrev pub left_after : Prefix → List ℕ → ℕ
left_after p function = if begins p.prefix function then p.left - 1 else p.left

-- so it answers, and the prefix stays
abbrev pub PrefixMoves : Prefix → List ℕ → List ℕ → Verdict → Prefix → Type 0
PrefixMoves old «module» function verdict new =
    (verdict ≡ verdict_of old «module» function)
    × (new ≡ record old { left = left_after old function })
