-- The rules of `paths`, member by member.
use Rattle.std.proofs.Common.{◌≡◌, List, [], ◌∷◌, ◌++◌, Option, Some, None, Result, Ok, Err, codes, refl, ap, sym, ◌∙◌, append_assoc, append-nil}
use Rattle.std.specs.Option.{ok_or}
use Rattle.toml.specs.Data.{Data, Members, member, no_members}
use Rattle.cov_file_names.specs.Forms.{Text}
use Rattle.cov_config.specs.Forms.{rule_texts}
use Rattle.cov_config.specs.Settings.{key_name, next, rules_in}

abbrev pub Rules : Type 0
Rules = List (Text × List Text)

-- rules after those before
abbrev pub after : Rules → Result Rules Text → Result Rules Text
after before r = next r (λ more. Ok (before ++ more))

pub after-nil : (r : Result Rules Text) → r ≡ after [] r
after-nil (Ok rules) = refl
after-nil (Err bad) = refl

after-cons : (before : Rules) (name : Text) (rule : List Text) (r : Result Rules Text) → after before (next r (λ rules. Ok ((name, rule) ∷ rules))) ≡ after (before ++ (name, rule) ∷ []) r
after-cons before name rule (Ok rules) = ap Ok (sym (append_assoc before ((name, rule) ∷ []) rules))
after-cons before name rule (Err bad) = refl

-- what the first member gives
first : Text → Members → Option (List Text) → Result Rules Text
first name ms o = next (ok_or o (key_name (codes "paths") name)) (λ rule. next (rules_in ms) (λ rules. Ok ((name, rule) ∷ rules)))

-- one member more, which gives a rule
pub after-rule : (before : Rules) (name : Text) (d : Data) (ms : Members) (rule : List Text) → rule_texts d ≡ Some rule
    → after before (rules_in (member name d ms)) ≡ after (before ++ (name, rule) ∷ []) (rules_in ms)
unfolding first
after-rule before name d ms rule is = ap (λ o. after before (first name ms o)) is ∙ after-cons before name rule (rules_in ms)

-- a member that gives none
pub after-bad : (before : Rules) (name : Text) (d : Data) (ms : Members) → rule_texts d ≡ None → after before (rules_in (member name d ms)) ≡ Err (key_name (codes "paths") name)
unfolding first
after-bad before name d ms is = ap (λ o. after before (first name ms o)) is

pub after-all : (before : Rules) → after before (rules_in no_members) ≡ Ok before
after-all before = ap Ok (append-nil before)
