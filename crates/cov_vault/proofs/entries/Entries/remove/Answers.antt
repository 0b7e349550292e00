use Rattle.std.proofs.Common.{rules, ap, ◌∙◌, refl}
use Rattle.std.proofs.lemmas.Fn.{filter_same}
use Rattle.cov_vault.specs.Contents.{contents_of}
use Rattle.cov_vault.proofs.Named.{get-absent, some_held, removed, is_other}
use Rattle.cov_vault.proofs.entries.Entries.remove.Goals as goal

pub returns-in_default-clause-absent : goal.returns-in_default-clause-absent
returns-in_default-clause-absent c = (refl, get-absent c.args.name.now c.args.self.now.pairs.items (search rules))

pub returns-clause-ok : goal.returns-clause-ok
returns-clause-ok c =
    ap contents_of (filter_same _ (is_other c.args.name.now) _ (λ x b f' k. search rules) _ _ c.retain.ensures.filtered) ∙ removed c.args.name.now c.args.self.now.pairs.items

pub returns-clause-removes : goal.returns-clause-removes
returns-clause-removes c = λ none. some_held c.args.name.now c.args.self.now.pairs.items c.in-Some._first (search rules) none
