use Rattle.std.proofs.Common.{◌≡◌, ◌≢◌, Some, IfErr, refl, sym, ap, ◌∙◌, subst, length, arith}
use Rattle.cov_why.specs.Answers.{no_memory, RefusedAs}
use Rattle.cov_run.specs.Refusals.{Refuses, crowded, large}
use Rattle.cov_run.specs.State.{Holds}
use Rattle.cov_run.proofs.Answering.{held}
use Rattle.cov_run.proofs.loading.Loading.add.Goals as goal

pub returns-then-len-ge-MOST_MODULES-clause-refused : goal.returns-then-len-ge-MOST_MODULES-clause-refused
returns-then-len-ge-MOST_MODULES-clause-refused c = λ content h m. let there = held content c.args.file h in let many = c.if-len-ge-MOST_MODULES.true in let l = c.len.ensures in crowded there.0 there.1 (omega (arith, many, l)) refl

pub returns-in-Bytes-clause-refused : goal.returns-in-Bytes-clause-refused
returns-in-Bytes-clause-refused c = λ content h.
    let there : content ≡ Some c.in-Bytes.bytes.items = subst (Holds content) c.in-Bytes.is h in
    subst (λ f. IfErr c.add_bytes.result (λ w. RefusedAs w (λ r. r ≢ no_memory → Refuses (length c.args.self.now.sources.items) c.args.self.now.bytes c.args.path f r))) (ap Some c.deref.ensures.value ∙ sym there) c.add_bytes.ensures.refused

pub returns-in-TooLarge-clause-refused : goal.returns-in-TooLarge-clause-refused
returns-in-TooLarge-clause-refused c = λ content h m.
    let there = subst (Holds content) c.in-TooLarge.is h in
    let few = c.if-len-ge-MOST_MODULES.false in
    let l = c.len.ensures in
    large there.0 (record { there = there.1; few = omega (arith, few, l) }) there.2 refl
