use Rattle.std.proofs.Common.{◌++◌, ap, sym, ◌∙◌, string_bytes, lit<}
use Rattle.cov_step.specs.Names.{once}
use Rattle.cov_calls.proofs.Slashes.{once_onward, once_split, once_unsplit}
use Rattle.cov_calls.proofs.names.once.Goals as goal

pub split_once-requires-text-self : goal.split_once-requires-text-self
split_once-requires-text-self c = λ _. c.slashes.invariant.1

pub slashes-preserved : goal.slashes-preserved
slashes-preserved c = (
  once_onward (string_bytes c.slashes.taken) c.in-Some.before.now c.in-Some.after.now c.slashes.rest.now c.after_slashes-rest.result.now _ _ (once c.args.name.now) c.in_ok-push_str.ensures.bytes (c.in_ok-push.ensures.bytes ∙ ap (λ k. string_bytes c.push_str.new.self ++ k) (c.in_ok-push.ensures.ascii (lit< tt)))
      (once_split c.slashes.rest.now (c.in-Some.before, c.in-Some.after) c.in-Some.ensures.cases) c.after_slashes-rest.ensures.once c.slashes.invariant.0,
  c.after_slashes-rest.utf8,
)

pub push_str-requires-2-text-string : goal.push_str-requires-2-text-string
push_str-requires-2-text-string c = λ _. c.slashes.invariant.1

pub returns : goal.returns
returns c = c.in_ok-push_str-2.ensures.bytes ∙ ap (λ k. string_bytes c.slashes.taken ++ k) (sym (once_unsplit c.slashes.rest.now c.in_default.ensures.cases)) ∙ c.slashes.invariant.0
