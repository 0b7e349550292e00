use Rattle.std.proofs.Common.{◌≡◌, ◌<◌, ◌≤◌, ℕ, Option, option_map, subst, arith}
use Rattle.py_syntax.specs.Spelling.{NESTING}
use Rattle.py_token.specs.View.{view_tokens}
use Rattle.py_statements.specs.declared.places.State.{State}
use Rattle.py_statements.specs.ViewStates.{view_state}
use Rattle.py_parse.specs.Progress.{Turns}
use Rattle.py_parse.proofs.View.Answering.{moved_on, moved_deep, moved_nowhere}
use Rattle.py_parse.proofs.progress.moved.Goals as goal

pub unexpected-requires-clause-is : goal.unexpected-requires-clause-is
unexpected-requires-clause-is c = moved_nowhere c.args.tokens.now c.args.place c.requires.inside (subst (λ (s : Option State). Turns (view_tokens c.args.tokens.now) c.args.place (λ t o. o ≡ option_map view_state s)) c.in_default.is c.requires.turns)

pub too_many_suites-requires-clause-is : goal.too_many_suites-requires-clause-is
too_many_suites-requires-clause-is c = moved_deep c.args.tokens.now c.args.place c.in-Some.state c.requires.inside (subst (λ (s : Option State). Turns (view_tokens c.args.tokens.now) c.args.place (λ t o. o ≡ option_map view_state s)) c.in-Some.is c.requires.turns) (subst (λ (n : ℕ). NESTING < n) c.level.ensures c.if-level-gt-NESTING_LIMIT.true)

pub returns : goal.returns
returns c = (
  omega arith,
  moved_on c.args.tokens.now c.args.place c.in-Some.state c.requires.inside (subst (λ (s : Option State). Turns (view_tokens c.args.tokens.now) c.args.place (λ t o. o ≡ option_map view_state s)) c.in-Some.is c.requires.turns) (subst (λ (n : ℕ). n ≤ NESTING) c.level.ensures c.if-level-gt-NESTING_LIMIT.false),
)
