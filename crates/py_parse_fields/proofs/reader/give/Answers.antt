use Rattle.std.proofs.Common.{ap, sym, subst, ◌∙◌}
use Rattle.py_grammar.specs.Machine.{Out, give}
use Rattle.py_grammar.specs.Least.{least_name}
use Rattle.py_grammar.specs.Bare.{bare_out}
use Rattle.py_parse_fields.specs.declared.replies.Reply.TheVariants as reply_
use Rattle.py_parse_fields.specs.Frames.{view_stack, view_class}
use Rattle.py_parse_fields.specs.Reader.{Turns}
use Rattle.py_parse_fields.proofs.Offers.{offered}
use Rattle.py_parse_fields.proofs.reader.give.Goals as goal

pub frames-preserved : goal.frames-preserved
frames-preserved c = offered (give least_name (view_stack c.args.frames.items) (view_class c.args.class)) c.frames.frames.items c.pop.new.frames.items c.in-Some.frame (view_class c.args.class) reply_.Pass c.in-Some.ensures c.in-Pass.ensures c.frames.invariant

pub returns-in-Stuck : goal.returns-in-Stuck
returns-in-Stuck c = offered (give least_name (view_stack c.args.frames.items) (view_class c.args.class)) c.frames.frames.items c.pop.new.frames.items c.in-Some.frame (view_class c.args.class) reply_.Stuck c.in-Some.ensures c.in-Stuck.ensures c.frames.invariant

pub returns-in-Goes : goal.returns-in-Goes
returns-in-Goes c = offered (give least_name (view_stack c.args.frames.items) (view_class c.args.class)) c.frames.frames.items c.pop.new.frames.items c.in-Some.frame (view_class c.args.class) (reply_.Goes c.in-Goes.progress) c.in-Some.ensures c.in-Goes.ensures c.frames.invariant ∙ ap bare_out (sym c.next.ensures)

pub returns-in-Opens : goal.returns-in-Opens
returns-in-Opens c = subst (λ (o : Out). Turns o c.open.result) (sym (offered (give least_name (view_stack c.args.frames.items) (view_class c.args.class)) c.frames.frames.items c.pop.new.frames.items c.in-Some.frame (view_class c.args.class) (reply_.Opens c.in-Opens.inner c.in-Opens.progress) c.in-Some.ensures c.in-Opens.ensures c.frames.invariant)) c.open.ensures
