use Rattle.py_syntax.specs.Tree.{not', unary, cond}
use Rattle.py_parse_expr.specs.ExprViews.{view_class, view_measured}
use Rattle.py_parse_expr.proofs.expr_stack.Frame.meet.Goals as goal

pub returns-in-ExprsFirst : goal.returns-in-ExprsFirst
returns-in-ExprsFirst c = rw c.in-ExprsFirst.is c.exprs_first.ensures

pub returns-in-ExprsRest : goal.returns-in-ExprsRest
returns-in-ExprsRest c = rw c.in-ExprsRest.is c.exprs_rest.ensures

pub returns-in-CondFirst : goal.returns-in-CondFirst
returns-in-CondFirst c = rw c.in-CondFirst.is c.cond_first.ensures

pub returns-in-CondTest : goal.returns-in-CondTest
returns-in-CondTest c = rw c.in-CondTest.is c.cond_test.ensures

pub returns-in-CondElse : goal.returns-in-CondElse
returns-in-CondElse c = rw c.in-CondElse.is (λ k. c.passed.ensures (cond (view_measured c.in-CondElse.body) (view_measured c.in-CondElse.test) (view_measured c.args.measured)) k (view_class c.args.class.now) c.conditional.ensures)

pub returns-in-First : goal.returns-in-First
returns-in-First c = rw c.in-First.is c.operand.ensures

pub returns-in-Right : goal.returns-in-Right
returns-in-Right c = rw c.in-Right.is c.right.ensures

pub returns-in-NotOf : goal.returns-in-NotOf
returns-in-NotOf c = rw c.in-NotOf.is (λ k. c.passed-in-NotOf.ensures (not' (view_measured c.args.measured)) k (view_class c.args.class.now) c.negation.ensures)

pub returns-in-CompareFirst : goal.returns-in-CompareFirst
returns-in-CompareFirst c = rw c.in-CompareFirst.is c.compare_first.ensures

pub returns-in-CompareRest : goal.returns-in-CompareRest
returns-in-CompareRest c = rw c.in-CompareRest.is c.compare_rest.ensures

pub returns-in-UnaryOf : goal.returns-in-UnaryOf
returns-in-UnaryOf c = rw c.in-UnaryOf.is (λ k. c.passed-in-UnaryOf.ensures (unary c.in-UnaryOf.sign (view_measured c.args.measured)) k (view_class c.args.class.now) c.unary.ensures)

pub returns-in-PostRest : goal.returns-in-PostRest
returns-in-PostRest c = rw c.in-PostRest.is c.post_rest.ensures

pub returns-in-InItems : goal.returns-in-InItems
returns-in-InItems c = rw c.in-InItems.is c.in_items.ensures

pub returns-in-IndexFirst : goal.returns-in-IndexFirst
returns-in-IndexFirst c = rw c.in-IndexFirst.is c.index_first.ensures

pub returns-in-InIndex : goal.returns-in-InIndex
returns-in-InIndex c = rw c.in-InIndex.is c.in_index.ensures

pub returns-in-SliceTo : goal.returns-in-SliceTo
returns-in-SliceTo c = rw c.in-SliceTo.is c.slice_to.ensures

pub returns-in-InParen : goal.returns-in-InParen
returns-in-InParen c = rw c.in-InParen.is c.in_paren.ensures

pub returns-in-InKey : goal.returns-in-InKey
returns-in-InKey c = rw c.in-InKey.is c.in_key.ensures

pub returns-in-InValue : goal.returns-in-InValue
returns-in-InValue c = rw c.in-InValue.is c.in_value.ensures

pub exprs_rest-requires-clause-frame : goal.exprs_rest-requires-clause-frame
exprs_rest-requires-clause-frame c = rw c.in-ExprsRest.is at c.requires.frame

pub cond_test-requires-clause-body : goal.cond_test-requires-clause-body
cond_test-requires-clause-body c = rw c.in-CondTest.is at c.requires.frame

pub conditional-requires-clause-body : goal.conditional-requires-clause-body
conditional-requires-clause-body c = let valid = rw c.in-CondElse.is at c.requires.frame in valid.0

pub conditional-requires-clause-test : goal.conditional-requires-clause-test
conditional-requires-clause-test c = let valid = rw c.in-CondElse.is at c.requires.frame in valid.1

pub right-requires-clause-left : goal.right-requires-clause-left
right-requires-clause-left c = rw c.in-Right.is at c.requires.frame

pub compare_rest-requires-clause-chain : goal.compare_rest-requires-clause-chain
compare_rest-requires-clause-chain c = rw c.in-CompareRest.is at c.requires.frame

pub in_items-requires-clause-opener : goal.in_items-requires-clause-opener
in_items-requires-clause-opener c = let valid = rw c.in-InItems.is at c.requires.frame in valid.0

pub in_items-requires-clause-items : goal.in_items-requires-clause-items
in_items-requires-clause-items c = let valid = rw c.in-InItems.is at c.requires.frame in valid.1

pub index_first-requires-clause-of : goal.index_first-requires-clause-of
index_first-requires-clause-of c = rw c.in-IndexFirst.is at c.requires.frame

pub in_index-requires-clause-of : goal.in_index-requires-clause-of
in_index-requires-clause-of c = rw c.in-InIndex.is at c.requires.frame

pub slice_to-requires-clause-of : goal.slice_to-requires-clause-of
slice_to-requires-clause-of c = let valid = rw c.in-SliceTo.is at c.requires.frame in valid.0

pub slice_to-requires-clause-from : goal.slice_to-requires-clause-from
slice_to-requires-clause-from c = let valid = rw c.in-SliceTo.is at c.requires.frame in valid.1

pub in_key-requires-clause-entries : goal.in_key-requires-clause-entries
in_key-requires-clause-entries c = rw c.in-InKey.is at c.requires.frame

pub in_value-requires-clause-entries : goal.in_value-requires-clause-entries
in_value-requires-clause-entries c = let valid = rw c.in-InValue.is at c.requires.frame in valid.0

pub in_value-requires-clause-key : goal.in_value-requires-clause-key
in_value-requires-clause-key c = let valid = rw c.in-InValue.is at c.requires.frame in valid.1
