-- What the function of each form does is what its instruction does.
use Rattle.py_code.specs.declared.instr.Instr.TheVariants.{AddPair, Again, And, Assertion, AssertionWith, Attribute, Binary, Breaking, Call, Catches, Caught, Compare, Constant, Continuing, Copy, Dict, Ending, Extend, Function, FunctionWith, Goto, IfFalse, IfTrue, Import, InPlace, Index, Leave, Link, List, LoadGlobal, LoadLocal, Mark, Method, Module, Next, Not, Or, Pop, Raise, Release, Reraise, Return, Returning, Roll, Sequence, Settle, Sink, Slice, StoreGlobal, StoreIndex, StoreLocal, Take, Text, Tuple, Uncaught, Unless, Unpack, UnsetGlobal, UnsetLocal, Walk}
use Rattle.py_code.specs.Loaded.{modules_of}
use Rattle.py_instructions.proofs.Acting.{alone, if_alone, if_given, if_kept, if_within, within}
use Rattle.py_instructions.proofs.frame.State.act.Goals as goal

pub constant-requires : goal.constant-requires
constant-requires c = c.requires.room

pub pop-requires : goal.pop-requires
pop-requires c = c.requires.room

pub copy-requires : goal.copy-requires
copy-requires c = c.requires.room

pub sink-requires : goal.sink-requires
sink-requires c = c.requires.room

pub roll-requires : goal.roll-requires
roll-requires c = c.requires.room

pub load_local-requires : goal.load_local-requires
load_local-requires c = c.requires.room

pub store_local-requires : goal.store_local-requires
store_local-requires c = c.requires.room

pub unset_local-requires : goal.unset_local-requires
unset_local-requires c = c.requires.room

pub load_global-requires : goal.load_global-requires
load_global-requires c = c.requires.room

pub store_global-requires : goal.store_global-requires
store_global-requires c = c.requires.room

pub unset_global-requires : goal.unset_global-requires
unset_global-requires c = c.requires.room

pub text-requires : goal.text-requires
text-requires c = c.requires.room

pub extend-requires : goal.extend-requires
extend-requires c = c.requires.room

pub tuple-requires : goal.tuple-requires
tuple-requires c = c.requires.room

pub list-requires : goal.list-requires
list-requires c = c.requires.room

pub dict-requires : goal.dict-requires
dict-requires c = c.requires.room

pub add_pair-requires : goal.add_pair-requires
add_pair-requires c = c.requires.room

pub not-requires : goal.not-requires
not-requires c = c.requires.room

pub binary-requires : goal.binary-requires
binary-requires c = c.requires.room

pub in_place-requires : goal.in_place-requires
in_place-requires c = c.requires.room

pub compare-requires : goal.compare-requires
compare-requires c = c.requires.room

pub index-requires : goal.index-requires
index-requires c = c.requires.room

pub slice-requires : goal.slice-requires
slice-requires c = c.requires.room

pub attribute-requires : goal.attribute-requires
attribute-requires c = c.requires.room

pub store_index-requires : goal.store_index-requires
store_index-requires c = c.requires.room

pub unpack-requires : goal.unpack-requires
unpack-requires c = c.requires.room

pub if_false-requires : goal.if_false-requires
if_false-requires c = c.requires.room

pub if_true-requires : goal.if_true-requires
if_true-requires c = c.requires.room

pub and-requires : goal.and-requires
and-requires c = c.requires.room

pub or-requires : goal.or-requires
or-requires c = c.requires.room

pub link-requires : goal.link-requires
link-requires c = c.requires.room

pub unless-requires : goal.unless-requires
unless-requires c = c.requires.room

pub sequence-requires : goal.sequence-requires
sequence-requires c = c.requires.room

pub mark-requires : goal.mark-requires
mark-requires c = c.requires.room

pub again-requires : goal.again-requires
again-requires c = c.requires.room

pub walk-requires : goal.walk-requires
walk-requires c = c.requires.room

pub next-requires : goal.next-requires
next-requires c = c.requires.room

pub method-requires : goal.method-requires
method-requires c = c.requires.room

pub call-requires : goal.call-requires
call-requires c = c.requires.room

pub function-requires : goal.function-requires
function-requires c = c.requires.room

pub function_with-requires : goal.function_with-requires
function_with-requires c = c.requires.room

pub import-requires : goal.import-requires
import-requires c = record { room = c.requires.room; few = c.requires.few }

pub load_module-requires : goal.load_module-requires
load_module-requires c = record { room = c.requires.room; few = c.requires.few }

pub take-requires : goal.take-requires
take-requires c = c.requires.room

pub catches-requires : goal.catches-requires
catches-requires c = c.requires.room

pub caught-requires : goal.caught-requires
caught-requires c = c.requires.room

pub ending-requires : goal.ending-requires
ending-requires c = c.requires.room

pub returns-in-Constant : goal.returns-in-Constant
returns-in-Constant c = if_alone (modules_of c.args.programs.now) c.args.unit.now c.args.instr (Constant c.in-Constant.n) c.in-Constant.is c.args.self.now c.constant.new.self c.args.store.now c.constant.result c.constant.ensures

pub returns-in-Pop : goal.returns-in-Pop
returns-in-Pop c = alone (modules_of c.args.programs.now) c.args.unit.now c.args.instr Pop c.in-Pop.is c.args.self.now c.pop.new.self c.args.store.now c.pop.result c.pop.ensures

pub returns-in-Copy : goal.returns-in-Copy
returns-in-Copy c = if_alone (modules_of c.args.programs.now) c.args.unit.now c.args.instr (Copy c.in-Copy.n) c.in-Copy.is c.args.self.now c.copy.new.self c.args.store.now c.copy.result c.copy.ensures

pub returns-in-Sink : goal.returns-in-Sink
returns-in-Sink c = if_alone (modules_of c.args.programs.now) c.args.unit.now c.args.instr (Sink c.in-Sink.n) c.in-Sink.is c.args.self.now c.sink.new.self c.args.store.now c.sink.result c.sink.ensures

pub returns-in-Roll : goal.returns-in-Roll
returns-in-Roll c = if_alone (modules_of c.args.programs.now) c.args.unit.now c.args.instr (Roll c.in-Roll.n) c.in-Roll.is c.args.self.now c.roll.new.self c.args.store.now c.roll.result c.roll.ensures

pub returns-in-LoadLocal : goal.returns-in-LoadLocal
returns-in-LoadLocal c = if_alone (modules_of c.args.programs.now) c.args.unit.now c.args.instr (LoadLocal c.in-LoadLocal.n) c.in-LoadLocal.is c.args.self.now c.load_local.new.self c.args.store.now c.load_local.result c.load_local.ensures

pub returns-in-StoreLocal : goal.returns-in-StoreLocal
returns-in-StoreLocal c = alone (modules_of c.args.programs.now) c.args.unit.now c.args.instr (StoreLocal c.in-StoreLocal.n) c.in-StoreLocal.is c.args.self.now c.store_local.new.self c.args.store.now c.store_local.result c.store_local.ensures

pub returns-in-UnsetLocal : goal.returns-in-UnsetLocal
returns-in-UnsetLocal c = alone (modules_of c.args.programs.now) c.args.unit.now c.args.instr (UnsetLocal c.in-UnsetLocal.n) c.in-UnsetLocal.is c.args.self.now c.unset_local.new.self c.args.store.now c.unset_local.result c.unset_local.ensures

pub returns-in-LoadGlobal : goal.returns-in-LoadGlobal
returns-in-LoadGlobal c = if_within (modules_of c.args.programs.now) c.args.unit.now c.args.instr (LoadGlobal c.in-LoadGlobal.n) c.in-LoadGlobal.is c.args.self.now c.load_global.new.self c.args.store.now c.args.store.now c.load_global.result c.load_global.ensures

pub returns-in-StoreGlobal : goal.returns-in-StoreGlobal
returns-in-StoreGlobal c = if_within (modules_of c.args.programs.now) c.args.unit.now c.args.instr (StoreGlobal c.in-StoreGlobal.n) c.in-StoreGlobal.is c.args.self.now c.store_global.new.self c.args.store.now c.store_global.new.store c.store_global.result c.store_global.ensures

pub returns-in-UnsetGlobal : goal.returns-in-UnsetGlobal
returns-in-UnsetGlobal c = if_within (modules_of c.args.programs.now) c.args.unit.now c.args.instr (UnsetGlobal c.in-UnsetGlobal.n) c.in-UnsetGlobal.is c.args.self.now c.unset_global.new.self c.args.store.now c.unset_global.new.store c.unset_global.result c.unset_global.ensures

pub returns-in-Text : goal.returns-in-Text
returns-in-Text c = if_within (modules_of c.args.programs.now) c.args.unit.now c.args.instr Text c.in-Text.is c.args.self.now c.text.new.self c.args.store.now c.args.store.now c.text.result c.text.ensures

pub returns-in-Extend : goal.returns-in-Extend
returns-in-Extend c = if_within (modules_of c.args.programs.now) c.args.unit.now c.args.instr Extend c.in-Extend.is c.args.self.now c.extend.new.self c.args.store.now c.extend.new.store c.extend.result c.extend.ensures

pub returns-in-Tuple : goal.returns-in-Tuple
returns-in-Tuple c = if_alone (modules_of c.args.programs.now) c.args.unit.now c.args.instr (Tuple c.in-Tuple.n) c.in-Tuple.is c.args.self.now c.tuple.new.self c.args.store.now c.tuple.result c.tuple.ensures

pub returns-in-List : goal.returns-in-List
returns-in-List c = if_within (modules_of c.args.programs.now) c.args.unit.now c.args.instr (List c.in-List.n) c.in-List.is c.args.self.now c.list.new.self c.args.store.now c.list.new.store c.list.result c.list.ensures

pub returns-in-Dict : goal.returns-in-Dict
returns-in-Dict c = if_within (modules_of c.args.programs.now) c.args.unit.now c.args.instr Dict c.in-Dict.is c.args.self.now c.dict.new.self c.args.store.now c.dict.new.store c.dict.result c.dict.ensures

pub returns-in-AddPair : goal.returns-in-AddPair
returns-in-AddPair c = if_within (modules_of c.args.programs.now) c.args.unit.now c.args.instr AddPair c.in-AddPair.is c.args.self.now c.add_pair.new.self c.args.store.now c.add_pair.new.store c.add_pair.result c.add_pair.ensures

pub returns-in-Not : goal.returns-in-Not
returns-in-Not c = if_within (modules_of c.args.programs.now) c.args.unit.now c.args.instr Not c.in-Not.is c.args.self.now c.not.new.self c.args.store.now c.args.store.now c.not.result c.not.ensures

pub returns-in-Binary : goal.returns-in-Binary
returns-in-Binary c = if_within (modules_of c.args.programs.now) c.args.unit.now c.args.instr (Binary c.in-Binary.op) c.in-Binary.is c.args.self.now c.binary.new.self c.args.store.now c.binary.new.store c.binary.result c.binary.ensures

pub returns-in-InPlace : goal.returns-in-InPlace
returns-in-InPlace c = if_within (modules_of c.args.programs.now) c.args.unit.now c.args.instr (InPlace c.in-InPlace.op) c.in-InPlace.is c.args.self.now c.in_place.new.self c.args.store.now c.in_place.new.store c.in_place.result c.in_place.ensures

pub returns-in-Compare : goal.returns-in-Compare
returns-in-Compare c = if_within (modules_of c.args.programs.now) c.args.unit.now c.args.instr (Compare c.in-Compare.question) c.in-Compare.is c.args.self.now c.compare.new.self c.args.store.now c.args.store.now c.compare.result c.compare.ensures

pub returns-in-Index : goal.returns-in-Index
returns-in-Index c = if_within (modules_of c.args.programs.now) c.args.unit.now c.args.instr Index c.in-Index.is c.args.self.now c.index.new.self c.args.store.now c.args.store.now c.index.result c.index.ensures

pub returns-in-Slice : goal.returns-in-Slice
returns-in-Slice c = if_within (modules_of c.args.programs.now) c.args.unit.now c.args.instr (Slice c.in-Slice.bounds) c.in-Slice.is c.args.self.now c.slice.new.self c.args.store.now c.slice.new.store c.slice.result c.slice.ensures

pub returns-in-Attribute : goal.returns-in-Attribute
returns-in-Attribute c = if_within (modules_of c.args.programs.now) c.args.unit.now c.args.instr (Attribute c.in-Attribute.n) c.in-Attribute.is c.args.self.now c.attribute.new.self c.args.store.now c.args.store.now c.attribute.result c.attribute.ensures

pub returns-in-StoreIndex : goal.returns-in-StoreIndex
returns-in-StoreIndex c = if_within (modules_of c.args.programs.now) c.args.unit.now c.args.instr StoreIndex c.in-StoreIndex.is c.args.self.now c.store_index.new.self c.args.store.now c.store_index.new.store c.store_index.result c.store_index.ensures

pub returns-in-Unpack : goal.returns-in-Unpack
returns-in-Unpack c = if_within (modules_of c.args.programs.now) c.args.unit.now c.args.instr (Unpack c.in-Unpack.n) c.in-Unpack.is c.args.self.now c.unpack.new.self c.args.store.now c.args.store.now c.unpack.result c.unpack.ensures

pub returns-in-Goto : goal.returns-in-Goto
returns-in-Goto c = alone (modules_of c.args.programs.now) c.args.unit.now c.args.instr (Goto c.in-Goto.to) c.in-Goto.is c.args.self.now c.goto.new.self c.args.store.now c.goto.result c.goto.ensures

pub returns-in-IfFalse : goal.returns-in-IfFalse
returns-in-IfFalse c = within (modules_of c.args.programs.now) c.args.unit.now c.args.instr (IfFalse c.in-IfFalse.to) c.in-IfFalse.is c.args.self.now c.if_false.new.self c.args.store.now c.args.store.now c.if_false.result c.if_false.ensures

pub returns-in-IfTrue : goal.returns-in-IfTrue
returns-in-IfTrue c = within (modules_of c.args.programs.now) c.args.unit.now c.args.instr (IfTrue c.in-IfTrue.to) c.in-IfTrue.is c.args.self.now c.if_true.new.self c.args.store.now c.args.store.now c.if_true.result c.if_true.ensures

pub returns-in-And : goal.returns-in-And
returns-in-And c = if_within (modules_of c.args.programs.now) c.args.unit.now c.args.instr (And c.in-And.to) c.in-And.is c.args.self.now c.and.new.self c.args.store.now c.args.store.now c.and.result c.and.ensures

pub returns-in-Or : goal.returns-in-Or
returns-in-Or c = if_within (modules_of c.args.programs.now) c.args.unit.now c.args.instr (Or c.in-Or.to) c.in-Or.is c.args.self.now c.or.new.self c.args.store.now c.args.store.now c.or.result c.or.ensures

pub returns-in-Link : goal.returns-in-Link
returns-in-Link c = if_within (modules_of c.args.programs.now) c.args.unit.now c.args.instr (Link c.in-Link.question c.in-Link.to) c.in-Link.is c.args.self.now c.link.new.self c.args.store.now c.args.store.now c.link.result c.link.ensures

pub returns-in-Unless : goal.returns-in-Unless
returns-in-Unless c = within (modules_of c.args.programs.now) c.args.unit.now c.args.instr (Unless c.in-Unless.n c.in-Unless.to) c.in-Unless.is c.args.self.now c.unless.new.self c.args.store.now c.args.store.now c.unless.result c.unless.ensures

pub returns-in-Sequence : goal.returns-in-Sequence
returns-in-Sequence c = if_within (modules_of c.args.programs.now) c.args.unit.now c.args.instr (Sequence c.in-Sequence.count c.in-Sequence.n c.in-Sequence.to) c.in-Sequence.is c.args.self.now c.sequence.new.self c.args.store.now c.args.store.now c.sequence.result c.sequence.ensures

pub returns-in-Mark : goal.returns-in-Mark
returns-in-Mark c = alone (modules_of c.args.programs.now) c.args.unit.now c.args.instr (Mark c.in-Mark.n) c.in-Mark.is c.args.self.now c.mark.new.self c.args.store.now c.mark.result c.mark.ensures

pub returns-in-Again : goal.returns-in-Again
returns-in-Again c = alone (modules_of c.args.programs.now) c.args.unit.now c.args.instr (Again c.in-Again.n) c.in-Again.is c.args.self.now c.again.new.self c.args.store.now c.again.result c.again.ensures

pub returns-in-Walk : goal.returns-in-Walk
returns-in-Walk c = if_within (modules_of c.args.programs.now) c.args.unit.now c.args.instr Walk c.in-Walk.is c.args.self.now c.walk.new.self c.args.store.now c.args.store.now c.walk.result c.walk.ensures

pub returns-in-Next : goal.returns-in-Next
returns-in-Next c = if_within (modules_of c.args.programs.now) c.args.unit.now c.args.instr (Next c.in-Next.to) c.in-Next.is c.args.self.now c.next.new.self c.args.store.now c.args.store.now c.next.result c.next.ensures

pub returns-in-Method : goal.returns-in-Method
returns-in-Method c = if_within (modules_of c.args.programs.now) c.args.unit.now c.args.instr (Method c.in-Method.n) c.in-Method.is c.args.self.now c.method.new.self c.args.store.now c.args.store.now c.method.result c.method.ensures

pub returns-in-Call : goal.returns-in-Call
returns-in-Call c = if_given (modules_of c.args.programs.now) c.args.unit.now c.args.instr (Call c.in-Call.n) c.in-Call.is c.args.self.now c.call.new.self c.args.store.now c.call.new.store c.call.result c.call.ensures

pub returns-in-Return : goal.returns-in-Return
returns-in-Return c = alone (modules_of c.args.programs.now) c.args.unit.now c.args.instr Return c.in-Return.is c.args.self.now c.give_back.new.self c.args.store.now c.give_back.result c.give_back.ensures

pub returns-in-Function : goal.returns-in-Function
returns-in-Function c = if_alone (modules_of c.args.programs.now) c.args.unit.now c.args.instr (Function c.in-Function.k) c.in-Function.is c.args.self.now c.function.new.self c.args.store.now c.function.result c.function.ensures

pub returns-in-FunctionWith : goal.returns-in-FunctionWith
returns-in-FunctionWith c = if_alone (modules_of c.args.programs.now) c.args.unit.now c.args.instr (FunctionWith c.in-FunctionWith.k) c.in-FunctionWith.is c.args.self.now c.function_with.new.self c.args.store.now c.function_with.result c.function_with.ensures

pub returns-in-Import : goal.returns-in-Import
returns-in-Import c = if_given (modules_of c.args.programs.now) c.args.unit.now c.args.instr (Import c.in-Import.n) c.in-Import.is c.args.self.now c.import.new.self c.args.store.now c.import.new.store c.import.result c.import.ensures

pub returns-in-Module : goal.returns-in-Module
returns-in-Module c = if_kept (modules_of c.args.programs.now) c.args.unit.now c.args.instr (Module c.in-Module.n) c.in-Module.is c.args.self.now c.load_module.new.self c.args.store.now c.load_module.result c.load_module.ensures

pub returns-in-Take : goal.returns-in-Take
returns-in-Take c = if_within (modules_of c.args.programs.now) c.args.unit.now c.args.instr (Take c.in-Take.m c.in-Take.n) c.in-Take.is c.args.self.now c.take.new.self c.args.store.now c.args.store.now c.take.result c.take.ensures

pub returns-in-Raise : goal.returns-in-Raise
returns-in-Raise c = if_alone (modules_of c.args.programs.now) c.args.unit.now c.args.instr Raise c.in-Raise.is c.args.self.now c.raise.new.self c.args.store.now c.raise.result c.raise.ensures

pub returns-in-Reraise : goal.returns-in-Reraise
returns-in-Reraise c = if_alone (modules_of c.args.programs.now) c.args.unit.now c.args.instr (Reraise c.in-Reraise.n) c.in-Reraise.is c.args.self.now c.reraise.new.self c.args.store.now c.reraise.result c.reraise.ensures

pub returns-in-Assertion : goal.returns-in-Assertion
returns-in-Assertion c = alone (modules_of c.args.programs.now) c.args.unit.now c.args.instr Assertion c.in-Assertion.is c.args.self.now c.assertion.new.self c.args.store.now c.assertion.result c.assertion.ensures

pub returns-in-AssertionWith : goal.returns-in-AssertionWith
returns-in-AssertionWith c = if_alone (modules_of c.args.programs.now) c.args.unit.now c.args.instr AssertionWith c.in-AssertionWith.is c.args.self.now c.assertion_with.new.self c.args.store.now c.assertion_with.result c.assertion_with.ensures

pub returns-in-Catches : goal.returns-in-Catches
returns-in-Catches c = if_alone (modules_of c.args.programs.now) c.args.unit.now c.args.instr Catches c.in-Catches.is c.args.self.now c.catches.new.self c.args.store.now c.catches.result c.catches.ensures

pub returns-in-Caught : goal.returns-in-Caught
returns-in-Caught c = if_alone (modules_of c.args.programs.now) c.args.unit.now c.args.instr Caught c.in-Caught.is c.args.self.now c.caught.new.self c.args.store.now c.caught.result c.caught.ensures

pub returns-in-Uncaught : goal.returns-in-Uncaught
returns-in-Uncaught c = if_alone (modules_of c.args.programs.now) c.args.unit.now c.args.instr Uncaught c.in-Uncaught.is c.args.self.now c.uncaught.new.self c.args.store.now c.uncaught.result c.uncaught.ensures

pub returns-in-Leave : goal.returns-in-Leave
returns-in-Leave c = alone (modules_of c.args.programs.now) c.args.unit.now c.args.instr (Leave c.in-Leave.n c.in-Leave.to) c.in-Leave.is c.args.self.now c.leave.new.self c.args.store.now c.leave.result c.leave.ensures

pub returns-in-Ending : goal.returns-in-Ending
returns-in-Ending c = if_alone (modules_of c.args.programs.now) c.args.unit.now c.args.instr Ending c.in-Ending.is c.args.self.now c.ending.new.self c.args.store.now c.ending.result c.ending.ensures

pub returns-in-Breaking : goal.returns-in-Breaking
returns-in-Breaking c = if_alone (modules_of c.args.programs.now) c.args.unit.now c.args.instr (Breaking c.in-Breaking.n c.in-Breaking.to) c.in-Breaking.is c.args.self.now c.breaking.new.self c.args.store.now c.breaking.result c.breaking.ensures

pub returns-in-Continuing : goal.returns-in-Continuing
returns-in-Continuing c = if_alone (modules_of c.args.programs.now) c.args.unit.now c.args.instr (Continuing c.in-Continuing.n c.in-Continuing.to) c.in-Continuing.is c.args.self.now c.continuing.new.self c.args.store.now c.continuing.result c.continuing.ensures

pub returns-in-Returning : goal.returns-in-Returning
returns-in-Returning c = if_alone (modules_of c.args.programs.now) c.args.unit.now c.args.instr (Returning c.in-Returning.n c.in-Returning.to) c.in-Returning.is c.args.self.now c.returning.new.self c.args.store.now c.returning.result c.returning.ensures

pub returns-in-Settle : goal.returns-in-Settle
returns-in-Settle c = if_alone (modules_of c.args.programs.now) c.args.unit.now c.args.instr Settle c.in-Settle.is c.args.self.now c.settle.new.self c.args.store.now c.settle.result c.settle.ensures

pub returns-in-Release : goal.returns-in-Release
returns-in-Release c = if_alone (modules_of c.args.programs.now) c.args.unit.now c.args.instr Release c.in-Release.is c.args.self.now c.release.new.self c.args.store.now c.release.result c.release.ensures
