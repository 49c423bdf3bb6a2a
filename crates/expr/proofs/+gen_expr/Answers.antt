-- The cycle {gen_args, gen_binary, gen_call, gen_expr, gen_field, gen_inits, gen_list, gen_literal, gen_mapping, gen_merkle, gen_poseidon, gen_user} meets its contracts; each answer begins with the name of its function.
use Rattle.std.specs.Prelude.{None, Some}
use Prim.Native.Nat.{ℕ}
use mathlib.Core.Path.{ap, ◌∙◌}
use Rattle.expr.specs.declared.steps.Several.{Several}
use Rattle.expr.proofs.Walk.{args_full, args_end, binary_value, call_value, as_sender, as_nonce, as_number, at_zero, kind_other, no_value, other_value, by_kind, field_value, inits_full, inits_end, args_at, literal_value, mapping_value, merkle_value, poseidon_value, user_value}
use Rattle.expr.proofs.Loops.{gather_begin, args_go, gather_end, inits_go}
use native.Mathlib.Omega.{arith}
use Rattle.rules.specs.Emit.{opcode}
use Rattle.rules.specs.Read.{bin_op_of, kInt, kIdent, kStorage, kMapping, kAccess, kLiteral, kBinary, kCall, kOther, kind_of}
use Rattle.expr.specs.Names.{builtin_of}
use Rattle.rules.specs.Builtins.{Builtin}
use Rattle.rules.specs.Bytes.{pick, after}
use Rattle.expr.proofs.+gen_expr.Goals as goal

pub gen_args-loop-v-init : goal.gen_args-loop-v-init
gen_args-loop-v-init t c = gather_begin _ _ _ _ _ c.requires

pub gen_args-loop-v-smaller : goal.gen_args-loop-v-smaller
gen_args-loop-v-smaller t c = omega (arith, c.loop-v-test.true, ap (λ (x : Several). x.count) c.keep-v.ensures.0)

pub gen_args-loop-v-preserved : goal.gen_args-loop-v-preserved
gen_args-loop-v-preserved t c = args_go c.args.analysed.now.contract.img.now _ _ _ c.args.rules c.args.scope.now c.args.d c.args.e c.loop-v.invariant c.loop-v-test.true c.if-p-e.true c.gen_expr-a.ensures c.keep-v.ensures.0 c.keep-v.ensures.1 c.past-p.ensures.0 (c.gen_expr-a.auto.code, c.gen_expr-a.auto.bytes)

pub gen_args-shape_of-code-else-p-e : goal.gen_args-shape_of-code-else-p-e
gen_args-shape_of-code-else-p-e t c = c.loop-v.invariant.room.0

pub gen_args-shape_of-bytes-else-p-e : goal.gen_args-shape_of-bytes-else-p-e
gen_args-shape_of-bytes-else-p-e t c = c.loop-v.invariant.room.1

pub gen_args-returns-else-p-e : goal.gen_args-returns-else-p-e
gen_args-returns-else-p-e t c = gather_end _ _ _ _ c.loop-v.invariant (args_end c.args.rules _ _ _ _ _ _ _ _ c.if-p-e.false)

pub gen_args-shape_of-code-after-loop-v : goal.gen_args-shape_of-code-after-loop-v
gen_args-shape_of-code-after-loop-v t c = c.loop-v.invariant.room.0

pub gen_args-shape_of-bytes-after-loop-v : goal.gen_args-shape_of-bytes-after-loop-v
gen_args-shape_of-bytes-after-loop-v t c = c.loop-v.invariant.room.1

pub gen_args-returns-after-loop-v : goal.gen_args-returns-after-loop-v
gen_args-returns-after-loop-v t c = gather_end _ _ _ _ c.loop-v.invariant (args_full c.args.rules _ _ _ _ _ _ _ _ c.loop-v-test.false)

pub gen_binary-returns : goal.gen_binary-returns
gen_binary-returns t c = binary_value c.args.analysed.now.contract.img.now c.args.scope.now c.args.rules c.args.st _ _ _ _ _ _ _ _ _ _ _ _ _ c.body-left.ensures.0 c.past-op.ensures.0 c.past-right.ensures.0 (c.opcode-opcode.ensures ∙ ap (λ (k : ℕ). opcode (bin_op_of k)) c.op.ensures.0) c.gen_expr-a.ensures c.gen_expr-b.ensures c.combine.ensures

pub gen_call-returns-in-Some-Poseidon : goal.gen_call-returns-in-Some-Poseidon
unfolding builtin_of
gen_call-returns-in-Some-Poseidon t c = call_value c.args.analysed.now.contract.img.now c.args.scope.now c.args.rules c.args.st _ _ _ _ _ _ (Some Builtin.poseidon) c.body.ensures.0 (rw c.in-Some-Poseidon.field-0-is at c.in-Some-Poseidon.ensures) c.gen_poseidon.ensures

pub gen_call-returns-in-Some-Sender : goal.gen_call-returns-in-Some-Sender
unfolding builtin_of
gen_call-returns-in-Some-Sender t c = call_value c.args.analysed.now.contract.img.now c.args.scope.now c.args.rules c.args.st _ _ _ _ _ _ (Some Builtin.sender) c.body.ensures.0 (rw c.in-Some-Sender.field-0-is at c.in-Some-Sender.ensures) (as_sender c.args.analysed.now.contract.img.now c.args.scope.now c.args.rules c.args.st _ _ _ _ _ c.gen_syscall.ensures)

pub gen_call-returns-in-Some-Nonce : goal.gen_call-returns-in-Some-Nonce
unfolding builtin_of
gen_call-returns-in-Some-Nonce t c = call_value c.args.analysed.now.contract.img.now c.args.scope.now c.args.rules c.args.st _ _ _ _ _ _ (Some Builtin.nonce) c.body.ensures.0 (rw c.in-Some-Nonce.field-0-is at c.in-Some-Nonce.ensures) (as_nonce c.args.analysed.now.contract.img.now c.args.scope.now c.args.rules c.args.st _ _ _ _ _ c.gen_syscall-in-Some-Nonce.ensures)

pub gen_call-returns-in-Some-BlockNumber : goal.gen_call-returns-in-Some-BlockNumber
unfolding builtin_of
gen_call-returns-in-Some-BlockNumber t c = call_value c.args.analysed.now.contract.img.now c.args.scope.now c.args.rules c.args.st _ _ _ _ _ _ (Some Builtin.block-number) c.body.ensures.0 (rw c.in-Some-BlockNumber.field-0-is at c.in-Some-BlockNumber.ensures) (as_number c.args.analysed.now.contract.img.now c.args.scope.now c.args.rules c.args.st _ _ _ _ _ c.gen_syscall-in-Some-BlockNumber.ensures)

pub gen_call-returns-in-Some-Merkle : goal.gen_call-returns-in-Some-Merkle
unfolding builtin_of
gen_call-returns-in-Some-Merkle t c = call_value c.args.analysed.now.contract.img.now c.args.scope.now c.args.rules c.args.st _ _ _ _ _ _ (Some Builtin.merkle) c.body.ensures.0 (rw c.in-Some-Merkle.field-0-is at c.in-Some-Merkle.ensures) c.gen_merkle.ensures

pub gen_call-returns-in-None : goal.gen_call-returns-in-None
unfolding builtin_of
gen_call-returns-in-None t c = call_value c.args.analysed.now.contract.img.now c.args.scope.now c.args.rules c.args.st _ _ _ _ _ _ None c.body.ensures.0 c.in-None.ensures c.gen_user.ensures

pub gen_expr-returns-then-d-eq0 : goal.gen_expr-returns-then-d-eq0
gen_expr-returns-then-d-eq0 t c = rw (at_zero c.args.d c.args.analysed.now.contract.img.now c.args.at c.if-d-eq0.true) (no_value c.args.analysed.now.contract.img.now c.args.scope.now c.args.rules c.args.st _ _ _ c.with.ensures)

pub gen_expr-returns-in-64 : goal.gen_expr-returns-in-64
unfolding kind_of pick
gen_expr-returns-in-64 t c = by_kind c.args.analysed.now.contract.img.now c.args.scope.now c.args.rules c.args.st _ _ _ _ _ _ kInt c.if-d-eq0.false c.kind.ensures.0 (ap kind_of c.in-64.is) (c.gen_int.ensures c.args.scope.now _)

pub gen_expr-returns-in-65 : goal.gen_expr-returns-in-65
unfolding kind_of pick
gen_expr-returns-in-65 t c = by_kind c.args.analysed.now.contract.img.now c.args.scope.now c.args.rules c.args.st _ _ _ _ _ _ kIdent c.if-d-eq0.false c.kind.ensures.0 (ap kind_of c.in-65.is) (c.gen_ident.ensures c.args.rules _ _)

pub gen_expr-returns-in-66 : goal.gen_expr-returns-in-66
unfolding kind_of pick
gen_expr-returns-in-66 t c = by_kind c.args.analysed.now.contract.img.now c.args.scope.now c.args.rules c.args.st _ _ _ _ _ _ kStorage c.if-d-eq0.false c.kind.ensures.0 (ap kind_of c.in-66.is) (c.gen_storage.ensures c.args.scope.now _)

pub gen_expr-returns-in-67 : goal.gen_expr-returns-in-67
unfolding kind_of pick
gen_expr-returns-in-67 t c = by_kind c.args.analysed.now.contract.img.now c.args.scope.now c.args.rules c.args.st _ _ _ _ _ _ kMapping c.if-d-eq0.false c.kind.ensures.0 (ap kind_of c.in-67.is) c.gen_mapping.ensures

pub gen_expr-returns-in-68 : goal.gen_expr-returns-in-68
unfolding kind_of pick
gen_expr-returns-in-68 t c = by_kind c.args.analysed.now.contract.img.now c.args.scope.now c.args.rules c.args.st _ _ _ _ _ _ kAccess c.if-d-eq0.false c.kind.ensures.0 (ap kind_of c.in-68.is) c.gen_field.ensures

pub gen_expr-returns-in-69 : goal.gen_expr-returns-in-69
unfolding kind_of pick
gen_expr-returns-in-69 t c = by_kind c.args.analysed.now.contract.img.now c.args.scope.now c.args.rules c.args.st _ _ _ _ _ _ kLiteral c.if-d-eq0.false c.kind.ensures.0 (ap kind_of c.in-69.is) c.gen_literal.ensures

pub gen_expr-returns-in-70 : goal.gen_expr-returns-in-70
unfolding kind_of pick
gen_expr-returns-in-70 t c = by_kind c.args.analysed.now.contract.img.now c.args.scope.now c.args.rules c.args.st _ _ _ _ _ _ kBinary c.if-d-eq0.false c.kind.ensures.0 (ap kind_of c.in-70.is) c.gen_binary.ensures

pub gen_expr-returns-in-71 : goal.gen_expr-returns-in-71
unfolding kind_of pick
gen_expr-returns-in-71 t c = by_kind c.args.analysed.now.contract.img.now c.args.scope.now c.args.rules c.args.st _ _ _ _ _ _ kCall c.if-d-eq0.false c.kind.ensures.0 (ap kind_of c.in-71.is) c.gen_call.ensures

pub gen_expr-returns-in_default : goal.gen_expr-returns-in_default
unfolding kind_of pick
gen_expr-returns-in_default t c = by_kind c.args.analysed.now.contract.img.now c.args.scope.now c.args.rules c.args.st _ _ _ _ _ _ kOther c.if-d-eq0.false c.kind.ensures.0 (kind_other c.kind.result c.in_default.in_default-own.rest.0.0.0.0.0.0.0.1 c.in_default.in_default-own.rest.0.0.0.0.0.0.1 c.in_default.in_default-own.rest.0.0.0.0.0.1 c.in_default.in_default-own.rest.0.0.0.0.1 c.in_default.in_default-own.rest.0.0.0.1 c.in_default.in_default-own.rest.0.0.1 c.in_default.in_default-own.rest.0.1 c.in_default.in_default-own.rest.1) (other_value c.args.analysed.now.contract.img.now c.args.scope.now c.args.rules c.args.st _ _ _ _ c.with-in_default.ensures)

pub gen_field-offset_at-offset-requires : goal.gen_field-offset_at-offset-requires
gen_field-offset_at-offset-requires t c = c.past.ensures.0 ∙ ap (after c.args.analysed.now.contract.img.now) c.body-base.ensures.0

pub gen_field-returns : goal.gen_field-returns
gen_field-returns t c = field_value c.args.analysed.now.contract.img.now c.args.scope.now c.args.rules c.args.st _ _ _ _ _ _ _ _ _ _ c.body-base.ensures.0 c.past.ensures.0 c.offset_at-offset.ensures c.gen_expr-a.ensures c.emit_new.ensures

pub gen_inits-loop-v-init : goal.gen_inits-loop-v-init
gen_inits-loop-v-init t c = gather_begin _ _ _ _ _ c.requires

pub gen_inits-loop-v-smaller : goal.gen_inits-loop-v-smaller
gen_inits-loop-v-smaller t c = omega (arith, c.loop-v-test.true, ap (λ (x : Several). x.count) c.keep-v.ensures.0)

pub gen_inits-loop-v-preserved : goal.gen_inits-loop-v-preserved
gen_inits-loop-v-preserved t c = inits_go c.args.analysed.now.contract.img.now _ _ _ c.args.rules c.args.scope.now c.args.d c.args.e c.loop-v.invariant c.loop-v-test.true c.if-p-e.true c.gen_expr-a.ensures (rw c.body.ensures.0 at c.past-q.ensures.0) c.keep-v.ensures.0 c.keep-v.ensures.1 c.past-p.ensures.0 (c.gen_expr-a.auto.code, c.gen_expr-a.auto.bytes)

pub gen_inits-shape_of-code-else-p-e : goal.gen_inits-shape_of-code-else-p-e
gen_inits-shape_of-code-else-p-e t c = c.loop-v.invariant.room.0

pub gen_inits-shape_of-bytes-else-p-e : goal.gen_inits-shape_of-bytes-else-p-e
gen_inits-shape_of-bytes-else-p-e t c = c.loop-v.invariant.room.1

pub gen_inits-returns-else-p-e : goal.gen_inits-returns-else-p-e
gen_inits-returns-else-p-e t c = gather_end _ _ _ _ c.loop-v.invariant (inits_end c.args.rules _ _ _ _ _ _ _ _ c.if-p-e.false)

pub gen_inits-shape_of-code-after-loop-v : goal.gen_inits-shape_of-code-after-loop-v
gen_inits-shape_of-code-after-loop-v t c = c.loop-v.invariant.room.0

pub gen_inits-shape_of-bytes-after-loop-v : goal.gen_inits-shape_of-bytes-after-loop-v
gen_inits-shape_of-bytes-after-loop-v t c = c.loop-v.invariant.room.1

pub gen_inits-returns-after-loop-v : goal.gen_inits-returns-after-loop-v
gen_inits-returns-after-loop-v t c = gather_end _ _ _ _ c.loop-v.invariant (inits_full c.args.rules _ _ _ _ _ _ _ _ c.loop-v-test.false)

pub gen_list-returns : goal.gen_list-returns
gen_list-returns t c = args_at c.args.analysed.now.contract.img.now c.args.scope.now c.args.rules c.args.st _ _ _ _ _ _ _ _ _ (rw c.body.ensures.0 at c.past-list.ensures.0) c.body-p.ensures.0 c.past-e.ensures.0 c.gen_args.ensures

pub gen_literal-returns : goal.gen_literal-returns
gen_literal-returns t c = literal_value c.args.analysed.now.contract.img.now c.args.scope.now c.args.rules c.args.st _ _ _ _ _ _ _ _ _ _ _ _ _ _ c.heap.ensures (rw c.body.ensures.0 at c.past-list.ensures.0) c.body-p.ensures.0 c.past-e.ensures.0 c.emit_new-q.ensures c.gen_inits-v.ensures c.close_literal.ensures

pub gen_mapping-returns : goal.gen_mapping-returns
gen_mapping-returns t c = mapping_value c.args.analysed.now.contract.img.now c.args.scope.now c.args.rules c.args.st _ _ _ _ _ _ _ _ _ _ c.body-x.ensures.0 c.past.ensures.0 c.storage_slot-s.ensures c.gen_expr-a.ensures c.read_mapping.ensures

pub gen_merkle-returns : goal.gen_merkle-returns
gen_merkle-returns t c = merkle_value c.args.analysed.now.contract.img.now c.args.scope.now c.args.rules c.args.st _ _ _ _ _ _ _ _ c.reg_at-root.result c.reg_at-leaf.result c.reg_at-path.result c.gen_list-v.ensures c.reg_at-root.ensures c.reg_at-leaf.ensures c.reg_at-path.ensures c.emit_new.ensures

pub gen_poseidon-returns : goal.gen_poseidon-returns
gen_poseidon-returns t c = poseidon_value c.args.analysed.now.contract.img.now c.args.scope.now c.args.rules c.args.st _ _ _ _ _ _ _ _ c.reg_at.result c.reg_at-2.result c.gen_list-v.ensures c.reg_at.ensures c.reg_at-2.ensures c.combine.ensures

pub gen_user-shape_of-code : goal.gen_user-shape_of-code
gen_user-shape_of-code t c = c.close_call.auto.code ∙ c.gen_list-v.auto.code ∙ c.push_up-a.auto.code

pub gen_user-shape_of-bytes : goal.gen_user-shape_of-bytes
gen_user-shape_of-bytes t c = c.close_call.auto.bytes ∙ c.gen_list-v.auto.bytes ∙ c.push_up-a.auto.bytes

pub gen_user-returns : goal.gen_user-returns
gen_user-returns t c = user_value c.args.analysed.now.contract.img.now c.args.scope.now c.args.rules c.args.st _ _ _ _ _ _ _ _ _ _ _ _ _ c.less_one.ensures c.push_up-a.ensures c.gen_list-v.ensures c.body.ensures.0 c.function_index-f.ensures c.close_call.ensures
