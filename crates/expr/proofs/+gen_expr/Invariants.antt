-- The cycle {gen_args, gen_binary, gen_call, gen_expr, gen_field, gen_inits, gen_list, gen_literal, gen_mapping, gen_merkle, gen_poseidon, gen_user} meets its contracts; each answer begins with the name of its function.
use Prim.Native.Nat.{◌+◌, ◌*◌, ◌-◌}
use Rattle.emit.specs.Sinks.{sinks}
use Rattle.expr.proofs.Loops.{Gathering, args_from, inits_from_lem}
use Rattle.expr.proofs.+gen_expr.Given as goal

abbrev pub invariant-gen_args-loop-v : goal.invariant-gen_args-loop-v
invariant-gen_args-loop-v l = Gathering l.analysed.contract.img.now (sinks l.initial.code l.initial.bytes) l.initial.v.st (args_from l.analysed.contract.img.now l.rules l.scope l.d l.e 0 l.first l.initial.v.st.next) (sinks l.code l.bytes) l.vals l.v (args_from l.analysed.contract.img.now l.rules l.scope l.d l.e l.v.count l.p l.v.st.next)

abbrev pub decreases-gen_args-loop-v : goal.decreases-gen_args-loop-v
decreases-gen_args-loop-v l = 64 - l.v.count

abbrev pub invariant-gen_inits-loop-v : goal.invariant-gen_inits-loop-v
invariant-gen_inits-loop-v l = Gathering l.analysed.contract.img.now (sinks l.initial.code l.initial.bytes) l.initial.v.st (inits_from_lem l.analysed.contract.img.now l.rules l.scope l.d l.e 0 l.first l.initial.v.st.next) (sinks l.code l.bytes) l.vals l.v (inits_from_lem l.analysed.contract.img.now l.rules l.scope l.d l.e l.v.count l.p l.v.st.next)

abbrev pub decreases-gen_inits-loop-v : goal.decreases-gen_inits-loop-v
decreases-gen_inits-loop-v l = 64 - l.v.count

abbrev pub decreases-gen_args : goal.decreases-gen_args
decreases-gen_args l = 100 * l.d + 1

abbrev pub decreases-gen_binary : goal.decreases-gen_binary
decreases-gen_binary l = 100 * l.d + 70

abbrev pub decreases-gen_call : goal.decreases-gen_call
decreases-gen_call l = 100 * l.d + 80

abbrev pub decreases-gen_expr : goal.decreases-gen_expr
decreases-gen_expr l = 100 * l.d

abbrev pub decreases-gen_field : goal.decreases-gen_field
decreases-gen_field l = 100 * l.d + 70

abbrev pub decreases-gen_inits : goal.decreases-gen_inits
decreases-gen_inits l = 100 * l.d + 1

abbrev pub decreases-gen_list : goal.decreases-gen_list
decreases-gen_list l = 100 * l.d + 66

abbrev pub decreases-gen_literal : goal.decreases-gen_literal
decreases-gen_literal l = 100 * l.d + 70

abbrev pub decreases-gen_mapping : goal.decreases-gen_mapping
decreases-gen_mapping l = 100 * l.d + 70

abbrev pub decreases-gen_merkle : goal.decreases-gen_merkle
decreases-gen_merkle l = 100 * l.d + 70

abbrev pub decreases-gen_poseidon : goal.decreases-gen_poseidon
decreases-gen_poseidon l = 100 * l.d + 70

abbrev pub decreases-gen_user : goal.decreases-gen_user
decreases-gen_user l = 100 * l.d + 70
