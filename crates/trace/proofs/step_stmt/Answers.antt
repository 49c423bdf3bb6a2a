-- `step_stmt` meets its contract.
use native.Mathlib.Omega.{arith}
use mathlib.Core.Path.{◌≡◌, refl, ap}
use mathlib.Core.Bool.{Bool, true, false}
use lib.Dec.{eqb}
use borrow.Author.Tests.{eqb-true, eqb-false}
use Rattle.rules.specs.Bytes.{pick}
use Rattle.rules.specs.Read.{stmt_kind_of, sLet, sConstrain, sAssign, sStorage, sMapping, sIf, sWhile, sFor, sReturn, sEmit, sExpr}
use Rattle.trace.specs.Moves.{Steps}
use Rattle.trace.specs.Parts.{let_in, constrain_in, assign_in, storage_in, just_in}
use Rattle.trace.specs.Lists.{kind_in, kind_ready, kind_own}
use Rattle.trace.proofs.step_stmt.Goals as goal

pub in_if-requires : goal.in_if-requires
unfolding stmt_kind_of pick
in_if-requires c = kind_ready c.args.analysed.now.contract.img.now c.args.d c.args.at sIf c.kind.ensures.0 (ap stmt_kind_of c.in-37.is) c.requires

pub in_while-requires : goal.in_while-requires
unfolding stmt_kind_of pick
in_while-requires c = kind_ready c.args.analysed.now.contract.img.now c.args.d c.args.at sWhile c.kind.ensures.0 (ap stmt_kind_of c.in-38.is) c.requires

pub in_for-requires : goal.in_for-requires
unfolding stmt_kind_of pick
in_for-requires c = kind_ready c.args.analysed.now.contract.img.now c.args.d c.args.at sFor c.kind.ensures.0 (ap stmt_kind_of c.in-39.is) c.requires

pub returns-in-32 : goal.returns-in-32
unfolding stmt_kind_of pick
returns-in-32 c = go (eqb c.kind.result 32) (eqb c.kind.result 34) refl refl
  where
    go : (x y : Bool) → eqb c.kind.result 32 ≡ x → eqb c.kind.result 34 ≡ y → Steps c.args.analysed.now.contract.img.now c.args.analysed.now.contract.tables.now c.args.analysed.now.notes.now c.args.scope.now c.args.scope.now c.args.rules c.args.d c.args.at c.args.st c.args.end c.args.want c.in_value-in-32.result
    go true y e f = kind_in c.args.analysed.now.contract.img.now c.args.d c.args.at sLet c.kind.ensures.0 (ap stmt_kind_of (eqb-true c.kind.result 32 e)) (let_in c.body-first.ensures.0 c.past-second.ensures.0 c.in_value-in-32.ensures)
    go false true e f = kind_in c.args.analysed.now.contract.img.now c.args.d c.args.at sAssign c.kind.ensures.0 (ap stmt_kind_of (eqb-true c.kind.result 34 f)) (assign_in c.body-first.ensures.0 c.past-second.ensures.0 c.in_value-in-32.ensures)
    go false false e f =
        let q : c.kind.result ≡ 35 = grind (arith, eqb-false c.kind.result 32 e, eqb-false c.kind.result 34 f) in
        kind_in c.args.analysed.now.contract.img.now c.args.d c.args.at sStorage c.kind.ensures.0 (ap stmt_kind_of q) (storage_in c.body-first.ensures.0 c.past-second.ensures.0 c.in_value-in-32.ensures)

pub returns-in-33 : goal.returns-in-33
unfolding stmt_kind_of pick
returns-in-33 c = go (eqb c.kind.result 33) refl
  where
    go : (x : Bool) → eqb c.kind.result 33 ≡ x → Steps c.args.analysed.now.contract.img.now c.args.analysed.now.contract.tables.now c.args.analysed.now.notes.now c.args.scope.now c.args.scope.now c.args.rules c.args.d c.args.at c.args.st c.args.end c.args.want c.in_value.result
    go true e = kind_in c.args.analysed.now.contract.img.now c.args.d c.args.at sConstrain c.kind.ensures.0 (ap stmt_kind_of (eqb-true c.kind.result 33 e)) (constrain_in c.body-first.ensures.0 c.in_value.ensures)
    go false e =
        let q : c.kind.result ≡ 42 = omega (arith, eqb-false c.kind.result 33 e) in
        kind_in c.args.analysed.now.contract.img.now c.args.d c.args.at sExpr c.kind.ensures.0 (ap stmt_kind_of q) (just_in c.body-first.ensures.0 c.in_value.ensures)

pub returns-in-36 : goal.returns-in-36
unfolding stmt_kind_of pick
returns-in-36 c = kind_in c.args.analysed.now.contract.img.now c.args.d c.args.at sMapping c.kind.ensures.0 (ap stmt_kind_of c.in-36.is) c.in_mapping.ensures

pub shape_of-scope-in-37 : goal.shape_of-scope-in-37
shape_of-scope-in-37 c = c.in_if.auto.scope

pub returns-in-37 : goal.returns-in-37
unfolding stmt_kind_of pick
returns-in-37 c = kind_in c.args.analysed.now.contract.img.now c.args.d c.args.at sIf c.kind.ensures.0 (ap stmt_kind_of c.in-37.is) c.in_if.ensures

pub returns-in-38 : goal.returns-in-38
unfolding stmt_kind_of pick
returns-in-38 c = kind_in c.args.analysed.now.contract.img.now c.args.d c.args.at sWhile c.kind.ensures.0 (ap stmt_kind_of c.in-38.is) c.in_while.ensures

pub shape_of-scope-in-39 : goal.shape_of-scope-in-39
shape_of-scope-in-39 c = c.in_for.auto.scope

pub returns-in-39 : goal.returns-in-39
unfolding stmt_kind_of pick
returns-in-39 c = kind_in c.args.analysed.now.contract.img.now c.args.d c.args.at sFor c.kind.ensures.0 (ap stmt_kind_of c.in-39.is) c.in_for.ensures

pub returns-in-40 : goal.returns-in-40
unfolding stmt_kind_of pick
returns-in-40 c = kind_in c.args.analysed.now.contract.img.now c.args.d c.args.at sReturn c.kind.ensures.0 (ap stmt_kind_of c.in-40.is) c.in_return.ensures

pub returns-in-41 : goal.returns-in-41
unfolding stmt_kind_of pick
returns-in-41 c = kind_in c.args.analysed.now.contract.img.now c.args.d c.args.at sEmit c.kind.ensures.0 (ap stmt_kind_of c.in-41.is) c.in_emit.ensures

pub returns-in_default : goal.returns-in_default
returns-in_default c = kind_own c.kind.ensures.0 (omega arith) (omega arith) (omega arith) (omega arith) (omega arith) (omega arith) (omega arith) (omega arith) (omega arith) (omega arith) (grind arith) c.own.ensures
