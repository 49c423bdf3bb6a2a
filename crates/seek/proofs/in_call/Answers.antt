-- `in_call` meets its contract.
use mathlib.Core.Path.{◌≡◌, refl, ap}
use native.Mathlib.Omega.{arith}
use denote.Enum.Declared.{tag_of}
use Rattle.expr.specs.contracts.names.Builtin.{the_type}
use Rattle.expr.specs.declared.names.Builtin.{Builtin}
use Rattle.expr.specs.declared.names.Builtin.TheVariants as builtin
use Rattle.expr.specs.Names.{builtin_of}
use Rattle.rules.specs.Read.{kCall}
use Rattle.seek.specs.Spots.{Leads}
use Rattle.seek.specs.Parts.{call_in, poseidon_in, merkle_in, sender_own, nonce_own, number_own}
use Rattle.seek.proofs.in_call.Goals as goal

pub returns-in-Some-Poseidon : goal.returns-in-Some-Poseidon
unfolding builtin_of
returns-in-Some-Poseidon c = go c.in-Some-Poseidon.field-0 refl
  where
    go : (b : Builtin) → c.in-Some-Poseidon.field-0 ≡ b → Leads c.args.analysed.now.contract.img.now c.args.scope.now c.args.rules c.args.d kCall c.args.at c.args.st c.args.end c.args.want c.in_list.result
    go builtin.Poseidon e = call_in c.body.ensures.0 (rw e at c.in-Some-Poseidon.ensures) (poseidon_in c.in_list.ensures)
    go builtin.Merkle e = call_in c.body.ensures.0 (rw e at c.in-Some-Poseidon.ensures) (merkle_in c.in_list.ensures)
    go builtin.Sender e = absurd (omega (arith, ap (tag_of the_type) e))
    go builtin.Nonce e = absurd (omega (arith, ap (tag_of the_type) e))
    go builtin.BlockNumber e = absurd (omega (arith, ap (tag_of the_type) e))

pub returns-in-Some-Sender : goal.returns-in-Some-Sender
unfolding builtin_of
returns-in-Some-Sender c = go c.in-Some-Sender.field-0 refl
  where
    go : (b : Builtin) → c.in-Some-Sender.field-0 ≡ b → Leads c.args.analysed.now.contract.img.now c.args.scope.now c.args.rules c.args.d kCall c.args.at c.args.st c.args.end c.args.want c.own.result
    go builtin.Sender e = call_in c.body.ensures.0 (rw e at c.in-Some-Sender.ensures) (sender_own c.own.ensures)
    go builtin.Nonce e = call_in c.body.ensures.0 (rw e at c.in-Some-Sender.ensures) (nonce_own c.own.ensures)
    go builtin.BlockNumber e = call_in c.body.ensures.0 (rw e at c.in-Some-Sender.ensures) (number_own c.own.ensures)
    go builtin.Poseidon e = absurd (omega (arith, ap (tag_of the_type) e))
    go builtin.Merkle e = absurd (omega (arith, ap (tag_of the_type) e))

pub returns-in-None : goal.returns-in-None
unfolding builtin_of
returns-in-None c = call_in c.body.ensures.0 c.in-None.ensures c.in_user.ensures
