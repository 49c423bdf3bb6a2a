-- Document 01, Heights, row by row: "Push +1, Pop -1, Call -(target's parameters) +1, Ret ends, all others 0".
-- Assumes nothing.
use Rattle.std.specs.Prelude.{◌≡◌, refl, List, ℕ, suc, ◌+◌}
use Rattle.std.proofs.Common.{subst, arith}
use Rattle.isa.specs.declared.Opcode.{Opcode}
use Rattle.isa.specs.declared.Opcode.TheVariants as op
use Rattle.rules.specs.Machine.{Kind, Imm, Word, Entry, At, kind, Lands, Starts, Way, Moves}
use Rattle.heights.specs.Positions.{at_one}
use Rattle.heights.specs.Law.{Next}

-- One step from the word w at index i, at height h, to index j at height x.
pub record Rows (C : List Word) (T : List Entry) (y : Way) (i h j x : ℕ) (w : Word) : Type 0 where
  pub push : w.op ≡ op.Push → (x ≡ h + 1) × (j ≡ i + 1)
  pub pop : w.op ≡ op.Pop → (x + 1 ≡ h) × (j ≡ i + 1)
  -- n is the target's parameters
  pub call : w.op ≡ op.Call → (e : ℕ) × (n : ℕ) × Lands i w.imm e × Starts T e n × (x + n ≡ h + 1) × (j ≡ i + 1)
  -- no step leads on
  pub ret : w.op ≡ op.Ret → ⊥
  pub others : (w.op ≡ op.Push → ⊥) → (w.op ≡ op.Pop → ⊥) → (w.op ≡ op.Call → ⊥) → x ≡ h

-- The kinds that leave the height.
abbrev Still : Kind → Type 0
Still Kind.plain = Unit {0}
Still Kind.pushes = ⊥
Still Kind.pops = ⊥
Still Kind.jumps = Unit {0}
Still Kind.forks = Unit {0}
Still Kind.calls = ⊥
Still Kind.ends = Unit {0}
Still Kind.stuck = Unit {0}

-- All opcodes but three are of such a kind.
still : (o : Opcode) → (o ≡ op.Push → ⊥) → (o ≡ op.Pop → ⊥) → (o ≡ op.Call → ⊥) → Still (kind o)
still op.Halt p q r = tt
still op.Add p q r = tt
still op.Sub p q r = tt
still op.Mul p q r = tt
still op.Div p q r = tt
still op.Inv p q r = tt
still op.And p q r = tt
still op.Or p q r = tt
still op.Xor p q r = tt
still op.Not p q r = tt
still op.Eq p q r = tt
still op.Neq p q r = tt
still op.Lt p q r = tt
still op.Gt p q r = tt
still op.Lte p q r = tt
still op.Gte p q r = tt
still op.Jmp p q r = tt
still op.Jnz p q r = tt
still op.Call p q r = r refl
still op.Ret p q r = tt
still op.Load p q r = tt
still op.Store p q r = tt
still op.Push p q r = p refl
still op.Pop p q r = q refl
still op.Assert p q r = tt
still op.Poseidon p q r = tt
still op.Log p q r = tt
still op.SRead p q r = tt
still op.SWrite p q r = tt
still op.Syscall p q r = tt
still op.VerifyMerkle p q r = tt

-- Such a word leaves the height.
still_moves : (T : List Entry) (i : ℕ) (d : Imm) (y : Way) (k : Kind) (t g j rest h x : ℕ) → Still k → Moves T i d y k t g j → t + rest ≡ h → x ≡ rest + g → x ≡ h
still_moves T i d y Kind.plain t g j rest h x s m e q = omega arith
still_moves T i d y Kind.pushes t g j rest h x s m e q = absurd s
still_moves T i d y Kind.pops t g j rest h x s m e q = absurd s
still_moves T i d y Kind.jumps t g j rest h x s m e q = omega arith
still_moves T i d Way.jump Kind.forks t g j rest h x s m e q = omega arith
still_moves T i d Way.pass Kind.forks t g j rest h x s m e q = omega arith
still_moves T i d y Kind.calls t g j rest h x s m e q = absurd s
still_moves T i d y Kind.ends t g j rest h x s m e q = absurd m
still_moves T i d y Kind.stuck t g j rest h x s m e q = absurd m

-- Every step is by the rows.
pub rows : (C : List Word) (T : List Entry) (y : Way) (i h j x : ℕ) (w : Word) → At C i w → Next C T y i h j x → Rows C T y i h j x w
unfolding Next
rows C T y i h j x w a (v, b, t, g, rest, m, e, q) = record {
  push = λ o. let n : (t ≡ 0) × (g ≡ 1) × (j ≡ suc i) = of op.Push o in (omega arith, omega arith);
  pop = λ o. let n : (t ≡ 1) × (g ≡ 0) × (j ≡ suc i) = of op.Pop o in (omega arith, omega arith);
  call = λ o. let n : (e : ℕ) × Lands i w.imm e × Starts T e t × (g ≡ 1) × (j ≡ suc i) = of op.Call o in (n.0, t, n.1, n.2, omega (arith, n.3), omega (arith, n.4));
  ret = λ o. of op.Ret o;
  others = λ p u r. still_moves T i w.imm y (kind w.op) t g j rest h x (still w.op p u r) here e q;
}
  where
    here : Moves T i w.imm y (kind w.op) t g j
    here = subst (λ (z : Word). Moves T i z.imm y (kind z.op) t g j) (at_one C i v w b a) m

    of : (o : Opcode) → w.op ≡ o → Moves T i w.imm y (kind o) t g j
    of o p = subst (λ (z : Opcode). Moves T i w.imm y (kind z) t g j) p here
