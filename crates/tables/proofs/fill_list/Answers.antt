-- fill_list meets its contract.
use mathlib.Core.Path.{◌≡◌, refl, sym, ap, subst, ◌∙◌}
use Prim.Native.Nat.{ℕ, ◌+◌, ◌≤◌, ◌%◌}
use native.Mathlib.Omega.{arith}
use lib.ListN.{length, length-set, get_or}
use Rattle.rules.specs.Bytes.{inside, after}
use Rattle.rules.specs.Read.{name_in, places_in}
use Rattle.records.specs.Keys.{key_of}
use Rattle.records.specs.Places.{places_before, places_few}
use Rattle.tables.proofs.Fill.{stored, begin, put, done}
use Rattle.tables.proofs.fill_list.Goals as goal

pub loop-p-init : goal.loop-p-init
loop-p-init c =
    let few = places_few c.args.img.now c.args.most (inside c.args.img.now c.args.l) (after c.args.img.now c.args.l) in
    rw (c.into_iter-p-iterator.ensures.into_iter_gives, c.list-p-items.ensures)
    ((tt, tt), omega (arith, few), begin c.args.img.now c.clear_heads.new.t c.args.base (places_in c.args.most c.args.img.now c.args.l) c.clear_heads.ensures.heads)

pub loop-p-preserved : goal.loop-p-preserved
unfolding after
loop-p-preserved c =
    let img = c.args.img.now in
    let p = c.in-Some.p in
    let ps = places_in c.args.most img c.args.l in
    let steps = c.in-Some.ensures.steps in
    let less = ap length steps in
    let filled = c.loop-p.invariant.2 in
    let here : get_or ps c.loop-p.n 0 ≡ p = subst (λ (m : ℕ). get_or ps m 0 ≡ p) (omega arith) (filled.left 0 ∙ rw steps refl) in
    let before = places_before img c.args.most (inside img c.args.l) (after img c.args.l) c.loop-p.n (omega (arith, filled.all, less))
    in (
      (tt, tt),
      omega (arith, less, c.loop-p.invariant.1),
      rw (c.name_key-key.ensures, c.body.ensures.0)
          (put img c.clear_heads.new.t c.args.base ps c.loop-p.t _ _ c.loop-p.n p _ steps filled
          (stored img c.loop-p.t (c.args.base + 62 + c.loop-p.n) (c.args.base + 1 + key_of (name_in img p) % 61) p c.beside.result (c.loop-p.n + 1)
          (omega arith) (omega (arith, filled.above.size, c.clear_heads.ensures.above.size)) (omega (arith, before, here))
          (rw (c.name_key-key.ensures, c.body.ensures.0) at c.beside.ensures))),
    )
