-- Blocks behind the words that jump over them.
--     found_last                  nothing follows
--     behind_own, behind_in       If: the jump; the block behind it
--     loop_cond, loop_jnz, loop_jmp, loop_back, loop_in       While and For: the condition, the two jumps behind it, the jump back, the block
-- Assumes nothing.
use Rattle.std.specs.Prelude.{◌≡◌, refl, Some}
use Rattle.std.proofs.Common.{sym, ◌∙◌, subst, arith, length-append}
use Rattle.std.proofs.Math.Path.{ap}
use mathlib.Core.List.{List, ◌∷◌}
use Prim.Native.Nat.{ℕ, suc, ◌+◌, ◌-◌, ◌≤◌, ◌<◌}
use Rattle.std.proofs.Math.ListN.{length}
use Rattle.isa.specs.declared.Opcode.TheVariants as op
use Rattle.rules.specs.Tables.{nth}
use Rattle.rules.specs.Machine.{Imm}
use Rattle.rules.specs.Refusal.{Res, ok, bad}
use Rattle.rules.specs.Emit.{Open, emit, jump, AtReg, loops}
use Rattle.emit.specs.Steps.{Out, ◌>>=◌, behind, Here, around, looping}
use Rattle.emit.specs.Ran.{Tally, Reserved}
use Rattle.seek.specs.Goes.{Goes, IsOk, words_of, split}
use Rattle.seek.specs.Found.{nth_first, nth_later, nth_low, some_same, Found, Long}

-- Nothing follows.
pub found_last : {A B S : Type 0} (f : Open → S) {s : Tally} {end want : ℕ} {a : S} (m : Res (Out A)) (k : A → Res (Out B)) → ((v : A) → Long 0 (k v)) → Found f m s end want a → Found f (m >>= k) s end want a
found_last f {s} {end} {want} m k t h = record {
  is = λ fine o e z low le w q.
      let p = split m k o e in
      let y = p.long in
      let b = (t p.one.val).is p.two p.second in
      h.is fine p.one p.first (omega (arith, z, y, b)) low le w
      (sym (nth_first p.one.words p.two.words (want - s.n) (omega (arith, nth_low o.words (want - s.n) w q, y, b))) ∙ ap (λ (ws : List Open). nth (want - s.n) ws) (sym p.words) ∙ q);
}

-- A block that went well.
pub record Behind {A : Type 0} (g : List Open → List Open) (m : Res (Out A)) (o : Out A) : Type 0 where
  pub out : Out A
  pub is : m ≡ ok out
  pub words : o.words ≡ g out.words

pub behind_is : {A : Type 0} (g : List Open → List Open) (m : Res (Out A)) (o : Out A) → behind g m ≡ ok o → Behind g m o
unfolding behind
behind_is g (ok x) o e = record { out = x; is = refl; words = sym (ap words_of e) }
behind_is g (bad q) o e = absurd (subst IsOk (sym e) tt)

module _ {A S : Type 0} (f : Open → S) {s j : Tally} {end want : ℕ} {a : S} (w : ℕ → Open) (m : Res (Out A)) (k : Reserved s j) where
  pub behind_own : want < j.n → ((o : Out A) → m ≡ ok o → end ≡ s.n + suc (length o.words) → want ≡ s.n → a ≡ f (w (length o.words))) → Found f (behind (λ ws. w (length ws) ∷ ws) m) s end want a
  unfolding nth
  behind_own l h = record {
    is = λ fine o e z low le x q.
        let b = behind_is (λ ws. w (length ws) ∷ ws) m o e in
        let i = ap length b.words in
        let c = k.count (k.low (omega (arith, low, z, i))) in
        let n : want ≡ s.n = omega (arith, l, c, le) in
        let n0 : want - s.n ≡ 0 = omega (arith, n) in
        h b.out b.is (omega (arith, z, i)) n
        ∙ ap f (some_same (ap (λ (y : ℕ). nth y (w (length b.out.words) ∷ b.out.words)) (sym n0) ∙ ap (λ (ws : List Open). nth (want - s.n) ws) (sym b.words) ∙ q));
  }

  pub behind_in : j.n ≤ want → Found f m j end want a → Found f (behind (λ ws. w (length ws) ∷ ws) m) s end want a
  unfolding nth
  behind_in l h = record {
    is = λ fine o e z low le x q.
        let b = behind_is (λ ws. w (length ws) ∷ ws) m o e in
        let i = ap length b.words in
        let c = k.count (k.low (omega (arith, low, z, i))) in
        let n : suc (want - j.n) ≡ want - s.n = omega (arith, l, c) in
        h.is (k.err ∙ fine) b.out b.is (omega (arith, z, i, c)) low l x
        (ap (λ (y : ℕ). nth y (w (length b.out.words) ∷ b.out.words)) n ∙ ap (λ (ws : List Open). nth (want - s.n) ws) (sym b.words) ∙ q);
  }

-- A loop that went well.
pub record Turn (p : ℕ) (g : Res (Out AtReg)) (body : AtReg → Res (Out Here)) (x : Out Here) : Type 0 where
  pub cond : Out AtReg
  pub block : Out Here
  pub first : g ≡ ok cond
  pub second : body cond.val ≡ ok block
  pub words : x.words ≡ loops p cond.val.reg cond.words block.words
  pub long : length x.words ≡ length cond.words + 3 + length block.words

length_loops : (p r : ℕ) (c b : List Open) → length (loops p r c b) ≡ length c + 3 + length b
unfolding loops
length_loops p r c b = simp length-append (omega arith)

turn : (p : ℕ) (g : Res (Out AtReg)) (body : AtReg → Res (Out Here)) (x : Out Here) → looping p g body ≡ ok x → Turn p g body x
unfolding looping around
turn p (ok c) body x e = go (body c.val) refl e
  where
    go : (n : Res (Out Here)) → body c.val ≡ n → around p c n ≡ ok x → Turn p (ok c) body x
    go (ok o) f h =
        let w : x.words ≡ loops p c.val.reg c.words o.words = sym (ap words_of h) in
        record { cond = c; block = o; first = refl; second = f; words = w; long = ap length w ∙ length_loops p c.val.reg c.words o.words }
    go (bad q) f h = absurd (subst IsOk (sym h) tt)
turn p (bad q) body x e = absurd (subst IsOk (sym e) tt)

-- The words of a loop, by their numbers.
module _ (p r : ℕ) (c b : List Open) where
  abbrev back : Open
  back = emit p op.Jmp 0 0 0 (Imm.neg (length c + 2 + length b))

  nth_cond : (i : ℕ) → i < length c → nth i (loops p r c b) ≡ nth i c
  unfolding loops
  nth_cond i h = nth_first c _ i h

  nth_jnz : nth (length c + 0) (loops p r c b) ≡ Some (jump p op.Jnz r (Imm.pos 2))
  unfolding loops nth
  nth_jnz = nth_later c _ 0

  nth_jmp : nth (length c + 1) (loops p r c b) ≡ Some (jump p op.Jmp 0 (Imm.pos (length b + 2)))
  unfolding loops nth
  nth_jmp = nth_later c _ 1

  nth_block : (k : ℕ) → k < length b → nth (length c + suc (suc k)) (loops p r c b) ≡ nth k b
  unfolding loops nth
  nth_block k h = nth_later c _ (suc (suc k)) ∙ nth_first b _ k h

  nth_back : nth (length c + suc (suc (length b + 0))) (loops p r c b) ≡ Some back
  unfolding loops nth
  nth_back = nth_later c _ (suc (suc (length b + 0))) ∙ nth_later b _ 0

module _ {S : Type 0} (f : Open → S) {s v : Tally} {x : AtReg} {end want : ℕ} {a : S} (p : ℕ) (g : Res (Out AtReg)) (body : AtReg → Res (Out Here)) (c : Goes s v x g) where
  pub loop_cond : want < v.n → Found f g s v.n want a → Found f (looping p g body) s end want a
  loop_cond l h = record {
    is = λ fine o e z low le w q.
        let t = turn p g body o e in
        let i = t.long in
        let n = c.on fine t.cond t.first (omega (arith, low, z, i)) in
        h.is fine t.cond t.first n.2 (omega (arith, low, z, i, n.2)) le w
        (sym (nth_cond p t.cond.val.reg t.cond.words t.block.words (want - s.n) (omega (arith, n.2, l, le))) ∙ ap (λ (ws : List Open). nth (want - s.n) ws) (sym t.words) ∙ q);
  }

  -- one word of the loop itself
  loop_word : ((t : Out AtReg) (b : Out Here) (r : ℕ) → v.n ≡ s.n + length t.words → end ≡ v.n + 3 + length b.words → end < 4294967295
      → (w : Open) → nth (want - s.n) (loops p r t.words b.words) ≡ Some w → a ≡ f w) → Found f (looping p g body) s end want a
  loop_word h = record {
    is = λ fine o e z low le w q.
        let t = turn p g body o e in
        let i = t.long in
        let n = c.on fine t.cond t.first (omega (arith, low, z, i)) in
        h t.cond t.block t.cond.val.reg n.2 (omega (arith, z, i, n.2)) low w (ap (λ (ws : List Open). nth (want - s.n) ws) (sym t.words) ∙ q);
  }

  module _ {j d : Tally} (k : Reserved v j) (m : Reserved j d) where
    pub loop_jnz : v.n ≤ want → want < j.n → ((r : ℕ) → want ≡ v.n → d.n ≡ v.n + 2 → a ≡ f (jump p op.Jnz r (Imm.pos 2))) → Found f (looping p g body) s end want a
    loop_jnz l y h = loop_word (λ t b r n z low w q.
        let cj = k.count (k.low (omega (arith, low, z))) in
        let cd = m.count (m.low (omega (arith, low, z, cj))) in
        let i : length t.words + 0 ≡ want - s.n = omega (arith, n, l, y, cj) in
        h r (omega (arith, l, y, cj)) (omega (arith, cj, cd))
        ∙ ap f (some_same (sym (nth_jnz p r t.words b.words) ∙ ap (λ (e : ℕ). nth e (loops p r t.words b.words)) i ∙ q)))

    pub loop_jmp : j.n ≤ want → want < d.n → ((n : ℕ) → end ≡ want + n → a ≡ f (jump p op.Jmp 0 (Imm.pos n))) → Found f (looping p g body) s end want a
    loop_jmp l y h = loop_word (λ t b r n z low w q.
        let cj = k.count (k.low (omega (arith, low, z))) in
        let cd = m.count (m.low (omega (arith, low, z, cj))) in
        let i : length t.words + 1 ≡ want - s.n = omega (arith, n, l, y, cj, cd) in
        h (length b.words + 2) (omega (arith, z, l, y, cj, cd))
        ∙ ap f (some_same (sym (nth_jmp p r t.words b.words) ∙ ap (λ (e : ℕ). nth e (loops p r t.words b.words)) i ∙ q)))

    pub loop_back : d.n ≤ want → end ≤ want + 1 → ((n : ℕ) → a ≡ f (emit p op.Jmp 0 0 0 (Imm.neg n))) → Found f (looping p g body) s end want a
    loop_back l y h = loop_word (λ t b r n z low w q.
        let x = nth_low (loops p r t.words b.words) (want - s.n) w q in
        let cj = k.count (k.low (omega (arith, low, z))) in
        let cd = m.count (m.low (omega (arith, low, z, cj))) in
        let i : length t.words + suc (suc (length b.words + 0)) ≡ want - s.n = omega (arith, n, l, y, z, cj, cd, x, length_loops p r t.words b.words) in
        h (length t.words + 2 + length b.words)
        ∙ ap f (some_same (sym (nth_back p r t.words b.words) ∙ ap (λ (e : ℕ). nth e (loops p r t.words b.words)) i ∙ q)))

    pub loop_in : d.n ≤ want → want + 1 < end → Found f (body x) d (end - 1) want a → Found f (looping p g body) s end want a
    loop_in l y h = record {
      is = λ fine o e z low le w q.
          let t = turn p g body o e in
          let i = t.long in
          let n = c.on fine t.cond t.first (omega (arith, low, z, i)) in
          let cj = k.count (k.low (omega (arith, low, z, i, n.2))) in
          let cd = m.count (m.low (omega (arith, low, z, i, n.2, cj))) in
          let u : length t.cond.words + suc (suc (want - d.n)) ≡ want - s.n = omega (arith, n.2, cj, cd, l) in
          h.is (m.err ∙ k.err ∙ n.0) t.block (ap body n.1 ∙ t.second) (omega (arith, z, i, n.2, cj, cd)) (omega (arith, low)) l w
          (sym (nth_block p t.cond.val.reg t.cond.words t.block.words (want - d.n) (omega (arith, z, i, n.2, cj, cd, l, y)))
          ∙ ap (λ (e : ℕ). nth e (loops p t.cond.val.reg t.cond.words t.block.words)) u ∙ ap (λ (ws : List Open). nth (want - s.n) ws) (sym t.words) ∙ q);
    }
