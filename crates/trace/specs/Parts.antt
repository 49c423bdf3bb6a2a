-- One step down, for each kind of statement.
--     ends_ans, row-moves         a part and the statement's own words behind it; let_in, .., just_in
--     if_cond, .., while_loop, for_loop       If, While and For
--     return_first, .., mapping_right         Return and MappingWrite
-- Assumes nothing.
use Rattle.std.specs.Prelude.{◌≡◌, Bool, leb, ltb, get_or, set}
use Rattle.std.proofs.Math.Path.{refl, sym, ap, subst}
use Rattle.std.proofs.Common.{◌∙◌, arith, leb-true, leb-false, length-set, get_or-set_same}
use Rattle.std.proofs.Math.Bool.{true, false}
use mathlib.Core.List.{List, [], ◌∷◌, ◌++◌}
use Prim.Native.Nat.{ℕ, suc, ◌+◌, ◌-◌, ◌%◌, ◌≤◌, ◌<◌}
use Rattle.std.proofs.Math.ListN.{length}
use Rattle.isa.specs.declared.Opcode.TheVariants as op
use Rattle.rules.specs.Bytes.{name_at, inside, after}
use Rattle.rules.specs.Tables.{nth}
use Rattle.rules.specs.Machine.{Imm}
use Rattle.rules.specs.Tree.{Stmt}
use Rattle.rules.specs.Read.{when, expr_at, sLet, sConstrain, sAssign, sStorage, sMapping, sIf, sWhile, sFor, sReturn, sExpr, stmt_as, stmt_at_lem, body_at, else_at, second, third, fourth, contract_at}
use Rattle.rules.specs.Refusal.{Res}
use Rattle.rules.specs.Emit.{Open, with_name, emit, jump, load, add, pop, AtReg}
use Rattle.rules.specs.Why.{landing}
use Rattle.bounds.specs.Sizes.{vars, vars-stmts}
use Rattle.emit.specs.declared.St.{St}
use Rattle.emit.specs.declared.Rules.{Rules}
use Rattle.emit.specs.Steps as emitting
use Rattle.emit.specs.Steps.{Out, ◌>>=◌, done, say, ask, at, Here, looping, gen_stmt_lem, gen_stmts_lem}
use Rattle.emit.specs.State.{rules_of, tally, fresh, Takes, Keeps}
use Rattle.rules.specs.Generate.{alloc_reg_lem}
use Rattle.expr.specs.Scope.{scope_in}
use Rattle.stmt.specs.Frame.{Ready, Binds}
use Rattle.stmt.specs.Runs.{here, taken, Opens}
use Rattle.stmt.proofs.Names.{put_back, fewer, behind, behind_one}
use Rattle.stmt.proofs.Trees.{else_some, else_none, value_some, value_none}
use Rattle.seek.specs.declared.Spot.{Spot}
use denote.Enum.Declared.{tag_of}
use Rattle.seek.specs.contracts.Way.{the_type}
use Rattle.seek.specs.declared.Step.{Step}
use Rattle.seek.specs.declared.Way.TheVariants as way
use Rattle.seek.specs.Goes.{Goes, split, goes_done, goes_behind}
use Rattle.seek.specs.Found.{some_same, Found, found_first, found_later, found_asked, found_front, found_back, each_none, each_more, Own, found_own, own_done, own_asks, own_says, own_pick, Long, long_done, long_says, long_asks}
use Rattle.seek.specs.Spots as spots
use Rattle.seek.specs.Spots.{plain, ahead, spot_of, told, owned, leaping, into, spot_in_lem, steps, Counts, Finds, Ans, Row}
use Rattle.seek.specs.Parts.{is_found, deep, into_first, row_own, takes_fresh, fresh_own, fresh_past}
use Rattle.trace.specs.Moves.{entering, CountedElse, other, none, Blocks, Ends, owns, value, block, Loops, jnz, jmp, back, body, Moves}
use Rattle.trace.specs.Turns.{found_last, behind_is, behind_own, behind_in, loop_cond, loop_jnz, loop_jmp, loop_back, loop_in}

-- A step that is known to stay, or to leap.
module _ {img s : List ℕ} {R : Rules} {d want : ℕ} {r : Step} {a : Spot} where
  pub stays : {p : ℕ} {z : St} → r ≡ owned p z → Ends img s R d want r a → plain p ≡ a
  stays e (owns f g h) = sym (ap spot_in_lem e) ∙ h
  stays e (value f h) = absurd (omega (arith, ap (tag_of the_type) (sym (ap (λ (x : Step). x.way) e) ∙ f)))
  stays e (block f h) = absurd (omega (arith, ap (tag_of the_type) (sym (ap (λ (x : Step). x.way) e) ∙ f)))

  leaps : {p t : ℕ} {z : St} → r ≡ leaping p t z → Ends img s R d want r a → ahead p t ≡ a
  leaps e (owns f g h) = sym (ap spot_in_lem e) ∙ h
  leaps e (value f h) = absurd (omega (arith, ap (tag_of the_type) (sym (ap (λ (x : Step). x.way) e) ∙ f)))
  leaps e (block f h) = absurd (omega (arith, ap (tag_of the_type) (sym (ap (λ (x : Step). x.way) e) ∙ f)))

  enters : {l e : ℕ} {z : St} → r ≡ entering l e z → Ends img s R d want r a → Blocks img s R d l z e want a
  enters e (owns f g h) = absurd (g (ap (λ (x : Step). x.way) e))
  enters e (value f h) = absurd (omega (arith, ap (tag_of the_type) (sym (ap (λ (x : Step). x.way) e) ∙ f)))
  enters {l} {e} {z} q (block f h) = subst (λ (x : Step). Blocks img s R d x.place x.st x.to want a) q h

  pub ends_into : {x e : ℕ} {z : St} → r ≡ into x e z → Ends img s R d want r a → Ans img s R d want r a
  ends_into e (owns f g h) = spots.owns f h
  ends_into e (value f h) = spots.goes f h
  ends_into e (block f h) = absurd (omega (arith, ap (tag_of the_type) (sym (ap (λ (x : Step). x.way) e) ∙ f)))

  ends_ans : {x p : ℕ} {z : St} → Row img s R d x p z want r → Ends img s R d want r a → Ans img s R d want r a
  ends_ans (spots.inside t c l e) h = ends_into e h
  ends_ans (spots.behind t c l e) (owns f g h) = spots.owns f h
  ends_ans (spots.behind t c l e) (value f h) = spots.goes f h
  ends_ans (spots.behind t c l e) (block f h) = absurd (omega (arith, ap (tag_of the_type) (sym (ap (λ (x : Step). x.way) e) ∙ f)))

-- The part that a step leads into.
part_of : {img s : List ℕ} {R : Rules} {d x e want : ℕ} {z : St} {r : Step} {a : Spot} → r ≡ into x e z → Ans img s R d want r a → Found (told img want) (steps img s R (expr_at d img x) z) (tally z) e want a
part_of {img} {s} {R} {d} {x} {e} {want} {z} {r} {a} q h = (subst (λ (y : Step). Finds img s R (expr_at d img y.place) y.st y.to want a) q (deep (ap (λ (y : Step). y.way) q) h)).found

-- It leads into no block.
row_block : {img s : List ℕ} {R : Rules} {d x p want : ℕ} {z : St} {r : Step} → Row img s R d x p z want r → r.way ≡ way.Block → ⊥
row_block (spots.inside t c l e) f = omega (arith, ap (tag_of the_type) (sym (ap (λ (x : Step). x.way) e) ∙ f))
row_block (spots.behind t c l e) f = omega (arith, ap (tag_of the_type) (sym (ap (λ (x : Step). x.way) e) ∙ f))

module _ {img t N s : List ℕ} {R : Rules} {d want end i : ℕ} {st : St} {r : Step} where
  -- one value, and the statement's own words behind it
  pub let_in : {x y : ℕ} → x ≡ inside img i → y ≡ after img x → Row img s R d y i st want r → Moves img t N s s R d sLet i st end want r
  unfolding stmt_as gen_stmt_lem spot_of
  let_in e f w = record {
    leads = λ a h. rw (← e, ← f) (row_own w _ (λ v. own_pick _ (own_done _) (own_pick _ (own_asks _ (λ x. own_says (each_more _ _ refl each_none) (λ y. own_done _))) (own_done _))) (ends_ans w h));
    ready = λ q. absurd (row_block w q);
  }

  pub constrain_in : {x : ℕ} → x ≡ inside img i → Row img s R d x i st want r → Moves img t N s s R d sConstrain i st end want r
  unfolding stmt_as gen_stmt_lem spot_of
  constrain_in e w = record { leads = λ a h. rw (← e) (row_own w _ (λ v. own_says (each_more _ _ refl each_none) (λ y. own_done _)) (ends_ans w h)); ready = λ q. absurd (row_block w q) }

  pub assign_in : {x y : ℕ} → x ≡ inside img i → y ≡ after img x → Row img s R d y i st want r → Moves img t N s s R d sAssign i st end want r
  unfolding stmt_as gen_stmt_lem spot_of
  assign_in e f w = record {
    leads = λ a h. rw (← e, ← f) (row_own w _ (λ v. own_asks _ (λ x. own_says (each_more _ _ refl each_none) (λ y. own_done _))) (ends_ans w h));
    ready = λ q. absurd (row_block w q);
  }

  pub storage_in : {x y : ℕ} → x ≡ inside img i → y ≡ after img x → Row img s R d y i st want r → Moves img t N s s R d sStorage i st end want r
  unfolding stmt_as gen_stmt_lem spot_of
  storage_in e f w = record {
    leads = λ a h. rw (← e, ← f) (row_own w _ (λ v. own_asks _ (λ x. own_says (each_more _ _ refl each_none) (λ y. own_done _))) (ends_ans w h));
    ready = λ q. absurd (row_block w q);
  }

  pub just_in : {x : ℕ} → x ≡ inside img i → Row img s R d x i st want r → Moves img t N s s R d sExpr i st end want r
  unfolding stmt_as gen_stmt_lem
  just_in e w = record { leads = λ a h. rw (← e) (row_own w _ (λ v. own_done _) (ends_ans w h)); ready = λ q. absurd (row_block w q) }

  -- MappingWrite
  pub mapping_left : {x y : ℕ} {v : St} → x ≡ inside img i → y ≡ after img x → Counts img s R d y st v → want < v.n → r ≡ into y v.n st → Moves img t N s s R d sMapping i st end want r
  unfolding stmt_as gen_stmt_lem
  mapping_left e f c l q = record {
    leads = λ a h. rw (← e, ← f) (found_asked _ (λ k. into_first c l q (ends_into q h) _));
    ready = λ z. absurd (omega (arith, ap (tag_of the_type) (sym (ap (λ (x : Step). x.way) q) ∙ z)));
  }

  pub mapping_right : {x y z : ℕ} {v : St} → x ≡ inside img i → y ≡ after img x → z ≡ after img y → Counts img s R d y st v → v.n ≤ want → Row img s R d z i v want r
      → Moves img t N s s R d sMapping i st end want r
  unfolding stmt_as gen_stmt_lem spot_of
  mapping_right e f g c l w = record {
    leads = λ a h. rw (← e, ← f, ← g) (found_asked _ (λ k. found_later (told img want) _ c.goes l (row_own w _ (λ u.
        own_asks _ (λ b. own_says (each_more _ _ refl each_none) (λ y. own_asks _ (λ t. own_says (each_more _ _ refl (each_more _ _ refl each_none)) (λ z. own_done _))))) (ends_ans w h))));
    ready = λ q. absurd (row_block w q);
  }

  -- Return
  pub return_first : {a z q : St} → Takes R st a i → Keeps a q → want < q.n → r ≡ owned i z → Moves img t N s s R d sReturn i st end want r
  unfolding stmt_as gen_stmt_lem spot_of
  return_first {a} {z} {q} k p l e = record {
    leads = λ y h. is_found (stays e h) (go (ltb (inside img i) (after img i)));
    ready = λ y. absurd (omega (arith, ap (tag_of the_type) (sym (ap (λ (x : Step). x.way) e) ∙ y)));
  }
    where
      go : (b : Bool) → Found (told img want) (gen_stmt_lem (rules_of R) (contract_at img) (when b (λ _. Stmt.return i (expr_at d img (inside img i))) (Stmt.return-none i)) (scope_in img s) st.next) (tally st) end want (plain i)
      go true = fresh_own (told img want) _ (λ x. pop i x) _ (takes_fresh (contract_at img) _ k p) (λ x. refl) l
      go false = fresh_own (told img want) _ (λ x. pop i x) _ (takes_fresh (contract_at img) _ k p) (λ x. refl) l

  pub return_value : {x e : ℕ} {a q : St} → x ≡ inside img i → e ≡ after img i → x < e → Takes R st a i → Keeps a q → q.n ≤ want → Row img s R d x i q want r → Moves img t N s s R d sReturn i st end want r
  unfolding gen_stmt_lem spot_of
  return_value {x} {e} {a} {q} f g b k p l w = record {
    leads = λ y h.
        let n : q.next ≡ suc (a.reg % 256) = p.next ∙ k.next in
        let c : inside img i < after img i = rw (f, g) at b in
        rw (value_some (expr_at d img) (stmt_at_lem d img) img i c) (fresh_past (told img want) _ (λ x. pop i x) _ (takes_fresh (contract_at img) _ k p) l (rw (← f, ← n)
        (row_own w _ (λ v. own_says (each_more _ _ refl (each_more _ _ refl (each_more _ _ refl each_none))) (λ u. own_done _)) (ends_ans w h))));
    ready = λ y. absurd (row_block w y);
  }

  pub return_rest : {x e : ℕ} {z : St} → x ≡ inside img i → e ≡ after img i → e ≤ x → r ≡ owned i z → Moves img t N s s R d sReturn i st end want r
  unfolding gen_stmt_lem spot_of
  return_rest {x} {e} f g b q = record {
    leads = λ y h.
        let c : after img i ≤ inside img i = rw (f, g) at b in
        is_found (stays q h) (rw (value_none (expr_at d img) (stmt_at_lem d img) img i c) (found_own (own_asks _ (λ t. own_says (each_more _ _ refl each_none) (λ w. own_asks _ (λ z.
        own_says (each_more _ _ refl (each_more _ _ refl (each_more _ _ refl (each_more _ _ refl each_none)))) (λ u. own_done _)))))));
    ready = λ y. absurd (omega (arith, ap (tag_of the_type) (sym (ap (λ (x : Step). x.way) q) ∙ y)));
  }

  -- While
  pub while_cond : {x : ℕ} {v : St} → x ≡ inside img i → Counts img s R d x st v → want < v.n → r ≡ into x v.n st → Moves img t N s s R d sWhile i st end want r
  unfolding stmt_as gen_stmt_lem
  while_cond {x} {v} e c l q = record {
    leads = λ a h. rw (← e) (loop_cond (told img want) i _ _ c.goes l (part_of q (ends_into q h)));
    ready = λ z. absurd (omega (arith, ap (tag_of the_type) (sym (ap (λ (x : Step). x.way) q) ∙ z)));
  }

  pub while_loop : {x y : ℕ} {v : St} → x ≡ inside img i → y ≡ after img x → Ready img t N s (vars (taken sWhile d img i)) → Counts img s R d x st v → v.n ≤ want → Loops i y st.next 1 v end want r
      → Moves img t N s s R d sWhile i st end want r
  unfolding stmt_as gen_stmt_lem spot_of landing vars
  while_loop {x} {y} {v} e f z c l (jnz j a k o b q) = record {
    leads = λ p h. is_found (leaps q h) (rw (← e, ← f) (loop_jnz (told img want) i _ _ c.goes k.reserved o.reserved l b (λ g w n. ap (ahead i) (omega (arith, w, n)))));
    ready = λ m. absurd (omega (arith, ap (tag_of the_type) (sym (ap (λ (x : Step). x.way) q) ∙ m)));
  }
  while_loop {x} {y} {v} e f z c l (jmp j a k o b g q) = record {
    leads = λ p h. is_found (leaps q h) (rw (← e, ← f) (loop_jmp (told img want) i _ _ c.goes k.reserved o.reserved b g (λ n w. ap (ahead i) w)));
    ready = λ m. absurd (omega (arith, ap (tag_of the_type) (sym (ap (λ (x : Step). x.way) q) ∙ m)));
  }
  while_loop {x} {y} {v} e f z c l (back j a k o b g q) = record {
    leads = λ p h. is_found (stays q h) (rw (← e, ← f) (loop_back (told img want) i _ _ c.goes k.reserved o.reserved b (leb-true _ _ g) (λ n. refl)));
    ready = λ m. absurd (omega (arith, ap (tag_of the_type) (sym (ap (λ (x : Step). x.way) q) ∙ m)));
  }
  while_loop {x} {y} {v} e f z c l (body j a k o b g q) = record {
    leads = λ p h. rw (← e, ← f) (loop_in (told img want) i _ _ c.goes k.reserved o.reserved b (leb-false _ _ g) (rw (← o.next) (enters q h).found));
    ready = λ m. let u = rw (← e, ← f) at z in subst (λ (x : Step). Ready img t N s (vars-stmts (body_at (stmt_at_lem d img) img x.place))) (sym q) u;
  }

-- The count of names put back: there is room for as many as before.
pub restored : {img t N s : List ℕ} {k : ℕ} (u : List ℕ) → 0 < length u → length u ≡ length s → Ready img t N s k → Ready img t N (set u 0 (get_or s 0 0)) k
restored {img} {t} {N} {s} {k} u z e r = record {
  known = r.known;
  names = omega (arith, r.names, get_or-set_same u 0 (get_or s 0 0) 0 z);
  size = omega (arith, r.size, e, length-set u 0 (get_or s 0 0));
}

-- If, behind its condition: the Jnz and `else`, the Jmp. x, y and z are the places of the condition, `then` and `else`.
pub record Branch (img s u : List ℕ) (R : Rules) (d i x y z stop : ℕ) (st v a e b : St) : Type 0 where
  pub cond : x ≡ inside img i
  pub then : y ≡ after img x
  pub else : z ≡ after img y
  pub ends : stop ≡ after img i
  pub counts : Counts img s R d x st v
  pub opens : Opens v a st.next
  pub counted : CountedElse R img d z stop a s e u
  pub keeps : Keeps e b

module _ {img s u : List ℕ} {R : Rules} {d i x y z stop : ℕ} {st v a e b : St} (B : Branch img s u R d i x y z stop st v a e b) where
  -- the statement, by these places
  parts_are : taken sIf d img i ≡ Stmt.if-else i (expr_at d img x) (body_at (stmt_at_lem d img) img y) (else_at (stmt_at_lem d img) img z stop)
  unfolding stmt_as
  parts_are =
      let f : second img i ≡ y = ap (after img) (sym B.cond) ∙ sym B.then in
      let g : third img i ≡ z = ap (after img) f ∙ sym B.else in
      λ j. Stmt.if-else i (expr_at d img (sym B.cond j)) (body_at (stmt_at_lem d img) img (f j)) (else_at (stmt_at_lem d img) img (g j) (sym B.ends j))

  abbrev others : Res (Out Here)
  others = gen_stmts_lem (rules_of R) (contract_at img) (else_at (stmt_at_lem d img) img z stop) (scope_in img s) st.next

  goes_else : Goes (tally a) (tally e) (here (scope_in img u) e.next) others
  unfolding gen_stmts_lem
  goes_else = go B.counted
    where
      go : CountedElse R img d z stop a s e u → Goes (tally a) (tally e) (here (scope_in img u) e.next) others
      go (other l h) = rw (else_some (stmt_at_lem d img) img z stop l, ← B.opens.next) h.goes
      go (none l p q) = rw (else_none (stmt_at_lem d img) img z stop l, p, q, B.opens.next) (goes_done _)

  abbrev jumps : ℕ → Open
  jumps n = jump i op.Jnz (v.reg % 256) (Imm.pos (n + 2))

  abbrev skips : ℕ → Open
  skips n = jump i op.Jmp 0 (Imm.pos (n + 1))

  abbrev over_else : Res (Out Here)
  over_else = emitting.behind (λ ws. jumps (length ws) ∷ ws) others

  abbrev over_then : Here → Res (Out Here)
  over_then h = emitting.behind (λ ws. skips (length ws) ∷ ws) (gen_stmts_lem (rules_of R) (contract_at img) (body_at (stmt_at_lem d img) img y) h.scope h.next)

  goes_jnz : Goes (tally v) (tally e) (here (scope_in img u) e.next) over_else
  goes_jnz = goes_behind jumps B.opens.reserved goes_else

  -- what is found behind the condition is found in the statement
  whole : {want end : ℕ} {p : Spot} → v.n ≤ want → Found (told img want) (over_else >>= over_then) (tally v) end want p
      → Found (told img want) (gen_stmt_lem (rules_of R) (contract_at img) (taken sIf d img i) (scope_in img s) st.next) (tally st) end want p
  unfolding gen_stmt_lem
  whole {want} l h = rw parts_are (found_later (told img want) _ B.counts.goes l h)

  -- the Jnz, over `else`
  over : {want end : ℕ} → v.n ≤ want → want < a.n → Found (told img want) (over_else >>= over_then) (tally v) end want (ahead i b.n)
  unfolding spot_of landing nth
  over {want} {end} l m = record {
    is = λ fine y g n low le w x.
        let j = split over_else over_then y g in
        let f = behind_is (λ ws. jumps (length ws) ∷ ws) _ j.one j.first in
        let h = behind_is (λ ws. skips (length ws) ∷ ws) _ j.two j.second in
        let p = ap length f.words in
        let q = ap length h.words in
        let k = B.opens.reserved in
        let o = B.keeps.reserved in
        let ca = k.count (k.low (omega (arith, low, n, j.long, p))) in
        let ge = goes_else.on (k.err ∙ fine) f.out f.is (omega (arith, low, n, j.long, p, q, ca)) in
        let cb = o.count (o.low (omega (arith, low, n, j.long, p, q, ca, ge.2))) in
        let z : want - v.n ≡ 0 = omega (arith, l, m, ca) in
        let same : y.words ≡ jumps (length f.out.words) ∷ (f.out.words ++ j.two.words) = j.words ∙ ap (λ (ws : List Open). ws ++ j.two.words) f.words in
        ap (ahead i) (omega (arith, l, m, ca, cb, ge.2))
        ∙ ap (told img want) (some_same (ap (λ (k : ℕ). nth k (jumps (length f.out.words) ∷ (f.out.words ++ j.two.words))) (sym z) ∙ ap (λ (ws : List Open). nth (want - v.n) ws) (sym same) ∙ x));
  }

module _ {img t N s u : List ℕ} {R : Rules} {d want end i x y z stop : ℕ} {st v a e b : St} {r : Step} (B : Branch img s u R d i x y z stop st v a e b) where
  pub if_jnz : v.n ≤ want → want < a.n → r ≡ leaping i b.n st → Moves img t N s u R d sIf i st end want r
  if_jnz l m q = record {
    leads = λ p h. is_found (leaps q h) (whole B l (over B l m));
    ready = λ m. absurd (omega (arith, ap (tag_of the_type) (sym (ap (λ (x : Step). x.way) q) ∙ m)));
  }

  pub if_jmp : v.n ≤ want → e.n ≤ want → want < b.n → r ≡ leaping i end st → Moves img t N s u R d sIf i st end want r
  unfolding spot_of landing
  if_jmp l m n q = record {
    leads = λ p h. is_found (leaps q h) (whole B l (found_later (told img want) _ (goes_jnz B) m (behind_own (told img want) (skips B) _ B.keeps.reserved n (λ y g x f. ap (ahead i) (omega (arith, x, f))))));
    ready = λ m. absurd (omega (arith, ap (tag_of the_type) (sym (ap (λ (x : Step). x.way) q) ∙ m)));
  }

  pub if_then : Ready img t N s (vars (taken sIf d img i)) → length u ≡ length s → v.n ≤ want → e.n ≤ want → b.n ≤ want → r ≡ entering y end b → Moves img t N s u R d sIf i st end want r
  unfolding vars
  if_then f g l m n q = record {
    leads = λ p h. whole B l (found_later (told img want) _ (goes_jnz B) m (behind_in (told img want) (skips B) _ B.keeps.reserved n (rw (← B.keeps.next) (enters q h).found)));
    ready = λ _. subst (λ (x : Step). Ready img t N u (vars-stmts (body_at (stmt_at_lem d img) img x.place))) (sym q) (room B.counted (rw (parts_are B) at f));
  }
    where
      room : CountedElse R img d z stop a s e u → Ready img t N s (vars-stmts (body_at (stmt_at_lem d img) img y) + vars-stmts (else_at (stmt_at_lem d img) img z stop)) → Ready img t N u (vars-stmts (body_at (stmt_at_lem d img) img y))
      room (other l h) f = behind f (rw (else_some (stmt_at_lem d img) img z stop l) h.frame) g
      room (none l p q) f = rw q (fewer f (omega arith))

  -- in `else`, the scope put back
  pub if_else : Ready img t N s (vars (taken sIf d img i)) → length u ≡ length s → v.n ≤ want → a.n ≤ want → want < e.n → r ≡ entering z e.n a
      → Moves img t N s (set u 0 (get_or s 0 0)) R d sIf i st end want r
  unfolding vars
  if_else f y l m n q = go B.counted
    where
      go : CountedElse R img d z stop a s e u → Moves img t N s (set u 0 (get_or s 0 0)) R d sIf i st end want r
      go (none x p j) = absurd (omega (arith, m, n, ap (λ (x : St). x.n) p))
      go (other x h) =
          let g : 0 < length u = omega (arith, y, f.size) in
          let k = rw (else_some (stmt_at_lem d img) img z stop x) at (rw (parts_are B) at f) in
          record {
            leads = λ p j. whole B l (found_first (told img want) _ (goes_jnz B) n (behind_in (told img want) (jumps B) _ B.opens.reserved m
                (rw (else_some (stmt_at_lem d img) img z stop x, ← put_back img h.frame g, ← B.opens.next) (enters q j).found)));
            ready = λ _. subst (λ (x : Step). Ready img t N (set u 0 (get_or s 0 0)) (vars-stmts (body_at (stmt_at_lem d img) img x.place))) (sym q) (restored u g y (fewer k (omega arith)));
          }

pub if_cond : {img t N s : List ℕ} {R : Rules} {d want end i x : ℕ} {st v : St} {r : Step} → x ≡ inside img i → Counts img s R d x st v → want < v.n → r ≡ into x v.n st → Moves img t N s s R d sIf i st end want r
unfolding stmt_as gen_stmt_lem
if_cond e c l q = record {
  leads = λ a h. rw (← e) (into_first c l q (ends_into q h) _);
  ready = λ z. absurd (omega (arith, ap (tag_of the_type) (sym (ap (λ (x : Step). x.way) q) ∙ z)));
}

-- For, up to its loop: x, y, z and q are the places of its name, of its first and its last value and of its block; then the Add and the Lt.
pub record Heading (img s : List ℕ) (R : Rules) (d i x y z q : ℕ) (st v w a n c l : St) : Type 0 where
  pub var : x ≡ inside img i
  pub from : y ≡ after img x
  pub to : z ≡ after img y
  pub list : q ≡ after img z
  pub begins : Counts img s R d y st v
  pub ends : Counts img s R d z v w
  pub takes : Takes R w a i
  pub keeps : Keeps a n
  pub tests : Takes R n c i
  pub tested : Keeps c l

module _ {img s : List ℕ} {R : Rules} {d i x y z q : ℕ} {st v w a n c l : St} (H : Heading img s R d i x y z q st v w a n c l) where
  for_is : taken sFor d img i ≡ Stmt.for i (name_at img x) (expr_at d img y) (expr_at d img z) (body_at (stmt_at_lem d img) img q)
  unfolding stmt_as
  for_is =
      let f : second img i ≡ y = ap (after img) (sym H.var) ∙ sym H.from in
      let g : third img i ≡ z = ap (after img) f ∙ sym H.to in
      let h : fourth img i ≡ q = ap (after img) g ∙ sym H.list in
      λ j. Stmt.for i (name_at img (sym H.var j)) (expr_at d img (f j)) (expr_at d img (g j)) (body_at (stmt_at_lem d img) img (h j))

  abbrev number : ℕ
  number = a.reg % 256

  abbrev less : Res (Out AtReg)
  less = fresh (alloc_reg_lem (rules_of R) (contract_at img) i (suc number)) (λ c. emit i op.Lt c number (w.reg % 256) (Imm.pos 0))

  abbrev step_on : Here → Res (Out Here)
  step_on h = ask (alloc_reg_lem (rules_of R) (contract_at img) i h.next) >>= λ o. say (load i o 1 ∷ add i number number o ∷ []) >>= λ u. done (here (scope_in img s) st.next)

  abbrev inner : Res (Out Here)
  inner = gen_stmts_lem (rules_of R) (contract_at img) (body_at (stmt_at_lem d img) img q) (with_name (name_at img x) number (scope_in img s)) (suc number)

  abbrev turns : Res (Out Here)
  turns = looping i less (λ c. inner >>= step_on)

  goes_less : Goes (tally n) (tally l) (at (c.reg % 256) (suc (c.reg % 256))) less
  goes_less = let e : n.next ≡ suc number = H.keeps.next ∙ H.takes.next in rw (← e) (takes_fresh (contract_at img) _ H.tests H.tested)

  -- what is found behind the Add is found in the statement
  in_turns : {want end : ℕ} {p : Spot} → v.n ≤ want → w.n ≤ want → n.n ≤ want → Found (told img want) turns (tally n) end want p
      → Found (told img want) (gen_stmt_lem (rules_of R) (contract_at img) (taken sFor d img i) (scope_in img s) st.next) (tally st) end want p
  unfolding gen_stmt_lem
  in_turns {want} b e f h = rw for_is (found_later (told img want) _ H.begins.goes b (found_later (told img want) _ H.ends.goes e
      (fresh_past (told img want) _ (λ k. add i k (v.reg % 256) 0) _ (takes_fresh (contract_at img) _ H.takes H.keeps) f (found_last (told img want) turns _ (λ u. long_done _) h))))

  stepped : (h : Here) → Long 2 (step_on h)
  stepped h = long_asks _ (λ o. long_says (load i o 1 ∷ add i number number o ∷ []) (λ u. long_done _))

  mine : (want : ℕ) (h : Here) → Own (told img want) (plain i) (step_on h)
  unfolding spot_of
  mine want h = own_asks _ (λ o. own_says (each_more _ _ refl (each_more _ _ refl each_none)) (λ u. own_done _))

module _ {img t N s : List ℕ} {R : Rules} {d want end i : ℕ} {st : St} {r : Step} where
  pub for_from : {x y : ℕ} {v : St} → x ≡ inside img i → y ≡ after img x → Counts img s R d y st v → want < v.n → r ≡ into y v.n st → Moves img t N s s R d sFor i st end want r
  unfolding stmt_as gen_stmt_lem
  for_from e f k b u = record {
    leads = λ p h. rw (← e, ← f) (into_first k b u (ends_into u h) _);
    ready = λ m. absurd (omega (arith, ap (tag_of the_type) (sym (ap (λ (x : Step). x.way) u) ∙ m)));
  }

  pub for_to : {x y z : ℕ} {v w : St} → x ≡ inside img i → y ≡ after img x → z ≡ after img y → Counts img s R d y st v → v.n ≤ want → Counts img s R d z v w → want < w.n → r ≡ into z w.n v → Moves img t N s s R d sFor i st end want r
  unfolding stmt_as gen_stmt_lem
  for_to e f g k b m o u = record {
    leads = λ p h. rw (← e, ← f, ← g) (found_later (told img want) _ k.goes b (into_first m o u (ends_into u h) _));
    ready = λ m. absurd (omega (arith, ap (tag_of the_type) (sym (ap (λ (x : Step). x.way) u) ∙ m)));
  }

  pub for_add : {x y z : ℕ} {v w a n j : St} → x ≡ inside img i → y ≡ after img x → z ≡ after img y → Counts img s R d y st v → v.n ≤ want → Counts img s R d z v w → w.n ≤ want → Takes R w a i → Keeps a n → want < n.n → r ≡ owned i j
      → Moves img t N s s R d sFor i st end want r
  unfolding stmt_as gen_stmt_lem spot_of
  for_add {x} {y} {z} {v} e f g k b m o j p h u = record {
    leads = λ y q. is_found (stays u q) (rw (← e, ← f, ← g) (found_later (told img want) _ k.goes b (found_later (told img want) _ m.goes o
        (fresh_own (told img want) _ (λ k. add i k (v.reg % 256) 0) _ (takes_fresh (contract_at img) _ j p) (λ k. refl) h))));
    ready = λ m. absurd (omega (arith, ap (tag_of the_type) (sym (ap (λ (x : Step). x.way) u) ∙ m)));
  }

  pub for_lt : {x y z q : ℕ} {v w a n c l j : St} → Heading img s R d i x y z q st v w a n c l → v.n ≤ want → w.n ≤ want → n.n ≤ want → want < l.n → r ≡ owned i j → Moves img t N s s R d sFor i st end want r
  unfolding spot_of
  for_lt H b e f h u = record {
    leads = λ p g. is_found (stays u g) (in_turns H b e f (loop_cond (told img want) i _ _ (goes_less H) h (found_own (own_asks _ (λ c. own_says (each_more _ _ refl each_none) (λ u. own_done _))))));
    ready = λ m. absurd (omega (arith, ap (tag_of the_type) (sym (ap (λ (x : Step). x.way) u) ∙ m)));
  }

-- For, its loop, with its variable's name in the scope
pub for_loop : {img t N s s' : List ℕ} {R : Rules} {d want end i x y z q : ℕ} {st v w a n c l : St} {r : Step} → Heading img s R d i x y z q st v w a n c l → Ready img t N s (vars (taken sFor d img i))
    → Binds img x a.reg s s' → length s' ≡ length s → v.n ≤ want → w.n ≤ want → n.n ≤ want → l.n ≤ want → Loops i q n.next 3 l end want r → Moves img t N s s' R d sFor i st end want r
unfolding spot_of landing vars
for_loop {img} {t} {N} {s} {s'} {R} {d} {want} {end} {i} {x} {y} {z} {q} H f g m b e h k (jnz j u o p y' r') = record {
  leads = λ a h'. is_found (leaps r' h') (in_turns H b e h (loop_jnz (told img want) i _ _ (goes_less H) o.reserved p.reserved k y' (λ g' w' n'. ap (ahead i) (omega (arith, w', n')))));
  ready = λ m. absurd (omega (arith, ap (tag_of the_type) (sym (ap (λ (x : Step). x.way) r') ∙ m)));
}
for_loop {img} {t} {N} {s} {s'} {R} {d} {want} {end} {i} H f g m b e h k (jmp j u o p y' z' r') = record {
  leads = λ a h'. is_found (leaps r' h') (in_turns H b e h (loop_jmp (told img want) i _ _ (goes_less H) o.reserved p.reserved y' z' (λ n' w'. ap (ahead i) w')));
  ready = λ m. absurd (omega (arith, ap (tag_of the_type) (sym (ap (λ (x : Step). x.way) r') ∙ m)));
}
for_loop {img} {t} {N} {s} {s'} {R} {d} {want} {end} {i} {x} {y} {z} {q} {st} {v} {w} {a} {n} {c} {l} {r} H f g m b e h k (back j u o p y' z' r') = record {
  leads = λ a h'. is_found (stays r' h') (in_turns H b e h (go (leb end (want + 1)) refl));
  ready = λ m. absurd (omega (arith, ap (tag_of the_type) (sym (ap (λ (x : Step). x.way) r') ∙ m)));
}
  where
    -- the jump back, or one of the two words before it
    go : (y : Bool) → leb end (want + 1) ≡ y → Found (told img want) (turns H) (tally n) end want (plain i)
    go true y = loop_back (told img want) i _ _ (goes_less H) o.reserved p.reserved y' (leb-true _ _ y) (λ n'. refl)
    go false y = loop_in (told img want) i _ _ (goes_less H) o.reserved p.reserved y' (leb-false _ _ y) (found_back (told img want) (inner H) (step_on H) 2 (stepped H) (omega (arith, leb-true end (want + 3) z', leb-false end (want + 1) y)) (mine H want))
for_loop {img} {t} {N} {s} {s'} {R} {d} {want} {end} {i} {x} {y} {z} {q} {st} {v} {w} {a} {n} {c} {l} {r} H f g m b e h k (body j u o p y' z' r') = record {
  leads = λ a' h'.
      let next : u.next ≡ suc (a.reg % 256) = p.next ∙ H.keeps.next ∙ H.takes.next in
      let last : end - 1 - 2 ≡ end - 3 = omega arith in
      in_turns H b e h (loop_in (told img want) i _ _ (goes_less H) o.reserved p.reserved y' (omega (arith, leb-false end (want + 3) z'))
      (found_front (told img want) (inner H) (step_on H) 2 (stepped H) (omega (arith, leb-false end (want + 3) z')) (rw (last, ← g.scope, ← next) (enters r' h').found)));
  ready = λ _. subst (λ (x : Step). Ready img t N s' (vars-stmts (body_at (stmt_at_lem d img) img x.place))) (sym r') (behind_one (rw (for_is H) at f) g.frame m);
}
