-- The loops of the walk, and a statement by its kind.
--     Logs          whatever is found in the rest of an Emit's arguments is found in all: logs_begin, logs_go, logs_in, logs_own, logs_end
--     Rest          whatever is found in the rest of a List is found in all of it: rest_begin, rest_go, rest_in, rest_last, rest_end
--     falls_absent, falls_ready, falls_in      a step down from a List, by its statement
--     Down          whatever is found in the List that t leads to is found in the whole: down_begin, down_go, down_settled, down_end
--     alone_ready, alone_counted         a statement by itself is a List of one
--     kind_in, kind_own, kind_ready      by its number
-- Assumes nothing.
use Rattle.std.specs.Prelude.{◌≡◌, Bool, true, false, List, [], ◌++◌, ℕ, zero, suc, ◌+◌, ◌-◌, ◌≤◌, ◌<◌, ltb, get_or, set}
use Rattle.std.proofs.Math.Path.{refl, sym, subst}
use Rattle.std.proofs.Common.{ap, ◌∙◌, arith, length-append}
use Rattle.std.proofs.Math.ListN.{length}
use Rattle.rules.specs.Bytes.{inside, after, kind_at}
use Rattle.rules.specs.Tree.{Stmt, Stmts, Contract}
use Rattle.rules.specs.Read.{when, expr_at, exprs_from, StmtKind, sEmit, sOther, stmt_kind_of, stmts_from, stmt_as, stmt_at_lem, body_at, second, contract_at}
use Rattle.rules.specs.Refusal.{Res}
use Rattle.rules.specs.Emit.{Rules as Target, Open, Scope}
use Rattle.bounds.specs.Sizes.{vars, vars-stmts}
use Rattle.emit.specs.declared.St.{St}
use Rattle.emit.specs.declared.Rules.{Rules}
use Rattle.emit.specs.Steps.{Out, after as then, ◌>>=◌, done, Here, gen_logs, gen_stmt_lem, gen_stmts_lem}
use Rattle.emit.specs.Sinks.{Sinks}
use Rattle.emit.specs.Ran.{raw, Tally}
use Rattle.emit.specs.State.{rules_of, tally, Keeps}
use Rattle.expr.specs.Scope.{scope_in}
use Rattle.stmt.specs.Frame.{Ready, Frame}
use Rattle.stmt.specs.Runs.{here, taken, DoesAll}
use Rattle.stmt.proofs.Names.{put_back, fewer}
use Rattle.stmt.proofs.Lists.{goes_on, exprs_none, exprs_more, stmts_none, stmts_more}
use Rattle.stmt.proofs.Trees.{other}
use Rattle.seek.specs.declared.Spot.{Spot}
use denote.Enum.Declared.{tag_of}
use Rattle.seek.specs.contracts.Way.{the_type}
use Rattle.seek.specs.declared.Step.{Step}
use Rattle.seek.specs.declared.Way.TheVariants as way
use Rattle.seek.specs.Goes.{Goes, ran_goes, goes_word}
use Rattle.seek.specs.Found.{Found, found_first, found_later, found_none, each_none, each_more, Own, found_own, own_say, own_done, own_then, long_done}
use Rattle.seek.specs.Spots.{plain, spot_of, told, owned, into, Counts}
use Rattle.seek.specs.Parts.{is_found, into_first}
use Rattle.trace.specs.Moves.{entering, within, Counted, Blocks, Ends, block, Moves, Steps, Reaches, Falls}
use Rattle.trace.specs.Turns.{found_last}
use Rattle.trace.specs.Parts.{stays, ends_into, restored}

-- An Emit's arguments from the one at p on.
pub record Logs (img s : List ℕ) (R : Rules) (d i e p₀ : ℕ) (st : St) (want p : ℕ) (z : St) : Type 0 where
  pub all_of : (a : Spot) (end : ℕ) → Found (told img want) (gen_logs (rules_of R) (contract_at img) i (exprs_from 65536 (expr_at d img) img p e) (scope_in img s) z.next) (tally z) end want a
      → Found (told img want) (gen_logs (rules_of R) (contract_at img) i (exprs_from 65536 (expr_at d img) img p₀ e) (scope_in img s) st.next) (tally st) end want a

pub logs_begin : {img s : List ℕ} {R : Rules} {d i e p : ℕ} {st : St} {want : ℕ} → Logs img s R d i e p st want p st
logs_begin = record { all_of = λ a end h. h }

-- what is found in the arguments is found in the statement
emits_in : (img s : List ℕ) (R : Rules) (d i : ℕ) {l e p : ℕ} (st : St) {want : ℕ} → l ≡ second img i → p ≡ inside img l → e ≡ after img l → (a : Spot) (end : ℕ)
    → Found (told img want) (gen_logs (rules_of R) (contract_at img) i (exprs_from 65536 (expr_at d img) img p e) (scope_in img s) st.next) (tally st) end want a
    → Found (told img want) (gen_stmt_lem (rules_of R) (contract_at img) (taken sEmit d img i) (scope_in img s) st.next) (tally st) end want a
unfolding stmt_as gen_stmt_lem
emits_in img s R d i {l} {e} {p} st {want} f g h a end k = rw (← f, ← g, ← h) (found_last (told img want) _ _ (λ z. long_done _) k)

module _ {img s : List ℕ} {R : Rules} {d i e p₀ : ℕ} {st : St} {want p : ℕ} {z : St} (L : Logs img s R d i e p₀ st want p z) (small : length img ≤ 65536) (fits : e ≤ length img) (more : p < e) where
  pub logs_go : {q : ℕ} {v y : St} → q ≡ after img p → Counts img s R d p z v → v.n ≤ want → Keeps v y → y.n ≤ want → Logs img s R d i e p₀ st want q y
  unfolding gen_logs
  logs_go f c b k m = record {
    all_of = λ a end h. L.all_of a end (rw (exprs_more img (expr_at d img) 65536 p e more fits (omega arith))
        (found_later (told img want) _ c.goes b (found_later (told img want) _ (goes_word _ k.reserved) m (rw (f, k.next) at h))));
  }

  module _ {t N : List ℕ} {l end : ℕ} {r : Step} (hl : l ≡ second img i) (hp : p₀ ≡ inside img l) (he : e ≡ after img l) where
    pub logs_in : {v : St} → Counts img s R d p z v → want < v.n → r ≡ into p v.n z → Moves img t N s s R d sEmit i st end want r
    unfolding gen_logs
    logs_in c b q = record {
      leads = λ a h. emits_in img s R d i st hl hp he a end (L.all_of a end (rw (exprs_more img (expr_at d img) 65536 p e more fits (omega arith)) (into_first c b q (ends_into q h) _)));
      ready = λ y. absurd (omega (arith, ap (tag_of the_type) (sym (ap (λ (x : Step). x.way) q) ∙ y)));
    }

    pub logs_own : {v y j : St} → Counts img s R d p z v → v.n ≤ want → Keeps v y → want < y.n → r ≡ owned i j → Moves img t N s s R d sEmit i st end want r
    unfolding gen_logs spot_of
    logs_own c b k m q = record {
      leads = λ a h. is_found (stays q h) (emits_in img s R d i st hl hp he (plain i) end (L.all_of (plain i) end (rw (exprs_more img (expr_at d img) 65536 p e more fits (omega arith))
          (found_later (told img want) _ c.goes b (found_first (told img want) _ (goes_word _ k.reserved) m (found_own (own_say (each_more _ _ refl each_none))))))));
      ready = λ y. absurd (omega (arith, ap (tag_of the_type) (sym (ap (λ (x : Step). x.way) q) ∙ y)));
    }

pub logs_end : {img t N s : List ℕ} {R : Rules} {d i l e p₀ : ℕ} {st : St} {want p end : ℕ} {z j : St} {r : Step} → Logs img s R d i e p₀ st want p z → l ≡ second img i → p₀ ≡ inside img l → e ≡ after img l → e ≤ p
    → r ≡ owned i j → Moves img t N s s R d sEmit i st end want r
unfolding gen_logs
logs_end {img} {t} {N} {s} {R} {d} {i} {l} {e} {p₀} {st} {want} {p} {end} L hl hp he b q = record {
  leads = λ a h. emits_in img s R d i st hl hp he a end (L.all_of a end (rw (exprs_none img (expr_at d img) 65536 p e b) (found_none _)));
  ready = λ y. absurd (omega (arith, ap (tag_of the_type) (sym (ap (λ (x : Step). x.way) q) ∙ y)));
}

-- The statements of a List from the one at p on, and there is room for their names.
pub record Rest (img t N s₀ : List ℕ) (R : Rules) (d e p₀ : ℕ) (st : St) (want : ℕ) (s : List ℕ) (p : ℕ) (z : St) : Type 0 where
  pub all_of : (a : Spot) (end : ℕ) → Found (told img want) (gen_stmts_lem (rules_of R) (contract_at img) (stmts_from 65536 (stmt_at_lem d img) img p e) (scope_in img s) z.next) (tally z) end want a
      → Found (told img want) (gen_stmts_lem (rules_of R) (contract_at img) (stmts_from 65536 (stmt_at_lem d img) img p₀ e) (scope_in img s₀) st.next) (tally st) end want a
  pub ready : Ready img t N s (vars-stmts (stmts_from 65536 (stmt_at_lem d img) img p e))
  pub long : length s ≡ length s₀

pub rest_begin : {img t N s : List ℕ} {R : Rules} {d e p : ℕ} {st : St} {want : ℕ} → Ready img t N s (vars-stmts (stmts_from 65536 (stmt_at_lem d img) img p e)) → Rest img t N s R d e p st want s p st
rest_begin h = record { all_of = λ a end h. h; ready = h; long = refl }

module _ {img t N s₀ : List ℕ} {R : Rules} {d e p₀ : ℕ} {st : St} {want : ℕ} {s : List ℕ} {p : ℕ} {z : St} (L : Rest img t N s₀ R d e p₀ st want s p z) (small : length img ≤ 65536) (fits : e ≤ length img) (more : p < e) where
  next : stmts_from 65536 (stmt_at_lem d img) img p e ≡ Stmts.more (stmt_at_lem d img p) (stmts_from 65536 (stmt_at_lem d img) img (after img p) e)
  next = stmts_more img (stmt_at_lem d img) 65536 p e more fits (omega arith)

  -- room for the names of the next one
  pub rest_ready : Ready img t N s (vars (stmt_at_lem d img p))
  unfolding vars-stmts
  rest_ready = fewer (rw next at L.ready) (omega arith)

  pub rest_go : {q : ℕ} {v : St} {s' : List ℕ} → q ≡ after img p → Counted R img d p z s v s' → length s' ≡ length s → v.n ≤ want → Rest img t N s₀ R d e p₀ st want s' q v
  unfolding gen_stmts_lem vars-stmts
  rest_go {q} {v} {s'} f c m b = record {
    all_of = λ a end h. L.all_of a end (rw next (found_later (told img want) _ c.goes b (rw f at h)));
    ready = rw f (behind' (rw next at L.ready) c.frame m);
    long = m ∙ L.long;
  }
    where
      behind' : {j k : ℕ} → Ready img t N s (k + j) → Frame s s' k → length s' ≡ length s → Ready img t N s' j
      behind' a f e = record { known = a.known; names = omega (arith, a.names, f.most); size = omega (arith, a.size, e) }

  module _ {l end : ℕ} {r : Step} (hp : p₀ ≡ inside img l) (he : e ≡ after img l) where
    -- in this one, the scope put back
    pub rest_in : {v : St} {s' : List ℕ} → Counted R img d p z s v s' → length s' ≡ length s → want < v.n → r ≡ within p v.n z → Reaches img t N s₀ (set s' 0 (get_or s 0 0)) R d l st end want r
    unfolding gen_stmts_lem vars-stmts
    rest_in {v} {s'} c m b q =
        let g : 0 < length s' = omega (arith, m, L.ready.size) in
        record {
          leads = λ a w h.
              let k = subst (λ (x : Step). Found (told img want) (gen_stmt_lem (rules_of R) (contract_at img) (stmt_at_lem d img x.place) (scope_in img (set s' 0 (get_or s 0 0))) x.st.next) (tally x.st) x.to want a) q h in
              record { found = rw (← hp, ← he) (L.all_of a end (rw next (found_first (told img want) _ c.goes b (rw (← put_back img c.frame g) k)))) };
          ready = λ w. subst (λ (x : Step). Ready img t N (set s' 0 (get_or s 0 0)) (vars (stmt_at_lem d img x.place))) (sym q) (restored s' g m rest_ready);
          absent = λ a w. absurd (w (ap (λ (x : Step). x.way) q));
        }

    -- the last one needs no count
    pub rest_last : {x : ℕ} → x ≡ after img p → e ≤ x → r ≡ within p end z → Reaches img t N s₀ s R d l st end want r
    unfolding gen_stmts_lem
    rest_last f b q = record {
      leads = λ a w h.
          let k = subst (λ (x : Step). Found (told img want) (gen_stmt_lem (rules_of R) (contract_at img) (stmt_at_lem d img x.place) (scope_in img s) x.st.next) (tally x.st) x.to want a) q h in
          let c : e ≤ after img p = rw f at b in
          record { found = rw (← hp, ← he) (L.all_of a end (rw (next, stmts_none img (stmt_at_lem d img) 65536 (after img p) e c) (found_last (told img want) _ _ (λ z. long_done _) k))) };
      ready = λ w. subst (λ (x : Step). Ready img t N s (vars (stmt_at_lem d img x.place))) (sym q) rest_ready;
      absent = λ a w. absurd (w (ap (λ (x : Step). x.way) q));
    }

pub rest_end : {img t N s₀ : List ℕ} {R : Rules} {d e p₀ : ℕ} {st : St} {want : ℕ} {s : List ℕ} {p l end : ℕ} {z j : St} {r : Step} → Rest img t N s₀ R d e p₀ st want s p z → p₀ ≡ inside img l → e ≡ after img l → e ≤ p
    → r ≡ owned l j → Reaches img t N s₀ s R d l st end want r
unfolding gen_stmts_lem
rest_end {img} {t} {N} {s₀} {R} {d} {e} {p₀} {st} {want} {s} {p} {l} {end} L hp he b q = record {
  leads = λ a w h. absurd (omega (arith, ap (tag_of the_type) (sym (ap (λ (x : Step). x.way) q) ∙ w)));
  ready = λ w. absurd (omega (arith, ap (tag_of the_type) (sym (ap (λ (x : Step). x.way) q) ∙ w)));
  absent = λ a w. record { found = rw (← hp, ← he) (L.all_of a end (rw (stmts_none img (stmt_at_lem d img) 65536 p e b) (found_none _))) };
}

-- Nothing is done behind it.
goes_single : {s r : Tally} {v : Here} {m : Res (Out Here)} → Goes s r v (m >>= λ d. done (here d.scope d.next)) → Goes s r v m
unfolding ◌>>=◌ then done
goes_single {s} {r} {v} {m} g = record {
  on = λ fine o e low.
      let l = length-append o.words [] in
      let h = g.on fine (record { val = o.val; words = o.words ++ [] }) (ap (λ (n : Res (Out Here)). n >>= λ d. done (here d.scope d.next)) e) (omega (arith, low, l)) in
      (h.0, h.1, omega (arith, h.2, l));
}

-- A statement by itself is a List of one.
module _ (img : List ℕ) (d i : ℕ) {x : ℕ} (small : length img ≤ 65536) (here-is : i < length img) (e : x ≡ after img i) (fits : x ≤ length img) where
  alone : stmts_from 65536 (stmt_at_lem d img) img i x ≡ Stmts.more (stmt_at_lem d img i) Stmts.none
  alone =
      let g = goes_on img i (length img) here-is (omega arith) in
      stmts_more img (stmt_at_lem d img) 65536 i x (omega (arith, g, e)) fits (omega (arith, small, fits)) ∙ ap (Stmts.more (stmt_at_lem d img i)) (stmts_none img (stmt_at_lem d img) 65536 (after img i) x (omega (arith, e)))

  pub alone_ready : {t N s : List ℕ} → Ready img t N s (vars (stmt_at_lem d img i)) → Ready img t N s (vars-stmts (stmts_from 65536 (stmt_at_lem d img) img i x))
  unfolding vars-stmts
  alone_ready h = rw alone (fewer h (omega arith))

  pub alone_counted : {R : Rules} {st r : St} {c c' : Sinks} {s s' : List ℕ} → DoesAll R img (stmts_from 65536 (stmt_at_lem d img) img i x) st c s r c' s' → Counted R img d i st s r s'
  unfolding gen_stmts_lem vars-stmts
  alone_counted h =
      let f = h.frame in
      let most = rw alone at f.most in
      record { goes = goes_single (ran_goes (raw (contract_at img)) (rw alone at h.ran)); frame = record { least = f.least; most = omega (arith, most); kept = f.kept } }

-- A statement by its kind.
module _ (img : List ℕ) (d i : ℕ) {k : ℕ} (K : StmtKind) (e : k ≡ kind_at img i) (f : stmt_kind_of k ≡ K) where
  kind_is : stmt_at_lem (suc d) img i ≡ taken K d img i
  unfolding stmt_at_lem
  kind_is = rw (← e, f) refl

  pub kind_ready : {t N s : List ℕ} → Ready img t N s (vars (stmt_at_lem (suc d) img i)) → Ready img t N s (vars (taken K d img i))
  kind_ready h = rw kind_is at h

  pub kind_in : {t N s s' : List ℕ} {R : Rules} {st : St} {end want : ℕ} {r : Step} → Moves img t N s s' R d K i st end want r → Steps img t N s s' R d i st end want r
  kind_in h = record { leads = λ a g. rw kind_is (h.leads a g); ready = h.ready }

pub kind_own : {img t N s : List ℕ} {R : Rules} {d i k : ℕ} {st j : St} {end want : ℕ} {r : Step} → k ≡ kind_at img i → (k ≡ 32 → ⊥) → (k ≡ 33 → ⊥) → (k ≡ 34 → ⊥) → (k ≡ 35 → ⊥) → (k ≡ 36 → ⊥) → (k ≡ 37 → ⊥) → (k ≡ 38 → ⊥)
    → (k ≡ 39 → ⊥) → (k ≡ 40 → ⊥) → (k ≡ 41 → ⊥) → (k ≡ 42 → ⊥) → r ≡ owned i j → Steps img t N s s R d i st end want r
unfolding stmt_as gen_stmt_lem
kind_own {img} {t} {N} {s} {R} {d} {i} {k} e a b c f g h m n o p q z = kind_in img d i sOther e (other k a b c f g h m n o p q) (record {
  leads = λ a h. found_none _;
  ready = λ y. absurd (omega (arith, ap (tag_of the_type) (sym (ap (λ (x : Step). x.way) z) ∙ y)));
})

-- With no depth left there is no word.
silent : {S : Type 0} {f : Open → S} {a : S} (R : Target) (C : Contract) (img : List ℕ) (k p e : ℕ) (s : Scope) (n : ℕ) → Own f a (gen_stmts_lem R C (stmts_from k (stmt_at_lem 0 img) img p e) s n)
unfolding gen_stmts_lem gen_stmt_lem stmts_from stmt_at_lem
silent R C img zero p e s n = own_done _
silent {S} {f} {a} R C img (suc k) p e s n = go (ltb p e) (λ d. silent R C img k (after img p) e d.scope d.next)
  where
    go : (b : Bool) → ((d : Here) → Own f a (gen_stmts_lem R C (stmts_from k (stmt_at_lem 0 img) img (after img p) e) d.scope d.next)) → Own f a (gen_stmts_lem R C (when b (λ _. Stmts.more (Stmt.no-stmt p) (stmts_from k (stmt_at_lem 0 img) img (after img p) e)) Stmts.none) s n)
    go true h = own_then (own_done _) h
    go false h = own_done _

pub record Down (img t N s₀ : List ℕ) (R : Rules) (depth l : ℕ) (st : St) (end want : ℕ) (s : List ℕ) (d : ℕ) (b : Step) : Type 0 where
  pub whole : (a : Spot) → Blocks img s R d b.place b.st b.to want a → Blocks img s₀ R depth l st end want a
  pub ready : Ready img t N s (vars-stmts (body_at (stmt_at_lem d img) img b.place))
  pub long : length s ≡ length s₀

pub down_begin : {img t N s : List ℕ} {R : Rules} {depth l : ℕ} {st : St} {end want : ℕ} {b : Step} → Ready img t N s (vars-stmts (body_at (stmt_at_lem depth img) img l)) → b ≡ entering l end st
    → Down img t N s R depth l st end want s depth b
down_begin {img} {t} {N} {s} {R} {depth} {l} {st} {end} {want} h e = record {
  whole = λ a g. subst (λ (y : Step). Blocks img s R depth y.place y.st y.to want a) e g;
  ready = subst (λ (y : Step). Ready img t N s (vars-stmts (body_at (stmt_at_lem depth img) img y.place))) (sym e) h;
  long = refl;
}

-- Room for the names of the statement that was reached.
pub falls_ready : {img t N s s₁ : List ℕ} {R : Rules} {d l : ℕ} {st : St} {end want e : ℕ} {x : Step} → Reaches img t N s s₁ R d l st end want x → (d ≡ 0 → ⊥) → e ≡ d - 1 → x.way ≡ way.Stmt
    → Ready img t N s₁ (vars (stmt_at_lem (suc e) img x.place))
falls_ready {d = d} {e = e} g z f w = let q : suc e ≡ d = omega (arith, z, f) in rw q (g.ready w)

-- One step down from the List that b leads to, by its statement.
module _ {img t N s s₁ : List ℕ} {R : Rules} {d : ℕ} {b x : Step} {want : ℕ} (g : Reaches img t N s s₁ R d b.place b.st b.to want x) where
  pub falls_absent : {u : Step} {y : St} {p : ℕ} → (x.way ≡ way.Stmt → ⊥) → u ≡ owned p y → Falls img t N s s₁ R d b want u
  falls_absent w e = record { leads = λ a k. g.absent a w; ready = λ q. absurd (omega (arith, ap (tag_of the_type) (sym (ap (λ (x : Step). x.way) e) ∙ q))) }

  pub falls_in : {e : ℕ} {s₂ : List ℕ} {u : Step} → (d ≡ 0 → ⊥) → e ≡ d - 1 → x.way ≡ way.Stmt → Steps img t N s₁ s₂ R e x.place x.st x.to want u → Falls img t N s s₂ R d b want u
  falls_in {e} z f w h = record {
    leads = λ a k. let q : suc e ≡ d = omega (arith, z, f) in g.leads a w (rw q at (h.leads a (rw (← f) at k)));
    ready = λ v. rw (← f) (h.ready v);
  }

module _ {img t N s₀ : List ℕ} {R : Rules} {depth l : ℕ} {st : St} {end want : ℕ} {s : List ℕ} {d : ℕ} {b : Step} (D : Down img t N s₀ R depth l st end want s d b) where
  pub down_end : (a : Spot) → d ≡ 0 → Blocks img s₀ R depth l st end want a
  down_end a z = D.whole a (record { found = rw z (found_own (silent (rules_of R) (contract_at img) img 65536 _ _ _ _)) })

  module _ {s₂ : List ℕ} {u : Step} (f : Falls img t N s s₂ R d b want u) where
    pub down_settled : {e : ℕ} {a : Spot} → e ≡ d - 1 → Ends img s₂ R e want u a → Blocks img s₀ R depth l st end want a
    down_settled {e} {a} g k = D.whole a (f.leads a (rw g at k))

    pub down_go : {e : ℕ} → e ≡ d - 1 → u.way ≡ way.Block → length s₂ ≡ length s → Down img t N s₀ R depth l st end want s₂ e u
    down_go {e} g v m = record { whole = λ a k. D.whole a (f.leads a (rw g at (block v k))); ready = rw g (f.ready v); long = m ∙ D.long }
