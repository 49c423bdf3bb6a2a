-- Statements of a checked image: read whole, in six bytes a record or more, each Let and For counted, their accesses apart.
-- Assumes nothing.
use Rattle.std.specs.Prelude.{◌≡◌, Bool, List}
use Rattle.std.proofs.Math.Path.{refl, subst}
use Rattle.std.proofs.Common.{sym, ap, arith, lt-ltb, le-ltb}
use Prim.Native.Nat.{ℕ, zero, suc, ◌+◌, ◌-◌, ◌*◌, ◌≤◌, ◌<◌}
use Rattle.std.proofs.Math.ListN.{length}
use Rattle.rules.specs.Seen.{Sound}
use Rattle.rules.specs.Bytes.{pick, kind_at, inside, after}
use Rattle.rules.specs.Grammar as due
use Rattle.rules.specs.Grammar.{classes, class_of, statements, parts_of, part_of, due_at}
use Rattle.rules.specs.Check.{counts, vars_in_lem, start_of, record_of}
use Rattle.rules.specs.Tree.{Stmt, Stmts, Contract}
use Rattle.rules.specs.Types.{Typ, Env, with_name}
use Rattle.rules.specs.Analyse as analysis
use Rattle.rules.specs.Meant.{of_stmt, of_stmts}
use Rattle.rules.specs.Read.{when, second, third, fourth, fifth, expr_at, stmt_kind_of, stmts_from, body_at, else_at, stmt_as, stmt_at_lem}
use Rattle.bounds.specs.Sizes.{nodes-stmt, nodes-stmts, vars, vars-stmts}
use Rattle.bounds.specs.Sound.{Run, no_more, one_more, Stands, none_left, stands}
use Rattle.bounds.specs.Whole.{Complete, WholeStmt, WholeStmts}
use Rattle.bounds.specs.Sparse.{Sparse, sparse_none, sparse_in, sparse_then, sparse_behind}
use Rattle.bounds.specs.Runs.{Part, part_due, no_part, vars_grow, name_part, of_kind, run_reads}
use Rattle.bounds.specs.Exprs as exprs
use Rattle.bounds.specs.Exprs.{expr_part}
use Rattle.bounds.specs.Stmts.{Eleven, GoodStmt, GoodStmts, Level, e_assign, e_constrain, e_emit, e_expr, e_for, e_if, e_let, e_mapping, e_return, e_storage, e_while}

-- At the end of a List there is no statement more, before it there is one.
stmts_end : (k : ℕ) (f : ℕ → Stmt) (img : List ℕ) (p e : ℕ) → p ≡ e → stmts_from k f img p e ≡ Stmts.none
unfolding stmts_from
stmts_end zero f img p e h = refl
stmts_end (suc k) f img p e h = ap (λ (b : Bool). when b (λ _. Stmts.more (f p) (stmts_from k f img (after img p) e)) Stmts.none) (le-ltb p e (omega arith))

stmts_more : (k : ℕ) (f : ℕ → Stmt) (img : List ℕ) (p e : ℕ) → p < e → stmts_from (suc k) f img p e ≡ Stmts.more (f p) (stmts_from k f img (after img p) e)
unfolding stmts_from
stmts_more k f img p e h = ap (λ (b : Bool). when b (λ _. Stmts.more (f p) (stmts_from k f img (after img p) e)) Stmts.none) (lt-ltb p e h)

-- A List of statements has no bound of its own.
statements_most : (d : ℕ) → (class_of d).item ≡ due.Statement → (class_of (class_of d).item).most ≤ 65536
unfolding class_of classes
statements_most d e = subst (λ z. (class_of z).most ≤ 65536) (sym e) (omega arith)

-- The statements of a List, its records from the i-th on.
stmts_run : (l : ℕ) (img : List ℕ) (D : ℕ) → l ≤ D → Level img l → (end d fuel i p v m : ℕ) → end ≤ length img → (class_of d).item ≡ due.Statement → 65536 ≤ fuel + i
    → Run l img end d 2 i p v m → GoodStmts img p end v m (stmts_from fuel (stmt_at_lem D img) img p end)
unfolding due_at pick class_of classes nodes-stmts WholeStmts vars-stmts of_stmts
stmts_run l img D g L end d fuel i p v m h t b (no_more e n c) =
    subst (GoodStmts img p end v m) (sym (stmts_end fuel (stmt_at_lem D img) img p end e)) (record { small = omega arith; whole = tt; count = omega arith; marks = λ C ret Γ. sparse_none img p end })
stmts_run zero img D g L end d zero i p v m h t b (one_more n s z o e r) = none_left img p end _ i v (after img p) n e
stmts_run (suc l) img D g L end d zero i p v m h t b (one_more n s z o e r) =
    absurd (let w = stands l img p end due.Statement i v (after img p) n h (subst (λ x. record_of (suc l) img p end x i v ≡ Sound (after img p) n) t e) in omega (arith, w.room))
stmts_run l img D g L end d (suc fuel) i p v m h t b (one_more n s z o e r) =
    let a = L.stmt D g p end i v (after img p) n h (subst (λ x. record_of l img p end x i v ≡ Sound (after img p) n) t e) in
    let y = stmts_run l img D g L end d fuel (i + 1) (after img p) n m h t (omega arith) r in
    subst (GoodStmts img p end v m) (sym (stmts_more fuel (stmt_at_lem D img) img p end s)) (record {
      small = omega (arith, a.small, y.small);
      whole = (a.whole, y.whole);
      count = omega (arith, a.count, y.count);
      marks = λ C ret Γ. sparse_then (omega (arith, a.small)) (omega (arith, y.small)) (a.marks C ret Γ) (sparse_behind img (after img p) end (analysis.stmt C ret (stmt_at_lem D img p) Γ) _ (λ Δ. y.marks C ret Δ));
    })

eleven_by : (j : ℕ) → j ≤ 10 → Eleven (32 + j)
eleven_by zero h = e_let
eleven_by (suc zero) h = e_constrain
eleven_by (suc (suc zero)) h = e_assign
eleven_by (suc (suc (suc zero))) h = e_storage
eleven_by (suc (suc (suc (suc zero)))) h = e_mapping
eleven_by (suc (suc (suc (suc (suc zero))))) h = e_if
eleven_by (suc (suc (suc (suc (suc (suc zero)))))) h = e_while
eleven_by (suc (suc (suc (suc (suc (suc (suc zero))))))) h = e_for
eleven_by (suc (suc (suc (suc (suc (suc (suc (suc zero)))))))) h = e_return
eleven_by (suc (suc (suc (suc (suc (suc (suc (suc (suc zero))))))))) h = e_emit
eleven_by (suc (suc (suc (suc (suc (suc (suc (suc (suc (suc zero)))))))))) h = e_expr
eleven_by (suc (suc (suc (suc (suc (suc (suc (suc (suc (suc (suc j))))))))))) h = absurd (omega arith)

-- There are no others.
eleven : (k : ℕ) → 32 ≤ k → k ≤ 42 → Eleven k
eleven k a b = subst Eleven (omega arith) (eleven_by (k - 32) (omega arith))

module _ (l : ℕ) (img : List ℕ) (L : Level img l) where
  -- A List of statements.
  stmts_step : (D : ℕ) → suc l ≤ D → (at end d i v q m : ℕ) → end ≤ length img → (class_of d).low ≡ 2 → (class_of d).high ≡ 2 → (class_of d).item ≡ due.Statement
      → record_of (suc l) img at end d i v ≡ Sound q m → Complete 65536 img at × GoodStmts img (at + 6) (after img at) v m (body_at (stmt_at_lem D img) img at)
  unfolding start_of pick
  stmts_step D g at end d i v q m h lo hi it e =
      let w = stands l img at end d i v q m h e in
      let k : kind_at img at ≡ 2 = omega (arith, w.low, w.high) in
      let r = of_kind l img at end d i v m 2 k w in
      let f : after img at ≤ length img = omega (arith, w.within) in
      let t = stmts_run l img D (omega arith) L (after img at) d 65536 0 (inside img at) (vars_in_lem d 2 v) m f it (omega arith) r in (
        run_reads l img (after img at) d 65536 0 (inside img at) (vars_in_lem d 2 v) m f (omega (arith, statements_most d it)) r,
        record { small = omega (arith, t.small, w.payload); whole = t.whole; count = omega (arith, t.count, vars_grow d 2 v refl); marks = λ C ret Γ. sparse_in (omega (arith, w.payload)) (omega arith) (t.marks C ret Γ) },
      )

  -- A body as a part, and what stands behind it.
  pub body_part : (D : ℕ) → l ≤ D → (end d k j p n m : ℕ) → end ≤ length img → due_at d k j ≡ due.Body → Run l img end d k j p n m
      → (a : Part l img end d k j p n m) × Complete 65536 img p × GoodStmts img (p + 6) (after img p) n a.counted (body_at (stmt_at_lem D img) img p)
  unfolding pick class_of classes
  body_part D g end d k j p n m h e r =
      let a = part_due l img end d k j p n m (ap (λ z. (class_of z).must) e) r in
      let b = L.stmts D g p end due.Body j n (after img p) a.counted h refl refl refl (subst (λ z. record_of l img p end z j n ≡ Sound (after img p) a.counted) e a.sound) in
      (a, b.0, b.1)

  -- The else of an If, if there is one.
  record GoodElse (p e v m : ℕ) (xs : Stmts) : Type 0 where
    small : p + 6 * nodes-stmts xs ≤ e
    complete : p < e → Complete 65536 img p
    whole : WholeStmts img xs
    count : v + vars-stmts xs ≤ m
    marks : (C : Contract) (ret : Typ) (Γ : Env) → Sparse img p e (of_stmts C ret xs Γ)

  else_part : (D : ℕ) → l ≤ D → (end p n m : ℕ) → end ≤ length img → Run l img end due.Statement 37 2 p n m → GoodElse p end n m (else_at (stmt_at_lem D img) img p end)
  unfolding else_at due_at part_of parts_of statements pick class_of classes nodes-stmts WholeStmts vars-stmts of_stmts
  else_part D g end p n m h (no_more e x c) =
      subst (λ (b : Bool). GoodElse p end n m (when b (λ _. body_at (stmt_at_lem D img) img p) Stmts.none)) (sym (le-ltb p end (omega arith)))
      (record { small = omega arith; complete = λ t. absurd (omega arith); whole = tt; count = omega arith; marks = λ C ret Γ. sparse_none img p end })
  else_part D g end p n m h (one_more c s z o e r) =
      let b = L.stmts D g p end due.Else 2 n (after img p) c h refl refl refl e in
      let y = no_part l img end due.Statement 37 3 (after img p) c m refl r in
      let t = b.1 in
      subst (λ (b : Bool). GoodElse p end n m (when b (λ _. body_at (stmt_at_lem D img) img p) Stmts.none)) (sym (lt-ltb p end s))
      (record { small = omega (arith, t.small); complete = λ _. b.0; whole = t.whole; count = omega (arith, t.count, y.1); marks = λ C ret Γ. sparse_in (omega arith) o (t.marks C ret Γ) })

  -- The value of a Return, if there is one.
  return_part : (D : ℕ) → l ≤ D → exprs.Level img l → (at v m : ℕ) → after img at ≤ length img → inside img at ≡ at + 6 → Run l img (after img at) due.Statement 40 0 (inside img at) v m
      → GoodStmt img at (after img at) v m (stmt_as (stmt_kind_of 40) (expr_at D img) (stmt_at_lem D img) img at)
  unfolding stmt_kind_of stmt_as due_at part_of parts_of statements pick class_of classes nodes-stmt WholeStmt vars of_stmt
  return_part D g E at v m h o (no_more e x c) =
      subst (λ (b : Bool). GoodStmt img at (after img at) v m (when b (λ _. Stmt.return at (expr_at D img (inside img at))) (Stmt.return-none at))) (sym (le-ltb (inside img at) (after img at) (omega arith)))
      (record { small = omega arith; whole = omega arith; count = omega arith; marks = λ C ret Γ. sparse_none img at (after img at) })
  return_part D g E at v m h o (one_more c s z f e r) =
      let t = E.expr D g (inside img at) (after img at) due.Returned 0 v (after img (inside img at)) c h refl refl e in
      let y = no_part l img (after img at) due.Statement 40 1 (second img at) c m refl r in
      subst (λ (b : Bool). GoodStmt img at (after img at) v m (when b (λ _. Stmt.return at (expr_at D img (inside img at))) (Stmt.return-none at))) (sym (lt-ltb (inside img at) (after img at) s))
      (record { small = omega (arith, t.small); whole = (omega (arith, t.small), t.whole); count = omega (arith, t.count, y.1); marks = λ C ret Γ. sparse_in (omega arith) f (t.marks C Γ) })

  -- A statement, by its kind.
  module _ (E : exprs.Level img l) (D : ℕ) (g : l ≤ D) (at end i v m : ℕ) (h : end ≤ length img) (w : Stands l img at end due.Statement i v m) where
    by_kind : (k : ℕ) → kind_at img at ≡ k → Eleven k → GoodStmt img at (after img at) v m (stmt_as (stmt_kind_of k) (expr_at D img) (stmt_at_lem D img) img at)
    unfolding stmt_kind_of stmt_as pick start_of class_of classes due_at part_of parts_of statements nodes-stmt WholeStmt vars vars_in_lem counts of_stmt
    by_kind k e e_let =
        let f : after img at ≤ length img = omega (arith, w.within) in
        let r = of_kind l img at end due.Statement i v m 32 e w in
        let (a, x, y, short) = name_part l img (after img at) due.Statement 32 0 (inside img at) (v + 1) m f refl r in
        let (b, t) = expr_part l img E D g (after img at) due.Statement 32 1 (second img at) a.counted m f refl a.next in
        let z = no_part l img (after img at) due.Statement 32 2 (third img at) b.counted m refl b.next in
        record { small = omega (arith, w.payload, x, t.small, b.within); whole = (record { here = omega (arith, w.own, f); short = short; own = refl }, t.whole); count = omega (arith, y, t.count, z.1); marks = λ C ret Γ. sparse_in (omega (arith, w.payload, x)) b.within (t.marks C Γ) }
    by_kind k e e_constrain =
        let f : after img at ≤ length img = omega (arith, w.within) in
        let r = of_kind l img at end due.Statement i v m 33 e w in
        let (b, t) = expr_part l img E D g (after img at) due.Statement 33 0 (inside img at) v m f refl r in
        let z = no_part l img (after img at) due.Statement 33 1 (second img at) b.counted m refl b.next in
        record { small = omega (arith, w.payload, t.small, b.within); whole = (omega (arith, w.own, f), t.whole); count = omega (arith, t.count, z.1); marks = λ C ret Γ. sparse_in (omega (arith, w.payload)) b.within (t.marks C Γ) }
    by_kind k e e_assign =
        let f : after img at ≤ length img = omega (arith, w.within) in
        let r = of_kind l img at end due.Statement i v m 34 e w in
        let (a, x, y, short) = name_part l img (after img at) due.Statement 34 0 (inside img at) v m f refl r in
        let (b, t) = expr_part l img E D g (after img at) due.Statement 34 1 (second img at) a.counted m f refl a.next in
        let z = no_part l img (after img at) due.Statement 34 2 (third img at) b.counted m refl b.next in
        record { small = omega (arith, w.payload, x, t.small, b.within); whole = (record { here = omega (arith, w.own, f); short = short; own = refl }, t.whole); count = omega (arith, y, t.count, z.1); marks = λ C ret Γ. sparse_in (omega (arith, w.payload, x)) b.within (t.marks C Γ) }
    by_kind k e e_storage =
        let f : after img at ≤ length img = omega (arith, w.within) in
        let r = of_kind l img at end due.Statement i v m 35 e w in
        let (a, x, y, short) = name_part l img (after img at) due.Statement 35 0 (inside img at) v m f refl r in
        let (b, t) = expr_part l img E D g (after img at) due.Statement 35 1 (second img at) a.counted m f refl a.next in
        let z = no_part l img (after img at) due.Statement 35 2 (third img at) b.counted m refl b.next in
        record { small = omega (arith, w.payload, x, t.small, b.within); whole = (record { here = omega (arith, w.own, f); short = short; own = refl }, t.whole); count = omega (arith, y, t.count, z.1); marks = λ C ret Γ. sparse_in (omega (arith, w.payload, x)) b.within (t.marks C Γ) }
    by_kind k e e_mapping =
        let f : after img at ≤ length img = omega (arith, w.within) in
        let r = of_kind l img at end due.Statement i v m 36 e w in
        let (a, x, y, short) = name_part l img (after img at) due.Statement 36 0 (inside img at) v m f refl r in
        let (b, t) = expr_part l img E D g (after img at) due.Statement 36 1 (second img at) a.counted m f refl a.next in
        let (c, u) = expr_part l img E D g (after img at) due.Statement 36 2 (third img at) b.counted m f refl b.next in
        let z = no_part l img (after img at) due.Statement 36 3 (fourth img at) c.counted m refl c.next in
        record {
          small = omega (arith, w.payload, x, t.small, u.small, c.within);
          whole = (record { here = omega (arith, w.own, f); short = short; own = refl }, t.whole, u.whole);
          count = omega (arith, y, t.count, u.count, z.1);
          marks = λ C ret Γ. sparse_then {q = third img at} (omega (arith, w.payload, x, t.small)) (omega (arith, u.small, c.within))
              (sparse_in (omega (arith, w.payload, x)) (omega arith) (t.marks C Γ)) (sparse_in (omega arith) c.within (u.marks C Γ));
        }
    by_kind k e e_if =
        let f : after img at ≤ length img = omega (arith, w.within) in
        let r = of_kind l img at end due.Statement i v m 37 e w in
        let (a, t) = expr_part l img E D g (after img at) due.Statement 37 0 (inside img at) v m f refl r in
        let (b, c, u) = body_part D g (after img at) due.Statement 37 1 (second img at) a.counted m f refl a.next in
        let x = else_part D g (after img at) (third img at) b.counted m f b.next in
        record {
          small = omega (arith, w.payload, t.small, u.small, x.small);
          whole = (omega (arith, w.own, f), t.whole, c, u.whole, x.complete, x.whole);
          count = omega (arith, t.count, u.count, x.count);
          marks = λ C ret Γ. sparse_then {q = second img at} (omega (arith, w.payload, t.small)) (omega (arith, u.small, x.small)) (sparse_in (omega (arith, w.payload)) (omega arith) (t.marks C Γ))
              (sparse_then {q = third img at} (omega (arith, u.small)) (omega (arith, x.small)) (sparse_in (omega arith) (omega arith) (u.marks C ret Γ))
              (sparse_behind img (third img at) (after img at) (analysis.stmts C ret (body_at (stmt_at_lem D img) img (second img at)) Γ) _ (λ Δ. x.marks C ret Δ)));
        }
    by_kind k e e_while =
        let f : after img at ≤ length img = omega (arith, w.within) in
        let r = of_kind l img at end due.Statement i v m 38 e w in
        let (a, t) = expr_part l img E D g (after img at) due.Statement 38 0 (inside img at) v m f refl r in
        let (b, c, u) = body_part D g (after img at) due.Statement 38 1 (second img at) a.counted m f refl a.next in
        let z = no_part l img (after img at) due.Statement 38 2 (third img at) b.counted m refl b.next in
        record {
          small = omega (arith, w.payload, t.small, u.small, b.within);
          whole = (omega (arith, w.own, f), t.whole, c, u.whole);
          count = omega (arith, t.count, u.count, z.1);
          marks = λ C ret Γ. sparse_then {q = second img at} (omega (arith, w.payload, t.small)) (omega (arith, u.small, b.within))
              (sparse_in (omega (arith, w.payload)) (omega arith) (t.marks C Γ)) (sparse_in (omega arith) b.within (u.marks C ret Γ));
        }
    by_kind k e e_for =
        let f : after img at ≤ length img = omega (arith, w.within) in
        let r = of_kind l img at end due.Statement i v m 39 e w in
        let (a, x, y, short) = name_part l img (after img at) due.Statement 39 0 (inside img at) (v + 1) m f refl r in
        let (b, t) = expr_part l img E D g (after img at) due.Statement 39 1 (second img at) a.counted m f refl a.next in
        let (c, u) = expr_part l img E D g (after img at) due.Statement 39 2 (third img at) b.counted m f refl b.next in
        let (o, p, s) = body_part D g (after img at) due.Statement 39 3 (fourth img at) c.counted m f refl c.next in
        let z = no_part l img (after img at) due.Statement 39 4 (fifth img at) o.counted m refl o.next in
        record {
          small = omega (arith, w.payload, x, t.small, u.small, s.small, o.within);
          whole = (record { here = omega (arith, w.own, f); short = short; own = refl }, t.whole, u.whole, p, s.whole);
          count = omega (arith, y, t.count, u.count, s.count, z.1);
          marks = λ C ret Γ. sparse_then {q = third img at} (omega (arith, w.payload, x, t.small)) (omega (arith, u.small, s.small, o.within)) (sparse_in (omega (arith, w.payload, x)) (omega arith) (t.marks C Γ))
              (sparse_then {q = fourth img at} (omega (arith, u.small)) (omega (arith, s.small, o.within)) (u.marks C Γ) (sparse_in (omega arith) o.within (s.marks C ret (with_name _ Typ.u64 Γ))));
        }
    by_kind k e e_return =
        let f : after img at ≤ length img = omega (arith, w.within) in
        return_part D g E at v m f w.payload (of_kind l img at end due.Statement i v m 40 e w)
    by_kind k e e_emit =
        let f : after img at ≤ length img = omega (arith, w.within) in
        let r = of_kind l img at end due.Statement i v m 41 e w in
        let (a, x, y, short) = name_part l img (after img at) due.Statement 41 0 (inside img at) v m f refl r in
        let b = part_due l img (after img at) due.Statement 41 1 (second img at) a.counted m refl a.next in
        let (c, t) = E.exprs D g 65536 (second img at) (after img at) due.Emitted 1 a.counted _ b.counted f refl refl refl refl (omega arith) b.sound in
        let z = no_part l img (after img at) due.Statement 41 2 (third img at) b.counted m refl b.next in
        record { small = omega (arith, w.payload, x, t.small, b.within); whole = (omega (arith, w.own, f), c, t.whole); count = omega (arith, y, t.count, z.1); marks = λ C ret Γ. sparse_in (omega (arith, w.payload, x)) b.within (t.marks C Γ) }
    by_kind k e e_expr =
        let f : after img at ≤ length img = omega (arith, w.within) in
        let r = of_kind l img at end due.Statement i v m 42 e w in
        let (b, t) = expr_part l img E D g (after img at) due.Statement 42 0 (inside img at) v m f refl r in
        let z = no_part l img (after img at) due.Statement 42 1 (second img at) b.counted m refl b.next in
        record { small = omega (arith, w.payload, t.small, b.within); whole = (omega (arith, w.own, f), t.whole); count = omega (arith, t.count, z.1); marks = λ C ret Γ. sparse_in (omega (arith, w.payload)) b.within (t.marks C Γ) }

  stmt_step : exprs.Level img l → (D : ℕ) → suc l ≤ D → (at end i v q m : ℕ) → end ≤ length img → record_of (suc l) img at end due.Statement i v ≡ Sound q m → GoodStmt img at (after img at) v m (stmt_at_lem D img at)
  unfolding stmt_at_lem class_of classes
  stmt_step E zero g at end i v q m h e = absurd (omega arith)
  stmt_step E (suc D) g at end i v q m h e =
      let w = stands l img at end due.Statement i v q m h e in
      by_kind E D (omega arith) at end i v m h w (kind_at img at) refl (eleven (kind_at img at) (omega (arith, w.low)) (omega (arith, w.high)))

-- Every statement of a checked image.
pub level : (img : List ℕ) (l : ℕ) → Level img l
level img zero = record {
  stmt = λ D g at end i v q m h e. none_left img at end due.Statement i v q m e;
  stmts = λ D g at end d i v q m h lo hi it e. none_left img at end d i v q m e;
}
level img (suc l) = let L = level img l in record { stmt = stmt_step l img L (exprs.level img l); stmts = stmts_step l img L }
