-- Expressions of a checked image: read whole, in six bytes a record or more, with no name declared, their accesses apart.
-- Assumes nothing.
use Rattle.std.specs.Prelude.{◌≡◌, Bool, List}
use Rattle.std.proofs.Math.Path.{refl}
use Rattle.std.proofs.Common.{sym, subst, ap, arith, lt-ltb, le-ltb}
use Prim.Native.Nat.{ℕ, zero, suc, ◌+◌, ◌-◌, ◌*◌, ◌≤◌, ◌<◌}
use Rattle.std.proofs.Math.ListN.{length}
use Rattle.rules.specs.Seen.{Sound}
use Rattle.rules.specs.Bytes.{pick, kind_at, inside, after, name_at}
use Rattle.rules.specs.Grammar as due
use Rattle.rules.specs.Grammar.{classes, class_of, records, expressions, parts_of, part_of, due_at}
use Rattle.rules.specs.Check.{vars_in_lem, start_of, record_of}
use Rattle.rules.specs.Tree.{Expr, Exprs, Inits, Contract}
use Rattle.rules.specs.Types.{Env}
use Rattle.rules.specs.Analyse as analysis
use Rattle.rules.specs.Meant.{of_expr, of_exprs, of_inits}
use Rattle.rules.specs.Read.{when, second, third, name_in, kind_of, exprs_from, inits_from, expr_as, expr_at}
use Rattle.bounds.specs.Sizes.{nodes, nodes-exprs, nodes-inits}
use Rattle.bounds.specs.Sound.{Run, no_more, one_more, Stands, none_left, stands}
use Rattle.bounds.specs.Whole.{Named, Complete, Whole, WholeExprs, WholeInits}
use Rattle.bounds.specs.Sparse.{Sparse, sparse_none, sparse_in, sparse_then, sparse_access}
use Rattle.bounds.specs.Runs.{Part, part_due, no_part, vars_grow, name_part, op_part, of_kind, run_reads}

module _ (img : List ℕ) where
  -- What is shown of an expression from p to e, the count going from v to m.
  pub record Good (p e v m : ℕ) (x : Expr) : Type 0 where
    pub small : p + 6 * nodes x ≤ e
    pub whole : Whole img x
    pub count : v ≤ m
    pub marks : (C : Contract) (Γ : Env) → Sparse img p e (of_expr C x Γ)

  -- Of several.
  pub record Goods (p e v m : ℕ) (xs : Exprs) : Type 0 where
    pub small : p + 6 * nodes-exprs xs ≤ e
    pub whole : WholeExprs img xs
    pub count : v ≤ m
    pub marks : (C : Contract) (Γ : Env) → Sparse img p e (of_exprs C xs Γ)

  -- Of Inits.
  pub record GoodInits (p e v m : ℕ) (is : Inits) : Type 0 where
    pub small : p + 6 * nodes-inits is ≤ e
    pub whole : WholeInits img is
    pub count : v ≤ m
    pub marks : (C : Contract) (Γ : Env) → Sparse img p e (of_inits C is Γ)

  -- With l levels left: an expression, a List of them, an Init, a List of those. The reader goes no less deep than the check.
  pub record Level (l : ℕ) : Type 0 where
    pub expr : (D : ℕ) → l ≤ D → (at end d i v q m : ℕ) → end ≤ length img → (class_of d).low ≡ 64 → (class_of d).high ≡ 71
        → record_of l img at end d i v ≡ Sound q m → Good at (after img at) v m (expr_at D img at)
    pub exprs : (D : ℕ) → l ≤ D → (B at end d i v q m : ℕ) → end ≤ length img → (class_of d).low ≡ 2 → (class_of d).high ≡ 2
        → (class_of (class_of d).item).low ≡ 64 → (class_of (class_of d).item).high ≡ 71 → (class_of (class_of d).item).most ≤ B
        → record_of l img at end d i v ≡ Sound q m
        → Complete B img at × Goods (at + 6) (after img at) v m (exprs_from B (expr_at D img) img (inside img at) (after img at))
    pub init : (D : ℕ) → l ≤ D → (at end i v q m : ℕ) → end ≤ length img → record_of l img at end due.Init i v ≡ Sound q m
        → Named img at (name_in img at) × Good at (after img at) v m (expr_at D img (second img at))
    pub inits : (D : ℕ) → l ≤ D → (at end i v q m : ℕ) → end ≤ length img → record_of l img at end due.Inits i v ≡ Sound q m
        → Complete 64 img at × GoodInits (at + 6) (after img at) v m (inits_from 64 (expr_at D img) img (inside img at) (after img at))

-- At the end of a List there is no expression more, before it there is one.
exprs_end : (k : ℕ) (f : ℕ → Expr) (img : List ℕ) (p e : ℕ) → p ≡ e → exprs_from k f img p e ≡ Exprs.none
unfolding exprs_from
exprs_end zero f img p e h = refl
exprs_end (suc k) f img p e h = ap (λ (b : Bool). when b (λ _. Exprs.more (f p) (exprs_from k f img (after img p) e)) Exprs.none) (le-ltb p e (omega arith))

exprs_more : (k : ℕ) (f : ℕ → Expr) (img : List ℕ) (p e : ℕ) → p < e → exprs_from (suc k) f img p e ≡ Exprs.more (f p) (exprs_from k f img (after img p) e)
unfolding exprs_from
exprs_more k f img p e h = ap (λ (b : Bool). when b (λ _. Exprs.more (f p) (exprs_from k f img (after img p) e)) Exprs.none) (lt-ltb p e h)

-- The same of Inits.
inits_end : (k : ℕ) (f : ℕ → Expr) (img : List ℕ) (p e : ℕ) → p ≡ e → inits_from k f img p e ≡ Inits.no-init
unfolding inits_from
inits_end zero f img p e h = refl
inits_end (suc k) f img p e h =
    ap (λ (b : Bool). when b (λ _. Inits.init p (name_in img p) (f (second img p)) (inits_from k f img (after img p) e)) Inits.no-init) (le-ltb p e (omega arith))

inits_more : (k : ℕ) (f : ℕ → Expr) (img : List ℕ) (p e : ℕ) → p < e → inits_from (suc k) f img p e ≡ Inits.init p (name_in img p) (f (second img p)) (inits_from k f img (after img p) e)
unfolding inits_from
inits_more k f img p e h =
    ap (λ (b : Bool). when b (λ _. Inits.init p (name_in img p) (f (second img p)) (inits_from k f img (after img p) e)) Inits.no-init) (lt-ltb p e h)

-- The expressions of a List, its records from the i-th on.
exprs_run : (l : ℕ) (img : List ℕ) (D : ℕ) → l ≤ D → Level img l → (end d fuel i p v m : ℕ) → end ≤ length img
    → (class_of (class_of d).item).low ≡ 64 → (class_of (class_of d).item).high ≡ 71 → (class_of (class_of d).item).most ≤ fuel + i
    → Run l img end d 2 i p v m → Goods img p end v m (exprs_from fuel (expr_at D img) img p end)
unfolding due_at pick nodes-exprs WholeExprs of_exprs
exprs_run l img D g L end d fuel i p v m h lo hi b (no_more e n c) =
    subst (Goods img p end v m) (sym (exprs_end fuel (expr_at D img) img p end e)) (record { small = omega arith; whole = tt; count = omega arith; marks = λ C Γ. sparse_none img p end })
exprs_run zero img D g L end d zero i p v m h lo hi b (one_more n s z o e r) = none_left img p end _ i v (after img p) n e
exprs_run (suc l) img D g L end d zero i p v m h lo hi b (one_more n s z o e r) = absurd (let w = stands l img p end _ i v (after img p) n h e in omega (arith, w.room))
exprs_run l img D g L end d (suc fuel) i p v m h lo hi b (one_more n s z o e r) =
    let a = L.expr D g p end _ i v (after img p) n h lo hi e in
    let t = exprs_run l img D g L end d fuel (i + 1) (after img p) n m h lo hi (omega arith) r in
    subst (Goods img p end v m) (sym (exprs_more fuel (expr_at D img) img p end s)) (record {
      small = omega (arith, a.small, t.small);
      whole = (a.whole, t.whole);
      count = omega (arith, a.count, t.count);
      marks = λ C Γ. sparse_then (omega (arith, a.small)) (omega (arith, t.small)) (a.marks C Γ) (t.marks C Γ);
    })

-- The Inits of a List.
inits_run : (l : ℕ) (img : List ℕ) (D : ℕ) → l ≤ D → Level img l → (end fuel i p v m : ℕ) → end ≤ length img → 64 ≤ fuel + i
    → Run l img end due.Inits 2 i p v m → GoodInits img p end v m (inits_from fuel (expr_at D img) img p end)
unfolding due_at pick class_of classes nodes-inits WholeInits of_inits
inits_run l img D g L end fuel i p v m h b (no_more e n c) =
    subst (GoodInits img p end v m) (sym (inits_end fuel (expr_at D img) img p end e)) (record { small = omega arith; whole = tt; count = omega arith; marks = λ C Γ. sparse_none img p end })
inits_run zero img D g L end zero i p v m h b (one_more n s z o e r) = none_left img p end _ i v (after img p) n e
inits_run (suc l) img D g L end zero i p v m h b (one_more n s z o e r) = absurd (let w = stands l img p end _ i v (after img p) n h e in omega (arith, w.room))
inits_run l img D g L end (suc fuel) i p v m h b (one_more n s z o e r) =
    let (own, a) = L.init D g p end i v (after img p) n h e in
    let t = inits_run l img D g L end fuel (i + 1) (after img p) n m h (omega arith) r in
    subst (GoodInits img p end v m) (sym (inits_more fuel (expr_at D img) img p end s)) (record {
      small = omega (arith, a.small, t.small);
      whole = (own, a.whole, t.whole);
      count = omega (arith, a.count, t.count);
      marks = λ C Γ. sparse_then (omega (arith, a.small)) (omega (arith, t.small)) (a.marks C Γ) (t.marks C Γ);
    })

-- 01: kinds 64 to 71.
data Eight : ℕ → Type 0 where
  e_int : Eight 64
  e_ident : Eight 65
  e_storage : Eight 66
  e_mapping : Eight 67
  e_access : Eight 68
  e_literal : Eight 69
  e_binary : Eight 70
  e_call : Eight 71

eight_by : (j : ℕ) → j ≤ 7 → Eight (64 + j)
eight_by zero h = e_int
eight_by (suc zero) h = e_ident
eight_by (suc (suc zero)) h = e_storage
eight_by (suc (suc (suc zero))) h = e_mapping
eight_by (suc (suc (suc (suc zero)))) h = e_access
eight_by (suc (suc (suc (suc (suc zero))))) h = e_literal
eight_by (suc (suc (suc (suc (suc (suc zero)))))) h = e_binary
eight_by (suc (suc (suc (suc (suc (suc (suc zero))))))) h = e_call
eight_by (suc (suc (suc (suc (suc (suc (suc (suc j)))))))) h = absurd (omega arith)

-- There are no others.
eight : (k : ℕ) → 64 ≤ k → k ≤ 71 → Eight k
eight k a b = subst Eight (omega arith) (eight_by (k - 64) (omega arith))

module _ (l : ℕ) (img : List ℕ) (L : Level img l) where
  -- A List of expressions.
  exprs_step : (D : ℕ) → suc l ≤ D → (B at end d i v q m : ℕ) → end ≤ length img → (class_of d).low ≡ 2 → (class_of d).high ≡ 2
      → (class_of (class_of d).item).low ≡ 64 → (class_of (class_of d).item).high ≡ 71 → (class_of (class_of d).item).most ≤ B
      → record_of (suc l) img at end d i v ≡ Sound q m
      → Complete B img at × Goods img (at + 6) (after img at) v m (exprs_from B (expr_at D img) img (inside img at) (after img at))
  unfolding start_of pick
  exprs_step D g B at end d i v q m h lo hi ilo ihi b e =
      let w = stands l img at end d i v q m h e in
      let k : kind_at img at ≡ 2 = omega (arith, w.low, w.high) in
      let r = of_kind l img at end d i v m 2 k w in
      let f : after img at ≤ length img = omega (arith, w.within) in
      let t = exprs_run l img D (omega arith) L (after img at) d B 0 (inside img at) (vars_in_lem d 2 v) m f ilo ihi (omega arith) r in (
        run_reads l img (after img at) d B 0 (inside img at) (vars_in_lem d 2 v) m f (omega arith) r,
        record { small = omega (arith, t.small, w.payload); whole = t.whole; count = omega (arith, t.count, vars_grow d 2 v refl); marks = λ C Γ. sparse_in (omega (arith, w.payload)) (omega arith) (t.marks C Γ) },
      )

  -- A List of Inits.
  inits_step : (D : ℕ) → suc l ≤ D → (at end i v q m : ℕ) → end ≤ length img → record_of (suc l) img at end due.Inits i v ≡ Sound q m
      → Complete 64 img at × GoodInits img (at + 6) (after img at) v m (inits_from 64 (expr_at D img) img (inside img at) (after img at))
  unfolding start_of pick class_of classes
  inits_step D g at end i v q m h e =
      let w = stands l img at end due.Inits i v q m h e in
      let k : kind_at img at ≡ 2 = omega (arith, w.low, w.high) in
      let r = of_kind l img at end due.Inits i v m 2 k w in
      let f : after img at ≤ length img = omega (arith, w.within) in
      let t = inits_run l img D (omega arith) L (after img at) 64 0 (inside img at) (vars_in_lem due.Inits 2 v) m f (omega arith) r in (
        run_reads l img (after img at) due.Inits 64 0 (inside img at) (vars_in_lem due.Inits 2 v) m f (omega arith) r,
        record { small = omega (arith, t.small, w.payload); whole = t.whole; count = omega (arith, t.count, vars_grow due.Inits 2 v refl); marks = λ C Γ. sparse_in (omega (arith, w.payload)) (omega arith) (t.marks C Γ) },
      )

  -- An Init: a Name and an expression.
  init_step : (D : ℕ) → suc l ≤ D → (at end i v q m : ℕ) → end ≤ length img → record_of (suc l) img at end due.Init i v ≡ Sound q m
      → Named img at (name_in img at) × Good img at (after img at) v m (expr_at D img (second img at))
  unfolding start_of pick class_of classes due_at part_of parts_of records
  init_step D g at end i v q m h e =
      let w = stands l img at end due.Init i v q m h e in
      let k : kind_at img at ≡ 20 = omega (arith, w.low, w.high) in
      let r = of_kind l img at end due.Init i v m 20 k w in
      let f : after img at ≤ length img = omega (arith, w.within) in
      let (a, x, o, short) = name_part l img (after img at) due.Init 20 0 (inside img at) (vars_in_lem due.Init 20 v) m f refl r in
      let b = part_due l img (after img at) due.Init 20 1 (second img at) a.counted m refl a.next in
      let y = L.expr D (omega arith) (second img at) (after img at) due.Expression 1 a.counted _ b.counted f refl refl b.sound in
      let z = no_part l img (after img at) due.Init 20 2 _ b.counted m refl b.next in (
        record { here = omega (arith, w.own, f); short = short; own = refl },
        record { small = omega (arith, w.payload, x, y.small, b.within); whole = y.whole; count = omega (arith, o, y.count, z.1, vars_grow due.Init 20 v refl); marks = λ C Γ. sparse_in (omega (arith, w.payload, x)) b.within (y.marks C Γ) },
      )

  -- An expression as a part, and what stands behind it.
  pub expr_part : (D : ℕ) → l ≤ D → (end d k j p n m : ℕ) → end ≤ length img → due_at d k j ≡ due.Expression → Run l img end d k j p n m
      → (a : Part l img end d k j p n m) × Good img p (after img p) n a.counted (expr_at D img p)
  unfolding pick class_of classes
  expr_part D g end d k j p n m h e r =
      let a = part_due l img end d k j p n m (ap (λ z. (class_of z).must) e) r in
      (a, L.expr D g p end due.Expression j n (after img p) a.counted h refl refl (subst (λ z. record_of l img p end z j n ≡ Sound (after img p) a.counted) e a.sound))

  -- An expression, by its kind.
  module _ (D : ℕ) (g : l ≤ D) (at end d i v m : ℕ) (h : end ≤ length img) (w : Stands l img at end d i v m) where
    by_kind : (k : ℕ) → kind_at img at ≡ k → Eight k → Good img at (after img at) v m (expr_as (kind_of k) (expr_at D img) img at)
    unfolding kind_of expr_as pick start_of class_of classes due_at part_of parts_of expressions nodes Whole of_expr
    by_kind k e e_int =
        let r = of_kind l img at end d i v m 64 e w in
        let z = no_part l img (after img at) d 64 0 (after img at) (vars_in_lem d 64 v) m refl r in
        record { small = omega (arith, w.own); whole = omega (arith, w.own, w.within); count = omega (arith, z.1, vars_grow d 64 v refl); marks = λ C Γ. sparse_none img at (after img at) }
    by_kind k e e_ident =
        let f : after img at ≤ length img = omega (arith, w.within) in
        let r = of_kind l img at end d i v m 65 e w in
        let (a, x, y, short) = name_part l img (after img at) d 65 0 (inside img at) (vars_in_lem d 65 v) m f refl r in
        let z = no_part l img (after img at) d 65 1 (second img at) a.counted m refl a.next in
        record { small = omega (arith, w.own); whole = record { here = omega (arith, w.own, f); short = short; own = refl }; count = omega (arith, y, z.1, vars_grow d 65 v refl); marks = λ C Γ. sparse_none img at (after img at) }
    by_kind k e e_storage =
        let f : after img at ≤ length img = omega (arith, w.within) in
        let r = of_kind l img at end d i v m 66 e w in
        let (a, x, y, short) = name_part l img (after img at) d 66 0 (inside img at) (vars_in_lem d 66 v) m f refl r in
        let z = no_part l img (after img at) d 66 1 (second img at) a.counted m refl a.next in
        record { small = omega (arith, w.own); whole = record { here = omega (arith, w.own, f); short = short; own = refl }; count = omega (arith, y, z.1, vars_grow d 66 v refl); marks = λ C Γ. sparse_none img at (after img at) }
    by_kind k e e_mapping =
        let f : after img at ≤ length img = omega (arith, w.within) in
        let r = of_kind l img at end d i v m 67 e w in
        let (a, x, y, short) = name_part l img (after img at) d 67 0 (inside img at) (vars_in_lem d 67 v) m f refl r in
        let (b, t) = expr_part D g (after img at) d 67 1 (second img at) a.counted m f refl a.next in
        let z = no_part l img (after img at) d 67 2 (third img at) b.counted m refl b.next in
        record { small = omega (arith, w.payload, x, t.small, b.within); whole = (record { here = omega (arith, w.own, f); short = short; own = refl }, t.whole); count = omega (arith, y, t.count, z.1, vars_grow d 67 v refl); marks = λ C Γ. sparse_in (omega (arith, w.payload, x)) b.within (t.marks C Γ) }
    by_kind k e e_access =
        let f : after img at ≤ length img = omega (arith, w.within) in
        let r = of_kind l img at end d i v m 68 e w in
        let (b, t) = expr_part D g (after img at) d 68 0 (inside img at) (vars_in_lem d 68 v) m f refl r in
        let (a, x, y, short) = name_part l img (after img at) d 68 1 (second img at) b.counted m f refl b.next in
        let z = no_part l img (after img at) d 68 2 (third img at) a.counted m refl a.next in
        record {
          small = omega (arith, w.payload, t.small, b.within);
          whole = (omega (arith, w.own, f), t.whole, short);
          count = omega (arith, y, t.count, z.1, vars_grow d 68 v refl);
          marks = λ C Γ. sparse_access img at (after img at) (of_expr C (expr_at D img (inside img at)) Γ) (analysis.expr C (expr_at D img (inside img at)) Γ) (λ t. analysis.access C at t (name_at img (second img at)))
              (λ t. t) w.own (sparse_in (omega (arith, w.payload)) b.within (t.marks C Γ));
        }
    by_kind k e e_literal =
        let f : after img at ≤ length img = omega (arith, w.within) in
        let r = of_kind l img at end d i v m 69 e w in
        let (a, x, y, short) = name_part l img (after img at) d 69 0 (inside img at) (vars_in_lem d 69 v) m f refl r in
        let b = part_due l img (after img at) d 69 1 (second img at) a.counted m refl a.next in
        let (c, t) = L.inits D g (second img at) (after img at) 1 a.counted _ b.counted f b.sound in
        let z = no_part l img (after img at) d 69 2 (third img at) b.counted m refl b.next in
        record { small = omega (arith, w.payload, x, t.small, b.within); whole = (record { here = omega (arith, w.own, f); short = short; own = refl }, c, t.whole); count = omega (arith, y, t.count, z.1, vars_grow d 69 v refl); marks = λ C Γ. sparse_in (omega (arith, w.payload, x)) b.within (t.marks C Γ) }
    by_kind k e e_binary =
        let f : after img at ≤ length img = omega (arith, w.within) in
        let r = of_kind l img at end d i v m 70 e w in
        let (a, t) = expr_part D g (after img at) d 70 0 (inside img at) (vars_in_lem d 70 v) m f refl r in
        let (b, x, y) = op_part l img (after img at) d 70 1 (second img at) a.counted m f refl a.next in
        let (c, u) = expr_part D g (after img at) d 70 2 (third img at) b.counted m f refl b.next in
        let z = no_part l img (after img at) d 70 3 (after img (third img at)) c.counted m refl c.next in
        record {
          small = omega (arith, w.payload, t.small, x, u.small, c.within);
          whole = (omega (arith, w.own, f), t.whole, u.whole);
          count = omega (arith, t.count, y, u.count, z.1, vars_grow d 70 v refl);
          marks = λ C Γ. sparse_then {q = second img at} (omega (arith, w.payload, t.small)) (omega (arith, x, u.small, c.within))
              (sparse_in {d = second img at} (omega (arith, w.payload)) (omega arith) (t.marks C Γ)) (sparse_in (omega (arith, x)) c.within (u.marks C Γ));
        }
    by_kind k e e_call =
        let f : after img at ≤ length img = omega (arith, w.within) in
        let r = of_kind l img at end d i v m 71 e w in
        let (a, x, y, short) = name_part l img (after img at) d 71 0 (inside img at) (vars_in_lem d 71 v) m f refl r in
        let b = part_due l img (after img at) d 71 1 (second img at) a.counted m refl a.next in
        let (c, t) = L.exprs D g 64 (second img at) (after img at) due.Arguments 1 a.counted _ b.counted f refl refl refl refl (omega arith) b.sound in
        let z = no_part l img (after img at) d 71 2 (third img at) b.counted m refl b.next in
        record { small = omega (arith, w.payload, x, t.small, b.within); whole = (record { here = omega (arith, w.own, f); short = short; own = refl }, c, t.whole); count = omega (arith, y, t.count, z.1, vars_grow d 71 v refl); marks = λ C Γ. sparse_in (omega (arith, w.payload, x)) b.within (t.marks C Γ) }

  expr_step : (D : ℕ) → suc l ≤ D → (at end d i v q m : ℕ) → end ≤ length img → (class_of d).low ≡ 64 → (class_of d).high ≡ 71
      → record_of (suc l) img at end d i v ≡ Sound q m → Good img at (after img at) v m (expr_at D img at)
  unfolding expr_at
  expr_step zero g at end d i v q m h lo hi e = absurd (omega arith)
  expr_step (suc D) g at end d i v q m h lo hi e =
      let w = stands l img at end d i v q m h e in
      by_kind D (omega arith) at end d i v m h w (kind_at img at) refl (eight (kind_at img at) (omega (arith, w.low)) (omega (arith, w.high)))

-- Every expression of a checked image.
pub level : (img : List ℕ) (l : ℕ) → Level img l
level img zero = record {
  expr = λ D g at end d i v q m h lo hi e. none_left img at end d i v q m e;
  exprs = λ D g B at end d i v q m h lo hi ilo ihi b e. none_left img at end d i v q m e;
  init = λ D g at end i v q m h e. none_left img at end due.Init i v q m e;
  inits = λ D g at end i v q m h e. none_left img at end due.Inits i v q m e;
}
level img (suc l) = let L = level img l in record { expr = expr_step l img L; exprs = exprs_step l img L; init = init_step l img L; inits = inits_step l img L }
