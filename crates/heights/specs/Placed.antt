-- Where each function's words stand in the program, and what patching makes of them.
-- Assumes nothing.
use Rattle.std.specs.Prelude.{◌≡◌, Bool, true, false, leb, None, Option, Some}
use Rattle.std.proofs.Math.Path.{refl, ap, subst}
use Rattle.std.proofs.Common.{sym, ap₂, ◌∙◌, leb-true, leb-false}
use mathlib.Core.List.{List, [], ◌∷◌, ◌++◌}
use Prim.Native.Nat.{ℕ, zero, suc, ◌+◌, ◌-◌, ◌<◌}
use native.Mathlib.Omega.{arith}
use Rattle.std.proofs.Math.ListN.{length, length-append}
use Rattle.rules.specs.Machine.{Imm, Entry, At, Lands}
use Rattle.rules.specs.Tree.{Function, Contract}
use Rattle.rules.specs.Bytes.{pick, Name, eq_name}
use Rattle.rules.specs.Tables.{or_else, last}
use Rattle.rules.specs.Analyse.{function_name}
use Rattle.rules.specs.Emit.{Rules, Open}
use Rattle.rules.specs.Generate.{function}
use Rattle.rules.specs.Link.{Built, functions, less, patch, link}
use Rattle.heights.specs.Positions.{Stands, stands_left, stands_right}
use Rattle.heights.specs.Entries.{Covers}
use Rattle.heights.specs.Fits.{StmtsFit}
use Rattle.bounds.specs.Answers.{All, all_ok, all_bind}
use Rattle.heights.specs.Checks.{Takes, BodiesFit}

-- Patching keeps the count.
pub length_link : (T : List Entry) (b : ℕ) (l : List Open) → length (link T b l) ≡ length l
unfolding link
length_link T b [] = refl
length_link T b (o ∷ l) = ap suc (length_link T (suc b) l)

-- What stands at an index once it is patched.
pub at_link : (T : List Entry) (b : ℕ) (l : List Open) (i k : ℕ) (o : Open) → k ≡ b + i → At l i o → At (link T b l) i (patch T k o)
unfolding link
at_link T b [] i k o e p = absurd p
at_link T b (x ∷ l) zero k o e p = ap₂ (patch T) (omega arith) p
at_link T b (x ∷ l) (suc i) k o e p = at_link T (suc b) l i k o (omega arith) p

-- A target less an own index leads to the target.
pub lands_less : (i t : ℕ) → Lands i (less t i) t
unfolding less pick
lands_less i t = by-test (leb i t) refl
  where
    by-test : (b : Bool) → leb i t ≡ b → Lands i (pick b (Imm.pos (t - i)) (Imm.neg (i - t))) t
    by-test true e = omega (arith, leb-true i t e)
    by-test false e = omega (arith, leb-false i t e)

-- The last of a name is one of the list.
pub last_at : {A : Type 0} (n : A → Name) (x : Name) (l : List A) (a : A) → last n x l ≡ Some a → (k : ℕ) × At l k a
unfolding last or_else pick
last_at n x [] a e = absurd (let z : ◌≡◌ {A = ℕ} 0 1 = cc in omega arith)
last_at {A} n x (y ∷ l) a e = by-rest (last n x l) (last_at n x l) refl e
  where
    by-rest : (o : Option A) → ((b : A) → last n x l ≡ Some b → (k : ℕ) × At l k b) → last n x l ≡ o
        → or_else o (pick (eq_name (n y) x) (Some y) None) ≡ Some a → (k : ℕ) × At (y ∷ l) k a
    by-rest (Some b) ih p q = let r : (k : ℕ) × At l k a = ih a (p ∙ q) in (suc r.0, r.1)
    by-rest None ih p q = by-test (eq_name (n y) x) q
      where
        by-test : (t : Bool) → pick t (Some y) None ≡ Some a → (k : ℕ) × At (y ∷ l) k a
        by-test true z = (0, cc)
        by-test false z = absurd (let q : ◌≡◌ {A = ℕ} 0 1 = cc in omega arith)

-- The name of an entry.
abbrev pub entry_name : Entry → Name
entry_name e = e.name

-- The table has the functions' places, names and parameters, in their order.
unfoldable pub Mirrors : List Function → List Entry → Type 0
Mirrors [] [] = Unit {0}
Mirrors [] (e ∷ T) = ⊥
Mirrors (f ∷ fs) [] = ⊥
Mirrors (f ∷ fs) (e ∷ T) = (e.place ≡ f.place) × (e.name ≡ f.name) × (e.params ≡ length f.params) × Mirrors fs T

-- Both found nothing, or the same parameters.
Same : Option Function → Option Entry → Type 0
Same None None = Unit {0}
Same None (Some e) = ⊥
Same (Some f) None = ⊥
Same (Some f) (Some e) = e.params ≡ length f.params

or_same : (o p : Option Function) (q r : Option Entry) → Same o q → Same p r → Same (or_else o p) (or_else q r)
unfolding Same or_else
or_same None p None r s t = t
or_same None p (Some e) r s t = absurd s
or_same (Some f) p None r s t = absurd s
or_same (Some f) p (Some e) r s t = s

pick_same : (b : Bool) (f : Function) (e : Entry) → e.params ≡ length f.params → Same (pick b (Some f) None) (pick b (Some e) None)
unfolding Same pick
pick_same true f e p = p
pick_same false f e p = tt

-- The last of a name, in the contract and in the table.
last_same : (x : Name) (fs : List Function) (T : List Entry) → Mirrors fs T → Same (last function_name x fs) (last entry_name x T)
unfolding Mirrors Same last
last_same x [] [] m = tt
last_same x [] (e ∷ T) m = absurd m
last_same x (f ∷ fs) [] m = absurd m
last_same x (f ∷ fs) (e ∷ T) m =
    or_same (last function_name x fs) _ (last entry_name x T) _ (last_same x fs T m.3)
    (subst (λ (k : Name). Same (pick (eq_name f.name x) (Some f) None) (pick (eq_name k x) (Some e) None)) (sym m.1) (pick_same (eq_name f.name x) f e m.2))

-- What a function takes by the contract, it takes by the table.
pub by_table : (fs : List Function) (T : List Entry) → Mirrors fs T → (x : Name) (n : ℕ) → Takes fs x n
    → (e : Entry) × (last entry_name x T ≡ Some e) × (e.params ≡ n)
unfolding Same
by_table fs T m x n (f, p, q) = found (last entry_name x T) refl (subst (λ (o : Option Function). Same o (last entry_name x T)) p (last_same x fs T m))
  where
    found : (o : Option Entry) → last entry_name x T ≡ o → Same (Some f) (last entry_name x T) → (e : Entry) × (last entry_name x T ≡ Some e) × (e.params ≡ n)
    found None e s = absurd (subst (Same (Some f)) e s)
    found (Some d) e s = (d, e, subst (Same (Some f)) e s ∙ q)

-- The entry of a function, at its index.
pub mirrored : (fs : List Function) (T : List Entry) → Mirrors fs T → (k : ℕ) (f : Function) → At fs k f
    → (e : Entry) × At T k e × (e.place ≡ f.place) × (e.name ≡ f.name) × (e.params ≡ length f.params)
unfolding Mirrors
mirrored [] T m k f a = absurd a
mirrored (g ∷ fs) [] m k f a = absurd m
mirrored (g ∷ fs) (e ∷ T) m zero f a = (e, refl, m.0 ∙ ap (λ (x : Function). x.place) a, m.1 ∙ ap (λ (x : Function). x.name) a, m.2 ∙ ap (λ (x : Function). length x.params) a)
mirrored (g ∷ fs) (e ∷ T) m (suc k) f a = mirrored fs T m.3 k f a

-- As many entries as functions.
pub mirrors_length : (fs : List Function) (T : List Entry) → Mirrors fs T → length T ≡ length fs
unfolding Mirrors
mirrors_length [] [] m = refl
mirrors_length [] (e ∷ T) m = absurd m
mirrors_length (f ∷ fs) [] m = absurd m
mirrors_length (f ∷ fs) (e ∷ T) m = ap suc (mirrors_length fs T m.3)

-- Good c n: what is shown of the words c of a function with n parameters.
module _ (Good : List Open → ℕ → Type 0) where
  -- The functions of the table stand one behind the other from index i on.
  unfoldable pub Laid : ℕ → List Open → List Entry → Type 0
  Laid i code [] = code ≡ []
  Laid i code (e ∷ T) = (c : List Open) × (rest : List Open) × (code ≡ c ++ rest) × (e.first ≡ i) × (e.past ≡ i + length c)
      × Good c e.params × Laid (i + length c) rest T

  module _ (filled : (c : List Open) (n : ℕ) → Good c n → 0 < length c) where
    -- They cover the code.
    pub covers : (i : ℕ) (code : List Open) (T : List Entry) → Laid i code T → (n : ℕ) → n ≡ i + length code → Covers i n T
    unfolding Laid Covers
    covers i code [] z n e = omega (arith, ap length z)
    covers i code (x ∷ T) (c, rest, w, f, g, good, z) n e =
        (f, omega (arith, filled c x.params good), subst (λ (j : ℕ). Covers j n T) (sym g) (covers (i + length c) rest T z n (omega (arith, ap length w, length-append c rest))))

  -- The words of one function of the table, and where they stand in the whole.
  unfoldable pub Housed : List Open → Entry → Type 0
  Housed all e = (c : List Open) × Good c e.params × (e.past ≡ e.first + length c) × Stands all e.first c

  -- Every function of the table is so.
  pub housed : (all : List Open) (i : ℕ) (code : List Open) (T : List Entry) → Laid i code T → Stands all i code
      → (k : ℕ) (e : Entry) → At T k e → Housed all e
  unfolding Laid Housed
  housed all i code [] z up k e p = absurd p
  housed all i code (x ∷ T) (c, rest, w, f, g, good, z) up zero e p =
      subst (Housed all) p (c, good, omega arith, subst (λ (n : ℕ). Stands all n c) (sym f) (stands_left all i c rest (subst (Stands all i) w up)))
  housed all i code (x ∷ T) (c, rest, w, f, g, good, z) up (suc k) e p =
      housed all (i + length c) rest T z (stands_right all i (i + length c) c rest refl (subst (Stands all i) w up)) k e p

  -- The functions of a contract are laid so, with their table.
  pub functions_laid : (takes : Name → ℕ → Type 0) (R : Rules) (C : Contract)
      → ((f : Function) → StmtsFit takes f.body → All (λ (c : List Open). Good c (length f.params)) (function R C f))
      → (i : ℕ) (fs : List Function) → BodiesFit takes fs → All (λ (b : Built). Laid i b.code b.table × Mirrors fs b.table) (functions R C i fs)
  unfolding functions Laid Mirrors BodiesFit
  functions_laid t R C g i [] q = all_ok _ (refl, tt)
  functions_laid t R C g i (f ∷ fs) q =
      all_bind (function R C f) _ (g f q.0) (λ c pc.
      all_bind (functions R C (i + length c) fs) _ (functions_laid t R C g (i + length c) fs q.1) (λ b pb.
      all_ok _ ((c, b.code, refl, refl, refl, pc, pb.0), (refl, refl, refl, pb.1))))
