-- The contract of a checked image: nothing of it is cut, no record falls back, no function has more than 512 names, and it has no more
-- records than bytes by six.
-- Assumes nothing.
use Rattle.std.specs.Prelude.{◌≡◌, refl, Bool, true, false, List, [], ◌∷◌, map, ℕ, zero, suc, ◌+◌, ◌*◌, ◌≤◌, ◌<◌, eqb, length}
use Rattle.std.proofs.Common.{sym, subst, arith}
use Rattle.std.proofs.lemmas.List.{length-map}
use Rattle.rules.specs.Seen.{Sound}
use Rattle.rules.specs.Bytes.{pick, kind_at, inside, after, name_at}
use Rattle.rules.specs.Grammar as due
use Rattle.rules.specs.Grammar.{classes, class_of, records, parts_of, part_of, due_at}
use Rattle.rules.specs.Check.{counts, vars_in_lem, start_of, record_of, check_of}
use Rattle.rules.specs.Tree.{Field, Struct, Function}
use Rattle.rules.specs.Meant.{of_function, of_functions, accesses}
use Rattle.rules.specs.Tables.{mapped, nth}
use Rattle.rules.specs.Read.{second, third, fourth, fifth, places_from, places_in, field_at, fields_at, struct_at, function_at, contract_at}
use Rattle.rules.specs.Joined.{whole}
use Rattle.bounds.specs.Held.{Opt, Each, each_of_map, each_to_map}
use Rattle.bounds.specs.Sizes.{nodes_function, nodes_functions, vars-stmts}
use Rattle.bounds.specs.Sound.{Run, no_more, one_more, none_left, stands}
use Rattle.bounds.specs.Whole.{read_all, read_one, Complete, Short, ShortTypes, WholeFunction}
use Rattle.bounds.specs.Runs.{part_due, no_part, leaf, short, name_part, flag_part, of_kind, places_end, places_more, run_reads}
use Rattle.bounds.specs.Sparse.{Sparse, sparse_none, sparse_in, sparse_then}
use Rattle.bounds.proofs.Stmts as stmts
use Rattle.bounds.proofs.Stmts.{body_part}
use Rattle.bounds.specs.ContractOf.{ContractGood, GoodFunction, GoodFunctions, Params, Uncut}

-- No count passes 512.
run_bounded : (l : ℕ) (img : List ℕ) (end d k i p v m : ℕ) → ((at d i v q m : ℕ) → v ≤ 512 → record_of l img at end d i v ≡ Sound q m → m ≤ 512)
    → v ≤ 512 → Run l img end d k i p v m → m ≤ 512
run_bounded l img end d k i p v m f h (no_more e n c) = omega arith
run_bounded l img end d k i p v m f h (one_more n s z o e r) = run_bounded l img end d k (i + 1) (after img p) n m f (f p (due_at d k i) i v (after img p) n h e) r

-- A record that is not over the bound leaves the count at 512 at most.
vars_bounded : (d k v : ℕ) → (counts d k ≡ true → v < 512) → v ≤ 512 → vars_in_lem d k v ≤ 512
unfolding vars_in_lem pick
vars_bounded d k v f h = by (eqb k 19) (counts d k) f
  where
    by : (a b : Bool) → (b ≡ true → v < 512) → pick a 0 (pick b (v + 1) v) ≤ 512
    by true b g = omega arith
    by false true g = let z = g refl in omega arith
    by false false g = h

-- Nor does any record's.
bounded : (l : ℕ) (img : List ℕ) (at end d i v q m : ℕ) → end ≤ length img → v ≤ 512 → record_of l img at end d i v ≡ Sound q m → m ≤ 512
bounded zero img at end d i v q m h b e = none_left img at end d i v q m e
bounded (suc l) img at end d i v q m h b e =
    let w = stands l img at end d i v q m h e in
    let f : after img at ≤ length img = omega (arith, w.within) in
    run_bounded l img (after img at) d (kind_at img at) 0 _ _ m (λ at₁ d₁ i₁ v₁ q₁ m₁ b₁ e₁. bounded l img at₁ (after img at) d₁ i₁ v₁ q₁ m₁ f b₁ e₁)
    (vars_bounded d (kind_at img at) v w.few b) w.parts

-- What holds of each sound record of a List.
each_run : (P : ℕ → Type 0) (l : ℕ) (img : List ℕ) (end d fuel i p v m : ℕ) → ((q j n o : ℕ) → record_of l img q end (class_of d).item j n ≡ Sound (after img q) o → P q)
    → Run l img end d 2 i p v m → Each P (places_from fuel img p end)
unfolding due_at pick places_from
each_run P l img end d fuel i p v m f (no_more e n c) = subst (Each P) (sym (places_end fuel img p end e)) tt
each_run P l img end d zero i p v m f (one_more n s z o e r) = tt
each_run P l img end d (suc fuel) i p v m f (one_more n s z o e r) =
    subst (Each P) (sym (places_more fuel img p end s)) (f p i v n e, each_run P l img end d fuel (i + 1) (after img p) n m f r)

-- As a part of an image.
each_in : (P : ℕ → Type 0) (B l : ℕ) (img : List ℕ) (at end d i v q m : ℕ) → end ≤ length img → (class_of d).low ≡ 2 → (class_of d).high ≡ 2
    → ((k q e j n o : ℕ) → e ≤ length img → record_of k img q e (class_of d).item j n ≡ Sound (after img q) o → P q)
    → record_of l img at end d i v ≡ Sound q m → Each P (places_in B img at)
unfolding start_of pick
each_in P B zero img at end d i v q m h lo hi f e = none_left img at end d i v q m e
each_in P B (suc l) img at end d i v q m h lo hi f e =
    let w = stands l img at end d i v q m h e in
    let k : kind_at img at ≡ 2 = omega (arith, w.low, w.high) in
    let g : after img at ≤ length img = omega (arith, w.within) in
    each_run P l img (after img at) d B 0 (inside img at) (vars_in_lem d 2 v) m (λ q₁ j n o. f l q₁ (after img at) j n o g) (of_kind l img at end d i v m 2 k w)

-- The type of a Field is short.
field_type : (l : ℕ) (img : List ℕ) (at end d i v q m : ℕ) → end ≤ length img → (class_of d).low ≡ 17 → (class_of d).high ≡ 17 → record_of l img at end d i v ≡ Sound q m
    → Short (name_at img (second img at))
unfolding start_of pick due_at part_of parts_of records
field_type zero img at end d i v q m h lo hi e = none_left img at end d i v q m e
field_type (suc l) img at end d i v q m h lo hi e =
    let w = stands l img at end d i v q m h e in
    let k : kind_at img at ≡ 17 = omega (arith, w.low, w.high) in
    let r = of_kind l img at end d i v m 17 k w in
    let f : after img at ≤ length img = omega (arith, w.within) in
    let (a, x, y, _) = name_part l img (after img at) d 17 0 (inside img at) (vars_in_lem d 17 v) m f refl r in
    let (b, s, t, z) = name_part l img (after img at) d 17 1 (second img at) a.counted m f refl a.next in
    z

-- A parameter: it is counted, and it takes six bytes or more.
param : (l : ℕ) (img : List ℕ) (at end i v q m : ℕ) → end ≤ length img → record_of l img at end due.Param i v ≡ Sound q m → (at + 6 ≤ after img at) × (v + 1 ≤ m) × (v < 512)
unfolding start_of pick class_of classes due_at part_of parts_of records vars_in_lem counts
param zero img at end i v q m h e = none_left img at end due.Param i v q m e
param (suc l) img at end i v q m h e =
    let w = stands l img at end due.Param i v q m h e in
    let k : kind_at img at ≡ 17 = omega (arith, w.low, w.high) in
    let r = of_kind l img at end due.Param i v m 17 k w in
    let f : after img at ≤ length img = omega (arith, w.within) in
    let (a, x, y, _) = name_part l img (after img at) due.Param 17 0 (inside img at) (v + 1) m f refl r in
    let (b, s, t, _) = name_part l img (after img at) due.Param 17 1 (second img at) a.counted m f refl a.next in
    let z = no_part l img (after img at) due.Param 17 2 (third img at) b.counted m refl b.next in
    (w.own, omega (arith, y, t, z.1), w.few refl)

-- Each is counted, so that the 513th is refused.
params_run : (l : ℕ) (img : List ℕ) (end fuel i p v m : ℕ) → end ≤ length img → 512 ≤ fuel + v → Run l img end due.Params 2 i p v m → Params img p end v m (places_from fuel img p end)
unfolding pick class_of classes due_at
params_run l img end fuel i p v m h b (no_more e n c) =
    subst (Params img p end v m) (sym (places_end fuel img p end e)) (record { small = omega arith; reads = read_all e; count = omega arith })
params_run l img end zero i p v m h b (one_more n s z o e r) = absurd (let a = param l img p end i v (after img p) n h e in omega (arith, a.2))
params_run l img end (suc fuel) i p v m h b (one_more n s z o e r) =
    let a = param l img p end i v (after img p) n h e in
    let t = params_run l img end fuel (i + 1) (after img p) n m h (omega (arith, a.1)) r in
    subst (Params img p end v m) (sym (places_more fuel img p end s)) (record { small = omega (arith, a.0, t.small); reads = read_one s t.reads; count = omega (arith, a.1, t.count) })

-- The List of them.
params : (l : ℕ) (img : List ℕ) (at end i v q m : ℕ) → end ≤ length img → record_of l img at end due.Params i v ≡ Sound q m → Params img (inside img at) (after img at) v m (places_in 512 img at) × (inside img at ≡ at + 6)
unfolding start_of pick class_of classes vars_in_lem counts
params zero img at end i v q m h e = none_left img at end due.Params i v q m e
params (suc l) img at end i v q m h e =
    let w = stands l img at end due.Params i v q m h e in
    let k : kind_at img at ≡ 2 = omega (arith, w.low, w.high) in
    let f : after img at ≤ length img = omega (arith, w.within) in
    (params_run l img (after img at) 512 0 (inside img at) v m f (omega arith) (of_kind l img at end due.Params i v m 2 k w), w.payload)

-- The return type: a List of one Name at most.
result_run : (l : ℕ) (img : List ℕ) (end i p v m : ℕ) → end ≤ length img → Run l img end due.Result 2 i p v m → v ≤ m
unfolding pick class_of classes due_at start_of
result_run l img end i p v m h (no_more e n c) = omega arith
result_run l img end i p v m h (one_more n s z o e r) =
    let a = leaf l img p end due.ResultName i v (after img p) n h refl (λ from to. (refl, refl)) e in
    omega (arith, a.1, result_run l img end (i + 1) (after img p) n m h r)

-- The List of it.
result : (l : ℕ) (img : List ℕ) (at end i v q m : ℕ) → end ≤ length img → record_of l img at end due.Result i v ≡ Sound q m → Complete 1 img at × (at + 6 ≤ after img at) × (v ≤ m)
unfolding start_of pick class_of classes vars_in_lem counts
result zero img at end i v q m h e = none_left img at end due.Result i v q m e
result (suc l) img at end i v q m h e =
    let w = stands l img at end due.Result i v q m h e in
    let k : kind_at img at ≡ 2 = omega (arith, w.low, w.high) in
    let f : after img at ≤ length img = omega (arith, w.within) in
    let r = of_kind l img at end due.Result i v m 2 k w in
    (run_reads l img (after img at) due.Result 1 0 (inside img at) v m f (omega arith) r, w.own, result_run l img (after img at) 0 (inside img at) v m f r)

-- The return type, if there is one.
opt_first : (img ps : List ℕ) → Each (λ p. Short (name_at img p)) ps → Opt Short (mapped (name_at img) (nth 0 ps))
unfolding mapped nth
opt_first img [] h = tt
opt_first img (p ∷ ps) h = h.0

-- A sound Function record: Name, parameters, return type, Flag, body.
function : (l : ℕ) → l ≤ 64 → (img : List ℕ) (at end i v q m : ℕ) → end ≤ length img → v ≤ 512 → record_of l img at end due.Function i v ≡ Sound q m → GoodFunction img at (after img at) (function_at img at)
unfolding start_of pick class_of classes due_at part_of parts_of records vars_in_lem counts nodes_function function_at fields_at field_at
function zero g img at end i v q m h u e = none_left img at end due.Function i v q m e
function (suc l) g img at end i v q m h u e =
    let w = stands l img at end due.Function i v q m h e in
    let k : kind_at img at ≡ 19 = omega (arith, w.low, w.high) in
    let o : after img at ≤ length img = omega (arith, w.within) in
    let r = of_kind l img at end due.Function i v m 19 k w in
    let (a, ax, ay, _) = name_part l img (after img at) due.Function 19 0 (inside img at) 0 m o refl r in
    let b = part_due l img (after img at) due.Function 19 1 (second img at) a.counted m refl a.next in
    let (bp, bi) = params l img (second img at) (after img at) 1 a.counted _ b.counted o b.sound in
    let c = part_due l img (after img at) due.Function 19 2 (third img at) b.counted m refl b.next in
    let (cr, cx, cy) = result l img (third img at) (after img at) 2 b.counted _ c.counted o c.sound in
    let (d, dx, dy) = flag_part l img (after img at) due.Function 19 3 (fourth img at) c.counted m o refl c.next in
    let (s, sc, sg) = body_part l img (stmts.level img l) 64 (omega arith) (after img at) due.Function 19 4 (fifth img at) d.counted m o refl d.next in
    let z = no_part l img (after img at) due.Function 19 5 (after img (fifth img at)) s.counted m refl s.next in
    let n : length (map (field_at img) (places_in 512 img (second img at))) ≡ length (places_in 512 img (second img at)) = length-map (places_in 512 img (second img at)) (field_at img) in
    let t : m ≤ 512 = bounded (suc l) img at end due.Function i v q m h u e in
    record {
      small = omega (arith, n, w.payload, ax, bp.small, bi, cx, dx, sg.small, s.within);
      whole = record {
        here = omega (arith, w.own, o);
        types = each_to_map (λ (x : Field). Short x.type) (field_at img) (places_in 512 img (second img at))
            (each_in (λ p. Short (name_at img (second img p))) 512 l img (second img at) (after img at) due.Params 1 a.counted _ b.counted o refl refl
            (λ k₁ p z₁ j n₁ o₁ x y. field_type k₁ img p z₁ due.Param j n₁ (after img p) o₁ x refl refl y) b.sound);
        ret = opt_first img (places_in 1 img (third img at))
            (each_in (λ p. Short (name_at img p)) 1 l img (third img at) (after img at) due.Result 2 b.counted _ c.counted o refl refl
            (λ k₁ p z₁ j n₁ o₁ x y. short k₁ img p z₁ due.ResultName j n₁ (after img p) o₁ x refl refl y) c.sound);
        params = bp.reads;
        result = cr;
        body = sc;
        stmts = sg.whole;
      };
      names = omega (arith, n, t, bp.count, cy, dy, sg.count, z.1);
      marks = λ C ret Γ. sparse_in (omega (arith, w.payload, ax, bp.small, bi, cx, dx)) s.within (sg.marks C ret Γ);
    }

-- A List is read whole.
list : (l B : ℕ) (img : List ℕ) (at end d i v q m : ℕ) → end ≤ length img → (class_of d).low ≡ 2 → (class_of d).high ≡ 2 → (class_of (class_of d).item).most ≤ B
    → record_of l img at end d i v ≡ Sound q m → Complete B img at
unfolding start_of pick
list zero B img at end d i v q m h lo hi b e = none_left img at end d i v q m e
list (suc l) B img at end d i v q m h lo hi b e =
    let w = stands l img at end d i v q m h e in
    let k : kind_at img at ≡ 2 = omega (arith, w.low, w.high) in
    let f : after img at ≤ length img = omega (arith, w.within) in
    run_reads l img (after img at) d B 0 (inside img at) (vars_in_lem d 2 v) m f (omega arith) (of_kind l img at end d i v m 2 k w)

-- A struct's fields, and those of each struct of a List.
struct : (l : ℕ) (img : List ℕ) (at end i v q m : ℕ) → end ≤ length img → record_of l img at end due.Struct i v ≡ Sound q m → Complete 64 img (second img at)
unfolding start_of pick class_of classes due_at part_of parts_of records
struct zero img at end i v q m h e = none_left img at end due.Struct i v q m e
struct (suc l) img at end i v q m h e =
    let w = stands l img at end due.Struct i v q m h e in
    let k : kind_at img at ≡ 18 = omega (arith, w.low, w.high) in
    let f : after img at ≤ length img = omega (arith, w.within) in
    let r = of_kind l img at end due.Struct i v m 18 k w in
    let (a, x, y, _) = name_part l img (after img at) due.Struct 18 0 (inside img at) (vars_in_lem due.Struct 18 v) m f refl r in
    let b = part_due l img (after img at) due.Struct 18 1 (second img at) a.counted m refl a.next in
    list l 64 img (second img at) (after img at) due.Fields 1 a.counted _ b.counted f refl refl (omega arith) b.sound

-- The types of its fields are short.
struct_types : (l : ℕ) (img : List ℕ) (at end i v q m : ℕ) → end ≤ length img → record_of l img at end due.Struct i v ≡ Sound q m → ShortTypes (struct_at img at).fields
unfolding start_of pick class_of classes due_at part_of parts_of records struct_at fields_at field_at
struct_types zero img at end i v q m h e = none_left img at end due.Struct i v q m e
struct_types (suc l) img at end i v q m h e =
    let w = stands l img at end due.Struct i v q m h e in
    let k : kind_at img at ≡ 18 = omega (arith, w.low, w.high) in
    let f : after img at ≤ length img = omega (arith, w.within) in
    let r = of_kind l img at end due.Struct i v m 18 k w in
    let (a, x, y, _) = name_part l img (after img at) due.Struct 18 0 (inside img at) (vars_in_lem due.Struct 18 v) m f refl r in
    let b = part_due l img (after img at) due.Struct 18 1 (second img at) a.counted m refl a.next in
    each_to_map (λ (x : Field). Short x.type) (field_at img) (places_in 64 img (second img at))
    (each_in (λ p. Short (name_at img (second img p))) 64 l img (second img at) (after img at) due.Fields 1 a.counted _ b.counted f refl refl
    (λ k₁ p z j n o x₁ y₁. field_type k₁ img p z due.StructField j n (after img p) o x₁ refl refl y₁) b.sound)

-- From the i-th on.
functions_run : (l : ℕ) → l ≤ 64 → (img : List ℕ) (end fuel i p v m : ℕ) → end ≤ length img → v ≤ 512 → 256 ≤ fuel + i → Run l img end due.Functions 2 i p v m
    → GoodFunctions img p end (map (function_at img) (places_from fuel img p end))
unfolding pick class_of classes due_at nodes_functions of_function of_functions
functions_run l g img end fuel i p v m h u b (no_more e n c) =
    subst (λ ps. GoodFunctions img p end (map (function_at img) ps)) (sym (places_end fuel img p end e)) (record { small = omega arith; whole = tt; names = tt; marks = λ C. sparse_none img p end })
functions_run zero g img end zero i p v m h u b (one_more n s z o e r) = none_left img p end _ i v (after img p) n e
functions_run (suc l) g img end zero i p v m h u b (one_more n s z o e r) = absurd (let w = stands l img p end due.Function i v (after img p) n h e in omega (arith, w.room))
functions_run l g img end (suc fuel) i p v m h u b (one_more n s z o e r) =
    let a = function l g img p end i v (after img p) n h u e in
    let t = functions_run l g img end fuel (i + 1) (after img p) n m h (bounded l img p end due.Function i v (after img p) n h u e) (omega arith) r in
    subst (λ ps. GoodFunctions img p end (map (function_at img) ps)) (sym (places_more fuel img p end s))
    (record {
      small = omega (arith, a.small, t.small);
      whole = (a.whole, t.whole);
      names = (a.names, t.names);
      marks = λ C. sparse_then (omega (arith, a.small)) (omega (arith, t.small)) (a.marks C _ _) (t.marks C);
    })

-- The List of functions.
functions : (l : ℕ) → l ≤ 64 → (img : List ℕ) (at end i v q m : ℕ) → end ≤ length img → v ≤ 512 → record_of l img at end due.Functions i v ≡ Sound q m
    → GoodFunctions img at (after img at) (map (function_at img) (places_in 256 img at))
unfolding start_of pick class_of classes vars_in_lem counts
functions zero g img at end i v q m h u e = none_left img at end due.Functions i v q m e
functions (suc l) g img at end i v q m h u e =
    let w = stands l img at end due.Functions i v q m h e in
    let k : kind_at img at ≡ 2 = omega (arith, w.low, w.high) in
    let f : after img at ≤ length img = omega (arith, w.within) in
    let t = functions_run l (omega arith) img (after img at) 256 0 (inside img at) v m f u (omega arith) (of_kind l img at end due.Functions i v m 2 k w) in
    record { small = omega (arith, w.payload, t.small); whole = t.whole; names = t.names; marks = λ C. sparse_in (omega (arith, w.payload)) (omega arith) (t.marks C) }

-- The Contract record: Name, storage, structs, functions.
contract : (img : List ℕ) (q m : ℕ) → record_of 64 img 0 (length img) due.Contract 0 0 ≡ Sound q m → ContractGood img
unfolding start_of pick class_of classes due_at part_of parts_of records vars_in_lem counts contract_at
contract img q m e =
    let w = stands 63 img 0 (length img) due.Contract 0 0 q m (omega arith) e in
    let k : kind_at img 0 ≡ 16 = omega (arith, w.low, w.high) in
    let f : after img 0 ≤ length img = w.within in
    let r = of_kind 63 img 0 (length img) due.Contract 0 0 m 16 k w in
    let (a, ax, ay, _) = name_part 63 img (after img 0) due.Contract 16 0 (inside img 0) 0 m f refl r in
    let au : a.counted ≤ 512 = bounded 63 img (inside img 0) (after img 0) due.Name 0 0 _ a.counted f (omega arith) a.sound in
    let b = part_due 63 img (after img 0) due.Contract 16 1 (second img 0) a.counted m refl a.next in
    let bu : b.counted ≤ 512 = bounded 63 img (second img 0) (after img 0) due.Storage 1 a.counted _ b.counted f au b.sound in
    let c = part_due 63 img (after img 0) due.Contract 16 2 (third img 0) b.counted m refl b.next in
    let cu : c.counted ≤ 512 = bounded 63 img (third img 0) (after img 0) due.Structs 2 b.counted _ c.counted f bu c.sound in
    let d = part_due 63 img (after img 0) due.Contract 16 3 (fourth img 0) c.counted m refl c.next in
    let t = functions 63 (omega arith) img (fourth img 0) (after img 0) 3 c.counted _ d.counted f cu d.sound in
    record {
      storage = list 63 256 img (second img 0) (after img 0) due.Storage 1 a.counted _ b.counted f refl refl (omega arith) b.sound;
      structs = list 63 64 img (third img 0) (after img 0) due.Structs 2 b.counted _ c.counted f refl refl (omega arith) c.sound;
      fields = each_in (λ p. Complete 64 img (second img p)) 64 63 img (third img 0) (after img 0) due.Structs 2 b.counted _ c.counted f refl refl
          (λ k₁ p z j n o x y. struct k₁ img p z j n (after img p) o x y) c.sound;
      types = each_to_map (λ (s : Struct). ShortTypes s.fields) (struct_at img) (places_in 64 img (third img 0))
          (each_in (λ p. ShortTypes (struct_at img p).fields) 64 63 img (third img 0) (after img 0) due.Structs 2 b.counted _ c.counted f refl refl
          (λ k₁ p z j n o x y. struct_types k₁ img p z j n (after img p) o x y) c.sound);
      functions = list 63 256 img (fourth img 0) (after img 0) due.Functions 3 c.counted _ d.counted f refl refl (omega arith) d.sound;
      good = record { small = omega (arith, t.small, d.within, f); whole = t.whole; names = t.names; marks = λ C. sparse_in (omega arith) (omega (arith, d.within, f)) (t.marks C) };
    }

-- As a caller meets it.
pub uncut : (img : List ℕ) (q m : ℕ) → check_of img ≡ Sound q m → Uncut img
uncut img q m e =
    let w = whole img q m e in
    let c = contract img q m w.1 in
    record { bytes = w.0; storage = c.storage; structs = c.structs; fields = c.fields; types = c.types; functions = c.functions }

-- No function of it has a record that fell back, or a List that was cut.
pub all_whole : (img : List ℕ) (q m : ℕ) → check_of img ≡ Sound q m → Each (λ (f : Function). WholeFunction img f) (contract_at img).functions
all_whole img q m e = (contract img q m (whole img q m e).1).good.whole

-- No function of it declares more than 512 names: its parameters, Lets and Fors.
pub names_few : (img : List ℕ) (q m : ℕ) → check_of img ≡ Sound q m → Each (λ (f : Function). length f.params + vars-stmts f.body ≤ 512) (contract_at img).functions
names_few img q m e = (contract img q m (whole img q m e).1).good.names

-- The same of the place of each function.
pub names_at : (img : List ℕ) (q m : ℕ) → check_of img ≡ Sound q m
    → Each (λ p. length (function_at img p).params + vars-stmts (function_at img p).body ≤ 512) (places_in 256 img (fourth img 0))
unfolding contract_at
names_at img q m e = each_of_map (λ (f : Function). length f.params + vars-stmts f.body ≤ 512) (function_at img) (places_in 256 img (fourth img 0)) (names_few img q m e)

-- No fall-back, of the place of each function.
pub whole_at : (img : List ℕ) (q m : ℕ) → check_of img ≡ Sound q m → Each (λ p. WholeFunction img (function_at img p)) (places_in 256 img (fourth img 0))
unfolding contract_at
whole_at img q m e = each_of_map (λ (f : Function). WholeFunction img f) (function_at img) (places_in 256 img (fourth img 0)) (all_whole img q m e)

-- Its functions have a record for six bytes at most.
pub nodes_few : (img : List ℕ) (q m : ℕ) → check_of img ≡ Sound q m → 6 * nodes_functions (contract_at img).functions ≤ 65536
nodes_few img q m e = let w = whole img q m e in let c = (contract img q m w.1).good.small in omega (arith, w.0, c)

-- 02: P2: its accesses stand six bytes apart or more.
pub accesses_sparse : (img : List ℕ) (q m : ℕ) → check_of img ≡ Sound q m → Sparse img 0 (length img) (accesses (contract_at img))
unfolding accesses
accesses_sparse img q m e = (contract img q m (whole img q m e).1).good.marks (contract_at img)
