-- One step down, for each kind of expression.
--     deep, stays               a step that is known to go into a part, or to stay
--     into_first, row_own       in the first of several steps; in it, or in words of the record itself behind it
--     takes_fresh, fresh_own, fresh_past      a new register and the word that fills it
--     binary_left, .., user_own               from an expression of each kind; kind_in, kind_own: by its number
-- Assumes nothing.
use Rattle.std.specs.Prelude.{◌≡◌, Bool, eqb, None, Option, Some}
use Rattle.std.proofs.Math.Path.{refl, sym, ap, subst}
use Rattle.std.proofs.Common.{◌∙◌, arith}
use Rattle.std.proofs.Math.Bool.{true, false}
use mathlib.Core.List.{List, [], ◌∷◌, ◌++◌, map, reverse}
use Prim.Native.Nat.{ℕ, zero, suc, ◌+◌, ◌-◌, ◌%◌, ◌≤◌, ◌<◌}
use Rattle.std.proofs.Math.ListN.{length, length-append}
use Rattle.std.proofs.lemmas.List.{length-map, length-reverse}
use borrow.Author.Tests.{ne_eqb, eqb-true, eqb-false}
use Rattle.rules.specs.Bytes.{pick, name_at, inside, after, kind_at}
use Rattle.rules.specs.Tables.{nth}
use Rattle.rules.specs.Tree.{Expr, Contract}
use Rattle.rules.specs.Read.{Kind, kInt, kIdent, kStorage, kMapping, kAccess, kLiteral, kBinary, kCall, kOther, kind_of, exprs_from, inits_from, expr_as, expr_at, second, name_in, contract_at}
use Rattle.rules.specs.Refusal.{Res, ok, bad}
use Rattle.rules.specs.Builtins.{Builtin, builtin}
use Rattle.rules.specs.Emit.{Open, calls, Scope, add, push, pop, count, shift_in, parts, stores, AtReg}
use Rattle.rules.specs.Generate.{alloc_reg_lem}
use Rattle.emit.specs.declared.St.{St}
use Rattle.emit.specs.declared.Rules.{Rules}
use Rattle.emit.specs.Steps.{Out, after as then, ◌>>=◌, done, say, ask, at, Regs, gen, gens, gen_call, gen_number}
use Rattle.emit.specs.Laws.{after_none}
use Rattle.emit.specs.Sinks.{sinks}
use Rattle.emit.specs.Ran.{raw, Tally}
use Rattle.emit.specs.State.{rules_of, tally, fresh, Takes, Keeps}
use Rattle.expr.specs.Scope.{scope_in}
use Rattle.expr.specs.Made.{args_at_lem}
use Rattle.expr.specs.Names.{function_in}
use Rattle.seek.specs.declared.Spot.{Spot}
use denote.Enum.Declared.{tag_of}
use Rattle.seek.specs.contracts.Way.{the_type}
use Rattle.seek.specs.declared.Step.{Step}
use Rattle.seek.specs.declared.Way.TheVariants as way
use Rattle.seek.specs.Goes.{Goes, words_of, split, ran_goes, goes_then, goes_word, goes_words, goes_done}
use Rattle.seek.specs.Found.{nth_later, some_same, Found, found_first, found_later, found_asked, Each, each_none, each_more, each_at, each_map, Own, found_own, own_say, own_done, own_asks, own_says, own_pick, Long, long_done, long_says, long_asks}
use Rattle.seek.specs.Spots.{plain, called, spot_of, told, owned, calling, into, spot_in_lem, steps, args, inits, value_in, Counts, Saves, Finds, Ans, owns, goes, Row, Listed, Leads, Steps, Calls}
use Rattle.seek.specs.Spots as spots

module _ {img scope : List ℕ} {R : Rules} {d want : ℕ} where
  pub deep : {r : Step} {a : Spot} → r.way ≡ way.Value → Ans img scope R d want r a → Finds img scope R (expr_at d img r.place) r.st r.to want a
  deep e (owns f g) = absurd (f e)
  deep e (goes f g) = g

  pub stays : {p : ℕ} {s : St} {r : Step} {a : Spot} → r ≡ owned p s → Ans img scope R d want r a → plain p ≡ a
  stays e (owns f g) = sym (ap spot_in_lem e) ∙ g
  stays e (goes f g) = absurd (omega (arith, ap (tag_of the_type) (sym (ap (λ (x : Step). x.way) e) ∙ f)))

  pub makes_call : {p g : ℕ} {s : St} {r : Step} {a : Spot} → r ≡ calling p g s → Ans img scope R d want r a → called p g ≡ a
  makes_call e (owns f h) = sym (ap spot_in_lem e) ∙ h
  makes_call e (goes f h) = absurd (omega (arith, ap (tag_of the_type) (sym (ap (λ (x : Step). x.way) e) ∙ f)))

  pub into_first : {B : Type 0} {x end : ℕ} {st t : St} {r : Step} {a : Spot} → Counts img scope R d x st t → want < t.n → r ≡ into x t.n st → Ans img scope R d want r a
      → (k : AtReg → Res (Out B)) → Found (told img want) (steps img scope R (expr_at d img x) st >>= k) (tally st) end want a
  into_first {B} {x} {end} {st} {t} {r} {a} c l e h k =
      found_first (told img want) k c.goes l (subst (λ (y : Step). Finds img scope R (expr_at d img y.place) y.st y.to want a) e (deep (ap (λ (y : Step). y.way) e) h)).found

  pub row_own : {B : Type 0} {x p end : ℕ} {st : St} {r : Step} {a : Spot} → Row img scope R d x p st want r → (k : AtReg → Res (Out B)) → ((v : AtReg) → Own (told img want) (plain p) (k v))
      → Ans img scope R d want r a → Found (told img want) (steps img scope R (expr_at d img x) st >>= k) (tally st) end want a
  row_own (spots.inside t c l e) k o h = into_first c l e h k
  row_own {B} {x} {p} {end} {st} (spots.behind t c l e) k o h =
      subst (λ (y : Spot). Found (told img want) (steps img scope R (expr_at d img x) st >>= k) (tally st) end want y) (stays e h) (found_later (told img want) k c.goes l (found_own (o _)))

-- A new register with its word, then steps from it.
pub takes_fresh : {R : Rules} {st a q : St} {p : ℕ} (C : Contract) (w : ℕ → Open) → Takes R st a p → Keeps a q
    → Goes (tally st) (tally q) (at (a.reg % 256) (suc (a.reg % 256))) (fresh (alloc_reg_lem (rules_of R) C p st.next) w)
takes_fresh {R} {st} {a} {q} {p} C w t k = goes_then _ (ran_goes (raw C) (t.ran C (sinks [] []))) (goes_then _ (goes_word (w (a.reg % 256)) k.reserved) (goes_done _))

fresh_then : {B : Type 0} (m : Res ℕ) (w : ℕ → Open) (k : ℕ → Res (Out B)) → (fresh m w >>= λ v. k v.reg) ≡ (ask m >>= λ d. say (w d ∷ []) >>= λ u. k d)
unfolding ◌>>=◌ then ask say done
fresh_then (ok d) w k = sym (after_none (then (w d ∷ []) (k d)))
fresh_then (bad q) w k = refl

module _ {B S : Type 0} (f : Open → S) {s r : Tally} {v : AtReg} {end want : ℕ} {a : S} (m : Res ℕ) (w : ℕ → Open) (k : ℕ → Res (Out B)) (g : Goes s r v (fresh m w)) where
  pub fresh_own : ((d : ℕ) → a ≡ f (w d)) → want < r.n → Found f (ask m >>= λ d. say (w d ∷ []) >>= λ u. k d) s end want a
  fresh_own e l = subst (λ (n : Res (Out B)). Found f n s end want a) (fresh_then m w k)
      (found_first f (λ v. k v.reg) g l (found_own (own_asks m (λ d. own_says (each_more (w d) [] (e d) each_none) (λ u. own_done _)))))

  pub fresh_past : r.n ≤ want → Found f (k v.reg) r end want a → Found f (ask m >>= λ d. say (w d ∷ []) >>= λ u. k d) s end want a
  fresh_past l h = subst (λ (n : Res (Out B)). Found f n s end want a) (fresh_then m w k) (found_later f (λ v. k v.reg) g l h)

-- The words of an expression without parts are its own.
module _ (R : Rules) (C : Contract) (img : List ℕ) (f : ℕ → Expr) (i : ℕ) (s : Scope) (n j : ℕ) where
  each_shift : (r x t : ℕ) (cs : List ℕ) → Each (spot_of C j) (plain i) (shift_in i r x t cs)
  unfolding shift_in spot_of
  each_shift r x t [] = each_none
  each_shift r x t (zero ∷ cs) = each_more _ _ refl (each_shift r x t cs)
  each_shift r x t (suc c ∷ cs) = each_more _ _ refl (each_more _ _ refl (each_more _ _ refl (each_shift r x t cs)))

  each_part : (r x t : ℕ) (cs : List ℕ) → Each (spot_of C j) (plain i) (parts i r x t cs)
  unfolding parts spot_of
  each_part r x t [] = each_none
  each_part r x t (zero ∷ cs) = each_part r x t cs
  each_part r x t (suc c ∷ cs) = each_more _ _ refl (each_shift r x t cs)

  abbrev Mine : Kind → Type 0
  Mine K = Own (spot_of C j) (plain i) (gen (rules_of R) C (expr_as K f img i) s n)

  int_own : Mine kInt
  unfolding expr_as gen gen_number spot_of
  int_own = own_pick _
      (own_asks _ (λ r. own_says (each_more _ _ refl each_none) (λ u. own_done _)))
      (own_asks _ (λ r. own_asks _ (λ x. own_asks _ (λ t. own_says (each_more _ _ refl each_none) (λ u. own_says (each_part r x t _) (λ w. own_done _))))))

  ident_own : Mine kIdent
  unfolding expr_as gen
  ident_own = own_asks _ (λ r. own_done _)

  storage_own : Mine kStorage
  unfolding expr_as gen spot_of
  storage_own = own_asks _ (λ r. own_asks _ (λ k. own_says (each_more _ _ refl each_none) (λ u. own_done _)))

  other_own : Mine kOther
  unfolding expr_as gen
  other_own = own_done _

  plain_of : (a b c : Bool) → Mine (pick a kInt (pick b kIdent (pick c kStorage kOther)))
  unfolding pick
  plain_of true b c = int_own
  plain_of false true c = ident_own
  plain_of false false true = storage_own
  plain_of false false false = other_own

  plain_own : (k : ℕ) → (k ≡ 67 → ⊥) → (k ≡ 68 → ⊥) → (k ≡ 69 → ⊥) → (k ≡ 70 → ⊥) → (k ≡ 71 → ⊥) → Mine (kind_of k)
  unfolding kind_of pick
  plain_own k a b c d e = rw (ne_eqb _ _ a, ne_eqb _ _ b, ne_eqb _ _ c, ne_eqb _ _ d, ne_eqb _ _ e) (plain_of (eqb k 64) (eqb k 65) (eqb k 66))

each_store : (C : Contract) (j p q i : ℕ) (vs : List AtReg) → Each (spot_of C j) (plain p) (stores p q i vs)
unfolding stores spot_of
each_store C j p q i [] = each_none
each_store C j p q i (v ∷ vs) = each_more _ _ refl (each_store C j p q (suc i) vs)

count_length : (a k : ℕ) → length (count a k) ≡ k
unfolding count
count_length a zero = refl
count_length a (suc k) = ap suc (count_length (suc a) k)

-- What stands around one word.
around : {S : Type 0} {f : Open → S} {a : S} (xs ys : List Open) (c : Open) (i : ℕ) (w : Open) → Each f a xs → Each f a ys → (i ≡ length xs → ⊥) → nth i (xs ++ (c ∷ ys)) ≡ Some w → a ≡ f w
unfolding nth
around [] ys c zero w h g z e = absurd (z refl)
around [] ys c (suc i) w h g z e = each_at ys i w g e
around {S} {f} (x ∷ xs) ys c zero w (each_more _ _ y h) g z e = y ∙ ap f (some_same e)
around (x ∷ xs) ys c (suc i) w (each_more _ _ y h) g z e = around xs ys c i w h g (λ q. z (ap suc q)) e

-- 000: generate_expr, Call: behind the arguments
module _ (R : Rules) (C : Contract) (want p : ℕ) (name : List ℕ) (n k : ℕ) (q : k ≡ n - 1) (vs : List AtReg) (t : Tally) (end : ℕ) where
  abbrev rest : Unit {0} → Res (Out AtReg)
  rest u = ask (alloc_reg_lem (rules_of R) C p n) >>= λ d. say (pop p d ∷ []) >>= λ y. say (map (pop p) (reverse (count 1 (n - 1)))) >>= λ z. done (at d (suc d))

  abbrev passed : List Open
  passed = map (λ (v : AtReg). push p v.reg) vs

  rest_long : (u : Unit {0}) → Long (k + 1) (rest u)
  rest_long u =
      let l = length-map (reverse (count 1 (n - 1))) (pop p) ∙ length-reverse (count 1 (n - 1)) ∙ count_length 1 (n - 1) in
      long_asks _ (λ d. subst (λ (j : ℕ). Long j (say (pop p d ∷ []) >>= λ y. say (map (pop p) (reverse (count 1 (n - 1)))) >>= λ z. done (at d (suc d)))) (omega (arith, l, q)) (long_says (pop p d ∷ []) (λ y. long_says (map (pop p) (reverse (count 1 (n - 1)))) (λ z. long_done _))))

  rest_own : (u : Unit {0}) → Own (spot_of C want) (plain p) (rest u)
  unfolding spot_of
  rest_own u = own_asks _ (λ d. own_says (each_more _ _ refl each_none) (λ y. own_says (each_map (pop p) (reverse (count 1 (n - 1))) (λ x. refl)) (λ z. own_done _)))

  abbrev call_end : Res (Out AtReg)
  call_end = say passed >>= λ x. say (calls p name ∷ []) >>= rest

  -- the words, with the Call among them
  record CallWords (o : Out AtReg) : Type 0 where
    behind : List Open
    words : o.words ≡ passed ++ (calls p name ∷ behind)
    long : length behind ≡ k + 1
    own : Each (spot_of C want) (plain p) behind

  call_words : (o : Out AtReg) → call_end ≡ ok o → CallWords o
  unfolding say
  call_words o e =
      let a = split (say passed) (λ x. say (calls p name ∷ []) >>= rest) o e in
      let b = split (say (calls p name ∷ [])) rest a.two a.second in
      record {
        behind = b.two.words;
        words = a.words ∙ ap (λ (ws : List Open). ws ++ a.two.words) (sym (ap words_of a.first)) ∙ ap (λ (ws : List Open). passed ++ ws) (b.words ∙ ap (λ (ws : List Open). ws ++ b.two.words) (sym (ap words_of b.first)));
        long = (rest_long b.one.val).is b.two b.second;
        own = (rest_own b.one.val).each b.two b.second;
      }

  pub call_there : want + k + 2 ≡ end → Found (spot_of C want) call_end t end want (spot_of C want (calls p name))
  unfolding nth
  call_there h = record {
    is = λ fine o e z low le w x.
        let c = call_words o e in
        let l = ap length c.words in
        let m = length_calls c.behind in
        let i : want - t.n ≡ length passed + 0 = omega (arith, h, z, l, m, c.long) in
        ap (spot_of C want) (some_same (sym (nth_later passed (calls p name ∷ c.behind) 0) ∙ ap (λ (j : ℕ). nth j (passed ++ (calls p name ∷ c.behind))) (sym i) ∙ ap (λ (ws : List Open). nth (want - t.n) ws) (sym c.words) ∙ x));
  }
    where
      length_calls : (b : List Open) → length (passed ++ (calls p name ∷ b)) ≡ length passed + (length b + 1)
      length_calls b = omega (arith, length-append passed (calls p name ∷ b))

  pub call_elsewhere : (want + k + 2 ≡ end → ⊥) → Found (spot_of C want) call_end t end want (plain p)
  unfolding spot_of
  call_elsewhere h = record {
    is = λ fine o e z low le w x.
        let c = call_words o e in
        let l = ap length c.words in
        let m = length-append passed (calls p name ∷ c.behind) in
        around passed c.behind (calls p name) (want - t.n) w (each_map (λ (v : AtReg). push p v.reg) vs (λ v. refl)) c.own
        (λ i. h (omega (arith, i, z, l, m, c.long, le))) (ap (λ (ws : List Open). nth (want - t.n) ws) (sym c.words) ∙ x);
  }

-- Of equal spots.
pub is_found : {A : Type 0} {f : Open → Spot} {m : Res (Out A)} {s : Tally} {end want : ℕ} {a b : Spot} → a ≡ b → Found f m s end want a → Found f m s end want b
is_found {A} {f} {m} {s} {end} {want} e h = subst (λ (y : Spot). Found f m s end want y) e h

-- A list of parts, and the record's own words behind it.
list_own : {img scope : List ℕ} {R : Rules} {d want i end : ℕ} {r : Step} {m : Res (Out Regs)} {s : St} {a : Spot} → Listed img scope R d m i s want r → (k : Regs → Res (Out AtReg)) → ((v : Regs) → Own (told img want) (plain i) (k v))
    → Ans img scope R d want r a → Found (told img want) (m >>= k) (tally s) end want a
list_own {img} {scope} {R} {d} {want} {i} {end} (spots.within e f) k o h = f _ h k end
list_own {img} {scope} {R} {d} {want} {i} {end} (spots.past t e f) k o h = is_found (stays e h) (f _ k end (λ v u. found_own (o v)))

-- The List behind a Call's Name.
pub list_at : {img scope : List ℕ} {R : Rules} {d want i l x y : ℕ} {st : St} {r : Step} → l ≡ second img i → x ≡ inside img l → y ≡ after img l
    → Listed img scope R d (args img scope R (exprs_from 64 (expr_at d img) img x y) st) i st want r → Listed img scope R d (args img scope R (args_at_lem d img i) st) i st want r
list_at e f g h = rw (f, g, e) at h

-- The saves take no register.
pub at_saved : {img scope : List ℕ} {R : Rules} {d want i k : ℕ} {st b : St} {r : Step} → Saves st k b → Listed img scope R d (args img scope R (args_at_lem d img i) b) i b want r
    → Listed img scope R d (args img scope R (args_at_lem d img i) st) i b want r
at_saved {img} {scope} {R} {d} {want} {i} {k} {st} {b} {r} s h = subst (λ (n : ℕ). Listed img scope R d (gens (rules_of R) (contract_at img) (args_at_lem d img i) (scope_in img scope) n) i b want r) s.next h

-- Words that are all the record's own.
mine : {A : Type 0} {img scope : List ℕ} {R : Rules} {d want i end : ℕ} {r : Step} {m : Res (Out A)} {s : St} {a : Spot} {t : Tally} → r ≡ owned i s → Own (told img want) (plain i) m
    → Ans img scope R d want r a → Found (told img want) m t end want a
mine e o h = is_found (stays e h) (found_own o)

-- 000: generate_expr, Call: the saves
saving : {k : ℕ} {st b : St} (i : ℕ) → k ≡ st.next - 1 → Saves st k b → Goes (tally st) (tally b) tt (say (map (push i) (count 1 (st.next - 1))))
saving {k} {st} i q s = goes_words (map (push i) (count 1 (st.next - 1))) (length-map (count 1 (st.next - 1)) (push i) ∙ count_length 1 (st.next - 1) ∙ sym q) s.err s.sums

module _ {img scope : List ℕ} {R : Rules} {d want end i : ℕ} {st : St} {r : Step} where
  -- Binary
  pub binary_left : {x : ℕ} {t : St} → x ≡ inside img i → Counts img scope R d x st t → want < t.n → r ≡ into x t.n st → Leads img scope R d kBinary i st end want r
  unfolding expr_as gen
  binary_left e c l f = record { leads = λ a h. rw (← e) (into_first c l f h _) }

  pub binary_right : {x y z : ℕ} {t : St} → x ≡ inside img i → y ≡ after img x → z ≡ after img y → Counts img scope R d x st t → t.n ≤ want → Row img scope R d z i t want r
      → Leads img scope R d kBinary i st end want r
  unfolding expr_as gen spot_of
  binary_right e f g c l w = record {
    leads = λ a h. rw (← e, ← f, ← g) (found_later (told img want) _ c.goes l (row_own w _ (λ v. own_asks _ (λ q. own_says (each_more _ _ refl each_none) (λ u. own_done _))) h));
  }

  -- FieldAccess
  pub field_in : {x : ℕ} → x ≡ inside img i → Row img scope R d x i st want r → Leads img scope R d kAccess i st end want r
  unfolding expr_as gen spot_of
  field_in e w = record { leads = λ a h. rw (← e) (row_own w _ (λ v. own_asks _ (λ q. own_says (each_more _ _ refl each_none) (λ u. own_done _))) h) }

  -- MappingRead
  pub mapping_in : {x y : ℕ} → x ≡ inside img i → y ≡ after img x → Row img scope R d y i st want r → Leads img scope R d kMapping i st end want r
  unfolding expr_as gen spot_of
  mapping_in e f w = record {
    leads = λ a h. rw (← e, ← f) (found_asked _ (λ k. row_own w _ (λ v.
        own_asks _ (λ b. own_says (each_more _ _ refl each_none) (λ u. own_asks _ (λ t. own_says (each_more _ _ refl each_none) (λ y. own_asks _ (λ q. own_says (each_more _ _ refl each_none) (λ z. own_done _))))))) h));
  }

  -- StructLiteral
  pub literal_first : {a q s : St} → Takes R st a i → Keeps a q → want < q.n → r ≡ owned i s → Leads img scope R d kLiteral i st end want r
  unfolding expr_as gen spot_of
  literal_first t k l e = record {
    leads = λ y h. is_found (stays e h) (fresh_own (told img want) _ (λ z. add i z (suc R.free) 0) _ (takes_fresh (contract_at img) _ t k) (λ z. refl) l);
  }

  pub literal_in : {l x y : ℕ} {a q : St} → l ≡ second img i → x ≡ inside img l → y ≡ after img l → Takes R st a i → Keeps a q → q.n ≤ want
      → Listed img scope R d (inits img scope R (inits_from 64 (expr_at d img) img x y) q) i q want r → Leads img scope R d kLiteral i st end want r
  unfolding expr_as gen spot_of
  literal_in {l} {x} {y} {a} {q} e f g t k b w = record {
    leads = λ z h.
        let n : q.next ≡ suc (a.reg % 256) = k.next ∙ t.next in
        fresh_past (told img want) _ (λ z. add i z (suc R.free) 0) _ (takes_fresh (contract_at img) _ t k) b (rw (← e, ← f, ← g, ← n) (list_own w _ (λ v.
        own_says (each_store (contract_at img) want i _ 0 _) (λ u. own_asks _ (λ z. own_says (each_more _ _ refl (each_more _ _ refl each_none)) (λ w. own_asks _ (λ t. own_says (each_more _ _ refl each_none) (λ o. own_done _)))))) h));
  }

  -- Call
  pub call_in : {x : ℕ} {b : Option Builtin} → x ≡ inside img i → b ≡ builtin (name_at img x) → Calls img scope R d i st end want b r → Leads img scope R d kCall i st end want r
  unfolding expr_as gen
  call_in e f h =
      let g = subst (λ (b : Option Builtin). Calls img scope R d i st end want b r) (f ∙ ap (λ (y : ℕ). builtin (name_at img y)) e) h in
      record { leads = λ a j. g.leads a j }

  pub poseidon_in : Listed img scope R d (args img scope R (args_at_lem d img i) st) i st want r → Calls img scope R d i st end want (Some Builtin.poseidon) r
  unfolding gen_call spot_of
  poseidon_in w = record { leads = λ a h. list_own w _ (λ v. own_asks _ (λ q. own_says (each_more _ _ refl each_none) (λ u. own_done _))) h }

  pub merkle_in : Listed img scope R d (args img scope R (args_at_lem d img i) st) i st want r → Calls img scope R d i st end want (Some Builtin.merkle) r
  unfolding gen_call spot_of
  merkle_in w = record { leads = λ a h. list_own w _ (λ v. own_asks _ (λ q. own_says (each_more _ _ refl each_none) (λ u. own_done _))) h }

  pub sender_own : {s : St} → r ≡ owned i s → Calls img scope R d i st end want (Some Builtin.sender) r
  unfolding gen_call spot_of
  sender_own e = record { leads = λ a h. mine e (own_asks _ (λ q. own_says (each_more _ _ refl each_none) (λ u. own_done _))) h }

  pub nonce_own : {s : St} → r ≡ owned i s → Calls img scope R d i st end want (Some Builtin.nonce) r
  unfolding gen_call spot_of
  nonce_own e = record { leads = λ a h. mine e (own_asks _ (λ q. own_says (each_more _ _ refl each_none) (λ u. own_done _))) h }

  pub number_own : {s : St} → r ≡ owned i s → Calls img scope R d i st end want (Some Builtin.block-number) r
  unfolding gen_call spot_of
  number_own e = record { leads = λ a h. mine e (own_asks _ (λ q. own_says (each_more _ _ refl each_none) (λ u. own_done _))) h }

  -- of a function: the saves
  pub user_first : {k : ℕ} {b x : St} → k ≡ st.next - 1 → Saves st k b → want < b.n → r ≡ owned i x → Calls img scope R d i st end want None r
  unfolding gen_call spot_of
  user_first q s l e = record {
    leads = λ a h. is_found (stays e h) (found_first (told img want) _ (saving i q s) l (found_own (own_say (each_map (push i) (count 1 (st.next - 1)) (λ x. refl)))));
  }

  -- the arguments
  pub user_in : {k : ℕ} {b : St} → k ≡ st.next - 1 → Saves st k b → b.n ≤ want → r.way ≡ way.Value → Listed img scope R d (args img scope R (args_at_lem d img i) st) i b want r → Calls img scope R d i st end want None r
  unfolding gen_call
  user_in q s l e (spots.within f g) = record { leads = λ a h. found_later (told img want) _ (saving i q s) l (g a h _ end) }
  user_in q s l e (spots.past t f g) = absurd (omega (arith, ap (tag_of the_type) (sym (ap (λ (x : Step). x.way) f) ∙ e)))

  -- the Call
  pub user_call : {k x g : ℕ} {b z : St} {w : Step} → k ≡ st.next - 1 → Saves st k b → b.n ≤ want → (w.way ≡ way.Value → ⊥) → Listed img scope R d (args img scope R (args_at_lem d img i) st) i b want w
      → eqb (want + k + 2) end ≡ true → x ≡ inside img i → g ≡ function_in img (name_at img x) → r ≡ calling i g z → Calls img scope R d i st end want None r
  unfolding gen_call spot_of
  user_call q s l n (spots.within f h) m e v c = absurd (n f)
  user_call {k} {x} {g} q s l n (spots.past t f h) m e v c = record {
    leads = λ a j.
        let same : called i (function_in img (name_in img i)) ≡ a = ap (called i) (sym (rw e at v)) ∙ makes_call c j in
        is_found same (found_later (told img want) _ (saving i q s) l (h _ _ end (λ u o.
        call_there R (contract_at img) want i (name_in img i) st.next k q u.regs o end (eqb-true _ _ m))));
  }

  -- and what stands around it
  pub user_own : {k : ℕ} {b z : St} {w : Step} → k ≡ st.next - 1 → Saves st k b → b.n ≤ want → (w.way ≡ way.Value → ⊥) → Listed img scope R d (args img scope R (args_at_lem d img i) st) i b want w
      → eqb (want + k + 2) end ≡ false → r ≡ owned i z → Calls img scope R d i st end want None r
  unfolding gen_call
  user_own q s l n (spots.within f h) m c = absurd (n f)
  user_own {k} q s l n (spots.past t f h) m c = record {
    leads = λ a j. is_found (stays c j) (found_later (told img want) _ (saving i q s) l (h _ _ end (λ u o.
        call_elsewhere R (contract_at img) want i (name_in img i) st.next k q u.regs o end (eqb-false _ _ m))));
  }

  -- by its kind
  pub kind_in : {k : ℕ} (K : Kind) → k ≡ kind_at img i → kind_of k ≡ K → Leads img scope R d K i st end want r → Steps img scope R d i st end want r
  unfolding expr_at
  kind_in K e f h = record { leads = λ a g. rw (← e, f) (h.leads a g) }

  pub kind_own : {k : ℕ} {s : St} → k ≡ kind_at img i → (k ≡ 67 → ⊥) → (k ≡ 68 → ⊥) → (k ≡ 69 → ⊥) → (k ≡ 70 → ⊥) → (k ≡ 71 → ⊥) → r ≡ owned i s → Steps img scope R d i st end want r
  unfolding expr_at
  kind_own {k} e a b c f g q = record { leads = λ y h. rw (← e) (mine q (plain_own R (contract_at img) img (expr_at d img) i (scope_in img scope) st.next want k a b c f g) h) }
