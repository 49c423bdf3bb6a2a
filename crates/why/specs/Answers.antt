-- How the walk's spot becomes the answer.
--     entry_own, exit_own, inside      a function: its first words, its last five, its statements
--     opened_main, opened_plain, opened_in      a word of the program
--     why_refused, why_past, why_word           the answer behind analysis; few_words, some_function: of what was generated
--     whole_refused, whole_generated            the whole answer
-- Assumes nothing.
use Rattle.std.specs.Prelude.{◌≡◌, Bool, leb, ltb, take, None, Option, Some}
use Rattle.std.proofs.Math.Path.{refl, sym, ap}
use Rattle.std.proofs.Common.{◌∙◌, subst, arith, get_or-take, lt-ltb, leb-true, leb-false}
use Rattle.std.proofs.Math.Bool.{true, false}
use mathlib.Core.List.{List, [], ◌∷◌, ◌++◌, map, reverse}
use Prim.Native.Nat.{ℕ, zero, suc, ◌+◌, ◌-◌, ◌%◌, ◌≤◌, ◌<◌}
use Rattle.std.proofs.Math.ListN.{length, get_or}
use Rattle.std.proofs.lemmas.List.{length-map, length-reverse}
use Rattle.rules.specs.declared.Answer.{Answer}
use Rattle.rules.specs.declared.Why.{Why}
use Rattle.rules.specs.Bytes.{pick, Name}
use Rattle.rules.specs.Tables.{last, last_index, mapped, nth}
use Rattle.rules.specs.Tree.{Field, Function, Contract}
use Rattle.rules.specs.Read.{stmt_at_lem, body_at, fifth, function_at, contract_at}
use Rattle.rules.specs.Check.{check_of}
use Rattle.rules.specs.Refusal as closed
use Rattle.rules.specs.Refusal.{Refusal, Res, ok, bad, refused, number_of, place_of}
use Rattle.rules.specs.Analyse.{function_name}
use Rattle.rules.specs.Builtins.{main}
use Rattle.rules.specs.Machine.{Entry}
use Rattle.rules.specs.Emit as target
use Rattle.rules.specs.Emit.{Open, word, calls, bind, pop, push, load, ret}
use Rattle.rules.specs.Generate.{alloc_reg_lem, function}
use Rattle.rules.specs.Link.{Built, Program, functions, link, opening, generate}
use Rattle.rules.specs.Build.{rules, judged, analysis_answer}
use Rattle.rules.specs.Why.{mark_of, target_of, marked, marked_of, because, word_why, why_in, why_of}
use Rattle.bounds.specs.Answers.{All, from_ok}
use Rattle.bounds.specs.Said.{said_all}
use Rattle.bounds.specs.SaidProgram.{Of}
use Rattle.bounds.specs.Programs.{Bounded}
use Rattle.bounds.proofs.Programs.{generated}
use Rattle.bounds.proofs.Refused.{judged_plain}
use Rattle.bounds.specs.Held.{Opt, last_index_low}
use Rattle.bounds.specs.Cuts as cuts
use Rattle.tables.specs.Listed.{functions_in}
use Rattle.emit.specs.declared.St.{St}
use Rattle.emit.specs.declared.Rules.{Rules}
use Rattle.emit.specs.Steps.{Out, ◌>>=◌, say, ask, Here, gen_params, gen_stmts_lem, gen_function_lem}
use Rattle.emit.specs.Laws.{as_out}
use Rattle.emit.specs.Same.{logged, function_same}
use Rattle.emit.specs.Sinks.{Sinks, sinks}
use Rattle.emit.specs.Ran.{raw, or_first, Tally}
use Rattle.emit.specs.State.{rules_of, tally, moved, Takes, Keeps}
use Rattle.expr.specs.Scope.{scope_in}
use Rattle.sema.specs.Entry.{Passed}
use Rattle.codegen.specs.Does.{regs_in, Bound, finish}
use Rattle.codegen.proofs.Pieces.{length_regs}
use Rattle.codegen.proofs.Whole.{link_length}
use Rattle.compiler.specs.Made.{firsts_of}
use Rattle.compiler.proofs.Making.{no_refusal, sound_of, make_fine}
use Rattle.compiler.specs.Stages.{Makes, made, not_made}
use Rattle.seek.specs.declared.Spot.{Spot}
use Rattle.seek.specs.Goes.{Goes, IsOk, ran_goes, goes_word, goes_words}
use Rattle.seek.specs.Found.{nth_later, nth_low, some_same, Found, found_first, found_later, found_front, found_back, each_none, each_more, each_map, Own, found_own, own_say, own_done, own_then, own_asks, own_says, Long, long_done, long_says, long_asks}
use Rattle.seek.specs.Spots.{plain, called, spot_of, told, Saves}
use Rattle.trace.specs.Moves.{Blocks}
use Rattle.why.specs.Tells.{refusing, target_in, leads_to, start, InFunction, Lies, Opened}
use Rattle.why.specs.Parts.{linked_marked, marked_is, marked_some, part, table_length, first_is, targets}

-- The state before a function's first word.
abbrev pub begin : ℕ → St
begin n = record { next = 1; reg = 0; err = 0; place = 0; n = n }

-- Words of the record itself first, then what follows.
own_then_found : {A B S : Type 0} (f : Open → S) {s r : Tally} {v : A} {m : Res (Out A)} {end want : ℕ} {a : S} (k : A → Res (Out B)) → Goes s r v m → Own f a m → (r.n ≤ want → Found f (k v) r end want a) → Found f (m >>= k) s end want a
own_then_found f {s} {r} {v} {m} {end} {want} {a} k g o h = go (leb r.n want) refl
  where
    go : (b : Bool) → leb r.n want ≡ b → Found f (m >>= k) s end want a
    go true e = found_later f k g (leb-true _ _ e) (h (leb-true _ _ e))
    go false e = found_first f k g (leb-false _ _ e) (found_own o)

own_ask : {A S : Type 0} {f : Open → S} {a : S} (m : Res A) → Own f a (ask m)
unfolding ask
own_ask (ok v) = own_done v
own_ask (bad q) = record { each = λ o e. absurd (subst IsOk (sym e) tt) }

-- Parameters take registers and add no word.
own_params : {S : Type 0} {f : Open → S} {a : S} (R : target.Rules) (C : Contract) (p : ℕ) (xs : List Field) (n : ℕ) → Own f a (gen_params R C p xs n)
unfolding gen_params
own_params R C p [] n = own_done _
own_params R C p (x ∷ xs) n = own_asks _ (λ r. own_then (own_params R C p xs (suc r)) (λ v. own_done _))

-- A function up to its statements: a register, its Pop, the parameters, their Pops, the Push.
pub record Enters (img : List ℕ) (R : Rules) (f first : ℕ) (a p b q u : St) (s : List ℕ) : Type 0 where
  pub takes : Takes R (begin first) a f
  pub pops : Keeps a p
  pub bound : Bound R img f p b s
  pub params : Saves b (get_or s 0 0) q
  pub pushes : Keeps q u

module _ {img : List ℕ} {R : Rules} {f first : ℕ} {a p b q u : St} {s : List ℕ} (E : Enters img R f first a p b q u s) where
  abbrev ends : Here → Res (Out (Unit {0}))
  ends d = finish (rules_of R) (contract_at img) f d.next

  abbrev body : Res (Out Here)
  body = gen_stmts_lem (rules_of R) (contract_at img) (function_at img f).body (bind (function_at img f).params (regs_in s) []) (suc (a.reg % 256) + length (regs_in s))

  ends_long : (d : Here) → Long 5 (ends d)
  unfolding finish
  ends_long d = long_asks _ (λ x. long_says (pop f x ∷ []) (λ u. long_asks _ (λ z. long_says (load f z 0 ∷ push f z ∷ push f x ∷ ret f ∷ []) (λ w. long_done _))))

  ends_own : (want : ℕ) (d : Here) → Own (told img want) (plain f) (ends d)
  unfolding finish spot_of
  ends_own want d = own_asks _ (λ x. own_says (each_more _ _ refl each_none) (λ u. own_asks _ (λ z. own_says (each_more _ _ refl (each_more _ _ refl (each_more _ _ refl (each_more _ _ refl each_none)))) (λ w. own_done _))))

  -- how far each of them goes
  goes_first : Goes (start first) (tally a) (a.reg % 256) (ask (alloc_reg_lem (rules_of R) (contract_at img) f 1))
  goes_first = ran_goes (raw (contract_at img)) (E.takes.ran (contract_at img) (sinks [] []))

  goes_params : Goes (tally p) (tally b) (regs_in s) (gen_params (rules_of R) (contract_at img) f (function_at img f).params (suc (a.reg % 256)))
  goes_params =
      let e : p.next ≡ suc (a.reg % 256) = E.pops.next ∙ E.takes.next in
      rw (← e) (ran_goes (raw (contract_at img)) (E.bound.ran (contract_at img) (sinks [] [])))

  goes_pops : Goes (tally b) (tally q) tt (say (map (pop f) (reverse (regs_in s))))
  goes_pops = goes_words (map (pop f) (reverse (regs_in s))) (length-map (reverse (regs_in s)) (pop f) ∙ length-reverse (regs_in s) ∙ length_regs s (get_or s 0 0)) E.params.err E.params.sums

  -- its first words are its own
  pub entry_own : {want end : ℕ} → want < u.n → InFunction img R f first end want (plain f)
  unfolding gen_function_lem function_at spot_of
  entry_own {want} l = record {
    found = own_then_found (told img want) _ goes_first (own_ask _) (λ _.
        own_then_found (told img want) _ (goes_word (pop f (a.reg % 256)) E.pops.reserved) (own_say (each_more _ _ refl each_none)) (λ _.
        own_then_found (told img want) _ goes_params (own_params (rules_of R) (contract_at img) f (function_at img f).params _) (λ _.
        own_then_found (told img want) _ goes_pops (own_say (each_map (pop f) (reverse (regs_in s)) (λ x. refl))) (λ _.
        own_then_found (told img want) _ (goes_word (push f (a.reg % 256)) E.pushes.reserved) (own_say (each_more _ _ refl each_none)) (λ m. absurd (omega (arith, l, m)))))));
  }

  -- what is found behind them is found in the function
  entered : {want end : ℕ} {w : Spot} → u.n ≤ want → Found (told img want) (body >>= ends) (tally u) end want w → InFunction img R f first end want w
  unfolding gen_function_lem function_at finish
  entered {want} l h =
      let y1 = E.pushes.reserved.grows in
      let y2 = E.params.sums.grows in
      let y3 = (E.bound.ran (contract_at img) (sinks [] [])).grows in
      let y4 = E.pops.reserved.grows in
      record {
        found = found_later (told img want) _ goes_first (omega (arith, l, y1, y2, y3, y4))
            (found_later (told img want) _ (goes_word (pop f (a.reg % 256)) E.pops.reserved) (omega (arith, l, y1, y2, y3))
            (found_later (told img want) _ goes_params (omega (arith, l, y1, y2))
            (found_later (told img want) _ goes_pops (omega (arith, l, y1))
            (found_later (told img want) _ (goes_word (push f (a.reg % 256)) E.pushes.reserved) l h))));
      }

  -- its last five are its own
  pub exit_own : {want end : ℕ} → u.n ≤ want → leb end (want + 5) ≡ true → InFunction img R f first end want (plain f)
  exit_own {want} {end} l e = entered l (found_back (told img want) body ends 5 ends_long (leb-true end (want + 5) e) (ends_own want))

  -- between them stand its statements
  pub inside : {want end l : ℕ} {w : Spot} {x : St} → u.n ≤ want → leb end (want + 5) ≡ false → l ≡ fifth img f → x ≡ moved u 0 (a.reg % 256 + 1 + get_or s 0 0) → Blocks img s R 64 l x (end - 5) want w → InFunction img R f first end want w
  unfolding function_at
  inside {want} {end} {l} {w} {x} m e g n h =
      let c = E.bound.scope in
      let z : suc (a.reg % 256) + length (regs_in s) ≡ a.reg % 256 + 1 + get_or s 0 0 = omega (arith, length_regs s (get_or s 0 0)) in
      entered m (found_front (told img want) body ends 5 ends_long (leb-false end (want + 5) e)
      (rw (z, ← c, ← g) (subst (λ (y : St). Found (told img want) (gen_stmts_lem (rules_of R) (contract_at img) (body_at (stmt_at_lem 64 img) img l) (scope_in img s) y.next) (tally y) (end - 5) want w) n h.found)))

-- The opening, of the Contract.
pub opened_main : {img : List ℕ} {R : Rules} {F : List ℕ} {n want : ℕ} {a : Spot} → want ≡ 1 → a ≡ called 0 (or_first (last_index function_name 0 main (contract_at img).functions)) → Opened img R F n want a
unfolding opening nth spot_of
opened_main {img} {R} {F} {n} {want} {a} e g = record {
  spot = λ b m l low t w q.
      let k = marked_is (rules_of R) (contract_at img) b m in
      g ∙ ap (told img want) (some_same (ap (λ (i : ℕ). nth i (opening (rules_of R) ++ k.rest.code)) (sym e) ∙ ap (nth want) (sym k.code) ∙ q));
}

pub opened_plain : {img : List ℕ} {R : Rules} {F : List ℕ} {n want : ℕ} {a : Spot} → want < 3 → (want ≡ 1 → ⊥) → a ≡ plain 0 → Opened img R F n want a
unfolding opening nth spot_of
opened_plain {img} {R} {F} {n} {want} {a} l z g = record {
  spot = λ b m y low t w q. let k = marked_is (rules_of R) (contract_at img) b m in g ∙ go want l z w k.rest.code (ap (nth want) (sym k.code) ∙ q);
}
  where
    go : (i : ℕ) → i < 3 → (i ≡ 1 → ⊥) → (w : Open) (r : List Open) → nth i (opening (rules_of R) ++ r) ≡ Some w → plain 0 ≡ told img want w
    go zero l z w r q = ap (told img want) (some_same q)
    go (suc zero) l z w r q = absurd (z refl)
    go (suc (suc zero)) l z w r q = ap (told img want) (some_same q)
    go (suc (suc (suc i))) l z w r q = absurd (omega (arith, l))

-- F has the first words of the table.
placed : (F : List ℕ) (T : List Entry) → take (length T) F ≡ firsts_of T → (k : ℕ) → k < length T → get_or F k 0 ≡ get_or (firsts_of T) k 0
placed F T e k l = sym (get_or-take (length T) F k 0 l) ∙ ap (λ (m : List ℕ). get_or m k 0) e

-- The function starts at the word or before it.
least_of : (F : List ℕ) (k want : ℕ) → ((k ≡ 0 → ⊥) → get_or F k 0 ≤ want) → get_or F 0 0 ≡ 3 → 3 ≤ want → get_or F k 0 ≤ want
least_of F zero want h e l = omega (arith, e, l)
least_of F (suc k) want h e l = h (λ z. omega (arith, z))

-- It ends where the next one starts, or with the program, and that is behind the word.
past_of : (k c n e s l x w : ℕ) → ((k + 1 < c → e ≡ x) × (c ≤ k + 1 → e ≡ n)) → (k + 1 < c → x ≡ s + l) → (c ≤ k + 1 → n ≡ s + l) → (k + 1 < c → w < x) → w < n → (e ≡ s + l) × (w < e)
past_of k c n e s l x w h a b d f = go (leb c (k + 1)) refl
  where
    go : (t : Bool) → leb c (k + 1) ≡ t → (e ≡ s + l) × (w < e)
    go true q = let z = leb-true c (k + 1) q in (h.1 z ∙ b z, omega (arith, f, h.1 z))
    go false q = let z = leb-false c (k + 1) q in (h.0 z ∙ a z, omega (arith, d z, h.0 z))

-- A word behind the opening, of the function that it lies in.
pub opened_in : {img : List ℕ} {R : Rules} {F : List ℕ} {n want k count f first end : ℕ} {a : Spot} → 3 ≤ want → count ≡ length (functions_in img) → 0 < length (functions_in img) → Lies F count want k
    → f ≡ get_or (functions_in img) k 0 → first ≡ get_or F k 0 → ((k + 1 < count → end ≡ get_or F (k + 1) 0) × (count ≤ k + 1 → end ≡ n)) → InFunction img R f first end want a → Opened img R F n want a
unfolding contract_at opening as_out
opened_in {img} {R} {F} {n} {want} {k} {count} {f} {first} {end} {a} low hc one L hf hs he I = record {
  spot = λ b m l few t w q.
      let M = marked_is (rules_of R) (contract_at img) b m in
      let ps = functions_in img in
      let kc : k < length ps = omega (arith, L.within (omega (arith, hc, one)), hc) in
      let P = part (rules_of R) (contract_at img) img 3 ps M.rest k M.is kc in
      let tl = table_length (rules_of R) (contract_at img) img 3 ps M.rest M.is in
      let T : take (length M.rest.table) F ≡ firsts_of M.rest.table = subst (λ (y : List Entry). take (length y) F ≡ firsts_of y) M.table t in
      let z = placed F M.rest.table T k (omega (arith, tl, kc)) in
      let o = placed F M.rest.table T 0 (omega (arith, tl, one)) ∙ first_is (rules_of R) (contract_at img) img 3 ps M.rest M.is one in
      let least = least_of F k want L.least o low in
      let cl : length b.code ≡ suc (suc (suc (length M.rest.code))) = ap length M.code in
      let y = nth_low b.code want w q in
      let k1 : suc k ≡ k + 1 = omega arith in
      let ends = past_of k count n end first (length P.words) (get_or F (k + 1) 0) want he
      (λ j. ap (λ (i : ℕ). get_or F i 0) (sym k1) ∙ placed F M.rest.table T (suc k) (omega (arith, tl, hc, j)) ∙ P.next (omega (arith, hc, j)) ∙ omega (arith, z, hs))
      (λ j. omega (arith, l, cl, z, hs, P.last (omega (arith, hc, j, kc)))) L.most (omega (arith, y, l)) in
      let d : want - 3 ≡ get_or (firsts_of M.rest.table) k 0 - 3 + (want - first) = omega (arith, low, least, hs, z, P.base) in
      let e3 : 3 + (want - 3) ≡ want = omega (arith, low) in
      I.found.is refl (record { val = tt; words = P.words })
      (function_same (rules_of R) (contract_at img) (function_at img f) ∙ ap (as_out (logged (rules_of R) (contract_at img))) (ap (λ (g : ℕ). function (rules_of R) (contract_at img) (function_at img g)) hf ∙ P.is))
      ends.0 (omega (arith, ends.0, few, l, cl, z, hs, P.fits)) (omega (arith, least, hs)) w
      (sym (P.inside (want - first) (omega (arith, ends.0, ends.1, least, hs))) ∙ ap (λ (i : ℕ). nth i M.rest.code) (sym d)
      ∙ sym (nth_later (opening (rules_of R)) M.rest.code (want - 3)) ∙ ap (λ (i : ℕ). nth i (opening (rules_of R) ++ M.rest.code)) e3 ∙ ap (nth want) (sym M.code) ∙ q);
}

-- The word at an index, and none past the last.
pub record WordAt (ws : List Open) (i : ℕ) : Type 0 where
  pub word : Open
  pub is : nth i ws ≡ Some word

nth_some : (ws : List Open) (i : ℕ) → i < length ws → WordAt ws i
unfolding nth
nth_some [] i l = absurd (omega (arith, l))
nth_some (o ∷ ws) zero l = record { word = o; is = refl }
nth_some (o ∷ ws) (suc i) l = let w = nth_some ws i (omega (arith, l)) in record { word = w.word; is = w.is }

nth_past : (ws : List Open) (i : ℕ) → length ws ≤ i → nth i ws ≡ None
unfolding nth
nth_past [] i l = refl
nth_past (o ∷ ws) zero l = absurd (omega (arith, l))
nth_past (o ∷ ws) (suc i) l = nth_past ws i (omega (arith, l))

count_of : (img : List ℕ) → length (contract_at img).functions ≡ length (functions_in img)
unfolding contract_at
count_of img = length-map (functions_in img) (function_at img)

table_of : (img : List ℕ) (b : Built) → functions rules (contract_at img) 3 (contract_at img).functions ≡ ok b → length b.table ≡ length (contract_at img).functions
unfolding contract_at
table_of img b e = table_length rules (contract_at img) img 3 (functions_in img) b e ∙ sym (count_of img)

-- F has the first word of each function, by its index.
same_targets : (img F : List ℕ) (b : Built) → marked rules (contract_at img) ≡ ok b → take (length b.table) F ≡ firsts_of b.table → (x : Name)
    → mapped (λ (e : Entry). e.first) (last (λ (e : Entry). e.name) x b.table) ≡ mapped (λ (k : ℕ). get_or F k 0) (last_index (λ (f : Function). f.name) 0 x (contract_at img).functions)
same_targets img F b e t x =
    let M = marked_is rules (contract_at img) b e in
    let T : take (length M.rest.table) F ≡ firsts_of M.rest.table = subst (λ (y : List Entry). take (length y) F ≡ firsts_of y) M.table t in
    let tl = table_of img M.rest M.is in
    ap (λ (T : List Entry). mapped (λ (e : Entry). e.first) (last (λ (e : Entry). e.name) x T)) M.table
    ∙ targets rules (contract_at img) x F 3 0 (contract_at img).functions M.rest M.is (λ i y. let z : 0 + i ≡ i = omega arith in ap (λ (n : ℕ). get_or F n 0) z ∙ placed F M.rest.table T i (omega (arith, tl, y)))

-- A spot says what the definition says of its word.
module _ (C : Contract) (T : List Entry) (F : List ℕ) (few : length C.functions ≤ 256)
    (same : (x : Name) → mapped (λ (e : Entry). e.first) (last (λ (e : Entry). e.name) x T) ≡ mapped (λ (k : ℕ). get_or F k 0) (last_index (λ (f : Function). f.name) 0 x C.functions)) where
  called_at : (o : Option ℕ) → Opt (λ k. k < 0 + length C.functions) o → pick (ltb (or_first o) 256) (Some (get_or F (or_first o) 0)) None ≡ mapped (λ (k : ℕ). get_or F k 0) o
  unfolding pick or_first mapped
  called_at None h = refl
  called_at (Some k) h = rw (lt-ltb k 256 (omega (arith, h, few))) refl

  spot_why : (i : ℕ) (w : Open) → because 0 (spot_of C i w).place (target_in F (spot_of C i w)) ≡ because 0 (mark_of w) (target_of T i w)
  unfolding spot_of leads_to pick mark_of target_of
  spot_why i (word p false w) = refl
  spot_why i (word p true w) = refl
  spot_why i (calls p f) = ap (because 0 p) (called_at (last_index (λ (g : Function). g.name) 0 f C.functions) (last_index_low (λ (g : Function). g.name) 0 f C.functions) ∙ sym (same f))

-- What generation's answer says of the marked words.
record Fine (C : Contract) (F : List ℕ) (a : Answer) (b : Built) : Type 0 where
  is : marked rules C ≡ ok b
  zero : a.refusal ≡ 0
  count : a.count ≡ length b.code
  firsts : take (length b.table) F ≡ firsts_of b.table

module _ {img : List ℕ} {c c' : Sinks} {a : Answer} {F t : List ℕ} (h : Makes img c a c' F t (generate rules (contract_at img))) where
  -- by cases of the marked words
  by_marks : {P : Type 0} → ((b : Built) → Fine (contract_at img) F a b → P) → ((q : Refusal) → marked rules (contract_at img) ≡ bad q → a ≡ refused q → (a.refusal ≡ 0 → ⊥) → P) → P
  unfolding closed.◌>>=◌
  by_marks {P} f g = go (marked rules (contract_at img)) refl (subst (λ (m : Res Program). Makes img c a c' F t m) (linked_marked rules (contract_at img)) h)
    where
      go : (m : Res Built) → marked rules (contract_at img) ≡ m → Makes img c a c' F t (closed.◌>>=◌ m (λ b. ok (record { words = link b.table 0 b.code; table = b.table }))) → P
      go (ok b) e (made _ k s) = f b (record { is = e; zero = ap (λ (x : Answer). x.refusal) k.is; count = ap (λ (x : Answer). x.count) k.is ∙ link_length b.table 0 b.code; firsts = k.firsts })
      go (bad q) e (not_made _ k s) = g q e k.is k.numbered

  pub why_refused : (index : ℕ) {r : Why} → (a.refusal ≡ 0 → ⊥) → r ≡ refusing a → r ≡ why_in index (marked rules (contract_at img))
  unfolding why_in because number_of place_of
  why_refused index z e = by_marks (λ b k. absurd (z k.zero))
      (λ q m n y. e ∙ ap refusing n ∙ sym (ap (why_in index) m))

  -- 02: 53
  pub why_past : (index : ℕ) {r : Why} → a.refusal ≡ 0 → a.count ≤ index → r ≡ because 53 0 None → r ≡ why_in index (marked rules (contract_at img))
  unfolding why_in word_why
  why_past index z l e = by_marks (λ b k. e ∙ sym (ap (why_in index) k.is ∙ ap (word_why b.table index) (nth_past b.code index (omega (arith, l, k.count)))))
      (λ q m n y. absurd (y z))

  pub why_word : (index : ℕ) (R : Rules) {s : Spot} {r : Why} → rules_of R ≡ rules → a.refusal ≡ 0 → index < a.count → a.count < 4294967295 → Opened img R F a.count index s → r ≡ because 0 s.place (target_in F s)
      → r ≡ why_in index (marked rules (contract_at img))
  unfolding why_in word_why
  why_word index R {s} {r} f z l low o e = by_marks (λ b k.
      let w = nth_some b.code index (omega (arith, l, k.count)) in
      let m = o.spot b (ap (λ (x : target.Rules). marked x (contract_at img)) f ∙ k.is) k.count low k.firsts w.word w.is in
      e ∙ ap (λ (x : Spot). because 0 x.place (target_in F x)) m ∙ spot_why (contract_at img) b.table F (cuts.cut img).functions (same_targets img F b k.is k.firsts) index w.word
      ∙ sym (ap (why_in index) k.is ∙ ap (word_why b.table index) w.is))
      (λ q m n y. absurd (y z))

  -- there are few words
  pub few_words : Passed img → a.refusal ≡ 0 → a.count < 1048576
  unfolding rules
  few_words p z =
      let w = make_fine h z in
      let s = sound_of (check_of img) p in
      let b = from_ok (subst (All (λ (P : Program). Bounded P)) w.is (generated rules (omega arith) img s.end s.names s.is)) in
      omega (arith, ap (λ (x : Answer). x.count) w.holds.is, b.short)

  -- there is a function
  pub some_function : a.refusal ≡ 0 → 0 < length (functions_in img)
  some_function z = by_marks (λ b k. omega (arith, marked_some rules (contract_at img) b k.is, count_of img)) (λ q m n y. absurd (y z))

-- The whole answer: what the front refuses, or what generation comes to.
module _ (img : List ℕ) (index : ℕ) {a : Answer} (h : a ≡ analysis_answer (judged img)) where
  pub whole_refused : {r : Why} → (a.refusal ≡ 0 → ⊥) → r ≡ refusing a → r ≡ why_of img index
  unfolding why_of marked_of why_in because number_of place_of analysis_answer closed.◌>>=◌
  whole_refused {r} z e = e ∙ go (judged img) h
    where
      go : (m : Res Contract) → a ≡ analysis_answer m → refusing a ≡ why_in index (closed.◌>>=◌ m (marked rules))
      go (ok C) q = absurd (z (ap (λ (x : Answer). x.refusal) q))
      go (bad q) y = ap refusing y

  -- behind the front the contract is the image's
  pub whole_generated : {r : Why} → a.refusal ≡ 0 → r ≡ why_in index (marked rules (contract_at img)) → r ≡ why_of img index
  unfolding why_of marked_of closed.◌>>=◌ analysis_answer
  whole_generated {r} z e = e ∙ go (judged img) refl (said_all (judged_plain img))
    where
      go : (m : Res Contract) → judged img ≡ m → All (Of img) m → why_in index (marked rules (contract_at img)) ≡ why_in index (closed.◌>>=◌ m (marked rules))
      go (ok C) q l = ap (λ (D : Contract). why_in index (marked rules D)) (sym (from_ok l).is)
      go (bad q) y l = absurd (no_refusal img q (sym y) (h ∙ ap analysis_answer y) z)
