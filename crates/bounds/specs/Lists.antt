-- The lists of a tree over the places of their records; and that places that are all there are the same with any bound.
-- Assumes nothing.
use Rattle.std.specs.Prelude.{◌≡◌, refl, Bool, true, false, List, [], ◌∷◌, ℕ, zero, suc, ◌+◌, ◌≤◌, ltb, length}
use Rattle.std.proofs.Common.{ap, ◌∙◌, arith}
use Rattle.rules.specs.Bytes.{after}
use Rattle.rules.specs.Tree.{Expr, Exprs, Inits, Stmt, Stmts}
use Rattle.rules.specs.Read.{when, second, name_in, places_from, exprs_from, inits_from, stmts_from}
use Rattle.bounds.specs.Whole.{Reads, read_all, read_one}
use Rattle.bounds.specs.Runs.{places_end, places_more}

-- Each place read by f.
unfoldable pub exprs_of : (ℕ → Expr) → List ℕ → Exprs
exprs_of f [] = Exprs.none
exprs_of f (p ∷ ps) = Exprs.more (f p) (exprs_of f ps)

-- Inits.
unfoldable pub inits_of : (ℕ → Expr) → List ℕ → List ℕ → Inits
inits_of f img [] = Inits.no-init
inits_of f img (p ∷ ps) = Inits.init p (name_in img p) (f (second img p)) (inits_of f img ps)

-- Statements.
unfoldable pub stmts_of : (ℕ → Stmt) → List ℕ → Stmts
stmts_of f [] = Stmts.none
stmts_of f (p ∷ ps) = Stmts.more (f p) (stmts_of f ps)

-- A tree's lists are made of the places that are read, in any image.
pub exprs_places : (k : ℕ) (f : ℕ → Expr) (img : List ℕ) (p e : ℕ) → exprs_from k f img p e ≡ exprs_of f (places_from k img p e)
unfolding exprs_from places_from exprs_of
exprs_places zero f img p e = refl
exprs_places (suc k) f img p e = by (ltb p e) (exprs_places k f img (after img p) e)
  where
    by : (b : Bool) → exprs_from k f img (after img p) e ≡ exprs_of f (places_from k img (after img p) e)
        → when b (λ _. Exprs.more (f p) (exprs_from k f img (after img p) e)) Exprs.none ≡ exprs_of f (when b (λ _. p ∷ places_from k img (after img p) e) [])
    by true h = ap (Exprs.more (f p)) h
    by false h = refl

-- Inits.
pub inits_places : (k : ℕ) (f : ℕ → Expr) (img : List ℕ) (p e : ℕ) → inits_from k f img p e ≡ inits_of f img (places_from k img p e)
unfolding inits_from places_from inits_of
inits_places zero f img p e = refl
inits_places (suc k) f img p e = by (ltb p e) (inits_places k f img (after img p) e)
  where
    by : (b : Bool) → inits_from k f img (after img p) e ≡ inits_of f img (places_from k img (after img p) e)
        → when b (λ _. Inits.init p (name_in img p) (f (second img p)) (inits_from k f img (after img p) e)) Inits.no-init
        ≡ inits_of f img (when b (λ _. p ∷ places_from k img (after img p) e) [])
    by true h = ap (Inits.init p (name_in img p) (f (second img p))) h
    by false h = refl

-- Statements.
pub stmts_places : (k : ℕ) (f : ℕ → Stmt) (img : List ℕ) (p e : ℕ) → stmts_from k f img p e ≡ stmts_of f (places_from k img p e)
unfolding stmts_from places_from stmts_of
stmts_places zero f img p e = refl
stmts_places (suc k) f img p e = by (ltb p e) (stmts_places k f img (after img p) e)
  where
    by : (b : Bool) → stmts_from k f img (after img p) e ≡ stmts_of f (places_from k img (after img p) e)
        → when b (λ _. Stmts.more (f p) (stmts_from k f img (after img p) e)) Stmts.none ≡ stmts_of f (when b (λ _. p ∷ places_from k img (after img p) e) [])
    by true h = ap (Stmts.more (f p)) h
    by false h = refl

-- Where the places are all there are, any bound that is no less than their number reads them and no more.
pub places_all : (img : List ℕ) (n p e : ℕ) (ps : List ℕ) → Reads img e p ps → length ps ≤ n → places_from n img p e ≡ ps
places_all img n p e [] (read_all h) b = places_end n img p e h
places_all img zero p e (q ∷ ps) (read_one h r) b = absurd (omega arith)
places_all img (suc n) p e (q ∷ ps) (read_one h r) b = places_more n img p e h ∙ ap (λ (l : List ℕ). p ∷ l) (places_all img n (after img p) e ps r (omega arith))

-- Each takes a byte or more: the bytes from p to e are such a bound.
pub reads_few : (img : List ℕ) (p e : ℕ) (ps : List ℕ) → e ≤ length img → Reads img e p ps → p + length ps ≤ e
unfolding after
reads_few img p e [] h (read_all b) = omega arith
reads_few img p e (q ∷ ps) h (read_one b r) = omega (arith, reads_few img (after img p) e ps h r)
