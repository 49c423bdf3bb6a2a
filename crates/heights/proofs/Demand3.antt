-- DEMAND 3, to be held against document 01 (Heights) clause by clause. A path, what a word does to the height, and the law are in
-- Machine of crate `rules`; what a step does, row by row of the document, is in Rows. The opening's three words are no function's.
-- Assumes nothing.
use Rattle.std.specs.Prelude.{◌≡◌, List, map, ℕ, ◌≤◌, length}
use Rattle.std.proofs.Common.{sym, subst, ◌∙◌}
use Rattle.rules.specs.Tree.{Function}
use Rattle.rules.specs.Refusal.{ok}
use Rattle.rules.specs.Read.{contract_at}
use Rattle.rules.specs.Machine.{Word, Entry, At, Heights, read, Demand3}
use Rattle.rules.specs.Emit.{Rules}
use Rattle.rules.specs.Link.{Program}
use Rattle.rules.specs.Build.{program, words_of, build_of, Demand3Of}
use Rattle.bounds.proofs.Programs.{program_bounded}
use Rattle.heights.specs.Law.{Home, goes_on, alike_heights, alike_home}
use Rattle.heights.specs.Placed.{mirrored}
use Rattle.heights.proofs.Theorem.{obeyed}
use Rattle.heights.specs.Slices.{words_in, table_in, Lent}
use Rattle.heights.proofs.Slices.{listed_alike, listed_at, listed_from, lent}
use Rattle.heights.specs.Demand3.{Walked}

-- The law over the numbers of an accepted program, for each entry of its table.
pub demand_3 : (R : Rules) → R.free ≤ 30 → (img : List ℕ) → Demand3Of R img
unfolding Demand3Of Demand3
demand_3 R few img P e k f a = subst (λ (l : List Word). Heights l P.table f) (sym (program_bounded R few img P e).read_back) ((obeyed R img P e).law k f a)

-- Each clause from the law.
walked : (words : List ℕ) (T : List Entry) (f : Entry) → Heights (map read words) T f → Home (map read words) T f → Walked words T f
walked ws T f law home = record {
  one_height = law.one_height;
  enough = law.enough;
  stays = law.stays;
  stops = λ i h p y. goes_on (map read ws) T f law y i h p;
  returns = home;
}

-- Any function of an accepted contract, earlier ones of a repeated name too, has its entry at its own index and is so walked.
pub each_function : (R : Rules) → R.free ≤ 30 → (img : List ℕ) (P : Program) → program R img ≡ ok P → (k : ℕ) (f : Function) → At (contract_at img).functions k f
    → (e : Entry) × At P.table k e × (e.place ≡ f.place) × (e.name ≡ f.name) × (e.params ≡ length f.params) × Walked (words_of P) P.table e
unfolding Demand3Of Demand3
each_function R few img P b k f a =
    let (e, at-e, l, n, m) = mirrored (contract_at img).functions P.table (obeyed R img P b).mirrors k f a in
    let home : Home (map read (words_of P)) P.table e = subst (λ (ws : List Word). Home ws P.table e) (sym (program_bounded R few img P b).read_back) ((obeyed R img P b).home k e at-e) in
    (e, at-e, l, n, m, walked (words_of P) P.table e (demand_3 R few img P b k e at-e) home)

-- And over what the caller holds: of a build that answers 0, the numbers that stand in the code slice and the entries that stand in
-- the table obey the law.
pub demand_3_lent : (R : Rules) → R.free ≤ 30 → (img code table : List ℕ) → (build_of R img code table).refusal ≡ 0 → Demand3 (words_in R img code table) (table_in R img code table)
unfolding Demand3 Demand3Of
demand_3_lent R few img code table z k d a = from (lent R img code table z)
  where
    from : Lent R img code table → Heights (map read (words_in R img code table)) (table_in R img code table) d
    from l =
        let (e, at-e, like) = listed_from l.P.table (table_in R img code table) l.entries k d a in
        subst (λ (ws : List ℕ). Heights (map read ws) (table_in R img code table) d) (sym l.words)
        (alike_heights (map read (words_of l.P)) l.P.table (table_in R img code table) (listed_alike l.P.table (table_in R img code table) l.entries) e d like (demand_3 R few img l.P l.is k e at-e))

-- And each function of the contract has its entry there, at its own index, and is so walked.
pub each_lent : (R : Rules) → R.free ≤ 30 → (img code table : List ℕ) → (build_of R img code table).refusal ≡ 0 → (k : ℕ) (f : Function) → At (contract_at img).functions k f
    → (e : Entry) × At (table_in R img code table) k e × (e.place ≡ f.place) × (e.params ≡ length f.params) × Walked (words_in R img code table) (table_in R img code table) e
unfolding Demand3
each_lent R few img code table z k f a = from (lent R img code table z)
  where
    T : List Entry
    T = table_in R img code table

    from : Lent R img code table → (e : Entry) × At T k e × (e.place ≡ f.place) × (e.params ≡ length f.params) × Walked (words_in R img code table) T e
    from l =
        let (e, at-e, q, n, m, w) = each_function R few img l.P l.is k f a in
        let (d, at-d, r, like) = listed_at l.P.table T l.entries k e at-e in
        let home : Home (map read (words_of l.P)) T d = alike_home (map read (words_of l.P)) l.P.table T (listed_alike l.P.table T l.entries) e d like w.returns in (
          d,
          at-d,
          r ∙ q,
          sym like.1 ∙ m,
          walked (words_in R img code table) T d (demand_3_lent R few img code table z k d at-d) (subst (λ (ws : List ℕ). Home (map read ws) T d) (sym l.words) home),
        )
