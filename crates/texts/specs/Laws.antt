-- How the stages' answers become a text.
--     tells_image, tells_ambiguous, tells_fine, tells_fault      what stands before generation
--     generated_fine, generated_told      generation; what it refuses is told by its number and its place
--     judged_room, generate_room      256 bytes are enough
--     told_generated, told_refused, told_image, told_fault, told_ambiguous      what a stage tells, the program tells
--     short_answer, whole_answer      the whole answer
-- Assumes nothing.
use Rattle.std.proofs.Math.Path.{◌≡◌, refl, ap, subst}
use Rattle.std.proofs.Common.{sym, ◌∙◌, arith, lt-ltb, le-ltb}
use Rattle.std.specs.Prelude.{List, ℕ, ◌≤◌, ◌<◌, length, Ok, Err}
use Rattle.rules.specs.declared.Answer.{Answer}
use Rattle.rules.specs.Seen.{Seen, Sound, Fault}
use Rattle.rules.specs.Bytes.{pick}
use Rattle.rules.specs.Check.{check_of}
use Rattle.rules.specs.Tree.{Contract}
use Rattle.rules.specs.Read.{contract_at}
use Rattle.rules.specs.Refusal.{Refusal, Res, ok, bad, ◌>>=◌, answer, refused, number_of, place_of}
use Rattle.rules.specs.Link.{Program, generate}
use Rattle.rules.specs.Build.{rules, passed, judged, program, analysis_answer}
use Rattle.rules.specs.Texts.{text_of, told_text, told_answer, text_answer, text_bytes}
use Rattle.bounds.specs.Said.{Said, Any, said_of}
use Rattle.bounds.specs.Texts.{Own, generated_as}
use Rattle.bounds.proofs.Texts.{texts_fit, generated_own}
use Rattle.emit.specs.Sinks.{Sinks}
use Rattle.compiler.specs.Stages.{Makes, made, not_made}
use Rattle.sema.specs.declared.front.Refused.{Refused}
use Rattle.sema.specs.declared.front.Refused.TheVariants as is
use Rattle.sema.specs.Entry.{Passed}
use Rattle.sema.specs.Front.{refused_of, Judged, judged_of}
use Rattle.lookup.specs.Answers.{fault_of}
use Rattle.lookup.specs.declared.Fault as code
use Rattle.pieces.specs.Lays.{Lays}
use Rattle.texts.specs.Tells.{Room, Tells}

pub tells_bad : {A : Type 0} (r : Refusal) {a b : Answer} {s t : List ℕ} {k : ℕ} → b ≡ refused r → a ≡ answer b.refusal b.place k → Lays 0 (text_of r) s t k → Tells {A = A} (bad r) s t a
unfolding told_answer told_text number_of place_of
tells_bad r {a} {b} {s} {t} {k} e h l = record {
  answers = let z : k ≡ length (text_of r) = omega (arith, l.past) in h ∙ ap (λ (x : Answer). answer x.refusal x.place k) e ∙ ap (answer (refused r).refusal (refused r).place) z;
  lies = l.laid;
}

-- What stands before generation: rows 1 to 7, 30 and none have no text.
module _ (img : List ℕ) {j : Judged} {s : List ℕ} where
  pub tells_image : {n p : ℕ} {a : Answer} → j ≡ Err (is.Image n p) → a ≡ analysis_answer (judged_of img j) → Tells (judged_of img j) s s a
  unfolding judged_of refused_of analysis_answer told_answer told_text text_of number_of place_of refused
  tells_image {n} {p} h e = rw h (record { answers = rw h at e; lies = refl })

  pub tells_ambiguous : {p : ℕ} {a : Answer} → j ≡ Err (is.Ambiguous p) → a ≡ analysis_answer (judged_of img j) → Tells (judged_of img j) s s a
  unfolding judged_of refused_of analysis_answer told_answer told_text text_of number_of place_of refused
  tells_ambiguous {p} h e = rw h (record { answers = rw h at e; lies = refl })

  pub tells_fine : {a : Answer} → j ≡ Ok tt → a ≡ analysis_answer (judged_of img j) → Tells (judged_of img j) s s a
  unfolding judged_of refused_of analysis_answer told_answer told_text
  tells_fine h e = rw h (record { answers = rw h at e; lies = refl })

  -- Analysis has one.
  pub tells_fault : {f : code.Fault} {t : List ℕ} {a b : Answer} {k : ℕ} → j ≡ Err (is.Analysis f) → a ≡ analysis_answer (judged_of img j) → b ≡ answer a.refusal a.place k → Lays 0 (text_of (fault_of img f)) s t k
      → Tells (judged_of img j) s t b
  unfolding judged_of refused_of analysis_answer
  tells_fault {f} h e g l = rw h (tells_bad (fault_of img f) (rw h at e) g l)

  pub fault_room : {f : code.Fault} → j ≡ Err (is.Analysis f) → Room (judged_of img j) s → length (text_of (fault_of img f)) ≤ length s
  unfolding judged_of refused_of told_text
  fault_room {f} h r = (rw h at r).enough

-- Generation: no refusal, or the one that its number and its place tell.
pub record Told (img : List ℕ) (a : Answer) (m : Res Program) : Type 0 where
  pub is : m ≡ bad (generated_as img a.refusal a.place)
  pub refuses : a ≡ refused (generated_as img a.refusal a.place)

module _ {img : List ℕ} {c c' : Sinks} {F t : List ℕ} {a : Answer} where
  pub generated_fine : {m : Res Program} {s : List ℕ} {b : Answer} → Makes img c a c' F t m → a.refusal ≡ 0 → b ≡ answer a.refusal a.place 0 → Tells m s s b
  unfolding told_answer told_text
  generated_fine (made P h _) z e = record { answers = e ∙ ap (λ (x : Answer). answer x.refusal x.place 0) h.is; lies = refl }
  generated_fine (not_made q h _) z e = absurd (h.numbered z)

  told_own : {m : Res Program} → Makes img c a c' F t m → (a.refusal ≡ 0 → ⊥) → Said (Own img) (Any Program) m → Told img a m
  unfolding number_of place_of
  told_own (made P h _) z o = absurd (z (ap (λ (x : Answer). x.refusal) h.is))
  told_own (not_made q h _) z o =
      let e : q ≡ generated_as img a.refusal a.place = said_of o refl ∙ ap (λ (x : Answer). generated_as img x.refusal x.place) (sym h.is) in
      record { is = ap bad e; refuses = h.is ∙ ap refused e }

  pub generated_told : Passed img → Makes img c a c' F t (generate rules (contract_at img)) → (a.refusal ≡ 0 → ⊥) → Told img a (generate rules (contract_at img))
  unfolding passed
  generated_told e h z = by (check_of img) refl e
    where
      by : (x : Seen) → check_of img ≡ x → passed x ≡ ok tt → Told img a (generate rules (contract_at img))
      by (Sound q m) g e = told_own h z (generated_own rules img q m g)
      by (Fault n p) g e = absurd (let y : ◌≡◌ {A = ℕ} 0 1 = cc in omega arith)

pub told_room : {img s : List ℕ} {a : Answer} {m : Res Program} → Told img a m → Room m s → length (text_of (generated_as img a.refusal a.place)) ≤ length s
unfolding told_text
told_room {img} {s} {a} {m} h r = subst (λ (x : Res Program). length (told_text x) ≤ length s) h.is r.enough

pub tells_told : {img s t : List ℕ} {a b : Answer} {m : Res Program} {k : ℕ} → Told img a m → b ≡ answer a.refusal a.place k → Lays 0 (text_of (generated_as img a.refusal a.place)) s t k → Tells m s t b
tells_told {img} {s} {t} {a} {b} {m} h e l = subst (λ (x : Res Program). Tells x s t b) (sym h.is) (tells_bad _ h.refuses e l)

-- The program of an image, by what stands before generation.
module _ (img : List ℕ) (j : Judged) (e : judged_of img j ≡ judged img) where
  program_fine : j ≡ Ok tt → program rules img ≡ generate rules (contract_at img)
  unfolding program judged_of ◌>>=◌
  program_fine h = rw (sym e, h) refl

  program_bad : (r : Refusal) → judged_of img j ≡ bad r → program rules img ≡ bad r
  unfolding program ◌>>=◌
  program_bad r h = rw (sym e, h) refl

  -- A text has 256 bytes at most.
  pub judged_room : (s : List ℕ) → 256 ≤ length s → Room (judged_of img j) s
  unfolding told_text
  judged_room s h = by (judged_of img j) refl
    where
      by : (m : Res Contract) → judged_of img j ≡ m → Room m s
      by (ok C) g = record { enough = omega (arith, h) }
      by (bad r) g = record { enough = omega (arith, h, said_of (texts_fit rules img) (program_bad r g)) }

  pub generate_room : (s : List ℕ) → j ≡ Ok tt → 256 ≤ length s → Room (generate rules (contract_at img)) s
  unfolding told_text
  generate_room s g h = by (generate rules (contract_at img)) refl
    where
      by : (m : Res Program) → generate rules (contract_at img) ≡ m → Room m s
      by (ok P) z = record { enough = omega (arith, h) }
      by (bad r) z = record { enough = omega (arith, h, said_of (texts_fit rules img) (program_fine g ∙ z)) }

  -- What was told of the stage is told of the program.
  pub told_generated : {s t : List ℕ} {a : Answer} → j ≡ Ok tt → Tells (generate rules (contract_at img)) s t a → Tells (program rules img) s t a
  told_generated {s} {t} {a} h g = subst (λ (m : Res Program). Tells m s t a) (sym (program_fine h)) g

  told_bad : {s t : List ℕ} {a : Answer} (r : Refusal) → judged_of img j ≡ bad r → Tells (judged_of img j) s t a → Tells (program rules img) s t a
  unfolding told_answer told_text
  told_bad {s} {t} {a} r h g =
      let x = subst (λ (m : Res Contract). Tells m s t a) h g in
      subst (λ (m : Res Program). Tells m s t a) (sym (program_bad r h)) (record { answers = x.answers; lies = x.lies })

  pub told_refused : {s t : List ℕ} {a : Answer} {r : Refused} → j ≡ Err r → Tells (judged_of img j) s t a → Tells (program rules img) s t a
  unfolding judged_of
  told_refused {s} {t} {a} {r} h g = told_bad (refused_of img r) (rw h refl) g

  pub told_image : {s t : List ℕ} {a : Answer} {n p : ℕ} → j ≡ Err (is.Image n p) → Tells (judged_of img j) s t a → Tells (program rules img) s t a
  unfolding judged_of refused_of
  told_image {s} {t} {a} {n} {p} h g = told_bad (Refusal.fault n p) (rw h refl) g

  pub told_fault : {s t : List ℕ} {a : Answer} {f : code.Fault} → j ≡ Err (is.Analysis f) → Tells (judged_of img j) s t a → Tells (program rules img) s t a
  unfolding judged_of refused_of
  told_fault {s} {t} {a} {f} h g = told_bad (fault_of img f) (rw h refl) g

  pub told_ambiguous : {s t : List ℕ} {a : Answer} {p : ℕ} → j ≡ Err (is.Ambiguous p) → Tells (judged_of img j) s t a → Tells (program rules img) s t a
  unfolding judged_of refused_of
  told_ambiguous {s} {t} {a} {p} h g = told_bad (Refusal.ambiguous p) (rw h refl) g

-- 02: 52 is tested first
module _ (img s : List ℕ) {a : Answer} where
  pub short_answer : length s < 256 → a ≡ answer 52 0 0 → (a ≡ text_answer img s) × (s ≡ text_bytes img s)
  unfolding text_answer text_bytes pick
  short_answer h e = rw (lt-ltb _ _ h) (e, refl)

  pub whole_answer : {t : List ℕ} → 256 ≤ length s → Tells (program rules img) s t a → (a ≡ text_answer img s) × (t ≡ text_bytes img s)
  unfolding text_answer text_bytes pick
  whole_answer {t} h e = rw (le-ltb _ _ h) (e.answers, e.lies)
