-- What is told of the frames of a stream, as their headers are taken one after another.
use Rattle.std.proofs.Common.{◌≡◌, ◌≢◌, ◌⊎◌, ◌∙◌, ℕ, ◌+◌, ◌<◌, List, [], ◌∷◌, ◌++◌, length, get_or, drop, refl, sym, ap, inl, inr, arith}
use Rattle.volume_model.specs.declared.entry.Answer.{Answer}
use Rattle.volume_model.specs.declared.entry.Entry.{Entry}
use Rattle.volume_model.specs.declared.entry.Entry.TheVariants as entry
use Rattle.volume_model.specs.History.{answers_from}
use Rattle.frame_wire.specs.declared.head.Head.{Head}
use Rattle.run_report.proofs.ReportLemmas.{told_of, next_reply, skip_other, skip_past}

module _ (told : Head → Answer → List ℕ) (into whole : List ℕ) (stream place : ℕ) (left more : List Head) (entries : List Entry)
    (a : Answer) (inside : place < length entries) (is : get_or entries place (entry.Answer a) ≡ entry.Answer a) where
  -- the entry answers the first header that is left
  pub next_left : (h : Head) → left ≡ h ∷ more → a.stream ≡ stream
      → into ++ told_of told left (answers_from stream place (drop place entries)) ≡ whole
      → (into ++ told h a) ++ told_of told more (answers_from stream (place + 1) (drop (place + 1) entries)) ≡ whole
  next_left h cut own text =
      next_reply told into whole stream 0 place (h ∷ more) entries h a inside is (omega arith) refl own
      (ap (λ l. into ++ told_of told l (answers_from stream place (drop place entries))) (sym cut) ∙ text)

  -- it answers a call of another stream, or no header is left
  pub skip_left : ((a.stream ≢ stream) × (more ≡ left)) ⊎ ((left ≡ []) × (more ≡ []))
      → into ++ told_of told left (answers_from stream place (drop place entries)) ≡ whole
      → into ++ told_of told more (answers_from stream (place + 1) (drop (place + 1) entries)) ≡ whole
  skip_left (inl (other, same)) text =
      ap (λ l. into ++ told_of told l (answers_from stream (place + 1) (drop (place + 1) entries))) same
      ∙ skip_other told into whole stream 0 place left entries a inside is other text
  skip_left (inr (none, also)) text =
      let behind = answers_from stream (place + 1) (drop (place + 1) entries) in
      ap (λ l. into ++ told_of told l behind) (also ∙ sym none)
      ∙ skip_past told into whole 0 left (answers_from stream place (drop place entries)) behind (omega (arith, ap length none)) text
