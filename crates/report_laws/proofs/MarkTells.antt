-- The text of a mark with the end of its line behind it tells the mark.
use Rattle.std.proofs.Common.{◌≡◌, ℕ, List, [], ◌∷◌, ◌++◌, drop, ap, sym, ◌∙◌, append_assoc, arith}
use Rattle.std.specs.Fmt.{decimal}
use Rattle.volume_model.specs.declared.mark.FoldOrDrop.TheVariants.{Fold, Drop}
use Rattle.volume_model.specs.declared.mark.Mark.{Mark}
use Rattle.volume_model.specs.declared.mark.Mark.TheVariants.{Purged, Fault, Failed, Added, Promoted, Aborted}
use Rattle.run_report.specs.Lines.{mark_text}
use Rattle.report_laws.specs.Fits.{MarkFits}
use Rattle.report_laws.proofs.Words.{space, line_end, three}
use Rattle.report_laws.proofs.Fields.{AreOne, one_by, two_by}
use Rattle.report_laws.proofs.Fields as field

-- two words and what stands behind them
parted : (u v w xs : List ℕ) → (((u ++ 32 ∷ []) ++ 114 ∷ (v ++ 32 ∷ [])) ++ w) ++ xs ≡ u ++ 32 ∷ 114 ∷ (v ++ 32 ∷ (w ++ xs))
parted u v w xs =
    append_assoc ((u ++ 32 ∷ []) ++ 114 ∷ (v ++ 32 ∷ [])) w xs ∙ append_assoc (u ++ 32 ∷ []) (114 ∷ (v ++ 32 ∷ [])) (w ++ xs)
    ∙ append_assoc u (32 ∷ []) (114 ∷ ((v ++ 32 ∷ []) ++ (w ++ xs)))
    ∙ ap (λ l. u ++ 32 ∷ 114 ∷ l) (append_assoc v (32 ∷ []) (w ++ xs))

pub same_mark : (m n : Mark) (xs ys : List ℕ) → MarkFits m → MarkFits n
    → mark_text m ++ 10 ∷ xs ≡ mark_text n ++ 10 ∷ ys → AreOne m n xs ys
same_mark (Purged (Fold m c)) (Purged (Fold n d)) xs ys p q e =
    two_by (λ l k. Purged (Fold l k)) (field.name 32 space _ _ m n p.0 q.0 (simp append_assoc at (ap (drop 7) e)))
    (λ rest. field.name 10 line_end xs ys c d p.1 q.1 rest)
same_mark (Purged (Drop m)) (Purged (Drop n)) xs ys p q e =
    one_by (λ l. Purged (Drop l)) (field.name 10 line_end xs ys m n p q (ap (drop 8) e))
same_mark (Fault s m c) (Fault t n d) xs ys p q e =
    two_by (λ l (more : ℕ × ℕ). Fault l more.0 more.1) (field.number 32 space _ _ s t p.0 q.0 (simp append_assoc at (ap (drop 6) e)))
    (λ rest. two_by (λ r k. (r, k)) (field.number 32 space _ _ m n p.1 q.1 (ap (drop 1) rest))
    (λ rest. field.number 10 line_end xs ys c d p.2 q.2 rest))
same_mark (Failed m) (Failed n) xs ys p q e = one_by Failed (field.number 10 line_end xs ys m n p q (ap (drop 8) e))
same_mark (Added m s c) (Added n t d) xs ys p q e =
    let text = sym (parted (decimal m) (decimal s) c (10 ∷ xs)) ∙ ap (drop 7) e ∙ parted (decimal n) (decimal t) d (10 ∷ ys) in
    two_by (λ r (more : ℕ × List ℕ). Added r more.0 more.1) (field.number 32 space _ _ m n p.0 q.0 text)
    (λ rest. two_by (λ k l. (k, l)) (field.number 32 space _ _ s t p.1 q.1 (ap (drop 1) rest))
    (λ rest. field.name 10 line_end xs ys c d p.2 q.2 rest))
same_mark (Promoted m) (Promoted n) xs ys p q e = one_by Promoted (field.number 10 line_end xs ys m n p q (ap (drop 10) e))
same_mark (Aborted m) (Aborted n) xs ys p q e = one_by Aborted (field.number 10 line_end xs ys m n p q (ap (drop 9) e))
same_mark (Fault s m c) (Purged (Drop n)) xs ys p q e = absurd (omega (arith, ap three e))
same_mark (Failed m) (Purged (Drop n)) xs ys p q e = absurd (omega (arith, ap three e))
same_mark (Added m s c) (Purged (Drop n)) xs ys p q e = absurd (omega (arith, ap three e))
same_mark (Promoted m) (Purged (Drop n)) xs ys p q e = absurd (omega (arith, ap three e))
same_mark (Aborted m) (Purged (Drop n)) xs ys p q e = absurd (omega (arith, ap three e))
same_mark m n xs ys p q e = absurd (omega (arith, ap three e))
